use Rattle.std.proofs.Common.{◌≡◌, ◌∙◌, ◌++◌, [], ℕ, List, ap, sym, arith, length}
use Rattle.vt_replay.specs.Resizes.{due, coming}
use Rattle.vt_replay.specs.Traces.{traced}
use Rattle.vt_replay.proofs.Resizing.{settled_kept}
use Rattle.vt_replay.proofs.LogResizing.{none_left}
use Rattle.vt_replay.proofs.TraceResizing.{kept_with, ended}
use Rattle.vt_replay.proofs.trace_output.TraceOutputOutput.end.Goals as goal

pub settle_trace-requires : goal.settle_trace-requires
settle_trace-requires g c = λ comes.
    omega (arith, c.args.self.now.fits, ap (λ (l : List ℕ). length l) c.requires.empty, c.args.out.now.ok, c.requires.room)

pub trace_end-requires : goal.trace_end-requires
trace_end-requires g c =
    omega (arith, c.args.self.now.fits, c.settle_trace.ensures.bounded, c.settle_trace.ensures.capacity, ap (λ (l : List ℕ). length l) c.requires.empty, c.args.out.now.ok, c.requires.room)

pub returns : goal.returns
returns g c =
    let settled = c.settle_trace.ensures in
    let later = c.settle_trace.new.later.items in
    let left = c.settle_trace.new.left in
    let kept = settled_kept later (λ l. l.after) (λ l. g.P.Player.screen l.target) (traced g.P.Player.session) _ left settled.settled
    ∙ kept_with _ _ _ _ c.sized.ensures.kept (c.no_trace.ensures.stays c.settle_trace.new.tracer) in
    let none = none_left later (λ l. l.after) (λ l. g.P.Player.screen l.target) (traced g.P.Player.session) _ left settled.settled
    (c.no_trace.ensures.none c.settle_trace.new.tracer) in
    c.trace_end.ensures.items
    ∙ sym (ended g.P.Player.session (record { kept = g.P.Player.kept c.args.self.now.player; tracer = c.args.self.now.tracer })
    (record { kept = g.P.Player.kept c.settle_trace.new.player; tracer = c.settle_trace.new.tracer })
    (due c.args.self.now.left (coming c.args.self.now.later.items (λ l. l.after) (λ l. g.P.Player.screen l.target)))
    (due left (coming later (λ l. l.after) (λ l. g.P.Player.screen l.target))) c.args.out.now.items c.settle_trace.new.out.items
    c.requires.empty (settled.lines []) none (settled.kept []) kept)

pub invariant_of-self-clause-fits : goal.invariant_of-self-clause-fits
invariant_of-self-clause-fits g c = omega (arith, c.args.self.now.fits, c.settle_trace.ensures.fewer)
