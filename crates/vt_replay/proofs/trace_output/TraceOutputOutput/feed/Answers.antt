use Rattle.std.proofs.Common.{◌≡◌, ◌∙◌, ◌≤◌, ◌<◌, ◌++◌, [], ℕ, List, length, take, ap, sym, arith}
use Rattle.std.proofs.lemmas.List.{length-take}
use Rattle.vt_replay.specs.Log.{lines_on}
use Rattle.vt_replay.specs.Resizes.{due, coming}
use Rattle.vt_replay.specs.Traces.{traced}
use Rattle.vt_replay.proofs.Resizing.{fed_kept}
use Rattle.vt_replay.proofs.LogResizing.{none_left, front_is, front_takes, front_less, one_before}
use Rattle.vt_replay.proofs.TraceResizing.{kept_with, begun_with, all_written, all_more, some_bytes, some_front, trace_after}
use Rattle.vt_replay.proofs.trace_output.TraceOutputOutput.feed.Goals as goal

pub settle_trace-requires : goal.settle_trace-requires
settle_trace-requires g c = λ comes.
    omega (arith, c.args.self.now.fits, ap (λ (l : List ℕ). length l) c.requires.empty, c.args.out.now.ok, c.requires.room)

pub feed_trace-taken-requires-clause-some : goal.feed_trace-taken-requires-clause-some
feed_trace-taken-requires-clause-some g c =
    let front = c.front_for.ensures.some c.requires.some (omega (arith, c.requires.takes, c.clear.ensures.capacity)) in
    let count = c.front_before-count.ensures.some front in
    omega (arith, c.requires.some, count, length-take c.front_before-count.result c.args.chunk.now)

pub feed_trace-taken-requires-clause-place : goal.feed_trace-taken-requires-clause-place
feed_trace-taken-requires-clause-place g c =
    omega (arith, c.requires.counts, c.settle_trace.ensures.place, c.front_before-count.ensures.within, c.front_for.ensures.within, length-take c.front_before-count.result c.args.chunk.now)

pub feed_trace-taken-requires-clause-room : goal.feed_trace-taken-requires-clause-room
feed_trace-taken-requires-clause-room g c =
    omega (arith, c.args.self.now.fits, c.settle_trace.ensures.bounded, c.settle_trace.ensures.capacity, ap (λ (l : List ℕ). length l) c.requires.empty, c.args.out.now.ok, c.requires.room)

pub settle_trace-requires-2 : goal.settle_trace-requires-2
settle_trace-requires-2 g c = λ comes.
    let fed = c.feed_trace-taken.ensures in
    let short : c.feed_trace-taken.result ≤ c.front_before-count.result =
    omega (arith, fed.within, length-take c.front_before-count.result c.args.chunk.now) in
    let one =
    one_before c.settle_trace.new.later.items c.settle_trace.new.left _ c.feed_trace-taken.result _ c.front_before-count.ensures.one short
    c.saturating_sub-self.ensures comes in
    omega (
      arith,
      one,
      short,
      fed.bounded,
      fed.capacity,
      c.settle_trace.ensures.bounded,
      c.settle_trace.ensures.capacity,
      c.args.self.now.fits,
      ap (λ (l : List ℕ). length l) c.requires.empty,
      c.args.out.now.ok,
      c.requires.room,
    )

pub returns-clause-written : goal.returns-clause-written
returns-clause-written g c =
    let first = c.settle_trace in
    let fed = c.feed_trace-taken.ensures in
    let n = c.feed_trace-taken.result in
    let count = c.front_before-count.result in
    let some = some_front n (take count c.args.chunk.now) fed.some fed.within in
    rw (← front_is n count c.args.chunk.now fed.within)
    (all_written c.args.self.now.later.items first.new.later.items _ (λ l. l.after) (λ l. g.P.Player.screen l.target) (traced g.P.Player.session) _ _ _ _
    (take n (take count c.args.chunk.now)) _ _ _ c.args.self.now.left first.new.left _
    (λ bytes. begun_with c.args.out.now.items first.new.out.items
    (lines_on (traced g.P.Player.session) (record { kept = g.P.Player.kept c.args.self.now.player; tracer = c.args.self.now.tracer })
    (due c.args.self.now.left (coming c.args.self.now.later.items (λ l. l.after) (λ l. g.P.Player.screen l.target))) bytes)
    (lines_on (traced g.P.Player.session) (record { kept = g.P.Player.kept first.new.player; tracer = first.new.tracer })
    (due first.new.left (coming first.new.later.items (λ l. l.after) (λ l. g.P.Player.screen l.target))) bytes)
    c.requires.empty (first.ensures.lines bytes)) fed.lines_on
    (λ more. kept_with _ _ _ _ (fed.after more) (fed.tracer_on more))
    (front_takes first.new.later.items n count first.new.left c.args.chunk.now fed.within
    (c.front_before-count.ensures.before first.ensures.settled))
    _ (front_less n count first.new.left _ c.args.chunk.now fed.within c.saturating_sub-self.ensures)
    fed.lines c.settle_trace-2.ensures.lines c.settle_trace-2.ensures.settled (c.no_trace.ensures.none c.settle_trace-2.new.tracer)
    ∙ sym (some_bytes (take n (take count c.args.chunk.now)) _ [] some))

pub returns-clause-after : goal.returns-clause-after
returns-clause-after g c =
    let first = c.settle_trace in
    let fed = c.feed_trace-taken.ensures in
    let n = c.feed_trace-taken.result in
    let count = c.front_before-count.result in
    let some = some_front n (take count c.args.chunk.now) fed.some fed.within in
    let takes =
    front_takes first.new.later.items n count first.new.left c.args.chunk.now fed.within
    (c.front_before-count.ensures.before first.ensures.settled) in
    let less = front_less n count first.new.left _ c.args.chunk.now fed.within c.saturating_sub-self.ensures in
    rw (← front_is n count c.args.chunk.now fed.within)
    (trace_after g.P.Player.session _ _ _ _ (take n (take count c.args.chunk.now)) some
    (λ more. all_more c.args.self.now.later.items first.new.later.items _ (λ l. l.after) (λ l. g.P.Player.screen l.target) (traced g.P.Player.session) _ _ _ _
    (take n (take count c.args.chunk.now)) _ _ _ c.args.self.now.left first.new.left _
    (λ bytes. begun_with c.args.out.now.items first.new.out.items
    (lines_on (traced g.P.Player.session) (record { kept = g.P.Player.kept c.args.self.now.player; tracer = c.args.self.now.tracer })
    (due c.args.self.now.left (coming c.args.self.now.later.items (λ l. l.after) (λ l. g.P.Player.screen l.target))) bytes)
    (lines_on (traced g.P.Player.session) (record { kept = g.P.Player.kept first.new.player; tracer = first.new.tracer })
    (due first.new.left (coming first.new.later.items (λ l. l.after) (λ l. g.P.Player.screen l.target))) bytes)
    c.requires.empty (first.ensures.lines bytes)) fed.lines_on
    (λ more. kept_with _ _ _ _ (fed.after more) (fed.tracer_on more)) takes _ less
    fed.lines c.settle_trace-2.ensures.lines c.settle_trace-2.ensures.settled (c.no_trace.ensures.none c.settle_trace-2.new.tracer) more)
    (λ more. first.ensures.kept (take n (take count c.args.chunk.now) ++ more)
    ∙ fed_kept first.new.later.items _ (λ l. l.after) (λ l. g.P.Player.screen l.target) (traced g.P.Player.session) _ _ _
    (take n (take count c.args.chunk.now)) first.new.left _ (λ more. kept_with _ _ _ _ (fed.after more) (fed.tracer_on more)) takes _ less
    c.settle_trace-2.ensures.kept more)
    (none_left c.settle_trace-2.new.later.items (λ l. l.after) (λ l. g.P.Player.screen l.target) (traced g.P.Player.session) _ c.settle_trace-2.new.left
    c.settle_trace-2.ensures.settled (c.no_trace.ensures.none c.settle_trace-2.new.tracer)))

pub returns-clause-counted : goal.returns-clause-counted
returns-clause-counted g c =
    omega (arith, c.settle_trace.ensures.place, c.feed_trace-taken.ensures.place, c.settle_trace-2.ensures.place)

pub invariant_of-self-clause-fits : goal.invariant_of-self-clause-fits
invariant_of-self-clause-fits g c =
    omega (arith, c.args.self.now.fits, c.settle_trace.ensures.fewer, c.settle_trace-2.ensures.fewer)
