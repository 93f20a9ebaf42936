use Rattle.std.proofs.Common.{ℕ, List, take, drop, ◌<◌, ◌-◌, ◌∙◌, ap, sym, arith}
use Rattle.std.proofs.lemmas.List.{map-id}
use Rattle.vt_syntax.specs.Class.{IsPlain}
use Rattle.vt_term.specs.Runs.{with_run}
use Rattle.vt_term.proofs.Runs.{line-of-run}
use Rattle.vt_term.proofs.writing.Display.write_lines.Goals as goal

pub loop-at-preserved : goal.loop-at-preserved
loop-at-preserved c =
    let line : List ℕ = take (c.min-end.result - c.loop-at.at) (drop c.loop-at.at c.args.run.now) in
    let more : c.loop-at.at < c.min-end.result = omega (arith, c.min-end.ensures, c.room.ensures.some) in
    let done = line-of-run c.runs.ensures IsPlain (λ b. b) c.args.run.now c.loop-at.at c.min-end.result c.args.self.now
    c.loop-at.self c.carry_out_wrap.new.self c.put_run.new.self c.requires.plain more (omega (arith, c.min-end.ensures))
    c.loop-at.invariant.written c.loop-at.invariant.writes c.carry_out_wrap.ensures
    (omega (arith, c.min-end.ensures, c.room.ensures.room))
    (c.put_run.ensures ∙ ap (λ (glyphs : List ℕ). with_run glyphs c.carry_out_wrap.new.self) (sym (map-id line))) in
    record { within = omega (arith, c.min-end.ensures); written = done.0; writes = done.1 }
