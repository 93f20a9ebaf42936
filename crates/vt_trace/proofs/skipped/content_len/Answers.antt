use Rattle.std.proofs.Common.{rules, ◌≡◌, true, arith}
use Rattle.std.proofs.lemmas.List.Elements.{All-more}
use Rattle.vt_syntax.specs.Content.{goes_on}
use Rattle.vt_trace.proofs.skipped.content_len.Goals as goal

pub loop-at-preserved : goal.loop-at-preserved
loop-at-preserved c = record {
  within = omega arith;
  content = All-more (λ b. goes_on b ≡ true) c.args.bytes.now c.loop-at.at 0 (omega arith) c.loop-at.invariant.content (search rules);
}
