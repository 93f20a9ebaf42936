use Rattle.std.proofs.Common.{◌≡◌, List, ℕ, take, subst, arith}
use Rattle.std.specs.Prelude.{All}
use Rattle.std.proofs.lemmas.List.{take_all}
use Rattle.std.proofs.lemmas.List.Elements.{All-more}
use Rattle.vt_trace.specs.Runs.{IsShown}
use Rattle.vt_trace.proofs.items.are_shown.Goals as goal

pub loop-b-preserved : goal.loop-b-preserved
loop-b-preserved c =
    All-more IsShown c.args.bytes.now c.loop-b.b-index 0 (omega arith) c.loop-b.invariant c.if-not-is_shown.ensures

pub returns : goal.returns
returns c =
    let all : take c.loop-b.b-index c.args.bytes.now ≡ c.args.bytes.now = take_all c.loop-b.b-index c.args.bytes.now (omega arith) in
    subst (λ (xs : List ℕ). All IsShown xs) all c.loop-b.invariant
