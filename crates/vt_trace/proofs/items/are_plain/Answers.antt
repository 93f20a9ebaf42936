use Rattle.std.proofs.Common.{◌≡◌, List, ℕ, take, subst, arith}
use Rattle.std.specs.Prelude.{All}
use Rattle.std.proofs.lemmas.List.{take_all}
use Rattle.std.proofs.lemmas.List.Elements.{All-more}
use Rattle.vt_syntax.specs.Class.{IsPlain}
use Rattle.vt_trace.proofs.items.are_plain.Goals as goal

pub loop-b-preserved : goal.loop-b-preserved
loop-b-preserved c =
    All-more IsPlain c.args.bytes.now c.loop-b.b-index 0 (omega arith) c.loop-b.invariant (omega arith, omega arith)

pub returns : goal.returns
returns c =
    let all : take c.loop-b.b-index c.args.bytes.now ≡ c.args.bytes.now = take_all c.loop-b.b-index c.args.bytes.now (omega arith) in
    subst (λ (xs : List ℕ). All IsPlain xs) all c.loop-b.invariant
