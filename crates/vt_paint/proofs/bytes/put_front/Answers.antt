use Rattle.std.proofs.Common.{◌≡◌, ◌+◌, ◌<◌, ◌++◌, ◌∷◌, [], List, ℕ, length, length-set, take, set, get_or, sym, ap, ◌∙◌, arith}
use Rattle.std.proofs.Common.{append_assoc}
use Rattle.std.proofs.lemmas.List.{length-take, take_more, take_more_set, take-set-le}
use Rattle.vt_paint.proofs.Spelled.{front_of}
use Rattle.vt_paint.proofs.bytes.put_front.Goals as goal

pub loop-i-preserved : goal.loop-i-preserved
loop-i-preserved g c =
    let i = c.loop-i.i in
    let at = c.args.at + i in
    let all = c.loop-i.all in
    let part = c.args.part.now in
    let byte = get_or part i 0 in
    let before = c.loop-i.invariant in
    let next : c.args.at + (i + 1) ≡ at + 1 = omega arith in
    let low : i < length part = omega (arith, c.loop-i-test.true) in
    record {
      items = ap (λ n. take n (set all at byte)) next ∙ take_more_set all at byte (omega arith)
          ∙ ap (λ (xs : List ℕ). xs ++ byte ∷ []) before.items
          ∙ append_assoc (take c.args.at c.args.all.now) (take i part) (byte ∷ [])
          ∙ ap (λ (xs : List ℕ). take c.args.at c.args.all.now ++ xs) (sym (take_more part i 0 low));
      kept = λ n h. take-set-le n all at byte (omega arith) ∙ before.kept n h;
      long = length-set all at byte ∙ before.long;
    }

pub returns-clause-items : goal.returns-clause-items
returns-clause-items g c =
    let front : length (take c.args.at c.args.all.now) ≡ c.args.at = rw length-take (omega arith) in
    front_of c.loop-i.all (take c.args.at c.args.all.now) c.args.part.now c.args.at c.args.len c.loop-i.i front
    (omega arith) c.loop-i.invariant.items
