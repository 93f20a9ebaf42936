use Rattle.std.proofs.Common.{◌≡◌, ℕ, List, ◌++◌, ◌∷◌, [], true, false, None, Some, sym, ap, ◌∙◌, rules}
use Rattle.std.specs.Option.{option_to_list}
use Rattle.bstr.specs.Utf8.{decoded}
use Rattle.vt_utf8.specs.Decoding.{Read, is_begun}
use Rattle.vt_utf8.proofs.Reading.{begun-few, when-begun, when-whole, when-other}
use Rattle.vt_utf8.proofs.decoder.Decoder.push_after.Goals as goal

pub invariant_of-self : goal.invariant_of-self
invariant_of-self c =
    begun-few c.push.new.self.items
    (ap is_begun (sym c.as_slice-2.ensures.value) ∙ sym c.is_begun.ensures ∙ c.if-is_begun.true)

pub returns-then-is_begun-clause-characters : goal.returns-then-is_begun-clause-characters
returns-then-is_begun-clause-characters c =
    let all : c.push.new.self.items ≡ c.args.self.now ++ c.args.b ∷ [] = search rules in
    let begun : is_begun c.push.new.self.items ≡ true =
    ap is_begun (sym c.as_slice-2.ensures.value) ∙ sym c.is_begun.ensures ∙ c.if-is_begun.true in
    sym (ap (λ (r : Read). r.characters) (when-begun c.args.self.now c.args.b c.push.new.self.items all begun))

pub returns-then-is_begun-clause-pending : goal.returns-then-is_begun-clause-pending
returns-then-is_begun-clause-pending c =
    let all : c.push.new.self.items ≡ c.args.self.now ++ c.args.b ∷ [] = search rules in
    let begun : is_begun c.push.new.self.items ≡ true =
    ap is_begun (sym c.as_slice-2.ensures.value) ∙ sym c.is_begun.ensures ∙ c.if-is_begun.true in
    all ∙ sym (ap (λ (r : Read). r.pending) (when-begun c.args.self.now c.args.b c.push.new.self.items all begun))

pub returns-in-Some-clause-characters : goal.returns-in-Some-clause-characters
returns-in-Some-clause-characters c =
    let all : c.push.new.self.items ≡ c.args.self.now ++ c.args.b ∷ [] = search rules in
    let begun : is_begun c.push.new.self.items ≡ false =
    ap is_begun (sym c.as_slice-2.ensures.value) ∙ sym c.is_begun.ensures ∙ c.if-is_begun.false in
    let found : (decoded c.push.new.self.items).char ≡ Some c.in-Some.c =
    ap (λ (xs : List ℕ). (decoded xs).char) (sym c.as_slice.ensures.value) ∙ sym c.decode-found.ensures.char
    ∙ c.in-Some.is in
    sym (ap (λ (r : Read). r.characters)
    (when-whole c.args.self.now c.args.b c.push.new.self.items all c.in-Some.c begun found))

pub returns-in-Some-clause-pending : goal.returns-in-Some-clause-pending
returns-in-Some-clause-pending c =
    let all : c.push.new.self.items ≡ c.args.self.now ++ c.args.b ∷ [] = search rules in
    let begun : is_begun c.push.new.self.items ≡ false =
    ap is_begun (sym c.as_slice-2.ensures.value) ∙ sym c.is_begun.ensures ∙ c.if-is_begun.false in
    let found : (decoded c.push.new.self.items).char ≡ Some c.in-Some.c =
    ap (λ (xs : List ℕ). (decoded xs).char) (sym c.as_slice.ensures.value) ∙ sym c.decode-found.ensures.char
    ∙ c.in-Some.is in
    c.clear.ensures ∙ sym (ap (λ (r : Read). r.pending)
    (when-whole c.args.self.now c.args.b c.push.new.self.items all c.in-Some.c begun found))

pub returns-in-None-clause-characters : goal.returns-in-None-clause-characters
returns-in-None-clause-characters c =
    let all : c.push.new.self.items ≡ c.args.self.now ++ c.args.b ∷ [] = search rules in
    let begun : is_begun c.push.new.self.items ≡ false =
    ap is_begun (sym c.as_slice-2.ensures.value) ∙ sym c.is_begun.ensures ∙ c.if-is_begun.false in
    let none : (decoded c.push.new.self.items).char ≡ None =
    ap (λ (xs : List ℕ). (decoded xs).char) (sym c.as_slice.ensures.value) ∙ sym c.decode-found.ensures.char
    ∙ c.in-None.is in
    (when-other c.args.self.now c.args.b c.push.new.self.items all begun none).told
    (option_to_list c.given_up-lost.result) (option_to_list c.push_first.result) c.given_up-lost.ensures.value
    c.push_first.ensures.characters

pub returns-in-None-clause-pending : goal.returns-in-None-clause-pending
returns-in-None-clause-pending c =
    let all : c.push.new.self.items ≡ c.args.self.now ++ c.args.b ∷ [] = search rules in
    let begun : is_begun c.push.new.self.items ≡ false =
    ap is_begun (sym c.as_slice-2.ensures.value) ∙ sym c.is_begun.ensures ∙ c.if-is_begun.false in
    let none : (decoded c.push.new.self.items).char ≡ None =
    ap (λ (xs : List ℕ). (decoded xs).char) (sym c.as_slice.ensures.value) ∙ sym c.decode-found.ensures.char
    ∙ c.in-None.is in
    (when-other c.args.self.now c.args.b c.push.new.self.items all begun none).left c.push_first.new.self
    c.push_first.ensures.pending
