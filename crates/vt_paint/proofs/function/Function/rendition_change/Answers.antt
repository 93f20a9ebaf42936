use Rattle.std.proofs.Common.{◌≡◌, ◌∙◌, ◌||◌, ◌+◌, ◌-◌, List, [], ℕ, Bool, sym, ap, arith, take, drop, true, false}
use Rattle.std.proofs.lemmas.List.{drop-take}
use Rattle.vt_paint.specs.Spoken.{are_attributes}
use Rattle.vt_paint.specs.Named.{newly_set}
use Rattle.vt_paint.specs.Private.Attributes.{attributes}
use Rattle.vt_paint.proofs.Spelled.{attributes_behind, text_after_reset, text_alone, change_is}
use Rattle.vt_paint.proofs.function.Function.rendition_change.Goals as goal

pub sequence-requires-2-clause-spoken : goal.sequence-requires-2-clause-spoken
sequence-requires-2-clause-spoken c =
    let text = c.put_attributes-at.new.text in
    let at = c.put_attributes-at.result in
    let whole : 1 + (at - 1) ≡ at = omega arith in
    let behind : take (at - 1) (drop 1 text) ≡ drop 1 (take at text) =
    sym (drop-take 1 (at - 1) text) ∙ ap (λ n. drop 1 (take n text)) whole in
    ap (λ (xs : List ℕ). are_attributes xs || false)
    (behind ∙ ap (λ (xs : List ℕ). drop 1 xs) c.put_attributes-at.ensures.items)
    ∙ ap (λ t. t || false) (attributes_behind _)

pub returns-then-reset : goal.returns-then-reset
returns-then-reset c =
    let r = c.newly_set.result in
    let reset = c.if-reset.true in
    change_is true r c.args.old c.args.new _ _ (sym reset ∙ c.resets-reset.ensures)
    (c.newly_set.ensures ∙ ap (λ (v : Bool). newly_set v c.args.old c.args.new) reset)
    (c.put_attributes-at.ensures.items ∙ text_after_reset r) c.sequence.ensures

pub returns-then-at-eq0 : goal.returns-then-at-eq0
returns-then-at-eq0 c =
    let r = c.newly_set.result in
    let reset = c.if-reset.false in
    let text = c.put_attributes-at.new.text in
    let none : c.put_attributes-at.result ≡ 0 = omega arith in
    let empty : [] ≡ attributes r = ap (λ n. take n text) (sym none) ∙ c.put_attributes-at.ensures.items in
    change_is false r c.args.old c.args.new [] _ (sym reset ∙ c.resets-reset.ensures)
    (c.newly_set.ensures ∙ ap (λ (v : Bool). newly_set v c.args.old c.args.new) reset)
    (ap (λ (xs : List ℕ). drop 1 xs) empty ∙ text_alone r) c.sequence-then-at-eq0.ensures

pub returns : goal.returns
returns c =
    let r = c.newly_set.result in
    let reset = c.if-reset.false in
    let text = c.put_attributes-at.new.text in
    let at = c.put_attributes-at.result in
    let whole : 1 + (at - 1) ≡ at = omega arith in
    let behind : take (at - 1) (drop 1 text) ≡ drop 1 (take at text) =
    sym (drop-take 1 (at - 1) text) ∙ ap (λ n. drop 1 (take n text)) whole in
    change_is false r c.args.old c.args.new _ _ (sym reset ∙ c.resets-reset.ensures)
    (c.newly_set.ensures ∙ ap (λ (v : Bool). newly_set v c.args.old c.args.new) reset)
    (behind ∙ ap (λ (xs : List ℕ). drop 1 xs) c.put_attributes-at.ensures.items ∙ text_alone r)
    c.sequence-2.ensures
