use Rattle.std.proofs.Common.{◌≡◌, ◌∙◌, ◌∷◌, ◌++◌, List, ℕ, [], sym, ap, rules}
use Rattle.vt_utf8.specs.Decoding.{Read}
use Rattle.vt_utf8.proofs.Firsts.{first-ascii, first-apart, first-begun}
use Rattle.vt_utf8.proofs.decoder.Decoder.push_first.Goals as goal

pub returns-then-b-lt128-clause-characters : goal.returns-then-b-lt128-clause-characters
returns-then-b-lt128-clause-characters c =
    sym (ap (λ (r : Read). r.characters) (first-ascii c.args.b c.if-b-lt128.true))

pub returns-then-b-lt128-clause-pending : goal.returns-then-b-lt128-clause-pending
returns-then-b-lt128-clause-pending c =
    c.requires ∙ sym (ap (λ (r : Read). r.pending) (first-ascii c.args.b c.if-b-lt128.true))

pub returns-then-not-begins_beyond-clause-characters : goal.returns-then-not-begins_beyond-clause-characters
returns-then-not-begins_beyond-clause-characters c =
    sym (ap (λ (r : Read). r.characters) (first-apart c.args.b c.if-b-lt128.false c.if-not-begins_beyond.ensures.apart))

pub returns-then-not-begins_beyond-clause-pending : goal.returns-then-not-begins_beyond-clause-pending
returns-then-not-begins_beyond-clause-pending c =
    c.requires ∙ sym (ap (λ (r : Read). r.pending) (first-apart c.args.b c.if-b-lt128.false c.if-not-begins_beyond.ensures.apart))

pub returns-clause-characters : goal.returns-clause-characters
returns-clause-characters c =
    sym (ap (λ (r : Read). r.characters) (first-begun c.args.b c.if-not-begins_beyond.ensures.first.0 c.if-not-begins_beyond.ensures.first.1))

pub returns-clause-pending : goal.returns-clause-pending
returns-clause-pending c =
    let all : c.push.new.self.items ≡ c.args.self.now ++ c.args.b ∷ [] = search rules in
    all ∙ ap (λ (xs : List ℕ). xs ++ c.args.b ∷ []) c.requires
    ∙ sym (ap (λ (r : Read). r.pending) (first-begun c.args.b c.if-not-begins_beyond.ensures.first.0 c.if-not-begins_beyond.ensures.first.1))
