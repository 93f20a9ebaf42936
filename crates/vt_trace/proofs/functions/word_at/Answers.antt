-- The table of the code has the names at their indexes.
use Rattle.std.proofs.Common.{◌≤◌, ℕ, List, [], length, get_or, refl, sym, ap, subst, ◌∙◌}
use Rattle.vt_trace.specs.Names.{names}
use Rattle.vt_trace.proofs.Words.{word_of_row, short_of_row}
use Rattle.vt_trace.proofs.functions.word_at.Goals as goal

pub returns-clause-word : goal.returns-clause-word
returns-clause-word c =
    word_of_row c.words.result.now c.args.index ∙ ap (λ (l : List (List ℕ)). get_or l c.args.index []) c.words.ensures

pub returns-clause-short : goal.returns-clause-short
returns-clause-short c =
    subst (λ (l : List ℕ). length l ≤ 23)
    (sym (word_of_row c.words.result.now c.args.index ∙ ap (λ (l : List (List ℕ)). get_or l c.args.index []) c.words.ensures))
    (short_of_row names c.args.index c.requires refl)
