-- Cells by the table that the code of unicode_width reads. A proof computes them some hundred times faster than by the
-- properties of Unicode.
use Rattle.std.proofs.Common.{◌≡◌, ℕ, ◌<◌, ◌≤◌, true, false, sym, ap, arith, min, if◌then◌else◌}
use Rattle.std.specs.Prelude.{◌==◌, nat_lt, nat_le}
use Rattle.std.proofs.lemmas.Bool.Decides.{nat_tests}
use Rattle.ucd_table.specs.Trie.{block_value, trie_value}
use Rattle.unicode_width.specs.declared.kind.Kind.{Kind}
use Rattle.unicode_width.specs.Kind.{kind_number, kind_from_number}
use Rattle.unicode_width.specs.Width.{of_kind, alone, char_width}
use Rattle.unicode_width.proofs.KindLemmas.{kind_from_number-kind_number}
use Rattle.unicode_width.proofs.KindTrie.{trie_value-KIND}
use Rattle.vt_utf8.specs.Cells.{cells}

-- the number of a character's kind, looked up; the table is private there, and has no name here
unfoldable table : (number : ℕ → ℕ) × ((c : ℕ) → c < 0x11_0000 → number c ≡ kind_number c)
unfolding trie_value block_value
table = (_, trie_value-KIND)

unfoldable pub looked_up : ℕ → ℕ
unfolding table
looked_up c = if c == 0xAD then 1 else min 2 (of_kind false c (kind_from_number (table.0 c))).0

pub cells-looked_up : (c : ℕ) → 0xA0 ≤ c → c < 0x11_0000 → cells c ≡ looked_up c
unfolding looked_up cells char_width alone
cells-looked_up c low high =
    let a : nat_lt c 0x7F ≡ false = grind (arith, nat_tests) in
    let b : nat_le 0xA0 c ≡ true = grind (arith, nat_tests) in
    rw (a, b) (sym (ap (λ (k : Kind). if c == 0xAD then 1 else min 2 (of_kind false c k).0)
    (kind_from_number-kind_number c (table.0 c) (table.1 c high))))
