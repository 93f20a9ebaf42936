-- The rows that contain the vectors. No public clause names them.
use Rattle.std.specs.Prelude.{◌≡◌, ◌==◌, List, Bool, true, length, nat_le}
use Rattle.std.specs.List.{list_all, count_by}
use Rattle.std.specs.Option.{option_copied}
use Rattle.vt_vectors.specs.declared.expectation.Vector.{Vector}
use Rattle.vt_vectors.specs.declared.vectors.Row.{Row}

-- v has the input of a row, and expects what the row says
pub record IsOfRow (v : Vector) (row : Row) : Type 0 where
  pub input : v.input.now ≡ row.input.now
  pub text : v.text.now ≡ row.text.now
  pub reports : v.reports.now ≡ row.reports.now
  pub repaint : option_copied v.repaint ≡ option_copied row.repaint

-- a row has a name, an input of at most 200 bytes, and a text of 24 lines
abbrev pub has_name : Row → Bool
has_name row = nat_le 1 (length row.name.now)

abbrev pub is_short : Row → Bool
is_short row = nat_le (length row.input.now) 200

abbrev pub has_all_lines : Row → Bool
has_all_lines row = count_by (λ b. b == 0x0A) row.text.now == 24

-- each row has a name, a short input and all lines of a text
pub record AreFit (rows : List Row) : Type 0 where
  pub named : list_all (λ row. has_name row) rows ≡ true
  pub short : list_all (λ row. is_short row) rows ≡ true
  pub lines : list_all (λ row. has_all_lines row) rows ≡ true
