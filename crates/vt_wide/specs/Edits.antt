-- Edits of rows with wide characters. `z` is the cell outside of a grid. The rules are those of xterm 379, but for what names another source.
use Rattle.std.specs.Prelude.{ℕ, ◌+◌, ◌-◌, List, length, slice_index, Bool, ◌&&◌, ◌||◌, ◌==◌, nat_le, nat_lt, max, min, if◌then◌else◌}
use Rattle.vt_screen.specs.Grid.{GridOf, at_or, changed_any, columns_of, span_of, is_within, row_any, put_any}
use Rattle.vt_screen.specs.Between.{insert_between_any, delete_between_any, columns_up_any, columns_down_any}
use Rattle.vt_wide.specs.Kinds.{WideOf}

-- the left edge of a column is inside a wide character
abbrev pub is_parted : {C : Type 0} → WideOf C → C → GridOf C → ℕ → ℕ → Bool
is_parted k z g r col = nat_le 2 col && (nat_le col g.width && k.is_second (at_or z g r col))

-- in some rows, both cells of a wide character that the left edge of a column parts are changed
unfoldable pub parted : {C : Type 0} → WideOf C → C → (C → C) → GridOf C → (ℕ → Bool) → ℕ → GridOf C
parted k z change g rows col = changed_any z change g (λ r c. (rows r && is_parted k z g r col) && is_within (col - 1) col c)

-- in one row
abbrev pub parted_row : {C : Type 0} → WideOf C → C → (C → C) → GridOf C → ℕ → ℕ → GridOf C
parted_row k z change g row col = parted k z change g (λ r. r == row) col

-- the left edges of two columns part wide characters
abbrev pub parted_twice : {C : Type 0} → WideOf C → C → (C → C) → GridOf C → ℕ → ℕ → ℕ → GridOf C
parted_twice k z change g row from end = parted_row k z change (parted_row k z change g row from) row end

-- those of three columns
abbrev pub parted_thrice : {C : Type 0} → WideOf C → C → (C → C) → GridOf C → ℕ → ℕ → ℕ → ℕ → GridOf C
parted_thrice k z change g row a b c = parted_row k z change (parted_twice k z change g row a b) row c

-- the edges of two margins part wide characters of some rows, which become spaces
abbrev pub parted_between : {C : Type 0} → WideOf C → C → GridOf C → ℕ → ℕ → ℕ → ℕ → GridOf C
parted_between k z g top bottom left right =
    parted k z k.spaced (parted k z k.spaced g (is_within top bottom) left) (is_within top bottom) (right + 1)

-- the column at which the character of a cell begins
abbrev pub first_column : {C : Type 0} → WideOf C → C → GridOf C → ℕ → ℕ → ℕ
first_column k z g row col = if is_parted k z g row col then col - 1 else col

-- ---- erasing, inserting, deleting

-- some columns of a row are erased, both ends included (ECH, EL; that DECSEL erases a wide character as a whole is this profile's)
abbrev pub erased : {C : Type 0} → WideOf C → C → (C → C) → GridOf C → ℕ → ℕ → ℕ → GridOf C
erased k z change g row from to = changed_any z change (parted_twice k z change g row from (to + 1)) (columns_of row from to)

-- the places from one to another are erased, both included (ED; that DECSED erases a wide character as a whole is this profile's)
abbrev pub erased_span : {C : Type 0} → WideOf C → C → (C → C) → GridOf C → ℕ → ℕ → ℕ → ℕ → GridOf C
erased_span k z change g row col to_row to_col =
    changed_any z change (parted_row k z change (parted_row k z change g row col) to_row (to_col + 1)) (span_of row col to_row to_col)

-- n cells come in at a place; those that pass the column `right`, the last one or that of the right margin, are lost (ICH; that the
-- right margin parts no character is this profile's)
abbrev pub inserted : {C : Type 0} → WideOf C → C → C → GridOf C → ℕ → ℕ → ℕ → ℕ → GridOf C
inserted k z empty g row col right n =
    insert_between_any z empty (parted_thrice k z (λ cell. empty) g row col (max col (right + 1 - n)) (right + 1)) row col right n

-- n cells go, starting at a place; cells come in at the column `right` (DCH; the same)
abbrev pub deleted : {C : Type 0} → WideOf C → C → C → GridOf C → ℕ → ℕ → ℕ → ℕ → GridOf C
deleted k z empty g row col right n =
    delete_between_any z empty (parted_thrice k z (λ cell. empty) g row col (min (col + n) (right + 1)) (right + 1)) row col right n

-- rows move up by n between two columns; a margin leaves spaces of a wide character that it is inside of (IND, SU, DL; the look of the
-- spaces is this profile's)
abbrev pub moved_up : {C : Type 0} → WideOf C → C → C → GridOf C → ℕ → ℕ → ℕ → ℕ → ℕ → GridOf C
moved_up k z empty g top bottom left right n =
    columns_up_any z empty (parted_between k z g top bottom left right) top bottom left right n

-- rows move down by n between two columns (RI, SD, IL; the same)
abbrev pub moved_down : {C : Type 0} → WideOf C → C → C → GridOf C → ℕ → ℕ → ℕ → ℕ → ℕ → GridOf C
moved_down k z empty g top bottom left right n =
    columns_down_any z empty (parted_between k z g top bottom left right) top bottom left right n

-- ---- writing

-- how many columns the character of a cell needs
abbrev pub columns : {C : Type 0} → WideOf C → C → ℕ
columns k cell = if k.is_wide cell then 2 else 1

-- a character is written, whose first cell is given
abbrev pub written : {C : Type 0} → WideOf C → C → C → GridOf C → ℕ → ℕ → C → GridOf C
written k z empty g row col cell =
    if k.is_wide cell
    then put_any z (put_any z (parted_twice k z (λ cell. empty) g row col (col + 2)) row col cell) row (col + 1) (k.second cell)
    else put_any z (parted_twice k z (λ cell. empty) g row col (col + 1)) row col cell

-- the same, after the cells starting there moved right (IRM)
abbrev pub written_inserting : {C : Type 0} → WideOf C → C → C → GridOf C → ℕ → ℕ → ℕ → C → GridOf C
written_inserting k z empty g row col right cell = written k z empty (inserted k z empty g row col right (columns k cell)) row col cell

-- n cells are written, starting at a place, each as a function of its number gives
abbrev pub run_any : {C : Type 0} → C → (ℕ → C) → GridOf C → ℕ → ℕ → ℕ → GridOf C
run_any z cell_of g row col n = row_any z g row (λ c. if nat_le col c && nat_lt c (col + n) then cell_of (c - col) else at_or z g row c)

-- ASCII characters of one pen are written, starting at a place
abbrev pub written_bytes : {C : Type 0} → WideOf C → C → C → GridOf C → ℕ → ℕ → List ℕ → C → GridOf C
written_bytes k z empty g row col bytes pen =
    run_any z (λ i. k.with_byte pen (slice_index bytes i)) (parted_twice k z (λ cell. empty) g row col (col + length bytes)) row col
    (length bytes)

-- ---- marks

-- the column whose cell a mark joins, and REP repeats: before the cursor, or under it in column 1 and if a wrap is pending; that of
-- the first cell, if it is a second one (that a mark joins a cell written earlier is this profile's)
abbrev pub joined_column : {C : Type 0} → WideOf C → C → GridOf C → ℕ → ℕ → Bool → ℕ
joined_column k z g row col wrap =
    first_column k z g row (if wrap || col == 1 then col else col - 1)

-- a mark joins the character of a cell
abbrev pub joined : {C : Type 0} → WideOf C → C → GridOf C → ℕ → ℕ → ℕ → GridOf C
joined k z g row col mark = put_any z g row col (k.marked (at_or z g row col) mark)
