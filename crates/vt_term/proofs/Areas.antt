-- Areas of the screen, place by place.
use Rattle.std.proofs.Common.{◌≡◌, ℕ, ◌≤◌, Bool, ap, arith}
use Rattle.std.proofs.lemmas.Bool.Decides.{nat_tests}
use Rattle.vt_screen.specs.Grid.{GridOf, columns_of, span_of}
use Rattle.vt_screen.proofs.Spans.{changed-same}
use Rattle.vt_screen.specs.Kinds.{erased_any}
use Rattle.vt_term.specs.Kinds.{KindOf}
use Rattle.vt_term.specs.Editing.{line_area, display_area, with_grid, erased_area, erase_in_line_any, erase_in_display_any}
use Rattle.vt_term.specs.State.{DisplayOf, last_column, bottom_row}

-- areas of the same places are one area
same-area : {C B : Type 0} (k : KindOf C B) (s : DisplayOf C B) (a b : ℕ → ℕ → Bool) (selective : Bool)
    → ((r c : ℕ) → 1 ≤ r → r ≤ s.grid.size.rows → 1 ≤ c → c ≤ s.grid.width → a r c ≡ b r c)
    → with_grid (erased_area k s a selective) s ≡ with_grid (erased_area k s b selective) s
same-area {C = C} {B = B} k s a b selective same =
    ap (λ (g : GridOf C). with_grid g s) (changed-same k.cells.blank (erased_any k.cells selective (k.own.emptied s.brush)) s.grid a b same)

-- EL starting at the cursor, up to it, and of the whole line
pub line-0 : {C B : Type 0} (k : KindOf C B) (selective : Bool) (s : DisplayOf C B)
    → with_grid (erased_area k s (columns_of s.cursor.row s.cursor.col (last_column s)) selective) s ≡ erase_in_line_any k selective 0 s
line-0 {C = C} {B = B} k selective s =
    same-area k s _ (line_area 0 s.cursor) selective (λ r c r1 r24 c1 cw. grind (arith, nat_tests))

pub line-1 : {C B : Type 0} (k : KindOf C B) (selective : Bool) (s : DisplayOf C B)
    → with_grid (erased_area k s (columns_of s.cursor.row 1 s.cursor.col) selective) s ≡ erase_in_line_any k selective 1 s
line-1 {C = C} {B = B} k selective s =
    same-area k s _ (line_area 1 s.cursor) selective (λ r c r1 r24 c1 cw. grind (arith, nat_tests))

pub line-2 : {C B : Type 0} (k : KindOf C B) (selective : Bool) (s : DisplayOf C B)
    → with_grid (erased_area k s (columns_of s.cursor.row 1 (last_column s)) selective) s ≡ erase_in_line_any k selective 2 s
line-2 {C = C} {B = B} k selective s =
    same-area k s _ (line_area 2 s.cursor) selective (λ r c r1 r24 c1 cw. grind (arith, nat_tests))

-- ED starting at the cursor, up to it, and of the whole screen
pub display-0 : {C B : Type 0} (k : KindOf C B) (selective : Bool) (s : DisplayOf C B)
    → with_grid (erased_area k s (span_of s.cursor.row s.cursor.col (bottom_row s) (last_column s)) selective) s
    ≡ erase_in_display_any k selective 0 s
display-0 {C = C} {B = B} k selective s =
    same-area k s _ (display_area 0 s.cursor) selective (λ r c r1 r24 c1 cw. grind (arith, nat_tests))

pub display-1 : {C B : Type 0} (k : KindOf C B) (selective : Bool) (s : DisplayOf C B)
    → with_grid (erased_area k s (span_of 1 1 s.cursor.row s.cursor.col) selective) s ≡ erase_in_display_any k selective 1 s
display-1 {C = C} {B = B} k selective s =
    same-area k s _ (display_area 1 s.cursor) selective (λ r c r1 r24 c1 cw. grind (arith, nat_tests))

pub display-2 : {C B : Type 0} (k : KindOf C B) (selective : Bool) (s : DisplayOf C B)
    → with_grid (erased_area k s (span_of 1 1 (bottom_row s) (last_column s)) selective) s
    ≡ erase_in_display_any k selective 2 s
display-2 {C = C} {B = B} k selective s =
    same-area k s _ (display_area 2 s.cursor) selective (λ r c r1 r24 c1 cw. grind (arith, nat_tests))
