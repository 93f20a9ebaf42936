-- The tables of parts of headers, by computing.
use Rattle.std.proofs.Common.{◌≡◌, append_assoc, append-nil, ap, ◌∙◌, ℕ, List, [], ◌∷◌, ◌++◌, refl, ◌+◌, ◌-◌}
use Rattle.std.proofs.Common.{◌*◌, ◌≤◌, ◌<◌, true, take, slice_index_or, nat_le, arith}
use Rattle.std.specs.Prelude.{decimal}
use Rattle.std.specs.Fmt.{digits}
use Rattle.std.specs.Cmp.Lexicographic.{pointwise_decides}
use Rattle.std.proofs.lemmas.Bool.Decides.{Decides-eqb}
use Rattle.vt_paint.proofs.Spelled.{same_bytes}
use Rattle.vt_paint.proofs.Tests.{both_pass, all_brushes, at_brush}
use Rattle.vt_syntax.specs.Spelling.{spell_events, spell_event}
use Rattle.vt_screen.specs.declared.cell.Brush.{Brush}
use Rattle.vt_paint.specs.Controls.{cursor_position, brush_events}
use Rattle.std.specs.List.{range_with_len, list_all}
use Rattle.std.proofs.lemmas.Bool.{leb-true}
use Rattle.vt_glyph.proofs.Lists.{all_in_range}
use borrow.Rule.Slice.PartMut.{mid_of}
use Rattle.vt_paint.specs.declared.tables.TheConstants.{ROW_PARTS, COLUMN_PARTS, BRUSHES, BRUSH_LENGTHS}
use Rattle.vt_paint.specs.Limits.{row_digits}
use Rattle.vt_paint.specs.Private.HeaderParts.{row_part, column_part, brush_part, brush_index}

-- ---- brushes

abbrev brush_entry : ℕ → List ℕ
brush_entry n = take (slice_index_or BRUSH_LENGTHS n 0) (mid_of (16 * n) (16 * n + 16 - 16 * n) BRUSHES)

-- the entry is that of the brush, which is spelled starting at `ESC [ 0`
pub brush_at : (brush : Brush) → brush_entry (brush_index brush) ≡ brush_part brush
unfolding brush_events brush_part all_brushes both_pass digits
brush_at brush =
    (pointwise_decides Decides-eqb _ (brush_part brush)).0
    (at_brush (λ brush. same_bytes (brush_entry (brush_index brush)) (brush_part brush)) refl brush)

pub brush_spelled : (brush : Brush) → spell_events (brush_events brush) ≡ 0x1B ∷ 0x5B ∷ 0x30 ∷ brush_part brush
unfolding brush_events brush_part all_brushes both_pass digits
brush_spelled brush =
    (pointwise_decides Decides-eqb _ (0x1B ∷ 0x5B ∷ 0x30 ∷ brush_part brush)).0
    (at_brush (λ brush. same_bytes (spell_events (brush_events brush)) (0x1B ∷ 0x5B ∷ 0x30 ∷ brush_part brush)) refl brush)

brush_lengths_are : list_all (λ n. nat_le (slice_index_or BRUSH_LENGTHS n 0) 14) (range_with_len 0 32) ≡ true
brush_lengths_are = refl

pub brush_length_at : (n : ℕ) → n < 32 → slice_index_or BRUSH_LENGTHS n 0 ≤ 14
brush_length_at n below =
    leb-true _ 14 (all_in_range (λ n. nat_le (slice_index_or BRUSH_LENGTHS n 0) 14) 0 32 n brush_lengths_are (omega arith)
    (omega arith))

-- ---- rows and columns

abbrev pub row_length : ℕ → ℕ
row_length row = slice_index_or ROW_PARTS (8 * (row - 1) + 8 - 1) 0

abbrev row_entry : ℕ → List ℕ
row_entry row = take (row_length row) (mid_of (8 * (row - 1)) (8 * (row - 1) + 8 - 8 * (row - 1)) ROW_PARTS)

rows_are : list_all (λ row. same_bytes (row_entry row) (row_part row)) (range_with_len 1 255) ≡ true
unfolding digits row_part
rows_are = refl

abbrev column_entry : ℕ → List ℕ
column_entry col =
    take (slice_index_or COLUMN_PARTS (8 * (col - 1) + 8 - 1) 0)
    (mid_of (8 * (col - 1)) (8 * (col - 1) + 8 - 8 * (col - 1)) COLUMN_PARTS)

columns_are : list_all (λ col. same_bytes (column_entry col) (column_part col)) (range_with_len 1 255) ≡ true
unfolding digits column_part
columns_are = refl

row_lengths_are : list_all (λ row. nat_le (row_length row) (3 + row_digits row)) (range_with_len 1 255) ≡ true
unfolding row_digits
row_lengths_are = refl

pub row_length_at : (row : ℕ) → 1 ≤ row → row ≤ 255 → row_length row ≤ 3 + row_digits row
row_length_at row low high =
    leb-true _ (3 + row_digits row) (all_in_range (λ row. nat_le (row_length row) (3 + row_digits row)) 1 255 row row_lengths_are
    low (omega arith))

pub row_at : (row : ℕ) → 1 ≤ row → row ≤ 255 → row_entry row ≡ row_part row
row_at row low high =
    (pointwise_decides Decides-eqb (row_entry row) (row_part row)).0
    (all_in_range (λ row. same_bytes (row_entry row) (row_part row)) 1 255 row rows_are low (omega arith))

lengths_are : list_all (λ col. nat_le (slice_index_or COLUMN_PARTS (8 * (col - 1) + 8 - 1) 0) 7) (range_with_len 1 255) ≡ true
lengths_are = refl

pub length_at : (col : ℕ) → 1 ≤ col → col ≤ 255 → slice_index_or COLUMN_PARTS (8 * (col - 1) + 8 - 1) 0 ≤ 7
length_at col low high =
    leb-true _ 7 (all_in_range (λ col. nat_le (slice_index_or COLUMN_PARTS (8 * (col - 1) + 8 - 1) 0) 7) 1 255 col
    lengths_are low (omega arith))

pub column_at : (col : ℕ) → 1 ≤ col → col ≤ 255 → column_entry col ≡ column_part col
column_at col low high =
    (pointwise_decides Decides-eqb (column_entry col) (column_part col)).0
    (all_in_range (λ col. same_bytes (column_entry col) (column_part col)) 1 255 col columns_are low (omega arith))

-- ---- headers

cursor_position_is : (row col : ℕ) → spell_event (cursor_position row col) ≡ row_part row ++ (decimal col ++ 0x48 ∷ [])
unfolding row_part
cursor_position_is row col = simp (append_assoc, append-nil)

-- CUP, SGR and DECSCA are the three parts
pub header_is : (row col : ℕ) (brush : Brush)
    → spell_events (cursor_position row col ∷ brush_events brush) ≡ row_part row ++ (column_part col ++ brush_part brush)
unfolding column_part
header_is row col brush =
    ap (λ bytes. spell_event (cursor_position row col) ++ bytes) (brush_spelled brush)
    ∙ ap (λ bytes. bytes ++ 0x1B ∷ 0x5B ∷ 0x30 ∷ brush_part brush) (cursor_position_is row col) ∙ simp append_assoc
