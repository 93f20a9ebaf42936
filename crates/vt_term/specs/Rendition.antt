-- The brush: the attributes and the protection of what is written. (EK-VT220-RM, chapter 4: SGR and DECSCA)
use Rattle.std.specs.Prelude.{ℕ, List, [], ◌∷◌, Bool, true, false, ◌==◌, ◌||◌, if◌then◌else◌, unwrap_or, fold, map}
use Rattle.vt_glyph.specs.LookUp.{look_up}
use Rattle.vt_screen.specs.declared.cell.Rendition.{Rendition}
use Rattle.vt_screen.specs.Cells.{plain}
use Rattle.vt_screen.specs.declared.cell.Cell.{Cell}
use Rattle.vt_screen.specs.declared.cell.Brush.{Brush}
use Rattle.vt_screen.specs.Cells.{blank, brush_of, cell_of, plain_brush}
use Rattle.vt_screen.specs.Kinds.{vt220_cells}
use Rattle.vt_term.specs.Kinds.{OwnOf, KindOf, kind_of}
use Rattle.vt_term.specs.State.{DisplayOf}
use Rattle.vt_term.specs.State.{Display}

-- 0 all off, 1 bold, 4 underline, 5 blink, 7 reverse, and 22, 24, 25, 27 these off (SGR, ECMA-48 8.3.117)
abbrev pub rendition_changes : List (ℕ × (Rendition → Rendition))
rendition_changes =
    (0, λ r. plain)
    ∷ (1, λ r. record r { bold = true })
    ∷ (4, λ r. record r { underline = true })
    ∷ (5, λ r. record r { blink = true })
    ∷ (7, λ r. record r { reverse = true })
    ∷ (22, λ r. record r { bold = false })
    ∷ (24, λ r. record r { underline = false })
    ∷ (25, λ r. record r { blink = false })
    ∷ (27, λ r. record r { reverse = false })
    ∷ []

-- one parameter; another number does nothing
unfoldable pub with_attribute : ℕ → Rendition → Rendition
with_attribute p = unwrap_or (look_up rendition_changes p) (λ r. r)

-- each parameter in order
abbrev pub with_attributes : List ℕ → Rendition → Rendition
with_attributes params r = fold (λ r p. with_attribute p r) r params

-- a VT220's kind
abbrev pub vt220_own : OwnOf Cell Brush
vt220_own = record {
  brush_of = brush_of;
  plain = plain_brush;
  written = λ brush glyph. cell_of glyph brush;
  emptied = λ brush. blank;
  attributes = λ params brush. record brush { rendition = with_attributes params brush.rendition };
  attribute_numbers = map (λ row. row.0) rendition_changes;
  protection = λ on brush. record brush { protected = on };
}

abbrev pub vt220_kind : KindOf Cell Brush
vt220_kind = kind_of vt220_cells vt220_own

-- SGR and DECSCA of any kind
abbrev pub select_any : {C B : Type 0} → KindOf C B → List ℕ → DisplayOf C B → DisplayOf C B
select_any k params s = record s { brush = k.own.attributes params s.brush }

abbrev pub with_protection_any : {C B : Type 0} → KindOf C B → Bool → DisplayOf C B → DisplayOf C B
with_protection_any k on s = record s { brush = k.own.protection on s.brush }

abbrev pub with_rendition : Rendition → Display → Display
with_rendition rendition s = record s { brush = record s.brush { rendition = rendition } }

-- SGR (ECMA-48 8.3.117)
abbrev pub select_graphic_rendition : List ℕ → Display → Display
select_graphic_rendition params s = select_any vt220_kind params s

abbrev pub with_protection : Bool → Display → Display
with_protection protected s = with_protection_any vt220_kind protected s

-- DECSCA: 1 protects the glyphs that are written after it, 0 and 2 do not (EK-VT220-RM, chapter 4)
abbrev pub select_protection_any : {C B : Type 0} → KindOf C B → ℕ → DisplayOf C B → DisplayOf C B
select_protection_any k p s =
    if p == 1 then with_protection_any k true s else (if p == 0 || p == 2 then with_protection_any k false s else s)

abbrev pub select_character_attribute : ℕ → Display → Display
select_character_attribute p s = select_protection_any vt220_kind p s
