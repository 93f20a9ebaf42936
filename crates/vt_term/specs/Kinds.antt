-- Kinds of terminals by their cells: what a machine does to a cell and to a brush.
use Rattle.std.specs.Prelude.{◌≡◌, ℕ, List, Bool, IsTrue}
use Rattle.vt_glyph.specs.Tables.{IsGlyph}
use Rattle.vt_screen.specs.Kinds.{CellsOf}

-- what a kind knows beside its cells: the brush that writes cells like one, the plain brush, the cell that a brush writes for a
-- glyph, the one that comes in where it erases, and the brush after the parameters of SGR and after DECSCA
pub record OwnOf (C B : Type 0) : Type 0 where
  pub brush_of : C → B
  pub plain : B
  pub written : B → ℕ → C
  pub emptied : B → C
  pub attributes : List ℕ → B → B
  -- the parameters of SGR that change a brush
  pub attribute_numbers : List ℕ
  pub protection : Bool → B → B

pub record KindOf (C B : Type 0) : Type 0 where
  pub cells : CellsOf C
  pub own : OwnOf C B

abbrev pub kind_of : {C B : Type 0} → CellsOf C → OwnOf C B → KindOf C B
kind_of cells own = record { cells = cells; own = own }

-- what is written and what comes in is sound
pub record AreShown {C B : Type 0} (k : KindOf C B) : Type 0 where
  pub blank : IsTrue (k.cells.shown k.cells.blank)
  pub erased : (c : C) → IsTrue (k.cells.shown c) → IsTrue (k.cells.shown (k.cells.selectively_erased c))
  pub written : (b : B) (glyph : ℕ) → IsGlyph glyph → IsTrue (k.cells.shown (k.own.written b glyph))
  pub emptied : (b : B) → IsTrue (k.cells.shown (k.own.emptied b))
