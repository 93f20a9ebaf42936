-- The parts of a terminal that are written into a caller's buffer. Contracts of private functions cite this, and no public clause does.
use Rattle.std.specs.Prelude.{◌≡◌, ◌↔◌, ◌≤◌, ◌<◌, ℕ, List, length}
use Rattle.vt_syntax.specs.declared.held.Held.TheVariants.{Nothing}
use Rattle.vt_screen.specs.Grid.{row_of}
use Rattle.vt_term.specs.State.{State}
use Rattle.vt_term.specs.Text.{text, line_text}
use Rattle.vt_picture.specs.Show.{show}
use Rattle.vt_picture.specs.Picture.{picture}
use Rattle.vt_picture.specs.Draw.{sized_draw}
use Rattle.vt_paint.specs.Repaint.{paint}
use Rattle.vt220_c.specs.declared.form.Form.{Form}
use Rattle.vt220_c.specs.declared.form.Form.TheVariants.{Text, RowText, Show, Picture, Draw, Repaint}
use Rattle.vt220_c.specs.Status.{status_ok, status_partial, status_room, status_no_row}

abbrev pub written_as : Form → State → List ℕ
written_as Text s = text s
written_as (RowText row) s = line_text (row_of s.display.grid row)
written_as Show s = show s
written_as Picture s = picture s
written_as Draw s = sized_draw s
written_as Repaint s = paint s

-- a row is one of the screen's, and a repaint is made between sequences
abbrev pub CanBe : Form → State → Type 0
CanBe (RowText row) s = (1 ≤ row) × (row ≤ s.display.grid.size.rows)
CanBe Repaint s = s.held ≡ Nothing
CanBe _ s = Unit {0}

-- the status if the form can't be written
abbrev pub refusal : Form → ℕ
refusal (RowText row) = status_no_row
refusal Repaint = status_partial
refusal _ = status_ok

-- what a call returns that has this many bytes of capacity: a status, and the length
pub record Answers (form : Form) (s : State) (capacity written status : ℕ) : Type 0 where
  pub refused : (CanBe form s → ⊥) → (status ≡ refusal form) × (written ≡ 0)
  pub len : CanBe form s → written ≡ length (written_as form s)
  pub ok : CanBe form s → (status ≡ status_ok) ↔ (length (written_as form s) ≤ capacity)
  pub room : CanBe form s → (status ≡ status_room) ↔ (capacity < length (written_as form s))
