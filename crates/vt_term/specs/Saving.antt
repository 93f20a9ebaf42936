-- The saved cursor. (EK-VT220-RM, chapter 4: DECSC and DECRC; the wrap flag, and bringing the row inside, are this
-- profile's)
use Rattle.std.specs.Prelude.{ℕ, ◌&&◌, min, max, if◌then◌else◌}
use Rattle.vt_term.specs.State.{DisplayOf, saved_of}

-- DECSC
abbrev pub save_cursor : {C B : Type 0} → DisplayOf C B → DisplayOf C B
save_cursor s = record s { saved = saved_of s.cursor s.brush s.sets s.modes.decom }

-- the saved row, under the saved DECOM brought inside the margins
abbrev pub restored_row : {C B : Type 0} → DisplayOf C B → ℕ
restored_row s = if s.saved.origin then max s.margins.top (min s.saved.row s.margins.bottom) else s.saved.row

-- DECRC: the wrap flag only under DECAWM; a pending single shift stays
abbrev pub restore_cursor : {C B : Type 0} → DisplayOf C B → DisplayOf C B
restore_cursor s = record s {
  cursor = record { row = restored_row s; col = s.saved.col; wrap = s.saved.wrap && s.modes.decawm };
  brush = s.saved.brush;
  sets = record s.sets { g = s.saved.g; left = s.saved.gl; right = s.saved.gr };
  modes = record s.modes { decom = s.saved.origin };
}
