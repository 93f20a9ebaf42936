-- The effect of an event while left and right margins leave a column out: a function of these tables, otherwise the
-- effect without such margins. (VT510 manual: DECLRMM and DECSLRM; xterm 379)
use Rattle.std.specs.Prelude.{ℕ, List, [], ◌∷◌, Bool, false, not, length, Option, Some, None, ◌==◌, ◌&&◌, ◌||◌}
use Rattle.std.specs.Prelude.{min, nat_lt, unwrap_or, is_some, if◌then◌else◌}
use Rattle.std.proofs.Common.{zero, suc}
use Rattle.vt_syntax.specs.declared.event.Event.{Event}
use Rattle.vt_syntax.specs.declared.event.Event.TheVariants.{Print, Control, Escape, Sequence}
use Rattle.vt_glyph.specs.LookUp.{look_up}
use Rattle.vt_syntax.specs.declared.held.Held.{Held}
use Rattle.vt_syntax.specs.declared.held.Held.TheVariants.{Nothing, Text}
use Rattle.vt_glyph.specs.Tables.{space, substitute_glyph}
use Rattle.vt_glyph.specs.Invocation.{glyph_read, after_read}
use Rattle.vt_term.specs.State.{Display, bottom_row, last_column}
use Rattle.vt_term.specs.Parameters.{first, second, count}
use Rattle.vt_term.specs.Moving.{are_margins}
use Rattle.vt_term.specs.Editing.{names_area}
use Rattle.vt_term.specs.Functions.{byte, row, effect}
use Rattle.vt_utf8.specs.Cells.{cells}
use Rattle.vt_utf8.specs.Similar.{shown}
use Rattle.vt_utf8.specs.Translation.{unshifted}
use Rattle.vt_xterm.specs.declared.sides.Sides.{Sides}
use Rattle.vt_xterm.specs.Columns.{line_position_absolute, line_position_forward}
use Rattle.vt_xterm.specs.Pages.{Screens, on_display, with_sides}
use Rattle.vt_xterm.specs.Sides as between

-- ---- kinds of functions

-- a function that resets a pending wrap
abbrev pub resetting : (Sides → Display → Display) → Sides → Screens → Screens
resetting f m s = with_sides (record m { wrap = false }) (on_display (f m) s)

-- a function that leaves a pending wrap
abbrev pub leaving : (Sides → Display → Display) → Sides → Screens → Screens
leaving f m s = on_display (f m) s

-- IL and DL: elsewhere they leave it (xterm 379)
abbrev pub editing : (Sides → Display → Display) → Sides → Screens → Screens
editing f m s = if between.is_enclosed m s.display then resetting f m s else s

-- HT and CHT leave it, but it is at the right margin then (xterm 379)
abbrev pub waiting : Sides → Screens → Screens
waiting m s =
    with_sides (record m { wrap = nat_lt m.right (last_column s.display) }) (on_display (between.wrap_waiting m) s)

abbrev pub tabbing : ℕ → Sides → Screens → Screens
tabbing n m s =
    if between.is_pending m s.display then waiting m s else resetting (between.cursor_forward_tabulation n) m s

-- a glyph is written
abbrev pub writing : ℕ → Sides → Screens → Screens
writing glyph m s = with_sides (between.sides_after m s.display) (on_display (between.write_glyph glyph m) s)

abbrev pub writing_if_read : Option ℕ → Sides → Screens → Screens
writing_if_read None m s = s
writing_if_read (Some glyph) m s = writing glyph m s

-- a graphic byte: it is read through the sets
abbrev pub printing : ℕ → Sides → Screens → Screens
printing b m s =
    writing_if_read (glyph_read s.display.sets b) m (on_display (λ d. record d { sets = after_read d.sets b }) s)

-- a glyph is written so many times, each time between the margins as the time before left them
abbrev pub writing_times : ℕ → ℕ → Sides → Screens → Screens
writing_times zero glyph m s = s
writing_times (suc n) glyph m s = writing_times n glyph (between.sides_after m s.display) (writing glyph m s)

-- REP (ECMA-48 8.3.103)
abbrev pub repeating : ℕ → Sides → Screens → Screens
repeating n m s =
    if between.column_before m s.display == 0 then s
    else writing_times (min n (between.room m s.display)) (between.glyph_before m s.display) m s

-- DECSTBM: parameters that aren't margins leave a pending wrap
abbrev pub margins_set : ℕ → ℕ → Sides → Screens → Screens
margins_set p1 p2 m s =
    if are_margins (bottom_row s.display) p1 p2 then resetting (between.set_margins p1 p2) m s else s

-- the only parameter is empty, or 0
abbrev pub is_bare : List ℕ → Bool
is_bare params = length params == 1 && first params == 0

-- ---- characters beyond ASCII

-- a glyph and a space
abbrev pub writing_both : ℕ → Sides → Screens → Screens
writing_both glyph m s = writing space (between.sides_after m s.display) (writing glyph m s)

-- a character of two cells isn't split: from the last column that the cursor reaches it goes to the next line under
-- DECAWM, and without DECAWM it isn't written (this profile)
abbrev pub is_at_end : Sides → Display → Bool
is_at_end m s = s.cursor.col == between.last_reached m s && not (between.is_pending m s)

abbrev pub writing_wide : ℕ → Sides → Screens → Screens
writing_wide glyph m s =
    if not (is_at_end m s.display) then writing_both glyph m (on_display unshifted s) else (
    if s.display.modes.decawm then writing_both glyph m (on_display (λ d. unshifted (between.next_line m d)) s) else s)

-- the glyph of a character, in so many cells; a single shift is then no longer pending
abbrev pub writing_in_cells : ℕ → ℕ → Sides → Screens → Screens
writing_in_cells n glyph m s =
    if n == 0 then s else (if n == 1 then writing glyph m (on_display unshifted s) else writing_wide glyph m s)

abbrev pub writing_beyond : ℕ → Sides → Screens → Screens
writing_beyond c = writing_in_cells (cells c) (shown c)

-- a character beyond ASCII is content in a string, and cuts an unfinished sequence, which then has no function
-- (this profile)
abbrev pub held_beyond : Held → Held
held_beyond Nothing = Nothing
held_beyond (Text osc) = Text osc
held_beyond held = Nothing

abbrev pub beyond_in : Held → (Screens → Screens) → Screens → Screens
beyond_in Nothing f s = f s
beyond_in (Text osc) f s = s
beyond_in held f s = f s

-- ---- tables

-- functions of the display between the margins, which reset a pending wrap, by their controls or final bytes
abbrev pub BoundedTable : Type 0
BoundedTable = List (ℕ × (List ℕ → Sides → Display → Display))

abbrev pub bounded_controls : BoundedTable
bounded_controls =
    (0x08, λ params. between.cursor_backward 1)  -- BS
    ∷ (0x0A, λ params. between.line_feed)  -- LF
    ∷ (0x0B, λ params. between.line_feed)  -- VT
    ∷ (0x0C, λ params. between.line_feed)  -- FF
    ∷ (0x0D, λ params. between.carriage_return)  -- CR
    ∷ (0x84, λ params. between.index)  -- IND
    ∷ (0x85, λ params. between.next_line)  -- NEL
    ∷ (0x8D, λ params. between.reverse_index)  -- RI
    ∷ []

-- control sequences without marker and intermediate; VPA and VPR are as without margins
abbrev pub bounded_plain : BoundedTable
bounded_plain =
    row "@" (λ params. between.insert_character (count params))  -- ICH
    ∷ row "C" (λ params. between.cursor_forward (count params))  -- CUF
    ∷ row "D" (λ params. between.cursor_backward (count params))  -- CUB
    ∷ row "E" (λ params. between.cursor_next_line (count params))  -- CNL
    ∷ row "F" (λ params. between.cursor_preceding_line (count params))  -- CPL
    ∷ row "G" (λ params. between.cursor_character_absolute (count params))  -- CHA
    ∷ row "H" (λ params. between.cursor_position (first params) (second params))  -- CUP
    ∷ row "P" (λ params. between.delete_character (count params))  -- DCH
    ∷ row "Z" (λ params. between.cursor_backward_tabulation (count params))  -- CBT
    ∷ row "`" (λ params. between.cursor_character_absolute (count params))  -- HPA
    ∷ row "a" (λ params. between.character_position_forward (count params))  -- HPR
    ∷ row "d" (λ params m. line_position_absolute (count params))  -- VPA
    ∷ row "e" (λ params m. line_position_forward (count params))  -- VPR
    ∷ row "f" (λ params. between.cursor_position (first params) (second params))  -- HVP
    ∷ []

-- the table's function, otherwise the VT220's
unfoldable pub bounded_in : BoundedTable → Event → ℕ → List ℕ → Sides → Display → Display
bounded_in table event last params = unwrap_or (look_up table last) (λ params m. effect event) params

unfoldable pub has_row : BoundedTable → ℕ → Bool
has_row table last = is_some (look_up table last)

-- functions that leave a pending wrap, or don't always reset it
abbrev pub other_plain : List (ℕ × (List ℕ → Sides → Screens → Screens))
other_plain =
    row "I" (λ params. tabbing (count params))  -- CHT
    ∷ row "L" (λ params. editing (between.insert_line (count params)))  -- IL
    ∷ row "M" (λ params. editing (between.delete_line (count params)))  -- DL
    ∷ row "S" (λ params. leaving (between.rows_up (count params)))  -- SU
    -- SD
    ∷ row "T" (λ params m s. if length params == 1 then leaving (between.rows_down (count params)) m s else s)
    ∷ row "^" (λ params. leaving (between.rows_down (count params)))  -- SD (xterm)
    ∷ row "b" (λ params. repeating (count params))  -- REP
    ∷ row "r" (λ params. margins_set (first params) (second params))  -- DECSTBM
    ∷ []

-- ED and EL that erase something
abbrev pub erases : ℕ → List ℕ → Bool
erases last params = (last == byte "J" || last == byte "K") && names_area (first params)

-- CUU, CUD and ECH, which the margins don't bound
abbrev pub is_unbounded : ℕ → Bool
is_unbounded last = last == byte "A" || (last == byte "B" || last == byte "X")

-- the functions that reset a pending wrap
abbrev pub resets : ℕ → List ℕ → Bool
resets last params = has_row bounded_plain last || (is_unbounded last || erases last params)

-- ---- events; the first argument is an event's effect without margins

abbrev pub control_between : (Event → Screens → Screens) → ℕ → Sides → Screens → Screens
control_between other b m s =
    if b == 0x1A then writing substitute_glyph m s else (
    if b == 0x09 then tabbing 1 m s else (
    if has_row bounded_controls b then resetting (bounded_in bounded_controls (Control b) b []) m s else other (Control b) s))

unfoldable pub other_between : (Event → Screens → Screens) → Event → ℕ → List ℕ → Sides → Screens → Screens
other_between other event last params = unwrap_or (look_up other_plain last) (λ params m. other event) params

abbrev pub plain_between : (Event → Screens → Screens) → Event → ℕ → List ℕ → Sides → Screens → Screens
plain_between other event last params m s =
    if resets last params then resetting (bounded_in bounded_plain event last params) m s
    else other_between other event last params m s

-- control sequences with the marker `?`: the selective forms of ED and EL
abbrev pub marked_between : (Event → Screens → Screens) → Event → ℕ → ℕ → List ℕ → Sides → Screens → Screens
marked_between other event marker last params m s =
    if marker == byte "?" && erases last params then resetting (λ m. effect event) m s else other event s

unfoldable pub bounded_effect : (Event → Screens → Screens) → Event → Sides → Screens → Screens
bounded_effect other (Print b) m s = printing b m s
bounded_effect other (Control b) m s = control_between other b m s
bounded_effect other (Escape inter last) m s = other (Escape inter last) s
bounded_effect other (Sequence None params None last) m s =
    plain_between other (Sequence None params None last) last params.items m s
bounded_effect other (Sequence (Some marker) params None last) m s =
    marked_between other (Sequence (Some marker) params None last) marker last params.items m s
bounded_effect other (Sequence None params (Some inter) last) m s = other (Sequence None params (Some inter) last) s
bounded_effect other (Sequence (Some marker) params (Some inter) last) m s =
    other (Sequence (Some marker) params (Some inter) last) s
