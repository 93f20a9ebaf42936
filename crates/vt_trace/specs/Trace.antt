-- The trace: the lines of the events of bytes, with their places, texts and reports, and of what is no event. (this profile)
use Rattle.std.specs.Prelude.{ℕ, ◌+◌, List, [], ◌∷◌, ◌++◌, Bool, true, false, not, ◌==◌, ◌||◌, ◌&&◌, nat_le, nat_lt}
use Rattle.std.specs.Prelude.{codes, decimal, length, take, if◌then◌else◌}
use Rattle.vt_syntax.specs.declared.event.Event.{Event}
use Rattle.vt_syntax.specs.declared.event.Event.TheVariants.{Print, Control, Escape, Sequence}
use Rattle.vt_syntax.specs.declared.held.Held.{Held}
use Rattle.vt_syntax.specs.declared.held.Held.TheVariants as held
use Rattle.vt_syntax.specs.Held.{events_from, held_from}
use Rattle.vt_glyph.specs.Invocation.{has_no_glyph}
use Rattle.vt_screen.specs.declared.size.Size.{Size}
use Rattle.vt_term.specs.State.{Display, State}
use Rattle.vt_term.specs.Functions.{effect}
use Rattle.vt_term.specs.Reports.{report}
use Rattle.vt_term.specs.Names.{name_on}
use Rattle.vt_term.specs.Happenings.{Happening, happening}
use Rattle.vt_term.specs.Play.{play}
use Rattle.vt_trace.specs.declared.tracing.Tracer.{Tracer}
use Rattle.vt_trace.specs.Lines.{Names, shown_byte, shown, line, event_line_by}
use Rattle.vt_trace.specs.Skipped.{cut_sequence, spoilt_sequence, is_empty, skipped_line}

-- ---- tracers

-- a tracer before the first byte, or between items
abbrev pub between : (place begin : ℕ) → Bool → Tracer
between n m v = record { place = n; begin = m; in_text = v; code = 0; first = record { items = [] } }

abbrev pub tracer_at_start : Tracer
tracer_at_start = between 0 0 false

-- ---- places

-- the byte is the first of an item: nothing is held, or it cuts off what is held (ESC, and outside strings 80 to FF)
abbrev pub begins : Held → ℕ → Bool
begins held.Nothing b = true
begins (held.Text osc) b = b == 0x1B
begins _ b = b == 0x1B || nat_le 0x80 b

-- where the item of a byte began
abbrev pub item_place : Tracer → Held → ℕ → ℕ
item_place t held b = if begins held b then t.place else t.begin

-- a character or control that this byte is by itself is at the byte, and any other event where its item began
abbrev pub place_of : ℕ → ℕ → ℕ → Event → ℕ
place_of place begin b (Print c) = place
place_of place begin b (Control c) = if c == b then place else begin
place_of place begin b (Escape inter last) = begin
place_of place begin b (Sequence marker params inter last) = begin

-- ---- texts and reports

-- a character: a graphic byte that has a glyph
abbrev pub is_text : Event → Bool
is_text (Print b) = not (has_no_glyph b)
is_text (Control b) = false
is_text (Escape inter last) = false
is_text (Sequence marker params inter last) = false

-- the last line, if it is a text that goes on, ends
abbrev pub text_end : Bool → List ℕ
text_end in_text = if in_text then 0x0A ∷ [] else []

-- the line of a text begins, unless the text goes on
abbrev pub text_begin : Bool → ℕ → List ℕ
text_begin in_text place = if in_text then [] else decimal place ++ (0x09 ∷ (codes "text" ++ 0x09 ∷ []))

-- a character goes on the text before it, or begins one
abbrev pub text_of : Bool → ℕ → ℕ → List ℕ
text_of in_text place b = text_begin in_text place ++ shown_byte b

-- a report is a separate line, after that of its request
abbrev pub report_line : ℕ → List ℕ → List ℕ
report_line place [] = []
report_line place (b ∷ bytes) = line place (codes "report") (shown (b ∷ bytes))

-- what is written of an event with its report, on a screen of so many rows
abbrev pub written : Names → ℕ → Bool → ℕ → Event → List ℕ → List ℕ
written names rows in_text place (Print b) reports =
    if has_no_glyph b then text_end in_text ++ event_line_by names rows place (Print b) else text_of in_text place b
written names rows in_text place event reports =
    text_end in_text ++ (event_line_by names rows place event ++ report_line place reports)

-- ---- what is no event

abbrev pub is_nothing : Held → Bool
is_nothing held.Nothing = true
is_nothing _ = false

abbrev pub is_string : Held → Bool
is_string (held.Text osc) = true
is_string _ = false

-- the byte cuts off what is held, or is the SUB that ends it, which is an event by itself
abbrev pub cuts_off : Held → ℕ → Bool
cuts_off held b = not (is_nothing held) && (begins held b || b == 0x1A)

-- the byte ends an item, and has no event
abbrev pub ends_silent : Held → ℕ → Bool
ends_silent held b = is_empty (events_from held (b ∷ [])) && is_nothing (held_from held (b ∷ []))

-- the bytes of an item up to this one: as many as tell its first 32, and whether there are more
abbrev pub item_first : Tracer → Held → ℕ → List ℕ
item_first t held b = take 33 ((if begins held b then [] else t.first.items) ++ b ∷ [])

-- the C1 control that opens the string which is held after a byte, and 0 if none is
abbrev pub code_after : ℕ → Bool → Held → ℕ → ℕ
code_after code in_string held b =
    if is_string held then (if in_string then code else (if nat_lt b 0x80 then b + 0x40 else b)) else 0

-- the kind of what is held, with the C1 control of a string or 0
abbrev pub open_kind : ℕ → ℕ
open_kind code = if code == 0 then cut_sequence else code

-- the kind of an item without a function that ends with a byte, which isn't SUB
abbrev pub ended_kind : ℕ → Held → ℕ → ℕ
ended_kind code held b =
    if is_nothing held then b else (if code == 0 && not (b == 0x18) then spoilt_sequence else open_kind code)

-- what is written of what is held, when it is cut off
abbrev pub open_lines : Tracer → List ℕ
open_lines t = text_end t.in_text ++ skipped_line t.begin (open_kind t.code) t.first.items

-- what is written of an item without a function: one that is cut off, or one that has ended
abbrev pub skipped_lines : Tracer → (cut ended : Bool) → (place kind : ℕ) → List ℕ → List ℕ
skipped_lines t cut ended place kind first =
    if cut then open_lines t else (if ended then text_end t.in_text ++ skipped_line place kind first else [])

-- what is written of the item that a byte cuts off or ends, if it has no function
unfoldable pub skipped : Tracer → Held → ℕ → List ℕ
skipped t held b =
    skipped_lines t (cuts_off held b) (ends_silent held b) (item_place t held b) (ended_kind t.code held b) (item_first t held b)

-- whether a text may go on after a byte
unfoldable pub goes_on : Tracer → Held → ℕ → Bool
goes_on t held b = t.in_text && not (cuts_off held b || ends_silent held b)

-- what is written at the end of bytes: the end of a text, and the line of what is held
unfoldable pub end_lines : Tracer → List ℕ
end_lines t = if length t.first.items == 0 then text_end t.in_text else open_lines t

-- ---- bytes

-- what is written of the events of a byte, each in the state before it
abbrev pub written_all : Names → Bool → (Event → ℕ) → List Event → Display → List ℕ
written_all names in_text place_at [] s = []
written_all names in_text place_at (event ∷ events) s =
    written names s.grid.size.rows in_text (place_at event) event (report event s)
    ++ written_all names (is_text event) place_at events (effect event s)

abbrev pub text_after : Bool → List Event → Bool
text_after in_text [] = in_text
text_after in_text (event ∷ events) = text_after (is_text event) events

-- what is written of what happens at a byte: of what it cuts off or ends, and of its events. (A byte has one event at most.)
abbrev pub traced_at : Names → Tracer → Happening → List ℕ
traced_at names t h =
    skipped t h.held h.byte
    ++ written_all names (goes_on t h.held h.byte) (place_of t.place (item_place t h.held h.byte) h.byte) h.events h.before

-- the tracer after what happens at a byte: between items it keeps nothing of an item
abbrev pub tracer_at : Tracer → Happening → Tracer
tracer_at t h = record {
  place = t.place + 1;
  begin = item_place t h.held h.byte;
  in_text = text_after (goes_on t h.held h.byte) h.events;
  code = code_after t.code (is_string h.held) (held_from h.held (h.byte ∷ [])) h.byte;
  first = record { items = if is_nothing (held_from h.held (h.byte ∷ [])) then [] else item_first t h.held h.byte };
}

-- what is written of a byte on a VT220
unfoldable pub traced : State → Tracer → ℕ → List ℕ
traced s t b = traced_at name_on t (happening s b)

unfoldable pub tracer_after : State → Tracer → ℕ → Tracer
tracer_after s t b = tracer_at t (happening s b)

-- what is written of bytes
unfoldable pub trace : State → Tracer → List ℕ → List ℕ
trace s t [] = []
trace s t (b ∷ bytes) = traced s t b ++ trace (play s (b ∷ [])).state (tracer_after s t b) bytes

-- the tracer after bytes
unfoldable pub tracer_all : State → Tracer → List ℕ → Tracer
tracer_all s t [] = t
tracer_all s t (b ∷ bytes) = tracer_all (play s (b ∷ [])).state (tracer_after s t b) bytes

-- ---- a change of the screen's size

-- a size is written as its columns and rows, with `x` between them. After a change both widths are equal
abbrev pub size_column : Size → List ℕ
size_column size = decimal size.wide ++ (0x78 ∷ decimal size.rows)

-- what is written of a change to a size: the end of a text, and a line
abbrev pub size_lines : Tracer → Size → List ℕ
size_lines t size = text_end t.in_text ++ line t.place (codes "size") (size_column size)

-- the tracer after a change: no text goes on, and what is held does
abbrev pub tracer_resized : Tracer → Tracer
tracer_resized t = record t { in_text = false }
