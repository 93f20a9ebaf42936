-- The changes of the window's size in a recording, each with its place in the content. (asciicast 2 and 3 of asciinema: `r` and
-- COLUMNSxROWS; script(1) of util-linux: SIGWINCH and ROWS=.. COLS=..; their places are this profile's)
use Rattle.std.specs.Prelude.{ℕ, ◌+◌, List, [], ◌∷◌, ◌++◌, take, drop, codes, Bool, true, false, cond, nat_eq}
use Rattle.std.specs.Prelude.{Option, Some, None, option_map, option_and_then}
use Rattle.std.specs.List.{position}
use Rattle.vt_recording.specs.declared.timeline.EventKind.{EventKind}
use Rattle.vt_recording.specs.declared.timeline.EventKind.TheVariants.{Output, Input, Marker, Size, Exit}
use Rattle.vt_recording.specs.declared.changes.Window.{Window}
use Rattle.vt_recording.specs.declared.changes.Change.{Change}
use Rattle.vt_recording.specs.declared.reached.Passed.{Passed}
use Rattle.vt_recording.specs.Reached.{with_event}
use Rattle.vt_recording.specs.Script.{stripped}
use Rattle.vt_recording.specs.Seconds.{number}
use Rattle.vt_recording.specs.Timeline.{Event}

-- ---- a size as a recording writes it

-- two numbers of at most nine digits
abbrev pub window_of : (columns rows : List ℕ) → Option Window
window_of columns rows =
    option_and_then (λ c. option_map (λ r. record { columns = c; rows = r }) (number 9 rows)) (number 9 columns)

-- the size in COLUMNSxROWS, by the place of the `x`
abbrev pub window_by : Option ℕ → List ℕ → Option Window
window_by None text = None
window_by (Some at) text = window_of (take at text) (drop (at + 1) text)

-- the size in what follows ROWS=, by the place of its space: the rows, and the columns after COLS=
abbrev pub window_after : Option ℕ → List ℕ → Option Window
window_after None text = None
window_after (Some at) text = option_and_then (λ columns. window_of columns (take at text)) (stripped (codes " COLS=") (drop at text))

abbrev pub place : ℕ → List ℕ → Option ℕ
place byte text = position (λ b. nat_eq b byte) text

abbrev pub window_as : (words : Option (List ℕ)) → List ℕ → Option Window
window_as None text = window_by (place 0x78 text) text
window_as (Some rest) text = window_after (place 0x20 rest) rest

abbrev pub window_in : List ℕ → Option Window
window_in text = window_as (stripped (codes "ROWS=") text) text

-- ---- the changes among events

abbrev pub is_size : EventKind → Bool
is_size Output = false
is_size Input = false
is_size Marker = false
is_size Size = true
is_size Exit = false

-- a change after so much of the content
abbrev pub change_to : (content : ℕ) → Option Window → List Change
change_to content None = []
change_to content (Some w) = record { place = content; window = w } ∷ []

-- an event of a size is a change. A text that is no size is none
abbrev pub change_of : Passed → EventKind → (text : List ℕ) → List Change
change_of p kind text = cond (is_size kind) (change_to p.content (window_in text)) []

-- the changes among events, in their order, each with its place in the content
unfoldable pub changes_in : (characters : Bool) → Passed → List Event → List Change
changes_in characters p [] = []
changes_in characters p (e ∷ events) = change_of p e.kind e.text ++ changes_in characters (with_event characters p e) events
