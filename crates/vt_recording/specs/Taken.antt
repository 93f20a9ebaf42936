-- The content that is taken out of a recording: its output. (this profile)
use Rattle.std.specs.Prelude.{◌≡◌, ℕ, List, [], Bool, true, false, drop, chars, cond, Option, None}
use Rattle.std.specs.List.{flat_map}
use Rattle.vt_recording.specs.declared.format.Format.{Format}
use Rattle.vt_recording.specs.declared.format.Format.TheVariants as format
use Rattle.vt_recording.specs.declared.format.Encoding.{Encoding}
use Rattle.vt_recording.specs.declared.format.Encoding.TheVariants.{Dec, Utf8}
use Rattle.vt_recording.specs.declared.format.Moment.{Moment}
use Rattle.vt_recording.specs.declared.timeline.EventKind.{EventKind}
use Rattle.vt_recording.specs.Asciicast.{is_text}
use Rattle.vt_recording.specs.Characters.{AreWritten}
use Rattle.vt_recording.specs.Detection.{shows_utf8}
use Rattle.vt_recording.specs.Format.{usual_encoding}
use Rattle.vt_recording.specs.Reached.{place_of}
use Rattle.vt_recording.specs.Timeline.{Event, is_output}

-- the characters of a text, or its bytes. A text by asciinema is UTF-8, as JSON is
abbrev pub spoken : (characters : Bool) → (text : List ℕ) → List ℕ
spoken true text = cond (is_text text) (chars text) []
spoken false text = text

abbrev pub heard : (characters : Bool) → EventKind → (text : List ℕ) → List ℕ
heard characters kind text = cond (is_output kind) (spoken characters text) []

abbrev pub all_heard : (characters : Bool) → List Event → List ℕ
all_heard characters events = flat_map (λ e. heard characters e.kind e.text) events

-- the content between two moments: the content up to one without what comes before the other
pub record IsTaken (characters : Bool) (from until : Option Moment) (events : List Event) (content : List ℕ) (replaced : ℕ) : Type 0 where
  pub whole : List ℕ
  pub written : AreWritten characters (place_of true characters until events) (all_heard characters events) whole replaced
  pub rest : content ≡ drop (place_of false characters from events) whole

-- ---- the encoding that a recording shows

-- all of the content decides
pub record IsShownBy (events : List Event) (encoding : Encoding) : Type 0 where
  pub content : List ℕ
  pub replaced : ℕ
  pub taken : IsTaken false None None events content replaced
  pub shown : encoding ≡ cond (shows_utf8 content) Utf8 Dec

-- asciinema writes UTF-8. Raw bytes may be played before all of them are there, so they don't decide
abbrev pub IsShown : Format → List Event → Encoding → Type 0
IsShown format.Script events encoding = IsShownBy events encoding
IsShown format.Ttyrec events encoding = IsShownBy events encoding
IsShown format events encoding = encoding ≡ usual_encoding format
