-- Without a change of the size a replay is as on a screen that keeps its size.
use Rattle.std.proofs.Common.{◌≡◌, ◌∙◌, ◌+◌, ℕ, List, [], length, Option, Result, ap, refl, arith}
use Rattle.vt_screen.specs.declared.size.Size.{Size}
use Rattle.vt_screen.specs.Sizes.{vt220_size}
use Rattle.vt_term.specs.Play.{Played}
use Rattle.vt_cli.specs.declared.what.What.{What}
use Rattle.vt_cli.specs.declared.what.What.TheVariants.{Text, Reports, Repaint, Status, Show, Picture}
use Rattle.vt_device.specs.Runs.{Flags, Moves}
use Rattle.vt_device.specs.Output.{OutputTable, nothing, always}
use Rattle.vt_device.specs.declared.fault.Fault.{Fault}
use Rattle.vt_replay.specs.declared.language.Language.{Language}
use Rattle.vt_replay.specs.declared.language.Language.TheVariants.{Dec, Utf8, Xterm}
use Rattle.vt_replay.specs.Due.{sent_by, there_by, due_at_end, PlayedTable}
use Rattle.vt_replay.specs.Playing.{Due, due_by, played_at, repainted, replayed_at, ReplayTable}
use Rattle.vt_xterm_paint.specs.Repaint.{xterm_repaint}
use Rattle.vt_term.specs.Text.{text}
use Rattle.vt_replay.specs.Log.{lines_at, screen_at, lines_in, screen_in, lines_with, screen_with}
use Rattle.vt_replay.specs.Session.{is_between}
use Rattle.vt_replay.specs.Resizes.{Session, XtermKept, played_with, repainted_with, replayed_with, ResizedReplayTable}
use Rattle.vt_replay.specs.declared.resized.Resize.{Resize}
use Rattle.vt_replay.specs.Traces.{TracedKept, traced_on, traced_end_on}

pub played : (size : Size) (language : Language) → played_with size [] language ≡ played_at size language
played size Dec = refl
played size Utf8 = refl
played size Xterm = refl

repaint : (size : Size) (language : Language) → repainted_with size [] language ≡ repainted size language
repaint size Dec = refl
repaint size Utf8 = refl
repaint size Xterm = refl

abbrev due_of : (what : What) → (List ℕ → Played) → Due
due_of what played = due_by played what

pub replayed : (size : Size) (language : Language) (what : What) → replayed_with size [] language what ≡ replayed_at size language what
replayed size language Text = ap (due_of Text) (played size language)
replayed size language Reports = ap (due_of Reports) (played size language)
replayed size language Repaint = repaint size language
replayed size language Status = ap (due_of Status) (played size language)
replayed size language Show = ap (due_of Show) (played size language)
replayed size language Picture = ap (due_of Picture) (played size language)

abbrev moves_by : (left left_after held held_after : Option (List ℕ)) (result : Result (Unit {0}) Fault) (piece : ℕ) (f : Flags) (limit : ℕ)
    → Due → Type 0
moves_by left left_after held held_after result piece f limit due =
    Moves left left_after held held_after (λ b w. OutputTable due.written due.ending due.there result piece b w f limit)

-- on a VT220's screen
pub as_before : (left left_after held held_after : Option (List ℕ)) (size : Size) (language : Language) (what : What)
    (result : Result (Unit {0}) Fault) (piece : ℕ) (f : Flags) (limit : ℕ) → size ≡ vt220_size
    → Moves left left_after held held_after (λ b w. ResizedReplayTable size [] language what result piece b w f limit)
    → Moves left left_after held held_after (λ b w. ReplayTable language what result piece b w f limit)
as_before left left_after held held_after size language what result piece f limit is moves =
    let due : replayed_with size [] language what ≡ replayed_at vt220_size language what =
    replayed size language what ∙ ap (λ (s : Size). replayed_at s language what) is in
    coe 0 1 (ι. moves_by left left_after held held_after result piece f limit (due ι)) moves

-- ---- an output of what a player plays

abbrev moves_as : (left left_after held held_after : Option (List ℕ)) (result : Result (Unit {0}) Fault) (piece : ℕ) (f : Flags) (limit : ℕ)
    → What → (List ℕ → Played) → (counts : ℕ → ℕ) → Type 0
moves_as left left_after held held_after result piece f limit what played counts =
    Moves left left_after held held_after (λ b w. OutputTable (λ bytes. sent_by played what bytes)
    (λ bytes. due_at_end what (played bytes).state (counts (length (played bytes).reports))) (λ bytes. there_by played what bytes) result piece b
    w f limit)

counts_from : (reported : ℕ) → reported ≡ 0 → ◌≡◌ {A = ℕ → ℕ} (λ n. reported + n) (λ n. n)
counts_from reported none = λ ι n. (counted n) ι
  where
    counted : (n : ℕ) → reported + n ≡ n
    counted n = omega (arith, none)

-- before its first byte
pub of_player : {R : Type 0} (player begun : R) (played : R → List ℕ → Played) (due : List ℕ → Played) (wanted what : What) (reported : ℕ)
    (left left_after held held_after : Option (List ℕ)) (result : Result (Unit {0}) Fault) (piece : ℕ) (f : Flags) (limit : ℕ)
    → player ≡ begun → played begun ≡ due → wanted ≡ what → reported ≡ 0
    → Moves left left_after held held_after (λ b w. OutputTable (λ bytes. sent_by (played player) wanted bytes)
    (λ bytes. due_at_end wanted (played player bytes).state (reported + length (played player bytes).reports))
    (λ bytes. there_by (played player) wanted bytes) result piece b w f limit)
    → Moves left left_after held held_after (λ b w. PlayedTable due what result piece b w f limit)
of_player player begun played due wanted what reported left left_after held held_after result piece f limit same plays asked none moves =
    let is : played player ≡ due = ap played same ∙ plays in
    coe 0 1 (ι. moves_as left left_after held held_after result piece f limit (asked ι) (is ι) (counts_from reported none ι)) moves

-- ---- the repaint of a session, by what is kept after bytes

abbrev moves_kept : (left left_after held held_after : Option (List ℕ)) (result : Result (Unit {0}) Fault) (piece : ℕ) (f : Flags) (limit : ℕ)
    → (List ℕ → XtermKept) → Type 0
moves_kept left left_after held held_after result piece f limit kept =
    Moves left left_after held held_after (λ b w. OutputTable nothing (λ bytes. xterm_repaint (kept bytes).whole)
    (λ bytes. is_between (kept bytes).whole (kept bytes).pending) result piece b w f limit)

pub of_session : (kept due : List ℕ → XtermKept) (left left_after held held_after : Option (List ℕ)) (result : Result (Unit {0}) Fault)
    (piece : ℕ) (f : Flags) (limit : ℕ) → kept ≡ due
    → moves_kept left left_after held held_after result piece f limit kept
    → moves_kept left left_after held held_after result piece f limit due
of_session kept due left left_after held held_after result piece f limit is moves =
    coe 0 1 (ι. moves_kept left left_after held held_after result piece f limit (is ι)) moves

-- ---- the log

lines : (size : Size) (language : Language) → ◌≡◌ {A = List ℕ → List ℕ} (lines_with size [] language) (lines_at size language)
lines size Dec = refl
lines size Utf8 = refl
lines size Xterm = refl

screen : (size : Size) (language : Language) → ◌≡◌ {A = List ℕ → List ℕ} (screen_with size [] language) (screen_at size language)
screen size language = ap {B = List ℕ → List ℕ} (λ (f : List ℕ → Played) (bytes : List ℕ). text (f bytes).state) (played size language)

abbrev moves_log : (left left_after held held_after : Option (List ℕ)) (result : Result (Unit {0}) Fault) (piece : ℕ) (f : Flags) (limit : ℕ)
    → (written ending : List ℕ → List ℕ) → Type 0
moves_log left left_after held held_after result piece f limit written ending =
    Moves left left_after held held_after (λ b w. OutputTable written ending always result piece b w f limit)

-- on a VT220's screen
pub log_as_before : (left left_after held held_after : Option (List ℕ)) (size : Size) (language : Language)
    (result : Result (Unit {0}) Fault) (piece : ℕ) (f : Flags) (limit : ℕ) → size ≡ vt220_size
    → moves_log left left_after held held_after result piece f limit (lines_with size [] language) (screen_with size [] language)
    → moves_log left left_after held held_after result piece f limit (lines_in language) (screen_in language)
log_as_before left left_after held held_after size language result piece f limit is moves =
    let written : lines_with size [] language ≡ lines_in language = lines size language ∙ ap (λ (s : Size). lines_at s language) is in
    let ending : screen_with size [] language ≡ screen_in language = screen size language ∙ ap (λ (s : Size). screen_at s language) is in
    coe 0 1 (ι. moves_log left left_after held held_after result piece f limit (written ι) (ending ι)) moves

-- before the first byte
pub of_log : (lines lines_due : List ℕ → List ℕ) (played played_due : List ℕ → Played) (left left_after held held_after : Option (List ℕ))
    (result : Result (Unit {0}) Fault) (piece : ℕ) (f : Flags) (limit : ℕ) → lines ≡ lines_due → played ≡ played_due
    → moves_log left left_after held held_after result piece f limit lines (λ bytes. text (played bytes).state)
    → moves_log left left_after held held_after result piece f limit lines_due (λ bytes. text (played_due bytes).state)
of_log lines lines_due played played_due left left_after held held_after result piece f limit same plays moves =
    coe 0 1 (ι. moves_log left left_after held held_after result piece f limit (same ι) (λ bytes. text (plays ι bytes).state)) moves

-- a trace before the first byte
pub of_trace : {K : Type 0} (m : Session K) (kept begun : TracedKept K) (resizes due : List Resize)
    (left left_after held held_after : Option (List ℕ)) (result : Result (Unit {0}) Fault) (piece : ℕ) (f : Flags) (limit : ℕ)
    → kept ≡ begun → due ≡ resizes
    → moves_log left left_after held held_after result piece f limit (λ bytes. traced_on m kept due bytes) (λ bytes. traced_end_on m kept due bytes)
    → moves_log left left_after held held_after result piece f limit (λ bytes. traced_on m begun resizes bytes) (λ bytes. traced_end_on m begun resizes bytes)
of_trace m kept begun resizes due left left_after held held_after result piece f limit same comes moves =
    coe 0 1 (ι. moves_log left left_after held held_after result piece f limit (λ bytes. traced_on m (same ι) (comes ι) bytes)
    (λ bytes. traced_end_on m (same ι) (comes ι) bytes)) moves
