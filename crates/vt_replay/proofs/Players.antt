-- The state and the reports that a player leaves of more bytes.
use Rattle.std.proofs.Common.{◌≡◌, ◌∙◌, ℕ, List, [], ◌++◌, ap}
use Rattle.vt_term.specs.State.{State}
use Rattle.vt_screen.specs.declared.size.Size.{Size}
use Rattle.vt_term.specs.Sound.{IsSoundAt, IsSoundSized}
use Rattle.vt_term.specs.Play.{play, both}
use Rattle.vt_term.specs.Scrolling.{log}
use Rattle.vt_utf8.specs.Decoding.{pending_after}
use Rattle.vt_utf8.specs.Play.{play_utf8, translated}
use Rattle.vt_xterm.specs.Play.{Whole, WholePlayed, FrontState, play_xterm, xterm_log, behind, both as both_whole}
use Rattle.vt_replay.specs.Playing.{on_terminal}
use Rattle.vt_replay.specs.Resizes.{Utf8Kept, XtermKept, utf8_session, xterm_session}

pub plain_on : (s t : State) (chunk more : List ℕ)
    → ((s : State) (a b : List ℕ) → play s (a ++ b) ≡ both (play s a) (play (play s a).state b))
    → t ≡ (play s chunk).state → play s (chunk ++ more) ≡ both (play s chunk) (play t more)
plain_on s t chunk more two state = rw state (two s chunk more)

pub utf8_on : (s t : State) (pending after chunk more : List ℕ)
    → ((size : Size) (s : State) (pending a b : List ℕ) → IsSoundAt size s → play_utf8 s pending (a ++ b)
    ≡ both (play_utf8 s pending a) (play_utf8 (play_utf8 s pending a).state (pending_after pending a) b))
    → IsSoundSized s → t ≡ (play_utf8 s pending chunk).state → after ≡ pending_after pending chunk
    → play_utf8 s pending (chunk ++ more) ≡ both (play_utf8 s pending chunk) (play_utf8 t after more)
utf8_on s t pending after chunk more two sound state left =
    rw (state, left) (two s.display.grid.size s pending chunk more sound)

-- the size stays
pub plain_stays : (s t : State) (chunk : List ℕ)
    → ((size : Size) (s : State) (bytes : List ℕ) → IsSoundAt size s → IsSoundAt size (play s bytes).state)
    → IsSoundSized s → t ≡ (play s chunk).state → t.display.grid.size ≡ s.display.grid.size
plain_stays s t chunk keeps sound state = rw state (keeps s.display.grid.size s chunk sound).display.of_size

pub utf8_stays : (s t : State) (pending chunk : List ℕ)
    → ((size : Size) (s : State) (pending bytes : List ℕ) → IsSoundAt size s → IsSoundAt size (play_utf8 s pending bytes).state)
    → IsSoundSized s → t ≡ (play_utf8 s pending chunk).state → t.display.grid.size ≡ s.display.grid.size
utf8_stays s t pending chunk keeps sound state = rw state (keeps s.display.grid.size s pending chunk sound).display.of_size

pub xterm_on : (s t : State) (front after : FrontState) (chunk more : List ℕ)
    → ((w : Whole) (pending a b : List ℕ) → play_xterm w pending (a ++ b)
    ≡ both_whole (play_xterm w pending a) (play_xterm (play_xterm w pending a).whole (pending_after pending a) b))
    → t ≡ (play_xterm (behind s front) front.pending chunk).whole.state
    → after.pages ≡ (play_xterm (behind s front) front.pending chunk).whole.pages
    → after.pending ≡ pending_after front.pending chunk
    → on_terminal (play_xterm (behind s front) front.pending (chunk ++ more))
    ≡ both (on_terminal (play_xterm (behind s front) front.pending chunk))
    (on_terminal (play_xterm (behind t after) after.pending more))
xterm_on s t front after chunk more two state pages left =
    rw (state, pages, left)
    (ap (λ (p : WholePlayed). on_terminal p) (two (behind s front) front.pending chunk more))

-- ---- what is kept

abbrev pub utf8_record : State → List ℕ → Utf8Kept
utf8_record s pending = record { state = s; pending = pending }

abbrev pub xterm_record : Whole → List ℕ → XtermKept
xterm_record w pending = record { whole = w; pending = pending }

pub utf8_kept : (s t : State) (pending after chunk more : List ℕ)
    → ((size : Size) (s : State) (pending a b : List ℕ) → IsSoundAt size s → play_utf8 s pending (a ++ b)
    ≡ both (play_utf8 s pending a) (play_utf8 (play_utf8 s pending a).state (pending_after pending a) b))
    → ((pending a b : List ℕ) → pending_after pending (a ++ b) ≡ pending_after (pending_after pending a) b)
    → IsSoundSized s → t ≡ (play_utf8 s pending chunk).state → after ≡ pending_after pending chunk
    → utf8_session.after (utf8_record s pending) (chunk ++ more) ≡ utf8_session.after (utf8_record t after) more
utf8_kept s t pending after chunk more two parts sound state left =
    let whole = utf8_on s t pending after chunk more two sound state left in
    let rest : pending_after pending (chunk ++ more) ≡ pending_after after more = rw left (parts pending chunk more) in
    λ ι. utf8_record (whole ι).state (rest ι)

pub xterm_kept : (s t : State) (front after : FrontState) (chunk more : List ℕ)
    → ((w : Whole) (pending a b : List ℕ) → play_xterm w pending (a ++ b)
    ≡ both_whole (play_xterm w pending a) (play_xterm (play_xterm w pending a).whole (pending_after pending a) b))
    → ((pending a b : List ℕ) → pending_after pending (a ++ b) ≡ pending_after (pending_after pending a) b)
    → t ≡ (play_xterm (behind s front) front.pending chunk).whole.state
    → after.pages ≡ (play_xterm (behind s front) front.pending chunk).whole.pages
    → after.pending ≡ pending_after front.pending chunk
    → xterm_session.after (xterm_record (behind s front) front.pending) (chunk ++ more)
    ≡ xterm_session.after (xterm_record (behind t after) after.pending) more
xterm_kept s t front after chunk more two parts state pages left =
    let whole : (play_xterm (behind s front) front.pending (chunk ++ more)).whole ≡ (play_xterm (behind t after) after.pending more).whole =
    rw (state, pages, left) (ap (λ (p : WholePlayed). p.whole) (two (behind s front) front.pending chunk more)) in
    let rest : pending_after front.pending (chunk ++ more) ≡ pending_after after.pending more = rw left (parts front.pending chunk more) in
    λ ι. xterm_record (whole ι) (rest ι)

-- ---- the log of more bytes

pub plain_lines : (s t : State) (chunk more : List ℕ)
    → ((s : State) (a b : List ℕ) → log s (a ++ b) ≡ log s a ++ log (play s a).state b)
    → t ≡ (play s chunk).state → log s (chunk ++ more) ≡ log s chunk ++ log t more
plain_lines s t chunk more log_two state = rw state (log_two s chunk more)

pub utf8_lines : (s t : State) (pending after chunk more : List ℕ)
    → ((size : Size) (s : State) (pending a b : List ℕ) → IsSoundAt size s → translated s pending (a ++ b)
    ≡ translated s pending a ++ translated (play_utf8 s pending a).state (pending_after pending a) b)
    → ((s : State) (a b : List ℕ) → log s (a ++ b) ≡ log s a ++ log (play s a).state b)
    → IsSoundSized s → t ≡ (play_utf8 s pending chunk).state → after ≡ pending_after pending chunk
    → log s (translated s pending (chunk ++ more)) ≡ log s (translated s pending chunk) ++ log t (translated t after more)
unfolding play_utf8 translated
utf8_lines s t pending after chunk more cut log_two sound state left =
    rw (state, left)
    (ap (λ (x : List ℕ). log s x) (cut s.display.grid.size s pending chunk more sound)
    ∙ log_two s (translated s pending chunk) (translated (play_utf8 s pending chunk).state (pending_after pending chunk) more))

pub xterm_lines : (s t : State) (front after : FrontState) (chunk more : List ℕ)
    → ((w : Whole) (pending a b : List ℕ) → xterm_log w pending (a ++ b)
    ≡ xterm_log w pending a ++ xterm_log (play_xterm w pending a).whole (pending_after pending a) b)
    → t ≡ (play_xterm (behind s front) front.pending chunk).whole.state
    → after.pages ≡ (play_xterm (behind s front) front.pending chunk).whole.pages
    → after.pending ≡ pending_after front.pending chunk
    → xterm_log (behind s front) front.pending (chunk ++ more)
    ≡ xterm_log (behind s front) front.pending chunk ++ xterm_log (behind t after) after.pending more
xterm_lines s t front after chunk more log_two state pages left = rw (state, pages, left) (log_two (behind s front) front.pending chunk more)

-- no bytes log nothing
pub utf8_log_none : (s : State) (pending : List ℕ) → ((size : Size) (s : State) → IsSoundAt size s → log s [] ≡ [])
    → IsSoundSized s → log s (translated s pending []) ≡ []
unfolding translated
utf8_log_none s pending none sound = none s.display.grid.size s sound
