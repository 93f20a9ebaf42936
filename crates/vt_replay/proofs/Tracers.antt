-- The trace of more bytes, and the tracer after them.
use Rattle.std.proofs.Common.{◌≡◌, ℕ, ◌+◌, List, [], ◌∷◌, ◌++◌, length, refl, arith}
use Rattle.vt_term.specs.State.{State}
use Rattle.vt_screen.specs.declared.size.Size.{Size}
use Rattle.vt_term.specs.Sound.{IsSoundAt, IsSoundSized}
use Rattle.vt_term.specs.Play.{play}
use Rattle.vt_utf8.specs.Decoding.{pending_after}
use Rattle.vt_utf8.specs.Play.{play_utf8}
use Rattle.vt_trace.specs.declared.tracing.Tracer.{Tracer}
use Rattle.vt_trace.specs.Trace.{trace, tracer_all, tracer_after}
use Rattle.vt_trace.specs.Utf8.{dialect_trace, dialect_tracer, trace_utf8, tracer_utf8}
use Rattle.vt_xterm.specs.Play.{Whole, FrontState, behind, play_xterm}
use Rattle.vt_xterm_trace.specs.Trace.{trace_xterm, tracer_xterm}

-- a place counts the bytes
pub place_after : (s : State) (t : Tracer) (bytes : List ℕ) → (tracer_all s t bytes).place ≡ t.place + length bytes
unfolding tracer_all tracer_after
place_after s t [] = omega arith
place_after s t (b ∷ bytes) =
    let more : (tracer_all (play s (b ∷ [])).state (tracer_after s t b) bytes).place ≡ (t.place + 1) + length bytes =
    place_after (play s (b ∷ [])).state (tracer_after s t b) bytes in
    omega (arith, more)

-- of no bytes nothing is written
pub no_trace : (s : State) (t : Tracer) → trace s t [] ≡ []
unfolding trace
no_trace s t = refl

pub no_tracer : (s : State) (t : Tracer) → tracer_all s t [] ≡ t
unfolding tracer_all
no_tracer s t = refl

module _ (s z : State) (t u : Tracer) (chunk more : List ℕ) (sound : IsSoundSized s) (state : z ≡ (play s chunk).state)
    (tracer : u ≡ tracer_all s t chunk) where
  pub plain_trace : ((size : Size) (s : State) (t : Tracer) (a b : List ℕ) → IsSoundAt size s → trace s t (a ++ b)
      ≡ trace s t a ++ trace (play s a).state (tracer_all s t a) b)
      → trace s t (chunk ++ more) ≡ trace s t chunk ++ trace z u more
  plain_trace two = rw (state, tracer) (two s.display.grid.size s t chunk more sound)

  pub plain_tracer : ((size : Size) (s : State) (t : Tracer) (a b : List ℕ) → IsSoundAt size s → tracer_all s t (a ++ b)
      ≡ tracer_all (play s a).state (tracer_all s t a) b)
      → tracer_all s t (chunk ++ more) ≡ tracer_all z u more
  plain_tracer two = rw (state, tracer) (two s.display.grid.size s t chunk more sound)

-- ---- UTF-8

pub no_utf8_trace : (s : State) (t : Tracer) (pending : List ℕ) → trace_utf8 s t pending [] ≡ []
unfolding dialect_trace
no_utf8_trace s t pending = refl

pub no_utf8_tracer : (s : State) (t : Tracer) (pending : List ℕ) → tracer_utf8 s t pending [] ≡ t
unfolding dialect_tracer
no_utf8_tracer s t pending = refl

module _ (s z : State) (t u : Tracer) (pending after chunk more : List ℕ) (sound : IsSoundSized s)
    (state : z ≡ (play_utf8 s pending chunk).state) (left : after ≡ pending_after pending chunk) (tracer : u ≡ tracer_utf8 s t pending chunk) where
  pub utf8_trace : ((size : Size) (s : State) (t : Tracer) (pending a b : List ℕ) → IsSoundAt size s
      → trace_utf8 s t pending (a ++ b) ≡ trace_utf8 s t pending a
      ++ trace_utf8 (play_utf8 s pending a).state (tracer_utf8 s t pending a) (pending_after pending a) b)
      → trace_utf8 s t pending (chunk ++ more) ≡ trace_utf8 s t pending chunk ++ trace_utf8 z u after more
  utf8_trace two = rw (state, left, tracer) (two s.display.grid.size s t pending chunk more sound)

  pub utf8_tracer : ((size : Size) (s : State) (t : Tracer) (pending a b : List ℕ) → IsSoundAt size s → tracer_utf8 s t pending (a ++ b)
      ≡ tracer_utf8 (play_utf8 s pending a).state (tracer_utf8 s t pending a) (pending_after pending a) b)
      → tracer_utf8 s t pending (chunk ++ more) ≡ tracer_utf8 z u after more
  utf8_tracer two = rw (state, left, tracer) (two s.display.grid.size s t pending chunk more sound)

-- ---- under TERM=xterm

pub no_xterm_tracer : (w : Whole) (t : Tracer) (pending : List ℕ) → tracer_xterm w t pending [] ≡ t
unfolding dialect_tracer
no_xterm_tracer w t pending = refl

module _ (s z : State) (front new : FrontState) (t u : Tracer) (chunk more : List ℕ)
    (state : z ≡ (play_xterm (behind s front) front.pending chunk).whole.state)
    (pages : new.pages ≡ (play_xterm (behind s front) front.pending chunk).whole.pages)
    (left : new.pending ≡ pending_after front.pending chunk) (tracer : u ≡ tracer_xterm (behind s front) t front.pending chunk) where
  pub xterm_trace : ((w : Whole) (t : Tracer) (pending a b : List ℕ) → trace_xterm w t pending (a ++ b) ≡ trace_xterm w t pending a
      ++ trace_xterm (play_xterm w pending a).whole (tracer_xterm w t pending a) (pending_after pending a) b)
      → trace_xterm (behind s front) t front.pending (chunk ++ more)
      ≡ trace_xterm (behind s front) t front.pending chunk ++ trace_xterm (behind z new) u new.pending more
  xterm_trace two = rw (state, pages, left, tracer) (two (behind s front) t front.pending chunk more)

  pub xterm_tracer : ((w : Whole) (t : Tracer) (pending a b : List ℕ) → tracer_xterm w t pending (a ++ b)
      ≡ tracer_xterm (play_xterm w pending a).whole (tracer_xterm w t pending a) (pending_after pending a) b)
      → tracer_xterm (behind s front) t front.pending (chunk ++ more) ≡ tracer_xterm (behind z new) u new.pending more
  xterm_tracer two = rw (state, pages, left, tracer) (two (behind s front) t front.pending chunk more)
