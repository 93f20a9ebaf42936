-- Bytes that are played may be cut anywhere.
use Rattle.std.proofs.Common.{◌≡◌, ℕ, suc, ◌<◌, true, List, [], ◌∷◌, ◌++◌, All, refl, sym, ap, ◌∙◌, arith, append_assoc}
use Rattle.std.specs.Prelude.{nat_lt}
use Rattle.std.proofs.lemmas.Bool.Decides.{nat_tests}
use Rattle.std.proofs.lemmas.List.Sums.{fold-append}
use Rattle.vt_syntax.specs.declared.event.Event.{Event}
use Rattle.vt_syntax.specs.Held.{IsHeldPart, spell, events_from, held_from}
use Rattle.vt_syntax.specs.Laws.{SplitLaw}
use Rattle.vt_screen.specs.declared.cell.Cell.{Cell}
use Rattle.vt_term.specs.Reports.{report}
use Rattle.vt_term.specs.Play.{joined}
use Rattle.vt_utf8.specs.Decoding.{characters, pending_after}
use Rattle.vt_utf8.proofs.Cuts.{characters-append, ascii-characters}
use Rattle.vt_xterm.specs.Pages.{Screens}
use Rattle.vt_xterm.specs.Front.{xterm_effect}
use Rattle.vt_xterm.specs.Play.{Whole, WholePlayed, screens_of, after_events, reports_of, play_bytes, play_character, both}
use Rattle.vt_xterm.specs.Play.{play_characters, play_xterm, play_xterm_all, nothing_played}
use Rattle.vt_xterm.specs.Log.{xterm_line_off, xterm_lines_off}

pub both-assoc : (a b c : WholePlayed) → both a (both b c) ≡ both (both a b) c
both-assoc a b c =
    rw (append_assoc a.reports b.reports c.reports, append_assoc a.lines b.lines c.lines) refl

-- ---- events and bytes

pub after_events-append : (xs ys : List Event) (s : Screens)
    → after_events (xs ++ ys) s ≡ after_events ys (after_events xs s)
after_events-append xs ys s = fold-append (λ t event. xterm_effect event t) s xs ys

pub reports_of-append : (xs ys : List Event) (s : Screens)
    → reports_of (xs ++ ys) s ≡ reports_of xs s ++ reports_of ys (after_events xs s)
reports_of-append [] ys s = refl
reports_of-append (x ∷ xs) ys s =
    ap (λ (t : List ℕ). report x s.display ++ t) (reports_of-append xs ys (xterm_effect x s))
    ∙ sym (append_assoc (report x s.display) (reports_of xs (xterm_effect x s))
    (reports_of ys (after_events xs (xterm_effect x s))))

lines_off-append : (xs ys : List Event) (s : Screens)
    → xterm_lines_off (xs ++ ys) s ≡ xterm_lines_off xs s ++ xterm_lines_off ys (after_events xs s)
lines_off-append [] ys s = refl
lines_off-append (x ∷ xs) ys s =
    ap (λ (t : List (List Cell)). xterm_line_off x s ++ t) (lines_off-append xs ys (xterm_effect x s))
    ∙ sym (append_assoc (xterm_line_off x s) (xterm_lines_off xs (xterm_effect x s))
    (xterm_lines_off ys (after_events xs (xterm_effect x s))))

module _ (split : SplitLaw) where
  pub bytes-two : (w : Whole) (a b : List ℕ)
      → play_bytes w (a ++ b) ≡ both (play_bytes w a) (play_bytes (play_bytes w a).whole b)
  unfolding play_bytes
  bytes-two w a b =
      let first = events_from w.state.held a in
      let second = events_from (held_from w.state.held a) b in
      rw (
        split.events_append w.state.held a b,
        split.held_append w.state.held a b,
        after_events-append first second (screens_of w),
        reports_of-append first second (screens_of w),
        lines_off-append first second (screens_of w),
      ) refl

  pub bytes-nothing : (w : Whole) → IsHeldPart w.state.held → play_bytes w [] ≡ nothing_played w
  unfolding play_bytes
  bytes-nothing w held = rw (split.events_nil w.state.held held, split.held_nil w.state.held held) refl

  bytes-held : (w : Whole) (bytes : List ℕ) → IsHeldPart (play_bytes w bytes).whole.state.held
  unfolding play_bytes
  bytes-held w bytes = split.held_part (spell w.state.held ++ bytes)

-- ---- characters

pub characters-two : (w : Whole) (xs ys : List ℕ)
    → play_characters w (xs ++ ys) ≡ both (play_characters w xs) (play_characters (play_characters w xs).whole ys)
characters-two w [] ys = refl
characters-two w (c ∷ xs) ys =
    let one = play_character w c in
    ap (λ (p : WholePlayed). both one p) (characters-two one.whole xs ys)
    ∙ both-assoc one (play_characters one.whole xs) (play_characters (play_characters one.whole xs).whole ys)

pub xterm-nothing : (w : Whole) (pending : List ℕ) → play_xterm w pending [] ≡ nothing_played w
unfolding play_xterm
xterm-nothing w pending = refl

pub xterm-two : (w : Whole) (pending a b : List ℕ) → play_xterm w pending (a ++ b)
    ≡ both (play_xterm w pending a) (play_xterm (play_xterm w pending a).whole (pending_after pending a) b)
unfolding play_xterm
xterm-two w pending a b =
    ap (λ (cs : List ℕ). play_characters w cs) (characters-append pending a b)
    ∙ characters-two w (characters pending a) (characters (pending_after pending a) b)

pub xterm-joined : (w : Whole) (pending : List ℕ) (pieces : List (List ℕ))
    → play_xterm_all w pending pieces ≡ play_xterm w pending (joined pieces)
xterm-joined w pending [] = sym (xterm-nothing w pending)
xterm-joined w pending (piece ∷ pieces) =
    ap (λ (p : WholePlayed). both (play_xterm w pending piece) p)
    (xterm-joined (play_xterm w pending piece).whole (pending_after pending piece) pieces)
    ∙ sym (xterm-two w pending piece (joined pieces))

-- ---- ASCII

pub character-ascii : (w : Whole) (b : ℕ) → b < 0x80 → play_character w b ≡ play_bytes w (b ∷ [])
unfolding play_character
character-ascii w b low = let is : nat_lt b 0x80 ≡ true = grind (arith, nat_tests) in rw is refl

pub characters-ascii : SplitLaw → (w : Whole) (bytes : List ℕ) → IsHeldPart w.state.held → All (λ b. b < 0x80) bytes
    → play_characters w bytes ≡ play_bytes w bytes
characters-ascii split w [] held all = sym (bytes-nothing split w held)
characters-ascii split w (b ∷ bytes) held all =
    let first = play_bytes w (b ∷ []) in
    let rest : All (λ b. b < 0x80) bytes = λ k d less. all (suc k) d (omega (arith, less)) in
    ap (λ (p : WholePlayed). both p (play_characters p.whole bytes)) (character-ascii w b (all 0 0 (omega arith)))
    ∙ ap (λ (p : WholePlayed). both first p)
    (characters-ascii split first.whole bytes (bytes-held split w (b ∷ [])) rest)
    ∙ sym (bytes-two split w (b ∷ []) bytes)

pub xterm-ascii : SplitLaw → (w : Whole) (bytes : List ℕ) → IsHeldPart w.state.held → All (λ b. b < 0x80) bytes
    → play_xterm w [] bytes ≡ play_bytes w bytes
unfolding play_xterm
xterm-ascii split w bytes held all =
    ap (λ (cs : List ℕ). play_characters w cs) (ascii-characters bytes all) ∙ characters-ascii split w bytes held all
