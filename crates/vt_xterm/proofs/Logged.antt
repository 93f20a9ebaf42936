-- The lines that are kept, in parts.
use Rattle.std.proofs.Common.{◌≡◌, ℕ, ◌+◌, List, [], ◌∷◌, ◌++◌, take, drop, sym, ap, ◌∙◌, subst, append-nil, Bool, true, false, Option, Some, None}
use Rattle.std.specs.Prelude.{flat_map, ◌≤◌, if◌then◌else◌}
use Rattle.std.proofs.Math.Seq.{take-add}
use Rattle.std.proofs.lemmas.Grind.{flat_map-append}
use Rattle.vt_syntax.specs.Laws.{SplitLaw}
use Rattle.vt_term.specs.Text.{line_text}
use Rattle.vt_syntax.specs.declared.event.Event.{Event}
use Rattle.vt_syntax.specs.Held.{events_from, held_from}
use Rattle.vt_term.specs.State.{State}
use Rattle.vt_term.specs.Scrolling.{scrolled_off}
use Rattle.vt_utf8.specs.Decoding.{pending_after}
use Rattle.vt_utf8.specs.Translation.{translation}
use Rattle.vt_xterm.specs.declared.sides.Sides.{Sides}
use Rattle.vt_xterm.specs.Pages.{PagesState, screens, bounds_of}
use Rattle.vt_xterm.specs.Log.{page_line_off, line_off_between, xterm_line_off, xterm_lines_off}
use Rattle.vt_xterm.specs.Play.{Whole, WholePlayed, screens_of, xterm_log}
use Rattle.vt_xterm.specs.Play.{play_bytes, play_character, play_characters, play_xterm, whole_of}
use Rattle.vt_xterm.specs.Terminals.{PlaysTerminals}
use Rattle.vt_utf8.specs.Logs.{AreKept}
use Rattle.vt_utf8.proofs.Logged.{Rows, keeps-nothing, keeps-both}
use Rattle.vt_xterm.proofs.Cuts.{bytes-two, characters-two, xterm-nothing, xterm-two}
use Rattle.vt_xterm.proofs.Terminals.{bytes-terminals}
use Rattle.vt_xterm.proofs.Fed.{character-beyond}

-- ---- the law of the log

pub log-nothing : (w : Whole) (pending : List ℕ) → xterm_log w pending [] ≡ []
log-nothing w pending = ap (λ (p : WholePlayed). flat_map line_text p.lines) (xterm-nothing w pending)

pub log-two : (w : Whole) (pending a b : List ℕ) → xterm_log w pending (a ++ b)
    ≡ xterm_log w pending a ++ xterm_log (play_xterm w pending a).whole (pending_after pending a) b
log-two w pending a b =
    ap (λ (p : WholePlayed). flat_map line_text p.lines) (xterm-two w pending a b)
    ∙ flat_map-append line_text (play_xterm w pending a).lines
    (play_xterm (play_xterm w pending a).whole (pending_after pending a) b).lines

-- ---- what is kept

module _ {O : Type 0} (Keeps : O → Rows → O → Type 0) (HasRoom IsFull : O → ℕ → Type 0) (kept : AreKept Keeps HasRoom IsFull) where
  pub keeps-bytes : SplitLaw → (w v : Whole) (piece : List ℕ) (at n : ℕ) (o p q : O)
      → v ≡ (play_bytes w (take at piece)).whole → Keeps o (play_bytes w (take at piece)).lines p
      → Keeps p (play_bytes v (take n (drop at piece))).lines q → Keeps o (play_bytes w (take (at + n) piece)).lines q
  keeps-bytes split w v piece at n o p q is first second =
      let a = take at piece in
      let b = take n (drop at piece) in
      keeps-both Keeps HasRoom IsFull kept o p q (play_bytes w a).lines (play_bytes v b).lines (play_bytes w (take (at + n) piece)).lines first second
      (ap (λ (bytes : List ℕ). (play_bytes w bytes).lines) (take-add at n piece)
      ∙ ap (λ (x : WholePlayed). x.lines) (bytes-two split w a b)
      ∙ ap (λ (x : Whole). (play_bytes w a).lines ++ (play_bytes x b).lines) (sym is))

  pub keeps-characters : (w v : Whole) (xs ys : List ℕ) (o p q : O) → v ≡ (play_characters w xs).whole
      → Keeps o (play_characters w xs).lines p → Keeps p (play_characters v ys).lines q
      → Keeps o (play_characters w (xs ++ ys)).lines q
  keeps-characters w v xs ys o p q is first second =
      keeps-both Keeps HasRoom IsFull kept o p q (play_characters w xs).lines (play_characters v ys).lines (play_characters w (xs ++ ys)).lines first
      second
      (ap (λ (x : WholePlayed). x.lines) (characters-two w xs ys)
      ∙ ap (λ (x : Whole). (play_characters w xs).lines ++ (play_characters x ys).lines) (sym is))

  -- ---- a character

  beyond-lines : (s : State) (pages : PagesState) (c : ℕ) → 0x80 ≤ c → bounds_of (screens s pages) ≡ None
      → (play_characters (whole_of s pages) (c ∷ [])).lines ≡ if pages.alternate then [] else scrolled_off s (translation s c)
  beyond-lines s pages c high none =
      append-nil (play_character (whole_of s pages) c).lines
      ∙ ap (λ (x : WholePlayed). x.lines) (character-beyond s pages c None high none)

  pub keeps-alternate : (s : State) (pages : PagesState) (c : ℕ) (o : O) → 0x80 ≤ c → bounds_of (screens s pages) ≡ None
      → pages.alternate ≡ true → Keeps o (play_characters (whole_of s pages) (c ∷ [])).lines o
  keeps-alternate s pages c o high none is =
      keeps-nothing Keeps HasRoom IsFull kept o (play_characters (whole_of s pages) (c ∷ [])).lines
      (beyond-lines s pages c high none ∙ ap (λ (b : Bool). if b then [] else scrolled_off s (translation s c)) is)

  pub keeps-main : (s : State) (pages : PagesState) (c : ℕ) (o p : O) → 0x80 ≤ c → bounds_of (screens s pages) ≡ None
      → pages.alternate ≡ false → Keeps o (scrolled_off s (translation s c)) p
      → Keeps o (play_characters (whole_of s pages) (c ∷ [])).lines p
  keeps-main s pages c o p high none is keeps =
      subst (λ (rows : Rows). Keeps o rows p)
      (sym (beyond-lines s pages c high none ∙ ap (λ (b : Bool). if b then [] else scrolled_off s (translation s c)) is))
      keeps

  -- between left and right margins no line scrolls off
  pub keeps-between : (s : State) (pages : PagesState) (c : ℕ) (m : Sides) (o : O) → 0x80 ≤ c
      → bounds_of (screens s pages) ≡ Some m → Keeps o (play_characters (whole_of s pages) (c ∷ [])).lines o
  keeps-between s pages c m o high bounds =
      keeps-nothing Keeps HasRoom IsFull kept o (play_characters (whole_of s pages) (c ∷ [])).lines
      (append-nil (play_character (whole_of s pages) c).lines
      ∙ ap (λ (x : WholePlayed). x.lines) (character-beyond s pages c (Some m) high bounds))

  -- ---- bytes whose events are a VT220's

  terminals-lines : (s : State) (pages : PagesState) (bytes : List ℕ) → pages.sides ≡ None → PlaysTerminals s bytes
      → (play_bytes (whole_of s pages) bytes).lines ≡ if pages.alternate then [] else scrolled_off s bytes
  terminals-lines s pages bytes none all = ap (λ (x : WholePlayed). x.lines) (bytes-terminals (whole_of s pages) bytes none all)

  pub terminals-alternate : (s : State) (pages : PagesState) (bytes : List ℕ) (o : O) → pages.sides ≡ None → PlaysTerminals s bytes
      → pages.alternate ≡ true → Keeps o (play_bytes (whole_of s pages) bytes).lines o
  terminals-alternate s pages bytes o none all is =
      keeps-nothing Keeps HasRoom IsFull kept o (play_bytes (whole_of s pages) bytes).lines
      (terminals-lines s pages bytes none all ∙ ap (λ (b : Bool). if b then [] else scrolled_off s bytes) is)

  pub terminals-main : (s : State) (pages : PagesState) (bytes : List ℕ) (o p : O) → pages.sides ≡ None → PlaysTerminals s bytes
      → pages.alternate ≡ false → Keeps o (scrolled_off s bytes) p → Keeps o (play_bytes (whole_of s pages) bytes).lines p
  terminals-main s pages bytes o p none all is keeps =
      subst (λ (rows : Rows). Keeps o rows p)
      (sym (terminals-lines s pages bytes none all ∙ ap (λ (b : Bool). if b then [] else scrolled_off s bytes) is)) keeps

  -- ---- bytes without an event, and bytes that are one event

  pub part-keeps : (w : Whole) (bytes : List ℕ) (o : O) → events_from w.state.held bytes ≡ []
      → Keeps o (play_bytes w bytes).lines o
  unfolding play_bytes
  part-keeps w bytes o none =
      keeps-nothing Keeps HasRoom IsFull kept o (xterm_lines_off (events_from w.state.held bytes) (screens_of w))
      (ap (λ (events : List Event). xterm_lines_off events (screens_of w)) none)

  pub event-keeps : (s mid : State) (pages : PagesState) (bytes : List ℕ) (event : Event) (o p : O)
      → events_from s.held bytes ≡ event ∷ [] → mid ≡ record s { held = held_from s.held bytes }
      → Keeps o (xterm_line_off event (screens mid pages)) p → Keeps o (play_bytes (whole_of s pages) bytes).lines p
  unfolding play_bytes
  event-keeps s mid pages bytes event o p is read keeps =
      subst (λ (rows : Rows). Keeps o rows p)
      (ap (λ (m : State). xterm_line_off event (screens m pages)) read
      ∙ sym (ap (λ (events : List Event). xterm_lines_off events (screens s pages)) is
      ∙ append-nil (xterm_line_off event (screens s pages))))
      keeps

  pub alternate-keeps : (s : State) (pages : PagesState) (event : Event) (o : O) → pages.alternate ≡ true
      → Keeps o (xterm_line_off event (screens s pages)) o
  alternate-keeps s pages event o is =
      keeps-nothing Keeps HasRoom IsFull kept o (xterm_line_off event (screens s pages))
      (ap (λ (b : Bool). if b then [] else line_off_between event (bounds_of (screens s pages)) s.display) is)

  line-is : (s : State) (pages : PagesState) (event : Event) (b : Option Sides) → pages.alternate ≡ false
      → bounds_of (screens s pages) ≡ b → xterm_line_off event (screens s pages) ≡ line_off_between event b s.display
  line-is s pages event b is bounds =
      ap (λ (x : Bool). if x then [] else line_off_between event (bounds_of (screens s pages)) s.display) is
      ∙ ap (λ (x : Option Sides). line_off_between event x s.display) bounds

  pub main-keeps : (s : State) (pages : PagesState) (event : Event) (o p : O) → pages.alternate ≡ false
      → bounds_of (screens s pages) ≡ None → Keeps o (page_line_off event s.display) p
      → Keeps o (xterm_line_off event (screens s pages)) p
  main-keeps s pages event o p is none keeps =
      subst (λ (rows : Rows). Keeps o rows p) (sym (line-is s pages event None is none)) keeps

  pub between-keeps : (s : State) (pages : PagesState) (event : Event) (m : Sides) (o : O) → pages.alternate ≡ false
      → bounds_of (screens s pages) ≡ Some m → Keeps o (xterm_line_off event (screens s pages)) o
  between-keeps s pages event m o is bounds =
      keeps-nothing Keeps HasRoom IsFull kept o (xterm_line_off event (screens s pages)) (line-is s pages event (Some m) is bounds)
