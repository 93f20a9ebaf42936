-- The result of feeding.
use Rattle.std.proofs.Common.{◌≡◌, ℕ, ◌+◌, List, [], ◌∷◌, ◌++◌, take, drop, refl, sym, ap, ◌∙◌, append_assoc, subst, false, arith, None, Option, Some}
use Rattle.std.specs.Prelude.{◌≤◌, nat_lt}
use Rattle.std.proofs.lemmas.Bool.Decides.{nat_tests}
use Rattle.std.proofs.Common.{append-nil}
use Rattle.std.proofs.Math.Seq.{take-add}
use Rattle.std.proofs.lemmas.List.{take_all}
use Rattle.vt_syntax.specs.declared.event.Event.{Event}
use Rattle.vt_syntax.specs.declared.event.Event.TheVariants.{Sequence}
use Rattle.vt_syntax.specs.declared.held.Held.{Held}
use Rattle.vt_syntax.specs.Held.{IsHeldPart, events_from, held_from}
use Rattle.vt_syntax.specs.Laws.{SplitLaw}
use Rattle.vt_term.specs.State.{State}
use Rattle.vt_term.specs.Reports.{report}
use Rattle.vt_term.specs.Play.{play}
use Rattle.vt_utf8.specs.Translation.{translation}
use Rattle.vt_term.specs.Observing.{Feeds, happenings_of}
use Rattle.vt_xterm.specs.Pages.{PagesState, Screens, screens, shown_by}
use Rattle.vt_xterm.specs.declared.sides.Sides.{Sides}
use Rattle.vt_xterm.specs.Pages.{bounds_of}
use Rattle.vt_xterm.specs.Bounded.{held_beyond}
use Rattle.vt_xterm.specs.Front.{xterm_effect, function_in, functions_of, plain_functions}
use Rattle.vt_xterm.specs.Play.{Whole, WholePlayed, both, play_bytes, after_events, play_beyond, screens_beyond}
use Rattle.vt_xterm.specs.Play.{play_character, play_characters, nothing_played, whole_of}
use Rattle.vt_xterm.specs.Terminals.{PlaysTerminals}
use Rattle.vt_xterm.specs.Private.Feeds.{Leaves, FeedsBytes}
use Rattle.vt_xterm.specs.Private.Profiles.{screens_on, unbounded}
use Rattle.vt_xterm.specs.Private.Finding.{SetsNone, AllKeepNone}
use Rattle.vt_xterm.proofs.Cuts.{bytes-two, bytes-nothing}
use Rattle.vt_xterm.proofs.NoSides.{events-on, after-none, reports-none}
use Rattle.vt_xterm.proofs.Terminals.{bytes-terminals}

-- one play after another
pub leaves-both : (p q r : WholePlayed) (v u : Whole) (before mid after : List ℕ) → Leaves p v before mid
    → Leaves q u mid after → r ≡ both p q → Leaves r u before after
leaves-both p q r v u before mid after first second is = record {
  whole = second.whole ∙ ap (λ (x : WholePlayed). x.whole) (sym is);
  reports = second.reports ∙ ap (λ (o : List ℕ). o ++ q.reports) first.reports
      ∙ append_assoc before p.reports q.reports
      ∙ ap (λ (x : WholePlayed). before ++ x.reports) (sym is);
}

pub leaves-nothing : (p : WholePlayed) (w : Whole) (out : List ℕ) → p ≡ nothing_played w → Leaves p w out out
leaves-nothing p w out is = record {
  whole = ap (λ (x : WholePlayed). x.whole) (sym is);
  reports = sym (append-nil out) ∙ ap (λ (x : WholePlayed). out ++ x.reports) (sym is);
}

-- ---- bytes of the terminal

pub feeds-nothing : SplitLaw → (w : Whole) (out : List ℕ) → IsHeldPart w.state.held → FeedsBytes w [] w out out
feeds-nothing split w out held = leaves-nothing (play_bytes w []) w out (bytes-nothing split w held)

pub feeds-more : SplitLaw → (w v u : Whole) (piece : List ℕ) (at n : ℕ) (before out after : List ℕ)
    → FeedsBytes w (take at piece) v before out → FeedsBytes v (take n (drop at piece)) u out after
    → FeedsBytes w (take (at + n) piece) u before after
feeds-more split w v u piece at n before out after first second =
    let a = take at piece in
    let b = take n (drop at piece) in
    let two : play_bytes w (a ++ b) ≡ both (play_bytes w a) (play_bytes v b) =
    bytes-two split w a b ∙ ap (λ (x : Whole). both (play_bytes w a) (play_bytes x b)) (sym first.whole) in
    rw (take-add at n piece) (leaves-both (play_bytes w a) (play_bytes v b) (play_bytes w (a ++ b)) v u before out after
    first second two)

-- bytes that the profile plays, of which none sets DECLRMM
pub feeds-profile : SplitLaw → (s t : State) (pages q : PagesState) (bytes before after : List ℕ) → IsHeldPart s.held
    → pages.sides ≡ None → SetsNone (happenings_of unbounded screens_on s pages bytes)
    → Feeds unbounded screens_on s pages bytes t q before after → FeedsBytes (whole_of s pages) bytes (whole_of t q) before after
unfolding play_bytes
feeds-profile split s t pages q bytes before after held none saw fed =
    let events = events_from s.held bytes in
    let x = screens s pages in
    let quiet : AllKeepNone events = subst AllKeepNone (events-on split unbounded x s.held bytes held) saw in
    let are : screens_on t.display q ≡ after_events events x = fed.screens_are ∙ after-none events x quiet none in
    record {
      whole = rw (ap (λ (y : Screens). y.display) are, ap (λ (y : Screens). y.pages) are, fed.held) refl;
      reports = fed.reports ∙ ap (λ (r : List ℕ). before ++ r) (reports-none events x quiet none);
    }

-- a control sequence of the profile
pub values-screens : (t : State) (q : PagesState) (s : Screens) (h : Held) (params : List ℕ) (last : ℕ)
    → t ≡ shown_by (function_in plain_functions (Sequence None (record { items = params }) None last) last params s) h
    → q ≡ (function_in plain_functions (Sequence None (record { items = params }) None last) last params s).pages
    → screens_on t.display q ≡ unbounded.effect (Sequence None (record { items = params }) None last) s
unfolding functions_of
values-screens t q s h params last is kept = rw (is, kept) refl

-- bytes whose events are a VT220's
pub feeds-terminals : (s t : State) (pages : PagesState) (bytes before after : List ℕ) → pages.sides ≡ None
    → PlaysTerminals s bytes
    → t ≡ (play s bytes).state → after ≡ before ++ (play s bytes).reports
    → FeedsBytes (whole_of s pages) bytes (whole_of t pages) before after
feeds-terminals s t pages bytes before after none all left told =
    let is = bytes-terminals (whole_of s pages) bytes none all in record {
      whole = ap (λ (x : State). whole_of x pages) left ∙ ap (λ (p : WholePlayed). p.whole) (sym is);
      reports = told ∙ ap (λ (p : WholePlayed). before ++ p.reports) (sym is);
    }

-- bytes without an event, and bytes that are one event
pub feeds-part : (w : Whole) (t : State) (bytes out : List ℕ) → events_from w.state.held bytes ≡ []
    → t ≡ record w.state { held = held_from w.state.held bytes }
    → FeedsBytes w bytes (whole_of t w.pages) out out
unfolding play_bytes
feeds-part w t bytes out none left = record {
  whole = rw (none, left) refl;
  reports = rw none (sym (append-nil out));
}

feeds-effect : (s t : State) (pages q : PagesState) (bytes : List ℕ) (event : Event) (before after : List ℕ)
    → events_from s.held bytes ≡ event ∷ []
    → t ≡ shown_by (xterm_effect event (screens s pages)) (held_from s.held bytes)
    → q ≡ (xterm_effect event (screens s pages)).pages → after ≡ before ++ report event s.display
    → FeedsBytes (whole_of s pages) bytes (whole_of t q) before after
unfolding play_bytes
feeds-effect s t pages q bytes event before after is left kept told = record {
  whole = rw (is, left, kept) refl;
  reports = rw is (told ∙ ap (λ (r : List ℕ). before ++ r) (sym (append-nil (report event s.display))));
}

-- the event is carried out when its bytes are read
pub feeds-event : (s mid t : State) (pages q : PagesState) (bytes : List ℕ) (event : Event) (before after : List ℕ)
    → events_from s.held bytes ≡ event ∷ [] → mid ≡ record s { held = held_from s.held bytes }
    → t ≡ shown_by (xterm_effect event (screens mid pages)) mid.held
    → q ≡ (xterm_effect event (screens mid pages)).pages → after ≡ before ++ report event mid.display
    → FeedsBytes (whole_of s pages) bytes (whole_of t q) before after
feeds-event s mid t pages q bytes event before after is read left kept told =
    subst (λ (m : State). t ≡ shown_by (xterm_effect event (screens m pages)) m.held
    → q ≡ (xterm_effect event (screens m pages)).pages → after ≡ before ++ report event m.display
    → FeedsBytes (whole_of s pages) bytes (whole_of t q) before after) (sym read)
    (λ one two three. feeds-effect s t pages q bytes event before after is one two three) left kept told

-- ---- a character

-- beyond ASCII it is played as on a VT220, or between left and right margins
pub character-beyond : (s : State) (pages : PagesState) (c : ℕ) (b : Option Sides) → 0x80 ≤ c → bounds_of (screens s pages) ≡ b
    → play_character (whole_of s pages) c ≡ play_beyond (whole_of s pages) b c
unfolding play_character
character-beyond s pages c b high bounds =
    let is : nat_lt c 0x80 ≡ false = grind (arith, nat_tests) in
    rw is (ap (λ (x : Option Sides). play_beyond (whole_of s pages) x c) bounds)

silent-beyond : (s : State) (pages : PagesState) (c : ℕ) → 0x80 ≤ c → bounds_of (screens s pages) ≡ None
    → (play s (translation s c)).reports ≡ [] → (play_characters (whole_of s pages) (c ∷ [])).reports ≡ []
silent-beyond s pages c high none silent =
    append-nil (play_character (whole_of s pages) c).reports
    ∙ ap (λ (p : WholePlayed). p.reports) (character-beyond s pages c None high none) ∙ silent

pub leaves-beyond : (s t : State) (pages : PagesState) (c : ℕ) (out after : List ℕ) → 0x80 ≤ c
    → bounds_of (screens s pages) ≡ None → t ≡ (play s (translation s c)).state → (play s (translation s c)).reports ≡ []
    → after ≡ out → Leaves (play_characters (whole_of s pages) (c ∷ [])) (whole_of t pages) out after
leaves-beyond s t pages c out after high none left silent same = record {
  whole = ap (λ (x : State). whole_of x pages) left
      ∙ ap (λ (p : WholePlayed). p.whole) (sym (character-beyond s pages c None high none));
  reports = same ∙ sym (ap (λ (r : List ℕ). out ++ r) (silent-beyond s pages c high none silent) ∙ append-nil out);
}

pub leaves-between : (s t : State) (pages q : PagesState) (c : ℕ) (m : Sides) (out : List ℕ) → 0x80 ≤ c
    → bounds_of (screens s pages) ≡ Some m → t ≡ shown_by (screens_beyond m c (whole_of s pages)) (held_beyond s.held)
    → q ≡ (screens_beyond m c (whole_of s pages)).pages
    → Leaves (play_characters (whole_of s pages) (c ∷ [])) (whole_of t q) out out
leaves-between s t pages q c m out high bounds left kept =
    let is = character-beyond s pages c (Some m) high bounds in record {
      whole = rw (left, kept) (ap (λ (p : WholePlayed). p.whole) (sym is));
      reports = sym (ap (λ (r : List ℕ). out ++ r)
          (append-nil (play_character (whole_of s pages) c).reports ∙ ap (λ (p : WholePlayed). p.reports) is) ∙ append-nil out);
    }

pub one-byte : (n b : ℕ) → 1 ≤ n → take n (b ∷ []) ≡ b ∷ []
one-byte n b some = take_all n (b ∷ []) (omega (arith, some))
