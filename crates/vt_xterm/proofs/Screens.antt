-- The result of the alternate page.
use Rattle.std.proofs.Common.{◌≡◌, ℕ, ◌≤◌, Bool, true, false, List, [], ◌∷◌, ◌++◌, Option, Some, None, refl, sym, ap, subst, ◌∙◌, arith, append-nil}
use Rattle.std.specs.Prelude.{◌==◌, ◌&&◌, not, min, max, if◌then◌else◌}
use Rattle.std.specs.List.{list_any}
use Rattle.std.proofs.lemmas.List.Sums.{fold-append}
use Rattle.std.proofs.lemmas.List.Elements.{All-from_recursion}
use Rattle.std.proofs.lemmas.Bool.Decides.{nat_tests}
use Rattle.vt_syntax.specs.declared.event.Event.{Event}
use Rattle.vt_syntax.specs.declared.event.Event.TheVariants.{Sequence}
use Rattle.vt_syntax.specs.declared.held.Held.{Held}
use Rattle.vt_syntax.specs.declared.held.Held.TheVariants.{Nothing}
use Rattle.vt_syntax.specs.Held.{IsHeldPart, events_from, held_from}
use Rattle.vt_syntax.specs.Reading.{events_of}
use Rattle.vt_syntax.specs.Spelling.{IsEvent, spell_event}
use Rattle.vt_syntax.specs.Laws.{SplitLaw, SpellingLaw}
use Rattle.vt_screen.specs.Sizes.{vt220_size, width_of}
use Rattle.vt_term.specs.State.{Display, at_place}
use Rattle.vt_term.specs.Pages.{page_of, with_page}
use Rattle.vt_term.specs.Saving.{save_cursor, restore_cursor}
use Rattle.vt_term.specs.Sound.{IsSoundDisplay}
use Rattle.vt_term.specs.Pages.{IsSoundPage}
use Rattle.vt_term.proofs.Bytes.{nothing-held}
use Rattle.vt_xterm.specs.declared.sides.Sides.{Sides}
use Rattle.vt_xterm.specs.Sides.{bounds, is_between}
use Rattle.vt_xterm.specs.Pages.{Screens, PagesState, show_and_save, with_page_mode, bounds_of, restored, unwrapped, change_sides}
use Rattle.vt_xterm.specs.Bounded.{bounded_effect}
use Rattle.vt_xterm.specs.Front.{functions_of, function_in, effect_between, xterm_effect, is_page_function, is_side_function}
use Rattle.vt_xterm.specs.Front.{alternate_page, into_alternate, through_alternate}
use Rattle.vt_xterm.specs.Play.{Whole, IsSoundWhole, screens_of, after_events, play_bytes}
use Rattle.vt_xterm.proofs.NoSides.{none-bounds, events-none}
use Rattle.vt_xterm.proofs.SoundScreens.{fitted-sound}
use Rattle.vt_xterm.proofs.Stays.{neither, then-but, event-but}

same-width : (a b : ℕ) → a ≡ b → (a == b) ≡ true
same-width a b is = grind (arith, nat_tests)

twice : (sides : Option Sides) → change_sides (λ m. record m { wrap = false }) (change_sides (λ m. record m { wrap = false }) sides)
    ≡ change_sides (λ m. record m { wrap = false }) sides
twice None = refl
twice (Some m) = refl

pub back-again : (s : Screens) (t : Display) → s.pages.alternate ≡ false → t.grid.width ≡ s.display.grid.width
    → show_and_save false (record (show_and_save true s) { display = t }) ≡ record {
      display = restored (bounds_of (unwrapped s)) (with_page (page_of (save_cursor s.display)) t);
      pages = record {
        other = page_of t;
        alternate = false;
        resizes = s.pages.resizes;
        brackets = s.pages.brackets;
        sides = (unwrapped s).pages.sides;
      };
    }
back-again s t main width =
    let same : (s.display.grid.width == t.grid.width) ≡ true =
    same-width s.display.grid.width t.grid.width (omega (arith, width)) in
    rw (main, same, twice s.pages.sides) refl

-- if DECLRMM is reset
pub back-reset : (s : Screens) (t : Display) → s.pages.sides ≡ None → s.pages.alternate ≡ false
    → t.grid.width ≡ s.display.grid.width
    → show_and_save false (record (show_and_save true s) { display = t }) ≡ record {
      display = restore_cursor (with_page (page_of (save_cursor s.display)) t);
      pages = record {
        other = page_of t;
        alternate = false;
        resizes = s.pages.resizes;
        brackets = s.pages.brackets;
        sides = None;
      };
    }
unfolding bounds
back-reset s t none main width =
    let made : Option Sides → Screens = λ sides. record {
      display = restored (bounds s.display.grid.width sides) (with_page (page_of (save_cursor s.display)) t);
      pages = record {
        other = page_of t;
        alternate = false;
        resizes = s.pages.resizes;
        brackets = s.pages.brackets;
        sides = sides;
      };
    } in
    back-again s t main width ∙ ap (λ (sides : Option Sides). made (change_sides (λ m. record m { wrap = false }) sides)) none

-- whatever came of ?2004 and of the margins in between
back-shown : (s : Screens) (t : Display) (on : Bool) (sides : Option Sides) → s.pages.alternate ≡ false
    → t.grid.width ≡ s.display.grid.width
    → (show_and_save false (record {
      display = t;
      pages = record (show_and_save true s).pages { brackets = on; sides = sides };
    })).display ≡ restored (bounds s.display.grid.width sides) (with_page (page_of (save_cursor s.display)) t)
back-shown s t on sides main width =
    let same : (s.display.grid.width == t.grid.width) ≡ true =
    same-width s.display.grid.width t.grid.width (omega (arith, width)) in
    rw (main, same) refl

-- what is restored has the same cells, and without DECOM the same cursor, whatever bounds it
pub restored-grid : (b : Option Sides) (s : Display) → (restored b s).grid ≡ s.grid
restored-grid None s = refl
restored-grid (Some m) s = go ((restore_cursor s).modes.decom && not (is_between m (restore_cursor s)))
  where
    go : (c : Bool) → (if c then record (restore_cursor s) {
      cursor = at_place (restore_cursor s).cursor.row (max m.left (min (restore_cursor s).cursor.col m.right));
    } else restore_cursor s).grid ≡ s.grid
    go true = refl
    go false = refl

pub restored-same : (b : Option Sides) (s : Display) → s.saved.origin ≡ false → restored b s ≡ restore_cursor s
restored-same None s origin = refl
restored-same (Some m) s origin = rw origin refl

-- ---- bytes between ?1049h and ?1049l

is_event : (last : ℕ) → 0x40 ≤ last → last ≤ 0x7E
    → IsEvent (Sequence (Some 0x3F) (record { items = 1049 ∷ [] }) None last)
is_event last low high = record {
  is_marker = (omega arith, omega arith);
  are_values = record {
    some = omega arith;
    few = omega arith;
    small = All-from_recursion (λ v. v ≤ 9999) (1049 ∷ []) (omega arith, tt);
  };
  is_intermediate = tt;
  low = low;
  high = high;
}

pub on-event : IsEvent (alternate_page true)
on-event = is_event 0x68 (omega arith) (omega arith)

pub off-event : IsEvent (alternate_page false)
off-event = is_event 0x6C (omega arith) (omega arith)

pub stay : (events : List Event) (s : Screens) → list_any is_page_function events ≡ false
    → ((after_events events s).pages ≡ record s.pages {
      brackets = (after_events events s).pages.brackets;
      sides = (after_events events s).pages.sides;
    })
    × ((after_events events s).display.grid.width ≡ s.display.grid.width)
stay [] s none = (refl, refl)
stay (event ∷ events) s none =
    let no = neither (is_page_function event) (list_any is_page_function events) none in
    let t = xterm_effect event s in
    let first = event-but event no.0 s in
    let rest = stay events t no.1 in
    (then-but s t (after_events events t) first.0 rest.0, rest.1 ∙ first.1)

pub shown-width : (s : Screens) → s.pages.alternate ≡ false → IsSoundDisplay s.display → IsSoundPage s.pages.other
    → (show_and_save true s).display.grid.width ≡ s.display.grid.width
shown-width s main display other =
    let shape = display.grid.shape.width in
    rw main (fitted-sound vt220_size s.display.grid.width shape.0 s.pages.other
    (shape.1 ∙ ap (λ z. width_of z shape.0) display.of_size) other).1

alternate-effect : (on : Bool) (b : Option Sides) (s : Screens) → effect_between (alternate_page on) b s ≡ show_and_save on s
unfolding functions_of function_in with_page_mode bounded_effect
alternate-effect true None s = refl
alternate-effect true (Some m) s = refl
alternate-effect false None s = refl
alternate-effect false (Some m) s = refl

pub on-effect : (s : Screens) → xterm_effect (alternate_page true) s ≡ show_and_save true s
on-effect s = alternate-effect true (bounds_of s) s

pub off-effect : (s : Screens) → xterm_effect (alternate_page false) s ≡ show_and_save false s
off-effect s = alternate-effect false (bounds_of s) s

pub came-back : (s : Screens) (t : Screens) → s.pages.alternate ≡ false
    → t.pages ≡ record (show_and_save true s).pages { brackets = t.pages.brackets; sides = t.pages.sides }
    → t.display.grid.width ≡ s.display.grid.width
    → (show_and_save false t).display ≡ restored (bounds_of t) (with_page (page_of (save_cursor s.display)) t.display)
came-back s t main pages width =
    ap (λ (p : PagesState). (show_and_save false (record { display = t.display; pages = p })).display) pages
    ∙ back-shown s t.display t.pages.brackets t.pages.sides main width
    ∙ ap (λ (n : ℕ). restored (bounds n t.pages.sides) (with_page (page_of (save_cursor s.display)) t.display)) (sym width)

module _ (split : SplitLaw) (spelling : SpellingLaw) where
  pub single : (event : Event) → IsEvent event → events_of (spell_event event) ≡ event ∷ []
  single event is =
      ap (λ (bytes : List ℕ). events_of bytes) (sym (append-nil (spell_event event)))
      ∙ spelling.event event [] is
      ∙ ap (λ (events : List Event). event ∷ events) (split.events_nil Nothing nothing-held)

  begun : (held : Held) (more : List ℕ) → IsHeldPart held
      → events_from held (spell_event (alternate_page true) ++ more) ≡ alternate_page true ∷ events_of more
  begun held more is = spelling.escape held _ is ∙ spelling.event (alternate_page true) more on-event

  ended : (bytes : List ℕ) → events_of (bytes ++ spell_event (alternate_page false))
      ≡ events_of bytes ++ alternate_page false ∷ []
  ended bytes =
      split.events_append Nothing bytes (spell_event (alternate_page false))
      ∙ ap (λ (events : List Event). events_of bytes ++ events)
      (spelling.escape (held_from Nothing bytes) _ (split.held_part bytes) ∙ single (alternate_page false) off-event)

  pub between : (w : Whole) (bytes : List ℕ) → IsSoundWhole w → w.pages.alternate ≡ false
      → list_any is_page_function (events_of bytes) ≡ false
      → (play_bytes w (through_alternate bytes)).whole.state.display
      ≡ restored (bounds_of (screens_of (play_bytes w (into_alternate bytes)).whole))
      (with_page (page_of (save_cursor w.state.display)) (play_bytes w (into_alternate bytes)).whole.state.display)
  unfolding play_bytes
  between w bytes i main none =
      let held = w.state.held in
      let s = screens_of w in
      let events = events_of bytes in
      let first = show_and_save true s in
      let t = after_events events first in
      let all : events_from held (through_alternate bytes)
      ≡ alternate_page true ∷ (events ++ alternate_page false ∷ []) =
      begun held (bytes ++ spell_event (alternate_page false)) i.state.held
      ∙ ap (λ (es : List Event). alternate_page true ∷ es) (ended bytes) in
      let start : after_events (alternate_page true ∷ events) s ≡ t =
      ap (λ (x : Screens). after_events events x) (on-effect s) in
      let stays = stay events first none in
      let width = stays.1 ∙ shown-width s main i.state.display i.other in
      let final : after_events (alternate_page true ∷ (events ++ alternate_page false ∷ [])) s ≡ show_and_save false t =
      ap (λ (x : Screens). after_events (events ++ alternate_page false ∷ []) x) (on-effect s)
      ∙ fold-append (λ x event. xterm_effect event x) first events (alternate_page false ∷ [])
      ∙ off-effect t in
      ap (λ (es : List Event). (after_events es s).display) all
      ∙ ap (λ (x : Screens). x.display) final
      ∙ came-back s t main stays.0 width
      ∙ ap (λ (x : Screens). restored (bounds_of x) (with_page (page_of (save_cursor w.state.display)) x.display)) (sym start)
      ∙ ap (λ (es : List Event). restored (bounds_of (after_events es s))
      (with_page (page_of (save_cursor w.state.display)) (after_events es s).display))
      (sym (begun held bytes i.state.held))

  into-none : (w : Whole) (bytes : List ℕ) → IsHeldPart w.state.held → w.pages.sides ≡ None
      → list_any is_side_function (events_of bytes) ≡ false
      → (play_bytes w (into_alternate bytes)).whole.pages.sides ≡ None
  unfolding play_bytes
  into-none w bytes held none not =
      subst (λ (es : List Event). (after_events es (screens_of w)).pages.sides ≡ None) (sym (begun w.state.held bytes held))
      (events-none (alternate_page true ∷ events_of bytes) (screens_of w) none not)

  -- if DECLRMM is reset all the time
  pub between-reset : (w : Whole) (bytes : List ℕ) → IsSoundWhole w → w.pages.sides ≡ None → w.pages.alternate ≡ false
      → list_any is_side_function (events_of bytes) ≡ false → list_any is_page_function (events_of bytes) ≡ false
      → (play_bytes w (through_alternate bytes)).whole.state.display
      ≡ restore_cursor (with_page (page_of (save_cursor w.state.display)) (play_bytes w (into_alternate bytes)).whole.state.display)
  between-reset w bytes i none main not pages =
      let v = screens_of (play_bytes w (into_alternate bytes)).whole in
      between w bytes i main pages
      ∙ ap (λ (b : Option Sides). restored b (with_page (page_of (save_cursor w.state.display)) v.display))
      (none-bounds v (into-none w bytes i.state.held none not))

pub row-restored : (s t : Display) → s.modes.decom ≡ false
    → (restore_cursor (with_page (page_of (save_cursor s)) t)).cursor
    ≡ record s.cursor { wrap = s.cursor.wrap && t.modes.decawm }
row-restored s t origin = rw origin refl
