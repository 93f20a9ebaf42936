-- Bytes that scroll no line off, and the event that does.
use Rattle.std.proofs.Common.{◌≡◌, ℕ, zero, suc, ◌*◌, ◌+◌, ◌<◌, ◌≤◌, List, [], ◌∷◌, ◌++◌, length, map, refl, sym, ap, ◌∙◌}
use Rattle.std.specs.Prelude.{slice_index, ◌&&◌, not}
use Rattle.std.specs.Bool.{OnTrue}
use Rattle.std.proofs.Common.{Bool, append-nil, arith, rules, true, false, Option, Some, None, All, inl, inr}
use Rattle.vt_syntax.specs.declared.event.Event.{Event}
use Rattle.vt_syntax.specs.declared.event.Event.TheVariants.{Print}
use Rattle.vt_syntax.specs.declared.held.Held.TheVariants.{Nothing}
use Rattle.vt_syntax.specs.Held.{events_from}
use Rattle.vt_syntax.specs.Laws.{SpellingLaw, SplitLaw}
use Rattle.vt_glyph.specs.Invocation.{HasGlyph, has_no_glyph, glyph_read, after_read}
use Rattle.vt_screen.specs.declared.cell.Cell.{Cell}
use Rattle.vt_term.specs.State.{Display, State}
use Rattle.vt_term.specs.Functions.{effect}
use Rattle.vt_term.specs.Writing.{write_if_read, put_glyph}
use Rattle.vt_term.specs.Scrolling.{is_at_end, line_off, lines_off, scrolled_off, scrolls_off, log}
use Rattle.vt_term.specs.ScrollSteps.{EndInRow, Fits, IsShort, Logs}
use Rattle.vt_term.specs.Happenings.{happening, happenings}
use Rattle.vt_term.specs.Text.{line_text, row_text_limit}
use Rattle.vt_term.specs.Sound.{IsSoundSized}
use Rattle.vt_term.specs.Play.{play}
use Rattle.vt_term.specs.Observers.{scrolled-append, scrolled-nothing}
use Rattle.std.specs.List.{flat_map}
use Rattle.std.proofs.lemmas.Bool.{cases_lt}
use Rattle.std.proofs.lemmas.Grind.{flat_map-append}
use Rattle.std.proofs.lemmas.Nat.{mul-le}
use Rattle.vt_term.proofs.Bytes.{graphic-events}
use Rattle.vt_term.proofs.Happened.{length-happenings, lines-happened}

pub on-true : (r : Bool) (P : Type 0) → (r ≡ true → P) → OnTrue r P
on-true true P f = f refl
on-true false P f = tt

-- ---- one event, or none

pub no-line : (s : State) (bytes : List ℕ) → events_from s.held bytes ≡ [] → scrolled_off s bytes ≡ []
unfolding scrolled_off
no-line s bytes none = rw none refl

pub one-line : (s : State) (bytes : List ℕ) (event : Event) → events_from s.held bytes ≡ event ∷ []
    → scrolled_off s bytes ≡ line_off event s.display
unfolding scrolled_off
one-line s bytes event is = rw is (append-nil (line_off event s.display))

at-least-one : (limit n len after k : ℕ) → 1 ≤ n → after ≤ len + limit → k ≡ n → after ≤ len + limit * k
at-least-one limit (suc n) len after k some few is = rw is (omega (arith, few))
at-least-one limit zero len after k some few is = absurd (omega (arith, some))

-- the first of the rows is in reach
first-short : (limit : ℕ) (s : State) (bytes : List ℕ) → 1 ≤ length bytes → All (IsShort limit) (happenings s bytes)
    → row_text_limit s.display.grid.size ≤ limit
first-short limit s [] some short = absurd (omega (arith, some))
first-short limit s (b ∷ bytes) some short = short 0 (happening s b) (omega arith)

pub logs-one : SplitLaw → (limit : ℕ) (s : State) (bytes xs ys : List ℕ) (rows : List (List Cell)) → IsSoundSized s
    → 1 ≤ length bytes → scrolled_off s bytes ≡ rows
    → (row_text_limit s.display.grid.size ≤ limit → ys ≡ xs ++ flat_map line_text rows)
    → length ys ≤ length xs + limit → Logs limit (happenings s bytes) xs ys
logs-one split limit s bytes xs ys rows sound some is told few = record {
  lines = λ short. rw (lines-happened split s bytes sound.held, is) (told (first-short limit s bytes some short));
  bounded = at-least-one limit (length bytes) (length xs) (length ys) (length (happenings s bytes)) some few
      (length-happenings s bytes);
}

pub logs-none : SplitLaw → (limit : ℕ) (s : State) (bytes xs : List ℕ) → IsSoundSized s → events_from s.held bytes ≡ []
    → Logs limit (happenings s bytes) xs xs
logs-none split limit s bytes xs sound none = record {
  lines = λ short. rw (lines-happened split s bytes sound.held, no-line s bytes none) (sym (append-nil xs));
  bounded = omega arith;
}

-- a line that is appended fits
pub line-fits : (limit : ℕ) (off : Bool) (len after end : ℕ) → len ≤ end → after ≤ len + limit
    → (off ≡ true → len + limit ≤ end) → (off ≡ false → after ≡ len) → after ≤ end
line-fits limit true len after end fits few room none = omega (arith, few, room refl)
line-fits limit false len after end fits few room none = omega (arith, fits, none refl)

both-of : (wrap none at : Bool) → ((wrap && not none) && at) ≡ true → (wrap && at) ≡ true
both-of true true at off = absurd cc
both-of true false at off = off
both-of false none at off = absurd cc

pub print-off : (b : ℕ) (s : Display) → scrolls_off (Print b) s ≡ true → (s.cursor.wrap && is_at_end s) ≡ true
print-off b s off = both-of s.cursor.wrap (has_no_glyph b) (is_at_end s) off

-- ---- the texts of the lines

pub log-append : SplitLaw → (s : State) (a b : List ℕ) → log s (a ++ b) ≡ log s a ++ log (play s a).state b
unfolding log
log-append split s a b =
    ap (λ (rows : List (List Cell)). flat_map line_text rows) (scrolled-append split s a b)
    ∙ flat_map-append line_text (scrolled_off s a) (scrolled_off (play s a).state b)

pub log-nothing : SplitLaw → (s : State) → IsSoundSized s → log s [] ≡ []
unfolding log
log-nothing split s sound = ap (λ (rows : List (List Cell)). flat_map line_text rows) (scrolled-nothing split s sound)

-- ---- characters

put-fits : (count glyph : ℕ) (s : Display) → 1 + count + s.cursor.col ≤ s.grid.width + 1
    → EndInRow count (put_glyph glyph s)
put-fits count glyph s room = record { no_wrap = λ some. search rules; in_row = search rules }

print-fits : (count b : ℕ) (s : Display) → EndInRow (1 + count) s → EndInRow count (effect (Print b) s)
print-fits count b s fits = go (glyph_read s.sets b)
  where
    no : s.cursor.wrap ≡ false
    no = fits.no_wrap (omega arith)

    go : (glyph : Option ℕ) → EndInRow count (write_if_read glyph (record s { sets = after_read s.sets b }))
    go None = record { no_wrap = λ some. no; in_row = omega (arith, fits.in_row) }
    go (Some glyph) = rw no (put-fits count glyph (record s { sets = after_read s.sets b }) (omega (arith, fits.in_row)))

row-still : (bytes : List ℕ) (s : Display) → EndInRow (length bytes) s → lines_off (map Print bytes) s ≡ []
row-still [] s fits = refl
row-still (b ∷ bytes) s fits =
    let no : s.cursor.wrap ≡ false = fits.no_wrap (omega arith) in
    let none : line_off (Print b) s ≡ [] = rw no refl in
    ap (λ (t : List (List Cell)). t ++ lines_off (map Print bytes) (effect (Print b) s)) none
    ∙ row-still bytes (effect (Print b) s)
    (print-fits (length bytes) b s (record { no_wrap = λ some. no; in_row = omega (arith, fits.in_row) }))

-- graphic bytes scroll a line off if the first of them does
pub run-line : SpellingLaw → (s : State) (bytes : List ℕ) → s.held ≡ Nothing → All HasGlyph bytes → 1 ≤ length bytes
    → Fits (length bytes) s.display → scrolled_off s bytes ≡ line_off (Print (slice_index bytes 0)) s.display
unfolding scrolled_off
run-line spelling s bytes between have some fits =
    rw (between, graphic-events spelling bytes have) (go bytes some fits)
  where
    go : (bytes : List ℕ) → 1 ≤ length bytes → Fits (length bytes) s.display
        → lines_off (map Print bytes) s.display ≡ line_off (Print (slice_index bytes 0)) s.display
    go [] some fits = absurd (omega (arith, some))
    go (b ∷ bytes) some (inl row) =
        let no : s.display.cursor.wrap ≡ false = row.no_wrap (omega arith) in
        let none : line_off (Print b) s.display ≡ [] = rw no refl in
        row-still (b ∷ bytes) s.display row ∙ sym none
    go (b ∷ []) some (inr one) = append-nil (line_off (Print b) s.display)
    go (b ∷ (c ∷ bytes)) some (inr one) = absurd (omega (arith, one))

-- all bytes are played if there is capacity for a line for each
pub all-fit : (n k limit len after capacity : ℕ) → k ≤ n → len + n * limit ≤ capacity → after ≤ len + limit * k
    → (k < n → capacity < after + limit) → k ≡ n
all-fit n k limit len after capacity within room few stop = elim (cases_lt k n) [
  | inl lt ↦
      let next : (k + 1) * limit ≤ n * limit = mul-le (k + 1) limit n limit (omega arith) (omega arith) in
      absurd (omega (arith, next, room, few, stop lt))
  | inr ge ↦ omega (arith, within, ge)
]
