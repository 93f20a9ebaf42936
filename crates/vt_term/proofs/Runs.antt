-- A run of graphic bytes is written as its bytes are, one after another.
use Rattle.std.proofs.lemmas.List.{length-take, length-map, map-append, get_or-take, get_or-drop}
use Rattle.std.proofs.lemmas.List.Sums.{fold-append}
use Rattle.std.proofs.Math.Seq.{take-add}
use Rattle.vt_term.proofs.Cuts.{after_events-append}
use Rattle.std.proofs.Common.{length-drop, take, drop, get_or, ◌≡◌, inl, inr, ℕ, suc, ◌+◌, ◌-◌, ◌≤◌, ◌<◌, List, [], ◌∷◌}
use Rattle.std.proofs.Common.{◌++◌, length, map, All, Bool, true, false, refl, sym, ap, ◌∙◌, arith, rules}
use Rattle.std.proofs.Common.{nat_lt}
use Rattle.std.proofs.lemmas.Bool.Decides.{leb_tells, nat_tests}
use Rattle.vt_syntax.specs.declared.event.Event.{Event}
use Rattle.vt_syntax.specs.declared.event.Event.TheVariants.{Print}
use Rattle.vt_glyph.specs.Tables.{space}
use Rattle.vt_screen.specs.declared.cell.Cell.{Cell}
use Rattle.vt_screen.specs.Cells.{cell_of}
use Rattle.vt_screen.specs.Grid.{put, put_run}
use Rattle.vt_screen.specs.Laws.{RunLaws}
use Rattle.vt_term.specs.State.{Display, last_column, at_place}
use Rattle.vt_term.specs.declared.state.Cursor.{Cursor}
use Rattle.vt_term.specs.Writing.{print, write_glyph, write_glyphs, with_glyph, IsAfterGlyphs, put_glyph, after_wrap, next_place}
use Rattle.vt_term.specs.Runs.{WritesOver, advanced_by, with_run}
use Rattle.vt_term.specs.Play.{after_events}

-- one glyph on is one column on
next_place-one : (s : Display) → s.cursor.col ≤ last_column s → next_place s ≡ advanced_by 1 s
next_place-one s fits = elim (leb_tells (s.cursor.col + 1) (last_column s)) [
  | inl e ↦
      let near : nat_lt s.cursor.col (last_column s) ≡ true = grind (arith, nat_tests, e) in
      rw (near, e.0) refl
  | inr e ↦
      let far : nat_lt s.cursor.col (last_column s) ≡ false = grind (arith, nat_tests, e) in
      let last : s.cursor.col ≡ last_column s = omega (arith, e) in
      rw (far, e.0) (ap (λ (c : ℕ). record { row = s.cursor.row; col = c; wrap = s.modes.decawm }) last)
]

-- before the last column the cursor goes on
next_place-near : (s : Display) → s.cursor.col < last_column s → next_place s ≡ at_place s.cursor.row (s.cursor.col + 1)
next_place-near s near =
    let test : nat_lt s.cursor.col (last_column s) ≡ true = grind (arith, nat_tests) in
    rw test refl

-- ---- glyphs

-- where no wrap is pending and IRM is reset, a glyph is written over the cell at the cursor
glyph-step : (s : Display) (n : ℕ) → s.modes.irm ≡ false → s.cursor.wrap ≡ false
    → write_glyph n s ≡ record s {
      grid = put s.grid s.cursor.row s.cursor.col (cell_of n s.brush);
      cursor =
          next_place s;
    }
glyph-step s n over off = rw (off, over) refl

-- glyphs that end in the cursor's row
pub writes-run : RunLaws → (glyphs : List ℕ) (s : Display) → s.modes.irm ≡ false → s.cursor.wrap ≡ false
    → 1 ≤ length glyphs → s.cursor.col + length glyphs ≤ last_column s + 1 → write_glyphs glyphs s ≡ with_run glyphs s
writes-run runs [] s over off some room = absurd (omega arith)
writes-run runs (n ∷ []) s over off some room =
    glyph-step s n over off
    ∙ rw (
      runs.one s.grid s.cursor.row s.cursor.col n (cell_of space s.brush),
      next_place-one s (omega arith),
    ) refl
writes-run runs (n ∷ next ∷ rest) s over off some room =
    let like : Cell = cell_of space s.brush in
    let glyphs : List ℕ = next ∷ rest in
    let t : Display = record s {
      grid = put s.grid s.cursor.row s.cursor.col (cell_of n s.brush);
      cursor =
          at_place s.cursor.row (s.cursor.col + 1);
    } in
    let first : write_glyph n s ≡ t = glyph-step s n over off ∙ rw (next_place-near s (omega arith)) refl in
    let goes_on : write_glyphs glyphs t ≡ with_run glyphs t =
    writes-run runs (next ∷ rest) t over refl (omega arith) (omega arith) in
    let column : s.cursor.col + 1 + length glyphs ≡ s.cursor.col + length (n ∷ glyphs) = omega arith in
    let grid : put_run t.grid s.cursor.row (s.cursor.col + 1) glyphs like
    ≡ put_run s.grid s.cursor.row s.cursor.col (n ∷ glyphs) like =
    rw (← runs.one s.grid s.cursor.row s.cursor.col n like)
    (sym (runs.append s.grid s.cursor.row s.cursor.col (n ∷ []) glyphs like)) in
    ap (λ (u : Display). write_glyphs glyphs u) first ∙ goes_on ∙ rw (grid, column) refl

-- glyphs may be written in parts
pub write_glyphs-append : (a b : List ℕ) (s : Display) → write_glyphs (a ++ b) s ≡ write_glyphs b (write_glyphs a s)
write_glyphs-append a b s = fold-append (λ t glyph. write_glyph glyph t) s a b

with_glyph-width : (n : ℕ) (s : Display) → (with_glyph n s).width ≡ s.grid.width
with_glyph-width n s = grind arith

glyph-leaves : (s : Display) (n : ℕ) → s.cursor.wrap ≡ false → s.cursor.col + 1 ≤ last_column s
    → IsAfterGlyphs 1 s (write_glyph n s)
glyph-leaves s n off room = rw off (record {
  cursor = next_place-near s (omega arith);
  width = with_glyph-width n s;
  sets = refl;
})

pub glyphs-leave : (glyphs : List ℕ) (s : Display) → s.cursor.wrap ≡ false → s.cursor.col + length glyphs ≤ last_column s
    → IsAfterGlyphs (length glyphs) s (write_glyphs glyphs s)
glyphs-leave [] s off room = record {
  cursor = ap (λ (w : Bool). record { row = s.cursor.row; col = s.cursor.col; wrap = w }) off
      ∙ ap (λ (c : ℕ). at_place s.cursor.row c) (sym (zero s.cursor.col));
  width = refl;
  sets = refl;
}
  where
    zero : (c : ℕ) → c + 0 ≡ c
    zero c = omega arith
glyphs-leave (n ∷ glyphs) s off room =
    let t : Display = write_glyph n s in
    let first = glyph-leaves s n off (omega (arith, room)) in
    let column : t.cursor.col ≡ s.cursor.col + 1 = ap (λ (c : Cursor). c.col) first.cursor in
    let row : t.cursor.row ≡ s.cursor.row = ap (λ (c : Cursor). c.row) first.cursor in
    let rest = glyphs-leave glyphs t (ap (λ (c : Cursor). c.wrap) first.cursor)
    (omega (arith, column, first.width, room)) in
    let place : t.cursor.col + length glyphs ≡ s.cursor.col + length (n ∷ glyphs) = omega (arith, column) in
    record {
      cursor = rest.cursor ∙ rw (row, place) refl;
      width = rest.width ∙ first.width;
      sets = rest.sets ∙ first.sets;
    }

-- below, bytes of one kind are written, each as its glyph

-- a byte writes its glyph
print-over : (Kind : ℕ → Type 0) (glyph : ℕ → ℕ) (s : Display) (b : ℕ) → WritesOver Kind glyph s → Kind b
    → print b s ≡ write_glyph (glyph b) s
print-over Kind glyph s b writes is = rw (writes.glyph b is, writes.sets b is) refl

write_glyph-writes : (Kind : ℕ → Type 0) (glyph : ℕ → ℕ) (s : Display) (n : ℕ) → WritesOver Kind glyph s
    → WritesOver Kind glyph (write_glyph n s)
write_glyph-writes Kind glyph s n writes = search rules

-- bytes write their glyphs
prints-glyphs : (Kind : ℕ → Type 0) (glyph : ℕ → ℕ) (bytes : List ℕ) (s : Display) → WritesOver Kind glyph s
    → All Kind bytes → after_events (map Print bytes) s ≡ write_glyphs (map glyph bytes) s
prints-glyphs Kind glyph [] s writes all = refl
prints-glyphs Kind glyph (b ∷ bytes) s writes all =
    ap (λ (t : Display). after_events (map Print bytes) t) (print-over Kind glyph s b writes (all 0 0 (omega arith)))
    ∙ prints-glyphs Kind glyph bytes (write_glyph (glyph b) s) (write_glyph-writes Kind glyph s (glyph b) writes)
    (λ k d h. all (suc k) d (omega arith))

pub prints-run : RunLaws → (Kind : ℕ → Type 0) (glyph : ℕ → ℕ) (bytes : List ℕ) (s : Display) → WritesOver Kind glyph s
    → All Kind bytes → s.cursor.wrap ≡ false
    → 1 ≤ length bytes → s.cursor.col + length bytes ≤ last_column s + 1
    → after_events (map Print bytes) s ≡ with_run (map glyph bytes) s
prints-run runs Kind glyph bytes s writes all off some room =
    let count : length (map glyph bytes) ≡ length bytes = length-map bytes glyph in
    prints-glyphs Kind glyph bytes s writes all
    ∙ writes-run runs (map glyph bytes) s writes.replaces off (omega (arith, count)) (omega (arith, count))

-- the display after a wrap
after_wrap-off : (s : Display) → (after_wrap s).cursor.wrap ≡ false
after_wrap-off s = grind arith

pub after_wrap-writes : (Kind : ℕ → Type 0) (glyph : ℕ → ℕ) (s : Display) → WritesOver Kind glyph s
    → WritesOver Kind glyph (after_wrap s)
after_wrap-writes Kind glyph s writes = search rules

-- a byte that is written carries the wrap out itself
print-after_wrap : (Kind : ℕ → Type 0) (glyph : ℕ → ℕ) (s : Display) (b : ℕ) → WritesOver Kind glyph s → Kind b
    → print b (after_wrap s) ≡ print b s
print-after_wrap Kind glyph s b writes is =
    let off : after_wrap (after_wrap s) ≡ after_wrap s = rw (after_wrap-off s) refl in
    print-over Kind glyph (after_wrap s) b (after_wrap-writes Kind glyph s writes) is
    ∙ ap (λ (t : Display). put_glyph (glyph b) t) off ∙ sym (print-over Kind glyph s b writes is)

-- a run that ends in its row, and that isn't empty, is written as its bytes are
prints-line : RunLaws → (Kind : ℕ → Type 0) (glyph : ℕ → ℕ) (bytes : List ℕ) (s : Display)
    → WritesOver Kind glyph s → All Kind bytes
    → 1 ≤ length bytes → (after_wrap s).cursor.col + length bytes ≤ last_column (after_wrap s) + 1
    → with_run (map glyph bytes) (after_wrap s) ≡ after_events (map Print bytes) s
prints-line runs Kind glyph [] s writes all some room = absurd (omega arith)
prints-line runs Kind glyph (b ∷ bytes) s writes all some room =
    let is = all 0 0 (omega arith) in
    sym (prints-run runs Kind glyph (b ∷ bytes) (after_wrap s) (after_wrap-writes Kind glyph s writes) all
    (after_wrap-off s) some room)
    ∙ ap (λ (t : Display). after_events (map Print bytes) t) (print-after_wrap Kind glyph s b writes is)

-- a line of a run: what is written is what its bytes write, and the next line may be written so
pub line-of-run : RunLaws → (Kind : ℕ → Type 0) (glyph : ℕ → ℕ) (run : List ℕ) (at end : ℕ) (s t u v : Display)
    → All Kind run → at < end → end ≤ length run
    → t ≡ after_events (map Print (take at run)) s → WritesOver Kind glyph t
    → u ≡ after_wrap t → u.cursor.col + (end - at) ≤ last_column u + 1
    → v ≡ with_run (map glyph (take (end - at) (drop at run))) u
    → (v ≡ after_events (map Print (take end run)) s) × WritesOver Kind glyph v
line-of-run runs Kind glyph run at end s t u v all below fits is writes wrapped room written =
    let line : List ℕ = take (end - at) (drop at run) in
    let long : length line ≡ end - at = rw (length-take, length-drop) (omega arith) in
    let front : take at run ++ line ≡ take end run =
    let sum : at + (end - at) ≡ end = omega arith in
    sym (take-add at (end - at) run) ∙ ap (λ (n : ℕ). take n run) sum in
    let bytes : All Kind line = λ k d h.
    let inside : at + k < length run = omega (arith, long) in
    let here : get_or line k d ≡ get_or run (at + k) d =
    get_or-take (end - at) (drop at run) k d (omega (arith, long)) ∙ get_or-drop at run k d in
    rw here (all (at + k) d inside) in
    let after : WritesOver Kind glyph (after_wrap t) = after_wrap-writes Kind glyph t writes in (
      written ∙ ap (λ (d : Display). with_run (map glyph line) d) wrapped
          ∙ prints-line runs Kind glyph line t writes bytes (omega (arith, long)) (rw (long, ← wrapped) room)
          ∙ ap (λ (d : Display). after_events (map Print line) d) is
          ∙ sym (after_events-append (map Print (take at run)) (map Print line) s)
          ∙ ap (λ (es : List Event). after_events es s) (sym (map-append Print (take at run) line))
          ∙ ap (λ (codes : List ℕ). after_events (map Print codes) s) front,
      rw (written, wrapped) (record { glyph = after.glyph; sets = after.sets; replaces = after.replaces }),
    )
