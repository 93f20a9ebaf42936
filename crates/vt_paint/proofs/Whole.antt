-- The whole repaint and all changes: what is made of any display, and how the bytes are played.
use Rattle.std.proofs.Common.{Bool, true, false, List, [], refl, ap, ◌∙◌, ◌≡◌, ◌+◌, ◌≤◌, ℕ, ◌∷◌, ◌++◌, length}
use Rattle.std.proofs.Common.{length-append, drop, sym, subst, arith, None}
use Rattle.vt_glyph.specs.GraphicSets.{GraphicSets}
use Rattle.vt_glyph.specs.Invocation.{sets_at_power_up}
use Rattle.vt_screen.specs.Cells.{plain_brush}
use Rattle.vt_term.specs.declared.state.Cursor.{Cursor}
use Rattle.vt_term.specs.declared.state.Modes.{Modes}
use Rattle.vt_screen.specs.declared.cell.Brush.{Brush}
use Rattle.vt_glyph.specs.Spell.{AreSpellingSets}
use Rattle.vt_term.specs.State.{Display, saved_at_power_up, display_at_power_up, display_of, State, margins_of}
use Rattle.vt_term.specs.State.{modes_at_power_up}
use Rattle.vt_term.specs.Sound.{IsSoundDisplayAt, IsSoundSizedDisplay, IsPlace, IsSoundAt}
use Rattle.vt_term.proofs.SizeKept.{own-display}
use Rattle.vt_term.specs.Resets.{soft_reset}
use Rattle.vt_term.specs.Modes.{with_mode}
use Rattle.vt_term.specs.Functions.{sequence_in}
use Rattle.vt_paint.specs.Changes.{AreChangesAt, differing_at}
use Rattle.vt_paint.specs.Private.ChangeEvents.{changed_cells, start_item, saved_cursor, record_item, change_events}
use Rattle.vt_paint.proofs.AfterEvents.{display_after, Makes, then_makes, none_makes, display_after-after_events}
use Rattle.vt_paint.proofs.Brushes.{spelling_sets, spelling_sets_leaves, spelling_sets_are, spelling_sets_four}
use Rattle.vt_paint.proofs.Brushes.{spelling_sets_none}
use Rattle.vt_paint.proofs.Painting.{shown, IsReady, AreGlyphs, changed_cells_leaves}
use Rattle.vt_paint.proofs.Chain.{part, recorded, record_leaves, wrap_leaves, last_leaves, with_saved, saved_leaves}
use Rattle.vt_paint.proofs.Chain.{cells_leaves, margins_leaves, placed_leaves}
use Rattle.std.proofs.Math.Seq.{drop-append_seam}
use Rattle.std.specs.Str.{IsAscii}
use Rattle.vt_syntax.specs.declared.event.Event.{Event}
use Rattle.vt_syntax.specs.declared.held.Held.TheVariants.{Nothing}
use Rattle.vt_syntax.specs.Held.{IsHeldPart, events_from, held_from}
use Rattle.vt_syntax.specs.Spelling.{spell_events}
use Rattle.vt_syntax.specs.Steps.{step_to}
use Rattle.vt_syntax.proofs.Steps.{same_held, same_events}
use Rattle.vt_syntax.proofs.Spelled.{events_steps}
use Rattle.vt_syntax.proofs.Cutting.{read, escape}
use Rattle.vt_screen.specs.declared.size.Size.{Size}
use Rattle.vt_term.specs.Play.{after_events, play}
use Rattle.vt_paint.specs.Controls.{reset_to_initial_state}
use Rattle.vt_paint.specs.Limits.{paint_limit, changes_limit}
use Rattle.vt_paint.specs.Items.{stops_item, cells_item, first_items}
use Rattle.vt_paint.specs.Repaint.{made_events, paint}
use Rattle.vt_paint.specs.Spoken.{Speaks}
use Rattle.vt_paint.proofs.Speech.{speaks-ascii}
use Rattle.vt_paint.proofs.Within.{AreSpelledWithin, sound_glyphs, repaint_events, repaint_within, changes_within}
use Rattle.vt_paint.proofs.Stops.{with_stops, reset_leaves, stops_leaves}
use Rattle.vt_term.specs.Functions.{sequences_any}

-- the modes after the first item: those that DECSTR leaves, with DECAWM set
start_modes : Modes → Modes
start_modes m = record (soft_reset (record display_at_power_up { modes = m })).modes { decawm = true }

abbrev started : Display → Display
started t = record t {
  cursor = record t.cursor { wrap = false };
  brush = plain_brush;
  sets = sets_at_power_up;
  margins = margins_of t.grid.size;
  modes = start_modes t.modes;
  saved = saved_at_power_up;
}

start_leaves : (t : Display) → Makes start_item t (started t)
unfolding display_after start_item sequence_in sequences_any with_mode start_modes
start_leaves t = record { is = refl }

changes_leaves : (marks : List (List Bool)) (s t : Display) → IsSoundSizedDisplay s → IsSoundSizedDisplay t → AreGlyphs s.grid
    → t.grid.size ≡ s.grid.size → AreChangesAt s.grid.size marks t s → Makes (change_events marks s) t s
unfolding change_events record_item start_modes
changes_leaves marks s t i j are size changes =
    let modes = start_modes t.modes in
    let base : Display = record (started t) { sets = spelling_sets sets_at_power_up } in
    let spells = spelling_sets_are sets_at_power_up refl refl in
    let ready : IsReady base = record { sets = spells; irm = refl; decawm = refl; decom = refl } in
    let w3 = changed_cells_leaves marks base t.grid s.grid base.cursor base.brush ready j.grid.shape i.grid.shape
    size changes.width are changes.marked in
    let cells : Makes (changed_cells marks s.grid) base
    (part (recorded s modes) modes w3.cursor w3.brush base.sets (margins_of s.grid.size) false) =
    record {
      is = w3.is ∙ ap (λ (z : List Bool). record (shown base s.grid w3.cursor w3.brush) { stops = z }) changes.stops
          ∙ ap (λ z. record (shown base s.grid w3.cursor w3.brush) { stops = s.stops; margins = margins_of z }) size;
    } in
    let w4 = wrap_leaves (recorded s modes) modes w3.brush base.sets refl refl i.grid.shape i.saved.wrap_last are
    (λ h. spells) in
    let made : GraphicSets = record base.sets { g = s.saved.g; left = s.saved.gl; right = s.saved.gr } in
    then_makes (start_leaves t) (then_makes (spelling_sets_leaves (started t)) (then_makes cells (then_makes
    (record_leaves s _ modes w3.cursor w3.brush w4.some base.sets _ [] i.saved i.saved_sets
    (spelling_sets_four sets_at_power_up refl) w4.makes (none_makes refl))
    (then_makes (spelling_sets_leaves (part s modes (saved_cursor s.saved) s.saved.brush made (margins_of s.grid.size)
    s.saved.origin))
    (last_leaves false s modes (saved_cursor s.saved) s.saved.brush (spelling_sets made) s.saved.origin
    (λ e. absurd (cc e)) (λ e. absurd (cc e)) refl refl i are (spelling_sets_four made i.saved_sets.four)
    (spelling_sets_none made spells.pending) (λ h. spelling_sets_are made i.saved_sets.four spells.pending))))))

-- bytes that begin with ESC are read as the events that they spell, whatever is held before them
played : (n : ℕ) (es : List Event) (more : List ℕ) (s t : State) → AreSpelledWithin n es
    → spell_events es ≡ 0x1B ∷ more → IsHeldPart t.held → s.held ≡ Nothing → Makes es t.display s.display
    → play t (spell_events es) ≡ record { state = s; reports = [] }
unfolding play
played n es more s t fine begins held between leaves =
    let bytes = spell_events es in
    let step : step_to (held_from t.held bytes) (events_from t.held bytes) ≡ step_to Nothing es =
    rw begins (rw (escape t.held more held, ← begins) (read bytes ∙ events_steps es fine.events)) in
    let events : events_from t.held bytes ≡ es = same_events step in
    let rest : held_from t.held bytes ≡ s.held = same_held step ∙ sym between in
    let shown : after_events es t.display ≡ s.display = sym (display_after-after_events t.display es) ∙ leaves.is in
    rw (events, rest, shown, fine.silent t.display) refl

-- the first items leave all but the cursor, the brush, the sets and the modes; the sets are those of the spellings if a wrap is pending
pub record HasFirst (s : Display) (wrap : Bool) (es : List Event) : Type 0 where
  pub cursor : Cursor
  pub brush : Brush
  pub sets : GraphicSets
  pub makes : Makes es (display_of s.grid.size) (part s modes_at_power_up cursor brush sets s.margins false)
  pub four : length sets.g ≡ 4
  pub none : sets.pending ≡ None
  pub spells : wrap ≡ true → AreSpellingSets sets

pub first_leaves : (s : Display) (wrap : Bool) → IsSoundSizedDisplay s → HasFirst s wrap (first_items s wrap)
unfolding first_items
first_leaves s wrap i =
    let size : Size = s.grid.size in
    let sized = i.grid.shape.size in
    let wide = i.grid.shape.width.0 in
    let is_width = i.grid.shape.width.1 in
    let are = sound_glyphs s i in
    let place = subst (λ (w : ℕ). IsPlace size.rows w s.saved.row s.saved.col s.saved.wrap) is_width i.saved in
    let w1 = stops_leaves size wide s.stops sized i.stops in
    let w2 = saved_leaves size wide s w1.some sized place i.saved_sets in
    let w3 = cells_leaves wide s wrap w2.some is_width i.grid.shape are i.saved_sets in
    let cells : Makes (cells_item s.grid wrap) (with_saved size wide s.stops s.saved w2.some)
    (part s modes_at_power_up w3.cursor w3.brush w3.sets (margins_of size) false) = record { is = w3.is } in
    let stops = subst (λ (n : ℕ). Makes (stops_item size n s.stops) (display_of size) (with_stops size wide s.stops w1.some))
    (sym is_width) w1.makes in
    let w4 = margins_leaves s modes_at_power_up w3.cursor w3.brush w3.sets s.margins false i.margins in
    record {
      cursor = w4.some;
      brush = w3.brush;
      sets = w3.sets;
      makes = then_makes stops (then_makes w2.makes (then_makes cells w4.makes));
      four = w3.four;
      none = w3.none;
      spells = w3.spells;
    }

-- the items lead there from power-up
pub made_leaves : (s : Display) → IsSoundSizedDisplay s → Makes (made_events s) (display_of s.grid.size) s
unfolding made_events
made_leaves s i =
    let first = first_leaves s s.cursor.wrap i in
    then_makes first.makes (placed_leaves true s modes_at_power_up first.cursor first.brush first.sets false (λ e. refl)
    (λ e. refl) refl refl i (sound_glyphs s i) first.four first.none first.spells)

repaint_leaves : (s t : Display) → IsSoundSizedDisplay s → t.grid.size ≡ s.grid.size → Makes (repaint_events s) t s
repaint_leaves s t i size =
    then_makes (subst (λ (z : Size). Makes (reset_to_initial_state ∷ []) t (display_of z)) size (reset_leaves t)) (made_leaves s i)

-- ---- a state of a size

pub short : (size : Size) (s : State) → IsSoundAt size s → length (paint s) ≤ paint_limit size
unfolding paint
short size s i =
    subst (λ (z : Size). length (paint s) ≤ paint_limit z) i.display.of_size
    (repaint_within s.display (own-display size s.display i.display)).short

pub speaks : (size : Size) (s : State) → IsSoundAt size s → Speaks (paint s)
unfolding paint
speaks size s i = (repaint_within s.display (own-display size s.display i.display)).speaks

pub ascii : (size : Size) (s : State) → IsSoundAt size s → IsAscii (paint s)
ascii size s i = speaks-ascii (paint s) (speaks size s i)

pub rebuilds_all : (size : Size) (s : State) → IsSoundAt size s → s.held ≡ Nothing → (t : State) → IsSoundAt size t
    → play t (paint s) ≡ record { state = s; reports = [] }
unfolding paint
rebuilds_all size s i between t j =
    let own = own-display size s.display i.display in
    played (paint_limit s.display.grid.size) (repaint_events s.display) _ s t (repaint_within s.display own) refl j.held
    between (repaint_leaves s.display t.display own (j.display.of_size ∙ sym i.display.of_size))

-- ---- changes of a state of a size

-- the changes of a state of its own size
own_changes : (size : Size) (marks : List (List Bool)) (s t : Display) → s.grid.size ≡ size → AreChangesAt size marks t s
    → AreChangesAt s.grid.size marks t s
own_changes size marks s t e changes = subst (λ (z : Size). AreChangesAt z marks t s) (sym e) changes

within : (size : Size) (marks : List (List Bool)) (s t : Display) → IsSoundDisplayAt size s → AreChangesAt size marks t s
    → AreSpelledWithin (changes_limit size (differing_at size t.grid s.grid)) (change_events marks s)
within size marks s t i changes =
    subst (λ (z : Size). AreSpelledWithin (changes_limit z (differing_at z t.grid s.grid)) (change_events marks s)) i.of_size
    (changes_within marks s t (own-display size s i) (own_changes size marks s t i.of_size changes))

pub few : (size : Size) (marks : List (List Bool)) (s t : Display) (before : List ℕ) → IsSoundDisplayAt size s
    → AreChangesAt size marks t s
    → length (before ++ spell_events (change_events marks s))
    ≤ length before + changes_limit size (differing_at size t.grid s.grid)
few size marks s t before i changes =
    rw (length-append before (spell_events (change_events marks s))) (omega (arith, (within size marks s t i changes).short))

pub changes_speak : (size : Size) (marks : List (List Bool)) (s t : Display) (before : List ℕ) → IsSoundDisplayAt size s
    → AreChangesAt size marks t s
    → Speaks (drop (length before) (before ++ spell_events (change_events marks s)))
changes_speak size marks s t before i changes =
    rw (drop-append_seam before (spell_events (change_events marks s))) (within size marks s t i changes).speaks

pub changes_played : (size : Size) (marks : List (List Bool)) (s t : State) → IsSoundAt size s → s.held ≡ Nothing
    → IsSoundAt size t → AreChangesAt size marks t.display s.display
    → play t (spell_events (change_events marks s.display)) ≡ record { state = s; reports = [] }
unfolding change_events start_item
changes_played size marks s t i between j changes =
    let own = own-display size s.display i.display in
    played _ (change_events marks s.display) _ s t
    (within size marks s.display t.display i.display changes) refl j.held between
    (changes_leaves marks s.display t.display own (own-display size t.display j.display)
    (sound_glyphs s.display own) (j.display.of_size ∙ sym i.display.of_size)
    (own_changes size marks s.display t.display i.display.of_size changes))
