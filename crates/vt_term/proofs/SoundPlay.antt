-- Play keeps the state sound: through the tables of functions, and over events.
use Rattle.std.proofs.Common.{rules, arith, ℕ, ◌≤◌, ◌<◌, Bool, true, false, List, [], ◌∷◌, Option, Some, None}
use Rattle.std.specs.Prelude.{IfSome}
use Rattle.vt_syntax.specs.declared.event.Event.{Event}
use Rattle.vt_syntax.specs.declared.event.Event.TheVariants.{Print, Control, Escape, Sequence}
use Rattle.vt_syntax.specs.Held.{IsHeldPart, events_from, held_after}
use Rattle.vt_glyph.specs.Tables.{IsGlyph, substitute_glyph}
use Rattle.vt_glyph.specs.Invocation.{glyph_read, after_read, locked_left, locked_right, shifted_once}
use Rattle.vt_glyph.specs.Designation.{set_of_final}
use Rattle.vt_glyph.specs.GraphicSets.{GraphicSets, AreSoundSets}
use Rattle.vt_glyph.specs.declared.set.Set.{Set}
use Rattle.vt_glyph.specs.Laws.{GlyphLaws, SetsLaws}
use Rattle.vt_term.specs.State.{Display, State}
use Rattle.vt_term.specs.Sound.{IsSoundSizedDisplay, IsSoundSized}
use Rattle.vt_term.specs.Writing.{print, write_if_read, write_glyph}
use Rattle.vt_term.specs.Modes.{with_mode, change_modes, ansi_modes, private_modes}
use Rattle.vt_term.specs.Functions.{Function, FunctionTable, function_in, no_function}
use Rattle.vt_term.specs.Functions.{controls, control, plain_escapes, plain_escape, space_escapes, number_sign_escapes}
use Rattle.vt_term.specs.Functions.{escape_tables, escape_with, designate, designate_to, with_sets}
use Rattle.vt_term.specs.Functions.{marker_tables, intermediate_tables, sequence_in, sequences_of, effect}
use Rattle.vt_term.specs.Play.{play, after_events}
use Rattle.vt_term.proofs.Tables.{AllRows, looked_up-holds}
use Rattle.vt_term.proofs.SoundEffects.{Keeps, keeping, write_glyph-keeps, save_cursor-keeps, restore_cursor-keeps}
use Rattle.vt_term.proofs.SoundEffects.{keypad_mode-keeps, reset_to_initial_state-keeps}
use Rattle.vt_term.specs.Functions.{control_any, escape_with_any, plain_escape_any, sequences_any}

-- ---- tables

abbrev ModeKeeps : ℕ → (Bool → Display → Display) → Type 0
ModeKeeps key f = (on : Bool) → Keeps (f on)

-- with these values
abbrev FunctionKeeps : List ℕ → ℕ → Function → Type 0
FunctionKeeps values key f = Keeps (f.effect values)

unchanged-keeps : Keeps (λ s. s)
unchanged-keeps s i = i

function-keeps : (values : List ℕ) (table : FunctionTable) (b : ℕ) → AllRows (FunctionKeeps values) table
    → Keeps ((function_in table b).effect values)
function-keeps values table b all =
    looked_up-holds (FunctionKeeps values) table b no_function unchanged-keeps all

-- ---- modes

change_modes-keeps : (table : List (ℕ × (Bool → Display → Display))) → AllRows ModeKeeps table → (on : Bool)
    → (params : List ℕ) → Keeps (change_modes table on params)
unfolding with_mode
change_modes-keeps table all on [] s i = i
change_modes-keeps table all on (p ∷ params) s i =
    change_modes-keeps table all on params (with_mode table on p s)
    (looked_up-holds ModeKeeps table p (λ on s. s) (λ on s i. i) all on s i)

ansi_modes-keep : AllRows ModeKeeps ansi_modes
unfolding AllRows
ansi_modes-keep = search (keeping, rules)

private_modes-keep : AllRows ModeKeeps private_modes
unfolding AllRows
private_modes-keep = search (keeping, rules)

-- ---- events

with-sets : (s : Display) (new : GraphicSets) → IsSoundSizedDisplay s → AreSoundSets new → IsSoundSizedDisplay (record s { sets = new })
with-sets s new i sound = search rules

module _ (glyphs : GlyphLaws) (sets : SetsLaws) where
  print-keeps : (b : ℕ) → Keeps (print b)
  print-keeps b s i = go (glyph_read s.sets b) (glyphs.read s.sets b)
    where
      after : IsSoundSizedDisplay (record s { sets = after_read s.sets b })
      after = with-sets s (after_read s.sets b) i (sets.read s.sets b i.sets)

      go : (glyph : Option ℕ) → IfSome glyph IsGlyph
          → IsSoundSizedDisplay (write_if_read glyph (record s { sets = after_read s.sets b }))
      go None h = after
      go (Some g) h = write_glyph-keeps g h _ after

  lock_left-keeps : (slot : ℕ) → slot < 4 → Keeps (with_sets (locked_left slot))
  lock_left-keeps slot h s i = with-sets s _ i (sets.locked_left s.sets slot h i.sets)

  lock_right-keeps : (slot : ℕ) → 1 ≤ slot → slot < 4 → Keeps (with_sets (locked_right slot))
  lock_right-keeps slot k h s i = with-sets s _ i (sets.locked_right s.sets slot k h i.sets)

  shift_once-keeps : (slot : ℕ) → 2 ≤ slot → slot < 4 → Keeps (with_sets (shifted_once slot))
  shift_once-keeps slot k h s i = with-sets s _ i (sets.shifted_once s.sets slot k h i.sets)

  designate-keeps : (slot last : ℕ) → Keeps (designate slot last)
  designate-keeps slot last s i = go (set_of_final last)
    where
      go : (set : Option Set) → IsSoundSizedDisplay (designate_to slot set s)
      go None = i
      go (Some set) = with-sets s _ i (sets.designated s.sets slot set i.sets)

  control-keeps : (b : ℕ) → Keeps (control b)
  unfolding control_any AllRows
  control-keeps b =
      let left0 : Keeps (with_sets (locked_left 0)) = lock_left-keeps 0 (omega arith) in
      let left1 : Keeps (with_sets (locked_left 1)) = lock_left-keeps 1 (omega arith) in
      let once2 : Keeps (with_sets (shifted_once 2)) = shift_once-keeps 2 (omega arith) (omega arith) in
      let once3 : Keeps (with_sets (shifted_once 3)) = shift_once-keeps 3 (omega arith) (omega arith) in
      let substitute : Keeps (write_glyph substitute_glyph) = write_glyph-keeps substitute_glyph glyphs.substitute in
      function-keeps [] controls b (search (keeping, left0, left1, once2, once3, substitute, unchanged-keeps))

  plain_escape-keeps : (last : ℕ) → Keeps (plain_escape last)
  unfolding plain_escape_any AllRows
  plain_escape-keeps last =
      function-keeps [] plain_escapes last (
        save_cursor-keeps,
        (
          restore_cursor-keeps,
          (
            keypad_mode-keeps true,
            (
              keypad_mode-keeps false,
              (
                reset_to_initial_state-keeps,
                (search (keeping, lock_left-keeps, lock_right-keeps, arith)),
              ),
            ),
          ),
        ),
      )

  -- by an intermediate, and then by a final byte
  escape_with-keeps : (inter last : ℕ) → Keeps (escape_with inter last)
  unfolding escape_with_any AllRows
  escape_with-keeps inter last =
      let space = function-keeps [] space_escapes last (search keeping) in
      let number = function-keeps [] number_sign_escapes last (search keeping) in
      looked_up-holds (λ key (f : ℕ → Function). Keeps ((f last).effect [])) escape_tables inter (λ last. no_function)
      unchanged-keeps
      (search (space, number, designate-keeps))

-- by a marker and an intermediate, and then by a final byte
sequences_of-keep : (params : List ℕ) (marker inter : Option ℕ)
    → AllRows (FunctionKeeps params) (sequences_of marker inter)
unfolding sequences_any AllRows
sequences_of-keep params None None =
    let set : Keeps (change_modes ansi_modes true params) = change_modes-keeps ansi_modes ansi_modes-keep true params in
    let reset : Keeps (change_modes ansi_modes false params) = change_modes-keeps ansi_modes ansi_modes-keep false params in
    search (keeping, set, reset, unchanged-keeps)
sequences_of-keep params (Some marker) None =
    let set : Keeps (change_modes private_modes true params) =
    change_modes-keeps private_modes private_modes-keep true params in
    let reset : Keeps (change_modes private_modes false params) =
    change_modes-keeps private_modes private_modes-keep false params in
    looked_up-holds (λ key table. AllRows (FunctionKeeps params) table) marker_tables marker [] tt
    (search (keeping, set, reset, unchanged-keeps))
sequences_of-keep params None (Some inter) =
    looked_up-holds (λ key table. AllRows (FunctionKeeps params) table) intermediate_tables inter [] tt (search keeping)
sequences_of-keep params (Some marker) (Some inter) = tt

-- ---- bytes

module _ (glyphs : GlyphLaws) (sets : SetsLaws) where
  pub effect-keeps : (event : Event) → Keeps (effect event)
  unfolding sequence_in
  effect-keeps (Print b) = print-keeps glyphs sets b
  effect-keeps (Control b) = control-keeps glyphs sets b
  effect-keeps (Escape None last) = plain_escape-keeps glyphs sets last
  effect-keeps (Escape (Some inter) last) = escape_with-keeps glyphs sets inter last
  effect-keeps (Sequence marker params inter last) =
      function-keeps params.items (sequences_of marker inter) last (sequences_of-keep params.items marker inter)

  after_events-keeps : (events : List Event) → Keeps (after_events events)
  after_events-keeps [] s i = i
  after_events-keeps (event ∷ events) s i = after_events-keeps events (effect event s) (effect-keeps event s i)

  pub play-sound : ((bytes : List ℕ) → IsHeldPart (held_after bytes)) → (s : State) (bytes : List ℕ) → IsSoundSized s
      → IsSoundSized (play s bytes).state
  unfolding play
  play-sound held s bytes sound = record {
    display = after_events-keeps (events_from s.held bytes) s.display sound.display;
    held = held _;
  }
