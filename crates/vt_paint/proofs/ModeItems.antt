-- The modes and the single shift.
use Rattle.std.proofs.Common.{◌≡◌, ◌≤◌, ◌<◌, Bool, true, false, ◌&&◌, ℕ, zero, suc, List, [], ◌∷◌, Option, Some, None}
use Rattle.std.proofs.Common.{refl, ap, ◌∙◌, arith, rules}
use Rattle.std.specs.List.{flat_map}
use Rattle.std.specs.Option.{ForSome}
use Rattle.vt_syntax.specs.declared.event.Event.{Event}
use Rattle.vt_syntax.specs.declared.event.Event.TheVariants.{Print, Control, Escape, Sequence}
use Rattle.vt_term.specs.declared.state.Modes.{Modes}
use Rattle.vt_term.specs.Parameters.{first}
use Rattle.vt_term.specs.State.{Display, modes_at_power_up}
use Rattle.vt_term.specs.Modes.{with_mode, ansi_modes, private_modes, keypad_mode, report_form}
use Rattle.vt_term.specs.Functions.{sequence_in}
use Rattle.vt_paint.specs.Controls.{ModeRow, mode_rows}
use Rattle.vt_paint.specs.Items.{mode_item, row_item, modes_item, shift_item}
use Rattle.vt_paint.proofs.AfterEvents.{display_after, Makes, then_makes, none_makes}
use Rattle.vt_term.specs.Functions.{control_any, escape_with_any, plain_escape_any, sequences_any}

-- the function that a mode's event asks for, by what it sets or resets
set_by : Event → Bool → Display → Display
set_by (Print b) on x = x
set_by (Control b) on x = x
set_by (Escape None last) on x = keypad_mode on x
set_by (Escape (Some inter) last) on x = report_form on x
set_by (Sequence None params inter last) on x = with_mode ansi_modes on (first params.items) x
set_by (Sequence (Some marker) params inter last) on x = with_mode private_modes on (first params.items) x

-- from one display to another by the items of modes, each of which leaves what its event does
abbrev Leave : Bool → Modes → Display → Display → List ModeRow → Type 0
Leave known m x y [] = x ≡ y
Leave known m x y (row ∷ rows) =
    (display_after x (mode_item known (row.1 modes_at_power_up) row.0 true) ≡ set_by (row.0 true) true x)
    × (display_after x (mode_item known (row.1 modes_at_power_up) row.0 false) ≡ set_by (row.0 true) false x)
    × Leave known m (set_by (row.0 true) (row.1 m) x) y rows

rows_leave : (known : Bool) (m : Modes) (rows : List ModeRow) (x y : Display) → Leave known m x y rows
    → Makes (flat_map (row_item known m) rows) x y
rows_leave known m [] x y is = none_makes is
rows_leave known m (row ∷ rows) x y is =
    let next = set_by (row.0 true) (row.1 m) x in
    then_makes (record { is = at (row.1 m) }) (rows_leave known m rows next y is.2)
  where
    at : (on : Bool)
        → display_after x (mode_item known (row.1 modes_at_power_up) row.0 on) ≡ set_by (row.0 true) on x
    at true = is.0
    at false = is.1

-- with these modes and this wrap flag
abbrev with : Display → Modes → Bool → Display
with x m wrap = record x { modes = m; cursor = record x.cursor { wrap = wrap } }

known_leave : (wrap : Bool) (x : Display) (m : Modes)
    → Leave true m (with x (record modes_at_power_up { decom = m.decom }) wrap) (with x m (wrap && m.decawm)) mode_rows
unfolding set_by display_after sequence_in sequences_any with_mode plain_escape_any escape_with_any
known_leave true x m = search rules
known_leave false x m = search rules

any_leave : (wrap : Bool) (x : Display) (k m : Modes)
    → Leave false m (with x (record k { decom = m.decom }) wrap) (with x m (wrap && m.decawm)) mode_rows
unfolding set_by display_after sequence_in sequences_any with_mode plain_escape_any escape_with_any
any_leave true x k m = search rules
any_leave false x k m = search rules

pub modes_leave : (known : Bool) (x : Display) (k m : Modes) → (known ≡ true → k ≡ modes_at_power_up)
    → (x.cursor.wrap ≡ true → m.decawm ≡ true)
    → Makes (modes_item known m) (record x { modes = record k { decom = m.decom } }) (record x { modes = m })
unfolding modes_item
modes_leave known x k m h wrap =
    record { is = (made known h).is ∙ ap (λ w. with x m w) (kept x.cursor.wrap m.decawm wrap) }
  where
    kept : (w v : Bool) → (w ≡ true → v ≡ true) → w && v ≡ w
    kept true v k = k refl
    kept false v k = refl

    made : (known : Bool) → (known ≡ true → k ≡ modes_at_power_up)
        → Makes (modes_item known m) (record x { modes = record k { decom = m.decom } })
        (with x m (x.cursor.wrap && m.decawm))
    made true h = rw (h refl) (rows_leave true m mode_rows _ _ (known_leave x.cursor.wrap x m))
    made false h = rows_leave false m mode_rows _ _ (any_leave x.cursor.wrap x k m)

pub shift_leaves : (x : Display) (pending : Option ℕ) → ForSome pending (λ slot. (2 ≤ slot) × (slot < 4))
    → x.sets.pending ≡ None → Makes (shift_item pending) x (record x { sets = record x.sets { pending = pending } })
unfolding display_after shift_item control_any
shift_leaves x None sound e = none_makes (ap (λ p. record x { sets = record x.sets { pending = p } }) e)
shift_leaves x (Some zero) sound e = absurd (omega (arith, sound zero refl))
shift_leaves x (Some (suc zero)) sound e = absurd (omega (arith, sound (suc zero) refl))
shift_leaves x (Some (suc (suc zero))) sound e = record { is = refl }
shift_leaves x (Some (suc (suc (suc zero)))) sound e = record { is = refl }
shift_leaves x (Some (suc (suc (suc (suc n))))) sound e = absurd (omega (arith, sound (suc (suc (suc (suc n)))) refl))
