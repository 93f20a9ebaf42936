-- Equality of the modes, from the equality of their values.
use Rattle.std.proofs.Common.{ℕ, ◌≡◌, ◌∙◌, refl, sym, ap, List, [], ◌∷◌, map, get_or, drop, Bool, false, ◌&&◌}
use Rattle.std.specs.Prelude.{fold}
use Rattle.std.specs.Bool.{Decides}
use Rattle.std.specs.Cmp.{booleans_Decides}
use Rattle.std.proofs.lemmas.Bool.Decides.{Decides-and, Decides-like}
use Rattle.std.proofs.Math.Bool.{beq}
use Rattle.vt_term.specs.declared.state.Modes.{Modes}
use Rattle.vt_term.specs.State.{Display, display_at_power_up}
use Rattle.vt_term.specs.Modes.{with_mode, ansi_modes, private_modes, ansi_values, private_values}

-- each number of a table, with the value of its mode
abbrev values_of : List (ℕ × (Modes → Bool)) → Modes → List (ℕ × Bool)
values_of values m = map (λ row. (row.0, row.1 m)) values

-- the modes that these values give, one after another
with_values : List (ℕ × (Bool → Display → Display)) → List (ℕ × Bool) → Modes → Modes
with_values modes values m =
    fold (λ m row. (with_mode modes row.1 row.0 (record display_at_power_up { modes = m })).modes) m values

-- the modes with these values
modes_with : List (ℕ × Bool) → List (ℕ × Bool) → Bool → Bool → Modes
modes_with ansi private application eight =
    record (with_values private_modes private (with_values ansi_modes ansi display_at_power_up.modes)) {
      keypad_application = application;
      reports_8bit = eight;
    }

modes_with-values : (m : Modes)
    → modes_with (values_of ansi_values m) (values_of private_values m) m.keypad_application m.reports_8bit ≡ m
unfolding modes_with with_values with_mode
modes_with-values m = refl

module _ (a b : Modes) where
  -- the same values by a table, before another test
  abbrev same_values : List (ℕ × (Modes → Bool)) → Bool → Bool
  same_values [] rest = rest
  same_values (row ∷ rows) rest = beq (row.1 a) (row.1 b) && same_values rows rest

  Decides-values : (values : List (ℕ × (Modes → Bool))) (rest : Bool) {Rest : Type 0} → Decides rest Rest
      → Decides (same_values values rest) ((values_of values a ≡ values_of values b) × Rest)
  Decides-values [] rest d = Decides-like rest (λ r. (refl, r)) (λ h. h.1) d
  Decides-values (row ∷ rows) rest d =
      Decides-like _ (λ h. (cc, h.1.1))
      (λ h. (ap (λ (l : List (ℕ × Bool)). (get_or l 0 (0, false)).1) h.0, (ap (λ (l : List (ℕ × Bool)). drop 1 l) h.0, h.1)))
      (Decides-and _ _ (booleans_Decides (row.1 a) (row.1 b)) (Decides-values rows rest d))

  -- `==` of two sets of modes decides whether they are equal
  pub Decides-modes : Decides (same_values ansi_values
      (same_values private_values
      (beq a.keypad_application b.keypad_application && beq a.reports_8bit b.reports_8bit))) (a ≡ b)
  Decides-modes =
      Decides-like _
      (λ h.
      let same : modes_with (values_of ansi_values a) (values_of private_values a) a.keypad_application a.reports_8bit
      ≡ modes_with (values_of ansi_values b) (values_of private_values b) b.keypad_application b.reports_8bit = cc in
      sym (modes_with-values a) ∙ same ∙ modes_with-values b)
      (λ e. (
        ap (values_of ansi_values) e,
        (
          ap (values_of private_values) e,
          (
            ap (λ (m : Modes). m.keypad_application) e,
            ap (λ (m : Modes). m.reports_8bit) e,
          ),
        ),
      ))
      (Decides-values ansi_values _
      (Decides-values private_values _
      (Decides-and _ _ (booleans_Decides a.keypad_application b.keypad_application)
      (booleans_Decides a.reports_8bit b.reports_8bit))))
