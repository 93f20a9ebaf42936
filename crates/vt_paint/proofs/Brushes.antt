-- The brush and the sets are made.
use Rattle.std.proofs.Common.{◌≡◌, ◌≤◌, ◌<◌, Bool, true, false, ℕ, zero, suc, List, [], ◌∷◌, length, None, refl}
use Rattle.std.proofs.Common.{sym, ap, ◌∙◌, arith}
use Rattle.vt_glyph.specs.declared.set.Set.{Set}
use Rattle.vt_glyph.specs.declared.set.Set.TheVariants.{Ascii, Special, Supplemental}
use Rattle.vt_glyph.specs.GraphicSets.{GraphicSets, AreSoundSets}
use Rattle.vt_glyph.specs.Invocation.{set_at, designated}
use Rattle.std.specs.Prelude.{slice_set, slice_index_or}
use Rattle.vt_glyph.specs.Spell.{AreSpellingSets}
use Rattle.vt_glyph.proofs.Designations.{set_of_final-final_of}
use Rattle.vt_screen.specs.declared.cell.Rendition.{Rendition}
use Rattle.vt_screen.specs.declared.cell.Brush.{Brush}
use Rattle.vt_term.specs.State.{Display}
use Rattle.vt_term.specs.Rendition.{with_attribute, with_attributes}
use Rattle.vt_term.specs.Functions.{sequence_in, effect}
use Rattle.vt_paint.specs.Controls.{spelling_sets_events, rendition_values, brush_events, left_event, right_event}
use Rattle.vt_paint.specs.Controls.{sets_events}
use Rattle.vt_paint.proofs.AfterEvents.{display_after, Makes}
use Rattle.vt_screen.specs.Same.{same_rendition}
use Rattle.vt_paint.proofs.Equality.{same_rendition-is}
use Rattle.vt_paint.proofs.Tests.{both_pass, all_brushes, at_brush}
use Rattle.vt_term.specs.Functions.{control_any, escape_with_any, plain_escape_any, sequences_any}

-- ---- the brush

attributes_made : (brush : Brush) (old : Rendition)
    → with_attributes (rendition_values brush.rendition) old ≡ brush.rendition
unfolding with_attribute all_brushes both_pass
attributes_made brush old =
    same_rendition-is _ brush.rendition
    (at_brush (λ brush. same_rendition (with_attributes (rendition_values brush.rendition) old) brush.rendition) refl brush)

pub brush_leaves : (x : Display) (brush : Brush) → Makes (brush_events brush) x (record x { brush = brush })
unfolding display_after brush_events sequence_in sequences_any
brush_leaves x brush = record { is = go brush.protected refl }
  where
    made : Rendition → Bool → Display
    made r p = record x { brush = record { rendition = r; protected = p } }

    go : (p : Bool) → brush.protected ≡ p → display_after x (brush_events brush) ≡ record x { brush = brush }
    go true e = rw e (ap (λ r. made r true) (attributes_made brush x.brush.rendition))
        ∙ ap (λ p. made brush.rendition p) (sym e)
    go false e = rw e (ap (λ r. made r false) (attributes_made brush x.brush.rendition))
        ∙ ap (λ p. made brush.rendition p) (sym e)

-- ---- the sets

-- the four sets of a list of four
record AreFour (g : List Set) : Type 0 where
  pub a : Set
  pub b : Set
  pub c : Set
  pub d : Set
  pub is : g ≡ a ∷ b ∷ c ∷ d ∷ []

four_of : (g : List Set) → length g ≡ 4 → AreFour g
four_of [] h = absurd (omega arith)
four_of (a ∷ []) h = absurd (omega arith)
four_of (a ∷ b ∷ []) h = absurd (omega arith)
four_of (a ∷ b ∷ c ∷ []) h = absurd (omega arith)
four_of (a ∷ b ∷ c ∷ d ∷ []) h = record { a = a; b = b; c = c; d = d; is = refl }
four_of (a ∷ b ∷ c ∷ d ∷ e ∷ g) h = absurd (omega arith)

-- the sets but for a pending single shift
abbrev pub with_sets : Display → List Set → ℕ → ℕ → Display
with_sets x g left right = record x { sets = record x.sets { g = g; left = left; right = right } }

left_leaves : (x : Display) (slot : ℕ) → slot < 4
    → effect (left_event slot) x ≡ record x { sets = record x.sets { left = slot } }
unfolding control_any plain_escape_any
left_leaves x zero h = refl
left_leaves x (suc zero) h = refl
left_leaves x (suc (suc zero)) h = refl
left_leaves x (suc (suc (suc zero))) h = refl
left_leaves x (suc (suc (suc (suc n)))) h = absurd (omega arith)

right_leaves : (x : Display) (slot : ℕ) → 1 ≤ slot → slot < 4
    → effect (right_event slot) x ≡ record x { sets = record x.sets { right = slot } }
unfolding plain_escape_any
right_leaves x zero l h = absurd (omega arith)
right_leaves x (suc zero) l h = refl
right_leaves x (suc (suc zero)) l h = refl
right_leaves x (suc (suc (suc zero))) l h = refl
right_leaves x (suc (suc (suc (suc n)))) l h = absurd (omega arith)

-- four designations make the list
four_designated : (g t : List Set) → length g ≡ 4 → length t ≡ 4
    → slice_set (slice_set (slice_set (slice_set g 0 (slice_index_or t 0 Ascii)) 1 (slice_index_or t 1 Ascii)) 2
    (slice_index_or t 2 Ascii)) 3 (slice_index_or t 3 Ascii) ≡ t
four_designated g t four_g four_t =
    let p = four_of g four_g in
    let q = four_of t four_t in
    rw (p.is, q.is) refl

pub sets_leaves : (x : Display) (t : GraphicSets) → length x.sets.g ≡ 4 → AreSoundSets t
    → Makes (sets_events t) x (with_sets x t.g t.left t.right)
unfolding display_after sets_events escape_with_any
sets_leaves x t four sound =
    let put : ℕ → GraphicSets → Display = λ slot y. record x { sets = designated slot (set_at t slot) y } in
    let y1 = designated 0 (set_at t 0) x.sets in
    let y2 = designated 1 (set_at t 1) y1 in
    let y3 = designated 2 (set_at t 2) y2 in
    let x4 = put 3 y3 in
    record {
      is =
          rw (set_of_final-final_of (set_at t 0), set_of_final-final_of (set_at t 1), set_of_final-final_of (set_at t 2), set_of_final-final_of (set_at t 3))
          (ap (λ y. effect (right_event t.right) y) (left_leaves x4 t.left sound.left)
          ∙ right_leaves (with_sets x x4.sets.g t.left x.sets.right) t.right sound.right.0 sound.right.1
          ∙ ap (λ g. with_sets x g t.left t.right) (four_designated x.sets.g t.g four sound.four));
    }

-- the sets that the spellings are for
pub spelling_sets : GraphicSets → GraphicSets
spelling_sets t = record t { g = slice_set (slice_set (slice_set t.g 0 Ascii) 2 Supplemental) 3 Special; left = 0 }

pub spelling_sets_leaves : (x : Display) → Makes spelling_sets_events x (record x { sets = spelling_sets x.sets })
unfolding display_after spelling_sets escape_with_any control_any
spelling_sets_leaves x = record { is = refl }

pub spelling_sets_are : (t : GraphicSets) → length t.g ≡ 4 → t.pending ≡ None → AreSpellingSets (spelling_sets t)
unfolding spelling_sets
spelling_sets_are t four none =
    let p = four_of t.g four in
    record { g0 = rw p.is refl; g2 = rw p.is refl; g3 = rw p.is refl; left = refl; pending = none }

pub spelling_sets_four : (t : GraphicSets) → length t.g ≡ 4 → length (spelling_sets t).g ≡ 4
unfolding spelling_sets
spelling_sets_four t four = let p = four_of t.g four in rw p.is refl

pub spelling_sets_none : (t : GraphicSets) → t.pending ≡ None → (spelling_sets t).pending ≡ None
unfolding spelling_sets
spelling_sets_none t none = none
