-- What happens at bytes happens on a screen of one size.
use Rattle.std.proofs.Common.{◌≡◌, ◌≤◌, ◌∙◌, ℕ, List, [], ◌∷◌, All, ap, subst, sym}
use Rattle.std.proofs.lemmas.List.Elements.{All-nil, All-cons, All-weaker}
use Rattle.vt_screen.specs.declared.size.Size.{Size}
use Rattle.vt_term.specs.State.{State}
use Rattle.vt_term.specs.Happenings.{Happening, happening, happenings}
use Rattle.vt_term.specs.Play.{play}
use Rattle.vt_term.specs.ScrollSteps.{IsShort}
use Rattle.vt_term.specs.Text.{row_text_limit}
use Rattle.vt_term.proofs.SizeKept.{play_kept}

pub happenings-size : (size : Size) (s : State) (bytes : List ℕ) → s.display.grid.size ≡ size
    → All (λ h. h.before.grid.size ≡ size) (happenings s bytes)
happenings-size size s [] is = All-nil (λ h. h.before.grid.size ≡ size)
happenings-size size s (b ∷ bytes) is =
    All-cons (λ h. h.before.grid.size ≡ size) (happening s b) (happenings (play s (b ∷ [])).state bytes) is
    (happenings-size size (play s (b ∷ [])).state bytes (play_kept s (b ∷ []) ∙ is))

-- the text of each row has at most so many bytes
pub happenings-short : (limit : ℕ) (size : Size) (hs : List Happening) → All (λ h. h.before.grid.size ≡ size) hs
    → row_text_limit size ≤ limit → All (IsShort limit) hs
happenings-short limit size hs same fits =
    All-weaker (λ h. h.before.grid.size ≡ size) (IsShort limit)
    (λ h is. subst (λ (z : Size). row_text_limit z ≤ limit) (sym is) fits) hs same
