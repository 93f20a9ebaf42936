-- Events that lead from some screens to others, and report nothing.
use Rattle.std.proofs.Common.{◌≡◌, List, [], ◌∷◌, ◌++◌, ℕ, refl, sym, ap, ◌∙◌}
use Rattle.vt_syntax.specs.declared.event.Event.{Event}
use Rattle.vt_term.specs.State.{Display}
use Rattle.vt_term.specs.Functions.{effect}
use Rattle.vt_term.specs.Reports.{report}
use Rattle.vt_term.specs.Play as vt220
use Rattle.vt_paint.proofs.AfterEvents.{display_after-after_events, Makes}
use Rattle.vt_xterm.specs.Pages.{Screens}
use Rattle.vt_xterm.specs.Front.{xterm_effect}
use Rattle.vt_xterm.specs.Play.{after_events, reports_of}
use Rattle.vt_xterm.proofs.Cuts.{after_events-append, reports_of-append}
use Rattle.vt_xterm_paint.proofs.Painted.{AreEach, IsOn}

pub record Leads (events : List Event) (x y : Screens) : Type 0 where
  pub is : after_events events x ≡ y
  pub silent : reports_of events x ≡ []

pub then-leads : (es fs : List Event) (x y z : Screens) → Leads es x y → Leads fs y z → Leads (es ++ fs) x z
then-leads es fs x y z first second = record {
  is = after_events-append es fs x ∙ ap (λ (t : Screens). after_events fs t) first.is ∙ second.is;
  silent = reports_of-append es fs x ∙ ap (λ (r : List ℕ). r ++ reports_of fs (after_events es x)) first.silent
      ∙ ap (λ (t : Screens). reports_of fs t) first.is ∙ second.silent;
}

pub one-leads : (event : Event) (x y : Screens) → xterm_effect event x ≡ y → report event x.display ≡ []
    → Leads (event ∷ []) x y
one-leads event x y is silent = record { is = is; silent = ap (λ (r : List ℕ). r ++ []) silent }

pub none-leads : (x y : Screens) → x ≡ y → Leads [] x y
none-leads x y is = record { is = is; silent = refl }

-- events that have a VT220's effect lead to what they make there
after-on : (f : Display → Screens) (events : List Event) (s : Display) → AreEach (IsOn f) events
    → after_events events (f s) ≡ f (vt220.after_events events s)
unfolding AreEach
after-on f [] s are = refl
after-on f (event ∷ events) s are =
    ap (λ (t : Screens). after_events events t) (are.0 s) ∙ after-on f events (effect event s) are.1

reports-on : (f : Display → Screens) → ((s : Display) → (f s).display ≡ s) → (events : List Event) (s : Display)
    → AreEach (IsOn f) events → reports_of events (f s) ≡ vt220.reports_of events s
unfolding AreEach
reports-on f shows [] s are = refl
reports-on f shows (event ∷ events) s are =
    ap (λ (d : Display). report event d ++ reports_of events (xterm_effect event (f s))) (shows s)
    ∙ ap (λ (r : List ℕ). report event s ++ r)
    (ap (λ (t : Screens). reports_of events t) (are.0 s) ∙ reports-on f shows events (effect event s) are.1)

pub on-leads : (f : Display → Screens) → ((s : Display) → (f s).display ≡ s) → (events : List Event) (x y : Display)
    → AreEach (IsOn f) events → ((s : Display) → vt220.reports_of events s ≡ []) → Makes events x y
    → Leads events (f x) (f y)
on-leads f shows events x y are silent makes = record {
  is = after-on f events x are
      ∙ ap (λ (t : Display). f t) (sym (display_after-after_events x events) ∙ makes.is);
  silent = reports-on f shows events x are ∙ silent x;
}
