-- Bytes that lead from one session to another.
use Rattle.std.proofs.Common.{◌≡◌, ◌∙◌, ℕ, List, [], ◌∷◌, ◌++◌, length, take, drop, refl, sym, ap, ap₂, subst, append-nil, append_assoc, arith}
use Rattle.std.specs.Prelude.{◌↔◌}
use Rattle.std.proofs.Math.Seq.{drop-append_seam, take-append_seam}
use Rattle.vt_term.specs.Play.{joined}
use Rattle.vt_feed.specs.Actions.{actions, read_after, state_after, reports}
use Rattle.vt_syntax.specs.declared.held.Held.TheVariants.{Nothing}
use Rattle.vt_feed.specs.Languages.{Reading, reading, utf8}
use Rattle.vt_feed.proofs.Playing.{actions-append, read-append, state-append, reports-append, plays-nothing, plays-both}
use Rattle.vt_xterm_display.specs.Functions.{xterm}
use Rattle.vt_xterm_display.specs.State.{XtermState}
use Rattle.vt_xterm_display.specs.Session.{Session, PlaysXterm}
use Rattle.vt_xterm_update.specs.Updates.{Leads, LeadsAlong, Updates}
use Rattle.vt_xterm_update.specs.Private.Appended.{Appended}

-- ---- lists

none : (xs : List ℕ) → length xs ≡ 0 → xs ≡ []
none [] e = refl
none (x ∷ xs) e = absurd (omega (arith, e))

none-left : (xs ys : List ℕ) → xs ++ ys ≡ [] → xs ≡ []
none-left [] ys e = refl
none-left (x ∷ xs) ys e = let same : length ((x ∷ xs) ++ ys) ≡ 0 = ap (λ (zs : List ℕ). length zs) e in
    absurd (omega (arith, same))

none-right : (xs ys : List ℕ) → xs ++ ys ≡ [] → ys ≡ []
none-right [] ys e = e
none-right (x ∷ xs) ys e = let same : length ((x ∷ xs) ++ ys) ≡ 0 = ap (λ (zs : List ℕ). length zs) e in
    absurd (omega (arith, same))

-- what is added to a list is nothing, if the list stays, or as long as it was
same-none : (before xs : List ℕ) → length (before ++ xs) ≡ length before → xs ≡ []
same-none [] xs e = none xs e
same-none (b ∷ before) xs e = same-none before xs (omega (arith, e))

-- ---- a session after bytes, and their reports

abbrev after : Session → List ℕ → Session
after s bytes = record { screen = state_after xterm (actions utf8 s.reading bytes) s.screen; reading = read_after utf8 s.reading bytes }

abbrev reported : Session → List ℕ → List ℕ
reported s bytes = reports xterm (actions utf8 s.reading bytes) s.screen

leads-to : (s t : Session) (bytes : List ℕ) → t ≡ after s bytes → reported s bytes ≡ [] → Leads s bytes t
leads-to s t bytes is silent before = record {
  state = ap (λ (u : Session). u.screen) is;
  read = ap (λ (u : Session). u.reading) is;
  reports_are = sym (ap (λ (xs : List ℕ). before ++ xs) silent ∙ append-nil before);
}

left : (s t : Session) (bytes before out : List ℕ) → PlaysXterm s bytes t before out → t ≡ after s bytes
left s t bytes before out p =
    ap₂ (λ (x : XtermState) (r : Reading). record { screen = x; reading = r }) p.state p.read

silent : (s t : Session) (bytes : List ℕ) → Leads s bytes t → reported s bytes ≡ []
silent s t bytes leads = sym (leads []).reports_are

-- bytes that report nothing lead to the session that they leave
pub silently : (s t : Session) (bytes before out : List ℕ) → PlaysXterm s bytes t before out → length out ≡ length before → Leads s bytes t
silently s t bytes before out p same =
    leads-to s t bytes (left s t bytes before out p)
    (same-none before (reported s bytes) (ap (λ (xs : List ℕ). length xs) (sym p.reports_are) ∙ same))

-- ---- laws

pub leads-nothing : (s t : Session) → Leads s [] t ↔ (s ≡ t)
leads-nothing s t = (
  λ leads. sym (left s t [] [] [] (leads [])),
  λ e. subst (λ (u : Session). Leads s [] u) e (λ before. plays-nothing utf8 xterm s.reading s.screen before),
)

pub leads-in-turn : (s t u : Session) (a b : List ℕ) → Leads s a t → Leads t b u → Leads s (a ++ b) u
leads-in-turn s t u a b first second before =
    plays-both utf8 xterm s.reading t.reading u.reading s.screen t.screen u.screen a b before before before (first before) (second before)

record Halves (s t : Session) (a b : List ℕ) : Type 0 where
  first : Leads s a (after s a)
  second : Leads (after s a) b t

halves : (s t : Session) (a b : List ℕ) → Leads s (a ++ b) t → Halves s t a b
halves s t a b leads =
    let both : reported s a ++ reported (after s a) b ≡ [] =
    sym (reports-append xterm (actions utf8 s.reading a) (actions utf8 (read_after utf8 s.reading a) b) s.screen)
    ∙ ap (λ (xs : List _). reports xterm xs s.screen) (sym (actions-append utf8 s.reading a b))
    ∙ silent s t (a ++ b) leads in
    record {
      first = leads-to s (after s a) a refl (none-left (reported s a) (reported (after s a) b) both);
      second = leads-to (after s a) t b
          (left s t (a ++ b) [] [] (leads [])
          ∙ ap₂ (λ (x : XtermState) (r : Reading). record { screen = x; reading = r })
          (ap (λ (xs : List _). state_after xterm xs s.screen) (actions-append utf8 s.reading a b)
          ∙ state-append xterm (actions utf8 s.reading a) (actions utf8 (read_after utf8 s.reading a) b) s.screen)
          (read-append utf8 s.reading a b))
          (none-right (reported s a) (reported (after s a) b) both);
    }

cut-along : (s t : Session) (chunks : List (List ℕ)) → Leads s (joined chunks) t → LeadsAlong s chunks t
cut-along s t [] leads = (leads-nothing s t).0 leads
cut-along s t (bytes ∷ chunks) leads =
    let parts = halves s t bytes (joined chunks) leads in
    (after s bytes, (parts.first, cut-along (after s bytes) t chunks parts.second))

joined-along : (s t : Session) (chunks : List (List ℕ)) → LeadsAlong s chunks t → Leads s (joined chunks) t
joined-along s t [] e = (leads-nothing s t).1 e
joined-along s t (bytes ∷ chunks) (u, (first, along)) =
    leads-in-turn s u t bytes (joined chunks) first (joined-along u t chunks along)

pub leads-cut : (s t : Session) (chunks : List (List ℕ)) → Leads s (joined chunks) t ↔ LeadsAlong s chunks t
leads-cut s t chunks = (cut-along s t chunks, joined-along s t chunks)

-- ---- updates

pub updates-none : (s : Session) (out : List ℕ) → Updates s s out out
updates-none s out = record { sent = []; appended = sym (append-nil out); leads = (leads-nothing s s).1 refl }

pub updates-then : (s t u : Session) (a b c : List ℕ) → Updates s t a b → Updates t u b c → Updates s u a c
updates-then s t u a b c first second = record {
  sent = first.sent ++ second.sent;
  appended = second.appended ∙ ap (λ (xs : List ℕ). xs ++ second.sent) first.appended ∙ append_assoc a first.sent second.sent;
  leads = leads-in-turn s t u first.sent second.sent first.leads second.leads;
}

-- between two sessions that differ, something is sent
pub nothing-sent : (s t : Session) (before out : List ℕ) → Updates s t before out → ((s ≡ t) → ⊥) → (out ≡ before) ↔ (s ≡ t)
nothing-sent s t before out w differ = (
  λ e. (leads-nothing s t).0 (subst (λ (sent : List ℕ). Leads s sent t) (unsent e) w.leads),
  λ e. absurd (differ e),
)
  where
    unsent : out ≡ before → w.sent ≡ []
    unsent e =
        sym (drop-append_seam before w.sent)
        ∙ ap (λ (xs : List ℕ). drop (length before) xs) (sym w.appended ∙ e ∙ sym (append-nil before))
        ∙ drop-append_seam before []

-- ---- what is appended

pub appended_none : (xs : List ℕ) → Appended xs xs
appended_none xs = record { sent = []; is_after = sym (append-nil xs) }

pub appended_one : (old now sent : List ℕ) → now ≡ old ++ sent → Appended old now
appended_one old now sent is = record { sent = sent; is_after = is }

pub appended_then : (old mid now : List ℕ) → Appended old mid → Appended mid now → Appended old now
appended_then old mid now a b = record {
  sent = a.sent ++ b.sent;
  is_after = b.is_after ∙ ap (λ (xs : List ℕ). xs ++ b.sent) a.is_after ∙ append_assoc old a.sent b.sent;
}

pub appended-is : (n : ℕ) (old now : List ℕ) → length old ≡ n → Appended old now → now ≡ old ++ drop n now
appended-is n old now e w =
    w.is_after ∙ ap (λ (xs : List ℕ). old ++ xs) (sym (ap (λ (xs : List ℕ). drop (length old) xs) w.is_after ∙ drop-append_seam old w.sent))
    ∙ ap (λ (k : ℕ). old ++ drop k now) e

pub updates-appended : (s t : Session) (a b : List ℕ) → Updates s t a b → Appended a b
updates-appended s t a b w = record { sent = w.sent; is_after = w.appended }

-- what was appended is taken back
pub taken-back : (old mid now : List ℕ) (n : ℕ) → Appended old mid → now ≡ take n mid → n ≡ length old → now ≡ old
taken-back old mid now n w is e =
    is ∙ ap (λ (k : ℕ). take k mid) e ∙ ap (λ (xs : List ℕ). take (length old) xs) w.is_after ∙ take-append_seam old w.sent

-- bytes that lead to a screen, with nothing held or pending
pub rebuilt : (s t : Session) (bytes : List ℕ) → t.reading ≡ reading Nothing []
    → ((before : List ℕ) → PlaysXterm s bytes (record { screen = t.screen; reading = reading Nothing [] }) before before) → Leads s bytes t
rebuilt s t bytes is leads before =
    let p = leads before in record { state = p.state; read = is ∙ p.read; reports_are = p.reports_are }
