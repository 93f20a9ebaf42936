-- Which events report nothing: all but DECID, DA and DSR.
use Rattle.std.proofs.Common.{rules, ◌≡◌, ℕ, false, eqb, [], Option, Some, None, refl}
use Rattle.vt_term.specs.Kinds.{KindOf}
use Rattle.vt_term.specs.State.{DisplayOf}
use Rattle.vt_term.specs.Functions.{FunctionOf, FunctionTableOf, no_function, controls_any, marker_tables_any, intermediate_tables_any, sequences_any}
use Rattle.vt_term.specs.Reports.{control_report_any, sequence_report_any}
use Rattle.vt_term.proofs.Tables.{AllRows, looked_up-holds}

pub silent-control : {C B : Type 0} (k : KindOf C B) (b : ℕ) (s : DisplayOf C B) → eqb b 0x9A ≡ false → control_report_any k b s ≡ []
unfolding control_report_any AllRows
silent-control k b s other =
    looked_up-holds (λ key f. eqb key 0x9A ≡ false → f.report 0 s ≡ []) (controls_any k) b no_function (λ h. refl) (search rules)
    other

-- no row is a request but those of the final bytes `c` and `n`
IsSilent : {C B : Type 0} → ℕ → DisplayOf C B → ℕ → FunctionOf C B → Type 0
IsSilent p s last f = eqb last 0x63 ≡ false → eqb last 0x6E ≡ false → f.report p s ≡ []

AreSilent : {C B : Type 0} → ℕ → DisplayOf C B → FunctionTableOf C B → Type 0
AreSilent p s = AllRows (IsSilent p s)

all-silent : {C B : Type 0} (k : KindOf C B) (marker inter : Option ℕ) (p : ℕ) (s : DisplayOf C B) → AreSilent p s (sequences_any k marker inter)
unfolding sequences_any AllRows AreSilent IsSilent
all-silent k None None p s = search rules
all-silent k (Some marker) None p s =
    looked_up-holds (λ key table. AreSilent p s table) (marker_tables_any k) marker [] tt (search rules)
all-silent k None (Some inter) p s =
    looked_up-holds (λ key table. AreSilent p s table) (intermediate_tables_any k) inter [] tt (search rules)
all-silent k (Some marker) (Some inter) p s = tt

pub silent-sequence : {C B : Type 0} (k : KindOf C B) (marker inter : Option ℕ) (last p : ℕ) (s : DisplayOf C B) → eqb last 0x63 ≡ false
    → eqb last 0x6E ≡ false → sequence_report_any k marker inter last p s ≡ []
unfolding sequence_report_any AreSilent IsSilent
silent-sequence k marker inter last p s c n =
    looked_up-holds (IsSilent p s) (sequences_any k marker inter) last no_function (λ c n. refl)
    (all-silent k marker inter p s) c n
