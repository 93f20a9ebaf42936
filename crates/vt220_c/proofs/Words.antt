-- Structs of two words, a pointer and an allocator's handle, which own memory next to them. Assumes `Logic`.
use Rattle.vt220_c.proofs.Names.{◌≡◌, ◌∙◌, ap, List, [], ◌∷◌, ◌++◌, refl, sym, subst, T, lit<, true, ◌&&◌, Ura, Sym, Ty}
use Rattle.vt220_c.proofs.Names.{Fn, Callee, Body, tnil, tcons, ty_ptr, ty_struct, local, value_local, assign, place}
use Rattle.vt220_c.proofs.Names.{field, copy, rv_opd, aggregate, seq, return, Val, vstruct, vcons, vnil, of_list}
use Rattle.vt220_c.proofs.Names.{has_ty, WT, SProp, ent, emp, id⊢, Fml, fsep, fex, WpFn, Calls, Loops, Closed, Model}
use Rattle.vt220_c.proofs.Names.{Logic, sem, Item, Goal, Seq, Step, step, ‵, raw, ◌⊛◌, ◌$◌, ◌∵◌, !, qed, by, move, keep}
use Rattle.vt220_c.proofs.Names.{drop, split, fsplit, fjoin, prop, fpick, fpack, feq_i, feq_l, suffices, use0, use1}
use Rattle.vt220_c.proofs.Names.{done, stop, fld, of_opd, no_more, and_then, returns, enter, alloc_all, pass_all}
use Rattle.vt220_c.proofs.Names.{free_all, look_at, get, get_in, sets, agg, sub, whole, fact, fact_i, Running, tables}
use Rattle.vt220_c.proofs.Names.{yes, rest, RattleType, Valss, owns, RawPtr, Ptr, block_ptr, null_ptr, ptr_val}
use Rattle.vt220_c.proofs.Names.{types_at, plain, nothing, heard, layout, within, Ended, Clauses, closing, alive, Meets}
use Rattle.vt220_c.proofs.Names.{Stays, AllGo, stay_dropped, walk_of, Al, handle_tells, and_tt, proved_at, leaves}

-- what a machine value must be to lie at a type
abbrev pub Good : Ty → Val → Type 0
Good τ v = T (has_ty τ v) × WT v

-- a struct of two words
abbrev pub both : Val → Val → Val
both first second = vstruct (vcons first (vcons second vnil))

pub pointer_good : (p : Ptr) → T (has_ty ty_ptr (ptr_val p)) × WT (ptr_val p)
pointer_good (block_ptr b o) = (tt, tt)
pointer_good null_ptr = (tt, record { fits = lit< tt })

pub both_good : (τ : Ty) (p : Ptr) (h : Val) → Good τ h
    → T (has_ty ty_ptr (ptr_val p) && (has_ty τ h && true)) × WT (both (ptr_val p) h)
both_good τ (block_ptr b o) h ok = (and_tt (has_ty τ h) ok.0, (tt, (ok.1, tt)))
both_good τ null_ptr h ok = (and_tt (has_ty τ h) ok.0, (record { fits = lit< tt }, (ok.1, tt)))

-- ---- what is owned

-- the words, which lie at these machine values, and a formula next to them
abbrev pub two : (Z : RattleType) → Ptr → Z.Denot → Fml → List Val → Fml
two Z p a heap vs = fsep (fex (Valss (RawPtr ∷ Z ∷ []))
    (within (record { name = []; args = []; types = []; fields = RawPtr ∷ Z ∷ [] }) (p, (a, tt)) vs)) heap

module _ (E : Al) where
  abbrev Z : RattleType
  Z = E.row

  module _ {M : Type 1} {𝓤 : Ura M} {𝓛 : Logic 𝓤} {K : Type 0} {Γ : List (Item 𝓤)} {G : Goal 𝓤 𝓛.H} where
    pub two_out : K → (p : Ptr) (a : Z.Denot) (heap : Fml) (vs : List Val)
        → ((h : Val) → vs ≡ both (ptr_val p) h ∷ [] → Good (layout Z) h
        → Seq K 𝓛 (‵ heap ∷ ‵ (Z.own_val a (h ∷ [])) ∷ Γ) G)
        → Seq K 𝓛 (‵ (two Z p a heap vs) ∷ Γ) G
    two_out t p a heap vs next =
        fsplit t $ fpick t (λ fields. fsplit t $ feq_l t (λ all. fsplit t $ feq_l t (λ pointer. fsplit t $
        handle_tells E t a fields.1.0 (λ h handle ok. move t (1 ∷ []) $ drop t $ move t (1 ∷ []) $
        next h (all ∙ ap (λ (ps : List Val). vstruct (of_list (ps ++ (fields.1.0 ++ []))) ∷ []) pointer
        ∙ ap (λ (hs : List Val). vstruct (of_list (ptr_val p ∷ (hs ++ []))) ∷ []) handle) ok))))

    pub two_in : K → (p : Ptr) (a : Z.Denot) (heap : Fml) (h : Val)
        → Step K 𝓛 (‵ (two Z p a heap (both (ptr_val p) h ∷ [])) ∷ Γ) G (‵ heap ∷ ‵ (Z.own_val a (h ∷ [])) ∷ Γ) G
    two_in t p a heap h = step (λ next. let w : Val = both (ptr_val p) h in
        nothing t $ move t (2 ∷ 0 ∷ []) $ fjoin t $ feq_i t (List Val) (ptr_val p ∷ []) _ refl $ fjoin t $
        feq_i t (List Val) (w ∷ []) _ refl $ fjoin t $
        fpack t (Valss (RawPtr ∷ Z ∷ []))
        (within (record { name = []; args = []; types = []; fields = RawPtr ∷ Z ∷ [] }) (p, (a, tt)) (w ∷ []))
        (ptr_val p ∷ [], (h ∷ [], tt)) $ fjoin t $ next)

-- what is owned, said another way
module _ {M : Type 1} {𝓤 : Ura M} {𝓛 : Logic 𝓤} {K : Type 0} {Γ : List (Item 𝓤)} where
  pub restated : K → {G : Goal 𝓤 𝓛.H} (F F' : Fml) → F ≡ F' → Step K 𝓛 (‵ F' ∷ Γ) G (‵ F ∷ Γ) G
  restated t F F' e = use1 𝓛 (‵ F') (subst (λ (X : Fml). ent 𝓤 (sem 𝓛 F) (sem 𝓛 X)) e (id⊢ 𝓤 (sem 𝓛 F)))

  -- an argument is one machine value
  pub passed : K → (Run : List Val → SProp 𝓤) (vs : List Val) (w : Val) → vs ≡ w ∷ []
      → Step K 𝓛 Γ (prop (Run (w ∷ []))) Γ (prop (Run (vs ++ [])))
  passed t Run vs w e = suffices t (Run (w ∷ [])) (subst (λ (us : List Val). ent 𝓤 (Run (w ∷ [])) (Run us))
      (sym (ap (λ (us : List Val). us ++ []) e)) (id⊢ 𝓤 _))

-- ---- functions that take such a struct apart and make another one of its words

abbrev pub words : Sym → Ty → Ty
words name τ = ty_struct name (tcons ty_ptr (tcons τ tnil))

abbrev turning-body : Body
turning-body = seq (assign (place 2 []) (rv_opd (copy (place 1 (field 0 ∷ [])))))
    (seq (assign (place 3 []) (rv_opd (copy (place 1 (field 1 ∷ [])))))
    (seq (assign (place 4 []) (rv_opd (copy (place 2 []))))
    (seq (assign (place 0 []) (aggregate (copy (place 4 []) ∷ copy (place 3 []) ∷ []))) return)))

abbrev pub turning : Sym → Sym → Ty → Fn
turning from to τ = record {
  lifetimes = 0;
  outlives = [];
  ty_params = [];
  givens = 0;
  params = 1;
  locals = local (words to τ) value_local ∷ local (words from τ) value_local ∷ local ty_ptr value_local
      ∷ local τ value_local ∷ local ty_ptr value_local ∷ [];
  body = turning-body;
}

module _ {M : Type 1} {𝓤 : Ura M} (𝓛 : Logic 𝓤) (C : Calls 𝓤 𝓛.H) (Λ : Loops 𝓤 𝓛.H) (from to : Sym) (τ : Ty) (p : Ptr)
    (h : Val) (ok : Good τ h) (Post : Val → SProp 𝓤) where
  pub turns : ent 𝓤 (Post (both (ptr_val p) h)) (WpFn 𝓤 𝓛.H C Λ (turning from to τ) (both (ptr_val p) h ∷ []) Post)
  turns = let w : Val = both (ptr_val p) h in let good = both_good τ p h ok in
      qed 𝓛 (raw (Post w) ∷ []) ∵ enter ! C Λ (turning from to τ) (w ∷ []) Post $ alloc_all ! (λ l.
      pass_all ! refl (good, tt) $
      sets ! (of_opd ! (get_in ! (fld ! refl (stop !)) (sub ! 0 refl (whole !)))) refl (pointer_good p) $
      sets ! (of_opd ! (get_in ! (fld ! refl (stop !)) (sub ! 1 refl (whole !)))) refl ok $
      sets ! (of_opd ! (get ! refl)) refl (pointer_good p) $
      sets ! (agg ! (and_then ! (get ! refl) (and_then ! (get ! refl) (no_more !)))) refl good $
      returns ! (look_at ! 0 refl) $ free_all ! refl $ done !)

-- ---- functions of one parameter that owe a fact

abbrev pub ended : RattleType → RattleType → Ended
ended P Q = record {
  signature = record { lifetimes = 0; outlives = []; params = plain (λ κs. P) ∷ []; result = plain (λ κs. Q) };
  kept = (yes, tt);
}

abbrev pub clauses : {M : Type 1} (𝓤 : Ura M) (P Q : RattleType) → (P.Denot → SProp 𝓤) → (P.Denot → Q.Denot → Type 0)
    → Clauses 𝓤 (ended P Q)
clauses 𝓤 P Q req ens κs args = record {
  ghost = Unit {0};
  requires = λ g. req args.0;
  ensures = λ g r end. fact 𝓤 (ens args.0 r);
}

module _ {M : Type 1} {𝓤 : Ura M} (𝓛 : Logic 𝓤) (𝓜 : Model 𝓤 𝓛.H) (𝓡 : Running 𝓤 𝓛.H 𝓜) (P Q : RattleType)
    (req : P.Denot → SProp 𝓤) (ens : P.Denot → Q.Denot → Type 0) where
  abbrev 𝓒 : Calls 𝓤 𝓛.H
  𝓒 = (tables 𝓤 𝓛.H 𝓜 𝓡 𝓡.env).C

  abbrev Λ : Loops 𝓤 𝓛.H
  Λ = (tables 𝓤 𝓛.H 𝓜 𝓡 𝓡.env).Λ

  abbrev en : Ended
  en = ended P Q

  abbrev c : Clauses 𝓤 en
  c = clauses 𝓤 P Q req ens

  abbrev stays : Stays en.signature.params en.kept
  stays = (stay_dropped (plain (λ _. P)) yes, tt)

  -- the machine's run, what is owned, and the fact, each by itself
  pub makes : (A : P.Denot → Type 0) (τ : Ty) (result : (d : P.Denot) → A d → Q.Denot)
      (before after : (d : P.Denot) → A d → Val → Val)
      → AllGo 𝓛 0 en.signature.params en.kept stays → (at : Callee) (fn : Fn)
      → Closed 𝓤 𝓛.H 𝓒 Λ at fn
      → ((d : P.Denot) → ent 𝓤 (req d) (fact 𝓤 (A d)))
      → ((d : P.Denot) (x : A d) → ens d (result d x))
      → ((d : P.Denot) (x : A d) (h : Val) → Good τ h → (Post : Val → SProp 𝓤)
      → ent 𝓤 (Post (after d x h)) (WpFn 𝓤 𝓛.H 𝓒 Λ fn (before d x h ∷ []) Post))
      → ((d : P.Denot) (x : A d) (K : Type 0) (Γ : List (Item 𝓤)) (G : Goal 𝓤 𝓛.H) → K → (vs : List Val)
      → ((h : Val) → vs ≡ before d x h ∷ [] → Good τ h → Seq K 𝓛 (‵ (Q.own_val (result d x) (after d x h ∷ [])) ∷ Γ) G)
      → Seq K 𝓛 (‵ (P.own_val d vs) ∷ Γ) G)
      → Meets 𝓛 en.signature (𝓡.run (𝓡.env at)) (closing 𝓛 en c)
  makes A τ result before after goes at fn closed tells met runs opens =
      proved_at 𝓛 en stays c 𝓜 𝓡 goes at fn closed (λ z are.
      let d = z.0.3.0 in let Post : Val → SProp 𝓤 = (walk_of 𝓛 en stays c).post z in
      qed 𝓛 ((raw (alive 𝓛 en.signature z.0.0 z.0.1) ⊛ ‵ (owns (types_at en.signature.params z.0.0) z.0.3 z.0.4))
      ∷ raw (req d) ∷ []) ∵ move ! (1 ∷ []) $ use1 𝓛 (raw (fact 𝓤 (A d))) (tells d) $ heard ! (A d) (λ x.
      split ! $ move ! (1 ∷ []) $ fsplit ! $ opens d x _ _ _ ! z.0.4.0 (λ h all ok.
      -- [the result; nothing; the tokens]
      let w : Val = after d x h in
      passed ! (λ us. WpFn 𝓤 𝓛.H 𝓒 Λ fn us Post) z.0.4.0 (before d x h) all $
      suffices ! (Post w) (runs d x h ok Post) $
      use0 𝓛 (raw (fact 𝓤 (ens d (result d x)))) (fact_i 𝓤 (ens d (result d x)) (emp 𝓤) (met d x)) $
      nothing ! $ nothing ! $ fjoin ! $ keep ! (4 ∷ 0 ∷ 2 ∷ 1 ∷ []) $
      by ! (leaves 𝓛 en stays c z w (result d x) (rest (P.exit yes) d, tt) (tt, tt)))))
