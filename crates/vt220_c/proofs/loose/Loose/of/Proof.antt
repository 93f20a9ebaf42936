-- A box is taken apart into its pointer and its handle.
use Rattle.vt220_c.proofs.Names.{◌≡◌, [], ◌∷◌, refl, ap, Args, a_type, dcons, dnil, Val, inst_fn, SProp, emp, id⊢, Fml}
use Rattle.vt220_c.proofs.Names.{ftrue, flft, WpFn, ‵, raw, ◌⊛◌, some, later, ◌$◌, ◌∵◌, !, qed, by, move, keep, drop}
use Rattle.vt220_c.proofs.Names.{split, split3, join, fsplit, fjoin, pick, use0, use1, await, rewrite, stop, fld}
use Rattle.vt220_c.proofs.Names.{of_opd, no_more, and_then, returns, enter, alloc_all, pass_all, free_all, look_at, get}
use Rattle.vt220_c.proofs.Names.{get_in, sets, lands_as, agg, sub, whole, fact, fact_i, tables, no, RattleType, owns}
use Rattle.vt220_c.proofs.Names.{types_at, plain, RawPtr, Ptr, ptr_val, nothing, only, heard, param, layout, bounded}
use Rattle.vt220_c.proofs.Names.{param_laws, Tuple, Lasts, lasts, triple_of, calls_at, framed, Stays, stay_dropped}
use Rattle.vt220_c.proofs.Names.{walk_of, Al, Goes-blank, proved_at, leaves, box_owns}
use Rattle.std.proofs.BoxSteps.Form as box
use Rattle.vt220_c.proofs.Words.{both, both_good, pointer_good, two_out, two_in, passed}
use Rattle.std.specs.contracts.boxed.Box.into_raw_with_allocator as into_raw
use Rattle.std.proofs.boxed.Box.into_raw_with_allocator.Met.{met}
use Rattle.vt220_c.specs.contracts.loose.Loose.of as f
use Rattle.vt220_c.proofs.loose.Loose.of.Statement.{statement}
use Rattle.vt220_c.proofs.loose.Loose.of.Code as code

pub of_spec : {M : Type 1} → statement M
of_spec 𝓤 𝓛 𝓜 𝓡 wired T A LT LA g methods drop_value drops allocator glue glued =
    let H = 𝓛.H in let 𝓣 = tables 𝓤 H 𝓜 𝓡 𝓡.env in let Z : RattleType = param 1 A in
    let heap : Al = record { row = Z; laws = param_laws 1 A LA; g = g; d = methods; drops = drops } in
    let E : box.Bx =
    record { row = T; laws = LT; al = record { row = A; laws = LA; g = g; d = methods; drops = drops } } in
    let at : Args = bounded (a_type ∷ a_type ∷ []) (T, (A, tt)) (dcons methods (dcons drop_value (dcons drops dnil))) in
    let fn = inst_fn at code.function in let ended = f.ended T A g methods drop_value drops in
    let c = f.clauses T A g methods drop_value drops 𝓛 𝓜.mem 𝓡.returns in
    let Pair : RattleType = Tuple (RawPtr ∷ Z ∷ []) in
    let callee =
    triple_of 𝓛 (into_raw.signature T A g methods drops drop_value)
    (into_raw.spec T A g methods drops drop_value 𝓛 𝓜.mem 𝓡.returns) in
    let stayed : Stays ended.signature.params ended.kept = (stay_dropped (plain (λ _. box.B E)) no, tt) in
    proved_at 𝓛 ended stayed c 𝓜 𝓡 (Goes-blank 𝓛 2 (plain (λ _. box.B E)) no (λ κs x w. tt), tt)
    (f.Key.name at) fn (code.unfolded 𝓤 H 𝓜 𝓡 wired (T, (A, tt)) methods drop_value drops) (λ z are.
    let κs = z.0.0 in let qs = z.0.1 in let v = z.0.3.0 in let a = v.alloc in
    let Post : Val → SProp 𝓤 = (walk_of 𝓛 ended stayed c).post z in
    let Block : Ptr → Fml = λ p. box_owns (g.dealloc_token a) (param 0 T) p v.value in
    let lives = ‵ (flft κs.0 qs.0) ⊛ ‵ (flft κs.1.0 qs.1.0) ⊛ ‵ ftrue in
    qed 𝓛 ((lives ⊛ ‵ (owns (types_at ended.signature.params κs) z.0.3 z.0.4)) ∷ raw ((c κs z.0.3).requires z.1) ∷ []) ∵
    split ! $ move ! (1 ∷ []) $ fsplit ! $ two_out heap ! v.ptr a (Block v.ptr) z.0.4.0 (λ h words ok.
    two_in heap ! v.ptr a (Block v.ptr) h $
    -- [the box; nothing; the tokens; the bounds]
    let word : Val = both (ptr_val v.ptr) h in
    let y : callee.Ghost = ((κs, qs, tt, (v, tt), (word ∷ [], tt)), tt) in
    fjoin ! $ move ! (1 ∷ 0 ∷ []) $ join ! $ join ! $ use1 𝓛 (raw (callee.pre y)) (id⊢ 𝓤 _) $
    passed ! (λ ws. WpFn 𝓤 H 𝓣.C 𝓣.Λ fn ws Post) z.0.4.0 word words $ enter ! 𝓣.C 𝓣.Λ fn (word ∷ []) Post $
    alloc_all ! (λ l. pass_all ! refl (both_good (layout Z) v.ptr h ok, tt) $
    sets ! (of_opd ! (get ! refl)) refl (both_good (layout Z) v.ptr h ok) $
    calls_at ! (framed 𝓤 H 𝓜 𝓣) callee
    (met 𝓤 𝓛 𝓜 𝓡 (code.calls-std_alloc::boxed::Box::into_raw_with_allocator 𝓡.env wired) T A LT LA g methods drops
    drop_value allocator glued glue) y
    (and_then ! (get ! refl) (no_more !)) (λ u.
    use1 𝓛 (later (some (λ (r : Ptr × A.Denot). (lives ⊛ ‵ (Pair.own_val r (u ∷ []))) ⊛
    some (λ (ls : Lasts (into_raw.ended T A g methods drops drop_value) κs y.0.3). ‵
    (lasts (into_raw.ended T A g methods drops drop_value) κs y.0.3 ls) ⊛
    (raw (fact 𝓤 (r.1 ≡ a)) ⊛ ‵ (Block r.0)))))) (id⊢ 𝓤 _) $
    await ! tt $ pick ! (λ r. split ! $ move ! (1 ∷ []) $ pick ! (λ _. split3 ! $ drop ! $ heard ! (r.1 ≡ a) (λ same.
    -- [the block; the tokens with the pair]
    move ! (1 ∷ []) $ split ! $ move ! (1 ∷ 2 ∷ []) $
    rewrite ! 0 (λ (x : A.Denot). ‵ (Pair.own_val (r.0, x) (u ∷ []))) same refl $ fjoin ! $
    two_out heap ! r.0 a (Block r.0) (u ∷ []) (λ h' all ok'. let good = both_good (layout Z) r.0 h' ok' in
    lands_as ! (ap only all) refl good $
    sets ! (of_opd ! (get_in ! (fld ! refl (stop !)) (sub ! 0 refl (whole !)))) refl (pointer_good r.0) $
    sets ! (of_opd ! (get_in ! (fld ! refl (stop !)) (sub ! 1 refl (whole !)))) refl ok' $
    sets ! (of_opd ! (get ! refl)) refl ok' $
    sets ! (agg ! (and_then ! (get ! refl) (and_then ! (get ! refl) (no_more !)))) refl good $
    two_in heap ! r.0 a (Block r.0) h' $
    use0 𝓛 (raw (fact 𝓤 (v.value ≡ v.value))) (fact_i 𝓤 (v.value ≡ v.value) (emp 𝓤) refl) $ nothing ! $ nothing ! $
    fjoin ! $
    returns ! (look_at ! 0 refl) $ free_all ! refl $ keep ! (3 ∷ 0 ∷ 2 ∷ 1 ∷ []) $
    by ! (leaves 𝓛 ended stayed c z (both (ptr_val r.0) h')
    (record { at = r.0; alloc = a; value = v.value }) ((tt, (tt, tt)), tt) (tt, tt))))))))))
