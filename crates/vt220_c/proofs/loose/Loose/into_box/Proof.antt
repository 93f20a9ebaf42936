-- A box is made again of its pointer and its handle.
use Rattle.vt220_c.proofs.Names.{List, [], ◌∷◌, refl, sym, ap, subst, ◌≡◌, Args, a_type, dcons, dnil, Val, inst_fn}
use Rattle.vt220_c.proofs.Names.{SProp, id⊢, Fml, ftrue, flft, WpFn, ‵, raw, ◌⊛◌, some, later, at_ret, ◌$◌, ◌∵◌, !, qed}
use Rattle.vt220_c.proofs.Names.{by, move, keep, drop, split, split3, join, fsplit, fjoin, pick, use1, await, rewrite}
use Rattle.vt220_c.proofs.Names.{feq_i, stop, fld, of_opd, no_more, and_then, first, blocks, exec, returns, enter}
use Rattle.vt220_c.proofs.Names.{alloc_all, pass_all, free_all, look_at, get, get_in, sets, lands_last, env, sub, whole}
use Rattle.vt220_c.proofs.Names.{fact, ◌⊑◌, tables, no, RattleType, owns, types_at, plain, Ptr, ptr_val, nothing, only}
use Rattle.vt220_c.proofs.Names.{param, layout, bounded, param_laws, Lasts, lasts, triple_of, calls_at_last, framed}
use Rattle.vt220_c.proofs.Names.{Stays, stay_dropped, walk_of, Al, Goes-blank, proved_at, leaves, box_owns}
use Rattle.std.proofs.VecSteps.Shapes.{after}
use Rattle.std.proofs.BoxSteps.Form as box
use Rattle.std.specs.contracts.boxed.Box.from_raw as from_raw
use Rattle.std.proofs.boxed.Box.from_raw.Met.{met}
use Rattle.vt220_c.proofs.Words.{Good, both, both_good, pointer_good, two_out, two_in, passed}
use Rattle.vt220_c.specs.contracts.loose.Loose as loose
use Rattle.vt220_c.specs.contracts.loose.Loose.into_box as f
use Rattle.vt220_c.proofs.loose.Loose.into_box.Statement.{statement}
use Rattle.vt220_c.proofs.loose.Loose.into_box.Code as code

pub into_box_spec : {M : Type 1} → statement M
into_box_spec 𝓤 𝓛 𝓜 𝓡 wired T A LT LA g methods drop_value drops allocator glue glued =
    let H = 𝓛.H in let 𝓣 = tables 𝓤 H 𝓜 𝓡 𝓡.env in let R : RattleType = param 0 T in let Z : RattleType = param 1 A in
    let heap : Al = record { row = Z; laws = param_laws 1 A LA; g = g; d = methods; drops = drops } in
    let E : box.Bx =
    record { row = T; laws = LT; al = record { row = A; laws = LA; g = g; d = methods; drops = drops } } in
    let B : RattleType = box.B E in let L : RattleType = loose.the_row R Z g in
    let at : Args = bounded (a_type ∷ a_type ∷ []) (T, (A, tt)) (dcons methods (dcons drop_value (dcons drops dnil))) in
    let fn = inst_fn at code.function in let ended = f.ended T A g methods drop_value drops in
    let c = f.clauses T A g methods drop_value drops 𝓛 𝓜.mem 𝓡.returns in
    let callee =
    triple_of 𝓛 (from_raw.signature T A g methods drops) (from_raw.spec T A g methods drops 𝓛 𝓜.mem 𝓡.returns) in
    let stayed : Stays ended.signature.params ended.kept = (stay_dropped (plain (λ _. L)) no, tt) in
    proved_at 𝓛 ended stayed c 𝓜 𝓡 (Goes-blank 𝓛 2 (plain (λ _. L)) no (λ κs x w. tt), tt)
    (f.Key.name at) fn (code.unfolded 𝓤 H 𝓜 𝓡 wired (T, (A, tt)) methods drop_value drops) (λ z are.
    let κs = z.0.0 in let qs = z.0.1 in let self = z.0.3.0 in let a = self.alloc in let p = self.at in
    let Post : Val → SProp 𝓤 = (walk_of 𝓛 ended stayed c).post z in
    let Block : (p : Ptr) (x : R.Denot) → Fml = box_owns (g.dealloc_token a) R in
    let lives = ‵ (flft κs.0 qs.0) ⊛ ‵ (flft κs.1.0 qs.1.0) ⊛ ‵ ftrue in
    let bounds = raw (fact 𝓤 (κs.0 ⊑ T.lives)) ⊛ raw (fact 𝓤 (κs.1.0 ⊑ A.lives)) ⊛ ‵ ftrue in
    qed 𝓛 ((lives ⊛ ‵ (owns (types_at ended.signature.params κs) z.0.3 z.0.4)) ∷ raw ((c κs z.0.3).requires z.1) ∷ []) ∵
    split ! $ move ! (1 ∷ []) $ fsplit ! $ two_out heap ! p a (Block p self.value) z.0.4.0 (λ h words ok.
    -- [the block; the handle; nothing; the tokens; the bounds]
    let word : Val = both (ptr_val p) h in
    let y : callee.Ghost = ((κs, qs, tt, (a, (p, tt)), (h ∷ [], (ptr_val p ∷ [], tt))), self.value) in
    move ! (4 ∷ []) $ use1 𝓛 bounds (id⊢ 𝓤 _) $ split3 ! $ move ! (2 ∷ []) $ drop ! $ move ! (1 ∷ 2 ∷ []) $ join ! $
    move ! (1 ∷ 0 ∷ []) $ join ! $
    move ! (2 ∷ []) $ feq_i ! (List Val) (ptr_val p ∷ []) _ refl $ fjoin ! $ move ! (2 ∷ 0 ∷ []) $ fjoin ! $
    move ! (2 ∷ 0 ∷ []) $ join ! $ join ! $
    -- [what `from_raw` asks for]
    use1 𝓛 (raw (callee.pre y)) (id⊢ 𝓤 _) $
    passed ! (λ ws. WpFn 𝓤 H 𝓣.C 𝓣.Λ fn ws Post) z.0.4.0 word words $
    enter ! 𝓣.C 𝓣.Λ fn (word ∷ []) Post $ alloc_all ! (λ l. pass_all ! refl (both_good (layout Z) p h ok, tt) $
    sets ! (of_opd ! (get_in ! (fld ! refl (stop !)) (sub ! 0 refl (whole !)))) refl (pointer_good p) $
    sets ! (of_opd ! (get_in ! (fld ! refl (stop !)) (sub ! 1 refl (whole !)))) refl ok $
    first ! $ blocks ! $ sets ! (of_opd ! (get ! refl)) refl ok $
    calls_at_last ! (framed 𝓤 H 𝓜 𝓣) callee
    (met 𝓤 𝓛 𝓜 𝓡 (code.calls-std_alloc::boxed::Box::from_raw 𝓡.env wired) T A LT LA g methods drops allocator glued) y
    (and_then ! (get ! refl) (and_then ! (get ! refl) (no_more !))) (λ u.
    use1 𝓛 (later (some (λ (r : B.Denot). (lives ⊛ ‵ (B.own_val r (u ∷ []))) ⊛
    some (λ (ls : Lasts (from_raw.ended T A g methods drops) κs y.0.3). ‵
    (lasts (from_raw.ended T A g methods drops) κs y.0.3 ls) ⊛
    (raw (fact 𝓤 (r.value ≡ self.value)) ⊛ raw (fact 𝓤 (r.alloc ≡ a))))))) (id⊢ 𝓤 _) $
    await ! tt $ pick ! (λ r. split ! $ move ! (1 ∷ []) $ pick ! (λ _. split3 ! $ drop ! $
    -- [the value is the same; the handle is the same; the tokens with the box]
    move ! (2 ∷ []) $ split ! $ move ! (1 ∷ []) $
    two_out heap ! r.ptr r.alloc (box_owns (g.dealloc_token r.alloc) R r.ptr r.value) (u ∷ []) (λ h' same ok'.
    two_in heap ! r.ptr r.alloc (box_owns (g.dealloc_token r.alloc) R r.ptr r.value) h' $
    let landed : Good (layout B) u = subst (Good (layout B)) (sym (ap only same)) (both_good (layout Z) r.ptr h' ok') in
    rewrite ! 0 (λ (us : List Val). ‵ (B.own_val r us)) (sym same) refl $ lands_last ! refl landed $
    exec ! 𝓣.C 𝓣.Λ (env fn.locals l) (after 3 fn.body) (at_ret _ Post) $ sets ! (of_opd ! (get ! refl)) refl landed $
    nothing ! $ nothing ! $ fjoin ! $ returns ! (look_at ! 0 refl) $ free_all ! refl $ keep ! (2 ∷ 0 ∷ 1 ∷ 3 ∷ []) $
    by ! (leaves 𝓛 ended stayed c z u r ((tt, (tt, tt)), tt) (tt, tt)))))))))
