-- The pointer of a block, or none, as C may hold it: what serves the handles of a terminal, of a scratch buffer and of a front.
-- Assumes `Logic`.
use Rattle.vt220_c.proofs.Names.{◌≡◌, ◌∙◌, ap, List, [], ◌∷◌, refl, sym, T, Ura, Sym, Fn, Callee, impl, tnil, dnil}
use Rattle.vt220_c.proofs.Names.{local, value_local, assign, place, copy, int, w64, aggregate, seq, return, Val, emp}
use Rattle.vt220_c.proofs.Names.{Fml, ftrue, Closed, Model, Logic, raw, ◌$◌, ◌∵◌, !, qed, done, lit, no_more, and_then}
use Rattle.vt220_c.proofs.Names.{returns, enter, alloc_all, pass_all, free_all, look_at, get, sets, agg, Lfts, fact}
use Rattle.vt220_c.proofs.Names.{fact_i, fact_mono, Running, tables, Last, left, yes, blank, RattleType, Ptr, null_ptr}
use Rattle.vt220_c.proofs.Names.{ptr_val, layout, plain, nothing, closing, Meets, Al, Goes-blank, handle_tells}
use Rattle.vt220_c.proofs.Names.{box_owns}
use Rattle.std.proofs.lemmas.Bool.{false≢true}
use Rattle.std.specs.Prelude.{IsSome}
use Rattle.std.specs.declared.option.Option.{Option}
use Rattle.std.specs.declared.option.Option.TheVariants.{None, Some}
use Rattle.std.specs.contracts.alloc.Global as global
use Rattle.std.specs.contracts.impls.GlobalAllocator.TheImpl.{ghosts}
use Rattle.std.proofs.alloc.Global.TheLaws.{the_row_laws}
use Rattle.vt220_c.specs.contracts.inner.Inner as inner
use Rattle.vt220_c.specs.contracts.scratch.Scratch as scratch
use Rattle.vt220_c.specs.contracts.kept.Kept as kept
use Rattle.vt220_c.specs.contracts.kept_scratch.KeptScratch as kept_scratch
use Rattle.vt220_c.specs.contracts.kept_xterm.KeptXterm as kept_xterm
use Rattle.vt_xterm.specs.contracts.front.SizedFront as front
use Rattle.vt220_c.specs.contracts.loose.Loose as loose
use Rattle.vt220_c.proofs.Words.{both, words, both_good, two, two_in, two_out, restated, turning, turns, ended, clauses}
use Rattle.vt220_c.proofs.Words.{makes}

abbrev pub Z : RattleType
Z = global.the_row

abbrev pub heap : Al
heap = record { row = Z; laws = the_row_laws; g = ghosts; d = impl [] tnil dnil; drops = impl [] tnil dnil }

-- a struct of C's with the pointer of a block, or none
pub record Keeper : Type 2 where
  pub content : RattleType
  pub row : RattleType
  pub name : Sym
  pub at : row.Denot → Ptr
  pub alloc : row.Denot → Z.Denot
  pub inside : row.Denot → Option content.Denot
  pub make : Ptr → Z.Denot → Option content.Denot → row.Denot
  pub made : (d : row.Denot) → make (at d) (alloc d) (inside d) ≡ d
  pub has : (p : Ptr) (a : Z.Denot) (o : Option content.Denot) → inside (make p a o) ≡ o
  pub empty : (a : Z.Denot) (vs : List Val) → two Z null_ptr a ftrue vs ≡ row.own_val (make null_ptr a None) vs
  pub full : (p : Ptr) (a : Z.Denot) (s : content.Denot) (vs : List Val)
      → two Z p a (box_owns (ghosts.dealloc_token a) content p s) vs ≡ row.own_val (make p a (Some s)) vs
  pub quiet : (κs : Lfts 0) (x : row.Denot) (f : Last (row.exit yes) x) → T (blank (left (row.exit yes) x f))

-- that of a terminal, that of a scratch buffer, and that of a front
abbrev pub terminal : Keeper
terminal = record {
  content = inner.the_row;
  row = kept.the_row;
  name = kept.struct.name;
  at = λ d. d.at;
  alloc = λ d. d.alloc;
  inside = λ d. d.inside;
  make = λ p a o. record { at = p; alloc = a; inside = o };
  made = λ d. refl;
  has = λ p a o. refl;
  empty = λ a vs. refl;
  full = λ p a s vs. refl;
  quiet = λ κs x f. tt;
}

abbrev pub buffer : Keeper
buffer = record {
  content = scratch.the_row;
  row = kept_scratch.the_row;
  name = kept_scratch.struct.name;
  at = λ d. d.at;
  alloc = λ d. d.alloc;
  inside = λ d. d.inside;
  make = λ p a o. record { at = p; alloc = a; inside = o };
  made = λ d. refl;
  has = λ p a o. refl;
  empty = λ a vs. refl;
  full = λ p a s vs. refl;
  quiet = λ κs x f. tt;
}

abbrev pub xterm : Keeper
xterm = record {
  content = front.the_row;
  row = kept_xterm.the_row;
  name = kept_xterm.struct.name;
  at = λ d. d.at;
  alloc = λ d. d.alloc;
  inside = λ d. d.inside;
  make = λ p a o. record { at = p; alloc = a; inside = o };
  made = λ d. refl;
  has = λ p a o. refl;
  empty = λ a vs. refl;
  full = λ p a s vs. refl;
  quiet = λ κs x f. tt;
}

some : {A : Type 0} (o : Option A) → IsSome o → (s : A) × (o ≡ Some s)
some None is = absurd (false≢true is)
some (Some s) is = (s, refl)

-- the code of a function that makes an empty one
abbrev pub emptying : Sym → Fn
emptying name = record {
  lifetimes = 0;
  outlives = [];
  ty_params = [];
  givens = 0;
  params = 1;
  locals = local (words name (layout Z)) value_local ∷ local (layout Z) value_local ∷ [];
  body = seq (assign (place 0 []) (aggregate (int w64 0 ∷ copy (place 1 []) ∷ []))) return;
}

module _ (k : Keeper) {M : Type 1} {𝓤 : Ura M} (𝓛 : Logic 𝓤) (𝓜 : Model 𝓤 𝓛.H) (𝓡 : Running 𝓤 𝓛.H 𝓜) (at : Callee) where
  abbrev R : RattleType
  R = k.content

  abbrev Loose : RattleType
  Loose = loose.the_row R Z ghosts

  abbrev loose_name : Sym
  loose_name = (loose.struct R Z ghosts).name

  abbrev Is : Fn → Type 2
  Is fn = Closed 𝓤 𝓛.H (tables 𝓤 𝓛.H 𝓜 𝓡 𝓡.env).C (tables 𝓤 𝓛.H 𝓜 𝓡 𝓡.env).Λ at fn

  abbrev Block : Ptr → Z.Denot → R.Denot → Fml
  Block p a = box_owns (ghosts.dealloc_token a) R p

  -- none is null
  pub kept_none : Is (emptying k.name) → Meets 𝓛 (ended Z k.row).signature (𝓡.run (𝓡.env at))
      (closing 𝓛 (ended Z k.row) (clauses 𝓤 Z k.row (λ a. emp 𝓤) (λ a r. k.inside r ≡ None)))
  kept_none closed =
      makes 𝓛 𝓜 𝓡 Z k.row (λ a. emp 𝓤) (λ a r. k.inside r ≡ None) (λ a. Unit {0}) (layout Z)
      (λ a x. k.make null_ptr a None) (λ a x h. h) (λ a x. both (ptr_val null_ptr))
      (Goes-blank 𝓛 0 (plain (λ _. Z)) yes (λ κs x f. tt), tt) at (emptying k.name) closed
      (λ a. fact_i 𝓤 (Unit {0}) (emp 𝓤) tt) (λ a x. k.has null_ptr a None)
      (λ a x h ok Post. qed 𝓛 (raw (Post (both (ptr_val null_ptr) h)) ∷ []) ∵ enter ! _ _ _ (h ∷ []) Post $
      alloc_all ! (λ l. pass_all ! refl (ok, tt) $
      sets ! (agg ! (and_then ! (lit ! tt) (and_then ! (get ! refl) (no_more !)))) refl
      (both_good (layout Z) null_ptr h ok) $
      returns ! (look_at ! 0 refl) $ free_all ! refl $ done !))
      (λ a x K Γ G t vs next. handle_tells heap t a vs (λ h all ok. nothing t $ two_in heap t null_ptr a ftrue h $
      restated t _ _ (k.empty a (both (ptr_val null_ptr) h ∷ [])) $ next h all ok))

  -- a box's pointer is kept
  pub kept_of : Is (turning loose_name k.name (layout Z)) → Meets 𝓛 (ended Loose k.row).signature (𝓡.run (𝓡.env at))
      (closing 𝓛 (ended Loose k.row) (clauses 𝓤 Loose k.row (λ d. emp 𝓤) (λ d r. k.inside r ≡ Some d.value)))
  kept_of closed =
      makes 𝓛 𝓜 𝓡 Loose k.row (λ d. emp 𝓤) (λ d r. k.inside r ≡ Some d.value) (λ d. Unit {0}) (layout Z)
      (λ d x. k.make d.at d.alloc (Some d.value)) (λ d x. both (ptr_val d.at)) (λ d x. both (ptr_val d.at))
      (Goes-blank 𝓛 0 (plain (λ _. Loose)) yes (λ κs x f. tt), tt) at (turning loose_name k.name (layout Z)) closed
      (λ d. fact_i 𝓤 (Unit {0}) (emp 𝓤) tt) (λ d x. k.has d.at d.alloc (Some d.value))
      (λ d x. turns 𝓛 _ _ loose_name k.name (layout Z) d.at)
      (λ d x K Γ G t vs next. two_out heap t d.at d.alloc (Block d.at d.alloc d.value) vs (λ h all ok.
      two_in heap t d.at d.alloc (Block d.at d.alloc d.value) h $
      restated t _ _ (k.full d.at d.alloc d.value (both (ptr_val d.at) h ∷ [])) $ next h all ok))

  -- and taken out again
  pub kept_out : Is (turning k.name loose_name (layout Z)) → Meets 𝓛 (ended k.row Loose).signature (𝓡.run (𝓡.env at))
      (closing 𝓛 (ended k.row Loose)
      (clauses 𝓤 k.row Loose (λ d. fact 𝓤 (IsSome (k.inside d))) (λ d r. k.inside d ≡ Some r.value)))
  kept_out closed =
      makes 𝓛 𝓜 𝓡 k.row Loose (λ d. fact 𝓤 (IsSome (k.inside d))) (λ d r. k.inside d ≡ Some r.value)
      (λ d. (s : R.Denot) × (k.inside d ≡ Some s)) (layout Z)
      (λ d x. record { at = k.at d; alloc = k.alloc d; value = x.0 }) (λ d x. both (ptr_val (k.at d)))
      (λ d x. both (ptr_val (k.at d)))
      (Goes-blank 𝓛 0 (plain (λ _. k.row)) yes k.quiet, tt) at (turning k.name loose_name (layout Z)) closed
      (λ d. fact_mono 𝓤 _ _ (some (k.inside d))) (λ d x. x.1) (λ d x. turns 𝓛 _ _ k.name loose_name (layout Z) (k.at d))
      (λ d x K Γ G t vs next. restated t _ _ (sym (k.full (k.at d) (k.alloc d) x.0 vs
      ∙ ap (λ (o : Option R.Denot). k.row.own_val (k.make (k.at d) (k.alloc d) o) vs) (sym x.1)
      ∙ ap (λ (e : k.row.Denot). k.row.own_val e vs) (k.made d))) $
      two_out heap t (k.at d) (k.alloc d) (Block (k.at d) (k.alloc d) x.0) vs (λ h all ok.
      two_in heap t (k.at d) (k.alloc d) (Block (k.at d) (k.alloc d) x.0) h $ next h all ok))
