-- Playing in parts, in any language and on any machine.
use Rattle.std.proofs.Common.{◌≡◌, ℕ, ◌+◌, ◌-◌, length, length-drop, List, [], ◌∷◌, ◌++◌, take, drop, refl, sym, ap, ◌∙◌, append_assoc, append-nil}
use Rattle.std.proofs.Math.Seq.{take-add, take-length}
use Rattle.vt_feed.specs.Actions.{Action, Language, MachineOf, Plays, actions, read_after, state_after, reports}
use Rattle.vt_feed.specs.Observing.{Happening, Byte, does, happenings, AreJoined}

module _ {R : Type 0} (l : Language R) where
  pub actions-append : (r : R) (a b : List ℕ) → actions l r (a ++ b) ≡ actions l r a ++ actions l (read_after l r a) b
  actions-append r [] b = refl
  actions-append r (x ∷ a) b =
      ap (λ (t : List Action). l.asks r x ++ t) (actions-append (l.next r x) a b)
      ∙ sym (append_assoc (l.asks r x) (actions l (l.next r x) a) (actions l (read_after l (l.next r x) a) b))

  pub read-append : (r : R) (a b : List ℕ) → read_after l r (a ++ b) ≡ read_after l (read_after l r a) b
  read-append r [] b = refl
  read-append r (x ∷ a) b = read-append (l.next r x) a b

module _ {S : Type 0} (m : MachineOf S) where
  pub state-append : (xs ys : List Action) (s : S) → state_after m (xs ++ ys) s ≡ state_after m ys (state_after m xs s)
  state-append [] ys s = refl
  state-append (x ∷ xs) ys s = state-append xs ys (m.effect x s)

  pub reports-append : (xs ys : List Action) (s : S)
      → reports m (xs ++ ys) s ≡ reports m xs s ++ reports m ys (state_after m xs s)
  reports-append [] ys s = refl
  reports-append (x ∷ xs) ys s =
      ap (λ (t : List ℕ). m.report x s ++ t) (reports-append xs ys (m.effect x s))
      ∙ sym (append_assoc (m.report x s) (reports m xs (m.effect x s)) (reports m ys (state_after m xs (m.effect x s))))

module _ {R S : Type 0} (l : Language R) (m : MachineOf S) where
  pub happenings-append : (r : R) (s : S) (a b : List ℕ) → happenings l m r s (a ++ b)
      ≡ happenings l m r s a ++ happenings l m (read_after l r a) (state_after m (actions l r a) s) b
  happenings-append r s [] b = refl
  happenings-append r s (x ∷ a) b =
      let next : R = l.next r x in
      let t : S = state_after m (l.asks r x) s in
      let rest : List (Happening S) = happenings l m (read_after l next a) (state_after m (actions l next a) t) b in
      rw (state-append m (l.asks r x) (actions l next a) s)
      (ap (λ (hs : List (Happening S)). Byte ∷ does m (l.asks r x) s ++ hs) (happenings-append next t a b)
      ∙ ap (λ (hs : List (Happening S)). Byte ∷ hs) (sym (append_assoc (does m (l.asks r x) s) (happenings l m next t a) rest)))

  pub plays-nothing : (r : R) (s : S) (out : List ℕ) → Plays l m r s [] r s out out
  plays-nothing r s out = record { state = refl; read = refl; reports_are = sym (append-nil out) }

  -- one chunk, and the next
  pub plays-both : (r q p : R) (s t u : S) (a b before out after : List ℕ) → Plays l m r s a q t before out
      → Plays l m q t b p u out after → Plays l m r s (a ++ b) p u before after
  plays-both r q p s t u a b before out after first second =
      let xs : List Action = actions l r a in
      let ys : List Action = actions l (read_after l r a) b in
      record {
        state = second.state ∙ ap (λ (x : R). state_after m (actions l x b) t) first.read ∙ ap (λ (x : S). state_after m ys x) first.state
            ∙ sym (state-append m xs ys s) ∙ ap (λ (zs : List Action). state_after m zs s) (sym (actions-append l r a b));
        read = second.read ∙ ap (λ (x : R). read_after l x b) first.read ∙ sym (read-append l r a b);
        reports_are = second.reports_are
            ∙ ap (λ (x : R). out ++ reports m (actions l x b) t) first.read
            ∙ ap (λ (x : S). out ++ reports m ys x) first.state
            ∙ ap (λ (o : List ℕ). o ++ reports m ys (state_after m xs s)) first.reports_are
            ∙ append_assoc before (reports m xs s) (reports m ys (state_after m xs s))
            ∙ ap (λ (o : List ℕ). before ++ o) (sym (reports-append m xs ys s)
            ∙ ap (λ (zs : List Action). reports m zs s) (sym (actions-append l r a b)));
      }

  -- one part of a piece, and the next
  pub plays-more : (r q p : R) (s t u : S) (piece : List ℕ) (at n : ℕ) (before out after : List ℕ)
      → Plays l m r s (take at piece) q t before out → Plays l m q t (take n (drop at piece)) p u out after
      → Plays l m r s (take (at + n) piece) p u before after
  plays-more r q p s t u piece at n before out after first second =
      rw (take-add at n piece) (plays-both r q p s t u (take at piece) (take n (drop at piece)) before out after first second)

  module _ {O : Type 0} (Saw : O → List (Happening S) → O → Type 0) (joined : AreJoined Saw) where
    pub saw-both : (o p q : O) (r k : R) (s t : S) (a b before out : List ℕ) → Plays l m r s a k t before out
        → Saw o (happenings l m r s a) p → Saw p (happenings l m k t b) q → Saw o (happenings l m r s (a ++ b)) q
    saw-both o p q r k s t a b before out played first second =
        rw (happenings-append r s a b) (joined.more o p q (happenings l m r s a)
        (happenings l m (read_after l r a) (state_after m (actions l r a) s) b) first
        (rw (← played.read, ← played.state) second))

    pub saw-more : (o p q : O) (r k : R) (s t : S) (piece before out : List ℕ) (at n : ℕ)
        → Plays l m r s (take at piece) k t before out → Saw o (happenings l m r s (take at piece)) p
        → Saw p (happenings l m k t (take n (drop at piece))) q → Saw o (happenings l m r s (take (at + n) piece)) q
    saw-more o p q r k s t piece before out at n played first second =
        rw (take-add at n piece)
        (saw-both o p q r k s t (take at piece) (take n (drop at piece)) before out played first second)

-- what is left of a piece, to its end
pub rest-of : (piece : List ℕ) (at : ℕ) → take (length piece - at) (drop at piece) ≡ drop at piece
rest-of piece at = let e : length piece - at ≡ length (drop at piece) = sym (length-drop at piece) in
    rw e (take-length (drop at piece))
