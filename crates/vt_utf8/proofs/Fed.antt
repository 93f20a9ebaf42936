-- The result of feeding bytes to a sink, in parts.
use Rattle.std.proofs.Common.{◌≡◌, ℕ, ◌+◌, ◌-◌, ◌*◌, ◌≤◌, ◌<◌, arith, length-drop, List, [], ◌∷◌, ◌++◌, All, take, drop, length, refl, sym, ap, ◌∙◌, append-nil, subst}
use Rattle.std.specs.Prelude.{slice_index}
use Rattle.std.proofs.Math.Seq.{take-add, take-length}
use Rattle.std.proofs.lemmas.List.{length-take-le}
use Rattle.std.proofs.lemmas.List.Elements.{All-take}
use Rattle.bstr.specs.Utf8.{replacement}
use Rattle.vt_screen.specs.declared.size.Size.{Size}
use Rattle.vt_term.specs.State.{State}
use Rattle.vt_term.specs.Sound.{IsSoundSized}
use Rattle.vt_utf8.specs.Decoding.{read, characters, pending_after, IsWhole}
use Rattle.vt_utf8.specs.Sinks.{Point, AreInTurn, FitsFeed, Feeds}
use Rattle.vt_utf8.specs.Private.Cut.{IsCut}
use Rattle.vt_utf8.proofs.Cuts.{characters-append, pending-append, ascii-characters, ascii-pending}
use Rattle.vt_utf8.proofs.CutOff.{front-cut, cut-characters, cut-left}

-- a piece starting at a place
pub rest-of : (piece : List ℕ) (at : ℕ) → take (length piece - at) (drop at piece) ≡ drop at piece
rest-of piece at = let e : length piece - at ≡ length (drop at piece) = sym (length-drop at piece) in
    rw e (take-length (drop at piece))

-- the first byte of a piece
pub take-one : (piece : List ℕ) → 1 ≤ length piece → take 1 piece ≡ slice_index piece 0 ∷ []
take-one [] some = absurd (omega (arith, some))
take-one (b ∷ piece) some = refl

module _ {K L : Type 0} (Takes : Point K L → List ℕ → Point K L → Type 0) where
  -- with nothing pending
  pub feeds-first : (x y : Point K L) (pending bytes : List ℕ) → pending ≡ [] → Takes x (characters [] bytes) y
      → pending_after [] bytes ≡ [] → Feeds Takes x pending bytes y pending
  feeds-first x y pending bytes none takes left = rw none (record { takes = takes; left = sym left })

  pub feeds-ascii : (x y : Point K L) (pending run : List ℕ) (n : ℕ) → pending ≡ [] → All (λ b. b < 0x80) run
      → Takes x (take n run) y → Feeds Takes x pending (take n run) y pending
  feeds-ascii x y pending run n none all takes =
      let some : All (λ b. b < 0x80) (take n run) = All-take (λ b. b < 0x80) n run all in
      feeds-first x y pending (take n run) none
      (subst (λ (cs : List ℕ). Takes x cs y) (sym (ascii-characters (take n run) some)) takes) (ascii-pending (take n run) some)

  pub feeds-whole : (x y : Point K L) (pending piece : List ℕ) (c n : ℕ) → pending ≡ [] → IsWhole piece c n
      → Takes x (c ∷ []) y → Feeds Takes x pending (take n piece) y pending
  feeds-whole x y pending piece c n none whole takes =
      feeds-first x y pending (take n piece) none
      (subst (λ (cs : List ℕ). Takes x cs y) (sym whole.characters) takes) whole.pending

  module _ (OneSize : State → K → Type 0) (joins : AreInTurn Takes OneSize) where
    pub still-fits : (most : Size → ℕ) (x y : Point K L) (cs : List ℕ) (limit : ℕ) → Takes x cs y
        → FitsFeed OneSize most x.state x.kept limit → FitsFeed OneSize most y.state y.kept limit
    still-fits most x y cs limit takes fits = record {
      one_size = joins.one_size x y cs takes fits.one_size;
      twice = fits.twice ∙ ap (λ (size : Size). 2 * most size) (sym (joins.size x y cs takes));
    }

    pub feeds-nothing : (x : Point K L) (pending : List ℕ) → IsSoundSized x.state → Feeds Takes x pending [] x pending
    feeds-nothing x pending sound = record { takes = joins.nothing x sound; left = refl }

    pub feeds-more : (x y z : Point K L) (pending after left piece : List ℕ) (at n : ℕ) → IsSoundSized x.state
        → Feeds Takes x pending (take at piece) y after → Feeds Takes y after (take n (drop at piece)) z left
        → Feeds Takes x pending (take (at + n) piece) z left
    feeds-more x y z pending after left piece at n sound first second =
        let a = take at piece in
        let b = take n (drop at piece) in
        let both : characters pending (a ++ b) ≡ characters pending a ++ characters after b =
        characters-append pending a b ∙ ap (λ (q : List ℕ). characters pending a ++ characters q b) (sym first.left) in
        rw (take-add at n piece) (record {
          takes = subst (λ (cs : List ℕ). Takes x cs z) (sym both)
              (joins.more x y z (characters pending a) (characters after b) sound first.takes second.takes);
          left = second.left ∙ ap (λ (q : List ℕ). pending_after q b) first.left ∙ sym (pending-append pending a b);
        })

    -- the front that was tried first is empty
    pub feeds-next : (x y z : Point K L) (pending piece bytes left : List ℕ) (n : ℕ) → IsSoundSized x.state → n ≡ 0
        → Takes x (characters [] (take n piece)) y → Feeds Takes y pending bytes z left → Feeds Takes x pending bytes z left
    feeds-next x y z pending piece bytes left n sound zero first second = record {
      takes = joins.more x y z [] (characters pending bytes) sound
          (subst (λ (k : ℕ). Takes x (characters [] (take k piece)) y) zero first) second.takes;
      left = second.left;
    }

    -- what was given up, and the characters after it
    pub feeds-byte : (x y z : Point K L) (pending : List ℕ) (b : ℕ) (xs ys after : List ℕ) → IsSoundSized x.state
        → xs ++ ys ≡ (read pending b).characters → after ≡ (read pending b).pending → Takes x xs y → Takes y ys z
        → Feeds Takes x pending (b ∷ []) z after
    feeds-byte x y z pending b xs ys after sound are left first second = record {
      takes = subst (λ (cs : List ℕ). Takes x cs z) (are ∙ sym (append-nil (read pending b).characters))
          (joins.more x y z xs ys sound first second);
      left = left;
    }

    -- U+FFFD for one byte that ASCII cuts off, and the ASCII
    pub feeds-cut : (x y z : Point K L) (pending run : List ℕ) (n : ℕ) → IsSoundSized x.state → 1 ≤ n → n ≤ length run
        → IsCut pending (slice_index run 0) → All (λ b. b < 0x80) run → Takes x (replacement ∷ []) y → Takes y (take n run) z
        → Feeds Takes x pending (take n run) z []
    feeds-cut x y z pending run n sound some within cut all first second =
        let bytes = take n run in
        let long : length bytes ≡ n = length-take-le n run within in
        let many : 1 ≤ length bytes = omega (arith, long, some) in
        let low : All (λ b. b < 0x80) bytes = All-take (λ b. b < 0x80) n run all in
        let is = front-cut pending run n some (omega (arith, some, within)) cut in
        record {
          takes = subst (λ (cs : List ℕ). Takes x cs z) (sym (cut-characters pending bytes many is low))
              (joins.more x y z (replacement ∷ []) bytes sound first second);
          left = sym (cut-left pending bytes many is low);
        }
