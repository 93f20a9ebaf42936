-- Bytes and changes of the size: what is left after bytes that come before the next change, and after a change.
use Rattle.std.proofs.Common.{◌≡◌, ◌∙◌, ◌+◌, ◌-◌, ◌<◌, ◌≤◌, ◌++◌, ◌∷◌, [], ℕ, List, length, take, drop, map, get_or, Bool, true, false, nat_le, nat_lt, nat_eq, not, max, ◌&&◌, slice_index_or, append-nil, refl, sym, ap, arith, append_assoc}
use Rattle.std.proofs.lemmas.Bool.Decides.{nat_tests}
use Rattle.std.proofs.lemmas.List.{length-append, take_all, map_more}
use Rattle.std.proofs.lemmas.Simd.{map-map}
use Rattle.std.proofs.lemmas.List.Folds.{list_all-append}
use Rattle.std.specs.List.{list_all}
use Rattle.std.proofs.Math.Seq.{take-append-add, drop-append-add}
use Rattle.vt_screen.specs.declared.size.Size.{Size}
use Rattle.vt_term.specs.State.{State}
use Rattle.vt_term.specs.Play.{Played, both}
use Rattle.vt_replay.specs.declared.resized.Resize.{Resize}
use Rattle.vt_replay.specs.Resizes.{Session, played_on, kept_on, due, coming, is_settled, is_before, sizes_of}

abbrev told : State → List ℕ → Played
told s l = record { state = s; reports = l }

-- three plays, one after another
both-both : (a b c : Played) → both (both a b) c ≡ both a (both b c)
both-both a b c =
    ap (λ (l : List ℕ). told c.state l) (append_assoc a.reports b.reports c.reports)

-- bytes are too few for a change, or not, after others as they are from the beginning
pub few : (chunk more : List ℕ) (n : ℕ) (b : Bool) → nat_lt (length more) n ≡ b → nat_lt (length (chunk ++ more)) (length chunk + n) ≡ b
few chunk more n true is = rw (length-append chunk more) (grind (arith, nat_tests, is))
few chunk more n false is = rw (length-append chunk more) (grind (arith, nat_tests, is))

module _ {K : Type 0} (m : Session K) (k next : K) (chunk : List ℕ)
    (on : (more : List ℕ) → m.played k (chunk ++ more) ≡ both (m.played k chunk) (m.played next more))
    (after : (more : List ℕ) → m.after k (chunk ++ more) ≡ m.after next more) where
  -- the change comes after the chunk and n bytes more
  waits_by : (more : List ℕ) (n : ℕ) (size : Size) (resizes : List Resize) (b : Bool) → nat_lt (length more) n ≡ b
      → played_on m k (record { after = length chunk + n; size = size } ∷ resizes) (chunk ++ more)
      ≡ both (m.played k chunk) (played_on m next (record { after = n; size = size } ∷ resizes) more)
  waits_by more n size resizes true is =
      rw (few chunk more n true is, is) (on more)
  waits_by more n size resizes false is =
      rw (few chunk more n false is, is, take-append-add chunk more n, drop-append-add chunk more n, after (take n more), on (take n more))
      (both-both (m.played k chunk) (m.played next (take n more))
      (played_on m (m.on size (m.after next (take n more))) resizes (drop n more)))

  -- of changes that are due after so many bytes, a chunk takes its own away
  pub waits : (left : ℕ) (resizes : List Resize) (more : List ℕ) → length chunk ≤ left
      → played_on m k (due left resizes) (chunk ++ more)
      ≡ both (m.played k chunk) (played_on m next (due (left - length chunk) resizes) more)
  waits left [] more within = on more
  waits left (r ∷ resizes) more within =
      let whole : left ≡ length chunk + (left - length chunk) = omega (arith, within) in
      ap (λ (n : ℕ). played_on m k (record { after = n; size = r.size } ∷ resizes) (chunk ++ more)) whole
      ∙ waits_by more (left - length chunk) r.size resizes (nat_lt (length more) (left - length chunk)) refl

module _ {K : Type 0} (m : Session K) (k next : K) (chunk : List ℕ)
    (after : (more : List ℕ) → m.after k (chunk ++ more) ≡ m.after next more) where
  keeps_by : (more : List ℕ) (n : ℕ) (size : Size) (resizes : List Resize) (b : Bool) → nat_lt (length more) n ≡ b
      → kept_on m k (record { after = length chunk + n; size = size } ∷ resizes) (chunk ++ more)
      ≡ kept_on m next (record { after = n; size = size } ∷ resizes) more
  keeps_by more n size resizes true is =
      rw (few chunk more n true is, is) (after more)
  keeps_by more n size resizes false is =
      rw (few chunk more n false is, is, take-append-add chunk more n, drop-append-add chunk more n, after (take n more)) refl

  -- and of what is kept
  pub keeps : (left : ℕ) (resizes : List Resize) (more : List ℕ) → length chunk ≤ left
      → kept_on m k (due left resizes) (chunk ++ more) ≡ kept_on m next (due (left - length chunk) resizes) more
  keeps left [] more within = after more
  keeps left (r ∷ resizes) more within =
      let whole : left ≡ length chunk + (left - length chunk) = omega (arith, within) in
      ap (λ (n : ℕ). kept_on m k (record { after = n; size = r.size } ∷ resizes) (chunk ++ more)) whole
      ∙ keeps_by more (left - length chunk) r.size resizes (nat_lt (length more) (left - length chunk)) refl

-- a change that waits for no bytes is carried out
pub now : {K : Type 0} (m : Session K) (k : K) (state : State) (r : Resize) (resizes : List Resize) (bytes : List ℕ)
    → m.played k [] ≡ record { state = state; reports = [] } → m.after k [] ≡ k
    → played_on m k (due 0 (r ∷ resizes)) bytes ≡ played_on m (m.on r.size k) resizes bytes
now m k state r resizes bytes none kept =
    let never : nat_lt (length bytes) 0 ≡ false = grind (arith, nat_tests) in
    rw (never, none, kept) refl

pub now_kept : {K : Type 0} (m : Session K) (k : K) (r : Resize) (resizes : List Resize) (bytes : List ℕ) → m.after k [] ≡ k
    → kept_on m k (due 0 (r ∷ resizes)) bytes ≡ kept_on m (m.on r.size k) resizes bytes
now_kept m k r resizes bytes kept =
    let never : nat_lt (length bytes) 0 ≡ false = grind (arith, nat_tests) in
    rw (never, kept) refl

-- ---- changes that are still to come, in a list

and_left : (a b : Bool) → (a && b) ≡ true → a ≡ true
and_left true b is = refl
and_left false b is = absurd (cc is)

and_right : (a b : Bool) → (a && b) ≡ true → b ≡ true
and_right true b is = is
and_right false b is = absurd (cc is)

-- whether a change comes before the next byte
pub settled_by : {L : Type 0} (items : List L) (left : ℕ) → true ≡ nat_lt 0 (length items) → not (nat_eq left 0) ≡ is_settled left items
settled_by [] left some = grind (arith, nat_tests, some)
settled_by (l ∷ more) left some = grind (arith, nat_tests)

pub settled_without : {L : Type 0} (items : List L) (left : ℕ) → false ≡ nat_lt 0 (length items) → not false ≡ is_settled left items
settled_without [] left none = refl
settled_without (l ∷ more) left none = grind (arith, nat_tests, none)

-- bytes if no other is to come
pub front_all : {L : Type 0} (items : List L) (count left : ℕ) → false ≡ nat_lt 0 (length items) → is_before count left items ≡ true
front_all [] count left none = refl
front_all (l ∷ more) count left none = grind (arith, nat_tests, none)

-- there are fewer
pub fewer : {L : Type 0} (items rest : List L) (left : ℕ) → is_settled left items ≡ false → rest ≡ drop 1 items → length rest < length items
fewer [] rest left comes is = absurd (cc comes)
fewer (l ∷ more) rest left comes is = rw is (omega arith)

module _ {L : Type 0} (items : List L) (after : L → ℕ) (size : L → Size) where
  -- the first one is carried out
  pub carried_out : {K : Type 0} (m : Session K) (k next : K) (state : State) (left then : ℕ) (rest : List L) (bytes : List ℕ)
      → is_settled left items ≡ false
      → m.played k [] ≡ record { state = state; reports = [] } → m.after k [] ≡ k
      → ((l : L) (more : List L) → items ≡ l ∷ more → next ≡ m.on (size l) k)
      → rest ≡ drop 1 items
      → due then (coming rest after size) ≡ coming rest after size
      → played_on m k (due left (coming items after size)) bytes ≡ played_on m next (due then (coming rest after size)) bytes
  carried_out m k next state left then rest bytes comes none kept on is first = by items comes on is
    where
      by : (items : List L) → is_settled left items ≡ false → ((l : L) (more : List L) → items ≡ l ∷ more → next ≡ m.on (size l) k)
          → rest ≡ drop 1 items
          → played_on m k (due left (coming items after size)) bytes ≡ played_on m next (due then (coming rest after size)) bytes
      by [] comes on is = absurd (cc comes)
      by (l ∷ more) comes on is =
          let zero : left ≡ 0 = grind (arith, nat_tests, comes) in
          rw (first, zero, is, on l more refl)
          (now m k state (record { after = after l; size = size l }) (coming more after size) bytes none kept)

  pub carried_out_kept : {K : Type 0} (m : Session K) (k next : K) (left then : ℕ) (rest : List L) (bytes : List ℕ)
      → is_settled left items ≡ false → m.after k [] ≡ k
      → ((l : L) (more : List L) → items ≡ l ∷ more → next ≡ m.on (size l) k)
      → rest ≡ drop 1 items
      → due then (coming rest after size) ≡ coming rest after size
      → kept_on m k (due left (coming items after size)) bytes ≡ kept_on m next (due then (coming rest after size)) bytes
  carried_out_kept m k next left then rest bytes comes kept on is first = by items comes on is
    where
      by : (items : List L) → is_settled left items ≡ false → ((l : L) (more : List L) → items ≡ l ∷ more → next ≡ m.on (size l) k)
          → rest ≡ drop 1 items
          → kept_on m k (due left (coming items after size)) bytes ≡ kept_on m next (due then (coming rest after size)) bytes
      by [] comes on is = absurd (cc comes)
      by (l ∷ more) comes on is =
          let zero : left ≡ 0 = grind (arith, nat_tests, comes) in
          rw (first, zero, is, on l more refl)
          (now_kept m k (record { after = after l; size = size l }) (coming more after size) bytes kept)

  -- the screen has its size then
  pub sizes_then : (holds : Size → Bool) (old next : Size) (left : ℕ) (rest : List L) → is_settled left items ≡ false
      → ((l : L) (more : List L) → items ≡ l ∷ more → next ≡ size l) → rest ≡ drop 1 items
      → list_all holds (sizes_of old (coming items after size)) ≡ true → list_all holds (sizes_of next (coming rest after size)) ≡ true
  sizes_then holds old next left rest comes on is all = by items comes on is all
    where
      by : (items : List L) → is_settled left items ≡ false → ((l : L) (more : List L) → items ≡ l ∷ more → next ≡ size l)
          → rest ≡ drop 1 items
          → list_all holds (sizes_of old (coming items after size)) ≡ true → list_all holds (sizes_of next (coming rest after size)) ≡ true
      by [] comes on is all = absurd (cc comes)
      by (l ∷ more) comes on is all =
          rw (is, on l more refl) (and_right (holds old) (list_all holds (sizes_of (size l) (coming more after size))) all)

  -- the bytes before the first one
  pub first_due : (n : ℕ) (d : L) → true ≡ nat_lt 0 (length items) → d ≡ slice_index_or items 0 d → n ≡ after d
      → due n (coming items after size) ≡ coming items after size
  first_due n d some is waits = by items some is
    where
      by : (items : List L) → true ≡ nat_lt 0 (length items) → d ≡ slice_index_or items 0 d
          → due n (coming items after size) ≡ coming items after size
      by [] some is = refl
      by (l ∷ more) some is = rw (waits, is) refl

  pub none_due : (n : ℕ) → false ≡ nat_lt 0 (length items) → due n (coming items after size) ≡ coming items after size
  none_due n none = by items none
    where
      by : (items : List L) → false ≡ nat_lt 0 (length items) → due n (coming items after size) ≡ coming items after size
      by [] none = refl
      by (l ∷ more) none = grind (arith, nat_tests, none)

  -- before the next byte no change is carried out
  pub settled_none : {K : Type 0} (m : Session K) (k : K) (left : ℕ) → is_settled left items ≡ true
      → played_on m k (due left (coming items after size)) [] ≡ m.played k []
  settled_none m k left settled = by items settled
    where
      by : (items : List L) → is_settled left items ≡ true → played_on m k (due left (coming items after size)) [] ≡ m.played k []
      by [] settled = refl
      by (l ∷ more) settled = rw settled refl

  pub settled_kept : {K : Type 0} (m : Session K) (k : K) (left : ℕ) → is_settled left items ≡ true
      → kept_on m k (due left (coming items after size)) [] ≡ m.after k []
  settled_kept m k left settled = by items settled
    where
      by : (items : List L) → is_settled left items ≡ true → kept_on m k (due left (coming items after size)) [] ≡ m.after k []
      by [] settled = refl
      by (l ∷ more) settled = rw settled refl

  -- the screen has one of the sizes
  pub first_size : (holds : Size → Bool) (first shown : Size) → shown ≡ first
      → list_all holds (sizes_of first (coming items after size)) ≡ true → holds shown ≡ true
  first_size holds first shown is all =
      ap holds is ∙ and_left (holds first) (list_all holds (map (λ (r : Resize). r.size) (coming items after size))) all

-- a chunk before the next change, and the changes after it
module _ {L K : Type 0} (items rest : List L) (after : L → ℕ) (size : L → Size) (m : Session K) (k next last : K) (state : State)
    (chunk : List ℕ) (left then : ℕ)
    (on : (more : List ℕ) → m.played k (chunk ++ more) ≡ both (m.played k chunk) (m.played next more))
    (kept : (more : List ℕ) → m.after k (chunk ++ more) ≡ m.after next more)
    (takes : is_before (length chunk) left items ≡ true)
    (less : ℕ) (is_less : less ≡ left - length chunk)
    (settles : (bytes : List ℕ) → played_on m next (due less (coming items after size)) bytes
    ≡ played_on m last (due then (coming rest after size)) bytes)
    (settled : is_settled then rest ≡ true)
    (none : m.played last [] ≡ record { state = state; reports = [] }) where
  before : (items : List L) → is_before (length chunk) left items ≡ true → (more : List ℕ)
      → played_on m k (due left (coming items after size)) (chunk ++ more)
      ≡ both (m.played k chunk) (played_on m next (due (left - length chunk) (coming items after size)) more)
  before [] takes more = on more
  before (l ∷ items) takes more =
      waits m k next chunk on kept left (coming (l ∷ items) after size) more (grind (arith, nat_tests, takes))

  fed : (more : List ℕ) → played_on m k (due left (coming items after size)) (chunk ++ more)
      ≡ both (m.played k chunk) (played_on m last (due then (coming rest after size)) more)
  fed more =
      before items takes more
      ∙ ap (λ (n : ℕ). both (m.played k chunk) (played_on m next (due n (coming items after size)) more)) (sym is_less)
      ∙ ap (λ (p : Played). both (m.played k chunk) p) (settles more)

  -- the reports are the chunk's
  pub fed_reports : (played_on m k (due left (coming items after size)) chunk).reports ≡ (m.played k chunk).reports
  fed_reports =
      ap (λ (l : List ℕ). (played_on m k (due left (coming items after size)) l).reports) (sym (append-nil chunk))
      ∙ ap (λ (p : Played). p.reports) (fed [])
      ∙ ap (λ (p : Played). (m.played k chunk).reports ++ p.reports) (settled_none rest after size m last then settled ∙ none)
      ∙ append-nil (m.played k chunk).reports

  -- and more bytes come after it
  pub fed_on : (more : List ℕ) → played_on m k (due left (coming items after size)) (chunk ++ more)
      ≡ both (played_on m k (due left (coming items after size)) chunk) (played_on m last (due then (coming rest after size)) more)
  fed_on more =
      fed more
      ∙ ap (λ (l : List ℕ). told (played_on m last (due then (coming rest after size)) more).state
      (l ++ (played_on m last (due then (coming rest after size)) more).reports)) (sym fed_reports)

-- and what is kept then
module _ {L K : Type 0} (items rest : List L) (after : L → ℕ) (size : L → Size) (m : Session K) (k next last : K)
    (chunk : List ℕ) (left then : ℕ)
    (kept : (more : List ℕ) → m.after k (chunk ++ more) ≡ m.after next more)
    (takes : is_before (length chunk) left items ≡ true)
    (less : ℕ) (is_less : less ≡ left - length chunk)
    (settles : (bytes : List ℕ) → kept_on m next (due less (coming items after size)) bytes
    ≡ kept_on m last (due then (coming rest after size)) bytes) where
  keeps_before : (items : List L) → is_before (length chunk) left items ≡ true → (more : List ℕ)
      → kept_on m k (due left (coming items after size)) (chunk ++ more)
      ≡ kept_on m next (due (left - length chunk) (coming items after size)) more
  keeps_before [] takes more = kept more
  keeps_before (l ∷ items) takes more =
      keeps m k next chunk kept left (coming (l ∷ items) after size) more (grind (arith, nat_tests, takes))

  pub fed_kept : (more : List ℕ) → kept_on m k (due left (coming items after size)) (chunk ++ more)
      ≡ kept_on m last (due then (coming rest after size)) more
  fed_kept more =
      keeps_before items takes more
      ∙ ap (λ (n : ℕ). kept_on m next (due n (coming items after size)) more) (sym is_less)
      ∙ settles more

-- ---- the most bytes that are due

-- what fits into a number of bytes fits into a greater one
pub fits_more : (room : Size → ℕ) (most next : ℕ) (sizes : List Size) → most ≤ next → list_all (λ s. nat_le (room s) most) sizes ≡ true
    → list_all (λ s. nat_le (room s) next) sizes ≡ true
fits_more room most next [] more fits = refl
fits_more room most next (s ∷ sizes) more fits =
    let here : nat_le (room s) most ≡ true = and_left (nat_le (room s) most) (list_all (λ s. nat_le (room s) most) sizes) fits in
    let there : nat_le (room s) next ≡ true = grind (arith, nat_tests, here, more) in
    rw there (fits_more room most next sizes more (and_right (nat_le (room s) most) (list_all (λ s. nat_le (room s) most) sizes) fits))

module _ {L : Type 0} (items : List L) (after : L → ℕ) (size : L → Size) (room : Size → ℕ) (first : Size) where
  -- one more
  pub one_more_fits : (i most next n : ℕ) (d : L) → i < length items → n ≡ room (size (get_or items i d)) → next ≡ max most n
      → list_all (λ s. nat_le (room s) most) (first ∷ map size (take i items)) ≡ true
      → list_all (λ s. nat_le (room s) next) (first ∷ map size (take (i + 1) items)) ≡ true
  one_more_fits i most next n d there is greater fits =
      let low : most ≤ next = grind (arith, nat_tests, greater) in
      let last : nat_le (room (size (get_or items i d))) next ≡ true = rw (sym is) (grind (arith, nat_tests, greater)) in
      rw (map_more size items i d there, list_all-append (λ s. nat_le (room s) next) (first ∷ map size (take i items)) (size (get_or items i d) ∷ []))
      (rw (fits_more room most next (first ∷ map size (take i items)) low fits, last) refl)

  -- all of them
  pub all_fit : (i most : ℕ) → length items ≤ i → list_all (λ s. nat_le (room s) most) (first ∷ map size (take i items)) ≡ true
      → list_all (λ s. nat_le (room s) most) (sizes_of first (coming items after size)) ≡ true
  all_fit i most end fits =
      ap (λ (l : List Size). list_all (λ s. nat_le (room s) most) (first ∷ l))
      (map-map (λ (r : Resize). r.size) (λ (l : L). record { after = after l; size = size l }) items
      ∙ ap (λ (l : List L). map size l) (sym (take_all i items end))) ∙ fits
