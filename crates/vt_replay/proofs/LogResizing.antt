-- The log of bytes and changes of the size: the lines after bytes that come before the next change, and after a change.
use Rattle.std.proofs.Common.{◌≡◌, ◌∙◌, ◌+◌, ◌-◌, ◌*◌, ◌≤◌, ◌++◌, ◌∷◌, [], ℕ, List, length, take, drop, Bool, true, false, nat_lt, append-nil, refl, sym, ap, subst, arith, append_assoc}
use Rattle.std.proofs.lemmas.Bool.Decides.{nat_tests}
use Rattle.std.proofs.lemmas.List.{length-take, length-take-le, take-take, nil_from_length}
use Rattle.std.proofs.lemmas.Nat.{mul-le}
use Rattle.std.proofs.Math.Seq.{take-append-add, drop-append-add}
use Rattle.vt_screen.specs.declared.size.Size.{Size}
use Rattle.vt_term.specs.State.{State}
use Rattle.vt_term.specs.Resizing.{state_on}
use Rattle.vt_replay.specs.declared.resized.Resize.{Resize}
use Rattle.vt_replay.specs.Resizes.{Session, due, coming, is_settled, is_before}
use Rattle.vt_replay.specs.Log.{lines_on}
use Rattle.vt_replay.proofs.Resizing.{few}

module _ {K : Type 0} (m : Session K) (k next : K) (chunk : List ℕ)
    (lines : (more : List ℕ) → m.lines k (chunk ++ more) ≡ m.lines k chunk ++ m.lines next more)
    (after : (more : List ℕ) → m.after k (chunk ++ more) ≡ m.after next more) where
  -- the change comes after the chunk and n bytes more
  logs_by : (more : List ℕ) (n : ℕ) (size : Size) (resizes : List Resize) (b : Bool) → nat_lt (length more) n ≡ b
      → lines_on m k (record { after = length chunk + n; size = size } ∷ resizes) (chunk ++ more)
      ≡ m.lines k chunk ++ lines_on m next (record { after = n; size = size } ∷ resizes) more
  logs_by more n size resizes true is = rw (few chunk more n true is, is) (lines more)
  logs_by more n size resizes false is =
      rw (few chunk more n false is, is, take-append-add chunk more n, drop-append-add chunk more n, after (take n more), lines (take n more))
      (append_assoc (m.lines k chunk) (m.lines next (take n more))
      (m.off size (m.after next (take n more))
      ++ lines_on m (m.on size (m.after next (take n more))) resizes (drop n more)))

  -- of changes that are due after so many bytes, a chunk takes its own away
  pub logs : (left : ℕ) (resizes : List Resize) (more : List ℕ) → length chunk ≤ left
      → lines_on m k (due left resizes) (chunk ++ more)
      ≡ m.lines k chunk ++ lines_on m next (due (left - length chunk) resizes) more
  logs left [] more within = lines more
  logs left (r ∷ resizes) more within =
      let whole : left ≡ length chunk + (left - length chunk) = omega (arith, within) in
      ap (λ (n : ℕ). lines_on m k (record { after = n; size = r.size } ∷ resizes) (chunk ++ more)) whole
      ∙ logs_by more (left - length chunk) r.size resizes (nat_lt (length more) (left - length chunk)) refl

-- a change that waits for no bytes is carried out
now_logged : {K : Type 0} (m : Session K) (k : K) (r : Resize) (resizes : List Resize) (bytes : List ℕ)
    → m.lines k [] ≡ [] → m.after k [] ≡ k
    → lines_on m k (due 0 (r ∷ resizes)) bytes ≡ m.off r.size k ++ lines_on m (m.on r.size k) resizes bytes
now_logged m k r resizes bytes none kept =
    let never : nat_lt (length bytes) 0 ≡ false = grind (arith, nat_tests) in
    rw (never, none, kept) refl

-- ---- changes that are still to come, in a list

module _ {L : Type 0} (items : List L) (after : L → ℕ) (size : L → Size) where
  -- the first one is carried out, after what is written
  pub carried_out_logged : {K : Type 0} (m : Session K) (k next : K) (old new : List ℕ) (left then : ℕ) (rest : List L) (bytes : List ℕ)
      → is_settled left items ≡ false
      → m.lines k [] ≡ [] → m.after k [] ≡ k
      → ((l : L) (more : List L) → items ≡ l ∷ more → next ≡ m.on (size l) k)
      → ((l : L) (more : List L) → items ≡ l ∷ more → new ≡ old ++ m.off (size l) k)
      → rest ≡ drop 1 items
      → due then (coming rest after size) ≡ coming rest after size
      → old ++ lines_on m k (due left (coming items after size)) bytes ≡ new ++ lines_on m next (due then (coming rest after size)) bytes
  carried_out_logged m k next old new left then rest bytes comes none kept on moved is first = by items comes on moved is
    where
      by : (items : List L) → is_settled left items ≡ false → ((l : L) (more : List L) → items ≡ l ∷ more → next ≡ m.on (size l) k)
          → ((l : L) (more : List L) → items ≡ l ∷ more → new ≡ old ++ m.off (size l) k)
          → rest ≡ drop 1 items
          → old ++ lines_on m k (due left (coming items after size)) bytes ≡ new ++ lines_on m next (due then (coming rest after size)) bytes
      by [] comes on moved is = absurd (cc comes)
      by (l ∷ more) comes on moved is =
          let zero : left ≡ 0 = grind (arith, nat_tests, comes) in
          rw (first, zero, is, on l more refl, moved l more refl)
          (ap (λ (x : List ℕ). old ++ x) (now_logged m k (record { after = after l; size = size l }) (coming more after size) bytes none kept)
          ∙ sym (append_assoc old (m.off (size l) k) (lines_on m (m.on (size l) k) (coming more after size) bytes)))

  -- before the next byte no line leaves
  pub settled_lines : {K : Type 0} (m : Session K) (k : K) (left : ℕ) → is_settled left items ≡ true
      → lines_on m k (due left (coming items after size)) [] ≡ m.lines k []
  settled_lines m k left settled = by items settled
    where
      by : (items : List L) → is_settled left items ≡ true → lines_on m k (due left (coming items after size)) [] ≡ m.lines k []
      by [] settled = refl
      by (l ∷ more) settled = rw settled refl

pub none_left : {L K : Type 0} (items : List L) (after : L → ℕ) (size : L → Size) (m : Session K) (k : K) (left : ℕ)
    → is_settled left items ≡ true → m.lines k [] ≡ [] → lines_on m k (due left (coming items after size)) [] ≡ []
none_left items after size m k left settled none = settled_lines items after size m k left settled ∙ none

-- what wasn't settled now wasn't before
pub unsettled : (before now : Bool) → (before ≡ true → now ≡ true) → now ≡ false → before ≡ false
unsettled true now stays is = let bad : true ≡ false = sym (stays refl) ∙ is in absurd (cc bad)
unsettled false now stays is = refl

-- ---- a chunk before the next change, and the changes after it

module _ {L K : Type 0} (items rest : List L) (after : L → ℕ) (size : L → Size) (m : Session K) (k next last : K)
    (chunk fed_out out : List ℕ) (left then : ℕ)
    (lines : (more : List ℕ) → m.lines k (chunk ++ more) ≡ m.lines k chunk ++ m.lines next more)
    (kept : (more : List ℕ) → m.after k (chunk ++ more) ≡ m.after next more)
    (takes : is_before (length chunk) left items ≡ true)
    (less : ℕ) (is_less : less ≡ left - length chunk)
    (fed_lines : fed_out ≡ m.lines k chunk)
    (settles : (bytes : List ℕ) → fed_out ++ lines_on m next (due less (coming items after size)) bytes
    ≡ out ++ lines_on m last (due then (coming rest after size)) bytes)
    (settled : is_settled then rest ≡ true)
    (none : m.lines last [] ≡ []) where
  logs_before : (items : List L) → is_before (length chunk) left items ≡ true → (more : List ℕ)
      → lines_on m k (due left (coming items after size)) (chunk ++ more)
      ≡ m.lines k chunk ++ lines_on m next (due (left - length chunk) (coming items after size)) more
  logs_before [] takes more = lines more
  logs_before (l ∷ items) takes more =
      logs m k next chunk lines kept left (coming (l ∷ items) after size) more (grind (arith, nat_tests, takes))

  -- what is written, and what is still to be written
  fed_logged : (more : List ℕ) → lines_on m k (due left (coming items after size)) (chunk ++ more)
      ≡ out ++ lines_on m last (due then (coming rest after size)) more
  fed_logged more =
      logs_before items takes more
      ∙ ap (λ (x : List ℕ). x ++ lines_on m next (due (left - length chunk) (coming items after size)) more) (sym fed_lines)
      ∙ ap (λ (n : ℕ). fed_out ++ lines_on m next (due n (coming items after size)) more) (sym is_less)
      ∙ settles more

  pub fed_written : out ≡ lines_on m k (due left (coming items after size)) chunk
  fed_written =
      sym (append-nil out)
      ∙ ap (λ (x : List ℕ). out ++ x) (sym (none_left rest after size m last then settled none))
      ∙ sym (fed_logged [])
      ∙ ap (λ (x : List ℕ). lines_on m k (due left (coming items after size)) x) (append-nil chunk)

  pub fed_more : (more : List ℕ) → lines_on m k (due left (coming items after size)) (chunk ++ more)
      ≡ lines_on m k (due left (coming items after size)) chunk ++ lines_on m last (due then (coming rest after size)) more
  fed_more more =
      fed_logged more
      ∙ ap (λ (x : List ℕ). x ++ lines_on m last (due then (coming rest after size)) more) fed_written

-- ---- the front of a chunk

pub front_is : (n count : ℕ) (chunk : List ℕ) → n ≤ length (take count chunk) → take n (take count chunk) ≡ take n chunk
front_is n count chunk within = take-take n count chunk (omega (arith, within, length-take count chunk))

pub front_takes : {L : Type 0} (items : List L) (n count left : ℕ) (chunk : List ℕ) → n ≤ length (take count chunk)
    → is_before count left items ≡ true → is_before (length (take n (take count chunk))) left items ≡ true
front_takes [] n count left chunk within before = refl
front_takes (l ∷ items) n count left chunk within before =
    let low : count ≤ left = grind (arith, nat_tests, before) in
    let fits : length (take n (take count chunk)) ≤ left =
    omega (arith, low, within, length-take count chunk, length-take-le n (take count chunk) within) in
    grind (arith, nat_tests, fits)

pub front_less : (n count left less : ℕ) (chunk : List ℕ) → n ≤ length (take count chunk) → less ≡ left - n
    → less ≡ left - length (take n (take count chunk))
front_less n count left less chunk within is = is ∙ ap (λ (k : ℕ). left - k) (sym (length-take-le n (take count chunk) within))

-- a byte before a change comes by itself
pub one_before : {L : Type 0} (items : List L) (left count taken then : ℕ)
    → (nat_lt 0 (length items) ≡ true → left ≤ count → count ≤ 1) → taken ≤ count → then ≡ left - taken
    → is_settled then items ≡ false → count ≤ 1
one_before [] left count taken then one within is comes = absurd (cc comes)
one_before (l ∷ items) left count taken then one within is comes =
    let all : left ≤ count = grind (arith, nat_tests, comes, is, within) in
    let some : nat_lt 0 (length (l ∷ items)) ≡ true = grind (arith, nat_tests) in
    one some all

-- ---- the bytes of lines that leave

-- before the first byte there are none
pub begun_lines : (old new x y : List ℕ) → old ≡ [] → length new ≤ 0 → old ++ x ≡ new ++ y → x ≡ y
begun_lines old new x y none few is =
    ap (λ (l : List ℕ). l ++ x) (sym none) ∙ is ∙ ap (λ (l : List ℕ). l ++ y) (nil_from_length new (omega (arith, few)))

-- there is capacity for them
pub moved_fits : (len capacity row count next limit : ℕ) → row ≡ next + count → 1 ≤ next → limit ≤ 766 → len + 766 * row ≤ capacity + 766
    → len + count * limit ≤ capacity
moved_fits len capacity row count next limit is some least room =
    let most : count * limit ≤ count * 766 = mul-le count limit count 766 (omega arith) least in
    omega (arith, is, some, most, room)

-- and the rows that stay have capacity for theirs
pub moved_bounded : (len new row count next limit : ℕ) → row ≡ next + count → limit ≤ 766 → new ≤ len + count * limit
    → new + 766 * next ≤ len + 766 * row
moved_bounded len new row count next limit is least bounded =
    let most : count * limit ≤ count * 766 = mul-le count limit count 766 (omega arith) least in
    omega (arith, is, most, bounded)

-- the row of the cursor then
pub moved_then : (s t : State) (size wanted : Size) (len new : ℕ) → size ≡ wanted → t ≡ state_on wanted s
    → new + 766 * (state_on size s).display.cursor.row ≤ len + 766 * s.display.cursor.row
    → new + 766 * t.display.cursor.row ≤ len + 766 * s.display.cursor.row
moved_then s t size wanted len new is made bounded =
    let row : t.display.cursor.row ≡ (state_on size s).display.cursor.row =
    ap (λ (x : State). x.display.cursor.row) made ∙ ap (λ (z : Size). (state_on z s).display.cursor.row) (sym is) in
    subst (λ (n : ℕ). new + 766 * n ≤ len + 766 * s.display.cursor.row) (sym row) bounded

-- the lines of one byte
pub one_line : (limit count bytes most : ℕ) → count ≤ bytes → bytes ≤ 1 → limit ≤ most → limit * count ≤ most
one_line limit count bytes most within one less =
    let product : limit * count ≤ limit * 1 = mul-le limit count limit 1 (omega arith) (omega (arith, within, one)) in
    omega (arith, product, less)
