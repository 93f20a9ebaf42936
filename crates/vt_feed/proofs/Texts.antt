-- Characters, and the bytes that they are read from.
use Rattle.std.proofs.Common.{◌≡◌, ℕ, ◌≤◌, ◌<◌, List, [], ◌∷◌, ◌++◌, take, drop, length, refl, sym, ap, ◌∙◌, arith, All}
use Rattle.std.proofs.Common.{append_assoc, append-nil, length-append, length-take, get_or, Bool, true, false, Option, Some, None}
use Rattle.std.specs.Prelude.{◌==◌, nat_lt, if◌then◌else◌}
use Rattle.std.proofs.lemmas.List.Elements.{All-head, All-tail, All-take}
use Rattle.std.proofs.Math.Seq.{take-take}
use Rattle.std.proofs.lemmas.Bool.Decides.{nat_tests}
use Rattle.vt_syntax.specs.declared.held.Held.{Held}
use Rattle.vt_utf8.specs.Decoding.{Read, read, characters, pending_after, IsWhole, read_last, read_first, given_up, is_begun}
use Rattle.bstr.specs.Utf8.{decoded, or_replacement}
use Rattle.vt_feed.proofs.Playing.{state-append, reports-append}
use Rattle.vt_feed.proofs.Fronts.{none-first, none-second}
use Rattle.vt_utf8.proofs.Cuts.{read-ascii}
use Rattle.vt_feed.specs.Actions.{Action, MachineOf, Plays, actions, read_after, state_after, reports}
use Rattle.vt_feed.specs.Languages.{eight_bit, utf8, reading, asked, held_by, all_asked, held_by_all, beyond, held_beyond}
use Rattle.vt_feed.specs.Observing.{Happening, Byte, Does, does, happenings, silent, AreJoined}

-- ---- ASCII with nothing pending is read as in the 8-bit language

one-asked : (held : Held) (b : ℕ) → b < 0x80 → utf8.asks (reading held []) b ≡ eight_bit.asks held b
one-asked held b ascii =
    let lower : nat_lt b 0x80 ≡ true = search (arith, ascii) in
    rw (read-ascii b ascii, lower) (append-nil (eight_bit.asks held b))

one-next : (held : Held) (b : ℕ) → b < 0x80 → utf8.next (reading held []) b ≡ reading (eight_bit.next held b) []
one-next held b ascii =
    let lower : nat_lt b 0x80 ≡ true = search (arith, ascii) in
    rw (read-ascii b ascii, lower) refl

pub ascii-asked : (held : Held) (bytes : List ℕ) → All (λ b. b < 0x80) bytes
    → actions utf8 (reading held []) bytes ≡ actions eight_bit held bytes
ascii-asked held [] ascii = refl
ascii-asked held (b ∷ bytes) ascii =
    let is : b < 0x80 = All-head (λ b. b < 0x80) b bytes ascii in
    rw (one-asked held b is, one-next held b is)
    (ap (λ (t : List Action). eight_bit.asks held b ++ t)
    (ascii-asked (eight_bit.next held b) bytes (All-tail (λ b. b < 0x80) b bytes ascii)))

pub ascii-read : (held : Held) (bytes : List ℕ) → All (λ b. b < 0x80) bytes
    → read_after utf8 (reading held []) bytes ≡ reading (read_after eight_bit held bytes) []
ascii-read held [] ascii = refl
ascii-read held (b ∷ bytes) ascii =
    rw (one-next held b (All-head (λ b. b < 0x80) b bytes ascii))
    (ascii-read (eight_bit.next held b) bytes (All-tail (λ b. b < 0x80) b bytes ascii))

module _ {S : Type 0} (m : MachineOf S) where
  ascii-happens : (held : Held) (s : S) (bytes : List ℕ) → All (λ b. b < 0x80) bytes
      → happenings utf8 m (reading held []) s bytes ≡ happenings eight_bit m held s bytes
  ascii-happens held s [] ascii = refl
  ascii-happens held s (b ∷ bytes) ascii =
      let is : b < 0x80 = All-head (λ b. b < 0x80) b bytes ascii in
      rw (one-asked held b is, one-next held b is)
      (ap (λ (t : List (Happening S)). Byte ∷ does m (eight_bit.asks held b) s ++ t)
      (ascii-happens (eight_bit.next held b) (state_after m (eight_bit.asks held b) s) bytes (All-tail (λ b. b < 0x80) b bytes ascii)))

  pub ascii-plays : (held h : Held) (pending : List ℕ) (s t : S) (bytes before after : List ℕ) → pending ≡ []
      → All (λ b. b < 0x80) bytes → Plays eight_bit m held s bytes h t before after
      → Plays utf8 m (reading held pending) s bytes (reading h pending) t before after
  ascii-plays held h pending s t bytes before after none ascii played = record {
    state = rw (none, ascii-asked held bytes ascii) played.state;
    read = rw (none, ascii-read held bytes ascii) (ap (λ (x : Held). reading x []) played.read);
    reports_are = rw (none, ascii-asked held bytes ascii) played.reports_are;
  }

  pub ascii-saw : {O : Type 0} (Saw : O → List (Happening S) → O → Type 0) (o p : O) (held : Held) (pending : List ℕ) (s : S)
      (bytes : List ℕ) → pending ≡ [] → All (λ b. b < 0x80) bytes → Saw o (happenings eight_bit m held s bytes) p
      → Saw o (happenings utf8 m (reading held pending) s bytes) p
  ascii-saw Saw o p held pending s bytes none ascii saw = rw (none, ascii-happens held s bytes ascii) saw

empty : (xs : List ℕ) → (length xs == 0) ≡ true → xs ≡ []
empty [] h = refl
empty (x ∷ xs) h = absurd (grind (arith, nat_tests))

-- a part of the ASCII at the front of a piece
module _ {S : Type 0} (m : MachineOf S) (held : Held) (pending : List ℕ) (s : S) (piece : List ℕ) (n k : ℕ)
    (none : (length pending == 0) ≡ true) (ascii : All (λ b. b < 0x80) (take k piece)) (fits : n ≤ length (take k piece)) where
  same-front : take n (take k piece) ≡ take n piece
  same-front = take-take n k piece (omega (arith, fits, length-take k piece))

  pub run-plays : (h : Held) (t : S) (before after : List ℕ) → Plays eight_bit m held s (take n (take k piece)) h t before after
      → Plays utf8 m (reading held pending) s (take n piece) (reading h pending) t before after
  run-plays h t before after played =
      rw (empty pending none) (rw same-front at (ascii-plays m held h [] s t (take n (take k piece)) before after refl
      (All-take (λ b. b < 0x80) n (take k piece) ascii) played))

  pub run-saw : {O : Type 0} (Saw : O → List (Happening S) → O → Type 0) (o p : O)
      → Saw o (happenings eight_bit m held s (take n (take k piece))) p
      → Saw o (happenings utf8 m (reading held pending) s (take n piece)) p
  run-saw Saw o p saw =
      rw (← same-front) (ascii-saw m Saw o p held pending s (take n (take k piece)) (empty pending none)
      (All-take (λ b. b < 0x80) n (take k piece) ascii) saw)

-- ---- characters in turn

pub all-asked-append : (held : Held) (xs ys : List ℕ) → all_asked held (xs ++ ys) ≡ all_asked held xs ++ all_asked (held_by_all held xs) ys
all-asked-append held [] ys = refl
all-asked-append held (x ∷ xs) ys =
    ap (λ (t : List Action). asked held x ++ t) (all-asked-append (held_by held x) xs ys)
    ∙ sym (append_assoc (asked held x) (all_asked (held_by held x) xs) (all_asked (held_by_all (held_by held x) xs) ys))

pub held-append : (held : Held) (xs ys : List ℕ) → held_by_all held (xs ++ ys) ≡ held_by_all (held_by_all held xs) ys
held-append held [] ys = refl
held-append held (x ∷ xs) ys = held-append (held_by held x) xs ys

pub bytes-asked : (held : Held) (pending bytes : List ℕ) → actions utf8 (reading held pending) bytes ≡ all_asked held (characters pending bytes)
bytes-asked held pending [] = refl
bytes-asked held pending (b ∷ bytes) =
    let now : Read = read pending b in
    ap (λ (t : List Action). all_asked held now.characters ++ t) (bytes-asked (held_by_all held now.characters) now.pending bytes)
    ∙ sym (all-asked-append held now.characters (characters now.pending bytes))

pub bytes-read : (held : Held) (pending bytes : List ℕ) → read_after utf8 (reading held pending) bytes
    ≡ reading (held_by_all held (characters pending bytes)) (pending_after pending bytes)
bytes-read held pending [] = refl
bytes-read held pending (b ∷ bytes) =
    let now : Read = read pending b in
    bytes-read (held_by_all held now.characters) now.pending bytes
    ∙ ap (λ (h : Held). reading h (pending_after now.pending bytes)) (sym (held-append held now.characters (characters now.pending bytes)))

-- ---- which byte a character ends at

-- a byte that completes no character leaves something pending
first-pending : (b : ℕ) (begun : Bool) (c : ℕ)
    → (if◌then◌else◌ {A = Read} begun (record { characters = []; pending = b ∷ [] }) (record { characters = c ∷ []; pending = [] })).characters ≡ []
    → 1 ≤ length (if◌then◌else◌ {A = Read} begun (record { characters = []; pending = b ∷ [] }) (record { characters = c ∷ []; pending = [] })).pending
first-pending b true c is = omega arith
first-pending b false c is = absurd (omega (arith, ap length is))

read-pending : (p : List ℕ) (b : ℕ) (begun : Bool) (found : Option ℕ)
    → (if◌then◌else◌ {A = Read} begun (record { characters = []; pending = p ++ b ∷ [] }) (read_last p b found)).characters ≡ []
    → 1 ≤ length (if◌then◌else◌ {A = Read} begun (record { characters = []; pending = p ++ b ∷ [] }) (read_last p b found)).pending
read-pending p b true found is = omega (arith, length-append p (b ∷ []))
read-pending p b false (Some c) is = absurd (omega (arith, ap length is))
read-pending p b false None is =
    first-pending b (is_begun (b ∷ [])) (or_replacement (decoded (b ∷ [])).char) (none-second (given_up p) (read_first b).characters is)

quiet-pending : (p : List ℕ) (b : ℕ) → (read p b).characters ≡ [] → 1 ≤ length (read p b).pending
unfolding read
quiet-pending p b none = read-pending p b (is_begun (p ++ b ∷ [])) (decoded (p ++ b ∷ [])).char none

some-pending : (p : List ℕ) (b : ℕ) (bytes : List ℕ) → characters p (b ∷ bytes) ≡ [] → 1 ≤ length (pending_after p (b ∷ bytes))
some-pending p b [] none = quiet-pending p b (none-first (read p b).characters [] none)
some-pending p b (d ∷ bytes) none =
    some-pending (read p b).pending d bytes (none-second (read p b).characters (characters (read p b).pending (d ∷ bytes)) none)

module _ {S : Type 0} (m : MachineOf S) where
  -- bytes that are one character
  pub character-happens : (held : Held) (p : List ℕ) (s : S) (bytes : List ℕ) (c : ℕ) → characters p bytes ≡ c ∷ []
      → pending_after p bytes ≡ [] → happenings utf8 m (reading held p) s bytes ≡ silent bytes ++ does m (all_asked held (c ∷ [])) s
  character-happens held p s [] c is none = absurd (omega (arith, ap length is))
  character-happens held p s (b ∷ bytes) c is none =
      go (λ more. character-happens held (read p b).pending s bytes c more none) (read p b).characters refl is
    where
      last : (rest : List ℕ) → characters (read p b).pending rest ≡ [] → pending_after (read p b).pending rest ≡ [] → rest ≡ []
      last [] quiet left = refl
      last (d ∷ rest) quiet left = absurd (omega (arith, some-pending (read p b).pending d rest quiet, ap length left))

      go : (characters (read p b).pending bytes ≡ c ∷ []
          → happenings utf8 m (reading held (read p b).pending) s bytes ≡ silent bytes ++ does m (all_asked held (c ∷ [])) s)
          → (cs : List ℕ) → (read p b).characters ≡ cs → cs ++ characters (read p b).pending bytes ≡ c ∷ []
          → happenings utf8 m (reading held p) s (b ∷ bytes) ≡ silent (b ∷ bytes) ++ does m (all_asked held (c ∷ [])) s
      go again [] at is = rw at (ap (λ (hs : List (Happening S)). Byte ∷ hs) (again is))
      go again (d ∷ []) at is =
          let end : bytes ≡ [] = last bytes (ap (λ (xs : List ℕ). drop 1 xs) is) none in
          rw (end, at) (ap (λ (x : ℕ). Byte ∷ does m (all_asked held (x ∷ [])) s ++ []) (ap (λ (xs : List ℕ). get_or xs 0 0) is)
          ∙ ap (λ (hs : List (Happening S)). Byte ∷ hs) (append-nil (does m (all_asked held (c ∷ [])) s)))
      go again (d ∷ e ∷ more) at is = absurd (omega (arith, ap length is))

  pub whole-saw : {O : Type 0} (Saw : O → List (Happening S) → O → Type 0) → AreJoined Saw → (o p q : O) (held : Held) (pending : List ℕ)
      (s : S) (piece : List ℕ) (c n : ℕ) → (length pending == 0) ≡ true → 0x80 ≤ c → IsWhole piece c n → Saw o (silent (take n piece)) p
      → Saw p (does m (beyond held c) s) q → Saw o (happenings utf8 m (reading held pending) s (take n piece)) q
  whole-saw Saw joined o p q held pending s piece c n nothing above whole first second =
      let lower : nat_lt c 0x80 ≡ false = search (arith, above) in
      let same : all_asked held (c ∷ []) ≡ beyond held c = rw lower (append-nil (beyond held c)) in
      rw (empty pending nothing, character-happens held [] s (take n piece) c whole.characters whole.pending, same)
      (joined.more o p q (silent (take n piece)) (does m (beyond held c) s) first second)

  pub whole-plays : (held h : Held) (pending : List ℕ) (s t : S) (piece out : List ℕ) (c n : ℕ) → (length pending == 0) ≡ true → 0x80 ≤ c
      → IsWhole piece c n → t ≡ state_after m (beyond held c) s → h ≡ held_beyond held → reports m (beyond held c) s ≡ []
      → Plays utf8 m (reading held pending) s (take n piece) (reading h pending) t out out
  whole-plays held h pending s t piece out c n nothing above whole is left silently =
      let lower : nat_lt c 0x80 ≡ false = search (arith, above) in
      let asked-is : actions utf8 (reading held []) (take n piece) ≡ beyond held c =
      bytes-asked held [] (take n piece) ∙ ap (λ (cs : List ℕ). all_asked held cs) whole.characters ∙ rw lower (append-nil (beyond held c)) in
      record {
        state = rw (empty pending nothing, asked-is) is;
        read = rw (empty pending nothing, bytes-read held [] (take n piece), whole.characters, whole.pending, lower, left) refl;
        reports_are = rw (empty pending nothing, asked-is, silently) (sym (append-nil out));
      }

  -- one byte: what is lost, and what is whole
  does-append : (xs ys : List Action) (s : S) → does m (xs ++ ys) s ≡ does m xs s ++ does m ys (state_after m xs s)
  does-append [] ys s = refl
  does-append (x ∷ xs) ys s = ap (λ (hs : List (Happening S)). Does x s ∷ hs) (does-append xs ys (m.effect x s))

  module _ (held : Held) (p : List ℕ) (b : ℕ) (xs ys : List ℕ) (is : xs ++ ys ≡ (read p b).characters) where
    byte-asked : actions utf8 (reading held p) (b ∷ []) ≡ all_asked held xs ++ all_asked (held_by_all held xs) ys
    byte-asked =
        append-nil (all_asked held (read p b).characters) ∙ ap (λ (cs : List ℕ). all_asked held cs) (sym is) ∙ all-asked-append held xs ys

    pub byte-plays : (s t u : S) (h k : Held) (pending before out after : List ℕ)
        → t ≡ state_after m (all_asked held xs) s → h ≡ held_by_all held xs → reports m (all_asked held xs) s ≡ [] → out ≡ before
        → u ≡ state_after m (all_asked h ys) t → k ≡ held_by_all h ys → after ≡ out ++ reports m (all_asked h ys) t
        → pending ≡ (read p b).pending
        → Plays utf8 m (reading held p) s (b ∷ []) (reading k pending) u before after
    byte-plays s t u h k pending before out after first first-held silently same second second-held told left = record {
      state = rw (byte-asked, state-append m (all_asked held xs) (all_asked (held_by_all held xs) ys) s, ← first, ← first-held) second;
      read = rw (← is, held-append held xs ys, ← first-held, ← second-held, ← left) refl;
      reports_are = rw (byte-asked, reports-append m (all_asked held xs) (all_asked (held_by_all held xs) ys) s, silently, ← first, ← first-held)
          (told ∙ ap (λ (o : List ℕ). o ++ reports m (all_asked h ys) t) same);
    }

    pub byte-saw : {O : Type 0} (Saw : O → List (Happening S) → O → Type 0) → AreJoined Saw → (o n q r : O) (s t : S) (h : Held)
        → t ≡ state_after m (all_asked held xs) s → h ≡ held_by_all held xs → Saw o (silent (b ∷ [])) n
        → Saw n (does m (all_asked held xs) s) q → Saw q (does m (all_asked h ys) t) r
        → Saw o (happenings utf8 m (reading held p) s (b ∷ [])) r
    byte-saw Saw joined o n q r s t h first first-held told lost whole =
        let hs : List (Happening S) = does m (all_asked held xs) s in
        let ks : List (Happening S) = does m (all_asked h ys) t in
        let all : does m (all_asked held (read p b).characters) s ≡ hs ++ ks =
        ap (λ (cs : List ℕ). does m (all_asked held cs) s) (sym is)
        ∙ ap (λ (actions : List Action). does m actions s) (all-asked-append held xs ys)
        ∙ does-append (all_asked held xs) (all_asked (held_by_all held xs) ys) s
        ∙ ap (λ (x : Held). hs ++ does m (all_asked x ys) (state_after m (all_asked held xs) s)) (sym first-held)
        ∙ ap (λ (x : S). hs ++ does m (all_asked h ys) x) (sym first) in
        rw (append-nil (does m (all_asked held (read p b).characters) s), all)
        (joined.more o n r (silent (b ∷ [])) (hs ++ ks) told (joined.more n q r hs ks lost whole))
