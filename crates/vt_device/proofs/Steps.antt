-- Bytes read, played and sent a piece at a time.
use Rattle.std.proofs.Common.{◌≡◌, ℕ, ◌+◌, ◌-◌, ◌≤◌, ◌++◌, List, length, Option, take, arith, false}
use Rattle.std.proofs.Common.{[], append-nil, length-append, ◌≢◌, refl, sym, append_assoc}
use Rattle.std.proofs.lemmas.List.{length-take}
use Rattle.std.proofs.Math.Seq.{take-append_seam}
use Rattle.std.specs.Io.KnownBytes.{Consumes, Appends}
use Rattle.std.proofs.KnownBytes.{Consumes-nil, Appends-nil, Consumes-trans, Appends-trans}
use Rattle.vt_device.specs.Runs.{Moves, Flags, AreFlags}
use Rattle.vt_device.specs.Writing.{IsProperBeginning}

-- nothing was read or written, since allocation failed
pub without_memory : (left held : Option (List ℕ)) (f : Flags) → AreFlags f false false false
    → Moves left left held held (λ b w. AreFlags f false false false × (b ≡ []) × (w ≡ []))
without_memory left held f flags =
    record { b = []; w = []; taken = Consumes-nil left; given = Appends-nil held; holds = (flags, refl, refl) }

-- one more read and one more write
pub Moves-step : (left mid after held hmid hafter : Option (List ℕ)) (P Q : List ℕ → List ℕ → Type 0)
    (chunk written : List ℕ)
    → Moves left mid held hmid P → Consumes mid after chunk → Appends hmid hafter written
    → ((b w : List ℕ) → P b w → Q (b ++ chunk) (w ++ written)) → Moves left after held hafter Q
Moves-step left mid after held hmid hafter P Q chunk written m c a f = record {
  b = m.b ++ chunk;
  w = m.w ++ written;
  taken = Consumes-trans _ _ _ _ _ m.taken c;
  given = Appends-trans _ _ _ _ _ m.given a;
  holds = f m.b m.w m.holds;
}

-- one more write
pub Moves-write : (left after held hmid hafter : Option (List ℕ)) (P Q : List ℕ → List ℕ → Type 0) (written : List ℕ)
    → Moves left after held hmid P → Appends hmid hafter written → ((b w : List ℕ) → P b w → Q b (w ++ written))
    → Moves left after held hafter Q
Moves-write left after held hmid hafter P Q written m a f =
    let given = Appends-trans _ _ _ _ _ m.given a in
    record { b = m.b; w = m.w ++ written; taken = m.taken; given = given; holds = f m.b m.w m.holds }

-- one more read, of nothing
pub Moves-end : (left mid after held hmid : Option (List ℕ)) (P Q : List ℕ → List ℕ → Type 0)
    → Moves left mid held hmid P → Consumes mid after [] → ((b w : List ℕ) → P b w → Q b w)
    → Moves left after held hmid Q
Moves-end left mid after held hmid P Q m c f =
    let taken = rw append-nil at (Consumes-trans _ _ _ m.b [] m.taken c) in
    record { b = m.b; w = m.w; taken = taken; given = m.given; holds = f m.b m.w m.holds }

-- one more piece of at most what is left of the limit
pub counted : (b buf : List ℕ) (n left limit : ℕ) → length b + left ≡ limit → n ≤ length buf → n ≤ left
    → length (b ++ take n buf) + (left - n) ≡ limit
counted b buf n left limit total fits within =
    let len : length (take n buf) ≡ n = rw length-take (omega arith) in
    rw length-append (omega (arith, len))

-- one byte past the limit
pub passed : (b buf : List ℕ) (n limit : ℕ) → length b ≡ limit → n ≤ length buf → length buf ≤ 1 → n ≢ 0
    → length (b ++ take n buf) ≡ limit + 1
passed b buf n limit total fits one some =
    let len : length (take n buf) ≡ n = rw length-take (omega arith) in
    rw length-append (omega (arith, len))

-- the bytes within the limit, where one more was read
pub within-limit : (b chunk : List ℕ) (limit : ℕ) → length b ≡ limit → b ≡ take limit (b ++ chunk)
within-limit b chunk limit total = rw (← total) (sym (take-append_seam b chunk))

-- a proper beginning, after what was written before it
pub behind : (front part rest w whole : List ℕ) → w ≡ front → whole ≡ front ++ rest → IsProperBeginning part rest
    → IsProperBeginning (w ++ part) whole
behind front part rest w whole is all p = record {
  more = p.more;
  whole = rw (all, is, p.whole, append_assoc) refl;
  missing = p.missing;
}
