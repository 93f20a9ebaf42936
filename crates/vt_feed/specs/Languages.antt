-- The two languages: bytes as they are, and UTF-8. (ECMA-35; the Unicode Standard, 3.9; how characters and sequences meet is this
-- profile's)
use Rattle.std.specs.Prelude.{ℕ, List, [], ◌∷◌, ◌++◌, map, nat_lt, if◌then◌else◌}
use Rattle.vt_syntax.specs.declared.held.Held.{Held}
use Rattle.vt_syntax.specs.declared.held.Held.TheVariants.{Nothing, Text}
use Rattle.vt_syntax.specs.Held.{events_from, held_from}
use Rattle.vt_utf8.specs.Decoding.{read}
use Rattle.vt_feed.specs.Actions.{Action, Function, Character, Language}

-- each byte by itself: what is read is the held part of a sequence
abbrev pub eight_bit : Language Held
eight_bit = record {
  asks = λ held b. map Function (events_from held (b ∷ []));
  next = λ held b. held_from held (b ∷ []);
}

-- a character beyond ASCII is content of a string. It ends a sequence, which then has no function
abbrev pub beyond : Held → ℕ → List Action
beyond (Text osc) c = []
beyond held c = Character c ∷ []

abbrev pub held_beyond : Held → Held
held_beyond (Text osc) = Text osc
held_beyond held = Nothing

-- what a character asks for, and what is held after it: an ASCII one is its byte
abbrev pub asked : Held → ℕ → List Action
asked held c = if nat_lt c 0x80 then eight_bit.asks held c else beyond held c

abbrev pub held_by : Held → ℕ → Held
held_by held c = if nat_lt c 0x80 then eight_bit.next held c else held_beyond held

abbrev pub all_asked : Held → List ℕ → List Action
all_asked held [] = []
all_asked held (c ∷ cs) = asked held c ++ all_asked (held_by held c) cs

abbrev pub held_by_all : Held → List ℕ → Held
held_by_all held [] = held
held_by_all held (c ∷ cs) = held_by_all (held_by held c) cs

-- what is read of UTF-8: the held part of a sequence, and the bytes of a character that isn't complete
pub record Reading : Type 0 where
  pub held : Held
  pub pending : List ℕ

abbrev pub utf8 : Language Reading
utf8 = record {
  asks = λ r b. all_asked r.held (read r.pending b).characters;
  next = λ r b. record {
    held = held_by_all r.held (read r.pending b).characters;
    pending = (read r.pending b).pending;
  };
}

abbrev pub reading : Held → List ℕ → Reading
reading held pending = record { held = held; pending = pending }
