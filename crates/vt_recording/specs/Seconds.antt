-- A number of seconds as text, in microseconds. (this profile)
use Rattle.std.specs.Prelude.{ℕ, zero, suc, ◌+◌, ◌-◌, ◌*◌, ◌/◌, ◌&&◌, ◌||◌, List, [], ◌∷◌, length, take, drop, cond, Option, Some, None}
use Rattle.std.specs.Prelude.{nat_eq, nat_le, nat_lt, ◌^◌, option_map, option_and_then}
use Rattle.std.specs.Char.{is_ascii_digit}
use Rattle.std.specs.List.{list_all, position, fold, starts_with}

-- the number that digits write
abbrev pub value : List ℕ → ℕ
value digits = fold (λ n d. 10 * n + (d - 0x30)) 0 digits

-- the number that at least one digit writes, and at most so many
abbrev pub number : (most : ℕ) → List ℕ → Option ℕ
number most digits =
    cond (nat_lt 0 (length digits) && (nat_le (length digits) most && list_all (λ b. is_ascii_digit b) digits))
    (Some (value digits)) None

-- what the last of so many decimals counts, in microseconds
abbrev pub scale : ℕ → ℕ
scale decimals = 10 ^ (6 - decimals)

-- the microseconds of decimals, of which those after the sixth are left out
abbrev pub micros_of_decimals : List ℕ → Option ℕ
micros_of_decimals decimals =
    cond (list_all (λ b. is_ascii_digit b) decimals)
    (option_map (λ d. scale (length (take 6 decimals)) * d) (number 6 (take 6 decimals))) None

-- the microseconds that a text writes, by the place of its first point: seconds of up to nine digits, and decimals
abbrev pub micros_at : Option ℕ → List ℕ → Option ℕ
micros_at None text = option_map (λ s. 1000000 * s) (number 9 text)
micros_at (Some at) text =
    option_and_then (λ s. option_map (λ d. 1000000 * s + d) (micros_of_decimals (drop (at + 1) text)))
    (number 9 (take at text))

abbrev pub micros : List ℕ → Option ℕ
micros text = micros_at (position (λ b. nat_eq b 0x2E) text) text

-- a number without its last digits
abbrev pub without_digits : (count : ℕ) → ℕ → ℕ
without_digits zero n = n
without_digits (suc count) n = without_digits count (n / 10)

-- the number of a negative exponent, of one digit or two
abbrev pub negative_exponent : List ℕ → Option ℕ
negative_exponent text = cond (starts_with nat_eq text (0x2D ∷ [])) (number 2 (drop 1 text)) None

-- the microseconds that a number of JSON writes, by the place of its exponent, which is negative
abbrev pub micros_of_number_at : Option ℕ → List ℕ → Option ℕ
micros_of_number_at None text = micros text
micros_of_number_at (Some at) text =
    option_and_then (λ n. option_map (λ places. without_digits places n) (negative_exponent (drop (at + 1) text)))
    (micros (take at text))

abbrev pub micros_of_number : List ℕ → Option ℕ
micros_of_number text = micros_of_number_at (position (λ b. nat_eq b 0x65 || nat_eq b 0x45) text) text

-- the time of an event after one of this time: the clock of a recording never falls. A lower number counts as the time
-- before (this profile)
abbrev pub risen : (clock micros : ℕ) → ℕ
risen clock micros = cond (nat_lt micros clock) clock micros
