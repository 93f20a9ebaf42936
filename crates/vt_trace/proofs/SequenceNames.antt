-- The names of the control sequences with a marker or an intermediate, by their tables.
use Rattle.std.proofs.Common.{◌≡◌, ℕ, List, Option, Some, None, refl}
use Rattle.vt_term.specs.Functions.{function_in, private_sequences, quote_sequences, sequences_any}
use Rattle.vt_term.specs.Names.{sequence_name_on, name_with}

pub after_question : (rows last : ℕ) (values : List ℕ)
    → name_with rows values (function_in private_sequences last) ≡ sequence_name_on rows (Some 0x3F) None last values
unfolding sequence_name_on sequences_any
after_question rows last values = refl

pub after_quote : (rows last : ℕ) (values : List ℕ)
    → name_with rows values (function_in quote_sequences last) ≡ sequence_name_on rows None (Some 0x22) last values
unfolding sequence_name_on sequences_any
after_quote rows last values = refl
