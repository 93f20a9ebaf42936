use Rattle.std.proofs.Common.{arith, ◌∙◌}
use Rattle.clap.specs.Words.{found_of, rows_of}
use Rattle.clap.proofs.WalkLemmas.{first_value-rows}
use Rattle.vt_cli.proofs.Words.{without_piece, without_limit}
use Rattle.vt_cli.proofs.command_line.options_of.Goals as goal

pub returns-clause-some : goal.returns-clause-some
returns-clause-some c = record {
  piece_is = c.in-Some.ensures.some;
  limit_is = c.in-Some-number_of.ensures.some;
  piece_in_range = (omega arith, omega arith);
  limit_in_range = omega arith;
  file_is = c.in_ok-file.ensures ∙ first_value-rows (found_of c.args.matches.now) _;
}

pub returns-in_default-clause-none : goal.returns-in_default-clause-none
returns-in_default-clause-none c = without_piece (rows_of (found_of c.args.matches.now)) c.in_default.ensures.none

pub returns-in_default-number_of-clause-none : goal.returns-in_default-number_of-clause-none
returns-in_default-number_of-clause-none c =
    without_limit (rows_of (found_of c.args.matches.now)) c.in_default-number_of.ensures.none
