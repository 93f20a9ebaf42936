use Rattle.std.proofs.Common.{sym, ◌∙◌}
use Rattle.clap.specs.Words.{found_of, rows_of}
use Rattle.clap.proofs.WalkLemmas.{first_value-rows}
use Rattle.vt_cli.proofs.Words.{some_number, no_number, unmatched_number}
use Rattle.vt_cli.proofs.command_line.number_of.Goals as goal

pub returns : goal.returns
returns c =
    let matches = rows_of (found_of c.args.matches.now) in
    let matched =
    sym (first_value-rows (found_of c.args.matches.now) c.args.option.now) ∙ sym c.in_ok-get_str.ensures in
    rw c.ok.ensures.value (record {
      some = some_number c.args.option.now c.in_ok-get_str.field-0.now matches c.parse.result matched
          c.parse.ensures.value.0;
      none = no_number c.args.option.now c.in_ok-get_str.field-0.now matches c.parse.result matched
          c.parse.ensures.value.0;
    })

pub returns-in_err-get_str-clause-none : goal.returns-in_err-get_str-clause-none
returns-in_err-get_str-clause-none c =
    rw c.from_residual.ensures
    (unmatched_number c.args.option.now (rows_of (found_of c.args.matches.now))
    (sym (first_value-rows (found_of c.args.matches.now) c.args.option.now) ∙ sym c.in_err-get_str.ensures))
