use Rattle.std.proofs.Common.{◌∙◌}
use Rattle.clap.specs.Words.{found_of}
use Rattle.clap.proofs.WalkLemmas.{first_value-rows}
use Rattle.vt_cli.proofs.command_line.is_set.Goals as goal

pub returns : goal.returns
returns c =
    let text = c.get_str.ensures ∙ first_value-rows (found_of c.args.matches.now) c.args.option.now in
    rw (← text) c.is_true.ensures
