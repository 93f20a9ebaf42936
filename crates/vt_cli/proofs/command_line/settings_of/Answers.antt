use Rattle.clap.specs.Words.{found_of, rows_of}
use Rattle.vt_cli.proofs.Words.{settings_without_options}
use Rattle.vt_cli.proofs.command_line.settings_of.Goals as goal

pub returns-in_default-2-clause-none : goal.returns-in_default-2-clause-none
returns-in_default-2-clause-none c =
    settings_without_options c.args.name.now (rows_of (found_of c.args.matches.now))
    (rw c.in_default-2.is at c.in_ok-options.ensures.none)
