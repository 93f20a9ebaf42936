use Rattle.std.proofs.Common.{◌≡◌, fold, take}
use Rattle.clap.specs.Words.{app_of}
use Rattle.vt_cli.specs.CommandLine.{with_name}
use Rattle.vt_cli.proofs.command_line.with_names.Given as goal

abbrev pub invariant-loop-name : goal.invariant-loop-name
invariant-loop-name l = record {
  added : app_of l.command ≡ fold (λ a row. with_name a row.0.now) (app_of l.fn.command) (take l.name-index l.rows);
}
