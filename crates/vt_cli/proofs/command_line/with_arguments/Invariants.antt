use Rattle.std.proofs.Common.{◌≡◌, fold, take, false}
use Rattle.clap.specs.Words.{app_of, with_rule}
use Rattle.clap.specs.declared.builder.command.Command.TheViews.{out-Command}
use Rattle.vt_cli.specs.CommandLine.{rule_for}
use Rattle.vt_cli.proofs.command_line.with_arguments.Given as goal

abbrev pub invariant-loop-name : goal.invariant-loop-name
invariant-loop-name l = record {
  added : app_of l.command
      ≡ fold (λ a row. with_rule a (rule_for row.0.now row.1)) (app_of l.fn.command) (take l.name-index l.rows);
  local : (out-Command l.command).has_globals ≡ false;
}
