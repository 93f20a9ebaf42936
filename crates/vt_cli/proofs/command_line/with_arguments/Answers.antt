use Rattle.std.proofs.Common.{ap, ◌∙◌}
use Rattle.clap.specs.Words.{app_of, with_rule}
use Rattle.vt_cli.proofs.Words.{row_added, all_added}
use Rattle.vt_cli.proofs.command_line.with_arguments.Goals as goal

pub loop-name-preserved : goal.loop-name-preserved
loop-name-preserved c =
    let there = c.loop-name-test.true in
    let so_far = c.loop-name.invariant.added in
    let is = c.in_ok-command.ensures.shape c.argument.ensures.local
    ∙ ap (λ r. with_rule (app_of c.loop-name.command) r) c.argument.ensures.rule in
    record {
      added = search (row_added, there, so_far, is);
      local = rw c.in_ok-command.ensures.globals (rw c.loop-name.invariant.local c.argument.ensures.local);
    }

pub returns-clause-app : goal.returns-clause-app
returns-clause-app c =
    let past = c.loop-name-test.false in
    let so_far = c.loop-name.invariant.added in
    search (all_added, past, so_far)
