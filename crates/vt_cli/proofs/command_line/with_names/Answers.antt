use Rattle.std.proofs.Common.{ap, ◌∙◌}
use Rattle.clap.specs.Words.{App, app_of, with_subcommand}
use Rattle.vt_cli.proofs.Words.{row_added, all_added}
use Rattle.vt_cli.proofs.command_line.with_names.Goals as goal

pub loop-name-preserved : goal.loop-name-preserved
loop-name-preserved c =
    let there = c.loop-name-test.true in
    let so_far = c.loop-name.invariant.added in
    let is = c.in_ok-command.ensures.shape c.in_ok-subcommand.ensures.local
    ∙ ap (λ (a : App). with_subcommand (app_of c.loop-name.command) a.top) c.in_ok-subcommand.ensures.app in
    record { added = search (row_added, there, so_far, is) }

pub returns : goal.returns
returns c =
    let past = c.loop-name-test.false in
    let so_far = c.loop-name.invariant.added in
    search (all_added, past, so_far)
