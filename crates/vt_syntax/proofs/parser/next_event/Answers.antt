-- Before the last byte the steps gave no event.
use Rattle.vt_syntax.proofs.Cutting.{none_before}
use Rattle.vt_syntax.proofs.parser.next_event.Goals as goal

pub returns-clause-last : goal.returns-clause-last
returns-clause-last c =
    none_before c.args.held.now _ c.next_held.result.event c.requires c.next_held.ensures.silent
