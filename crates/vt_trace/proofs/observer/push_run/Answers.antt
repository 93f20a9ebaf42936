use Rattle.std.proofs.Common.{◌++◌, ◌∙◌, ℕ, List, ap, sym}
use Rattle.vt_trace.proofs.Runs.{shown-run}
use Rattle.vt_trace.proofs.observer.push_run.Goals as goal

pub returns-then-are_shown-clause-items : goal.returns-then-are_shown-clause-items
returns-then-are_shown-clause-items c =
    c.push_bytes.ensures.items
    ∙ ap (λ (l : List ℕ). c.args.out.now.items ++ l) (sym (shown-run c.args.run.now c.if-are_shown.ensures))
