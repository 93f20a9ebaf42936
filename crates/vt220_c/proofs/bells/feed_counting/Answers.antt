use Rattle.std.proofs.Common.{◌≡◌, ◌∙◌, ℕ, List, ap, take, arith, length-take}
use Rattle.vt220_c.specs.Bells.{bells}
use Rattle.vt220_c.proofs.Rung.{all-rang, all-taken}
use Rattle.vt220_c.proofs.bells.feed_counting.Goals as goal

pub returns-clause-bells : goal.returns-clause-bells
returns-clause-bells c =
    let fed = c.feed_observed.ensures in
    let piece = c.args.piece.now in
    let bytes = take c.feed_observed.result piece in
    let rung : c.feed_observed.new.observer.count ≡ bells c.args.terminal.now.held bytes =
    all-rang c.args.terminal.now bytes c.feed_observed.new.observer.count
    (c.sized_happened.ensures.events _ c.args.terminal.now bytes c.soundness.ensures) fed.saw in
    rung ∙ ap (λ (l : List ℕ). bells c.args.terminal.now.held l)
    (all-taken c.feed_observed.result piece fed.within fed.all)

pub returns-clause-few : goal.returns-clause-few
returns-clause-few c =
    let bytes = take c.feed_observed.result c.args.piece.now in
    omega (
      arith,
      c.feed_observed.ensures.saw.few,
      c.sized_happened.ensures.count c.args.terminal.now bytes,
      length-take c.feed_observed.result c.args.piece.now,
      c.feed_observed.ensures.within,
    )
