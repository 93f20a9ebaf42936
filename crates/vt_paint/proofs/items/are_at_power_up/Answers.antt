use Rattle.std.proofs.Common.{ap, ◌∙◌, length, List, Bool}
use Rattle.std.specs.Cmp.Lexicographic.{pointwise}
use Rattle.vt_screen.specs.Same.{same_bool}
use Rattle.vt_paint.proofs.Stops.{table_front}
use Rattle.vt_paint.proofs.items.are_at_power_up.Goals as goal

pub returns : goal.returns
returns c =
    c.same_stops.ensures
    ∙ ap (λ (table : List Bool). pointwise same_bool c.args.stops.now table) (table_front (length c.args.stops.now) c.requires)
