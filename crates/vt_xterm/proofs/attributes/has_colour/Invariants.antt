use Rattle.std.proofs.Common.{◌≡◌, drop}
use Rattle.std.specs.List.{list_any}
use Rattle.vt_xterm.specs.Attributes.{begins_colour}
use Rattle.vt_xterm.proofs.attributes.has_colour.Given as goal

-- there is one among those that are left, if there is one
abbrev pub invariant-loop-value : goal.invariant-loop-value
invariant-loop-value l = list_any begins_colour l.values ≡ list_any begins_colour (drop l.value-index l.values)
