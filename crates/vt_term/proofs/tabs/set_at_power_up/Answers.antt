use Rattle.std.proofs.Common.{◌-◌, ◌∙◌, arith, length}
use Rattle.std.proofs.lemmas.List.{length-set}
use Rattle.vt_term.specs.State.{stops_of, is_stop_at_power_up}
use Rattle.vt_term.proofs.Stops.{stops-same, one_more_stop}
use Rattle.vt_term.proofs.tabs.set_at_power_up.Goals as goal

pub loop-col-preserved : goal.loop-col-preserved
loop-col-preserved c = record {
  done = one_more_stop is_stop_at_power_up c.loop-col.stops c.loop-col.col c.has_stop_at_power_up.result (omega arith)
      (omega (arith, c.loop-col.invariant.long)) c.has_stop_at_power_up.ensures c.loop-col.invariant.done;
  long = length-set c.loop-col.stops (c.loop-col.col - 1) c.has_stop_at_power_up.result ∙ c.loop-col.invariant.long;
}

pub returns : goal.returns
unfolding stops_of
returns c =
    stops-same (length c.args.stops.now) is_stop_at_power_up c.loop-col.stops c.loop-col.invariant.long
    (λ k h. c.loop-col.invariant.done k (omega arith))
