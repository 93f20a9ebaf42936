use Rattle.std.proofs.Common.{◌-◌, ◌∙◌, arith, length}
use Rattle.std.proofs.lemmas.List.{length-set}
use Rattle.vt_term.specs.Resizing.{stops_on, is_stop_on}
use Rattle.vt_term.proofs.Stops.{stops-same, one_more_stop}
use Rattle.vt_term.proofs.tabs.set_on.Goals as goal

pub loop-col-preserved : goal.loop-col-preserved
loop-col-preserved c = record {
  done = one_more_stop (is_stop_on c.args.from.now) c.loop-col.stops c.loop-col.col c.has_stop_on.result (omega arith)
      (omega (arith, c.loop-col.invariant.long)) c.has_stop_on.ensures c.loop-col.invariant.done;
  long = length-set c.loop-col.stops (c.loop-col.col - 1) c.has_stop_on.result ∙ c.loop-col.invariant.long;
}

pub returns : goal.returns
unfolding stops_on
returns c =
    stops-same (length c.args.stops.now) (is_stop_on c.args.from.now) c.loop-col.stops c.loop-col.invariant.long
    (λ k h. c.loop-col.invariant.done k (omega arith))
