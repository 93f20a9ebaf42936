use Rattle.std.proofs.Common.{refl}
use Rattle.vt_syntax.specs.Event.{event_of}
use Rattle.vt_trace.proofs.Runs.{item_read}
use Rattle.vt_trace.proofs.observer.read_event.Goals as goal

pub returns-then-is_item-clause-read : goal.returns-then-is_item-clause-read
returns-then-is_item-clause-read c = λ list one.
    rw c.pass.ensures (item_read c.spelled.ensures c.one_split.ensures c.args.bytes.now (event_of c.args.kind list)
    c.requires.some c.args.tracer.now c.args.parser.now c.args.out.now.items (c.if-is_between.ensures.0 refl)
    (c.if-is_item.ensures list) one)
