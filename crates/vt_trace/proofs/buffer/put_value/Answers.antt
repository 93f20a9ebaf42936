use Rattle.std.proofs.Common.{arith, take}
use Rattle.vt_trace.proofs.Digits.{pushed_one, put_two}
use Rattle.vt_trace.proofs.buffer.put_value.Goals as goal

pub returns-then-n-lt10-clause-items : goal.returns-then-n-lt10-clause-items
returns-then-n-lt10-clause-items c =
    pushed_one c.args.n (take c.args.at c.args.buffer.now) (take c.put.result c.put.new.buffer) c.if-n-lt10.true
    c.put.ensures.items

pub returns-then-n-lt100-clause-items : goal.returns-then-n-lt100-clause-items
returns-then-n-lt100-clause-items c =
    put_two c.args.n (take c.args.at c.args.buffer.now) (take c.put-at.result c.put-at.new.buffer)
    (take c.put-then-n-lt100.result c.put-then-n-lt100.new.buffer) (omega (arith, c.if-n-lt10.false))
    c.if-n-lt100.true c.put-at.ensures.items c.put-then-n-lt100.ensures.items
