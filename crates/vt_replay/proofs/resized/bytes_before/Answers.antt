use Rattle.std.proofs.Common.{refl}
use Rattle.vt_replay.proofs.Resizing.{first_due, none_due}
use Rattle.vt_replay.proofs.resized.bytes_before.Goals as goal

pub returns-in-Some : goal.returns-in-Some
returns-in-Some g c =
    first_due c.args.later.now.items (λ l. l.after) (λ l. g.P.Player.screen l.target) c.in-Some.next.now.after c.in-Some.next.now
    c.in-Some.ensures.item.0 c.in-Some.ensures.lookup refl

pub returns-in-None : goal.returns-in-None
returns-in-None g c =
    none_due c.args.later.now.items (λ l. l.after) (λ l. g.P.Player.screen l.target) 0 c.in-None.ensures.item.0
