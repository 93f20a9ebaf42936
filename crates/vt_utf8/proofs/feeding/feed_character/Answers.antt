use Rattle.std.proofs.Common.{◌≡◌, arith}
use Rattle.vt_utf8.proofs.feeding.feed_character.Goals as goal

pub returns-then-c-lt128-clause-takes : goal.returns-then-c-lt128-clause-takes
returns-then-c-lt128-clause-takes g c =
    let one : c.take_some.result ≡ 1 = omega (arith, c.take_some.ensures.some, c.take_some.ensures.within) in
    rw one at c.take_some.ensures.takes
