-- The laws of the observers of this crate.
use Rattle.std.specs.Prelude.{⊤}
use Rattle.vt_feed.specs.Observing.{AreJoined}

pub nobody_joined : {O S : Type 0} → AreJoined {O = O} {S = S} (λ o hs p. ⊤)
nobody_joined = record { nothing = λ o. tt; more = λ o p q xs ys first second. tt }
