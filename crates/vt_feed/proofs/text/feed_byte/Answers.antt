use Rattle.std.proofs.Common.{refl}
use Rattle.std.specs.Option.{option_to_list}
use Rattle.vt_feed.proofs.Texts.{byte-plays, byte-saw}
use Rattle.vt_feed.proofs.text.feed_byte.Goals as goal

pub returns-clause-plays : goal.returns-clause-plays
returns-clause-plays g c =
    byte-plays g.M.Machine.machine _ _ _ (option_to_list c.push-lost.result.0) (option_to_list c.push-lost.result.1) c.push-lost.ensures.characters _ _ _ _ _ _ _ _ _ c.play_lost.ensures.state
    c.play_lost.ensures.held c.play_lost.ensures.silent refl c.play_read.ensures.state c.play_read.ensures.held c.play_read.ensures.items
    c.push-lost.ensures.pending

pub returns-clause-saw : goal.returns-clause-saw
returns-clause-saw g c =
    byte-saw g.M.Machine.machine _ _ _ (option_to_list c.push-lost.result.0) (option_to_list c.push-lost.result.1) c.push-lost.ensures.characters g.O.Observer.Saw g.met.O.Observer.joined _ _ _ _ _ _ _
    c.play_lost.ensures.state c.play_lost.ensures.held c.bytes.ensures.saw c.play_lost.ensures.saw c.play_read.ensures.saw
