-- The bytes up to such an event, and the event.
use Rattle.vt_term.proofs.Bytes.{rest-of}
use Rattle.vt_xterm.specs.Play.{whole_of}
use Rattle.vt_xterm.proofs.Fed.{feeds-more}
use Rattle.vt_xterm.proofs.OfOneSize.{keep-both, still-one}
use Rattle.vt_xterm.proofs.playing.feed_before.Goals as goal

pub returns-clause-fed : goal.returns-clause-fed
returns-clause-fed c =
    let played = c.feed_written-played in
    feeds-more c.one_split.ensures (whole_of c.args.terminal.now c.args.pages.now) (whole_of played.new.terminal played.new.pages)
    (whole_of c.feed_one.new.terminal c.feed_one.new.pages) c.args.piece.now played.result c.feed_one.result c.args.out.now.items
    played.new.out.items c.feed_one.new.out.items played.ensures.fed
    (rw (rest-of c.args.piece.now played.result) at c.feed_one.ensures.fed)

pub feed_one-requires-clause-one_size : goal.feed_one-requires-clause-one_size
feed_one-requires-clause-one_size c =
    still-one c.args.terminal.now c.feed_written-played.new.terminal c.args.pages.now c.feed_written-played.new.pages
    c.feed_written-played.ensures.sizes c.requires.one_size

pub returns-clause-sizes : goal.returns-clause-sizes
returns-clause-sizes c =
    let played = c.feed_written-played in
    keep-both c.args.terminal.now played.new.terminal c.feed_one.new.terminal c.args.pages.now played.new.pages
    c.feed_one.new.pages played.ensures.sizes c.feed_one.ensures.sizes
