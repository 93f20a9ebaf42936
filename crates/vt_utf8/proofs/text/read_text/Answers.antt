use Rattle.std.proofs.Common.{◌≤◌, arith, length, length-drop, drop}
use Rattle.vt_utf8.proofs.Fed.{rest-of}
use Rattle.vt_utf8.proofs.Texts.{reads-none, reads-more}
use Rattle.vt_utf8.proofs.text.read_text.Goals as goal

pub loop-at-init : goal.loop-at-init
loop-at-init c = record {
  within = omega arith;
  room = c.requires.before;
  read = reads-none c.args.ascii c.args.text.now.items;
}

pub loop-at-preserved : goal.loop-at-preserved
loop-at-preserved c =
    let piece = c.args.piece.now in
    let before = c.loop-at.invariant in
    let read = c.read_character-size.ensures in
    let inside : c.read_character-size.result ≤ length (drop c.loop-at.at piece) = rw (rest-of piece c.loop-at.at) at read.within in
    record {
      within = omega (arith, inside, length-drop c.loop-at.at piece, before.within);
      room = read.room;
      read = reads-more c.args.ascii piece c.args.text.now.items c.loop-at.text.items c.read_character-size.new.text.items
          c.loop-at.at c.read_character-size.result before.read (rw (rest-of piece c.loop-at.at) at read.text);
    }
