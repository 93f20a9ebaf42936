use Rattle.std.proofs.Common.{arith, length-drop}
use Rattle.vt_term.proofs.Bytes.{rest-of}
use Rattle.vt_xterm.specs.Play.{whole_of}
use Rattle.vt_xterm.proofs.Fed.{feeds-nothing, feeds-more}
use Rattle.vt_xterm.proofs.OfOneSize.{keep-nothing, keep-both, still-one}
use Rattle.vt_xterm.proofs.playing.feed_pages.Goals as goal

pub feed_block-at-requires-clause-one_size : goal.feed_block-at-requires-clause-one_size
feed_block-at-requires-clause-one_size c =
    still-one c.args.terminal.now c.loop-at.terminal c.args.pages.now c.loop-at.pages c.loop-at.invariant.sizes
    c.requires.one_size

pub loop-at-init : goal.loop-at-init
loop-at-init c = record {
  within = omega arith;
  fed = feeds-nothing c.one_split.ensures (whole_of c.args.terminal.now c.args.pages.now) c.args.out.now.items
      c.soundness.ensures.held;
  sizes = keep-nothing c.args.terminal.now c.args.pages.now;
  bounded = omega arith;
  capacity = omega arith;
}

pub loop-at-preserved : goal.loop-at-preserved
loop-at-preserved c =
    let rest = rest-of c.args.piece.now c.loop-at.at in
    let next = c.feed_block-at in
    let inside = simp length-drop at (rw rest at next.ensures.within) in record {
      within = omega (arith, inside);
      fed = feeds-more c.one_split.ensures (whole_of c.args.terminal.now c.args.pages.now)
          (whole_of c.loop-at.terminal c.loop-at.pages) (whole_of next.new.terminal next.new.pages) c.args.piece.now c.loop-at.at
          next.result c.args.out.now.items c.loop-at.out.items next.new.out.items c.loop-at.invariant.fed
          (rw rest at next.ensures.fed);
      sizes = keep-both c.args.terminal.now c.loop-at.terminal next.new.terminal c.args.pages.now c.loop-at.pages
          next.new.pages c.loop-at.invariant.sizes next.ensures.sizes;
      bounded = omega arith;
      capacity = omega arith;
    }
