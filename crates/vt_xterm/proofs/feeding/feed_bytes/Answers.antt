use Rattle.std.proofs.Common.{◌≡◌, ◌+◌, [], arith, ap, length-drop, subst}
use Rattle.vt_term.proofs.Bytes.{rest-of}
use Rattle.vt_screen.specs.declared.size.Size.{Size}
use Rattle.vt_xterm.specs.Limits.{xterm_lines_limit}
use Rattle.vt_xterm.specs.Play.{WholePlayed, play_bytes, whole_of}
use Rattle.vt_xterm.proofs.Cuts.{bytes-nothing}
use Rattle.vt_xterm.proofs.Fed.{feeds-nothing, feeds-more}
use Rattle.vt_utf8.proofs.Logged.{keeps-nothing}
use Rattle.vt_xterm.proofs.Logged.{keeps-bytes}
use Rattle.vt_xterm.proofs.Limits.{limit-stays}
use Rattle.vt_xterm.proofs.OfOneSize.{keep-nothing, keep-both, still-one}
use Rattle.vt_xterm.proofs.feeding.feed_bytes.Goals as goal

pub feed_some-count-requires-clause-one_size : goal.feed_some-count-requires-clause-one_size
feed_some-count-requires-clause-one_size g c =
    still-one c.args.terminal.now c.loop-at.terminal c.args.pages.now c.loop-at.pages c.loop-at.invariant.sizes
    c.requires.one_size

pub feed_some-count-requires-clause-limit : goal.feed_some-count-requires-clause-limit
feed_some-count-requires-clause-limit g c =
    limit-stays c.args.terminal.now.display.grid.size c.loop-at.terminal.display.grid.size c.args.limit
    c.loop-at.invariant.sizes.shown c.requires.limit

pub loop-at-init : goal.loop-at-init
loop-at-init g c =
    let w = whole_of c.args.terminal.now c.args.pages.now in record {
      within = omega arith;
      fed = feeds-nothing c.one_split.ensures w c.args.out.now.items c.soundness.ensures.held;
      sizes = keep-nothing c.args.terminal.now c.args.pages.now;
      keeps = keeps-nothing g.L.Log.Keeps g.L.Log.HasRoom g.L.Log.IsFull g.met.L.Log.kept c.args.log.now (play_bytes w []).lines
          (ap (λ (x : WholePlayed). x.lines) (bytes-nothing c.one_split.ensures w c.soundness.ensures.held));
      bounded = omega arith;
      capacity = omega arith;
    }

pub loop-at-preserved : goal.loop-at-preserved
loop-at-preserved g c =
    let rest = rest-of c.args.piece.now c.loop-at.at in
    let next = c.feed_some-count in
    let w = whole_of c.args.terminal.now c.args.pages.now in
    let v = whole_of c.loop-at.terminal c.loop-at.pages in
    let inside = simp length-drop at (rw rest at next.ensures.within) in record {
      within = omega (arith, inside);
      fed = feeds-more c.one_split.ensures w v (whole_of next.new.terminal next.new.pages) c.args.piece.now c.loop-at.at
          next.result c.args.out.now.items c.loop-at.out.items next.new.out.items c.loop-at.invariant.fed
          (rw rest at next.ensures.fed);
      sizes = keep-both c.args.terminal.now c.loop-at.terminal next.new.terminal c.args.pages.now c.loop-at.pages
          next.new.pages c.loop-at.invariant.sizes next.ensures.sizes;
      keeps = keeps-bytes g.L.Log.Keeps g.L.Log.HasRoom g.L.Log.IsFull g.met.L.Log.kept c.one_split.ensures w v c.args.piece.now c.loop-at.at
          next.result c.args.log.now c.loop-at.log next.new.log c.loop-at.invariant.fed.whole c.loop-at.invariant.keeps
          (rw rest at next.ensures.keeps);
      bounded = omega arith;
      capacity = omega arith;
    }

-- the log is full, so the last call played no bytes
pub returns-then-count-eq0-clause-fed : goal.returns-then-count-eq0-clause-fed
returns-then-count-eq0-clause-fed g c =
    let next = c.feed_some-count in
    let w = whole_of c.args.terminal.now c.args.pages.now in
    let v = whole_of c.loop-at.terminal c.loop-at.pages in
    let none : c.loop-at.at + next.result ≡ c.loop-at.at = omega (arith, c.if-count-eq0.true) in
    rw none at (feeds-more c.one_split.ensures w v (whole_of next.new.terminal next.new.pages) c.args.piece.now c.loop-at.at
    next.result c.args.out.now.items c.loop-at.out.items next.new.out.items c.loop-at.invariant.fed
    (rw (rest-of c.args.piece.now c.loop-at.at) at next.ensures.fed))

pub returns-then-count-eq0-clause-keeps : goal.returns-then-count-eq0-clause-keeps
returns-then-count-eq0-clause-keeps g c =
    let next = c.feed_some-count in
    let w = whole_of c.args.terminal.now c.args.pages.now in
    let v = whole_of c.loop-at.terminal c.loop-at.pages in
    let none : c.loop-at.at + next.result ≡ c.loop-at.at = omega (arith, c.if-count-eq0.true) in
    rw none at (keeps-bytes g.L.Log.Keeps g.L.Log.HasRoom g.L.Log.IsFull g.met.L.Log.kept c.one_split.ensures w v c.args.piece.now c.loop-at.at
    next.result c.args.log.now c.loop-at.log next.new.log c.loop-at.invariant.fed.whole c.loop-at.invariant.keeps
    (rw (rest-of c.args.piece.now c.loop-at.at) at next.ensures.keeps))

pub returns-then-count-eq0-clause-sizes : goal.returns-then-count-eq0-clause-sizes
returns-then-count-eq0-clause-sizes g c =
    keep-both c.args.terminal.now c.loop-at.terminal c.feed_some-count.new.terminal c.args.pages.now c.loop-at.pages
    c.feed_some-count.new.pages c.loop-at.invariant.sizes c.feed_some-count.ensures.sizes

pub returns-then-count-eq0-clause-all : goal.returns-then-count-eq0-clause-all
returns-then-count-eq0-clause-all g c = λ less.
    subst (λ (z : Size). g.L.Log.IsFull c.feed_some-count.new.log (xterm_lines_limit z)) c.loop-at.invariant.sizes.shown
    (c.feed_some-count.ensures.none (omega (arith, c.if-count-eq0.true)))
