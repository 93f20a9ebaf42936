use Rattle.std.proofs.Common.{◌+◌, sym, ◌∙◌}
use Rattle.vt_xterm.specs.Limits.{lines_limit}
use Rattle.vt_xterm.specs.Play.{whole_of}
use Rattle.vt_utf8.specs.Limits.{lines_limit as utf8_lines_limit}
use Rattle.vt_xterm.proofs.Beyond.{beyond-sizes}
use Rattle.vt_xterm.proofs.OfOneSize.{keep-shown}
use Rattle.vt_xterm.proofs.Fed.{leaves-between}
use Rattle.vt_xterm.proofs.Limits.{before-more, character-fits, more-fits}
use Rattle.vt_xterm.proofs.Logged.{keeps-between}
use Rattle.vt_xterm.proofs.sink.SizedPagesSink.take_beyond.Goals as goal

pub returns-in-Some-clause-takes : goal.returns-in-Some-clause-takes
returns-in-Some-clause-takes g c =
    let s = c.args.terminal.now in
    let pages = c.args.self.now in
    let made = c.character_between in
    record {
      leaves = leaves-between s made.new.terminal pages made.new.pages c.args.c c.in-Some.sides c.args.out.now.items c.requires.beyond
          (rw (← c.width.ensures.width) (sym c.bounds.ensures.bounds ∙ c.in-Some.is)) made.ensures.terminal made.ensures.pages;
      keeps = keeps-between g.L.Log.Keeps g.L.Log.HasRoom g.L.Log.IsFull g.met.L.Log.kept s pages c.args.c c.in-Some.sides
          c.args.log.now c.requires.beyond (rw (← c.width.ensures.width) (sym c.bounds.ensures.bounds ∙ c.in-Some.is));
      sizes = beyond-sizes c.in-Some.sides c.args.c (whole_of s pages) made.new.terminal made.new.pages made.ensures.terminal
          made.ensures.pages;
    }

pub returns-in-Some-clause-left : goal.returns-in-Some-clause-left
returns-in-Some-clause-left g c = λ n room.
    let most = lines_limit c.args.terminal.now.display.grid.size in
    g.met.L.Log.kept.less c.args.log.now n (n + most) (before-more n most) room

pub returns-in-None-clause-takes : goal.returns-in-None-clause-takes
returns-in-None-clause-takes g c =
    let fed = c.feed_unbounded in record {
      leaves = fed.ensures.leaves;
      keeps = fed.ensures.keeps;
      sizes = keep-shown c.args.terminal.now fed.new.terminal c.args.self.now fed.ensures.size;
    }

pub returns-in-None-clause-left : goal.returns-in-None-clause-left
returns-in-None-clause-left g c = λ n room.
    let size = c.args.terminal.now.display.grid.size in
    c.feed_unbounded.ensures.left n (g.met.L.Log.kept.less c.args.log.now (n + utf8_lines_limit size) (n + lines_limit size)
    (more-fits n (utf8_lines_limit size) (lines_limit size) (character-fits size)) room)

pub feed_unbounded-requires-clause-unbounded : goal.feed_unbounded-requires-clause-unbounded
feed_unbounded-requires-clause-unbounded g c = rw (← c.width.ensures.width) (sym c.bounds.ensures.bounds ∙ c.in-None.is)
