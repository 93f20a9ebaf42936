use Rattle.std.proofs.Common.{take, sym, ◌∙◌}
use Rattle.vt_term.proofs.OneSize.{feeds-one, feeds-size}
use Rattle.vt_xterm.specs.Private.Profiles.{screens_on, unbounded, unbounded_prints, AreOfOneSize}
use Rattle.vt_xterm.proofs.Fed.{feeds-profile}
use Rattle.vt_xterm.proofs.OfOneSize.{sound-one}
use Rattle.vt_xterm.proofs.playing.feed_written.Goals as goal

pub feed_as-requires-clause-one_size : goal.feed_as-requires-clause-one_size
feed_as-requires-clause-one_size c =
    sound-one c.args.terminal.now c.args.pages.now c.soundness.ensures c.soundness-2.ensures c.requires.one_size

pub returns-clause-fed : goal.returns-clause-fed
returns-clause-fed c =
    feeds-profile c.one_split.ensures c.args.terminal.now c.feed_as.new.self c.args.pages.now c.feed_as.new.profile
    (take c.feed_as.result c.args.piece.now) c.args.out.now.items c.feed_as.new.out.items c.soundness.ensures.held
    c.requires.none c.feed_as.ensures.saw c.feed_as.ensures.fed

pub returns-clause-sizes : goal.returns-clause-sizes
returns-clause-sizes c =
    let one = sound-one c.args.terminal.now c.args.pages.now c.soundness.ensures c.soundness-2.ensures c.requires.one_size in
    let shown = feeds-size unbounded screens_on AreOfOneSize c.keeps_size.ensures unbounded_prints _ _ _ _ _ _ _ c.feed_as.ensures.fed one in
    record {
      shown = shown;
      other = (feeds-one unbounded screens_on AreOfOneSize c.keeps_size.ensures _ _ _ _ _ _ _ c.feed_as.ensures.fed one).1.of_size
          ∙ shown ∙ sym c.requires.one_size;
    }
