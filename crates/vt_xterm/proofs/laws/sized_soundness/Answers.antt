use Rattle.vt_xterm.proofs.SoundScreens.{event-keeps}
use Rattle.vt_xterm.proofs.Landing.{event-fit}
use Rattle.vt_xterm.proofs.SoundWholes.{power_up-sound, xterm-sound}
use Rattle.vt_xterm.proofs.laws.sized_soundness.Goals as goal

pub returns : goal.returns
returns c =
    let glyphs = c.glyphs.ensures in
    let sets = c.soundness.ensures in
    let rows = c.rows.ensures in
    let tests = c.tests.ensures in
    record {
      power_up = λ size is. power_up-sound size (c.sized_soundness.ensures.power_up size is);
      event = λ size event s display other. event-keeps glyphs sets rows tests event size s (display, other);
      sides = λ size event s display other fit. event-fit glyphs sets rows tests event size s (display, other) fit;
      play = xterm-sound glyphs sets rows tests c.one_split.ensures c.spelled.ensures c.spelling.ensures
          c.sized_soundness.ensures.play c.sized_cuts.ensures.none c.glyphs-2.ensures.shown;
    }
