use Rattle.vt_xterm_paint.proofs.laws.from_power_up.Goals as goal

pub returns : goal.returns
returns c = record {
  rebuilds = λ w u part i between j.
      c.rebuilds.ensures w ((c.reached.ensures w between).1 i) between u part ((c.reached-2.ensures u.state).1 j);
  identifies = λ w v i j h k.
      c.canonical.ensures w v ((c.reached.ensures w h).1 i) ((c.reached.ensures v k).1 j) h k;
}
