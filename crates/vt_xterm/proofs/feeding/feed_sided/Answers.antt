-- The log is full, so no bytes are played.
use Rattle.std.proofs.Common.{ap, []}
use Rattle.vt_utf8.proofs.Logged.{keeps-nothing}
use Rattle.vt_xterm.specs.Play.{WholePlayed, play_bytes, whole_of}
use Rattle.vt_xterm.proofs.Cuts.{bytes-nothing}
use Rattle.vt_xterm.proofs.Fed.{feeds-nothing}
use Rattle.vt_xterm.proofs.feeding.feed_sided.Goals as goal

pub returns-then-is_full-clause-fed : goal.returns-then-is_full-clause-fed
returns-then-is_full-clause-fed g c =
    feeds-nothing c.one_split.ensures (whole_of c.args.terminal.now c.args.pages.now) c.args.out.now.items
    c.soundness.ensures.held

pub returns-then-is_full-clause-keeps : goal.returns-then-is_full-clause-keeps
returns-then-is_full-clause-keeps g c =
    let w = whole_of c.args.terminal.now c.args.pages.now in
    keeps-nothing g.L.Log.Keeps g.L.Log.HasRoom g.L.Log.IsFull g.met.L.Log.kept c.args.log.now (play_bytes w []).lines
    (ap (λ (x : WholePlayed). x.lines) (bytes-nothing c.one_split.ensures w c.soundness.ensures.held))
