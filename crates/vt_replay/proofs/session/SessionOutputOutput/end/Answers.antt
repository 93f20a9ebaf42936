use Rattle.std.proofs.Common.{rules, ◌≡◌, ◌∙◌, ◌++◌, ◌≤◌, ap, sym, refl, List, ℕ, true, nat_le, arith}
use Rattle.std.proofs.lemmas.Bool.Decides.{nat_tests}
use Rattle.std.proofs.lemmas.Grind.{common_steps}
use Rattle.vt_screen.specs.declared.size.Size.{Size}
use Rattle.vt_xterm.specs.Play.{behind}
use Rattle.vt_xterm_paint.specs.Repaint.{xterm_repaint, xterm_paint_limit}
use Rattle.vt_replay.specs.Resizes.{XtermKept}
use Rattle.vt_replay.specs.Session.{is_between}
use Rattle.vt_replay.proofs.Resizing.{first_size}
use Rattle.vt_replay.proofs.session.SessionOutputOutput.end.Goals as goal

pub repaint-requires-clause-there : goal.repaint-requires-clause-there
repaint-requires-clause-there c =
    sym (ap (λ (k : XtermKept). is_between k.whole k.pending) c.sized.ensures.kept) ∙ c.requires.there

pub repaint-requires-clause-room : goal.repaint-requires-clause-room
repaint-requires-clause-room c =
    let size = c.args.self.now.session.player.player.terminal.display.grid.size in
    let fits : nat_le (xterm_paint_limit size) c.args.self.now.most ≡ true =
    first_size c.args.self.now.session.later.items (λ l. l.after) (λ l. l.target.player.terminal.display.grid.size)
    (λ (s : Size). nat_le (xterm_paint_limit s) c.args.self.now.most) size size refl c.args.self.now.fits in
    let within : xterm_paint_limit size ≤ c.args.self.now.most = grind (arith, nat_tests, fits) in
    grind (arith, common_steps, within)

pub returns : goal.returns
returns c =
    c.repaint.ensures.items
    ∙ ap (λ (l : List ℕ). l ++ xterm_repaint (behind c.args.self.now.session.player.player.terminal c.args.self.now.session.player.player.front)) c.requires.empty
    ∙ sym (ap (λ (k : XtermKept). xterm_repaint k.whole) c.sized.ensures.kept)

pub invariant_of-self : goal.invariant_of-self
invariant_of-self c = search (rules, c.repaint.ensures.player)
