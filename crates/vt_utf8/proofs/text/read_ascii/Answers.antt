use Rattle.std.proofs.Common.{Bool, ◌≤◌, arith, take, subst, sym}
use Rattle.vt_syntax.specs.Class.{IsPlain}
use Rattle.vt_utf8.specs.Text.{ReadsText}
use Rattle.vt_utf8.proofs.CutOff.{shorter}
use Rattle.vt_utf8.proofs.Texts.{reads-run}
use Rattle.vt_utf8.proofs.text.read_ascii.Goals as goal

pub returns-in-Ok-clause-text : goal.returns-in-Ok-clause-text
returns-in-Ok-clause-text c =
    let run = take c.min-run.result c.args.piece.now in
    let fewer : c.min-run.result ≤ c.plain_run.result = omega (arith, c.min-run.ensures) in
    subst (λ (a : Bool). ReadsText a run c.args.text.now.items c.try_extend_from_slice.new.self.items) (sym c.if-not-ascii.false)
    (reads-run c.ascii_codes.ensures run c.args.text.now.items c.try_extend_from_slice.new.self.items
    (shorter IsPlain c.min-run.result c.plain_run.result c.args.piece.now fewer c.plain_run.ensures.plain) c.in-Ok.ensures.ok)
