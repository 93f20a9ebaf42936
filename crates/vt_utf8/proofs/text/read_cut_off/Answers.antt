use Rattle.std.proofs.Common.{Bool, ◌≤◌, arith, length, take, subst, sym}
use Rattle.vt_utf8.specs.Text.{ReadsText}
use Rattle.vt_utf8.proofs.Texts.{reads-cut}
use Rattle.vt_utf8.proofs.text.read_cut_off.Goals as goal

pub returns-then-append_codes-clause-text : goal.returns-then-append_codes-clause-text
returns-then-append_codes-clause-text c =
    let piece = c.args.piece.now in
    let two : 2 ≤ length piece = omega (arith, c.if-piece-lt2.false) in
    subst (λ (a : Bool). ReadsText a (take 2 piece) c.args.text.now.items c.push.new.self.items) (sym c.if-not-ascii.false)
    (reads-cut c.ascii_codes.ensures piece c.args.text.now.items c.append_codes.new.text.items c.push.new.self.items two
    c.requires.first.0 c.requires.first.1 c.if-b-ge32.true c.if-b-le126.true c.if-append_codes.ensures.yes c.push.ensures.items)
