use Rattle.vt_picture.proofs.CellWords.{plain-look, plain-character}
use Rattle.vt_picture.proofs.line.Run.is_plain.Goals as goal

pub returns-clause-same : goal.returns-clause-same
returns-clause-same c h =
    let run = c.args.self.now in
    let word = c.word.ensures in
    plain-look run.look c.args.cell.now c.word.result run.low word.word word.bound run.lowest h

pub returns-clause-ascii : goal.returns-clause-ascii
returns-clause-ascii c h =
    let run = c.args.self.now in
    let word = c.word.ensures in
    plain-character run.look c.args.cell.now c.word.result run.low word.word word.bound run.lowest h word.glyph
