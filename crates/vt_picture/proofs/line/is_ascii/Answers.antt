use Rattle.vt_picture.proofs.CellWords.{ascii-code}
use Rattle.vt_picture.proofs.line.is_ascii.Goals as goal

pub returns-then-code-ge32 : goal.returns-then-code-ge32
returns-then-code-ge32 c h =
    ascii-code c.args.cell.now.glyph c.code-code.result c.code-code.ensures.value c.code-code.ensures.glyph c.if-code-ge32.true h
