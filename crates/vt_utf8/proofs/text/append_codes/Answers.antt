use Rattle.std.proofs.Common.{◌∙◌, arith}
use Rattle.vt_utf8.proofs.Texts.{writes-narrow, writes-two}
use Rattle.vt_utf8.proofs.text.append_codes.Goals as goal

pub returns-then-found-eq2-clause-yes : goal.returns-then-found-eq2-clause-yes
returns-then-found-eq2-clause-yes c =
    let found = c.in-Some.ensures in
    writes-two c.ascii_codes.ensures c.args.c c.in-Some.found.code c.args.text.now.items c.push.new.self.items
    c.push-then-found-eq2.new.self.items c.requires.beyond (found.cells ∙ c.if-found-eq2.true) found.glyph found.code
    c.push.ensures.items c.push-then-found-eq2.ensures.items

pub returns-else-found-eq2-clause-yes : goal.returns-else-found-eq2-clause-yes
returns-else-found-eq2-clause-yes c =
    let found = c.in-Some.ensures in
    writes-narrow c.args.c c.in-Some.found.code c.args.text.now.items c.push.new.self.items c.requires.beyond
    (found.cells ∙ omega (arith, found.some, found.few, c.if-found-eq2.false)) found.glyph found.code c.push.ensures.items
