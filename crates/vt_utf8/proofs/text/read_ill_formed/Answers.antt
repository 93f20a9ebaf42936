use Rattle.bstr.specs.Utf8.{replacement}
use Rattle.vt_utf8.proofs.Texts.{lone-whole, reads-whole}
use Rattle.vt_utf8.proofs.text.read_ill_formed.Goals as goal

pub returns-then-append_codes-clause-text : goal.returns-then-append_codes-clause-text
returns-then-append_codes-clause-text c =
    let piece = c.args.piece.now in
    reads-whole c.args.ascii piece replacement 1 c.args.text.now.items c.append_codes.new.text.items
    (lone-whole piece c.requires.some c.requires.beyond c.if-begins_beyond.ensures.apart) c.if-append_codes.ensures.yes
