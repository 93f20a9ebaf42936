use Rattle.std.proofs.Common.{◌∙◌, sym}
use Rattle.vt_xterm.proofs.Colours.{without-colours}
use Rattle.vt_xterm.proofs.attributes.select_attributes.Goals as goal

pub returns-then-not-has_colour : goal.returns-then-not-has_colour
returns-then-not-has_colour c =
    let none = without-colours c.args.params.now (sym c.has_colour.ensures ∙ c.if-not-has_colour.true) in
    rw none c.select_graphic_rendition.ensures
