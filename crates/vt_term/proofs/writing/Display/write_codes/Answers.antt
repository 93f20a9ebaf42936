use Rattle.std.proofs.Common.{◌≡◌, ℕ, map, length, ◌∙◌, sym, arith}
use Rattle.std.proofs.lemmas.List.{length-map}
use Rattle.vt_glyph.specs.Encoding.{encoded_glyph}
use Rattle.vt_term.proofs.Runs.{writes-run}
use Rattle.vt_term.proofs.writing.Display.write_codes.Goals as goal

pub returns-then-takes : goal.returns-then-takes
returns-then-takes c =
    let fits = c.if-takes.ensures in
    let count : length (map encoded_glyph c.args.codes.now) ≡ length c.args.codes.now =
    length-map c.args.codes.now encoded_glyph in
    c.put_codes.ensures
    ∙ sym (writes-run c.runs.ensures (map encoded_glyph c.args.codes.now) c.args.self.now fits.1.0 fits.1.1.0
    (omega (arith, count, fits.0)) (omega (arith, count, fits.1.1.1)))
