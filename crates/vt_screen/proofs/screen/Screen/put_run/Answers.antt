use Rattle.std.proofs.Common.{ℕ, List, ap, ◌∙◌}
use Rattle.vt_screen.specs.Grid.{put_run}
use Rattle.vt_screen.proofs.Lists.{map-same}
use Rattle.vt_glyph.specs.Encoding.{encoded_glyph}
use Rattle.vt_screen.proofs.screen.Screen.put_run.Goals as goal

pub returns-clause-grid : goal.returns-clause-grid
returns-clause-grid c =
    c.put_codes.ensures.grid
    ∙ ap (λ (glyphs : List ℕ). put_run c.args.self.now c.args.row c.args.column glyphs c.args.like)
    (map-same encoded_glyph c.args.codes.now
    (λ k d h. (c.ascii_codes.ensures _ (c.requires.codes k d h).0 (c.requires.codes k d h).1).1))

pub put_codes-requires-clause-codes : goal.put_codes-requires-clause-codes
put_codes-requires-clause-codes c =
    λ k d h. (c.ascii_codes.ensures _ (c.requires.codes k d h).0 (c.requires.codes k d h).1).0
