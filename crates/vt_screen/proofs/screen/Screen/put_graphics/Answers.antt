use Rattle.std.proofs.lemmas.List.Elements.{All-map}
use Rattle.vt_glyph.specs.Tables.{IsGlyph}
use Rattle.std.proofs.Common.{◌≡◌, arith, ◌≡◌, ◌+◌, ◌-◌, ℕ, List, map, length, ap, sym, ◌∙◌, subst}
use Rattle.std.proofs.lemmas.List.{length-map, get_or-map}
use Rattle.vt_glyph.specs.Invocation.{glyph_in_use}
use Rattle.vt_screen.specs.Cells.{cell_like}
use Rattle.vt_screen.specs.Sizes.{room}
use Rattle.vt_screen.specs.Grid.{Grid, put_run, IsSoundGrid}
use Rattle.vt_screen.proofs.Places.{width-bounds}
use Rattle.vt_screen.proofs.Maps.{edited, put_run-row}
use Rattle.vt_screen.proofs.SoundGrids.{put_run-sound, as_many}
use Rattle.vt_screen.proofs.screen.Screen.put_graphics.Goals as goal

pub returns-clause-grid : goal.returns-clause-grid
returns-clause-grid c =
    let rows : c.self.inside.order.size.rows ≡ c.args.self.now.size.rows = ap (λ (g : Grid). g.size.rows) c.self.view_is in
    let width : c.self.inside.width ≡ c.args.self.now.width = ap (λ (g : Grid). g.width) c.self.view_is in
    let narrow = width-bounds c.self.inside.order.size c.self.inside.width c.self.invariant.1.shape.size
    c.self.invariant.1.shape.width in
    let bound = c.start.ensures.bound in
    let same = c.deref_mut.ensures.value in
    let long : length c.deref_mut.result.now ≡ room c.self.inside.order.size = ap length same ∙ c.self.invariant.0 in
    let at = c.start.result + c.args.column - 1 in
    let k = c.start.result + c.args.column - 1 + length c.args.bytes.now - (c.start.result + c.args.column - 1) in
    let glyphs : List ℕ = map (glyph_in_use c.args.table.now) c.args.bytes.now in
    let count : length glyphs ≡ length c.args.bytes.now = length-map c.args.bytes.now (glyph_in_use c.args.table.now) in
    rw (← c.self.view_is) (edited _ c.self.inside.cells c.self.inside.order c.self.inside.width c.deref_mut.result.now at
    k c.write_graphics.new.cells (λ g. put_run g c.args.row c.args.column glyphs c.args.like) same
    c.write_graphics.auto.cells
    (put_run-row c.self.inside.order c.deref_mut.result.now c.write_graphics.new.cells c.self.inside.width c.args.row
    c.args.column at k glyphs c.args.like c.start.ensures.order long (omega arith) (omega arith) (omega arith)
    (omega arith) (omega arith) (omega (arith, count)) (omega (arith, count)) c.write_graphics.auto.cells
    (λ i below. c.write_graphics.ensures i (omega (arith, count))
    ∙ ap (cell_like c.args.like) (sym (get_or-map (glyph_in_use c.args.table.now) c.args.bytes.now i 0 0
    (omega (arith, count)))))))

pub returns-clause-sound : goal.returns-clause-sound
returns-clause-sound c = subst IsSoundGrid (sym (returns-clause-grid c))
    (put_run-sound c.args.self.now c.args.row c.args.column (map (glyph_in_use c.args.table.now) c.args.bytes.now)
    c.args.like
    (subst IsSoundGrid c.self.view_is c.self.invariant.1)
    (All-map IsGlyph (glyph_in_use c.args.table.now) c.args.bytes.now
    (λ k d h. c.glyphs.ensures.in_use _ _ (c.requires.bytes k d h))))

pub invariant_of-self : goal.invariant_of-self
invariant_of-self c =
    (as_many _ c.self.inside.cells _ c.self.inside.cells.ok.0 c.self.invariant.0, returns-clause-sound c)
