use Rattle.std.proofs.Common.{arith, ◌≡◌, ◌+◌, ◌-◌, ◌==◌, Bool, min, ap, ◌∙◌}
use Rattle.vt_screen.specs.declared.size.Size.{Size}
use Rattle.vt_screen.specs.Sizes.{width_of}
use Rattle.vt_screen.proofs.OtherSize.{copied-none, copied-more, copied-all}
use Rattle.vt_screen.proofs.screen.Screen.copy_on.Goals as goal
use Rattle.vt_screen.specs.Grid.{GridOf, row_from_any, blank_any}

pub loop-row-init : goal.loop-row-init
loop-row-init g c =
    let its : c.size-from.result ≡ c.args.other.now.size =
    c.size-from.ensures.size ∙ ap (λ (d : GridOf g.row.C.Denot). d.size) c.other.view_is in
    let wide : (c.other.inside.width == c.size-from.result.wide) ≡ (c.args.other.now.width == c.args.other.now.size.wide) =
    ap (λ w. w == c.size-from.result.wide) (ap (λ (d : GridOf g.row.C.Denot). d.width) c.other.view_is)
    ∙ ap (λ (s : Size). c.args.other.now.width == s.wide) its in
    record {
      copied = c.set_width.ensures.grid
          ∙ ap (λ (b : Bool). blank_any g.C.Cells.cells.blank c.args.self.now.size b) wide
          ∙ copied-none g.C.Cells.cells.blank c.args.self.now.size (c.args.other.now.width == c.args.other.now.size.wide) c.args.off c.args.other.now;
      sound = c.set_width.ensures.sound;
    }

pub copy_row-requires-clause-row : goal.copy_row-requires-clause-row
copy_row-requires-clause-row g c =
    let now : c.loop-row.self.size.rows ≡ c.args.self.now.size.rows = ap (λ (d : GridOf g.row.C.Denot). d.size.rows) c.loop-row.invariant.copied in
    let then : c.size.result.rows ≡ c.args.self.now.size.rows =
    ap (λ (s : Size). s.rows) c.size.ensures.size ∙ ap (λ (d : GridOf g.row.C.Denot). d.size.rows) c.self.view_is
    ∙ ap (λ (d : GridOf g.row.C.Denot). d.size.rows) c.set_width.ensures.grid in
    (omega arith, omega (arith, c.loop-row-test.true, c.min-end.ensures, now, then))

pub loop-row-preserved : goal.loop-row-preserved
loop-row-preserved g c =
    let then : c.size.result.rows ≡ c.args.self.now.size.rows =
    ap (λ (s : Size). s.rows) c.size.ensures.size ∙ ap (λ (d : GridOf g.row.C.Denot). d.size.rows) c.self.view_is
    ∙ ap (λ (d : GridOf g.row.C.Denot). d.size.rows) c.set_width.ensures.grid in
    record {
      copied = c.copy_row.ensures.grid
          ∙ ap (λ d. row_from_any g.C.Cells.cells.blank d c.loop-row.row c.args.other.now (c.loop-row.row + c.args.off)) c.loop-row.invariant.copied
          ∙ copied-more g.C.Cells.cells.blank c.args.self.now.size
          (width_of c.args.self.now.size (c.args.other.now.width == c.args.other.now.size.wide)) c.args.off c.args.other.now
          c.loop-row.row c.loop-row.auto.row (omega (arith, c.loop-row-test.true, c.min-end.ensures, then));
      sound = c.copy_row.ensures.sound;
    }

pub returns-clause-grid : goal.returns-clause-grid
returns-clause-grid g c =
    let then : c.size.result.rows ≡ c.args.self.now.size.rows =
    ap (λ (s : Size). s.rows) c.size.ensures.size ∙ ap (λ (d : GridOf g.row.C.Denot). d.size.rows) c.self.view_is
    ∙ ap (λ (d : GridOf g.row.C.Denot). d.size.rows) c.set_width.ensures.grid in
    let its : c.size-from.result.rows ≡ c.args.other.now.size.rows =
    ap (λ (s : Size). s.rows) c.size-from.ensures.size ∙ ap (λ (d : GridOf g.row.C.Denot). d.size.rows) c.other.view_is in
    let end : c.loop-row.row ≡ min c.args.self.now.size.rows (c.args.other.now.size.rows - c.args.off) + 1 =
    omega (arith, c.loop-row-test.false, c.loop-row.auto, c.min-end.ensures, then, its) in
    c.loop-row.invariant.copied
    ∙ copied-all g.C.Cells.cells.blank c.args.self.now.size c.args.off c.args.other.now c.loop-row.row end c.requires

pub returns-clause-sound : goal.returns-clause-sound
returns-clause-sound g c = c.loop-row.invariant.sound
