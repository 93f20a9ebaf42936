use Rattle.std.proofs.Common.{refl}
use Rattle.vt_screen.proofs.Places.{cell_at-grid_of, grid_of-same, grid_of-cell_at, length-cells_of, IsGrid-grid_of}
use Rattle.vt_screen.proofs.Composed.{grids-same}
use Rattle.vt_screen.specs.Sizes.{width_of}
use Rattle.vt_screen.proofs.laws.places.Goals as goal

pub returns : goal.returns
returns c = record {
  at_place = cell_at-grid_of _;
  same_formulas = λ s w f g. grid_of-same s w f g;
  own_cells = λ g is_grid. grid_of-cell_at _ g is_grid.cells;
  same_grids = grids-same;
  len = λ s w f. length-cells_of s w f;
  blank = λ s wide sized. IsGrid-grid_of s (width_of s wide) _ sized (wide, refl);
  map = λ g f is_grid. IsGrid-grid_of g.size g.width f is_grid.size is_grid.width;
}
