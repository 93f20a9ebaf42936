-- The parts of a repaint that its loops append one after another. Contracts of private functions and proofs cite this, and
-- no public clause does.
use Rattle.std.specs.Prelude.{ℕ, List, Bool}
use Rattle.std.specs.List.{range_with_len, flat_map}
use Rattle.vt_syntax.specs.declared.event.Event.{Event}
use Rattle.vt_screen.specs.Grid.{Grid}
use Rattle.vt_paint.specs.Items.{stop_events}
use Rattle.vt_paint.specs.Pieces.{piece}

-- the stops of n columns starting at c
abbrev pub stops_from : List Bool → ℕ → ℕ → List Event
stops_from stops c n = flat_map (λ c. stop_events stops c) (range_with_len c n)

-- the pieces of n cells of a row, starting at a column
abbrev pub pieces_from : Grid → ℕ → ℕ → ℕ → List Event
pieces_from g r c n = flat_map (λ c. piece g r c) (range_with_len c n)

abbrev pub row_pieces : Grid → ℕ → List Event
row_pieces g r = pieces_from g r 1 g.width

-- the pieces of n rows
abbrev pub rows_from : Grid → ℕ → ℕ → List Event
rows_from g r n = flat_map (λ r. row_pieces g r) (range_with_len r n)
