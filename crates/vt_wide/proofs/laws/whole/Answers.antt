use Rattle.vt_screen.specs.Sizes.{width_of}
use Rattle.vt_wide.proofs.Wholes.{keeps_erased, filled_whole, erased_whole, erased_span_whole, inserted_whole, deleted_whole, moved_up_whole, moved_down_whole}
use Rattle.vt_wide.proofs.Wholes.{scroll_up_whole, scroll_down_whole, written_whole, written_inserting_whole, written_bytes_whole, joined_whole}
use Rattle.vt_wide.proofs.laws.whole.Goals as goal

pub returns : goal.returns
returns g c =
    let k = g.C.Wide.wide in
    let z = g.C.Cells.cells.blank in
    let h = g.met.C.Wide.halves in
    let nz = g.met.C.Wide.blank_narrow in
    record {
      changes = keeps_erased k g.C.Cells.cells g.met.C.Wide.erased_whole;
      blank = λ s wide cell narrow. filled_whole k z s (width_of s wide) cell nz narrow;
      fill = λ d cell narrow. filled_whole k z d.size d.width cell nz narrow;
      erased = λ change d row from to. erased_whole k z change d row from to h nz;
      erased_span = λ change d row col to_row to_col. erased_span_whole k z change d row col to_row to_col h nz;
      inserted = λ e d row col right n. inserted_whole k z e d row col right n h nz;
      deleted = λ e d row col right n. deleted_whole k z e d row col right n h nz;
      moved_up = λ e d top bottom left right n. moved_up_whole k z e d top bottom left right n h nz;
      moved_down = λ e d top bottom left right n. moved_down_whole k z e d top bottom left right n h nz;
      scroll_up = λ e d top bottom n. scroll_up_whole k z e d top bottom n nz;
      scroll_down = λ e d top bottom n. scroll_down_whole k z e d top bottom n nz;
      written = λ e d row col cell. written_whole k z e d row col cell h nz;
      written_inserting = λ e d row col right cell. written_inserting_whole k z e d row col right cell h nz;
      written_bytes = λ e d row col bytes pen. written_bytes_whole k z e d row col bytes pen h nz;
      joined = λ d row col wrap mark. joined_whole k z d row col wrap mark h nz;
    }
