use Rattle.std.proofs.Common.{arith}
use Rattle.vt_render.proofs.RowLimits.{appended, then_kept}
use Rattle.vt_render.proofs.runs.push_text.Goals as goal

pub loop-cell-init : goal.loop-cell-init
loop-cell-init c =
    record {
      kept =
          (then_kept _ _ _ (then_kept _ _ _ (then_kept _ _ _ (then_kept _ _ _ (then_kept _ _ _ (then_kept _ _ _ (then_kept _ _ _ (then_kept _ _ _ (appended _ _ _ c.push_bytes.ensures.items)
          c.push_text_look.ensures.kept)
          (appended _ _ _ c.push_bytes-2.ensures.items))
          (appended _ _ _ c.push_number.ensures.items))
          (appended _ _ _ c.push_bytes-3.ensures.items))
          (appended _ _ _ c.push_number-2.ensures.items))
          (appended _ _ _ c.push_bytes-4.ensures.items))
          (appended _ _ _ c.push_number-3.ensures.items))
          (appended _ _ _ c.push_bytes-5.ensures.items));
      bounded = omega (arith, c.push_bytes.ensures.bounded, c.push_text_look.ensures.bounded, c.push_bytes-2.ensures.bounded, c.push_number.ensures.bounded, c.push_bytes-3.ensures.bounded, c.push_number-2.ensures.bounded, c.push_bytes-4.ensures.bounded, c.push_number-3.ensures.bounded, c.push_bytes-5.ensures.bounded);
      capacity = omega (arith, c.push_bytes.ensures.capacity, c.push_text_look.ensures.capacity, c.push_bytes-2.ensures.capacity, c.push_number.ensures.capacity, c.push_bytes-3.ensures.capacity, c.push_number-2.ensures.capacity, c.push_bytes-4.ensures.capacity, c.push_number-3.ensures.capacity, c.push_bytes-5.ensures.capacity);
    }
