use Rattle.vt_render.proofs.RowLimits.{appended, then_kept}
use Rattle.vt_render.proofs.document.push_start.Goals as goal

pub returns-clause-kept : goal.returns-clause-kept
returns-clause-kept g c =
    (then_kept _ _ _ (then_kept _ _ _ (then_kept _ _ _ (then_kept _ _ _ (then_kept _ _ _ (then_kept _ _ _ (then_kept _ _ _ (then_kept _ _ _ (then_kept _ _ _ (then_kept _ _ _ (appended _ _ _ c.push_bytes.ensures.items)
    (appended _ _ _ c.push_number.ensures.items))
    (appended _ _ _ c.push_bytes-2.ensures.items))
    (appended _ _ _ c.push_number-2.ensures.items))
    (appended _ _ _ c.push_bytes-3.ensures.items))
    (appended _ _ _ c.push_number-3.ensures.items))
    (appended _ _ _ c.push_bytes-4.ensures.items))
    (appended _ _ _ c.push_number-4.ensures.items))
    (appended _ _ _ c.push_bytes-5.ensures.items))
    (appended _ _ _ c.push_bytes-6.ensures.items))
    (appended _ _ _ c.push_bytes-7.ensures.items))
