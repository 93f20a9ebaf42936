use Rattle.vt_render.proofs.RowLimits.{appended, then_kept}
use Rattle.vt_render.proofs.runs.push_text_look.Goals as goal

pub returns-clause-kept : goal.returns-clause-kept
returns-clause-kept c =
    (then_kept _ _ _ (then_kept _ _ _ (then_kept _ _ _ (then_kept _ _ _ (then_kept _ _ _ (then_kept _ _ _ (then_kept _ _ _ (then_kept _ _ _ (then_kept _ _ _ (then_kept _ _ _ (appended _ _ _ c.push_bytes.ensures.items)
    (appended _ _ _ c.push_when.ensures.items))
    (appended _ _ _ c.push_when-2.ensures.items))
    (appended _ _ _ c.push_when-3.ensures.items))
    (appended _ _ _ c.push_when-4.ensures.items))
    (appended _ _ _ c.push_when-5.ensures.items))
    (appended _ _ _ c.push_when-6.ensures.items))
    (appended _ _ _ c.push_when-7.ensures.items))
    c.push_class.ensures.kept)
    (appended _ _ _ c.push_bytes-2.ensures.items))
    c.push_fill.ensures.kept)
