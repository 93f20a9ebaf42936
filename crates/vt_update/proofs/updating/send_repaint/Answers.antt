use Rattle.std.proofs.Common.{◌≡◌, ◌∙◌, ℕ, List, length, drop, vec_len, sym, ap, subst, rules}
use Rattle.std.proofs.Math.Seq.{drop-append_seam}
use Rattle.vt_paint.specs.Spoken.{Speaks}
use Rattle.vt_paint.specs.Repaint.{paint}
use Rattle.vt_update.proofs.updating.send_repaint.Goals as goal

pub returns-clause-leads : goal.returns-clause-leads
returns-clause-leads c s sound = record {
  sent = paint c.args.to.now;
  appended = c.play_back.ensures.items ∙ c.repaint_reserved.ensures.items;
  leads = c.sized_leading.ensures.played c.args.to.now.display.grid.size s c.args.to.now (paint c.args.to.now) sound
      (c.repaint_reserved.ensures.rebuilds s sound);
}

pub returns-clause-speaks : goal.returns-clause-speaks
returns-clause-speaks c =
    let old = c.args.out.now.items in
    let len : length old ≡ vec_len c.args.out.now = search rules in
    let sent : drop (vec_len c.args.out.now) c.play_back.new.out.items ≡ paint c.args.to.now =
    ap (λ n. drop n c.play_back.new.out.items) (sym len)
    ∙ ap (λ (xs : List ℕ). drop (length old) xs) (c.play_back.ensures.items ∙ c.repaint_reserved.ensures.items)
    ∙ drop-append_seam old (paint c.args.to.now) in
    subst Speaks (sym sent) (c.sized_spoken.ensures c.args.to.now.display.grid.size c.args.to.now c.soundness-2.ensures)
