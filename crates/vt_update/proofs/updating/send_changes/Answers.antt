use Rattle.std.proofs.Common.{◌≡◌, ◌++◌, List, ℕ, take, length, arith, ap, ◌∙◌}
use Rattle.std.proofs.Common.{rules, drop, subst, vec_len}
use Rattle.vt_paint.specs.Spoken.{Speaks}
use Rattle.vt_paint.specs.Repaint.{paint}
use Rattle.vt_update.proofs.Chunks.{taken_back}
use Rattle.vt_update.proofs.updating.send_changes.Goals as goal

pub returns-clause-leads : goal.returns-clause-leads
returns-clause-leads g c s sound changes =
    let w = c.repaint_changes_reserved.ensures.leads s sound changes in
    let old = c.args.out.now.items in
    let n = c.len-before.result in
    let all : n ≡ length old = omega (arith, c.len-before.ensures) in
    let back =
    taken_back old (paint c.args.to.now) c.truncate.new.self.items n
    (c.truncate.ensures.items ∙ ap (λ xs. take n xs) c.send_repaint.ensures.items) all in
    record {
      sent = w.sent;
      appended = w.appended ∙ ap (λ (xs : List ℕ). xs ++ w.sent) back;
      leads = c.sized_leading.ensures.played c.args.to.now.display.grid.size s c.args.to.now w.sent sound w.played;
    }

pub returns-clause-speaks : goal.returns-clause-speaks
returns-clause-speaks g c s changes =
    let old = c.args.out.now.items in
    let n = c.len-before.result in
    let all : n ≡ length old = omega (arith, c.len-before.ensures) in
    let back =
    taken_back old (paint c.args.to.now) c.truncate.new.self.items n
    (c.truncate.ensures.items ∙ ap (λ xs. take n xs) c.send_repaint.ensures.items) all in
    let len : vec_len c.truncate.new.self ≡ vec_len c.args.out.now = search (rules, ap (λ (xs : List ℕ). length xs) back) in
    subst (λ n. Speaks (drop n c.repaint_changes_reserved.new.out.items)) len
    (c.repaint_changes_reserved.ensures.speaks s changes)
