use Rattle.std.proofs.Common.{◌≡◌, ◌∙◌, ℕ, List, length, drop, vec_len, sym, ap, subst, rules}
use Rattle.vt_syntax.specs.Spelling.{spell_events}
use Rattle.vt_paint.specs.Private.ChangeEvents.{change_events}
use Rattle.vt_paint.specs.Spoken.{Speaks}
use Rattle.vt_paint.proofs.changes.repaint_changes_reserved.Goals as goal

pub returns-clause-leads : goal.returns-clause-leads
returns-clause-leads g c s sound changes = record {
  sent = spell_events (change_events c.args.marks.now c.args.t.now.display);
  appended = c.push_changes.ensures.items;
  played = c.changes_lead.ensures.played c.args.t.now.display.grid.size c.args.marks.now s c.args.t.now sound
      c.push_changes.ensures.sound c.requires.between changes;
}

pub returns-clause-speaks : goal.returns-clause-speaks
returns-clause-speaks g c s changes =
    let before = c.args.out.now.items in
    let len : length before ≡ vec_len c.args.out.now = search rules in
    subst Speaks
    (ap (λ (items : List ℕ). drop (length before) items) (sym c.push_changes.ensures.items)
    ∙ ap (λ n. drop n c.push_changes.new.out.items) len)
    (c.changes_lead.ensures.speaks c.args.t.now.display.grid.size c.args.marks.now s c.args.t.now before
    c.push_changes.ensures.sound changes)
