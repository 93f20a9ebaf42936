use Rattle.std.proofs.Common.{◌≡◌, ◌++◌, ◌∙◌, ℕ, List, length, sym, ap, subst, refl, rules, arith}
use Rattle.vt_feed.specs.Languages.{Reading}
use Rattle.vt_feed.specs.Spelled.{IsReading}
use Rattle.vt_xterm_display.specs.Session.{Session}
use Rattle.vt_xterm_repaint.specs.Repaint.{repaint}
use Rattle.vt_xterm_update.specs.Updates.{Updates}
use Rattle.vt_xterm_update.proofs.Turns.{updates-none, nothing-sent, taken-back, rebuilt}
use Rattle.vt_xterm_update.proofs.updating.update_reserved.Goals as goal

pub returns-then-same-clause-leads : goal.returns-then-same-clause-leads
returns-then-same-clause-leads c =
    let same : c.args.shown.now ≡ c.args.to.now = c.same-2.ensures.0 (search (rules, c.if-same.true)) in
    subst (λ (u : Session). Updates c.args.shown.now u c.args.out.now.items c.args.out.now.items) same
    (updates-none c.args.shown.now c.args.out.now.items)

pub returns-then-same-clause-nothing : goal.returns-then-same-clause-nothing
returns-then-same-clause-nothing c =
    let same : c.args.shown.now ≡ c.args.to.now = c.same-2.ensures.0 (search (rules, c.if-same.true)) in
    (λ _. same, λ _. refl)

pub returns-then-send_choice-clause-nothing : goal.returns-then-send_choice-clause-nothing
returns-then-send_choice-clause-nothing c =
    nothing-sent c.args.shown.now c.args.to.now _ _ (search (rules, c.send_choice.ensures.leads, c.if-send_choice.true))
    (λ e. search (rules, c.same-2.ensures.1 e, c.if-same.false))

pub copy_from-requires : goal.copy_from-requires
copy_from-requires c =
    let same = c.same.ensures.0 (search (rules, c.if-not-same.false)) in
    c.send_choice.ensures.size ∙ sym c.size.ensures.size ∙ same ∙ c.size-2.ensures.size

pub returns-clause-leads : goal.returns-clause-leads
returns-clause-leads c =
    let same = c.same.ensures.0 (search (rules, c.if-not-same.false)) in
    let all : c.len-start.result ≡ length c.args.out.now.items = omega (arith, c.len-start.ensures) in
    let back = taken-back c.args.out.now.items c.send_choice.new.out.items c.truncate.new.self.items c.len-start.result
    c.send_choice.ensures.appended c.truncate.ensures.items all in
    let first : IsReading c.args.shown.now.reading = subst (λ (r : Reading). IsReading r) (sym c.requires.shown) c.readings.ensures.first in
    record {
      sent = repaint c.args.to.now.screen;
      appended = c.repaint_reserved.ensures.items ∙ ap (λ (xs : List ℕ). xs ++ repaint c.args.to.now.screen) back;
      leads = rebuilt c.args.shown.now c.args.to.now (repaint c.args.to.now.screen) c.requires.to
          (λ before. c.repaint_reserved.ensures.rebuilds c.args.shown.now before first
          (sym c.size.ensures.size ∙ same ∙ c.size-2.ensures.size));
    }

pub returns-clause-nothing : goal.returns-clause-nothing
returns-clause-nothing c =
    nothing-sent c.args.shown.now c.args.to.now _ _ (returns-clause-leads c) (λ e. search (rules, c.same-2.ensures.1 e, c.if-same.false))
