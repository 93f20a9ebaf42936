use Rattle.std.proofs.Common.{◌≡◌, ◌∙◌, ap, drop, rules, subst, sym}
use Rattle.vt_term.specs.State.{State}
use Rattle.vt_term.specs.Sound.{IsSoundAt}
use Rattle.vt_screen.specs.declared.size.Size.{Size}
use Rattle.vt_update.proofs.Chunks.{played_silently}
use Rattle.vt_update.proofs.updating.send_choice.Goals as goal
use Rattle.vt_update.proofs.updating.send_choice.Goals.{else-is_short-via-then-is_short+then-play_back+else-same_state}
use Rattle.vt_update.proofs.updating.send_choice.Goals.{else-is_short-via-then-is_short+else-play_back}
use Rattle.vt_update.proofs.updating.send_choice.Goals.{else-is_short-via-else-is_short}

pub push_choice-requires : goal.push_choice-requires
push_choice-requires g c =
    (search rules, (ap (λ (z : Size). z.rows) c.requires.sound.display.of_size, (c.requires.rows, (c.requires.most_rows, c.requires.most_columns))))

pub returns-then-same_state-clause-leads : goal.returns-then-same_state-clause-leads
returns-then-same_state-clause-leads g c =
    let after = c.push_choice.new.out.items in
    let sent = drop c.len-start.result after in
    let silent = c.play_back.ensures.silent (search (rules, c.if-play_back.true)) in
    let same : c.play_back.new.shown ≡ c.args.to.now = search (rules, c.same_state.ensures, c.if-same_state.true) in
    record {
      sent = sent;
      appended = c.play_back.ensures.items ∙ search (rules, c.push_choice.ensures.items, c.len-start.ensures);
      leads = c.sized_leading.ensures.played c.args.to.now.display.grid.size c.args.shown.now c.args.to.now sent c.requires.sound
          (played_silently c.args.shown.now c.args.to.now c.play_back.new.shown sent c.play_back.ensures.state silent
          same);
    }

pub returns-then-same_state-clause-sound : goal.returns-then-same_state-clause-sound
returns-then-same_state-clause-sound g c = c.play_back.ensures.sound c.args.to.now.display.grid.size c.requires.sound

pub returns-clause-sound : goal.returns-clause-sound
returns-clause-sound g c =
    let size : Size = c.args.to.now.display.grid.size in
    elim c.else-is_short.branch [
      | else-is_short-via-then-is_short+then-play_back+else-same_state w ↦
          subst (λ (s : State). IsSoundAt size s) (sym w.shown-is) (w.play_back.ensures.sound size c.requires.sound)
      | else-is_short-via-then-is_short+else-play_back w ↦
          subst (λ (s : State). IsSoundAt size s) (sym w.shown-is) (w.play_back.ensures.sound size c.requires.sound)
      | else-is_short-via-else-is_short w ↦ subst (λ (s : State). IsSoundAt size s) (sym w.shown-is) c.requires.sound
    ]
