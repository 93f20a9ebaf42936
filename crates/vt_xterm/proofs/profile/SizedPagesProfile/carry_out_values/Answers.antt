use Rattle.vt_syntax.specs.Front.{front_list}
use Rattle.vt_xterm.proofs.Fed.{values-screens}
use Rattle.vt_xterm.proofs.profile.SizedPagesProfile.carry_out_values.Goals as goal

pub returns-then-is_own_plain-clause-screens : goal.returns-then-is_own_plain-clause-screens
returns-then-is_own_plain-clause-screens c =
    values-screens c.plain_sequence.new.terminal c.plain_sequence.new.pages _ _ (front_list c.args.front.now)
    c.args.front.now.last c.plain_sequence.ensures.terminal c.plain_sequence.ensures.pages
