use Rattle.std.proofs.Common.{refl}
use Rattle.vt_xterm_cell.proofs.Numbers.{bool_bit, attributes_back}
use Rattle.vt_xterm_cell.proofs.look.Attributes.number.Goals as goal

pub returns-clause-value : goal.returns-clause-value
returns-clause-value c =
    rw (bool_bit c.args.self.bold, bool_bit c.args.self.faint, bool_bit c.args.self.italic, bool_bit c.args.self.underlined, bool_bit c.args.self.doubly_underlined, bool_bit c.args.self.blinking, bool_bit c.args.self.reverse, bool_bit c.args.self.invisible, bool_bit c.args.self.crossed_out) refl

pub returns-clause-back : goal.returns-clause-back
returns-clause-back c above = rw (returns-clause-value c) (attributes_back c.args.self above)
