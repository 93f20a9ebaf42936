-- RIS leaves the state of power-up, whatever is held.
use Rattle.std.proofs.Common.{◌∙◌, [], ◌∷◌, refl}
use Rattle.vt_syntax.specs.Class.{class_of, opens_string}
use Rattle.vt_syntax.specs.Split.{split_after}
use Rattle.vt_term.specs.Play.{play}
use Rattle.vt220_c.proofs.inner.Inner.reset.Goals as goal
use Rattle.vt_term.specs.Functions.{plain_escape_any}

pub returns : goal.returns
unfolding play plain_escape_any split_after class_of opens_string
returns c =
    let held = c.self.inside.terminal.held in let is = c.held.ensures.held_part in
    c.feed_reserved.ensures.state
    ∙ rw (c.spelled.ensures.escape held (0x63 ∷ []) is, c.spelled.ensures.escape_held held (0x63 ∷ []) is, ← c.self.view_is) refl
