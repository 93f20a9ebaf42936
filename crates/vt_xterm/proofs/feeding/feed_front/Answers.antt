use Rattle.std.proofs.Common.{ℕ, ap, subst, ◌∙◌}
use Rattle.vt_xterm.specs.Play.{FrontState}
use Rattle.vt_xterm.proofs.TakenAs.{feeds-xterm, keeps-xterm, sizes-xterm}
use Rattle.vt_xterm.proofs.feeding.feed_front.Goals as goal

pub feed_characters-requires-clause-fits : goal.feed_characters-requires-clause-fits
feed_characters-requires-clause-fits g c = record {
  one_size = ap (λ (f : FrontState). f.pages.other.grid.size) c.front.view_is ∙ c.requires.one_size;
  twice = c.xterm_lines_limit-limit.ensures;
}

pub returns-clause-all : goal.returns-clause-all
returns-clause-all g c = λ less.
    subst (λ (n : ℕ). g.L.Log.IsFull c.feed_characters.new.log n) c.xterm_lines_limit-limit.ensures
    (c.feed_characters.ensures.all less)

pub returns-clause-fed : goal.returns-clause-fed
returns-clause-fed g c = feeds-xterm g.L.Log.Keeps _ _ _ _ _ _ _ _ _ _ c.front.view_is c.feed_characters.ensures.fed

pub returns-clause-keeps : goal.returns-clause-keeps
returns-clause-keeps g c =
    let new : FrontState = record { pending = c.feed_characters.new.decoder; pages = c.feed_characters.new.sink } in
    keeps-xterm g.L.Log.Keeps _ _ _ _ new _ _ _ _ _ c.front.view_is c.feed_characters.ensures.fed

pub returns-clause-sizes : goal.returns-clause-sizes
returns-clause-sizes g c =
    let new : FrontState = record { pending = c.feed_characters.new.decoder; pages = c.feed_characters.new.sink } in
    sizes-xterm g.L.Log.Keeps _ _ _ _ new _ _ _ _ _ c.front.view_is c.feed_characters.ensures.fed
