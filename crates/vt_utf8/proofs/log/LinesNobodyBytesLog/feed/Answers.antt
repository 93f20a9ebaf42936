use Rattle.std.proofs.Common.{◌≡◌, ◌⊎◌, ◌++◌, ◌∙◌, ◌≤◌, ◌*◌, ◌+◌, ◌<◌, ℕ, zero, suc, inl, inr, List, All, ap, take, length, arith, vec_len, vec_capacity}
use Rattle.std.specs.Prelude.{flat_map}
use Rattle.std.proofs.lemmas.List.{length-take-le}
use Rattle.vt_screen.specs.declared.cell.Cell.{Cell}
use Rattle.vt_term.specs.Happenings.{happenings}
use Rattle.vt_term.specs.ScrollSteps.{IsShort}
use Rattle.vt_term.specs.Text.{line_text, row_text_limit}
use Rattle.vt_term.proofs.SizeHappened.{happenings-short}
use Rattle.vt_utf8.proofs.log.LinesNobodyBytesLog.feed.Goals as goal

stopped : {A B : Type 0} → (A ⊎ B) ⊎ ⊥ → A ⊎ B
stopped (inl full) = full
stopped (inr none) = absurd none

pub returns-clause-all : goal.returns-clause-all
returns-clause-all c = λ less.
    rw (c.feed_observed.ensures.saw.0.1, c.row_text_limit-self.ensures) at
    (stopped (c.feed_observed.ensures.all less))

pub returns-clause-keeps : goal.returns-clause-keeps
returns-clause-keeps c =
    let size = c.args.terminal.now.display.grid.size in
    let bytes = take c.feed_observed.result c.args.piece.now in
    let short : All (IsShort c.row_text_limit-self.result) (happenings c.args.terminal.now bytes) =
    happenings-short c.row_text_limit-self.result size _ (c.sized_happened.ensures.size size c.args.terminal.now bytes c.soundness.ensures)
    (omega (arith, c.row_text_limit-self.ensures)) in
    let saw = c.feed_observed.ensures.saw.0 in (
      saw.0,
      saw.2,
      saw.3.lines short ∙ ap (λ (rows : List (List Cell)). c.args.self.now.lines.now.items ++ flat_map line_text rows)
          (c.sized_happened.ensures.lines size c.args.terminal.now bytes c.soundness.ensures),
      saw.4,
      saw.5,
    )

-- there is capacity for a line, so the feed doesn't stop before the first one
goes-on : (n k limit len after capacity end : ℕ) → 1 ≤ n → len + limit ≤ capacity → len + limit ≤ end
    → after ≤ len + limit * k → (k < n → (capacity < after + limit) ⊎ (end < after + limit)) → 1 ≤ k
goes-on n zero limit len after capacity end some room fits few stop = elim (stop (omega (arith, some))) [
  | inl full ↦ absurd (omega (arith, few, room, full))
  | inr full ↦ absurd (omega (arith, few, fits, full))
]
goes-on n (suc k) limit len after capacity end some room fits few stop = omega arith

pub returns-clause-some : goal.returns-clause-some
returns-clause-some c = λ some room.
    let fed = c.feed_observed in
    let piece = c.args.piece.now in
    let bytes = take fed.result piece in
    let saw = fed.ensures.saw.0 in
    let limit : ℕ = row_text_limit c.args.terminal.now.display.grid.size in
    let count : length (happenings c.args.terminal.now bytes) ≡ fed.result =
    c.sized_happened.ensures.count c.args.terminal.now bytes ∙ length-take-le fed.result piece fed.ensures.within in
    let few = rw (c.row_text_limit-self.ensures, count) at saw.3.bounded in
    goes-on (length piece) fed.result limit (vec_len c.args.self.now.lines.now) (vec_len fed.new.observer.lines.now)
    (vec_capacity fed.new.observer.lines.now) fed.new.observer.end some (omega (arith, room.0, saw.4))
    (omega (arith, room.1, saw.2)) (omega (arith, few, fed.new.observer.lines.now.ok, c.args.self.now.lines.now.ok))
    (λ less. rw (saw.1, c.row_text_limit-self.ensures) at (stopped (fed.ensures.all less)))
