use Rattle.std.proofs.Common.{ap, ◌∙◌, ◌*◌, ◌≤◌, ℕ, List, arith, length}
use Rattle.std.proofs.lemmas.Nat.{mul-le}
use Rattle.vt_term.specs.Text.{row_text_limit}
use Rattle.vt_term.specs.Play.{play}
use Rattle.vt_utf8.proofs.feeding.feed_translated_log.Goals as goal

pub feed_silently_log-requires-clause-silent : goal.feed_silently_log-requires-clause-silent
feed_silently_log-requires-clause-silent c =
    ap (λ (bytes : List ℕ). (play c.args.terminal.now bytes).reports)
    (c.as_slice.ensures.value ∙ c.translation-bytes.ensures)
    ∙ c.sized_silence.ensures.silent c.args.terminal.now.display.grid.size c.args.terminal.now c.args.c c.soundness.ensures c.requires.beyond

-- a line for each of 22 bytes at most
at-most : (limit count : ℕ) → count ≤ 22 → limit * count ≤ 22 * limit
at-most limit count few =
    let most : count * limit ≤ 22 * limit = mul-le count limit 22 limit few (omega arith) in
    omega (arith, most)

pub feed_silently_log-requires-clause-lines_room : goal.feed_silently_log-requires-clause-lines_room
feed_silently_log-requires-clause-lines_room c =
    omega (arith, c.requires.lines_room, at-most (row_text_limit c.args.terminal.now.display.grid.size) (length c.as_slice.result.now) (omega arith))

pub returns-clause-lines_bounded : goal.returns-clause-lines_bounded
returns-clause-lines_bounded c =
    omega (
      arith,
      c.feed_silently_log.ensures.lines_bounded,
      at-most (row_text_limit c.args.terminal.now.display.grid.size) (length c.as_slice.result.now) (omega arith),
    )
