use Rattle.std.proofs.Common.{ap, ◌∙◌, ℕ, List}
use Rattle.vt_term.specs.Play.{play}
use Rattle.vt_utf8.proofs.feeding.feed_translated.Goals as goal

pub feed_silently-requires-clause-silent : goal.feed_silently-requires-clause-silent
feed_silently-requires-clause-silent c =
    ap (λ (bytes : List ℕ). (play c.args.terminal.now bytes).reports)
    (c.as_slice.ensures.value ∙ c.translation-bytes.ensures)
    ∙ c.sized_silence.ensures.silent c.args.terminal.now.display.grid.size c.args.terminal.now c.args.c c.soundness.ensures c.requires.beyond
