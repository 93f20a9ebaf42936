use Rattle.std.proofs.Common.{ap, sym, ◌∙◌}
use Rattle.vt_syntax.specs.Event.{event_of}
use Rattle.vt_term.specs.State.{State}
use Rattle.vt_xterm.specs.Pages.{PagesState}
use Rattle.vt_xterm.proofs.OfOneSize.{sound-one}
use Rattle.vt_xterm.proofs.playing.carry_out_whole.Goals as goal

pub returns-clause-sizes : goal.returns-clause-sizes
returns-clause-sizes c =
    let one = sound-one c.args.terminal.now c.args.pages.now c.soundness.ensures c.soundness-2.ensures c.requires.one_size in
    let event = event_of c.args.kind c.args.values.now in
    record {
      shown = ap (λ (s : State). s.display.grid.size) c.carry_out.ensures.terminal ∙ c.size_stays.ensures.size event _ one;
      other = ap (λ (p : PagesState). p.other.grid.size) c.carry_out.ensures.pages
          ∙ (c.size_stays.ensures.one_size event _ one).1.of_size
          ∙ c.size_stays.ensures.size event _ one ∙ sym c.requires.one_size;
    }
