use Rattle.std.proofs.Common.{◌≡◌, ◌+◌, ◌*◌, ◌≤◌, [], false, length, vec_capacity}
use Rattle.vt_device.specs.Runs.{Moves}
use Rattle.vt_device.proofs.OutputSteps.{HaveCome}
use Rattle.vt_device.proofs.output.write_coming.Given as goal

abbrev pub invariant-loop-left : goal.invariant-loop-left
invariant-loop-left g l = record {
  moved : Moves (g.S.Source.remaining l.initial.reader) (g.S.Source.remaining l.reader)
      (g.W.Write.contents l.initial.writer.device) (g.W.Write.contents l.writer.device)
      (λ b w.
      (length b + l.left ≡ l.limit)
      × HaveCome (g.D.Decoding.Came l.decoding) g.D.Decoding.Translates (g.O.Output.written l.initial.output)
      (g.O.Output.ending l.initial.output) (g.O.Output.there l.initial.output) (g.O.Output.written l.output)
      (g.O.Output.ending l.output) (g.O.Output.there l.output) b w);
  within : l.left ≤ l.limit;
  reader_works : g.S.Source.failed l.reader ≡ false;
  reader_goes_on : g.S.Source.ended l.reader ≡ false;
  writer_works : l.writer.failed ≡ false;
  takes : 1 ≤ g.O.Output.most l.output;
  decodes : length l.buffer ≤ g.D.Decoding.most l.decoding;
  nothing : g.O.Output.written l.output [] ≡ [];
  reserve : g.O.Output.reserve l.output ≡ g.O.Output.reserve l.initial.output;
  counted : g.O.Output.counted l.output + 941520 * l.left ≤ 941520 * l.limit;
  capacity : vec_capacity l.initial.out ≤ vec_capacity l.out;
}

abbrev pub decreases-loop-left : goal.decreases-loop-left
decreases-loop-left g l = l.left
