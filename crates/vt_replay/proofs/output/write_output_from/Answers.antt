use Rattle.std.proofs.Common.{ℕ, List}
use Rattle.vt_device.proofs.OutputSteps.{moves_one_way}
use Rattle.vt_replay.proofs.output.write_output_from.Goals as goal

pub returns-clause-answer : goal.returns-clause-answer
returns-clause-answer g c =
    let o = c.args.output.now in
    moves_one_way _ (λ (b : List ℕ). b) (λ b x e. e) (g.O.Output.written o) (g.O.Output.ending o) (g.O.Output.there o)
    _ _ _ _ c.write_by.result c.args.piece (record {
      reader_failed = g.S.Source.failed c.write_by.new.reader;
      reader_ended = g.S.Source.ended c.write_by.new.reader;
      writer_failed = c.write_by.new.writer.failed;
    }) c.args.limit c.write_by.ensures.answer
