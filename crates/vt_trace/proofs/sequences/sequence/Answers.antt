use Rattle.std.proofs.Common.{rules, ◌≡◌, ◌∙◌, Some}
use Rattle.vt_trace.proofs.SequenceNames.{after_question, after_quote}
use Rattle.vt_trace.proofs.sequences.sequence.Goals as goal

pub returns-in-None-Some-eq34 : goal.returns-in-None-Some-eq34
returns-in-None-Some-eq34 c =
    let inter : c.args.inter ≡ Some 0x22 = search rules in
    rw (c.in-None-Some-eq34.is-0, inter)
    (c.quote.ensures c.args.rows ∙ after_quote c.args.rows c.args.last c.args.values.now)

pub returns-in-Some-eq63-None : goal.returns-in-Some-eq63-None
returns-in-Some-eq63-None c =
    let marker : c.args.marker ≡ Some 0x3F = search rules in
    rw (c.in-Some-eq63-None.is-1, marker)
    (c.private.ensures c.args.rows ∙ after_question c.args.rows c.args.last c.args.values.now)
