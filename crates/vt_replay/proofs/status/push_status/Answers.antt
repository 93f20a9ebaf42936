use Rattle.std.proofs.Common.{append_assoc}
use Rattle.vt_replay.specs.Status.{status}
use Rattle.vt_replay.proofs.status.push_status.Goals as goal

pub returns-clause-items : goal.returns-clause-items
unfolding status
returns-clause-items c =
    rw (
      c.push_text-2.ensures.items,
      c.push_number.ensures.items,
      c.push_text.ensures.items,
      c.push_line-2.ensures.items,
      c.push_pair-2.ensures.items,
      c.push_line.ensures.items,
      c.push_pair.ensures.items,
      c.as_bytes.ensures.value,
      c.kind_of_held.ensures.kind,
      c.held.ensures.held,
      c.yes_or_no.ensures.word,
      c.cursor-cursor.ensures.cursor,
      c.margins-margins.ensures,
    )
    (simp append_assoc)
