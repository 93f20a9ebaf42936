use Rattle.std.proofs.Common.{append_assoc}
use Rattle.vt_replay.proofs.events.push_line.Goals as goal

pub returns : goal.returns
returns c =
    rw (
      c.in_ok-push-4.ensures.items,
      c.in_ok-push_text.ensures,
      c.in_ok-push_decimal-2.ensures,
      c.in_ok-push-3.ensures.items,
      c.in_ok-push_decimal.ensures,
      c.in_ok-push-2.ensures.items,
      c.in_ok-extend_from_slice.ensures.items,
      c.kind_name.ensures,
      c.in_ok-push.ensures.items,
      c.in_ok-push_time.ensures,
    )
    (simp append_assoc)
