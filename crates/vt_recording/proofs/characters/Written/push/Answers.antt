use Rattle.std.proofs.Common.{◌≤◌, ◌<◌, ◌∙◌, sym, length, arith}
use Rattle.vt_recording.proofs.Writing.{pushed_byte, pushed_sub, pushed_none}
use Rattle.vt_recording.proofs.characters.Written.push.Goals as goal

pub returns-in_ok-push-in-Some-clause-written : goal.returns-in_ok-push-in-Some-clause-written
returns-in_ok-push-in-Some-clause-written c =
    let free : length c.args.self.now.bytes.items < c.args.most = omega (arith, c.len.ensures, c.if-most-len.false) in
    λ front w. rw c.in_ok-push-in-Some.ensures.items
    (pushed_byte _ front _ _ _ free w _ (sym c.byte_of.ensures ∙ c.in-Some.is))

pub returns-in_ok-push-in-None-clause-written : goal.returns-in_ok-push-in-None-clause-written
returns-in_ok-push-in-None-clause-written c =
    let free : length c.args.self.now.bytes.items < c.args.most = omega (arith, c.len.ensures, c.if-most-len.false) in
    λ front w. rw c.in_ok-push-in-None.ensures.items
    (pushed_sub _ front _ _ _ free w (sym c.byte_of.ensures ∙ c.in-None.is))

pub returns-then-most-len-clause-written : goal.returns-then-most-len-clause-written
returns-then-most-len-clause-written c =
    let full : c.args.most ≤ length c.args.self.now.bytes.items = omega (arith, c.len.ensures, c.if-most-len.true) in
    λ front w. pushed_none _ front _ _ _ full w
