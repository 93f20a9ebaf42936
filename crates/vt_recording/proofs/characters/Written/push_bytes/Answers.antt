use Rattle.std.proofs.Common.{◌≡◌, ◌-◌, ◌++◌, ◌∙◌, ap, refl, length, take, rules}
use Rattle.vt_recording.proofs.Writing.{pushed_bytes}
use Rattle.vt_recording.proofs.characters.Written.push_bytes.Goals as goal

pub returns-clause-written : goal.returns-clause-written
returns-clause-written c =
    let same : c.front-wanted.result.now ≡ take (c.args.most - length c.args.self.now.bytes.items) c.args.text.now =
    search (rules, c.front-wanted.ensures, c.saturating_sub-room.ensures, c.len.ensures) in
    λ front w. pushed_bytes _ front _ _ _ _ _ w
    (c.in_ok-extend_from_slice.ensures.items ∙ ap (λ l. c.args.self.now.bytes.items ++ l) same) refl
