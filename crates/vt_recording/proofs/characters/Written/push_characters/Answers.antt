use Rattle.std.proofs.Common.{◌≡◌, ◌++◌, ◌∙◌, append_assoc, sym, map-id, chars}
use Rattle.std.proofs.lemmas.Iterator.{YieldsList-from_chars}
use Rattle.std.proofs.lemmas.Iterator.Consumers.{YieldsList-end}
use Rattle.vt_recording.proofs.characters.Written.push_characters.Goals as goal

pub returns-clause-written : goal.returns-clause-written
returns-clause-written c =
    let end = YieldsList-end (YieldsList-from_chars c.args.text.now c.utf8.text cc) c.loop-c.yielded _ c.loop-c.yielded_by _ _ c.in-None.is c.next.ensures.steps in
    let all : c.loop-c.yielded ≡ chars c.args.text.now = sym (map-id c.loop-c.yielded) ∙ end.0 in
    λ front w. rw (← all) (c.loop-c.invariant.written front w)

pub loop-c-preserved : goal.loop-c-preserved
loop-c-preserved c = record {
  bound = c.push.ensures.bound;
  written = λ front w. rw append_assoc at
      (c.in_ok-push.ensures.written (front ++ c.loop-c.yielded) (c.loop-c.invariant.written front w));
}
