use Rattle.std.proofs.Common.{◌≡◌, ◌∙◌, None, Some, sym, ap, refl, arith}
use Rattle.vt_recording.specs.Lines.{front_line}
use Rattle.vt_recording.specs.Asciicast.{json_text}
use Rattle.vt_recording.proofs.Fronts.{is_read, by_header}
use Rattle.vt_recording.proofs.casting.asciicast_timeline.Goals as goal

pub returns-in_default : goal.returns-in_default
returns-in_default c =
    let made = c.timeline.ensures in
    let text : c.json_text-text.result.now ≡ json_text c.args.bytes.now = c.json_text-text.ensures.text in
    let is = c.front_line-header.ensures.line ∙ ap front_line text in
    is_read _ _ _ (sym (by_header c.args.bytes.now _ _ is refl None (sym c.in_default.is ∙ c.in_ok-version.ensures)))
    (sym (made.broken ∙ c.in_recording.ensures ∙ rw text at c.in_ok-broken.ensures.broken))
    (rw (made.events, made.text) (rw text at c.in_ok-broken.ensures.gathered))

pub returns : goal.returns
returns c =
    let made = c.timeline-2.ensures in
    let text : c.json_text-text.result.now ≡ json_text c.args.bytes.now = c.json_text-text.ensures.text in
    let is = c.front_line-header.ensures.line ∙ ap front_line text in
    is_read _ _ _
    (sym (by_header c.args.bytes.now _ _ is (rw text (omega arith)) (Some c.in-Some.version) (sym c.in-Some.is ∙ c.in_ok-version.ensures)))
    (sym (made.broken ∙ c.in_recording-2.ensures ∙ c.in_ok-broken-2.ensures.broken))
    (rw (made.events, made.text) c.in_ok-broken-2.ensures.gathered)
