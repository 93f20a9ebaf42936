use Rattle.std.proofs.Common.{◌≤◌, ℕ, List, take, arith, ap, subst, ◌∙◌}
use Rattle.vt_utf8.specs.Translation.{reads_ascii}
use Rattle.vt_utf8.specs.Text.{ReadsText}
use Rattle.vt_utf8.proofs.Texts.{writes-none, writes-read}
use Rattle.vt_utf8.proofs.text.write_text.Goals as goal

pub returns-then-room-eq0-clause-text : goal.returns-then-room-eq0-clause-text
returns-then-room-eq0-clause-text c = writes-none c.args.terminal.now c.soundness.ensures.display.cursor.col_last

pub returns-then-taken-eq0-clause-text : goal.returns-then-taken-eq0-clause-text
returns-then-taken-eq0-clause-text c = writes-none c.args.terminal.now c.soundness.ensures.display.cursor.col_last

pub returns-clause-text : goal.returns-clause-text
returns-clause-text c =
    let s = c.args.terminal.now in
    let read = c.read_text-taken in
    let some : 1 ≤ c.text_room-room.result = omega (arith, c.if-room-eq0.false) in
    let bytes = take read.result c.args.piece.now in
    writes-read s c.write_codes.new.self bytes read.new.text.items (c.reads_ascii.ensures ∙ ap reads_ascii c.sets.ensures.sets)
    (subst (λ (codes : List ℕ). ReadsText c.reads_ascii.result bytes codes read.new.text.items) c.new-text.ensures read.ensures.text)
    (c.text_room-room.ensures.ready some) (omega (arith, read.ensures.room, c.text_room-room.ensures.fits some))
    c.as_slice.ensures.value c.write_codes.ensures
