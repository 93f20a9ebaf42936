use Rattle.std.proofs.Common.{◌≡◌, ◌++◌, ◌∙◌, true, false, rules, ap, sym, length, append-nil, append_assoc, List, ℕ}
use Rattle.std.specs.Prelude.{◌==◌}
use Rattle.vt_trace.specs.Lines.{shown}
use Rattle.vt_trace.specs.Trace.{open_lines, text_begin}
use Rattle.vt_trace.proofs.Beyond.{string_lines, string_tracer, text_all, text_after_cut, text_tracer}
use Rattle.vt_trace.proofs.utf8.push_beyond.Goals as goal

pub returns-then-tracer-ne0-clause-lines : goal.returns-then-tracer-ne0-clause-lines
returns-then-tracer-ne0-clause-lines c =
    let old = c.args.out.now.items in
    let string : (c.args.tracer.now.code == 0) ≡ false = search rules in
    sym (append-nil old) ∙ ap (λ (l : List ℕ). old ++ l) (sym (string_lines c.args.tracer.now c.args.bytes.now string))

pub returns-then-tracer-ne0-clause-tracer : goal.returns-then-tracer-ne0-clause-tracer
returns-then-tracer-ne0-clause-tracer c =
    let string : (c.args.tracer.now.code == 0) ≡ false = search rules in
    c.hold.ensures.tracer ∙ sym (string_tracer c.args.tracer.now c.args.bytes.now c.hold.ensures.few string)

pub returns-then-is_empty-clause-lines : goal.returns-then-is_empty-clause-lines
returns-then-is_empty-clause-lines c =
    let code : (c.args.tracer.now.code == 0) ≡ true = search rules in
    let first : (length c.args.tracer.now.first.items == 0) ≡ true = search rules in
    c.push_text.ensures.lines
    ∙ ap (λ (l : List ℕ). c.args.out.now.items ++ l) (sym (text_all c.args.tracer.now c.args.bytes.now c.requires.some code first))

pub returns-then-is_empty-clause-tracer : goal.returns-then-is_empty-clause-tracer
returns-then-is_empty-clause-tracer c =
    let code : (c.args.tracer.now.code == 0) ≡ true = search rules in
    c.push_text.ensures.tracer ∙ sym (text_tracer c.args.tracer.now c.args.bytes.now c.requires.some code)

pub returns-else-is_empty-clause-lines : goal.returns-else-is_empty-clause-lines
returns-else-is_empty-clause-lines c =
    let t = c.args.tracer.now in
    let code : (t.code == 0) ≡ true = search rules in
    let first : (length t.first.items == 0) ≡ false = search rules in
    let text : List ℕ = text_begin false t.place ++ shown c.args.bytes.now in
    c.push_text-else-is_empty.ensures.lines
    ∙ ap (λ (l : List ℕ). l ++ text) c.push_open.ensures.items
    ∙ append_assoc c.args.out.now.items (open_lines t) text
    ∙ ap (λ (l : List ℕ). c.args.out.now.items ++ l) (sym (text_after_cut t c.args.bytes.now c.requires.some code first))

pub returns-else-is_empty-clause-tracer : goal.returns-else-is_empty-clause-tracer
returns-else-is_empty-clause-tracer c =
    let code : (c.args.tracer.now.code == 0) ≡ true = search rules in
    c.push_text-else-is_empty.ensures.tracer ∙ sym (text_tracer c.args.tracer.now c.args.bytes.now c.requires.some code)
