use Rattle.std.proofs.Common.{◌∙◌, ap}
use Rattle.vt_syntax.specs.declared.held.Held.{Held}
use Rattle.vt_trace.specs.Trace.{begins}
use Rattle.vt_trace.proofs.TracedBytes.{the_lines, the_tracer}
use Rattle.vt_trace.proofs.skipped.skip.Goals as goal

pub returns-clause-lines : goal.returns-clause-lines
returns-clause-lines c =
    let a = c.args in
    let step = c.read-step.result in
    let is = c.read-step.ensures in
    let begins_is = c.begins-begins.ensures ∙ ap (λ (h : Held). begins h a.b) c.held.ensures.value in
    the_lines a.tracer.now c.add.new.self a.parser.now a.b c.begins-begins.result step.cut step.ended step.kind step.code
    c.add.ensures begins_is is.cut is.ended a.out.now.items c.push_cut.new.out.items c.push_ended.new.out.items is.kind
    c.push_cut.ensures.items c.push_ended.ensures.items

pub returns-clause-tracer : goal.returns-clause-tracer
returns-clause-tracer c =
    let a = c.args in
    let step = c.read-step.result in
    let is = c.read-step.ensures in
    let begins_is = c.begins-begins.ensures ∙ ap (λ (h : Held). begins h a.b) c.held.ensures.value in
    the_tracer a.tracer.now c.add.new.self a.parser.now a.b c.begins-begins.result step.cut step.ended step.kind step.code
    c.add.ensures begins_is is.cut is.ended c.step.new.self step.is_between is.code is.is_between c.step.ensures
