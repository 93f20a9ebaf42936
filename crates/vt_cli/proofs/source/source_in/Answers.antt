use Rattle.std.proofs.Common.{ℕ, List, Bor, ◌≡◌, ◌∙◌, ap, codes, Option, is_some}
use Rattle.clap.specs.Words.{found_of, rows_of, first_of}
use Rattle.clap.proofs.WalkLemmas.{first_value-rows}
use Rattle.vt_cli.proofs.Words.{some_taken}
use Rattle.vt_cli.proofs.source.source_in.Goals as goal

pub returns-clause-value : goal.returns-clause-value
returns-clause-value c =
    let rows = rows_of (found_of c.args.matches.now) in
    let format = c.get_str.ensures ∙ first_value-rows (found_of c.args.matches.now) (codes "format") in
    let timing = c.get_str-2.ensures ∙ first_value-rows (found_of c.args.matches.now) (codes "timing") in
    let from = c.get_str-3.ensures ∙ first_value-rows (found_of c.args.matches.now) (codes "from") in
    let until = c.get_str-4.ensures ∙ first_value-rows (found_of c.args.matches.now) (codes "until") in
    let encoding = c.get_str-5.ensures ∙ first_value-rows (found_of c.args.matches.now) (codes "encoding") in
    let terminal = c.get_str-6.ensures ∙ first_value-rows (found_of c.args.matches.now) (codes "terminal") in
    let columns = c.get_str-7.ensures ∙ first_value-rows (found_of c.args.matches.now) (codes "columns") in
    let size = c.get_str-8.ensures ∙ first_value-rows (found_of c.args.matches.now) (codes "size") in
    let timed : c.is_some.result ≡ is_some (first_of (codes "timing") rows) =
    c.is_some.ensures ∙ some_taken (λ (s : Bor (List ℕ)). s.now) c.get_str-2.result
    ∙ ap (λ (o : Option (List ℕ)). is_some o) timing in
    rw (← format, ← timed, ← from, ← until, ← encoding, ← terminal, ← columns, ← size) c.source_of.ensures.value
