use Rattle.std.proofs.Common.{List, ℕ, Bor, Option, is_some, ap, ◌∙◌}
use Rattle.clap.specs.Words.{found_of}
use Rattle.clap.proofs.WalkLemmas.{first_value-rows}
use Rattle.vt_cli.proofs.Words.{some_taken}
use Rattle.vt_cli.proofs.command_line.is_given.Goals as goal

pub returns : goal.returns
returns c =
    let text = c.get_str.ensures ∙ first_value-rows (found_of c.args.matches.now) c.args.name.now in
    c.is_some.ensures ∙ some_taken (λ (s : Bor (List ℕ)). s.now) c.get_str.result
    ∙ ap (λ (o : Option (List ℕ)). is_some o) text
