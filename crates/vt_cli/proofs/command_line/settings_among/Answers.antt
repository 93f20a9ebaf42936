use Rattle.std.proofs.Common.{rules, ◌≡◌, refl, inl, inr, Some}
use Rattle.clap.specs.Words.{found_of, rows_of, subcommand_rows_of}
use Rattle.vt_cli.specs.CommandLine.{HasNoSettings}
use Rattle.vt_cli.proofs.command_line.settings_among.Goals as goal

pub returns-in-Ok-None-clause-err : goal.returns-in-Ok-None-clause-err
returns-in-Ok-None-clause-err c =
    let found : Some (c.in-Some.name.now, rows_of (found_of c.in-Some.inner.now)) ≡ subcommand_rows_of c.args.matches.now =
    search rules in
    let no_settings : HasNoSettings (Some (c.in-Some.name.now, rows_of (found_of c.in-Some.inner.now))) =
    rw c.in-Ok-None.field-0-is at c.in-Ok-None.ensures.none in
    elim c.refusal-in-Ok-None.ensures [
      | inl memory ↦ inl memory
      | inr refused ↦ inr (inr (record {
        none = refl;
        stray = λ s a. no_settings s (rw found a);
        status = refused.0;
        text = refused.1;
      }))
    ]
