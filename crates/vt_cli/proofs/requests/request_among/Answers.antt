use Rattle.std.proofs.Common.{rules, ◌≡◌, refl, sym, ◌∙◌, inl, inr, Some}
use Rattle.clap.specs.Words.{found_of, rows_of, subcommand_rows_of}
use Rattle.vt_cli.specs.Request.{HasNoRequest}
use Rattle.vt_cli.proofs.Words.{pair_of}
use Rattle.vt_cli.proofs.requests.request_among.Goals as goal

pub returns-in-Ok-None-clause-err : goal.returns-in-Ok-None-clause-err
returns-in-Ok-None-clause-err c =
    let found : Some (c.in-Some.name.now, rows_of (found_of c.in-Some.inner.now)) ≡ subcommand_rows_of c.args.matches.now =
    search rules in
    let no_request : HasNoRequest (Some (c.in-Some.name.now, rows_of (found_of c.in-Some.inner.now))) =
    rw c.in-Ok-None.field-0-is at c.in-Ok-None.ensures.none in
    elim c.refusal-in-Ok-None.ensures [
      | inl memory ↦ inl memory
      | inr refused ↦ inr (inr (inr (record {
        none = refl;
        stray = λ r a. no_request r (rw found a);
        status = refused.0;
        text = refused.1;
      })))
    ]

pub returns-in-Ok-Some-clause-ok : goal.returns-in-Ok-Some-clause-ok
returns-in-Ok-Some-clause-ok c =
    let found = pair_of _ _ _ _ _ c.in-Some.ensures.name c.in-Some.ensures.rows in
    rw (← found) (rw c.in-Ok-Some.field-0-is at c.in-Ok-Some.ensures.some)

pub returns-in-Err-clause-err : goal.returns-in-Err-clause-err
returns-in-Err-clause-err c =
    let found : Some (c.in-Some.name.now, rows_of (found_of c.in-Some.inner.now)) ≡ subcommand_rows_of c.args.matches.now =
    search rules in
    elim c.refusal-in-Err.ensures [
      | inl memory ↦ inl memory
      | inr refused ↦ inr (inr (inl (record {
        none = refl;
        name = c.in-Some.name.now;
        matches = rows_of (found_of c.in-Some.inner.now);
        found_is = sym found;
        complaint = c.in-Err.complaint;
        why = search rules;
        status = refused.0;
        text = refused.1 ∙ c.line.ensures;
      })))
    ]
