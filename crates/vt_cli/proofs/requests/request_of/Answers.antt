use Rattle.std.proofs.Common.{rules, ◌∙◌, codes}
use Rattle.clap.specs.Words.{found_of, rows_of}
use Rattle.clap.proofs.WalkLemmas.{first_value-rows}
use Rattle.vt_cli.proofs.Words.{request_without_options}
use Rattle.vt_cli.proofs.requests.request_of.Goals as goal

pub returns-clause-some : goal.returns-clause-some
returns-clause-some c = record {
  matches = rows_of (found_of c.args.matches.now);
  word = search rules;
  options = search rules;
  source = rw (← c.in-Some.ensures.some) c.requires.source;
  timing = c.in_ok-timing.ensures ∙ first_value-rows (found_of c.args.matches.now) (codes "timing");
  full = search rules;
  partial = search rules;
  quiet = search rules;
}

pub returns-in_default-2-clause-none : goal.returns-in_default-2-clause-none
returns-in_default-2-clause-none c =
    request_without_options c.args.name.now (rows_of (found_of c.args.matches.now))
    (rw c.in_default-2.is at c.in_ok-options.ensures.none)
