use Rattle.std.proofs.Common.{◌≡◌, true, false, ◌&&◌, arith, sym, ◌∙◌}
use Rattle.std.specs.Prelude.{nat_lt, nat_le}
use Rattle.std.proofs.lemmas.Bool.Decides.{nat_tests}
use Rattle.vt_utf8.proofs.similar.code_by.Goals as goal

pub returns-then-c-lt12544 : goal.returns-then-c-lt12544
returns-then-c-lt12544 c =
    let no_latin : nat_lt c.args.c 0x180 ≡ false = grind (arith, nat_tests) in
    let no_letter : nat_lt c.args.c 0x2000 ≡ false = grind (arith, nat_tests) in
    let no_line : nat_le 0x2500 c.args.c && nat_le c.args.c 0x257F ≡ false =
    sym c.is_in.ensures ∙ c.if-is_in.false in
    let sign : nat_lt c.args.c 0x3100 ≡ true = grind (arith, nat_tests) in
    rw (no_latin, no_letter, no_line, sign) c.sign.ensures
