use Rattle.std.proofs.Common.{◌≡◌, length, vec_len, rules}
use Rattle.vt_update.proofs.Elements.{appended_items, appended_speaks}
use Rattle.vt_update.proofs.choice.push_choice.Goals as goal

pub returns-clause-items : goal.returns-clause-items
returns-clause-items g c =
    let len : length c.args.out.now.items ≡ vec_len c.args.out.now = search rules in
    appended_items _ _ _ len c.bring.ensures.appended

pub returns-clause-speaks : goal.returns-clause-speaks
returns-clause-speaks g c =
    let len : length c.args.out.now.items ≡ vec_len c.args.out.now = search rules in
    appended_speaks _ _ _ len c.bring.ensures.appended

pub bring-requires : goal.bring-requires
bring-requires g c = (search rules, (c.requires.size, (c.requires.fits, (c.requires.rows, c.requires.columns))))
