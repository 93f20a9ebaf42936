use Rattle.std.proofs.Common.{◌∙◌, ◌∷◌, [], sym, ap}
use Rattle.std.specs.Option.{option_to_list}
use Rattle.bstr.specs.Utf8.{replacement}
use Rattle.vt_utf8.specs.Decoding.{Read}
use Rattle.vt_utf8.proofs.Firsts.{when-nothing, when-cut, cut-lost}
use Rattle.vt_utf8.proofs.decoder.Decoder.push.Goals as goal

pub returns-then-is_empty-clause-characters : goal.returns-then-is_empty-clause-characters
returns-then-is_empty-clause-characters c =
    c.push_first.ensures.characters ∙ sym (ap (λ (r : Read). r.characters)
    (when-nothing c.args.self.now c.args.b (sym c.is_empty.ensures ∙ c.if-is_empty.true)))

pub returns-then-is_empty-clause-pending : goal.returns-then-is_empty-clause-pending
returns-then-is_empty-clause-pending c =
    c.push_first.ensures.pending ∙ sym (ap (λ (r : Read). r.pending)
    (when-nothing c.args.self.now c.args.b (sym c.is_empty.ensures ∙ c.if-is_empty.true)))

pub returns-then-is_cut_by-clause-characters : goal.returns-then-is_cut_by-clause-characters
returns-then-is_cut_by-clause-characters c =
    let cut = c.if-is_cut_by.ensures in
    (when-cut c.args.self.now c.args.b cut).told (replacement ∷ [])
    (option_to_list c.push_first-then-is_cut_by.result) (cut-lost c.args.self.now c.args.b cut)
    c.push_first-then-is_cut_by.ensures.characters

pub returns-then-is_cut_by-clause-pending : goal.returns-then-is_cut_by-clause-pending
returns-then-is_cut_by-clause-pending c =
    (when-cut c.args.self.now c.args.b c.if-is_cut_by.ensures).left c.push_first-then-is_cut_by.new.self
    c.push_first-then-is_cut_by.ensures.pending
