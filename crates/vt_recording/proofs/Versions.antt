-- A place that has no version is left out.
use Rattle.std.proofs.Common.{◌≡◌, ◌+◌, ◌<◌, ◌||◌, ◌∙◌, ℕ, List, false, sym, ap, length, drop}
use Rattle.std.proofs.lemmas.List.{at_drop_more}
use Rattle.vt_recording.specs.Detection.{begins_version, has_version}

pub one_more : (text : List ℕ) (at : ℕ) → at < length text → begins_version (drop at text) ≡ false
    → has_version (drop at text) ≡ has_version (drop (at + 1) text)
unfolding has_version
one_more text at within here =
    at_drop_more has_version text at 0 within
    ∙ ap (λ b. b || has_version (drop (at + 1) text)) (sym (at_drop_more (λ t. begins_version t) text at 0 within) ∙ here)
