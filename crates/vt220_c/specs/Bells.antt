-- The number of times that BEL is carried out. (this profile)
use Rattle.std.specs.Prelude.{ℕ, List, count_by}
use Rattle.vt_syntax.specs.declared.held.Held.{Held}
use Rattle.vt_syntax.specs.Event.{is_control}
use Rattle.vt_syntax.specs.Held.{events_from}

-- the number of BELs that are carried out in bytes that come while this is held
abbrev pub bells : Held → List ℕ → ℕ
bells held bytes = count_by (is_control 0x07) (events_from held bytes)
