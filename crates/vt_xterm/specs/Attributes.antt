-- SGR with colours, which have no effect. (xterm's control sequences: `m`; ECMA-48 8.3.117; ISO 8613-6 for the
-- parameters of a colour)
use Rattle.std.specs.Prelude.{ℕ, List, [], ◌∷◌, Bool, ◌==◌, ◌||◌, if◌then◌else◌}
use Rattle.std.proofs.Common.{zero, suc}
use Rattle.vt_term.specs.State.{Display}
use Rattle.vt_term.specs.Rendition.{select_graphic_rendition}

-- 38, 48 and 58 begin a colour, by the parameters after them
abbrev pub begins_colour : ℕ → Bool
begins_colour p = p == 38 || (p == 48 || p == 58)

-- how many parameters of a colour follow: 5 and an index; 2, red, green and blue; otherwise one
abbrev pub colour_length : List ℕ → ℕ
colour_length [] = 0
colour_length (kind ∷ params) = if kind == 5 then 2 else (if kind == 2 then 4 else 1)

-- the parameters without colours, after so many that belong to one
abbrev pub without_colours : ℕ → List ℕ → List ℕ
without_colours n [] = []
without_colours zero (p ∷ params) =
    if begins_colour p then without_colours (colour_length params) params else p ∷ without_colours 0 params
without_colours (suc n) (p ∷ params) = without_colours n params

-- SGR: the attributes of a VT220
abbrev pub select_attributes : List ℕ → Display → Display
select_attributes params s = select_graphic_rendition (without_colours 0 params) s
