-- Text: characters whose glyphs are written one after another, before the last column. Laws and contracts of text cite this.
use Rattle.std.specs.Prelude.{◌≡◌, ◌≤◌, ◌+◌, ◌⊎◌, ℕ, length, List, [], ◌∷◌, ◌++◌, All, None, Bool, true, false, ◌==◌, nat_lt, if◌then◌else◌, map, flat_map}
use Rattle.vt_syntax.specs.declared.held.Held.TheVariants.{Nothing}
use Rattle.vt_glyph.specs.Tables.{space}
use Rattle.vt_glyph.specs.Encoding.{IsEncoding, encoded_glyph}
use Rattle.vt_term.specs.State.{State}
use Rattle.vt_utf8.specs.Cells.{cells}
use Rattle.vt_utf8.specs.Similar.{shown}
use Rattle.vt_term.specs.Writing.{write_glyphs}
use Rattle.vt_utf8.specs.Decoding.{characters, pending_after}
use Rattle.vt_utf8.specs.Translation.{reads_ascii}

-- the glyphs of a character: its own, and in the second cell a space
abbrev pub glyphs_of : ℕ → List ℕ
glyphs_of c =
    if nat_lt c 0x80 then c ∷ [] else (
    if cells c == 1 then shown c ∷ [] else shown c ∷ space ∷ [])

-- ASCII with a glyph, if ASCII is read as itself, or a character of one or two cells
abbrev pub IsInText : Bool → ℕ → Type 0
IsInText ascii c =
    ((ascii ≡ true) × ((0x20 ≤ c) × (c ≤ 0x7E))) ⊎ ((0x80 ≤ c) × ((cells c ≡ 1) ⊎ (cells c ≡ 2)))

-- between sequences, and neither a single shift nor a wrap is pending
pub record IsReady (s : State) : Type 0 where
  pub held : s.held ≡ Nothing
  pub pending : s.display.sets.pending ≡ None
  pub wrap : s.display.cursor.wrap ≡ false

-- bytes are text, if nothing is pending before them, and the codes of its glyphs come after others
pub record ReadsText (ascii : Bool) (bytes before after : List ℕ) : Type 0 where
  pub is_text : All (IsInText ascii) (characters [] bytes)
  pub pending : pending_after [] bytes ≡ []
  pub glyphs : map encoded_glyph after ≡ map encoded_glyph before ++ flat_map glyphs_of (characters [] bytes)
  pub codes : All IsEncoding before → All IsEncoding after

-- the codes of the glyphs of a character beyond ASCII come after others
pub record WritesCharacter (c : ℕ) (before after : List ℕ) : Type 0 where
  pub is_text : IsInText false c
  pub glyphs : map encoded_glyph after ≡ map encoded_glyph before ++ glyphs_of c
  pub codes : All IsEncoding before → All IsEncoding after

-- bytes are text, if nothing is pending before them, and it is written before the last column
pub record WritesText (s : State) (bytes : List ℕ) (t : State) : Type 0 where
  pub pending : pending_after [] bytes ≡ []
  pub is_text : All (IsInText (reads_ascii s.display.sets)) (characters [] bytes)
  pub ready : 1 ≤ length bytes → IsReady s
  pub fits : s.display.cursor.col + length (flat_map glyphs_of (characters [] bytes)) ≤ s.display.grid.width
  pub state : t ≡ record s { display = write_glyphs (flat_map glyphs_of (characters [] bytes)) s.display }
