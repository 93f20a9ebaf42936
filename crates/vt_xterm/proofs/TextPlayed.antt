-- Text under TERM=xterm, while DECLRMM is reset: its glyphs are written one after another.
use Rattle.std.proofs.Common.{◌≡◌, ℕ, ◌≤◌, ◌<◌, Bool, true, false, List, [], ◌∷◌, All, None, inl, inr, refl, sym, ap, subst, ◌∙◌, arith, append-nil}
use Rattle.std.specs.Prelude.{flat_map, if◌then◌else◌}
use Rattle.std.proofs.lemmas.List.Elements.{All-nil, All-cons}
use Rattle.vt_syntax.specs.declared.event.Event.TheVariants.{Print}
use Rattle.vt_syntax.specs.declared.held.Held.{Held}
use Rattle.vt_syntax.specs.declared.held.Held.TheVariants.{Nothing}
use Rattle.vt_syntax.specs.Held.{events_from}
use Rattle.vt_syntax.specs.Laws.{SpellingLaw}
use Rattle.vt_glyph.specs.Invocation.{HasGlyph}
use Rattle.vt_screen.specs.declared.cell.Cell.{Cell}
use Rattle.vt_screen.specs.declared.size.Size.{Size}
use Rattle.vt_term.specs.State.{State}
use Rattle.vt_term.specs.Sound.{IsSoundAt}
use Rattle.vt_term.specs.Scrolling.{scrolled_off}
use Rattle.vt_term.specs.Writing.{write_glyphs}
use Rattle.vt_term.specs.Play.{Played, play}
use Rattle.vt_term.proofs.Bytes.{graphic-events}
use Rattle.vt_utf8.specs.Decoding.{characters}
use Rattle.vt_utf8.specs.Translation.{translation, reads_ascii}
use Rattle.vt_utf8.specs.Play.{translated_all}
use Rattle.vt_utf8.specs.Text.{glyphs_of, IsInText, IsReady, WritesText}
use Rattle.vt_utf8.proofs.Cuts.{translation-ascii}
use Rattle.vt_utf8.proofs.TakenAs.{translated-one}
use Rattle.vt_utf8.proofs.Wide.{silently, KeepsSoundAt}
use Rattle.vt_utf8.proofs.Texts.{GlyphsLeave, GlyphsTwo, FitsRow, OfText, PlaysText, TextOff, after_glyphs, each}
use Rattle.vt_xterm.specs.Pages.{PagesState}
use Rattle.vt_xterm.specs.Play.{Whole, WholePlayed, both, play_character, play_characters, nothing_played, whole_of, screens_of}
use Rattle.vt_xterm.specs.Terminals.{AreTerminals, PlaysTerminals}
use Rattle.vt_xterm.proofs.Cuts.{character-ascii}
use Rattle.vt_xterm.proofs.Fed.{character-beyond}
use Rattle.vt_xterm.proofs.NoSides.{none-bounds}
use Rattle.vt_xterm.proofs.OfOneSize.{played-size}
use Rattle.vt_xterm.proofs.Terminals.{bytes-terminals}

-- bytes of the terminal, played as on a VT220
abbrev as_terminal : Whole → List ℕ → WholePlayed
as_terminal w bytes = record {
  whole = record w { state = (play w.state bytes).state };
  reports = (play w.state bytes).reports;
  lines = if w.pages.alternate then [] else scrolled_off w.state bytes;
}

ascii-plays : SpellingLaw → (s : State) (c : ℕ) → s.held ≡ Nothing → 0x20 ≤ c → c ≤ 0x7E → PlaysTerminals s (c ∷ [])
unfolding AreTerminals
ascii-plays spelled s c between low high =
    let have : All HasGlyph (c ∷ []) = All-cons HasGlyph c [] (inl (low, high)) (All-nil HasGlyph) in
    let one : AreTerminals (Print c ∷ []) = ((λ t none. (refl, refl)), tt) in
    subst (λ (h : Held). AreTerminals (events_from h (c ∷ []))) (sym between)
    (subst AreTerminals (sym (graphic-events spelled (c ∷ []) have)) one)

-- a character of text is played as on a VT220
as-terminal : SpellingLaw → (s : State) (pages : PagesState) (c : ℕ) (ascii : Bool) → pages.sides ≡ None → s.held ≡ Nothing
    → IsInText ascii c → play_character (whole_of s pages) c ≡ as_terminal (whole_of s pages) (translation s c)
as-terminal spelled s pages c ascii none between (inl is) =
    let w = whole_of s pages in
    let low : 0x20 ≤ c = is.1.0 in
    let high : c ≤ 0x7E = is.1.1 in
    let below : c < 0x80 = omega (arith, high) in
    character-ascii w c below
    ∙ bytes-terminals w (c ∷ []) none (ascii-plays spelled s c between low high)
    ∙ ap (λ (b : List ℕ). as_terminal w b) (sym (translation-ascii s c below))
as-terminal spelled s pages c ascii none between (inr (beyond, _)) =
    character-beyond s pages c None beyond (none-bounds (screens_of (whole_of s pages)) none)

no-lines : (b : Bool) (rows : List (List Cell)) → rows ≡ [] → (if b then [] else rows) ≡ []
no-lines true rows is = refl
no-lines false rows is = is

module _ (spelled : SpellingLaw) {size : Size} (plays : OfText PlaysText size) (off : OfText TextOff size) (leave : GlyphsLeave) (parts : GlyphsTwo)
    (keeps : KeepsSoundAt size) (pages : PagesState) (none : pages.sides ≡ None) where
  -- one character
  step : (s : State) (c : ℕ) → IsSoundAt size s → IsReady s → IsInText (reads_ascii s.display.sets) c → FitsRow s (glyphs_of c)
      → (play_character (whole_of s pages) c ≡ nothing_played (whole_of (after_glyphs s (glyphs_of c)) pages))
      × IsSoundAt size (after_glyphs s (glyphs_of c))
  step s c sound ready is room =
      let w = whole_of s pages in
      let all : All (IsInText (reads_ascii s.display.sets)) (c ∷ []) =
      All-cons (IsInText (reads_ascii s.display.sets)) c [] is (All-nil (IsInText (reads_ascii s.display.sets))) in
      let own : flat_map glyphs_of (c ∷ []) ≡ glyphs_of c = append-nil (glyphs_of c) in
      let fits : FitsRow s (flat_map glyphs_of (c ∷ [])) = subst (λ (g : List ℕ). FitsRow s g) (sym own) room in
      let played : play s (translation s c) ≡ silently s (write_glyphs (glyphs_of c) s.display) =
      ap (λ (b : List ℕ). play s b) (sym (translated-one s c)) ∙ plays s (c ∷ []) sound ready all fits
      ∙ ap (λ (g : List ℕ). silently s (write_glyphs g s.display)) own in
      let silent : scrolled_off s (translation s c) ≡ [] =
      ap (λ (b : List ℕ). scrolled_off s b) (sym (translated-one s c)) ∙ off s (c ∷ []) sound ready all fits in (
        as-terminal spelled s pages c (reads_ascii s.display.sets) none ready.held is
            ∙ ap (λ (p : Played). record {
              whole = record w { state = p.state };
              reports = p.reports;
              lines = if pages.alternate then [] else scrolled_off s (translation s c);
            }) played
            ∙ ap (λ (rows : List (List Cell)). record {
              whole = whole_of (after_glyphs s (glyphs_of c)) pages;
              reports = [];
              lines = rows;
            }) (no-lines pages.alternate (scrolled_off s (translation s c)) silent),
        subst (IsSoundAt size) (ap (λ (p : Played). p.state) played) (keeps s (translation s c) sound),
      )

  text : OfText (λ s cs. play_characters (whole_of s pages) cs
      ≡ nothing_played (whole_of (after_glyphs s (flat_map glyphs_of cs)) pages)) size
  text = each leave parts (λ s c t. play_character (whole_of s pages) c ≡ nothing_played (whole_of t pages))
      (λ s cs t. play_characters (whole_of s pages) cs ≡ nothing_played (whole_of t pages)) (λ s sound. refl)
      (λ s t u c cs first rest. ap (λ (p : WholePlayed). both p (play_characters p.whole cs)) first
      ∙ ap (λ (p : WholePlayed). both (nothing_played (whole_of t pages)) p) rest) step

  -- text that was written
  pub text-written : (s t : State) (bytes : List ℕ) → IsSoundAt size s → WritesText s bytes t
      → play_characters (whole_of s pages) (characters [] bytes) ≡ nothing_played (whole_of t pages)
  text-written s t [] sound written = ap (λ (u : State). nothing_played (whole_of u pages)) (sym written.state)
  text-written s t (b ∷ bytes) sound written =
      text s (characters [] (b ∷ bytes)) sound (written.ready (omega arith)) written.is_text written.fits
      ∙ ap (λ (u : State). nothing_played (whole_of u pages)) (sym written.state)

-- text keeps the size
pub text-plays : {size : Size} → OfText PlaysText size → (s t : State) (bytes : List ℕ) → IsSoundAt size s → WritesText s bytes t
    → t.display.grid.size ≡ s.display.grid.size
text-plays plays s t [] sound written = ap (λ (u : State). u.display.grid.size) written.state
text-plays plays s t (b ∷ bytes) sound written =
    let cs = characters [] (b ∷ bytes) in
    played-size s t (translated_all s cs)
    (written.state
    ∙ sym (ap (λ (p : Played). p.state) (plays s cs sound (written.ready (omega arith)) written.is_text written.fits)))
