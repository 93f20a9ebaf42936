-- Text is its glyphs, written one after another.
use Rattle.std.proofs.Common.{◌≡◌, ℕ, suc, ◌+◌, ◌≤◌, ◌<◌, Bool, true, false, List, [], ◌∷◌, ◌++◌, All, inl, inr, refl, sym, ap, subst, ◌∙◌, arith, append-nil, append_assoc, length, map, take, drop}
use Rattle.std.specs.Prelude.{nat_lt, ◌==◌, ◌⊎◌, flat_map, slice_index}
use Rattle.std.proofs.Math.Seq.{take-add}
use Rattle.std.proofs.lemmas.Bool.Decides.{nat_tests}
use Rattle.std.proofs.lemmas.Grind.{flat_map-append}
use Rattle.std.proofs.lemmas.List.{length-append, length-map, map-append}
use Rattle.std.proofs.lemmas.List.Elements.{All-nil, All-cons, All-append}
use Rattle.bstr.specs.Utf8.{replacement}
use Rattle.vt_syntax.specs.Class.{IsPlain}
use Rattle.vt_syntax.specs.Laws.{SplitLaw, SpellingLaw}
use Rattle.vt_glyph.specs.declared.glyph.Spelling.TheVariants.{Plain}
use Rattle.vt_glyph.specs.GraphicSets.{GraphicSets}
use Rattle.vt_glyph.specs.Tables.{IsGlyph, space}
use Rattle.vt_glyph.specs.Spell.{spelling_of}
use Rattle.vt_glyph.specs.Encoding.{IsEncoding, encoded_glyph, encoded_spelling}
use Rattle.vt_glyph.specs.Laws.{GlyphLaws, SpellingLaws}
use Rattle.vt_screen.specs.declared.cell.Cell.{Cell}
use Rattle.vt_screen.specs.declared.size.Size.{Size}
use Rattle.vt_term.specs.declared.state.Cursor.{Cursor}
use Rattle.vt_term.specs.State.{Display, State, last_column}
use Rattle.vt_term.specs.Sound.{IsSoundAt}
use Rattle.vt_term.specs.Scrolling.{scrolled_off}
use Rattle.vt_term.specs.Writing.{write_glyph, write_glyphs, IsAfterGlyphs}
use Rattle.vt_term.specs.Play.{Played, play, both}
use Rattle.vt_utf8.specs.Cells.{cells}
use Rattle.vt_utf8.specs.Similar.{shown}
use Rattle.vt_utf8.specs.Decoding.{Read, read, characters, pending_after, IsWhole}
use Rattle.vt_utf8.specs.Translation.{written, translation, glyph_off, is_at_end, reads_ascii, write_wide}
use Rattle.vt_utf8.specs.Play.{translated_all}
use Rattle.vt_utf8.specs.Private.Cut.{IsCut}
use Rattle.vt_utf8.specs.Text.{glyphs_of, IsInText, IsReady, ReadsText, WritesCharacter, WritesText}
use Rattle.vt_utf8.proofs.CutOff.{told, left}
use Rattle.vt_utf8.proofs.Firsts.{first-apart, first-begun, read-nothing}
use Rattle.vt_utf8.proofs.Cuts.{characters-append, pending-append, translation-ascii, ascii-characters, ascii-pending}
use Rattle.vt_utf8.proofs.Written.{off-written, writes-one, off-one, unshifted-same}
use Rattle.vt_utf8.proofs.Wide.{silently, KeepsSoundAt, PlaysTwo, plays-glyph, plays-wide, off-wide}

-- ASCII codes are the codes of their own glyphs
abbrev pub AsciiCodes : Type 0
AsciiCodes = (code : ℕ) → 0x20 ≤ code → code ≤ 0x7E → IsEncoding code × (encoded_glyph code ≡ code)

-- glyphs before the last column
abbrev pub GlyphsLeave : Type 0
GlyphsLeave = (glyphs : List ℕ) (s : Display) → s.cursor.wrap ≡ false → s.cursor.col + length glyphs ≤ s.grid.width
    → IsAfterGlyphs (length glyphs) s (write_glyphs glyphs s)

-- glyphs in two parts
abbrev pub GlyphsTwo : Type 0
GlyphsTwo = (a b : List ℕ) (s : Display) → write_glyphs (a ++ b) s ≡ write_glyphs b (write_glyphs a s)

-- what writing glyphs leaves
abbrev pub after_glyphs : State → List ℕ → State
after_glyphs s glyphs = record s { display = write_glyphs glyphs s.display }

-- text fits before the last column
abbrev pub FitsRow : State → List ℕ → Type 0
FitsRow s glyphs = s.display.cursor.col + length glyphs ≤ s.display.grid.width

-- what holds of text before the last column
abbrev pub OfText : (State → List ℕ → Type 0) → Size → Type 0
OfText holds size = (s : State) (cs : List ℕ) → IsSoundAt size s → IsReady s → All (IsInText (reads_ascii s.display.sets)) cs
    → FitsRow s (flat_map glyphs_of cs) → holds s cs

abbrev pub PlaysText : State → List ℕ → Type 0
PlaysText s cs = play s (translated_all s cs) ≡ record { state = after_glyphs s (flat_map glyphs_of cs); reports = [] }

abbrev pub TextOff : State → List ℕ → Type 0
TextOff s cs = scrolled_off s (translated_all s cs) ≡ []

-- what a character of text does, characters of text do in turn
module _ {size : Size} (leave : GlyphsLeave) (parts : GlyphsTwo) (DoesOne : State → ℕ → State → Type 0)
    (Does : State → List ℕ → State → Type 0) (nothing : (s : State) → IsSoundAt size s → Does s [] s)
    (more : (s t u : State) (c : ℕ) (cs : List ℕ) → DoesOne s c t → Does t cs u → Does s (c ∷ cs) u)
    (step : (s : State) (c : ℕ) → IsSoundAt size s → IsReady s → IsInText (reads_ascii s.display.sets) c → FitsRow s (glyphs_of c)
    → DoesOne s c (after_glyphs s (glyphs_of c)) × IsSoundAt size (after_glyphs s (glyphs_of c))) where
  pub each : OfText (λ s cs. Does s cs (after_glyphs s (flat_map glyphs_of cs))) size
  each s [] sound ready all fits = nothing s sound
  each s (c ∷ cs) sound ready all fits =
      let d = s.display in
      let own = glyphs_of c in
      let later = flat_map glyphs_of cs in
      let total : length (flat_map glyphs_of (c ∷ cs)) ≡ length own + length later = length-append own later in
      let first = step s c sound ready (all 0 0 (omega arith)) (omega (arith, total, fits)) in
      let t : State = after_glyphs s own in
      let after = leave own d ready.wrap (omega (arith, total, fits)) in
      let column : t.display.cursor.col ≡ d.cursor.col + length own = ap (λ (k : Cursor). k.col) after.cursor in
      let ready_after : IsReady t = record {
        held = ready.held;
        pending = ap (λ (g : GraphicSets). g.pending) after.sets ∙ ready.pending;
        wrap = ap (λ (k : Cursor). k.wrap) after.cursor;
      } in
      let all_after : All (IsInText (reads_ascii t.display.sets)) cs =
      subst (λ (g : GraphicSets). All (IsInText (reads_ascii g)) cs) (sym after.sets) (λ k e h. all (suc k) e (omega (arith, h))) in
      subst (λ (e : Display). Does s (c ∷ cs) (record s { display = e })) (sym (parts own later d))
      (more s t (after_glyphs t later) c cs first.0
      (each t cs first.1 ready_after all_after (omega (arith, total, fits, column, after.width))))

-- ---- one character

record DoesStep (s : State) (c : ℕ) (t : State) : Type 0 where
  plays : play s (translation s c) ≡ record { state = t; reports = [] }
  off : scrolled_off s (translation s c) ≡ []

no-wrap_off : (d : Display) → d.cursor.wrap ≡ false → glyph_off d ≡ []
no-wrap_off d none = rw none refl

plain-spelling : (c : ℕ) → 0x20 ≤ c → c ≤ 0x7E → encoded_spelling c ≡ Plain c
plain-spelling c low high =
    let e : nat_lt c 0x20 ≡ false = grind (arith, nat_tests) in
    let f : nat_lt c 0x80 ≡ true = grind (arith, nat_tests) in
    rw (e, f) refl

is-ascii : (c : ℕ) → c ≤ 0x7E → nat_lt c 0x80 ≡ true
is-ascii c high = grind (arith, nat_tests)

beyond-ascii : (c : ℕ) → 0x80 ≤ c → nat_lt c 0x80 ≡ false
beyond-ascii c beyond = grind (arith, nat_tests)

ascii-glyphs : (c : ℕ) → c ≤ 0x7E → glyphs_of c ≡ c ∷ []
ascii-glyphs c high = rw (is-ascii c high) refl

one-glyphs : (c : ℕ) → 0x80 ≤ c → cells c ≡ 1 → glyphs_of c ≡ shown c ∷ []
one-glyphs c beyond one = rw (beyond-ascii c beyond, one) refl

two-glyphs : (c : ℕ) → 0x80 ≤ c → cells c ≡ 2 → glyphs_of c ≡ shown c ∷ space ∷ []
two-glyphs c beyond two = rw (beyond-ascii c beyond, two) refl

inside-row : (d : Display) → d.cursor.col + 2 ≤ d.grid.width → is_at_end d ≡ false
inside-row d fits = let e : (d.cursor.col == last_column d) ≡ false = grind (arith, nat_tests) in rw e refl

module _ (spelled : SpellingLaw) (spelling : SpellingLaws) (glyphs : GlyphLaws) (split : SplitLaw) (ascii : AsciiCodes)
    {size : Size} (keeps : KeepsSoundAt size) (two : PlaysTwo)
    (nothing : (s : State) → IsSoundAt size s → play s [] ≡ record { state = s; reports = [] }) where
  ascii-step : (s : State) (c : ℕ) → IsSoundAt size s → IsReady s → reads_ascii s.display.sets ≡ true → 0x20 ≤ c → c ≤ 0x7E
      → DoesStep s c (after_glyphs s (glyphs_of c))
  ascii-step s c sound ready reads low high =
      let d = s.display in
      let code = ascii c low high in
      let is : IsGlyph c = subst IsGlyph code.1 code.0.glyph in
      let plain : spelling_of c ≡ Plain c = ap spelling_of (sym code.1) ∙ code.0.spelling ∙ plain-spelling c low high in
      let own : written c d.sets ≡ c ∷ [] = rw (plain, reads) refl in
      let bytes : translation s c ≡ written c d.sets = translation-ascii s c (omega (arith, high)) ∙ sym own in
      record {
        plays = ap (λ (b : List ℕ). play s b) bytes
            ∙ plays-glyph spelled spelling s c sound ready.held ready.pending is
            ∙ ap (λ (g : List ℕ). silently s (write_glyphs g d)) (sym (ascii-glyphs c high));
        off = ap (λ (b : List ℕ). scrolled_off s b) bytes
            ∙ off-written spelled spelling s c sound ready.held is ∙ no-wrap_off d ready.wrap;
      }

  one-step : (s : State) (c : ℕ) → IsSoundAt size s → IsReady s → 0x80 ≤ c → cells c ≡ 1
      → DoesStep s c (after_glyphs s (glyphs_of c))
  one-step s c sound ready beyond one = record {
    plays = writes-one spelled spelling glyphs s c sound ready.held beyond one
        ∙ ap (λ (d : Display). silently s (write_glyph (shown c) d)) (unshifted-same s.display ready.pending)
        ∙ ap (λ (g : List ℕ). silently s (write_glyphs g s.display)) (sym (one-glyphs c beyond one));
    off = off-one spelled spelling glyphs s c sound ready.held beyond one ∙ no-wrap_off s.display ready.wrap;
  }

  two-step : (s : State) (c : ℕ) → IsSoundAt size s → IsReady s → 0x80 ≤ c → cells c ≡ 2
      → FitsRow s (glyphs_of c) → DoesStep s c (after_glyphs s (glyphs_of c))
  two-step s c sound ready beyond is fits =
      let d = s.display in
      let room : d.cursor.col + 2 ≤ d.grid.width =
      subst (λ (g : List ℕ). d.cursor.col + length g ≤ d.grid.width) (two-glyphs c beyond is) fits in
      let inside : is_at_end d ≡ false = inside-row d room in
      let both_written : write_wide (shown c) d ≡ write_glyph space (write_glyph (shown c) d) = rw inside refl in
      record {
        plays = plays-wide spelled spelling glyphs keeps two nothing s c sound ready.held ready.pending beyond is
            ∙ ap (λ (e : Display). silently s e) both_written
            ∙ ap (λ (g : List ℕ). silently s (write_glyphs g d)) (sym (two-glyphs c beyond is));
        off = off-wide spelled spelling glyphs split keeps s c sound ready.held ready.pending beyond is inside
            ∙ no-wrap_off d ready.wrap;
      }

  one : (s : State) (c : ℕ) → IsSoundAt size s → IsReady s → IsInText (reads_ascii s.display.sets) c → FitsRow s (glyphs_of c)
      → DoesStep s c (after_glyphs s (glyphs_of c))
  one s c sound ready (inl is) fits = ascii-step s c sound ready is.0 is.1.0 is.1.1
  one s c sound ready (inr (beyond, inl narrow)) fits = one-step s c sound ready beyond narrow
  one s c sound ready (inr (beyond, inr wide)) fits = two-step s c sound ready beyond wide fits

  step : (s : State) (c : ℕ) → IsSoundAt size s → IsReady s → IsInText (reads_ascii s.display.sets) c → FitsRow s (glyphs_of c)
      → DoesStep s c (after_glyphs s (glyphs_of c)) × IsSoundAt size (after_glyphs s (glyphs_of c))
  step s c sound ready is fits =
      let does = one s c sound ready is fits in
      (does, subst (IsSoundAt size) (ap (λ (p : Played). p.state) does.plays) (keeps s (translation s c) sound))

  -- ---- characters

  pub record DoesText (s : State) (cs : List ℕ) (t : State) : Type 0 where
    pub plays : play s (translated_all s cs) ≡ record { state = t; reports = [] }
    pub off : scrolled_off s (translated_all s cs) ≡ []

  module _ (leave : GlyphsLeave) (parts : GlyphsTwo)
      (off_none : (s : State) → IsSoundAt size s → scrolled_off s [] ≡ [])
      (off_two : (s : State) (a b : List ℕ) → scrolled_off s (a ++ b) ≡ scrolled_off s a ++ scrolled_off (play s a).state b) where
    more : (s t u : State) (c : ℕ) (cs : List ℕ) → DoesStep s c t → DoesText t cs u → DoesText s (c ∷ cs) u
    more s t u c cs first rest = record {
      plays = two s (translation s c) (translated_all (play s (translation s c)).state cs)
          ∙ ap (λ (p : Played). both p (play p.state (translated_all p.state cs))) first.plays
          ∙ ap (λ (p : Played). both (record { state = t; reports = [] }) p) rest.plays;
      off = off_two s (translation s c) (translated_all (play s (translation s c)).state cs)
          ∙ ap (λ (p : Played). scrolled_off s (translation s c) ++ scrolled_off p.state (translated_all p.state cs)) first.plays
          ∙ ap (λ (rows : List (List Cell)). rows ++ scrolled_off t (translated_all t cs)) first.off
          ∙ rest.off;
    }

    pub text : OfText (λ s cs. DoesText s cs (after_glyphs s (flat_map glyphs_of cs))) size
    text = each leave parts DoesStep DoesText (λ s sound. record { plays = nothing s sound; off = off_none s sound }) more step

-- ---- reading

pub reads-none : (ascii : Bool) (codes : List ℕ) → ReadsText ascii [] codes codes
reads-none ascii codes = record {
  is_text = All-nil (IsInText ascii);
  pending = refl;
  glyphs = sym (append-nil (map encoded_glyph codes));
  codes = λ all. all;
}

pub reads-append : (ascii : Bool) (a b o p q : List ℕ) → ReadsText ascii a o p → ReadsText ascii b p q
    → ReadsText ascii (a ++ b) o q
reads-append ascii a b o p q first second =
    let cs = characters [] a in
    let ds = characters [] b in
    let all : characters [] (a ++ b) ≡ cs ++ ds =
    characters-append [] a b ∙ ap (λ (left : List ℕ). cs ++ characters left b) first.pending in
    record {
      is_text = subst (All (IsInText ascii)) (sym all) (All-append (IsInText ascii) cs ds first.is_text second.is_text);
      pending = pending-append [] a b ∙ ap (λ (left : List ℕ). pending_after left b) first.pending ∙ second.pending;
      glyphs = second.glyphs ∙ ap (λ (g : List ℕ). g ++ flat_map glyphs_of ds) first.glyphs
          ∙ append_assoc (map encoded_glyph o) (flat_map glyphs_of cs) (flat_map glyphs_of ds)
          ∙ ap (λ (g : List ℕ). map encoded_glyph o ++ g)
          (sym (flat_map-append glyphs_of cs ds) ∙ ap (λ (xs : List ℕ). flat_map glyphs_of xs) (sym all));
      codes = λ before. second.codes (first.codes before);
    }

pub reads-more : (ascii : Bool) (piece o p q : List ℕ) (at n : ℕ) → ReadsText ascii (take at piece) o p
    → ReadsText ascii (take n (drop at piece)) p q → ReadsText ascii (take (at + n) piece) o q
reads-more ascii piece o p q at n first second =
    rw (take-add at n piece) (reads-append ascii (take at piece) (take n (drop at piece)) o p q first second)

pub reads-ascii : AsciiCodes → (b : ℕ) (codes after : List ℕ) → 0x20 ≤ b → b ≤ 0x7E → after ≡ codes ++ b ∷ []
    → ReadsText true (b ∷ []) codes after
reads-ascii ascii b codes after low high is =
    let code = ascii b low high in
    let below : All (λ x. x < 0x80) (b ∷ []) = All-cons (λ x. x < 0x80) b [] (omega (arith, high)) (All-nil (λ x. x < 0x80)) in
    let own : characters [] (b ∷ []) ≡ b ∷ [] = ascii-characters (b ∷ []) below in
    let glyphs : flat_map glyphs_of (b ∷ []) ≡ b ∷ [] =
    append-nil (glyphs_of b) ∙ ascii-glyphs b high in
    rw is (record {
      is_text = subst (All (IsInText true)) (sym own)
          (All-cons (IsInText true) b [] (inl (refl, (low, high))) (All-nil (IsInText true)));
      pending = ascii-pending (b ∷ []) below;
      glyphs = map-append encoded_glyph codes (b ∷ [])
          ∙ ap (λ (n : ℕ). map encoded_glyph codes ++ n ∷ []) code.1
          ∙ ap (λ (g : List ℕ). map encoded_glyph codes ++ g) (sym glyphs ∙ ap (λ (xs : List ℕ). flat_map glyphs_of xs) (sym own));
      codes = λ before. All-append IsEncoding codes (b ∷ []) before (All-cons IsEncoding b [] code.0 (All-nil IsEncoding));
    })

pub reads-run : AsciiCodes → (run codes after : List ℕ) → All IsPlain run → after ≡ codes ++ run → ReadsText true run codes after
reads-run ascii [] codes after all is = subst (ReadsText true [] codes) (sym (is ∙ append-nil codes)) (reads-none true codes)
reads-run ascii (b ∷ run) codes after all is =
    let first = all 0 0 (omega arith) in
    reads-append true (b ∷ []) run codes (codes ++ b ∷ []) after
    (reads-ascii ascii b codes (codes ++ b ∷ []) first.0 first.1 refl)
    (reads-run ascii run (codes ++ b ∷ []) after (λ k e h. all (suc k) e (omega (arith, h)))
    (is ∙ sym (append_assoc codes (b ∷ []) run)))

any-text : (ascii : Bool) (c : ℕ) → IsInText false c → IsInText ascii c
any-text ascii c (inl is) = let wrong : false ≡ true = is.0 in absurd cc
any-text ascii c (inr is) = inr is

pub reads-whole : (ascii : Bool) (piece : List ℕ) (c n : ℕ) (codes after : List ℕ) → IsWhole piece c n
    → WritesCharacter c codes after → ReadsText ascii (take n piece) codes after
reads-whole ascii piece c n codes after whole writes = record {
  is_text = subst (All (IsInText ascii)) (sym whole.characters)
      (All-cons (IsInText ascii) c [] (any-text ascii c writes.is_text) (All-nil (IsInText ascii)));
  pending = whole.pending;
  glyphs = writes.glyphs ∙ ap (λ (g : List ℕ). map encoded_glyph codes ++ g)
      (sym (append-nil (glyphs_of c)) ∙ ap (λ (xs : List ℕ). flat_map glyphs_of xs) (sym whole.characters));
  codes = writes.codes;
}

-- ---- ill-formed bytes

-- a byte that begins no character is U+FFFD
pub lone-whole : (piece : List ℕ) → 1 ≤ length piece → 0x80 ≤ slice_index piece 0
    → (slice_index piece 0 < 0xC2) ⊎ (0xF4 < slice_index piece 0) → IsWhole piece replacement 1
lone-whole [] some beyond is = absurd (omega (arith, some))
lone-whole (b ∷ rest) some beyond is =
    let own : read [] b ≡ record { characters = replacement ∷ []; pending = [] } = read-nothing b ∙ first-apart b beyond is in
    record {
      some = omega arith;
      within = omega arith;
      characters = ap (λ (r : Read). r.characters ++ []) own;
      pending = ap (λ (r : Read). r.pending) own;
    }

-- a first byte that ASCII cuts off is U+FFFD, and the ASCII comes after it
module _ (b x : ℕ) (from : 0xC2 ≤ b) (to : b ≤ 0xF4) (low : 0x20 ≤ x) (high : x ≤ 0x7E) where
  first-read : read [] b ≡ record { characters = []; pending = b ∷ [] }
  first-read = read-nothing b ∙ first-begun b from to

  first-cut : IsCut (b ∷ []) x
  first-cut = record { one = refl; beyond = omega (arith, from); apart = grind (arith, nat_tests) }

  both-characters : characters [] (b ∷ x ∷ []) ≡ replacement ∷ x ∷ []
  both-characters = ap (λ (r : Read). r.characters ++ characters r.pending (x ∷ [])) first-read
      ∙ ap (λ (cs : List ℕ). cs ++ []) (told (b ∷ []) x first-cut (omega (arith, high)))

  both-left : pending_after [] (b ∷ x ∷ []) ≡ []
  both-left = ap (λ (r : Read). pending_after r.pending (x ∷ [])) first-read ∙ left (b ∷ []) x first-cut (omega (arith, high))

  reads-both : AsciiCodes → (codes middle after : List ℕ) → WritesCharacter replacement codes middle → after ≡ middle ++ x ∷ []
      → ReadsText true (b ∷ x ∷ []) codes after
  reads-both ascii codes middle after writes is =
      let code = ascii x low high in
      let glyphs : flat_map glyphs_of (replacement ∷ x ∷ []) ≡ glyphs_of replacement ++ x ∷ [] =
      ap (λ (g : List ℕ). glyphs_of replacement ++ (g ++ [])) (ascii-glyphs x high) in
      rw is (record {
        is_text = subst (All (IsInText true)) (sym both-characters)
            (All-cons (IsInText true) replacement (x ∷ []) (any-text true replacement writes.is_text)
            (All-cons (IsInText true) x [] (inl (refl, (low, high))) (All-nil (IsInText true))));
        pending = both-left;
        glyphs = map-append encoded_glyph middle (x ∷ [])
            ∙ ap (λ (g : List ℕ). g ++ encoded_glyph x ∷ []) writes.glyphs
            ∙ ap (λ (n : ℕ). (map encoded_glyph codes ++ glyphs_of replacement) ++ n ∷ []) code.1
            ∙ append_assoc (map encoded_glyph codes) (glyphs_of replacement) (x ∷ [])
            ∙ ap (λ (g : List ℕ). map encoded_glyph codes ++ g)
            (sym glyphs ∙ ap (λ (xs : List ℕ). flat_map glyphs_of xs) (sym both-characters));
        codes = λ before. All-append IsEncoding middle (x ∷ []) (writes.codes before)
            (All-cons IsEncoding x [] code.0 (All-nil IsEncoding));
      })

pub reads-cut : AsciiCodes → (piece codes middle after : List ℕ) → 2 ≤ length piece
    → 0xC2 ≤ slice_index piece 0 → slice_index piece 0 ≤ 0xF4 → 0x20 ≤ slice_index piece 1 → slice_index piece 1 ≤ 0x7E
    → WritesCharacter replacement codes middle → after ≡ middle ++ slice_index piece 1 ∷ []
    → ReadsText true (take 2 piece) codes after
reads-cut ascii [] codes middle after some from to low high writes is = absurd (omega (arith, some))
reads-cut ascii (b ∷ []) codes middle after some from to low high writes is = absurd (omega (arith, some))
reads-cut ascii (b ∷ x ∷ rest) codes middle after some from to low high writes is =
    reads-both b x from to low high ascii codes middle after writes is

-- ---- the codes of a character

pub writes-narrow : (c code : ℕ) (codes after : List ℕ) → 0x80 ≤ c → cells c ≡ 1 → encoded_glyph code ≡ shown c
    → IsEncoding code → after ≡ codes ++ code ∷ [] → WritesCharacter c codes after
writes-narrow c code codes after beyond one shows encodes is = rw is (record {
  is_text = inr (beyond, inl one);
  glyphs = map-append encoded_glyph codes (code ∷ [])
      ∙ ap (λ (n : ℕ). map encoded_glyph codes ++ n ∷ []) shows
      ∙ ap (λ (g : List ℕ). map encoded_glyph codes ++ g) (sym (one-glyphs c beyond one));
  codes = λ before. All-append IsEncoding codes (code ∷ []) before (All-cons IsEncoding code [] encodes (All-nil IsEncoding));
})

pub writes-two : AsciiCodes → (c code : ℕ) (codes middle after : List ℕ) → 0x80 ≤ c → cells c ≡ 2 → encoded_glyph code ≡ shown c
    → IsEncoding code → middle ≡ codes ++ code ∷ [] → after ≡ middle ++ 0x20 ∷ [] → WritesCharacter c codes after
writes-two ascii c code codes middle after beyond wide shows encodes first second =
    let blank = ascii 0x20 (omega arith) (omega arith) in
    let all : after ≡ codes ++ code ∷ 0x20 ∷ [] =
    second ∙ ap (λ (m : List ℕ). m ++ 0x20 ∷ []) first ∙ append_assoc codes (code ∷ []) (0x20 ∷ []) in
    rw all (record {
      is_text = inr (beyond, inr wide);
      glyphs = map-append encoded_glyph codes (code ∷ 0x20 ∷ [])
          ∙ ap (λ (n : ℕ). map encoded_glyph codes ++ n ∷ encoded_glyph 0x20 ∷ []) shows
          ∙ ap (λ (n : ℕ). map encoded_glyph codes ++ shown c ∷ n ∷ []) blank.1
          ∙ ap (λ (g : List ℕ). map encoded_glyph codes ++ g) (sym (two-glyphs c beyond wide));
      codes = λ before. All-append IsEncoding codes (code ∷ 0x20 ∷ []) before
          (All-cons IsEncoding code (0x20 ∷ []) encodes (All-cons IsEncoding 0x20 [] blank.0 (All-nil IsEncoding)));
    })

-- ---- text that was read is written

text-length : (ascii : Bool) (bytes codes : List ℕ) → ReadsText ascii bytes [] codes
    → length (flat_map glyphs_of (characters [] bytes)) ≡ length codes
text-length ascii bytes codes read =
    ap (λ (g : List ℕ). length g) (sym read.glyphs) ∙ length-map codes encoded_glyph

pub writes-none : (s : State) → s.display.cursor.col ≤ last_column s.display → WritesText s [] s
writes-none s inside = record {
  pending = refl;
  is_text = All-nil (IsInText (reads_ascii s.display.sets));
  ready = λ some. absurd (omega (arith, some));
  fits = omega (arith, inside);
  state = refl;
}

pub writes-read : {ascii : Bool} {slice : List ℕ} (s t : State) (bytes codes : List ℕ) → ascii ≡ reads_ascii s.display.sets
    → ReadsText ascii bytes [] codes → IsReady s → s.display.cursor.col + length codes ≤ s.display.grid.width → slice ≡ codes
    → t ≡ record s { display = write_glyphs (map encoded_glyph slice) s.display } → WritesText s bytes t
writes-read {ascii} s t bytes codes is read ready fits same written = record {
  pending = read.pending;
  is_text = subst (λ (a : Bool). All (IsInText a) (characters [] bytes)) is read.is_text;
  ready = λ some. ready;
  fits = omega (arith, text-length ascii bytes codes read, fits);
  state = written ∙ ap (λ (xs : List ℕ). record s { display = write_glyphs (map encoded_glyph xs) s.display }) same
      ∙ ap (λ (g : List ℕ). record s { display = write_glyphs g s.display }) read.glyphs;
}
