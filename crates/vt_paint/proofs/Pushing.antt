-- One more piece, one more row, one more stop.
use Rattle.std.proofs.Common.{length, ◌≡◌, ◌≤◌, ◌<◌, ◌+◌, ◌-◌, ℕ, zero, suc, Bool, true, false, List, [], ◌∷◌, ◌++◌}
use Rattle.std.proofs.Common.{get_or, None, refl, sym, ap, ◌∙◌, arith, append-nil, append_assoc, ◌||◌, ◌&&◌, not}
use Rattle.std.proofs.Common.{cond, map, take}
use Rattle.std.specs.List.{range_with_len, flat_map, list_all}
use Rattle.std.proofs.lemmas.Grind.{flat_map-append}
use Rattle.std.proofs.lemmas.List.Folds.{list_all-append}
use Rattle.std.proofs.lemmas.List.Sums.{AllPass-from_list_all}
use Rattle.std.proofs.lemmas.List.{take_more, get_or-map}
use Rattle.std.proofs.Math.ListN.{get_or-append}
use Rattle.vt_term.specs.declared.state.Modes.{Modes}
use Rattle.vt_term.specs.State.{modes_at_power_up}
use Rattle.vt_paint.specs.declared.modes.TheConstants.{AT_POWER_UP}
use Rattle.vt_paint.specs.Controls.{private_mode, report_form, ModeRow, mode_rows, mode_event}
use Rattle.vt_paint.specs.Items.{mode_item, row_item}
use Rattle.vt_glyph.proofs.Lists.{all_in_range}
use Rattle.vt_paint.proofs.Equality.{or_false, not_false}
use Rattle.vt_screen.specs.Cells.{blank}
use Rattle.vt_screen.proofs.Places.{get_or-row_of, length-row_of}
use Rattle.vt_syntax.specs.declared.event.Event.{Event}
use Rattle.vt_syntax.specs.Spelling.{spell_event, spell_events}
use Rattle.vt_glyph.specs.declared.set.Set.{Set}
use Rattle.vt_glyph.specs.GraphicSets.{GraphicSets}
use Rattle.vt_paint.specs.Same.{is_blank}
use Rattle.vt_screen.specs.Same.{when}
use Rattle.vt_paint.specs.Controls.{sets_events}
use Rattle.vt_paint.specs.Pieces.{left_of, piece_of}
use Rattle.vt_paint.specs.Private.Parts.{pieces_from, row_pieces, rows_from}
use Rattle.vt_screen.specs.declared.cell.Cell.{Cell}
use Rattle.vt_screen.specs.Grid.{Grid, cell_at, row_of}

-- one more number of a range
range-suc : (n a m : ℕ) → a + n ≡ m → range_with_len a (suc n) ≡ range_with_len a n ++ m ∷ []
range-suc zero a m e = let same : a ≡ m = omega arith in rw same refl
range-suc (suc n) a m e = rw (← range-suc n (a + 1) m (omega arith)) refl

pub range-more : (a n m : ℕ) → a + n ≡ m → range_with_len a (n + 1) ≡ range_with_len a n ++ m ∷ []
range-more a n m e = let more : n + 1 ≡ suc n = omega arith in rw more (range-suc n a m e)

-- the events of one more number of a range are appended
pub appended-more : (f : ℕ → List Event) (a n m k : ℕ) (es : List Event) (old before after : List ℕ) → a + n ≡ m
    → n + 1 ≡ k → before ≡ old ++ spell_events (flat_map f (range_with_len a n)) → after ≡ before ++ spell_events es
    → es ≡ f m → after ≡ old ++ spell_events (flat_map f (range_with_len a k))
appended-more f a n m k es old before after e next h l is =
    rw (l, h, is, ← next, range-more a n m e) (simp (flat_map-append, append_assoc, append-nil))

-- a cell of a row
pub cell-is : (g : Grid) (r i : ℕ) (cells : List Cell) (x : Cell) → cells ≡ row_of g r → i < length cells
    → x ≡ get_or cells i x → x ≡ cell_at g r (i + 1)
cell-is g r i cells x h l is =
    let back : i ≡ i + 1 - 1 = omega arith in
    is ∙ ap (λ xs. get_or xs i x) h ∙ ap (λ n. get_or (row_of g r) n x) back
    ∙ get_or-row_of blank g r (i + 1) x (omega arith) (omega (arith, length-row_of blank g r, ap length h))

-- ---- one item after another

-- spelled events were appended
pub record Appends (old new : List ℕ) (es : List Event) : Type 0 where
  pub is : new ≡ old ++ spell_events es

pub then_events : {old mid new : List ℕ} {es fs : List Event} → Appends old mid es → Appends mid new fs
    → Appends old new (es ++ fs)
then_events {old} {mid} {new} {es} {fs} h k = record {
  is =
      k.is
      ∙ ap (λ (xs : List ℕ). xs ++ spell_events fs) h.is
      ∙ append_assoc old (spell_events es) (spell_events fs)
      ∙ ap (λ (xs : List ℕ). old ++ xs) (sym (flat_map-append spell_event es fs));
}

-- the items of a list were appended
pub record AppendsEach {A : Type 0} (item : A → List Event) (old new : List ℕ) (xs : List A) : Type 0 where
  is : new ≡ old ++ spell_events (flat_map item xs)

pub each_appended : {A : Type 0} {old new : List ℕ} (item : A → List Event) (xs : List A) → AppendsEach item old new xs
    → new ≡ old ++ spell_events (flat_map item xs)
each_appended item xs h = h.is

pub none_appended : {A : Type 0} {item : A → List Event} {old : List ℕ} → AppendsEach item old old []
none_appended {old} = record { is = sym (append-nil old) }

pub one_appended : {A : Type 0} {item : A → List Event} {old mid new : List ℕ} {x : A} {xs : List A}
    → mid ≡ old ++ spell_events (item x) → AppendsEach item mid new xs → AppendsEach item old new (x ∷ xs)
one_appended {item} {old} {mid} {new} {x} {xs} h k = record {
  is = (then_events {es = item x} {fs = flat_map item xs} (record { is = h }) (record { is = k.is })).is;
}

-- two items were appended at once
pub then_both : {old mid new : List ℕ} {gs : List Event} (es fs : List Event) → Appends old mid (es ++ fs)
    → Appends mid new gs → Appends old new (es ++ (fs ++ gs))
then_both {old} {mid} {new} {gs} es fs h k =
    record { is = (then_events h k).is ∙ ap (λ (xs : List Event). old ++ spell_events xs) (append_assoc es fs gs) }

pub events : {old new : List ℕ} (es : List Event) → new ≡ old ++ spell_events es → Appends old new es
events es h = record { is = h }

pub event : {old new : List ℕ} (e : Event) → new ≡ old ++ spell_event e → Appends old new (e ∷ [])
event {old} {new} e h = record { is = h ∙ ap (λ (xs : List ℕ). old ++ xs) (sym (append-nil (spell_event e))) }

-- a control function that is the spelling of an event
pub function : {old new bytes : List ℕ} (e : Event) → bytes ≡ spell_event e → new ≡ old ++ bytes → Appends old new (e ∷ [])
function {old} {new} {bytes} e is h = event e (h ∙ ap (λ (xs : List ℕ). old ++ xs) is)

-- where a test passes
pub bytes_where : {old new : List ℕ} (b : Bool) (es : List Event) → new ≡ old ++ when b (spell_events es)
    → Appends old new (when b es)
bytes_where {old} {new} b es h = record { is = go b h }
  where
    go : (b : Bool) → new ≡ old ++ when b (spell_events es) → new ≡ old ++ spell_events (when b es)
    go true h = h
    go false h = h

-- events that are said otherwise
pub events_as : {old new : List ℕ} {es fs : List Event} → es ≡ fs → new ≡ old ++ spell_events es → Appends old new fs
events_as {old} {new} is h = record { is = h ∙ ap (λ (es : List Event). old ++ spell_events es) is }

-- the sets' events don't speak of a single shift
pub sets_events-same : (g : List Set) (left right : ℕ) (t : GraphicSets) → g ≡ t.g → left ≡ t.left → right ≡ t.right
    → sets_events (record { g = g; left = left; right = right; pending = None }) ≡ sets_events t
unfolding sets_events
sets_events-same g left right t a b c = rw (a, b, c) refl

-- ---- rows, after the sets of the spellings from the first that shows something

row_shown : (before after is_row_blank : Bool) (old mid new : List ℕ) (sets rows row : List Event)
    → after ≡ (before || not is_row_blank) → (before ≡ false → rows ≡ [])
    → mid ≡ old ++ spell_events (when before (sets ++ rows))
    → new ≡ mid ++ spell_events (when after (when (not before) sets ++ row))
    → new ≡ old ++ spell_events (when after (sets ++ (rows ++ row)))
row_shown true after is_row_blank old mid new sets rows row e none h k = rw (k, h, e) (simp (flat_map-append, append_assoc))
row_shown false after true old mid new sets rows row e none h k = rw (k, h, e) (simp append-nil)
row_shown false after false old mid new sets rows row e none h k =
    rw (k, h, e, none refl) (simp (flat_map-append, append-nil))

-- the pieces of blank cells are empty
pub blank_piece : (r c : ℕ) (left cell : Cell) → is_blank cell ≡ true → piece_of r c left cell ≡ []
unfolding piece_of
blank_piece r c left cell h = rw h refl

blank_pieces : (g : Grid) (r n c : ℕ) → ((j : ℕ) → c ≤ j → j < c + n → is_blank (cell_at g r j) ≡ true)
    → pieces_from g r c n ≡ []
blank_pieces g r zero c h = refl
blank_pieces g r (suc n) c h =
    ap (λ es. es ++ pieces_from g r (c + 1) n)
    (blank_piece r c (left_of g r c) (cell_at g r c) (h c (omega arith) (omega arith)))
    ∙ blank_pieces g r n (c + 1) (λ j l k. h j (omega arith) (omega arith))

-- the pieces of n rows that are blank are empty
blank_rows : (g : Grid) (n r : ℕ)
    → ((i j : ℕ) → r ≤ i → i < r + n → 1 ≤ j → j < 1 + g.width → is_blank (cell_at g i j) ≡ true) → rows_from g r n ≡ []
blank_rows g zero r h = refl
blank_rows g (suc n) r h =
    ap (λ es. es ++ rows_from g (r + 1) n) (blank_pieces g r g.width 1 (λ j l k. h r j (omega arith) (omega arith) l k))
    ∙ blank_rows g n (r + 1) (λ i j a b l k. h i j (omega arith) (omega arith) l k)

more_shown : (w l b s : Bool) → s ≡ (w || not l) → (s || not b) ≡ (w || not (l && (b && true)))
more_shown true l b s h = rw h refl
more_shown false true true s h = rw h refl
more_shown false true false s h = rw h refl
more_shown false false b s h = rw h refl

-- what the rows up to the n-th show
abbrev pub are_blank : Grid → ℕ → Bool
are_blank g n = list_all (λ r. list_all is_blank (row_of g r)) (range_with_len 1 n)

pub shown-more : (g : Grid) (w before after : Bool) (n r k : ℕ) → 1 + n ≡ r → n + 1 ≡ k
    → before ≡ (w || not (are_blank g n))
    → after ≡ (before || not (list_all is_blank (row_of g r))) → after ≡ (w || not (are_blank g k))
shown-more g w before after n r k e next h l =
    rw (l, ← next, range-more 1 n r e, list_all-append (λ r. list_all is_blank (row_of g r)) (range_with_len 1 n) (r ∷ []))
    (more_shown w (are_blank g n) (list_all is_blank (row_of g r)) before h)

-- a row's cell passes the test that all of its cells pass
row_passes : (p : Cell → Bool) (g : Grid) (r c : ℕ) → list_all p (row_of g r) ≡ true → 1 ≤ c → c ≤ g.width
    → p (cell_at g r c) ≡ true
row_passes p g r c h c1 cw =
    rw (← get_or-row_of blank g r c blank c1 cw)
    (AllPass-from_list_all p (row_of g r) h (c - 1) blank (omega (arith, length-row_of blank g r)))

pub blank_at : (g : Grid) (n i j : ℕ) → are_blank g n ≡ true → 1 ≤ i → i < 1 + n → 1 ≤ j → j ≤ g.width
    → is_blank (cell_at g i j) ≡ true
blank_at g n i j h i1 inn j1 jw =
    row_passes is_blank g i j (all_in_range (λ r. list_all is_blank (row_of g r)) 1 n i h i1 inn) j1 jw

-- where nothing is shown, the pieces are empty
nothing_shown : (g : Grid) (w before : Bool) (n : ℕ) → before ≡ (w || not (are_blank g n)) → before ≡ false
    → rows_from g 1 n ≡ []
nothing_shown g w before n h none =
    let all = not_false (are_blank g n) (or_false w (not (are_blank g n)) (sym h ∙ none)).1 in
    blank_rows g n 1 (λ i j a b l k. blank_at g n i j all a b l (omega arith))

pub rows_shown : (g : Grid) (w before after : Bool) (n r k : ℕ) (old mid new : List ℕ) (sets : List Event) → 1 + n ≡ r
    → n + 1 ≡ k → before ≡ (w || not (are_blank g n)) → after ≡ (before || not (list_all is_blank (row_of g r)))
    → mid ≡ old ++ spell_events (when before (sets ++ rows_from g 1 n))
    → new ≡ mid ++ spell_events (when after (when (not before) sets ++ row_pieces g r))
    → new ≡ old ++ spell_events (when after (sets ++ rows_from g 1 k))
rows_shown g w before after n r k old mid new sets e next h l before_is after_is =
    row_shown before after (list_all is_blank (row_of g r)) old mid new sets (rows_from g 1 n) (row_pieces g r) l
    (nothing_shown g w before n h) before_is after_is
    ∙ rw (← next, range-more 1 n r e) (simp (flat_map-append, append-nil))

pub shown-unless : (w b : Bool) (es : List Event) → when (w || not b) es ≡ cond (b && not w) [] es
shown-unless true true es = refl
shown-unless true false es = refl
shown-unless false true es = refl
shown-unless false false es = refl

-- ---- modes

abbrev row_at : ℕ → ModeRow
row_at i = get_or mode_rows i (report_form, λ m. m.reports_8bit)

row_is : (known : Bool) (m : Modes) (values : List Bool) (i : ℕ) → i < 12 → values ≡ map (λ (row : ModeRow). row.1 m) mode_rows
    → mode_item known (get_or AT_POWER_UP i false) (mode_event i) (get_or values i false) ≡ row_item known m (row_at i)
row_is known m values i low is =
    let at_power_up : get_or AT_POWER_UP i false ≡ (row_at i).1 modes_at_power_up =
    get_or-map (λ (row : ModeRow). row.1 modes_at_power_up) mode_rows i (report_form, λ m. m.reports_8bit) false low in
    let event : mode_event i ≡ (row_at i).0 =
    get_or-append (map (λ (row : ModeRow). row.0) mode_rows) (private_mode 3 ∷ private_mode 6 ∷ []) (private_mode 6) i low
    ∙ get_or-map (λ (row : ModeRow). row.0) mode_rows i (report_form, λ m. m.reports_8bit) (private_mode 6) low in
    let on : get_or values i false ≡ (row_at i).1 m =
    ap (λ (xs : List Bool). get_or xs i false) is
    ∙ get_or-map (λ (row : ModeRow). row.1 m) mode_rows i (report_form, λ m. m.reports_8bit) false low in
    rw (at_power_up, event, on) refl

-- one more mode
pub mode_more : (known : Bool) (m : Modes) (values : List Bool) (i : ℕ) (old before after : List ℕ) → i < 12
    → values ≡ map (λ (row : ModeRow). row.1 m) mode_rows
    → before ≡ old ++ spell_events (flat_map (row_item known m) (take i mode_rows))
    → after ≡ before
    ++ spell_events (mode_item known (get_or AT_POWER_UP i false) (mode_event i) (get_or values i false))
    → after ≡ old ++ spell_events (flat_map (row_item known m) (take (i + 1) mode_rows))
mode_more known m values i old before after low is first second =
    rw (second, first, row_is known m values i low is, take_more mode_rows i (report_form, λ m. m.reports_8bit) low)
    (simp (flat_map-append, append_assoc, append-nil))
