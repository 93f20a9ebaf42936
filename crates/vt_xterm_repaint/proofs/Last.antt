-- What both pages share is made.
use Rattle.std.proofs.Common.{◌≡◌, ℕ, zero, suc, ◌+◌, ◌-◌, ◌≤◌, ◌<◌, Bool, true, false, Option, Some, None, List, [], ◌∷◌, ◌++◌, min, max, arith, refl, sym, ap, ◌∙◌}
use Rattle.std.specs.Prelude.{nat_lt, ◌==◌, ◌&&◌, not, if◌then◌else◌}
use Rattle.std.specs.Option.{ForSome}
use Rattle.std.proofs.lemmas.Bool.Decides.{nat_tests}
use Rattle.vt_glyph.specs.GraphicSets.{GraphicSets}
use Rattle.vt_glyph.specs.Invocation.{sets_at_power_up}
use Rattle.vt_screen.specs.Same.{when}
use Rattle.vt_term.specs.declared.state.Cursor.{Cursor}
use Rattle.vt_term.specs.declared.state.Modes.{Modes}
use Rattle.vt_term.specs.State.{at_place, modes_at_power_up}
use Rattle.vt_term.specs.Modes.{with_mode}
use Rattle.vt_term.specs.Functions.{byte, control_any, plain_escape_any, escape_with_any, sequences_any, sequence_in}
use Rattle.vt_feed.specs.Actions.{Action, Function, state_after}
use Rattle.vt_paint.specs.Controls.{sequence_of, cursor_position, private_mode, ansi_mode, keypad, report_form, margins_to}
use Rattle.vt_xterm_cell.specs.declared.look.Look.{Look}
use Rattle.vt_xterm_cell.specs.Look.{plain_look}
use Rattle.vt_xterm_display.specs.declared.sides.Sides.{Sides}
use Rattle.vt_xterm_display.specs.declared.settings.Settings.{Settings}
use Rattle.vt_xterm_display.specs.declared.settings.Mouse.{Mouse}
use Rattle.vt_xterm_display.specs.declared.settings.Coding.{Coding}
use Rattle.vt_xterm_display.specs.declared.settings.Shape.{Shape}
use Rattle.vt_xterm_display.specs.declared.settings.Mouse.TheVariants.{Off, Presses, Buttons, Drags, Motion}
use Rattle.vt_xterm_display.specs.declared.settings.Coding.TheVariants.{Bytes, Utf8, Sgr, Urxvt, Pixels}
use Rattle.vt_xterm_display.specs.declared.settings.Shape.TheVariants.{Block, Underline, Bar}
use Rattle.vt_xterm_display.specs.Functions.{xterm, function_in, sequences}
use Rattle.vt_xterm_display.specs.Pages.{with_xterm_mode, set_cursor_style}
use Rattle.vt_xterm_display.specs.State.{XtermState, full_sides, settings_at_power_up}
use Rattle.vt_xterm_repaint.specs.Items.{functions, sides_item, margins_item, modes_item, mouse_item, coding_item, style_item, settings_item, shift_item}
use Rattle.vt_xterm_repaint.specs.Repaint.{page_shown}
use Rattle.vt_xterm_repaint.proofs.Parts.{AreMargins}
use Rattle.vt_xterm_repaint.proofs.Rows.{after-append}
use Rattle.vt_xterm_repaint.proofs.Pages.{with_page}

-- a state, but for the cursor, the look, the sets, the modes and the settings
abbrev pub lasting : XtermState → Cursor → Bool → Look → GraphicSets → Modes → Bool → Settings → XtermState
lasting w cursor waits look sets modes resizes settings = record w {
  shown = record w.shown { cursor = cursor; brush = look; sets = sets; modes = modes };
  waits = waits;
  resizes = resizes;
  settings = settings;
}

-- with those as at power-up, but for DECOM
abbrev pub placing : XtermState → Cursor → Bool → Look → Bool → XtermState
placing w cursor waits look origin =
    lasting w cursor waits look sets_at_power_up (record modes_at_power_up { decom = origin }) true settings_at_power_up

module _ (w : XtermState) (are : AreMargins w) where
  abbrev top : ℕ
  top = w.shown.margins.top

  abbrev bottom : ℕ
  bottom = w.shown.margins.bottom

  -- with the top and bottom margins
  abbrev W : Sides → Bool → XtermState
  W sides bounded = record (placing w (at_place 1 1) false plain_look false) { sides = sides; bounded = bounded }

  margins-effect : xterm.effect (Function (margins_to top bottom)) (with_page w.shown.stops w.other w.alternate (page_shown w))
      ≡ W (full_sides w.shown.grid.width) false
  unfolding function_in sequences
  margins-effect =
      let rows = w.shown.grid.size.rows in
      let first : max top 1 ≡ top = omega (arith, are.margins.from_row_1) in
      let some : (bottom == 0) ≡ false = grind (arith, nat_tests, are.margins.two_rows) in
      let last : min bottom rows ≡ bottom = omega (arith, are.margins.to_last_row) in
      let two : nat_lt top bottom ≡ true = grind (arith, nat_tests, are.margins.two_rows) in
      rw (first, some, last, two) refl

  sides-effect : xterm.effect (Function (sequence_of (w.sides.left ∷ w.sides.right ∷ []) (byte "s"))) (W (full_sides w.shown.grid.width) true) ≡ W w.sides true
  unfolding function_in sequences
  sides-effect =
      let width = w.shown.grid.width in
      let first : max w.sides.left 1 ≡ w.sides.left = omega (arith, are.sides.from_column_1) in
      let some : (w.sides.right == 0) ≡ false = grind (arith, nat_tests, are.sides.two_columns) in
      let last : min w.sides.right width ≡ w.sides.right = omega (arith, are.sides.to_last_column) in
      let two : nat_lt w.sides.left w.sides.right ≡ true = grind (arith, nat_tests, are.sides.two_columns) in
      rw (first, some, last, two) refl

  bounded-effect : xterm.effect (Function (private_mode 69 true)) (W (full_sides w.shown.grid.width) false) ≡ W (full_sides w.shown.grid.width) true
  unfolding function_in sequences with_xterm_mode
  bounded-effect = refl

  pub margins-made : state_after xterm (margins_item w) (with_page w.shown.stops w.other w.alternate (page_shown w))
      ≡ placing w (at_place 1 1) false plain_look false
  margins-made = ap (λ (s : XtermState). state_after xterm (sides_item w.bounded w.sides) s) margins-effect ∙ go w.bounded refl
    where
      go : (on : Bool) → w.bounded ≡ on
          → state_after xterm (sides_item on w.sides) (W (full_sides w.shown.grid.width) false) ≡ placing w (at_place 1 1) false plain_look false
      go true is = ap (λ (s : XtermState). xterm.effect (Function (sequence_of (w.sides.left ∷ w.sides.right ∷ []) (byte "s"))) s) bounded-effect
          ∙ sides-effect ∙ ap (W w.sides) (sym is)
      go false is = ap (λ (m : Sides). W m false) (sym (are.full is)) ∙ ap (W w.sides) (sym is)

  -- ---- DECOM, and the cursor

  pub origin-made : (on : Bool) → state_after xterm (when on (functions (private_mode 6 true ∷ []))) (placing w (at_place 1 1) false plain_look false)
      ≡ placing w (if on then at_place top w.sides.left else at_place 1 1) false plain_look on
  unfolding function_in sequences with_xterm_mode
  origin-made true = refl
  origin-made false = refl

  -- a place that the cursor may have
  pub record IsReached (origin : Bool) (row col : ℕ) : Type 0 where
    pub row_in : (1 ≤ row) × (row ≤ w.shown.grid.size.rows)
    pub col_in : (1 ≤ col) × (col ≤ w.shown.grid.width)
    pub rows : origin ≡ true → (top ≤ row) × (row ≤ bottom)
    pub columns : origin ≡ true → (w.sides.left ≤ col) × (col ≤ w.sides.right)

  pub move-made : (origin : Bool) (p : Cursor) (waits : Bool) (look : Look) (row col : ℕ) → IsReached origin row col
      → xterm.effect (Function (cursor_position (if origin then row - top + 1 else row) (if origin then col - w.sides.left + 1 else col)))
      (placing w p waits look origin) ≡ placing w (at_place row col) false look origin
  unfolding function_in sequences
  move-made true p waits look row col is =
      let rows = is.rows refl in
      let cols = is.columns refl in
      let line : min (top + max (row - top + 1) 1 - 1) bottom ≡ row = omega (arith, rows, are.margins.from_row_1) in
      let column : min (w.sides.left + max (col - w.sides.left + 1) 1 - 1) w.sides.right ≡ col = omega (arith, cols, are.sides.from_column_1) in
      rw (line, column) refl
  move-made false p waits look row col is =
      let line : min (max row 1) w.shown.grid.size.rows ≡ row = omega (arith, is.row_in) in
      let column : min (max col 1) w.shown.grid.width ≡ col = omega (arith, is.col_in) in
      rw (line, column) refl

-- ---- modes

module _ (b : XtermState) where
  abbrev Q : Modes → XtermState
  Q m = record b { shown = record b.shown { modes = m } }

  kam : (m : Modes) (on : Bool) → xterm.effect (Function (ansi_mode 2 on)) (Q m) ≡ Q (record m { kam = on })
  unfolding function_in sequences sequences_any sequence_in with_mode
  kam m true = refl
  kam m false = refl

  irm : (m : Modes) (on : Bool) → xterm.effect (Function (ansi_mode 4 on)) (Q m) ≡ Q (record m { irm = on })
  unfolding function_in sequences sequences_any sequence_in with_mode
  irm m true = refl
  irm m false = refl

  srm : (m : Modes) (on : Bool) → xterm.effect (Function (ansi_mode 12 on)) (Q m) ≡ Q (record m { srm = on })
  unfolding function_in sequences sequences_any sequence_in with_mode
  srm m true = refl
  srm m false = refl

  lnm : (m : Modes) (on : Bool) → xterm.effect (Function (ansi_mode 20 on)) (Q m) ≡ Q (record m { lnm = on })
  unfolding function_in sequences sequences_any sequence_in with_mode
  lnm m true = refl
  lnm m false = refl

  decckm : (m : Modes) (on : Bool) → xterm.effect (Function (private_mode 1 on)) (Q m) ≡ Q (record m { decckm = on })
  unfolding function_in sequences with_xterm_mode with_mode
  decckm m true = refl
  decckm m false = refl

  decsclm : (m : Modes) (on : Bool) → xterm.effect (Function (private_mode 4 on)) (Q m) ≡ Q (record m { decsclm = on })
  unfolding function_in sequences with_xterm_mode with_mode
  decsclm m true = refl
  decsclm m false = refl

  decscnm : (m : Modes) (on : Bool) → xterm.effect (Function (private_mode 5 on)) (Q m) ≡ Q (record m { decscnm = on })
  unfolding function_in sequences with_xterm_mode with_mode
  decscnm m true = refl
  decscnm m false = refl

  -- no wrap is pending without DECAWM
  decawm : (m : Modes) (on : Bool) → (on ≡ false → b.shown.cursor.wrap ≡ false) → (on ≡ false → b.waits ≡ false)
      → xterm.effect (Function (private_mode 7 on)) (Q m) ≡ Q (record m { decawm = on })
  unfolding function_in sequences with_xterm_mode
  decawm m true none still = kept
    where
      yes : (x : Bool) → (x && true) ≡ x
      yes true = refl
      yes false = refl

      kept : xterm.effect (Function (private_mode 7 true)) (Q m) ≡ Q (record m { decawm = true })
      kept = ap (λ (x : Bool). record (Q (record m { decawm = true })) {
        shown = record (Q (record m { decawm = true })).shown { cursor = record b.shown.cursor { wrap = x } };
        waits = b.waits && true;
      }) (yes b.shown.cursor.wrap) ∙ ap (λ (x : Bool). record (Q (record m { decawm = true })) { waits = x }) (yes b.waits)
  decawm m false none still = lost
    where
      no : (x : Bool) → (x && false) ≡ false
      no true = refl
      no false = refl

      lost : xterm.effect (Function (private_mode 7 false)) (Q m) ≡ Q (record m { decawm = false })
      lost = ap (λ (x : Bool). record (Q (record m { decawm = false })) {
        shown = record (Q (record m { decawm = false })).shown { cursor = record b.shown.cursor { wrap = x } };
        waits = b.waits && false;
      }) (no b.shown.cursor.wrap ∙ sym (none refl))
          ∙ ap (λ (x : Bool). record (Q (record m { decawm = false })) { waits = x }) (no b.waits ∙ sym (still refl))

  decarm : (m : Modes) (on : Bool) → xterm.effect (Function (private_mode 8 on)) (Q m) ≡ Q (record m { decarm = on })
  unfolding function_in sequences with_xterm_mode with_mode
  decarm m true = refl
  decarm m false = refl

  dectcem : (m : Modes) (on : Bool) → xterm.effect (Function (private_mode 25 on)) (Q m) ≡ Q (record m { dectcem = on })
  unfolding function_in sequences with_xterm_mode with_mode
  dectcem m true = refl
  dectcem m false = refl

  keypads : (m : Modes) (on : Bool) → xterm.effect (Function (keypad on)) (Q m) ≡ Q (record m { keypad_application = on })
  unfolding function_in plain_escape_any
  keypads m true = refl
  keypads m false = refl

  forms : (m : Modes) (on : Bool) → xterm.effect (Function (report_form on)) (Q m) ≡ Q (record m { reports_8bit = on })
  unfolding function_in escape_with_any
  forms m true = refl
  forms m false = refl

  run : List Action → XtermState → XtermState
  run xs s = state_after xterm xs s

  pub modes-made : (m n : Modes) → n.decom ≡ m.decom → (n.decawm ≡ false → b.shown.cursor.wrap ≡ false) → (n.decawm ≡ false → b.waits ≡ false)
      → state_after xterm (modes_item n) (Q m) ≡ Q n
  modes-made m n origin none still =
      let m1 = record m { kam = n.kam } in
      let m2 = record m1 { irm = n.irm } in
      let m3 = record m2 { srm = n.srm } in
      let m4 = record m3 { lnm = n.lnm } in
      let m5 = record m4 { decckm = n.decckm } in
      let m6 = record m5 { decsclm = n.decsclm } in
      let m7 = record m6 { decscnm = n.decscnm } in
      let m8 = record m7 { decawm = n.decawm } in
      let m9 = record m8 { decarm = n.decarm } in
      let m10 = record m9 { dectcem = n.dectcem } in
      let m11 = record m10 { keypad_application = n.keypad_application } in
      let e12 = functions (report_form n.reports_8bit ∷ []) in
      let e11 = Function (keypad n.keypad_application) ∷ e12 in
      let e10 = Function (private_mode 25 n.dectcem) ∷ e11 in
      let e9 = Function (private_mode 8 n.decarm) ∷ e10 in
      let e8 = Function (private_mode 7 n.decawm) ∷ e9 in
      let e7 = Function (private_mode 5 n.decscnm) ∷ e8 in
      let e6 = Function (private_mode 4 n.decsclm) ∷ e7 in
      let e5 = Function (private_mode 1 n.decckm) ∷ e6 in
      let e4 = Function (ansi_mode 20 n.lnm) ∷ e5 in
      let e3 = Function (ansi_mode 12 n.srm) ∷ e4 in
      let e2 = Function (ansi_mode 4 n.irm) ∷ e3 in
      ap (λ (s : XtermState). state_after xterm e2 s) (kam m n.kam)
      ∙ ap (λ (s : XtermState). state_after xterm e3 s) (irm m1 n.irm)
      ∙ ap (λ (s : XtermState). state_after xterm e4 s) (srm m2 n.srm)
      ∙ ap (λ (s : XtermState). state_after xterm e5 s) (lnm m3 n.lnm)
      ∙ ap (λ (s : XtermState). state_after xterm e6 s) (decckm m4 n.decckm)
      ∙ ap (λ (s : XtermState). state_after xterm e7 s) (decsclm m5 n.decsclm)
      ∙ ap (λ (s : XtermState). state_after xterm e8 s) (decscnm m6 n.decscnm)
      ∙ ap (λ (s : XtermState). state_after xterm e9 s) (decawm m7 n.decawm none still)
      ∙ ap (λ (s : XtermState). state_after xterm e10 s) (decarm m8 n.decarm)
      ∙ ap (λ (s : XtermState). state_after xterm e11 s) (dectcem m9 n.dectcem)
      ∙ ap (λ (s : XtermState). state_after xterm e12 s) (keypads m10 n.keypad_application)
      ∙ forms m11 n.reports_8bit
      ∙ ap (λ (x : Bool). Q (record n { decom = x })) (sym origin)

-- ---- settings

module _ (b : XtermState) where
  abbrev R : Settings → XtermState
  R x = record b { settings = x }

  brackets : (x : Settings) (on : Bool) → xterm.effect (Function (private_mode 2004 on)) (R x) ≡ R (record x { brackets = on })
  unfolding function_in sequences with_xterm_mode
  brackets x true = refl
  brackets x false = refl

  focus : (x : Settings) (on : Bool) → xterm.effect (Function (private_mode 1004 on)) (R x) ≡ R (record x { focus = on })
  unfolding function_in sequences with_xterm_mode
  focus x true = refl
  focus x false = refl

  synchronized : (x : Settings) (on : Bool) → xterm.effect (Function (private_mode 2026 on)) (R x) ≡ R (record x { synchronized = on })
  unfolding function_in sequences with_xterm_mode
  synchronized x true = refl
  synchronized x false = refl

  mouse : (x : Settings) (m : Mouse) → x.mouse ≡ Off → state_after xterm (mouse_item m) (R x) ≡ R (record x { mouse = m })
  unfolding function_in sequences with_xterm_mode
  mouse x Off is = ap (λ (y : Mouse). R (record x { mouse = y })) is
  mouse x Presses is = refl
  mouse x Buttons is = refl
  mouse x Drags is = refl
  mouse x Motion is = refl

  coding : (x : Settings) (c : Coding) → x.coding ≡ Bytes → state_after xterm (coding_item c) (R x) ≡ R (record x { coding = c })
  unfolding function_in sequences with_xterm_mode
  coding x Bytes is = ap (λ (y : Coding). R (record x { coding = y })) is
  coding x Utf8 is = refl
  coding x Sgr is = refl
  coding x Urxvt is = refl
  coding x Pixels is = refl

  style : (x : Settings) (s : Shape) (blinks : Bool) → state_after xterm (style_item s blinks) (R x) ≡ R (record x { shape = s; blinks = blinks })
  unfolding function_in sequences set_cursor_style
  style x Block true = refl
  style x Block false = refl
  style x Underline true = refl
  style x Underline false = refl
  style x Bar true = refl
  style x Bar false = refl

  pub settings-made : (n : Settings) → state_after xterm (settings_item n) (R settings_at_power_up) ≡ R n
  settings-made n =
      let x0 = settings_at_power_up in
      let x1 = record x0 { brackets = n.brackets } in
      let x2 = record x1 { focus = n.focus } in
      let x3 = record x2 { synchronized = n.synchronized } in
      let x4 = record x3 { mouse = n.mouse } in
      let x5 = record x4 { coding = n.coding } in
      let e3 = style_item n.shape n.blinks in
      let e2 = coding_item n.coding ++ e3 in
      let e1 = mouse_item n.mouse ++ e2 in
      ap (λ (s : XtermState). state_after xterm (functions (private_mode 1004 n.focus ∷ private_mode 2026 n.synchronized ∷ []) ++ e1) s) (brackets x0 n.brackets)
      ∙ ap (λ (s : XtermState). state_after xterm (functions (private_mode 2026 n.synchronized ∷ []) ++ e1) s) (focus x1 n.focus)
      ∙ ap (λ (s : XtermState). state_after xterm e1 s) (synchronized x2 n.synchronized)
      ∙ after-append (mouse_item n.mouse) e2 (R x3)
      ∙ ap (λ (s : XtermState). state_after xterm e2 s) (mouse x3 n.mouse refl)
      ∙ after-append (coding_item n.coding) e3 (R x4)
      ∙ ap (λ (s : XtermState). state_after xterm e3 s) (coding x4 n.coding refl)
      ∙ style x5 n.shape n.blinks

-- ---- ?40, and a single shift

pub resizes-made : (b : XtermState) (on : Bool)
    → state_after xterm (when (not on) (functions (private_mode 40 false ∷ []))) (record b { resizes = true }) ≡ record b { resizes = on }
unfolding function_in sequences with_xterm_mode
resizes-made b true = refl
resizes-made b false = refl

pub shift-made : (b : XtermState) (sets : GraphicSets) (pending : Option ℕ) → ForSome pending (λ slot. (2 ≤ slot) × (slot < 4)) → sets.pending ≡ None
    → state_after xterm (shift_item pending) (record b { shown = record b.shown { sets = sets } })
    ≡ record b { shown = record b.shown { sets = record sets { pending = pending } } }
unfolding function_in control_any
shift-made b sets None sound none = ap (λ (x : Option ℕ). record b { shown = record b.shown { sets = record sets { pending = x } } }) none
shift-made b sets (Some slot) sound none = go slot (sound slot refl)
  where
    go : (k : ℕ) → (2 ≤ k) × (k < 4) → state_after xterm (shift_item (Some k)) (record b { shown = record b.shown { sets = sets } })
        ≡ record b { shown = record b.shown { sets = record sets { pending = Some k } } }
    go zero is = absurd (omega (arith, is))
    go (suc zero) is = absurd (omega (arith, is))
    go (suc (suc zero)) is = refl
    go (suc (suc (suc zero))) is = refl
    go (suc (suc (suc (suc k)))) is = absurd (omega (arith, is))
