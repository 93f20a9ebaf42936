-- The parameters before the place are carried out.
use Rattle.std.proofs.Common.{◌≡◌, take}
use Rattle.vt_xterm.specs.Pages.{screens, shown_by, change_page_modes}
use Rattle.vt_xterm.proofs.modes.change_modes.Given as goal

abbrev pub invariant-loop-p : goal.invariant-loop-p
invariant-loop-p l = record {
  terminal : l.terminal ≡ shown_by (change_page_modes l.on (take l.p-index l.params)
      (screens l.initial.terminal l.initial.pages)) l.initial.terminal.held;
  pages : l.pages ≡ (change_page_modes l.on (take l.p-index l.params)
      (screens l.initial.terminal l.initial.pages)).pages;
}
