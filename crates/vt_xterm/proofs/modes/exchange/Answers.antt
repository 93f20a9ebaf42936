use Rattle.std.proofs.Common.{sym, ap, ◌∙◌}
use Rattle.vt_xterm.specs.Pages.{PagesState}
use Rattle.vt_xterm.proofs.modes.exchange.Goals as goal

pub exchange_page-requires : goal.exchange_page-requires
exchange_page-requires c = sym c.requires ∙ sym (ap (λ (p : PagesState). p.other.grid.size) c.pages.view_is)
