-- The plain look: the default colours, no attribute, no protection. (this profile)
use Rattle.std.specs.Prelude.{false}
use Rattle.vt_xterm_cell.specs.declared.look.Colour.TheVariants.{Default}
use Rattle.vt_xterm_cell.specs.declared.look.Attributes.{Attributes}
use Rattle.vt_xterm_cell.specs.declared.look.Look.{Look}

abbrev pub no_attributes : Attributes
no_attributes = record {
  bold = false;
  faint = false;
  italic = false;
  underlined = false;
  doubly_underlined = false;
  blinking = false;
  reverse = false;
  invisible = false;
  crossed_out = false;
}

abbrev pub plain_look : Look
plain_look = record { foreground = Default; background = Default; attributes = no_attributes; protected = false }
