-- The terminal, encoding, width and size for which a host sends, as a request and the first line of a recording give
-- them. (this profile)
use Rattle.std.specs.Prelude.{ℕ, List, [], ◌∷◌, ◌++◌, codes, Bool, true, false, cond, nat_eq, Option, Some, None, unwrap_or, ◌&&◌, ◌||◌}
use Rattle.vt_screen.specs.declared.size.Size.{Size}
use Rattle.vt_screen.specs.Sizes.{vt220_size}
use Rattle.vt_cli.specs.declared.asked.Request.{Request}
use Rattle.vt_cli.specs.Source.{size_of}
use Rattle.vt_cli.specs.declared.what.Word.{Word}
use Rattle.vt_cli.specs.declared.what.Word.TheVariants.{Replay, Log, Trace, Events, Content}
use Rattle.vt_recording.specs.declared.format.Encoding.{Encoding}
use Rattle.vt_recording.specs.declared.format.Encoding.TheVariants.{Dec, Utf8}
use Rattle.vt_recording.specs.declared.format.TerminalType.{TerminalType}
use Rattle.vt_recording.specs.declared.format.TerminalType.TheVariants.{Vt220, Xterm}
use Rattle.vt_recording.specs.declared.heading.Heading.{Heading}
use Rattle.vt_replay.specs.declared.host.Host.{Host}

-- the terminal that was asked for, otherwise the one that the recording names, otherwise a VT220. Only a VT220 reads dec
abbrev pub terminal_for : (wanted : Option TerminalType) → Option Encoding → (named : Option TerminalType) → TerminalType
terminal_for (Some terminal) encoding named = terminal
terminal_for None (Some Dec) named = Vt220
terminal_for None (Some Utf8) named = unwrap_or named Vt220
terminal_for None None named = unwrap_or named Vt220

-- a VT220's host sends in the encoding that was asked for, otherwise in the one that the recording shows. An xterm's host sends UTF-8
abbrev pub encoding_for : TerminalType → (wanted : Option Encoding) → (shown : Encoding) → Encoding
encoding_for Vt220 wanted shown = unwrap_or wanted shown
encoding_for Xterm wanted shown = Utf8

-- the width that was asked for, otherwise the one that the recording names. Any other width than 132 columns is 80
abbrev pub wide_for : (wanted : Option Bool) → (columns : Option ℕ) → Bool
wide_for (Some wide) columns = wide
wide_for None (Some columns) = nat_eq columns 132
wide_for None None = false

-- the terminal that a recording names, if it decides on what the word plays. Events and content are what the host sent,
-- for whatever terminal that is
abbrev pub named_for : Word → (named : Option TerminalType) → Option TerminalType
named_for (Replay what) named = named
named_for Log named = named
named_for Trace named = named
named_for Events named = None
named_for Content named = None

-- ---- the size

-- the word plays a screen of any size
abbrev pub takes_size : Word → Bool
takes_size (Replay what) = true
takes_size Log = true
takes_size Trace = true
takes_size word = false

-- a VT220's screen: 24 rows of 80 or 132 columns
abbrev pub is_vt220 : (columns rows : ℕ) → Bool
is_vt220 columns rows = nat_eq rows 24 && (nat_eq columns 80 || nat_eq columns 132)

-- the size that the recording names, if it isn't a VT220's and a screen may have it
abbrev pub size_named : (columns rows : Option ℕ) → Option Size
size_named (Some columns) (Some rows) = cond (is_vt220 columns rows) None (size_of columns rows)
size_named columns rows = None

-- the size that was asked for, otherwise the one that the recording names, if the width wasn't asked for and the word plays it
abbrev pub size_for : Word → (wanted : Option Size) → (wide : Option Bool) → (columns rows : Option ℕ) → Option Size
size_for word (Some size) wide columns rows = Some size
size_for word None (Some wide) columns rows = None
size_for word None None columns rows = cond (takes_size word) (size_named columns rows) None

-- a VT220's screen alone is made 132 columns wide
abbrev pub wide_on : Option Size → (wanted : Option Bool) → (columns : Option ℕ) → Bool
wide_on (Some size) wanted columns = false
wide_on None wanted columns = wide_for wanted columns

abbrev pub host_by : TerminalType → Request → (shown : Encoding) → (columns rows : Option ℕ) → Host
host_by terminal r shown columns rows =
    let size = size_for r.word r.size r.wide columns rows in record {
      terminal = terminal;
      encoding = encoding_for terminal r.encoding shown;
      wide = wide_on size r.wide columns;
      size = unwrap_or size vt220_size;
    }

-- the terminal, the encoding, the width and the size for which the host of a recording sent, by the encoding that the recording
-- shows and its heading
abbrev pub host_for : Request → (shown : Encoding) → Heading → Host
host_for r shown heading =
    host_by (terminal_for r.terminal r.encoding (named_for r.word heading.terminal)) r shown heading.columns heading.rows

-- the terminal, the encoding, the width and the size for which a host sends, if no recorder wrote the bytes: no line
-- names anything, and nothing shows UTF-8
abbrev pub plain_host : Request → Host
plain_host r = host_for r Dec (record { terminal = None; columns = None; rows = None })

-- DECCOLM makes the screen 132 columns wide. Under TERM=xterm it has an effect while ?40 is set
abbrev pub widening : TerminalType → List ℕ
widening Vt220 = 0x1B ∷ codes "[?3h"
widening Xterm = 0x1B ∷ codes "[?40h" ++ 0x1B ∷ codes "[?3h" ++ 0x1B ∷ codes "[?40l"

-- the bytes that are played before those of a recording. A trace is of what the host sent alone
abbrev pub opening : Word → Host → List ℕ
opening (Replay what) host = cond host.wide (widening host.terminal) []
opening Log host = cond host.wide (widening host.terminal) []
opening word host = []
