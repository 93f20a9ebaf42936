-- What clap finds in the words of a command without options.
use Rattle.std.proofs.Common.{◌≡◌, Bool, List, [], ◌∷◌, Option, Some, None, refl}
use Rattle.std.specs.Prelude.{codes, option_map, Ok, Err}
use Rattle.std.specs.Option.{option_to_list}
use Rattle.clap.specs.Walk.{walked}
use Rattle.clap.specs.Words.{Row, Text, first_of, subcommand_of}
use Rattle.vt_screen.specs.declared.size.Size.{Size}
use Rattle.vt_recording.specs.declared.format.Encoding.{Encoding}
use Rattle.vt_recording.specs.declared.format.Format.{Format}
use Rattle.vt_recording.specs.declared.format.Format.TheVariants.{Raw}
use Rattle.vt_recording.specs.declared.format.Moment.{Moment}
use Rattle.vt_recording.specs.declared.format.TerminalType.{TerminalType}
use Rattle.vt_cli.specs.declared.what.What.TheVariants.{Text as TextOutput, Repaint, Show}
use Rattle.vt_cli.specs.declared.what.Word.{Word}
use Rattle.vt_cli.specs.declared.what.Word.TheVariants.{Replay, Log}
use Rattle.vt_cli.specs.CommandLine.{vt220, word_name}
use Rattle.vt_cli.specs.Source.{source_in}
use Rattle.vt_replay.specs.Plain.{IsOperand}

-- how the input was recorded and what it is played for
pub record Options : Type 0 where
  pub format : Option Format
  pub from : Option Moment
  pub until : Option Moment
  pub encoding : Option Encoding
  pub terminal : Option TerminalType
  pub wide : Option Bool
  pub size : Option Size

-- the name of what was found, the options, and the file
pub record Asked : Type 0 where
  pub name : Text
  pub options : Option Options
  pub file : Option Text

abbrev pub options_in : Text → List Row → Option Options
options_in name matches = elim (source_in name matches) [
  | Ok s ↦
      Some (record { format = s.format; from = s.from; until = s.until; encoding = s.encoding; terminal = s.terminal; wide = s.wide; size = s.size })
  | Err complaint ↦ None
]

abbrev pub asked_by : Text × List Row → Asked
asked_by m = record { name = m.0; options = options_in m.0 m.1; file = first_of (codes "file") m.1 }

abbrev pub asked : Option (Text × List Row) → Option Asked
asked found = option_map asked_by found

-- all of an input in a format, or in the one that its beginning shows, and nothing else is asked for
abbrev pub no_options : Option Format → Options
no_options format = record { format = format; from = None; until = None; encoding = None; terminal = None; wide = None; size = None }

abbrev pub AsksPlainly : Option Format → Word → Type 0
AsksPlainly format word = (program : Text) (file : Option Text) → IsOperand file
    → asked (subcommand_of vt220 (program ∷ word_name word ∷ option_to_list file))
    ≡ Some (record { name = word_name word; options = Some (no_options format); file = file })

pub text-asks : AsksPlainly (Some Raw) (Replay TextOutput)
unfolding walked
text-asks program None is = refl
text-asks program (Some []) is = refl
text-asks program (Some (b ∷ name)) is = rw is (rw is refl)

pub repaint-asks : AsksPlainly (Some Raw) (Replay Repaint)
unfolding walked
repaint-asks program None is = refl
repaint-asks program (Some []) is = refl
repaint-asks program (Some (b ∷ name)) is = rw is (rw is refl)

pub show-asks : AsksPlainly None (Replay Show)
unfolding walked
show-asks program None is = refl
show-asks program (Some []) is = refl
show-asks program (Some (b ∷ name)) is = rw is (rw is refl)

pub log-asks : AsksPlainly None Log
unfolding walked
log-asks program None is = refl
log-asks program (Some []) is = refl
log-asks program (Some (b ∷ name)) is = rw is (rw is refl)
