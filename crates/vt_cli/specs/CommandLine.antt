-- The command line: its command in clap's terms, and what its results state. (this profile)
use Rattle.std.specs.Prelude.{◌≡◌, ◌⊎◌, ℕ, ◌≤◌, ◌&&◌, List, [], ◌∷◌, ◌++◌, codes, Bool, Option, Some, None, true, false, not, is_some, string_bytes, map, Ok, fold}
use Rattle.std.specs.Str.{bytes_eq}
use Rattle.std.specs.Option.{option_map}
use Rattle.std.specs.Str.Parse.{ParsesUnsigned}
use Rattle.std.specs.declared.alloc.Global.{Global}
use Rattle.std.specs.declared.string.String.{String}
use Rattle.clap.specs.Words.{App, Rule, Row, Text, Kinds, IsAmong, new_app, new_rule, with_rule, with_subcommand}
use Rattle.clap.specs.Words.{first_of, fault_of, subcommand_of}
use Rattle.clap.specs.Simple.{on_top}
use Rattle.clap.specs.declared.builder.action.ArgAction.TheVariants.{SetTrue}
use Rattle.clap.specs.declared.builder.value_parser.ValueParser.TheVariants.{Unsigned}
use Rattle.clap.specs.declared.error.kind.ErrorKind.{ErrorKind}
use Rattle.clap.specs.declared.error.kind.ErrorKind.TheVariants.{DisplayHelp, DisplayVersion}
use Rattle.vt_cli.specs.declared.what.What.{What}
use Rattle.vt_cli.specs.declared.what.What.TheVariants as what
use Rattle.vt_cli.specs.declared.what.Word.{Word}
use Rattle.vt_cli.specs.declared.what.Word.TheVariants.{Replay, Log, Trace, Events, Content}
use Rattle.vt_cli.specs.declared.command_line.Takes.{Takes}
use Rattle.vt_cli.specs.declared.command_line.Takes.TheVariants as takes
use Rattle.vt_cli.specs.declared.asked.Settings.{Settings}
use Rattle.vt_cli.specs.declared.asked.Refused.{Refused}

-- ---- the command

-- an option with a number from low to high
abbrev pub number_option : Text → ℕ → ℕ → Text → Rule
number_option name low high default = record (new_rule name) {
  long = Some name;
  value_names = 1;
  parser = Some (Unsigned low high);
  defaults = default ∷ [];
}

abbrev pub piece_option : Rule
piece_option = number_option (codes "piece") 1 65536 (codes "4096")

abbrev pub limit_option : Rule
limit_option = number_option (codes "limit") 0 1099511627776 (codes "268435456")

abbrev pub file_argument : Rule
file_argument = record (new_rule (codes "file")) { value_names = 1 }

-- the name of the subcommand for one kind of output
abbrev pub name_of : What → Text
name_of what.Text = codes "text"
name_of what.Reports = codes "reports"
name_of what.Repaint = codes "repaint"
name_of what.Status = codes "status"
name_of what.Show = codes "show"
name_of what.Picture = codes "picture"

-- the name of a word's subcommand
abbrev pub word_name : Word → Text
word_name (Replay what) = name_of what
word_name Log = codes "log"
word_name Trace = codes "trace"
word_name Events = codes "events"
word_name Content = codes "content"

-- an option with a text
abbrev pub text_option : Text → Rule
text_option name = record (new_rule name) { long = Some name; value_names = 1 }

-- an option without a value
abbrev pub flag_option : Text → Rule
flag_option name = record (new_rule name) { long = Some name; action = Some SetTrue }

-- the rule of an argument, by what it takes; private contracts alone speak of this
abbrev pub rule_for : Text → Takes → Rule
rule_for name takes.File = record (new_rule name) { value_names = 1 }
rule_for name (takes.Number low high default) = number_option name low high default.now
rule_for name (takes.Text value) = text_option name
rule_for name takes.Nothing = flag_option name

-- the arguments of each subcommand: the options with a number, the file, and the options of a recording
abbrev pub arguments : List Rule
arguments =
    piece_option ∷ limit_option ∷ file_argument
    ∷ text_option (codes "format") ∷ text_option (codes "timing") ∷ text_option (codes "from") ∷ text_option (codes "until")
    ∷ text_option (codes "encoding") ∷ text_option (codes "terminal") ∷ text_option (codes "columns")
    ∷ text_option (codes "size") ∷ flag_option (codes "full") ∷ flag_option (codes "partial") ∷ flag_option (codes "quiet") ∷ []

-- a subcommand with these arguments
abbrev pub subcommand_with : Text → List Rule → App
subcommand_with name rules = fold (λ a rule. with_rule a rule) (new_app name) rules

abbrev pub subcommand : Text → App
subcommand name = subcommand_with name arguments

abbrev pub with_name : App → Text → App
with_name a name = with_subcommand a (subcommand name).top

abbrev pub with_word : App → Word → App
with_word a word = with_name a (word_name word)

-- an app with the subcommands for what the terminal holds and answers
abbrev pub with_replays : App → App
with_replays a =
    with_word (with_word (with_word (with_word a (Replay what.Text)) (Replay what.Reports)) (Replay what.Repaint))
    (Replay what.Status)

-- an app with the subcommands for the eye, and for the text of a session
abbrev pub with_lines : App → App
with_lines a = with_word (with_word (with_word a (Replay what.Show)) (Replay what.Picture)) Log

-- an app with the subcommands for what the host sent
abbrev pub with_events : App → App
with_events a = with_word (with_word (with_word a Trace) Events) Content

-- a subcommand is required, and it has a version
abbrev pub as_program : App → App
as_program a = on_top (λ s. record s { subcommand_required = true; has_version = true }) a

-- the program's command, with the ten subcommands
abbrev pub vt220 : App
vt220 = as_program (with_events (with_lines (with_replays (new_app (codes "vt220")))))

-- the faults that clap finds in the words, the first of which is the program's name
abbrev pub faults_in : List (String Global) → Kinds
faults_in words = fault_of vt220 (map (λ w. string_bytes w) words)

-- the subcommand that clap finds in them, with its matches
abbrev pub found_in : List (String Global) → Option (Text × List Row)
found_in words = subcommand_of vt220 (map (λ w. string_bytes w) words)

-- ---- the results

-- n is the number that the option has among a subcommand's matches, its default if it wasn't used
pub record IsNumberOf (option : Text) (matches : List Row) (n : ℕ) : Type 0 where
  pub text : Text
  pub matched : first_of option matches ≡ Some text
  pub parsed : ParsesUnsigned {E = ℕ} 64 10 text (Ok n)

-- an option without a value was used, by the text that clap has for it
abbrev pub is_true : Option Text → Bool
is_true None = false
is_true (Some text) = bytes_eq text (codes "true")

abbrev pub is_set : (option : Text) → List Row → Bool
is_set option matches = is_true (first_of option matches)

-- no option says how a recording was written, or which part of it is wanted
abbrev pub is_whole : List Row → Bool
is_whole matches =
    not (is_some (first_of (codes "format") matches)) && (not (is_some (first_of (codes "timing") matches))
    && (not (is_some (first_of (codes "from") matches)) && not (is_some (first_of (codes "until") matches))))

-- no option of a recording was used
abbrev pub is_plain : List Row → Bool
is_plain matches =
    is_whole matches
    && (not (is_some (first_of (codes "encoding") matches)) && (not (is_some (first_of (codes "terminal") matches))
    && (not (is_some (first_of (codes "columns") matches)) && (not (is_some (first_of (codes "size") matches))
    && (not (is_set (codes "full") matches) && (not (is_set (codes "partial") matches) && not (is_set (codes "quiet") matches)))))))

-- s is what the subcommand that clap found, and its matches, ask for: a replay of bytes that no recorder wrote
pub record AreSettings (found : Option (Text × List Row)) (s : Settings) : Type 0 where
  pub matches : List Row
  pub what : found ≡ Some (name_of s.what, matches)
  pub piece : IsNumberOf (codes "piece") matches s.piece
  pub limit : IsNumberOf (codes "limit") matches s.limit
  pub piece_in_range : (1 ≤ s.piece) × (s.piece ≤ 65536)
  pub limit_in_range : s.limit ≤ 1099511627776
  pub file : option_map (λ f. string_bytes f) s.file ≡ first_of (codes "file") matches
  pub plain : is_plain matches ≡ true

-- the status of a fault of the words: help is none, nor is the version
abbrev pub status_for : ErrorKind → ℕ
status_for DisplayHelp = 0
status_for DisplayVersion = 0
status_for _ = 2

-- allocation failed: status 1, and no text
pub record IsMemory (r : Refused) : Type 0 where
  pub status : r.status ≡ 1
  pub text : string_bytes r.text ≡ []

-- refused for a fault of this list
pub record IsFault (faults : Kinds) (r : Refused) : Type 0 where
  pub fault : ErrorKind
  pub found : IsAmong fault faults
  pub status : r.status ≡ status_for fault

-- what clap found makes no settings
abbrev pub HasNoSettings : Option (Text × List Row) → Type 0
HasNoSettings found = (s : Settings) → AreSettings found s → ⊥

-- clap found no fault, and yet no settings: the text says so
pub record IsStray (faults : Kinds) (found : Option (Text × List Row)) (r : Refused) : Type 0 where
  pub none : faults ≡ []
  pub stray : HasNoSettings found
  pub status : r.status ≡ 2
  pub text : string_bytes r.text ≡ codes "vt220: bad command line" ++ 0x0A ∷ []

-- the refusal of words, by the faults and the subcommand that clap finds in them
abbrev pub IsRefusal : Kinds → Option (Text × List Row) → Refused → Type 0
IsRefusal faults found r = IsMemory r ⊎ (IsFault faults r ⊎ IsStray faults found r)
