-- What a command without options writes.
use Rattle.std.proofs.Common.{◌≡◌, ℕ, Bool, true, false, List, [], Option, Some, None, refl, sym, ap, subst, ◌∙◌}
use Rattle.std.specs.Prelude.{codes, is_some, ◌||◌, option_map, string_bytes, if◌then◌else◌, cond, unwrap_or}
use Rattle.std.specs.Str.{bytes_eq}
use Rattle.std.specs.declared.alloc.Global.{Global}
use Rattle.std.specs.declared.string.String.{String}
use Rattle.clap.specs.Words.{Row, Text, subcommand_of}
use Rattle.vt_device.specs.Runs.{Flags}
use Rattle.vt_recording.specs.declared.format.Encoding.{Encoding}
use Rattle.vt_recording.specs.declared.format.Encoding.TheVariants.{Dec}
use Rattle.vt_recording.specs.declared.format.Format.{Format}
use Rattle.vt_recording.specs.declared.format.Format.TheVariants.{Raw}
use Rattle.vt_recording.specs.declared.format.TerminalType.{TerminalType}
use Rattle.vt_recording.specs.declared.format.TerminalType.TheVariants.{Vt220}
use Rattle.vt_cli.specs.declared.asked.Request.{Request}
use Rattle.vt_cli.specs.declared.what.What.TheVariants as what
use Rattle.vt_cli.specs.declared.what.Word.{Word}
use Rattle.vt_cli.specs.declared.what.Word.TheVariants.{Replay, Log, Trace, Events, Content}
use Rattle.vt_cli.specs.CommandLine.{vt220, word_name, found_in}
use Rattle.vt_cli.specs.Request.{IsFound, IsRequest}
use Rattle.vt_replay.specs.declared.requests.Outcome.{Outcome}
use Rattle.vt_screen.specs.declared.size.Size.{Size}
use Rattle.vt_screen.specs.Sizes.{vt220_size}
use Rattle.vt_replay.specs.Host.{terminal_for, encoding_for, named_for, takes_size, size_for, plain_host}
use Rattle.vt_replay.specs.Words.{WordTable}
use Rattle.vt_replay.specs.Request.{is_streamed, takes_whole, needs_whole, format_of, IsStreamed, OutcomeBy, OutcomeTable}
use Rattle.vt_replay.specs.Plain.{IsPlainCommand}
use Rattle.vt_replay.proofs.Found.{Options, Asked, options_in, asked_by, asked, no_options, AsksPlainly}

-- ---- the word of a name

abbrev word_of : Text → Option Word
word_of name =
    if bytes_eq name (codes "text") then Some (Replay what.Text) else (
    if bytes_eq name (codes "reports") then Some (Replay what.Reports) else (
    if bytes_eq name (codes "repaint") then Some (Replay what.Repaint) else (
    if bytes_eq name (codes "status") then Some (Replay what.Status) else (
    if bytes_eq name (codes "show") then Some (Replay what.Show) else (
    if bytes_eq name (codes "picture") then Some (Replay what.Picture) else (
    if bytes_eq name (codes "log") then Some Log else (
    if bytes_eq name (codes "trace") then Some Trace else (
    if bytes_eq name (codes "events") then Some Events else Some Content))))))))

own-name : (word : Word) → word_of (word_name word) ≡ Some word
own-name (Replay what.Text) = refl
own-name (Replay what.Reports) = refl
own-name (Replay what.Repaint) = refl
own-name (Replay what.Status) = refl
own-name (Replay what.Show) = refl
own-name (Replay what.Picture) = refl
own-name Log = refl
own-name Trace = refl
own-name Events = refl
own-name Content = refl

some-word : (a b : Word) → Some a ≡ Some b → a ≡ b
some-word a b h = cc

same-word : (a b : Word) → word_name a ≡ word_name b → a ≡ b
same-word a b h = some-word a b (sym (own-name a) ∙ ap word_of h ∙ own-name b)

some-asked : (a b : Asked) → Some a ≡ Some b → a ≡ b
some-asked a b h = cc

some-options : (a b : Options) → Some a ≡ Some b → a ≡ b
some-options a b h = cc

-- ---- the request of these words

abbrev options_of : Request → Options
options_of r =
    record { format = r.format; from = r.from; until = r.until; encoding = r.encoding; terminal = r.terminal; wide = r.wide; size = r.size }

found-options : (found : Option (Text × List Row)) (r : Request) (is : IsFound found r)
    → options_in (word_name r.word) is.matches ≡ Some (options_of r)
found-options found r is = rw (is.source, options_in) refl

pub record AsksFor (format : Option Format) (word : Word) (file : Option Text) (r : Request) : Type 0 where
  pub word_is : r.word ≡ word
  pub options_are : options_of r ≡ no_options format
  pub file_is : option_map (λ f. string_bytes f) r.file ≡ file

asks-for : (format : Option Format) (word : Word) → (file : Option Text) (words : List (String Global)) (r : Request) → AsksPlainly format word
    → IsPlainCommand (word_name word) file words → IsRequest words r → AsksFor format word file r
asks-for format word file words r asks plain request =
    let found = request.found in
    let here : asked (found_in words) ≡ Some (record { name = word_name word; options = Some (no_options format); file = file }) =
    ap (λ (ws : List Text). asked (subcommand_of vt220 ws)) plain.are ∙ asks plain.program file plain.operand in
    let there : asked (found_in words) ≡ Some (asked_by (word_name r.word, found.matches)) = ap asked found.word in
    let same : asked_by (word_name r.word, found.matches) ≡ record { name = word_name word; options = Some (no_options format); file = file } =
    some-asked _ _ (sym there ∙ here) in
    let options : options_of r ≡ no_options format =
    some-options _ _ (sym (found-options (found_in words) r found) ∙ ap (λ (a : Asked). a.options) same) in
    record {
      word_is = same-word r.word word (ap (λ (a : Asked). a.name) same);
      options_are = options;
      file_is = found.options.file_is ∙ ap (λ (a : Asked). a.file) same;
    }

-- ---- its table

named-none : (word : Word) → named_for word None ≡ None
named-none (Replay what) = refl
named-none Log = refl
named-none Trace = refl
named-none Events = refl
named-none Content = refl

plain-terminal : (format : Option Format) (word : Word) (file : Option Text) (r : Request) → AsksFor format word file r → (plain_host r).terminal ≡ Vt220
plain-terminal format word file r asks =
    ap (λ (s : Options). terminal_for s.terminal s.encoding (named_for r.word None)) asks.options_are
    ∙ ap (λ (named : Option TerminalType). terminal_for None None named) (named-none r.word)

plain-encoding : (format : Option Format) (word : Word) (file : Option Text) (r : Request) → AsksFor format word file r → (plain_host r).encoding ≡ Dec
plain-encoding format word file r asks =
    ap (λ (t : TerminalType). encoding_for t r.encoding Dec) (plain-terminal format word file r asks)
    ∙ ap (λ (s : Options). encoding_for Vt220 s.encoding Dec) asks.options_are

no-size : (plays : Bool) → unwrap_or (cond plays None None) vt220_size ≡ vt220_size
no-size true = refl
no-size false = refl

plain-size : (format : Option Format) (word : Word) (file : Option Text) (r : Request) → AsksFor format word file r → (plain_host r).size ≡ vt220_size
plain-size format word file r asks =
    ap (λ (s : Options). unwrap_or (size_for r.word s.size s.wide None None) vt220_size) asks.options_are ∙ no-size (takes_size r.word)

is-streamed : (format : Option Format) (word : Word) (file : Option Text) (r : Request) (beginning : List ℕ) → AsksFor format word file r
    → takes_whole word ≡ false → format_of r.format beginning ≡ Raw
    → is_streamed (format_of r.format beginning) r.until r.wide (needs_whole r) ≡ true
is-streamed format word file r beginning asks plays raw =
    ap (λ (f : Format). is_streamed f r.until r.wide (needs_whole r)) raw
    ∙ ap (λ (s : Options). is_streamed Raw s.until s.wide (takes_whole r.word || is_some s.from)) asks.options_are
    ∙ ap (λ (e : Bool). is_streamed Raw None None (e || false)) (ap takes_whole asks.word_is ∙ plays)

pub auto-table : (format : Option Format) (word : Word) → AsksPlainly format word → takes_whole word ≡ false → (file : Option Text) (words : List (String Global)) (r : Request) (o : Outcome)
    (beginning : List ℕ) (timing : Option (List ℕ)) (b w : List ℕ) (f : Flags)
    → IsPlainCommand (word_name word) file words → IsRequest words r
    → format_of r.format beginning ≡ Raw → OutcomeTable o r (format_of r.format beginning) timing b w f
    → (WordTable o.ended word vt220_size [] Vt220 Dec r.piece b w f r.limit) × (option_map (λ f. string_bytes f) r.file ≡ file)
auto-table format word plainly plays file words r o beginning timing b w f plain request raw table =
    let asks = asks-for format word file words r plainly plain request in
    let streamed : IsStreamed o r b w f =
    subst (λ (s : Bool). OutcomeBy s o r (format_of r.format beginning) timing b w f) (is-streamed format word file r beginning asks plays raw) table in (
      subst (λ (x : Word). WordTable o.ended x vt220_size [] Vt220 Dec r.piece b w f r.limit) asks.word_is
          (subst (λ (e : Encoding). WordTable o.ended r.word vt220_size [] Vt220 e r.piece b w f r.limit) (plain-encoding format word file r asks)
          (subst (λ (t : TerminalType). WordTable o.ended r.word vt220_size [] t (plain_host r).encoding r.piece b w f r.limit)
          (plain-terminal format word file r asks)
          (subst (λ (z : Size). WordTable o.ended r.word z [] (plain_host r).terminal (plain_host r).encoding r.piece b w f r.limit)
          (plain-size format word file r asks) streamed.table))),
      asks.file_is,
    )

-- the format was decided by the words
pub plain-table : (word : Word) → AsksPlainly (Some Raw) word → takes_whole word ≡ false → (file : Option Text) (words : List (String Global)) (r : Request) (o : Outcome)
    (beginning : List ℕ) (timing : Option (List ℕ)) (b w : List ℕ) (f : Flags)
    → IsPlainCommand (word_name word) file words → IsRequest words r
    → OutcomeTable o r (format_of r.format beginning) timing b w f
    → (WordTable o.ended word vt220_size [] Vt220 Dec r.piece b w f r.limit) × (option_map (λ f. string_bytes f) r.file ≡ file)
plain-table word plainly plays file words r o beginning timing b w f plain request table =
    let asks = asks-for (Some Raw) word file words r plainly plain request in
    auto-table (Some Raw) word plainly plays file words r o beginning timing b w f plain request
    (ap (λ (s : Options). format_of s.format beginning) asks.options_are) table
