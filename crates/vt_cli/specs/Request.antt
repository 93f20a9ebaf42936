-- A request, and what the results of `request` state. (this profile)
use Rattle.std.specs.Prelude.{◌≡◌, ◌⊎◌, ℕ, ◌≤◌, List, [], ◌∷◌, ◌++◌, codes, Option, Some, string_bytes, Ok, Err}
use Rattle.std.specs.Option.{option_map}
use Rattle.std.specs.declared.alloc.Global.{Global}
use Rattle.std.specs.declared.string.String.{String}
use Rattle.clap.specs.Words.{Row, Text, Kinds, first_of}
use Rattle.vt_cli.specs.declared.source.Complaint.{Complaint}
use Rattle.vt_cli.specs.declared.asked.Request.{Request}
use Rattle.vt_cli.specs.declared.asked.Refused.{Refused}
use Rattle.vt_cli.specs.CommandLine.{faults_in, found_in, word_name, is_set, IsNumberOf, IsMemory, IsFault}
use Rattle.vt_cli.specs.Source.{source_in, line_of}

-- the numbers and the file of a subcommand's matches
pub record AreOptions (matches : List Row) (piece limit : ℕ) (file : Option (String Global)) : Type 0 where
  pub piece_is : IsNumberOf (codes "piece") matches piece
  pub limit_is : IsNumberOf (codes "limit") matches limit
  pub piece_in_range : (1 ≤ piece) × (piece ≤ 65536)
  pub limit_in_range : limit ≤ 1099511627776
  pub file_is : option_map (λ f. string_bytes f) file ≡ first_of (codes "file") matches

-- no options are in the matches; private contracts alone speak of this
abbrev pub HasNoOptions : List Row → Type 0
HasNoOptions matches = (piece limit : ℕ) (file : Option (String Global)) → AreOptions matches piece limit file → ⊥

-- r is what the subcommand that clap found, and its matches, ask for
pub record IsFound (found : Option (Text × List Row)) (r : Request) : Type 0 where
  pub matches : List Row
  pub word : found ≡ Some (word_name r.word, matches)
  pub options : AreOptions matches r.piece r.limit r.file
  pub source : source_in (word_name r.word) matches ≡ Ok (record { format = r.format; from = r.from; until = r.until; encoding = r.encoding; terminal = r.terminal; wide = r.wide; size = r.size })
  pub timing : option_map (λ f. string_bytes f) r.timing ≡ first_of (codes "timing") matches
  pub full : r.full ≡ is_set (codes "full") matches
  pub partial : r.partial ≡ is_set (codes "partial") matches
  pub quiet : r.quiet ≡ is_set (codes "quiet") matches

-- r is the request of the words
pub record IsRequest (words : List (String Global)) (r : Request) : Type 0 where
  pub no_fault : faults_in words ≡ []
  pub found : IsFound (found_in words) r

-- ---- refusals

-- what clap found makes no request
abbrev pub HasNoRequest : Option (Text × List Row) → Type 0
HasNoRequest found = (r : Request) → IsFound found r → ⊥

-- clap found no fault, and yet no request: the text says so
pub record IsStrayRequest (faults : Kinds) (found : Option (Text × List Row)) (r : Refused) : Type 0 where
  pub none : faults ≡ []
  pub stray : HasNoRequest found
  pub status : r.status ≡ 2
  pub text : string_bytes r.text ≡ codes "vt220: bad command line" ++ 0x0A ∷ []

-- clap found no fault, but the options of a recording don't fit: the text says what
pub record IsMisfit (faults : Kinds) (found : Option (Text × List Row)) (r : Refused) : Type 0 where
  pub none : faults ≡ []
  pub name : Text
  pub matches : List Row
  pub found_is : found ≡ Some (name, matches)
  pub complaint : Complaint
  pub why : source_in name matches ≡ Err complaint
  pub status : r.status ≡ 2
  pub text : string_bytes r.text ≡ line_of complaint

-- the refusal, by the faults and the subcommand that clap finds
abbrev pub IsRequestRefusal : Kinds → Option (Text × List Row) → Refused → Type 0
IsRequestRefusal faults found r = IsMemory r ⊎ (IsFault faults r ⊎ (IsMisfit faults found r ⊎ IsStrayRequest faults found r))

abbrev pub IsNoRequest : List (String Global) → Refused → Type 0
IsNoRequest words r = IsRequestRefusal (faults_in words) (found_in words) r
