-- Settings and what clap matched.
use Rattle.std.proofs.Common.{rules, ℕ, ◌≡◌, ◌∙◌, List, ap, sym, Option, Some, None, Result, Ok, Err, IfSome, IfNone, true, false}
use Rattle.std.proofs.Common.{codes, refl, is_some, option_map, ◌≤◌, ◌<◌, ◌+◌, length, take, fold, get_or}
use Rattle.std.proofs.lemmas.List.Sums.{fold_more}
use Rattle.std.proofs.Math.Seq.{take_all}
use Rattle.std.specs.Option.{unwrap_or}
use Rattle.std.specs.Str.Parse.{ParsesUnsigned}
use Rattle.std.specs.Result.{result_ok}
use Rattle.clap.specs.Words.{Row, Text, first_of}
use Rattle.vt_cli.specs.CommandLine.{IsNumberOf, HasNoSettings, name_of, word_name, is_plain}
use Rattle.vt_cli.specs.Request.{HasNoOptions, HasNoRequest}

-- a text is one of one option
same_text : (a b : Text) → Some a ≡ Some b → a ≡ b
same_text a b e = ap (λ o. unwrap_or o a) e

-- what is read of the matched text is the option's number
pub some_number : {E : Type 0} (option text : Text) (matches : List Row) (r : Result ℕ E)
    → first_of option matches ≡ Some text
    → ParsesUnsigned 64 10 text r → IfSome (result_ok r) (IsNumberOf option matches)
some_number option text matches (Ok n) matched parsed = record { text = text; matched = matched; parsed = parsed }
some_number option text matches (Err e) matched parsed = tt

-- where nothing can be read of it, the option has no number
pub no_number : {E : Type 0} (option text : Text) (matches : List Row) (r : Result ℕ E)
    → first_of option matches ≡ Some text
    → ParsesUnsigned 64 10 text r → IfNone (result_ok r) ((n : ℕ) → IsNumberOf option matches n → ⊥)
no_number option text matches (Ok n) matched parsed = tt
no_number option text matches (Err e) matched parsed = λ n a.
    let same : text ≡ a.text = same_text text a.text (sym matched ∙ a.matched) in
    parsed (rw same a.parsed.0)

-- where nothing was matched, the option has no number
pub unmatched_number : (option : Text) (matches : List Row) → first_of option matches ≡ None → (n : ℕ)
    → IsNumberOf option matches n → ⊥
unmatched_number option matches none n a =
    let e : None ≡ Some a.text = sym none ∙ a.matched in
    search (rules, e)

-- the subcommand of settings is the one that was found
same_found : (name other : Text) (matches more : List Row)
    → ◌≡◌ {A = Option (Text × List Row)} (Some (name, matches)) (Some (other, more)) → (name ≡ other) × (matches ≡ more)
same_found name other matches more e = (
  ap (λ o. (unwrap_or {T = Text × List Row} o (name, matches)).0) e,
  ap (λ o. (unwrap_or {T = Text × List Row} o (name, matches)).1) e,
)

-- a subcommand with no options of this kind asks for nothing
pub without_piece : (matches : List Row) → ((n : ℕ) → IsNumberOf (codes "piece") matches n → ⊥) → HasNoOptions matches
without_piece matches none piece limit file a = none piece a.piece_is

pub without_limit : (matches : List Row) → ((n : ℕ) → IsNumberOf (codes "limit") matches n → ⊥) → HasNoOptions matches
without_limit matches none piece limit file a = none limit a.limit_is

module _ (name : Text) (matches : List Row) (none : HasNoOptions matches) where
  pub settings_without_options : HasNoSettings (Some (name, matches))
  settings_without_options s a =
      let same = (same_found name (name_of s.what) matches a.matches a.what).1 in
      none s.piece s.limit s.file (record {
        piece_is = rw same a.piece;
        limit_is = rw same a.limit;
        piece_in_range = a.piece_in_range;
        limit_in_range = a.limit_in_range;
        file_is = rw same a.file;
      })

  pub request_without_options : HasNoRequest (Some (name, matches))
  request_without_options r a =
      let same = (same_found name (word_name r.word) matches a.matches a.word).1 in
      none r.piece r.limit r.file (rw same a.options)

-- a subcommand with an option of a recording has no settings
pub settings_if_plain : (name : Text) (matches : List Row) → is_plain matches ≡ false → HasNoSettings (Some (name, matches))
settings_if_plain name matches is s a =
    let same = (same_found name (name_of s.what) matches a.matches a.what).1 in
    let plain : is_plain matches ≡ true = rw same a.plain in
    let e : false ≡ true = sym is ∙ plain in
    search (rules, e)

-- ---- texts of options

-- a text is there, whatever is taken of it
pub some_taken : {A B : Type 0} (f : A → B) (o : Option A) → is_some o ≡ is_some (option_map f o)
some_taken f None = refl
some_taken f (Some x) = refl

-- ---- tables

-- one row more is added
pub row_added : {X A : Type 0} (add : A → X → A) (start now next : A) (rows : List X) (k : ℕ) (row : X)
    → k < length rows → now ≡ fold add start (take k rows) → next ≡ add now (get_or rows k row)
    → next ≡ fold add start (take (k + 1) rows)
row_added add start now next rows k row there so_far is =
    is ∙ ap (λ a. add a (get_or rows k row)) so_far ∙ sym (fold_more add start rows k row there)

-- all rows are added
pub all_added : {X A : Type 0} (add : A → X → A) (start now : A) (rows : List X) (k : ℕ) → length rows ≤ k
    → now ≡ fold add start (take k rows) → now ≡ fold add start rows
all_added add start now rows k past so_far = so_far ∙ ap (λ l. fold add start l) (take_all k rows past)

-- an optional pair, by its parts
abbrev paired : {X A B : Type 0} → (X → A) → (X → B) → X → A × B
paired f g x = (f x, g x)

pub pair_of : {X A B : Type 0} (o : Option X) (f : X → A) (g : X → B) (a : A) (b : B) → Some a ≡ option_map f o
    → Some b ≡ option_map (λ (p : A × B). p.1) (option_map (paired f g) o) → Some (paired (λ (u : Unit {0}). a) (λ (u : Unit {0}). b) tt) ≡ option_map (paired f g) o
pair_of (Some x) f g a b first second = search (rules, first, second)
pair_of None f g a b first second = search (rules, first)
