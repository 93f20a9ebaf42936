-- Lines that are UTF-8, and the encoding that content shows.
use Rattle.std.proofs.Common.{◌≡◌, ◌&&◌, ℕ, List, length, take, drop, Bool, true, not, is_some, Option, None, refl, sym, ap, ◌∙◌, arith, nat_lt}
use Rattle.std.specs.List.{list_all}
use Rattle.std.proofs.lemmas.List.{take_all, drop_all}
use Rattle.std.specs.Str.{IsUtf8}
use Rattle.std.specs.Str.Lossy.{utf8_valid_len, utf8_error_len}
use Rattle.std.proofs.lemmas.Str.{utf8_valid_len-IsUtf8}
use Rattle.json.specs.Json.{Json, document}
use Rattle.json.specs.Lex.{tokens}
use Rattle.vt_recording.specs.Asciicast.{Event, is_text, document_in, event_of, event_in}
use Rattle.vt_recording.specs.Detection.{shows_utf8}
use Rattle.vt_recording.proofs.Supplemental.{same}

pub is_utf8 : (line : List ℕ) → IsUtf8 line → is_text line ≡ true
is_utf8 line u = same (utf8_valid_len line) (length line) (utf8_valid_len-IsUtf8 line u)

pub document_is : (line text : List ℕ) (o : Option Json) → text ≡ line → IsUtf8 line → document text ≡ o
    → o ≡ document_in line
document_is line text o e u d =
    let there : document line ≡ o = rw e at d in
    rw (is_utf8 line u) (sym there)

pub event_is : (line text : List ℕ) (o : Option Event) → text ≡ line → IsUtf8 line → o ≡ event_of (tokens text)
    → o ≡ event_in line
event_is line text o e u v = let there : o ≡ event_of (tokens line) = rw e at v in rw (is_utf8 line u) there

abbrev are_ascii : List ℕ → Bool
are_ascii bytes = list_all (λ b. nat_lt b 0x80) bytes

-- the front that is UTF-8 ends at n, by this fault
pub shown_by : (content : List ℕ) (n : ℕ) (fault : Option ℕ) (ascii : Bool) → n ≡ utf8_valid_len content
    → fault ≡ utf8_error_len (drop n content) → ascii ≡ are_ascii (take n content)
    → not (is_some fault) && not ascii ≡ shows_utf8 content
shown_by content n fault ascii valid error is = rw (error, is, valid) refl

pub shown_whole : (content : List ℕ) (ascii : Bool) → IsUtf8 content → ascii ≡ are_ascii content → not ascii ≡ shows_utf8 content
unfolding utf8_error_len
shown_whole content ascii u is =
    let valid : length content ≡ utf8_valid_len content = sym (utf8_valid_len-IsUtf8 content u) in
    let none : utf8_error_len (drop (length content) content) ≡ None = rw (drop_all (length content) content (omega arith)) refl in
    shown_by content (length content) None ascii valid (sym none)
    (is ∙ ap are_ascii (sym (take_all (length content) content (omega arith))))
