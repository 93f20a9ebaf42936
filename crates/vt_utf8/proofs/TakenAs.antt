-- A VT220 as a sink: it takes characters as the bytes that they are translated to.
use Rattle.std.proofs.Common.{◌≡◌, ℕ, List, [], ◌∷◌, ◌++◌, refl, sym, ap, ◌∙◌, arith, append_assoc, append-nil, subst}
use Rattle.std.specs.Prelude.{⊤}
use Rattle.vt_screen.specs.declared.size.Size.{Size}
use Rattle.vt_term.specs.State.{State}
use Rattle.vt_term.specs.Sound.{IsSoundAt, IsSoundSized}
use Rattle.vt_term.specs.Play.{Played, play, both}
use Rattle.vt_term.specs.Scrolling.{scrolled_off}
use Rattle.vt_term.proofs.SizeKept.{play_kept}
use Rattle.vt_utf8.specs.Decoding.{characters}
use Rattle.vt_utf8.specs.Translation.{translation}
use Rattle.vt_utf8.specs.Text.{WritesText}
use Rattle.vt_utf8.specs.Play.{translated_all, translated, play_utf8}
use Rattle.vt_utf8.specs.Logs.{AreKept}
use Rattle.vt_utf8.specs.Sinks.{Point, point, AreInTurn, Feeds}
use Rattle.vt_utf8.specs.Private.Feeds.{TakesUtf8, FeedsUtf8, utf8_off}
use Rattle.vt_utf8.proofs.Cuts.{translated-append}
use Rattle.vt_utf8.proofs.Logged.{Rows, keeps-nothing, keeps-both}
use Rattle.vt_utf8.proofs.Texts.{OfText, PlaysText, TextOff}

-- one character
pub translated-one : (s : State) (c : ℕ) → translated_all s (c ∷ []) ≡ translation s c
translated-one s c = append-nil (translation s c)

-- no report is appended
pub no-report : (before after reports : List ℕ) → after ≡ before → reports ≡ [] → after ≡ before ++ reports
no-report before after reports same silent = same ∙ sym (append-nil before) ∙ ap (λ (r : List ℕ). before ++ r) (sym silent)

module _ {L : Type 0} (Keeps : L → Rows → L → Type 0) where
  -- characters that are translated to these bytes
  pub takes-as : {K : Type 0} (s t : State) (k : K) (cs bytes before after : List ℕ) (o p : L) → translated_all s cs ≡ bytes
      → t ≡ (play s bytes).state → after ≡ before ++ (play s bytes).reports → Keeps o (scrolled_off s bytes) p
      → TakesUtf8 Keeps (point s k o before) cs (point t k p after)
  takes-as s t k cs bytes before after o p is state reports keeps = record {
    state = subst (λ (b : List ℕ). t ≡ (play s b).state) (sym is) state;
    reports = subst (λ (b : List ℕ). after ≡ before ++ (play s b).reports) (sym is) reports;
    keeps = subst (λ (b : List ℕ). Keeps o (scrolled_off s b) p) (sym is) keeps;
  }

  pub feeds-utf8 : {K : Type 0} (x y : Point K L) (pending bytes after : List ℕ) → Feeds (TakesUtf8 Keeps) x pending bytes y after
      → FeedsUtf8 x.state pending bytes y.state after x.reports y.reports
  unfolding play_utf8 translated
  feeds-utf8 x y pending bytes after fed = record { state = fed.takes.state; left = fed.left; reports = fed.takes.reports }

  pub keeps-utf8 : {K : Type 0} (x y : Point K L) (pending bytes after : List ℕ) → Feeds (TakesUtf8 Keeps) x pending bytes y after
      → Keeps x.log (utf8_off x.state pending bytes) y.log
  unfolding translated
  keeps-utf8 x y pending bytes after fed = fed.takes.keeps

  module _ (HasRoom IsFull : L → ℕ → Type 0) (kept : AreKept Keeps HasRoom IsFull)
      (none : (size : Size) (s : State) → IsSoundAt size s → play s [] ≡ record { state = s; reports = [] })
      (off_none : (size : Size) (s : State) → IsSoundAt size s → scrolled_off s [] ≡ []) where
    takes-nothing : {K : Type 0} (x : Point K L) → IsSoundSized x.state → TakesUtf8 Keeps x [] x
    takes-nothing x sound =
        let size = x.state.display.grid.size in
        let same = none size x.state sound in record {
          state = sym (ap (λ (p : Played). p.state) same);
          reports = no-report x.reports x.reports (play x.state []).reports refl (ap (λ (p : Played). p.reports) same);
          keeps = keeps-nothing Keeps HasRoom IsFull kept x.log (scrolled_off x.state []) (off_none size x.state sound);
        }

    pub takes-text : {K : Type 0} (s t : State) (k : K) (o : L) (out bytes : List ℕ) → OfText PlaysText s.display.grid.size
        → OfText TextOff s.display.grid.size → IsSoundSized s → WritesText s bytes t
        → TakesUtf8 Keeps (point s k o out) (characters [] bytes) (point t k o out)
    takes-text s t k o out [] plays off sound text =
        subst (λ (u : State). TakesUtf8 Keeps (point s k o out) [] (point u k o out)) (sym text.state)
        (takes-nothing (point s k o out) sound)
    takes-text s t k o out (b ∷ bytes) plays off sound text =
        let cs = characters [] (b ∷ bytes) in
        let ready = text.ready (omega arith) in
        let played = plays s cs sound ready text.is_text text.fits in record {
          state = text.state ∙ sym (ap (λ (p : Played). p.state) played);
          reports = no-report out out (play s (translated_all s cs)).reports refl (ap (λ (p : Played). p.reports) played);
          keeps = keeps-nothing Keeps HasRoom IsFull kept o (scrolled_off s (translated_all s cs))
              (off s cs sound ready text.is_text text.fits);
        }

    module _ (two : (s : State) (a b : List ℕ) → play s (a ++ b) ≡ both (play s a) (play (play s a).state b))
        (off_two : (s : State) (a b : List ℕ) → scrolled_off s (a ++ b) ≡ scrolled_off s a ++ scrolled_off (play s a).state b)
        (keeps : (size : Size) (s : State) (bytes : List ℕ) → IsSoundAt size s → IsSoundAt size (play s bytes).state) where
      takes-more : {K : Type 0} (x y z : Point K L) (a b : List ℕ) → IsSoundSized x.state → TakesUtf8 Keeps x a y → TakesUtf8 Keeps y b z
          → TakesUtf8 Keeps x (a ++ b) z
      takes-more x y z a b sound first second =
          let s = x.state in
          let t = y.state in
          let size = s.display.grid.size in
          let own = translated_all s a in
          let next = translated_all t b in
          let all : translated_all s (a ++ b) ≡ own ++ next =
          translated-append (none size) two (keeps size) s a b sound
          ∙ ap (λ (u : State). own ++ translated_all u b) (sym first.state) in
          let played : play s (translated_all s (a ++ b)) ≡ both (play s own) (play t next) =
          ap (λ (bytes : List ℕ). play s bytes) all ∙ two s own next
          ∙ ap (λ (u : State). both (play s own) (play u next)) (sym first.state) in
          record {
            state = second.state ∙ sym (ap (λ (p : Played). p.state) played);
            reports = second.reports ∙ ap (λ (o : List ℕ). o ++ (play t next).reports) first.reports
                ∙ append_assoc x.reports (play s own).reports (play t next).reports
                ∙ ap (λ (r : List ℕ). x.reports ++ r) (sym (ap (λ (p : Played). p.reports) played));
            keeps = keeps-both Keeps HasRoom IsFull kept x.log y.log z.log (scrolled_off s own) (scrolled_off t next)
                (scrolled_off s (translated_all s (a ++ b))) first.keeps second.keeps
                (ap (λ (bytes : List ℕ). scrolled_off s bytes) all ∙ off_two s own next
                ∙ ap (λ (u : State). scrolled_off s own ++ scrolled_off u next) (sym first.state));
          }

      pub in-turn : {K : Type 0} → AreInTurn {K = K} {L = L} (TakesUtf8 Keeps) (λ s k. ⊤)
      in-turn = record {
        nothing = takes-nothing;
        more = takes-more;
        size = λ x y cs takes. ap (λ (s : State). s.display.grid.size) takes.state
            ∙ play_kept x.state (translated_all x.state cs);
        one_size = λ x y cs takes one. tt;
      }
