use Rattle.std.proofs.Common.{◌≡◌, ◌∙◌, ap, sym, [], ℕ, List, length, None}
use Rattle.vt_syntax.specs.declared.held.Held.TheVariants.{Nothing}
use Rattle.vt_syntax.specs.Held.{IsHeldPart}
use Rattle.vt_xterm.specs.Play.{WholePlayed}
use Rattle.vt220_c.specs.Written.{written_over}
use Rattle.vt220_c.proofs.OneByte.{no-items, graphic-played, graphic-front}
use Rattle.vt220_c.proofs.xterm.play_byte_xterm.Goals as goal

pub returns-then-is_printed-clause-state : goal.returns-then-is_printed-clause-state
returns-then-is_printed-clause-state c =
    let sound : IsHeldPart c.args.inner.now.held = rw c.inner.view_is at c.soundness.ensures.held in
    let fact = rw c.if-is_printed.true at c.is_printed.ensures in
    let between : c.args.inner.now.held ≡ Nothing = rw c.inner.view_is at (sym c.held.ensures.held ∙ fact.1) in
    let none : c.args.front.now.pending ≡ [] =
    no-items _ (ap (λ (xs : List ℕ). length xs) (sym c.pending.ensures.value) ∙ fact.2) in
    let reset : c.args.front.now.pages.sides ≡ None = sym c.sides.ensures ∙ fact.0 in
    c.feed_byte.ensures.state ∙ sym (ap (λ (p : WholePlayed). p.whole.state) (graphic-played c.sized_transparent.ensures.ascii
    c.sized_transparent.ensures.terminals c.spelled.ensures.all_plain c.args.inner.now c.args.front.now c.args.byte
    c.feed_byte.result.taken sound none reset between (fact.3, fact.4) c.feed_byte.ensures.within))

pub returns-then-is_printed-clause-front : goal.returns-then-is_printed-clause-front
returns-then-is_printed-clause-front c =
    let sound : IsHeldPart c.args.inner.now.held = rw c.inner.view_is at c.soundness.ensures.held in
    let fact = rw c.if-is_printed.true at c.is_printed.ensures in
    let between : c.args.inner.now.held ≡ Nothing = rw c.inner.view_is at (sym c.held.ensures.held ∙ fact.1) in
    let none : c.args.front.now.pending ≡ [] =
    no-items _ (ap (λ (xs : List ℕ). length xs) (sym c.pending.ensures.value) ∙ fact.2) in
    let reset : c.args.front.now.pages.sides ≡ None = sym c.sides.ensures ∙ fact.0 in
    graphic-front c.sized_transparent.ensures.ascii c.sized_transparent.ensures.terminals c.spelled.ensures.all_plain c.args.inner.now
    c.args.front.now c.args.byte c.feed_byte.result.taken sound none reset between (fact.3, fact.4) c.feed_byte.ensures.within
    c.ascii.ensures.pending

pub returns-then-is_printed-clause-reports : goal.returns-then-is_printed-clause-reports
returns-then-is_printed-clause-reports c =
    let sound : IsHeldPart c.args.inner.now.held = rw c.inner.view_is at c.soundness.ensures.held in
    let fact = rw c.if-is_printed.true at c.is_printed.ensures in
    let between : c.args.inner.now.held ≡ Nothing = rw c.inner.view_is at (sym c.held.ensures.held ∙ fact.1) in
    let none : c.args.front.now.pending ≡ [] =
    no-items _ (ap (λ (xs : List ℕ). length xs) (sym c.pending.ensures.value) ∙ fact.2) in
    let reset : c.args.front.now.pages.sides ≡ None = sym c.sides.ensures ∙ fact.0 in
    c.feed_byte.ensures.out ∙ sym (ap (λ (p : WholePlayed). written_over p.reports c.args.out.now) (graphic-played
    c.sized_transparent.ensures.ascii c.sized_transparent.ensures.terminals c.spelled.ensures.all_plain c.args.inner.now c.args.front.now
    c.args.byte c.feed_byte.result.taken sound none reset between (fact.3, fact.4) c.feed_byte.ensures.within))

pub returns-then-is_printed-clause-written : goal.returns-then-is_printed-clause-written
returns-then-is_printed-clause-written c =
    let sound : IsHeldPart c.args.inner.now.held = rw c.inner.view_is at c.soundness.ensures.held in
    let fact = rw c.if-is_printed.true at c.is_printed.ensures in
    let between : c.args.inner.now.held ≡ Nothing = rw c.inner.view_is at (sym c.held.ensures.held ∙ fact.1) in
    let none : c.args.front.now.pending ≡ [] =
    no-items _ (ap (λ (xs : List ℕ). length xs) (sym c.pending.ensures.value) ∙ fact.2) in
    let reset : c.args.front.now.pages.sides ≡ None = sym c.sides.ensures ∙ fact.0 in
    c.feed_byte.ensures.written ∙ sym (ap (λ (p : WholePlayed). length p.reports) (graphic-played c.sized_transparent.ensures.ascii
    c.sized_transparent.ensures.terminals c.spelled.ensures.all_plain c.args.inner.now c.args.front.now c.args.byte
    c.feed_byte.result.taken sound none reset between (fact.3, fact.4) c.feed_byte.ensures.within))
