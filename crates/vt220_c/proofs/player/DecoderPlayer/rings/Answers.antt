use Rattle.std.proofs.Common.{◌≡◌, ◌∙◌, ◌≤◌, ap, sym, ℕ}
use Rattle.vt_syntax.specs.declared.held.Held.TheVariants.{Nothing}
use Rattle.vt_term.specs.State.{State}
use Rattle.vt_term.specs.Sound.{IsSoundAt}
use Rattle.vt_term.specs.Play.{Played, play}
use Rattle.vt_utf8.specs.Cells.{cells}
use Rattle.vt_utf8.specs.Translation.{translation}
use Rattle.vt220_c.proofs.Lost.{utf8-rings, one_cell}
use Rattle.vt220_c.proofs.player.DecoderPlayer.rings.Goals as goal

pub returns-clause-bells : goal.returns-clause-bells
returns-clause-bells c =
    let size = c.args.terminal.now.display.grid.size in
    let held : (s : State) (x : ℕ) → IsSoundAt size s → s.held ≡ Nothing → 0x80 ≤ x → cells x ≡ 1
    → (play s (translation s x)).state.held ≡ s.held =
    λ s x sound between beyond one. ap (λ (p : Played). p.state.held) (c.sized_writes.ensures.one size s x sound between beyond one) in
    let characters = rw c.copied.ensures at c.push-character.ensures.characters in
    (rw c.held.ensures.held at c.rings_in_character.ensures.bells)
    ∙ sym (utf8-rings size c.one_split.ensures c.controls.ensures c.spelled.ensures (c.sized_soundness.ensures.play size)
    c.sized_silence.ensures.plain held (c.sized_one_byte.ensures size) one_cell c.args.terminal.now c.args.self.now c.args.b c.push-character.result.0
    c.push-character.result.1 c.soundness.ensures c.push-character.ensures.lost characters)
