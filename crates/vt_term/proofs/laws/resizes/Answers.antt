use Rattle.std.proofs.Common.{arith}
use Rattle.vt_screen.proofs.Vt220Grids.{inside-stays}
use Rattle.vt_term.specs.Resizing.{count_off}
use Rattle.vt_term.proofs.Resized.{own-state, own-log, own-page, own-hidden_log, state_on-sound, page_on-sound, hidden_line}
use Rattle.vt_term.proofs.Resized as resized
use Rattle.vt_term.proofs.laws.resizes.Goals as goal

pub returns-clause-own : goal.returns-clause-own
returns-clause-own c = own-state

pub returns-clause-own_log : goal.returns-clause-own_log
returns-clause-own_log c = own-log

pub returns-clause-own_page : goal.returns-clause-own_page
returns-clause-own_page c = own-page

pub returns-clause-inside : goal.returns-clause-inside
returns-clause-inside c = λ size s. inside-stays size (count_off size s.display) s.display.grid

pub returns-clause-line : goal.returns-clause-line
returns-clause-line c = λ size s. omega arith

pub returns-clause-sound : goal.returns-clause-sound
returns-clause-sound c = state_on-sound

pub returns-clause-own_page_log : goal.returns-clause-own_page_log
returns-clause-own_page_log c = own-hidden_log

pub returns-clause-line_page : goal.returns-clause-line_page
returns-clause-line_page c = hidden_line

pub returns-clause-sound_page : goal.returns-clause-sound_page
returns-clause-sound_page c = page_on-sound

pub returns-clause-kept : goal.returns-clause-kept
returns-clause-kept c = resized.kept

pub returns-clause-kept_page : goal.returns-clause-kept_page
returns-clause-kept_page c = resized.kept_page
