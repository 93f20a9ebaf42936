use Rattle.vt_term.proofs.SizeKept.{effect-size}
use Rattle.vt_term.proofs.profile.Vt220Profile.keeps_size.Goals as goal

pub returns : goal.returns
returns c = record { one_size = λ event s one. tt; size = λ event s one. effect-size event s }
