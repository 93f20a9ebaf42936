use Rattle.std.proofs.Common.{[], ◌<◌, ℕ}
use Rattle.std.proofs.lemmas.List.Elements.{All-from_recursion}
use Rattle.vt_utf8.proofs.feeding.ascii_front.Goals as goal

pub returns-clause-ascii : goal.returns-clause-ascii
returns-clause-ascii c = All-from_recursion (λ (b : ℕ). b < 0x80) [] tt
