-- A front's pointer is kept.
use Rattle.vt220_c.proofs.Keepers.{xterm, kept_of}
use Rattle.vt220_c.specs.contracts.kept_xterm.KeptXterm.of.Key.{name as #self}
use Rattle.vt220_c.proofs.kept_xterm.KeptXterm.of.Statement.{statement}
use Rattle.vt220_c.proofs.kept_xterm.KeptXterm.of.Code as code

pub of_spec : {M : Type 1} → statement M
of_spec 𝓤 𝓛 𝓜 𝓡 wired = kept_of xterm 𝓛 𝓜 𝓡 #self (code.unfolded 𝓤 𝓛.H 𝓜 𝓡 wired)
