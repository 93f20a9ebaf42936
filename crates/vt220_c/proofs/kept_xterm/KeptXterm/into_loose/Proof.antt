-- A kept pointer is a front's again.
use Rattle.vt220_c.proofs.Keepers.{xterm, kept_out}
use Rattle.vt220_c.specs.contracts.kept_xterm.KeptXterm.into_loose.Key.{name as #self}
use Rattle.vt220_c.proofs.kept_xterm.KeptXterm.into_loose.Statement.{statement}
use Rattle.vt220_c.proofs.kept_xterm.KeptXterm.into_loose.Code as code

pub into_loose_spec : {M : Type 1} → statement M
into_loose_spec 𝓤 𝓛 𝓜 𝓡 wired = kept_out xterm 𝓛 𝓜 𝓡 #self (code.unfolded 𝓤 𝓛.H 𝓜 𝓡 wired)
