-- An empty handle is null.
use Rattle.vt220_c.proofs.Keepers.{xterm, kept_none}
use Rattle.vt220_c.specs.contracts.kept_xterm.KeptXterm.empty.Key.{name as #self}
use Rattle.vt220_c.proofs.kept_xterm.KeptXterm.empty.Statement.{statement}
use Rattle.vt220_c.proofs.kept_xterm.KeptXterm.empty.Code as code

pub empty_spec : {M : Type 1} → statement M
empty_spec 𝓤 𝓛 𝓜 𝓡 wired = kept_none xterm 𝓛 𝓜 𝓡 #self (code.unfolded 𝓤 𝓛.H 𝓜 𝓡 wired)
