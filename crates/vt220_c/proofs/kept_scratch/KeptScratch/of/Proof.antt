-- A scratch buffer's pointer is kept.
use Rattle.vt220_c.proofs.Keepers.{buffer, kept_of}
use Rattle.vt220_c.specs.contracts.kept_scratch.KeptScratch.of.Key.{name as #self}
use Rattle.vt220_c.proofs.kept_scratch.KeptScratch.of.Statement.{statement}
use Rattle.vt220_c.proofs.kept_scratch.KeptScratch.of.Code as code

pub of_spec : {M : Type 1} → statement M
of_spec 𝓤 𝓛 𝓜 𝓡 wired = kept_of buffer 𝓛 𝓜 𝓡 #self (code.unfolded 𝓤 𝓛.H 𝓜 𝓡 wired)
