-- A device with what its calls have returned. (this profile)
use Rattle.std.specs.Prelude.{◌==◌, ◌&&◌, ℕ, List, length, Bool, true, false, Ok, Err, Option, Some, Result, nat_lt}
use Rattle.std_io.specs.declared.io.error.Error.{Error}

-- a device, whether it has failed, whether it has ended, and the last error that it returned
pub record Watch (D : Type 0) : Type 0 where
  pub device : D
  pub failed : Bool
  pub ended : Bool
  pub error : Option Error

-- the device answered a read by an error
abbrev pub read_failed : {E : Type 0} → Result ℕ E → Bool
read_failed (Ok n) = false
read_failed (Err e) = true

-- a read into a buffer that isn't empty gave no byte
abbrev pub read_ended : {E : Type 0} → Result ℕ E → List ℕ → Bool
read_ended (Ok n) buf = (n == 0) && nat_lt 0 (length buf)
read_ended (Err e) buf = false

-- the device returned an error for a write, or wrote no byte of a chunk that isn't empty
abbrev pub write_failed : {E : Type 0} → Result ℕ E → List ℕ → Bool
write_failed (Ok n) piece = (n == 0) && nat_lt 0 (length piece)
write_failed (Err e) piece = true

-- the last error after a call that returned this
abbrev pub error_after : Option Error → Result ℕ Error → Option Error
error_after error (Ok n) = error
error_after error (Err e) = Some e
