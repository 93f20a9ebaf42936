-- The last byte of what sets or resets a mode. No public clause cites it.
use Rattle.std.specs.Prelude.{ℕ, Bool, slice_index_or, if◌then◌else◌}
use Rattle.vt_paint.specs.declared.modes.TheConstants.{SET, RESET}

abbrev pub mode_last : ℕ → Bool → ℕ
mode_last index on = slice_index_or (if on then SET else RESET) index 0
