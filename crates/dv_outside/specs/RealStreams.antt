-- How often the real streams failed.
use Rattle.std.specs.Prelude.{ℕ}
use Rattle.dv_outside.specs.declared.real_streams.RealOut.{RealOut}
use Rattle.dv_outside.specs.declared.real_streams.RealErr.{RealErr}

abbrev pub real_out_faults : RealOut → ℕ
real_out_faults out = out.faults

abbrev pub real_err_faults : RealErr → ℕ
real_err_faults err = err.faults
