-- The faults of both scalars with their numbers and values, and the numbers that get them, in the order of the checks.
use Rattle.std.specs.Prelude.{cond, ℤ, Some, None, Option, is_nan, Float}
use Rattle.plane.specs.Reach.{within}
use Rattle.millimetre.specs.Millimetres.{beyond, whole}
use Rattle.scalar.specs.declared.fault.I32Fault.{I32Fault}
use Rattle.scalar.specs.declared.fault.I32Fault.TheVariants as I32
use Rattle.scalar.specs.declared.fault.F64Fault.{F64Fault}
use Rattle.scalar.specs.declared.fault.F64Fault.TheVariants as F64
use Rattle.scalar.specs.Refusal.{Refusal}

-- 2 beyond reach
abbrev pub i32_fault : I32Fault → Refusal ℤ
i32_fault (I32.BeyondReach u) = record { number = 2; value = Some u }

-- 1 not a number, 2 beyond reach, 3 off the grid
abbrev pub f64_fault : F64Fault → Refusal Float
f64_fault F64.NotANumber = record { number = 1; value = None }
f64_fault (F64.BeyondReach x) = record { number = 2; value = Some x }
f64_fault (F64.OffGrid x) = record { number = 3; value = Some x }

-- what an i32 is refused with, if it is
abbrev pub i32_refusal : ℤ → Option (Refusal ℤ)
i32_refusal u = cond (within u) None (Some (i32_fault (I32.BeyondReach u)))

-- what an f64 is refused with, if it is: the checks in their order
abbrev pub f64_refusal : Float → Option (Refusal Float)
f64_refusal x =
    cond (is_nan x) (Some (f64_fault F64.NotANumber))
    (cond (beyond x) (Some (f64_fault (F64.BeyondReach x)))
    (cond (whole x) None (Some (f64_fault (F64.OffGrid x)))))
