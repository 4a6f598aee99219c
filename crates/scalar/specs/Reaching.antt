-- That a number is within reach has one proof, so that equal numbers make equal scalars.
use Rattle.std.specs.Prelude.{ℤ, ◌≤ℤ◌}
use Rattle.std.specs.Int.Signed.{le_z}
use Rattle.std.proofs.Math.Dec.{T_prop}
use Rattle.plane.specs.Reach.{Within}

-- an order of two numbers has one proof
le_prop : (a b : ℤ) → IsProp (a ≤ℤ b)
le_prop a b p q = λ i. record { le = T_prop (le_z a b) p.le q.le i }

pub within_prop : (u : ℤ) → IsProp (Within u)
within_prop u p q = λ i. (le_prop _ _ p.0 q.0 i, le_prop _ _ p.1 q.1 i)
