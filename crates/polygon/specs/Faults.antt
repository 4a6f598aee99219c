-- The fault of an open ring with its number and value, and the rings that get it.
use Rattle.std.specs.Prelude.{ℕ, ◌+◌, Bool, true, cond, List, [], ◌∷◌, Some, None, Option}
use Rattle.plane.specs.declared.grid_point.GridPoint.{GridPoint}
use Rattle.polyline.specs.Strings.{last}
use Rattle.polyline.specs.Tests.{same}
use Rattle.scalar.specs.Refusal.{Refusal}
use Rattle.polygon.specs.declared.fault.RingFault.{RingFault}
use Rattle.polygon.specs.declared.fault.RingFault.TheVariants.{Open}

-- 4 open ring, with its place
abbrev pub ring_fault : RingFault → Refusal ℕ
ring_fault (Open k) = record { number = 4; value = Some k }

-- the first vertex equals the last; no vertex or one is closed
abbrev pub closed : List GridPoint → Bool
closed [] = true
closed (v ∷ vs) = same v (last v vs)

-- what rings are refused with, if they are, the first of them having the place i: the first open one decides
abbrev pub refusal_from : ℕ → List (List GridPoint) → Option (Refusal ℕ)
refusal_from i [] = None
refusal_from i (r ∷ rs) = cond (closed r) (refusal_from (i + 1) rs) (Some (ring_fault (Open i)))

-- a lone ring has the place 0
abbrev pub ring_refusal : List GridPoint → Option (Refusal ℕ)
ring_refusal r = refusal_from 0 (r ∷ [])

-- the exterior of a polygon has the place 0, its holes count from 1
abbrev pub polygon_refusal : List GridPoint → List (List GridPoint) → Option (Refusal ℕ)
polygon_refusal exterior holes = refusal_from 0 (exterior ∷ holes)
