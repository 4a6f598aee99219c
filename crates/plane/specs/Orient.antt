-- Which way three grid points turn.
use Rattle.std.specs.Prelude.{zero, suc, ℤ, pos, negsuc, ◌-ℤ◌, ◌*ℤ◌, ◌≤ℤ◌}
use Rattle.plane.specs.declared.grid_point.GridPoint.{GridPoint}
use Rattle.plane.specs.declared.orientation.Orientation.{Orientation}
use Rattle.plane.specs.declared.orientation.Orientation.TheVariants.{CounterClockwise, Clockwise, Collinear}

-- twice the signed area of the triangle p, q, r
abbrev pub det : GridPoint → GridPoint → GridPoint → ℤ
det p q r = ((q.x -ℤ p.x) *ℤ (r.y -ℤ q.y)) -ℤ ((q.y -ℤ p.y) *ℤ (r.x -ℤ q.x))

-- the turn that a determinant's sign tells
abbrev pub orientation : ℤ → Orientation
orientation (pos zero) = Collinear
orientation (pos (suc n)) = CounterClockwise
orientation (negsuc n) = Clockwise

-- z is at most 2 ^ 61 in size
abbrev pub AtMostTwoTo61 : ℤ → Type 0
AtMostTwoTo61 z = (negsuc 2305843009213693951 ≤ℤ z) × (z ≤ℤ pos 2305843009213693952)
