-- How far the grid reaches, in units of 1/256 millimetre.
use Rattle.std.specs.Prelude.{Bool, cond, ◌&&◌, ℤ, pos, negsuc, ◌≤ℤ◌, int_le}
use Rattle.plane.specs.declared.grid_point.GridPoint.{GridPoint}
use Rattle.plane.specs.Points.{Segment}

-- u lies from -2 ^ 29 to 2 ^ 29, ends included
abbrev pub Within : ℤ → Type 0
Within u = (negsuc 536870911 ≤ℤ u) × (u ≤ℤ pos 536870912)

-- the same as a test
abbrev pub within : ℤ → Bool
within u = int_le (negsuc 536870911) u && int_le u (pos 536870912)

-- both numbers of a grid point are within reach
abbrev pub WithinReach : GridPoint → Type 0
WithinReach p = Within p.x × Within p.y

-- a number as it is read: 0 if it is beyond reach
abbrev pub read : ℤ → ℤ
read u = cond (within u) u (pos 0)

-- a grid point as it is read, each number by itself
abbrev pub read_point : GridPoint → GridPoint
read_point p = record { x = read p.x; y = read p.y }

-- the segment that two grid points are read as
abbrev pub read_segment : GridPoint → GridPoint → Segment
read_segment start end = record { p = read_point start; q = read_point end }
