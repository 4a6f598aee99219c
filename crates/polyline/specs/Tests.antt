-- Tests that compute: of grid points, and of a grid point and segments.
use Rattle.std.specs.Prelude.{zero, suc, Bool, true, false, ◌&&◌, ◌||◌, List, [], ◌∷◌, ℤ, pos, negsuc, int_le}
use Rattle.plane.specs.declared.grid_point.GridPoint.{GridPoint}
use Rattle.plane.specs.Orient.{det}
use Rattle.plane.specs.Points.{Segment}

-- z is 0
abbrev pub is_zero : ℤ → Bool
is_zero (pos zero) = true
is_zero (pos (suc n)) = false
is_zero (negsuc n) = false

-- two grid points are equal
abbrev pub same : GridPoint → GridPoint → Bool
same a b = (int_le a.x b.x && int_le b.x a.x) && (int_le a.y b.y && int_le b.y a.y)

-- v lies between a and b, ends included
abbrev pub between : ℤ → ℤ → ℤ → Bool
between v a b = (int_le a v && int_le v b) || (int_le b v && int_le v a)

-- r lies on the line through p and q
abbrev pub collinear : GridPoint → GridPoint → GridPoint → Bool
collinear p q r = is_zero (det p q r)

-- the grid point touches the segment
abbrev pub touches : Segment → GridPoint → Bool
touches s c = collinear s.p s.q c && (between c.x s.p.x s.q.x && between c.y s.p.y s.q.y)

-- the grid point touches one of the segments
abbrev pub touches_any : List Segment → GridPoint → Bool
touches_any [] c = false
touches_any (s ∷ ss) c = touches s c || touches_any ss c
