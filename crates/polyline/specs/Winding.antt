-- The winding number of a ring about a grid point: a whole number, however many edges there are.
use Rattle.std.specs.Prelude.{Bool, cond, ◌&&◌, List, [], ◌∷◌, ℤ, pos, negsuc, ◌+ℤ◌, int_le, int_lt}
use Rattle.plane.specs.declared.grid_point.GridPoint.{GridPoint}
use Rattle.plane.specs.Orient.{det}
use Rattle.plane.specs.Points.{Segment}

-- an edge that goes up past c, on its right: it starts at or below c, ends above it, and c is on its left
abbrev pub upward : GridPoint → Segment → Bool
upward c e = int_le e.p.y c.y && (int_lt c.y e.q.y && int_lt (pos 0) (det e.p e.q c))

-- an edge that goes down past c, on its right: it ends at or below c, starts above it, and c is on its right-hand side
abbrev pub downward : GridPoint → Segment → Bool
downward c e = int_le e.q.y c.y && (int_lt c.y e.p.y && int_lt (det e.p e.q c) (pos 0))

-- what an edge adds
abbrev pub crossing : GridPoint → Segment → ℤ
crossing c e = cond (upward c e) (pos 1) (cond (downward c e) (negsuc 0) (pos 0))

abbrev pub winding : GridPoint → List Segment → ℤ
winding c [] = pos 0
winding c (e ∷ es) = crossing c e +ℤ winding c es
