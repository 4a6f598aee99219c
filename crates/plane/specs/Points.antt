-- Segments between grid points, and the rational points on them.
use Rattle.std.specs.Prelude.{◌≡◌, ℕ, ◌⊎◌, ℤ, pos, ◌-ℤ◌, ◌*ℤ◌, ◌≤ℤ◌}
use Rattle.plane.specs.declared.grid_point.GridPoint.{GridPoint}

-- the segment from p to q
pub record Segment : Type 0 where
  pub p : GridPoint
  pub q : GridPoint

-- v lies between a and b, ends included
abbrev pub Between : ℤ → ℤ → ℤ → Type 0
Between v a b = ((a ≤ℤ v) × (v ≤ℤ b)) ⊎ ((b ≤ℤ v) × (v ≤ℤ a))

-- the point (X/d, Y/d), d from 1, lies on the segment
pub record On (s : Segment) (X Y : ℤ) (d : ℕ) : Type 0 where
  pub line : (s.q.x -ℤ s.p.x) *ℤ (Y -ℤ pos d *ℤ s.p.y) ≡ (s.q.y -ℤ s.p.y) *ℤ (X -ℤ pos d *ℤ s.p.x)
  pub in_x : Between X (pos d *ℤ s.p.x) (pos d *ℤ s.q.x)
  pub in_y : Between Y (pos d *ℤ s.p.y) (pos d *ℤ s.q.y)

-- a grid point touches a segment that it lies on
abbrev pub Touches : Segment → GridPoint → Type 0
Touches s c = On s c.x c.y 1

-- the ends of the segment differ
abbrev pub LongerThanZero : Segment → Type 0
LongerThanZero s = s.p ≡ s.q → ⊥

-- (x, y) lies between the ends of the segment in both directions
abbrev pub Ranges : Segment → ℤ → ℤ → Type 0
Ranges s x y = Between x s.p.x s.q.x × Between y s.p.y s.q.y
