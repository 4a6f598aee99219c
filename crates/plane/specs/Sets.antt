-- Sets of rational points: `P X Y d` says that (X/d, Y/d) belongs to P.
use Rattle.std.specs.Prelude.{◌≡◌, ℕ, ◌≤◌, ◌⊎◌, ℤ, pos, ◌*ℤ◌, ◌≤ℤ◌, ◌<ℤ◌}
use Rattle.std.specs.Int.{int_min, int_max}
use Rattle.plane.specs.declared.grid_point.GridPoint.{GridPoint}
use Rattle.plane.specs.Points.{Segment, On, Touches, LongerThanZero}

-- a point that belongs to both
pub record Common (P Q : ℤ → ℤ → ℕ → Type 0) : Type 0 where
  pub X : ℤ
  pub Y : ℤ
  pub d : ℕ
  pub positive : 1 ≤ d
  pub first : P X Y d
  pub second : Q X Y d

-- every point of P belongs to Q
abbrev pub Subset : (ℤ → ℤ → ℕ → Type 0) → (ℤ → ℤ → ℕ → Type 0) → Type 0
Subset P Q = (X Y : ℤ) (d : ℕ) → 1 ≤ d → P X Y d → Q X Y d

-- the one point of a grid point
pub record At (c : GridPoint) (X Y : ℤ) (d : ℕ) : Type 0 where
  pub at_x : X ≡ pos d *ℤ c.x
  pub at_y : Y ≡ pos d *ℤ c.y

-- the points of a segment other than its ends; of a segment of length zero, its point
pub record Interior (s : Segment) (X Y : ℤ) (d : ℕ) : Type 0 where
  pub on : On s X Y d
  pub no_end : At s.p X Y d ⊎ At s.q X Y d → s.p ≡ s.q

-- how a segment contains another: a longer one by its ends, one of length zero as its grid point
pub record ContainsByEnds (s t : Segment) : Type 0 where
  pub point : t.p ≡ t.q → Interior s t.p.x t.p.y 1
  pub longer : LongerThanZero t → Touches s t.p × Touches s t.q

-- a rectangle with its sides along the axes, from its low corner to its high one
pub record Box : Type 0 where
  pub min : GridPoint
  pub max : GridPoint

-- the box with the two as opposite corners
abbrev pub spanned : GridPoint → GridPoint → Box
spanned p q = record {
  min = record { x = int_min p.x q.x; y = int_min p.y q.y };
  max = record { x = int_max p.x q.x; y = int_max p.y q.y };
}

-- the point lies in the box, its sides included
pub record InBox (r : Box) (X Y : ℤ) (d : ℕ) : Type 0 where
  pub left : (pos d *ℤ r.min.x) ≤ℤ X
  pub right : X ≤ℤ (pos d *ℤ r.max.x)
  pub under : (pos d *ℤ r.min.y) ≤ℤ Y
  pub over : Y ≤ℤ (pos d *ℤ r.max.y)

-- the point lies in the box, and on none of its sides
pub record StrictlyInBox (r : Box) (X Y : ℤ) (d : ℕ) : Type 0 where
  pub left : (pos d *ℤ r.min.x) <ℤ X
  pub right : X <ℤ (pos d *ℤ r.max.x)
  pub under : (pos d *ℤ r.min.y) <ℤ Y
  pub over : Y <ℤ (pos d *ℤ r.max.y)

-- the closed bounds of b lie within those of a
pub record WithinBounds (a b : Box) : Type 0 where
  pub left : a.min.x ≤ℤ b.min.x
  pub right : b.max.x ≤ℤ a.max.x
  pub under : a.min.y ≤ℤ b.min.y
  pub over : b.max.y ≤ℤ a.max.y
