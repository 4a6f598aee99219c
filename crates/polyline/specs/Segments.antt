-- Lists of segments, by the points that lie on them.
use Rattle.std.specs.Prelude.{ℕ, ◌⊎◌, List, [], ◌∷◌, ℤ}
use Rattle.plane.specs.Points.{Segment, On}
use Rattle.plane.specs.Sets.{Subset}

-- the point lies on one of the segments
abbrev pub OnAny : List Segment → ℤ → ℤ → ℕ → Type 0
OnAny [] X Y d = ⊥
OnAny (s ∷ ss) X Y d = On s X Y d ⊎ OnAny ss X Y d

-- each point of s lies on one of the segments
abbrev pub Covered : List Segment → Segment → Type 0
Covered ss s = Subset (On s) (OnAny ss)
