-- Line strings, by their vertices.
use Rattle.std.specs.Prelude.{◌≡◌, ℕ, ◌⊎◌, List, [], ◌∷◌, map, ℤ}
use Rattle.std.specs.List.{AllByRecursion}
use Rattle.plane.specs.declared.grid_point.GridPoint.{GridPoint}
use Rattle.plane.specs.Points.{Segment, Touches, LongerThanZero}
use Rattle.plane.specs.Reach.{read_point}
use Rattle.plane.specs.Sets.{At, Interior}
use Rattle.polyline.specs.Segments.{OnAny, Covered}

-- the vertices that grid points are read as
abbrev pub vertices : List GridPoint → List GridPoint
vertices ps = map read_point ps

-- the segments from v on through the others
abbrev pub chain : GridPoint → List GridPoint → List Segment
chain v [] = []
chain v (w ∷ ws) = record { p = v; q = w } ∷ chain w ws

-- the segments between neighbouring vertices
abbrev pub segments : List GridPoint → List Segment
segments [] = []
segments (v ∷ vs) = chain v vs

-- the last of v and the others
abbrev pub last : GridPoint → List GridPoint → GridPoint
last v [] = v
last v (w ∷ ws) = last w ws

-- the first vertex equals the last; no vertex or one is closed
abbrev pub Closed : List GridPoint → Type 0
Closed [] = Unit {0}
Closed (v ∷ vs) = v ≡ last v vs

-- all vertices are equal, so that no segment is longer than zero
abbrev pub AllEqual : List GridPoint → Type 0
AllEqual [] = Unit {0}
AllEqual (v ∷ vs) = AllByRecursion (λ w. v ≡ w) vs

-- the points of a line string: those of its segments; a single vertex is its own point
abbrev pub OnString : List GridPoint → ℤ → ℤ → ℕ → Type 0
OnString [] X Y d = ⊥
OnString (v ∷ []) X Y d = At v X Y d
OnString (v ∷ (w ∷ ws)) X Y d = OnAny (chain v (w ∷ ws)) X Y d

-- the point is the first vertex or the last
abbrev pub AtEnd : List GridPoint → ℤ → ℤ → ℕ → Type 0
AtEnd [] X Y d = ⊥
AtEnd (v ∷ vs) X Y d = At v X Y d ⊎ At (last v vs) X Y d

-- the points of a line string other than the first vertex and the last; of a closed one, all
pub record StringInterior (vs : List GridPoint) (X Y : ℤ) (d : ℕ) : Type 0 where
  pub on : OnString vs X Y d
  pub no_end : AtEnd vs X Y d → Closed vs

-- how a segment contains a line string: there is a vertex, all vertices touch, and if all are equal, they are contained
pub record SegmentContainsString (s : Segment) (vs : List GridPoint) : Type 0 where
  pub some : vs ≡ [] → ⊥
  pub touch : AllByRecursion (Touches s) vs
  pub equal : AllEqual vs → AllByRecursion (λ v. Interior s v.x v.y 1) vs

-- how a line string contains a segment: a longer one if it is covered, one of length zero as its grid point
pub record StringContainsSegment (vs : List GridPoint) (t : Segment) : Type 0 where
  pub point : t.p ≡ t.q → StringInterior vs t.p.x t.p.y 1
  pub longer : LongerThanZero t → Covered (segments vs) t

-- how a line string contains another: there is a vertex, all longer segments are covered, and if there is none, the
-- vertices, which are equal then, are contained
pub record StringContainsString (vs ws : List GridPoint) : Type 0 where
  pub some : ws ≡ [] → ⊥
  pub longer : AllByRecursion (λ t. LongerThanZero t → Covered (segments vs) t) (segments ws)
  pub equal : AllEqual ws → AllByRecursion (λ w. StringInterior vs w.x w.y 1) ws
