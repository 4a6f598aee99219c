-- Where a grid point lies relative to a polygon, by the vertices of its exterior and of its holes.
use Rattle.std.specs.Prelude.{◌≡◌, Bool, true, false, ◌⊎◌, List, [], ◌∷◌, map}
use Rattle.plane.specs.declared.grid_point.GridPoint.{GridPoint}
use Rattle.line_strings.specs.declared.line_string.LineString.{LineString}
use Rattle.line_strings.specs.Views.{vertices_of}
use Rattle.coordinate_position.specs.declared.position.CoordPos.{CoordPos}
use Rattle.coordinate_position.specs.declared.position.CoordPos.TheVariants.{OnBoundary, Inside, Outside}
use Rattle.coordinate_position.specs.Shapes.{Shape}
use Rattle.polygon.specs.Rings.{ring_position}

-- the vertices of each ring
abbrev pub rings : {T : Type 0} → List (LineString T) → List (List GridPoint)
rings ss = map vertices_of ss

-- past one hole: the first that is not outside decides, and its inside is outside
abbrev pub past_hole : CoordPos → CoordPos → CoordPos
past_hole OnBoundary rest = OnBoundary
past_hole Inside rest = Outside
past_hole Outside rest = rest

-- past all holes; without one that decides it is inside
abbrev pub past_holes : List (List GridPoint) → GridPoint → CoordPos
past_holes [] c = Inside
past_holes (h ∷ hs) c = past_hole (ring_position h c) (past_holes hs c)

-- the exterior's verdict stands unless it is inside
abbrev pub within_exterior : CoordPos → CoordPos → CoordPos
within_exterior OnBoundary rest = OnBoundary
within_exterior Inside rest = rest
within_exterior Outside rest = Outside

abbrev pub polygon_position : List GridPoint → List (List GridPoint) → GridPoint → CoordPos
polygon_position exterior holes c = within_exterior (ring_position exterior c) (past_holes holes c)

abbrev pub is_inside : CoordPos → Bool
is_inside OnBoundary = false
is_inside Inside = true
is_inside Outside = false

abbrev pub is_boundary : CoordPos → Bool
is_boundary OnBoundary = true
is_boundary Inside = false
is_boundary Outside = false

abbrev pub polygon_shape : List GridPoint → List (List GridPoint) → Shape
polygon_shape exterior holes = record { inside = λ c. is_inside (polygon_position exterior holes c); odd = λ c. is_boundary (polygon_position exterior holes c) }

-- the first hole that does not have the grid point outside has it on its boundary
abbrev pub OnFirstHole : List (List GridPoint) → GridPoint → Type 0
OnFirstHole [] c = ⊥
OnFirstHole (h ∷ hs) c = (ring_position h c ≡ OnBoundary) ⊎ ((ring_position h c ≡ Outside) × OnFirstHole hs c)
