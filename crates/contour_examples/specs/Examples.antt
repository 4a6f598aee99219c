-- Worked examples of line strings, positions, groups and rings, in units.
use Rattle.std.specs.Prelude.{List, [], ◌∷◌, ◌≡◌, pos}
use Rattle.plane.specs.declared.grid_point.GridPoint.{GridPoint}
use Rattle.plane.specs.Points.{Segment}
use Rattle.polyline.specs.Segments.{Covered}
use Rattle.polyline.specs.Strings.{StringInterior}
use Rattle.coordinate_position.specs.declared.position.CoordPos.TheVariants.{OnBoundary, Inside, Outside}
use Rattle.coordinate_position.specs.Shapes.{Shape, position, grouped, string_shape, box_shape, triangle_shape}
use Rattle.polygon.specs.Rings.{ring_position}
use Rattle.worked_examples.specs.Examples.{at, line, square}

-- the triangle (10,0), (14,0), (10,4)
abbrev pub wedge : Shape
wedge = triangle_shape (at (pos 10) (pos 0)) (at (pos 14) (pos 0)) (at (pos 10) (pos 4))

-- segments along the x axis, with and without a gap
abbrev pub pieces : List Segment
pieces = line (at (pos 0) (pos 0)) (at (pos 2) (pos 0)) ∷ (line (at (pos 3) (pos 0)) (at (pos 5) (pos 0)) ∷ [])

abbrev pub all_pieces : List Segment
all_pieces = line (at (pos 2) (pos 0)) (at (pos 3) (pos 0)) ∷ pieces

-- the line string (0,0), (4,0), (4,4), (2,0), which ends on its first segment
abbrev pub hook : List GridPoint
hook = at (pos 0) (pos 0) ∷ (at (pos 4) (pos 0) ∷ (at (pos 4) (pos 4) ∷ (at (pos 2) (pos 0) ∷ [])))

-- the ring (0,0), (4,0), (4,4), (0,4), (0,0)
abbrev pub ring : List GridPoint
ring = at (pos 0) (pos 0) ∷ (at (pos 4) (pos 0) ∷ (at (pos 4) (pos 4) ∷ (at (pos 0) (pos 4) ∷ (at (pos 0) (pos 0) ∷ []))))

pub record ContourExamples : Type 0 where
  -- (0,0)–(2,0) and (3,0)–(5,0) do not cover (0,0)–(5,0)
  pub uncovered : Covered pieces (line (at (pos 0) (pos 0)) (at (pos 5) (pos 0))) → ⊥
  -- with (2,0)–(3,0) they do
  pub covered : Covered all_pieces (line (at (pos 0) (pos 0)) (at (pos 5) (pos 0)))
  -- the line string does not contain (2,0), its open end, although its first segment passes there
  pub end_not_contained : StringInterior hook (pos 2) (pos 0) 1 → ⊥
  -- which is on its boundary
  pub end_on_boundary : position (string_shape hook) (at (pos 2) (pos 0)) ≡ OnBoundary
  -- in a group with the triangle, in either order, (2,2) is inside the rectangle
  pub inside_first : position (grouped (box_shape square) wedge) (at (pos 2) (pos 2)) ≡ Inside
  pub inside_last : position (grouped wedge (box_shape square)) (at (pos 2) (pos 2)) ≡ Inside
  -- (2,0) is on the boundary of the ring, (2,2) inside, (2,5) outside
  pub on_ring : ring_position ring (at (pos 2) (pos 0)) ≡ OnBoundary
  pub in_ring : ring_position ring (at (pos 2) (pos 2)) ≡ Inside
  pub off_ring : ring_position ring (at (pos 2) (pos 5)) ≡ Outside
