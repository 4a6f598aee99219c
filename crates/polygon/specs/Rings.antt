-- Where a grid point lies relative to a ring, by the ring's vertices.
use Rattle.std.specs.Prelude.{◌≡◌, Bool, false, cond, List, [], ◌∷◌, ℤ, pos, ◌≢◌}
use Rattle.plane.specs.declared.grid_point.GridPoint.{GridPoint}
use Rattle.polyline.specs.Strings.{chain, segments, OnString}
use Rattle.polyline.specs.Tests.{is_zero, same, touches_any}
use Rattle.polyline.specs.Winding.{winding}
use Rattle.coordinate_position.specs.declared.position.CoordPos.{CoordPos}
use Rattle.coordinate_position.specs.declared.position.CoordPos.TheVariants.{OnBoundary, Inside, Outside}

-- what a position says: on the boundary exactly if some segment is touched (a single vertex is its own boundary);
-- otherwise inside exactly if the winding number is not 0
abbrev pub RingPosition : List GridPoint → GridPoint → CoordPos → Type 0
RingPosition vs c OnBoundary = OnString vs c.x c.y 1
RingPosition vs c Inside = (OnString vs c.x c.y 1 → ⊥) × (winding c (segments vs) ≢ pos 0)
RingPosition vs c Outside = (OnString vs c.x c.y 1 → ⊥) × (winding c (segments vs) ≡ pos 0)

-- the same as a test: the grid point is a point of the line string
abbrev pub on_string : List GridPoint → GridPoint → Bool
on_string [] c = false
on_string (v ∷ []) c = same v c
on_string (v ∷ (w ∷ ws)) c = touches_any (chain v (w ∷ ws)) c

-- the position, by whether the grid point is on the string and by the winding number
abbrev pub by_winding : Bool → ℤ → CoordPos
by_winding touched number = cond touched OnBoundary (cond (is_zero number) Outside Inside)

abbrev pub ring_position : List GridPoint → GridPoint → CoordPos
ring_position vs c = by_winding (on_string vs c) (winding c (segments vs))
