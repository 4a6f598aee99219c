-- What lines and triangles mean in units, by what their scalars mean.
use Rattle.std.specs.Prelude.{List, [], ◌∷◌, ℤ}
use Rattle.plane.specs.declared.grid_point.GridPoint.{GridPoint}
use Rattle.plane.specs.Points.{Segment}
use Rattle.plane.specs.Sets.{Box}
use Rattle.scalar.specs.Coords.{grid_point}
use Rattle.geometry.specs.declared.line.Line.{Line}

abbrev pub segment : {T : Type 0} → (T → ℤ) → Line T → Segment
segment units l = record { p = grid_point units l.start; q = grid_point units l.end }

-- the sides of a triangle
abbrev pub sides : GridPoint → GridPoint → GridPoint → List Segment
sides a b c = record { p = a; q = b } ∷ record { p = b; q = c } ∷ record { p = c; q = a } ∷ []

-- the sides of a box, counter-clockwise from the corner with the larger x and the smaller y
abbrev pub outline : Box → List Segment
outline r =
    let low_right : GridPoint = record { x = r.max.x; y = r.min.y } in
    let high_left : GridPoint = record { x = r.min.x; y = r.max.y } in
    record { p = low_right; q = r.max } ∷ record { p = r.max; q = high_left } ∷ record { p = high_left; q = r.min } ∷ record { p = r.min; q = low_right } ∷ []
