-- When two shapes can stand for one another in every group.
use Rattle.std.specs.Prelude.{◌≡◌, Bool, true, false, ◌⊎◌, [], ◌≢◌}
use Rattle.plane.specs.declared.grid_point.GridPoint.{GridPoint}
use Rattle.plane.specs.Reflects.{Iff}
use Rattle.coordinate_position.specs.Shapes.{Shape, grouped, position, string_shape, line_shape}

-- grouped with whatever third shape, both give the grid point the same position
abbrev pub Alike : GridPoint → Shape → Shape → Type 0
Alike c f g = (third : Shape) → position (grouped f third) c ≡ position (grouped g third) c

-- a third shape tells the two apart
abbrev pub ToldApart : GridPoint → Shape → Shape → Shape → Type 0
ToldApart c f g third = position (grouped f third) c ≡ position (grouped g third) c → ⊥

-- the shapes that tell two apart: the empty line string, or else every longer line that ends at the grid point
abbrev pub ToldApartByLines : GridPoint → Shape → Shape → Type 0
ToldApartByLines c f g = ToldApart c f g (string_shape []) ⊎ ((q : GridPoint) → (c ≢ q) → ToldApart c f g (line_shape (record { p = c; q = q })))

-- what a comparison answers: alike, or told apart by those shapes
abbrev pub Compared : Bool → GridPoint → Shape → Shape → Type 0
Compared true c f g = Alike c f g
Compared false c f g = ToldApartByLines c f g

-- whatever shapes they are, two are alike at a grid point exactly if their boundary counts there are both odd or both
-- even, and both or neither hold it inside
abbrev pub AlikeExactly : Type 0
AlikeExactly = (c : GridPoint) (f g : Shape) → Iff (Alike c f g) ((f.odd c ≡ g.odd c) × (f.inside c ≡ g.inside c))
