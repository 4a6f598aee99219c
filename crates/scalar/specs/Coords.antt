-- What a coordinate means in units.
use Rattle.std.specs.Prelude.{Bool, ℤ}
use Rattle.std.specs.Ordering.{int_eq, eq_of_both, on}
use Rattle.plane.specs.declared.grid_point.GridPoint.{GridPoint}
use Rattle.scalar.specs.declared.coord.Coord.{Coord}

-- the grid point of a coordinate, by what its scalars mean
abbrev pub grid_point : {T : Type 0} → (T → ℤ) → Coord T → GridPoint
grid_point units c = record { x = units c.x; y = units c.y }

-- what `==` answers: whether both numbers of two coordinates mean the same units
abbrev pub equal_coords : {T : Type 0} → (T → ℤ) → Coord T → Coord T → Bool
equal_coords units = eq_of_both (on (λ c. units c.x) int_eq) (on (λ c. units c.y) int_eq)
