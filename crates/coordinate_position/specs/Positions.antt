-- The position that a shape's answers give.
use Rattle.std.specs.Prelude.{Bool, cond}
use Rattle.coordinate_position.specs.declared.position.CoordPos.{CoordPos}
use Rattle.coordinate_position.specs.declared.position.CoordPos.TheVariants.{OnBoundary, Inside, Outside}

-- by whether the coordinate is inside, and whether it is on the boundary an odd number of times: the mod 2 rule
abbrev pub mod_2 : Bool → Bool → CoordPos
mod_2 inside odd = cond odd OnBoundary (cond inside Inside Outside)
