-- Worked examples of the definitions, in units.
use Rattle.std.specs.Prelude.{◌≡◌, ℤ, pos}
use Rattle.plane.specs.declared.grid_point.GridPoint.{GridPoint}
use Rattle.plane.specs.declared.orientation.Orientation.TheVariants.{CounterClockwise}
use Rattle.plane.specs.Orient.{det, orientation}
use Rattle.plane.specs.Points.{Segment, On}
use Rattle.plane.specs.Sets.{Common, Box, spanned, InBox}

abbrev pub at : ℤ → ℤ → GridPoint
at x y = record { x = x; y = y }

abbrev pub line : GridPoint → GridPoint → Segment
line a b = record { p = a; q = b }

-- the rectangle (0,0)–(4,4)
abbrev pub square : Box
square = spanned (at (pos 0) (pos 0)) (at (pos 4) (pos 4))

pub record WorkedExamples : Type 0 where
  -- (0,0), (4,0), (4,1) turn counter-clockwise
  pub turn : orientation (det (at (pos 0) (pos 0)) (at (pos 4) (pos 0)) (at (pos 4) (pos 1))) ≡ CounterClockwise
  -- the rectangle misses the line (3,6)–(6,3)
  pub missed : Common (InBox square) (On (line (at (pos 3) (pos 6)) (at (pos 6) (pos 3)))) → ⊥
  -- and meets the line (2,6)–(6,2)
  pub met : Common (InBox square) (On (line (at (pos 2) (pos 6)) (at (pos 6) (pos 2))))
