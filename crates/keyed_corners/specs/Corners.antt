-- Where a corner lies that was keyed in, in millimetres.
use Rattle.std.specs.Prelude.{Some, None, Option, Float}
use Rattle.std.specs.Option.{option_or}
use Rattle.plane.specs.declared.grid_point.GridPoint.{GridPoint}
use Rattle.millimetre.specs.Millimetres.{units_of}
use Rattle.scalar.specs.Faults.{f64_refusal}
use Rattle.scalar.specs.Refusal.{Refusal}

-- what it is refused with, if it is: that of x before that of y
abbrev pub corner_refusal : Float × Float → Option (Refusal Float)
corner_refusal c = option_or (f64_refusal c.0) (f64_refusal c.1)

-- the point, unless there is a refusal
abbrev pub unless_refused : Option (Refusal Float) → GridPoint → Option GridPoint
unless_refused None p = Some p
unless_refused (Some r) p = None

-- its grid point, if it is not refused
abbrev pub corner_of : Float × Float → Option GridPoint
corner_of c = unless_refused (corner_refusal c) (record { x = units_of c.0; y = units_of c.1 })
