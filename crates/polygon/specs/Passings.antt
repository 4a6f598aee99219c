-- How an edge passes a grid point.
use Rattle.std.specs.Prelude.{◌≡◌, true, false, pos, negsuc}
use Rattle.plane.specs.declared.grid_point.GridPoint.{GridPoint}
use Rattle.plane.specs.Points.{Segment}
use Rattle.polyline.specs.Tests.{touches}
use Rattle.polyline.specs.Winding.{crossing}
use Rattle.polygon.specs.declared.passing.Passing.{Passing}
use Rattle.polygon.specs.declared.passing.Passing.TheVariants.{Touched, Upward, Downward, Clear}

-- the edge is touched, or it is not and adds 1, -1 or nothing to the winding number
abbrev pub Passes : Passing → Segment → GridPoint → Type 0
Passes Touched e c = touches e c ≡ true
Passes Upward e c = (touches e c ≡ false) × (crossing c e ≡ pos 1)
Passes Downward e c = (touches e c ≡ false) × (crossing c e ≡ negsuc 0)
Passes Clear e c = (touches e c ≡ false) × (crossing c e ≡ pos 0)
