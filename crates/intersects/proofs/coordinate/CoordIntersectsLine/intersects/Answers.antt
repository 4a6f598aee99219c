use Rattle.plane.specs.Points.{On}
use Rattle.plane.specs.Sets.{At}
use Rattle.plane.proofs.Segments.{swap_reflects}
use Rattle.scalar.specs.Coords.{grid_point}
use Rattle.geometry.specs.Shapes.{segment}
use Rattle.intersects.proofs.coordinate.CoordIntersectsLine.intersects.Goals as goal

pub returns : goal.returns
returns g c =
    let u = g.T.Units.units in
    record { points = swap_reflects c.intersects.result (On (segment u c.args.line.now)) (At (grid_point u c.args.self.now)) c.intersects.ensures.points }
