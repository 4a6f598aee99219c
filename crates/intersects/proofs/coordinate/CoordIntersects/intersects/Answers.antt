use Rattle.scalar.specs.Coords.{grid_point}
use Rattle.plane.proofs.Segments.{same_reflects}
use Rattle.scalar.proofs.CoordLaws.{same_grid}
use Rattle.intersects.proofs.coordinate.CoordIntersects.intersects.Goals as goal

pub returns : goal.returns
returns g c =
    let u = g.T.Units.units in
    record {
      points = same_reflects c.eq.result (grid_point u c.args.self.now) (grid_point u c.args.rhs.now)
          (same_grid u g.met.T.CoordNum.equal_units c.eq.result c.args.self.now c.args.rhs.now c.eq.ensures.same);
    }
