use Rattle.plane.proofs.Containment.{box_coord_contains}
use Rattle.scalar.specs.Coords.{grid_point}
use Rattle.geometry.specs.Rects.{box}
use Rattle.contains.proofs.rect.RectContainsCoord.contains.Goals as goal

pub returns-clause-points : goal.returns-clause-points
returns-clause-points g c =
    let u = g.T.Units.units in
    box_coord_contains c.strictly_within.result (box u c.args.self.now) (grid_point u c.args.coord.now) c.strictly_within.ensures
