use Rattle.std.proofs.Common.{rules}
use Rattle.scalar.specs.Coords.{grid_point}
use Rattle.coordinate_position.proofs.Memberships.{triangle_membership}
use Rattle.coordinate_position.proofs.triangle.TriangleCoordinatePosition.calculate_coordinate_position.Goals as goal

pub returns-clause-value : goal.returns-clause-value
returns-clause-value g c =
    let p = grid_point g.T.Units.units in
    let t = c.args.self.now in
    triangle_membership (p t.v1) (p t.v2) (p t.v3) (p c.args.coord.now) (record { inside = c.turn_alike.result; odd = c.touches_a_side.result }) (search rules) c.touches_a_side.ensures
