use Rattle.std.proofs.Common.{arith}
use Rattle.std.proofs.lemmas.Grind.{common_steps}
use Rattle.polyline.specs.Strings.{vertices}
use Rattle.scalar.specs.Coords.{grid_point}
use Rattle.coordinate_position.proofs.Strings.{inside_told, odd_told, string_membership}
use Rattle.coordinate_position.proofs.line_string.LineStringCoordinatePosition.calculate_coordinate_position.Goals as goal

pub returns-in-len1-clause-inside : goal.returns-in-len1-clause-inside
returns-in-len1-clause-inside g c =
    inside_told (vertices c.args.self.now.points.now) (grid_point g.T.Units.units c.args.coord.now) c.calculate_coordinate_position.result (grind (arith, common_steps))

pub returns-in-len2-clause-inside : goal.returns-in-len2-clause-inside
returns-in-len2-clause-inside g c =
    inside_told (vertices c.args.self.now.points.now) (grid_point g.T.Units.units c.args.coord.now) c.calculate_coordinate_position-in-len2.result (grind (arith, common_steps))

pub returns-in-len2-clause-boundary : goal.returns-in-len2-clause-boundary
returns-in-len2-clause-boundary g c =
    odd_told (vertices c.args.self.now.points.now) (grid_point g.T.Units.units c.args.coord.now) c.calculate_coordinate_position-in-len2.result (grind (arith, common_steps))

pub returns-in_default-clause-value : goal.returns-in_default-clause-value
returns-in_default-clause-value g c =
    string_membership (vertices c.args.self.now.points.now) (grid_point g.T.Units.units c.args.coord.now) c.position_among_segments.result (grind (arith, common_steps)) c.position_among_segments.ensures.boundary
