use Rattle.plane.proofs.Answers.{reflects_same}
use Rattle.polyline.specs.Strings.{vertices}
use Rattle.scalar.specs.Coords.{grid_point}
use Rattle.coordinate_position.proofs.Strings.{no_open_end}
use Rattle.coordinate_position.proofs.line_string.position_among_segments.Goals as goal

pub returns-then-not-ends-clause-inside : goal.returns-then-not-ends-clause-inside
returns-then-not-ends-clause-inside g c =
    let k = no_open_end (vertices c.args.line_string.now.points.now) (grid_point g.T.Units.units c.args.coord.now) c.if-not-ends.ensures in
    reflects_same c.touches.result (λ o. (o, k)) (λ h. h.0) c.touches.ensures
