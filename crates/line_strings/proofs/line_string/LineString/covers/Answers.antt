use Rattle.std.proofs.Common.{ap}
use Rattle.plane.proofs.Answers.{reflects_same}
use Rattle.polyline.specs.Strings.{vertices, segments}
use Rattle.polyline.proofs.Strings.{point_covered}
use Rattle.scalar.specs.Coords.{grid_point}
use Rattle.geometry.specs.Shapes.{segment}
use Rattle.line_strings.proofs.line_string.LineString.covers.Goals as goal

pub returns-then-eq : goal.returns-then-eq
returns-then-eq g c =
    let u = g.T.Units.units in
    let t = segment u c.args.line.now in
    let i = point_covered (segments (vertices c.args.self.now.points.now)) t (ap (grid_point u) c.if-eq.ensures.same) in
    reflects_same c.touches.result i.0 i.1 c.touches.ensures
