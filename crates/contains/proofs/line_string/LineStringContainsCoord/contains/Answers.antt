use Rattle.plane.proofs.Answers.{reflects_same}
use Rattle.polyline.specs.Strings.{vertices}
use Rattle.polyline.proofs.StringContainment.{string_coord_reflects}
use Rattle.polyline.proofs.StringRules.{end_contained, inner_contained}
use Rattle.scalar.specs.Coords.{grid_point}
use Rattle.contains.proofs.line_string.LineStringContainsCoord.contains.Goals as goal

pub returns-then-ends_at : goal.returns-then-ends_at
returns-then-ends_at g c =
    let vs = vertices c.args.self.now.points.now in
    let k = grid_point g.T.Units.units c.args.coord.now in
    let i = end_contained vs k c.if-ends_at.ensures in
    let h = reflects_same c.is_closed.result i.0 i.1 c.is_closed.ensures in
    record { points = string_coord_reflects c.is_closed.result vs k h; rule = h }

pub returns-else-ends_at : goal.returns-else-ends_at
returns-else-ends_at g c =
    let vs = vertices c.args.self.now.points.now in
    let k = grid_point g.T.Units.units c.args.coord.now in
    let i = inner_contained vs k.x k.y 1 c.if-ends_at.ensures in
    let h = reflects_same c.touches.result i.0 i.1 c.touches.ensures in
    record { points = string_coord_reflects c.touches.result vs k h; rule = h }
