use Rattle.std.proofs.Common.{arith}
use Rattle.plane.proofs.Answers.{reflects_same}
use Rattle.polyline.proofs.Chains.{closed_by_ends}
use Rattle.scalar.proofs.CoordLaws.{same_made}
use Rattle.line_strings.proofs.line_string.LineString.is_closed.Goals as goal

pub returns-in-len2-up : goal.returns-in-len2-up
returns-in-len2-up g c =
    let i = closed_by_ends c.args.self.now.points.now (omega arith) in
    reflects_same c.eq.result i.0 i.1
    (same_made g.T.Units.units g.met.T.CoordNum.equal_units c.eq.result c.from_grid.result c.from_grid-in-len2-up.result _ _ c.from_grid.ensures c.from_grid-in-len2-up.ensures c.eq.ensures.same)
