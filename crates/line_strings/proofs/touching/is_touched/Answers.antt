use Rattle.std.proofs.Common.{sym, subst}
use Rattle.plane.specs.declared.grid_point.GridPoint.{GridPoint}
use Rattle.plane.specs.Points.{Segment, Ranges}
use Rattle.plane.specs.Reach.{read_point}
use Rattle.plane.proofs.Collinear.{on_ranges}
use Rattle.plane.proofs.Answers.{reflects_no}
use Rattle.scalar.specs.Coords.{grid_point}
use Rattle.line_strings.proofs.touching.is_touched.Goals as goal

pub returns-else-in_ranges : goal.returns-else-in_ranges
returns-else-in_ranges g c =
    let s : Segment = record { p = read_point c.args.start; q = read_point c.args.end } in
    let k = grid_point g.T.Units.units c.args.coord.now in
    reflects_no c.in_ranges.result c.if-in_ranges.false (λ o. c.if-in_ranges.ensures (subst (λ (p : GridPoint). Ranges s p.x p.y) (sym c.from.ensures.value) (on_ranges s k.x k.y o)))
