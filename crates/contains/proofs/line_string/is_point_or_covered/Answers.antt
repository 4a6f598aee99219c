use Rattle.plane.specs.Points.{LongerThanZero}
use Rattle.plane.proofs.Answers.{reflects_same}
use Rattle.scalar.proofs.CoordLaws.{same_coord}
use Rattle.geometry.specs.Shapes.{segment}
use Rattle.contains.proofs.line_string.is_point_or_covered.Goals as goal

pub returns-else-eq : goal.returns-else-eq
returns-else-eq g c =
    let n : LongerThanZero (segment g.T.Units.units c.args.line.now) = λ e. c.if-eq.ensures.same (same_coord g.T.Units.units g.met.T.CoordNum.equal_units _ _ e) in
    reflects_same c.covers.result (λ k _. k) (λ h. h n) c.covers.ensures
