use mathlib.Core.Path.{sym, ap, ◌∙◌}
use Rattle.scalar.specs.Coords.{grid_point}
use Rattle.geometry.specs.Shapes.{segment}
use Rattle.std.proofs.Common.{true, false, rules}
use Rattle.plane.specs.declared.orientation.Orientation.TheVariants.{Collinear}
use Rattle.plane.proofs.Answers.{reflects_same}
use Rattle.plane.specs.contracts.orientation.Orientation.{the_type}
use Rattle.plane.proofs.Enums.{eq_reflects, ne_reflects, equal_unless_ne}
use Rattle.plane.proofs.Segments.{point_reflects, cross_reflects, same_side_misses, collinear_reflects}
use Rattle.scalar.proofs.CoordLaws.{same_coord}
use Rattle.intersects.proofs.line.LineIntersects.intersects.Goals as goal

pub returns-then-eq : goal.returns-then-eq
returns-then-eq g c =
    let u = g.T.Units.units in
    record {
      points =
          point_reflects c.intersects.result (segment u c.args.self.now) (segment u c.args.line.now) (ap (grid_point u) c.if-eq.ensures.same) c.intersects.ensures.points;
    }

pub returns-then-ne : goal.returns-then-ne
returns-then-ne g c =
    let u = g.T.Units.units in
    let o11 = c.orient2d-check_1_1.ensures.turn in
    let o12 = c.orient2d-check_1_2.ensures.turn in
    let o21 = c.orient2d-check_2_1.ensures.turn in
    let o22 = c.orient2d-check_2_2.ensures.turn in
    record {
      points =
          cross_reflects c.ne-then-ne.result (segment u c.args.self.now) (segment u c.args.line.now)
          (λ e. ne_reflects the_type (search rules) true c.orient2d-check_1_1.result c.orient2d-check_1_2.result c.if-ne.ensures (o11 ∙ e ∙ sym o12))
          (reflects_same c.ne-then-ne.result (λ n e. n (o21 ∙ e ∙ sym o22)) (λ n e. n (sym o21 ∙ e ∙ o22)) (ne_reflects the_type (search rules) c.ne-then-ne.result c.orient2d-check_2_1.result c.orient2d-check_2_2.result c.ne-then-ne.ensures));
    }

pub returns-then-eq-2 : goal.returns-then-eq-2
returns-then-eq-2 g c =
    let u = g.T.Units.units in
    let o11 = c.orient2d-check_1_1.ensures.turn in
    let o12 = c.orient2d-check_1_2.ensures.turn in
    record {
      points =
          collinear_reflects c.overlap_along.result (segment u c.args.self.now) (segment u c.args.line.now)
          (λ e. c.if-eq.ensures.same (same_coord u g.met.T.CoordNum.equal_units _ _ e))
          (sym o11 ∙ equal_unless_ne the_type (search rules) c.orient2d-check_1_1.result c.orient2d-check_1_2.result c.if-ne.ensures ∙ o12) (sym o11 ∙ eq_reflects the_type (search rules) true c.orient2d-check_1_1.result Collinear c.if-eq-2.ensures) c.overlap_along.ensures;
    }

pub returns-else-eq-2 : goal.returns-else-eq-2
returns-else-eq-2 g c =
    let u = g.T.Units.units in
    let o11 = c.orient2d-check_1_1.ensures.turn in
    let o12 = c.orient2d-check_1_2.ensures.turn in
    record {
      points =
          same_side_misses (segment u c.args.self.now) (segment u c.args.line.now) (sym o11 ∙ equal_unless_ne the_type (search rules) c.orient2d-check_1_1.result c.orient2d-check_1_2.result c.if-ne.ensures ∙ o12) (λ e. eq_reflects the_type (search rules) false c.orient2d-check_1_1.result Collinear c.if-eq-2.ensures (o11 ∙ e));
    }
