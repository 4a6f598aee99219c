use mathlib.Core.Path.{sym, ◌∙◌}
use Rattle.std.proofs.Common.{true, false, rules}
use Rattle.plane.specs.declared.orientation.Orientation.TheVariants.{Collinear}
use Rattle.plane.proofs.Answers.{reflects_same, reflects_no}
use Rattle.plane.specs.contracts.orientation.Orientation.{the_type}
use Rattle.plane.proofs.Enums.{eq_reflects}
use Rattle.plane.proofs.Segments.{touch_reflects, touch_collinear, touch_common, common_touch}
use Rattle.scalar.specs.Coords.{grid_point}
use Rattle.geometry.specs.Shapes.{segment}
use Rattle.intersects.proofs.line.LineIntersectsCoord.intersects.Goals as goal

pub returns-then-eq : goal.returns-then-eq
returns-then-eq g c =
    let u = g.T.Units.units in
    let s = segment u c.args.self.now in
    let k = grid_point u c.args.rhs.now in
    let r = c.point_in_rect.result in
    let e = eq_reflects the_type (search rules) true c.orient2d.result Collinear c.if-eq.ensures in
    let h = touch_reflects r s k (sym c.orient2d.ensures.turn ∙ e) c.point_in_rect.ensures in
    record { points = reflects_same r (touch_common s k) (common_touch s k) h; touches = h }

pub returns-else-eq : goal.returns-else-eq
returns-else-eq g c =
    let u = g.T.Units.units in
    let s = segment u c.args.self.now in
    let k = grid_point u c.args.rhs.now in
    let r = c.eq.result in
    let n = eq_reflects the_type (search rules) false c.orient2d.result Collinear c.if-eq.ensures in
    let h = reflects_no r c.if-eq.false (λ o. n (c.orient2d.ensures.turn ∙ touch_collinear s k o)) in
    record { points = reflects_same r (touch_common s k) (common_touch s k) h; touches = h }
