use Rattle.std.proofs.Common.{not, ap, inl, inr}
use Rattle.plane.specs.Points.{LongerThanZero}
use Rattle.plane.specs.Reflects.{Reflects}
use Rattle.plane.proofs.Answers.{reflects_yes, reflects_no}
use Rattle.plane.proofs.Containment.{zero_reflects, longer_reflects, end_not_interior}
use Rattle.scalar.specs.Coords.{grid_point}
use Rattle.scalar.proofs.CoordLaws.{same_coord, same_grid}
use Rattle.geometry.specs.Shapes.{segment}
use Rattle.coordinate_position.specs.declared.position.Membership.{Membership}
use Rattle.coordinate_position.proofs.Memberships.{AtLongerEnd, line_membership}
use Rattle.coordinate_position.proofs.line.LineCoordinatePosition.calculate_coordinate_position.Goals as goal

pub returns-then-eq-clause-inside : goal.returns-then-eq-clause-inside
returns-then-eq-clause-inside g c =
    let u = g.T.Units.units in
    let m = c.calculate_coordinate_position.result in
    zero_reflects m.inside (segment u c.args.self.now) (grid_point u c.args.coord.now) (ap (grid_point u) c.if-eq.ensures.same)
    (same_grid u g.met.T.CoordNum.equal_units m.inside _ _ c.calculate_coordinate_position.ensures.inside)

pub returns-then-not-ends : goal.returns-then-not-ends
returns-then-not-ends g c =
    let u = g.T.Units.units in
    let s = segment u c.args.self.now in
    let k = grid_point u c.args.coord.now in
    let m : Membership = record { inside = c.intersects.result; odd = c.is_end-ends.result } in
    let n : LongerThanZero s = λ e. c.if-eq.ensures.same (same_coord u g.met.T.CoordNum.equal_units _ _ e) in
    let e = c.if-not-ends.ensures in
    let i = longer_reflects m.inside s k n (λ p. e (inl p)) (λ q. e (inr q)) c.intersects.ensures.touches in
    let o : Reflects m.odd (AtLongerEnd s k) = reflects_no m.odd c.if-not-ends.true (λ h. e h.1) in
    record { value = line_membership s k m i o; inside = i; boundary = o }

pub returns-else-not-ends : goal.returns-else-not-ends
returns-else-not-ends g c =
    let u = g.T.Units.units in
    let s = segment u c.args.self.now in
    let k = grid_point u c.args.coord.now in
    let m : Membership = record { inside = not c.is_end-ends.result; odd = c.is_end-ends.result } in
    let n : LongerThanZero s = λ e. c.if-eq.ensures.same (same_coord u g.met.T.CoordNum.equal_units _ _ e) in
    let e = c.if-not-ends.ensures in
    let i = reflects_no m.inside (ap not c.if-not-ends.false) (end_not_interior s k n e) in
    let o : Reflects m.odd (AtLongerEnd s k) = reflects_yes m.odd c.if-not-ends.false (n, e) in
    record { value = line_membership s k m i o; inside = i; boundary = o }
