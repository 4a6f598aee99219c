use Rattle.std.proofs.Common.{not, ap}
use Rattle.plane.proofs.Answers.{reflects_no}
use Rattle.scalar.specs.Coords.{grid_point}
use Rattle.geometry.specs.Rects.{box}
use Rattle.geometry.proofs.RectLaws.{box_ordered}
use Rattle.coordinate_position.specs.declared.position.Membership.{Membership}
use Rattle.coordinate_position.proofs.Memberships.{box_membership}
use Rattle.coordinate_position.proofs.Outlines.{strictly_not_outline, outline_reflects}
use Rattle.coordinate_position.proofs.rect.RectCoordinatePosition.calculate_coordinate_position.Goals as goal

pub returns-then-not-inside : goal.returns-then-not-inside
returns-then-not-inside g c =
    let u = g.T.Units.units in
    let b = box u c.args.self.now in
    let k = grid_point u c.args.coord.now in
    let m : Membership = record { inside = c.contains-inside.result; odd = c.intersects.result } in
    let i = c.contains-inside.ensures.rule in
    let o = outline_reflects b k m.odd (box_ordered u c.args.self.now) c.if-not-inside.ensures.rule c.intersects.ensures.points in
    record { value = box_membership b k m i o; inside = i; boundary = o }

pub returns-else-not-inside : goal.returns-else-not-inside
returns-else-not-inside g c =
    let u = g.T.Units.units in
    let b = box u c.args.self.now in
    let k = grid_point u c.args.coord.now in
    let m : Membership = record { inside = c.contains-inside.result; odd = not c.contains-inside.result } in
    let i = c.contains-inside.ensures.rule in
    let o = reflects_no m.odd (ap not c.if-not-inside.false) (strictly_not_outline b k (box_ordered u c.args.self.now) c.if-not-inside.ensures.rule) in
    record { value = box_membership b k m i o; inside = i; boundary = o }
