use Rattle.plane.proofs.Answers.{reflects_no}
use Rattle.plane.proofs.Containment.{bounds_reflect, bounds_points, bounds_are_points}
use Rattle.geometry.specs.Rects.{box}
use Rattle.geometry.proofs.RectLaws.{box_ordered}
use Rattle.contains.proofs.rect.RectContains.contains.Goals as goal

pub returns-then-within_bounds : goal.returns-then-within_bounds
returns-then-within_bounds g c =
    let u = g.T.Units.units in
    let a = box u c.args.self.now in
    let b = box u c.args.other.now in
    let o = box_ordered u c.args.other.now in
    let r = c.reaches_into.result in
    let h = bounds_reflect r a b o c.if-within_bounds.ensures c.reaches_into.ensures in
    record { points = bounds_points r a b o h; rule = h; bounds = bounds_are_points a b o }

pub returns-else-within_bounds : goal.returns-else-within_bounds
returns-else-within_bounds g c =
    let u = g.T.Units.units in
    let a = box u c.args.self.now in
    let b = box u c.args.other.now in
    let o = box_ordered u c.args.other.now in
    let r = c.within_bounds.result in
    let h = reflects_no r c.if-within_bounds.false (λ k. c.if-within_bounds.ensures k.0) in
    record { points = bounds_points r a b o h; rule = h; bounds = bounds_are_points a b o }
