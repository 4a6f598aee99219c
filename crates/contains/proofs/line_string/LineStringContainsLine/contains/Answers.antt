use Rattle.std.proofs.Common.{◌≡◌, Bool, List, ap}
use Rattle.plane.specs.declared.grid_point.GridPoint.{GridPoint}
use Rattle.plane.specs.Points.{Segment, On, LongerThanZero}
use Rattle.plane.specs.Reflects.{Reflects}
use Rattle.plane.specs.Sets.{Common, Subset}
use Rattle.plane.proofs.Answers.{reflects_same}
use Rattle.polyline.specs.Strings.{vertices, OnString, StringInterior, StringContainsSegment}
use Rattle.polyline.proofs.StringContainment.{string_contains_segment, segment_in_string}
use Rattle.scalar.specs.Coords.{grid_point}
use Rattle.scalar.proofs.CoordLaws.{same_coord}
use Rattle.geometry.specs.Shapes.{segment}
use Rattle.contains.proofs.line_string.LineStringContainsLine.contains.Goals as goal

-- the points, from the rule
by_points : (r : Bool) (vs : List GridPoint) (t : Segment) → Reflects r (StringContainsSegment vs t) → Reflects r (Subset (On t) (OnString vs) × Common (On t) (StringInterior vs))
by_points r vs t h = reflects_same r (string_contains_segment vs t) (segment_in_string vs t) h

pub returns-then-eq : goal.returns-then-eq
returns-then-eq g c =
    let u = g.T.Units.units in
    let vs = vertices c.args.self.now.points.now in
    let t = segment u c.args.line.now in
    let r = c.contains.result in
    let z : t.p ≡ t.q = ap (grid_point u) c.if-eq.ensures.same in
    let h : Reflects r (StringContainsSegment vs t) = reflects_same r (λ i. record { point = λ _. i; longer = λ n. absurd (n z) }) (λ e. e.point z) c.contains.ensures.rule in
    record { points = by_points r vs t h; rule = h }

pub returns-else-eq : goal.returns-else-eq
returns-else-eq g c =
    let u = g.T.Units.units in
    let vs = vertices c.args.self.now.points.now in
    let t = segment u c.args.line.now in
    let r = c.covers.result in
    let n : LongerThanZero t = λ e. c.if-eq.ensures.same (same_coord u g.met.T.CoordNum.equal_units _ _ e) in
    let h : Reflects r (StringContainsSegment vs t) = reflects_same r (λ k. record { point = λ z. absurd (n z); longer = λ _. k }) (λ e. e.longer n) c.covers.ensures in
    record { points = by_points r vs t h; rule = h }
