use Rattle.std.proofs.Common.{◌≡◌, Bool, ◌⊎◌, ap, inl, inr}
use Rattle.plane.specs.Points.{Segment, On, LongerThanZero}
use Rattle.plane.specs.Reflects.{Reflects}
use Rattle.plane.specs.Sets.{Common, Subset, Interior, ContainsByEnds}
use Rattle.plane.proofs.Answers.{reflects_same, reflects_no}
use Rattle.plane.proofs.Containment.{ends_contain, contain_ends, ends_are_points}
use Rattle.scalar.specs.Coords.{grid_point}
use Rattle.scalar.proofs.CoordLaws.{same_coord}
use Rattle.geometry.specs.Shapes.{segment}
use Rattle.contains.proofs.line.LineContains.contains.Goals as goal

-- the points, from the rule by the ends
by_points : (r : Bool) (s t : Segment) → (t.p ≡ t.q) ⊎ LongerThanZero t → Reflects r (ContainsByEnds s t) → Reflects r (Subset (On t) (On s) × Common (On t) (Interior s))
by_points r s t z h = reflects_same r (λ e. ends_contain s t e z) (contain_ends s t) h

pub returns-then-eq : goal.returns-then-eq
returns-then-eq g c =
    let u = g.T.Units.units in
    let s = segment u c.args.self.now in
    let t = segment u c.args.line.now in
    let r = c.contains.result in
    let z : t.p ≡ t.q = ap (grid_point u) c.if-eq.ensures.same in
    let h : Reflects r (ContainsByEnds s t) = reflects_same r (λ i. record { point = λ _. i; longer = λ n. absurd (n z) }) (λ e. e.point z) c.contains.ensures.rule in
    record { points = by_points r s t (inl z) h; rule = h; ends = ends_are_points s t }

pub returns-then-intersects : goal.returns-then-intersects
returns-then-intersects g c =
    let u = g.T.Units.units in
    let s = segment u c.args.self.now in
    let t = segment u c.args.line.now in
    let r = c.intersects-then-intersects.result in
    let n : LongerThanZero t = λ e. c.if-eq.ensures.same (same_coord u g.met.T.CoordNum.equal_units _ _ e) in
    let h : Reflects r (ContainsByEnds s t) =
    reflects_same r (λ m. record { point = λ z. absurd (n z); longer = λ _. (c.if-intersects.ensures.touches, m) }) (λ e. (e.longer n).1) c.intersects-then-intersects.ensures.touches in
    record { points = by_points r s t (inr n) h; rule = h; ends = ends_are_points s t }

pub returns-else-intersects : goal.returns-else-intersects
returns-else-intersects g c =
    let u = g.T.Units.units in
    let s = segment u c.args.self.now in
    let t = segment u c.args.line.now in
    let r = c.intersects.result in
    let n : LongerThanZero t = λ e. c.if-eq.ensures.same (same_coord u g.met.T.CoordNum.equal_units _ _ e) in
    let h : Reflects r (ContainsByEnds s t) = reflects_no r c.if-intersects.false (λ e. c.if-intersects.ensures.touches (e.longer n).0) in
    record { points = by_points r s t (inr n) h; rule = h; ends = ends_are_points s t }
