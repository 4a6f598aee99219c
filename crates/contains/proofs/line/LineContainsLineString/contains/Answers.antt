use Rattle.std.proofs.Common.{◌≡◌, Bool, List, sym, subst, rules, tests}
use Rattle.std.proofs.lemmas.Iterator.{YieldsList-from_slice}
use Rattle.plane.specs.declared.grid_point.GridPoint.{GridPoint}
use Rattle.plane.specs.Points.{Segment, On, Touches}
use Rattle.plane.specs.Reach.{read_point}
use Rattle.plane.specs.Reflects.{Reflects}
use Rattle.plane.specs.Sets.{Common, Subset, Interior}
use Rattle.plane.proofs.Answers.{reflects_same}
use Rattle.plane.proofs.Iterators.{all_reflects}
use Rattle.polyline.specs.Strings.{vertices, OnString, SegmentContainsString}
use Rattle.polyline.proofs.StringContainment.{segment_contains, contains_segment}
use Rattle.polyline.proofs.StringRules.{first_touches, equal_in_segment, unequal_in_segment}
use Rattle.geometry.specs.Shapes.{segment}
use Rattle.contains.proofs.line.LineContainsLineString.contains.Goals as goal

-- the points, from the rule
by_points : (r : Bool) (s : Segment) (vs : List GridPoint) → Reflects r (SegmentContainsString s vs) → Reflects r (Subset (OnString vs) (On s) × Common (OnString vs) (Interior s))
by_points r s vs h = reflects_same r (segment_contains s vs) (contains_segment s vs) h

touches_made : (r : Bool) (s : Segment) (c p : GridPoint) → c ≡ p → Reflects r (Touches s c) → Reflects r (Touches s p)
touches_made r s c p e h = subst (λ (v : GridPoint). Reflects r (Touches s v)) e h

pub returns-then-not-intersects : goal.returns-then-not-intersects
returns-then-not-intersects g c =
    let s = segment g.T.Units.units c.args.self.now in
    let ps = c.args.line_string.now.points.now in
    let h : SegmentContainsString s (vertices ps) → ⊥ = λ i. c.if-not-intersects.ensures.touches (subst (Touches s) (sym c.from_grid-first.ensures) (first_touches s ps c.in-len1-up.len_at_least i)) in
    record { points = λ e. h (contains_segment s (vertices ps) e); rule = h }

pub returns-then-all_equal : goal.returns-then-all_equal
returns-then-all_equal g c =
    let s = segment g.T.Units.units c.args.self.now in
    let ps = c.args.line_string.now.points.now in
    let r = c.contains.result in
    let i = equal_in_segment ps c.in-len1-up.len_at_least s c.if-all_equal.ensures in
    let h = reflects_same r i.0 i.1 (subst (λ (v : GridPoint). Reflects r (Interior s v.x v.y 1)) c.from_grid-first.ensures c.contains.ensures.rule) in
    record { points = by_points r s (vertices ps) h; rule = h }

pub returns-else-all_equal : goal.returns-else-all_equal
returns-else-all_equal g c =
    let s = segment g.T.Units.units c.args.self.now in
    let ps = c.args.line_string.now.points.now in
    let r = c.all.result in
    let i = unequal_in_segment ps c.in-len1-up.len_at_least s c.if-all_equal.ensures in
    let h = reflects_same r i.0 i.1
    (all_reflects (λ (p : GridPoint). Touches s (read_point p)) _ _ r c.all.ensures.ran (YieldsList-from_slice _ c.iter.ensures.rest) (λ x b q k. search (rules, tests, touches_made))) in
    record { points = by_points r s (vertices ps) h; rule = h }
