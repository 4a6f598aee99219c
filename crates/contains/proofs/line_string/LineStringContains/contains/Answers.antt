use Rattle.std.proofs.Common.{Bool, List, subst, rules, tests}
use Rattle.std.proofs.lemmas.Iterator.Consumers.{YieldsList-from_first}
use Rattle.plane.specs.declared.grid_point.GridPoint.{GridPoint}
use Rattle.plane.specs.Points.{LongerThanZero}
use Rattle.plane.specs.Reflects.{Reflects}
use Rattle.plane.specs.Sets.{Common, Subset}
use Rattle.plane.proofs.Answers.{reflects_same}
use Rattle.plane.proofs.Iterators.{all_reflects}
use Rattle.polyline.specs.Segments.{Covered}
use Rattle.polyline.specs.Strings.{vertices, segments, OnString, StringInterior, StringContainsString}
use Rattle.polyline.proofs.StringContainment.{string_contains_string, string_in_string}
use Rattle.polyline.proofs.StringRules.{equal_in_string, unequal_in_string}
use Rattle.geometry.specs.Shapes.{segment}
use Rattle.contains.proofs.line_string.LineStringContains.contains.Goals as goal

-- the points, from the rule
by_points : (r : Bool) (vs ws : List GridPoint) → Reflects r (StringContainsString vs ws) → Reflects r (Subset (OnString ws) (OnString vs) × Common (OnString ws) (StringInterior vs))
by_points r vs ws h = reflects_same r (string_contains_string vs ws) (string_in_string vs ws) h

pub returns-then-all_equal : goal.returns-then-all_equal
returns-then-all_equal g c =
    let vs = vertices c.args.self.now.points.now in
    let ps = c.args.rhs.now.points.now in
    let r = c.contains.result in
    let i = equal_in_string ps c.in-len1-up.len_at_least vs c.if-all_equal.ensures in
    let h = reflects_same r i.0 i.1 (subst (λ (v : GridPoint). Reflects r (StringInterior vs v.x v.y 1)) c.from_grid.ensures c.contains.ensures.rule) in
    record { points = by_points r vs (vertices ps) h; rule = h }

pub returns-else-all_equal : goal.returns-else-all_equal
returns-else-all_equal g c =
    let vs = vertices c.args.self.now.points.now in
    let ps = c.args.rhs.now.points.now in
    let r = c.all.result in
    let i = unequal_in_string ps c.in-len1-up.len_at_least vs c.if-all_equal.ensures in
    let h = reflects_same r i.0 i.1
    (all_reflects (λ t. LongerThanZero t → Covered (segments vs) t) c.all.new.self _ r c.all.ensures.ran (YieldsList-from_first (segment g.T.Units.units) (λ l. segments (vertices l.points.now)) _ (cc)) (λ x b q k. search (rules, tests))) in
    record { points = by_points r vs (vertices ps) h; rule = h }
