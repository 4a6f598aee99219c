use Rattle.std.proofs.Common.{refl, ◌∙◌, inl, inr, arith}
use Rattle.plane.proofs.Answers.{reflects_same}
use Rattle.polyline.proofs.Chains.{end_by_ends, only_end}
use Rattle.scalar.specs.Coords.{grid_point}
use Rattle.scalar.proofs.CoordLaws.{same_coord, same_made}
use Rattle.line_strings.proofs.line_string.LineString.ends_at.Goals as goal

pub returns-in-len1 : goal.returns-in-len1
returns-in-len1 g c =
    let u = g.T.Units.units in
    let i = only_end c.args.self.now.points.now (grid_point u c.args.coord.now) (omega arith) in
    reflects_same c.eq.result i.0 i.1 (same_made u g.met.T.CoordNum.equal_units c.eq.result c.from_grid.result c.args.coord.now _ _ c.from_grid.ensures refl c.eq.ensures.same)

pub returns-else-eq : goal.returns-else-eq
returns-else-eq g c =
    let u = g.T.Units.units in
    let same = g.met.T.CoordNum.equal_units in
    let r = c.eq-else-eq.result in
    let i = end_by_ends c.args.self.now.points.now (grid_point u c.args.coord.now) (omega arith) in
    reflects_same r (λ h. i.0 (inr h))
    (λ h. elim (i.1 h) [ inl f ↦ absurd (c.if-eq.ensures.same (same_coord u same _ _ (c.from_grid-in-len2-up.ensures ∙ f))) | inr f ↦ f ])
    (same_made u same r c.from_grid-else-eq.result c.args.coord.now _ _ c.from_grid-else-eq.ensures refl c.eq-else-eq.ensures.same)
