use Rattle.std.proofs.Common.{◌≡◌, ◌⊎◌, arith, ap, inl, inr}
use Rattle.plane.proofs.Answers.{reflects_no}
use Rattle.plane.proofs.Containment.{coord_reflects as coord_contained, zero_reflects, longer_reflects, end_not_interior}
use Rattle.scalar.specs.Coords.{grid_point}
use Rattle.scalar.proofs.CoordLaws.{same_coord, same_grid, coord_reflects}
use Rattle.geometry.specs.Shapes.{segment}
use Rattle.contains.proofs.line.LineContainsCoord.contains.Goals as goal
use Rattle.contains.proofs.line.LineContainsCoord.contains.Goals.{then-ne, else-ne}

pub returns-then-eq : goal.returns-then-eq
returns-then-eq g c =
    let u = g.T.Units.units in
    let s = segment u c.args.self.now in
    let k = grid_point u c.args.coord.now in
    let r = c.eq-then-eq.result in
    let h = zero_reflects r s k (ap (grid_point u) c.if-eq.ensures.same) (same_grid u g.met.T.CoordNum.equal_units r _ _ c.eq-then-eq.ensures.same) in
    record { points = coord_contained r s k h; rule = h }

pub returns-then-ne-2 : goal.returns-then-ne-2
returns-then-ne-2 g c =
    let u = g.T.Units.units in
    let s = segment u c.args.self.now in
    let k = grid_point u c.args.coord.now in
    let r = c.intersects.result in
    let same = same_coord u g.met.T.CoordNum.equal_units in
    let m : c.args.coord.now ≡ c.args.self.now.start → ⊥ = grind (arith, coord_reflects u g.met.T.CoordNum.equal_units) in
    let n : c.args.coord.now ≡ c.args.self.now.end → ⊥ = grind (arith, coord_reflects u g.met.T.CoordNum.equal_units) in
    let h = longer_reflects r s k (λ e. c.if-eq.ensures.same (same _ _ e)) (λ e. m (same _ _ e)) (λ e. n (same _ _ e)) c.intersects.ensures.touches in
    record { points = coord_contained r s k h; rule = h }

pub returns-else-ne-2 : goal.returns-else-ne-2
returns-else-ne-2 g c =
    let u = g.T.Units.units in
    let s = segment u c.args.self.now in
    let k = grid_point u c.args.coord.now in
    let e : (c.args.coord.now ≡ c.args.self.now.start) ⊎ (c.args.coord.now ≡ c.args.self.now.end) = grind (arith, coord_reflects u g.met.T.CoordNum.equal_units) in
    let h = reflects_no c.if-ne.value c.if-ne-2.false (end_not_interior s k (λ z. c.if-eq.ensures.same (same_coord u g.met.T.CoordNum.equal_units _ _ z)) (elim e [ inl a ↦ inl (ap (grid_point u) a) | inr a ↦ inr (ap (grid_point u) a) ])) in
    record { points = coord_contained c.if-ne.value s k h; rule = h }
