use mathlib.Core.Path.{◌≡◌, subst}
use mathlib.Core.Bool.{Bool}
use Rattle.plane.specs.declared.grid_point.GridPoint.{GridPoint}
use Rattle.plane.specs.Reflects.{Reflects}
use Rattle.plane.specs.Sets.{Box, Common, InBox, At}
use Rattle.plane.proofs.Answers.{reflects_same, reflects_no}
use Rattle.plane.proofs.Rectangles.{Held, box_coord_reflects, corners_are}
use Rattle.scalar.specs.Coords.{grid_point}
use Rattle.geometry.specs.Rects.{box}
use Rattle.intersects.proofs.rect.RectIntersectsCoord.intersects.Goals as goal

-- a box by its corners as the code has them
held_reflects : (b : Bool) (r : Box) (lo hi k : GridPoint) → lo ≡ r.min → hi ≡ r.max → Reflects b (Held (record { min = lo; max = hi }) k) → Reflects b (Common (InBox r) (At k))
held_reflects b r lo hi k e f h = box_coord_reflects b r k (subst (λ (q : Box). Reflects b (Held q k)) (corners_are r lo hi e f) h)

pub returns-then-value_in_range : goal.returns-then-value_in_range
returns-then-value_in_range g c =
    let u = g.T.Units.units in
    let x = c.if-value_in_range.ensures in
    let r = c.value_in_range-then-value_in_range.result in
    record {
      points =
          held_reflects r (box u c.args.self.now) _ _ (grid_point u c.args.rhs.now) c.min-min.ensures c.max-max.ensures
          (reflects_same r (λ y. (x.0, x.1, y.0, y.1)) (λ h. (h.2, h.3)) c.value_in_range-then-value_in_range.ensures);
    }

pub returns-else-value_in_range : goal.returns-else-value_in_range
returns-else-value_in_range g c =
    let u = g.T.Units.units in
    let r = c.value_in_range.result in
    record {
      points =
          held_reflects r (box u c.args.self.now) _ _ (grid_point u c.args.rhs.now) c.min-min.ensures c.max-max.ensures
          (reflects_no r c.if-value_in_range.false (λ h. c.if-value_in_range.ensures (h.0, h.1)));
    }
