use Rattle.std.proofs.Common.{subst}
use Rattle.plane.specs.Reflects.{Reflects}
use Rattle.plane.specs.Sets.{Box}
use Rattle.plane.proofs.Answers.{reflects_same}
use Rattle.plane.proofs.Rectangles.{corners_are}
use Rattle.plane.proofs.Containment.{StrictlyHeld, strictly_held_reflects}
use Rattle.scalar.specs.Coords.{grid_point}
use Rattle.geometry.specs.Rects.{box}
use Rattle.contains.proofs.rect.strictly_within.Goals as goal

pub returns-then-value_strictly_in_range : goal.returns-then-value_strictly_in_range
returns-then-value_strictly_in_range g c =
    let u = g.T.Units.units in
    let b = box u c.args.rect.now in
    let k = grid_point u c.args.coord in
    let x = c.if-value_strictly_in_range.ensures in
    let r = c.value_strictly_in_range-then-value_strictly_in_range.result in
    let e = corners_are b _ _ c.min-min.ensures c.max-max.ensures in
    strictly_held_reflects r b k (subst (λ (q : Box). Reflects r (StrictlyHeld q k)) e
    (reflects_same r (λ y. (x.0, x.1, y.0, y.1)) (λ h. (h.2, h.3)) c.value_strictly_in_range-then-value_strictly_in_range.ensures))
