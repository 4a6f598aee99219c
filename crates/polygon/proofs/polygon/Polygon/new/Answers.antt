use Rattle.polygon.specs.Polygons.{rings}
use Rattle.polygon.proofs.Refusals.{none_refused}
use Rattle.polygon.proofs.polygon.Polygon.new.Goals as goal

pub invariant_of-result : goal.invariant_of-result
invariant_of-result g c = record { closed = ∣ (c.if-not-is_closed.ensures, (none_refused 1 (rings c.args.interiors.now)).0 c.in_default.ensures) ∣₁ }
