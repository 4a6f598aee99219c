-- The corners of a rectangle's box.
use Rattle.std.proofs.Common.{◌≡◌, ℤ, ◌∙◌, arith}
use Rattle.std.specs.Int.{int_min, int_max}
use Rattle.std.proofs.lemmas.Int.{ints, clamps}
use Rattle.plane.specs.declared.grid_point.GridPoint.{GridPoint}
use Rattle.plane.specs.Sets.{spanned}
use Rattle.std.specs.declared.cmp.Ord as Ord
use Rattle.std.specs.declared.cmp.PartialEq as PartialEq
use Rattle.std.specs.declared.cmp.PartialOrd as PartialOrd
use Rattle.plane.proofs.Terms.{Ordered}
use Rattle.plane.proofs.Rectangles.{spanned_ordered}
use Rattle.scalar.specs.Coords.{grid_point}
use Rattle.scalar.specs.declared.units.Units as Units
use Rattle.geometry.specs.declared.rect.Rect.{Rect}
use Rattle.geometry.specs.Rects.{box}

pub box_ordered : {T : Type 0} {U : Units.Ghosts T} {O : Ord.Ghosts T} {E : PartialEq.Ghosts T} {P : PartialOrd.Ghosts T} (units : T → ℤ) (r : Rect T U O E P) → Ordered (box units r)
box_ordered units r = spanned_ordered (grid_point units r.min) (grid_point units r.max)

lesser_again : (a b : ℤ) → int_min (int_min a b) (int_max a b) ≡ int_min a b
lesser_again a b = omega (arith, ints, clamps)

greater_again : (a b : ℤ) → int_max (int_min a b) (int_max a b) ≡ int_max a b
greater_again a b = omega (arith, ints, clamps)

-- a box is spanned by its own corners
pub spanned_again : (p q low high : GridPoint) → low ≡ (spanned p q).min → high ≡ (spanned p q).max → spanned low high ≡ spanned p q
spanned_again p q low high e f = (λ i. spanned (e i) (f i)) ∙ (λ i. record {
  min = record { x = lesser_again p.x q.x i; y = lesser_again p.y q.y i };
  max = record { x = greater_again p.x q.x i; y = greater_again p.y q.y i };
})
