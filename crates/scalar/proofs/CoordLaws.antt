-- Coordinates are equal exactly if their grid points are.
use Rattle.std.proofs.Common.{◌≡◌, Bool, ℤ, sym, ap, ◌∙◌}
use Rattle.std.specs.Ordering.{int_eq}
use Rattle.std.proofs.lemmas.Bool.Decides.{Decides-int_eq}
use Rattle.plane.specs.declared.grid_point.GridPoint.{GridPoint}
use Rattle.plane.specs.Reflects.{Reflects}
use Rattle.plane.proofs.Answers.{reflects_same, decides_reflects, and_reflects}
use Rattle.scalar.specs.declared.coord.Coord.{Coord}
use Rattle.scalar.specs.Coords.{grid_point, equal_coords}

module _ {T : Type 0} (units : T → ℤ) (equal : (x y : T) → units x ≡ units y → x ≡ y) where
  pub same_coord : (a b : Coord T) → grid_point units a ≡ grid_point units b → a ≡ b
  same_coord a b e = λ i. record { x = equal a.x b.x (ap (λ (p : GridPoint). p.x) e) i; y = equal a.y b.y (ap (λ (p : GridPoint). p.y) e) i }

  pub same_grid : (r : Bool) (a b : Coord T) → Reflects r (a ≡ b) → Reflects r (grid_point units a ≡ grid_point units b)
  same_grid r a b h = reflects_same r (ap (grid_point units)) (same_coord a b) h

  -- the same of the grid points that the coordinates were made from
  pub same_made : (r : Bool) (a b : Coord T) (p q : GridPoint) → grid_point units a ≡ p → grid_point units b ≡ q → Reflects r (a ≡ b) → Reflects r (p ≡ q)
  same_made r a b p q e f h = reflects_same r (λ k. sym e ∙ k ∙ f) (λ k. e ∙ k ∙ sym f) (same_grid r a b h)

  -- what `==` and `!=` go by
  pub coord_reflects : (a b : Coord T) → Reflects (equal_coords units a b) (a ≡ b)
  coord_reflects a b =
      reflects_same (equal_coords units a b) (λ h. same_coord a b (λ i. record { x = h.0 i; y = h.1 i })) (λ e. (ap (λ (c : Coord T). units c.x) e, ap (λ (c : Coord T). units c.y) e))
      (and_reflects (units a.x ≡ units b.x) (units a.y ≡ units b.y) (int_eq (units a.x) (units b.x)) (int_eq (units a.y) (units b.y))
      (decides_reflects _ _ (Decides-int_eq (units a.x) (units b.x))) (decides_reflects _ _ (Decides-int_eq (units a.y) (units b.y))))
