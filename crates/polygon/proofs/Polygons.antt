-- What the position in a polygon says.
use Rattle.std.proofs.Common.{◌≡◌, ◌⊎◌, List, [], ◌∷◌, sym, refl, ap, inl, inr}
use mathlib.Core.Bool.{false≢true}
use Rattle.std.specs.List.{AllByRecursion}
use Rattle.plane.specs.declared.grid_point.GridPoint.{GridPoint}
use Rattle.plane.specs.Reflects.{Iff}
use Rattle.coordinate_position.specs.declared.position.CoordPos.{CoordPos}
use Rattle.coordinate_position.specs.declared.position.CoordPos.TheVariants.{OnBoundary, Inside, Outside}
use Rattle.polygon.specs.Polygons.{past_hole, past_holes, within_exterior, polygon_position, is_inside, is_boundary, OnFirstHole}
use Rattle.polygon.specs.Rings.{ring_position}

boundary_not_inside : {P : Type 0} → OnBoundary ≡ Inside → P
boundary_not_inside e = absurd (false≢true (ap is_inside e))

outside_not_inside : {P : Type 0} → Outside ≡ Inside → P
outside_not_inside e = absurd (false≢true (ap is_inside e))

outside_not_boundary : {P : Type 0} → Outside ≡ OnBoundary → P
outside_not_boundary e = absurd (false≢true (ap is_boundary e))

-- ---- holes

module _ (c : GridPoint) where
  past_inside : (hs : List (List GridPoint)) → Iff (past_holes hs c ≡ Inside) (AllByRecursion (λ h. ring_position h c ≡ Outside) hs)
  past_inside [] = ((λ e. tt), (λ a. refl))
  past_inside (h ∷ hs) = go (ring_position h c) (past_inside hs)
    where
      go : {A : Type 0} (p : CoordPos) → Iff (past_holes hs c ≡ Inside) A → Iff (past_hole p (past_holes hs c) ≡ Inside) ((p ≡ Outside) × A)
      go OnBoundary i = (boundary_not_inside, (λ a. outside_not_boundary (sym a.0)))
      go Inside i = (outside_not_inside, (λ a. outside_not_inside (sym a.0)))
      go Outside i = ((λ e. (refl, i.0 e)), (λ a. i.1 a.1))

  past_boundary : (hs : List (List GridPoint)) → Iff (past_holes hs c ≡ OnBoundary) (OnFirstHole hs c)
  past_boundary [] = ((λ e. boundary_not_inside (sym e)), (λ a. absurd a))
  past_boundary (h ∷ hs) = go (ring_position h c) (past_boundary hs)
    where
      go : {A : Type 0} (p : CoordPos) → Iff (past_holes hs c ≡ OnBoundary) A → Iff (past_hole p (past_holes hs c) ≡ OnBoundary) ((p ≡ OnBoundary) ⊎ ((p ≡ Outside) × A))
      go OnBoundary i = ((λ e. inl refl), (λ a. refl))
      go Inside i = (outside_not_boundary, (λ a. elim a [ inl e ↦ boundary_not_inside (sym e) | inr b ↦ outside_not_inside (sym b.0) ]))
      go Outside i = ((λ e. inr (refl, i.0 e)), (λ a. elim a [ inl e ↦ outside_not_boundary e | inr b ↦ i.1 b.1 ]))

-- ---- the exterior with its holes

module _ (e : List GridPoint) (hs : List (List GridPoint)) (c : GridPoint) where
  -- inside the exterior and outside all holes
  abbrev pub InsideAll : Type 0
  InsideAll = (ring_position e c ≡ Inside) × AllByRecursion (λ h. ring_position h c ≡ Outside) hs

  -- on the exterior, or inside it and on the first hole that decides
  abbrev pub OnRing : Type 0
  OnRing = (ring_position e c ≡ OnBoundary) ⊎ ((ring_position e c ≡ Inside) × OnFirstHole hs c)

  pub position_inside : Iff (polygon_position e hs c ≡ Inside) InsideAll
  position_inside = go (ring_position e c) (past_inside c hs)
    where
      go : {A : Type 0} (p : CoordPos) → Iff (past_holes hs c ≡ Inside) A → Iff (within_exterior p (past_holes hs c) ≡ Inside) ((p ≡ Inside) × A)
      go OnBoundary i = (boundary_not_inside, (λ a. boundary_not_inside a.0))
      go Inside i = ((λ f. (refl, i.0 f)), (λ a. i.1 a.1))
      go Outside i = (outside_not_inside, (λ a. outside_not_inside a.0))

  pub position_boundary : Iff (polygon_position e hs c ≡ OnBoundary) OnRing
  position_boundary = go (ring_position e c) (past_boundary c hs)
    where
      go : {A : Type 0} (p : CoordPos) → Iff (past_holes hs c ≡ OnBoundary) A → Iff (within_exterior p (past_holes hs c) ≡ OnBoundary) ((p ≡ OnBoundary) ⊎ ((p ≡ Inside) × A))
      go OnBoundary i = ((λ f. inl refl), (λ a. refl))
      go Inside i = ((λ f. inr (refl, i.0 f)), (λ a. elim a [ inl f ↦ boundary_not_inside (sym f) | inr b ↦ i.1 b.1 ]))
      go Outside i = (outside_not_boundary, (λ a. elim a [ inl f ↦ outside_not_boundary f | inr b ↦ outside_not_inside b.0 ]))
