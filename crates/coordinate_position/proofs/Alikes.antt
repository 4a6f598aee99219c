-- When shapes are alike: grouped with whatever third shape, a grid point has one position.
use Rattle.std.proofs.Common.{◌≡◌, Bool, true, false, ◌&&◌, ◌||◌, sym, refl, ap, ◌∙◌, subst, ap₂, inl, inr, true≢false}
use mathlib.Core.Bool.{beq, false≢true, xor}
use Rattle.std.specs.Cmp.{booleans_Decides}
use Rattle.plane.specs.declared.grid_point.GridPoint.{GridPoint}
use Rattle.plane.specs.Points.{Segment}
use Rattle.plane.specs.Reflects.{Reflects}
use Rattle.plane.proofs.Answers.{reflects_same, decides_reflects, and_reflects}
use Rattle.plane.proofs.Containment.{end_not_interior}
use Rattle.coordinate_position.specs.declared.position.CoordPos.{CoordPos}
use Rattle.coordinate_position.specs.declared.position.CoordPos.TheVariants.{OnBoundary, Inside, Outside}
use Rattle.coordinate_position.specs.declared.position.Membership.{Membership}
use Rattle.coordinate_position.specs.Positions.{mod_2}
use Rattle.coordinate_position.specs.Shapes.{Shape, membership, position, grouped, nothing, line_shape}
use Rattle.coordinate_position.specs.Alike.{Alike, ToldApartByLines, Compared, AlikeExactly}
use Rattle.coordinate_position.proofs.Memberships.{line_membership}

-- ---- what a position tells

on_boundary : CoordPos → Bool
on_boundary OnBoundary = true
on_boundary Inside = false
on_boundary Outside = false

is_inside : CoordPos → Bool
is_inside OnBoundary = false
is_inside Inside = true
is_inside Outside = false

-- of a shape grouped with nothing, its own boundary
shows_odd : (i o : Bool) → on_boundary (mod_2 (i || false) (xor o false)) ≡ o
unfolding on_boundary xor
shows_odd true true = refl
shows_odd false true = refl
shows_odd true false = refl
shows_odd false false = refl

-- of a shape grouped with one of the same boundary count and no inside, its own inside
shows_inside : (i o : Bool) → is_inside (mod_2 (i || false) (xor o o)) ≡ i
unfolding is_inside xor
shows_inside true true = refl
shows_inside false true = refl
shows_inside true false = refl
shows_inside false false = refl

module _ (c : GridPoint) (f g : Shape) where
  told_odd : position (grouped f nothing) c ≡ position (grouped g nothing) c → f.odd c ≡ g.odd c
  told_odd e = sym (shows_odd (f.inside c) (f.odd c)) ∙ ap on_boundary e ∙ shows_odd (g.inside c) (g.odd c)

  told_inside : (third : Shape) → f.odd c ≡ g.odd c → third.inside c ≡ false → third.odd c ≡ f.odd c → position (grouped f third) c ≡ position (grouped g third) c → f.inside c ≡ g.inside c
  told_inside third h n o e = sym (shows (f.inside c) (f.odd c) o) ∙ ap is_inside e ∙ shows (g.inside c) (g.odd c) (o ∙ h)
    where
      shows : (i k : Bool) → third.odd c ≡ k → is_inside (mod_2 (i || third.inside c) (xor k (third.odd c))) ≡ i
      shows i k o = ap₂ (λ (a b : Bool). is_inside (mod_2 (i || a) (xor k b))) n o ∙ shows_inside i k

  alike_same : Alike c f g → (f.odd c ≡ g.odd c) × (f.inside c ≡ g.inside c)
  alike_same h = let o = told_odd (h nothing) in let third : Shape = record { inside = λ _. false; odd = f.odd } in (o, told_inside third o refl refl (h third))

  same_alike : (f.odd c ≡ g.odd c) × (f.inside c ≡ g.inside c) → Alike c f g
  same_alike e third = ap₂ (λ (o i : Bool). mod_2 (i || third.inside c) (xor o (third.odd c))) e.0 e.1

-- ---- the shapes that tell two apart

-- the end of a longer line: on its boundary, and not inside
line_end : (c q : GridPoint) → (c ≡ q → ⊥) → ◌≡◌ {A = Membership} (record { inside = false; odd = true }) (membership (line_shape (record { p = c; q = q })) c)
line_end c q n = let s : Segment = record { p = c; q = q } in line_membership s c (record { inside = false; odd = true }) (end_not_interior s c n (inl refl)) (n, inl refl)

told_apart : (c : GridPoint) (f g : Shape) → ((f.odd c ≡ g.odd c) × (f.inside c ≡ g.inside c) → ⊥) → ToldApartByLines c f g
told_apart c f g n = by_odd (f.odd c) (g.odd c) refl refl
  where
    by_odd : (o k : Bool) → f.odd c ≡ o → g.odd c ≡ k → ToldApartByLines c f g
    by_odd true true u v = inr (λ q z e. let m = line_end c q z in n (u ∙ sym v, told_inside c f g (line_shape (record { p = c; q = q })) (u ∙ sym v) (sym (ap (λ (m : Membership). m.inside) m)) (sym (ap (λ (m : Membership). m.odd) m) ∙ sym u) e))
    by_odd true false u v = inl (λ e. true≢false (sym u ∙ told_odd c f g e ∙ v))
    by_odd false true u v = inl (λ e. false≢true (sym u ∙ told_odd c f g e ∙ v))
    by_odd false false u v = inl (λ e. n (u ∙ sym v, told_inside c f g nothing (u ∙ sym v) refl (sym u) e))

compared : (r : Bool) (c : GridPoint) (f g : Shape) → Reflects r ((f.odd c ≡ g.odd c) × (f.inside c ≡ g.inside c)) → Compared r c f g
compared true c f g h = same_alike c f g h
compared false c f g n = told_apart c f g n

both_equal : (a b x y : Bool) → Reflects (beq a b && beq x y) ((x ≡ y) × (a ≡ b))
both_equal a b x y =
    reflects_same (beq a b && beq x y) (λ (h : (a ≡ b) × (x ≡ y)). (h.1, h.0)) (λ h. (h.1, h.0))
    (and_reflects (a ≡ b) (x ≡ y) (beq a b) (beq x y) (decides_reflects (a ≡ b) (beq a b) (booleans_Decides a b)) (decides_reflects (x ≡ y) (beq x y) (booleans_Decides x y)))

-- the code compares what both say
pub same_compared : (c : GridPoint) (f g : Shape) (m n : Membership) → m ≡ membership f c → n ≡ membership g c → (r : Bool) → r ≡ beq m.inside n.inside && beq m.odd n.odd → Compared r c f g
same_compared c f g m n u v r e =
    let same = e ∙ ap₂ (λ (m n : Membership). beq m.inside n.inside && beq m.odd n.odd) u v in
    compared r c f g (subst (λ (b : Bool). Reflects b ((f.odd c ≡ g.odd c) × (f.inside c ≡ g.inside c))) (sym same) (both_equal (f.inside c) (g.inside c) (f.odd c) (g.odd c)))

pub alike_exactly : AlikeExactly
alike_exactly c f g = (alike_same c f g, same_alike c f g)
