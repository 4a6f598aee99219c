-- What the tests of grid points and segments tell.
use Rattle.std.proofs.Common.{◌≡◌, zero, suc, Bool, true, false, ◌&&◌, ◌⊎◌, List, [], ◌∷◌, ℤ, pos, negsuc, ◌≤ℤ◌, ◌<ℤ◌, sym, refl, ap, ◌∙◌, inl, inr, arith}
use lib.Signed.{le_z, lt_z}
use Rattle.std.proofs.lemmas.Int.{ints}
use Rattle.plane.specs.declared.grid_point.GridPoint.{GridPoint}
use Rattle.plane.specs.Orient.{det}
use Rattle.plane.specs.Points.{Segment, Between, Touches, Ranges}
use Rattle.plane.specs.Reflects.{Reflects}
use Rattle.plane.proofs.Integers.{lin}
use Rattle.plane.proofs.Answers.{reflects_same, and_reflects, or_reflects}
use Rattle.plane.proofs.Orientations.{det_side}
use Rattle.plane.proofs.Collinear.{ranges_on, on_ranges, on_side, same_point}
use Rattle.polyline.specs.Tests.{is_zero, same, between, collinear, touches, touches_any}
use Rattle.polyline.specs.Segments.{OnAny}

-- ---- tests of numbers

pub le_tells : (a b : ℤ) → ((le_z a b ≡ true) × (a ≤ℤ b)) ⊎ ((le_z a b ≡ false) × (b <ℤ a))
le_tells a b = tell a b (le_z a b) refl
  where
    tell : (a b : ℤ) (t : Bool) → le_z a b ≡ t → ((le_z a b ≡ true) × (a ≤ℤ b)) ⊎ ((le_z a b ≡ false) × (b <ℤ a))
    tell a b true e = inl (e, omega (arith, ints))
    tell a b false e = inr (e, omega (arith, ints))

pub lt_tells : (a b : ℤ) → ((lt_z a b ≡ true) × (a <ℤ b)) ⊎ ((lt_z a b ≡ false) × (b ≤ℤ a))
lt_tells a b = tell a b (lt_z a b) refl
  where
    tell : (a b : ℤ) (t : Bool) → lt_z a b ≡ t → ((lt_z a b ≡ true) × (a <ℤ b)) ⊎ ((lt_z a b ≡ false) × (b ≤ℤ a))
    tell a b true e = inl (e, omega (arith, ints))
    tell a b false e = inr (e, omega (arith, ints))

pub le_reflects : (a b : ℤ) → Reflects (le_z a b) (a ≤ℤ b)
le_reflects a b = elim (le_tells a b) [ inl h ↦ simp h.0 h.1 | inr h ↦ simp h.0 (λ k. omega (arith, lin)) ]

pub lt_reflects : (a b : ℤ) → Reflects (lt_z a b) (a <ℤ b)
lt_reflects a b = elim (lt_tells a b) [ inl h ↦ simp h.0 h.1 | inr h ↦ simp h.0 (λ k. omega (arith, lin)) ]

pub zero_reflects : (z : ℤ) → Reflects (is_zero z) (z ≡ pos 0)
zero_reflects (pos zero) = refl
zero_reflects (pos (suc n)) = λ e. omega (arith, ints)
zero_reflects (negsuc n) = λ e. omega (arith, ints)

pub same_number_reflects : (a b : ℤ) → Reflects (le_z a b && le_z b a) (a ≡ b)
same_number_reflects a b =
    reflects_same (le_z a b && le_z b a) (λ h. omega (arith, lin)) (λ e. (omega (arith, lin), omega (arith, lin)))
    (and_reflects (a ≤ℤ b) (b ≤ℤ a) (le_z a b) (le_z b a) (le_reflects a b) (le_reflects b a))

pub between_reflects : (v a b : ℤ) → Reflects (between v a b) (Between v a b)
between_reflects v a b =
    or_reflects ((a ≤ℤ v) × (v ≤ℤ b)) ((b ≤ℤ v) × (v ≤ℤ a)) (le_z a v && le_z v b) (le_z b v && le_z v a)
    (and_reflects (a ≤ℤ v) (v ≤ℤ b) (le_z a v) (le_z v b) (le_reflects a v) (le_reflects v b))
    (and_reflects (b ≤ℤ v) (v ≤ℤ a) (le_z b v) (le_z v a) (le_reflects b v) (le_reflects v a))

-- ---- tests of grid points and segments

pub same_reflects : (a b : GridPoint) → Reflects (same a b) (a ≡ b)
same_reflects a b =
    reflects_same (same a b) (λ h. same_point a b h.0 h.1) (λ e. (ap (λ (c : GridPoint). c.x) e, ap (λ (c : GridPoint). c.y) e))
    (and_reflects (a.x ≡ b.x) (a.y ≡ b.y) (le_z a.x b.x && le_z b.x a.x) (le_z a.y b.y && le_z b.y a.y) (same_number_reflects a.x b.x) (same_number_reflects a.y b.y))

pub touches_reflects : (s : Segment) (c : GridPoint) → Reflects (touches s c) (Touches s c)
touches_reflects s c =
    reflects_same (touches s c)
    (λ h. ranges_on s c.x c.y (sym (det_side s c) ∙ h.0) h.1)
    (λ o. (det_side s c ∙ on_side s c.x c.y o, on_ranges s c.x c.y o))
    (and_reflects (det s.p s.q c ≡ pos 0) (Ranges s c.x c.y) (collinear s.p s.q c) (between c.x s.p.x s.q.x && between c.y s.p.y s.q.y) (zero_reflects (det s.p s.q c))
    (and_reflects (Between c.x s.p.x s.q.x) (Between c.y s.p.y s.q.y) (between c.x s.p.x s.q.x) (between c.y s.p.y s.q.y) (between_reflects c.x s.p.x s.q.x) (between_reflects c.y s.p.y s.q.y)))

pub touches_any_reflects : (ss : List Segment) (c : GridPoint) → Reflects (touches_any ss c) (OnAny ss c.x c.y 1)
touches_any_reflects [] c = λ h. h
touches_any_reflects (s ∷ ss) c = or_reflects (Touches s c) (OnAny ss c.x c.y 1) (touches s c) (touches_any ss c) (touches_reflects s c) (touches_any_reflects ss c)
