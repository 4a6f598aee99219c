-- The turn of three grid points, by the sign of their determinant.
use Rattle.std.proofs.Common.{◌≡◌, ℕ, zero, suc, ℤ, pos, negsuc, ◌-ℤ◌, ◌*ℤ◌, ◌<ℤ◌, sym, refl, ap, inl, inr, arith}
use Rattle.std.proofs.lemmas.Int.{ints}
use Rattle.plane.specs.declared.grid_point.GridPoint.{GridPoint}
use Rattle.plane.specs.declared.orientation.Orientation.{Orientation}
use Rattle.plane.specs.declared.orientation.Orientation.TheVariants.{CounterClockwise, Clockwise, Collinear}
use Rattle.plane.specs.Orient.{det, orientation}
use Rattle.plane.specs.Points.{Segment, Between}
use Rattle.plane.proofs.Terms.{side}
use Rattle.plane.proofs.Integers.{ring, lin}

pub left_turn : (z : ℤ) → pos 0 <ℤ z → CounterClockwise ≡ orientation z
left_turn (pos zero) h = absurd (omega (arith, ints))
left_turn (pos (suc n)) h = refl
left_turn (negsuc n) h = absurd (omega (arith, ints))

pub right_turn : (z : ℤ) → z <ℤ pos 0 → Clockwise ≡ orientation z
right_turn (pos zero) h = absurd (omega (arith, ints))
right_turn (pos (suc n)) h = absurd (omega (arith, ints))
right_turn (negsuc n) h = refl

pub no_turn : (z : ℤ) → z ≡ pos 0 → Collinear ≡ orientation z
no_turn z e = sym (ap orientation e)

-- the three turns differ
differ : {P : Type 0} → ◌≡◌ {A = ℕ} 0 1 → P
differ z = absurd (omega arith)

pub left_of : (z : ℤ) → orientation z ≡ CounterClockwise → pos 0 <ℤ z
left_of (pos zero) e = differ (cc)
left_of (pos (suc n)) e = omega (arith, ints)
left_of (negsuc n) e = differ (cc)

pub right_of : (z : ℤ) → orientation z ≡ Clockwise → z <ℤ pos 0
right_of (pos zero) e = differ (cc)
right_of (pos (suc n)) e = differ (cc)
right_of (negsuc n) e = omega (arith, ints)

pub collinear_zero : (z : ℤ) → orientation z ≡ Collinear → z ≡ pos 0
collinear_zero (pos zero) e = refl
collinear_zero (pos (suc n)) e = differ (cc)
collinear_zero (negsuc n) e = differ (cc)

pub left_not_collinear : CounterClockwise ≡ Collinear → ⊥
left_not_collinear e = differ (cc)

pub right_not_collinear : Clockwise ≡ Collinear → ⊥
right_not_collinear e = differ (cc)

-- two numbers of one sign with 0 between them are 0
pub same_sign_zero : (a b : ℤ) → orientation a ≡ orientation b → Between (pos 0) a b → (a ≡ pos 0) × (b ≡ pos 0)
same_sign_zero (pos zero) (pos zero) e h = (refl, refl)
same_sign_zero (pos zero) (pos (suc n)) e h = differ (cc)
same_sign_zero (pos zero) (negsuc n) e h = differ (cc)
same_sign_zero (pos (suc m)) (pos zero) e h = differ (cc)
same_sign_zero (pos (suc m)) (pos (suc n)) e h = absurd (omega (arith, ints, h))
same_sign_zero (pos (suc m)) (negsuc n) e h = differ (cc)
same_sign_zero (negsuc m) (pos zero) e h = differ (cc)
same_sign_zero (negsuc m) (pos (suc n)) e h = differ (cc)
same_sign_zero (negsuc m) (negsuc n) e h = absurd (omega (arith, ints, h))

-- two numbers of different signs have 0 between them
pub signs_between : (a b : ℤ) → (orientation a ≡ orientation b → ⊥) → Between (pos 0) a b
signs_between (pos zero) (pos n) e = inl (omega (arith, ints), omega (arith, ints))
signs_between (pos zero) (negsuc n) e = inr (omega (arith, ints), omega (arith, ints))
signs_between (pos (suc m)) (pos zero) e = inr (omega (arith, ints), omega (arith, ints))
signs_between (pos (suc m)) (pos (suc n)) e = absurd (e refl)
signs_between (pos (suc m)) (negsuc n) e = inr (omega (arith, ints), omega (arith, ints))
signs_between (negsuc m) (pos n) e = inl (omega (arith, ints), omega (arith, ints))
signs_between (negsuc m) (negsuc n) e = absurd (e refl)

-- the determinant, taken from the segment's end, is the side, taken from its start
pub det_side : (s : Segment) (c : GridPoint) → det s.p s.q c ≡ side s c.x c.y
det_side s c = go s.p.x s.p.y s.q.x s.q.y c.x c.y
  where
    go : (px py qx qy rx ry : ℤ) → (qx -ℤ px) *ℤ (ry -ℤ qy) -ℤ (qy -ℤ py) *ℤ (rx -ℤ qx) ≡ (qx -ℤ px) *ℤ (ry -ℤ py) -ℤ (qy -ℤ py) *ℤ (rx -ℤ px)
    go px py qx qy rx ry = simp ring (omega (arith, lin))

-- the turn of a grid point past a segment
abbrev pub turn : Segment → GridPoint → Orientation
turn s c = orientation (det s.p s.q c)

pub turn_side : (s : Segment) (c : GridPoint) → turn s c ≡ orientation (side s c.x c.y)
turn_side s c = ap orientation (det_side s c)
