-- A box and a segment: they meet exactly if their ranges overlap and the corners are not all on one side.
use Rattle.std.proofs.Common.{◌≡◌, ℕ, ◌⊎◌, ℤ, pos, ◌+ℤ◌, ◌-ℤ◌, ◌*ℤ◌, neg_ℤ, nat_abs, ◌≤ℤ◌, ◌<ℤ◌, ap, inl, inr, arith}
use Rattle.std.proofs.lemmas.Int.{ints, by_lt_z}
use Rattle.plane.specs.Points.{Segment, On, Between}
use Rattle.plane.specs.Sets.{Common, Box, InBox}
use Rattle.plane.proofs.Terms.{Ordered, side, reversed, transposed, transposed_box, mirrored, mirrored_box, RangesOverlap, Overlapping, OneSide}
use Rattle.plane.proofs.Integers.{ring, lin, mul_nonneg, mul_pos, le_mul, mul_neg, neg_mul}
use Rattle.plane.proofs.Division.{on_at}
use Rattle.plane.proofs.Crossing.{abs_is, at_least_one, on_reversed, on_transposed, side_reversed}
use Rattle.plane.proofs.Collinear.{start_on}
use Rattle.plane.proofs.Boxes.{grid_point_in}

-- the corner that is least to the left of the line
least : (dx dy d X Y px py cx cy : ℤ) → pos 0 <ℤ d → pos 0 ≤ℤ (dx *ℤ (Y -ℤ d *ℤ cy)) → pos 0 ≤ℤ (dy *ℤ (d *ℤ cx -ℤ X)) → dx *ℤ (Y -ℤ d *ℤ py) ≡ dy *ℤ (X -ℤ d *ℤ px) → pos 0 <ℤ (dx *ℤ (cy -ℤ py) -ℤ dy *ℤ (cx -ℤ px)) → ⊥
least dx dy d X Y px py cx cy h a b e f =
    let u = mul_pos d _ h f in omega (arith, lin, simp ring at u, simp ring at a, simp ring at b, simp ring at e)

pub not_all_left : (r : Box) (s : Segment) → Common (InBox r) (On s) → (pos 0 <ℤ side s r.min.x r.min.y) × (pos 0 <ℤ side s r.max.x r.min.y) × (pos 0 <ℤ side s r.max.x r.max.y) × (pos 0 <ℤ side s r.min.x r.max.y) → ⊥
not_all_left r s m f =
    by_lt_z (s.q.x -ℤ s.p.x) (pos 0)
    (λ k. by_lt_z (s.q.y -ℤ s.p.y) (pos 0)
    (λ l. go r.min.x r.max.y (down (s.q.x -ℤ s.p.x) _ (omega (arith, lin)) (omega (arith, lin, m.first.over))) (down (s.q.y -ℤ s.p.y) _ (omega (arith, lin)) (omega (arith, lin, m.first.left))) f.3)
    (λ l. go r.max.x r.max.y (down (s.q.x -ℤ s.p.x) _ (omega (arith, lin)) (omega (arith, lin, m.first.over))) (mul_nonneg (s.q.y -ℤ s.p.y) _ l (omega (arith, lin, m.first.right))) f.2))
    (λ k. by_lt_z (s.q.y -ℤ s.p.y) (pos 0)
    (λ l. go r.min.x r.min.y (mul_nonneg (s.q.x -ℤ s.p.x) _ k (omega (arith, lin, m.first.under))) (down (s.q.y -ℤ s.p.y) _ (omega (arith, lin)) (omega (arith, lin, m.first.left))) f.0)
    (λ l. go r.max.x r.min.y (mul_nonneg (s.q.x -ℤ s.p.x) _ k (omega (arith, lin, m.first.under))) (mul_nonneg (s.q.y -ℤ s.p.y) _ l (omega (arith, lin, m.first.right))) f.1))
  where
    down : (a b : ℤ) → a ≤ℤ pos 0 → b ≤ℤ pos 0 → pos 0 ≤ℤ (a *ℤ b)
    down a b h k = let u = mul_nonneg (neg_ℤ a) (neg_ℤ b) (omega (arith, lin)) (omega (arith, lin)) in omega (arith, lin, simp (neg_mul, mul_neg) at u)

    go : (cx cy : ℤ) → pos 0 ≤ℤ ((s.q.x -ℤ s.p.x) *ℤ (m.Y -ℤ pos m.d *ℤ cy)) → pos 0 ≤ℤ ((s.q.y -ℤ s.p.y) *ℤ (pos m.d *ℤ cx -ℤ m.X)) → pos 0 <ℤ side s cx cy → ⊥
    go cx cy a b c = least (s.q.x -ℤ s.p.x) (s.q.y -ℤ s.p.y) (pos m.d) m.X m.Y s.p.x s.p.y cx cy (omega (arith, ints, m.positive)) a b m.second.line c

pub common_reversed : (r : Box) (s : Segment) → Common (InBox r) (On s) → Common (InBox r) (On (reversed s))
common_reversed r s m = record { X = m.X; Y = m.Y; d = m.d; positive = m.positive; first = m.first; second = on_reversed s m.second }

pub one_side_reversed : (r : Box) (s : Segment) → OneSide s r → OneSide (reversed s) r
one_side_reversed r s h =
    let e0 = side_reversed s r.min.x r.min.y in
    let e1 = side_reversed s r.max.x r.min.y in
    let e2 = side_reversed s r.max.x r.max.y in
    let e3 = side_reversed s r.min.x r.max.y in
    elim h [
      | inl f ↦ inr (low _ _ e0 f.0, low _ _ e1 f.1, low _ _ e2 f.2, low _ _ e3 f.3)
      | inr f ↦ inl (high _ _ e0 f.0, high _ _ e1 f.1, high _ _ e2 f.2, high _ _ e3 f.3)
    ]
  where
    low : (a b : ℤ) → b ≡ neg_ℤ a → pos 0 <ℤ a → b <ℤ pos 0
    low a b e h = omega (arith, lin)

    high : (a b : ℤ) → b ≡ neg_ℤ a → a <ℤ pos 0 → pos 0 <ℤ b
    high a b e h = omega (arith, lin)

pub one_side_misses : (r : Box) (s : Segment) → Common (InBox r) (On s) → OneSide s r → ⊥
one_side_misses r s m (inl f) = not_all_left r s m f
one_side_misses r s m (inr f) = elim (one_side_reversed r s (inr f)) [ inl g ↦ not_all_left r (reversed s) (common_reversed r s m) g | inr g ↦ twist f.0 g.0 (side_reversed s r.min.x r.min.y) ]
  where
    twist : {a b : ℤ} → a <ℤ pos 0 → b <ℤ pos 0 → b ≡ neg_ℤ a → ⊥
    twist h k e = omega (arith, lin)

-- ---- the other way: where the segment enters
-- at the left side
enters_left : (r : Box) (s : Segment) → s.p.x <ℤ r.min.x → r.min.x ≤ℤ s.q.x → r.min.x ≤ℤ r.max.x → side s r.min.x r.min.y ≤ℤ pos 0 → pos 0 ≤ℤ side s r.min.x r.max.y → Common (InBox r) (On s)
enters_left r s a b c f g =
    let D : ℤ = s.q.x -ℤ s.p.x in
    let d : ℕ = nat_abs D in
    let is : pos d ≡ D = abs_is D (omega (arith, lin)) in
    let n : ℤ = r.min.x -ℤ s.p.x in
    record {
      X = pos d *ℤ r.min.x;
      Y = pos d *ℤ s.p.y +ℤ n *ℤ (s.q.y -ℤ s.p.y);
      d = d;
      positive = at_least_one d D is (omega (arith, lin));
      first = record {
        left = omega (arith, lin);
        right = le_mul (pos d) _ _ (omega (arith, ints)) c;
        under = lower D (s.q.y -ℤ s.p.y) n (pos d) s.p.y r.min.y is f;
        over = upper D (s.q.y -ℤ s.p.y) n (pos d) s.p.y r.max.y is g;
      };
      second = on_at s _ _ d n (omega (arith, lin)) (omega (arith, lin)) (at_x D (pos d) r.min.x s.p.x is) (omega (arith, lin));
    }
  where
    at_x : (D c l p : ℤ) → c ≡ D → c *ℤ l -ℤ c *ℤ p ≡ (l -ℤ p) *ℤ D
    at_x D c l p e = simp ring (omega (arith, lin, ap (λ (z : ℤ). z *ℤ l) e, ap (λ (z : ℤ). z *ℤ p) e))

    lower : (D E n c p l : ℤ) → c ≡ D → (D *ℤ (l -ℤ p) -ℤ E *ℤ n) ≤ℤ pos 0 → (c *ℤ l) ≤ℤ (c *ℤ p +ℤ n *ℤ E)
    lower D E n c p l e h = simp ring (omega (arith, lin, simp ring at h, ap (λ (z : ℤ). z *ℤ l) e, ap (λ (z : ℤ). z *ℤ p) e))

    upper : (D E n c p l : ℤ) → c ≡ D → pos 0 ≤ℤ (D *ℤ (l -ℤ p) -ℤ E *ℤ n) → (c *ℤ p +ℤ n *ℤ E) ≤ℤ (c *ℤ l)
    upper D E n c p l e h = simp ring (omega (arith, lin, simp ring at h, ap (λ (z : ℤ). z *ℤ l) e, ap (λ (z : ℤ). z *ℤ p) e))

common_transposed : (r : Box) (s : Segment) → Common (InBox (transposed_box r)) (On (transposed s)) → Common (InBox r) (On s)
common_transposed r s m = record {
  X = m.Y;
  Y = m.X;
  d = m.d;
  positive = m.positive;
  first = record { left = m.first.under; right = m.first.over; under = m.first.left; over = m.first.right };
  second = on_transposed (transposed s) m.second;
}

-- at the lower side
enters_below : (r : Box) (s : Segment) → s.p.y <ℤ r.min.y → r.min.y ≤ℤ s.q.y → r.min.y ≤ℤ r.max.y → pos 0 ≤ℤ side s r.min.x r.min.y → side s r.max.x r.min.y ≤ℤ pos 0 → Common (InBox r) (On s)
enters_below r s a b c f g = common_transposed r s (enters_left (transposed_box r) (transposed s) a b c (omega (arith, lin)) (omega (arith, lin)))

-- a segment that goes right and up
clip_rising : (r : Box) (s : Segment) → s.p.x ≤ℤ s.q.x → s.p.y ≤ℤ s.q.y → Ordered r → s.p.x ≤ℤ r.max.x → r.min.x ≤ℤ s.q.x → s.p.y ≤ℤ r.max.y → r.min.y ≤ℤ s.q.y → pos 0 ≤ℤ side s r.min.x r.max.y → side s r.max.x r.min.y ≤ℤ pos 0 → Common (InBox r) (On s)
clip_rising r s dx dy u a b c e f g =
    by_lt_z s.p.x r.min.x
    (λ l. by_lt_z (pos 0) (side s r.min.x r.min.y)
    (λ k. by_lt_z s.p.y r.min.y
    (λ m. enters_below r s m e u.1 (omega (arith, lin)) g)
    (λ m. absurd (steep (s.q.x -ℤ s.p.x) (s.q.y -ℤ s.p.y) (r.min.x -ℤ s.p.x) (r.min.y -ℤ s.p.y) (omega (arith, lin)) (omega (arith, lin)) (omega (arith, lin)) (omega (arith, lin)) k)))
    (λ k. enters_left r s l b u.0 k f))
    (λ l. by_lt_z s.p.y r.min.y
    (λ m. enters_below r s m e u.1 (flat (s.q.x -ℤ s.p.x) (s.q.y -ℤ s.p.y) (r.min.x -ℤ s.p.x) (r.min.y -ℤ s.p.y) (omega (arith, lin)) (omega (arith, lin)) (omega (arith, lin)) (omega (arith, lin))) g)
    (λ m. record { X = s.p.x; Y = s.p.y; d = 1; positive = omega arith; first = grid_point_in r s.p.x s.p.y (l, a, m, c); second = start_on s }))
  where
    flat : (dx dy x y : ℤ) → pos 0 ≤ℤ dx → pos 0 ≤ℤ dy → x ≤ℤ pos 0 → pos 0 ≤ℤ y → pos 0 ≤ℤ (dx *ℤ y -ℤ dy *ℤ x)
    flat dx dy x y h k m n = let p = mul_nonneg dx y h n in let q = mul_nonneg dy (neg_ℤ x) k (omega (arith, lin)) in omega (arith, lin, simp mul_neg at q)

    steep : (dx dy x y : ℤ) → pos 0 ≤ℤ dx → pos 0 ≤ℤ dy → pos 0 ≤ℤ x → y ≤ℤ pos 0 → pos 0 <ℤ (dx *ℤ y -ℤ dy *ℤ x) → ⊥
    steep dx dy x y h k m n o = let p = mul_nonneg dy x k m in let q = mul_nonneg dx (neg_ℤ y) h (omega (arith, lin)) in omega (arith, lin, simp mul_neg at q)

-- the sides fall to the right and rise upwards
falls : (s : Segment) (x x' y : ℤ) → s.p.y ≤ℤ s.q.y → x ≤ℤ x' → side s x' y ≤ℤ side s x y
falls s x x' y h k = omega (arith, lin, le_mul (s.q.y -ℤ s.p.y) (x -ℤ s.p.x) (x' -ℤ s.p.x) (omega (arith, lin)) (omega (arith, lin)))

rises : (s : Segment) (x y y' : ℤ) → s.p.x ≤ℤ s.q.x → y ≤ℤ y' → side s x y ≤ℤ side s x y'
rises s x y y' h k = omega (arith, lin, le_mul (s.q.x -ℤ s.p.x) (y -ℤ s.p.y) (y' -ℤ s.p.y) (omega (arith, lin)) (omega (arith, lin)))

clip_upward : (r : Box) (s : Segment) → s.p.x ≤ℤ s.q.x → s.p.y ≤ℤ s.q.y → Ordered r → Overlapping r s → (OneSide s r → ⊥) → Common (InBox r) (On s)
clip_upward r s dx dy u n a =
    let w = falls s r.min.x r.max.x r.min.y dy u.0 in
    let x = falls s r.min.x r.max.x r.max.y dy u.0 in
    let y = rises s r.min.x r.min.y r.max.y dx u.1 in
    let z = rises s r.max.x r.min.y r.max.y dx u.1 in
    clip_rising r s dx dy u (omega (arith, lin, n.0.1)) (omega (arith, lin, n.0.0)) (omega (arith, lin, n.1.1)) (omega (arith, lin, n.1.0))
    (by_lt_z (side s r.min.x r.max.y) (pos 0) (λ l. absurd (a (inr (omega (arith, lin), omega (arith, lin), omega (arith, lin), l)))) (λ l. l))
    (by_lt_z (pos 0) (side s r.max.x r.min.y) (λ l. absurd (a (inl (omega (arith, lin), l, omega (arith, lin), omega (arith, lin))))) (λ l. l))

side_mirrored : (s : Segment) (x y : ℤ) → side (mirrored s) x (neg_ℤ y) ≡ neg_ℤ (side s x y)
side_mirrored s x y =
    let e : neg_ℤ y -ℤ neg_ℤ s.p.y ≡ neg_ℤ (y -ℤ s.p.y) = omega (arith, lin) in
    let f : neg_ℤ s.q.y -ℤ neg_ℤ s.p.y ≡ neg_ℤ (s.q.y -ℤ s.p.y) = omega (arith, lin) in
    cc (looks (s.q.x -ℤ s.p.x) (s.q.y -ℤ s.p.y) (x -ℤ s.p.x) (y -ℤ s.p.y))
  where
    looks : (dx dy u v : ℤ) → dx *ℤ neg_ℤ v -ℤ neg_ℤ dy *ℤ u ≡ neg_ℤ (dx *ℤ v -ℤ dy *ℤ u)
    looks dx dy u v = simp (mul_neg, neg_mul) (omega (arith, lin))

one_side_mirrored : (r : Box) (s : Segment) → OneSide (mirrored s) (mirrored_box r) → OneSide s r
one_side_mirrored r s h =
    let e0 = side_mirrored s r.min.x r.min.y in
    let e1 = side_mirrored s r.max.x r.min.y in
    let e2 = side_mirrored s r.max.x r.max.y in
    let e3 = side_mirrored s r.min.x r.max.y in
    elim h [
      | inl f ↦ inr (low _ _ e0 f.3, low _ _ e1 f.2, low _ _ e2 f.1, low _ _ e3 f.0)
      | inr f ↦ inl (high _ _ e0 f.3, high _ _ e1 f.2, high _ _ e2 f.1, high _ _ e3 f.0)
    ]
  where
    low : (a b : ℤ) → b ≡ neg_ℤ a → pos 0 <ℤ b → a <ℤ pos 0
    low a b e h = omega (arith, lin)

    high : (a b : ℤ) → b ≡ neg_ℤ a → b <ℤ pos 0 → pos 0 <ℤ a
    high a b e h = omega (arith, lin)

-- back from the mirror
common_mirrored : (r : Box) (s : Segment) → Common (InBox (mirrored_box r)) (On (mirrored s)) → Common (InBox r) (On s)
common_mirrored r s m = record {
  X = m.X;
  Y = neg_ℤ m.Y;
  d = m.d;
  positive = m.positive;
  first = record { left = m.first.left; right = m.first.right; under = omega (arith, lin, simp mul_neg at m.first.over); over = omega (arith, lin, simp mul_neg at m.first.under) };
  second = record { line = looks (s.q.x -ℤ s.p.x) s.p.y s.q.y _ m.Y (pos m.d) m.second.line; in_x = m.second.in_x; in_y = amid s.p.y s.q.y m.Y (pos m.d) m.second.in_y };
}
  where
    looks : (dx py qy u Y d : ℤ) → dx *ℤ (Y -ℤ d *ℤ neg_ℤ py) ≡ (neg_ℤ qy -ℤ neg_ℤ py) *ℤ u → dx *ℤ (neg_ℤ Y -ℤ d *ℤ py) ≡ (qy -ℤ py) *ℤ u
    looks dx py qy u Y d e = simp ring (omega (arith, lin, simp ring at e))

    amid : (a b v d : ℤ) → Between v (d *ℤ neg_ℤ a) (d *ℤ neg_ℤ b) → Between (neg_ℤ v) (d *ℤ a) (d *ℤ b)
    amid a b v d (inl h) = inr (omega (arith, lin, mul_neg d a, mul_neg d b))
    amid a b v d (inr h) = inl (omega (arith, lin, mul_neg d a, mul_neg d b))

clip_rightward : (r : Box) (s : Segment) → s.p.x ≤ℤ s.q.x → Ordered r → Overlapping r s → (OneSide s r → ⊥) → Common (InBox r) (On s)
clip_rightward r s dx u n a =
    by_lt_z s.q.y s.p.y
    (λ l. common_mirrored r s (clip_upward (mirrored_box r) (mirrored s) dx (omega (arith, lin)) (u.0, omega (arith, lin))
    (n.0, lapse r.min.y r.max.y s.p.y s.q.y n.1) (λ h. a (one_side_mirrored r s h))))
    (λ l. clip_upward r s dx l u n a)
  where
    lapse : (lo hi p q : ℤ) → RangesOverlap lo hi p q → RangesOverlap (neg_ℤ hi) (neg_ℤ lo) (neg_ℤ p) (neg_ℤ q)
    lapse lo hi p q h = (elim h.1 [ inl k ↦ inl (omega (arith, lin)) | inr k ↦ inr (omega (arith, lin)) ], elim h.0 [ inl k ↦ inl (omega (arith, lin)) | inr k ↦ inr (omega (arith, lin)) ])

-- The ranges overlap, and the corners are not all on one side: there is a point in common.
pub not_one_side_meets : (r : Box) (s : Segment) → Ordered r → Overlapping r s → (OneSide s r → ⊥) → Common (InBox r) (On s)
not_one_side_meets r s u n a =
    by_lt_z s.q.x s.p.x
    (λ l. common_reversed r (reversed s) (clip_rightward r (reversed s) (omega (arith, lin)) u (swapped n.0, swapped n.1) (λ h. a (one_side_reversed r (reversed s) h))))
    (λ l. clip_rightward r s l u n a)
  where
    swap : {P Q : Type 0} → P ⊎ Q → Q ⊎ P
    swap (inl h) = inr h
    swap (inr h) = inl h

    swapped : {lo hi p q : ℤ} → RangesOverlap lo hi p q → RangesOverlap lo hi q p
    swapped h = (swap h.0, swap h.1)
