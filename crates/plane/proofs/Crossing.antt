-- Two segments and the sides of their ends.
use Rattle.std.proofs.Common.{◌≡◌, ℕ, ◌≤◌, ℤ, pos, negsuc, ◌+ℤ◌, ◌-ℤ◌, ◌*ℤ◌, neg_ℤ, nat_abs, ◌≤ℤ◌, ◌<ℤ◌, sym, refl, ap, inl, inr, arith}
use Rattle.std.proofs.lemmas.Int.{ints, by_lt_z}
use Rattle.plane.specs.Points.{Segment, On, Between}
use Rattle.plane.specs.Sets.{Common}
use Rattle.plane.proofs.Terms.{Meet, side, reversed, transposed}
use Rattle.plane.proofs.Integers.{ring, lin, mul_nonneg, mul_pos, mul_add, mul_neg, mul_one}
use Rattle.plane.proofs.Division.{part, on_at, by_order}

-- two weights of which not both are 0 add two numbers up to 0
zero_between : (m n a b : ℤ) → pos 0 ≤ℤ m → pos 0 ≤ℤ n → pos 0 <ℤ (m +ℤ n) → m *ℤ a +ℤ n *ℤ b ≡ pos 0 → Between (pos 0) a b
zero_between m n a b p q r e =
    by_order (pos 0) a
    (λ l. by_lt_z (pos 0) b
    (λ k. absurd (heavy m n a b p q r l k (omega (arith, lin))))
    (λ k. inr (omega (arith, lin))))
    (λ l. by_lt_z b (pos 0)
    (λ k. absurd (heavy m n (neg_ℤ a) (neg_ℤ b) p q r (omega (arith, lin)) (omega (arith, lin)) (simp mul_neg (omega (arith, lin)))))
    (λ k. inl (omega (arith, lin))))
    (λ z. by_lt_z b (pos 0) (λ k. inr (omega (arith, lin))) (λ k. inl (omega (arith, lin))))
  where
    heavy : (m n a b : ℤ) → pos 0 ≤ℤ m → pos 0 ≤ℤ n → pos 0 <ℤ (m +ℤ n) → pos 0 <ℤ a → pos 0 <ℤ b → m *ℤ a +ℤ n *ℤ b ≡ pos 0 → ⊥
    heavy m n a b p q r l k e =
        let u = mul_nonneg m (a -ℤ pos 1) p (omega (arith, ints)) in
        let v = mul_nonneg n (b -ℤ pos 1) q (omega (arith, ints)) in
        let u' : m ≤ℤ (m *ℤ a) = less m a u in
        let v' : n ≤ℤ (n *ℤ b) = less n b v in
        omega (arith, lin)
      where
        less : (m a : ℤ) → pos 0 ≤ℤ (m *ℤ (a -ℤ pos 1)) → m ≤ℤ (m *ℤ a)
        less m a h = omega (arith, lin, simp (ring, mul_one) at h)

-- a point of t on the line of s: the ends of t lie on both sides of it, or on it
weighted_sides : (dx dy U V d ax ay bx by e k : ℤ) → dx *ℤ V ≡ dy *ℤ U → e *ℤ (U -ℤ d *ℤ ax) ≡ k *ℤ (bx -ℤ ax) → e *ℤ (V -ℤ d *ℤ ay) ≡ k *ℤ (by -ℤ ay) → (d *ℤ e -ℤ k) *ℤ (dx *ℤ ay -ℤ dy *ℤ ax) +ℤ k *ℤ (dx *ℤ by -ℤ dy *ℤ bx) ≡ pos 0
weighted_sides dx dy U V d ax ay bx by e k l f g =
    simp ring (omega (arith, lin, simp ring at (ap (λ (z : ℤ). e *ℤ z) l), simp ring at (ap (λ (z : ℤ). dy *ℤ z) f), simp ring at (ap (λ (z : ℤ). dx *ℤ z) g)))

-- Two segments with a point in common: the ends of each lie on both sides of the other's line, or on it.
pub straddles : (s t : Segment) → Meet s t → Between (pos 0) (side s t.p.x t.p.y) (side s t.q.x t.q.y)
straddles s t m =
    let c = part t m.X m.Y m.d m.second in
    let D = pos m.d in
    let z = weighted_sides (s.q.x -ℤ s.p.x) (s.q.y -ℤ s.p.y) (m.X -ℤ D *ℤ s.p.x) (m.Y -ℤ D *ℤ s.p.y) D (t.p.x -ℤ s.p.x) (t.p.y -ℤ s.p.y) (t.q.x -ℤ s.p.x) (t.q.y -ℤ s.p.y) c.e c.k
    m.first.line (moved m.X D s.p.x t.p.x t.q.x c.e c.k c.is_x) (moved m.Y D s.p.y t.p.y t.q.y c.e c.k c.is_y) in
    zero_between (D *ℤ c.e -ℤ c.k) c.k _ _ (omega (arith, lin, c.high)) c.low (let u = mul_pos D c.e (omega (arith, ints, m.positive)) c.positive in omega (arith, lin)) z
  where
    moved : (X D a p q e k : ℤ) → e *ℤ (X -ℤ D *ℤ p) ≡ k *ℤ (q -ℤ p) → e *ℤ ((X -ℤ D *ℤ a) -ℤ D *ℤ (p -ℤ a)) ≡ k *ℤ ((q -ℤ a) -ℤ (p -ℤ a))
    moved X D a p q e k h = simp ring (omega (arith, lin, simp ring at h))

pub common_swapped : {P Q : ℤ → ℤ → ℕ → Type 0} → Common P Q → Common Q P
common_swapped m = record { X = m.X; Y = m.Y; d = m.d; positive = m.positive; first = m.second; second = m.first }

-- the size of a number that is not negative, as a denominator
pub abs_is : (z : ℤ) → pos 0 ≤ℤ z → pos (nat_abs z) ≡ z
abs_is (pos z) h = refl
abs_is (negsuc z) h = absurd (omega (arith, ints))

pub at_least_one : (d : ℕ) (D : ℤ) → pos d ≡ D → pos 0 <ℤ D → 1 ≤ d
at_least_one d D e h = omega (arith, ints)

-- the bounds the other way round
pub between_swapped : {v a b : ℤ} → Between v a b → Between v b a
between_swapped (inl h) = inr h
between_swapped (inr h) = inl h

-- Cramer's rule: the point of t at o1 parts of o1 - o2 lies on s
cramer_x : (dx dy ex ey a b : ℤ) → ((dx *ℤ b -ℤ dy *ℤ a) -ℤ (dx *ℤ (b +ℤ ey) -ℤ dy *ℤ (a +ℤ ex))) *ℤ a +ℤ (dx *ℤ b -ℤ dy *ℤ a) *ℤ ex ≡ neg_ℤ (ex *ℤ neg_ℤ b -ℤ ey *ℤ neg_ℤ a) *ℤ dx
cramer_x dx dy ex ey a b = simp ring (omega (arith, lin))

cramer_y : (dx dy ex ey a b : ℤ) → ((dx *ℤ b -ℤ dy *ℤ a) -ℤ (dx *ℤ (b +ℤ ey) -ℤ dy *ℤ (a +ℤ ex))) *ℤ b +ℤ (dx *ℤ b -ℤ dy *ℤ a) *ℤ ey ≡ neg_ℤ (ex *ℤ neg_ℤ b -ℤ ey *ℤ neg_ℤ a) *ℤ dy
cramer_y dx dy ex ey a b = simp ring (omega (arith, lin))

other_end : (dx dy ex ey a b : ℤ) → (ex *ℤ (dy -ℤ b) -ℤ ey *ℤ (dx -ℤ a)) -ℤ (ex *ℤ neg_ℤ b -ℤ ey *ℤ neg_ℤ a) ≡ (dx *ℤ b -ℤ dy *ℤ a) -ℤ (dx *ℤ (b +ℤ ey) -ℤ dy *ℤ (a +ℤ ex))
other_end dx dy ex ey a b = simp ring (omega (arith, lin))

reversed_terms : (ex ey u v : ℤ) → neg_ℤ ex *ℤ (v -ℤ ey) -ℤ neg_ℤ ey *ℤ (u -ℤ ex) ≡ neg_ℤ (ex *ℤ v -ℤ ey *ℤ u)
reversed_terms ex ey u v = simp ring (omega (arith, lin))

-- the side of each end, from the start of the other segment
pub side_q : (s t : Segment) → side s t.q.x t.q.y ≡ (s.q.x -ℤ s.p.x) *ℤ ((t.p.y -ℤ s.p.y) +ℤ (t.q.y -ℤ t.p.y)) -ℤ (s.q.y -ℤ s.p.y) *ℤ ((t.p.x -ℤ s.p.x) +ℤ (t.q.x -ℤ t.p.x))
side_q s t =
    let e : t.q.y -ℤ s.p.y ≡ (t.p.y -ℤ s.p.y) +ℤ (t.q.y -ℤ t.p.y) = omega (arith, lin) in
    let f : t.q.x -ℤ s.p.x ≡ (t.p.x -ℤ s.p.x) +ℤ (t.q.x -ℤ t.p.x) = omega (arith, lin) in
    cc

pub side_p' : (s t : Segment) → side t s.p.x s.p.y ≡ (t.q.x -ℤ t.p.x) *ℤ neg_ℤ (t.p.y -ℤ s.p.y) -ℤ (t.q.y -ℤ t.p.y) *ℤ neg_ℤ (t.p.x -ℤ s.p.x)
side_p' s t =
    let e : s.p.y -ℤ t.p.y ≡ neg_ℤ (t.p.y -ℤ s.p.y) = omega (arith, lin) in
    let f : s.p.x -ℤ t.p.x ≡ neg_ℤ (t.p.x -ℤ s.p.x) = omega (arith, lin) in
    cc

pub side_q' : (s t : Segment) → side t s.q.x s.q.y ≡ (t.q.x -ℤ t.p.x) *ℤ ((s.q.y -ℤ s.p.y) -ℤ (t.p.y -ℤ s.p.y)) -ℤ (t.q.y -ℤ t.p.y) *ℤ ((s.q.x -ℤ s.p.x) -ℤ (t.p.x -ℤ s.p.x))
side_q' s t =
    let e : s.q.y -ℤ t.p.y ≡ (s.q.y -ℤ s.p.y) -ℤ (t.p.y -ℤ s.p.y) = omega (arith, lin) in
    let f : s.q.x -ℤ t.p.x ≡ (s.q.x -ℤ s.p.x) -ℤ (t.p.x -ℤ s.p.x) = omega (arith, lin) in
    cc

pub side_reversed : (t : Segment) (x y : ℤ) → side (reversed t) x y ≡ neg_ℤ (side t x y)
side_reversed t x y =
    let e : y -ℤ t.q.y ≡ (y -ℤ t.p.y) -ℤ (t.q.y -ℤ t.p.y) = omega (arith, lin) in
    let f : x -ℤ t.q.x ≡ (x -ℤ t.p.x) -ℤ (t.q.x -ℤ t.p.x) = omega (arith, lin) in
    let g : t.p.x -ℤ t.q.x ≡ neg_ℤ (t.q.x -ℤ t.p.x) = omega (arith, lin) in
    let h : t.p.y -ℤ t.q.y ≡ neg_ℤ (t.q.y -ℤ t.p.y) = omega (arith, lin) in
    cc (reversed_terms (t.q.x -ℤ t.p.x) (t.q.y -ℤ t.p.y) (x -ℤ t.p.x) (y -ℤ t.p.y))

pub other_side : (s t : Segment) → side t s.q.x s.q.y -ℤ side t s.p.x s.p.y ≡ side s t.p.x t.p.y -ℤ side s t.q.x t.q.y
other_side s t =
    cc (side_q s t, side_p' s t, side_q' s t, other_end (s.q.x -ℤ s.p.x) (s.q.y -ℤ s.p.y) (t.q.x -ℤ t.p.x) (t.q.y -ℤ t.p.y) (t.p.x -ℤ s.p.x) (t.p.y -ℤ s.p.y))

-- the ends of each on both sides of the other, those of t in one order
crossing_point : (s t : Segment) → side s t.q.x t.q.y <ℤ side s t.p.x t.p.y → Between (pos 0) (side s t.p.x t.p.y) (side s t.q.x t.q.y) → Between (pos 0) (side t s.p.x s.p.y) (side t s.q.x s.q.y) → Meet s t
crossing_point s t l m n =
    let o1 = side s t.p.x t.p.y in
    let o2 = side s t.q.x t.q.y in
    let o3 = side t s.p.x s.p.y in
    let D : ℤ = o1 -ℤ o2 in
    let d : ℕ = nat_abs D in
    let is : pos d ≡ D = abs_is D (omega (arith, lin)) in
    let z = other_side s t in
    let rx : D *ℤ (t.p.x -ℤ s.p.x) +ℤ o1 *ℤ (t.q.x -ℤ t.p.x) ≡ neg_ℤ o3 *ℤ (s.q.x -ℤ s.p.x) =
    cc (side_q s t, side_p' s t, cramer_x (s.q.x -ℤ s.p.x) (s.q.y -ℤ s.p.y) (t.q.x -ℤ t.p.x) (t.q.y -ℤ t.p.y) (t.p.x -ℤ s.p.x) (t.p.y -ℤ s.p.y)) in
    let ry : D *ℤ (t.p.y -ℤ s.p.y) +ℤ o1 *ℤ (t.q.y -ℤ t.p.y) ≡ neg_ℤ o3 *ℤ (s.q.y -ℤ s.p.y) =
    cc (side_q s t, side_p' s t, cramer_y (s.q.x -ℤ s.p.x) (s.q.y -ℤ s.p.y) (t.q.x -ℤ t.p.x) (t.q.y -ℤ t.p.y) (t.p.x -ℤ s.p.x) (t.p.y -ℤ s.p.y)) in
    record {
      X = D *ℤ t.p.x +ℤ o1 *ℤ (t.q.x -ℤ t.p.x);
      Y = D *ℤ t.p.y +ℤ o1 *ℤ (t.q.y -ℤ t.p.y);
      d = d;
      positive = at_least_one d D is (omega (arith, lin));
      first = on_at s _ _ d (neg_ℤ o3) (omega (arith, lin, n)) (omega (arith, lin, n)) (from D t.p.x s.p.x _ _ (pos d) is rx) (from D t.p.y s.p.y _ _ (pos d) is ry);
      second = on_at t _ _ d o1 (omega (arith, lin, m)) (omega (arith, lin, m)) (own D t.p.x _ (pos d) is) (own D t.p.y _ (pos d) is);
    }
  where
    from : (D p q n m c : ℤ) → c ≡ D → D *ℤ (p -ℤ q) +ℤ n ≡ m → (D *ℤ p +ℤ n) -ℤ c *ℤ q ≡ m
    from D p q n m c e h = omega (arith, lin, mul_add D p (neg_ℤ q), mul_neg D q, ap (λ (z : ℤ). z *ℤ q) e)

    own : (D p n c : ℤ) → c ≡ D → (D *ℤ p +ℤ n) -ℤ c *ℤ p ≡ n
    own D p n c e = omega (arith, lin, ap (λ (z : ℤ). z *ℤ p) e)

pub on_reversed : (s : Segment) {X Y : ℤ} {d : ℕ} → On s X Y d → On (reversed s) X Y d
on_reversed s {X} {Y} {d} h =
    record { line = turn_line s.p.x s.p.y s.q.x s.q.y X Y (pos d) h.line; in_x = between_swapped h.in_x; in_y = between_swapped h.in_y }
  where
    turn_line : (px py qx qy X Y d : ℤ) → (qx -ℤ px) *ℤ (Y -ℤ d *ℤ py) ≡ (qy -ℤ py) *ℤ (X -ℤ d *ℤ px) → (px -ℤ qx) *ℤ (Y -ℤ d *ℤ qy) ≡ (py -ℤ qy) *ℤ (X -ℤ d *ℤ qx)
    turn_line px py qx qy X Y d e = simp ring (omega (arith, lin, simp ring at e))

pub on_transposed : (s : Segment) {X Y : ℤ} {d : ℕ} → On s X Y d → On (transposed s) Y X d
on_transposed s h = record { line = sym h.line; in_x = h.in_y; in_y = h.in_x }

meet_reversed : (s t : Segment) → Meet s (reversed t) → Meet s t
meet_reversed s t m = record { X = m.X; Y = m.Y; d = m.d; positive = m.positive; first = m.first; second = on_reversed (reversed t) m.second }

-- The ends of each segment on both sides of the other, or on it, and not all on one line: they have a point in common.
pub straddling_meet : (s t : Segment) → (side s t.p.x t.p.y ≡ side s t.q.x t.q.y → ⊥) → Between (pos 0) (side s t.p.x t.p.y) (side s t.q.x t.q.y) → Between (pos 0) (side t s.p.x s.p.y) (side t s.q.x s.q.y) → Meet s t
straddling_meet s t a m n =
    by_order (side s t.p.x t.p.y) (side s t.q.x t.q.y)
    (λ l. let e = side_reversed t s.p.x s.p.y in let f = side_reversed t s.q.x s.q.y in
    meet_reversed s t (crossing_point s (reversed t) l (between_swapped m) (opposed _ _ _ _ e f n)))
    (λ l. crossing_point s t l m n)
    (λ e. absurd (a e))
  where
    opposed : (a b a' b' : ℤ) → a' ≡ neg_ℤ a → b' ≡ neg_ℤ b → Between (pos 0) a b → Between (pos 0) a' b'
    opposed a b a' b' e f (inl h) = inr (omega (arith, lin))
    opposed a b a' b' e f (inr h) = inl (omega (arith, lin))
