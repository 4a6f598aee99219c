-- Points on a line that is not vertical.
use Rattle.std.proofs.Common.{◌≡◌, ℕ, ◌⊎◌, ℤ, pos, ◌-ℤ◌, ◌*ℤ◌, neg_ℤ, ◌≤ℤ◌, ◌<ℤ◌, ap, inl, inr, arith}
use Rattle.std.proofs.lemmas.Int.{by_lt_z}
use Rattle.plane.specs.Points.{Segment, On, Between}
use Rattle.plane.proofs.Terms.{Along}
use Rattle.plane.proofs.Integers.{ring, lin, mul_nonneg, cancel_nonneg, cancel_eq, mul_neg, neg_mul}

-- two vectors along a third that is not vertical are along one another
pub parallel : (dx dy u1 u2 w1 w2 : ℤ) → pos 0 <ℤ dx → dx *ℤ w2 ≡ dy *ℤ w1 → dx *ℤ u2 ≡ dy *ℤ u1 → u1 *ℤ w2 ≡ u2 *ℤ w1
parallel dx dy u1 u2 w1 w2 h e f =
    cancel_eq dx _ _ h (omega (arith, lin, simp ring at (ap (λ (z : ℤ). u1 *ℤ z) e), simp ring at (ap (λ (z : ℤ). z *ℤ w1) f)))

-- the other coordinate goes the way of the slope
pub slope_up : (dx dy w1 w2 : ℤ) → pos 0 <ℤ dx → dx *ℤ w2 ≡ dy *ℤ w1 → pos 0 ≤ℤ dy → pos 0 ≤ℤ w1 → pos 0 ≤ℤ w2
slope_up dx dy w1 w2 h e p q = cancel_nonneg dx w2 h (omega (arith, lin, mul_nonneg dy w1 p q))

pub slope_down : (dx dy w1 w2 : ℤ) → pos 0 <ℤ dx → dx *ℤ w2 ≡ dy *ℤ w1 → pos 0 ≤ℤ dy → w1 ≤ℤ pos 0 → w2 ≤ℤ pos 0
slope_down dx dy w1 w2 h e p q =
    let u : pos 0 ≤ℤ neg_ℤ w2 = slope_up dx dy (neg_ℤ w1) (neg_ℤ w2) h (simp (neg_mul, mul_neg) (ap neg_ℤ e)) p (omega (arith, lin)) in omega (arith, lin)

-- what lies between in x lies between in y
pub between_y : (dx dy w1 w2 v1 v2 : ℤ) → pos 0 <ℤ dx → dx *ℤ w2 ≡ dy *ℤ w1 → dx *ℤ v2 ≡ dy *ℤ v1 → pos 0 ≤ℤ w1 → v1 ≤ℤ pos 0 → ((pos 0 ≤ℤ w2) × (v2 ≤ℤ pos 0)) ⊎ ((pos 0 ≤ℤ v2) × (w2 ≤ℤ pos 0))
between_y dx dy w1 w2 v1 v2 h e f a b =
    by_lt_z dy (pos 0)
    (λ l. let k : pos 0 ≤ℤ neg_ℤ dy = omega (arith, lin) in
    let m : w2 ≤ℤ pos 0 = slope_down dx (neg_ℤ dy) (neg_ℤ w1) w2 h (simp (neg_mul, mul_neg) (omega (arith, lin))) k (omega (arith, lin)) in
    let n : pos 0 ≤ℤ v2 = slope_up dx (neg_ℤ dy) (neg_ℤ v1) v2 h (simp (neg_mul, mul_neg) (omega (arith, lin))) k (omega (arith, lin)) in
    inr (n, m))
    (λ l. inl (slope_up dx dy w1 w2 h e l a, slope_down dx dy v1 v2 h f l b))

-- A point of the line through s that lies between the ends of t in x lies on t, if t is along s.
pub on_along : (s t : Segment) → s.p.x <ℤ s.q.x → Along s t → (X Y : ℤ) (d : ℕ) → (s.q.x -ℤ s.p.x) *ℤ (Y -ℤ pos d *ℤ s.p.y) ≡ (s.q.y -ℤ s.p.y) *ℤ (X -ℤ pos d *ℤ s.p.x) → Between X (pos d *ℤ t.p.x) (pos d *ℤ t.q.x) → On t X Y d
on_along s t l g X Y d e b =
    let dx = s.q.x -ℤ s.p.x in
    let dy = s.q.y -ℤ s.p.y in
    let h : pos 0 <ℤ dx = omega (arith, lin) in
    let e1 : dx *ℤ (Y -ℤ pos d *ℤ t.p.y) ≡ dy *ℤ (X -ℤ pos d *ℤ t.p.x) =
    simp ring (omega (arith, lin, simp ring at e, simp ring at (ap (λ (z : ℤ). pos d *ℤ z) g.at_p))) in
    let e2 : dx *ℤ (Y -ℤ pos d *ℤ t.q.y) ≡ dy *ℤ (X -ℤ pos d *ℤ t.q.x) =
    simp ring (omega (arith, lin, simp ring at e, simp ring at (ap (λ (z : ℤ). pos d *ℤ z) g.at_q))) in
    let e3 : dx *ℤ (t.q.y -ℤ t.p.y) ≡ dy *ℤ (t.q.x -ℤ t.p.x) =
    simp ring (omega (arith, lin, simp ring at g.at_p, simp ring at g.at_q)) in
    record { line = parallel dx dy (t.q.x -ℤ t.p.x) (t.q.y -ℤ t.p.y) (X -ℤ pos d *ℤ t.p.x) (Y -ℤ pos d *ℤ t.p.y) h e1 e3; in_x = b; in_y = both dx dy h e1 e2 b }
  where
    both : (dx dy : ℤ) → pos 0 <ℤ dx → dx *ℤ (Y -ℤ pos d *ℤ t.p.y) ≡ dy *ℤ (X -ℤ pos d *ℤ t.p.x) → dx *ℤ (Y -ℤ pos d *ℤ t.q.y) ≡ dy *ℤ (X -ℤ pos d *ℤ t.q.x) → Between X (pos d *ℤ t.p.x) (pos d *ℤ t.q.x) → Between Y (pos d *ℤ t.p.y) (pos d *ℤ t.q.y)
    both dx dy h e1 e2 (inl a) =
        elim (between_y dx dy _ _ _ _ h e1 e2 (omega (arith, lin)) (omega (arith, lin))) [ inl u ↦ inl (omega (arith, lin)) | inr u ↦ inr (omega (arith, lin)) ]
    both dx dy h e1 e2 (inr a) =
        elim (between_y dx dy _ _ _ _ h e2 e1 (omega (arith, lin)) (omega (arith, lin))) [ inl u ↦ inr (omega (arith, lin)) | inr u ↦ inl (omega (arith, lin)) ]
