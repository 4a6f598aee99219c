-- A list of segments that leaves a gap: where no segment along s enters the stretch next to one of its points, some
-- point of s lies on none of the list, since every other segment meets the line of s at most once.
use Rattle.std.proofs.Common.{◌≡◌, ℕ, suc, ◌*◌, ◌<◌, ◌≤◌, ◌⊎◌, List, [], ◌∷◌, length, ℤ, pos, negsuc, ◌+ℤ◌, ◌-ℤ◌, ◌*ℤ◌, nat_abs, ◌≤ℤ◌, ◌<ℤ◌, refl, ap, inl, inr, arith}
use native.Mathlib.Decide.{ℕ_discrete}
use Rattle.std.specs.List.{AllByRecursion}
use Rattle.std.proofs.ByRecursion.{All-weaker}
use Rattle.std.proofs.lemmas.Int.{ints, by_lt_z}
use Rattle.plane.specs.Points.{Segment, On, Between}
use Rattle.plane.proofs.Terms.{Along}
use Rattle.plane.proofs.Integers.{ring, lin, mul_pos, le_mul, lt_mul, cancel_eq, cancel_nonzero}
use Rattle.plane.proofs.Slopes.{on_along}
use Rattle.plane.proofs.Collinear.{self_along}
use Rattle.polyline.specs.Segments.{OnAny, Covered}
use Rattle.polyline.proofs.Pigeonhole.{Related, pigeonhole}

-- t does not reach over the stretch from lo to lo + 1, if it is along s
abbrev pub Clear : Segment → ℤ → Segment → Type 0
Clear s lo t = Along s t → ((t.p.x ≤ℤ lo) × (t.q.x ≤ℤ lo)) ⊎ ((lo <ℤ t.p.x) × (lo <ℤ t.q.x))

-- the same over unknowns, which keeps the sums short
near_line' : (dx dy w m px den dpy : ℤ) → den ≡ m *ℤ dx → dx *ℤ ((dpy +ℤ dy *ℤ (w -ℤ m *ℤ px)) -ℤ dpy) ≡ dy *ℤ (dx *ℤ w -ℤ den *ℤ px)
near_line' dx dy w m px den dpy is = simp ring (omega (arith, lin, simp ring at (ap (λ (z : ℤ). dy *ℤ (z *ℤ px)) is)))

-- two points of a line that both lie on t give t its direction
same_direction : (dx dy u1 u2 a b c y w v : ℤ) → u1 *ℤ ((y +ℤ dy *ℤ (w -ℤ c)) -ℤ b) ≡ u2 *ℤ (dx *ℤ w -ℤ a) → u1 *ℤ ((y +ℤ dy *ℤ (v -ℤ c)) -ℤ b) ≡ u2 *ℤ (dx *ℤ v -ℤ a) → (w ≡ v → ⊥) → u1 *ℤ dy ≡ u2 *ℤ dx
same_direction dx dy u1 u2 a b c y w v e f n =
    cancel_nonzero (w -ℤ v) _ _ (λ z. n (omega (arith, lin))) (simp ring (omega (arith, lin, simp ring at e, simp ring at f)))

-- and so the line's point gives its direction from an end of t
direction_from : (dx dy u1 u2 w1 w2 : ℤ) → (u1 ≡ pos 0 → ⊥) → u1 *ℤ dy ≡ u2 *ℤ dx → u1 *ℤ w2 ≡ u2 *ℤ w1 → dx *ℤ w2 ≡ dy *ℤ w1
direction_from dx dy u1 u2 w1 w2 n e f =
    cancel_nonzero u1 _ _ n (simp ring (omega (arith, lin, simp ring at (ap (λ (z : ℤ). z *ℤ w1) e), ap (λ (z : ℤ). dx *ℤ z) f)))

-- from the point to the line's own start
from_start : (dx dy d a b px py X Y : ℤ) → pos 0 <ℤ d → dx *ℤ (Y -ℤ d *ℤ b) ≡ dy *ℤ (X -ℤ d *ℤ a) → dx *ℤ (Y -ℤ d *ℤ py) ≡ dy *ℤ (X -ℤ d *ℤ px) → dx *ℤ (b -ℤ py) ≡ dy *ℤ (a -ℤ px)
from_start dx dy d a b px py X Y h e f = cancel_eq d _ _ h (simp ring (omega (arith, lin, simp ring at e, simp ring at f)))

-- ---- points close after lo on s: the k-th of m steps to lo + 1
abbrev nearX : Segment → ℤ → ℕ → ℕ → ℤ
nearX s lo m k = (s.q.x -ℤ s.p.x) *ℤ (pos m *ℤ lo +ℤ pos k)

abbrev nearY : Segment → ℤ → ℕ → ℕ → ℕ → ℤ
nearY s lo m den k = pos den *ℤ s.p.y +ℤ (s.q.y -ℤ s.p.y) *ℤ (pos m *ℤ lo +ℤ pos k -ℤ pos m *ℤ s.p.x)

module _ (s : Segment) (l : s.p.x <ℤ s.q.x) (lo : ℤ) (m den : ℕ) (is : pos den ≡ pos m *ℤ (s.q.x -ℤ s.p.x)) (m-pos : 0 < m) where
  dx_pos : pos 0 <ℤ (s.q.x -ℤ s.p.x)
  dx_pos = omega (arith, lin)

  den_pos : pos 0 <ℤ pos den
  den_pos = omega (arith, lin, mul_pos (pos m) (s.q.x -ℤ s.p.x) (omega (arith, ints)) dx_pos)

  near_line : (k : ℕ) → (s.q.x -ℤ s.p.x) *ℤ (nearY s lo m den k -ℤ pos den *ℤ s.p.y) ≡ (s.q.y -ℤ s.p.y) *ℤ (nearX s lo m k -ℤ pos den *ℤ s.p.x)
  near_line k = near_line' (s.q.x -ℤ s.p.x) (s.q.y -ℤ s.p.y) (pos m *ℤ lo +ℤ pos k) (pos m) s.p.x (pos den) (pos den *ℤ s.p.y) is

  near_after : (k : ℕ) → 0 < k → (pos den *ℤ lo) <ℤ nearX s lo m k
  near_after k h =
      let u : ((s.q.x -ℤ s.p.x) *ℤ (pos m *ℤ lo)) <ℤ nearX s lo m k = lt_mul (s.q.x -ℤ s.p.x) (pos m *ℤ lo) (pos m *ℤ lo +ℤ pos k) dx_pos (omega (arith, ints)) in
      simp ring (omega (arith, lin, simp ring at u, simp ring at (ap (λ (z : ℤ). z *ℤ lo) is)))

  near_before : (k : ℕ) → k < m → nearX s lo m k <ℤ (pos den *ℤ (lo +ℤ pos 1))
  near_before k h =
      let v : (pos m *ℤ lo +ℤ pos k) <ℤ (pos m *ℤ lo +ℤ pos m) = omega (arith, ints) in
      let u : nearX s lo m k <ℤ ((s.q.x -ℤ s.p.x) *ℤ (pos m *ℤ lo +ℤ pos m)) = lt_mul (s.q.x -ℤ s.p.x) (pos m *ℤ lo +ℤ pos k) (pos m *ℤ lo +ℤ pos m) dx_pos v in
      simp ring (omega (arith, lin, simp ring at u, simp ring at (ap (λ (z : ℤ). z *ℤ lo) is), simp ring at is))

  pub near_on : (k : ℕ) → 0 < k → k < m → s.p.x ≤ℤ lo → lo <ℤ s.q.x → On s (nearX s lo m k) (nearY s lo m den k) den
  near_on k a b p q =
      on_along s s l (self_along s) _ _ den (near_line k)
      (inl (omega (arith, lin, near_after k a, le_mul (pos den) s.p.x lo (omega (arith, lin, den_pos)) p), omega (arith, lin, near_before k b, le_mul (pos den) (lo +ℤ pos 1) s.q.x (omega (arith, lin, den_pos)) (omega (arith, ints)))))

  -- a point strictly between lo and lo + 1 lies on no segment that keeps clear of that
  between_clear : (t : Segment) (X : ℤ) → (pos den *ℤ lo) <ℤ X → X <ℤ (pos den *ℤ (lo +ℤ pos 1)) → ((t.p.x ≤ℤ lo) × (t.q.x ≤ℤ lo)) ⊎ ((lo <ℤ t.p.x) × (lo <ℤ t.q.x)) → Between X (pos den *ℤ t.p.x) (pos den *ℤ t.q.x) → ⊥
  between_clear t X a b (inl c) h =
      omega (arith, lin, h, le_mul (pos den) t.p.x lo (omega (arith, lin, den_pos)) c.0, le_mul (pos den) t.q.x lo (omega (arith, lin, den_pos)) c.1)
  between_clear t X a b (inr c) h =
      omega (arith, lin, h, le_mul (pos den) (lo +ℤ pos 1) t.p.x (omega (arith, lin, den_pos)) (omega (arith, ints)), le_mul (pos den) (lo +ℤ pos 1) t.q.x (omega (arith, lin, den_pos)) (omega (arith, ints)))

  -- t has one of the near points at most
  pub near_once : (t : Segment) → Clear s lo t → (k j : ℕ) → 0 < k → k < m → On t (nearX s lo m k) (nearY s lo m den k) den → On t (nearX s lo m j) (nearY s lo m den j) den → k ≡ j
  near_once t c k j a b h h' =
      elim (ℕ_discrete k j) [
        | yes e ↦ e
        | no n ↦ absurd (between_clear t (nearX s lo m k) (near_after k a) (near_before k b) (c (along n)) h.in_x)
      ]
    where
      vertical : t.q.x -ℤ t.p.x ≡ pos 0 → ⊥
      vertical z =
          by_lt_z lo t.p.x
          (λ p. between_clear t (nearX s lo m k) (near_after k a) (near_before k b) (inr (p, omega (arith, lin))) h.in_x)
          (λ p. between_clear t (nearX s lo m k) (near_after k a) (near_before k b) (inl (p, omega (arith, lin))) h.in_x)

      way : (k ≡ j → ⊥) → (t.q.x -ℤ t.p.x) *ℤ (s.q.y -ℤ s.p.y) ≡ (t.q.y -ℤ t.p.y) *ℤ (s.q.x -ℤ s.p.x)
      way n =
          same_direction (s.q.x -ℤ s.p.x) (s.q.y -ℤ s.p.y) (t.q.x -ℤ t.p.x) (t.q.y -ℤ t.p.y) (pos den *ℤ t.p.x) (pos den *ℤ t.p.y) (pos m *ℤ s.p.x) (pos den *ℤ s.p.y) (pos m *ℤ lo +ℤ pos k) (pos m *ℤ lo +ℤ pos j) h.line h'.line (λ e. n (omega (arith, ints)))

      along : (k ≡ j → ⊥) → Along s t
      along n =
          let p : (s.q.x -ℤ s.p.x) *ℤ (t.p.y -ℤ s.p.y) ≡ (s.q.y -ℤ s.p.y) *ℤ (t.p.x -ℤ s.p.x) =
          from_start (s.q.x -ℤ s.p.x) (s.q.y -ℤ s.p.y) (pos den) t.p.x t.p.y s.p.x s.p.y (nearX s lo m k) (nearY s lo m den k) den_pos
          (direction_from (s.q.x -ℤ s.p.x) (s.q.y -ℤ s.p.y) (t.q.x -ℤ t.p.x) (t.q.y -ℤ t.p.y) _ _ vertical (way n) h.line) (near_line k) in
          record { at_p = p; at_q = simp ring (omega (arith, lin, simp ring at p, simp ring at (way n))) }

abs_times : (m : ℕ) (z : ℤ) → pos 0 <ℤ z → pos (m * nat_abs z) ≡ pos m *ℤ z
abs_times m (pos z) h = refl
abs_times m (negsuc z) h = absurd (omega (arith, ints))

-- a list that is clear of the stretch after lo does not cover s
pub open_gap : (s : Segment) → s.p.x <ℤ s.q.x → (lo : ℤ) → s.p.x ≤ℤ lo → lo <ℤ s.q.x → (ts : List Segment) → AllByRecursion (Clear s lo) ts → Covered ts s → ⊥
open_gap s l lo p q ts a c =
    let n = length ts in
    let m = suc (suc n) in
    let den = m * nat_abs (s.q.x -ℤ s.p.x) in
    let is : pos den ≡ pos m *ℤ (s.q.x -ℤ s.p.x) = abs_times m (s.q.x -ℤ s.p.x) (omega (arith, lin)) in
    let one : 1 ≤ den = omega (arith, ints, den_pos s l lo m den is (omega arith)) in
    pigeonhole (λ t i. On t (nearX s lo m (suc i)) (nearY s lo m den (suc i)) den) ts n (omega arith)
    (All-weaker _ _ (λ t k i j u v x y. let e = near_once s l lo m den is (omega arith) t k (suc i) (suc j) (omega arith) (omega arith) x y in omega arith) ts a)
    (λ i u. related s lo m den ts i (c (nearX s lo m (suc i)) (nearY s lo m den (suc i)) den one (near_on s l lo m den is (omega arith) (suc i) (omega arith) (omega arith) p q)))
  where
    related : (s : Segment) (lo : ℤ) (m den : ℕ) (ts : List Segment) (i : ℕ) → OnAny ts (nearX s lo m (suc i)) (nearY s lo m den (suc i)) den → Related (λ t i. On t (nearX s lo m (suc i)) (nearY s lo m den (suc i)) den) ts i
    related s lo m den [] i h = h
    related s lo m den (t ∷ ts) i (inl h) = inl h
    related s lo m den (t ∷ ts) i (inr h) = inr (related s lo m den ts i h)
