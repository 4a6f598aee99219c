-- Two segments on one line.
use Rattle.std.proofs.Common.{◌≡◌, ℕ, ◌≤◌, ◌⊎◌, ℤ, pos, ◌+ℤ◌, ◌-ℤ◌, ◌*ℤ◌, ◌<ℤ◌, sym, ap, ◌∙◌, subst₂, inl, inr, arith}
use lib.IntN.{*ℤ_comm}
use Rattle.std.proofs.lemmas.Int.{ints, by_lt_z}
use Rattle.plane.specs.declared.grid_point.GridPoint.{GridPoint}
use Rattle.plane.specs.Points.{LongerThanZero, Segment, On, Between, Ranges}
use Rattle.plane.proofs.Terms.{Along, Meet, side, reversed, transposed}
use Rattle.plane.proofs.Integers.{ring, lin, lt_mul, cancel_le, cancel_eq, cancel_nonzero, one_mul}
use Rattle.plane.proofs.Slopes.{on_along}
use Rattle.plane.proofs.Division.{by_order}
use Rattle.plane.proofs.Crossing.{between_swapped, on_reversed, on_transposed, side_q, side_q'}

pub same_point : (a b : GridPoint) → a.x ≡ b.x → a.y ≡ b.y → a ≡ b
same_point a b e f = λ i. record { x = e i; y = f i }

-- along one axis: an end of the second within the first, or the first within the second
overlap_cases : (d a b u v X : ℤ) → pos 0 <ℤ d → a <ℤ b → Between X (d *ℤ a) (d *ℤ b) → Between X (d *ℤ u) (d *ℤ v) → Between u a b ⊎ (Between v a b ⊎ (Between a u v × Between b u v))
overlap_cases d a b u v X h l p q =
    by_lt_z u a
    (λ m. by_lt_z v a
    (λ n. absurd (omega (arith, lin, p, q, lt_mul d u a h m, lt_mul d v a h n, lt_mul d a b h l)))
    (λ n. by_lt_z b v (λ o. inr (inr (inl (omega (arith, lin)), inl (omega (arith, lin))))) (λ o. inr (inl (inl (n, o))))))
    (λ m. by_lt_z b u
    (λ k. by_lt_z v a
    (λ n. inr (inr (inr (omega (arith, lin)), inr (omega (arith, lin)))))
    (λ n. by_lt_z b v (λ o. absurd (omega (arith, lin, p, q, lt_mul d b u h k, lt_mul d b v h o, lt_mul d a b h l))) (λ o. inr (inl (inl (n, o))))))
    (λ k. inl (inl (m, k))))

pub self_along : (s : Segment) → Along s s
self_along s = record { at_p = simp ring (omega (arith, lin)); at_q = simp ring (omega (arith, lin)) }

pub along_reversed : (s t : Segment) → Along s t → Along (reversed s) t
along_reversed s t g = record { at_p = one s.p.x s.p.y s.q.x s.q.y t.p.x t.p.y g.at_p; at_q = one s.p.x s.p.y s.q.x s.q.y t.q.x t.q.y g.at_q }
  where
    one : (px py qx qy x y : ℤ) → (qx -ℤ px) *ℤ (y -ℤ py) ≡ (qy -ℤ py) *ℤ (x -ℤ px) → (px -ℤ qx) *ℤ (y -ℤ qy) ≡ (py -ℤ qy) *ℤ (x -ℤ qx)
    one px py qx qy x y e = simp ring (omega (arith, lin, simp ring at e))

pub along_transposed : (s t : Segment) → Along s t → Along (transposed s) (transposed t)
along_transposed s t g = record { at_p = sym g.at_p; at_q = sym g.at_q }

-- a whole point of a segment, without the denominator
pub on_ranges : (s : Segment) (x y : ℤ) → On s x y 1 → Ranges s x y
on_ranges s x y h = (simp one_mul at h.in_x, simp one_mul at h.in_y)

pub on_side : (s : Segment) (x y : ℤ) → On s x y 1 → side s x y ≡ pos 0
on_side s x y h = omega (arith, lin, simp one_mul at h.line)

pub ranges_on : (s : Segment) (x y : ℤ) → side s x y ≡ pos 0 → Ranges s x y → On s x y 1
ranges_on s x y e h = record { line = simp one_mul (omega (arith, lin)); in_x = simp one_mul h.0; in_y = simp one_mul h.1 }

ranges_along : (s u : Segment) → s.p.x <ℤ s.q.x → Along s u → (x y : ℤ) → (s.q.x -ℤ s.p.x) *ℤ (y -ℤ s.p.y) ≡ (s.q.y -ℤ s.p.y) *ℤ (x -ℤ s.p.x) → Between x u.p.x u.q.x → Ranges u x y
ranges_along s u l g x y e b = on_ranges u x y (on_along s u l g x y 1 (simp one_mul e) (simp one_mul b))

abbrev Ends : Segment → Segment → Type 0
Ends s t = Ranges s t.p.x t.p.y ⊎ (Ranges s t.q.x t.q.y ⊎ (Ranges t s.p.x s.p.y × Ranges t s.q.x s.q.y))

collinear_ends_x : (s t : Segment) → s.p.x <ℤ s.q.x → Along s t → Meet s t → Ends s t
collinear_ends_x s t l g m =
    elim (overlap_cases (pos m.d) s.p.x s.q.x t.p.x t.q.x m.X (omega (arith, ints, m.positive)) l m.first.in_x m.second.in_x) [
      | inl b ↦ inl (ranges_along s s l (self_along s) t.p.x t.p.y g.at_p b)
      | inr c ↦ elim c [
        | inl b ↦ inr (inl (ranges_along s s l (self_along s) t.q.x t.q.y g.at_q b))
        | inr b ↦ inr (inr (ranges_along s t l g s.p.x s.p.y (self_along s).at_p b.0, ranges_along s t l g s.q.x s.q.y (self_along s).at_q b.1))
      ]
    ]

ranges_reversed : (s : Segment) (x y : ℤ) → Ranges (reversed s) x y → Ranges s x y
ranges_reversed s x y h = (between_swapped h.0, between_swapped h.1)

collinear_ends_sloped : (s t : Segment) → (s.p.x ≡ s.q.x → ⊥) → Along s t → Meet s t → Ends s t
collinear_ends_sloped s t n g m =
    by_order s.p.x s.q.x (λ l. collinear_ends_x s t l g m)
    (λ l. elim (collinear_ends_x (reversed s) t l (along_reversed s t g) (record { X = m.X; Y = m.Y; d = m.d; positive = m.positive; first = on_reversed s m.first; second = m.second }))
    [ inl h ↦ inl (ranges_reversed s t.p.x t.p.y h) | inr h ↦ inr (elim h [ inl k ↦ inl (ranges_reversed s t.q.x t.q.y k) | inr k ↦ inr (k.1, k.0) ]) ])
    (λ e. absurd (n e))

ranges_transposed : (s : Segment) (x y : ℤ) → Ranges (transposed s) y x → Ranges s x y
ranges_transposed s x y h = (h.1, h.0)

-- Segments on one line with a point in common: an end of one lies within the ranges of the other.
pub collinear_ends : (s t : Segment) → LongerThanZero s → Along s t → Meet s t → Ends s t
collinear_ends s t n g m =
    by_order s.p.x s.q.x
    (λ l. collinear_ends_sloped s t (λ e. omega (arith, lin)) g m)
    (λ l. collinear_ends_sloped s t (λ e. omega (arith, lin)) g m)
    (λ e. elim (collinear_ends_sloped (transposed s) (transposed t) (λ f. n (same_point s.p s.q e f)) (along_transposed s t g) (record { X = m.Y; Y = m.X; d = m.d; positive = m.positive; first = on_transposed s m.first; second = on_transposed t m.second }))
    [ inl h ↦ inl (ranges_transposed s t.p.x t.p.y h) | inr h ↦ inr (elim h [ inl k ↦ inl (ranges_transposed s t.q.x t.q.y k) | inr k ↦ inr (ranges_transposed t s.p.x s.p.y k.0, ranges_transposed t s.q.x s.q.y k.1) ]) ])

-- the sides the other way are 0 too
across : (dx dy ex ey a b : ℤ) → (dx ≡ pos 0 → ⊥) → dx *ℤ b -ℤ dy *ℤ a ≡ pos 0 → dx *ℤ (b +ℤ ey) -ℤ dy *ℤ (a +ℤ ex) ≡ pos 0 → ex *ℤ (dy -ℤ b) -ℤ ey *ℤ (dx -ℤ a) ≡ pos 0
across dx dy ex ey a b n e f =
    let e' : dx *ℤ b ≡ dy *ℤ a = omega (arith, lin) in
    let g : dx *ℤ ey ≡ dy *ℤ ex = omega (arith, lin, simp ring at f, *ℤ_comm dx ey, *ℤ_comm dy ex) in
    let o : ex *ℤ b ≡ ey *ℤ a = cancel_nonzero dx (ex *ℤ b) (ey *ℤ a) n (omega (arith, lin, simp ring at (ap (λ (z : ℤ). ex *ℤ z) e'), simp ring at (ap (λ (z : ℤ). a *ℤ z) g))) in
    simp ring (omega (arith, lin, g, o, *ℤ_comm dx ey, *ℤ_comm dy ex))

across_y : (dx dy ex ey a b : ℤ) → (dy ≡ pos 0 → ⊥) → dx *ℤ b -ℤ dy *ℤ a ≡ pos 0 → dx *ℤ (b +ℤ ey) -ℤ dy *ℤ (a +ℤ ex) ≡ pos 0 → ex *ℤ (dy -ℤ b) -ℤ ey *ℤ (dx -ℤ a) ≡ pos 0
across_y dx dy ex ey a b n e f = let z = across dy dx ey ex b a n (omega (arith, lin)) (omega (arith, lin)) in omega (arith, lin)

pub end_collinear : (s t : Segment) → LongerThanZero s → side s t.p.x t.p.y ≡ pos 0 → side s t.q.x t.q.y ≡ pos 0 → side t s.q.x s.q.y ≡ pos 0
end_collinear s t n e f =
    side_q' s t ∙ (by_order s.p.x s.q.x (λ l. ax (λ z. omega (arith, lin))) (λ l. ax (λ z. omega (arith, lin)))
    (λ c. across_y (s.q.x -ℤ s.p.x) (s.q.y -ℤ s.p.y) (t.q.x -ℤ t.p.x) (t.q.y -ℤ t.p.y) (t.p.x -ℤ s.p.x) (t.p.y -ℤ s.p.y) (λ z. n (same_point s.p s.q c (omega (arith, lin)))) e (sym (side_q s t) ∙ f)))
  where
    ax : (s.q.x -ℤ s.p.x ≡ pos 0 → ⊥) → (t.q.x -ℤ t.p.x) *ℤ ((s.q.y -ℤ s.p.y) -ℤ (t.p.y -ℤ s.p.y)) -ℤ (t.q.y -ℤ t.p.y) *ℤ ((s.q.x -ℤ s.p.x) -ℤ (t.p.x -ℤ s.p.x)) ≡ pos 0
    ax m = across (s.q.x -ℤ s.p.x) (s.q.y -ℤ s.p.y) (t.q.x -ℤ t.p.x) (t.q.y -ℤ t.p.y) (t.p.x -ℤ s.p.x) (t.p.y -ℤ s.p.y) m e (sym (side_q s t) ∙ f)

-- a whole point of both
pub meet_at : (s t : Segment) (x y : ℤ) → On s x y 1 → On t x y 1 → Meet s t
meet_at s t x y h k = record { X = x; Y = y; d = 1; positive = omega arith; first = h; second = k }

end_between : (a b : ℤ) → Between a (pos 1 *ℤ a) (pos 1 *ℤ b)
end_between a b = by_lt_z a b (λ h. inl (omega (arith, ints))) (λ h. inr (omega (arith, ints)))

pub start_on : (s : Segment) → On s s.p.x s.p.y 1
start_on s = record { line = simp (one_mul, ring) (omega (arith, lin)); in_x = end_between s.p.x s.q.x; in_y = end_between s.p.y s.q.y }

pub end_on : (s : Segment) → On s s.q.x s.q.y 1
end_on s = on_reversed (reversed s) (start_on (reversed s))

-- a whole point, from its multiple
pub unscaled : (t : Segment) (x y : ℤ) (d : ℕ) → 1 ≤ d → On t (pos d *ℤ x) (pos d *ℤ y) d → On t x y 1
unscaled t x y d o h =
    let z : pos 0 <ℤ pos d = omega (arith, ints) in
    record { line = simp one_mul (cancel_eq (pos d) _ _ z (down_line (t.q.x -ℤ t.p.x) (t.q.y -ℤ t.p.y) t.p.x t.p.y x y (pos d) h.line)); in_x = amid z t.p.x t.q.x x h.in_x; in_y = amid z t.p.y t.q.y y h.in_y }
  where
    down_line : (dx dy px py x y d : ℤ) → dx *ℤ (d *ℤ y -ℤ d *ℤ py) ≡ dy *ℤ (d *ℤ x -ℤ d *ℤ px) → d *ℤ (dx *ℤ (y -ℤ py)) ≡ d *ℤ (dy *ℤ (x -ℤ px))
    down_line dx dy px py x y d e = simp ring (omega (arith, lin, simp ring at e))

    amid : pos 0 <ℤ pos d → (a b v : ℤ) → Between (pos d *ℤ v) (pos d *ℤ a) (pos d *ℤ b) → Between v (pos 1 *ℤ a) (pos 1 *ℤ b)
    amid z a b v (inl h) = simp one_mul (inl (cancel_le (pos d) a v z h.0, cancel_le (pos d) v b z h.1))
    amid z a b v (inr h) = simp one_mul (inr (cancel_le (pos d) b v z h.0, cancel_le (pos d) v a z h.1))

-- a segment of no length meets another where it stands on it
pub point_meets : (s t : Segment) → s.p ≡ s.q → Meet s t → On t s.p.x s.p.y 1
point_meets s t g m =
    let e : s.p.x ≡ s.q.x = ap (λ (c : GridPoint). c.x) g in
    let f : s.p.y ≡ s.q.y = ap (λ (c : GridPoint). c.y) g in
    let D = pos m.d in
    let a : m.X ≡ D *ℤ s.p.x = omega (arith, lin, m.first.in_x, ap (λ (z : ℤ). D *ℤ z) e) in
    let b : m.Y ≡ D *ℤ s.p.y = omega (arith, lin, m.first.in_y, ap (λ (z : ℤ). D *ℤ z) f) in
    unscaled t s.p.x s.p.y m.d m.positive (subst₂ (λ (x y : ℤ). On t x y m.d) a b m.second)
