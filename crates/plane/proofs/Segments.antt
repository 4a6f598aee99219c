-- What the turns of their ends tell of two segments, and of a segment and a grid point.
use Rattle.std.proofs.Common.{◌≡◌, ℕ, ◌≤◌, Bool, ◌⊎◌, ℤ, pos, ◌-ℤ◌, ◌*ℤ◌, sym, ap, ◌∙◌, subst, subst₂, inl, inr, arith}
use Rattle.std.proofs.lemmas.Int.{ints}
use Rattle.plane.specs.declared.grid_point.GridPoint.{GridPoint}
use Rattle.plane.specs.declared.orientation.Orientation.TheVariants.{Collinear}
use Rattle.plane.specs.Reflects.{Reflects}
use Rattle.plane.specs.Orient.{orientation}
use Rattle.plane.specs.Points.{Segment, On, Touches, LongerThanZero, Ranges}
use Rattle.plane.specs.Sets.{Common, At}
use Rattle.plane.proofs.Terms.{Meet, Along, side}
use Rattle.plane.proofs.Integers.{lin, cancel_eq}
use Rattle.plane.proofs.Answers.{reflects_same}
use Rattle.plane.proofs.Orientations.{collinear_zero, same_sign_zero, signs_between, turn, turn_side}
use Rattle.plane.proofs.Crossing.{straddles, straddling_meet, other_side, common_swapped}
use Rattle.plane.proofs.Collinear.{collinear_ends, end_collinear, ranges_on, on_ranges, on_side, meet_at, point_meets, start_on, end_on, unscaled, same_point}

-- ---- a segment and a grid point

pub touch_reflects : (r : Bool) (s : Segment) (c : GridPoint) → turn s c ≡ Collinear → Reflects r (Ranges s c.x c.y) → Reflects r (Touches s c)
touch_reflects r s c e h = reflects_same r (ranges_on s c.x c.y (collinear_zero _ (sym (turn_side s c) ∙ e))) (on_ranges s c.x c.y) h

pub touch_collinear : (s : Segment) (c : GridPoint) → Touches s c → turn s c ≡ Collinear
touch_collinear s c h = turn_side s c ∙ ap orientation (on_side s c.x c.y h)

-- the one point of a grid point, and a set that has it
pub at_self : (c : GridPoint) → At c c.x c.y 1
at_self c = record { at_x = omega (arith, ints); at_y = omega (arith, ints) }

pub touch_common : (s : Segment) (c : GridPoint) → Touches s c → Common (On s) (At c)
touch_common s c o = record { X = c.x; Y = c.y; d = 1; positive = omega arith; first = o; second = at_self c }

pub common_touch : (s : Segment) (c : GridPoint) → Common (On s) (At c) → Touches s c
common_touch s c m = unscaled s c.x c.y m.d m.positive (subst₂ (λ (X Y : ℤ). On s X Y m.d) m.second.at_x m.second.at_y m.first)

-- the same two sets the other way round
pub swap_reflects : (r : Bool) (P Q : ℤ → ℤ → ℕ → Type 0) → Reflects r (Common P Q) → Reflects r (Common Q P)
swap_reflects r P Q h = reflects_same r common_swapped common_swapped h

-- two grid points have a point in common exactly if they are equal
pub same_reflects : (r : Bool) (a b : GridPoint) → Reflects r (a ≡ b) → Reflects r (Common (At a) (At b))
same_reflects r a b h =
    reflects_same r
    (λ e. record { X = a.x; Y = a.y; d = 1; positive = omega arith; first = at_self a; second = subst (λ (c : GridPoint). At c a.x a.y 1) e (at_self a) })
    (λ m. same_point a b (one m.d a.x b.x m.X m.positive m.first.at_x m.second.at_x) (one m.d a.y b.y m.Y m.positive m.first.at_y m.second.at_y))
    h
  where
    one : (d : ℕ) (a b v : ℤ) → 1 ≤ d → v ≡ pos d *ℤ a → v ≡ pos d *ℤ b → a ≡ b
    one d a b v p e f = cancel_eq (pos d) a b (omega (arith, ints)) (sym e ∙ f)

-- ---- two segments

-- a segment of length zero
pub point_reflects : (r : Bool) (s t : Segment) → s.p ≡ s.q → Reflects r (Common (On t) (At s.p)) → Reflects r (Meet s t)
point_reflects r s t e h = reflects_same r (λ m. meet_at s t s.p.x s.p.y (start_on s) (common_touch t s.p m)) (λ m. touch_common t s.p (point_meets s t e m)) h

-- the ends of t turn differently past s: the two meet exactly if those of s turn differently past t
pub cross_reflects : (r : Bool) (s t : Segment) → (turn s t.p ≡ turn s t.q → ⊥) → Reflects r (turn t s.p ≡ turn t s.q → ⊥) → Reflects r (Meet s t)
cross_reflects r s t n h =
    let n' : orientation (side s t.p.x t.p.y) ≡ orientation (side s t.q.x t.q.y) → ⊥ = λ e. n (turn_side s t.p ∙ e ∙ sym (turn_side s t.q)) in
    reflects_same r
    (λ k. straddling_meet s t (λ e. n' (ap orientation e)) (signs_between _ _ n') (signs_between _ _ (λ e. k (turn_side t s.p ∙ e ∙ sym (turn_side t s.q)))))
    (λ m e. let z = same_sign_zero _ _ (sym (turn_side t s.p) ∙ e ∙ turn_side t s.q) (straddles t s (common_swapped m)) in let o = other_side s t in
    n' (ap orientation (same (side s t.p.x t.p.y) (side s t.q.x t.q.y) (side t s.p.x s.p.y) (side t s.q.x s.q.y) z.0 z.1 o)))
    h
  where
    same : (a b c d : ℤ) → c ≡ pos 0 → d ≡ pos 0 → d -ℤ c ≡ a -ℤ b → a ≡ b
    same a b c d e f g = omega (arith, lin)

-- the ends of t turn alike past s, and are not on its line
pub same_side_misses : (s t : Segment) → turn s t.p ≡ turn s t.q → (turn s t.p ≡ Collinear → ⊥) → Meet s t → ⊥
same_side_misses s t e n m = n (turn_side s t.p ∙ ap orientation (same_sign_zero _ _ (sym (turn_side s t.p) ∙ e ∙ turn_side s t.q) (straddles s t m)).0)

-- both ends of t lie on the line of s: the two meet exactly if an end of t lies within the ranges of s, or the end of s within those of t
pub collinear_reflects : (r : Bool) (s t : Segment) → LongerThanZero s → turn s t.p ≡ turn s t.q → turn s t.p ≡ Collinear → Reflects r (Ranges s t.p.x t.p.y ⊎ (Ranges s t.q.x t.q.y ⊎ Ranges t s.q.x s.q.y)) → Reflects r (Meet s t)
collinear_reflects r s t n e f h =
    let a : side s t.p.x t.p.y ≡ pos 0 = collinear_zero _ (sym (turn_side s t.p) ∙ f) in
    let b : side s t.q.x t.q.y ≡ pos 0 = collinear_zero _ (sym (turn_side s t.q) ∙ sym e ∙ f) in
    let g : Along s t = record { at_p = omega (arith, lin); at_q = omega (arith, lin) } in
    reflects_same r
    (λ k. elim k [
      | inl u ↦ meet_at s t t.p.x t.p.y (ranges_on s _ _ a u) (start_on t)
      | inr v ↦ elim v [
        | inl u ↦ meet_at s t t.q.x t.q.y (ranges_on s _ _ b u) (end_on t)
        | inr u ↦ meet_at s t s.q.x s.q.y (end_on s) (ranges_on t _ _ (end_collinear s t n a b) u)
      ]
    ])
    (λ m. elim (collinear_ends s t n g m) [ inl u ↦ inl u | inr v ↦ inr (elim v [ inl u ↦ inl u | inr u ↦ inr u.1 ]) ])
    h
