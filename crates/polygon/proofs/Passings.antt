-- How an edge passes a grid point, by its turn and its ends.
use Rattle.std.proofs.Common.{◌≡◌, Bool, true, false, cond, ◌&&◌, ℤ, pos, negsuc, ◌≤ℤ◌, ◌<ℤ◌, sym, ap, ◌∙◌, ap₂, inl, inr, arith}
use lib.Signed.{le_z, lt_z}
use Rattle.plane.specs.declared.grid_point.GridPoint.{GridPoint}
use Rattle.plane.specs.declared.orientation.Orientation.{Orientation}
use Rattle.plane.specs.declared.orientation.Orientation.TheVariants.{CounterClockwise, Clockwise, Collinear}
use Rattle.plane.specs.Orient.{det, orientation}
use Rattle.plane.specs.Points.{Segment, Between, Touches, Ranges}
use Rattle.plane.specs.Reflects.{Reflects}
use Rattle.plane.proofs.Integers.{lin}
use Rattle.plane.proofs.Collinear.{on_ranges}
use Rattle.plane.proofs.Orientations.{left_of, right_of, collinear_zero, turn}
use Rattle.plane.proofs.Segments.{touch_reflects, touch_collinear}
use Rattle.plane.proofs.Answers.{and_reflects, one_answer}
use Rattle.polyline.specs.Tests.{touches}
use Rattle.polyline.specs.Winding.{upward, downward, crossing}
use Rattle.polyline.proofs.Tests.{le_reflects, lt_reflects, touches_reflects}
use Rattle.polygon.specs.declared.passing.Passing.TheVariants.{Touched, Upward, Downward, Clear}
use Rattle.polygon.specs.Passings.{Passes}

-- v lies between the two, the lower included and the upper excluded
abbrev pub HalfBetween : ℤ → ℤ → ℤ → Type 0
HalfBetween v a b = (a ≤ℤ v) × (v <ℤ b)

module _ (e : Segment) (c : GridPoint) where
  abbrev area : ℤ
  area = det e.p e.q c

  -- the turn, as the kernel tells it of coordinates at the same places
  pub told_turn : (o : Orientation) (p q k : GridPoint) → o ≡ orientation (det p q k) → p ≡ e.p → q ≡ e.q → c ≡ k → turn e c ≡ o
  told_turn o p q k t f g h = ap (λ (k : GridPoint). turn e k) h ∙ sym (t ∙ ap₂ (λ (p q : GridPoint). orientation (det p q k)) f g)

  upward_reflects : Reflects (upward c e) ((e.p.y ≤ℤ c.y) × ((c.y <ℤ e.q.y) × (pos 0 <ℤ area)))
  upward_reflects =
      and_reflects (e.p.y ≤ℤ c.y) ((c.y <ℤ e.q.y) × (pos 0 <ℤ area)) (le_z e.p.y c.y) (lt_z c.y e.q.y && lt_z (pos 0) area) (le_reflects e.p.y c.y)
      (and_reflects (c.y <ℤ e.q.y) (pos 0 <ℤ area) (lt_z c.y e.q.y) (lt_z (pos 0) area) (lt_reflects c.y e.q.y) (lt_reflects (pos 0) area))

  downward_reflects : Reflects (downward c e) ((e.q.y ≤ℤ c.y) × ((c.y <ℤ e.p.y) × (area <ℤ pos 0)))
  downward_reflects =
      and_reflects (e.q.y ≤ℤ c.y) ((c.y <ℤ e.p.y) × (area <ℤ pos 0)) (le_z e.q.y c.y) (lt_z c.y e.p.y && lt_z area (pos 0)) (le_reflects e.q.y c.y)
      (and_reflects (c.y <ℤ e.p.y) (area <ℤ pos 0) (lt_z c.y e.p.y) (lt_z area (pos 0)) (lt_reflects c.y e.p.y) (lt_reflects area (pos 0)))

  -- what the edge adds, by what its two tests answer
  abbrev added : Bool → Bool → ℤ
  added up down = cond up (pos 1) (cond down (negsuc 0) (pos 0))

  adds : (u d : Bool) → Reflects u ((e.p.y ≤ℤ c.y) × ((c.y <ℤ e.q.y) × (pos 0 <ℤ area))) → Reflects d ((e.q.y ≤ℤ c.y) × ((c.y <ℤ e.p.y) × (area <ℤ pos 0))) → crossing c e ≡ added u d
  adds u d h k = ap₂ added (one_answer _ (upward c e) u upward_reflects h) (one_answer _ (downward c e) d downward_reflects k)

  not_touched : (Touches e c → ⊥) → touches e c ≡ false
  not_touched n = one_answer (Touches e c) (touches e c) false (touches_reflects e c) n

  -- an edge that does not reach the grid point's y
  pub missed_clear : (Between c.y e.p.y e.q.y → ⊥) → Passes Clear e c
  missed_clear n = (
    not_touched (λ o. n (on_ranges e c.x c.y o).1),
    adds false false (λ h. n (inl (h.0, omega (arith, lin)))) (λ h. n (inr (h.0, omega (arith, lin)))),
  )

  -- the grid point is on the edge's left
  module _ (t : turn e c ≡ CounterClockwise) where
    left_untouched : touches e c ≡ false
    left_untouched = not_touched (λ o. let z = left_of area t in let k = collinear_zero area (touch_collinear e c o) in omega (arith, lin))

    right_not : area <ℤ pos 0 → ⊥
    right_not h = let z = left_of area t in omega (arith, lin)

    pub left_upward : HalfBetween c.y e.p.y e.q.y → Passes Upward e c
    left_upward h = (left_untouched, adds true false (h.0, (h.1, left_of area t)) (λ k. right_not k.1.1))

    pub left_clear : (HalfBetween c.y e.p.y e.q.y → ⊥) → Passes Clear e c
    left_clear n = (left_untouched, adds false false (λ h. n (h.0, h.1.0)) (λ k. right_not k.1.1))

  -- it is on the edge's right
  module _ (t : turn e c ≡ Clockwise) where
    right_untouched : touches e c ≡ false
    right_untouched = not_touched (λ o. let z = right_of area t in let k = collinear_zero area (touch_collinear e c o) in omega (arith, lin))

    left_not : pos 0 <ℤ area → ⊥
    left_not h = let z = right_of area t in omega (arith, lin)

    pub right_downward : HalfBetween c.y e.q.y e.p.y → Passes Downward e c
    right_downward h = (right_untouched, adds false true (λ k. left_not k.1.1) (h.0, (h.1, right_of area t)))

    pub right_clear : (HalfBetween c.y e.q.y e.p.y → ⊥) → Passes Clear e c
    right_clear n = (right_untouched, adds false false (λ k. left_not k.1.1) (λ h. n (h.0, h.1.0)))

  -- it is on the edge's line
  module _ (t : turn e c ≡ Collinear) where
    pub line_touched : Ranges e c.x c.y → Passes Touched e c
    line_touched h = one_answer (Touches e c) (touches e c) true (touches_reflects e c) (touch_reflects true e c t h)

    pub line_clear : (Between c.x e.p.x e.q.x → ⊥) → Passes Clear e c
    line_clear n =
        let z = collinear_zero area t in
        (not_touched (λ o. n (on_ranges e c.x c.y o).0), adds false false (λ h. omega (arith, lin)) (λ h. omega (arith, lin)))
