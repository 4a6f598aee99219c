-- What comparisons and turns tell of boxes, and of a box and a segment or a grid point.
use Rattle.std.proofs.Common.{◌≡◌, Bool, ℤ, pos, ◌*ℤ◌, ◌≤ℤ◌, sym, refl, ◌∙◌, inl, inr, arith}
use Rattle.std.proofs.lemmas.Int.{ints, by_lt_z, clamps}
use Rattle.std.specs.Int.{int_min, int_max}
use Rattle.plane.specs.declared.grid_point.GridPoint.{GridPoint}
use Rattle.plane.specs.declared.orientation.Orientation.{Orientation}
use Rattle.plane.specs.declared.orientation.Orientation.TheVariants.{CounterClockwise, Clockwise, Collinear}
use Rattle.plane.specs.Orient.{orientation}
use Rattle.plane.specs.Reflects.{Reflects}
use Rattle.plane.specs.Points.{Segment, On, Between}
use Rattle.plane.specs.Sets.{Common, At, Box, spanned, InBox}
use Rattle.plane.proofs.Terms.{Ordered, RangesOverlap, Overlapping, OneSide, Overlap, side}
use Rattle.plane.proofs.Integers.{lin, le_mul}
use Rattle.plane.proofs.Answers.{reflects_same}
use Rattle.plane.proofs.Orientations.{left_turn, right_turn, left_of, right_of, left_not_collinear, right_not_collinear, turn, turn_side}
use Rattle.plane.proofs.Boxes.{grid_point_in, cancel_denominator_le, overlap_common, common_overlap}
use Rattle.plane.proofs.Clipping.{not_one_side_meets, one_side_misses}
use Rattle.plane.proofs.Segments.{at_self}

pub spanned_ordered : (p q : GridPoint) → Ordered (spanned p q)
spanned_ordered p q = (two p.x q.x, two p.y q.y)
  where
    two : (a b : ℤ) → int_min a b ≤ℤ int_max a b
    two a b = omega (arith, ints, clamps)

-- ---- a box and a grid point

-- a grid point of a box, by comparisons
abbrev pub Held : Box → GridPoint → Type 0
Held r c = (r.min.x ≤ℤ c.x) × (c.x ≤ℤ r.max.x) × (r.min.y ≤ℤ c.y) × (c.y ≤ℤ r.max.y)

pub box_coord_reflects : (b : Bool) (r : Box) (c : GridPoint) → Reflects b (Held r c) → Reflects b (Common (InBox r) (At c))
box_coord_reflects b r c h =
    reflects_same b
    (λ k. record { X = c.x; Y = c.y; d = 1; positive = omega arith; first = grid_point_in r c.x c.y k; second = at_self c })
    (λ m. (
      cancel_denominator_le m.d _ _ m.positive (omega (arith, lin, m.first.left, m.second.at_x)),
      cancel_denominator_le m.d _ _ m.positive (omega (arith, lin, m.first.right, m.second.at_x)),
      cancel_denominator_le m.d _ _ m.positive (omega (arith, lin, m.first.under, m.second.at_y)),
      cancel_denominator_le m.d _ _ m.positive (omega (arith, lin, m.first.over, m.second.at_y)),
    ))
    h

-- ---- two boxes

pub boxes_reflect : (b : Bool) (p q : Box) → Ordered p → Ordered q → Reflects b (Overlap p q) → Reflects b (Common (InBox p) (InBox q))
boxes_reflect b p q u v h = reflects_same b (overlap_common p q u v) (common_overlap p q) h

-- ---- a box and a segment

spans_overlap : (lo hi p q : ℤ) → int_min p q ≤ℤ hi → lo ≤ℤ int_max p q → RangesOverlap lo hi p q
spans_overlap lo hi p q h k = (
  by_lt_z p lo (λ l. by_lt_z q lo (λ m. absurd (omega (arith, ints, clamps))) inr) inl,
  by_lt_z hi p (λ l. by_lt_z hi q (λ m. absurd (omega (arith, ints, clamps))) inr) inl,
)

-- the box meets the one around the segment: their ranges overlap
pub around_overlapping : (r : Box) (s : Segment) → Common (InBox r) (InBox (spanned s.p s.q)) → Overlapping r s
around_overlapping r s m =
    let o = common_overlap r (spanned s.p s.q) m in
    (spans_overlap r.min.x r.max.x s.p.x s.q.x o.0 o.2, spans_overlap r.min.y r.max.y s.p.y s.q.y o.1 o.3)

between_span : (d a b X : ℤ) → pos 0 ≤ℤ d → Between X (d *ℤ a) (d *ℤ b) → ((d *ℤ int_min a b) ≤ℤ X) × (X ≤ℤ (d *ℤ int_max a b))
between_span d a b X h k =
    let u : int_min a b ≤ℤ a = omega (arith, ints, clamps) in
    let v : int_min a b ≤ℤ b = omega (arith, ints, clamps) in
    let w : a ≤ℤ int_max a b = omega (arith, ints, clamps) in
    let z : b ≤ℤ int_max a b = omega (arith, ints, clamps) in
    (omega (arith, lin, k, le_mul d (int_min a b) a h u, le_mul d (int_min a b) b h v), omega (arith, lin, k, le_mul d a (int_max a b) h w, le_mul d b (int_max a b) h z))

-- a point in common with the segment is one with the box around it
pub around_missed : (r : Box) (s : Segment) → (Common (InBox r) (InBox (spanned s.p s.q)) → ⊥) → Common (InBox r) (On s) → ⊥
around_missed r s n m =
    let z : pos 0 ≤ℤ pos m.d = omega (arith, ints) in
    let x = between_span (pos m.d) s.p.x s.q.x m.X z m.second.in_x in
    let y = between_span (pos m.d) s.p.y s.q.y m.Y z m.second.in_y in
    n (record { X = m.X; Y = m.Y; d = m.d; positive = m.positive; first = m.first; second = record { left = x.0; right = x.1; under = y.0; over = y.1 } })

-- the corners other than `min` and `max`
abbrev pub low_right : Box → GridPoint
low_right r = record { x = r.max.x; y = r.min.y }

abbrev pub high_left : Box → GridPoint
high_left r = record { x = r.min.x; y = r.max.y }

-- the corners turn alike past the segment, and not along it, exactly if they are on one side of it
module _ (s : Segment) (r : Box) where
  one_side_alike : OneSide s r → (turn s r.min ≡ turn s (low_right r)) × (turn s r.min ≡ turn s r.max) × (turn s r.min ≡ turn s (high_left r)) × (turn s r.min ≡ Collinear → ⊥)
  one_side_alike (inl f) =
      let a = turn_side s r.min ∙ sym (left_turn _ f.0) in
      (a ∙ left_turn _ f.1 ∙ sym (turn_side s (low_right r)), a ∙ left_turn _ f.2 ∙ sym (turn_side s r.max), a ∙ left_turn _ f.3 ∙ sym (turn_side s (high_left r)), λ e. left_not_collinear (sym a ∙ e))
  one_side_alike (inr f) =
      let a = turn_side s r.min ∙ sym (right_turn _ f.0) in
      (a ∙ right_turn _ f.1 ∙ sym (turn_side s (low_right r)), a ∙ right_turn _ f.2 ∙ sym (turn_side s r.max), a ∙ right_turn _ f.3 ∙ sym (turn_side s (high_left r)), λ e. right_not_collinear (sym a ∙ e))

  alike_one_side : turn s r.min ≡ turn s (low_right r) → turn s r.min ≡ turn s r.max → turn s r.min ≡ turn s (high_left r) → (turn s r.min ≡ Collinear → ⊥) → OneSide s r
  alike_one_side p q t n = go (turn s r.min) refl
    where
      back : (c : GridPoint) (o : Orientation) → turn s r.min ≡ turn s c → turn s r.min ≡ o → orientation (side s c.x c.y) ≡ o
      back c o e f = sym (turn_side s c) ∙ sym e ∙ f

      go : (o : Orientation) → turn s r.min ≡ o → OneSide s r
      go CounterClockwise e = inl (left_of _ (back r.min CounterClockwise refl e), left_of _ (back (low_right r) CounterClockwise p e), left_of _ (back r.max CounterClockwise q e), left_of _ (back (high_left r) CounterClockwise t e))
      go Clockwise e = inr (right_of _ (back r.min Clockwise refl e), right_of _ (back (low_right r) Clockwise p e), right_of _ (back r.max Clockwise q e), right_of _ (back (high_left r) Clockwise t e))
      go Collinear e = absurd (n e)

-- the box around the segment meets the box
module _ (s : Segment) (r : Box) (u : Ordered r) (n : Common (InBox r) (InBox (spanned s.p s.q))) where
  pub low_right_apart : (turn s r.min ≡ turn s (low_right r) → ⊥) → Common (InBox r) (On s)
  low_right_apart k = not_one_side_meets r s u (around_overlapping r s n) (λ a. k (one_side_alike s r a).0)

  pub high_right_apart : (turn s r.min ≡ turn s r.max → ⊥) → Common (InBox r) (On s)
  high_right_apart k = not_one_side_meets r s u (around_overlapping r s n) (λ a. k (one_side_alike s r a).1)

  pub high_left_apart : (turn s r.min ≡ turn s (high_left r) → ⊥) → Common (InBox r) (On s)
  high_left_apart k = not_one_side_meets r s u (around_overlapping r s n) (λ a. k (one_side_alike s r a).2)

  pub corners_reflect : (b : Bool) → turn s r.min ≡ turn s (low_right r) → turn s r.min ≡ turn s r.max → turn s r.min ≡ turn s (high_left r) → Reflects b (turn s r.min ≡ Collinear) → Reflects b (Common (InBox r) (On s))
  corners_reflect b p q t h = reflects_same b (λ e. not_one_side_meets r s u (around_overlapping r s n) (λ a. (one_side_alike s r a).3 e)) flat h
    where
      flat : Common (InBox r) (On s) → turn s r.min ≡ Collinear
      flat m = go (turn s r.min) refl
        where
          go : (o : Orientation) → turn s r.min ≡ o → turn s r.min ≡ Collinear
          go CounterClockwise e = absurd (one_side_misses r s m (alike_one_side s r p q t (λ f. left_not_collinear (sym e ∙ f))))
          go Clockwise e = absurd (one_side_misses r s m (alike_one_side s r p q t (λ f. right_not_collinear (sym e ∙ f))))
          go Collinear e = e

-- a box by its corners
pub corners_are : (r : Box) (lo hi : GridPoint) → lo ≡ r.min → hi ≡ r.max → ◌≡◌ {A = Box} (record { min = lo; max = hi }) r
corners_are r lo hi e f = λ i. record { min = e i; max = f i }
