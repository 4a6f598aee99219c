-- Boxes: what comparisons of their corners tell of their points.
use Rattle.std.proofs.Common.{ℕ, ◌≤◌, ℤ, pos, ◌+ℤ◌, ◌*ℤ◌, ◌≤ℤ◌, ◌<ℤ◌, arith}
use Rattle.std.proofs.lemmas.Int.{ints, by_lt_z}
use Rattle.plane.specs.Sets.{Common, Subset, Box, InBox, StrictlyInBox, WithinBounds}
use Rattle.plane.proofs.Terms.{Ordered, Overlap, Into}
use Rattle.plane.proofs.Integers.{lin, le_mul, cancel_le, one_mul}

pub grid_point_in : (r : Box) (x y : ℤ) → (r.min.x ≤ℤ x) × (x ≤ℤ r.max.x) × (r.min.y ≤ℤ y) × (y ≤ℤ r.max.y) → InBox r x y 1
grid_point_in r x y h = record { left = simp one_mul h.0; right = simp one_mul h.1; under = simp one_mul h.2; over = simp one_mul h.3 }

pub in_grid_point : (r : Box) (x y : ℤ) → InBox r x y 1 → (r.min.x ≤ℤ x) × (x ≤ℤ r.max.x) × (r.min.y ≤ℤ y) × (y ≤ℤ r.max.y)
in_grid_point r x y h = (simp one_mul at h.left, simp one_mul at h.right, simp one_mul at h.under, simp one_mul at h.over)

pub positive : (d : ℕ) → 1 ≤ d → pos 0 <ℤ pos d
positive d h = omega (arith, ints)

pub cancel_denominator_le : (d : ℕ) (a b : ℤ) → 1 ≤ d → (pos d *ℤ a) ≤ℤ (pos d *ℤ b) → a ≤ℤ b
cancel_denominator_le d a b h k = cancel_le (pos d) a b (positive d h) k

pub cancel_denominator_lt : (d : ℕ) (a b : ℤ) → 1 ≤ d → (pos d *ℤ a) <ℤ (pos d *ℤ b) → a <ℤ b
cancel_denominator_lt d a b h k = by_lt_z a b (λ l. l) (λ l. absurd (omega (arith, lin, le_mul (pos d) b a (omega (arith, ints)) l)))

pub common_overlap : (a b : Box) → Common (InBox a) (InBox b) → Overlap a b
common_overlap a b m = (
  cancel_denominator_le m.d _ _ m.positive (omega (arith, lin, m.first.right, m.second.left)),
  cancel_denominator_le m.d _ _ m.positive (omega (arith, lin, m.first.over, m.second.under)),
  cancel_denominator_le m.d _ _ m.positive (omega (arith, lin, m.first.left, m.second.right)),
  cancel_denominator_le m.d _ _ m.positive (omega (arith, lin, m.first.under, m.second.over)),
)

-- a number of both ranges
in_both : (a b c e : ℤ) → a ≤ℤ b → c ≤ℤ e → c ≤ℤ b → a ≤ℤ e → (x : ℤ) × (a ≤ℤ x) × (x ≤ℤ b) × (c ≤ℤ x) × (x ≤ℤ e)
in_both a b c e p q r s = by_lt_z a c (λ l. (c, omega (arith, lin), r, omega (arith, lin), q)) (λ l. (a, omega (arith, lin), p, l, s))

pub overlap_common : (a b : Box) → Ordered a → Ordered b → Overlap a b → Common (InBox a) (InBox b)
overlap_common a b u v o =
    let x = in_both a.min.x a.max.x b.min.x b.max.x u.0 v.0 o.0 o.2 in
    let y = in_both a.min.y a.max.y b.min.y b.max.y u.1 v.1 o.1 o.3 in
    record { X = x.0; Y = y.0; d = 1; positive = omega arith; first = grid_point_in a x.0 y.0 (x.1, x.2, y.1, y.2); second = grid_point_in b x.0 y.0 (x.3, x.4, y.3, y.4) }

-- the bounds decide whether every point of b is one of a
pub bounds_subset : (a b : Box) → WithinBounds a b → Subset (InBox b) (InBox a)
bounds_subset a b o X Y d n h =
    let z : pos 0 ≤ℤ pos d = omega (arith, ints) in
    record {
      left = omega (arith, lin, h.left, le_mul (pos d) _ _ z o.left);
      right = omega (arith, lin, h.right, le_mul (pos d) _ _ z o.right);
      under = omega (arith, lin, h.under, le_mul (pos d) _ _ z o.under);
      over = omega (arith, lin, h.over, le_mul (pos d) _ _ z o.over);
    }

pub subset_bounds : (a b : Box) → Ordered b → Subset (InBox b) (InBox a) → WithinBounds a b
subset_bounds a b u h =
    let p = in_grid_point a b.min.x b.min.y (h b.min.x b.min.y 1 (omega arith) (grid_point_in b b.min.x b.min.y (omega (arith, lin), u.0, omega (arith, lin), u.1))) in
    let q = in_grid_point a b.max.x b.max.y (h b.max.x b.max.y 1 (omega arith) (grid_point_in b b.max.x b.max.y (u.0, omega (arith, lin), u.1, omega (arith, lin)))) in
    record { left = p.0; right = q.1; under = p.2; over = q.3 }

-- and the middle of b is the point to try
twice : (a b c : ℤ) → a ≤ℤ b → a ≤ℤ c → (pos 2 *ℤ a) ≤ℤ (b +ℤ c)
twice a b c h k = omega (arith, ints)

pub into_common : (a b : Box) → Ordered b → WithinBounds a b → Into a b → Common (InBox b) (StrictlyInBox a)
into_common a b u o i = record {
  X = b.min.x +ℤ b.max.x;
  Y = b.min.y +ℤ b.max.y;
  d = 2;
  positive = omega arith;
  first = record { left = omega (arith, ints); right = omega (arith, ints); under = omega (arith, ints); over = omega (arith, ints) };
  second = record { left = omega (arith, ints); right = omega (arith, ints); under = omega (arith, ints); over = omega (arith, ints) };
}

pub common_into : (a b : Box) → Common (InBox b) (StrictlyInBox a) → Into a b
common_into a b m = (
  cancel_denominator_lt m.d _ _ m.positive (omega (arith, lin, m.first.right, m.second.left)),
  cancel_denominator_lt m.d _ _ m.positive (omega (arith, lin, m.first.left, m.second.right)),
  cancel_denominator_lt m.d _ _ m.positive (omega (arith, lin, m.first.over, m.second.under)),
  cancel_denominator_lt m.d _ _ m.positive (omega (arith, lin, m.first.under, m.second.over)),
)
