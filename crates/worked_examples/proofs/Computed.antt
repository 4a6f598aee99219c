-- The one computed check of the worked examples, and the laws that turn each of its tests into what it tests.
use Prim.Native.Nat.{ℕ, ◌≤◌}
use mathlib.Core.Bool.{Bool, true, false, ◌&&◌, ◌||◌}
use mathlib.Core.Logic.{◌⊎◌, inl, inr}
use mathlib.Core.Path.{◌≡◌, refl}
use lib.Dec.{T, leb, leb→le}
use lib.IntN.{ℤ, pos, ◌-ℤ◌, ◌*ℤ◌}
use lib.Ieee.Fits.{and_l, and_r}
use native.Mathlib.Omega.{arith}
use lib.Signed.{◌≤ℤ◌, le_z, lt_z, le_z_yes, lt_z_yes}
use Rattle.plane.specs.declared.orientation.Orientation.{Orientation}
use Rattle.plane.specs.declared.orientation.Orientation.TheVariants.{CounterClockwise, Clockwise, Collinear}
use Rattle.plane.specs.Orient.{det, orientation}
use Rattle.plane.specs.Points.{Segment, On, Between}
use Rattle.plane.specs.Sets.{Common, Box, InBox}
use Rattle.plane.proofs.Integers.{lin}
use Rattle.plane.proofs.Terms.{OneSide, side}
use Rattle.plane.proofs.Clipping.{one_side_misses}
use Rattle.worked_examples.specs.Examples.{WorkedExamples, at, line, square}

-- ---- the tests, and what each tells

left : Orientation → Bool
left CounterClockwise = true
left Clockwise = false
left Collinear = false

left_tells : (o : Orientation) → T (left o) → o ≡ CounterClockwise
unfolding left
left_tells CounterClockwise t = refl
left_tells Clockwise t = absurd t
left_tells Collinear t = absurd t

-- each of four numbers is above zero, or each is below
abbrev four : (ℤ → Bool) → Segment → Box → Bool
four f s r = f (side s r.min.x r.min.y) && f (side s r.max.x r.min.y) && f (side s r.max.x r.max.y) && f (side s r.min.x r.max.y)

abbrev misses : Segment → Box → Bool
misses s r = four (lt_z (pos 0)) s r || four (λ z. lt_z z (pos 0)) s r

parts : (a b c d : Bool) → T (a && b && c && d) → T a × T b × T c × T d
parts a b c d t = (and_l a b (and_l (a && b) c (and_l (a && b && c) d t)), and_r a b (and_l (a && b) c (and_l (a && b && c) d t)), and_r (a && b) c (and_l (a && b && c) d t), and_r (a && b && c) d t)

either : (a b : Bool) → T (a || b) → T a ⊎ T b
either true b t = inl tt
either false b t = inr t

misses_tells : (s : Segment) (r : Box) → T (misses s r) → OneSide s r
misses_tells s r t =
    elim (either (four (lt_z (pos 0)) s r) (four (λ z. lt_z z (pos 0)) s r) t) [
      | inl h ↦ let p = parts _ _ _ _ h in inl (lt_z_yes p.0, lt_z_yes p.1, lt_z_yes p.2, lt_z_yes p.3)
      | inr h ↦ let p = parts _ _ _ _ h in inr (lt_z_yes p.0, lt_z_yes p.1, lt_z_yes p.2, lt_z_yes p.3)
    ]

abbrev within : ℤ → ℤ → ℤ → Bool
within v a b = le_z a v && le_z v b

abbrev between : ℤ → ℤ → ℤ → Bool
between v a b = within v a b || within v b a

between_tells : (v a b : ℤ) → T (between v a b) → Between v a b
between_tells v a b t =
    elim (either (within v a b) (within v b a) t) [
      | inl h ↦ inl (le_z_yes (and_l (le_z a v) (le_z v b) h), le_z_yes (and_r (le_z a v) (le_z v b) h))
      | inr h ↦ inr (le_z_yes (and_l (le_z b v) (le_z v a) h), le_z_yes (and_r (le_z b v) (le_z v a) h))
    ]

abbrev on : Segment → ℤ → ℤ → ℕ → Bool
on s X Y d =
    within ((s.q.x -ℤ s.p.x) *ℤ (Y -ℤ pos d *ℤ s.p.y)) ((s.q.y -ℤ s.p.y) *ℤ (X -ℤ pos d *ℤ s.p.x)) ((s.q.y -ℤ s.p.y) *ℤ (X -ℤ pos d *ℤ s.p.x))
    && between X (pos d *ℤ s.p.x) (pos d *ℤ s.q.x) && between Y (pos d *ℤ s.p.y) (pos d *ℤ s.q.y) && leb 1 d

on_tells : (s : Segment) (X Y : ℤ) (d : ℕ) → T (on s X Y d) → (1 ≤ d) × On s X Y d
on_tells s X Y d t =
    let p = parts _ _ _ _ t in
    (leb→le 1 d p.3, record { line = equal _ _ p.0; in_x = between_tells X _ _ p.1; in_y = between_tells Y _ _ p.2 })
  where
    equal : (a b : ℤ) → T (le_z b a && le_z a b) → a ≡ b
    equal a b t = let h : b ≤ℤ a = le_z_yes (and_l (le_z b a) (le_z a b) t) in let k : a ≤ℤ b = le_z_yes (and_r (le_z b a) (le_z a b) t) in omega (arith, lin)

abbrev in_box : Box → ℤ → ℤ → ℕ → Bool
in_box r X Y d = le_z (pos d *ℤ r.min.x) X && le_z X (pos d *ℤ r.max.x) && le_z (pos d *ℤ r.min.y) Y && le_z Y (pos d *ℤ r.max.y)

in_box_tells : (r : Box) (X Y : ℤ) (d : ℕ) → T (in_box r X Y d) → InBox r X Y d
in_box_tells r X Y d t = let p = parts _ _ _ _ t in record { left = le_z_yes p.0; right = le_z_yes p.1; under = le_z_yes p.2; over = le_z_yes p.3 }

meets_tells : (r : Box) (s : Segment) (X Y : ℤ) (d : ℕ) → T (in_box r X Y d) → T (on s X Y d) → Common (InBox r) (On s)
meets_tells r s X Y d t u = let o = on_tells s X Y d u in record { X = X; Y = Y; d = d; positive = o.0; first = in_box_tells r X Y d t; second = o.1 }

-- ---- the check

abbrev clear : Segment
clear = line (at (pos 3) (pos 6)) (at (pos 6) (pos 3))

abbrev grazing : Segment
grazing = line (at (pos 2) (pos 6)) (at (pos 6) (pos 2))

abbrev turning : Orientation
turning = orientation (det (at (pos 0) (pos 0)) (at (pos 4) (pos 0)) (at (pos 4) (pos 1)))

computed : T (left turning && misses clear square && in_box square (pos 4) (pos 4) 1 && on grazing (pos 4) (pos 4) 1)
unfolding left
computed = tt

pub worked : WorkedExamples
worked =
    let p = parts (left turning) (misses clear square) (in_box square (pos 4) (pos 4) 1) (on grazing (pos 4) (pos 4) 1) computed in
    record {
      turn = left_tells turning p.0;
      missed = λ m. one_side_misses square clear m (misses_tells clear square p.1);
      met = meets_tells square grazing (pos 4) (pos 4) 1 p.2 p.3;
    }
