-- The one computed check of the examples of line strings, positions, groups and rings, and the laws that turn each of
-- its tests into what it tests.
use Prim.Native.Nat.{ℕ, zero, suc}
use mathlib.Core.Bool.{Bool, true, false, not, ◌&&◌, xor}
use mathlib.Core.List.{List, [], ◌∷◌}
use mathlib.Core.Logic.{inr}
use mathlib.Core.Path.{◌≡◌, refl}
use lib.Dec.{T}
use lib.IntN.{pos}
use lib.ListN.{get_or}
use lib.Ieee.Fits.{and_l, and_r}
use Rattle.plane.specs.Points.{Segment, LongerThanZero}
use Rattle.plane.specs.Reflects.{Reflects}
use Rattle.plane.proofs.Segments.{at_self}
use Rattle.polyline.specs.Segments.{Covered}
use Rattle.polyline.specs.Tests.{same}
use Rattle.polyline.specs.Trimming.{trims_all}
use Rattle.polyline.proofs.Tests.{same_reflects}
use Rattle.polyline.proofs.Trimming.{trims_all_reflects}
use Rattle.coordinate_position.specs.declared.position.CoordPos.{CoordPos}
use Rattle.coordinate_position.specs.declared.position.CoordPos.TheVariants.{OnBoundary, Inside, Outside}
use Rattle.coordinate_position.specs.Shapes.{position, grouped, string_shape, box_shape}
use Rattle.polygon.specs.Rings.{ring_position}
use Rattle.worked_examples.specs.Examples.{at, line, square}
use Rattle.contour_examples.specs.Examples.{ContourExamples, wedge, pieces, all_pieces, hook, ring}

-- ---- the tests, and what each tells

-- two positions are the same
is : CoordPos → CoordPos → Bool
is OnBoundary OnBoundary = true
is OnBoundary Inside = false
is OnBoundary Outside = false
is Inside OnBoundary = false
is Inside Inside = true
is Inside Outside = false
is Outside OnBoundary = false
is Outside Inside = false
is Outside Outside = true

is_tells : (p q : CoordPos) → T (is p q) → p ≡ q
unfolding is
is_tells OnBoundary OnBoundary t = refl
is_tells OnBoundary Inside t = absurd t
is_tells OnBoundary Outside t = absurd t
is_tells Inside OnBoundary t = absurd t
is_tells Inside Inside t = refl
is_tells Inside Outside t = absurd t
is_tells Outside OnBoundary t = absurd t
is_tells Outside Inside t = absurd t
is_tells Outside Outside t = refl

-- what a test that reflects a fact tells
yes_tells : (P : Type 0) (b : Bool) → Reflects b P → T b → P
yes_tells P true p t = p
yes_tells P false n t = absurd t

no_tells : (P : Type 0) (b : Bool) → Reflects b P → T (not b) → P → ⊥
no_tells P true p t = absurd t
no_tells P false n t = n

differ_tells : (s : Segment) → T (not (same s.p s.q)) → LongerThanZero s
differ_tells s t = no_tells (s.p ≡ s.q) (same s.p s.q) (same_reflects s.p s.q) t

-- ---- the check

abbrev whole : Segment
whole = line (at (pos 0) (pos 0)) (at (pos 5) (pos 0))

abbrev checks : List Bool
checks =
    not (same whole.p whole.q)
    ∷ (not (trims_all pieces whole)
    ∷ (trims_all all_pieces whole
    ∷ (not (same (at (pos 0) (pos 0)) (at (pos 2) (pos 0)))
    ∷ (is (position (string_shape hook) (at (pos 2) (pos 0))) OnBoundary
    ∷ (is (position (grouped (box_shape square) wedge) (at (pos 2) (pos 2))) Inside
    ∷ (is (position (grouped wedge (box_shape square)) (at (pos 2) (pos 2))) Inside
    ∷ (is (ring_position ring (at (pos 2) (pos 0))) OnBoundary
    ∷ (is (ring_position ring (at (pos 2) (pos 2))) Inside
    ∷ (is (ring_position ring (at (pos 2) (pos 5))) Outside
    ∷ [])))))))))

abbrev every : List Bool → Bool
every [] = true
every (b ∷ bs) = b && every bs

-- each test of a list that all passed
nth_passed : (bs : List Bool) (i : ℕ) → T (every bs) → T (get_or bs i true)
nth_passed [] i t = tt
nth_passed (b ∷ bs) zero t = and_l b (every bs) t
nth_passed (b ∷ bs) (suc i) t = nth_passed bs i (and_r b (every bs) t)

computed : T (every checks)
unfolding is xor
computed = tt

passed : (i : ℕ) → T (get_or checks i true)
passed i = nth_passed checks i computed

pub shown : ContourExamples
shown = record {
  uncovered = no_tells (Covered pieces whole) (trims_all pieces whole) (trims_all_reflects pieces whole (differ_tells whole (passed 0))) (passed 1);
  covered = yes_tells (Covered all_pieces whole) (trims_all all_pieces whole) (trims_all_reflects all_pieces whole (differ_tells whole (passed 0))) (passed 2);
  end_not_contained = λ i. differ_tells (line (at (pos 0) (pos 0)) (at (pos 2) (pos 0))) (passed 3) (i.no_end (inr (at_self (at (pos 2) (pos 0)))));
  end_on_boundary = is_tells (position (string_shape hook) (at (pos 2) (pos 0))) OnBoundary (passed 4);
  inside_first = is_tells (position (grouped (box_shape square) wedge) (at (pos 2) (pos 2))) Inside (passed 5);
  inside_last = is_tells (position (grouped wedge (box_shape square)) (at (pos 2) (pos 2))) Inside (passed 6);
  on_ring = is_tells (ring_position ring (at (pos 2) (pos 0))) OnBoundary (passed 7);
  in_ring = is_tells (ring_position ring (at (pos 2) (pos 2))) Inside (passed 8);
  off_ring = is_tells (ring_position ring (at (pos 2) (pos 5))) Outside (passed 9);
}
