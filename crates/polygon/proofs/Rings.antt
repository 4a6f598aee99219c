-- Rings: the count of the edges that pass a grid point, and what a position says.
use Rattle.std.proofs.Common.{Bor, Some, ◌≤◌, take, drop, length-drop, ◌≡◌, ℕ, ◌+◌, Bool, true, false, cond, List, [], ◌∷◌, length, ℤ, pos, negsuc, ◌+ℤ◌, ◌-ℤ◌, sym, ap, ◌∙◌, subst, ap₂, arith}
use Rattle.std.specs.declared.slice.Windows.{Windows}
use Rattle.std.specs.Slice.Iter.{windows_rest, windows_size, windows_steps}
use Rattle.std.proofs.lemmas.Int.{ints}
use Rattle.plane.specs.declared.grid_point.GridPoint.{GridPoint}
use Rattle.plane.specs.Points.{Segment}
use Rattle.plane.specs.Reflects.{Reflects}
use Rattle.plane.specs.Sets.{At}
use Rattle.plane.proofs.Answers.{reflects_same, or_rest}
use Rattle.plane.proofs.Segments.{at_self}
use Rattle.plane.proofs.Containment.{at_is}
use Rattle.polyline.specs.Strings.{vertices, chain, segments, OnString}
use Rattle.polyline.specs.Tests.{is_zero, same, touches, touches_any}
use Rattle.polyline.specs.Winding.{crossing, winding}
use Rattle.polyline.proofs.Tests.{zero_reflects, same_reflects, touches_any_reflects}
use Rattle.polyline.proofs.Neighbours.{first_two, first_window}
use Rattle.coordinate_position.specs.declared.position.CoordPos.{CoordPos}
use Rattle.coordinate_position.specs.declared.position.CoordPos.TheVariants.{OnBoundary, Inside, Outside}
use Rattle.polygon.specs.declared.passing.Passing.TheVariants.{Upward, Downward, Clear}
use Rattle.polygon.specs.Passings.{Passes}
use Rattle.polygon.specs.Rings.{RingPosition, on_string, ring_position}

-- ---- the count

-- up and down are the edges of `all` before `rest` that go up past c and down past it, and none before touches it
pub record Counted (c : GridPoint) (up down : ℕ) (rest all : List Segment) : Type 0 where
  pub touched : touches_any rest c ≡ touches_any all c
  pub number : (pos up -ℤ pos down) +ℤ winding c rest ≡ winding c all

module _ (c : GridPoint) (e : Segment) (es all : List Segment) (u d : ℕ) (n : Counted c u d (e ∷ es) all) where
  -- an edge that is not touched adds x to the number
  count_more : (x : ℤ) (v w : ℕ) → touches e c ≡ false → crossing c e ≡ x → pos v -ℤ pos w ≡ (pos u -ℤ pos d) +ℤ x → Counted c v w es all
  count_more x v w f h k = record { touched = sym (or_rest (touches e c) (touches_any es c) f) ∙ n.touched; number = more (crossing c e) (winding c es) (winding c all) h n.number }
    where
      more : (y t a : ℤ) → y ≡ x → (pos u -ℤ pos d) +ℤ (y +ℤ t) ≡ a → (pos v -ℤ pos w) +ℤ t ≡ a
      more y t a f h = omega (arith, ints)

  pub count_upward : Passes Upward e c → Counted c (u + 1) d es all
  count_upward t = count_more (pos 1) (u + 1) d t.0 t.1 (omega (arith, ints))

  pub count_downward : Passes Downward e c → Counted c u (d + 1) es all
  count_downward t = count_more (negsuc 0) u (d + 1) t.0 t.1 (omega (arith, ints))

  pub count_clear : Passes Clear e c → Counted c u d es all
  count_clear t = count_more (pos 0) u d t.0 t.1 (omega (arith, ints))

-- the first edge is that of the first two points, as a window has them
first_edge : (ps w rest : List GridPoint) → 2 ≤ length ps → w ≡ take 2 ps → rest ≡ drop 1 ps → segments (vertices ps) ≡ first_two w ∷ segments (vertices rest)
first_edge ps w rest h e f = first_window ps h ∙ ap₂ (λ (w rest : List GridPoint). first_two w ∷ segments (vertices rest)) (sym e) (sym f)

-- the count of the edges between neighbours, before the windows that are left
pub record CountedWindows (c : GridPoint) (up down : ℕ) (left : Windows GridPoint) (points : List GridPoint) : Type 0 where
  pub two : windows_size left ≡ 2
  pub counted : Counted c up down (segments (vertices (windows_rest left))) (segments (vertices points))
  pub up_left : up + length (windows_rest left) ≤ length points
  pub down_left : down + length (windows_rest left) ≤ length points

module _ (c : GridPoint) (u d : ℕ) (left next : Windows GridPoint) (w : Bor (List GridPoint)) (points : List GridPoint) (n : CountedWindows c u d left points) (t : windows_steps left (Some w) next) where
  -- the edge of the window
  abbrev edge : Segment
  edge = first_two w.now

  counted_next : Counted c u d (edge ∷ segments (vertices (windows_rest next))) (segments (vertices points))
  counted_next = subst (λ (es : List Segment). Counted c u d es (segments (vertices points))) next_edge n.counted
    where
      next_edge : segments (vertices (windows_rest left)) ≡ edge ∷ segments (vertices (windows_rest next))
      next_edge = first_edge (windows_rest left) w.now (windows_rest next) (omega arith) (t.1.1 ∙ ap (λ (n : ℕ). take n (windows_rest left)) n.two) t.1.2

  left_less : length (windows_rest next) + 1 ≤ length (windows_rest left)
  left_less = omega (arith, length-drop 1 (windows_rest left), ap length t.1.2)

  pub window_upward : Passes Upward edge c → CountedWindows c (u + 1) d next points
  window_upward p = record { two = t.0 ∙ n.two; counted = count_upward c edge _ _ u d counted_next p; up_left = grind (arith, left_less); down_left = grind (arith, left_less) }

  pub window_downward : Passes Downward edge c → CountedWindows c u (d + 1) next points
  window_downward p = record { two = t.0 ∙ n.two; counted = count_downward c edge _ _ u d counted_next p; up_left = grind (arith, left_less); down_left = grind (arith, left_less) }

  pub window_clear : Passes Clear edge c → CountedWindows c u d next points
  window_clear p = record { two = t.0 ∙ n.two; counted = count_clear c edge _ _ u d counted_next p; up_left = grind (arith, left_less); down_left = grind (arith, left_less) }

-- ---- the position

on_string_reflects : (vs : List GridPoint) (c : GridPoint) → Reflects (on_string vs c) (OnString vs c.x c.y 1)
on_string_reflects [] c = λ h. h
on_string_reflects (v ∷ []) c =
    reflects_same (same v c) (λ e. subst (λ (w : GridPoint). At w c.x c.y 1) (sym e) (at_self c)) (λ a. sym (at_is c v a)) (same_reflects v c)
on_string_reflects (v ∷ (w ∷ ws)) c = touches_any_reflects (chain v (w ∷ ws)) c

-- the position of a ring says what a position is to say
pub position_meant : (vs : List GridPoint) (c : GridPoint) (p : CoordPos) → p ≡ ring_position vs c → RingPosition vs c p
position_meant vs c p e = subst (RingPosition vs c) (sym e) (by_tests (on_string vs c) (is_zero (winding c (segments vs))) (on_string_reflects vs c) (zero_reflects (winding c (segments vs))))
  where
    by_tests : (b z : Bool) → Reflects b (OnString vs c.x c.y 1) → Reflects z (winding c (segments vs) ≡ pos 0) → RingPosition vs c (cond b OnBoundary (cond z Outside Inside))
    by_tests true z h k = h
    by_tests false true h k = (h, k)
    by_tests false false h k = (h, k)
