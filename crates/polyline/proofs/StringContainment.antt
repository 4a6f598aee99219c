-- Which line strings are held by a segment, and which grid points, segments and line strings by a line string.
use Rattle.std.proofs.Common.{◌≡◌, ℕ, Bool, List, [], ◌∷◌, ℤ, refl, subst, inl, inr, arith}
use Rattle.std.specs.List.{AllByRecursion}
use Rattle.std.proofs.ByRecursion.{All-weaker}
use Rattle.plane.specs.declared.grid_point.GridPoint.{GridPoint}
use Rattle.plane.specs.Reflects.{Reflects}
use Rattle.plane.specs.Points.{Segment, On, Touches, LongerThanZero}
use Rattle.plane.specs.Sets.{Common, Subset, At, Interior}
use Rattle.plane.proofs.Answers.{reflects_same}
use Rattle.plane.proofs.Collinear.{start_on, end_on}
use Rattle.plane.proofs.Segments.{at_self}
use Rattle.plane.proofs.Containment.{scaled, same_end, coord_interior, convex, middle_on, middle_interior, zero_at}
use Rattle.polyline.specs.Segments.{Covered}
use Rattle.polyline.specs.Strings.{segments, last, AllEqual, OnString, AtEnd, StringInterior, SegmentContainsString, StringContainsSegment, StringContainsString}
use Rattle.polyline.proofs.Strings.{equal_or_longer, point_beside, string_scales, covered_on, longer_covered, each_on_string, vertices_on, string_within, equal_at, first_longer}

-- ---- shapes that hold segments and line strings

-- a shape of the points Q with the interior I: a grid point is in the interior as a whole, and a longer segment on the
-- shape has a point in the interior
record Shape (Q I : ℤ → ℤ → ℕ → Type 0) : Type 0 where
  grid_on : (c : GridPoint) → I c.x c.y 1 → Subset (At c) Q
  grid_in : (c : GridPoint) → Common (At c) I → I c.x c.y 1
  longer_in : (t : Segment) → LongerThanZero t → Subset (On t) Q → Common (On t) I

-- how a shape holds a segment, and a line string
record HoldsSegment (Q I : ℤ → ℤ → ℕ → Type 0) (t : Segment) : Type 0 where
  point : t.p ≡ t.q → I t.p.x t.p.y 1
  longer : LongerThanZero t → Subset (On t) Q

record HoldsString (Q I : ℤ → ℤ → ℕ → Type 0) (ws : List GridPoint) : Type 0 where
  some : ws ≡ [] → ⊥
  longer : AllByRecursion (λ t. LongerThanZero t → Subset (On t) Q) (segments ws)
  equal : AllEqual ws → AllByRecursion (λ w. I w.x w.y 1) ws

module _ {Q I : ℤ → ℤ → ℕ → Type 0} (shape : Shape Q I) where
  grid_reflects : (r : Bool) (c : GridPoint) → Reflects r (I c.x c.y 1) → Reflects r (Subset (At c) Q × Common (At c) I)
  grid_reflects r c h = reflects_same r (λ i. (shape.grid_on c i, record { X = c.x; Y = c.y; d = 1; positive = omega arith; first = at_self c; second = i })) (λ b. shape.grid_in c b.1) h

  segment_held : (t : Segment) → HoldsSegment Q I t → Subset (On t) Q × Common (On t) I
  segment_held t h =
      elim (equal_or_longer t) [
        | inl z ↦ ((λ X Y d n o. shape.grid_on t.p (h.point z) X Y d n (zero_at t z X Y d o)), record { X = t.p.x; Y = t.p.y; d = 1; positive = omega arith; first = start_on t; second = h.point z })
        | inr l ↦ (h.longer l, shape.longer_in t l (h.longer l))
      ]

  held_segment : (t : Segment) → Subset (On t) Q × Common (On t) I → HoldsSegment Q I t
  held_segment t b = let m = b.1 in record {
    point = λ z. shape.grid_in t.p (record { X = m.X; Y = m.Y; d = m.d; positive = m.positive; first = zero_at t z m.X m.Y m.d m.first; second = m.second });
    longer = λ l. b.0;
  }

  string_held : (ws : List GridPoint) → HoldsString Q I ws → Subset (OnString ws) Q × Common (OnString ws) I
  string_held [] h = absurd (h.some refl)
  string_held (v ∷ ws) h =
      elim (first_longer Q v ws h.longer) [
        | inl e ↦ let i = (h.equal e).0 in (string_within Q v ws (shape.grid_on v i) h.longer, record { X = v.x; Y = v.y; d = 1; positive = omega arith; first = (vertices_on (v ∷ ws)).0; second = i })
        | inr f ↦ let t = f.segment in let m = shape.longer_in t f.longer f.within in
            (string_within Q v ws (subst (λ (g : GridPoint). Subset (At g) Q) f.starts (λ X Y d n a. f.within X Y d n (scaled t t.p X Y d (start_on t) a))) h.longer, record { X = m.X; Y = m.Y; d = m.d; positive = m.positive; first = covered_on (v ∷ ws) t f.covered m.X m.Y m.d m.positive m.first; second = m.second })
      ]

  held_string : (ws : List GridPoint) → Subset (OnString ws) Q × Common (OnString ws) I → HoldsString Q I ws
  held_string ws b = let m = b.1 in record {
    some = λ e. subst (λ (us : List GridPoint). OnString us m.X m.Y m.d) e m.first;
    longer = All-weaker (λ t. Subset (On t) (OnString ws)) (λ t. LongerThanZero t → Subset (On t) Q) (λ t k l X Y d n o. b.0 X Y d n (k X Y d n o)) (segments ws) (each_on_string ws);
    equal = equal_in ws m;
  }
    where
      equal_in : (us : List GridPoint) → Common (OnString us) I → AllEqual us → AllByRecursion (λ w. I w.x w.y 1) us
      equal_in [] m e = tt
      equal_in (v ∷ us) m e =
          let i = shape.grid_in v (record { X = m.X; Y = m.Y; d = m.d; positive = m.positive; first = equal_at v us e m.X m.Y m.d m.positive m.first; second = m.second }) in
          (i, All-weaker (λ w. v ≡ w) (λ w. I w.x w.y 1) (λ w k. subst (λ (g : GridPoint). I g.x g.y 1) k i) us e)

-- ---- a segment over a line string

segment_shape : (s : Segment) → Shape (On s) (Interior s)
segment_shape s = record {
  grid_on = λ c i X Y d n a. scaled s c X Y d i.on a;
  grid_in = λ c m. coord_interior s c m;
  longer_in = λ t l h. record { X = _; Y = _; d = 2; positive = omega arith; first = middle_on t; second = middle_interior s t l (h t.p.x t.p.y 1 (omega arith) (start_on t)) (h t.q.x t.q.y 1 (omega arith) (end_on t)) };
}

-- the segments between vertices that touch s lie on it
touched_longer : (s : Segment) (vs : List GridPoint) → AllByRecursion (Touches s) vs → AllByRecursion (λ t. LongerThanZero t → Subset (On t) (On s)) (segments vs)
touched_longer s [] h = tt
touched_longer s (v ∷ []) h = tt
touched_longer s (v ∷ (w ∷ ws)) h = ((λ l. convex s (record { p = v; q = w }) h.0 h.1.0), touched_longer s (w ∷ ws) h.1)

pub segment_contains : (s : Segment) (vs : List GridPoint) → SegmentContainsString s vs → Subset (OnString vs) (On s) × Common (OnString vs) (Interior s)
segment_contains s vs h = string_held (segment_shape s) vs (record { some = h.some; longer = touched_longer s vs h.touch; equal = h.equal })

pub contains_segment : (s : Segment) (vs : List GridPoint) → Subset (OnString vs) (On s) × Common (OnString vs) (Interior s) → SegmentContainsString s vs
contains_segment s vs b = let h = held_string (segment_shape s) vs b in record {
  some = h.some;
  touch = All-weaker (λ v. OnString vs v.x v.y 1) (Touches s) (λ v o. b.0 v.x v.y 1 (omega arith) o) vs (vertices_on vs);
  equal = h.equal;
}

-- ---- a line string over a grid point, a segment and a line string

string_shape : (vs : List GridPoint) → Shape (OnString vs) (StringInterior vs)
string_shape vs = record {
  grid_on = λ c i X Y d n a. (string_scales vs c X Y d n a).0 i.on;
  grid_in = λ c m. record {
    on = (string_scales vs c m.X m.Y m.d m.positive m.first).1 m.second.on;
    no_end = λ e. m.second.no_end (ends vs c m.X m.Y m.d m.first e);
  };
  longer_in = longer vs;
}
  where
    ends : (vs : List GridPoint) (c : GridPoint) (X Y : ℤ) (d : ℕ) → At c X Y d → AtEnd vs c.x c.y 1 → AtEnd vs X Y d
    ends [] c X Y d a e = e
    ends (v ∷ vs) c X Y d a e = elim e [ inl k ↦ inl (same_end c v X Y d a k) | inr k ↦ inr (same_end c (last v vs) X Y d a k) ]

    longer : (vs : List GridPoint) (t : Segment) → LongerThanZero t → Subset (On t) (OnString vs) → Common (On t) (StringInterior vs)
    longer [] t l h = absurd (h t.p.x t.p.y 1 (omega arith) (start_on t))
    longer (v ∷ vs) t l h =
        let m = point_beside t v (last v vs) l in
        record { X = m.X; Y = m.Y; d = m.d; positive = m.positive; first = m.first; second = record { on = h m.X m.Y m.d m.positive m.first; no_end = λ e. absurd (m.second e) } }

pub string_coord_reflects : (r : Bool) (vs : List GridPoint) (c : GridPoint) → Reflects r (StringInterior vs c.x c.y 1) → Reflects r (Subset (At c) (OnString vs) × Common (At c) (StringInterior vs))
string_coord_reflects r vs c h = grid_reflects (string_shape vs) r c h

pub string_contains_segment : (vs : List GridPoint) (t : Segment) → StringContainsSegment vs t → Subset (On t) (OnString vs) × Common (On t) (StringInterior vs)
string_contains_segment vs t h = segment_held (string_shape vs) t (record { point = h.point; longer = λ l. covered_on vs t (h.longer l) })

pub segment_in_string : (vs : List GridPoint) (t : Segment) → Subset (On t) (OnString vs) × Common (On t) (StringInterior vs) → StringContainsSegment vs t
segment_in_string vs t b = let h = held_segment (string_shape vs) t b in record { point = h.point; longer = λ l. longer_covered vs t l (h.longer l) }

pub string_contains_string : (vs ws : List GridPoint) → StringContainsString vs ws → Subset (OnString ws) (OnString vs) × Common (OnString ws) (StringInterior vs)
string_contains_string vs ws h = string_held (string_shape vs) ws (record {
  some = h.some;
  longer = All-weaker (λ t. LongerThanZero t → Covered (segments vs) t) (λ t. LongerThanZero t → Subset (On t) (OnString vs)) (λ t k l. covered_on vs t (k l)) (segments ws) h.longer;
  equal = h.equal;
})

pub string_in_string : (vs ws : List GridPoint) → Subset (OnString ws) (OnString vs) × Common (OnString ws) (StringInterior vs) → StringContainsString vs ws
string_in_string vs ws b = let h = held_string (string_shape vs) ws b in record {
  some = h.some;
  longer = All-weaker (λ t. LongerThanZero t → Subset (On t) (OnString vs)) (λ t. LongerThanZero t → Covered (segments vs) t) (λ t k l. longer_covered vs t l (k l)) (segments ws) h.longer;
  equal = h.equal;
}
