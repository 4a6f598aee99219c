-- The rules of containment as they are decided: by the ends, by the first vertex, by the longer segments.
use Rattle.std.proofs.Common.{◌≡◌, ℕ, ◌≤◌, List, [], ◌∷◌, length, get_or, ℤ, sym, subst, inl, inr, arith}
use Rattle.std.specs.List.{AllByRecursion}
use Rattle.std.proofs.ByRecursion.{All-weaker}
use Rattle.plane.specs.declared.grid_point.GridPoint.{GridPoint}
use Rattle.plane.specs.Points.{Segment, Touches, LongerThanZero}
use Rattle.plane.specs.Reach.{read_point}
use Rattle.plane.specs.Reflects.{Iff}
use Rattle.plane.specs.Sets.{Interior}
use Rattle.plane.proofs.Containment.{at_is}
use Rattle.polyline.specs.Segments.{OnAny, Covered}
use Rattle.polyline.specs.Strings.{vertices, segments, last, Closed, AllEqual, OnString, AtEnd, StringInterior, SegmentContainsString, StringContainsString}
use Rattle.polyline.proofs.Strings.{vertices_on, none_longer}
use Rattle.polyline.proofs.Chains.{origin, all_vertices}

-- ---- a line string over a grid point

all_last : (P : GridPoint → Type 0) (v : GridPoint) (ws : List GridPoint) → AllByRecursion P (v ∷ ws) → P (last v ws)
all_last P v [] h = h.0
all_last P v (w ∷ ws) h = all_last P w ws h.1

end_on_string : (vs : List GridPoint) (c : GridPoint) → AtEnd vs c.x c.y 1 → OnString vs c.x c.y 1
end_on_string [] c e = e
end_on_string (v ∷ ws) c e =
    let on : (w : GridPoint) → c ≡ w → OnString (v ∷ ws) w.x w.y 1 → OnString (v ∷ ws) c.x c.y 1 = λ w f o. subst (λ (k : GridPoint). OnString (v ∷ ws) k.x k.y 1) (sym f) o in
    elim e [
      | inl a ↦ on v (at_is c v a) (vertices_on (v ∷ ws)).0
      | inr a ↦ on (last v ws) (at_is c (last v ws) a) (all_last (λ w. OnString (v ∷ ws) w.x w.y 1) v ws (vertices_on (v ∷ ws)))
    ]

-- an end is contained exactly if the line string is closed
pub end_contained : (vs : List GridPoint) (c : GridPoint) → AtEnd vs c.x c.y 1 → Iff (Closed vs) (StringInterior vs c.x c.y 1)
end_contained vs c e = ((λ k. record { on = end_on_string vs c e; no_end = λ _. k }), (λ i. i.no_end e))

-- anything else exactly if it touches a segment
pub inner_contained : (vs : List GridPoint) (X Y : ℤ) (d : ℕ) → (AtEnd vs X Y d → ⊥) → Iff (OnAny (segments vs) X Y d) (StringInterior vs X Y d)
inner_contained vs X Y d n = ((λ o. record { on = up vs o; no_end = λ e. absurd (n e) }), (λ i. down vs n i.on))
  where
    up : (vs : List GridPoint) → OnAny (segments vs) X Y d → OnString vs X Y d
    up [] o = o
    up (v ∷ []) o = absurd o
    up (v ∷ (w ∷ ws)) o = o

    down : (vs : List GridPoint) → (AtEnd vs X Y d → ⊥) → OnString vs X Y d → OnAny (segments vs) X Y d
    down [] n o = o
    down (v ∷ []) n o = absurd (n (inl o))
    down (v ∷ (w ∷ ws)) n o = o

-- ---- a segment or a line string over a line string, by its points

some : (ps : List GridPoint) → 1 ≤ length ps → vertices ps ≡ [] → ⊥
some [] l e = absurd (omega arith)
some (p ∷ ps) l e = cc

-- of equal vertices, what holds of the first holds of all
first_tells : (P : GridPoint → Type 0) (ps : List GridPoint) → 1 ≤ length ps → AllEqual (vertices ps) → Iff (P (read_point (get_or ps 0 origin))) (AllByRecursion P (vertices ps))
first_tells P [] l a = absurd (omega arith)
first_tells P (p ∷ ps) l a = ((λ h. (h, All-weaker (λ v. read_point p ≡ v) P (λ v e. subst P e h) (vertices ps) a)), (λ h. h.0))

-- and no segment is longer than zero
equal_longer : (P : Segment → Type 0) (ps : List GridPoint) → AllEqual (vertices ps) → AllByRecursion (λ t. LongerThanZero t → P t) (segments (vertices ps))
equal_longer P [] a = tt
equal_longer P (p ∷ ps) a = none_longer P (read_point p) (vertices ps) a

-- the first vertex touches a segment that contains the line string
pub first_touches : (s : Segment) (ps : List GridPoint) → 1 ≤ length ps → SegmentContainsString s (vertices ps) → Touches s (read_point (get_or ps 0 origin))
first_touches s [] l h = absurd (omega (arith, l))
first_touches s (p ∷ ps) l h = h.touch.0

module _ (ps : List GridPoint) (l : 1 ≤ length ps) where
  -- all are equal: the first decides; else all have to touch
  pub equal_in_segment : (s : Segment) → AllEqual (vertices ps) → Iff (Interior s (read_point (get_or ps 0 origin)).x (read_point (get_or ps 0 origin)).y 1) (SegmentContainsString s (vertices ps))
  equal_in_segment s a =
      let t = first_tells (Touches s) ps l a in
      let i = first_tells (λ v. Interior s v.x v.y 1) ps l a in
      ((λ h. record { some = some ps l; touch = t.0 h.on; equal = λ _. i.0 h }), (λ h. i.1 (h.equal a)))

  pub unequal_in_segment : (s : Segment) → (AllEqual (vertices ps) → ⊥) → Iff (AllByRecursion (λ p. Touches s (read_point p)) ps) (SegmentContainsString s (vertices ps))
  unequal_in_segment s n = let i = all_vertices (Touches s) ps in ((λ t. record { some = some ps l; touch = i.0 t; equal = λ a. absurd (n a) }), (λ h. i.1 h.touch))

  -- all are equal: the first decides; else the longer segments do
  pub equal_in_string : (vs : List GridPoint) → AllEqual (vertices ps) → Iff (StringInterior vs (read_point (get_or ps 0 origin)).x (read_point (get_or ps 0 origin)).y 1) (StringContainsString vs (vertices ps))
  equal_in_string vs a =
      let i = first_tells (λ v. StringInterior vs v.x v.y 1) ps l a in
      ((λ h. record { some = some ps l; longer = equal_longer (Covered (segments vs)) ps a; equal = λ _. i.0 h }), (λ h. i.1 (h.equal a)))

  pub unequal_in_string : (vs : List GridPoint) → (AllEqual (vertices ps) → ⊥) → Iff (AllByRecursion (λ t. LongerThanZero t → Covered (segments vs) t) (segments (vertices ps))) (StringContainsString vs (vertices ps))
  unequal_in_string vs n = ((λ h. record { some = some ps l; longer = h; equal = λ a. absurd (n a) }), (λ h. h.longer))
