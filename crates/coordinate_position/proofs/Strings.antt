-- What the answers of line strings mean.
use Rattle.std.proofs.Common.{◌≡◌, Bool, true, false, not, ◌&&◌, ◌||◌, ◌⊎◌, List, [], ◌∷◌, sym, refl, subst, inl, inr}
use Rattle.plane.specs.declared.grid_point.GridPoint.{GridPoint}
use Rattle.plane.specs.Points.{Segment}
use Rattle.plane.specs.Reflects.{Reflects, Iff}
use Rattle.plane.specs.Sets.{At}
use Rattle.plane.proofs.Answers.{reflects_same, and_reflects, not_reflects, or_reflects}
use Rattle.plane.proofs.Segments.{at_self}
use Rattle.plane.proofs.Containment.{at_is}
use Rattle.polyline.specs.Segments.{OnAny}
use Rattle.polyline.specs.Strings.{segments, last, Closed, AtEnd, StringInterior}
use Rattle.polyline.specs.Tests.{same, touches_any}
use Rattle.polyline.proofs.Tests.{same_reflects, touches_any_reflects}
use Rattle.coordinate_position.specs.declared.position.Membership.{Membership}
use Rattle.coordinate_position.specs.Shapes.{membership, line_shape, string_shape}
use Rattle.coordinate_position.proofs.Memberships.{same_membership, line_inside, line_odd}

-- an end of an open line string
abbrev pub AtOpenEnd : List GridPoint → GridPoint → Type 0
AtOpenEnd vs c = AtEnd vs c.x c.y 1 × (Closed vs → ⊥)

at_reflects : (v c : GridPoint) → Reflects (same v c) (At v c.x c.y 1)
at_reflects v c = reflects_same (same v c) (λ e. subst (λ (w : GridPoint). At w c.x c.y 1) (sym e) (at_self c)) (λ a. sym (at_is c v a)) (same_reflects v c)

-- whether a line string is closed can be told
closed_told : (vs : List GridPoint) → Closed vs ⊎ (Closed vs → ⊥)
closed_told [] = inl tt
closed_told (v ∷ vs) = told (same v (last v vs)) (same_reflects v (last v vs))
  where
    told : (b : Bool) → Reflects b (v ≡ last v vs) → (v ≡ last v vs) ⊎ (v ≡ last v vs → ⊥)
    told true e = inl e
    told false n = inr n

-- what is no end of an open line string is an end of a closed one only
pub no_open_end : (vs : List GridPoint) (c : GridPoint) → (AtOpenEnd vs c → ⊥) → AtEnd vs c.x c.y 1 → Closed vs
no_open_end vs c n e = elim (closed_told vs) [ inl k ↦ k | inr k ↦ absurd (n (e, k)) ]

-- the end test of three vertices and more
open_end_reflects : (v : GridPoint) (vs : List GridPoint) (c : GridPoint) → Reflects (not (same v (last v vs)) && (same v c || same (last v vs) c)) (AtOpenEnd (v ∷ vs) c)
open_end_reflects v vs c =
    reflects_same (not (same v (last v vs)) && (same v c || same (last v vs) c)) (λ h. (h.1, h.0)) (λ h. (h.1, h.0))
    (and_reflects (v ≡ last v vs → ⊥) (AtEnd (v ∷ vs) c.x c.y 1) (not (same v (last v vs))) (same v c || same (last v vs) c)
    (not_reflects (v ≡ last v vs) (same v (last v vs)) (same_reflects v (last v vs)))
    (or_reflects (At v c.x c.y 1) (At (last v vs) c.x c.y 1) (same v c) (same (last v vs) c) (at_reflects v c) (at_reflects (last v vs) c)))

string_odd : (vs : List GridPoint) (c : GridPoint) → Reflects ((string_shape vs).odd c) (AtOpenEnd vs c)
string_odd [] c = λ h. h.0
string_odd (v ∷ []) c = λ h. h.1 refl
string_odd (v ∷ (w ∷ [])) c =
    let s : Segment = record { p = v; q = w } in
    reflects_same ((line_shape s).odd c) (λ h. (elim h.1 [ inl e ↦ inl (at v e) | inr e ↦ inr (at w e) ], h.0)) (λ h. (h.1, elim h.0 [ inl a ↦ inl (at_is c v a) | inr a ↦ inr (at_is c w a) ])) (line_odd s c)
  where
    at : (u : GridPoint) → c ≡ u → At u c.x c.y 1
    at u e = subst (λ (k : GridPoint). At k c.x c.y 1) e (at_self c)
string_odd (v ∷ (w ∷ (u ∷ us))) c = open_end_reflects v (w ∷ (u ∷ us)) c

-- the interior of several segments
pub among_segments : (v w : GridPoint) (ws : List GridPoint) (c : GridPoint) → Iff (OnAny (segments (v ∷ (w ∷ ws))) c.x c.y 1 × (AtEnd (v ∷ (w ∷ ws)) c.x c.y 1 → Closed (v ∷ (w ∷ ws)))) (StringInterior (v ∷ (w ∷ ws)) c.x c.y 1)
among_segments v w ws c = ((λ h. record { on = h.0; no_end = h.1 }), (λ i. (i.on, i.no_end)))

string_inside : (vs : List GridPoint) (c : GridPoint) → Reflects ((string_shape vs).inside c) (StringInterior vs c.x c.y 1)
string_inside [] c = λ i. i.on
string_inside (v ∷ []) c = reflects_same (same v c) (λ a. record { on = a; no_end = λ _. refl }) (λ i. i.on) (at_reflects v c)
string_inside (v ∷ (w ∷ [])) c =
    let s : Segment = record { p = v; q = w } in
    reflects_same ((line_shape s).inside c) (λ i. record { on = inl i.on; no_end = i.no_end }) (λ i. record { on = elim i.on [ inl o ↦ o | inr o ↦ absurd o ]; no_end = i.no_end }) (line_inside s c)
string_inside (v ∷ (w ∷ (u ∷ us))) c =
    let vs = v ∷ (w ∷ (u ∷ us)) in
    let i = among_segments v w (u ∷ us) c in
    reflects_same ((string_shape vs).inside c)
    (λ h. i.0 (h.0, no_open_end vs c h.1))
    (λ k. let j = i.1 k in (j.0, λ h. h.1 (j.1 h.0)))
    (and_reflects (OnAny (segments vs) c.x c.y 1) (AtOpenEnd vs c → ⊥) (touches_any (segments vs) c) (not ((string_shape vs).odd c)) (touches_any_reflects (segments vs) c)
    (not_reflects (AtOpenEnd vs c) ((string_shape vs).odd c) (string_odd vs c)))

-- the words, from the value
module _ (vs : List GridPoint) (c : GridPoint) (m : Membership) (e : m ≡ membership (string_shape vs) c) where
  pub inside_told : Reflects m.inside (StringInterior vs c.x c.y 1)
  inside_told = subst (λ (n : Membership). Reflects n.inside (StringInterior vs c.x c.y 1)) (sym e) (string_inside vs c)

  pub odd_told : Reflects m.odd (AtOpenEnd vs c)
  odd_told = subst (λ (n : Membership). Reflects n.odd (AtOpenEnd vs c)) (sym e) (string_odd vs c)

-- and the value, from the words
pub string_membership : (vs : List GridPoint) (c : GridPoint) (m : Membership) → Reflects m.inside (StringInterior vs c.x c.y 1) → Reflects m.odd (AtOpenEnd vs c) → m ≡ membership (string_shape vs) c
string_membership vs c m p q = same_membership (StringInterior vs c.x c.y 1) (AtOpenEnd vs c) m (string_shape vs) c p q (string_inside vs c) (string_odd vs c)
