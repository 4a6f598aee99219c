-- Line strings by their points: scaling, the segments of a chain, and the first of them that is longer than zero.
use Rattle.std.proofs.Common.{◌≡◌, ℕ, ◌≤◌, ◌⊎◌, List, [], ◌∷◌, ℤ, sym, refl, ap, ◌∙◌, subst, inl, inr, arith}
use Rattle.std.specs.List.{AllByRecursion}
use Rattle.std.proofs.ByRecursion.{All-weaker}
use Rattle.plane.specs.declared.grid_point.GridPoint.{GridPoint}
use Rattle.plane.specs.Reflects.{Iff}
use Rattle.plane.specs.Points.{Segment, On, Touches, LongerThanZero}
use Rattle.plane.specs.Sets.{Common, Subset, At}
use Rattle.plane.proofs.Integers.{lin}
use Rattle.plane.proofs.Division.{by_order}
use Rattle.plane.proofs.Collinear.{same_point, start_on, end_on}
use Rattle.plane.proofs.Segments.{at_self, common_touch}
use Rattle.plane.proofs.Containment.{scaled, same_end, at_is, middle_on, middle_interior, zero_at}
use Rattle.polyline.specs.Segments.{OnAny, Covered}
use Rattle.polyline.specs.Strings.{chain, segments, OnString}

-- ---- segments

pub equal_or_longer : (t : Segment) → (t.p ≡ t.q) ⊎ LongerThanZero t
equal_or_longer t =
    by_order t.p.x t.q.x
    (λ l. inr (λ e. omega (arith, lin, ap (λ (g : GridPoint). g.x) e)))
    (λ l. inr (λ e. omega (arith, lin, ap (λ (g : GridPoint). g.x) e)))
    (λ x. by_order t.p.y t.q.y
    (λ l. inr (λ e. omega (arith, lin, ap (λ (g : GridPoint). g.y) e)))
    (λ l. inr (λ e. omega (arith, lin, ap (λ (g : GridPoint). g.y) e)))
    (λ y. inl (same_point t.p t.q x y)))

-- a grid point is one of two others, or none of them
one_or_none : (c a b : GridPoint) → ((c ≡ a) ⊎ (c ≡ b)) ⊎ ((c ≡ a) ⊎ (c ≡ b) → ⊥)
one_or_none c a b =
    elim (equal_or_longer (record { p = c; q = a })) [
      | inl e ↦ inl (inl e)
      | inr m ↦ elim (equal_or_longer (record { p = c; q = b })) [ inl e ↦ inl (inr e) | inr n ↦ inr (λ e. elim e [ inl k ↦ m k | inr k ↦ n k ]) ]
    ]

-- a longer segment has a point, its start, its end or its middle, other than two grid points
pub point_beside : (t : Segment) (a b : GridPoint) → LongerThanZero t → Common (On t) (λ X Y d. At a X Y d ⊎ At b X Y d → ⊥)
point_beside t a b l =
    elim (one_or_none t.p a b) [
      | inr m ↦ record { X = t.p.x; Y = t.p.y; d = 1; positive = omega arith; first = start_on t; second = λ e. m (is_one t.p e) }
      | inl u ↦ elim (one_or_none t.q a b) [
        | inr m ↦ record { X = t.q.x; Y = t.q.y; d = 1; positive = omega arith; first = end_on t; second = λ e. m (is_one t.q e) }
        | inl w ↦ record { X = _; Y = _; d = 2; positive = omega arith; first = middle_on t; second = λ e. let z = (middle_interior ab t l (touches t.p u) (touches t.q w)).no_end e in l (is_first z t.p u ∙ sym (is_first z t.q w)) }
      ]
    ]
  where
    ab : Segment
    ab = record { p = a; q = b }

    is_one : (c : GridPoint) → At a c.x c.y 1 ⊎ At b c.x c.y 1 → (c ≡ a) ⊎ (c ≡ b)
    is_one c e = elim e [ inl k ↦ inl (at_is c a k) | inr k ↦ inr (at_is c b k) ]

    touches : (c : GridPoint) → (c ≡ a) ⊎ (c ≡ b) → Touches ab c
    touches c (inl e) = subst (λ (g : GridPoint). Touches ab g) (sym e) (start_on ab)
    touches c (inr e) = subst (λ (g : GridPoint). Touches ab g) (sym e) (end_on ab)

    is_first : a ≡ b → (c : GridPoint) → (c ≡ a) ⊎ (c ≡ b) → c ≡ a
    is_first z c (inl e) = e
    is_first z c (inr e) = e ∙ sym z

-- ---- scaling

-- a grid point belongs to P at denominator 1 exactly if it does at another
abbrev pub Scales : (ℤ → ℤ → ℕ → Type 0) → Type 0
Scales P = (c : GridPoint) (X Y : ℤ) (d : ℕ) → 1 ≤ d → At c X Y d → Iff (P c.x c.y 1) (P X Y d)

on_scales : (s : Segment) → Scales (On s)
on_scales s c X Y d n a = ((λ h. scaled s c X Y d h a), (λ o. common_touch s c (record { X = X; Y = Y; d = d; positive = n; first = o; second = a })))

-- the point of a grid point is that of the segment from it to itself
at_scales : (v : GridPoint) → Scales (At v)
at_scales v c X Y d n a =
    let s : Segment = record { p = v; q = v } in
    ((λ h. same_end c v X Y d a h), (λ h. zero_at s refl c.x c.y 1 ((on_scales s c X Y d n a).1 (scaled s v X Y d (start_on s) h))))

any_scales : (ss : List Segment) → Scales (OnAny ss)
any_scales [] c X Y d n a = ((λ h. h), (λ h. h))
any_scales (s ∷ ss) c X Y d n a =
    let here = on_scales s c X Y d n a in
    let rest = any_scales ss c X Y d n a in
    ((λ h. elim h [ inl k ↦ inl (here.0 k) | inr k ↦ inr (rest.0 k) ]), (λ h. elim h [ inl k ↦ inl (here.1 k) | inr k ↦ inr (rest.1 k) ]))

-- a segment of length zero is covered exactly if its grid point lies on one of the segments
pub point_covered : (ss : List Segment) (t : Segment) → t.p ≡ t.q → Iff (OnAny ss t.p.x t.p.y 1) (Covered ss t)
point_covered ss t z = ((λ h X Y d n o. (any_scales ss t.p X Y d n (zero_at t z X Y d o)).0 h), (λ h. h t.p.x t.p.y 1 (omega arith) (start_on t)))

pub string_scales : (vs : List GridPoint) → Scales (OnString vs)
string_scales [] = any_scales []
string_scales (v ∷ []) = at_scales v
string_scales (v ∷ (w ∷ ws)) = any_scales (chain v (w ∷ ws))

-- ---- the segments of a line string

-- what the segments of a line string cover are points of it
pub covered_on : (vs : List GridPoint) (t : Segment) → Covered (segments vs) t → Subset (On t) (OnString vs)
covered_on [] t k = k
covered_on (v ∷ []) t k = λ X Y d n o. absurd (k X Y d n o)
covered_on (v ∷ (w ∷ ws)) t k = k

-- a longer segment among the points of a line string lies on its segments, as a single vertex is not both its ends
pub longer_covered : (vs : List GridPoint) (t : Segment) → LongerThanZero t → Subset (On t) (OnString vs) → Covered (segments vs) t
longer_covered [] t l h = h
longer_covered (v ∷ []) t l h = absurd (l (at_is t.p v (h t.p.x t.p.y 1 (omega arith) (start_on t)) ∙ sym (at_is t.q v (h t.q.x t.q.y 1 (omega arith) (end_on t)))))
longer_covered (v ∷ (w ∷ ws)) t l h = h

-- each segment lies on all of them together, and each vertex and segment of a line string on it
pub each_covered : (ss : List Segment) → AllByRecursion (Covered ss) ss
each_covered [] = tt
each_covered (s ∷ ss) = ((λ X Y d n o. inl o), All-weaker (Covered ss) (Covered (s ∷ ss)) (λ t k X Y d n o. inr (k X Y d n o)) ss (each_covered ss))

pub each_on_string : (vs : List GridPoint) → AllByRecursion (λ t. Subset (On t) (OnString vs)) (segments vs)
each_on_string vs = All-weaker (Covered (segments vs)) (λ t. Subset (On t) (OnString vs)) (covered_on vs) (segments vs) (each_covered (segments vs))

pub vertices_on : (vs : List GridPoint) → AllByRecursion (λ v. OnString vs v.x v.y 1) vs
vertices_on [] = tt
vertices_on (v ∷ []) = (at_self v, tt)
vertices_on (v ∷ (w ∷ ws)) = (inl (start_on (record { p = v; q = w })), ends v (w ∷ ws))
  where
    ends : (v : GridPoint) (ws : List GridPoint) → AllByRecursion (λ w. OnAny (chain v ws) w.x w.y 1) ws
    ends v [] = tt
    ends v (w ∷ ws) = (inl (end_on (record { p = v; q = w })), All-weaker (λ u. OnAny (chain w ws) u.x u.y 1) (λ u. OnAny (chain v (w ∷ ws)) u.x u.y 1) (λ u k. inr k) ws (ends w ws))

-- ---- longer segments

-- the points of a line string belong to Q if its first vertex does and all its longer segments do
module _ (Q : ℤ → ℤ → ℕ → Type 0) where
  chain_within : (v : GridPoint) (ws : List GridPoint) → Subset (At v) Q → AllByRecursion (λ t. LongerThanZero t → Subset (On t) Q) (chain v ws) → Subset (OnAny (chain v ws)) Q
  chain_within v [] k h X Y d n o = absurd o
  chain_within v (w ∷ ws) k h X Y d n o =
      let t : Segment = record { p = v; q = w } in
      let both : Subset (On t) Q × Subset (At w) Q = elim (equal_or_longer t) [
        | inl e ↦ ((λ X Y d n o. k X Y d n (zero_at t e X Y d o)), subst (λ (g : GridPoint). Subset (At g) Q) e k)
        | inr l ↦ (h.0 l, (λ X Y d n a. h.0 l X Y d n (scaled t w X Y d (end_on t) a)))
      ] in
      elim o [ inl p ↦ both.0 X Y d n p | inr p ↦ chain_within w ws both.1 h.1 X Y d n p ]

  pub string_within : (v : GridPoint) (ws : List GridPoint) → Subset (At v) Q → AllByRecursion (λ t. LongerThanZero t → Subset (On t) Q) (chain v ws) → Subset (OnString (v ∷ ws)) Q
  string_within v [] k h = k
  string_within v (w ∷ ws) k h = chain_within v (w ∷ ws) k h

pub none_longer : (P : Segment → Type 0) (v : GridPoint) (ws : List GridPoint) → AllByRecursion (λ w. v ≡ w) ws → AllByRecursion (λ t. LongerThanZero t → P t) (chain v ws)
none_longer P v [] h = tt
none_longer P v (w ∷ ws) h = ((λ l. absurd (l h.0)), none_longer P w ws (All-weaker (λ u. v ≡ u) (λ u. w ≡ u) (λ u e. sym h.0 ∙ e) ws h.1))

-- the points of equal vertices are those of the first
pub equal_at : (v : GridPoint) (ws : List GridPoint) → AllByRecursion (λ w. v ≡ w) ws → Subset (OnString (v ∷ ws)) (At v)
equal_at v ws h = string_within (At v) v ws (λ X Y d n a. a) (none_longer (λ t. Subset (On t) (At v)) v ws h)

-- the first longer segment of a chain, which starts at the first vertex, as those before it have length zero
pub record FirstLonger (Q : ℤ → ℤ → ℕ → Type 0) (v : GridPoint) (ws : List GridPoint) : Type 0 where
  pub segment : Segment
  pub starts : segment.p ≡ v
  pub longer : LongerThanZero segment
  pub within : Subset (On segment) Q
  pub covered : Covered (chain v ws) segment

pub first_longer : (Q : ℤ → ℤ → ℕ → Type 0) (v : GridPoint) (ws : List GridPoint) → AllByRecursion (λ t. LongerThanZero t → Subset (On t) Q) (chain v ws) → AllByRecursion (λ w. v ≡ w) ws ⊎ FirstLonger Q v ws
first_longer Q v [] h = inl tt
first_longer Q v (w ∷ ws) h =
    let t : Segment = record { p = v; q = w } in
    elim (equal_or_longer t) [
      | inr l ↦ inr (record { segment = t; starts = refl; longer = l; within = h.0 l; covered = λ X Y d n o. inl o })
      | inl e ↦ elim (first_longer Q w ws h.1) [
        | inl k ↦ inl (e, All-weaker (λ u. w ≡ u) (λ u. v ≡ u) (λ u f. e ∙ f) ws k)
        | inr f ↦ inr (record { segment = f.segment; starts = f.starts ∙ sym e; longer = f.longer; within = f.within; covered = λ X Y d n o. inr (f.covered X Y d n o) })
      ]
    ]
