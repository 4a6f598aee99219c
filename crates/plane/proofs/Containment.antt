-- Which shapes hold others: every point of the inner is one of the outer, and some point of it is in the outer's interior.
use Rattle.std.proofs.Common.{◌≡◌, ℕ, Bool, ◌⊎◌, ℤ, pos, ◌+ℤ◌, ◌-ℤ◌, ◌*ℤ◌, ◌≤ℤ◌, ◌<ℤ◌, sym, ap, ◌∙◌, subst, subst₂, inl, inr, arith}
use Rattle.std.proofs.lemmas.Int.{ints, by_lt_z}
use Rattle.plane.specs.declared.grid_point.GridPoint.{GridPoint}
use Rattle.plane.specs.Reflects.{Reflects, Iff}
use Rattle.plane.specs.Points.{Segment, On, Between, Touches, LongerThanZero}
use Rattle.plane.specs.Sets.{Common, Subset, At, Interior, ContainsByEnds, Box, InBox, StrictlyInBox, WithinBounds}
use Rattle.plane.proofs.Terms.{Ordered, Into}
use Rattle.plane.proofs.Integers.{ring, lin, le_mul, cancel_eq, one_mul}
use Rattle.plane.proofs.Answers.{reflects_same}
use Rattle.plane.proofs.Division.{part, on_at}
use Rattle.plane.proofs.Boxes.{cancel_denominator_lt, bounds_subset, subset_bounds, into_common, common_into}
use Rattle.plane.proofs.Collinear.{same_point, start_on, end_on}
use Rattle.plane.proofs.Segments.{at_self, common_touch}

-- ---- a segment over a grid point

-- a grid point that is a point of the segment is one at any denominator
pub scaled : (s : Segment) (c : GridPoint) (X Y : ℤ) (d : ℕ) → Touches s c → At c X Y d → On s X Y d
scaled s c X Y d h a = subst₂ (λ (u v : ℤ). On s u v d) (sym a.at_x) (sym a.at_y) up
  where
    stretch : (a b v : ℤ) → Between v (pos 1 *ℤ a) (pos 1 *ℤ b) → Between (pos d *ℤ v) (pos d *ℤ a) (pos d *ℤ b)
    stretch a b v k = elim (simp one_mul at k) [
      | inl h ↦ inl (le_mul (pos d) a v (omega (arith, ints)) h.0, le_mul (pos d) v b (omega (arith, ints)) h.1)
      | inr h ↦ inr (le_mul (pos d) b v (omega (arith, ints)) h.0, le_mul (pos d) v a (omega (arith, ints)) h.1)
    ]

    slope : (dx dy px py x y d : ℤ) → dx *ℤ (y -ℤ pos 1 *ℤ py) ≡ dy *ℤ (x -ℤ pos 1 *ℤ px) → dx *ℤ (d *ℤ y -ℤ d *ℤ py) ≡ dy *ℤ (d *ℤ x -ℤ d *ℤ px)
    slope dx dy px py x y d e = simp ring (omega (arith, lin, simp ring at (ap (λ (z : ℤ). d *ℤ z) (simp one_mul at e))))

    up : On s (pos d *ℤ c.x) (pos d *ℤ c.y) d
    up = record {
      line = slope (s.q.x -ℤ s.p.x) (s.q.y -ℤ s.p.y) s.p.x s.p.y c.x c.y (pos d) h.line;
      in_x = stretch s.p.x s.q.x c.x h.in_x;
      in_y = stretch s.p.y s.q.y c.y h.in_y;
    }

-- an end that a grid point is, at any denominator
pub same_end : (c e : GridPoint) (X Y : ℤ) (d : ℕ) → At c X Y d → At e c.x c.y 1 → At e X Y d
same_end c e X Y d a b =
    let x : c.x ≡ e.x = simp one_mul at b.at_x in
    let y : c.y ≡ e.y = simp one_mul at b.at_y in
    record { at_x = a.at_x ∙ ap (λ (z : ℤ). pos d *ℤ z) x; at_y = a.at_y ∙ ap (λ (z : ℤ). pos d *ℤ z) y }

pub coord_interior : (s : Segment) (c : GridPoint) → Common (At c) (Interior s) → Interior s c.x c.y 1
coord_interior s c m = record {
  on = common_touch s c (record { X = m.X; Y = m.Y; d = m.d; positive = m.positive; first = m.second.on; second = m.first });
  no_end = λ e. m.second.no_end (elim e [ inl a ↦ inl (same_end c s.p m.X m.Y m.d m.first a) | inr a ↦ inr (same_end c s.q m.X m.Y m.d m.first a) ]);
}

-- a grid point is in the interior exactly if its points are on the segment and one of them is in the interior
pub coord_reflects : (r : Bool) (s : Segment) (c : GridPoint) → Reflects r (Interior s c.x c.y 1) → Reflects r (Subset (At c) (On s) × Common (At c) (Interior s))
coord_reflects r s c h =
    reflects_same r
    (λ i. ((λ X Y d n a. scaled s c X Y d i.on a), record { X = c.x; Y = c.y; d = 1; positive = omega arith; first = at_self c; second = i }))
    (λ b. coord_interior s c b.1)
    h

pub at_is : (c e : GridPoint) → At e c.x c.y 1 → c ≡ e
at_is c e a = same_point c e (simp one_mul at a.at_x) (simp one_mul at a.at_y)

narrow : (v a b : ℤ) → a ≡ b → Between v (pos 1 *ℤ a) (pos 1 *ℤ b) → v ≡ a
narrow v a b e k = let h : Between v a b = simp one_mul at k in omega (arith, lin, h)

-- of a segment of length zero, its grid point
pub zero_reflects : (r : Bool) (s : Segment) (c : GridPoint) → s.p ≡ s.q → Reflects r (s.p ≡ c) → Reflects r (Interior s c.x c.y 1)
zero_reflects r s c z h =
    reflects_same r
    (λ e. subst (λ (g : GridPoint). Interior s g.x g.y 1) e (record { on = start_on s; no_end = λ _. z }))
    (λ i. sym (same_point c s.p (narrow c.x s.p.x s.q.x (ap (λ (g : GridPoint). g.x) z) i.on.in_x) (narrow c.y s.p.y s.q.y (ap (λ (g : GridPoint). g.y) z) i.on.in_y)))
    h

-- of a longer one, a grid point that touches it and is none of its ends
pub longer_reflects : (r : Bool) (s : Segment) (c : GridPoint) → LongerThanZero s → (c ≡ s.p → ⊥) → (c ≡ s.q → ⊥) → Reflects r (Touches s c) → Reflects r (Interior s c.x c.y 1)
longer_reflects r s c z m n h =
    reflects_same r
    (λ o. record { on = o; no_end = λ e. absurd (elim e [ inl a ↦ m (at_is c s.p a) | inr a ↦ n (at_is c s.q a) ]) })
    (λ i. i.on)
    h

pub end_not_interior : (s : Segment) (c : GridPoint) → LongerThanZero s → (c ≡ s.p) ⊎ (c ≡ s.q) → Interior s c.x c.y 1 → ⊥
end_not_interior s c z (inl e) i = z (i.no_end (inl (subst (λ (g : GridPoint). At g c.x c.y 1) e (at_self c))))
end_not_interior s c z (inr e) i = z (i.no_end (inr (subst (λ (g : GridPoint). At g c.x c.y 1) e (at_self c))))

-- ---- a segment over a segment

-- between two numbers that lie between a and b
nested : (d a b u v X : ℤ) → pos 0 ≤ℤ d → Between u a b → Between v a b → Between X (d *ℤ u) (d *ℤ v) → Between X (d *ℤ a) (d *ℤ b)
nested d a b u v X z h k m =
    by_lt_z a b
    (λ l. inl (omega (arith, lin, m, le_mul d a u z (omega (arith, lin, h)), le_mul d a v z (omega (arith, lin, k))), omega (arith, lin, m, le_mul d u b z (omega (arith, lin, h)), le_mul d v b z (omega (arith, lin, k)))))
    (λ l. inr (omega (arith, lin, m, le_mul d b u z (omega (arith, lin, h)), le_mul d b v z (omega (arith, lin, k))), omega (arith, lin, m, le_mul d u a z (omega (arith, lin, h)), le_mul d v a z (omega (arith, lin, k)))))

-- the line through two points of the line of s
slope_between : (dx dy px py ax ay bx by X Y d e k : ℤ) → dx *ℤ (ay -ℤ py) ≡ dy *ℤ (ax -ℤ px) → dx *ℤ (by -ℤ py) ≡ dy *ℤ (bx -ℤ px) → e *ℤ (X -ℤ d *ℤ ax) ≡ k *ℤ (bx -ℤ ax) → e *ℤ (Y -ℤ d *ℤ ay) ≡ k *ℤ (by -ℤ ay) → e *ℤ (dx *ℤ (Y -ℤ d *ℤ py)) ≡ e *ℤ (dy *ℤ (X -ℤ d *ℤ px))
slope_between dx dy px py ax ay bx by X Y d e k ha hb hx hy =
    simp ring (omega (arith, lin, simp ring at (ap (λ (z : ℤ). dx *ℤ z) hy), simp ring at (ap (λ (z : ℤ). dy *ℤ z) hx), simp ring at (ap (λ (z : ℤ). (d *ℤ e) *ℤ z) ha), simp ring at (ap (λ (z : ℤ). k *ℤ z) ha), simp ring at (ap (λ (z : ℤ). k *ℤ z) hb)))

-- every point of a segment whose ends touch another lies on it
pub convex : (s t : Segment) → Touches s t.p → Touches s t.q → Subset (On t) (On s)
convex s t h k X Y d n o =
    let c = part t X Y d o in
    let z : pos 0 ≤ℤ pos d = omega (arith, ints) in
    record {
      line = cancel_eq c.e _ _ c.positive (slope_between (s.q.x -ℤ s.p.x) (s.q.y -ℤ s.p.y) s.p.x s.p.y t.p.x t.p.y t.q.x t.q.y X Y (pos d) c.e c.k (simp one_mul at h.line) (simp one_mul at k.line) c.is_x c.is_y);
      in_x = nested (pos d) s.p.x s.q.x t.p.x t.q.x X z (simp one_mul at h.in_x) (simp one_mul at k.in_x) o.in_x;
      in_y = nested (pos d) s.p.y s.q.y t.p.y t.q.y Y z (simp one_mul at h.in_y) (simp one_mul at k.in_y) o.in_y;
    }

-- Both ends touch exactly if every point does.
pub ends_are_points : (s t : Segment) → Iff (Touches s t.p × Touches s t.q) (Subset (On t) (On s))
ends_are_points s t = ((λ h. convex s t h.0 h.1), (λ h. (h t.p.x t.p.y 1 (omega arith) (start_on t), h t.q.x t.q.y 1 (omega arith) (end_on t))))

-- two numbers between a and b whose middle is a, or b, are equal
squeezed : (a b u v : ℤ) → Between u a b → Between v a b → (u +ℤ v ≡ pos 2 *ℤ a) ⊎ (u +ℤ v ≡ pos 2 *ℤ b) → u ≡ v
squeezed a b u v h k (inl e) = by_lt_z a b (λ l. omega (arith, ints, h, k)) (λ l. omega (arith, ints, h, k))
squeezed a b u v h k (inr e) = by_lt_z a b (λ l. omega (arith, ints, h, k)) (λ l. omega (arith, ints, h, k))

-- the middle of a segment
pub middle_on : (t : Segment) → On t (t.p.x +ℤ t.q.x) (t.p.y +ℤ t.q.y) 2
middle_on t = on_at t _ _ 2 (pos 1) (omega (arith, ints)) (omega (arith, ints)) (half t.p.x t.q.x) (half t.p.y t.q.y)
  where
    half : (a b : ℤ) → (a +ℤ b) -ℤ pos 2 *ℤ a ≡ pos 1 *ℤ (b -ℤ a)
    half a b = omega (arith, ints)

-- the middle of a longer segment whose ends touch another is in the other's interior
pub middle_interior : (s t : Segment) → LongerThanZero t → Touches s t.p → Touches s t.q → Interior s (t.p.x +ℤ t.q.x) (t.p.y +ℤ t.q.y) 2
middle_interior s t n h k = record { on = convex s t h k _ _ 2 (omega arith) (middle_on t); no_end = λ e. absurd (n (same_point t.p t.q (x e) (y e))) }
  where
    x : At s.p (t.p.x +ℤ t.q.x) (t.p.y +ℤ t.q.y) 2 ⊎ At s.q (t.p.x +ℤ t.q.x) (t.p.y +ℤ t.q.y) 2 → t.p.x ≡ t.q.x
    x e = squeezed s.p.x s.q.x t.p.x t.q.x (simp one_mul at h.in_x) (simp one_mul at k.in_x) (elim e [ inl a ↦ inl a.at_x | inr a ↦ inr a.at_x ])

    y : At s.p (t.p.x +ℤ t.q.x) (t.p.y +ℤ t.q.y) 2 ⊎ At s.q (t.p.x +ℤ t.q.x) (t.p.y +ℤ t.q.y) 2 → t.p.y ≡ t.q.y
    y e = squeezed s.p.y s.q.y t.p.y t.q.y (simp one_mul at h.in_y) (simp one_mul at k.in_y) (elim e [ inl a ↦ inl a.at_y | inr a ↦ inr a.at_y ])

-- the points of a segment of length zero are those of its grid point
pub zero_at : (t : Segment) → t.p ≡ t.q → (X Y : ℤ) (d : ℕ) → On t X Y d → At t.p X Y d
zero_at t z X Y d o = record { at_x = one t.p.x t.q.x X (ap (λ (g : GridPoint). g.x) z) o.in_x; at_y = one t.p.y t.q.y Y (ap (λ (g : GridPoint). g.y) z) o.in_y }
  where
    one : (a b v : ℤ) → a ≡ b → Between v (pos d *ℤ a) (pos d *ℤ b) → v ≡ pos d *ℤ a
    one a b v e h = omega (arith, lin, h, ap (λ (z : ℤ). pos d *ℤ z) e)

-- The rule by the ends says that every point of t lies on s, and that one of them is in its interior.
pub ends_contain : (s t : Segment) → ContainsByEnds s t → (t.p ≡ t.q) ⊎ LongerThanZero t → Subset (On t) (On s) × Common (On t) (Interior s)
ends_contain s t h (inl z) =
    let i = h.point z in
    ((λ X Y d n o. scaled s t.p X Y d i.on (zero_at t z X Y d o)), record { X = t.p.x; Y = t.p.y; d = 1; positive = omega arith; first = start_on t; second = i })
ends_contain s t h (inr n) =
    let e = h.longer n in
    (convex s t e.0 e.1, record { X = _; Y = _; d = 2; positive = omega arith; first = middle_on t; second = middle_interior s t n e.0 e.1 })

pub contain_ends : (s t : Segment) → Subset (On t) (On s) × Common (On t) (Interior s) → ContainsByEnds s t
contain_ends s t b = record {
  point = λ z. let m = b.1 in back z m;
  longer = λ n. (ends_are_points s t).1 b.0;
}
  where
    back : t.p ≡ t.q → Common (On t) (Interior s) → Interior s t.p.x t.p.y 1
    back z m = coord_interior s t.p (record { X = m.X; Y = m.Y; d = m.d; positive = m.positive; first = zero_at t z m.X m.Y m.d m.first; second = m.second })

-- ---- a box over a grid point and over a box

pub box_coord_contains : (b : Bool) (r : Box) (c : GridPoint) → Reflects b (StrictlyInBox r c.x c.y 1) → Reflects b (Subset (At c) (InBox r) × Common (At c) (StrictlyInBox r))
box_coord_contains b r c h =
    reflects_same b
    (λ k. (inside k, record { X = c.x; Y = c.y; d = 1; positive = omega arith; first = at_self c; second = k }))
    (λ e. let m = e.1 in record {
      left = simp one_mul (cancel_denominator_lt m.d r.min.x c.x m.positive (omega (arith, lin, m.second.left, m.first.at_x)));
      right = simp one_mul (cancel_denominator_lt m.d c.x r.max.x m.positive (omega (arith, lin, m.second.right, m.first.at_x)));
      under = simp one_mul (cancel_denominator_lt m.d r.min.y c.y m.positive (omega (arith, lin, m.second.under, m.first.at_y)));
      over = simp one_mul (cancel_denominator_lt m.d c.y r.max.y m.positive (omega (arith, lin, m.second.over, m.first.at_y)));
    })
    h
  where
    inside : StrictlyInBox r c.x c.y 1 → Subset (At c) (InBox r)
    inside k X Y d o i =
        let z : pos 0 ≤ℤ pos d = omega (arith, ints) in
        let l : r.min.x <ℤ c.x = simp one_mul at k.left in
        let m : c.x <ℤ r.max.x = simp one_mul at k.right in
        let n : r.min.y <ℤ c.y = simp one_mul at k.under in
        let p : c.y <ℤ r.max.y = simp one_mul at k.over in
        record {
          left = omega (arith, lin, i.at_x, le_mul (pos d) r.min.x c.x z (omega (arith, lin)));
          right = omega (arith, lin, i.at_x, le_mul (pos d) c.x r.max.x z (omega (arith, lin)));
          under = omega (arith, lin, i.at_y, le_mul (pos d) r.min.y c.y z (omega (arith, lin)));
          over = omega (arith, lin, i.at_y, le_mul (pos d) c.y r.max.y z (omega (arith, lin)));
        }

-- strictly within, by comparisons
abbrev pub StrictlyHeld : Box → GridPoint → Type 0
StrictlyHeld r c = (r.min.x <ℤ c.x) × (c.x <ℤ r.max.x) × (r.min.y <ℤ c.y) × (c.y <ℤ r.max.y)

pub strictly_held_reflects : (b : Bool) (r : Box) (c : GridPoint) → Reflects b (StrictlyHeld r c) → Reflects b (StrictlyInBox r c.x c.y 1)
strictly_held_reflects b r c h =
    reflects_same b
    (λ k. record { left = simp one_mul k.0; right = simp one_mul k.1; under = simp one_mul k.2; over = simp one_mul k.3 })
    (λ k. (simp one_mul at k.left, simp one_mul at k.right, simp one_mul at k.under, simp one_mul at k.over))
    h

-- closed bounds within closed bounds, and a point strictly within: by comparisons
pub bounds_reflect : (b : Bool) (r q : Box) → Ordered q → WithinBounds r q → Reflects b (Into r q) → Reflects b (WithinBounds r q × Common (InBox q) (StrictlyInBox r))
bounds_reflect b r q u o h = reflects_same b (λ i. (o, into_common r q u o i)) (λ c. common_into r q c.1) h

-- The closed bounds lie within exactly if every point does.
pub bounds_are_points : (r q : Box) → Ordered q → Iff (WithinBounds r q) (Subset (InBox q) (InBox r))
bounds_are_points r q u = (bounds_subset r q, subset_bounds r q u)

pub bounds_points : (b : Bool) (r q : Box) → Ordered q → Reflects b (WithinBounds r q × Common (InBox q) (StrictlyInBox r)) → Reflects b (Subset (InBox q) (InBox r) × Common (InBox q) (StrictlyInBox r))
bounds_points b r q u h = let i = bounds_are_points r q u in reflects_same b (λ k. (i.0 k.0, k.1)) (λ k. (i.1 k.0, k.1)) h
