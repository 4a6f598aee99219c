-- The grid points on the outline of a box: those of the box that are not strictly within.
use Rattle.std.proofs.Common.{◌≡◌, Bool, true, false, ℤ, pos, ◌-ℤ◌, ◌*ℤ◌, ap, inl, inr, arith}
use Rattle.std.proofs.lemmas.Int.{by_lt_z}
use Rattle.plane.specs.declared.grid_point.GridPoint.{GridPoint}
use Rattle.plane.specs.Points.{Segment, On, Between}
use Rattle.plane.specs.Reflects.{Reflects}
use Rattle.plane.specs.Sets.{Common, At, Box, InBox, StrictlyInBox}
use Rattle.plane.proofs.Answers.{reflects_same}
use Rattle.plane.proofs.Boxes.{common_overlap}
use Rattle.plane.proofs.Collinear.{ranges_on, on_ranges}
use Rattle.plane.proofs.Containment.{StrictlyHeld, strictly_held_reflects}
use Rattle.plane.proofs.Integers.{ring, lin}
use Rattle.plane.proofs.Rectangles.{Held, box_coord_reflects}
use Rattle.plane.proofs.Terms.{Ordered}
use Rattle.polyline.specs.Segments.{OnAny}
use Rattle.geometry.specs.Shapes.{outline}

-- ---- a segment along an axis

alone : (a v : ℤ) → Between v a a → v ≡ a
alone a v h = omega (arith, lin, h)

itself : (a v : ℤ) → v ≡ a → Between v a a
itself a v e = inl (omega (arith, lin), omega (arith, lin))

abbrev upright : ℤ → ℤ → ℤ → Segment
upright a b e = record { p = record { x = a; y = b }; q = record { x = a; y = e } }

abbrev level : ℤ → ℤ → ℤ → Segment
level b a e = record { p = record { x = a; y = b }; q = record { x = e; y = b } }

-- v is a, so that both products of the determinant are 0
no_side : (a b e v w : ℤ) → v ≡ a → (a -ℤ a) *ℤ (w -ℤ b) -ℤ (e -ℤ b) *ℤ (v -ℤ a) ≡ pos 0
no_side a b e v w h = simp ring (omega (arith, lin, simp ring at (ap (λ (z : ℤ). (e -ℤ b) *ℤ z) h)))

module _ (a b e x y : ℤ) where
  on_upright : x ≡ a → Between y b e → On (upright a b e) x y 1
  on_upright h k = ranges_on (upright a b e) x y (no_side a b e x y h) (itself a x h, k)

  upright_on : On (upright a b e) x y 1 → (x ≡ a) × Between y b e
  upright_on o = let h = on_ranges (upright a b e) x y o in (alone a x h.0, h.1)

  on_level : y ≡ b → Between x a e → On (level b a e) x y 1
  on_level h k = ranges_on (level b a e) x y (omega (arith, lin, no_side b a e y x h)) (k, itself b y h)

  level_on : On (level b a e) x y 1 → (y ≡ b) × Between x a e
  level_on o = let h = on_ranges (level b a e) x y o in (alone b y h.1, h.0)

-- ---- the outline

module _ (r : Box) (c : GridPoint) where
  held_outline : Held r c → (StrictlyHeld r c → ⊥) → OnAny (outline r) c.x c.y 1
  held_outline h n =
      by_lt_z c.x r.max.x
      (λ k. by_lt_z c.y r.max.y
      (λ l. by_lt_z r.min.x c.x
      (λ m. by_lt_z r.min.y c.y
      (λ o. absurd (n (m, k, o, l)))
      (λ e. inr (inr (inr (inl (on_level r.min.x r.min.y r.max.x c.x c.y (omega (arith, lin)) (inl (h.0, h.1))))))))
      (λ e. inr (inr (inl (on_upright r.min.x r.max.y r.min.y c.x c.y (omega (arith, lin)) (inr (h.2, h.3)))))))
      (λ e. inr (inl (on_level r.max.x r.max.y r.min.x c.x c.y (omega (arith, lin)) (inr (h.0, h.1))))))
      (λ e. inl (on_upright r.max.x r.min.y r.max.y c.x c.y (omega (arith, lin)) (inl (h.2, h.3))))

  right_held : Ordered r → (c.x ≡ r.max.x) × Between c.y r.min.y r.max.y → Held r c × (StrictlyHeld r c → ⊥)
  right_held u h = ((omega (arith, lin), omega (arith, lin), omega (arith, lin, h.1), omega (arith, lin, h.1)), λ k. omega (arith, lin))

  top_held : Ordered r → (c.y ≡ r.max.y) × Between c.x r.max.x r.min.x → Held r c × (StrictlyHeld r c → ⊥)
  top_held u h = ((omega (arith, lin, h.1), omega (arith, lin, h.1), omega (arith, lin), omega (arith, lin)), λ k. omega (arith, lin))

  left_held : Ordered r → (c.x ≡ r.min.x) × Between c.y r.max.y r.min.y → Held r c × (StrictlyHeld r c → ⊥)
  left_held u h = ((omega (arith, lin), omega (arith, lin), omega (arith, lin, h.1), omega (arith, lin, h.1)), λ k. omega (arith, lin))

  bottom_held : Ordered r → (c.y ≡ r.min.y) × Between c.x r.min.x r.max.x → Held r c × (StrictlyHeld r c → ⊥)
  bottom_held u h = ((omega (arith, lin, h.1), omega (arith, lin, h.1), omega (arith, lin), omega (arith, lin)), λ k. omega (arith, lin))

  outline_held : Ordered r → OnAny (outline r) c.x c.y 1 → Held r c × (StrictlyHeld r c → ⊥)
  outline_held u o = elim o [
    | inl s ↦ right_held u (upright_on r.max.x r.min.y r.max.y c.x c.y s)
    | inr o ↦ elim o [
      | inl s ↦ top_held u (level_on r.max.x r.max.y r.min.x c.x c.y s)
      | inr o ↦ elim o [
        | inl s ↦ left_held u (upright_on r.min.x r.max.y r.min.y c.x c.y s)
        | inr o ↦ elim o [
          | inl s ↦ bottom_held u (level_on r.min.x r.min.y r.max.x c.x c.y s)
          | inr o ↦ absurd o
        ]
      ]
    ]
  ]

  common_held : Common (InBox r) (At c) → Held r c
  common_held m =
      let i : InBox (record { min = c; max = c }) m.X m.Y m.d = record { left = omega (arith, lin, m.second.at_x); right = omega (arith, lin, m.second.at_x); under = omega (arith, lin, m.second.at_y); over = omega (arith, lin, m.second.at_y) } in
      let o = common_overlap r (record { min = c; max = c }) (record { X = m.X; Y = m.Y; d = m.d; positive = m.positive; first = m.first; second = i }) in
      (o.2, o.0, o.3, o.1)

  -- strictly within is on no side
  pub strictly_not_outline : Ordered r → StrictlyInBox r c.x c.y 1 → OnAny (outline r) c.x c.y 1 → ⊥
  strictly_not_outline u i o = strictly_held_reflects false r c (outline_held u o).1 i

  -- what is not strictly within is on a side exactly if it is in the box
  pub outline_reflects : (b : Bool) → Ordered r → (StrictlyInBox r c.x c.y 1 → ⊥) → Reflects b (Common (InBox r) (At c)) → Reflects b (OnAny (outline r) c.x c.y 1)
  outline_reflects b u n h =
      reflects_same b
      (λ m. held_outline (common_held m) (λ k. n (strictly_held_reflects true r c k)))
      (λ o. box_coord_reflects true r c (outline_held u o).0)
      h
