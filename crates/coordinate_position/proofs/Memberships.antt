-- What the answers of shapes mean, and that code whose answers mean the same gives them.
use Rattle.std.proofs.Common.{◌≡◌, Bool, true, false, cond, not, ◌&&◌, ◌||◌, ◌⊎◌, ℤ, pos, ◌<ℤ◌, sym, refl, ◌∙◌, inl, inr}
use lib.Signed.{lt_z}
use Rattle.plane.specs.declared.grid_point.GridPoint.{GridPoint}
use Rattle.plane.specs.declared.orientation.Orientation.{Orientation}
use Rattle.plane.specs.declared.orientation.Orientation.TheVariants.{CounterClockwise, Clockwise, Collinear}
use Rattle.plane.specs.Orient.{det, orientation}
use Rattle.plane.specs.Points.{Segment, Touches, LongerThanZero}
use Rattle.plane.specs.Reflects.{Reflects}
use Rattle.plane.specs.Sets.{Interior, Box, StrictlyInBox}
use Rattle.plane.proofs.Answers.{reflects_same, and_reflects, not_reflects, one_answer, or_reflects}
use Rattle.plane.proofs.Containment.{zero_reflects, at_is, end_not_interior, strictly_held_reflects}
use Rattle.plane.proofs.Orientations.{left_turn, right_turn, left_of, right_of, left_not_collinear, right_not_collinear}
use Rattle.polyline.specs.Tests.{same, touches}
use Rattle.polyline.specs.Segments.{OnAny}
use Rattle.polyline.proofs.Tests.{lt_reflects, same_reflects, touches_reflects, touches_any_reflects}
use Rattle.geometry.specs.Shapes.{sides, outline}
use Rattle.coordinate_position.specs.declared.position.Membership.{Membership}
use Rattle.coordinate_position.specs.Shapes.{Shape, membership, coord_shape, line_shape, box_shape, one_sign, TurnAlike, TurnsAgree, triangle_shape}

-- two memberships with one meaning are equal
pub same_membership : (P Q : Type 0) (m : Membership) (f : Shape) (c : GridPoint) → Reflects m.inside P → Reflects m.odd Q → Reflects (f.inside c) P → Reflects (f.odd c) Q → m ≡ membership f c
same_membership P Q m f c p q u v = λ i. record { inside = one_answer P m.inside (f.inside c) p u i; odd = one_answer Q m.odd (f.odd c) q v i }

-- ---- lines

module _ (s : Segment) (c : GridPoint) where
  -- the grid point is an end of a longer segment
  abbrev pub AtLongerEnd : Type 0
  AtLongerEnd = LongerThanZero s × ((c ≡ s.p) ⊎ (c ≡ s.q))

  end_reflects : Reflects (same s.p c || same s.q c) ((c ≡ s.p) ⊎ (c ≡ s.q))
  end_reflects =
      reflects_same (same s.p c || same s.q c)
      (λ h. elim h [ inl e ↦ inl (sym e) | inr e ↦ inr (sym e) ])
      (λ h. elim h [ inl e ↦ inl (sym e) | inr e ↦ inr (sym e) ])
      (or_reflects (s.p ≡ c) (s.q ≡ c) (same s.p c) (same s.q c) (same_reflects s.p c) (same_reflects s.q c))

  longer_interior_reflects : LongerThanZero s → Reflects (touches s c && not (same s.p c || same s.q c)) (Interior s c.x c.y 1)
  longer_interior_reflects z =
      reflects_same (touches s c && not (same s.p c || same s.q c))
      (λ h. record { on = h.0; no_end = λ e. absurd (h.1 (elim e [ inl a ↦ inl (at_is c s.p a) | inr a ↦ inr (at_is c s.q a) ])) })
      (λ i. (i.on, λ e. end_not_interior s c z e i))
      (and_reflects (Touches s c) ((c ≡ s.p) ⊎ (c ≡ s.q) → ⊥) (touches s c) (not (same s.p c || same s.q c)) (touches_reflects s c)
      (not_reflects ((c ≡ s.p) ⊎ (c ≡ s.q)) (same s.p c || same s.q c) end_reflects))

  abbrev longer_shape : Shape
  longer_shape = record { inside = λ c. touches s c && not (same s.p c || same s.q c); odd = λ c. same s.p c || same s.q c }

  inside_by : (t : Bool) → Reflects t (s.p ≡ s.q) → Reflects ((cond t (coord_shape s.p) longer_shape).inside c) (Interior s c.x c.y 1)
  inside_by true z = zero_reflects (same s.p c) s c z (same_reflects s.p c)
  inside_by false n = longer_interior_reflects n

  odd_by : (t : Bool) → Reflects t (s.p ≡ s.q) → Reflects ((cond t (coord_shape s.p) longer_shape).odd c) AtLongerEnd
  odd_by true z = λ h. h.0 z
  odd_by false n = reflects_same (same s.p c || same s.q c) (λ h. (n, h)) (λ h. h.1) end_reflects

  pub line_inside : Reflects ((line_shape s).inside c) (Interior s c.x c.y 1)
  line_inside = inside_by (same s.p s.q) (same_reflects s.p s.q)

  pub line_odd : Reflects ((line_shape s).odd c) AtLongerEnd
  line_odd = odd_by (same s.p s.q) (same_reflects s.p s.q)

  pub line_membership : (m : Membership) → Reflects m.inside (Interior s c.x c.y 1) → Reflects m.odd AtLongerEnd → m ≡ membership (line_shape s) c
  line_membership m p q = same_membership (Interior s c.x c.y 1) AtLongerEnd m (line_shape s) c p q line_inside line_odd

-- ---- rectangles

module _ (r : Box) (c : GridPoint) where
  strictly_reflects : Reflects ((box_shape r).inside c) (StrictlyInBox r c.x c.y 1)
  strictly_reflects =
      strictly_held_reflects ((box_shape r).inside c) r c
      (reflects_same ((box_shape r).inside c) (λ h. (h.0.0, h.0.1, h.1.0, h.1.1)) (λ h. ((h.0, h.1), (h.2, h.3)))
      (and_reflects ((r.min.x <ℤ c.x) × (c.x <ℤ r.max.x)) ((r.min.y <ℤ c.y) × (c.y <ℤ r.max.y)) (lt_z r.min.x c.x && lt_z c.x r.max.x) (lt_z r.min.y c.y && lt_z c.y r.max.y)
      (and_reflects (r.min.x <ℤ c.x) (c.x <ℤ r.max.x) (lt_z r.min.x c.x) (lt_z c.x r.max.x) (lt_reflects r.min.x c.x) (lt_reflects c.x r.max.x))
      (and_reflects (r.min.y <ℤ c.y) (c.y <ℤ r.max.y) (lt_z r.min.y c.y) (lt_z c.y r.max.y) (lt_reflects r.min.y c.y) (lt_reflects c.y r.max.y))))

  pub box_membership : (m : Membership) → Reflects m.inside (StrictlyInBox r c.x c.y 1) → Reflects m.odd (OnAny (outline r) c.x c.y 1) → m ≡ membership (box_shape r) c
  box_membership m p q = same_membership (StrictlyInBox r c.x c.y 1) (OnAny (outline r) c.x c.y 1) m (box_shape r) c p q strictly_reflects (touches_any_reflects (outline r) c)

-- ---- triangles

module _ (a b c : ℤ) where
  abbrev OneSign : Type 0
  OneSign = ((pos 0 <ℤ a) × ((pos 0 <ℤ b) × (pos 0 <ℤ c))) ⊎ ((a <ℤ pos 0) × ((b <ℤ pos 0) × (c <ℤ pos 0)))

  sign_turns : OneSign → TurnAlike (orientation a) (orientation b) (orientation c)
  sign_turns (inl h) =
      let e = left_turn a h.0 in
      let f = left_turn b h.1.0 in
      (sym e ∙ f, sym f ∙ left_turn c h.1.1, λ n. left_not_collinear (e ∙ n))
  sign_turns (inr h) =
      let e = right_turn a h.0 in
      let f = right_turn b h.1.0 in
      (sym e ∙ f, sym f ∙ right_turn c h.1.1, λ n. right_not_collinear (e ∙ n))

  turns_sign : TurnAlike (orientation a) (orientation b) (orientation c) → OneSign
  turns_sign h = go (orientation a) refl
    where
      go : (o : Orientation) → orientation a ≡ o → OneSign
      go CounterClockwise e = inl (left_of a e, (left_of b (sym h.0 ∙ e), left_of c (sym h.1 ∙ sym h.0 ∙ e)))
      go Clockwise e = inr (right_of a e, (right_of b (sym h.0 ∙ e), right_of c (sym h.1 ∙ sym h.0 ∙ e)))
      go Collinear e = absurd (h.2 e)

  one_sign_reflects : Reflects (one_sign a b c) (TurnAlike (orientation a) (orientation b) (orientation c))
  one_sign_reflects =
      reflects_same (one_sign a b c) sign_turns turns_sign
      (or_reflects ((pos 0 <ℤ a) × ((pos 0 <ℤ b) × (pos 0 <ℤ c))) ((a <ℤ pos 0) × ((b <ℤ pos 0) × (c <ℤ pos 0))) (lt_z (pos 0) a && (lt_z (pos 0) b && lt_z (pos 0) c)) (lt_z a (pos 0) && (lt_z b (pos 0) && lt_z c (pos 0)))
      (and_reflects (pos 0 <ℤ a) ((pos 0 <ℤ b) × (pos 0 <ℤ c)) (lt_z (pos 0) a) (lt_z (pos 0) b && lt_z (pos 0) c) (lt_reflects (pos 0) a) (and_reflects (pos 0 <ℤ b) (pos 0 <ℤ c) (lt_z (pos 0) b) (lt_z (pos 0) c) (lt_reflects (pos 0) b) (lt_reflects (pos 0) c)))
      (and_reflects (a <ℤ pos 0) ((b <ℤ pos 0) × (c <ℤ pos 0)) (lt_z a (pos 0)) (lt_z b (pos 0) && lt_z c (pos 0)) (lt_reflects a (pos 0)) (and_reflects (b <ℤ pos 0) (c <ℤ pos 0) (lt_z b (pos 0)) (lt_z c (pos 0)) (lt_reflects b (pos 0)) (lt_reflects c (pos 0)))))

module _ (u v w c : GridPoint) where
  pub triangle_membership : (m : Membership) → Reflects m.inside (TurnsAgree u v w c) → Reflects m.odd (OnAny (sides u v w) c.x c.y 1) → m ≡ membership (triangle_shape u v w) c
  triangle_membership m p q = same_membership (TurnsAgree u v w c) (OnAny (sides u v w) c.x c.y 1) m (triangle_shape u v w) c p q (one_sign_reflects (det u v c) (det v w c) (det w u c)) (touches_any_reflects (sides u v w) c)
