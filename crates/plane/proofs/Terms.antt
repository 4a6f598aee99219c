-- Terms that the proofs share and no contract speaks of.
use Rattle.std.proofs.Common.{◌≡◌, ◌⊎◌, ℤ, pos, ◌-ℤ◌, ◌*ℤ◌, neg_ℤ, ◌≤ℤ◌, ◌<ℤ◌}
use Rattle.plane.specs.Points.{Segment, On}
use Rattle.plane.specs.Sets.{Common, Box}

-- two segments have a point in common
abbrev pub Meet : Segment → Segment → Type 0
Meet s t = Common (On s) (On t)

-- both ends of t lie on the line through s
pub record Along (s t : Segment) : Type 0 where
  pub at_p : (s.q.x -ℤ s.p.x) *ℤ (t.p.y -ℤ s.p.y) ≡ (s.q.y -ℤ s.p.y) *ℤ (t.p.x -ℤ s.p.x)
  pub at_q : (s.q.x -ℤ s.p.x) *ℤ (t.q.y -ℤ s.p.y) ≡ (s.q.y -ℤ s.p.y) *ℤ (t.q.x -ℤ s.p.x)

-- twice the signed area of the triangle of s and (x, y): positive on the left of s
abbrev pub side : Segment → ℤ → ℤ → ℤ
side s x y = (s.q.x -ℤ s.p.x) *ℤ (y -ℤ s.p.y) -ℤ (s.q.y -ℤ s.p.y) *ℤ (x -ℤ s.p.x)

-- the other end first
abbrev pub reversed : Segment → Segment
reversed s = record { p = s.q; q = s.p }

-- the other coordinate first
abbrev pub transposed : Segment → Segment
transposed s = record { p = record { x = s.p.y; y = s.p.x }; q = record { x = s.q.y; y = s.q.x } }

-- y downwards
abbrev pub mirrored : Segment → Segment
mirrored s = record { p = record { x = s.p.x; y = neg_ℤ s.p.y }; q = record { x = s.q.x; y = neg_ℤ s.q.y } }

-- the corners of a box are in order
abbrev pub Ordered : Box → Type 0
Ordered r = (r.min.x ≤ℤ r.max.x) × (r.min.y ≤ℤ r.max.y)

abbrev pub transposed_box : Box → Box
transposed_box r = record { min = record { x = r.min.y; y = r.min.x }; max = record { x = r.max.y; y = r.max.x } }

abbrev pub mirrored_box : Box → Box
mirrored_box r = record { min = record { x = r.min.x; y = neg_ℤ r.max.y }; max = record { x = r.max.x; y = neg_ℤ r.min.y } }

-- the range from lo to hi and that of p and q overlap
abbrev pub RangesOverlap : ℤ → ℤ → ℤ → ℤ → Type 0
RangesOverlap lo hi p q = ((lo ≤ℤ p) ⊎ (lo ≤ℤ q)) × ((p ≤ℤ hi) ⊎ (q ≤ℤ hi))

-- the ranges of a box and a segment overlap
abbrev pub Overlapping : Box → Segment → Type 0
Overlapping r s = RangesOverlap r.min.x r.max.x s.p.x s.q.x × RangesOverlap r.min.y r.max.y s.p.y s.q.y

-- all four corners lie strictly on one side of the segment's line
abbrev pub OneSide : Segment → Box → Type 0
OneSide s r =
    ((pos 0 <ℤ side s r.min.x r.min.y) × (pos 0 <ℤ side s r.max.x r.min.y) × (pos 0 <ℤ side s r.max.x r.max.y) × (pos 0 <ℤ side s r.min.x r.max.y))
    ⊎ ((side s r.min.x r.min.y <ℤ pos 0) × (side s r.max.x r.min.y <ℤ pos 0) × (side s r.max.x r.max.y <ℤ pos 0) × (side s r.min.x r.max.y <ℤ pos 0))

-- the ranges of two boxes overlap
abbrev pub Overlap : Box → Box → Type 0
Overlap a b = (b.min.x ≤ℤ a.max.x) × (b.min.y ≤ℤ a.max.y) × (a.min.x ≤ℤ b.max.x) × (a.min.y ≤ℤ b.max.y)

-- b reaches into the inside of a, both ways
abbrev pub Into : Box → Box → Type 0
Into a b = (a.min.x <ℤ b.max.x) × (b.min.x <ℤ a.max.x) × (a.min.y <ℤ b.max.y) × (b.min.y <ℤ a.max.y)
