-- The trimming of a stretch of a segment, as its two ends along an axis, by the segments on the same line. What it
-- tells is stated by `Covered`; only inner functions and the computed examples speak of its steps.
use Rattle.std.specs.Prelude.{ℕ, zero, suc, Bool, true, false, cond, ◌&&◌, ◌||◌, List, [], ◌∷◌, ℤ, ◌-ℤ◌, int_le, int_lt, unsigned_abs}
use Rattle.plane.specs.Points.{Segment}
use Rattle.polyline.specs.Tests.{collinear}

-- a vertical segment is measured along y, any other along x
abbrev pub is_vertical : Segment → Bool
is_vertical s = int_le s.p.x s.q.x && int_le s.q.x s.p.x

-- the smaller of two numbers first
abbrev pub ordered : ℤ → ℤ → ℤ × ℤ
ordered a b = cond (int_lt a b) (a, b) (b, a)

-- where a segment begins and ends along y (true) or x (false)
abbrev pub span : Bool → Segment → ℤ × ℤ
span true t = ordered t.p.y t.q.y
span false t = ordered t.p.x t.q.x

-- two stretches have at most an end in common
abbrev pub apart : ℤ × ℤ → ℤ × ℤ → Bool
apart l c = int_le c.1 l.0 || int_le l.1 c.0

-- what c leaves of the stretch l; a middle piece cannot be taken out of it
abbrev pub trimmed : ℤ × ℤ → ℤ × ℤ → ℤ × ℤ
trimmed l c =
    cond (apart l c) l
    (cond (int_le c.0 l.0) (cond (int_le l.1 c.1) (l.1, l.1) (c.1, l.1))
    (cond (int_le l.1 c.1) (l.0, c.0) l))

-- both ends of t lie on the line through s
abbrev pub along : Segment → Segment → Bool
along s t = collinear s.p s.q t.p && collinear s.p s.q t.q

-- what t leaves of a stretch of s
abbrev pub trim_by : Segment → ℤ × ℤ → Segment → ℤ × ℤ
trim_by s l t = cond (along s t) (trimmed l (span (is_vertical s) t)) l

-- one round over the list
abbrev pub round : Segment → ℤ × ℤ → List Segment → ℤ × ℤ
round s l [] = l
round s l (t ∷ ts) = round s (trim_by s l t) ts

-- n rounds, or fewer if the stretch is gone before; whether it is gone
abbrev pub rounds : ℕ → List Segment → Segment → ℤ × ℤ → Bool
rounds zero ts s l = int_le l.1 l.0
rounds (suc n) ts s l = cond (int_le l.1 l.0) true (rounds n ts s (round s l ts))

-- whether as many rounds as a segment is long take all of it
abbrev pub trims_all : List Segment → Segment → Bool
trims_all ts s = let l : ℤ × ℤ = span (is_vertical s) s in rounds (unsigned_abs (l.1 -ℤ l.0)) ts s l
