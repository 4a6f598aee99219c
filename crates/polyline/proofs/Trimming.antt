-- Trimming tells whether a list of segments covers a segment: a round keeps what is still to be covered, and where it
-- changes nothing, the stretch that is left has a gap. It is stated over lists of segments, wherever they are read from.
use Rattle.std.proofs.Common.{◌≡◌, ℕ, zero, suc, ◌<◌, ◌≤◌, Bool, true, false, cond, ◌&&◌, ◌⊎◌, List, [], ◌∷◌, map, ℤ, pos, negsuc, ◌-ℤ◌, ◌*ℤ◌, nat_abs, ◌≤ℤ◌, ◌<ℤ◌, sym, refl, ap, ◌∙◌, subst, inl, inr, arith}
use Rattle.std.specs.Ordering.{int_eq}
use Rattle.std.proofs.lemmas.Bool.Decides.{Decides-int_eq}
use lib.Signed.{le_z}
use Rattle.std.specs.List.{AllByRecursion}
use Rattle.std.proofs.ByRecursion.{All-weaker, All-map}
use Rattle.std.proofs.lemmas.Int.{ints, by_lt_z}
use Rattle.plane.specs.declared.grid_point.GridPoint.{GridPoint}
use Rattle.plane.specs.Orient.{det}
use Rattle.plane.specs.Points.{Segment, On, Between, LongerThanZero}
use Rattle.plane.specs.Reflects.{Reflects}
use Rattle.plane.proofs.Terms.{Along, side, reversed, transposed}
use Rattle.plane.proofs.Integers.{lin, le_mul}
use Rattle.plane.proofs.Slopes.{on_along}
use Rattle.plane.proofs.Crossing.{on_reversed, on_transposed}
use Rattle.plane.proofs.Collinear.{along_reversed, along_transposed, same_point}
use Rattle.plane.proofs.Orientations.{det_side}
use Rattle.plane.proofs.Answers.{reflects_same, decides_reflects, and_reflects}
use Rattle.polyline.specs.Tests.{collinear}
use Rattle.polyline.specs.Segments.{OnAny, Covered}
use Rattle.polyline.specs.Trimming.{is_vertical, ordered, span, apart, trimmed, along, trim_by, round, rounds, trims_all}
use Rattle.polyline.proofs.Tests.{le_tells, lt_tells, zero_reflects, same_number_reflects}
use Rattle.polyline.proofs.Gap.{Clear, open_gap}
use Rattle.polyline.proofs.Strings.{each_covered}

-- the cases of a trim: what c leaves of l
pub data TrimCase (l c r : ℤ × ℤ) : Type 0 where
  stays : r ≡ l → (l.0 <ℤ l.1 → (c.1 ≤ℤ l.0) ⊎ (l.0 <ℤ c.0)) → TrimCase l c r
  all : (c.0 ≤ℤ l.0) → (l.1 ≤ℤ c.1) → r.0 ≡ l.1 → r.1 ≡ l.1 → TrimCase l c r
  start : (c.0 ≤ℤ l.0) → (l.0 <ℤ c.1) → (c.1 <ℤ l.1) → r.0 ≡ c.1 → r.1 ≡ l.1 → TrimCase l c r
  end : (l.0 <ℤ c.0) → (c.0 <ℤ l.1) → (l.1 ≤ℤ c.1) → r.0 ≡ l.0 → r.1 ≡ c.0 → TrimCase l c r

pub trim_case : (l c : ℤ × ℤ) → l.0 ≤ℤ l.1 → TrimCase l c (trimmed l c)
trim_case l c h =
    elim (le_tells c.1 l.0) [
      | inl p ↦ stays (simp p.0) (λ _. inl p.1)
      | inr p ↦ elim (le_tells l.1 c.0) [
        | inl q ↦ stays (simp (p.0, q.0)) (λ k. inr (omega (arith, lin)))
        | inr q ↦ elim (le_tells c.0 l.0) [
          | inl r ↦ elim (le_tells l.1 c.1) [
            | inl t ↦ all r.1 t.1 (simp (p.0, q.0, r.0, t.0)) (simp (p.0, q.0, r.0, t.0))
            | inr t ↦ start r.1 p.1 t.1 (simp (p.0, q.0, r.0, t.0)) (simp (p.0, q.0, r.0, t.0))
          ]
          | inr r ↦ elim (le_tells l.1 c.1) [
            | inl t ↦ end r.1 q.1 t.1 (simp (p.0, q.0, r.0, t.0)) (simp (p.0, q.0, r.0, t.0))
            | inr t ↦ stays (simp (p.0, q.0, r.0, t.0)) (λ _. inr r.1)
          ]
        ]
      ]
    ]

-- both ends of t lie on the line through s exactly if the test says so
pub along_reflects : (s t : Segment) → Reflects (along s t) (Along s t)
along_reflects s t =
    reflects_same (along s t)
    (λ h. record { at_p = level s t.p h.0; at_q = level s t.q h.1 })
    (λ g. (unlevel s t.p g.at_p, unlevel s t.q g.at_q))
    (and_reflects (det s.p s.q t.p ≡ pos 0) (det s.p s.q t.q ≡ pos 0) (collinear s.p s.q t.p) (collinear s.p s.q t.q) (zero_reflects (det s.p s.q t.p)) (zero_reflects (det s.p s.q t.q)))
  where
    level : (s : Segment) (c : GridPoint) → det s.p s.q c ≡ pos 0 → (s.q.x -ℤ s.p.x) *ℤ (c.y -ℤ s.p.y) ≡ (s.q.y -ℤ s.p.y) *ℤ (c.x -ℤ s.p.x)
    level s c e = let f : side s c.x c.y ≡ pos 0 = sym (det_side s c) ∙ e in omega (arith, lin)

    unlevel : (s : Segment) (c : GridPoint) → (s.q.x -ℤ s.p.x) *ℤ (c.y -ℤ s.p.y) ≡ (s.q.y -ℤ s.p.y) *ℤ (c.x -ℤ s.p.x) → det s.p s.q c ≡ pos 0
    unlevel s c e = let f : side s c.x c.y ≡ pos 0 = omega (arith, lin) in det_side s c ∙ f

-- ---- the other coordinate first
any_transposed : (ts : List Segment) (X Y : ℤ) (d : ℕ) → OnAny ts X Y d → OnAny (map transposed ts) Y X d
any_transposed [] X Y d h = h
any_transposed (t ∷ ts) X Y d (inl h) = inl (on_transposed t h)
any_transposed (t ∷ ts) X Y d (inr h) = inr (any_transposed ts X Y d h)

-- the segment has a length along the axis
abbrev pub Extends : Bool → Segment → Type 0
Extends true s = (s.p.y <ℤ s.q.y) ⊎ (s.q.y <ℤ s.p.y)
Extends false s = (s.p.x <ℤ s.q.x) ⊎ (s.q.x <ℤ s.p.x)

abbrev pub axis : Bool → ℤ → ℤ → ℤ
axis true X Y = Y
axis false X Y = X

ordered_between : (a b d x : ℤ) → (d *ℤ (ordered a b).0) ≤ℤ x → x ≤ℤ (d *ℤ (ordered a b).1) → Between x (d *ℤ a) (d *ℤ b)
ordered_between a b d x p q =
    elim (lt_tells a b) [ inl h ↦ inl (simp h.0 at p, simp h.0 at q) | inr h ↦ inr (simp h.0 at p, simp h.0 at q) ]

ordered_up : (a b : ℤ) → a <ℤ b → ordered a b ≡ (a, b)
ordered_up a b l = elim (lt_tells a b) [ inl h ↦ simp h.0 | inr h ↦ absurd (omega (arith, lin)) ]

ordered_down : (a b : ℤ) → b <ℤ a → ordered a b ≡ (b, a)
ordered_down a b l = elim (lt_tells a b) [ inl h ↦ absurd (omega (arith, lin)) | inr h ↦ simp h.0 ]

ordered_in : (a b : ℤ) → ((ordered a b).0 ≤ℤ a) × ((ordered a b).0 ≤ℤ b) × (a ≤ℤ (ordered a b).1) × (b ≤ℤ (ordered a b).1)
ordered_in a b = elim (lt_tells a b) [ inl h ↦ simp h.0 (omega (arith, lin)) | inr h ↦ simp h.0 (omega (arith, lin)) ]

-- the points of s in the span of t lie on t
on_span_x : (s t : Segment) → Extends false s → Along s t → {X Y : ℤ} {d : ℕ} → On s X Y d → (pos d *ℤ (span false t).0) ≤ℤ X → X ≤ℤ (pos d *ℤ (span false t).1) → On t X Y d
on_span_x s t (inl l) g {X} {Y} {d} h p q = on_along s t l g X Y d h.line (ordered_between t.p.x t.q.x (pos d) X p q)
on_span_x s t (inr l) g {X} {Y} {d} h p q = on_along (reversed s) t l (along_reversed s t g) X Y d (on_reversed s h).line (ordered_between t.p.x t.q.x (pos d) X p q)

pub on_span : (v : Bool) (s t : Segment) → Extends v s → Along s t → (X Y : ℤ) (d : ℕ) → On s X Y d → (pos d *ℤ (span v t).0) ≤ℤ axis v X Y → axis v X Y ≤ℤ (pos d *ℤ (span v t).1) → On t X Y d
on_span false s t l g X Y d h p q = on_span_x s t l g h p q
on_span true s t l g X Y d h p q = on_transposed (transposed t) (on_span_x (transposed s) (transposed t) l (along_transposed s t g) (on_transposed s h) p q)

-- t stays clear of what follows lo
abbrev pub ClearOf : Bool → Segment → ℤ → Segment → Type 0
ClearOf v s lo t = Along s t → ((span v t).1 ≤ℤ lo) ⊎ (lo <ℤ (span v t).0)

clear_of : (s : Segment) (lo : ℤ) (t : Segment) → ClearOf false s lo t → Clear s lo t
clear_of s lo t f g =
    let o = ordered_in t.p.x t.q.x in
    elim (f g) [ inl h ↦ inl (omega (arith, lin)) | inr h ↦ inr (omega (arith, lin)) ]

gap_x : (s : Segment) → Extends false s → (lo : ℤ) → (span false s).0 ≤ℤ lo → lo <ℤ (span false s).1 → (ts : List Segment) → AllByRecursion (ClearOf false s lo) ts → Covered ts s → ⊥
gap_x s (inl l) lo p q ts a c =
    let e = ordered_up s.p.x s.q.x l in
    open_gap s l lo (subst (λ (o : ℤ × ℤ). o.0 ≤ℤ lo) e p) (subst (λ (o : ℤ × ℤ). lo <ℤ o.1) e q) ts (All-weaker _ _ (clear_of s lo) ts a) c
gap_x s (inr l) lo p q ts a c =
    let e = ordered_down s.p.x s.q.x l in
    open_gap (reversed s) l lo (subst (λ (o : ℤ × ℤ). o.0 ≤ℤ lo) e p) (subst (λ (o : ℤ × ℤ). lo <ℤ o.1) e q) ts
    (All-weaker _ _ (λ t f g. clear_of s lo t f (along_reversed (reversed s) t g)) ts a) (λ X Y d o h. c X Y d o (on_reversed (reversed s) h))

pub gap : (v : Bool) (s : Segment) → Extends v s → (lo : ℤ) → (span v s).0 ≤ℤ lo → lo <ℤ (span v s).1 → (ts : List Segment) → AllByRecursion (ClearOf v s lo) ts → Covered ts s → ⊥
gap false s l lo p q ts a c = gap_x s l lo p q ts a c
gap true s l lo p q ts a c =
    gap_x (transposed s) l lo p q (map transposed ts)
    (All-map (ClearOf false (transposed s) lo) transposed ts (All-weaker (ClearOf true s lo) (λ t. ClearOf false (transposed s) lo (transposed t)) (λ t f g. f (along_transposed (transposed s) (transposed t) g)) ts a))
    (λ X Y d o h. any_transposed ts Y X d (c Y X d o (on_transposed (transposed s) h)))

-- ---- what is left of s to cover lies between the ends of the stretch
abbrev pub Remains : Bool → List Segment → Segment → ℤ × ℤ → Type 0
Remains v ts s l = (X Y : ℤ) (d : ℕ) → 1 ≤ d → On s X Y d → OnAny ts X Y d ⊎ ((l.0 <ℤ l.1) × ((pos d *ℤ l.0) ≤ℤ axis v X Y) × (axis v X Y ≤ℤ (pos d *ℤ l.1)))

pub remains_none : (v : Bool) (ts : List Segment) (s : Segment) (l : ℤ × ℤ) → Remains v ts s l → l.1 ≤ℤ l.0 → Covered ts s
remains_none v ts s l h e X Y d o p = elim (h X Y d o p) [ inl q ↦ q | inr q ↦ absurd (omega (arith, lin)) ]

times_le : (d : ℕ) (a b : ℤ) → a ≤ℤ b → (pos d *ℤ a) ≤ℤ (pos d *ℤ b)
times_le d a b h = le_mul (pos d) a b (omega (arith, ints)) h

-- a trim by a segment t along s whose points are the list's
pub remains_trim : (v : Bool) (ts : List Segment) (s t : Segment) → Extends v s → Along s t → Covered ts t → (l r : ℤ × ℤ) → TrimCase l (span v t) r → Remains v ts s l → Remains v ts s r
remains_trim v ts s t n g m l r (stays e w) h = subst (Remains v ts s) (sym e) h
remains_trim v ts s t n g m l r (all a b e f) h = λ X Y d o p. elim (h X Y d o p) [
  | inl q ↦ inl q
  | inr q ↦ inl (m X Y d o (on_span v s t n g X Y d p (omega (arith, lin, times_le d _ _ a)) (omega (arith, lin, times_le d _ _ b))))
]
remains_trim v ts s t n g m l r (start a b c e f) h = λ X Y d o p. elim (h X Y d o p) [
  | inl q ↦ inl q
  | inr q ↦ by_lt_z (pos d *ℤ (span v t).1) (axis v X Y) (λ u. inr (omega (arith, lin, ap (λ (z : ℤ). pos d *ℤ z) e, ap (λ (z : ℤ). pos d *ℤ z) f))) (λ u. inl (m X Y d o (on_span v s t n g X Y d p (omega (arith, lin, times_le d _ _ a)) u)))
]
remains_trim v ts s t n g m l r (end a b c e f) h = λ X Y d o p. elim (h X Y d o p) [
  | inl q ↦ inl q
  | inr q ↦ by_lt_z (axis v X Y) (pos d *ℤ (span v t).0) (λ u. inr (omega (arith, lin, ap (λ (z : ℤ). pos d *ℤ z) e, ap (λ (z : ℤ). pos d *ℤ z) f))) (λ u. inl (m X Y d o (on_span v s t n g X Y d p u (omega (arith, lin, times_le d _ _ c)))))
]

-- a trim only narrows the stretch
pub record Narrowed (l r : ℤ × ℤ) : Type 0 where
  pub low : l.0 ≤ℤ r.0
  pub high : r.1 ≤ℤ l.1
  pub right : r.0 ≤ℤ r.1

case_narrowed : (l c r : ℤ × ℤ) → l.0 ≤ℤ l.1 → TrimCase l c r → Narrowed l r
case_narrowed l c r h (stays e w) = let e0 = ap (λ (z : ℤ × ℤ). z.0) e in let e1 = ap (λ (z : ℤ × ℤ). z.1) e in omega (arith, lin)
case_narrowed l c r h (all a b e f) = omega (arith, lin)
case_narrowed l c r h (start a b d e f) = omega (arith, lin)
case_narrowed l c r h (end a b d e f) = omega (arith, lin)

-- a trim, by whether t is along s
trim_cases : (s t : Segment) (l : ℤ × ℤ) → l.0 ≤ℤ l.1 → (Along s t × TrimCase l (span (is_vertical s) t) (trim_by s l t)) ⊎ ((Along s t → ⊥) × (trim_by s l t ≡ l))
trim_cases s t l h = go (along s t) (along_reflects s t)
  where
    go : (b : Bool) → Reflects b (Along s t) → (Along s t × TrimCase l (span (is_vertical s) t) (cond b (trimmed l (span (is_vertical s) t)) l)) ⊎ ((Along s t → ⊥) × (cond b (trimmed l (span (is_vertical s) t)) l ≡ l))
    go true g = inl (g, trim_case l (span (is_vertical s) t) h)
    go false n = inr (n, refl)

-- a segment whose span has at most an end in common with the stretch leaves it, wherever it lies
pub apart_stays : (s : Segment) (l : ℤ × ℤ) (t : Segment) (c : ℤ × ℤ) → c ≡ span (is_vertical s) t → apart l c ≡ true → trim_by s l t ≡ l
apart_stays s l t c e a = go (along s t)
  where
    go : (b : Bool) → cond b (trimmed l (span (is_vertical s) t)) l ≡ l
    go true = ap (λ (z : ℤ × ℤ). trimmed l z) (sym e) ∙ ap (λ (b : Bool). cond b l (cond (le_z c.0 l.0) (cond (le_z l.1 c.1) (l.1, l.1) (c.1, l.1)) (cond (le_z l.1 c.1) (l.0, c.0) l))) a
    go false = refl

pair_same : (l r : ℤ × ℤ) → l.0 ≡ r.0 → l.1 ≡ r.1 → l ≡ r
pair_same l r e f = λ i. (e i, f i)

-- nothing is left of a stretch that is gone
gone_trimmed : (l c : ℤ × ℤ) → l.0 ≡ l.1 → trimmed l c ≡ l
gone_trimmed l c e =
    elim (trim_case l c (omega (arith, lin))) [
      | stays f w ↦ f
      | all a b f g ↦ pair_same (trimmed l c) l (f ∙ sym e) g
      | start a b d f g ↦ absurd (omega (arith, lin))
      | end a b d f g ↦ absurd (omega (arith, lin))
    ]

pub gone_stays : (s : Segment) (ts : List Segment) (l : ℤ × ℤ) → l.0 ≡ l.1 → round s l ts ≡ l
gone_stays s [] l e = refl
gone_stays s (t ∷ ts) l e = ap (λ (m : ℤ × ℤ). round s m ts) (once (along s t)) ∙ gone_stays s ts l e
  where
    once : (b : Bool) → cond b (trimmed l (span (is_vertical s) t)) l ≡ l
    once true = gone_trimmed l (span (is_vertical s) t) e
    once false = refl

trim_narrowed : (s t : Segment) (l : ℤ × ℤ) → l.0 ≤ℤ l.1 → Narrowed l (trim_by s l t)
trim_narrowed s t l h =
    elim (trim_cases s t l h) [
      | inl w ↦ case_narrowed l (span (is_vertical s) t) (trim_by s l t) h w.1
      | inr w ↦ let e0 = ap (λ (z : ℤ × ℤ). z.0) w.1 in let e1 = ap (λ (z : ℤ × ℤ). z.1) w.1 in omega (arith, lin)
    ]

pub round_narrowed : (s : Segment) (us : List Segment) (l : ℤ × ℤ) → l.0 ≤ℤ l.1 → Narrowed l (round s l us)
round_narrowed s [] l h = omega (arith, lin)
round_narrowed s (t ∷ us) l h =
    let a = trim_narrowed s t l h in let b = round_narrowed s us (trim_by s l t) a.right in omega (arith, lin)

pub round_remains : (s : Segment) → Extends (is_vertical s) s → (ts us : List Segment) → AllByRecursion (Covered ts) us → (l : ℤ × ℤ) → l.0 ≤ℤ l.1 → Remains (is_vertical s) ts s l → Remains (is_vertical s) ts s (round s l us)
round_remains s n ts [] m l h k = k
round_remains s n ts (t ∷ us) m l h k =
    round_remains s n ts us m.1 (trim_by s l t) (trim_narrowed s t l h).right
    (elim (trim_cases s t l h) [ inl w ↦ remains_trim (is_vertical s) ts s t n w.0 m.0 l (trim_by s l t) w.1 k | inr w ↦ subst (Remains (is_vertical s) ts s) (sym w.1) k ])

pub round_clear : (s : Segment) (us : List Segment) (l : ℤ × ℤ) → l.0 <ℤ l.1 → round s l us ≡ l → AllByRecursion (ClearOf (is_vertical s) s l.0) us
round_clear s [] l h e = tt
round_clear s (t ∷ us) l h e =
    let k : l.0 ≤ℤ l.1 = omega (arith, lin) in
    let a = trim_narrowed s t l k in
    let b = round_narrowed s us (trim_by s l t) a.right in
    let e0 = ap (λ (z : ℤ × ℤ). z.0) e in
    let e1 = ap (λ (z : ℤ × ℤ). z.1) e in
    let same : trim_by s l t ≡ l = pair_same (trim_by s l t) l (omega (arith, lin)) (omega (arith, lin)) in (
      (λ g. elim (trim_cases s t l k) [ inl w ↦ free l (span (is_vertical s) t) (trim_by s l t) h same w.1 | inr w ↦ absurd (w.0 g) ]),
      round_clear s us l h (subst (λ (z : ℤ × ℤ). round s z us ≡ l) same e),
    )
  where
    free : (l c r : ℤ × ℤ) → l.0 <ℤ l.1 → r ≡ l → TrimCase l c r → (c.1 ≤ℤ l.0) ⊎ (l.0 <ℤ c.0)
    free l c r h q (stays e w) = w h
    free l c r h q (all a b e f) = let e0 = ap (λ (z : ℤ × ℤ). z.0) q in absurd (omega (arith, lin))
    free l c r h q (start a b d e f) = let e0 = ap (λ (z : ℤ × ℤ). z.0) q in absurd (omega (arith, lin))
    free l c r h q (end a b d e f) = let e1 = ap (λ (z : ℤ × ℤ). z.1) q in absurd (omega (arith, lin))

-- what the loop keeps
pub record Trimming (ts : List Segment) (s : Segment) (l : ℤ × ℤ) : Type 0 where
  pub left : Remains (is_vertical s) ts s l
  pub low : (span (is_vertical s) s).0 ≤ℤ l.0
  pub high : l.1 ≤ℤ (span (is_vertical s) s).1
  pub right : l.0 ≤ℤ l.1

pub trimming_round : (ts : List Segment) (s : Segment) (l : ℤ × ℤ) → Extends (is_vertical s) s → Trimming ts s l → Trimming ts s (round s l ts)
trimming_round ts s l n k =
    let a = round_narrowed s ts l k.right in
    record { left = round_remains s n ts ts (each_covered ts) l k.right k.left; low = omega (arith, lin); high = omega (arith, lin); right = a.right }

pub trimming_done : (ts : List Segment) (s : Segment) (l : ℤ × ℤ) → Trimming ts s l → l.1 ≤ℤ l.0 → Covered ts s
trimming_done ts s l k h = remains_none (is_vertical s) ts s l k.left h

pub trimming_gap : (ts : List Segment) (s : Segment) (l : ℤ × ℤ) → Extends (is_vertical s) s → Trimming ts s l → l.0 <ℤ l.1 → round s l ts ≡ l → Covered ts s → ⊥
trimming_gap ts s l n k h e = gap (is_vertical s) s n l.0 k.low (omega (arith, lin)) ts (round_clear s ts l h e)

-- ---- the start of the loop
pub extends : (s : Segment) → LongerThanZero s → Extends (is_vertical s) s
extends s n = go (is_vertical s) (same_number_reflects s.p.x s.q.x)
  where
    differ : (a b : ℤ) → (a ≡ b → ⊥) → (a <ℤ b) ⊎ (b <ℤ a)
    differ a b k = by_lt_z a b inl (λ h. inr (omega (arith, lin)))

    go : (v : Bool) → Reflects v (s.p.x ≡ s.q.x) → Extends v s
    go true e = differ s.p.y s.q.y (λ f. n (same_point s.p s.q e f))
    go false k = differ s.p.x s.q.x k

ordered_apart : (a b : ℤ) → (a <ℤ b) ⊎ (b <ℤ a) → (ordered a b).0 <ℤ (ordered a b).1
ordered_apart a b (inl h) = subst (λ (o : ℤ × ℤ). o.0 <ℤ o.1) (sym (ordered_up a b h)) h
ordered_apart a b (inr h) = subst (λ (o : ℤ × ℤ). o.0 <ℤ o.1) (sym (ordered_down a b h)) h

pub span_extends : (v : Bool) (s : Segment) → Extends v s → (span v s).0 <ℤ (span v s).1
span_extends true s h = ordered_apart s.p.y s.q.y h
span_extends false s h = ordered_apart s.p.x s.q.x h

between_ordered : (a b : ℤ) (d : ℕ) (x : ℤ) → Between x (pos d *ℤ a) (pos d *ℤ b) → ((pos d *ℤ (ordered a b).0) ≤ℤ x) × (x ≤ℤ (pos d *ℤ (ordered a b).1))
between_ordered a b d x h =
    let o = ordered_in a b in
    omega (arith, lin, h, times_le d _ _ o.0, times_le d _ _ o.1, times_le d _ _ o.2, times_le d _ _ o.3)

on_in_span : (v : Bool) (s : Segment) (X Y : ℤ) (d : ℕ) → On s X Y d → ((pos d *ℤ (span v s).0) ≤ℤ axis v X Y) × (axis v X Y ≤ℤ (pos d *ℤ (span v s).1))
on_in_span true s X Y d h = between_ordered s.p.y s.q.y d Y h.in_y
on_in_span false s X Y d h = between_ordered s.p.x s.q.x d X h.in_x

pub trimming_start : (ts : List Segment) (s : Segment) → LongerThanZero s → Trimming ts s (span (is_vertical s) s)
trimming_start ts s n =
    let a = span_extends (is_vertical s) s (extends s n) in
    record {
      left = λ X Y d o h. let b = on_in_span (is_vertical s) s X Y d h in inr (a, b.0, b.1);
      low = omega (arith, lin);
      high = omega (arith, lin);
      right = omega (arith, lin);
    }

-- ---- the loop, as its turns see it

-- what a `==` of two stretches tells
pub pair_tells : (t : Bool) (l r : ℤ × ℤ) → t ≡ (int_eq l.0 r.0 && int_eq l.1 r.1) → Reflects t (l ≡ r)
pair_tells t l r e =
    subst (λ (b : Bool). Reflects b (l ≡ r)) (sym e)
    (reflects_same (int_eq l.0 r.0 && int_eq l.1 r.1) (λ h. pair_same l r h.0 h.1) (λ f. (ap (λ (z : ℤ × ℤ). z.0) f, ap (λ (z : ℤ × ℤ). z.1) f))
    (and_reflects (l.0 ≡ r.0) (l.1 ≡ r.1) (int_eq l.0 r.0) (int_eq l.1 r.1) (decides_reflects _ _ (Decides-int_eq l.0 r.0)) (decides_reflects _ _ (Decides-int_eq l.1 r.1))))

pub trimming_begins : (ts : List Segment) (s : Segment) (l : ℤ × ℤ) → LongerThanZero s → l ≡ span (is_vertical s) s → Trimming ts s l × (l.0 <ℤ l.1)
trimming_begins ts s l n e = subst (λ (z : ℤ × ℤ). Trimming ts s z × (z.0 <ℤ z.1)) (sym e) (trimming_start ts s n, span_extends (is_vertical s) s (extends s n))

pub trimming_next : (ts : List Segment) (s : Segment) (l r : ℤ × ℤ) → LongerThanZero s → Trimming ts s l → r ≡ round s l ts → Trimming ts s r
trimming_next ts s l r n k e = subst (Trimming ts s) (sym e) (trimming_round ts s l (extends s n) k)

next_narrowed : (ts : List Segment) (s : Segment) (l r : ℤ × ℤ) → l.0 ≤ℤ l.1 → r ≡ round s l ts → Narrowed l r
next_narrowed ts s l r h e = subst (Narrowed l) (sym e) (round_narrowed s ts l h)

pub trimming_stuck : (ts : List Segment) (s : Segment) (l r : ℤ × ℤ) → LongerThanZero s → Trimming ts s l → l.0 <ℤ l.1 → r ≡ round s l ts → r.0 ≤ℤ l.0 → l.1 ≤ℤ r.1 → Covered ts s → ⊥
trimming_stuck ts s l r n k h e a b =
    let w = next_narrowed ts s l r k.right e in trimming_gap ts s l (extends s n) k h (sym e ∙ pair_same r l (omega (arith, lin)) (omega (arith, lin)))

-- a round that changes nothing
pub trimming_unchanged : (ts : List Segment) (s : Segment) (l r : ℤ × ℤ) → LongerThanZero s → Trimming ts s l → l.0 <ℤ l.1 → r ≡ round s l ts → r ≡ l → Covered ts s → ⊥
trimming_unchanged ts s l r n k h e f =
    let low : r.0 ≡ l.0 = ap (λ (z : ℤ × ℤ). z.0) f in
    let high : r.1 ≡ l.1 = ap (λ (z : ℤ × ℤ). z.1) f in
    trimming_stuck ts s l r n k h e (omega (arith, lin, low)) (omega (arith, lin, high))

abs_falls : (a b : ℤ) → pos 0 ≤ℤ a → a <ℤ b → nat_abs a < nat_abs b
abs_falls (pos a) (pos b) h k = omega (arith, ints)
abs_falls (pos a) (negsuc b) h k = absurd (omega (arith, ints))
abs_falls (negsuc a) b h k = absurd (omega (arith, ints))

pub trimming_falls : (ts : List Segment) (s : Segment) (l r : ℤ × ℤ) → l.0 ≤ℤ l.1 → r ≡ round s l ts → r.0 <ℤ r.1 → (l.0 <ℤ r.0) ⊎ (r.1 <ℤ l.1) → nat_abs (r.1 -ℤ r.0) < nat_abs (l.1 -ℤ l.0)
trimming_falls ts s l r h e k d = let w = next_narrowed ts s l r h e in abs_falls (r.1 -ℤ r.0) (l.1 -ℤ l.0) (omega (arith, lin)) (omega (arith, lin))

-- a round changes nothing, or the stretch gets shorter
pub round_same : (ts : List Segment) (s : Segment) (l : ℤ × ℤ) → Trimming ts s l → l.0 <ℤ l.1 → (round s l ts ≡ l) ⊎ (nat_abs ((round s l ts).1 -ℤ (round s l ts).0) < nat_abs (l.1 -ℤ l.0))
round_same ts s l k h =
    let r = round s l ts in
    let w = round_narrowed s ts l k.right in
    by_lt_z l.0 r.0 (λ a. inr (narrower l r h w (inl a)))
    (λ a. by_lt_z r.1 l.1 (λ b. inr (narrower l r h w (inr b))) (λ b. inl (pair_same r l (omega (arith, lin)) (omega (arith, lin)))))
  where
    narrower : (l r : ℤ × ℤ) → l.0 <ℤ l.1 → Narrowed l r → (l.0 <ℤ r.0) ⊎ (r.1 <ℤ l.1) → nat_abs (r.1 -ℤ r.0) < nat_abs (l.1 -ℤ l.0)
    narrower l r h w d = abs_falls (r.1 -ℤ r.0) (l.1 -ℤ l.0) (omega (arith, lin)) (omega (arith, lin))

-- a round that changes something leaves a shorter stretch
pub trimming_changed : (ts : List Segment) (s : Segment) (l r : ℤ × ℤ) → Trimming ts s l → l.0 <ℤ l.1 → r ≡ round s l ts → (r ≡ l → ⊥) → nat_abs (r.1 -ℤ r.0) < nat_abs (l.1 -ℤ l.0)
trimming_changed ts s l r k h e n =
    elim (round_same ts s l k h) [
      | inl f ↦ absurd (n (e ∙ f))
      | inr f ↦ subst (λ (z : ℤ × ℤ). nat_abs (z.1 -ℤ z.0) < nat_abs (l.1 -ℤ l.0)) (sym e) f
    ]

-- ---- as many rounds as a segment is long decide

-- where a round changes nothing, no number of rounds takes all
stuck : (n : ℕ) (ts : List Segment) (s : Segment) (l : ℤ × ℤ) → le_z l.1 l.0 ≡ false → round s l ts ≡ l → rounds n ts s l ≡ false
stuck zero ts s l h e = h
stuck (suc n) ts s l h e = ap (λ (b : Bool). cond b true (rounds n ts s (round s l ts))) h ∙ ap (rounds n ts s) e ∙ stuck n ts s l h e

rounds_reflect : (n : ℕ) (ts : List Segment) (s : Segment) (l : ℤ × ℤ) → LongerThanZero s → Trimming ts s l → nat_abs (l.1 -ℤ l.0) ≤ n → Reflects (rounds n ts s l) (Covered ts s)
rounds_reflect zero ts s l g k h =
    elim (le_tells l.1 l.0) [
      | inl p ↦ subst (λ (b : Bool). Reflects b (Covered ts s)) (sym p.0) (trimming_done ts s l k p.1)
      | inr p ↦ absurd (wide (l.1 -ℤ l.0) (omega (arith, lin)) h)
    ]
  where
    wide : (z : ℤ) → pos 0 <ℤ z → nat_abs z ≤ 0 → ⊥
    wide (pos z) h k = omega (arith, ints)
    wide (negsuc z) h k = omega (arith, ints)
rounds_reflect (suc n) ts s l g k h =
    elim (le_tells l.1 l.0) [
      | inl p ↦ at true p.0 (trimming_done ts s l k p.1)
      | inr p ↦ at false p.0 (elim (round_same ts s l k p.1) [
        | inl e ↦ subst (λ (b : Bool). Reflects b (Covered ts s)) (sym (ap (rounds n ts s) e ∙ stuck n ts s l p.0 e)) (trimming_gap ts s l (extends s g) k p.1 e)
        | inr f ↦ rounds_reflect n ts s (round s l ts) g (trimming_next ts s l (round s l ts) g k refl) (omega arith)
      ])
    ]
  where
    at : (b : Bool) → le_z l.1 l.0 ≡ b → Reflects (cond b true (rounds n ts s (round s l ts))) (Covered ts s) → Reflects (rounds (suc n) ts s l) (Covered ts s)
    at b e r = subst (λ (c : Bool). Reflects (cond c true (rounds n ts s (round s l ts))) (Covered ts s)) (sym e) r

pub trims_all_reflects : (ts : List Segment) (s : Segment) → LongerThanZero s → Reflects (trims_all ts s) (Covered ts s)
trims_all_reflects ts s g =
    rounds_reflect (nat_abs ((span (is_vertical s) s).1 -ℤ (span (is_vertical s) s).0)) ts s (span (is_vertical s) s) g (trimming_begins ts s (span (is_vertical s) s) g refl).0 (omega arith)
