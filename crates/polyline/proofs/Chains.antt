-- Line strings by the points that they are read from.
use Rattle.std.proofs.Common.{◌≡◌, ℕ, ◌-◌, ◌<◌, ◌≤◌, ◌⊎◌, List, [], ◌∷◌, length, get_or, drop, pos, sym, refl, ap, ◌∙◌, subst, inl, inr, arith}
use Rattle.std.specs.List.{AllByRecursion}
use Rattle.plane.specs.declared.grid_point.GridPoint.{GridPoint}
use Rattle.plane.specs.Reach.{read_point}
use Rattle.plane.specs.Reflects.{Iff}
use Rattle.plane.specs.Sets.{At}
use Rattle.plane.proofs.Segments.{at_self}
use Rattle.plane.proofs.Containment.{at_is}
use Rattle.polyline.specs.Strings.{vertices, last, Closed, AllEqual, AtEnd}

abbrev pub origin : GridPoint
origin = record { x = pos 0; y = pos 0 }

-- ---- the first point and the last

last_read : (p : GridPoint) (qs : List GridPoint) → last (read_point p) (vertices qs) ≡ read_point (get_or (p ∷ qs) (length qs) origin)
last_read p [] = refl
last_read p (q ∷ qs) = last_read q qs

-- the last vertex, by the place of its point
last_at : (p : GridPoint) (qs : List GridPoint) → read_point (get_or (p ∷ qs) (length (p ∷ qs) - 1) origin) ≡ last (read_point p) (vertices qs)
last_at p qs = let e : length (p ∷ qs) - 1 ≡ length qs = omega arith in ap (λ (n : ℕ). read_point (get_or (p ∷ qs) n origin)) e ∙ sym (last_read p qs)

pub closed_by_ends : (ps : List GridPoint) → 0 < length ps → Iff (read_point (get_or ps 0 origin) ≡ read_point (get_or ps (length ps - 1) origin)) (Closed (vertices ps))
closed_by_ends [] h = absurd (omega arith)
closed_by_ends (p ∷ qs) h = ((λ e. e ∙ last_at p qs), (λ e. e ∙ sym (last_at p qs)))

-- a grid point is an end exactly if it equals the first vertex or the last
pub end_by_ends : (ps : List GridPoint) (c : GridPoint) → 0 < length ps → Iff ((read_point (get_or ps 0 origin) ≡ c) ⊎ (read_point (get_or ps (length ps - 1) origin) ≡ c)) (AtEnd (vertices ps) c.x c.y 1)
end_by_ends [] c h = absurd (omega arith)
end_by_ends (p ∷ qs) c h = (
  (λ e. elim e [ inl a ↦ inl (at_equal a) | inr a ↦ inr (at_equal (sym (last_at p qs) ∙ a)) ]),
  (λ e. elim e [ inl a ↦ inl (sym (at_is c (read_point p) a)) | inr a ↦ inr (last_at p qs ∙ sym (at_is c (last (read_point p) (vertices qs)) a)) ]),
)
  where
    at_equal : {v : GridPoint} → v ≡ c → At v c.x c.y 1
    at_equal e = subst (λ (v : GridPoint). At v c.x c.y 1) (sym e) (at_self c)

-- of a single vertex, the first is both
pub only_end : (ps : List GridPoint) (c : GridPoint) → length ps ≡ 1 → Iff (read_point (get_or ps 0 origin) ≡ c) (AtEnd (vertices ps) c.x c.y 1)
only_end [] c h = absurd (omega arith)
only_end (p ∷ []) c h = let i = end_by_ends (p ∷ []) c (omega arith) in ((λ e. i.0 (inl e)), (λ a. elim (i.1 a) [ inl e ↦ e | inr e ↦ e ]))
only_end (p ∷ (q ∷ ps)) c h = absurd (omega arith)

-- ---- all vertices

-- what holds of all points as they are read holds of all vertices
pub all_vertices : (P : GridPoint → Type 0) (ps : List GridPoint) → Iff (AllByRecursion (λ p. P (read_point p)) ps) (AllByRecursion P (vertices ps))
all_vertices P [] = ((λ h. h), (λ h. h))
all_vertices P (p ∷ ps) = let i = all_vertices P ps in ((λ h. (h.0, i.0 h.1)), (λ h. (h.0, i.1 h.1)))

-- all vertices are equal exactly if all points but the first are read as the first is
pub equal_to_first : (ps : List GridPoint) → 1 ≤ length ps → Iff (AllByRecursion (λ q. read_point (get_or ps 0 origin) ≡ read_point q) (drop 1 ps)) (AllEqual (vertices ps))
equal_to_first [] h = absurd (omega arith)
equal_to_first (p ∷ qs) h = all_vertices (λ v. read_point p ≡ v) qs
