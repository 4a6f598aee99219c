-- The pigeonhole principle: of more numbers than members, two fall to one member.
use Rattle.std.proofs.Common.{◌≡◌, ℕ, zero, suc, ◌≤◌, cond, eqb, ◌⊎◌, List, [], ◌∷◌, length, inl, inr, arith}
use native.Mathlib.Decide.{dec_le}
use Rattle.std.specs.List.{AllByRecursion}
use Rattle.std.proofs.ByRecursion.{All-weaker}
use Rattle.std.proofs.lemmas.Bool.Decides.{nat_tests}

-- n in the place of i
abbrev swapped : ℕ → ℕ → ℕ → ℕ
swapped n i k = cond (eqb k i) n k

swapped_le : (n i k : ℕ) → k ≤ n → swapped (suc n) i k ≤ suc n
swapped_le n i k h = grind (arith, nat_tests)

swapped_apart : (n i k : ℕ) → k ≤ n → swapped (suc n) i k ≡ i → ⊥
swapped_apart n i k h e = grind (arith, nat_tests)

swapped_same : (n i j k : ℕ) → j ≤ n → k ≤ n → swapped (suc n) i j ≡ swapped (suc n) i k → j ≡ k
swapped_same n i j k p q e = grind (arith, nat_tests)

le_or : (i n : ℕ) → i ≤ suc n → (i ≤ n) ⊎ (suc n ≡ i)
le_or i n h = elim (dec_le i n) [ yes p ↦ inl p | no q ↦ inr (omega arith) ]

module _ {S : Type 0} where
  -- some member is related to i
  abbrev pub Related : (S → ℕ → Type 0) → List S → ℕ → Type 0
  Related R [] i = ⊥
  Related R (t ∷ ts) i = R t i ⊎ Related R ts i

  -- the first member is related to one of the numbers, or the others to all of them
  one_or_rest : (R : S → ℕ → Type 0) (t : S) (ts : List S) (n : ℕ) → ((i : ℕ) → i ≤ n → Related R (t ∷ ts) i) → ((i : ℕ) × (i ≤ n) × R t i) ⊎ ((i : ℕ) → i ≤ n → Related R ts i)
  one_or_rest R t ts zero h = elim (h 0 (omega arith)) [ inl r ↦ inl (0, omega arith, r) | inr r ↦ inr (λ i l. let e : 0 ≡ i = omega arith in rw e at r) ]
  one_or_rest R t ts (suc n) h =
      elim (one_or_rest R t ts n (λ i l. h i (omega arith))) [
        | inl w ↦ inl (w.0, omega arith, w.2)
        | inr w ↦ elim (h (suc n) (omega arith)) [ inl r ↦ inl (suc n, omega arith, r) | inr r ↦ inr (λ i l. elim (le_or i n l) [ inl p ↦ w i p | inr e ↦ rw e at r ]) ]
      ]

  related_swapped : (R : S → ℕ → Type 0) (f : ℕ → ℕ) (ts : List S) (i : ℕ) → Related R ts (f i) → Related (λ t k. R t (f k)) ts i
  related_swapped R f [] i h = h
  related_swapped R f (t ∷ ts) i (inl h) = inl h
  related_swapped R f (t ∷ ts) i (inr h) = inr (related_swapped R f ts i h)

  -- where each member is related to one number at most, not all of the numbers up to n are related to some of n members
  pub pigeonhole : (R : S → ℕ → Type 0) (ts : List S) (n : ℕ) → length ts ≤ n → AllByRecursion (λ t. (i j : ℕ) → i ≤ n → j ≤ n → R t i → R t j → i ≡ j) ts → ((i : ℕ) → i ≤ n → Related R ts i) → ⊥
  pigeonhole R [] n l a h = h 0 (omega arith)
  pigeonhole R (t ∷ ts) zero l a h = absurd (omega arith)
  pigeonhole R (t ∷ ts) (suc n) l a h =
      elim (one_or_rest R t ts (suc n) h) [
        | inl w ↦ let f : ℕ → ℕ = swapped (suc n) w.0 in
            pigeonhole (λ x k. R x (f k)) ts n (omega arith)
            (All-weaker _ _ (λ x u i j p q r r'. swapped_same n w.0 i j p q (u (f i) (f j) (swapped_le n w.0 i p) (swapped_le n w.0 j q) r r')) ts a.1)
            (λ i p. elim (h (f i) (swapped_le n w.0 i p)) [ inl r ↦ absurd (swapped_apart n w.0 i p (a.0 (f i) w.0 (swapped_le n w.0 i p) w.1 r w.2)) | inr r ↦ related_swapped R f ts i r ])
        | inr w ↦ pigeonhole R ts n (omega arith) (All-weaker _ _ (λ x u i j p q. u i j (omega arith) (omega arith)) ts a.1) (λ i p. w i (omega arith))
      ]
