-- Iterators that give a list: what `all` and `any` answer, as statements by recursion over the list, and what a `for` has
-- left of the list.
use Rattle.std.proofs.Common.{◌≡◌, ℕ, zero, suc, ◌+◌, ◌<◌, Bool, true, false, ◌⊎◌, List, [], ◌∷◌, ◌++◌, length, drop, Option, Some, None, MatchBool, sym, ap₂, ◌∙◌, inl, inr, arith}
use Rattle.std.specs.Fn.{Called}
use Rattle.std.specs.Iterator.{Yields, ChecksAll, ChecksAny}
use Rattle.std.specs.List.{AllByRecursion, AllWithin, HoldsAt}
use Rattle.std.proofs.lemmas.Bool.{false≢true}
use Rattle.std.proofs.lemmas.Iterator.{YieldsList, cases_from_all, cases_from_any}
use Rattle.std.proofs.lemmas.Iterator.Search.{true_from_All}
use Rattle.std.proofs.lemmas.Iterator.Consumers.{YieldsList-turn, YieldsList-end}
use Rattle.std.proofs.lemmas.List.{at_drop_more, at_drop_all, length_push}
use Rattle.std.proofs.lemmas.List.Elements.{All-from_recursion, recursion_from_All, All-from_all_within}
use denote.Param.Members.{Mut}
use Rattle.plane.specs.Reflects.{Reflects, Iff}

module _ {X : Type 0} (P : X → Type 0) where
  -- all, by the places
  all_by_places : (r : Bool) (xs : List X) → MatchBool r (AllWithin P xs 0 (length xs)) ((k : ℕ) × (k < length xs) × HoldsAt (λ x. P x → ⊥) xs k) → Reflects r (AllByRecursion P xs)
  all_by_places true xs h = recursion_from_All P xs (All-from_all_within P xs h)
  all_by_places false xs h = λ a. false≢true (true_from_All P (λ x. P x → ⊥) false xs (λ x p n. n p) h (All-from_recursion P xs a))

  -- any, where S says it by recursion
  module _ (S : List X → Type 0) (none : S [] → ⊥) (more : (x : X) (xs : List X) → Iff (P x ⊎ S xs) (S (x ∷ xs))) where
    some_holds : (xs : List X) (k : ℕ) → k < length xs → HoldsAt P xs k → S xs
    some_holds [] k l h = absurd (omega arith)
    some_holds (x ∷ xs) zero l h = (more x xs).0 (inl (h x))
    some_holds (x ∷ xs) (suc k) l h = (more x xs).0 (inr (some_holds xs k (omega arith) h))

    none_holds : (xs : List X) → AllByRecursion (λ x. P x → ⊥) xs → S xs → ⊥
    none_holds [] a s = none s
    none_holds (x ∷ xs) a s = elim ((more x xs).1 s) [ inl p ↦ a.0 p | inr t ↦ none_holds xs a.1 t ]

    any_by_places : (r : Bool) (xs : List X) → MatchBool r ((k : ℕ) × (k < length xs) × HoldsAt P xs k) (AllWithin (λ x. P x → ⊥) xs 0 (length xs)) → Reflects r (S xs)
    any_by_places true xs h = some_holds xs h.0 h.1 h.2
    any_by_places false xs h = none_holds xs (recursion_from_All (λ x. P x → ⊥) xs (All-from_all_within (λ x. P x → ⊥) xs h))

-- ---- `all` and `any`

-- the closure asks P of what v reads from an item
module _ {S A B F : Type 0} {steps : S → Option A → S → Type 0} {v : A → B} {g : Mut F (A × Unit {0}) Bool} {s : S} {xs : List B} (P : B → Type 0) (u : S) (f : F) (r : Bool) where
  pub all_reflects : ChecksAll steps g s f r u → YieldsList steps v s xs → ((x : A) (b : Bool) (q : F) → Called g f (x, tt) b q → (q ≡ f) × Reflects b (P (v x))) → Reflects r (AllByRecursion P xs)
  all_reflects ran e asks = all_by_places P r xs (cases_from_all u f r P (λ x. P x → ⊥) ran e (λ x q k. asks x true q k) (λ x q k. (asks x false q k).1))

  pub any_reflects : (S : List B → Type 0) → (S [] → ⊥) → ((x : B) (xs : List B) → Iff (P x ⊎ S xs) (S (x ∷ xs))) → ChecksAny steps g s f r u → YieldsList steps v s xs → ((x : A) (b : Bool) (q : F) → Called g f (x, tt) b q → (q ≡ f) × Reflects b (P (v x))) → Reflects r (S xs)
  any_reflects S none more ran e asks = any_by_places P S none more r xs (cases_from_any u f r P (λ x. P x → ⊥) ran e (λ x q k. (asks x true q k).1) (λ x q k. asks x false q k))

-- ---- a `for` that has had xs, for whatever F works out of the list that is left

module _ {S A B Y : Type 0} {steps : S → Option A → S → Type 0} {v : A → B} {s : S} {all : List B} (F : List B → Y) (e : YieldsList steps v s all) (xs : List A) (t : S) (y : Yields steps s xs t) (r : Option A) (u : S) where
  pub left_more : (x : A) → r ≡ Some x → steps t r u → F (drop (length xs) all) ≡ F (v x ∷ drop (length (xs ++ x ∷ [])) all)
  left_more x o k =
      let i = YieldsList-turn e xs t y r u x o k in
      let n : length (xs ++ x ∷ []) ≡ length xs + 1 = length_push xs x in
      at_drop_more F all (length xs) (v x) i.0 ∙ ap₂ (λ (b : B) (m : ℕ). F (b ∷ drop m all)) (sym i.1) (sym n)

  pub left_none : r ≡ None → steps t r u → F (drop (length xs) all) ≡ F []
  left_none o k = at_drop_all F all (length xs) (omega (arith, (YieldsList-end e xs t y r u o k).1))
