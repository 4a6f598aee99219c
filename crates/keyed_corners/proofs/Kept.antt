-- What a loop has kept of a list whose items may each give one: that, and what the rest would give, is what all give.
use Rattle.std.proofs.Common.{◌≡◌, ℕ, ◌+◌, ◌<◌, ◌≤◌, List, [], ◌∷◌, ◌++◌, length, drop, get_or, Option, Some, None, filter_map, sym, ap, ◌∙◌}
use Rattle.std.specs.List.{cons_option}
use Rattle.std.proofs.lemmas.List.{append_assoc, append-nil, at_drop_more, at_drop_all}

module _ {X Y : Type 0} (f : X → Option Y) (xs : List X) where
  -- an item that gives one
  pub kept : (i : ℕ) (d : X) (ys zs : List Y) (y : Y) → i < length xs → f (get_or xs i d) ≡ Some y → zs ≡ ys ++ y ∷ [] → ys ++ filter_map f (drop i xs) ≡ filter_map f xs → zs ++ filter_map f (drop (i + 1) xs) ≡ filter_map f xs
  kept i d ys zs y l e z h =
      let rest = filter_map f (drop (i + 1) xs) in
      ap (λ (us : List Y). us ++ rest) z
      ∙ append_assoc ys (y ∷ []) rest
      ∙ ap (λ (o : Option Y). ys ++ cons_option o rest) (sym e)
      ∙ sym (at_drop_more (λ (us : List X). ys ++ filter_map f us) xs i d l)
      ∙ h

  -- one that gives none
  pub passed : (i : ℕ) (d : X) (ys : List Y) → i < length xs → f (get_or xs i d) ≡ None → ys ++ filter_map f (drop i xs) ≡ filter_map f xs → ys ++ filter_map f (drop (i + 1) xs) ≡ filter_map f xs
  passed i d ys l e h =
      ap (λ (o : Option Y). ys ++ cons_option o (filter_map f (drop (i + 1) xs))) (sym e)
      ∙ sym (at_drop_more (λ (us : List X). ys ++ filter_map f us) xs i d l)
      ∙ h

  -- at the end
  pub all_kept : (i : ℕ) (ys : List Y) → length xs ≤ i → ys ++ filter_map f (drop i xs) ≡ filter_map f xs → ys ≡ filter_map f xs
  all_kept i ys l h = sym (append-nil ys) ∙ sym (at_drop_all (λ (us : List X). ys ++ filter_map f us) xs i l) ∙ h
