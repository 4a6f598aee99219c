-- What comparisons of two numbers tell of their units.
use Rattle.std.proofs.Common.{◌≡◌, Bool, true, false, cond, not, ℤ, ◌≤ℤ◌, ◌<ℤ◌, Some, Option, refl, sym, ap, ◌∙◌, subst, arith}
use Rattle.std.proofs.lemmas.Int.{ints, clamps}
use Rattle.std.specs.Prelude.{int_lt, unwrap_or}
use Rattle.std.specs.Int.{int_min, int_max}
use Rattle.std.specs.declared.cmp.Ordering.{Ordering}
use Rattle.std.specs.declared.cmp.Ordering.TheVariants.{Less, Equal, Greater}
use Rattle.std.specs.Ordering.{int_cmp, is_lt, is_le, is_eq, is_some_and, partial_le, partial_lt, ord_min, ord_max, MatchOrdering}
use Rattle.std.specs.Cmp.{int_ranks}
use Rattle.plane.specs.Reflects.{Reflects}
use Rattle.plane.proofs.Answers.{reflects_same}

is_less : (x y : ℤ) → is_lt (int_cmp x y) ≡ int_lt x y
is_less x y = by_tests (int_lt x y) (int_lt y x)
  where
    by_tests : (p q : Bool) → is_lt (cond p Less (cond q Greater Equal)) ≡ p
    by_tests true q = refl
    by_tests false true = refl
    by_tests false false = refl

at_most_by : (o : Ordering) (u v : ℤ) → MatchOrdering o (u <ℤ v) (u ≡ v) (v <ℤ u) → Reflects (is_le o) (u ≤ℤ v)
at_most_by Less u v h = omega (arith, ints)
at_most_by Equal u v h = omega (arith, ints)
at_most_by Greater u v h = λ k. omega (arith, ints)

at_least_by : (o : Ordering) (u v : ℤ) → MatchOrdering o (u <ℤ v) (u ≡ v) (v <ℤ u) → Reflects (not (is_lt o)) (v ≤ℤ u)
at_least_by Less u v h = λ k. omega (arith, ints)
at_least_by Equal u v h = omega (arith, ints)
at_least_by Greater u v h = omega (arith, ints)

equal_by : (o : Ordering) (u v : ℤ) → MatchOrdering o (u <ℤ v) (u ≡ v) (v <ℤ u) → Reflects (is_eq o) (u ≡ v)
equal_by Less u v h = λ k. omega (arith, ints)
equal_by Equal u v h = h
equal_by Greater u v h = λ k. omega (arith, ints)

chosen : {A : Type 0} (f : A → ℤ) (r : Bool) (a b : A) → f (cond r a b) ≡ cond r (f a) (f b)
chosen f true a b = refl
chosen f false a b = refl

module _ {V : Type 0} (units : V → ℤ) (partial : V → V → Option Ordering) (cmp : V → V → Ordering)
    (matches : (x y : V) → partial x y ≡ Some (cmp x y)) (ordered : (x y : V) → partial x y ≡ Some (int_cmp (units x) (units y))) where
  pub cmp_units : (x y : V) → cmp x y ≡ int_cmp (units x) (units y)
  cmp_units x y = ap (λ (o : Option Ordering). unwrap_or o Equal) (sym (matches x y) ∙ ordered x y)

  -- what `<=` answers
  pub at_most_reflects : (r : Bool) (x y : V) → r ≡ partial_le partial x y → Reflects r (units x ≤ℤ units y)
  at_most_reflects r x y e =
      subst (λ (o : Bool). Reflects o (units x ≤ℤ units y)) (sym (e ∙ ap (is_some_and is_le) (ordered x y)))
      (at_most_by (int_cmp (units x) (units y)) (units x) (units y) (int_ranks (units x) (units y)))

  -- what `<` denies
  pub at_least_reflects : (r : Bool) (x y : V) → r ≡ partial_lt partial x y → Reflects (not r) (units y ≤ℤ units x)
  at_least_reflects r x y e =
      subst (λ (o : Bool). Reflects (not o) (units y ≤ℤ units x)) (sym (e ∙ ap (is_some_and is_lt) (ordered x y)))
      (at_least_by (int_cmp (units x) (units y)) (units x) (units y) (int_ranks (units x) (units y)))

  less : (x y : V) → is_lt (cmp x y) ≡ int_lt (units x) (units y)
  less x y = ap is_lt (cmp_units x y) ∙ is_less (units x) (units y)

  pub units_min : (r a b : V) → r ≡ ord_min cmp a b → units r ≡ int_min (units a) (units b)
  units_min r a b e = ap units e ∙ chosen units (is_lt (cmp b a)) b a ∙ (λ i. cond (less b a i) (units b) (units a))

  pub units_max : (r a b : V) → r ≡ ord_max cmp a b → units r ≡ int_max (units a) (units b)
  units_max r a b e = ap units e ∙ chosen units (is_lt (cmp b a)) a b ∙ (λ i. cond (less b a i) (units a) (units b))

  pub min_below_max : (r s a b : V) → r ≡ ord_min cmp a b → s ≡ ord_max cmp a b → units r ≤ℤ units s
  min_below_max r s a b e f = omega (arith, ints, clamps, units_min r a b e, units_max s a b f)

  -- what `==` answers, where equal units make equal numbers
  pub equal_reflects : (equal : V → V → Bool) → ((x y : V) → equal x y ≡ is_eq (cmp x y)) → ((x y : V) → units x ≡ units y → x ≡ y) → (r : Bool) (x y : V) → r ≡ equal x y → Reflects r (x ≡ y)
  equal_reflects equal agrees same r x y e =
      subst (λ (o : Bool). Reflects o (x ≡ y)) (sym (e ∙ agrees x y ∙ ap is_eq (cmp_units x y)))
      (reflects_same (is_eq (int_cmp (units x) (units y))) (same x y) (ap units)
      (equal_by (int_cmp (units x) (units y)) (units x) (units y) (int_ranks (units x) (units y))))
