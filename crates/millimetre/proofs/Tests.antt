-- The checks of a float that is to be a scalar: what each test of the code says of it.
use Rattle.std.proofs.Common.{◌≡◌, ℕ, ◌*◌, ◌/◌, ◌%◌, ◌^◌, ◌<◌, ◌≤◌, Bool, true, false, not, ◌&&◌, ◌||◌, T, eqb, ltb, ℤ, pos, neg_ℤ, sym, refl, ap, ◌∙◌, subst, le_trans, le_of_eq, mul-le-mul_right, mul_assoc, mul_comm, mul-pos, div-add-mod', mul-one, mul_right_comm, div-mul-le_self, le_of_mul-le-mul_right, mul-div_cancel, arith, eqb→eq, ltb→lt, lt→ltb, nltb→le, T_not}
use mathlib.Core.Bool.{beq}
use native.Mathlib.Nat.{eq_of_mul-eq-mul_right, mul-mod_left, zero-div}
use lib.Dec.{not_T}
use lib.Ieee.{Float, nan, inf, fin, binary64, up, down, fits, round, mul, lt, eq, is_nan, of_bits}
use lib.Ieee.Fits.{eq→eqb, and_l, and_r, and_i, down_pos}
use lib.Ieee.Exact.{HasValue}
use lib.Ieee.Back.{round_whole}
use Rattle.std.specs.Float.{float_with_sign, trunc, round_with}
use Rattle.millimetre.specs.Millimetres.{on_grid, beyond, whole, minus_zero, units_of}
use Rattle.millimetre.proofs.Exact.{k256, scaled_value}

pub yes : (b : Bool) → b ≡ true → T b
yes b h = subst T (sym h) tt

pub no : (b : Bool) → b ≡ false → T (not b)
no b h = subst (λ (a : Bool). T (not a)) (sym h) tt

pub k21_is : of_bits binary64 4701758010974797824 ≡ fin false 1 (pos 21)
unfolding of_bits
k21_is = refl

pub zero_is : of_bits binary64 0 ≡ fin false 0 (pos 0)
unfolding of_bits
zero_is = refl

-- ---- beyond reach

pub over_reach : (x : Float) → T (lt (fin false 1 (pos 21)) (float_with_sign false x)) → T (beyond x)
unfolding lt float_with_sign
over_reach nan t = t
over_reach (inf s) t = tt
over_reach (fin s m e) t = lt→ltb (536870912 * down e) (m * up e * 256) (omega (arith, ltb→lt (2097152 * down e) (m * up e * 1) t))

pub in_reach : (x : Float) → T (not (lt (fin false 1 (pos 21)) (float_with_sign false x))) → T (not (beyond x))
unfolding lt float_with_sign
in_reach nan t = tt
in_reach (inf s) t = t
in_reach (fin s m e) t = not_T (ltb (536870912 * down e) (m * up e * 256)) (λ b. T_not (ltb (2097152 * down e) (m * up e * 1)) t (lt→ltb (2097152 * down e) (m * up e * 1) (omega (arith, ltb→lt (536870912 * down e) (m * up e * 256) b))))

-- ---- equal to its whole part

beq_refl : (t u : Bool) → u ≡ t → T (beq t u)
beq_refl true u h = subst (λ (v : Bool). T (beq true v)) (sym h) tt
beq_refl false u h = subst (λ (v : Bool). T (beq false v)) (sym h) tt

or_l : (a b : Bool) → T a → T (a || b)
or_l true b t = tt
or_l false b t = absurd t

eq_of : (t : Bool) (m : ℕ) (e : ℤ) (r : Float) (w : ℕ) → HasValue r t w 1 → (T (eq (fin t m e) r) → m * up e ≡ w * down e) × (m * up e ≡ w * down e → T (eq (fin t m e) r))
unfolding eq
eq_of t m e nan w v = absurd v
eq_of t m e (inf u) w v = absurd v
eq_of t m e (fin u p g) w v =
    let q : p * up g ≡ w * down g = sym (mul-one (p * up g)) ∙ v.1 in
    let a = m * up e * down g in
    let b = p * up g * down e in
    let is : b ≡ w * down e * down g = ap (λ (z : ℕ). z * down e) q ∙ mul_right_comm w (down g) (down e) in (
      (λ h. eq_of_mul-eq-mul_right (down g) (down_pos g) (m * up e) (w * down e) (eqb→eq a b (and_l (eqb a b) (beq t u || eqb a 0) h) ∙ is)),
      (λ h. and_i (eqb a b) (beq t u || eqb a 0) (eq→eqb (ap (λ (z : ℕ). z * down g) h ∙ sym is)) (or_l (beq t u) (eqb a 0) (beq_refl t u v.0))),
    )

trunc_is : (t : Bool) (m : ℕ) (e : ℤ) → trunc binary64 (fin t m e) ≡ round binary64 t (m * up e / down e) 1
unfolding round_with
trunc_is true m e = refl
trunc_is false m e = refl

-- q / p is n / d, and n / d is at most 2 ^ 29
module _ (q p n d : ℕ) (P : 0 < p) (D : 0 < d) (v : q * d ≡ n * p) where
  cut_bound : n ≤ 536870912 * d → q / p ≤ 2 ^ 53
  cut_bound h =
      let a : q / p * p * d ≤ n * p = le_trans (mul-le-mul_right d (div-mul-le_self q p)) (le_of_eq v) in
      let b : n * p ≤ 536870912 * d * p = mul-le-mul_right p h in
      let c : q / p * (p * d) ≤ 536870912 * (p * d) = le_trans (le_of_eq (sym (mul_assoc (q / p) p d))) (le_trans a (le_trans b (le_of_eq (mul_assoc 536870912 d p ∙ ap (λ (z : ℕ). 536870912 * z) (mul_comm d p))))) in
      let r : q / p ≤ 536870912 = le_of_mul-le-mul_right c (mul-pos P D) in
      omega arith

  no_rest : q ≡ q / p * p → n % d ≡ 0
  no_rest h =
      let a : n * p ≡ q / p * d * p = sym v ∙ ap (λ (z : ℕ). z * d) h ∙ mul_right_comm (q / p) p d in
      ap (λ (z : ℕ). z % d) (eq_of_mul-eq-mul_right p P n (q / p * d) a) ∙ mul-mod_left (q / p) d

  all_cut : n % d ≡ 0 → q ≡ q / p * p
  all_cut h =
      let k = n / d in
      let a : n ≡ k * d = sym (div-add-mod' n d) ∙ omega (arith, h) in
      let b : q ≡ k * p = eq_of_mul-eq-mul_right d D q (k * p) (v ∙ ap (λ (z : ℕ). z * p) a ∙ mul_right_comm k d p) in
      b ∙ ap (λ (z : ℕ). z * p) (sym (ap (λ (z : ℕ). z / p) b ∙ mul-div_cancel k P))

pub trunc_tells : (y : Float) (s : Bool) (n d : ℕ) → 0 < d → n ≤ 536870912 * d → HasValue y s n d → (T (eq y (trunc binary64 y)) → n % d ≡ 0) × (n % d ≡ 0 → T (eq y (trunc binary64 y)))
trunc_tells nan s n d D h v = absurd v
trunc_tells (inf u) s n d D h v = absurd v
trunc_tells (fin t m e) s n d D h v =
    let q = m * up e in
    let p = down e in
    let r = eq_of t m e (round binary64 t (q / p) 1) (q / p) (round_whole binary64 t (q / p) (cut_bound q p n d (down_pos e) D v.1 h)) in (
      (λ x. no_rest q p n d (down_pos e) D v.1 (r.0 (subst (λ (z : Float). T (eq (fin t m e) z)) (trunc_is t m e) x))),
      (λ x. subst (λ (z : Float). T (eq (fin t m e) z)) (sym (trunc_is t m e)) (r.1 (all_cut q p n d (down_pos e) D v.1 x))),
    )

-- a number within reach, times 256, equals its whole part exactly if it is whole
pub whole_tells : (x : Float) → T (fits binary64 x) → T (not (is_nan x)) → T (not (beyond x))
    → (T (eq (mul binary64 x k256) (trunc binary64 (mul binary64 x k256))) → T (whole x)) × (T (whole x) → T (eq (mul binary64 x k256) (trunc binary64 (mul binary64 x k256))))
unfolding is_nan
whole_tells nan F n b = absurd n
whole_tells (inf s) F n b = absurd b
whole_tells (fin s m e) F n b =
    let h : m * up e * 256 ≤ 536870912 * down e = nltb→le (536870912 * down e) (m * up e * 256) b in
    let k = trunc_tells (mul binary64 (fin s m e) k256) s (m * up e * 256) (down e) (down_pos e) h (scaled_value s m e F (omega arith)) in
    ((λ x. eq→eqb (k.0 x)), (λ x. k.1 (eqb→eq (m * up e * 256 % down e) 0 x)))

-- ---- no -0

zero_equals : (s : Bool) (m : ℕ) (e : ℤ) → m ≡ 0 → T (eq (fin s m e) (fin false 0 (pos 0)))
unfolding eq
zero_equals s m e z =
    let a : m * up e * 1 ≡ 0 = ap (λ (k : ℕ). k * up e * 1) z ∙ omega arith in
    let b : 0 * 1 * down e ≡ 0 = omega arith in
    and_i (eqb (m * up e * 1) (0 * 1 * down e)) (beq s false || eqb (m * up e * 1) 0) (eq→eqb (a ∙ sym b)) (or_r (beq s false) (eqb (m * up e * 1) 0) (eq→eqb a))
  where
    or_r : (a b : Bool) → T b → T (a || b)
    or_r true b t = tt
    or_r false b t = t

pub not_zero : (x : Float) → eq x (fin false 0 (pos 0)) ≡ false → T (not (minus_zero x))
not_zero nan h = tt
not_zero (inf s) h = tt
not_zero (fin s m e) h = not_T (s && eqb m 0) (λ t. T_not (eq (fin s m e) (fin false 0 (pos 0))) (no (eq (fin s m e) (fin false 0 (pos 0))) h) (zero_equals s m e (eqb→eq m 0 (and_r s (eqb m 0) t))))

pub on_grid_by_tests : (x : Float) → T (whole x) → T (not (beyond x)) → T (not (minus_zero x)) → T (on_grid x)
on_grid_by_tests x a b c = and_i (whole x && not (beyond x)) (not (minus_zero x)) (and_i (whole x) (not (beyond x)) a b) c

-- what equals 0.0 means 0
pub zero_units : (x : Float) → eq x (fin false 0 (pos 0)) ≡ true → units_of x ≡ pos 0
unfolding eq
zero_units nan h = absurd (yes false h)
zero_units (inf s) h = absurd (yes false h)
zero_units (fin s m e) h =
    let t : T (eqb (m * up e * 1) (0 * 1 * down e)) = and_l (eqb (m * up e * 1) (0 * 1 * down e)) (beq s false || eqb (m * up e * 1) 0) (yes _ h) in
    let a : m * up e * 256 ≡ 0 = omega (arith, eqb→eq (m * up e * 1) (0 * 1 * down e) t) in
    let b : m * up e * 256 / down e ≡ 0 = ap (λ (z : ℕ). z / down e) a ∙ zero-div (down e) in
    elim s as (λ r. units_of (fin r m e) ≡ pos 0) [ true ↦ ap (λ (z : ℕ). neg_ℤ (pos z)) b | false ↦ ap pos b ]

-- ---- the tests that the code makes

equal_tests : (a b : Bool) → (T a → T b) → (T (not a) → T (not b)) → a ≡ b
equal_tests true true f g = refl
equal_tests true false f g = absurd (f tt)
equal_tests false true f g = absurd (g tt)
equal_tests false false f g = refl

pub reach_test : (x : Float) → lt (fin false 1 (pos 21)) (float_with_sign false x) ≡ beyond x
reach_test x = equal_tests (lt (fin false 1 (pos 21)) (float_with_sign false x)) (beyond x) (over_reach x) (in_reach x)

nan_differs : eq (mul binary64 nan k256) (trunc binary64 (mul binary64 nan k256)) ≡ false
unfolding eq mul
nan_differs = refl

pub whole_test : (x : Float) → T (fits binary64 x) → T (not (beyond x)) → eq (mul binary64 x k256) (trunc binary64 (mul binary64 x k256)) ≡ whole x
unfolding is_nan
whole_test nan F b = nan_differs
whole_test (inf s) F b = absurd b
whole_test (fin s m e) F b =
    let k = whole_tells (fin s m e) F tt b in
    let a = eq (mul binary64 (fin s m e) k256) (trunc binary64 (mul binary64 (fin s m e) k256)) in
    equal_tests a (whole (fin s m e)) k.0 (λ n. not_T (whole (fin s m e)) (λ w. T_not a n (k.1 w)))
