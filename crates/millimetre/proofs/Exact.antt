-- Floats that are whole numbers of 1/256: what they mean, scaled by 256 and cast.
use Rattle.std.proofs.Common.{◌≡◌, ℕ, zero, suc, ◌+◌, ◌-◌, ◌*◌, ◌/◌, ◌%◌, ◌^◌, ◌<◌, ◌≤◌, Bool, true, false, cond, not, ◌&&◌, T, eqb, ltb, leb, ℤ, pos, negsuc, neg_ℤ, sym, refl, ap, ◌∙◌, subst, true≢false, le_trans, le_of_eq, le_of_suc-le-suc, lt_of_le_of_lt, lt_irrefl, mul-le-mul_right, mul_assoc, mul-pos, one-mul, lt_of_not-le, div-add-mod', zero-mul, mul-one, mul_right_comm, le_of_mul-le-mul_right, mul-div_cancel, arith, lit<, le→leb, eqb→eq, ltb→lt, lt→ltb, leb→le, nltb→le, pow_pos, pow-add}
use mathlib.Core.Bool.{false≢true}
use native.Mathlib.Nat.{eq_of_mul-eq-mul_right, mul-mod_left}
use lib.Dec.{not_T}
use lib.Pow.{pow-lt}
use lib.Ieee.{Float, nan, inf, fin, binary64, up, down, size, fits, round, mul, div, of_int, of_bits, to_bits, top, hid, in_float, in_signed, to_signed}
use lib.Ieee.Fits.{eq→eqb, up_pos, down_pos, and_l, and_r, and_i, mul-fits, of_int-fits}
use lib.Ieee.Bits.{of_bits-to_bits}
use lib.Ieee.Digits.{back}
use lib.Ieee.Exact.{HasValue, round_exact}
use lib.Ieee.Back.{round_whole, whole_unique, positive_back, negative_back}
use Rattle.std.proofs.lemmas.Int.{ints}
use Rattle.plane.specs.Reach.{Within}
use Rattle.millimetre.specs.Millimetres.{units_of, on_grid, beyond, whole, minus_zero}

-- 256.0
abbrev pub k256 : Float
k256 = fin false 1 (pos 8)

pub k256_is : of_bits binary64 4643211215818981376 ≡ k256
unfolding of_bits
k256_is = refl

-- ---- what a float that fits has: at most 53 digits, and no part below 2 ^ -1074

denominator_of_one : (e : ℤ) → up e * down e ≡ 1 → down e ≤ 2 ^ 1074
denominator_of_one (pos k) h = pow_pos 1074
denominator_of_one (negsuc k) h = le_trans (le_of_eq (sym (one-mul (2 ^ suc k)) ∙ h)) (pow_pos 1074)

pub fits_tells : (s : Bool) (m : ℕ) (e : ℤ) → T (fits binary64 (fin s m e)) → (m < 2 ^ 53) × (down e ≤ 2 ^ 1074)
unfolding fits
fits_tells s zero e t = (lit< tt, denominator_of_one e (eqb→eq (up e * down e) 1 t))
fits_tells s (suc m) e t =
    let a : Bool = eqb (suc m % 2) 1 in
    let b : Bool = ltb (suc m) (2 ^ 53) in
    let c : Bool = leb (down e) (2 ^ 1074) in
    let d : Bool = ltb (suc m * up e) (2 ^ 1024 * down e) in
    let l : T (a && b && c) = and_l (a && b && c) d t in
    (ltb→lt (suc m) (2 ^ 53) (and_r a b (and_l (a && b) c l)), leb→le (down e) (2 ^ 1074) (and_r (a && b) c l))

pow_le_back : (i p : ℕ) → 2 ^ i ≤ 2 ^ p → i ≤ p
pow_le_back i p h = le_of_suc-le-suc (lt_of_not-le (λ (g : suc p ≤ i). lt_irrefl (2 ^ i) (lt_of_le_of_lt h (pow-lt g))))

le_1082 : (k : ℕ) → k ≤ 1074 → k ≤ 1082
le_1082 k h = omega arith

-- 2 ^ e times 2 ^ 1082 is a power of two
power_scaled : (e : ℤ) → down e ≤ 2 ^ 1074 → (j : ℕ) × (up e * 2 ^ 1082 ≡ 2 ^ j * down e)
power_scaled (pos k) h = (k + 1082, sym (pow-add 2 k 1082) ∙ sym (mul-one (2 ^ (k + 1082))))
power_scaled (negsuc k) h =
    let l : suc k ≤ 1082 = le_1082 (suc k) (pow_le_back (suc k) 1074 h) in
    (1082 - suc k, one-mul (2 ^ 1082) ∙ ap (λ (z : ℕ). 2 ^ z) (sym (back 1082 (suc k) l)) ∙ pow-add 2 (1082 - suc k) (suc k))

-- ---- 256 times a float that fits and is at most 2 ^ 21 in size is exact

module _ (m u d j : ℕ) (D : 0 < d) (h : u * 2 ^ 1082 ≡ 2 ^ j * d) where
  mantissa_scaled : m * u * 256 * 2 ^ 1074 ≡ m * 2 ^ j * d
  mantissa_scaled = mul_assoc (m * u) 256 (2 ^ 1074) ∙ mul_assoc m u (2 ^ 1082) ∙ ap (λ (z : ℕ). m * z) h ∙ sym (mul_assoc m (2 ^ j) d)

  mantissa_bound : m * u ≤ 2097152 * d → m * 2 ^ j < 2 ^ 2098
  mantissa_bound b =
      let x : m * 2 ^ j * d ≤ 2 ^ 21 * 2 ^ 1082 * d =
      le_trans (le_of_eq (sym mantissa_scaled ∙ mul_assoc (m * u) 256 (2 ^ 1074)))
      (le_trans (mul-le-mul_right (2 ^ 1082) b) (le_of_eq (mul_right_comm 2097152 d (2 ^ 1082)))) in
      lt_of_le_of_lt (le_of_mul-le-mul_right x D) (lit< tt)

pub scaled : (s : Bool) (m : ℕ) (e : ℤ) → T (fits binary64 (fin s m e)) → m * up e ≤ 2097152 * down e → HasValue (round binary64 s (m * up e * 256) (down e)) s (m * up e * 256) (down e)
scaled s m e t b =
    let k = fits_tells s m e t in
    let j = power_scaled e k.1 in
    round_exact binary64 s (m * up e * 256) (down e) m j.0 (down_pos e) k.0 (mantissa_bound m (up e) (down e) j.0 (down_pos e) j.1 b) (mantissa_scaled m (up e) (down e) j.0 (down_pos e) j.1)

pub mul_is : (s : Bool) (m : ℕ) (e : ℤ) → mul binary64 (fin s m e) k256 ≡ round binary64 s (m * up e * 256) (down e)
unfolding mul
mul_is true m e = ap (λ (d : ℕ). round binary64 true (m * up e * 256) d) (mul-one (down e))
mul_is false m e = ap (λ (d : ℕ). round binary64 false (m * up e * 256) d) (mul-one (down e))

pub scaled_value : (s : Bool) (m : ℕ) (e : ℤ) → T (fits binary64 (fin s m e)) → m * up e ≤ 2097152 * down e → HasValue (mul binary64 (fin s m e) k256) s (m * up e * 256) (down e)
scaled_value s m e t b = subst (λ (y : Float). HasValue y s (m * up e * 256) (down e)) (sym (mul_is s m e)) (scaled s m e t b)

-- ---- a fraction written another way
pub rescale : (x : Float) (s : Bool) (a c b d : ℕ) → 0 < c → a * d ≡ b * c → HasValue x s a c → HasValue x s b d
rescale nan s a c b d C h v = v
rescale (inf t) s a c b d C h v = v
rescale (fin t m e) s a c b d C h v = (
  v.0,
  eq_of_mul-eq-mul_right c C (m * up e * d) (b * down e)
      (mul_right_comm (m * up e) d c ∙ ap (λ (z : ℕ). z * d) v.1 ∙ mul_right_comm a (down e) d ∙ ap (λ (z : ℕ). z * down e) h ∙ mul_right_comm b c (down e)),
)

-- ---- x is n / 256 with the sign s

pub scaled_to_whole : (x : Float) (s : Bool) (n : ℕ) → T (fits binary64 x) → HasValue x s n 256 → n ≤ 536870912 → HasValue (mul binary64 x k256) s n 1
scaled_to_whole nan s n F v h = absurd v
scaled_to_whole (inf t) s n F v h = absurd v
scaled_to_whole (fin t m e) s n F v h =
    let b : m * up e * 256 ≤ 536870912 * down e = le_trans (le_of_eq v.1) (mul-le-mul_right (down e) h) in
    rescale (mul binary64 (fin t m e) k256) s (m * up e * 256) (down e) n 1 (down_pos e) (mul-one (m * up e * 256) ∙ v.1)
    (subst (λ (z : Bool). HasValue (mul binary64 (fin t m e) k256) z (m * up e * 256) (down e)) v.0 (scaled_value t m e F (omega arith)))

abbrev pub Means : Float → ℤ → Type 0
Means x (pos n) = HasValue x false n 256
Means x (negsuc n) = HasValue x true (suc n) 256

within_53_bits : (n : ℕ) → n ≤ 536870912 → n ≤ 2 ^ 53
within_53_bits n h = omega arith

-- 256 times x, cast to an i32, is what x means
pub cast_is : (x : Float) (u : ℤ) → T (fits binary64 x) → Means x u → Within u → T (in_signed binary64 31 (mul binary64 x k256)) × (to_signed 31 (mul binary64 x k256) ≡ u)
unfolding in_float of_int
cast_is x (pos n) F v w =
    let h : n ≤ 536870912 = omega (arith, ints) in
    subst (λ (y : Float). T (in_signed binary64 31 y) × (to_signed 31 y ≡ pos n))
    (sym (whole_unique binary64 (mul binary64 x k256) (of_int binary64 (pos n)) false n (mul-fits binary64 x k256) (of_int-fits binary64 (pos n)) (scaled_to_whole x false n F v h) (round_whole binary64 false n (within_53_bits n h))))
    (positive_back binary64 31 n (le→leb n (2 ^ 53) (within_53_bits n h)) (omega arith))
cast_is x (negsuc n) F v w =
    let h : suc n ≤ 536870912 = omega (arith, ints) in
    subst (λ (y : Float). T (in_signed binary64 31 y) × (to_signed 31 y ≡ negsuc n))
    (sym (whole_unique binary64 (mul binary64 x k256) (of_int binary64 (negsuc n)) true (suc n) (mul-fits binary64 x k256) (of_int-fits binary64 (negsuc n)) (scaled_to_whole x true (suc n) F v h) (round_whole binary64 true (suc n) (within_53_bits (suc n) h))))
    (negative_back binary64 31 n (lt→ltb n (2 ^ 53) (within_53_bits (suc n) h)) (omega arith))

-- ---- `on_grid` says that x means its units

exact_quotient : (n d : ℕ) → n % d ≡ 0 → n ≡ n / d * d
exact_quotient n d r = sym (div-add-mod' n d) ∙ omega (arith, r)

quotient_bound : (q n d : ℕ) → 0 < d → n ≡ q * d → n ≤ 536870912 * d → q ≤ 536870912
quotient_bound q n d D e h = le_of_mul-le-mul_right (le_trans (le_of_eq (sym e)) h) D

negative_means : (q m : ℕ) (e : ℤ) → m * up e * 256 ≡ q * down e → q ≤ 536870912 → T (not (eqb m 0)) → Means (fin true m e) (neg_ℤ (pos q)) × Within (neg_ℤ (pos q))
negative_means zero m e v h z =
    let n : 0 < m = elim m as (λ k. T (not (eqb k 0)) → 0 < k) [ zero ↦ λ b. absurd b | suc k ↦ λ b. native.Mathlib.Nat.zero-lt-suc k ] z in
    absurd (omega (arith, v, mul-pos n (up_pos e)))
negative_means (suc q) m e v h z = ((refl, v), (omega (arith, ints), omega (arith, ints)))

pub on_grid_means : (x : Float) → T (on_grid x) → Means x (units_of x) × Within (units_of x)
on_grid_means nan t = absurd t
on_grid_means (inf s) t = absurd t
on_grid_means (fin false m e) t =
    let n = m * up e * 256 in
    let w = whole (fin false m e) in
    let b = not (beyond (fin false m e)) in
    let v : n ≡ n / down e * down e = exact_quotient n (down e) (eqb→eq (n % down e) 0 (and_l w b (and_l (w && b) true t))) in
    let h : n / down e ≤ 536870912 = quotient_bound (n / down e) n (down e) (down_pos e) v (nltb→le (536870912 * down e) n (and_r w b (and_l (w && b) true t))) in
    ((refl, v), (omega (arith, ints), omega (arith, ints)))
on_grid_means (fin true m e) t =
    let n = m * up e * 256 in
    let w = whole (fin true m e) in
    let b = not (beyond (fin true m e)) in
    let z = not (minus_zero (fin true m e)) in
    let v : n ≡ n / down e * down e = exact_quotient n (down e) (eqb→eq (n % down e) 0 (and_l w b (and_l (w && b) z t))) in
    let h : n / down e ≤ 536870912 = quotient_bound (n / down e) n (down e) (down_pos e) v (nltb→le (536870912 * down e) n (and_r w b (and_l (w && b) z t))) in
    negative_means (n / down e) m e v h (and_r (w && b) z t)

-- ---- and back: what means a number within reach is `on_grid`

not_beyond : (n d q : ℕ) → n ≡ q * d → q ≤ 536870912 → T (not (ltb (536870912 * d) n))
not_beyond n d q e h = not_T (ltb (536870912 * d) n) (λ t. lt_irrefl n (lt_of_le_of_lt (le_trans (le_of_eq e) (mul-le-mul_right d h)) (ltb→lt (536870912 * d) n t)))

mantissa_nonzero : (m u q d : ℕ) → 0 < d → m * u * 256 ≡ suc q * d → T (not (eqb m 0))
mantissa_nonzero m u q d D e = not_T (eqb m 0) (λ t. let z : m ≡ 0 = eqb→eq m 0 t in let y : m * u ≡ 0 = ap (λ (k : ℕ). k * u) z ∙ zero-mul u in omega (arith, mul-pos (native.Mathlib.Nat.zero-lt-suc q) D))

pub means_on_grid : (x : Float) (u : ℤ) → Means x u → Within u → T (on_grid x) × (units_of x ≡ u)
means_on_grid nan (pos n) v w = absurd v
means_on_grid nan (negsuc n) v w = absurd v
means_on_grid (inf s) (pos n) v w = absurd v
means_on_grid (inf s) (negsuc n) v w = absurd v
means_on_grid (fin true m e) (pos n) v w = absurd (true≢false v.0)
means_on_grid (fin false m e) (negsuc n) v w = absurd (false≢true v.0)
means_on_grid (fin false m e) (pos n) v w =
    let k = m * up e * 256 in
    let a : T (whole (fin false m e)) = eq→eqb (ap (λ (z : ℕ). z % down e) v.1 ∙ mul-mod_left n (down e)) in
    let b : T (not (beyond (fin false m e))) = not_beyond k (down e) n v.1 (omega (arith, ints)) in (
      and_i (whole (fin false m e) && not (beyond (fin false m e))) true (and_i (whole (fin false m e)) (not (beyond (fin false m e))) a b) tt,
      ap (λ (z : ℕ). pos (z / down e)) v.1 ∙ ap pos (mul-div_cancel n (down_pos e)),
    )
means_on_grid (fin true m e) (negsuc n) v w =
    let k = m * up e * 256 in
    let a : T (whole (fin true m e)) = eq→eqb (ap (λ (z : ℕ). z % down e) v.1 ∙ mul-mod_left (suc n) (down e)) in
    let b : T (not (beyond (fin true m e))) = not_beyond k (down e) (suc n) v.1 (omega (arith, ints)) in (
      and_i (whole (fin true m e) && not (beyond (fin true m e))) (not (minus_zero (fin true m e))) (and_i (whole (fin true m e)) (not (beyond (fin true m e))) a b) (mantissa_nonzero m (up e) n (down e) (down_pos e) v.1),
      ap (λ (z : ℕ). neg_ℤ (pos (z / down e))) v.1 ∙ ap (λ (z : ℕ). neg_ℤ (pos z)) (mul-div_cancel (suc n) (down_pos e)),
    )

-- ---- one value, one float

bits_of_value : (x : Float) (s : Bool) (a : ℕ) → HasValue x s a (2 ^ 1074) → to_bits binary64 x ≡ cond s (top binary64) 0 + (size a - 53) * hid binary64 + a / 2 ^ (size a - 53)
unfolding to_bits
bits_of_value nan s a v = absurd v
bits_of_value (inf t) s a v = absurd v
bits_of_value (fin t m e) s a v =
    let n : m * up e * 2 ^ 1074 / down e ≡ a = ap (λ (k : ℕ). k / down e) v.1 ∙ mul-div_cancel a (down_pos e) in
    λ i. cond (v.0 i) (top binary64) 0 + (size (n i) - 53) * hid binary64 + n i / 2 ^ (size (n i) - 53)

same_value : (x y : Float) (s : Bool) (n : ℕ) → T (fits binary64 x) → T (fits binary64 y) → HasValue x s n 256 → HasValue y s n 256 → x ≡ y
same_value x y s n p q v w =
    let h : n * 2 ^ 1074 ≡ n * 2 ^ 1066 * 256 = sym (mul_assoc n (2 ^ 1066) 256) in
    let a = bits_of_value x s (n * 2 ^ 1066) (rescale x s n 256 (n * 2 ^ 1066) (2 ^ 1074) (pow_pos 8) h v) in
    let b = bits_of_value y s (n * 2 ^ 1066) (rescale y s n 256 (n * 2 ^ 1066) (2 ^ 1074) (pow_pos 8) h w) in
    sym (of_bits-to_bits binary64 x p) ∙ ap (of_bits binary64) (a ∙ sym b) ∙ of_bits-to_bits binary64 y q

pub means_one : (x y : Float) (u : ℤ) → T (fits binary64 x) → T (fits binary64 y) → Means x u → Means y u → x ≡ y
means_one x y (pos n) p q v w = same_value x y false n p q v w
means_one x y (negsuc n) p q v w = same_value x y true (suc n) p q v w

-- ---- a whole number over 256

pub div_is : (s : Bool) (m : ℕ) (e : ℤ) → div binary64 (fin s m e) k256 ≡ round binary64 s (m * up e) (256 * down e)
unfolding div
div_is true m e = ap (λ (n : ℕ). round binary64 true n (256 * down e)) (mul-one (m * up e))
div_is false m e = ap (λ (n : ℕ). round binary64 false n (256 * down e)) (mul-one (m * up e))

quotient_scaled : (a n d : ℕ) → a ≡ n * d → a * 2 ^ 1074 ≡ n * 2 ^ 1066 * (256 * d)
quotient_scaled a n d e =
    ap (λ (z : ℕ). z * 2 ^ 1074) e ∙ mul_right_comm n d (2 ^ 1074) ∙ ap (λ (z : ℕ). z * d) (sym (mul_assoc n (2 ^ 1066) 256)) ∙ mul_assoc (n * 2 ^ 1066) 256 d

pub quotient : (x : Float) (s : Bool) (n : ℕ) → HasValue x s n 1 → n ≤ 536870912 → HasValue (div binary64 x k256) s n 256
quotient nan s n v h = absurd v
quotient (inf t) s n v h = absurd v
quotient (fin t m e) s n v h =
    let q : m * up e ≡ n * down e = sym (mul-one (m * up e)) ∙ v.1 in
    let r : HasValue (round binary64 t (m * up e) (256 * down e)) t (m * up e) (256 * down e) =
    round_exact binary64 t (m * up e) (256 * down e) n 1066 (mul-pos (pow_pos 8) (down_pos e)) (lt_of_le_of_lt h (lit< tt)) (lt_of_le_of_lt (mul-le-mul_right (2 ^ 1066) h) (lit< tt)) (quotient_scaled (m * up e) n (down e) q) in
    rescale (div binary64 (fin t m e) k256) s (m * up e) (256 * down e) n 256 (mul-pos (pow_pos 8) (down_pos e))
    (omega (arith, q))
    (subst (λ (z : Bool). HasValue (div binary64 (fin t m e) k256) z (m * up e) (256 * down e)) v.0
    (subst (λ (z : Float). HasValue z t (m * up e) (256 * down e)) (sym (div_is t m e)) r))

pub from_means : (u : ℤ) → Within u → Means (div binary64 (of_int binary64 u) k256) u
unfolding of_int
from_means (pos n) w = let h : n ≤ 536870912 = omega (arith, ints) in quotient (round binary64 false n 1) false n (round_whole binary64 false n (within_53_bits n h)) h
from_means (negsuc n) w = let h : suc n ≤ 536870912 = omega (arith, ints) in quotient (round binary64 true (suc n) 1) true (suc n) (round_whole binary64 true (suc n) (within_53_bits (suc n) h)) h
