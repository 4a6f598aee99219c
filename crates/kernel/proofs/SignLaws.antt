-- The signs of products and differences.
use Rattle.std.proofs.Common.{◌≡◌, zero, suc, ℤ, pos, negsuc, ◌-ℤ◌, ◌*ℤ◌, ◌<ℤ◌, refl, ap, zero-lt-suc, mul-pos, arith}
use Rattle.std.specs.Int.{int_signum}
use Rattle.std.proofs.lemmas.Int.{ints}

pub sign_positive : (z : ℤ) → pos 0 <ℤ z → int_signum z ≡ pos 1
sign_positive (pos zero) h = absurd (omega (arith, ints))
sign_positive (pos (suc n)) h = omega (arith, ints)
sign_positive (negsuc n) h = absurd (omega (arith, ints))

pub sign_negative : (z : ℤ) → z <ℤ pos 0 → int_signum z ≡ negsuc 0
sign_negative (pos n) h = absurd (omega (arith, ints))
sign_negative (negsuc n) h = refl

pub sign_zero : (z : ℤ) → z ≡ pos 0 → int_signum z ≡ pos 0
sign_zero z e = ap int_signum e

-- a product has its second factor's sign, or the other one
pub sign_of_product : (a b : ℤ) → pos 0 <ℤ a → int_signum (a *ℤ b) ≡ int_signum b
sign_of_product (pos m) (pos zero) h = sign_zero (pos m *ℤ pos 0) (omega (arith, ints))
sign_of_product (pos m) (pos (suc n)) h =
    let p = sign_positive (pos m *ℤ pos (suc n)) (omega (arith, ints, mul-pos {m = m} {n = suc n} (omega (arith, ints)) (zero-lt-suc n))) in
    omega (arith, ints)
sign_of_product (pos m) (negsuc n) h = sign_negative (pos m *ℤ negsuc n) (omega (arith, ints, mul-pos {m = m} {n = suc n} (omega (arith, ints)) (zero-lt-suc n)))
sign_of_product (negsuc m) b h = absurd (omega (arith, ints))

-- where the signs differ, so do the numbers
pub sign_greater : (x y : ℤ) → int_signum y <ℤ int_signum x → pos 0 <ℤ (x -ℤ y)
sign_greater (pos zero) (pos zero) h = absurd (omega (arith, ints))
sign_greater (pos zero) (pos (suc n)) h = absurd (omega (arith, ints))
sign_greater (pos zero) (negsuc n) h = omega (arith, ints)
sign_greater (pos (suc m)) (pos zero) h = omega (arith, ints)
sign_greater (pos (suc m)) (pos (suc n)) h = absurd (omega (arith, ints))
sign_greater (pos (suc m)) (negsuc n) h = omega (arith, ints)
sign_greater (negsuc m) (pos zero) h = absurd (omega (arith, ints))
sign_greater (negsuc m) (pos (suc n)) h = absurd (omega (arith, ints))
sign_greater (negsuc m) (negsuc n) h = absurd (omega (arith, ints))

pub sign_less : (x y : ℤ) → int_signum x <ℤ int_signum y → (x -ℤ y) <ℤ pos 0
sign_less x y h = omega (arith, ints, sign_greater y x h)

pub zero_sign : (x : ℤ) → int_signum x ≡ pos 0 → x ≡ pos 0
zero_sign (pos zero) e = refl
zero_sign (pos (suc n)) e = absurd (omega (arith, ints))
zero_sign (negsuc n) e = absurd (omega (arith, ints))
