-- Products of two differences, and the difference of two such products, in 64 bits.
use Rattle.std.proofs.Common.{◌≡◌, ℕ, suc, ◌*◌, ◌≤◌, ℤ, pos, negsuc, ◌-ℤ◌, ◌*ℤ◌, ◌≤ℤ◌, ◌∙◌, mul-le-mul, arith, w32, w64, SFits, to_z, of_z}
use Rattle.std.proofs.lemmas.Int.{ints, to_z-of_z}
use Rattle.plane.specs.Orient.{AtMostTwoTo61}
use Rattle.kernel.specs.Signs.{Difference}

product_bound : (m n : ℕ) → m ≤ 1073741824 → n ≤ 1073741824 → m * n ≤ 1152921504606846976
product_bound m n h k = mul-le-mul h k

-- the product of two differences lies from -2 ^ 60 to 2 ^ 60
product_within : (a b : ℤ) → Difference a → Difference b → (negsuc 1152921504606846975 ≤ℤ (a *ℤ b)) × ((a *ℤ b) ≤ℤ pos 1152921504606846976)
product_within (pos m) (pos n) h k = (omega (arith, ints), omega (arith, ints, product_bound m n (omega (arith, ints)) (omega (arith, ints))))
product_within (pos m) (negsuc n) h k = (omega (arith, ints, product_bound m (suc n) (omega (arith, ints)) (omega (arith, ints))), omega (arith, ints, product_bound m (suc n) (omega (arith, ints)) (omega (arith, ints))))
product_within (negsuc m) (pos n) h k = (omega (arith, ints, product_bound (suc m) n (omega (arith, ints)) (omega (arith, ints))), omega (arith, ints, product_bound (suc m) n (omega (arith, ints)) (omega (arith, ints))))
product_within (negsuc m) (negsuc n) h k = (omega (arith, ints), omega (arith, ints, product_bound (suc m) (suc n) (omega (arith, ints)) (omega (arith, ints))))

-- the difference of two such products
difference_within : (z w : ℤ) → (negsuc 1152921504606846975 ≤ℤ z) × (z ≤ℤ pos 1152921504606846976) → (negsuc 1152921504606846975 ≤ℤ w) × (w ≤ℤ pos 1152921504606846976) → AtMostTwoTo61 (z -ℤ w)
difference_within z w h k = (omega (arith, ints), omega (arith, ints))

pub at_most_two_to_61 : (a b c e : ℤ) → Difference a × Difference b × Difference c × Difference e → AtMostTwoTo61 ((a *ℤ b) -ℤ (c *ℤ e))
at_most_two_to_61 a b c e h = difference_within (a *ℤ b) (c *ℤ e) (product_within a b h.0 h.1) (product_within c e h.2 h.3)

pub difference_fits : (z : ℤ) → Difference z → SFits w64 z
difference_fits z h = omega (arith, ints)

pub product_fits : (a b : ℤ) → Difference a → Difference b → SFits w64 (a *ℤ b)
product_fits a b h k = omega (arith, ints, product_within a b h k)

pub cross_fits : (z : ℤ) → AtMostTwoTo61 z → SFits w64 z
cross_fits z h = omega (arith, ints)

-- a product of two differences, as the machine passes it on
pub product_passed : (a b : ℤ) → Difference a → Difference b → to_z w64 (of_z w64 (to_z w64 (of_z w64 a) *ℤ to_z w64 (of_z w64 b))) ≡ a *ℤ b
product_passed a b h k =
    let f = difference_fits a h in
    let g = difference_fits b k in
    let p = product_fits a b h k in
    simp to_z-of_z

-- a difference of two numbers that mean u and v, as the machine passes it on
pub units_apart : (r x y u v : ℤ) → SFits w64 r → SFits w32 x → SFits w32 y → r ≡ to_z w32 (of_z w32 x) -ℤ to_z w32 (of_z w32 y) → x ≡ u → y ≡ v → to_z w64 (of_z w64 r) ≡ u -ℤ v
units_apart r x y u v f g h e p q = to_z-of_z w64 r f ∙ e ∙ (λ i. to_z-of_z w32 x g i -ℤ to_z-of_z w32 y h i) ∙ (λ i. p i -ℤ q i)
