-- Floats on the grid are ordered as their units.
use Rattle.std.proofs.Common.{◌≡◌, ℕ, suc, ◌+◌, ◌*◌, ◌<◌, Bool, true, false, cond, T, ltb, ℤ, pos, negsuc, refl, sym, ap, ◌∙◌, true≢false, le_of_eq, lt_of_le_of_lt, lt_of_lt_of_le, mul-lt-mul_of_pos_right, lt_of_mul-lt-mul_right, mul-pos, le_of_suc-le-suc, suc-le-suc, mul_right_comm, mul_assoc, mul_comm, zero-lt-suc, arith, ltb→lt, lt→ltb}
use mathlib.Core.Bool.{false≢true}
use lib.Ieee.{Float, nan, inf, fin, is_nan, up, down, lt}
use lib.Ieee.Fits.{down_pos}
use Rattle.std.specs.Prelude.{int_lt}
use Rattle.std.specs.declared.cmp.Ordering.TheVariants.{Less, Equal, Greater}
use Rattle.std.specs.Ordering.{int_cmp, nan_last_cmp}
use Rattle.millimetre.specs.Millimetres.{units_of, on_grid}
use Rattle.millimetre.proofs.Exact.{Means, on_grid_means}

same_test : (p q : Bool) → (T p → T q) → (T q → T p) → p ≡ q
same_test true true f g = refl
same_test true false f g = absurd (f tt)
same_test false true f g = absurd (g tt)
same_test false false f g = refl

-- x * 256 is a * D, and y * 256 is b * D
scaled_less : (x y a b D : ℕ) → 0 < D → x * 256 ≡ a * D → y * 256 ≡ b * D → ltb x y ≡ ltb a b
scaled_less x y a b D h p q =
    same_test (ltb x y) (ltb a b)
    (λ t. lt→ltb a b (lt_of_mul-lt-mul_right D (lt_of_le_of_lt (le_of_eq (sym p)) (lt_of_lt_of_le (mul-lt-mul_of_pos_right (ltb→lt x y t) (zero-lt-suc 255)) (le_of_eq q)))))
    (λ t. lt→ltb x y (lt_of_mul-lt-mul_right 256 (lt_of_le_of_lt (le_of_eq p) (lt_of_lt_of_le (mul-lt-mul_of_pos_right (ltb→lt a b t) h) (le_of_eq (sym q))))))

-- a fraction of 256ths, over another denominator
widened : (m u a d k : ℕ) → m * u * 256 ≡ a * d → m * u * k * 256 ≡ a * (d * k)
widened m u a d k p = mul_right_comm (m * u) k 256 ∙ ap (λ (z : ℕ). z * k) p ∙ mul_assoc a d k

widened_left : (m u a d k : ℕ) → m * u * 256 ≡ a * d → m * u * k * 256 ≡ a * (k * d)
widened_left m u a d k p = widened m u a d k p ∙ ap (λ (z : ℕ). a * z) (mul_comm d k)

positive_sum : (x y a D : ℕ) → 0 < D → x * 256 ≡ suc a * D → ltb 0 (x + y) ≡ true
positive_sum x y a D h p = same_test (ltb 0 (x + y)) true (λ t. tt) (λ t. lt→ltb 0 (x + y) (omega (arith, mul-pos (zero-lt-suc a) h)))

less_of_sucs : (a b : ℕ) → ltb (suc a) (suc b) ≡ ltb a b
less_of_sucs a b = same_test (ltb (suc a) (suc b)) (ltb a b) (λ t. lt→ltb a b (le_of_suc-le-suc (ltb→lt (suc a) (suc b) t))) (λ t. lt→ltb (suc a) (suc b) (suc-le-suc (ltb→lt a b t)))

pub lt_units : (x y : Float) (u v : ℤ) → Means x u → Means y v → lt x y ≡ int_lt u v
unfolding lt
lt_units nan y (pos a) v p q = absurd p
lt_units nan y (negsuc a) v p q = absurd p
lt_units (inf s) y (pos a) v p q = absurd p
lt_units (inf s) y (negsuc a) v p q = absurd p
lt_units (fin s m e) nan u (pos b) p q = absurd q
lt_units (fin s m e) nan u (negsuc b) p q = absurd q
lt_units (fin s m e) (inf t) u (pos b) p q = absurd q
lt_units (fin s m e) (inf t) u (negsuc b) p q = absurd q
lt_units (fin true m e) (fin t n d) (pos a) v p q = absurd (true≢false p.0)
lt_units (fin false m e) (fin t n d) (negsuc a) v p q = absurd (false≢true p.0)
lt_units (fin false m e) (fin true n d) (pos a) (pos b) p q = absurd (true≢false q.0)
lt_units (fin true m e) (fin true n d) (negsuc a) (pos b) p q = absurd (true≢false q.0)
lt_units (fin false m e) (fin false n d) (pos a) (negsuc b) p q = absurd (false≢true q.0)
lt_units (fin true m e) (fin false n d) (negsuc a) (negsuc b) p q = absurd (false≢true q.0)
lt_units (fin false m e) (fin false n d) (pos a) (pos b) p q =
    scaled_less (m * up e * down d) (n * up d * down e) a b (down e * down d) (mul-pos (down_pos e) (down_pos d)) (widened m (up e) a (down e) (down d) p.1) (widened_left n (up d) b (down d) (down e) q.1)
lt_units (fin false m e) (fin true n d) (pos a) (negsuc b) p q = refl
lt_units (fin true m e) (fin false n d) (negsuc a) (pos b) p q =
    positive_sum (m * up e * down d) (n * up d * down e) a (down e * down d) (mul-pos (down_pos e) (down_pos d)) (widened m (up e) (suc a) (down e) (down d) p.1)
lt_units (fin true m e) (fin true n d) (negsuc a) (negsuc b) p q =
    scaled_less (n * up d * down e) (m * up e * down d) (suc b) (suc a) (down e * down d) (mul-pos (down_pos e) (down_pos d)) (widened_left n (up d) (suc b) (down d) (down e) q.1) (widened m (up e) (suc a) (down e) (down d) p.1)
    ∙ less_of_sucs b a

-- what is on the grid is a number
is_number : (x : Float) → T (on_grid x) → is_nan x ≡ false
unfolding is_nan
is_number nan t = absurd t
is_number (inf s) t = refl
is_number (fin s m e) t = refl

-- of two numbers, which is the smaller is all that a comparison asks
pub number_cmp : (x y : Float) → T (on_grid x) → T (on_grid y) → nan_last_cmp x y ≡ cond (lt x y) Less (cond (lt y x) Greater Equal)
number_cmp x y s t = λ i. cond (is_number x s i) (cond (is_nan y) Equal Greater) (cond (is_number y t i) Less (cond (lt x y) Less (cond (lt y x) Greater Equal)))

-- floats on the grid are ordered as their units
pub ordered_as_units : (x y : Float) → T (on_grid x) → T (on_grid y) → nan_last_cmp x y ≡ int_cmp (units_of x) (units_of y)
ordered_as_units x y s t =
    let p = (on_grid_means x s).0 in
    let q = (on_grid_means y t).0 in
    let l = lt_units x y (units_of x) (units_of y) p q in
    let g = lt_units y x (units_of y) (units_of x) q p in
    λ i. cond (is_number x s i) (cond (is_nan y) Equal Greater) (cond (is_number y t i) Less (cond (l i) Less (cond (g i) Greater Equal)))
