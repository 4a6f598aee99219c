-- A scalar's own float is not refused.
use Rattle.std.proofs.Common.{◌≡◌, Bool, true, false, cond, not, ◌&&◌, T, None, refl}
use lib.Ieee.{Float, nan, inf, fin, is_nan}
use lib.Ieee.Fits.{and_l, and_r}
use Rattle.millimetre.specs.Millimetres.{beyond, whole, minus_zero, on_grid}
use Rattle.scalar.specs.Faults.{f64_refusal}

-- the third of three checks
third : {A : Type 0} (n b w : Bool) (p q r s : A) → T (not n) → T (not b) → T w → cond n p (cond b q (cond w r s)) ≡ r
third true b w p q r s t u v = absurd t
third false true w p q r s t u v = absurd u
third false false true p q r s t u v = refl
third false false false p q r s t u v = absurd v

whole_number : (x : Float) → T (whole x) → T (not (is_nan x))
unfolding is_nan
whole_number nan t = absurd t
whole_number (inf s) t = absurd t
whole_number (fin s m e) t = tt

pub own_accepted : (x : Float) → T (on_grid x) → f64_refusal x ≡ None
own_accepted x t =
    let w = and_l (whole x) (not (beyond x)) (and_l (whole x && not (beyond x)) (not (minus_zero x)) t) in
    let b = and_r (whole x) (not (beyond x)) (and_l (whole x && not (beyond x)) (not (minus_zero x)) t) in
    third (is_nan x) (beyond x) (whole x) _ _ _ _ (whole_number x w) b w
