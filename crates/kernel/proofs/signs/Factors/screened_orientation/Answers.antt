use Rattle.std.proofs.Common.{◌≡◌, ℤ, ◌-ℤ◌, ◌*ℤ◌, arith, w64, SFits, to_z, of_z}
use Rattle.std.proofs.lemmas.Int.{ints, to_z-of_z}
use Rattle.plane.proofs.Orientations.{left_turn, right_turn, no_turn}
use Rattle.std.specs.Int.{int_signum}
use Rattle.kernel.proofs.Products.{difference_fits, at_most_two_to_61}
use Rattle.kernel.proofs.SignLaws.{sign_greater, sign_less, zero_sign}
use Rattle.kernel.proofs.signs.Factors.screened_orientation.Goals as goal

-- the sign of a product of numbers as the machine passes them on
sign_held : (a b s : ℤ) → SFits w64 a → SFits w64 b → s ≡ int_signum (to_z w64 (of_z w64 a) *ℤ to_z w64 (of_z w64 b)) → s ≡ int_signum (a *ℤ b)
sign_held a b s f g e = simp to_z-of_z at e

pub returns-then-left-right : goal.returns-then-left-right
returns-then-left-right c =
    let s = c.args.self in
    let l = sign_held _ _ _ (difference_fits s.a s.bounded.0) (difference_fits s.b s.bounded.1) c.product_sign-left.ensures in
    let r = sign_held _ _ _ (difference_fits s.c s.bounded.2) (difference_fits s.e s.bounded.3) c.product_sign-right.ensures in
    record {
      turn = left_turn ((s.a *ℤ s.b) -ℤ (s.c *ℤ s.e)) (sign_greater (s.a *ℤ s.b) (s.c *ℤ s.e) (omega (arith, ints)));
      bounded = at_most_two_to_61 s.a s.b s.c s.e s.bounded;
    }

pub returns-then-left-right-2 : goal.returns-then-left-right-2
returns-then-left-right-2 c =
    let s = c.args.self in
    let l = sign_held _ _ _ (difference_fits s.a s.bounded.0) (difference_fits s.b s.bounded.1) c.product_sign-left.ensures in
    let r = sign_held _ _ _ (difference_fits s.c s.bounded.2) (difference_fits s.e s.bounded.3) c.product_sign-right.ensures in
    record {
      turn = right_turn ((s.a *ℤ s.b) -ℤ (s.c *ℤ s.e)) (sign_less (s.a *ℤ s.b) (s.c *ℤ s.e) (omega (arith, ints)));
      bounded = at_most_two_to_61 s.a s.b s.c s.e s.bounded;
    }

pub returns-then-left-eq0 : goal.returns-then-left-eq0
returns-then-left-eq0 c =
    let s = c.args.self in
    let l = sign_held _ _ _ (difference_fits s.a s.bounded.0) (difference_fits s.b s.bounded.1) c.product_sign-left.ensures in
    let r = sign_held _ _ _ (difference_fits s.c s.bounded.2) (difference_fits s.e s.bounded.3) c.product_sign-right.ensures in
    record {
      turn = no_turn ((s.a *ℤ s.b) -ℤ (s.c *ℤ s.e)) (omega (arith, ints, zero_sign (s.a *ℤ s.b) (omega (arith, ints)), zero_sign (s.c *ℤ s.e) (omega (arith, ints))));
      bounded = at_most_two_to_61 s.a s.b s.c s.e s.bounded;
    }
