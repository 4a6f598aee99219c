use Rattle.std.proofs.Common.{ℤ, ◌-ℤ◌, sym, ◌∙◌, subst, w64, SFits, to_z, of_z}
use Rattle.std.proofs.lemmas.Int.{to_z-of_z}
use Rattle.plane.specs.Orient.{AtMostTwoTo61}
use Rattle.kernel.proofs.Products.{product_passed, cross_fits, at_most_two_to_61}
use Rattle.kernel.proofs.signs.Factors.determinant.Goals as goal

pub overflow_sub-result : goal.overflow_sub-result
overflow_sub-result c =
    let s = c.args.self in
    let left = product_passed s.a s.b s.bounded.0 s.bounded.1 in
    let right = product_passed s.c s.e s.bounded.2 s.bounded.3 in
    subst (λ (z : ℤ). SFits w64 z) (sym (λ i. left i -ℤ right i)) (cross_fits _ (at_most_two_to_61 s.a s.b s.c s.e s.bounded))

pub returns : goal.returns
returns c =
    let s = c.args.self in
    let left = product_passed s.a s.b s.bounded.0 s.bounded.1 in
    let right = product_passed s.c s.e s.bounded.2 s.bounded.3 in
    let bound = at_most_two_to_61 s.a s.b s.c s.e s.bounded in
    let passed = (λ i. to_z w64 (of_z w64 (left i -ℤ right i))) ∙ to_z-of_z w64 _ (cross_fits _ bound) in
    (passed, subst (λ (z : ℤ). AtMostTwoTo61 z) (sym passed) bound)
