use Rattle.std.proofs.Common.{arith, w64, SFits}
use Rattle.std.proofs.lemmas.Int.{ints, to_z-of_z}
use Rattle.kernel.proofs.SignLaws.{sign_of_product}
use Rattle.kernel.proofs.signs.product_sign.Goals as goal

pub returns-then-a-gt0 : goal.returns-then-a-gt0
returns-then-a-gt0 c =
    let f : SFits w64 c.args.b = c.ranges.b in
    let e = simp to_z-of_z at c.signum.ensures.value in
    omega (arith, ints, sign_of_product c.args.a c.args.b (omega (arith, ints)))
