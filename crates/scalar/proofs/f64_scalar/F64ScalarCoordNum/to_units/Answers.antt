use Rattle.std.proofs.Common.{T, sym, ap, ◌∙◌, subst, w32}
use lib.Ieee.{Float, mul, binary64, in_signed, to_signed, of_bits}
use lib.Ieee.Casts.{to_signed_in}
use Rattle.std.proofs.lemmas.Int.{to_z-of_z}
use Rattle.millimetre.specs.Millimetres.{units_of}
use Rattle.millimetre.proofs.Exact.{k256_is, cast_is, on_grid_means}
use Rattle.scalar.proofs.f64_scalar.F64ScalarCoordNum.to_units.Goals as goal

pub float_to_int-result : goal.float_to_int-result
float_to_int-result c =
    let x = c.args.self in
    let k = on_grid_means x.value x.grid in
    subst (λ (z : Float). T (in_signed binary64 31 (mul binary64 x.value z))) (sym k256_is) (cast_is x.value (units_of x.value) x.binary64 k.0 k.1).0

pub returns : goal.returns
returns c =
    let x = c.args.self in
    let k = on_grid_means x.value x.grid in
    let y = mul binary64 x.value (of_bits binary64 4643211215818981376) in
    to_z-of_z w32 (to_signed 31 y) (record { sfits = to_signed_in 31 y })
    ∙ ap (λ (z : Float). to_signed 31 (mul binary64 x.value z)) k256_is
    ∙ (cast_is x.value (units_of x.value) x.binary64 k.0 k.1).1
