use Rattle.std.proofs.Common.{◌≡◌, T, sym, ap, ◌∙◌, subst, w32, SFits, to_z, of_z, rules}
use lib.Ieee.{Float, div, binary64, of_int}
use lib.Ieee.Fits.{div-fits}
use Rattle.std.proofs.lemmas.Int.{to_z-of_z}
use Rattle.plane.specs.Reach.{read}
use Rattle.millimetre.specs.Millimetres.{on_grid, units_of}
use Rattle.millimetre.proofs.Exact.{k256, k256_is, from_means, means_on_grid}
use Rattle.scalar.proofs.f64_scalar.F64ScalarCoordNum.from_units.Goals as goal

pub invariant_of-result : goal.invariant_of-result
invariant_of-result c =
    let u = c.read_units.result in
    let f : SFits w32 u = search rules in
    let e : to_z w32 (of_z w32 u) ≡ u = to_z-of_z w32 u f in
    let k = means_on_grid (div binary64 (of_int binary64 u) k256) u (from_means u c.read_units.ensures.within) c.read_units.ensures.within in
    record {
      binary64 = div-fits binary64 _ _;
      grid = subst (λ (z : Float). T (on_grid z)) (λ i. div binary64 (of_int binary64 (sym e i)) (sym k256_is i)) k.0;
    }

pub returns : goal.returns
returns c =
    let u = c.read_units.result in
    let f : SFits w32 u = search rules in
    let e : to_z w32 (of_z w32 u) ≡ u = to_z-of_z w32 u f in
    let k = means_on_grid (div binary64 (of_int binary64 u) k256) u (from_means u c.read_units.ensures.within) c.read_units.ensures.within in
    (λ i. units_of (div binary64 (of_int binary64 (e i)) (k256_is i))) ∙ k.1 ∙ c.read_units.ensures.value ∙ ap read (to_z-of_z w32 c.args.u c.ranges.u)
