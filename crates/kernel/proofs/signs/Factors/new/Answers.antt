use Rattle.std.proofs.Common.{w32, w64, SFits, rules}
use Rattle.kernel.proofs.Products.{units_apart}
use Rattle.kernel.proofs.signs.Factors.new.Goals as goal

pub returns : goal.returns
returns g c =
    let px : SFits w32 c.from-p.result.x = search rules in
    let py : SFits w32 c.from-p.result.y = search rules in
    let qx : SFits w32 c.from-q.result.x = search rules in
    let qy : SFits w32 c.from-q.result.y = search rules in
    let rx : SFits w32 c.from-r.result.x = search rules in
    let ry : SFits w32 c.from-r.result.y = search rules in
    let a : SFits w64 c.difference.result = search rules in
    let b : SFits w64 c.difference-2.result = search rules in
    let d : SFits w64 c.difference-3.result = search rules in
    let e : SFits w64 c.difference-4.result = search rules in
    let p = c.from-p.ensures.value in
    let q = c.from-q.ensures.value in
    let r = c.from-r.ensures.value in (
      units_apart _ _ _ _ _ a qx px c.difference.ensures.0 (λ i. (q i).x) (λ i. (p i).x),
      units_apart _ _ _ _ _ b ry qy c.difference-2.ensures.0 (λ i. (r i).y) (λ i. (q i).y),
      units_apart _ _ _ _ _ d qy py c.difference-3.ensures.0 (λ i. (q i).y) (λ i. (p i).y),
      units_apart _ _ _ _ _ e rx qx c.difference-4.ensures.0 (λ i. (r i).x) (λ i. (q i).x),
    )
