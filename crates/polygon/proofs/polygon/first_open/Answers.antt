use Rattle.std.proofs.Common.{◌≡◌, rules}
use Rattle.std.specs.List.{position}
use Rattle.std.proofs.lemmas.Iterator.{YieldsList-from_slice}
use Rattle.std.proofs.lemmas.Iterator.Search.{position_from_yields_List}
use Rattle.polygon.proofs.Holes.{is_open, open_told, first_refused}
use Rattle.polygon.proofs.polygon.first_open.Goals as goal

pub returns : goal.returns
returns g c =
    let hs = c.args.interiors.now in
    let e : c.position.result ≡ position is_open hs = position_from_yields_List is_open _ _ _ c.position.ensures.ran (YieldsList-from_slice hs cc) (λ x b q k. (search rules, open_told x.now b (search rules))) in
    first_refused hs c.position.result c.map.result e (search rules)
