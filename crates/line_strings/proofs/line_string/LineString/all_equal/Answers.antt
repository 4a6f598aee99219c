use Rattle.std.proofs.Common.{◌≡◌, rules, tests, ◌∙◌}
use Rattle.std.proofs.lemmas.Iterator.{YieldsList-from_slice}
use Rattle.std.proofs.lemmas.List.{take_rest}
use Rattle.plane.specs.declared.grid_point.GridPoint.{GridPoint}
use Rattle.plane.specs.Reach.{read_point}
use Rattle.plane.proofs.Answers.{reflects_same}
use Rattle.plane.proofs.Iterators.{all_reflects}
use Rattle.polyline.proofs.Chains.{equal_to_first}
use Rattle.scalar.proofs.CoordLaws.{same_made}
use Rattle.line_strings.proofs.line_string.LineString.all_equal.Goals as goal

pub returns : goal.returns
returns g c =
    let u = g.T.Units.units in
    let ps = c.args.self.now.points.now in
    let first = c.from_grid-first.result in
    let i = equal_to_first ps c.in-len1-up.len_at_least in
    reflects_same c.all.result i.0 i.1
    (all_reflects (λ (q : GridPoint). _ ≡ read_point q) _ _ c.all.result c.all.ensures.ran (YieldsList-from_slice _ (c.iter.ensures.rest ∙ take_rest ps 1))
    (λ x b q h. search (rules, tests, same_made u g.met.T.CoordNum.equal_units)))
