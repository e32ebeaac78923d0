use Rattle.std.proofs.Common.{rules, ◌≤◌, map, slice_index, refl}
use Rattle.kql_near.specs.Nearest.{edits, few, IsFirstLeast}
use Rattle.kql_near.proofs.Named.{nearest_at}
use Rattle.kql_near.proofs.near.nearest_name.Goals as goal

pub returns-in-Some-clause-near : goal.returns-in-Some-clause-near
returns-in-Some-clause-near c =
    let first : IsFirstLeast (map (λ n. edits c.args.word.now n.now) c.args.names.now) c.in-Some.at = search rules in
    let are_few : slice_index (map (λ n. edits c.args.word.now n.now) c.args.names.now) c.in-Some.at ≤ few c.args.word.now = search rules in
    nearest_at _ _ _ _ _ first are_few refl
