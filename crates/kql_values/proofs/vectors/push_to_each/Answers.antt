use Rattle.std.proofs.Common.{◌≡◌, ◌<◌, ◌≤◌, [], ◌∷◌, length, take, map, ap, sym, ◌∙◌, rules, arith, vec_len}
use Rattle.std.proofs.Math.ListN.{set}
use Rattle.std.proofs.lemmas.List.{length-map, length-take-le}
use Rattle.kql_values.specs.Grids.{joined, singletons}
use Rattle.kql_cells.specs.Seen.{seen}
use Rattle.kql_values.proofs.GridLaws.{joined-length, joined-nil, joined-step, restored, singletons-more}
use Rattle.kql_values.proofs.vectors.push_to_each.Goals as goal

pub loop-j-init : goal.loop-j-init
loop-j-init c = sym (joined-nil _)

pub index_mut-column-requires : goal.index_mut-column-requires
index_mut-column-requires c =
    let count : length c.loop-j.columns.items ≡ vec_len c.loop-j.columns = search rules in
    let size : length c.loop-j.columns.items ≡ length c.args.columns.now.items = ap length c.loop-j.invariant ∙ joined-length _ _ in
    omega (arith, c.requires.width)

pub returns-in-Err-clause-kept : goal.returns-in-Err-clause-kept
returns-in-Err-clause-kept c =
    restored c.args.count c.loop-j.j c.args.columns.now.items (singletons (map seen (take c.loop-j.j c.args.row.now))) c.loop-j.columns.items _ c.push_cell.new.self c.index_mut-column.result.now c.requires.long c.loop-j.invariant c.in-Err.ensures.kept c.index_mut-column.ensures.value c.truncate_each.ensures

pub loop-j-preserved : goal.loop-j-preserved
loop-j-preserved c =
    let row = c.args.row.now in
    let before = singletons (map seen (take c.loop-j.j row)) in
    let low : c.loop-j.j ≤ length row = omega arith in
    let size : length before ≡ c.loop-j.j = length-map (map seen (take c.loop-j.j row)) (λ v. v ∷ []) ∙ length-map (take c.loop-j.j row) seen ∙ length-take-le c.loop-j.j row low in
    let fits : c.loop-j.j < length c.args.columns.now.items = omega (arith, c.requires.width) in
    let more = singletons-more seen row c.loop-j.j c.index-row-j.result c.loop-j-test.true c.index-row-j.is in
    let value = c.index_mut-column.ensures.value in
    joined-step c.args.columns.now.items before c.loop-j.columns.items _ (seen c.index-row-j.result ∷ []) c.index_mut-column.result.now c.loop-j.j c.loop-j.invariant (sym size) fits value (ap (set c.loop-j.columns.items c.loop-j.j) c.in_default.ensures.added) ∙ ap (joined c.args.columns.now.items) (sym more)
