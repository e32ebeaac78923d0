use Rattle.std.proofs.Common.{◌≡◌, ◌∙◌, Bor, map, sym, rules}
use Rattle.kql_cells.specs.declared.dynamic.Dyn.{Dyn}
use Rattle.kql_dynamic.proofs.ArrayFormLaws.{pack-form}
use Rattle.kql_dynamic.proofs.arrays.pack_array.Goals as goal

pub returns-then-has_levels_within-clause-form :
    goal.returns-then-has_levels_within-clause-form
returns-then-has_levels_within-clause-form c =
    let args = map (λ (d : Bor Dyn). d.now) c.args.args.now in
    let same : c.push_lent.new.list ≡ args = search rules in
    let within = rw same at (sym c.has_levels_within.ensures.within ∙ c.if-has_levels_within.true) in
    rw same (pack-form args c.requires within)
