use Rattle.std.proofs.Common.{◌∙◌, Bor, map, ap, sym, Some}
use Rattle.kql_cells.specs.declared.dynamic.Dyn.{Dyn}
use Rattle.kql_dynamic.proofs.BagFormLaws.{pack-beyond, pack-form, pack-none, pack-within}
use Rattle.kql_dynamic.proofs.bags.bag_pack.Goals as goal

pub returns-in_default-clause-value : goal.returns-in_default-clause-value
returns-in_default-clause-value c = pack-none (map (λ (d : Bor Dyn). d.now) c.args.args.now) (rw c.in_default.is at c.in_ok-packed.ensures)

pub returns-then-has_levels_within-clause-value :
    goal.returns-then-has_levels_within-clause-value
returns-then-has_levels_within-clause-value c =
    pack-within (map (λ (d : Bor Dyn). d.now) c.args.args.now) c.in_ok-bag_from.field-0 (ap Some c.in_ok-bag_from.ensures ∙ rw c.in-Some.is at c.in_ok-packed.ensures) (sym c.has_levels_within.ensures.within ∙ c.if-has_levels_within.true)

pub returns-then-has_levels_within-clause-form :
    goal.returns-then-has_levels_within-clause-form
returns-then-has_levels_within-clause-form c =
    pack-form (map (λ (d : Bor Dyn). d.now) c.args.args.now) c.in_ok-bag_from.field-0 c.requires (ap Some c.in_ok-bag_from.ensures ∙ rw c.in-Some.is at c.in_ok-packed.ensures) (sym c.has_levels_within.ensures.within ∙ c.if-has_levels_within.true)

pub returns-else-has_levels_within-clause-value :
    goal.returns-else-has_levels_within-clause-value
returns-else-has_levels_within-clause-value c =
    pack-beyond (map (λ (d : Bor Dyn). d.now) c.args.args.now) c.in_ok-bag_from.field-0 (ap Some c.in_ok-bag_from.ensures ∙ rw c.in-Some.is at c.in_ok-packed.ensures) (sym c.has_levels_within.ensures.within ∙ c.if-has_levels_within.false)
