use Rattle.std.proofs.Common.{rules, subst}
use Rattle.kql_cells.specs.Seen.{seen}
use Rattle.kql_cells.specs.Values.{IsWellFormed}
use Rattle.kql_cells.specs.declared.dynamic.Dyn.{Dyn}
use Rattle.kql_cells.specs.declared.value.Value.TheVariants as value
use Rattle.kql_meaning.specs.MvExpand.{parts_of}
use Rattle.table_ops.specs.Parts.{part_or_null}
use Rattle.table_ops.proofs.PartFacts.{element-formed}
use Rattle.table_ops.proofs.part.push_dynamic_part.Goals as goal

pub push_as-requires : goal.push_as-requires
push_as-requires c = record {
  form = element-formed c.in-Array.parts c.args.k (seen c.element.result) (subst (λ (d : Dyn). IsWellFormed (value.Dynamic d)) c.in-Array.is c.requires.form) (search rules);
}

pub returns-in-Null : goal.returns-in-Null
unfolding part_or_null parts_of
returns-in-Null c = search rules
