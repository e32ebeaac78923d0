use Rattle.std.proofs.Common.{arith}
use Rattle.kql_scalar.proofs.FormFacts.{column_within}
use Rattle.kql_scalar.proofs.ListSteps.{list-test}
use Rattle.kql_scalar.proofs.MeansSteps.{parts-item}
use Rattle.kql_scalar.proofs.lists.column_and_parts.Goals as goal

pub returns-in-Column-clause-within : goal.returns-in-Column-clause-within
returns-in-Column-clause-within c =
    column_within c.args._t.now.columns c.first-item.result _ _ (parts-item c.args._t.now.columns c.args.args.now 0 c.first-item.result c.first-item.is (omega arith) c.requires) c.in-Column.is

pub returns-in-Column-clause-test : goal.returns-in-Column-clause-test
returns-in-Column-clause-test c = λ vs h. list-test c.args.args.now c.args._t.now c.first-item.result _ _ vs c.requires (omega arith) c.first-item.is c.in-Column.is h
