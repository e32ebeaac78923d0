-- A query bound to the schemas of its tables and a moment: statements in their order, in each the source and then the operators in theirs. What is
-- bound is a part of the program, and the rows that it gives: their columns, and whether they are serialised.
use Rattle.std.specs.Prelude.{ℤ, false, List, [], ◌∷◌, ◌++◌, Option, Ok, fold}
use Rattle.kql_cells.specs.declared.schemas.NamedSchema.{NamedSchema}
use Rattle.kql_bound.specs.declared.plan.Program.{Program}
use Rattle.kql_syntax.specs.declared.query.Let.{Let}
use Rattle.kql_syntax.specs.declared.query.Query.{Query}
use Rattle.bind_expr.specs.Outcome.{Outcome, ◌>>=◌}
use Rattle.bind_operators.specs.declared.bound.BoundPlan.{BoundPlan}
use Rattle.bind_query.specs.declared.bound.BoundStatements.{BoundStatements}
use Rattle.bind_operators.specs.declared.known.Known.{Known}
use Rattle.bind_query.specs.Lets.{let_bound}
use Rattle.bind_query.specs.Operators.{pipe_bound}
use Rattle.bind_query.specs.TablesRead.{tables_read}

unfoldable pub known_at_first : List NamedSchema → Option ℤ → Known
known_at_first schemas moment = record { tables = schemas; lets = []; consts = []; moment = moment }

unfoldable pub no_statements : Known → BoundStatements
no_statements known = record { known = known; lets = [] }

-- Let statements, each under those before it.
unfoldable pub next_let : Let → Outcome BoundStatements → Outcome BoundStatements
next_let l before = before >>= let_bound l

unfoldable pub lets_bound : List Let → Known → Outcome BoundStatements
lets_bound lets known = fold (λ before (l : Let). next_let l before) (Ok (no_statements known)) lets

-- The program of the lets and the last pipe, with the tables that it reads.
unfoldable pub program_of : List NamedSchema → BoundStatements → BoundPlan → Program
program_of schemas done main = record {
  tables = tables_read schemas (done.lets ++ main.plan ∷ []);
  lets = done.lets;
  main = main.plan;
}

-- The program of a query, or its first fault with its place.
unfoldable pub bound : Query → List NamedSchema → Option ℤ → Outcome Program
bound q schemas moment = do
  done ← lets_bound q.lets (known_at_first schemas moment)
  main ← pipe_bound q.main done.known false
  Ok (program_of schemas done main)
