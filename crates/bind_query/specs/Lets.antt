-- Let statements: each names a table or a constant for those behind it.
use Rattle.std.specs.Prelude.{ℕ, Bool, false, ◌||◌, List, [], ◌∷◌, ◌++◌, Option, None, Some, Ok, is_some}
use Rattle.kql_lexer.specs.declared.place.Place.{Place}
use Rattle.kql_bound.specs.declared.literal.Lit.{Lit}
use Rattle.kql_meaning.specs.declared.position.Position.TheVariants as position
use Rattle.kql_syntax.specs.declared.query.Let.{Let}
use Rattle.kql_syntax.specs.declared.query.LetBody.{LetBody}
use Rattle.kql_syntax.specs.declared.query.LetBody.TheVariants as body
use Rattle.kql_syntax.specs.declared.query.Op.TheOpen.{Source-F}
use Rattle.kql_syntax.specs.declared.query.Pipe.{Pipe, out-Pipe}
use Rattle.kql_syntax.specs.declared.query.Source.{Source, out-Source}
use Rattle.kql_syntax.specs.declared.tree.Name.{Name}
use Rattle.bind_expr.specs.Names.{name_bound, text_of}
use Rattle.bind_expr.specs.Outcome.{Outcome, ◌>>=◌}
use Rattle.bind_expr.specs.declared.fault.BindFault.{BindFault}
use Rattle.bind_expr.specs.declared.scope.Const.{Const}
use Rattle.bind_operators.specs.declared.bound.BoundPlan.{BoundPlan}
use Rattle.bind_query.specs.declared.bound.BoundStatements.{BoundStatements}
use Rattle.bind_operators.specs.declared.known.Known.{Known}
use Rattle.bind_operators.specs.declared.known.LetTable.{LetTable}
use Rattle.bind_operators.specs.declared.wanted.Wanted.TheVariants as wanted
use Rattle.bind_operators.specs.Faults.{fault_if, unless}
use Rattle.bind_operators.specs.Known.{is_constant_name, let_numbered, no_rows, scope_at, table_named}
use Rattle.bind_query.specs.Operators.{pipe_bound}
use Rattle.bind_operators.specs.Places.{name_place}
use Rattle.bind_operators.specs.Wanted.{constant_bound, constant_wanted}

-- The name that a pipe is, where it is one alone.
abbrev pub name_of_source : {A B C D E F G H : Type 0} → Source-F A B C D E F G H → Option Name
name_of_source (Source-F.«Source::Table» n) = Some n
name_of_source _ = None

abbrev pub if_alone : {A : Type 0} → List A → Option Name → Option Name
if_alone [] n = n
if_alone (_ ∷ _) n = None

unfoldable pub source_name : Source → Option Name
source_name s = name_of_source (out-Source s)

unfoldable pub name_alone : Pipe → Option Name
name_alone p = if_alone (out-Pipe p).ops (source_name (out-Pipe p).source)

-- More statements: with a table of a name, or a constant.
abbrev pub named_table : List ℕ → BoundPlan → LetTable
named_table n p = record { name = n; columns = p.after.columns }

unfoldable pub with_table : List ℕ → BoundPlan → BoundStatements → BoundStatements
with_table n p done = record {
  known = record (done.known) { lets = done.known.lets ++ named_table n p ∷ [] };
  lets = done.lets ++ p.plan ∷ [];
}

abbrev pub named_constant : List ℕ → Lit → Const
named_constant n l = record { name = n; kind = l.kind; value = l.value }

unfoldable pub with_constant : List ℕ → Lit → BoundStatements → BoundStatements
with_constant n l done = record {
  known = record (done.known) { consts = done.known.consts ++ named_constant n l ∷ [] };
  lets = done.lets;
}

-- A table, or a constant of any type, which reads no columns.
unfoldable pub table_let : List ℕ → BoundStatements → Outcome BoundPlan → Outcome BoundStatements
table_let n done p = p >>= λ b. Ok (with_table n b done)

unfoldable pub constant_let : List ℕ → BoundStatements → Outcome Lit → Outcome BoundStatements
constant_let n done l = l >>= λ b. Ok (with_constant n b done)

-- The constant of a name, as a literal.
unfoldable pub constant_named : Place → Known → Name → Outcome Lit
constant_named statement known n = do
  t ← name_bound n (scope_at known no_rows position.Constant)
  constant_wanted statement wanted.Any (name_place n) t

-- A name alone is a table where there is one of that name, and else a constant.
abbrev pub name_let : Place → List ℕ → BoundStatements → Name → Option BoundPlan → Outcome BoundStatements
name_let statement n done other (Some p) = table_let n done (Ok p)
name_let statement n done other None = constant_let n done (constant_named statement done.known other)

abbrev pub pipe_let : Place → List ℕ → BoundStatements → Pipe → Option Name → Outcome BoundStatements
pipe_let statement n done p None = table_let n done (pipe_bound p done.known false)
pipe_let statement n done p (Some other) = name_let statement n done other (table_named done.known (text_of other))

unfoldable pub body_bound : Place → List ℕ → LetBody → BoundStatements → Outcome BoundStatements
body_bound statement n (body.Pipe p) done = pipe_let statement n done p (name_alone p)
body_bound statement n (body.Expr e) done = constant_let n done (constant_bound statement wanted.Any done.known no_rows e)

-- Whether a let before has this name.
unfoldable pub is_let_name : Known → List ℕ → Bool
is_let_name known n = is_some (let_numbered known n) || is_constant_name known.consts n

-- A second let of one name is 417 at it, before the faults of its body.
unfoldable pub let_faults : Known → Name → List BindFault
let_faults known n = fault_if (is_let_name known (text_of n)) 417 (name_place n)

unfoldable pub let_bound : Let → BoundStatements → Outcome BoundStatements
let_bound l done = unless (let_faults done.known l.name) done >>= body_bound l.place (text_of l.name) l.body
