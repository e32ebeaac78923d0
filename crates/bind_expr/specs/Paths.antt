-- Looks into dynamic values, and columns of the records of a scan's steps.
use Rattle.std.specs.Prelude.{ℕ, ◌+◌, List, [], ◌∷◌, ◌++◌, Option, None, Some, Ok, Err, slice_index_or}
use Rattle.std.specs.List.{position}
use Rattle.std.specs.Str.{bytes_eq}
use Rattle.kql_cells.specs.Named.{column_name, place_of}
use Rattle.kql_cells.specs.declared.schema.Column.{Column}
use Rattle.kql_cells.specs.declared.value.Kind.{Kind}
use Rattle.kql_cells.specs.declared.value.Kind.TheVariants as kind
use Rattle.kql_cells.specs.declared.value.Value.{Value}
use Rattle.kql_cells.specs.declared.value.Value.TheVariants as value
use Rattle.kql_functions.specs.Kinds.{result_kind}
use Rattle.kql_lexer.specs.declared.place.Place.{Place}
use Rattle.kql_bound.specs.declared.expr.BExpr.{BExpr}
use Rattle.kql_bound.specs.declared.expr.BExpr.TheVariants as V
use Rattle.kql_meaning.specs.Expressions.{look}
use Rattle.kql_syntax.specs.declared.tree.Word.{Word}
use Rattle.bind_expr.specs.Outcome.{Outcome, ◌>>=◌}
use Rattle.bind_expr.specs.declared.fault.BindFault.TheVariants as fault
use Rattle.bind_expr.specs.declared.path.Looked.{Looked}
use Rattle.bind_expr.specs.declared.scope.Scope.{Scope}
use Rattle.bind_expr.specs.declared.scope.StepNames.{StepNames}
use Rattle.bind_expr.specs.declared.typed.Typed.{Typed}

unfoldable pub looked_from : Typed → Looked
looked_from t = record { whole = t.expr; steps = []; kind = t.kind }

abbrev pub path_whole : BExpr → List BExpr → BExpr
path_whole whole [] = whole
path_whole whole (s ∷ ss) = V.Path whole (s ∷ ss)

unfoldable pub looked_whole : Looked → Typed
looked_whole l = record { expr = path_whole l.whole l.steps; kind = l.kind }

abbrev pub looked_as : Place → BExpr → List BExpr → BExpr → Option Kind → Outcome Looked
looked_as place whole steps key None = Err (fault.Refused 404 place)
looked_as place whole steps key (Some k) = Ok (record { whole = whole; steps = steps ++ key ∷ []; kind = k })

-- One look more, or 404 at its `.` or `[`.
unfoldable pub with_look : Place → Looked → Typed → Outcome Looked
with_look place l key = looked_as place l.whole l.steps key.expr (result_kind look (l.kind ∷ key.kind ∷ []))

-- The same of a path and a key that may have failed: the fault of the path first.
abbrev pub look_link : Place → Outcome Looked → Outcome Typed → Outcome Looked
look_link place before next = do
  l ← before
  key ← next
  with_look place l key

unfoldable pub path_opened : Outcome Typed → Outcome Looked
path_opened first = first >>= λ t. Ok (looked_from t)

unfoldable pub path_closed : Outcome Looked → Outcome Typed
path_closed path = path >>= λ l. Ok (looked_whole l)

-- Which step of the scan has this name, from 0.
unfoldable pub step_named : StepNames → Option (List ℕ) → Option ℕ
step_named steps None = None
step_named steps (Some n) = position (λ m. bytes_eq m n) steps.names

abbrev pub column_at : List Column → ℕ → Column
column_at columns i = slice_index_or columns i (record { name = []; kind = kind.Dynamic })

-- The column at a place of the record that a step holds.
unfoldable pub step_column : StepNames → ℕ → ℕ → Typed
step_column steps i p =
    let c : Column = column_at steps.columns p in
    record {
      expr = V.Step (record {
        step = slice_index_or steps.names i [];
        column = c.name;
        number = i + 1;
        place = p;
        default = record { kind = c.kind; value = slice_index_or steps.defaults p value.Null };
      });
      kind = c.kind;
    }

abbrev pub step_or_fault : StepNames → ℕ → Place → Option ℕ → Outcome Typed
step_or_fault steps i place None = Err (fault.Refused 401 place)
step_or_fault steps i place (Some p) = Ok (step_column steps i p)

-- `s.c` of step number i, from 0: 401 at the column where the record has none of that name.
unfoldable pub step_bound : StepNames → ℕ → Word → Outcome Typed
step_bound steps i w = step_or_fault steps i w.place (place_of column_name w.text steps.columns)
