-- The calls of `row_cumsum` and `row_number`, and their carries over ranges of rows.
use Rattle.std.specs.Prelude.{◌≡◌, ℕ, Bool, false, List, [], ◌∷◌, ◌++◌, Option, None, Some, bytes_eq, drop, if◌then◌else◌, ℤ, pos, map, slice_get}
use Rattle.std.specs.List.{flat_map}
use Rattle.kql_cells.specs.Table.{Grid}
use Rattle.kql_functions.specs.Names.{window_name}
use Rattle.kql_functions.specs.declared.window.Window.{Window}
use Rattle.kql_functions.specs.declared.window.Window.TheVariants as window
use Rattle.kql_bound.specs.declared.expr.BExpr.{BExpr, para-BExpr}
use Rattle.kql_bound.specs.declared.expr.BExpr.TheOpen.{BExpr-F}
use Rattle.kql_bound.specs.declared.expr.ChainSign.{ChainSign}
use Rattle.kql_bound.specs.declared.expr.WinCall.{WinCall}
use Rattle.kql_bound.specs.declared.parts.BItem.{BItem}
use Rattle.kql_meaning.specs.Expressions.{val}
use Rattle.kql_meaning.specs.Numbers.{added}
use Rattle.kql_meaning.specs.Values.{holds, number_of}
use Rattle.window_ops.specs.Carries.{Carried, carried, no_rows}

-- The carry of a call.

-- The restart of a call: the second argument.
unfoldable pub restart_of : WinCall → Option BExpr
restart_of w = slice_get w.args 1

-- The term of a call: the first argument of `row_cumsum`. `row_number` has none.
unfoldable pub term_named : List ℕ → List BExpr → Option BExpr
term_named name args = if bytes_eq name (window_name window.RowCumsum) then slice_get args 0 else None

unfoldable pub term_of : WinCall → Option BExpr
term_of w = term_named w.name w.args

-- Whether a run begins at a row: the restart is true there, where one is given.
unfoldable pub begins : Option BExpr → Grid → ℕ → Bool
begins None t i = false
begins (Some e) t i = holds (val e t i [])

-- What a row adds: the term, where there is one and it is no null.
unfoldable pub adds : Option BExpr → Grid → ℕ → ℤ
adds None t i = pos 0
adds (Some e) t i = added (number_of (val e t i []))

-- The carry of a range of rows for a call.
unfoldable pub carry_of : WinCall → Grid → ℕ → ℕ → Carried
carry_of w t from to = carried (begins (restart_of w) t) (adds (term_of w) t) from to

-- The calls in an expression, from left to right. In their arguments, in those of `prev` and `next`, and in those of aggregates stand
-- none.

unfoldable pub call_of : Window → List BExpr → WinCall
call_of f args = record { name = window_name f; args = args }

unfoldable pub own_calls : Window → List BExpr → List WinCall
own_calls window.Prev args = []
own_calls window.Next args = []
own_calls window.RowCumsum args = call_of window.RowCumsum args ∷ []
own_calls window.RowNumber args = call_of window.RowNumber args ∷ []

-- An expression, and the calls in it.
abbrev pub WithCalls : Type 0
WithCalls = BExpr × List WinCall

abbrev pub calls_step : BExpr-F WithCalls → List WinCall
calls_step (BExpr-F.Literal l) = []
calls_step (BExpr-F.Column n) = []
calls_step (BExpr-F.Step c) = []
calls_step (BExpr-F.Call f args) = flat_map (λ (a : WithCalls). a.1) args
calls_step (BExpr-F.Chain first links) = first.1 ++ flat_map (λ (l : ChainSign × WithCalls). l.1.1) links
calls_step (BExpr-F.Path whole steps) = whole.1 ++ flat_map (λ (a : WithCalls). a.1) steps
calls_step (BExpr-F.Window f args) = own_calls f (map (λ (a : WithCalls). a.0) args)
calls_step (BExpr-F.Aggregate f args) = []

unfoldable pub calls_of : BExpr → List WinCall
calls_of = para-BExpr (List WinCall) calls_step

-- Those in several expressions, in the parts of a chain behind its first, and in items.
unfoldable pub calls_in : List BExpr → List WinCall
calls_in es = flat_map calls_of es

unfoldable pub calls_along : List (ChainSign × BExpr) → List WinCall
calls_along links = flat_map (λ (l : ChainSign × BExpr). calls_of l.1) links

unfoldable pub calls_of_items : List BItem → List WinCall
calls_of_items items = flat_map (λ (b : BItem). calls_of b.expr) items

-- Their carries.

-- The carries of a range of rows.
unfoldable pub carries_of : List WinCall → Grid → ℕ → ℕ → List Carried
carries_of calls t from to = map (λ w. carry_of w t from to) calls

-- The first of carries, and that of no row where there are none.
unfoldable pub first_of : List Carried → Carried
first_of [] = no_rows
first_of (c ∷ cs) = c

-- Whether carries begin with those of the rows before a row. Before the first row they may be left out.
unfoldable pub AreBefore : List WinCall → Grid → ℕ → List Carried → Type 0
AreBefore [] t from cs = Unit {0}
AreBefore (w ∷ ws) t from cs = (first_of cs ≡ carry_of w t 0 from) × AreBefore ws t from (drop 1 cs)
