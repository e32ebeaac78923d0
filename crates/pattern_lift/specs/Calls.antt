-- The pattern calls of an expression, in their order, and where they may stand.
use Rattle.std.specs.Prelude.{ℕ, Bool, true, false, not, ◌&&◌, List, [], ◌∷◌, ◌++◌, map, Option, None, Some}
use Rattle.std.specs.List.{flat_map, list_all, list_any}
use Rattle.std.specs.Str.{bytes_eq}
use Rattle.kql_cells.specs.declared.value.Kind.{Kind}
use Rattle.kql_cells.specs.declared.value.Kind.TheVariants as kind
use Rattle.kql_cells.specs.declared.value.Value.{Value}
use Rattle.kql_cells.specs.declared.value.Value.TheVariants as value
use Rattle.kql_functions.specs.declared.func.Func.{Func}
use Rattle.kql_functions.specs.declared.func.Func.TheVariants as func
use Rattle.kql_functions.specs.declared.func.PatternFunc.{PatternFunc}
use Rattle.kql_bound.specs.declared.expr.BExpr.{BExpr, out-BExpr, para-BExpr}
use Rattle.kql_bound.specs.declared.expr.BExpr.TheOpen.{BExpr-F}
use Rattle.kql_bound.specs.declared.expr.ChainSign.{ChainSign}
use Rattle.kql_bound.specs.declared.parts.BItem.{BItem}
use Rattle.pattern_lift.specs.declared.calls.PatternCall.{PatternCall}

-- The column that an expression is, and the text of a literal of type string.
abbrev pub column_step : BExpr-F BExpr → Option (List ℕ)
column_step (BExpr-F.Column n) = Some n
column_step _ = None

unfoldable pub column_name : BExpr → Option (List ℕ)
column_name e = column_step (out-BExpr e)

abbrev pub text_of_kind : Kind → Value → Option (List ℕ)
text_of_kind kind.Text (value.Text t) = Some t
text_of_kind _ _ = None

abbrev pub text_step : BExpr-F BExpr → Option (List ℕ)
text_step (BExpr-F.Literal l) = text_of_kind l.kind l.value
text_step _ = None

unfoldable pub literal_text : BExpr → Option (List ℕ)
literal_text e = text_step (out-BExpr e)

-- The call of a column with the text of a pattern.
abbrev pub call_with : PatternFunc → Option (List ℕ) → Option (List ℕ) → Option PatternCall
call_with f (Some c) (Some t) = Some (record { func = f; column = c; pattern = t })
call_with f _ _ = None

unfoldable pub call_of : PatternFunc → List BExpr → Option PatternCall
call_of f (c ∷ p ∷ []) = call_with f (column_name c) (literal_text p)
call_of f _ = None

abbrev pub or_none : Option PatternCall → List PatternCall
or_none None = []
or_none (Some c) = c ∷ []

-- The call that a node is itself.
unfoldable pub own_calls : Func → List BExpr → List PatternCall
own_calls (func.Pattern f) args = or_none (call_of f args)
own_calls _ args = []

abbrev pub Part : Type 0
Part = BExpr × List PatternCall

abbrev pub calls_step : BExpr-F Part → List PatternCall
calls_step (BExpr-F.Literal l) = []
calls_step (BExpr-F.Column n) = []
calls_step (BExpr-F.Step c) = []
calls_step (BExpr-F.Call f args) = own_calls f (map (λ (a : Part). a.0) args) ++ flat_map (λ (a : Part). a.1) args
calls_step (BExpr-F.Chain first links) = first.1 ++ flat_map (λ (l : ChainSign × Part). l.1.1) links
calls_step (BExpr-F.Path whole steps) = whole.1 ++ flat_map (λ (a : Part). a.1) steps
calls_step (BExpr-F.Window f args) = flat_map (λ (a : Part). a.1) args
calls_step (BExpr-F.Aggregate f args) = flat_map (λ (a : Part). a.1) args

-- The calls of an expression, in the order in which they stand in it.
unfoldable pub calls : BExpr → List PatternCall
calls = para-BExpr (List PatternCall) calls_step

-- Those of several expressions, of the links of a chain, and of items.
unfoldable pub calls_in : List BExpr → List PatternCall
calls_in es = flat_map calls es

unfoldable pub calls_in_links : List (ChainSign × BExpr) → List PatternCall
calls_in_links links = flat_map (λ (l : ChainSign × BExpr). calls l.1) links

unfoldable pub calls_in_items : List BItem → List PatternCall
calls_in_items items = flat_map (λ (b : BItem). calls b.expr) items

-- Where they may stand.

unfoldable pub is_among : List (List ℕ) → List ℕ → Bool
is_among names n = list_any (λ m. bytes_eq m n) names

abbrev pub reads_one : List (List ℕ) → Option PatternCall → Bool
reads_one lent None = false
reads_one lent (Some c) = is_among lent c.column

-- A node that is a pattern call is one of a lent column and a text.
unfoldable pub is_call_of : List (List ℕ) → Func → List BExpr → Bool
is_call_of lent (func.Pattern f) args = reads_one lent (call_of f args)
is_call_of lent _ args = true

abbrev pub Tested : Type 0
Tested = BExpr × Bool

abbrev pub lent_step : List (List ℕ) → BExpr-F Tested → Bool
lent_step lent (BExpr-F.Literal l) = true
lent_step lent (BExpr-F.Column n) = true
lent_step lent (BExpr-F.Step c) = true
lent_step lent (BExpr-F.Call f args) = is_call_of lent f (map (λ (a : Tested). a.0) args) && list_all (λ (a : Tested). a.1) args
lent_step lent (BExpr-F.Chain first links) = first.1 && list_all (λ (l : ChainSign × Tested). l.1.1) links
lent_step lent (BExpr-F.Path whole steps) = whole.1 && list_all (λ (a : Tested). a.1) steps
lent_step lent (BExpr-F.Window f args) = list_all (λ (a : Tested). a.1) args
lent_step lent (BExpr-F.Aggregate f args) = list_all (λ (a : Tested). a.1) args

-- Whether each pattern call of an expression is one of a column that is lent to it, and a text. Where no column is lent, there is no
-- call.
unfoldable pub calls_are_lent : List (List ℕ) → BExpr → Bool
calls_are_lent lent = para-BExpr Bool (lent_step lent)
