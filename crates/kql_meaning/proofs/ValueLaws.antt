-- The equations of `val`, one for each variant of an expression.
use Rattle.std.proofs.Common.{◌≡◌, ℕ, List, [], ◌∷◌, map, refl, ap, ◌∙◌}
use Rattle.kql_cells.specs.Table.{Grid}
use Rattle.kql_cells.specs.declared.value.Value.{Value}
use Rattle.kql_functions.specs.declared.func.Func.{Func}
use Rattle.kql_scalar_fns.specs.Applied.{applied}
use Rattle.kql_functions.specs.declared.aggregate.Aggregate.{Aggregate}
use Rattle.kql_bound.specs.declared.expr.BExpr.{BExpr}
use Rattle.kql_bound.specs.declared.expr.BExpr.TheVariants as V
use Rattle.kql_bound.specs.declared.expr.ChainSign.{ChainSign}
use Rattle.kql_bound.specs.declared.expr.StepColumn.{StepColumn}
use Rattle.kql_functions.specs.declared.window.Window.{Window}
use Rattle.kql_bound.specs.declared.literal.Lit.{Lit}
use Rattle.kql_meaning.specs.Aggregates.{aggregated}
use Rattle.kql_meaning.specs.Expressions.{chain_value, path_value, reading, step_value, val, value_along, value_down, values_in}
use Rattle.kql_meaning.specs.Readings.{Reading, Records, values_at}
use Rattle.kql_meaning.specs.Tables.{cell}
use Rattle.kql_meaning.specs.Windows.{windowed}
use Rattle.kql_meaning.proofs.ReadingLaws.{reading-Aggregate, reading-Call, reading-Chain, reading-Column, reading-Literal, reading-Path, reading-Step, reading-Window}

-- The value of a reading.
abbrev read_at : Grid → ℕ → Records → Reading → Value
read_at t i s r = r.at t i s

-- The value of a part of an expression.
pub part-value : (e : BExpr) (t : Grid) (i : ℕ) (s : Records) → (reading e).at t i s ≡ val e t i s
unfolding val
part-value e t i s = refl

values-map : (args : List BExpr) (t : Grid) (i : ℕ) (s : Records) → values_at (map reading args) t i s ≡ values_in args t i s
unfolding values_at values_in val
values-map [] t i s = refl
values-map (e ∷ es) t i s = ap (λ vs. (reading e).at t i s ∷ vs) (values-map es t i s)

pub val-Literal : (l : Lit) (t : Grid) (i : ℕ) (s : Records) → val (V.Literal l) t i s ≡ l.value
unfolding val
val-Literal l t i s = ap (read_at t i s) (reading-Literal l)

pub val-Column : (n : List ℕ) (t : Grid) (i : ℕ) (s : Records) → val (V.Column n) t i s ≡ cell t i n
unfolding val
val-Column n t i s = ap (read_at t i s) (reading-Column n)

pub val-Step : (c : StepColumn) (t : Grid) (i : ℕ) (s : Records) → val (V.Step c) t i s ≡ step_value c s
unfolding val
val-Step c t i s = ap (read_at t i s) (reading-Step c)

pub val-Call : (f : Func) (args : List BExpr) (t : Grid) (i : ℕ) (s : Records) → val (V.Call f args) t i s ≡ applied f (values_in args t i s)
unfolding val
val-Call f args t i s = ap (read_at t i s) (reading-Call f args) ∙ ap (applied f) (values-map args t i s)

links-map : (links : List (ChainSign × BExpr)) (t : Grid) (i : ℕ) (s : Records) → map {B = ChainSign × Value} (λ (l : ChainSign × Reading). (l.0, l.1.at t i s)) (map {B = ChainSign × Reading} (λ (l : ChainSign × BExpr). (l.0, reading l.1)) links) ≡ map {B = ChainSign × Value} (λ (l : ChainSign × BExpr). (l.0, val l.1 t i s)) links
unfolding val
links-map [] t i s = refl
links-map (l ∷ ls) t i s = ap (λ (vs : List (ChainSign × Value)). (l.0, (reading l.1).at t i s) ∷ vs) (links-map ls t i s)

pub val-Chain : (first : BExpr) (links : List (ChainSign × BExpr)) (t : Grid) (i : ℕ) (s : Records) → val (V.Chain first links) t i s ≡ value_along links t i s (val first t i s)
unfolding val value_along
val-Chain first links t i s = ap (read_at t i s) (reading-Chain first links) ∙ ap (chain_value ((reading first).at t i s)) (links-map links t i s)

pub val-Path : (whole : BExpr) (steps : List BExpr) (t : Grid) (i : ℕ) (s : Records) → val (V.Path whole steps) t i s ≡ value_down steps t i s (val whole t i s)
unfolding val value_down
val-Path whole steps t i s = ap (read_at t i s) (reading-Path whole steps) ∙ ap (path_value ((reading whole).at t i s)) (values-map steps t i s)

pub val-Window : (f : Window) (args : List BExpr) (t : Grid) (i : ℕ) (s : Records) → val (V.Window f args) t i s ≡ windowed f (map reading args) t i s
unfolding val
val-Window f args t i s = ap (read_at t i s) (reading-Window f args)

pub val-Aggregate : (f : Aggregate) (args : List BExpr) (t : Grid) (i : ℕ) (s : Records) → val (V.Aggregate f args) t i s ≡ aggregated f (map reading args) t s
unfolding val
val-Aggregate f args t i s = ap (read_at t i s) (reading-Aggregate f args)

pub ruleset val_steps = (val-Literal, val-Column, val-Step, val-Call, val-Chain, val-Path, val-Window, val-Aggregate)
