-- A folded expression has as many result columns, of the same types and values.
use Rattle.std.proofs.Common.{◌≡◌, ℕ, suc, Bool, true, false, List, [], ◌∷◌, length, map, refl, ap, ap₂, sym, ◌∙◌, subst, inl, inr}
use Rattle.std.specs.Prelude.{◌⊎◌, Option, None, Some, drop, option_and_then, option_map, unwrap_or}
use Rattle.kql_cells.specs.Table.{Grid}
use Rattle.kql_cells.specs.declared.schema.Column.{Column}
use Rattle.kql_cells.specs.declared.value.Kind.{Kind}
use Rattle.kql_cells.specs.declared.value.Kind.TheVariants as kind
use Rattle.kql_cells.specs.declared.value.Value.{Value}
use Rattle.kql_functions.specs.declared.aggregate.Aggregate.{Aggregate}
use Rattle.kql_functions.specs.declared.aggregate.Aggregate.TheVariants as aggregate
use Rattle.kql_functions.specs.declared.func.Func.{Func}
use Rattle.kql_bound.specs.Signs.{sign_func}
use Rattle.kql_bound.specs.declared.expr.BExpr.{BExpr, out-BExpr, out-roll-BExpr, roll-BExpr}
use Rattle.kql_bound.specs.declared.expr.BExpr.TheOpen.{BExpr-F}
use Rattle.kql_bound.specs.declared.expr.BExpr.TheVariants as V
use Rattle.kql_bound.specs.declared.expr.ChainSign.{ChainSign}
use Rattle.kql_bound.specs.declared.literal.Lit.{Lit}
use Rattle.kql_meaning.specs.declared.position.Position.{Position}
use Rattle.kql_meaning.specs.Aggregates.{all_values}
use Rattle.kql_meaning.specs.Expressions.{look, val, values_in}
use Rattle.kql_meaning.specs.FittingExpressions.{Scope, call_or_expr_fits, call_or_expr_fits_step, expr_fits, is_aggregate_call, is_aggregate_call_step}
use Rattle.kql_meaning.specs.Readings.{Reading, Records, reading_at}
use Rattle.kql_meaning.specs.Results.{aggregate_result_kinds, compared_values, greatest_row, least_row, result_kinds, result_kinds_step, results, results_step, typed}
use Rattle.kql_meaning.proofs.ExpressionFitLaws.{is_call-Call, is_call-Chain, is_call-Literal, is_call-Path, is_call-Aggregate, is_call-Column, is_call-Step, is_call-Window}
use Rattle.kql_meaning.proofs.ResultLaws.{result-Aggregate}
use Rattle.plan_rules.specs.Folding.{chain_from, folded, folded_call, folded_chain, folded_path, literal_called, literal_joined, literal_or, path_from, sound_literal, sound_literals}
use Rattle.plan_rules.proofs.FoldSteps.{each-form, folded-Aggregate, folded-Call, folded-Chain, folded-Column, folded-Literal, folded-Path, folded-Step, folded-Window, folded_link}
use Rattle.plan_rules.proofs.FoldedReadings.{folded-kind, folded-readings, folded-val, folded-values}

-- Calls of aggregates.

call-shape : (f : Func) (args : List BExpr) → is_aggregate_call (folded_call f args) ≡ false
unfolding folded_call
call-shape f args = by (option_and_then (literal_called f) (sound_literals args))
  where
    by : (o : Option Lit) → is_aggregate_call (literal_or (V.Call f args) o) ≡ false
    by None = is_call-Call f args
    by (Some l) = is_call-Literal l

chain-next-shape : (a : Lit) (l : ChainSign × BExpr) (ls : List (ChainSign × BExpr)) → ((b : Lit) → is_aggregate_call (chain_from b ls) ≡ false) → (o : Option Lit) → is_aggregate_call (unwrap_or (option_map (λ b. chain_from b ls) o) (V.Chain (V.Literal a) (l ∷ ls))) ≡ false
chain-next-shape a l ls more None = is_call-Chain (V.Literal a) (l ∷ ls)
chain-next-shape a l ls more (Some b) = more b

chain-from-shape : (ls : List (ChainSign × BExpr)) (a : Lit) → is_aggregate_call (chain_from a ls) ≡ false
unfolding chain_from
chain-from-shape [] a = is_call-Literal a
chain-from-shape (l ∷ ls) a = chain-next-shape a l ls (λ b. chain-from-shape ls b) (literal_joined (sign_func l.0) a l.1)

chain-shape : (first : BExpr) (ls : List (ChainSign × BExpr)) → is_aggregate_call (folded_chain first ls) ≡ false
unfolding folded_chain
chain-shape first ls = by (sound_literal first)
  where
    by : (o : Option Lit) → is_aggregate_call (unwrap_or (option_map (λ a. chain_from a ls) o) (V.Chain first ls)) ≡ false
    by None = is_call-Chain first ls
    by (Some a) = chain-from-shape ls a

path-next-shape : (a : Lit) (e : BExpr) (es : List BExpr) → ((b : Lit) → is_aggregate_call (path_from b es) ≡ false) → (o : Option Lit) → is_aggregate_call (unwrap_or (option_map (λ b. path_from b es) o) (V.Path (V.Literal a) (e ∷ es))) ≡ false
path-next-shape a e es more None = is_call-Path (V.Literal a) (e ∷ es)
path-next-shape a e es more (Some b) = more b

path-from-shape : (es : List BExpr) (a : Lit) → is_aggregate_call (path_from a es) ≡ false
unfolding path_from
path-from-shape [] a = is_call-Literal a
path-from-shape (e ∷ es) a = path-next-shape a e es (λ b. path-from-shape es b) (literal_joined look a e)

path-shape : (whole : BExpr) (es : List BExpr) → is_aggregate_call (folded_path whole es) ≡ false
unfolding folded_path
path-shape whole es = by (sound_literal whole)
  where
    by : (o : Option Lit) → is_aggregate_call (unwrap_or (option_map (λ a. path_from a es) o) (V.Path whole es)) ≡ false
    by None = is_call-Path whole es
    by (Some a) = path-from-shape es a

-- An expression is one call of an aggregate, and so is what it becomes, or neither is.
abbrev pub Shape : BExpr → Type 0
Shape e = ((f : Aggregate) × (args : List BExpr) × (e ≡ V.Aggregate f args)) ⊎ ((is_aggregate_call e ≡ false) × (is_aggregate_call (folded e) ≡ false))

shape-layer : (y : BExpr-F BExpr) → Shape (roll-BExpr y)
shape-layer (BExpr-F.Literal l) = subst Shape (sym (V.rolls-Literal l)) (inr (is_call-Literal l, ap is_aggregate_call (folded-Literal l) ∙ is_call-Literal l))
shape-layer (BExpr-F.Column n) = subst Shape (sym (V.rolls-Column n)) (inr (is_call-Column n, ap is_aggregate_call (folded-Column n) ∙ is_call-Column n))
shape-layer (BExpr-F.Step c) = subst Shape (sym (V.rolls-Step c)) (inr (is_call-Step c, ap is_aggregate_call (folded-Step c) ∙ is_call-Step c))
shape-layer (BExpr-F.Call f args) = subst Shape (sym (V.rolls-Call f args)) (inr (is_call-Call f args, ap is_aggregate_call (folded-Call f args) ∙ call-shape f (map folded args)))
shape-layer (BExpr-F.Chain first links) = subst Shape (sym (V.rolls-Chain first links)) (inr (is_call-Chain first links, ap is_aggregate_call (folded-Chain first links) ∙ chain-shape (folded first) (map folded_link links)))
shape-layer (BExpr-F.Path whole steps) = subst Shape (sym (V.rolls-Path whole steps)) (inr (is_call-Path whole steps, ap is_aggregate_call (folded-Path whole steps) ∙ path-shape (folded whole) (map folded steps)))
shape-layer (BExpr-F.Window f args) = subst Shape (sym (V.rolls-Window f args)) (inr (is_call-Window f args, ap is_aggregate_call (folded-Window f args) ∙ is_call-Window f (map folded args)))
shape-layer (BExpr-F.Aggregate f args) = subst Shape (sym (V.rolls-Aggregate f args)) (inl (f, args, refl))

pub shape : (e : BExpr) → Shape e
shape = each-form Shape shape-layer

pub folded-call : (e : BExpr) → is_aggregate_call e ≡ true → is_aggregate_call (folded e) ≡ true
folded-call e h = by (shape e)
  where
    by : Shape e → is_aggregate_call (folded e) ≡ true
    by (inl r) = ap (λ x. is_aggregate_call (folded x)) r.2 ∙ (ap is_aggregate_call (folded-Aggregate r.0 r.1) ∙ is_call-Aggregate r.0 (map folded r.1))
    by (inr r) = let no : true ≡ false = sym h ∙ r.0 in absurd cc

-- One result column.

one-kind : (f : BExpr-F BExpr) (k : Kind) (cs : List Column) → is_aggregate_call_step f ≡ false → result_kinds_step f k cs ≡ k ∷ []
one-kind (BExpr-F.Aggregate f args) k cs h = absurd cc
one-kind _ k cs h = refl

one-result : (f : BExpr-F BExpr) (v : Value) (t : Grid) (s : Records) → is_aggregate_call_step f ≡ false → results_step f v t s ≡ v ∷ []
one-result (BExpr-F.Aggregate f args) v t s h = absurd cc
one-result _ v t s h = refl

one-fit : (f : BExpr-F BExpr) (other : Bool) (scope : Scope) (at : Position) → is_aggregate_call_step f ≡ false → call_or_expr_fits_step f other scope at ≡ other
one-fit (BExpr-F.Aggregate f args) other scope at h = absurd cc
one-fit _ other scope at h = refl

pub other-kinds : (e : BExpr) (cs : List Column) → is_aggregate_call e ≡ false → result_kinds e cs ≡ typed e cs ∷ []
unfolding result_kinds is_aggregate_call
other-kinds e cs h = one-kind (out-BExpr e) (typed e cs) cs h

pub other-results : (e : BExpr) (t : Grid) (i : ℕ) (s : Records) → is_aggregate_call e ≡ false → results e t i s ≡ val e t i s ∷ []
unfolding results is_aggregate_call
other-results e t i s h = one-result (out-BExpr e) (val e t i s) t s h

pub other-fits : (e : BExpr) (scope : Scope) (at : Position) → is_aggregate_call e ≡ false → call_or_expr_fits e scope at ≡ expr_fits e scope at
unfolding call_or_expr_fits is_aggregate_call
other-fits e scope at h = one-fit (out-BExpr e) (expr_fits e scope at) scope at h

-- Types.

pub folded-typed : (e : BExpr) (cs : List Column) → typed (folded e) cs ≡ typed e cs
unfolding typed
folded-typed e cs = ap (λ k. unwrap_or k kind.Dynamic) (folded-kind e cs)

all-typed : (es : List BExpr) (cs : List Column) → map (λ a. typed a cs) (map folded es) ≡ map (λ a. typed a cs) es
all-typed [] cs = refl
all-typed (e ∷ es) cs = ap₂ (λ (k : Kind) (ks : List Kind). k ∷ ks) (folded-typed e cs) (all-typed es cs)

spread-kinds : (f : Aggregate) (args : List BExpr) (k : Kind) (cs : List Column) → aggregate_result_kinds f (map folded args) k cs ≡ aggregate_result_kinds f args k cs
unfolding aggregate_result_kinds
spread-kinds aggregate.ArgMax args k cs = all-typed args cs
spread-kinds aggregate.ArgMin args k cs = all-typed args cs
spread-kinds aggregate.TakeAny args k cs = all-typed args cs
spread-kinds _ args k cs = refl

aggregate-kinds : (f : Aggregate) (args : List BExpr) (cs : List Column) → result_kinds (folded (V.Aggregate f args)) cs ≡ result_kinds (V.Aggregate f args) cs
aggregate-kinds f args cs =
    let one : typed (V.Aggregate f (map folded args)) cs ≡ typed (V.Aggregate f args) cs = ap (λ e. typed e cs) (sym (folded-Aggregate f args)) ∙ folded-typed (V.Aggregate f args) cs in
    ap (λ e. result_kinds e cs) (folded-Aggregate f args)
    ∙ (result-Aggregate f (map folded args) cs
    ∙ (ap (λ k. aggregate_result_kinds f (map folded args) k cs) one
    ∙ (spread-kinds f args (typed (V.Aggregate f args) cs) cs
    ∙ sym (result-Aggregate f args cs))))

pub folded-result-kinds : (e : BExpr) (cs : List Column) → result_kinds (folded e) cs ≡ result_kinds e cs
folded-result-kinds e cs = by (shape e)
  where
    by : Shape e → result_kinds (folded e) cs ≡ result_kinds e cs
    by (inl r) = subst (λ x. result_kinds (folded x) cs ≡ result_kinds x cs) (sym r.2) (aggregate-kinds r.0 r.1 cs)
    by (inr r) = other-kinds (folded e) cs r.1 ∙ (ap (λ (k : Kind). k ∷ []) (folded-typed e cs) ∙ sym (other-kinds e cs r.0))

-- Values.

compared-same : (args : List BExpr) (t : Grid) (s : Records) → compared_values (map folded args) t s ≡ compared_values args t s
unfolding compared_values
compared-same args t s = ap (λ (rs : List Reading). all_values (reading_at rs 0) t s) (folded-readings args)

behind-first : (args : List BExpr) (t : Grid) (i : ℕ) (s : Records) → values_in (drop 1 (map folded args)) t i s ≡ values_in (drop 1 args) t i s
behind-first [] t i s = refl
behind-first (e ∷ es) t i s = folded-values es t i s

spread-results : (f : Aggregate) (args : List BExpr) (v : Value) (t : Grid) (s : Records) → results_step (BExpr-F.Aggregate f (map folded args)) v t s ≡ results_step (BExpr-F.Aggregate f args) v t s
spread-results aggregate.ArgMax args v t s = ap (λ (vs : List Value). v ∷ vs) (ap (λ n. values_in (drop 1 (map folded args)) t (greatest_row n) s) (compared-same args t s) ∙ behind-first args t (greatest_row (compared_values args t s)) s)
spread-results aggregate.ArgMin args v t s = ap (λ (vs : List Value). v ∷ vs) (ap (λ n. values_in (drop 1 (map folded args)) t (least_row n) s) (compared-same args t s) ∙ behind-first args t (least_row (compared_values args t s)) s)
spread-results aggregate.TakeAny args v t s = folded-values args t 0 s
spread-results _ args v t s = refl

aggregate-out : (f : Aggregate) (args : List BExpr) (t : Grid) (i : ℕ) (s : Records) → results (V.Aggregate f args) t i s ≡ results_step (BExpr-F.Aggregate f args) (val (V.Aggregate f args) t i s) t s
unfolding results
aggregate-out f args t i s = ap (λ (g : BExpr-F BExpr). results_step g (val (V.Aggregate f args) t i s) t s) (ap out-BExpr (sym (V.rolls-Aggregate f args)) ∙ out-roll-BExpr (BExpr-F.Aggregate f args))

aggregate-results : (f : Aggregate) (args : List BExpr) (t : Grid) (i : ℕ) (s : Records) → results (folded (V.Aggregate f args)) t i s ≡ results (V.Aggregate f args) t i s
aggregate-results f args t i s =
    let one : val (V.Aggregate f (map folded args)) t i s ≡ val (V.Aggregate f args) t i s = ap (λ e. val e t i s) (sym (folded-Aggregate f args)) ∙ folded-val (V.Aggregate f args) t i s in
    ap (λ e. results e t i s) (folded-Aggregate f args)
    ∙ (aggregate-out f (map folded args) t i s
    ∙ (ap (λ v. results_step (BExpr-F.Aggregate f (map folded args)) v t s) one
    ∙ (spread-results f args (val (V.Aggregate f args) t i s) t s
    ∙ sym (aggregate-out f args t i s))))

pub folded-results : (e : BExpr) (t : Grid) (i : ℕ) (s : Records) → results (folded e) t i s ≡ results e t i s
folded-results e t i s = by (shape e)
  where
    by : Shape e → results (folded e) t i s ≡ results e t i s
    by (inl r) = subst (λ x. results (folded x) t i s ≡ results x t i s) (sym r.2) (aggregate-results r.0 r.1 t i s)
    by (inr r) = other-results (folded e) t i s r.1 ∙ (ap (λ (v : Value). v ∷ []) (folded-val e t i s) ∙ sym (other-results e t i s r.0))

-- As many arguments.

pub length-folded : (es : List BExpr) → length (map folded es) ≡ length es
length-folded [] = refl
length-folded (e ∷ es) = ap suc (length-folded es)
