-- The summary fits where the series does.
use Rattle.std.proofs.Common.{◌≡◌, ◌==◌, Bool, true, false, not, List, [], ◌∷◌, ◌++◌, ℕ, map, refl, ap, ap₂, sym, ◌∙◌, subst, inl, inr, length}
use Rattle.std.specs.Prelude.{◌&&◌, ◌||◌, Option, Some, bytes_eq, find, is_some}
use Rattle.std.specs.List.{list_all, list_any}
use Rattle.std.proofs.lemmas.Bool.{and_from, and_parts, cases_Bool, eq-eqb}
use Rattle.std.proofs.lemmas.List.{append_assoc, map-append}
use Rattle.std.proofs.lemmas.Slice.Eq.{bytes_eq-Decides}
use Rattle.kql_cells.specs.Named.{column_name}
use Rattle.kql_cells.specs.Table.{Grid}
use Rattle.kql_cells.specs.declared.schema.Column.{Column}
use Rattle.kql_cells.specs.declared.value.Kind.{Kind}
use Rattle.kql_cells.specs.declared.value.Kind.TheVariants as kind
use Rattle.kql_cells.specs.declared.value.Value.{Value}
use Rattle.kql_functions.specs.Kinds.{arithmetic_kind, result_kind, row, same_kinds}
use Rattle.kql_functions.specs.declared.aggregate.Aggregate.{Aggregate}
use Rattle.kql_functions.specs.declared.aggregate.Aggregate.TheVariants as aggregate
use Rattle.kql_functions.specs.declared.func.ArithmeticFunc.TheVariants as arithmetic
use Rattle.kql_functions.specs.declared.func.Func.TheVariants as func
use Rattle.kql_bound.specs.declared.expr.BExpr.{BExpr, out-BExpr, out-roll-BExpr, roll-BExpr, roll-out-BExpr}
use Rattle.kql_bound.specs.declared.expr.BExpr.TheOpen.{BExpr-F}
use Rattle.kql_bound.specs.declared.expr.BExpr.TheVariants as V
use Rattle.kql_bound.specs.declared.literal.Lit.{Lit}
use Rattle.kql_bound.specs.declared.parts.SeriesItem.{SeriesItem}
use Rattle.kql_bound.specs.declared.parts.SeriesPlan.{SeriesPlan}
use Rattle.kql_meaning.specs.declared.position.Position.TheVariants as position
use Rattle.kql_meaning.specs.Expressions.{all_known, call_kind, column_kind, kind_of, kinds_in, val}
use Rattle.kql_meaning.specs.FittingExpressions.{aggregate_fits, aggregate_takes, call_or_expr_fits, checked_args, expr_fits, fits_as, has_kind, is_aggregate_call, is_aggregate_call_step, is_callable, is_key, is_kind, is_of_series, part_fits, scope_of, takes_aggregate, takes_columns}
use Rattle.kql_meaning.specs.FittingOperators.{answer_if, are_distinct, bins_fit, columns_if, group_item_fits, has_its_names, is_empty, is_given, is_step_of, key_item_fits, series_fits, series_item_fits, summarize_fits}
use Rattle.kql_meaning.specs.Items.{items_columns, items_values, named_columns}
use Rattle.kql_meaning.specs.Literals.{literal_fits}
use Rattle.kql_meaning.specs.MakeSeries.{series_columns, series_item_columns}
use Rattle.kql_meaning.specs.Results.{aggregate_result_kinds, has_one_result, result_kinds, results, results_step, typed}
use Rattle.kql_meaning.specs.Summarize.{group_columns}
use Rattle.kql_meaning.specs.Tables.{has_column, is_name_among, names_of}
use Rattle.kql_meaning.specs.Values.{number_of}
use Rattle.kql_meaning.proofs.ExpressionFitLaws.{aggregate-checked, call-Aggregate, fits-Aggregate, fits-Call, fits-Column, fits-Literal}
use Rattle.kql_meaning.proofs.KindLaws.{kind-Call, kind-Column, kind-Literal}
use Rattle.kql_meaning.proofs.ResultLaws.{result-Aggregate, result-Call}
use Rattle.kql_fit_laws.proofs.JoinRows.{same-kind}
use Rattle.series_op.specs.Summary.{bin_args, bin_expr, bin_item, group_item, summary_plan}
use Rattle.series_op.proofs.BinKeys.{FitBins, axis-there, bins-parts}

-- The calls of aggregates.

-- An item that is one call of an aggregate which a series takes.
pub record IsCall (e : BExpr) : Type 0 where
  pub call : Aggregate
  pub args : List BExpr
  pub is : e ≡ V.Aggregate call args
  pub taken : is_of_series call ≡ true

rolled : (f : BExpr-F BExpr) → is_aggregate_call_step f ≡ true → (g : Aggregate) × (args : List BExpr) × (roll-BExpr f ≡ V.Aggregate g args)
rolled (BExpr-F.Aggregate g args) e = (g, args, V.rolls-Aggregate g args)
rolled _ e = absurd cc

aggregate-of : (e : BExpr) → is_aggregate_call e ≡ true → (g : Aggregate) × (args : List BExpr) × (e ≡ V.Aggregate g args)
unfolding is_aggregate_call
aggregate-of e call = let q = rolled (out-BExpr e) call in (q.0, q.1, sym (roll-out-BExpr e) ∙ q.2)

call-parts : (f : Aggregate) (args : List BExpr) (cs : List Column) → expr_fits (V.Aggregate f args) (scope_of cs) position.Series ≡ true → (is_of_series f ≡ true) × ((list_all (λ a. expr_fits a (scope_of cs) position.Plain) args && aggregate_takes f args cs) ≡ true)
unfolding takes_aggregate
call-parts f args cs e =
    let call = (and_parts (has_one_result f args) (aggregate_fits f (checked_args args) (scope_of cs) position.Series) (sym (fits-Aggregate f args (scope_of cs) position.Series) ∙ e)).1 in
    and_parts (is_of_series f) (list_all (λ a. expr_fits a (scope_of cs) position.Plain) args && aggregate_takes f args cs) (sym (aggregate-checked f args (scope_of cs) position.Series) ∙ call)

pub item-call : (cs : List Column) (i : SeriesItem) → series_item_fits cs i ≡ true → IsCall i.expr × (expr_fits i.expr (scope_of cs) position.Series ≡ true) × (literal_fits i.default ≡ true)
unfolding series_item_fits
item-call cs i e =
    let call = and_parts (is_aggregate_call i.expr) (expr_fits i.expr (scope_of cs) position.Series && (literal_fits i.default && is_kind i.default.kind (kind_of i.expr cs))) e in
    let rest = and_parts (expr_fits i.expr (scope_of cs) position.Series) (literal_fits i.default && is_kind i.default.kind (kind_of i.expr cs)) call.1 in
    let default = and_parts (literal_fits i.default) (is_kind i.default.kind (kind_of i.expr cs)) rest.1 in
    let q = aggregate-of i.expr call.0 in
    (record { call = q.0; args = q.1; is = q.2; taken = (call-parts q.0 q.1 cs (subst (λ (x : BExpr). expr_fits x (scope_of cs) position.Series ≡ true) q.2 rest.0)).0 }, rest.0, default.0)

-- One result column.

one-kind : (f : Aggregate) (args : List BExpr) (k : Kind) (cs : List Column) → is_of_series f ≡ true → aggregate_result_kinds f args k cs ≡ k ∷ []
unfolding is_of_series aggregate_result_kinds
one-kind aggregate.Count args k cs e = refl
one-kind aggregate.CountIf args k cs e = refl
one-kind aggregate.CountDistinct args k cs e = refl
one-kind aggregate.CountDistinctIf args k cs e = refl
one-kind aggregate.Sum args k cs e = refl
one-kind aggregate.SumIf args k cs e = refl
one-kind aggregate.Min args k cs e = refl
one-kind aggregate.MinIf args k cs e = refl
one-kind aggregate.Max args k cs e = refl
one-kind aggregate.MaxIf args k cs e = refl
one-kind aggregate.MakeList args k cs e = absurd cc
one-kind aggregate.MakeListIf args k cs e = absurd cc
one-kind aggregate.MakeSet args k cs e = absurd cc
one-kind aggregate.MakeSetIf args k cs e = absurd cc
one-kind aggregate.ArgMax args k cs e = absurd cc
one-kind aggregate.ArgMin args k cs e = absurd cc
one-kind aggregate.TakeAny args k cs e = absurd cc
one-kind aggregate.BinaryAllAnd args k cs e = absurd cc
one-kind aggregate.BinaryAllOr args k cs e = absurd cc
one-kind aggregate.BinaryAllXor args k cs e = absurd cc

one-value : (f : Aggregate) (args : List BExpr) (v : Value) (t : Grid) → is_of_series f ≡ true → results_step (BExpr-F.Aggregate f args) v t [] ≡ v ∷ []
unfolding is_of_series
one-value aggregate.Count args v t e = refl
one-value aggregate.CountIf args v t e = refl
one-value aggregate.CountDistinct args v t e = refl
one-value aggregate.CountDistinctIf args v t e = refl
one-value aggregate.Sum args v t e = refl
one-value aggregate.SumIf args v t e = refl
one-value aggregate.Min args v t e = refl
one-value aggregate.MinIf args v t e = refl
one-value aggregate.Max args v t e = refl
one-value aggregate.MaxIf args v t e = refl
one-value aggregate.MakeList args v t e = absurd cc
one-value aggregate.MakeListIf args v t e = absurd cc
one-value aggregate.MakeSet args v t e = absurd cc
one-value aggregate.MakeSetIf args v t e = absurd cc
one-value aggregate.ArgMax args v t e = absurd cc
one-value aggregate.ArgMin args v t e = absurd cc
one-value aggregate.TakeAny args v t e = absurd cc
one-value aggregate.BinaryAllAnd args v t e = absurd cc
one-value aggregate.BinaryAllOr args v t e = absurd cc
one-value aggregate.BinaryAllXor args v t e = absurd cc

call-kinds : (e : BExpr) (cs : List Column) → IsCall e → result_kinds e cs ≡ typed e cs ∷ []
call-kinds e cs c =
    ap (λ (x : BExpr). result_kinds x cs) c.is
    ∙ (result-Aggregate c.call c.args cs
    ∙ (one-kind c.call c.args (typed (V.Aggregate c.call c.args) cs) cs c.taken
    ∙ ap (λ (x : BExpr). typed x cs ∷ []) (sym c.is)))

rolled-Aggregate : (f : Aggregate) (args : List BExpr) → out-BExpr (V.Aggregate f args) ≡ BExpr-F.Aggregate f args
rolled-Aggregate f args = ap out-BExpr (sym (V.rolls-Aggregate f args)) ∙ out-roll-BExpr (BExpr-F.Aggregate f args)

call-values : (e : BExpr) (t : Grid) → IsCall e → results e t 0 [] ≡ val e t 0 [] ∷ []
unfolding results
call-values e t c =
    ap (λ (x : BExpr). results_step (out-BExpr x) (val e t 0 []) t []) c.is
    ∙ (ap (λ (x : BExpr-F BExpr). results_step x (val e t 0 []) t []) (rolled-Aggregate c.call c.args)
    ∙ one-value c.call c.args (val e t 0 []) t c.taken)

-- The calls of all items.
abbrev pub AreCalls : List SeriesItem → Type 0
AreCalls [] = Unit {0}
AreCalls (i ∷ is) = IsCall i.expr × AreCalls is

pub calls-of : (cs : List Column) (items : List SeriesItem) → list_all (series_item_fits cs) items ≡ true → AreCalls items
calls-of cs [] e = tt
calls-of cs (i ∷ is) e =
    let parts = and_parts (series_item_fits cs i) (list_all (series_item_fits cs) is) e in
    ((item-call cs i parts.0).0, calls-of cs is parts.1)

-- The values of the items over a table.
pub values-are : (items : List SeriesItem) (t : Grid) → AreCalls items → items_values (map group_item items) t 0 ≡ map (λ (i : SeriesItem). val i.expr t 0 []) items
unfolding items_values group_item
values-are [] t c = refl
values-are (i ∷ is) t c = ap₂ (λ (us vs : List Value). us ++ vs) (call-values i.expr t c.0) (values-are is t c.1)

-- Their columns.
pub columns-are : (items : List SeriesItem) (cs : List Column) → AreCalls items → names_of (items_columns (map group_item items) cs) ≡ map (λ (i : SeriesItem). i.name) items
unfolding items_columns group_item names_of named_columns
columns-are [] cs c = refl
columns-are (i ∷ is) cs c =
    let one = ap (λ (ks : List Kind). named_columns (i.name ∷ []) ks) (call-kinds i.expr cs c.0) in
    ap (λ (ds : List Column). map (λ (d : Column). d.name) (ds ++ items_columns (map group_item is) cs)) one
    ∙ ap (λ (ns : List (List ℕ)). i.name ∷ ns) (columns-are is cs c.1)

-- The items fit over groups.

group-item-fits : (cs : List Column) (i : SeriesItem) → series_item_fits cs i ≡ true → group_item_fits cs (group_item i) ≡ true
unfolding group_item_fits group_item has_its_names takes_aggregate
group-item-fits cs i e =
    let q = item-call cs i e in
    let c = q.0 in
    let parts = call-parts c.call c.args cs (subst (λ (x : BExpr). expr_fits x (scope_of cs) position.Series ≡ true) c.is q.1) in
    let fits : call_or_expr_fits i.expr (scope_of cs) position.Group ≡ true =
    ap (λ (x : BExpr). call_or_expr_fits x (scope_of cs) position.Group) c.is
    ∙ (call-Aggregate c.call c.args (scope_of cs) position.Group
    ∙ (aggregate-checked c.call c.args (scope_of cs) position.Group ∙ parts.1)) in
    let names : (1 == length (result_kinds i.expr cs)) ≡ true = eq-eqb 1 (length (result_kinds i.expr cs)) (sym (ap length (call-kinds i.expr cs c))) in
    and_from (call_or_expr_fits i.expr (scope_of cs) position.Group) (1 == length (result_kinds i.expr cs)) fits names

group-items-fit : (cs : List Column) (items : List SeriesItem) → list_all (series_item_fits cs) items ≡ true → list_all (group_item_fits cs) (map group_item items) ≡ true
group-items-fit cs [] e = refl
group-items-fit cs (i ∷ is) e =
    let parts = and_parts (series_item_fits cs i) (list_all (series_item_fits cs) is) e in
    and_from (group_item_fits cs (group_item i)) (list_all (group_item_fits cs) (map group_item is)) (group-item-fits cs i parts.0) (group-items-fit cs is parts.1)

-- The bin is a key.

stands : (cs : List Column) (n : List ℕ) (c : Column) → find (λ (d : Column). bytes_eq (column_name d) n) cs ≡ Some c → has_column n cs ≡ true
unfolding has_column is_name_among names_of
stands [] n c e = cc
stands (d ∷ cs) n c e = elim (cases_Bool (bytes_eq d.name n)) [
  | inl t ↦ rw t refl
  | inr f ↦ rw f (stands cs n c (rw f at e))
]

column-kind : (cs : List Column) (n : List ℕ) (c : Column) → find (λ (d : Column). bytes_eq (column_name d) n) cs ≡ Some c → column_kind n cs ≡ Some c.kind
unfolding column_kind
column-kind cs n c e = rw e refl

start-kind : (k s : Kind) → is_step_of k s ≡ true → result_kind (func.Arithmetic arithmetic.BinAt) (k ∷ s ∷ k ∷ []) ≡ Some k
unfolding is_step_of result_kind arithmetic_kind row same_kinds
start-kind kind.Long s e = let is = same-kind s kind.Long e in rw is refl
start-kind kind.Moment s e = let is = same-kind s kind.Span e in rw is refl
start-kind kind.Span s e = let is = same-kind s kind.Span e in rw is refl
start-kind kind.Bool s e = cc
start-kind kind.Text s e = cc
start-kind kind.Dynamic s e = cc

start-key : (k s : Kind) → is_step_of k s ≡ true → is_key k ≡ true
unfolding is_step_of is_key
start-key kind.Long s e = refl
start-key kind.Moment s e = refl
start-key kind.Span s e = refl
start-key kind.Bool s e = cc
start-key kind.Text s e = cc
start-key kind.Dynamic s e = cc

arg-kinds : (p : SeriesPlan) (cs : List Column) → FitBins p cs → kinds_in (bin_args p) cs ≡ Some p.from.kind ∷ Some p.step.kind ∷ Some p.from.kind ∷ []
unfolding kinds_in bin_args
arg-kinds p cs f =
    let q = axis-there p cs f in
    let axis : kind_of (V.Column p.axis) cs ≡ Some p.from.kind = kind-Column p.axis cs ∙ (column-kind cs p.axis q.0 q.1 ∙ ap Some (sym q.2)) in
    ap₂ (λ (k : Option Kind) (ks : List (Option Kind)). k ∷ ks) axis
    (ap₂ (λ (k : Option Kind) (ks : List (Option Kind)). k ∷ ks) (kind-Literal p.step cs) (ap (λ (k : Option Kind). k ∷ []) (kind-Literal p.from cs)))

args-known : (p : SeriesPlan) (cs : List Column) → FitBins p cs → call_kind (func.Arithmetic arithmetic.BinAt) (kinds_in (bin_args p) cs) ≡ Some p.from.kind
unfolding call_kind all_known
args-known p cs f = rw (arg-kinds p cs f) (start-kind p.from.kind p.step.kind f.stepped)

given-fits : (l : Lit) → is_given l ≡ true → literal_fits l ≡ true
unfolding is_given
given-fits l e = (and_parts (literal_fits l) (is_some (number_of l.value)) e).0

bin-fits : (p : SeriesPlan) (cs : List Column) → FitBins p cs → expr_fits (bin_expr p) (scope_of cs) position.Plain ≡ true
unfolding bin_expr bin_args is_callable part_fits takes_columns
bin-fits p cs f =
    let q = axis-there p cs f in
    let scope = scope_of cs in
    let axis : expr_fits (V.Column p.axis) scope position.Plain ≡ true = fits-Column p.axis scope position.Plain ∙ stands cs p.axis q.0 q.1 in
    let step : expr_fits (V.Literal p.step) scope position.Plain ≡ true = fits-Literal p.step scope position.Plain ∙ given-fits p.step f.step in
    let from : expr_fits (V.Literal p.from) scope position.Plain ≡ true = fits-Literal p.from scope position.Plain ∙ given-fits p.from f.from in
    let known : is_some (call_kind (func.Arithmetic arithmetic.BinAt) (kinds_in (bin_args p) cs)) ≡ true = ap is_some (args-known p cs f) in
    fits-Call (func.Arithmetic arithmetic.BinAt) (bin_args p) scope position.Plain ∙ rw (axis, step, from, known) refl

bin-kinds : (p : SeriesPlan) (cs : List Column) → result_kinds (bin_expr p) cs ≡ typed (bin_expr p) cs ∷ []
unfolding bin_expr
bin-kinds p cs = result-Call (func.Arithmetic arithmetic.BinAt) (bin_args p) cs

bin-is-key : (p : SeriesPlan) (cs : List Column) → FitBins p cs → has_kind is_key (kind_of (bin_expr p) cs) ≡ true
unfolding bin_expr has_kind
bin-is-key p cs f = rw (kind-Call (func.Arithmetic arithmetic.BinAt) (bin_args p) cs, args-known p cs f) (start-key p.from.kind p.step.kind f.stepped)

bin-item-fits : (p : SeriesPlan) (cs : List Column) → FitBins p cs → key_item_fits cs (bin_item p) ≡ true
unfolding key_item_fits bin_item fits_as has_its_names
bin-item-fits p cs f =
    let e = bin_expr p in
    let names : (1 == length (result_kinds e cs)) ≡ true = eq-eqb 1 (length (result_kinds e cs)) (sym (ap length (bin-kinds p cs))) in
    and_from (expr_fits e (scope_of cs) position.Plain && has_kind is_key (kind_of e cs)) (1 == length (result_kinds e cs))
    (and_from (expr_fits e (scope_of cs) position.Plain) (has_kind is_key (kind_of e cs)) (bin-fits p cs f) (bin-is-key p cs f)) names

-- The names are those of the series, the axis first.

bin-columns : (p : SeriesPlan) (cs : List Column) → named_columns (p.axis ∷ []) (result_kinds (bin_expr p) cs) ≡ record { name = p.axis; kind = typed (bin_expr p) cs } ∷ []
unfolding named_columns
bin-columns p cs = ap (λ (ks : List Kind). named_columns (p.axis ∷ []) ks) (bin-kinds p cs)

abbrev rest_names : SeriesPlan → List Column → List (List ℕ)
rest_names p cs = names_of (items_columns p.keys cs) ++ map (λ (i : SeriesItem). i.name) p.items

pub summary-columns : (p : SeriesPlan) (cs : List Column) → group_columns (summary_plan p) cs ≡ record { name = p.axis; kind = typed (bin_expr p) cs } ∷ (items_columns p.keys cs ++ items_columns (map group_item p.items) cs)
unfolding group_columns summary_plan bin_item items_columns
summary-columns p cs = ap (λ (ds : List Column). (ds ++ items_columns p.keys cs) ++ items_columns (map group_item p.items) cs) (bin-columns p cs)

names-append : (cs ds : List Column) → names_of (cs ++ ds) ≡ names_of cs ++ names_of ds
unfolding names_of
names-append cs ds = map-append (λ (c : Column). c.name) cs ds

first-name : (c : Column) (ds : List Column) → names_of (c ∷ ds) ≡ c.name ∷ names_of ds
unfolding names_of
first-name c ds = refl

summary-names : (p : SeriesPlan) (cs : List Column) → AreCalls p.items → names_of (group_columns (summary_plan p) cs) ≡ p.axis ∷ rest_names p cs
summary-names p cs c =
    ap names_of (summary-columns p cs)
    ∙ (first-name (record { name = p.axis; kind = typed (bin_expr p) cs }) (items_columns p.keys cs ++ items_columns (map group_item p.items) cs)
    ∙ ap (λ (ns : List (List ℕ)). p.axis ∷ ns)
    (names-append (items_columns p.keys cs) (items_columns (map group_item p.items) cs)
    ∙ ap (λ (ns : List (List ℕ)). names_of (items_columns p.keys cs) ++ ns) (columns-are p.items cs c)))

item-names : (items : List SeriesItem) → names_of (series_item_columns items) ≡ map (λ (i : SeriesItem). i.name) items
unfolding names_of series_item_columns
item-names [] = refl
item-names (i ∷ is) = ap (λ (ns : List (List ℕ)). i.name ∷ ns) (item-names is)

axis-name : (p : SeriesPlan) → names_of (record { name = p.axis; kind = kind.Dynamic } ∷ []) ≡ p.axis ∷ []
unfolding names_of
axis-name p = refl

series-names : (p : SeriesPlan) (cs : List Column) → names_of (series_columns p cs) ≡ rest_names p cs ++ p.axis ∷ []
unfolding series_columns
series-names p cs =
    let axis : List Column = record { name = p.axis; kind = kind.Dynamic } ∷ [] in
    names-append (items_columns p.keys cs) (series_item_columns p.items ++ axis)
    ∙ (ap (λ (ns : List (List ℕ)). names_of (items_columns p.keys cs) ++ ns) (names-append (series_item_columns p.items) axis ∙ ap₂ (λ (ns ms : List (List ℕ)). ns ++ ms) (item-names p.items) (axis-name p))
    ∙ sym (append_assoc (names_of (items_columns p.keys cs)) (map (λ (i : SeriesItem). i.name) p.items) (p.axis ∷ [])))

-- A name at the end may as well stand at the start.

or-none : (a b : Bool) → (a || b) ≡ false → (a ≡ false) × (b ≡ false)
or-none true b e = cc
or-none false b e = (refl, e)

not-true : (a : Bool) → not a ≡ true → a ≡ false
not-true true e = cc
not-true false e = refl

bytes-turned : (a b : List ℕ) → bytes_eq a b ≡ false → bytes_eq b a ≡ false
bytes-turned a b e = elim (cases_Bool (bytes_eq b a)) [
  | inl t ↦ let f : true ≡ false = sym ((bytes_eq-Decides a b).1 (sym ((bytes_eq-Decides b a).0 t))) ∙ e in cc
  | inr n ↦ n
]

among-last : (ns : List (List ℕ)) (a n : List ℕ) → is_name_among (ns ++ a ∷ []) n ≡ false → (is_name_among ns n ≡ false) × (bytes_eq a n ≡ false)
unfolding is_name_among
among-last [] a n e = (refl, (or-none (bytes_eq a n) false e).0)
among-last (m ∷ ns) a n e =
    let parts = or-none (bytes_eq m n) (list_any (λ k. bytes_eq k n) (ns ++ a ∷ [])) e in
    let rest = among-last ns a n parts.1 in
    (rw (parts.0, rest.0) refl, rest.1)

rotated : (ns : List (List ℕ)) (a : List ℕ) → are_distinct (ns ++ a ∷ []) ≡ true → (is_name_among ns a ≡ false) × (are_distinct ns ≡ true)
unfolding are_distinct is_name_among
rotated [] a e = (refl, refl)
rotated (n ∷ ns) a e =
    let parts = and_parts (not (is_name_among (ns ++ a ∷ []) n)) (are_distinct (ns ++ a ∷ [])) e in
    let here = among-last ns a n (not-true (is_name_among (ns ++ a ∷ []) n) parts.0) in
    let rest = rotated ns a parts.1 in
    (rw (bytes-turned a n here.1, rest.0) refl, rw (here.0, rest.1) refl)

names-distinct : (ns : List (List ℕ)) (a : List ℕ) → are_distinct (ns ++ a ∷ []) ≡ true → are_distinct (a ∷ ns) ≡ true
unfolding are_distinct
names-distinct ns a e = let r = rotated ns a e in rw (r.0, r.1) refl

-- Whether the series fits, as the operator's contract has it.
abbrev pub Fits : SeriesPlan → List Column → Type 0
Fits p cs = is_some (answer_if (series_fits p cs) (series_columns p cs)) ≡ true

told : (c : Bool) (cs : List Column) → is_some (columns_if c cs) ≡ true → c ≡ true
unfolding columns_if
told true cs e = refl
told false cs e = absurd cc

answered : (b : Bool) (cs : List Column) → is_some (answer_if b cs) ≡ true → (b ≡ true) × (are_distinct (names_of cs) ≡ true)
unfolding answer_if
answered b cs e =
    let parts = and_parts b (not (is_empty cs) && are_distinct (names_of cs)) (told (b && (not (is_empty cs) && are_distinct (names_of cs))) cs e) in
    (parts.0, (and_parts (not (is_empty cs)) (are_distinct (names_of cs)) parts.1).1)

pub series-part : (p : SeriesPlan) (cs : List Column) → Fits p cs → series_fits p cs ≡ true
series-part p cs e = (answered (series_fits p cs) (series_columns p cs) e).0

-- What the parts ask.
pub record FitParts (p : SeriesPlan) (cs : List Column) : Type 0 where
  pub bins : FitBins p cs
  pub items : list_all (series_item_fits cs) p.items ≡ true
  pub keys : list_all (key_item_fits cs) p.keys ≡ true

pub fit-parts : (p : SeriesPlan) (cs : List Column) → series_fits p cs ≡ true → FitParts p cs
unfolding series_fits
fit-parts p cs e =
    let parts = and_parts (bins_fit p cs) (list_all (series_item_fits cs) p.items && list_all (key_item_fits cs) p.keys) e in
    let each = and_parts (list_all (series_item_fits cs) p.items) (list_all (key_item_fits cs) p.keys) parts.1 in
    record { bins = bins-parts p cs parts.0; items = each.0; keys = each.1 }

plan-fits : (p : SeriesPlan) (cs : List Column) → FitParts p cs → summarize_fits (summary_plan p) cs ≡ true
unfolding summarize_fits summary_plan
plan-fits p cs f =
    and_from (list_all (group_item_fits cs) (map group_item p.items)) (list_all (key_item_fits cs) (bin_item p ∷ p.keys)) (group-items-fit cs p.items f.items)
    (and_from (key_item_fits cs (bin_item p)) (list_all (key_item_fits cs) p.keys) (bin-item-fits p cs f.bins) f.keys)

some-answer : (b : Bool) (c : Column) (cs : List Column) → b ≡ true → are_distinct (names_of (c ∷ cs)) ≡ true → is_some (answer_if b (c ∷ cs)) ≡ true
unfolding answer_if columns_if is_empty
some-answer b c cs e d = rw (e, d) refl

pub summary-fits : (p : SeriesPlan) (cs : List Column) → Fits p cs → is_some (answer_if (summarize_fits (summary_plan p) cs) (group_columns (summary_plan p) cs)) ≡ true
summary-fits p cs e =
    let all = answered (series_fits p cs) (series_columns p cs) e in
    let f = fit-parts p cs all.0 in
    let c = calls-of cs p.items f.items in
    let distinct : are_distinct (names_of (group_columns (summary_plan p) cs)) ≡ true = ap are_distinct (summary-names p cs c) ∙ names-distinct (rest_names p cs) p.axis (sym (ap are_distinct (series-names p cs)) ∙ all.1) in
    let is = summary-columns p cs in
    subst (λ (ds : List Column). is_some (answer_if (summarize_fits (summary_plan p) cs) ds) ≡ true) (sym is)
    (some-answer (summarize_fits (summary_plan p) cs) (record { name = p.axis; kind = typed (bin_expr p) cs }) (items_columns p.keys cs ++ items_columns (map group_item p.items) cs) (plan-fits p cs f) (sym (ap (λ (ds : List Column). are_distinct (names_of ds)) is) ∙ distinct))
