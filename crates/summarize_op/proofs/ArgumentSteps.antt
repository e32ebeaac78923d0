-- The values of arguments at all rows.
use Rattle.std.proofs.Common.{◌≡◌, ◌<◌, ◌≤◌, ◌+◌, ◌-◌, ◌++◌, ℕ, zero, suc, Bool, true, List, [], ◌∷◌, get_or, length, map, take, refl, ap, ap₂, sym, ◌∙◌, subst, arith}
use Rattle.std.specs.Prelude.{◌&&◌, None, Option, Some}
use Rattle.std.specs.List.{AllByRecursion, list_all, range_with_len}
use Rattle.std.proofs.lemmas.Bool.{and_parts}
use Rattle.std.proofs.lemmas.List.{map-append, take_more}
use Rattle.std.proofs.lemmas.List.Elements.{All-from_recursion}
use Rattle.std.proofs.lemmas.List.FromFn.{get_or-map-range_with_len, length-map-range_with_len}
use Rattle.kql_cells.specs.Table.{Grid}
use Rattle.kql_cells.specs.Values.{IsWellFormed}
use Rattle.kql_cells.specs.declared.schema.Column.{Column}
use Rattle.kql_cells.specs.declared.value.Kind.{Kind}
use Rattle.kql_cells.specs.declared.value.Value.{Value}
use Rattle.kql_cells.specs.declared.value.Value.TheVariants as value
use Rattle.kql_values.specs.Grids.{HaveLength, row_of}
use Rattle.kql_scalar_fns.specs.Arguments.{AreWellFormed}
use Rattle.kql_functions.specs.declared.aggregate.Aggregate.{Aggregate}
use Rattle.kql_bound.specs.declared.expr.BExpr.{BExpr}
use Rattle.kql_meaning.specs.declared.position.Position.TheVariants as position
use Rattle.kql_meaning.specs.Expressions.{kind_of, val, values_in}
use Rattle.kql_meaning.specs.FittingExpressions.{aggregate_takes, expr_fits, scope_of, takes_aggregate}
use Rattle.kql_meaning.specs.RowByRow.{is_plain}
use Rattle.kql_meaning.specs.Tables.{places, places_below}
use Rattle.kql_meaning.proofs.ExpressionFitLaws.{aggregate-checked}
use Rattle.kql_meaning.proofs.ListLaws.{every-map-range}
use Rattle.kql_meaning.proofs.PlainFitLaws.{plain_where_fits}
use Rattle.kql_fit_laws.specs.LawsOfExpressions.{FitsKnown, RecordsFit, no_steps}
use Rattle.kql_fit_laws.specs.LawsOfRows.{IsTable}
use Rattle.kql_fit_laws.proofs.ExpressionLaws.{expressions_keep}
use Rattle.kql_scalar.specs.Rows.{rows}
use Rattle.kql_scalar.specs.Scalar.{IsScalar, is_of_rows}
use Rattle.kql_scalar.proofs.ScalarFitLaws.{scalar_where_fits}
use Rattle.summarize_op.specs.Calls.{IsCall}
use Rattle.summarize_op.specs.Grouped.{AreFormed}
use Rattle.summarize_op.specs.Passes.{AreArguments, argument_column, argument_columns}

abbrev pub fits_plain : List Column → BExpr → Bool
fits_plain cs e = expr_fits e (scope_of cs) position.Plain

one-plain : (cs : List Column) (es : List BExpr) (i : ℕ) (e : BExpr) → list_all (fits_plain cs) es ≡ true → i < length es → e ≡ get_or es i e → fits_plain cs e ≡ true
one-plain cs [] i e h lt is = absurd (omega arith)
one-plain cs (x ∷ es) zero e h lt is = subst (λ (y : BExpr). fits_plain cs y ≡ true) (sym is) (and_parts (fits_plain cs x) (list_all (fits_plain cs) es) h).0
one-plain cs (x ∷ es) (suc i) e h lt is = one-plain cs es i e (and_parts (fits_plain cs x) (list_all (fits_plain cs) es) h).1 (omega (arith, lt)) is

plain-of-rows : is_of_rows position.Plain ≡ true
unfolding is_of_rows
plain-of-rows = refl

pub argument-scalar : (cs : List Column) (e : BExpr) → expr_fits e (scope_of cs) position.Plain ≡ true → IsScalar e
argument-scalar cs e h = scalar_where_fits e (scope_of cs) position.Plain plain-of-rows h

all-rows : (t : Grid) (n : ℕ) → n ≡ length t.lines → rows 0 n ≡ places t
unfolding rows places places_below
all-rows t n e = let same : n - 0 ≡ length t.lines = omega (arith, e) in ap (range_with_len 0) same

pub arguments-start : (t : Grid) → argument_columns [] t ≡ []
unfolding argument_columns
arguments-start t = refl

pub argument-down : (e : BExpr) (t : Grid) (n : ℕ) (v : List Value) → n ≡ length t.lines → v ≡ map (λ i. val e t i []) (rows 0 n) → v ≡ argument_column e t
unfolding argument_column
argument-down e t n v len is = is ∙ ap (map (λ i. val e t i [])) (all-rows t n len)

pub ruleset one_steps = (argument-scalar, argument-down)

pub arguments-step : (es : List BExpr) (t : Grid) (i : ℕ) (e : BExpr) (old new : List (List Value)) (v : List Value) → i < length es → e ≡ get_or es i e → old ≡ argument_columns (take i es) t → v ≡ argument_column e t → new ≡ old ++ v ∷ [] → new ≡ argument_columns (take (i + 1) es) t
unfolding argument_columns
arguments-step es t i e old new v lt is before value after =
    rw (take_more es i e lt, ← is, map-append (λ e. argument_column e t) (take i es) (e ∷ []), ← before, ← value) after

pub argument-plain : (cs : List Column) (es : List BExpr) (i : ℕ) (e : BExpr) → AreArguments cs es → i < length es → e ≡ get_or es i e → expr_fits e (scope_of cs) position.Plain ≡ true
argument-plain cs es i e h lt is = one-plain cs es i e h.each lt is

pub ruleset argument_steps = (argument-plain, arguments-start)

take-nil : (n : ℕ) → take {A = BExpr} n [] ≡ []
take-nil zero = refl
take-nil (suc n) = refl

pub all-taken : (n : ℕ) (es : List BExpr) → length es ≤ n → take n es ≡ es
all-taken n [] le = take-nil n
all-taken zero (e ∷ es) le = absurd (omega arith)
all-taken (suc n) (e ∷ es) le = ap (λ (xs : List BExpr). e ∷ xs) (all-taken n es (omega (arith, le)))

pub ruleset first_steps = (all-taken)

-- What the columns are.

pub arguments-long : (es : List BExpr) (t : Grid) → HaveLength (length t.lines) (argument_columns es t)
unfolding HaveLength argument_columns argument_column places places_below
arguments-long [] t = tt
arguments-long (e ∷ es) t = (length-map-range_with_len (λ i. val e t i []) 0 (length t.lines), arguments-long es t)

pub arguments-row : (es : List BExpr) (t : Grid) (i : ℕ) → i < length t.lines → row_of (argument_columns es t) i ≡ values_in es t i []
unfolding row_of argument_columns argument_column values_in places places_below
arguments-row [] t i lt = refl
arguments-row (e ∷ es) t i lt = ap₂ (λ (v : Value) (vs : List Value). v ∷ vs) (get_or-map-range_with_len (λ i. val e t i []) 0 (length t.lines) i i value.Null lt (omega arith)) (arguments-row es t i lt)

no-records : (columns : List Column) → RecordsFit columns []
no-records columns k d l = absurd (omega arith)

pub known-form : (o : Option Kind) (v : Value) → FitsKnown o v → IsWellFormed v
known-form None v h = absurd h
known-form (Some k) v h = h.1

column-formed : (e : BExpr) (t : Grid) → IsTable t → fits_plain t.columns e ≡ true → AreWellFormed (argument_column e t)
unfolding argument_column places places_below
column-formed e t h fits = record {
  each = All-from_recursion IsWellFormed (map (λ i. val e t i []) (range_with_len 0 (length t.lines)))
      (every-map-range IsWellFormed (λ i. val e t i []) 0 (length t.lines) (λ i low high. known-form (kind_of e t.columns) (val e t i []) (expressions_keep e position.Plain t i no_steps h (no-records t.columns) (λ x. omega (arith, high)) fits)));
}

columns-formed : (es : List BExpr) (t : Grid) → IsTable t → list_all (fits_plain t.columns) es ≡ true → AllByRecursion AreWellFormed (argument_columns es t)
unfolding argument_columns
columns-formed [] t h fits = tt
columns-formed (e ∷ es) t h fits =
    let parts = and_parts (fits_plain t.columns e) (list_all (fits_plain t.columns) es) fits in
    (column-formed e t h parts.0, columns-formed es t h parts.1)

pub arguments-formed : (es : List BExpr) (t : Grid) (vs : List (List Value)) → IsTable t → AreArguments t.columns es → vs ≡ argument_columns es t → AreFormed vs
arguments-formed es t vs h fits e = subst AreFormed (sym e) (record { each = All-from_recursion AreWellFormed (argument_columns es t) (columns-formed es t h fits.each) })

-- The arguments of a call.

call-arguments : (cs : List Column) (f : Aggregate) (args : List BExpr) → IsCall cs f args → (list_all (fits_plain cs) args ≡ true) × (aggregate_takes f args cs ≡ true)
call-arguments cs f args h =
    let b = and_parts (takes_aggregate position.Group f) (list_all (fits_plain cs) args && aggregate_takes f args cs) (sym (aggregate-checked f args (scope_of cs) position.Group) ∙ h.fits) in
    and_parts (list_all (fits_plain cs) args) (aggregate_takes f args cs) b.1

pub call-takes : (cs : List Column) (f : Aggregate) (args : List BExpr) → IsCall cs f args → aggregate_takes f args cs ≡ true
call-takes cs f args h = (call-arguments cs f args h).1

take-plain : (cs : List Column) (n : ℕ) (es : List BExpr) → list_all (fits_plain cs) es ≡ true → list_all (fits_plain cs) (take n es) ≡ true
take-plain cs zero es h = refl
take-plain cs (suc n) [] h = refl
take-plain cs (suc n) (e ∷ es) h =
    let parts = and_parts (fits_plain cs e) (list_all (fits_plain cs) es) h in
    rw (parts.0, take-plain cs n es parts.1) refl

pub first-arguments : (cs : List Column) (f : Aggregate) (args first : List BExpr) (n : ℕ) → IsCall cs f args → first ≡ take n args → AreArguments cs first
first-arguments cs f args first n h e = record { each = subst (λ (es : List BExpr). list_all (fits_plain cs) es ≡ true) (sym e) (take-plain cs n args (call-arguments cs f args h).0) }

all-plain : (cs : List Column) (es : List BExpr) → list_all (fits_plain cs) es ≡ true → list_all is_plain es ≡ true
all-plain cs [] h = refl
all-plain cs (e ∷ es) h =
    let parts = and_parts (fits_plain cs e) (list_all (fits_plain cs) es) h in
    let one : is_plain e ≡ true = plain_where_fits e (scope_of cs) parts.0 in
    rw one (all-plain cs es parts.1)

pub first-plain : (cs : List Column) (f : Aggregate) (args : List BExpr) (n : ℕ) → IsCall cs f args → list_all is_plain (take n args) ≡ true
first-plain cs f args n h = all-plain cs (take n args) (take-plain cs n args (call-arguments cs f args h).0)

pub args-plain : (cs : List Column) (f : Aggregate) (args : List BExpr) → IsCall cs f args → list_all is_plain args ≡ true
args-plain cs f args h = all-plain cs args (call-arguments cs f args h).0

pub args-fit : (cs : List Column) (f : Aggregate) (args : List BExpr) → IsCall cs f args → list_all (fits_plain cs) args ≡ true
args-fit cs f args h = (call-arguments cs f args h).0
