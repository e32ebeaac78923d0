-- A bound `make-series` is sound.
use Rattle.std.proofs.Common.{◌≡◌, ℕ, Bool, true, false, List, ◌++◌, length, refl, subst}
use Rattle.std.specs.Prelude.{not, ◌&&◌, Ok, Option, None, Some}
use Rattle.std.specs.List.{list_all}
use Rattle.std.proofs.lemmas.Bool.{and_from}
use Rattle.kql_cells.specs.declared.schema.Column.{Column}
use Rattle.kql_cells.specs.declared.value.Kind.{Kind}
use Rattle.kql_cells.specs.declared.value.Kind.TheVariants as kind
use Rattle.kql_functions.specs.Kinds.{same_kind}
use Rattle.kql_lexer.specs.declared.place.Place.{Place}
use Rattle.kql_bound.specs.declared.literal.Lit.{Lit}
use Rattle.kql_bound.specs.declared.parts.SeriesItem.{SeriesItem}
use Rattle.kql_bound.specs.declared.parts.SeriesPlan.{SeriesPlan}
use Rattle.kql_bound.specs.declared.plan.Op.TheVariants as op
use Rattle.kql_meaning.specs.declared.position.Position.TheVariants as position
use Rattle.kql_meaning.specs.Expressions.{kind_of}
use Rattle.kql_meaning.specs.FittingExpressions.{expr_fits, has_kind, is_aggregate_call, is_kind, scope_of}
use Rattle.kql_meaning.specs.FittingOperators.{bins_fit, key_item_fits, series_fits, series_item_fits}
use Rattle.kql_meaning.specs.Literals.{is_of_kind, is_well_formed, literal_fits}
use Rattle.kql_meaning.specs.MakeSeries.{series_columns}
use Rattle.kql_meaning.specs.Values.{absent}
use Rattle.kql_meaning.proofs.OperatorFitLaws.{op-MakeSeries}
use Rattle.kql_syntax.specs.declared.query.MakeSeries.{MakeSeries}
use Rattle.kql_syntax.specs.declared.query.Series.{Series}
use Rattle.kql_syntax.specs.declared.tree.Expr.{Expr}
use Rattle.bind_expr.specs.Bound.{bound_expr}
use Rattle.bind_expr.specs.Outcome.{◌>>=◌}
use Rattle.bind_expr.specs.declared.scope.Scope.{Scope}
use Rattle.bind_expr.specs.declared.typed.Typed.{Typed}
use Rattle.bind_expr_laws.specs.Laws.{IsSound}
use Rattle.bind_expr_laws.proofs.BoundLaws.{bound-sound}
use Rattle.bind_expr_laws.proofs.Windows.{same-turned}
use Rattle.bind_operators.specs.declared.bound.BoundOp.{BoundOp}
use Rattle.bind_operators.specs.declared.items.NamedItems.{NamedItems}
use Rattle.bind_operators.specs.declared.known.Known.{Known}
use Rattle.bind_operators.specs.declared.shape.Shape.{Shape}
use Rattle.bind_operators.specs.declared.wanted.Wanted.TheVariants as wanted
use Rattle.bind_operators.specs.Faults.{fault_if}
use Rattle.bind_operators.specs.Items.{given_name, names_or_own, one_name}
use Rattle.bind_operators.specs.Known.{scope_at}
use Rattle.bind_operators.specs.Places.{item_start, name_place}
use Rattle.bind_operators.specs.Wanted.{constant_bound, takes}
use Rattle.bind_groups.specs.MakeSeries.{axis_bound, axis_over, bin_faults, default_bound, empty_bin, make_series_bound, no_series, series_answer, series_bound, series_call, series_part, series_part_bound, series_plan, series_twice, with_series}
use Rattle.bind_groups.specs.Summarize.{group_keys_bound}
use Rattle.bind_groups.specs.declared.part.NamedSeries.{NamedSeries}
use Rattle.bind_groups.specs.declared.part.SeriesPart.{SeriesPart}
use Rattle.bind_groups.proofs.SeriesNames.{series-once}
use Rattle.bind_query_laws.specs.Sound.{AreColumns, IsSoundKnown, IsSoundOp, read_known}
use Rattle.bind_query_laws.proofs.Frame.{after-ok, answer-sound, both-none, constant-sound, no-fault, not-false, ok-same, scope-sound, unless-ok}
use Rattle.bind_query_laws.proofs.GroupFrame.{all-push, fold-keeps, keys-even, keys-sound, one-more, same-self}

-- Defaults.

empty-fits : (k : Kind) → literal_fits (record { kind = k; value = empty_bin k }) ≡ true
unfolding literal_fits is_of_kind is_well_formed empty_bin absent
empty-fits kind.Bool = refl
empty-fits kind.Long = refl
empty-fits kind.Text = refl
empty-fits kind.Moment = refl
empty-fits kind.Span = refl
empty-fits kind.Dynamic = refl

-- It fits, and has the type of the item.
default-fits : (operator : Place) (known : Known) (rows : Shape) (k : Kind) (o : Option Expr) (l : Lit) → IsSoundKnown known → AreColumns rows.columns → default_bound operator known rows k o ≡ Ok l → (literal_fits l ≡ true) × (same_kind l.kind k ≡ true)
unfolding default_bound takes
default-fits operator known rows k None l sound names is =
    subst (λ (m : Lit). (literal_fits m ≡ true) × (same_kind m.kind k ≡ true)) (ok-same (record { kind = k; value = empty_bin k }) l is) (empty-fits k, same-self k)
default-fits operator known rows k (Some e) l sound names is =
    let h = constant-sound operator (wanted.Is k) known rows e l sound names is in
    (h.0, same-turned k l.kind h.1)

-- Items.

part-fits : (operator : Place) (known : Known) (rows : Shape) → IsSoundKnown known → AreColumns rows.columns → (name : List ℕ) (s : Series) (part : SeriesPart) → series_part_bound operator known rows s ≡ Ok part → series_item_fits rows.columns (record { name = name; expr = part.typed.expr; default = part.default }) ≡ true
unfolding series_part_bound series_call series_item_fits is_kind has_kind scope_at
part-fits operator known rows sound names name s part is =
    let scope : Scope = scope_at known rows position.Series in
    let first = after-ok (bound_expr s.item.value scope) (λ (t : Typed). series_call operator t >>= λ call. default_bound operator known rows call.kind s.default >>= λ d. Ok (series_part call d)) part is in
    let next = after-ok (series_call operator first.0) (λ (call : Typed). default_bound operator known rows call.kind s.default >>= λ d. Ok (series_part call d)) part first.2 in
    let call = unless-ok (fault_if (not (is_aggregate_call first.0.expr)) 403 operator) first.0 next.0 next.1 in
    let last = after-ok (default_bound operator known rows next.0.kind s.default) (λ (d : Lit). Ok (series_part next.0 d)) part next.2 in
    let t : Typed = next.0 in
    let h : IsSound scope t = subst (IsSound scope) call.1 (bound-sound s.item.value scope first.0 (scope-sound known rows position.Series sound names) first.1) in
    let is_call : is_aggregate_call t.expr ≡ true = subst (λ (u : Typed). is_aggregate_call u.expr ≡ true) call.1 (not-false (is_aggregate_call first.0.expr) (no-fault (not (is_aggregate_call first.0.expr)) 403 operator call.0)) in
    let d = default-fits operator known rows t.kind s.default last.0 sound names last.1 in
    let typed : is_kind last.0.kind (kind_of t.expr rows.columns) ≡ true = rw (h.kind) d.1 in
    subst (λ (p : SeriesPart). series_item_fits rows.columns (record { name = name; expr = p.typed.expr; default = p.default }) ≡ true) (ok-same (series_part t last.0) part last.2)
    (and_from (is_aggregate_call t.expr) (expr_fits t.expr (scope_of rows.columns) position.Series && (literal_fits last.0 && is_kind last.0.kind (kind_of t.expr rows.columns))) is_call
    (and_from (expr_fits t.expr (scope_of rows.columns) position.Series) (literal_fits last.0 && is_kind last.0.kind (kind_of t.expr rows.columns)) (h.series refl is_call)
    (and_from (literal_fits last.0) (is_kind last.0.kind (kind_of t.expr rows.columns)) d.0 typed)))

abbrev AreWell : List Column → NamedSeries → Type 0
AreWell columns d = (list_all (series_item_fits columns) d.items ≡ true) × (length d.places ≡ length d.items)

with-well : (columns : List Column) (s : Series) (d : NamedSeries) (p : SeriesPart) → ((name : List ℕ) → series_item_fits columns (record { name = name; expr = p.typed.expr; default = p.default }) ≡ true) → AreWell columns d → AreWell columns (with_series d s.item p)
unfolding with_series
with-well columns s d p fits h =
    let name : List ℕ = one_name (names_or_own d.next (given_name s.item) p.typed.expr) in
    let one : SeriesItem = record { name = name; expr = p.typed.expr; default = p.default } in
    (all-push (series_item_fits columns) d.items one h.0 (fits name), one-more d.places (item_start s.item) d.items one h.1)

series-well : (operator : Place) (known : Known) (rows : Shape) (items : List Series) (done : NamedSeries) → IsSoundKnown known → AreColumns rows.columns → series_bound operator known rows items ≡ Ok done → AreWell rows.columns done
unfolding series_bound no_series
series-well operator known rows items done sound names is =
    fold-keeps (AreWell rows.columns) (series_part_bound operator known rows) (λ (s : Series) (d : NamedSeries) (p : SeriesPart). with_series d s.item p)
    (λ s d p bound h. with-well rows.columns s d p (λ name. part-fits operator known rows sound names name s p bound) h)
    items (Ok no_series) done
    (λ d e. subst (AreWell rows.columns) (ok-same no_series d e) (refl, refl))
    is

-- The operator.

answer-is : (operator : Place) (known : Known) (inside : Bool) (rows : Shape) (place : Place) (done : NamedSeries) (axis : Column) (from to step : Lit) (keys : NamedItems) (b : BoundOp) → AreWell rows.columns done → list_all (key_item_fits rows.columns) keys.items ≡ true → length keys.places ≡ length keys.items → series_answer operator rows (series_twice done place axis.name keys) (series_plan done axis from to step keys) ≡ Ok b → IsSoundOp known inside rows b
unfolding series_answer series_fits bin_faults
answer-is operator known inside rows place done axis from to step keys b well by even is =
    let plan : SeriesPlan = series_plan done axis from to step keys in
    answer-sound known inside rows operator (series_twice done place axis.name keys ++ bin_faults operator rows plan) (op.MakeSeries plan) (series_columns plan rows.columns) false b
    (series_fits plan rows.columns)
    (op-MakeSeries plan (read_known known) inside rows.columns)
    (λ none.
    let two = both-none (series_twice done place axis.name keys) (bin_faults operator rows plan) none in
    let bins : bins_fit plan rows.columns ≡ true = not-false (bins_fit plan rows.columns) (no-fault (not (bins_fit plan rows.columns)) 414 operator two.1) in (
      and_from (bins_fit plan rows.columns) (list_all (series_item_fits rows.columns) done.items && list_all (key_item_fits rows.columns) keys.items) bins
          (and_from (list_all (series_item_fits rows.columns) done.items) (list_all (key_item_fits rows.columns) keys.items) well.0 by),
      series-once done place (axis_over axis from to step) keys rows.columns well.1 even two.0,
    ))
    is

pub make_series_sound : (operator : Place) (s : MakeSeries) (known : Known) (rows : Shape) (b : BoundOp) → IsSoundKnown known → AreColumns rows.columns → make_series_bound operator s known rows ≡ Ok b → (inside : Bool) → IsSoundOp known inside rows b
unfolding make_series_bound
make_series_sound operator s known rows b sound names is inside =
    let place : Place = name_place s.axis in
    let items = after-ok (series_bound operator known rows s.items) (λ (done : NamedSeries). axis_bound operator known rows s.axis >>= λ axis. constant_bound operator (wanted.Is axis.kind) known rows s.from >>= λ from. constant_bound operator (wanted.Is axis.kind) known rows s.to >>= λ to. constant_bound operator (wanted.StepOf axis.kind) known rows s.step >>= λ step. group_keys_bound known rows done.next s.keys >>= λ keys. series_answer operator rows (series_twice done place axis.name keys) (series_plan done axis from to step keys)) b is in
    let done : NamedSeries = items.0 in
    let named = after-ok (axis_bound operator known rows s.axis) (λ (axis : Column). constant_bound operator (wanted.Is axis.kind) known rows s.from >>= λ from. constant_bound operator (wanted.Is axis.kind) known rows s.to >>= λ to. constant_bound operator (wanted.StepOf axis.kind) known rows s.step >>= λ step. group_keys_bound known rows done.next s.keys >>= λ keys. series_answer operator rows (series_twice done place axis.name keys) (series_plan done axis from to step keys)) b items.2 in
    let axis : Column = named.0 in
    let begun = after-ok (constant_bound operator (wanted.Is axis.kind) known rows s.from) (λ (from : Lit). constant_bound operator (wanted.Is axis.kind) known rows s.to >>= λ to. constant_bound operator (wanted.StepOf axis.kind) known rows s.step >>= λ step. group_keys_bound known rows done.next s.keys >>= λ keys. series_answer operator rows (series_twice done place axis.name keys) (series_plan done axis from to step keys)) b named.2 in
    let from : Lit = begun.0 in
    let ended = after-ok (constant_bound operator (wanted.Is axis.kind) known rows s.to) (λ (to : Lit). constant_bound operator (wanted.StepOf axis.kind) known rows s.step >>= λ step. group_keys_bound known rows done.next s.keys >>= λ keys. series_answer operator rows (series_twice done place axis.name keys) (series_plan done axis from to step keys)) b begun.2 in
    let to : Lit = ended.0 in
    let stepped = after-ok (constant_bound operator (wanted.StepOf axis.kind) known rows s.step) (λ (step : Lit). group_keys_bound known rows done.next s.keys >>= λ keys. series_answer operator rows (series_twice done place axis.name keys) (series_plan done axis from to step keys)) b ended.2 in
    let step : Lit = stepped.0 in
    let keyed = after-ok (group_keys_bound known rows done.next s.keys) (λ (keys : NamedItems). series_answer operator rows (series_twice done place axis.name keys) (series_plan done axis from to step keys)) b stepped.2 in
    let keys : NamedItems = keyed.0 in
    answer-is operator known inside rows place done axis from to step keys b
    (series-well operator known rows s.items done sound names items.1)
    (keys-sound known rows done.next s.keys keys sound names keyed.1)
    (keys-even known rows done.next s.keys keys keyed.1)
    keyed.2
