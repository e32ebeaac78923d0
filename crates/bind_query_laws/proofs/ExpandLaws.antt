-- A bound `mv-expand` is sound.
use Rattle.std.proofs.Common.{◌≡◌, ℕ, Bool, true, List, [], ◌∷◌, length, map, refl, sym, ap, ◌∙◌, subst}
use Rattle.std.specs.Prelude.{Ok, Option}
use Rattle.std.specs.List.{list_all}
use Rattle.std.proofs.lemmas.Bool.{and_from}
use Rattle.std.proofs.lemmas.List.{length-map}
use Rattle.kql_cells.specs.declared.schema.Column.{Column}
use Rattle.kql_cells.specs.declared.value.Kind.{Kind}
use Rattle.kql_cells.specs.declared.value.Kind.TheVariants as kind
use Rattle.kql_functions.specs.Kinds.{same_kind}
use Rattle.kql_lexer.specs.declared.place.Place.{Place}
use Rattle.kql_bound.specs.declared.parts.Expand.{Expand as ExpandPlan}
use Rattle.kql_bound.specs.declared.parts.ExpandItem.{ExpandItem}
use Rattle.kql_bound.specs.declared.plan.Op.TheVariants as op
use Rattle.kql_meaning.specs.declared.position.Position.TheVariants as position
use Rattle.kql_meaning.specs.FittingExpressions.{takes_columns}
use Rattle.kql_meaning.specs.FittingOperators.{are_distinct, expand_fits, expand_item_fits, expand_names}
use Rattle.kql_meaning.specs.MvExpand.{expand_columns}
use Rattle.kql_meaning.proofs.OperatorFitLaws.{op-MvExpand}
use Rattle.kql_syntax.specs.declared.query.Expand.{Expand}
use Rattle.kql_syntax.specs.declared.query.ExpandKind.{ExpandKind}
use Rattle.bind_expr.specs.Outcome.{◌>>=◌}
use Rattle.bind_expr.specs.declared.scope.Scope.{Scope}
use Rattle.bind_expr.specs.declared.typed.Typed.{Typed}
use Rattle.bind_operators.specs.declared.bound.BoundOp.{BoundOp}
use Rattle.bind_operators.specs.declared.known.Known.{Known}
use Rattle.bind_operators.specs.declared.shape.Shape.{Shape}
use Rattle.bind_operators.specs.declared.wanted.Wanted.TheVariants as wanted
use Rattle.bind_operators.specs.Items.{given_name, names_or_own, one_name, twice}
use Rattle.bind_operators.specs.Known.{scope_at}
use Rattle.bind_operators.specs.Places.{item_start}
use Rattle.bind_operators.specs.Wanted.{kind_or, takes, typed_bound}
use Rattle.bind_groups.specs.MvExpand.{expand_faults, expand_part, expand_part_bound, expanded, expands_bound, is_array, mv_expand_bound, no_expands, with_expand}
use Rattle.bind_groups.specs.Names.{singles}
use Rattle.bind_groups.specs.declared.part.ExpandPart.{ExpandPart}
use Rattle.bind_groups.specs.declared.part.NamedExpands.{NamedExpands}
use Rattle.bind_groups.proofs.ExpandLaws.{expand-once}
use Rattle.bind_groups.proofs.NameSteps.{written-once}
use Rattle.bind_query_laws.specs.Sound.{AreColumns, IsSoundKnown, IsSoundOp, read_known}
use Rattle.bind_query_laws.proofs.Frame.{after-ok, answer-sound, fits-typed, ok-same, scope-sound, typed-sound}
use Rattle.bind_query_laws.proofs.GroupFrame.{all-push, apart-distinct, fold-keeps, one-more}

-- Items.

part-fits : (known : Known) (rows : Shape) → IsSoundKnown known → AreColumns rows.columns → (name : List ℕ) (x : Expand) (part : ExpandPart) → expand_part_bound (scope_at known rows position.Plain) x ≡ Ok part → expand_item_fits rows.columns (record { name = name; expr = part.typed.expr; to = part.to }) ≡ true
unfolding expand_part_bound expand_item_fits takes takes_columns
part-fits known rows sound names name x part is =
    let scope : Scope = scope_at known rows position.Plain in
    let first = after-ok (typed_bound (wanted.Is kind.Dynamic) x.item.value scope) (λ (t : Typed). kind_or kind.Dynamic x.to >>= λ to. Ok (expand_part t to)) part is in
    let next = after-ok (kind_or kind.Dynamic x.to) (λ (to : Kind). Ok (expand_part first.0 to)) part first.2 in
    let h = typed-sound (wanted.Is kind.Dynamic) x.item.value scope first.0 (scope-sound known rows position.Plain sound names) first.1 in
    subst (λ (p : ExpandPart). expand_item_fits rows.columns (record { name = name; expr = p.typed.expr; to = p.to }) ≡ true) (ok-same (expand_part first.0 next.0) part next.2)
    (fits-typed (same_kind kind.Dynamic) known rows position.Plain first.0 refl h.0 h.1)

abbrev AreWell : List Column → NamedExpands → Type 0
AreWell columns d = (list_all (expand_item_fits columns) d.items ≡ true) × (length d.places ≡ length d.items)

with-well : (columns : List Column) (x : Expand) (d : NamedExpands) (p : ExpandPart) → ((name : List ℕ) → expand_item_fits columns (record { name = name; expr = p.typed.expr; to = p.to }) ≡ true) → AreWell columns d → AreWell columns (with_expand d x.item p)
unfolding with_expand
with-well columns x d p fits h =
    let name : List ℕ = one_name (names_or_own d.next (given_name x.item) p.typed.expr) in
    let one : ExpandItem = record { name = name; expr = p.typed.expr; to = p.to } in
    (all-push (expand_item_fits columns) d.items one h.0 (fits name), one-more d.places (item_start x.item) d.items one h.1)

expands-well : (known : Known) (rows : Shape) (items : List Expand) (done : NamedExpands) → IsSoundKnown known → AreColumns rows.columns → expands_bound (scope_at known rows position.Plain) items ≡ Ok done → AreWell rows.columns done
unfolding expands_bound no_expands
expands-well known rows items done sound names is =
    let scope : Scope = scope_at known rows position.Plain in
    fold-keeps (AreWell rows.columns) (expand_part_bound scope) (λ (x : Expand) (d : NamedExpands) (p : ExpandPart). with_expand d x.item p)
    (λ x d p bound h. with-well rows.columns x d p (λ name. part-fits known rows sound names name x p bound) h)
    items (Ok no_expands) done
    (λ d e. subst (AreWell rows.columns) (ok-same no_expands d e) (refl, refl))
    is

-- Names.

abbrev name_of : ExpandItem → List ℕ
name_of i = i.name

singles-map : (items : List ExpandItem) → map (λ (i : ExpandItem). i.name ∷ []) items ≡ singles (map name_of items)
singles-map [] = refl
singles-map (i ∷ is) = ap (λ rest. (i.name ∷ []) ∷ rest) (singles-map is)

names-differ : (done : NamedExpands) → length done.places ≡ length done.items → expand_faults done ≡ [] → are_distinct (expand_names done.items) ≡ true
unfolding expand_faults expand_names
names-differ done even none =
    let told : twice [] done.places (singles (map name_of done.items)) ≡ [] = sym (ap (λ each. twice [] done.places each) (singles-map done.items)) ∙ none in
    apart-distinct (map name_of done.items) (written-once [] done.places (map name_of done.items) (even ∙ sym (length-map done.items name_of)) told).0

-- The operator.

pub mv_expand_sound : (operator : Place) (form : Option ExpandKind) (items : List Expand) (known : Known) (rows : Shape) (b : BoundOp) → IsSoundKnown known → AreColumns rows.columns → mv_expand_bound operator form items known rows ≡ Ok b → (inside : Bool) → IsSoundOp known inside rows b
unfolding mv_expand_bound expanded expand_fits
mv_expand_sound operator form items known rows b sound names is inside =
    let first = after-ok (expands_bound (scope_at known rows position.Plain) items) (expanded operator form rows) b is in
    let done : NamedExpands = first.0 in
    let plan : ExpandPlan = record { array = is_array form; items = done.items } in
    let well = expands-well known rows items done sound names first.1 in
    answer-sound known inside rows operator (expand_faults done) (op.MvExpand plan) (expand_columns plan rows.columns) rows.serial b
    (expand_fits plan rows.columns)
    (op-MvExpand plan (read_known known) inside rows.columns)
    (λ none. (
      and_from (list_all (expand_item_fits rows.columns) done.items) (are_distinct (expand_names done.items)) well.0 (names-differ done well.1 none),
      expand-once done plan rows.columns (expand_columns plan rows.columns) names well.1 none refl refl,
    ))
    first.2
