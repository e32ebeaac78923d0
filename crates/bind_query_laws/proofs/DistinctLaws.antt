-- A bound `distinct` is sound.
use Rattle.std.proofs.Common.{◌≡◌, ℕ, Bool, true, false, List, [], ◌∷◌, map, refl, sym, ap, ◌∙◌, subst}
use Rattle.std.specs.Prelude.{Ok, Option, None, Some, bytes_eq, find}
use Rattle.std.specs.List.{AllByRecursion}
use Rattle.kql_cells.specs.declared.schema.Column.{Column}
use Rattle.kql_functions.specs.Kinds.{is_dynamic}
use Rattle.kql_lexer.specs.declared.place.Place.{Place}
use Rattle.kql_bound.specs.declared.parts.BItem.{BItem}
use Rattle.kql_bound.specs.declared.parts.GroupPlan.{GroupPlan}
use Rattle.kql_bound.specs.declared.plan.Op.TheVariants as op
use Rattle.kql_meaning.specs.FittingOperators.{key_item_fits, summarize_fits}
use Rattle.kql_meaning.specs.Summarize.{group_columns}
use Rattle.kql_meaning.proofs.MemberLaws.{every-of-members, of-member}
use Rattle.kql_meaning.proofs.OperatorFitLaws.{op-Summarize}
use Rattle.kql_syntax.specs.declared.query.Distinct.{Distinct}
use Rattle.kql_syntax.specs.declared.query.Distinct.TheVariants as distinct
use Rattle.kql_syntax.specs.declared.tree.Name.{Name}
use Rattle.bind_expr.specs.Names.{text_of}
use Rattle.bind_expr.specs.declared.fault.BindFault.{BindFault}
use Rattle.bind_operators.specs.declared.bound.BoundOp.{BoundOp}
use Rattle.bind_operators.specs.declared.known.Known.{Known}
use Rattle.bind_operators.specs.declared.shape.Shape.{Shape}
use Rattle.bind_operators.specs.Faults.{each_bound, fault_if}
use Rattle.bind_operators.specs.Items.{column_item, names_twice}
use Rattle.bind_operators.specs.Known.{column_or_fault, column_wanted, is_constant_name}
use Rattle.bind_operators.specs.Places.{name_place}
use Rattle.bind_groups.specs.Summarize.{distinct_answer, distinct_bound, distinct_column, key_column}
use Rattle.bind_groups.proofs.EachLaws.{each-relates}
use Rattle.bind_groups.proofs.GroupNames.{columns-named, keys-once, named-once}
use Rattle.bind_query_laws.specs.Sound.{AreColumns, IsSoundKnown, IsSoundOp, read_known}
use Rattle.bind_query_laws.proofs.Frame.{after-ok, answer-sound, each-sound, no-fault, unless-ok}
use Rattle.bind_query_laws.proofs.GroupFrame.{IsKeyOf, column-found, column-key, found-column, map-all}

-- Key columns.

key-ok : (place : Place) (c d : Column) → key_column place c ≡ Ok d → (c ≡ d) × (is_dynamic d.kind ≡ false)
unfolding key_column
key-ok place c d e =
    let parts = unless-ok (fault_if (is_dynamic c.kind) 404 place) c d e in
    (parts.1, subst (λ (x : Column). is_dynamic x.kind ≡ false) parts.1 (no-fault (is_dynamic c.kind) 404 place parts.0))

wanted-or : (operator place : Place) (constant : Bool) (o : Option Column) (c : Column) → column_or_fault operator place constant o ≡ Ok c → o ≡ Some c
wanted-or operator place constant (Some d) c e = let same : d ≡ c = cc in ap (λ x. Some x) same
wanted-or operator place true None c e = absurd cc
wanted-or operator place false None c e = absurd cc

-- A column that is wanted is found by its name.
pub wanted-found : (operator : Place) (known : Known) (columns : List Column) (n : Name) (c : Column) → column_wanted operator known columns n ≡ Ok c → find (λ (d : Column). bytes_eq d.name (text_of n)) columns ≡ Some c
unfolding column_wanted
wanted-found operator known columns n c e =
    wanted-or operator (name_place n) (is_constant_name known.consts (text_of n)) (find (λ (d : Column). bytes_eq d.name (text_of n)) columns) c e

pub column-is-key : (operator : Place) (known : Known) (rows : Shape) (n : Name) (c : Column) → distinct_column operator known rows n ≡ Ok c → IsKeyOf rows.columns c
unfolding distinct_column
column-is-key operator known rows n c e =
    let first = after-ok (column_wanted operator known rows.columns n) (key_column (name_place n)) c e in
    let key = key-ok (name_place n) first.0 c first.2 in
    let found : find (λ (d : Column). bytes_eq d.name (text_of n)) rows.columns ≡ Some c = wanted-found operator known rows.columns n first.0 first.1 ∙ ap (λ (x : Column). Some x) key.0 in
    let name = (found-column rows.columns (text_of n) c found).2 in
    (subst (λ (m : List ℕ). find (λ (d : Column). bytes_eq d.name m) rows.columns ≡ Some c) (sym name) found, key.1)

-- All columns, none of them dynamic.
abbrev AreKept : List Column → List Column → Type 0
AreKept xs ys = (xs ≡ ys) × AllByRecursion (λ (c : Column). is_dynamic c.kind ≡ false) ys

kept-more : (star : Place) (x y : Column) (xs ys : List Column) → key_column star x ≡ Ok y → AreKept xs ys → AreKept (x ∷ xs) (y ∷ ys)
kept-more star x y xs ys e h =
    let key = key-ok star x y e in
    (ap (λ (c : Column). c ∷ xs) key.0 ∙ ap (λ (cs : List Column). y ∷ cs) h.0, (key.1, h.1))

star-kept : (star : Place) (xs ys : List Column) → each_bound (key_column star) xs ≡ Ok ys → AreKept xs ys
star-kept star xs ys e = each-relates (key_column star) AreKept (refl, tt) (kept-more star) xs ys e

all-keys : (columns : List Column) → AreColumns columns → AllByRecursion (λ (c : Column). is_dynamic c.kind ≡ false) columns → AllByRecursion (IsKeyOf columns) columns
all-keys columns names h =
    every-of-members (IsKeyOf columns) columns (λ c m. (column-found columns c names m, of-member (λ (d : Column). is_dynamic d.kind ≡ false) columns c h m))

keys-fit : (columns cs : List Column) → AllByRecursion (IsKeyOf columns) cs → AllByRecursion (λ (c : Column). key_item_fits columns (column_item c) ≡ true) cs
keys-fit columns [] h = tt
keys-fit columns (c ∷ cs) h = (column-key columns c h.0, keys-fit columns cs h.1)

-- The operator.

keyed-sound : (operator : Place) (known : Known) (inside : Bool) (rows : Shape) (faults : List BindFault) (cs : List Column) (b : BoundOp) → AllByRecursion (IsKeyOf rows.columns) cs → (faults ≡ [] → AreColumns cs) → distinct_answer operator rows faults cs ≡ Ok b → IsSoundOp known inside rows b
unfolding distinct_answer summarize_fits
keyed-sound operator known inside rows faults cs b keys once is =
    let items : List BItem = map column_item cs in
    let plan : GroupPlan = record { items = []; keys = items } in
    answer-sound known inside rows operator faults (op.Summarize plan) (group_columns plan rows.columns) false b
    (summarize_fits plan rows.columns)
    (op-Summarize plan (read_known known) inside rows.columns)
    (λ none. (map-all column_item (key_item_fits rows.columns) cs (keys-fit rows.columns cs keys), keys-once cs rows.columns [] items (once none) refl refl))
    is

pub distinct_sound : (operator : Place) (d : Distinct) (known : Known) (rows : Shape) (b : BoundOp) → IsSoundKnown known → AreColumns rows.columns → distinct_bound operator d known rows ≡ Ok b → (inside : Bool) → IsSoundOp known inside rows b
unfolding distinct_bound
distinct_sound operator (distinct.Star star) known rows b sound names is inside =
    let first = after-ok (each_bound (key_column star) rows.columns) (distinct_answer operator rows []) b is in
    let kept = star-kept star rows.columns first.0 first.1 in
    let plain : AllByRecursion (λ (c : Column). is_dynamic c.kind ≡ false) rows.columns = subst (AllByRecursion (λ (c : Column). is_dynamic c.kind ≡ false)) (sym kept.0) kept.1 in
    keyed-sound operator known inside rows [] first.0 b
    (subst (AllByRecursion (IsKeyOf rows.columns)) kept.0 (all-keys rows.columns names plain))
    (λ none. subst AreColumns kept.0 names)
    first.2
distinct_sound operator (distinct.Columns written) known rows b sound names is inside =
    let first = after-ok (each_bound (distinct_column operator known rows) written) (distinct_answer operator rows (names_twice [] written)) b is in
    keyed-sound operator known inside rows (names_twice [] written) first.0 b
    (each-sound (IsKeyOf rows.columns) (distinct_column operator known rows) written first.0 (column-is-key operator known rows) first.1)
    (λ none. named-once written first.0 (columns-named operator known rows written (Ok first.0) first.0 refl (record { holds = first.1 })) none)
    first.2
