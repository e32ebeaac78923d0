-- A bound `union` is sound.
use Rattle.std.proofs.Common.{◌≡◌, suc, Bool, true, false, List, [], ◌∷◌, ◌++◌, length, map, refl, ap, ◌∙◌, subst, inl, inr, arith}
use Rattle.std.specs.Prelude.{not, ◌||◌, Ok, Option, Some, bytes_eq, find}
use Rattle.std.specs.List.{AllByRecursion, list_all}
use Rattle.std.proofs.lemmas.Bool.{and_from, and_parts}
use Rattle.std.proofs.lemmas.Slice.Eq.{bytes_eq-Decides}
use Rattle.kql_cells.specs.Named.{column_name}
use Rattle.kql_cells.specs.declared.schema.Column.{Column}
use Rattle.kql_lexer.specs.declared.place.Place.{Place}
use Rattle.kql_bound.specs.declared.plan.Op.TheVariants as op
use Rattle.kql_meaning.specs.Expressions.{column_kind}
use Rattle.kql_meaning.specs.Fits.{all_columns, plans_columns, united_columns}
use Rattle.kql_meaning.specs.FittingExpressions.{has_kind, is_kind}
use Rattle.kql_meaning.specs.FittingOperators.{is_of_type_in, union_fits}
use Rattle.kql_meaning.specs.Tables.{distinct_by, has_column, is_name_among, names_of}
use Rattle.kql_meaning.specs.Union.{all_in_order, same_name, union_columns}
use Rattle.kql_meaning.proofs.MemberLaws.{Member, every-of-members, member-of-filter}
use Rattle.kql_meaning.proofs.OperatorFitLaws.{op-Union}
use Rattle.kql_meaning.proofs.TableLaws.{union_names_differ}
use Rattle.bind_operators.specs.declared.bound.BoundOp.{BoundOp}
use Rattle.bind_operators.specs.declared.bound.BoundPlan.{BoundPlan}
use Rattle.bind_operators.specs.declared.known.Known.{Known}
use Rattle.bind_operators.specs.declared.shape.Shape.{Shape}
use Rattle.bind_operators.specs.Faults.{fault_if}
use Rattle.bind_query.specs.Pipes.{BindsArg, UnionParts}
use Rattle.bind_query.specs.Union.{columns_behind, places_of, plan_of, stand_behind, table_clashes, tables_bound, union_bound, united}
use Rattle.bind_query.proofs.UnionSteps.{united-once}
use Rattle.bind_groups.proofs.EachLaws.{each-relates}
use Rattle.bind_query_laws.specs.Sound.{AreColumns, IsSoundOp, IsSoundPlan, read_known}
use Rattle.bind_query_laws.proofs.Frame.{after-ok, all-of, answer-ok, answer-sound, both-none, no-fault, not-false, not-true, true-or-false}
use Rattle.bind_query_laws.proofs.GroupFrame.{column-found, found-column, same-self}

-- Columns of the answer in the first table.

or-kind : (a b : Bool) → b ≡ true → not a || b ≡ true
or-kind true b e = e
or-kind false b e = refl

-- The column of its name is this one.
found-type : (c : Column) (columns : List Column) → find (λ (d : Column). bytes_eq d.name c.name) columns ≡ Some c → is_of_type_in c columns ≡ true
unfolding is_of_type_in is_kind has_kind
found-type c columns e =
    let q = found-column columns c.name c e in
    or-kind (has_column c.name columns) (is_kind c.kind (column_kind c.name columns)) (rw (q.1) (same-self c.kind))

-- Another column before it changes nothing.
type-behind : (c d : Column) (columns : List Column) → bytes_eq d.name c.name ≡ false → is_of_type_in c columns ≡ true → is_of_type_in c (d ∷ columns) ≡ true
unfolding is_of_type_in has_column is_name_among names_of column_kind
type-behind c d columns f e = rw f e

nothing-there : (c : Column) → is_of_type_in c [] ≡ true
unfolding is_of_type_in has_column is_name_among names_of
nothing-there c = refl

found-here : (d c : Column) (more : List Column) → d ≡ c → find (λ (x : Column). bytes_eq x.name c.name) (d ∷ more) ≡ Some c
found-here d c more e =
    let same : bytes_eq d.name c.name ≡ true = (bytes_eq-Decides d.name c.name).1 (ap column_name e) in
    rw same (ap (λ x. Some x) e)

type-of-first : (first more : List Column) (c : Column) → Member c (distinct_by same_name (first ++ more)) → is_of_type_in c first ≡ true
unfolding distinct_by same_name
type-of-first [] more c m = nothing-there c
type-of-first (d ∷ first) more c (inl e) = found-type c (d ∷ first) (found-here d c first e)
type-of-first (d ∷ first) more c (inr m) =
    let q = member-of-filter (λ (y : Column). not (bytes_eq d.name y.name)) (distinct_by same_name (first ++ more)) c m in
    type-behind c d first (not-true (bytes_eq d.name c.name) q.1) (type-of-first first more c q.0)

in-first : (inner : Bool) (first : List Column) (others : List (List Column)) → AreColumns first → (c : Column) → Member c (union_columns inner first others) → is_of_type_in c first ≡ true
unfolding union_columns
in-first true first others names c m =
    found-type c first (column-found first c names (member-of-filter (λ (d : Column). list_all (has_column d.name) others) first c m).0)
in-first false first others names c m = type-of-first first (all_in_order others) c m

-- And in the others.

all-at : {X : Type 0} (p : X → Bool) (xs : List X) (x : X) → Member x xs → list_all p xs ≡ true → p x ≡ true
all-at p [] x m e = absurd m
all-at p (y ∷ ys) x (inl s) e = subst (λ z. p z ≡ true) s (and_parts (p y) (list_all p ys) e).0
all-at p (y ∷ ys) x (inr m) e = all-at p ys x m (and_parts (p y) (list_all p ys) e).1

in-others : (columns : List Column) (others : List BoundPlan) → AllByRecursion (λ (p : BoundPlan). stand_behind columns p ≡ true) others → (c : Column) → Member c columns → list_all (is_of_type_in c) (map columns_behind others) ≡ true
in-others columns [] h c m = refl
in-others columns (p ∷ ps) h c m =
    and_from (is_of_type_in c p.after.columns) (list_all (is_of_type_in c) (map columns_behind ps))
    (all-at (λ (d : Column). is_of_type_in d p.after.columns) columns c m h.0)
    (in-others columns ps h.1 c m)

types-fit : (inner : Bool) (first : List Column) (others : List BoundPlan) → AreColumns first → AllByRecursion (λ (p : BoundPlan). stand_behind (union_columns inner first (map columns_behind others)) p ≡ true) others → union_fits (union_columns inner first (map columns_behind others)) (first ∷ map columns_behind others) ≡ true
unfolding union_fits
types-fit inner first others names h =
    let columns : List Column = union_columns inner first (map columns_behind others) in
    all-of (λ (c : Column). list_all (is_of_type_in c) (first ∷ map columns_behind others)) columns
    (every-of-members (λ (c : Column). list_all (is_of_type_in c) (first ∷ map columns_behind others) ≡ true) columns
    (λ c m. and_from (is_of_type_in c first) (list_all (is_of_type_in c) (map columns_behind others)) (in-first inner first (map columns_behind others) names c m) (in-others columns others h c m)))

-- Tables.

-- Each place has its table.
clashes-none : (columns : List Column) (places : List Place) (others : List BoundPlan) → length places ≡ length others → table_clashes columns places others ≡ [] → AllByRecursion (λ (p : BoundPlan). stand_behind columns p ≡ true) others
unfolding table_clashes
clashes-none columns places [] even none = tt
clashes-none columns [] (p ∷ ps) even none = absurd (omega (arith, even))
clashes-none columns (place ∷ places) (p ∷ ps) even none =
    let two = both-none (fault_if (not (stand_behind columns p)) 415 place) (table_clashes columns places ps) none in
    (not-false (stand_behind columns p) (no-fault (not (stand_behind columns p)) 415 place two.0), clashes-none columns places ps (omega (arith, even)) two.1)

plans-fit : (known : Known) (others : List BoundPlan) → AllByRecursion (IsSoundPlan known) others → plans_columns (map plan_of others) (read_known known) ≡ Some (map columns_behind others)
unfolding plans_columns all_columns
plans-fit known [] h = refl
plans-fit known (p ∷ ps) h = rw (h.0.fits) (rw (plans-fit known ps h.1) refl)

-- Rows united with those of tables that are sound.
pub united_sound : (operator : Place) (known : Known) (inside inner : Bool) (rows : Shape) (places : List Place) (others : List BoundPlan) (b : BoundOp) → AreColumns rows.columns → AllByRecursion (IsSoundPlan known) others → length places ≡ length others → united operator inside inner rows places others ≡ Ok b → IsSoundOp known inside rows b
unfolding united united_columns
united_sound operator known true inner rows places others b names sound even is =
    let columns : List Column = union_columns inner rows.columns (map columns_behind others) in
    let parts = answer-ok operator (fault_if true 416 operator ++ table_clashes columns places others) (op.Union inner (map plan_of others)) columns false b is in
    true-or-false true refl (no-fault true 416 operator (both-none (fault_if true 416 operator) (table_clashes columns places others) parts.0).0)
united_sound operator known false inner rows places others b names sound even is =
    let columns : List Column = union_columns inner rows.columns (map columns_behind others) in
    answer-sound known false rows operator (fault_if false 416 operator ++ table_clashes columns places others) (op.Union inner (map plan_of others)) columns false b
    (union_fits columns (rows.columns ∷ map columns_behind others))
    (op-Union inner (map plan_of others) (read_known known) rows.columns ∙ ap (λ (cs : Option (List (List Column))). united_columns inner rows.columns cs) (plans-fit known others sound))
    (λ none. (
      types-fit inner rows.columns others names (clashes-none columns places others even (both-none (fault_if false 416 operator) (table_clashes columns places others) none).1),
      united-once inner rows.columns columns (map columns_behind others) union_names_differ names refl,
    ))
    is

-- The tables of a union, each of which is sound where it is bound.
abbrev pub SoundArg : Known → Bool → BindsArg → Type 0
SoundArg known inside t = (p : BoundPlan) → t.1 known inside ≡ Ok p → IsSoundPlan known p

abbrev AreTables : Known → Bool → List BindsArg → List BoundPlan → Type 0
AreTables known inside ts ps = AllByRecursion (SoundArg known inside) ts → AllByRecursion (IsSoundPlan known) ps × (length (places_of ts) ≡ length ps)

pub tables-sound : (known : Known) (inside : Bool) (tables : List BindsArg) (others : List BoundPlan) → AllByRecursion (SoundArg known inside) tables → tables_bound tables known inside ≡ Ok others → AllByRecursion (IsSoundPlan known) others × (length (places_of tables) ≡ length others)
unfolding tables_bound
tables-sound known inside tables others sound is =
    each-relates (λ (t : BindsArg). t.1 known inside) (AreTables known inside) (λ s. (tt, refl))
    (λ t p ts ps e h s. let rest = h s.1 in ((s.0 p e, rest.0), ap suc rest.1))
    tables others is sound

pub union_sound : (operator : Place) (u : UnionParts) (known : Known) (inside : Bool) (rows : Shape) (b : BoundOp) → AreColumns rows.columns → AllByRecursion (SoundArg known inside) u.1 → union_bound operator u known inside rows ≡ Ok b → IsSoundOp known inside rows b
unfolding union_bound
union_sound operator u known inside rows b names sound is =
    let first = after-ok (tables_bound u.1 known inside) (λ (others : List BoundPlan). united operator inside u.0 rows (places_of u.1) others) b is in
    let tables = tables-sound known inside u.1 first.0 sound first.1 in
    united_sound operator known inside u.0 rows (places_of u.1) first.0 b names tables.0 tables.1 first.2
