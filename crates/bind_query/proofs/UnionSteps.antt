-- The columns and the plans of a union.
use Rattle.std.proofs.Common.{◌≡◌, ◌≢◌, List, [], ◌∷◌, ◌++◌, length, map, arith, refl, sym, ap, ◌∙◌, subst, append-nil, append_assoc}
use Rattle.std.specs.Prelude.{Bool, true, false, Ok, Err, reverse}
use Rattle.std.specs.List.{list_all}
use Rattle.std.proofs.lemmas.List.{map-append, reverse-append}
use Rattle.std.proofs.lemmas.List.Kept.{AllPairs-filter}
use Rattle.kql_bound.specs.declared.plan.Plan.{Plan}
use Rattle.kql_cells.specs.Named.{HasDistinctNames, column_name}
use Rattle.kql_cells.specs.declared.schema.Column.{Column}
use Rattle.kql_meaning.specs.LawsOfTables.{UnionNamesDiffer}
use Rattle.kql_meaning.specs.Tables.{has_column}
use Rattle.kql_meaning.specs.Union.{union_columns}
use Rattle.kql_lexer.specs.declared.place.Place.{Place}
use Rattle.kql_syntax.specs.declared.query.TableArg.{TableArg}
use Rattle.bind_expr.specs.Outcome.{Outcome}
use Rattle.bind_expr.specs.declared.fault.BindFault.TheVariants as fault
use Rattle.bind_operators.specs.declared.bound.BoundPlan.{BoundPlan}
use Rattle.bind_operators.specs.Faults.{fault_if, unless}
use Rattle.bind_query.specs.Operators.{arg_place}
use Rattle.bind_query.specs.Union.{plan_of, stand_behind, table_clashes}

-- Names.

union-differ : (inner : Bool) (first : List Column) (others : List (List Column)) → UnionNamesDiffer → HasDistinctNames column_name first → HasDistinctNames column_name (union_columns inner first others)
unfolding union_columns
union-differ true first others law h = AllPairs-filter (λ x y. column_name x ≢ column_name y) (λ (c : Column). list_all (has_column c.name) others) first h
union-differ false first others law h = law first others

pub united-once : (inner : Bool) (first made : List Column) (others : List (List Column)) → UnionNamesDiffer → HasDistinctNames column_name first → made ≡ union_columns inner first others → HasDistinctNames column_name made
united-once inner first made others law h same = subst (HasDistinctNames column_name) (sym same) (union-differ inner first others law h)

pub ruleset name_steps = (united-once)

-- Tables with columns of other types.

abbrev first_of : List Column → List TableArg → List BoundPlan → Outcome (Unit {0})
first_of columns tables others = unless {X = Unit {0}} (table_clashes columns (map arg_place tables) others) tt

pub clash-here : (columns : List Column) (t : TableArg) (ts : List TableArg) (p : BoundPlan) (ps : List BoundPlan) (place : Place) → stand_behind columns p ≡ false → place ≡ arg_place t → first_of columns (t ∷ ts) (p ∷ ps) ≡ Err (fault.Refused 415 place)
unfolding table_clashes unless fault_if
clash-here columns t ts p ps place f at = rw f (ap (λ at. Err (fault.Refused 415 at)) (sym at))

pub clash-next : (columns : List Column) (t : TableArg) (ts : List TableArg) (p : BoundPlan) (ps : List BoundPlan) → stand_behind columns p ≡ true → first_of columns (t ∷ ts) (p ∷ ps) ≡ first_of columns ts ps
unfolding table_clashes unless fault_if
clash-next columns t ts p ps e = rw e refl

pub no-clash : (columns : List Column) (tables : List TableArg) (others : List BoundPlan) → length tables ≡ 0 → first_of columns tables others ≡ Ok tt
unfolding table_clashes unless
no-clash columns [] others e = refl
no-clash columns (t ∷ ts) others e = absurd (omega (arith, e))

pub no-other : (columns : List Column) (tables : List TableArg) (others : List BoundPlan) → length others ≡ 0 → first_of columns tables others ≡ Ok tt
unfolding table_clashes unless
no-other columns [] others e = refl
no-other columns (t ∷ ts) [] e = refl
no-other columns (t ∷ ts) (p ∷ ps) e = absurd (omega (arith, e))

pub ruleset clash_steps = (clash-here, clash-next, no-clash, no-other)

-- Plans, taken from the end.

pub plans-start : (others : List BoundPlan) (made : List Plan) → made ≡ [] → map plan_of others ++ reverse made ≡ map plan_of others
plans-start others made is = rw is (append-nil (map plan_of others))

pub plans-turn : (before left : List BoundPlan) (p : BoundPlan) (made more : List Plan) (all : List Plan) → before ≡ left ++ p ∷ [] → more ≡ made ++ p.plan ∷ [] → map plan_of before ++ reverse made ≡ all → map plan_of left ++ reverse more ≡ all
plans-turn before left p made more all is added h =
    ap (λ (ps : List Plan). map plan_of left ++ reverse ps) added
    ∙ (ap (λ (ps : List Plan). map plan_of left ++ ps) (reverse-append made (p.plan ∷ []))
    ∙ (sym (append_assoc (map plan_of left) (p.plan ∷ []) (reverse made))
    ∙ (ap (λ (ps : List Plan). ps ++ reverse made) (sym (map-append plan_of left (p ∷ [])) ∙ ap (map plan_of) (sym is))
    ∙ h)))

pub plans-end : (left : List BoundPlan) (made done : List Plan) (all : List Plan) → left ≡ [] → done ≡ reverse made → map plan_of left ++ reverse made ≡ all → done ≡ all
plans-end left made done all none is h = is ∙ (ap (λ (ps : List BoundPlan). map plan_of ps ++ reverse made) (sym none) ∙ h)

pub ruleset plan_steps = (plans-start, plans-turn, plans-end)
