-- Lets, one after another, and the plan behind them.
use Rattle.std.proofs.Common.{◌≡◌, Bool, true, List, [], ◌∷◌, ◌++◌, reverse, refl, sym, ap, ◌∙◌}
use Rattle.std.specs.Prelude.{None, Option, Some, fold, is_some, option_and_then, option_map}
use Rattle.std.proofs.lemmas.List.{reverse-append}
use Rattle.kql_cells.specs.Catalogues.{Named}
use Rattle.kql_cells.specs.Table.{Grid}
use Rattle.kql_cells.specs.declared.schema.Column.{Column}
use Rattle.kql_cells.specs.declared.schemas.NamedSchema.{NamedSchema}
use Rattle.kql_bound.specs.declared.plan.Plan.{Plan}
use Rattle.kql_meaning.specs.Fits.{known_of, let_after, plan_columns}
use Rattle.kql_meaning.specs.Plans.{plan_means}
use Rattle.kql_fit_laws.proofs.OperatorLaws.{each_plan_keeps}
use Rattle.kql_fit_laws.proofs.ProgramRows.{lets-push}
use Rattle.kql_plain.specs.AtHand.{FitBehind, IsSo, PlanFits, means_behind, with_lets, world_of}

-- The tables of lets, and what a plan means behind them.

pub no-lets : (tables : List Named) (made : List Grid) → with_lets [] tables made ≡ made
unfolding with_lets
no-lets tables made = refl

pub one-let : (p : Plan) (ps : List Plan) (tables : List Named) (made : List Grid) → with_lets (p ∷ ps) tables made ≡ with_lets ps tables (made ++ plan_means p (world_of tables made) ∷ [])
unfolding with_lets
one-let p ps tables made = refl

pub behind-none : (main : Plan) (tables : List Named) (made : List Grid) → means_behind [] main tables made ≡ plan_means main (world_of tables made)
unfolding means_behind with_lets
behind-none main tables made = refl

pub behind-one : (p : Plan) (ps : List Plan) (main : Plan) (tables : List Named) (made : List Grid) → means_behind (p ∷ ps) main tables made ≡ means_behind ps main tables (made ++ plan_means p (world_of tables made) ∷ [])
unfolding means_behind with_lets
behind-one p ps main tables made = refl

pub all-behind : (left : List Plan) (main : Plan) (tables : List Named) (made : List Grid) (all : Grid) → left ≡ [] → means_behind left main tables made ≡ all → plan_means main (world_of tables made) ≡ all
all-behind left main tables made all none rest = sym (ap (λ (ps : List Plan). means_behind ps main tables made) none ∙ behind-none main tables made) ∙ rest

-- One none stays.
lost-lets : (tables : List NamedSchema) (ps : List Plan) → fold (let_after tables) None ps ≡ None
unfolding let_after
lost-lets tables [] = refl
lost-lets tables (p ∷ ps) = lost-lets tables ps

-- Where lets and the plan behind them fit, the first let does, and the others and the plan do behind it.

parted : (p : Plan) (ps : List Plan) (main : Plan) (tables : List Named) (made : List Grid) (schemas : List NamedSchema) (columns : List (List Column)) → IsSo (known_of schemas columns) (world_of tables made) → (o : Option (List Column)) → plan_columns p (known_of schemas columns) ≡ o → is_some (option_and_then (λ ls. plan_columns main (known_of schemas ls)) (fold (let_after schemas) (option_map (λ cs. columns ++ cs ∷ []) o) ps)) ≡ true → PlanFits p (world_of tables made) × FitBehind ps main tables (made ++ plan_means p (world_of tables made) ∷ [])
unfolding PlanFits FitBehind
parted p ps main tables made schemas columns s None e f =
    let gone : is_some {T = List Column} None ≡ true = sym (ap (λ (o : Option (List (List Column))). is_some (option_and_then (λ ls. plan_columns main (known_of schemas ls)) o)) (lost-lets schemas ps)) ∙ f in
    absurd cc
parted p ps main tables made schemas columns s (Some cs) e f =
    let keeps = each_plan_keeps (known_of schemas columns) (world_of tables made) s.0 p cs e in
    let pushed = lets-push columns made cs (plan_means p (world_of tables made)) s.0.1 keeps in
    ((known_of schemas columns, s, ap is_some e), (schemas, columns ++ cs ∷ [], ((s.0.0, pushed), s.1), f))

both-fit : (p : Plan) (ps : List Plan) (main : Plan) (tables : List Named) (made : List Grid) → FitBehind (p ∷ ps) main tables made → PlanFits p (world_of tables made) × FitBehind ps main tables (made ++ plan_means p (world_of tables made) ∷ [])
unfolding FitBehind let_after
both-fit p ps main tables made f = parted p ps main tables made f.0 f.1 f.2 (plan_columns p (known_of f.0 f.1)) refl f.3

pub let-fits : (p : Plan) (ps : List Plan) (main : Plan) (tables : List Named) (made : List Grid) → FitBehind (p ∷ ps) main tables made → PlanFits p (world_of tables made)
let-fits p ps main tables made f = (both-fit p ps main tables made f).0

pub others-fit : (p : Plan) (ps : List Plan) (main : Plan) (tables : List Named) (made : List Grid) → FitBehind (p ∷ ps) main tables made → FitBehind ps main tables (made ++ plan_means p (world_of tables made) ∷ [])
others-fit p ps main tables made f = (both-fit p ps main tables made f).1

pub main-fits : (main : Plan) (tables : List Named) (made : List Grid) → FitBehind [] main tables made → PlanFits main (world_of tables made)
unfolding FitBehind PlanFits
main-fits main tables made f = (known_of f.0 f.1, f.2, f.3)

-- Flags that stand from the last one.

pub flag-there : (old new : List Bool) (flag b : Bool) (bs : List Bool) → old ≡ new ++ flag ∷ [] → reverse old ≡ b ∷ bs → (flag ≡ b) × (reverse new ≡ bs)
flag-there old new flag b bs is e =
    let same : flag ∷ reverse new ≡ b ∷ bs = sym (ap reverse is ∙ reverse-append new (flag ∷ [])) ∙ e in
    (cc, cc)

pub flag-gone : (old new : List Bool) (flag b : Bool) (bs : List Bool) → old ≡ [] → reverse old ≡ b ∷ bs → (flag ≡ b) × (reverse new ≡ bs)
flag-gone old new flag b bs is e = let none : [] ≡ b ∷ bs = sym (ap reverse is) ∙ e in absurd cc
