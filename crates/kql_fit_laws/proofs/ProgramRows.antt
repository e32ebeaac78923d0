-- What sources, plans and programs that fit give.
use Rattle.std.proofs.Common.{◌≡◌, ℕ, zero, suc, false, List, [], ◌∷◌, ◌++◌, refl, sym, ◌∙◌, subst, inl, inr}
use Rattle.std.specs.Prelude.{fold, None, Option, Some, option_and_then, option_map, slice_get, slice_index_or}
use Rattle.kql_cells.specs.Table.{Grid}
use Rattle.kql_cells.specs.Catalogues.{Named}
use Rattle.kql_cells.specs.declared.schemas.NamedSchema.{NamedSchema}
use Rattle.kql_cells.specs.declared.schema.Column.{Column}
use Rattle.kql_bound.specs.declared.plan.Op.{Op}
use Rattle.kql_bound.specs.declared.plan.Plan.{Plan}
use Rattle.kql_meaning.specs.Fits.{Known, known_of, let_after, lets_columns, of_columns, ops_columns, plan_columns, program_columns, source_columns}
use Rattle.kql_meaning.specs.Plans.{World, lets_mean, means, plan_means, source_table}
use Rattle.kql_meaning.specs.Sources.{let_table}
use Rattle.kql_meaning.specs.Tables.{nothing}
use Rattle.kql_meaning.proofs.MemberLaws.{Member, contains-member, member-left, member-right}
use Rattle.kql_meaning.proofs.PlanLaws.{plan_means-out}
use Rattle.kql_meaning.proofs.OperatorFitLaws.{ops-fold, plan-out}
use Rattle.kql_fit_laws.proofs.PlanRows.{after_ops, ops-keep}
use Rattle.kql_fit_laws.specs.LawsOfPrograms.{LetKeeps, LetsStand, PartsKeepPlan, PlansKeepProgram, SourceKeeps, TableKeeps}
use Rattle.kql_fit_laws.specs.LawsOfRows.{IsTableOf, OpKeeps, PlanKeeps}

-- Tables and lets.

pub table_keeps : TableKeeps
unfolding source_columns source_table
table_keeps k w name stands columns e = stands.0 name columns e

let-at : (columns : List (List Column)) (ts : List Grid) (i : ℕ) (cs : List Column) → LetsStand columns ts → slice_get columns i ≡ Some cs → IsTableOf cs (slice_index_or ts i nothing)
let-at [] ts i cs h e = cc
let-at (c ∷ more) [] i cs h e = absurd h
let-at (c ∷ more) (t ∷ ts) zero cs h e = let same : c ≡ cs = cc in subst (λ (d : List Column). IsTableOf d t) same h.0
let-at (c ∷ more) (t ∷ ts) (suc i) cs h e = let-at more ts i cs h.1 e

pub let_keeps : LetKeeps
unfolding source_columns source_table let_table
let_keeps k w i stands columns e = let-at k.lets w.lets i columns stands.1 e

-- Plans.

from-source : (k : Known) (w : World) (p : Plan) (cs : List Column) → SourceKeeps k w p.source → ((o : Op) → Member o p.ops → OpKeeps k w o) → (o : Option (List Column)) → source_columns p.source k ≡ o → of_columns o (λ ds. ops_columns p.ops k false ds) ≡ Some cs → IsTableOf cs (after_ops p.ops w (source_table p.source w))
unfolding of_columns
from-source k w p cs source ops None e f = cc
from-source k w p cs source ops (Some ds) e f = ops-keep k w false p.ops ops (source_table p.source w) ds cs (source ds e) (sym (ops-fold p.ops k false ds) ∙ f)

pub parts_keep_plan : PartsKeepPlan
parts_keep_plan k w p source ops cs e =
    subst (IsTableOf cs) (sym (plan_means-out p w)) (from-source k w p cs source (λ o m. ops o (contains-member p.ops o m)) (source_columns p.source k) refl (sym (plan-out p k) ∙ e))

-- Programs.

pub lets-push : (columns : List (List Column)) (ts : List Grid) (c : List Column) (t : Grid) → LetsStand columns ts → IsTableOf c t → LetsStand (columns ++ c ∷ []) (ts ++ t ∷ [])
lets-push [] [] c t h k = (k, tt)
lets-push [] (u ∷ us) c t h k = absurd h
lets-push (d ∷ more) [] c t h k = absurd h
lets-push (d ∷ more) (u ∷ us) c t h k = (h.0, lets-push more us c t h.1 k)

-- The tables of further lets.
abbrev after_lets : List Named → List Plan → List Grid → List Grid
after_lets catalogue ps ts = fold (λ done p. done ++ plan_means p (record { tables = catalogue; lets = done }) ∷ []) ts ps

lost-lets : (tables : List NamedSchema) (ps : List Plan) → fold (let_after tables) None ps ≡ None
unfolding let_after
lost-lets tables [] = refl
lost-lets tables (p ∷ ps) = lost-lets tables ps

KeptPlans : List NamedSchema → List Named → List Plan → Type 0
KeptPlans tables catalogue ps = (p : Plan) → Member p ps → (ls : List (List Column)) (ts : List Grid) → LetsStand ls ts → PlanKeeps (known_of tables ls) (record { tables = catalogue; lets = ts }) p

let-next : (tables : List NamedSchema) (catalogue : List Named) (p : Plan) (ps : List Plan) (ls all : List (List Column)) (ts : List Grid) → LetsStand ls ts → PlanKeeps (known_of tables ls) (record { tables = catalogue; lets = ts }) p → ((ms : List (List Column)) (us : List Grid) → LetsStand ms us → fold (let_after tables) (Some ms) ps ≡ Some all → LetsStand all (after_lets catalogue ps us)) → (o : Option (List Column)) → plan_columns p (known_of tables ls) ≡ o → fold (let_after tables) (option_map (λ c. ls ++ c ∷ []) o) ps ≡ Some all → LetsStand all (after_lets catalogue ps (ts ++ plan_means p (record { tables = catalogue; lets = ts }) ∷ []))
let-next tables catalogue p ps ls all ts h keeps rest None e f = let none : None ≡ Some all = sym (lost-lets tables ps) ∙ f in cc
let-next tables catalogue p ps ls all ts h keeps rest (Some c) e f =
    let t = plan_means p (record { tables = catalogue; lets = ts }) in
    rest (ls ++ c ∷ []) (ts ++ t ∷ []) (lets-push ls ts c t h (keeps c e)) f

lets-keep : (tables : List NamedSchema) (catalogue : List Named) (ps : List Plan) (ls all : List (List Column)) (ts : List Grid) → KeptPlans tables catalogue ps → LetsStand ls ts → fold (let_after tables) (Some ls) ps ≡ Some all → LetsStand all (after_lets catalogue ps ts)
unfolding KeptPlans let_after
lets-keep tables catalogue [] ls all ts keeps h e = let same : ls ≡ all = cc in subst (λ ms. LetsStand ms ts) same h
lets-keep tables catalogue (p ∷ ps) ls all ts keeps h e =
    let-next tables catalogue p ps ls all ts h (keeps p (inl refl) ls ts h) (λ ms us s f. lets-keep tables catalogue ps ms all us (λ q m. keeps q (inr m)) s f) (plan_columns p (known_of tables ls)) refl e

main-keeps : (tables : List NamedSchema) (catalogue : List Named) (lets : List Plan) (main : Plan) (cs : List Column) → KeptPlans tables catalogue (lets ++ main ∷ []) → (o : Option (List (List Column))) → lets_columns lets tables ≡ o → option_and_then (λ ls. plan_columns main (known_of tables ls)) o ≡ Some cs → IsTableOf cs (plan_means main (record { tables = catalogue; lets = lets_mean lets catalogue }))
unfolding KeptPlans lets_columns lets_mean
main-keeps tables catalogue lets main cs keeps None e f = cc
main-keeps tables catalogue lets main cs keeps (Some ls) e f =
    let stand = lets-keep tables catalogue lets [] ls [] (λ q m. keeps q (member-left lets (main ∷ []) q m)) tt e in
    keeps main (member-right lets (main ∷ []) main (inl refl)) ls (lets_mean lets catalogue) stand cs f

pub plans_keep_program : PlansKeepProgram
unfolding KeptPlans program_columns means
plans_keep_program p catalogue tables keeps cs e =
    main-keeps p.tables catalogue p.lets p.main cs
    (λ q m ls ts h. keeps q (contains-member (p.lets ++ p.main ∷ []) q m) (known_of p.tables ls) (record { tables = catalogue; lets = ts }) (tables, h))
    (lets_columns p.lets p.tables) refl e

pub ruleset program_row_laws = (table_keeps, let_keeps, parts_keep_plan, plans_keep_program)
