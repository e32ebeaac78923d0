-- Where the plans of a program become others.
use Rattle.std.proofs.Common.{◌≡◌, true, List, [], ◌∷◌, ◌++◌, refl, sym, ap, ◌∙◌, subst}
use Rattle.std.specs.Prelude.{Option, None, Some, fold, is_some, option_and_then, option_map}
use Rattle.std.proofs.lemmas.Bool.{and_parts}
use Rattle.kql_cells.specs.Catalogues.{schemas_of}
use Rattle.kql_cells.specs.Table.{Grid}
use Rattle.kql_cells.specs.Catalogues.{Named}
use Rattle.kql_cells.specs.declared.schemas.NamedSchema.{NamedSchema}
use Rattle.kql_cells.specs.declared.schema.Column.{Column}
use Rattle.kql_bound.specs.declared.plan.Plan.{Plan}
use Rattle.kql_bound.specs.declared.plan.Program.{Program}
use Rattle.kql_meaning.specs.Fits.{fits, known_of, let_after, lets_columns, plan_columns, program_columns, tables_stand}
use Rattle.kql_meaning.specs.Plans.{World, lets_mean, means, plan_means}
use Rattle.kql_fit_laws.proofs.FittingLaws.{all-stand}
use Rattle.kql_fit_laws.specs.LawsOfOperators.{EachPlanKeeps}
use Rattle.kql_fit_laws.specs.LawsOfPrograms.{LetsStand, TablesStand}
use Rattle.kql_fit_laws.specs.LawsOfRows.{IsTableOf}
use Rattle.plan_rules.specs.Becomes.{LetsBecome, PlanBecomes, ProgramBecomes}

lets-push : (columns : List (List Column)) (ts : List Grid) (c : List Column) (t : Grid) → LetsStand columns ts → IsTableOf c t → LetsStand (columns ++ c ∷ []) (ts ++ t ∷ [])
lets-push [] [] c t h k = (k, tt)
lets-push [] (u ∷ us) c t h k = absurd h
lets-push (d ∷ more) [] c t h k = absurd h
lets-push (d ∷ more) (u ∷ us) c t h k = (h.0, lets-push more us c t h.1 k)

lost-lets : (tables : List NamedSchema) (ps : List Plan) → fold (let_after tables) None ps ≡ None
unfolding let_after
lost-lets tables [] = refl
lost-lets tables (p ∷ ps) = lost-lets tables ps

abbrev world : List Named → List Grid → World
world catalogue ts = record { tables = catalogue; lets = ts }

abbrev after_lets : List Named → List Plan → List Grid → List Grid
after_lets catalogue ps ts = fold (λ done p. done ++ plan_means p (world catalogue done) ∷ []) ts ps

-- The columns of the lets are kept.

cols-next : (tables : List NamedSchema) (p q : Plan) (ps qs : List Plan) (ls all : List (List Column)) → PlanBecomes (known_of tables ls) p q → ((c : List Column) → plan_columns p (known_of tables ls) ≡ Some c → fold (let_after tables) (Some (ls ++ c ∷ [])) ps ≡ Some all → fold (let_after tables) (Some (ls ++ c ∷ [])) qs ≡ Some all) → (o : Option (List Column)) → plan_columns p (known_of tables ls) ≡ o → fold (let_after tables) (option_map (λ c. ls ++ c ∷ []) o) ps ≡ Some all → fold (let_after tables) (option_map (λ c. ls ++ c ∷ []) (plan_columns q (known_of tables ls))) qs ≡ Some all
unfolding let_after
cols-next tables p q ps qs ls all a rest None e f = let none : None ≡ Some all = sym (lost-lets tables ps) ∙ f in absurd cc
cols-next tables p q ps qs ls all a rest (Some c) e f =
    ap (λ (x : Option (List Column)). fold (let_after tables) (option_map (λ d. ls ++ d ∷ []) x) qs) (a.keeps c e).0 ∙ rest c e f

lets-columns : (tables : List NamedSchema) (ps qs : List Plan) (ls all : List (List Column)) → LetsBecome tables ls ps qs → fold (let_after tables) (Some ls) ps ≡ Some all → fold (let_after tables) (Some ls) qs ≡ Some all
unfolding let_after
lets-columns tables [] [] ls all a e = e
lets-columns tables [] (q ∷ qs) ls all a e = absurd a
lets-columns tables (p ∷ ps) [] ls all a e = absurd a
lets-columns tables (p ∷ ps) (q ∷ qs) ls all a e =
    cols-next tables p q ps qs ls all a.0 (λ c f g. lets-columns tables ps qs (ls ++ c ∷ []) all (a.1 c f) g) (plan_columns p (known_of tables ls)) refl e

-- And their tables.

LetTables : List Named → List Plan → List Plan → List Grid → List (List Column) → Type 0
LetTables catalogue ps qs ts all = (after_lets catalogue qs ts ≡ after_lets catalogue ps ts) × LetsStand all (after_lets catalogue ps ts)

let-next : EachPlanKeeps → (tables : List NamedSchema) (catalogue : List Named) → TablesStand tables catalogue → (p q : Plan) (ps qs : List Plan) (ls all : List (List Column)) (ts : List Grid) → LetsStand ls ts → PlanBecomes (known_of tables ls) p q → ((c : List Column) (us : List Grid) → plan_columns p (known_of tables ls) ≡ Some c → LetsStand (ls ++ c ∷ []) us → fold (let_after tables) (Some (ls ++ c ∷ [])) ps ≡ Some all → LetTables catalogue ps qs us all) → (o : Option (List Column)) → plan_columns p (known_of tables ls) ≡ o → fold (let_after tables) (option_map (λ c. ls ++ c ∷ []) o) ps ≡ Some all → LetTables catalogue (p ∷ ps) (q ∷ qs) ts all
unfolding let_after LetTables
let-next each tables catalogue stand p q ps qs ls all ts h a rest None e f = let none : None ≡ Some all = sym (lost-lets tables ps) ∙ f in absurd cc
let-next each tables catalogue stand p q ps qs ls all ts h a rest (Some c) e f =
    let k = known_of tables ls in
    let w = world catalogue ts in
    let t = plan_means p w in
    let r = rest c (ts ++ t ∷ []) e (lets-push ls ts c t h (each k w (stand, h) p c e)) f in
    (ap (λ (u : Grid). after_lets catalogue qs (ts ++ u ∷ [])) ((a.keeps c e).1 w (stand, h)) ∙ r.0, r.1)

let-tables : EachPlanKeeps → (tables : List NamedSchema) (catalogue : List Named) → TablesStand tables catalogue → (ps qs : List Plan) (ls all : List (List Column)) (ts : List Grid) → LetsBecome tables ls ps qs → LetsStand ls ts → fold (let_after tables) (Some ls) ps ≡ Some all → LetTables catalogue ps qs ts all
unfolding let_after LetTables
let-tables each tables catalogue stand [] [] ls all ts a h e = let same : ls ≡ all = cc in (refl, subst (λ ms. LetsStand ms ts) same h)
let-tables each tables catalogue stand [] (q ∷ qs) ls all ts a h e = absurd a
let-tables each tables catalogue stand (p ∷ ps) [] ls all ts a h e = absurd a
let-tables each tables catalogue stand (p ∷ ps) (q ∷ qs) ls all ts a h e =
    let-next each tables catalogue stand p q ps qs ls all ts h a.0 (λ c us f s g. let-tables each tables catalogue stand ps qs (ls ++ c ∷ []) all us (a.1 c f) s g) (plan_columns p (known_of tables ls)) refl e

-- The main plan.

pub main-columns : (p q : Program) → p.tables ≡ q.tables → LetsBecome p.tables [] p.lets q.lets → ((ls : List (List Column)) → lets_columns p.lets p.tables ≡ Some ls → PlanBecomes (known_of p.tables ls) p.main q.main) → (cs : List Column) → (o : Option (List (List Column))) → lets_columns p.lets p.tables ≡ o → option_and_then (λ ls. plan_columns p.main (known_of p.tables ls)) o ≡ Some cs → program_columns q ≡ Some cs
unfolding lets_columns program_columns
main-columns p q same lets main cs None e f = absurd cc
main-columns p q same lets main cs (Some ls) e f =
    let there : lets_columns q.lets q.tables ≡ Some ls = ap (λ ts. lets_columns q.lets ts) (sym same) ∙ lets-columns p.tables p.lets q.lets [] ls lets e in
    let here : plan_columns q.main (known_of q.tables ls) ≡ Some cs = ap (λ ts. plan_columns q.main (known_of ts ls)) (sym same) ∙ ((main ls e).keeps cs f).0 in
    ap (λ o. option_and_then (λ ls. plan_columns q.main (known_of q.tables ls)) o) there ∙ here

main-means : EachPlanKeeps → (p q : Program) (catalogue : List Named) → TablesStand p.tables catalogue → LetsBecome p.tables [] p.lets q.lets → ((ls : List (List Column)) → lets_columns p.lets p.tables ≡ Some ls → PlanBecomes (known_of p.tables ls) p.main q.main) → (cs : List Column) → (o : Option (List (List Column))) → lets_columns p.lets p.tables ≡ o → option_and_then (λ ls. plan_columns p.main (known_of p.tables ls)) o ≡ Some cs → means q catalogue ≡ means p catalogue
unfolding lets_columns lets_mean means LetTables
main-means each p q catalogue stand lets main cs None e f = absurd cc
main-means each p q catalogue stand lets main cs (Some ls) e f =
    let l = let-tables each p.tables catalogue stand p.lets q.lets [] ls [] lets tt e in
    ap (λ ts. plan_means q.main (world catalogue ts)) l.0 ∙ ((main ls e).keeps cs f).1 (world catalogue (lets_mean p.lets catalogue)) (stand, l.1)

some-of : (o : Option (List Column)) → is_some o ≡ true → (cs : List Column) × (o ≡ Some cs)
some-of None e = absurd cc
some-of (Some cs) e = (cs, refl)

pub program-becomes : EachPlanKeeps → (p q : Program) → p.tables ≡ q.tables → LetsBecome p.tables [] p.lets q.lets → ((ls : List (List Column)) → lets_columns p.lets p.tables ≡ Some ls → PlanBecomes (known_of p.tables ls) p.main q.main) → ProgramBecomes p q
unfolding fits program_columns
program-becomes each p q same lets main = record {
  tables = sym same;
  fitting = λ schemas e.
      let parts = and_parts (tables_stand p.tables schemas) (is_some (program_columns p)) e in
      let some = some-of (program_columns p) parts.1 in
      let there : tables_stand q.tables schemas ≡ true = ap (λ ts. tables_stand ts schemas) (sym same) ∙ parts.0 in
      let known : is_some (program_columns q) ≡ true = ap is_some (main-columns p q same lets main some.0 (lets_columns p.lets p.tables) refl some.1) in
      rw (there, known) refl;
  meaning = λ catalogue tables e.
      let parts = and_parts (tables_stand p.tables (schemas_of catalogue)) (is_some (program_columns p)) e in
      let some = some-of (program_columns p) parts.1 in
      main-means each p q catalogue (all-stand p.tables catalogue tables parts.0) lets main some.0 (lets_columns p.lets p.tables) refl some.1;
}
