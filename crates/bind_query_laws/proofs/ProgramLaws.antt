-- A bound program fits, where the operators over groups and tables are sound.
use Rattle.std.proofs.Common.{◌≡◌, List, [], ◌∷◌, ◌++◌, refl, sym, ap, ◌∙◌, subst, map}
use Rattle.std.specs.Prelude.{true, false, Ok, Option, Some, is_some, option_and_then}
use Rattle.std.specs.List.{list_all}
use Rattle.std.proofs.lemmas.Bool.{and_from, and_parts}
use Rattle.std.proofs.lemmas.List.{map-append}
use Rattle.std.proofs.lemmas.Grind.{flat_map-append}
use Rattle.kql_cells.specs.declared.schemas.NamedSchema.{NamedSchema}
use Rattle.kql_cells.specs.declared.schema.Column.{Column}
use Rattle.kql_bound.specs.declared.plan.Plan.{Plan}
use Rattle.kql_bound.specs.declared.plan.Program.{Program}
use Rattle.kql_meaning.specs.Fits.{fits, known_of, lets_columns, plan_columns, program_columns, tables_stand}
use Rattle.kql_meaning.proofs.MemberLaws.{Member, member-left, member-right}
use Rattle.bind_expr.specs.Outcome.{◌>>=◌}
use Rattle.bind_operators.specs.declared.bound.BoundPlan.{BoundPlan}
use Rattle.bind_query.specs.declared.bound.BoundStatements.{BoundStatements}
use Rattle.bind_query.specs.Bound.{bound, known_at_first, lets_bound, program_of}
use Rattle.bind_query.specs.Operators.{pipe_bound}
use Rattle.bind_query.specs.TablesRead.{TableNames, all_of, plan_tables, tables_read}
use Rattle.bind_query_laws.specs.Laws.{BoundFits}
use Rattle.kql_parser_laws.specs.Patterns.{has_patterns, let_patterns, pipe_patterns}
use Rattle.bind_query_laws.specs.Sound.{IsSoundPlan, columns_of_let, read_known}
use Rattle.bind_query_laws.proofs.Frame.{after-ok, ok-same}
use Rattle.bind_query_laws.proofs.LetLaws.{IsSoundStatements, lets_sound}
use Rattle.bind_query_laws.proofs.ReadLaws.{read-agrees, same-all-lets, same-plan, tables-stand}
use Rattle.bind_query_laws.proofs.TreeLaws.{SoundOthers, pipe_sound}

-- The tables of the lets and of the last pipe.
names-both : (lets : List Plan) (main : Plan) → all_of (map plan_tables (lets ++ main ∷ [])) ≡ all_of (map plan_tables lets) ++ all_of (plan_tables main ∷ [])
names-both lets main =
    ap (λ (ns : List TableNames). all_of ns) (map-append plan_tables lets (main ∷ []))
    ∙ flat_map-append (λ (names : TableNames). names) (map plan_tables lets) (plan_tables main ∷ [])

some-is : {X : Type 0} (o : Option X) (x : X) → o ≡ Some x → is_some o ≡ true
some-is o x e = rw e refl

program-fits : (schemas : List NamedSchema) (done : BoundStatements) (main : BoundPlan) → IsSoundStatements schemas done → IsSoundPlan done.known main → fits (program_of schemas done main) schemas ≡ true
unfolding fits program_of program_columns read_known
program-fits schemas done main h g =
    let plans : List Plan = done.lets ++ main.plan ∷ [] in
    let tables : List NamedSchema = tables_read schemas plans in
    let lets : List (List Column) = map columns_of_let done.known.lets in
    let names = names-both done.lets main.plan in
    let of_lets : lets_columns done.lets tables ≡ Some lets =
    same-all-lets done.lets tables schemas
    (λ n m. read-agrees schemas plans n (subst (λ (ns : TableNames). Member n ns) (sym names) (member-left (all_of (map plan_tables done.lets)) (all_of (plan_tables main.plan ∷ [])) n m)))
    ∙ h.lets in
    let of_main : plan_columns main.plan (known_of tables lets) ≡ Some main.after.columns =
    same-plan main.plan (known_of tables lets) (known_of schemas lets)
    (record {
      lets = refl;
      tables = λ n m. read-agrees schemas plans n (subst (λ (ns : TableNames). Member n ns) (sym names) (member-right (all_of (map plan_tables done.lets)) (all_of (plan_tables main.plan ∷ [])) n (member-left (plan_tables main.plan) [] n m)));
    })
    ∙ subst (λ (ts : List NamedSchema). plan_columns main.plan (known_of ts lets) ≡ Some main.after.columns) h.tables g.fits in
    let whole : option_and_then (λ (ls : List (List Column)). plan_columns main.plan (known_of tables ls)) (lets_columns done.lets tables) ≡ Some main.after.columns = rw of_lets of_main in
    and_from (tables_stand tables schemas) (is_some (option_and_then (λ (ls : List (List Column)). plan_columns main.plan (known_of tables ls)) (lets_columns done.lets tables)))
    (tables-stand schemas plans)
    (some-is (option_and_then (λ (ls : List (List Column)). plan_columns main.plan (known_of tables ls)) (lets_columns done.lets tables)) main.after.columns whole)

pub bound_fits : SoundOthers → BoundFits
unfolding bound has_patterns
bound_fits others q schemas moment p some tables ranged is =
    let parts = and_parts (list_all let_patterns q.lets) (pipe_patterns q.main) some in
    let first = after-ok (lets_bound q.lets (known_at_first schemas moment)) (λ (done : BoundStatements). pipe_bound q.main done.known false >>= λ main. Ok (program_of schemas done main)) p is in
    let done : BoundStatements = first.0 in
    let next = after-ok (pipe_bound q.main done.known false) (λ (main : BoundPlan). Ok (program_of schemas done main)) p first.2 in
    let h : IsSoundStatements schemas done = lets_sound others schemas moment q.lets done parts.0 tables ranged first.1 in
    subst (λ (r : Program). fits r schemas ≡ true) (ok-same (program_of schemas done next.0) p next.2)
    (program-fits schemas done next.0 h (pipe_sound others q.main parts.1 done.known false next.0 h.known next.1))
