-- What the loop over the rules keeps.
use Rattle.std.proofs.Common.{◌≡◌, true, ◌≤◌, ◌<◌, List, [], ◌∷◌, length, refl, sym, ap, ◌∙◌, subst, arith}
use Rattle.std.specs.Prelude.{IsSome, is_some}
use Rattle.std.proofs.lemmas.Bool.{and_parts}
use Rattle.kql_cells.specs.declared.schemas.NamedSchema.{NamedSchema}
use Rattle.kql_cells.specs.Catalogues.{schemas_of}
use Rattle.kql_bound.specs.declared.plan.Plan.{Plan}
use Rattle.kql_bound.specs.declared.plan.Program.{Program}
use Rattle.kql_meaning.specs.Fits.{fits, program_columns, tables_stand}
use Rattle.plan_rules.specs.Becomes.{ProgramBecomes}
use Rattle.plan_rules.specs.FoldedPlans.{folded_program, is_program_folded}
use Rattle.plan_rules.specs.Improves.{AreNoLonger, IsNoLonger, PlanIsNoLonger, ProgramImproves}
use Rattle.plan_rules.specs.Weight.{Weight, program_weight}
use Rattle.plan_rules.proofs.FoldingLaws.{folding_programs}
use Rattle.plan_push.specs.Settled.{is_quiet, settled}

pub program-same : (p : Program) → ProgramBecomes p p
program-same p = record { tables = refl; fitting = λ schemas e. e; meaning = λ catalogue tables e. refl }

pub program-then : (p q r : Program) → ProgramBecomes p q → ProgramBecomes q r → ProgramBecomes p r
program-then p q r a b = record {
  tables = b.tables ∙ a.tables;
  fitting = λ schemas e. b.fitting schemas (a.fitting schemas e);
  meaning = λ catalogue tables e. b.meaning catalogue tables (a.fitting (schemas_of catalogue) e) ∙ a.meaning catalogue tables e;
}

plan-same : (p : Plan) → PlanIsNoLonger p p
plan-same p = record { operators = omega arith; size = omega arith }

plan-then : (p q r : Plan) → PlanIsNoLonger p q → PlanIsNoLonger q r → PlanIsNoLonger p r
plan-then p q r a b = record { operators = omega (arith, a.operators, b.operators); size = omega (arith, a.size, b.size) }

each-same : (ps : List Plan) → AreNoLonger ps ps
each-same [] = tt
each-same (p ∷ ps) = (plan-same p, each-same ps)

each-then : (ps qs rs : List Plan) → AreNoLonger ps qs → AreNoLonger qs rs → AreNoLonger ps rs
each-then [] [] [] a b = tt
each-then [] [] (r ∷ rs) a b = absurd b
each-then [] (q ∷ qs) rs a b = absurd a
each-then (p ∷ ps) [] rs a b = absurd a
each-then (p ∷ ps) (q ∷ qs) [] a b = absurd b
each-then (p ∷ ps) (q ∷ qs) (r ∷ rs) a b = (plan-then p q r a.0 b.0, each-then ps qs rs a.1 b.1)

pub no-longer-same : (p : Program) → IsNoLonger p p
no-longer-same p = record { lets = each-same p.lets; main = plan-same p.main }

pub no-longer-then : (p q r : Program) → IsNoLonger p q → IsNoLonger q r → IsNoLonger p r
no-longer-then p q r a b = record { lets = each-then p.lets q.lets r.lets a.lets b.lets; main = plan-then p.main q.main r.main a.main b.main }

-- What the loop keeps of the program that it holds, in which constants are folded.
pub record Kept (p done : Program) : Type 0 where
  pub fits : IsSome (program_columns done)
  pub no_longer : IsNoLonger done p
  pub becomes : ProgramBecomes p done
  pub folded : is_program_folded done ≡ true

-- What constants are folded in is kept.
kept-folded : (p q done : Program) → done ≡ folded_program q → IsSome (program_columns q) → IsNoLonger q p → ProgramBecomes p q → Kept p done
kept-folded p q done made fits longer becomes =
    let law = folding_programs q fits in
    subst (Kept p) (sym made) (record {
      fits = law.0;
      no_longer = no-longer-then (folded_program q) q p law.2 longer;
      becomes = program-then p q (folded_program q) becomes law.1;
      folded = law.4;
    })

pub kept-first : (p copy done : Program) → copy ≡ p → done ≡ folded_program copy → IsSome (program_columns p) → Kept p done
kept-first p copy done same made fits = kept-folded p p done (made ∙ ap folded_program same) fits (no-longer-same p) (program-same p)

pub kept-next : (p done next made : Program) → Kept p done → ProgramImproves done next → made ≡ folded_program next → Kept p made
kept-next p done next made h i is = kept-folded p next made is (i.fits h.fits) (no-longer-then next done p i.no_longer h.no_longer) (program-then p done next h.becomes i.becomes)

-- Folding leaves the number that falls at every rule.
pub load-next : (done next made : Program) → IsSome (program_columns done) → ProgramImproves done next → made ≡ folded_program next → (program_weight made).load < (program_weight done).load
load-next done next made fits i is =
    let same : program_weight made ≡ program_weight next = ap program_weight is ∙ (folding_programs next (i.fits fits)).3 in
    subst (λ (w : Weight). w.load < (program_weight done).load) (sym same) i.lighter

pub settled-both : (p : Program) → is_quiet p ≡ true → is_program_folded p ≡ true → settled p ≡ true
unfolding settled
settled-both p a b = rw (a, b) refl

pub ruleset kept_steps = (kept-first, kept-next, load-next, settled-both)

-- A program that fits the schemas of tables has columns, as `settle` asks.
pub fits-there : (p : Program) (schemas : List NamedSchema) → fits p schemas ≡ true → IsSome (program_columns p)
unfolding fits
fits-there p schemas e = (and_parts (tables_stand p.tables schemas) (is_some (program_columns p)) e).1

pub ruleset fits_steps = (fits-there)
