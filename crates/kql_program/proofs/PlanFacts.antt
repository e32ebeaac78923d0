-- A plan answers for its program.
use Rattle.std.proofs.Common.{◌≡◌, ◌∙◌, true, List, ◌∷◌, length, subst, sym}
use Rattle.std.specs.Prelude.{All, IsSome, IsTrue, Option, Some, None, is_some}
use Rattle.std.proofs.lemmas.Bool.{and_parts}
use Rattle.std.proofs.lemmas.List.{nil_from_length}
use Rattle.std.proofs.lemmas.List.Elements.{All-cons, All-nil, recursion_from_All}
use Rattle.kql_bound.specs.declared.plan.Program.{Program}
use Rattle.kql_cells.specs.Catalogues.{Named, schemas_of}
use Rattle.kql_cells.specs.Table.{Grid}
use Rattle.kql_cells.specs.declared.schemas.NamedSchema.{NamedSchema}
use Rattle.kql_fit_laws.specs.LawsOfFitting.{AreTables}
use Rattle.kql_fit_laws.specs.LawsOfRows.{IsTable}
use Rattle.kql_values.specs.Kept.{all_named, named_of}
use Rattle.kql_values.specs.declared.catalogue.Named as kept
use Rattle.kql_meaning.specs.Fits.{fits, program_columns, tables_stand}
use Rattle.kql_meaning.specs.Plans.{means}
use Rattle.kql_meaning.proofs.MemberLaws.{member-contains, of-member}
use Rattle.plan_push.specs.Settled.{settled}
use Rattle.plan_rules.specs.Becomes.{ProgramBecomes}
use Rattle.plan_rules.specs.Improves.{IsNoLonger}
use Rattle.kql_program.specs.Plans.{IsPlanOf}

-- where the first is a table and the others are, all are
pub all-tables : (left more : List kept.Named) (n : kept.Named) → left ≡ n ∷ more → IsTable n.table → All (λ (m : Named). IsTable m.table) (all_named more) → All (λ (m : Named). IsTable m.table) (all_named left)
all-tables left more n is first others =
    subst (λ (ns : List kept.Named). All (λ (m : Named). IsTable m.table) (all_named ns)) (sym is) (All-cons (λ (m : Named). IsTable m.table) (named_of n) (all_named more) first others)

pub no-tables : (left : List kept.Named) → length left ≡ 0 → All (λ (m : Named). IsTable m.table) (all_named left)
no-tables left none = subst (λ (ns : List kept.Named). All (λ (m : Named). IsTable m.table) (all_named ns)) (sym (nil_from_length left none)) (All-nil (λ (m : Named). IsTable m.table))

-- the tables of a catalogue are tables
are-tables : (catalogue : List Named) → All (λ (n : Named). IsTable n.table) catalogue → AreTables catalogue
are-tables catalogue all n c = of-member (λ (m : Named). IsTable m.table) catalogue n (recursion_from_All (λ (m : Named). IsTable m.table) catalogue all) (member-contains catalogue n c)

there-is : {X : Type 0} (o : Option X) → is_some o ≡ true → IsSome o
there-is None e = absurd cc
there-is (Some x) e = e

-- a program that fits has columns
pub fitting-columns : (p : Program) (schemas : List NamedSchema) → IsTrue (fits p schemas) → IsSome (program_columns p)
unfolding fits
fitting-columns p schemas f = there-is (program_columns p) (and_parts (tables_stand p.tables schemas) (is_some (program_columns p)) f).1

-- what a program is settled to is a plan of it
pub plan-made : (p q : Program) → settled q ≡ true → IsNoLonger q p → ProgramBecomes p q → IsPlanOf p q
plan-made p q s l b = record { is_settled = s; no_longer = l; same = b }

-- it fits what the program fits
pub plan-fits : (p q : Program) (schemas : List NamedSchema) → IsPlanOf p q → IsTrue (fits p schemas) → IsTrue (fits q schemas)
plan-fits p q schemas h f = h.same.fitting schemas f

-- and its rows are the program's
pub plan-rows : (p q : Program) (tables seen : List Named) (rows : Grid) → All (λ (n : Named). IsTable n.table) seen → seen ≡ tables → IsTrue (fits p (schemas_of tables)) → IsPlanOf p q → rows ≡ means q tables → rows ≡ means p tables
plan-rows p q tables seen rows all same f h e = e ∙ h.same.meaning tables (are-tables tables (rw same at all)) f

pub ruleset plan_facts = (fitting-columns, plan-made, plan-fits, plan-rows)
