-- What a rewrite keeps: where operators, a plan or a program fit, what they become fits too, with the same columns, and means the same.
use Rattle.std.specs.Prelude.{◌≡◌, ◌++◌, Bool, List, [], ◌∷◌, Some, IsTrue, fold}
use Rattle.kql_cells.specs.Catalogues.{schemas_of}
use Rattle.kql_cells.specs.Table.{Grid}
use Rattle.kql_cells.specs.Catalogues.{Named}
use Rattle.kql_cells.specs.declared.schemas.NamedSchema.{NamedSchema}
use Rattle.kql_cells.specs.declared.schema.Column.{Column}
use Rattle.kql_bound.specs.declared.plan.Op.{Op}
use Rattle.kql_bound.specs.declared.plan.Plan.{Plan}
use Rattle.kql_bound.specs.declared.plan.Program.{Program}
use Rattle.kql_meaning.specs.Fits.{Known, fits, known_of, ops_columns, plan_columns}
use Rattle.kql_meaning.specs.Plans.{World, means, op_means, plan_means}
use Rattle.kql_fit_laws.specs.LawsOfFitting.{AreTables}
use Rattle.kql_fit_laws.specs.LawsOfPrograms.{Stands}
use Rattle.kql_fit_laws.specs.LawsOfRows.{IsTableOf}

-- What operators make of a table, one after another.
abbrev pub ops_mean : List Op → World → Grid → Grid
ops_mean ops w t = fold (λ before op. op_means op w before) t ops

-- Over tables of these columns. The Bool tells whether they stand in a subquery of `partition`.
pub record Becomes (k : Known) (inside : Bool) (cs : List Column) (xs ys : List Op) : Type 0 where
  pub keeps : (ds : List Column) → ops_columns xs k inside cs ≡ Some ds → (ops_columns ys k inside cs ≡ Some ds) × ((w : World) (t : Grid) → Stands k w → IsTableOf cs t → ops_mean ys w t ≡ ops_mean xs w t)

pub record PlanBecomes (k : Known) (p q : Plan) : Type 0 where
  pub keeps : (ds : List Column) → plan_columns p k ≡ Some ds → (plan_columns q k ≡ Some ds) × ((w : World) → Stands k w → plan_means q w ≡ plan_means p w)

-- Plans one by one, over the same tables.
abbrev pub EachBecomes : Known → List Plan → List Plan → Type 0
EachBecomes k [] [] = Unit {0}
EachBecomes k (p ∷ ps) (q ∷ qs) = PlanBecomes k p q × EachBecomes k ps qs
EachBecomes k _ _ = ⊥

-- Lets, each over those before it.
abbrev pub LetsBecome : List NamedSchema → List (List Column) → List Plan → List Plan → Type 0
LetsBecome tables ls [] [] = Unit {0}
LetsBecome tables ls (p ∷ ps) (q ∷ qs) = PlanBecomes (known_of tables ls) p q × ((c : List Column) → plan_columns p (known_of tables ls) ≡ Some c → LetsBecome tables (ls ++ c ∷ []) ps qs)
LetsBecome tables ls _ _ = ⊥

-- A program reads the same tables in the same order, fits all schemas that it fitted, and means the same over every catalogue of tables
-- whose schemas it fits.
pub record ProgramBecomes (p q : Program) : Type 0 where
  pub tables : q.tables ≡ p.tables
  pub fitting : (schemas : List NamedSchema) → IsTrue (fits p schemas) → IsTrue (fits q schemas)
  pub meaning : (catalogue : List Named) → AreTables catalogue → IsTrue (fits p (schemas_of catalogue)) → means q catalogue ≡ means p catalogue
