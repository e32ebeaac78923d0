-- What `explain` asks for: the text of a plan of the query's program, or the first refusal, which is that of the answer. Of a query with pattern calls
-- it is a plan of the program that reads their answers in the columns of derived tables.
use Rattle.std.specs.Prelude.{◌≡◌, ℕ, Bool, true, List, Ok, Err}
use Rattle.kql_bound.specs.declared.plan.Program.{Program}
use Rattle.kql_cells.specs.Catalogues.{Named}
use Rattle.kql_meaning.specs.Plans.{means}
use Rattle.kql_plan_text.specs.Plans.{plan_text}
use Rattle.kql_words.specs.Refusals.{Answer}
use Rattle.kql_words.specs.declared.command.Asked.{Asked}
use Rattle.plan_push.specs.Settled.{settled}
use Rattle.plan_rules.specs.Becomes.{ProgramBecomes}
use Rattle.plan_rules.specs.Improves.{IsNoLonger}
use Rattle.catalogue_tables.specs.Files.{Files}
use Rattle.pattern_run.specs.Patterned.{Found}
use Rattle.kql_program.specs.Queries.{IsBoundAsked, text_as}
use Rattle.kql_program.specs.declared.bound.BoundQuery.{BoundQuery}
use Rattle.kql_program.specs.declared.ended.Ended.{Ended}
use Rattle.kql_program.specs.declared.ended.Ended.TheVariants as ended

-- A plan of a program: no rule fires anywhere in it, it is no longer than the program, and it fits what that fits and means the same over every
-- catalogue of tables that it fits.
pub record IsPlanOf (program plan : Program) : Type 0 where
  pub is_settled : settled plan ≡ true
  pub no_longer : IsNoLonger plan program
  pub same : ProgramBecomes program plan

-- this is the text of a plan of the query that is bound, or its refusal
abbrev pub Explains : Answer BoundQuery → Answer (List ℕ) → Type 0
Explains (Err refusal) a = a ≡ Err refusal
Explains (Ok b) a = (plan : Program) × IsPlanOf b.program plan × (a ≡ Ok (plan_text plan))

-- this is the text that `explain` asks for, or the first refusal
pub record AnswersExplain (found : Found) (words : List (List ℕ)) (files : Files) (asked : Asked) (a : Answer (List ℕ)) : Type 0 where
  pub bound : Answer BoundQuery
  pub is_bound : IsBoundAsked found words files asked bound
  pub is : Explains bound a

-- this is a plan of the program that the query of a command is bound to
pub record IsPlanAsked (found : Found) (words : List (List ℕ)) (files : Files) (asked : Asked) (plan : Program) : Type 0 where
  pub bound : BoundQuery
  pub is_bound : IsBoundAsked found words files asked (Ok bound)
  pub is : IsPlanOf bound.program plan

-- two texts of plans of the program that the query of a command is bound to
pub record ExplainOne (found : Found) (words : List (List ℕ)) (files : Files) (asked : Asked) (s t : List ℕ) : Type 0 where
  pub bound : BoundQuery
  pub is_bound : IsBoundAsked found words files asked (Ok bound)
  pub first : Explains (Ok bound) (Ok s)
  pub second : Explains (Ok bound) (Ok t)

-- The ending after `run` wrote a table: a plan of the program, and the text is that of the table which this very plan means over the tables.
abbrev pub IsRunBy : Bool → Program → List Named → List ℕ → Ended → Type 0
IsRunBy types program tables text (ended.Table plan report) = IsPlanOf program plan × (text ≡ text_as types (means plan tables))
IsRunBy types program tables text _ = ⊥

-- the ending after `explain` wrote a text: that of a plan of the program
abbrev pub IsExplainedBy : Program → List ℕ → Ended → Type 0
IsExplainedBy program text (ended.Explained plan) = IsPlanOf program plan × (text ≡ plan_text plan)
IsExplainedBy program text _ = ⊥
