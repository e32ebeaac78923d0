-- Worked examples: operators and statements over two small tables, and what they are bound to or refused with.
use Rattle.std.specs.Prelude.{◌≡◌, ℕ, ◌-◌, Bool, true, false, List, [], ◌∷◌, None, Some, Ok, Err, codes, pos, negsuc, replicate}
use Rattle.kql_cells.specs.declared.schema.Column.{Column}
use Rattle.kql_cells.specs.declared.value.Kind.{Kind}
use Rattle.kql_cells.specs.declared.value.Kind.TheVariants as kind
use Rattle.kql_cells.specs.declared.value.Value.{Value}
use Rattle.kql_cells.specs.declared.value.Value.TheVariants as value
use Rattle.kql_lexer.specs.declared.place.Place.{Place}
use Rattle.kql_bound.specs.declared.literal.Lit.{Lit}
use Rattle.kql_bound.specs.declared.parts.JoinKind.TheVariants as join_kind
use Rattle.kql_bound.specs.declared.plan.Op.{Op}
use Rattle.kql_bound.specs.declared.plan.Op.TheVariants as op
use Rattle.kql_bound.specs.declared.plan.Plan.{roll-Plan}
use Rattle.kql_bound.specs.declared.plan.Source.TheVariants as source
use Rattle.kql_meaning.specs.Tables.{names_of}
use Rattle.kql_syntax.specs.declared.query.Distinct.TheVariants as distinct
use Rattle.kql_syntax.specs.declared.query.On.{On}
use Rattle.kql_syntax.specs.declared.query.On.TheVariants as key
use Rattle.kql_syntax.specs.declared.query.Step.{Step}
use Rattle.kql_syntax.specs.declared.tree.Expr.{Expr}
use Rattle.kql_syntax.specs.declared.tree.Name.{Name}
use Rattle.kql_syntax.specs.declared.tree.Name.TheVariants as name
use Rattle.bind_expr.specs.Outcome.{Outcome}
use Rattle.bind_expr.specs.declared.fault.BindFault.TheVariants as fault
use Rattle.bind_operators.specs.declared.bound.BoundOp.{BoundOp}
use Rattle.bind_operators.specs.declared.bound.BoundPlan.{BoundPlan}
use Rattle.bind_operators.specs.declared.known.Known.{Known}
use Rattle.bind_operators.specs.declared.shape.Shape.{Shape}
use Rattle.bind_operators.specs.Items.{names_twice}
use Rattle.bind_query.specs.Join.{join_bound}
use Rattle.bind_operators.specs.Known.{table_bound}
use Rattle.bind_query.specs.Lets.{let_faults}
use Rattle.bind_query.specs.Partition.{partition_bound}
use Rattle.bind_operators.specs.Project.{project_away_bound, project_keep_bound, project_rename_bound}
use Rattle.bind_query.specs.Scan.{assignment_faults, scan_faults, step_faults}
use Rattle.bind_operators.specs.Sources.{ranged}
use Rattle.bind_groups.specs.Summarize.{distinct_bound}
use Rattle.bind_operators.specs.TakeAndCount.{counted, taken}
use Rattle.bind_query.specs.Union.{union_bound}

-- The place of a column of the first line, and a name there.
abbrev pub at : ℕ → Place
at n = record { line = 1; column = n; byte = n - 1 }

abbrev pub word : ℕ → List ℕ → Name
word n text = name.Bare (record { place = at n; text = text })

abbrev pub refused : {X : Type 0} → ℕ → ℕ → Outcome X
refused code n = Err (fault.Refused code (at n))

abbrev pub column : List ℕ → Kind → Column
column text k = record { name = text; kind = k }

-- A is k:long,v and B is k:long,w; in C the key is a text, and in D it is dynamic.
abbrev pub columns_of_a : List Column
columns_of_a = column (codes "k") kind.Long ∷ column (codes "v") kind.Text ∷ []

abbrev pub columns_of_b : List Column
columns_of_b = column (codes "k") kind.Long ∷ column (codes "w") kind.Text ∷ []

abbrev pub columns_of_c : List Column
columns_of_c = column (codes "k") kind.Text ∷ []

abbrev pub columns_of_d : List Column
columns_of_d = column (codes "k") kind.Dynamic ∷ []

-- Tables A and B are handed in; a constant is named B, and hides it.
abbrev pub known : Known
known = record {
  tables = record { name = codes "A"; schema = columns_of_a } ∷ record { name = codes "B"; schema = columns_of_b } ∷ [];
  lets = [];
  consts = record { name = codes "B"; kind = kind.Long; value = value.Long (pos 1) } ∷ [];
  moment = None;
}

-- Rows of A, serialised or not.
abbrev pub rows_of_a : Bool → Shape
rows_of_a serial = record { columns = columns_of_a; serial = serial; own = [] }

-- A table argument of these columns.
abbrev pub table_of : List ℕ → List Column → BoundPlan
table_of text columns = record {
  plan = roll-Plan (record { source = source.Table text; ops = [] });
  after = record { columns = columns; serial = false; own = names_of columns };
}

-- What an operator that makes columns is bound to.
abbrev pub makes : Op → List Column → Bool → Outcome BoundOp
makes o columns serial = Ok (record { op = o; after = record { columns = columns; serial = serial; own = [] } })

-- Tables.

abbrev pub TableStands : Type 0
TableStands = table_bound known (word 1 (codes "A")) ≡ Ok (table_of (codes "A") columns_of_a)

-- `Z | count`: 410 at the name, and so at a constant's.
abbrev pub NoTable : Type 0
NoTable = table_bound known (word 1 (codes "Z")) ≡ refused 410 1

abbrev pub ConstantIsNoTable : Type 0
ConstantIsNoTable = table_bound known (word 1 (codes "B")) ≡ refused 410 1

-- Joins.

abbrev pub on_name : ℕ → List ℕ → List On
on_name n text = key.Column (word n text) ∷ []

-- `A | join (B) on k`: innerunique, with columns k, v, k1 and w.
abbrev pub joined_by_k : BoundOp
joined_by_k = record {
  op = op.Join (record { kind = join_kind.InnerUnique; lookup = false; «on» = record { left = codes "k"; right = codes "k" } ∷ [] }) (table_of (codes "B") columns_of_b).plan;
  after = record {
    columns = column (codes "k") kind.Long ∷ column (codes "v") kind.Text ∷ column (codes "k1") kind.Long ∷ column (codes "w") kind.Text ∷ [];
    serial = false;
    own = [];
  };
}

abbrev pub JoinOnKey : Type 0
JoinOnKey = join_bound (at 5) false None (on_name 17 (codes "k")) known false (rows_of_a true) (Ok (table_of (codes "B") columns_of_b)) ≡ Ok joined_by_k

-- `A | join (B) on v`: 401 at the name.
abbrev pub JoinOnMissing : Type 0
JoinOnMissing = join_bound (at 5) false None (on_name 17 (codes "v")) known false (rows_of_a true) (Ok (table_of (codes "B") columns_of_b)) ≡ refused 401 17

-- On a constant's name: 403 at the operator.
abbrev pub JoinOnConstant : Type 0
JoinOnConstant = join_bound (at 5) false None (on_name 17 (codes "B")) known false (rows_of_a true) (Ok (table_of (codes "B") columns_of_b)) ≡ refused 403 5

-- On keys of two types: 415 at the key. On a dynamic one: 404. In a subquery: 416, which comes before 415.
abbrev pub JoinOnTwoTypes : Type 0
JoinOnTwoTypes = join_bound (at 5) false None (on_name 17 (codes "k")) known false (rows_of_a true) (Ok (table_of (codes "C") columns_of_c)) ≡ refused 415 17

abbrev pub JoinOnDynamic : Type 0
JoinOnDynamic = join_bound (at 5) false None (on_name 17 (codes "k")) known false (rows_of_a true) (Ok (table_of (codes "D") columns_of_d)) ≡ refused 404 17

abbrev pub JoinInside : Type 0
JoinInside = join_bound (at 5) false None (on_name 17 (codes "k")) known true (rows_of_a true) (Ok (table_of (codes "C") columns_of_c)) ≡ refused 416 5

-- The fault of the right side comes first.
abbrev pub JoinOfFault : Type 0
JoinOfFault = join_bound (at 5) false None (on_name 17 (codes "v")) known false (rows_of_a true) (refused 410 11) ≡ refused 410 11

-- Unions.

-- `A | union B, C`: 415 at the second table.
abbrev pub UnionOfTwoTypes : Type 0
UnionOfTwoTypes =
    union_bound (at 5) (false, (at 11, λ k inside. Ok (table_of (codes "B") columns_of_b)) ∷ (at 14, λ k inside. Ok (table_of (codes "C") columns_of_c)) ∷ []) known false (rows_of_a true)
    ≡ refused 415 14

-- Inner, with no column in common: 419.
abbrev pub UnionOfNothing : Type 0
UnionOfNothing =
    union_bound (at 5) (true, (at 11, λ k inside. Ok (record { plan = roll-Plan (record { source = source.Let 0; ops = [] }); after = record { columns = column (codes "x") kind.Long ∷ []; serial = false; own = [] } })) ∷ []) known false (rows_of_a true)
    ≡ refused 419 5

-- Partition.

-- `A | partition by k (count)` gives `Count`; a partition inside one is 416 at the inner one.
abbrev pub PartitionCounts : Type 0
PartitionCounts = partition_bound (at 5) (word 18 (codes "k")) ((λ k inside rows. Ok counted) ∷ []) known false (rows_of_a true)
    ≡ makes (op.Partition (codes "k") (op.Count ∷ [])) (column (codes "Count") kind.Long ∷ []) false

abbrev pub PartitionInside : Type 0
PartitionInside =
    partition_bound (at 5) (word 18 (codes "k")) ((λ k inside rows. partition_bound (at 21) (word 34 (codes "v")) ((λ l within more. Ok counted) ∷ []) k inside rows) ∷ []) known false (rows_of_a true)
    ≡ refused 416 21

-- Columns.

-- Away with both columns: 419. To keep one that is not there: 401.
abbrev pub AwayWithAll : Type 0
AwayWithAll = project_away_bound (at 5) (word 18 (codes "v") ∷ word 21 (codes "k") ∷ []) known (rows_of_a true) ≡ refused 419 5

abbrev pub KeepMissing : Type 0
KeepMissing = project_keep_bound (at 5) (word 18 (codes "v") ∷ word 21 (codes "z") ∷ []) known (rows_of_a true) ≡ refused 401 21

-- `project-rename`: one column twice, and onto a name that stands.
abbrev pub RenameTwice : Type 0
RenameTwice = project_rename_bound (at 5) ((word 20 (codes "a"), word 24 (codes "k")) ∷ (word 27 (codes "b"), word 31 (codes "k")) ∷ []) known (rows_of_a true) ≡ refused 411 27

abbrev pub RenameOnto : Type 0
RenameOnto = project_rename_bound (at 5) ((word 20 (codes "v"), word 24 (codes "k")) ∷ []) known (rows_of_a true) ≡ refused 411 20

-- `distinct v, v`: 411 at the second.
abbrev pub DistinctTwice : Type 0
DistinctTwice = distinct_bound (at 5) (distinct.Columns (word 14 (codes "v") ∷ word 17 (codes "v") ∷ [])) known (rows_of_a true) ≡ refused 411 17

abbrev pub DistinctStarOfDynamic : Type 0
DistinctStarOfDynamic = distinct_bound (at 5) (distinct.Star (at 14)) known (record { columns = columns_of_d; serial = false; own = [] }) ≡ refused 404 14

-- Counts and ranges.

abbrev pub long : Value → Lit
long v = record { kind = kind.Long; value = v }

abbrev pub TakeThree : Type 0
TakeThree = taken (at 5) (rows_of_a true) (long (value.Long (pos 3))) ≡ makes (op.Take 3) columns_of_a true

abbrev pub TakeNull : Type 0
TakeNull = taken (at 5) (rows_of_a true) (long value.Null) ≡ refused 414 5

abbrev pub TakeNegative : Type 0
TakeNegative = taken (at 5) (rows_of_a true) (long (value.Long (negsuc 0))) ≡ refused 414 5

-- `range x from 1 to 1000000 step 1`, and to 1000001: 414.
abbrev pub range_to : ℕ → Outcome BoundPlan
range_to n = ranged (at 1) (codes "x") (long (value.Long (pos 1))) (long (value.Long (pos n))) (long (value.Long (pos 1)))

abbrev pub RangeStands : Type 0
RangeStands = range_to 1000000 ≡ Ok (record {
  plan = roll-Plan (record { source = source.Range (codes "x") (long (value.Long (pos 1))) (long (value.Long (pos 1000000))) (long (value.Long (pos 1))); ops = [] });
  after = record { columns = column (codes "x") kind.Long ∷ []; serial = true; own = [] };
})

abbrev pub RangeTooLong : Type 0
RangeTooLong = range_to 1000001 ≡ refused 414 1

-- Steps.

abbrev pub step_of : ℕ → List ℕ → Expr → Step
step_of n text e = record { place = at (n - 5); name = word n text; output = None; condition = e; sets = [] }

-- Rows that are not serialised: 407, before a second step of one name.
abbrev pub ScanFaults : Type 0
ScanFaults = (e : Expr) →
    scan_faults (at 5) (record { match_id = Some (word 26 (codes "v")); declared = []; steps = step_of 40 (codes "s") e ∷ step_of 60 (codes "s") e ∷ [] }) (rows_of_a false)
    ≡ fault.Refused 407 (at 5) ∷ fault.Refused 411 (at 26) ∷ fault.Refused 417 (at 60) ∷ []

-- 64 steps, and the 65th.
abbrev pub SixtyFourSteps : Type 0
SixtyFourSteps = (e : Expr) → step_faults [] 0 (replicate 64 (step_of 40 (codes "s") e)) ≡ []

abbrev pub SixtyFiveSteps : Type 0
SixtyFiveSteps = (e : Expr) → step_faults [] 0 (replicate 65 (step_of 40 (codes "s") e)) ≡ fault.Refused 413 (at 40) ∷ []

-- An assignment to what is not declared, and a second one.
abbrev pub Assignments : Type 0
Assignments = (e : Expr) →
    assignment_faults (codes "n" ∷ []) [] ((word 50 (codes "n"), e) ∷ (word 57 (codes "m"), e) ∷ (word 64 (codes "n"), e) ∷ [])
    ≡ fault.Refused 413 (at 57) ∷ fault.Refused 413 (at 64) ∷ []

-- Names.

-- Three names of which the last stands before it.
abbrev pub NamesTwice : Type 0
NamesTwice = names_twice [] (word 1 (codes "a") ∷ word 4 (codes "b") ∷ word 7 (codes "a") ∷ []) ≡ fault.Refused 411 (at 7) ∷ []

-- `let n = 1; let n = 2; A`: 417 at the second name.
abbrev pub LetTwice : Type 0
LetTwice = let_faults known (word 16 (codes "B")) ≡ fault.Refused 417 (at 16) ∷ []
