-- The text of a program: a line for each source and each operator, with the lines of the plans and steps in it further in.
use Rattle.std.specs.Prelude.{ℕ, suc, List, [], ◌∷◌, ◌++◌, codes, map}
use Rattle.std.specs.Fmt.{decimal}
use Rattle.std.specs.List.{concat, flat_map, join_by}
use Rattle.kql_plan_text.specs.Operators.{line_step, scan_step_text, source_text}
use Rattle.kql_bound.specs.declared.plan.Op.{Op, fold-Op, out-Op}
use Rattle.kql_bound.specs.declared.plan.Op.TheOpen.{Op-F, Plan-F}
use Rattle.kql_bound.specs.declared.plan.Plan.{Plan, fold-Plan}
use Rattle.kql_bound.specs.declared.plan.Program.{Program}

-- lines, each without its end
abbrev pub Lines : Type 0
Lines = List (List ℕ)

-- lines two spaces further in
unfoldable pub further_in : Lines → Lines
further_in lines = map (λ line. codes "  " ++ line) lines

-- lines further in, and the bracket that closes them
unfoldable pub in_brackets : Lines → Lines
in_brackets lines = further_in lines ++ codes ")" ∷ []

-- the same of the lines of several things, with a line `) (` between each two
unfoldable pub between_brackets : {X : Type 0} → (X → Lines) → List X → Lines
between_brackets lines xs = join_by (λ x. further_in (lines x)) (codes ") (" ∷ []) xs ++ codes ")" ∷ []

-- what follows the line of an operator, from the lines of the operators and plans in it
abbrev pub op_within : {A B : Type 0} → (A → Lines) → (B → Lines) → Op-F A B → Lines
op_within op plan (Op-F.Join j right) = in_brackets (plan right)
op_within op plan (Op-F.Union inner others) = between_brackets plan others
op_within op plan (Op-F.Scan s) = in_brackets (map scan_step_text s.steps)
op_within op plan (Op-F.Partition column ops) = in_brackets (flat_map op ops)
op_within op plan _ = []

-- the lines of an operator
abbrev pub op_step : Op-F Lines Lines → Lines
op_step o = (codes "| " ++ line_step o) ∷ op_within (λ l. l) (λ l. l) o

-- the lines of a plan: that of its source and those of its operators
abbrev pub plan_step : Plan-F Lines Lines → Lines
plan_step p = source_text p.source ∷ flat_map (λ l. l) p.ops

unfoldable pub plan_lines : Plan → Lines
plan_lines = fold-Plan Lines Lines op_step plan_step

unfoldable pub op_lines : Op → Lines
op_lines = fold-Op Lines Lines op_step plan_step

-- `let#I = (`
unfoldable pub let_line : ℕ → List ℕ
let_line i = concat (codes "let#" ∷ decimal i ∷ codes " = (" ∷ [])

-- that line, the plan and its bracket
unfoldable pub let_lines : ℕ → Plan → Lines
let_lines i p = let_line i ∷ in_brackets (plan_lines p)

-- the lines of lets, which are numbered from i
unfoldable pub lets_lines : ℕ → List Plan → Lines
lets_lines i [] = []
lets_lines i (p ∷ ps) = let_lines i p ++ lets_lines (suc i) ps

-- the lets, and then the plan of the answer
abbrev pub program_lines : Program → Lines
program_lines p = lets_lines 0 p.lets ++ plan_lines p.main

-- lines behind a margin, each with its line feed
unfoldable pub text_of : List ℕ → Lines → List ℕ
text_of margin lines = flat_map (λ line. concat (margin ∷ line ∷ codes "\n" ∷ [])) lines

-- the text of a program
unfoldable pub plan_text : Program → List ℕ
plan_text p = text_of [] (program_lines p)

-- what follows the line of an operator of a program
abbrev pub within_lines : Op → Lines
within_lines op = op_within op_lines plan_lines (out-Op op)
