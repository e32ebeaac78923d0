-- The equations of where calls may stand, one for each variant of an operator, and one for each of an expression.
use Rattle.std.proofs.Common.{◌≡◌, ℕ, Bool, true, false, List, [], ap, sym, ◌∙◌, rules}
use Rattle.std.specs.Prelude.{◌&&◌}
use Rattle.std.specs.List.{list_all}
use Rattle.kql_cells.specs.declared.schemas.NamedSchema.{NamedSchema}
use Rattle.kql_bound.specs.declared.expr.BExpr.{BExpr}
use Rattle.kql_bound.specs.declared.parts.BItem.{BItem}
use Rattle.kql_bound.specs.declared.parts.BKey.{BKey}
use Rattle.kql_bound.specs.declared.parts.Expand.{Expand}
use Rattle.kql_bound.specs.declared.parts.GroupPlan.{GroupPlan}
use Rattle.kql_bound.specs.declared.parts.JoinPlan.{JoinPlan}
use Rattle.kql_bound.specs.declared.parts.ParsePlan.{ParsePlan}
use Rattle.kql_bound.specs.declared.parts.ScanPlan.{ScanPlan}
use Rattle.kql_bound.specs.declared.parts.SeriesPlan.{SeriesPlan}
use Rattle.kql_bound.specs.declared.plan.Op.{Op, out-Op, para-roll-Op, the_lemmas}
use Rattle.kql_bound.specs.declared.plan.Op.TheOpen.{Op-F}
use Rattle.kql_bound.specs.declared.plan.Op.TheVariants as V
use Rattle.kql_bound.specs.declared.plan.Plan.{Plan}
use Rattle.kql_meaning.specs.FittingOperators.{are_distinct}
use Rattle.pattern_lift.specs.Calls.{calls_are_lent}
use Rattle.pattern_lift.specs.Prefixes.{names_set, table_read}
use Rattle.pattern_laws.specs.Liftable.{columns_read, has_no_calls, is_readable, item_is_liftable, no_calls_step, op_is_liftable, op_liftable_step, ops_are_liftable, plan_is_liftable, plan_liftable_step, source_is_own, within_is_liftable, within_step}
use Rattle.pattern_laws.proofs.LiftableSteps as steps
use Rattle.pattern_laws.proofs.ToldSteps.{readable-Aggregate, readable-Call, readable-Chain, readable-Column, readable-Literal, readable-Path, readable-Step, readable-Window}

pub ruleset readable_steps = (readable-Literal, readable-Column, readable-Step, readable-Call, readable-Chain, readable-Path, readable-Window, readable-Aggregate)

-- An operator of a prefix.

pub inside-Where : (marks : List ℕ) (lent : List (List ℕ)) (e : BExpr) → op_is_liftable marks lent (V.Where e) ≡ (calls_are_lent lent e && is_readable marks e)
unfolding op_is_liftable
inside-Where marks lent e = let o : out-Op (V.Where e) ≡ (Op-F.Where e) = search (rules, the_lemmas) in ap (op_liftable_step marks lent) o

pub inside-Extend : (marks : List ℕ) (lent : List (List ℕ)) (items : List BItem) → op_is_liftable marks lent (V.Extend items) ≡ (list_all (item_is_liftable marks lent) items && are_distinct (names_set items))
unfolding op_is_liftable
inside-Extend marks lent items = let o : out-Op (V.Extend items) ≡ (Op-F.Extend items) = search (rules, the_lemmas) in ap (op_liftable_step marks lent) o

pub inside-Project : (marks : List ℕ) (lent : List (List ℕ)) (items : List BItem) → op_is_liftable marks lent (V.Project items) ≡ false
unfolding op_is_liftable
inside-Project marks lent items = let o : out-Op (V.Project items) ≡ (Op-F.Project items) = search (rules, the_lemmas) in ap (op_liftable_step marks lent) o

pub inside-Take : (marks : List ℕ) (lent : List (List ℕ)) (n : ℕ) → op_is_liftable marks lent (V.Take n) ≡ false
unfolding op_is_liftable
inside-Take marks lent n = let o : out-Op (V.Take n) ≡ (Op-F.Take n) = search (rules, the_lemmas) in ap (op_liftable_step marks lent) o

pub inside-Count : (marks : List ℕ) (lent : List (List ℕ)) → op_is_liftable marks lent V.Count ≡ false
unfolding op_is_liftable
inside-Count marks lent = let o : out-Op V.Count ≡ Op-F.Count = search (rules, the_lemmas) in ap (op_liftable_step marks lent) o

pub inside-Serialize : (marks : List ℕ) (lent : List (List ℕ)) → op_is_liftable marks lent V.Serialize ≡ false
unfolding op_is_liftable
inside-Serialize marks lent = let o : out-Op V.Serialize ≡ Op-F.Serialize = search (rules, the_lemmas) in ap (op_liftable_step marks lent) o

pub inside-Sort : (marks : List ℕ) (lent : List (List ℕ)) (keys : List BKey) → op_is_liftable marks lent (V.Sort keys) ≡ false
unfolding op_is_liftable
inside-Sort marks lent keys = let o : out-Op (V.Sort keys) ≡ (Op-F.Sort keys) = search (rules, the_lemmas) in ap (op_liftable_step marks lent) o

pub inside-Top : (marks : List ℕ) (lent : List (List ℕ)) (n : ℕ) (keys : List BKey) → op_is_liftable marks lent (V.Top n keys) ≡ false
unfolding op_is_liftable
inside-Top marks lent n keys = let o : out-Op (V.Top n keys) ≡ (Op-F.Top n keys) = search (rules, the_lemmas) in ap (op_liftable_step marks lent) o

pub inside-Summarize : (marks : List ℕ) (lent : List (List ℕ)) (g : GroupPlan) → op_is_liftable marks lent (V.Summarize g) ≡ false
unfolding op_is_liftable
inside-Summarize marks lent g = let o : out-Op (V.Summarize g) ≡ (Op-F.Summarize g) = search (rules, the_lemmas) in ap (op_liftable_step marks lent) o

pub inside-MakeSeries : (marks : List ℕ) (lent : List (List ℕ)) (p : SeriesPlan) → op_is_liftable marks lent (V.MakeSeries p) ≡ false
unfolding op_is_liftable
inside-MakeSeries marks lent p = let o : out-Op (V.MakeSeries p) ≡ (Op-F.MakeSeries p) = search (rules, the_lemmas) in ap (op_liftable_step marks lent) o

pub inside-MvExpand : (marks : List ℕ) (lent : List (List ℕ)) (x : Expand) → op_is_liftable marks lent (V.MvExpand x) ≡ false
unfolding op_is_liftable
inside-MvExpand marks lent x = let o : out-Op (V.MvExpand x) ≡ (Op-F.MvExpand x) = search (rules, the_lemmas) in ap (op_liftable_step marks lent) o

pub inside-Parse : (marks : List ℕ) (lent : List (List ℕ)) (p : ParsePlan) → op_is_liftable marks lent (V.Parse p) ≡ false
unfolding op_is_liftable
inside-Parse marks lent p = let o : out-Op (V.Parse p) ≡ (Op-F.Parse p) = search (rules, the_lemmas) in ap (op_liftable_step marks lent) o

pub inside-Join : (marks : List ℕ) (lent : List (List ℕ)) (j : JoinPlan) (right : Plan) → op_is_liftable marks lent (V.Join j right) ≡ false
unfolding op_is_liftable
inside-Join marks lent j right = let o : out-Op (V.Join j right) ≡ (Op-F.Join j right) = search (rules, the_lemmas) in ap (op_liftable_step marks lent) o

pub inside-Union : (marks : List ℕ) (lent : List (List ℕ)) (inner : Bool) (others : List Plan) → op_is_liftable marks lent (V.Union inner others) ≡ false
unfolding op_is_liftable
inside-Union marks lent inner others = let o : out-Op (V.Union inner others) ≡ (Op-F.Union inner others) = search (rules, the_lemmas) in ap (op_liftable_step marks lent) o

pub inside-Scan : (marks : List ℕ) (lent : List (List ℕ)) (p : ScanPlan) → op_is_liftable marks lent (V.Scan p) ≡ false
unfolding op_is_liftable
inside-Scan marks lent p = let o : out-Op (V.Scan p) ≡ (Op-F.Scan p) = search (rules, the_lemmas) in ap (op_liftable_step marks lent) o

pub inside-Partition : (marks : List ℕ) (lent : List (List ℕ)) (c : List ℕ) (ops : List Op) → op_is_liftable marks lent (V.Partition c ops) ≡ false
unfolding op_is_liftable
inside-Partition marks lent c ops = let o : out-Op (V.Partition c ops) ≡ (Op-F.Partition c ops) = search (rules, the_lemmas) in ap (op_liftable_step marks lent) o

pub ruleset inside_steps = (inside-Where, inside-Extend, inside-Project, inside-Take, inside-Count, inside-Serialize, inside-Sort, inside-Top, inside-Summarize, inside-MakeSeries, inside-MvExpand, inside-Parse, inside-Join, inside-Union, inside-Scan, inside-Partition)

-- Outside of a prefix.

pub outside-Where : (e : BExpr) → has_no_calls (V.Where e) ≡ calls_are_lent [] e
unfolding has_no_calls
outside-Where e = let o : out-Op (V.Where e) ≡ (Op-F.Where e) = search (rules, the_lemmas) in ap no_calls_step o

pub outside-Extend : (items : List BItem) → has_no_calls (V.Extend items) ≡ list_all (λ (b : BItem). calls_are_lent [] b.expr) items
unfolding has_no_calls
outside-Extend items = let o : out-Op (V.Extend items) ≡ (Op-F.Extend items) = search (rules, the_lemmas) in ap no_calls_step o

pub outside-Project : (items : List BItem) → has_no_calls (V.Project items) ≡ true
unfolding has_no_calls
outside-Project items = let o : out-Op (V.Project items) ≡ (Op-F.Project items) = search (rules, the_lemmas) in ap no_calls_step o

pub outside-Take : (n : ℕ) → has_no_calls (V.Take n) ≡ true
unfolding has_no_calls
outside-Take n = let o : out-Op (V.Take n) ≡ (Op-F.Take n) = search (rules, the_lemmas) in ap no_calls_step o

pub outside-Count : has_no_calls V.Count ≡ true
unfolding has_no_calls
outside-Count = let o : out-Op V.Count ≡ Op-F.Count = search (rules, the_lemmas) in ap no_calls_step o

pub outside-Serialize : has_no_calls V.Serialize ≡ true
unfolding has_no_calls
outside-Serialize = let o : out-Op V.Serialize ≡ Op-F.Serialize = search (rules, the_lemmas) in ap no_calls_step o

pub outside-Sort : (keys : List BKey) → has_no_calls (V.Sort keys) ≡ true
unfolding has_no_calls
outside-Sort keys = let o : out-Op (V.Sort keys) ≡ (Op-F.Sort keys) = search (rules, the_lemmas) in ap no_calls_step o

pub outside-Top : (n : ℕ) (keys : List BKey) → has_no_calls (V.Top n keys) ≡ true
unfolding has_no_calls
outside-Top n keys = let o : out-Op (V.Top n keys) ≡ (Op-F.Top n keys) = search (rules, the_lemmas) in ap no_calls_step o

pub outside-Summarize : (g : GroupPlan) → has_no_calls (V.Summarize g) ≡ true
unfolding has_no_calls
outside-Summarize g = let o : out-Op (V.Summarize g) ≡ (Op-F.Summarize g) = search (rules, the_lemmas) in ap no_calls_step o

pub outside-MakeSeries : (p : SeriesPlan) → has_no_calls (V.MakeSeries p) ≡ true
unfolding has_no_calls
outside-MakeSeries p = let o : out-Op (V.MakeSeries p) ≡ (Op-F.MakeSeries p) = search (rules, the_lemmas) in ap no_calls_step o

pub outside-MvExpand : (x : Expand) → has_no_calls (V.MvExpand x) ≡ true
unfolding has_no_calls
outside-MvExpand x = let o : out-Op (V.MvExpand x) ≡ (Op-F.MvExpand x) = search (rules, the_lemmas) in ap no_calls_step o

pub outside-Parse : (p : ParsePlan) → has_no_calls (V.Parse p) ≡ true
unfolding has_no_calls
outside-Parse p = let o : out-Op (V.Parse p) ≡ (Op-F.Parse p) = search (rules, the_lemmas) in ap no_calls_step o

pub outside-Join : (j : JoinPlan) (right : Plan) → has_no_calls (V.Join j right) ≡ true
unfolding has_no_calls
outside-Join j right = let o : out-Op (V.Join j right) ≡ (Op-F.Join j right) = search (rules, the_lemmas) in ap no_calls_step o

pub outside-Union : (inner : Bool) (others : List Plan) → has_no_calls (V.Union inner others) ≡ true
unfolding has_no_calls
outside-Union inner others = let o : out-Op (V.Union inner others) ≡ (Op-F.Union inner others) = search (rules, the_lemmas) in ap no_calls_step o

pub outside-Scan : (p : ScanPlan) → has_no_calls (V.Scan p) ≡ true
unfolding has_no_calls
outside-Scan p = let o : out-Op (V.Scan p) ≡ (Op-F.Scan p) = search (rules, the_lemmas) in ap no_calls_step o

pub outside-Partition : (c : List ℕ) (ops : List Op) → has_no_calls (V.Partition c ops) ≡ true
unfolding has_no_calls
outside-Partition c ops = let o : out-Op (V.Partition c ops) ≡ (Op-F.Partition c ops) = search (rules, the_lemmas) in ap no_calls_step o

pub ruleset outside_steps = (outside-Where, outside-Extend, outside-Project, outside-Take, outside-Count, outside-Serialize, outside-Sort, outside-Top, outside-Summarize, outside-MakeSeries, outside-MvExpand, outside-Parse, outside-Join, outside-Union, outside-Scan, outside-Partition)

-- The plans in an operator.

pub in-Where : (marks : List ℕ) (tables : List NamedSchema) (e : BExpr) → within_is_liftable marks tables (V.Where e) ≡ true
unfolding within_is_liftable
in-Where marks tables e = ap (within_is_liftable marks tables) (sym (V.rolls-Where e)) ∙ para-roll-Op Bool Bool within_step (plan_liftable_step marks tables) (Op-F.Where e)

pub in-Extend : (marks : List ℕ) (tables : List NamedSchema) (items : List BItem) → within_is_liftable marks tables (V.Extend items) ≡ true
unfolding within_is_liftable
in-Extend marks tables items = ap (within_is_liftable marks tables) (sym (V.rolls-Extend items)) ∙ para-roll-Op Bool Bool within_step (plan_liftable_step marks tables) (Op-F.Extend items)

pub in-Project : (marks : List ℕ) (tables : List NamedSchema) (items : List BItem) → within_is_liftable marks tables (V.Project items) ≡ true
unfolding within_is_liftable
in-Project marks tables items = ap (within_is_liftable marks tables) (sym (V.rolls-Project items)) ∙ para-roll-Op Bool Bool within_step (plan_liftable_step marks tables) (Op-F.Project items)

pub in-Take : (marks : List ℕ) (tables : List NamedSchema) (n : ℕ) → within_is_liftable marks tables (V.Take n) ≡ true
unfolding within_is_liftable
in-Take marks tables n = ap (within_is_liftable marks tables) (sym (V.rolls-Take n)) ∙ para-roll-Op Bool Bool within_step (plan_liftable_step marks tables) (Op-F.Take n)

pub in-Count : (marks : List ℕ) (tables : List NamedSchema) → within_is_liftable marks tables V.Count ≡ true
unfolding within_is_liftable
in-Count marks tables = ap (within_is_liftable marks tables) (sym V.rolls-Count) ∙ para-roll-Op Bool Bool within_step (plan_liftable_step marks tables) Op-F.Count

pub in-Serialize : (marks : List ℕ) (tables : List NamedSchema) → within_is_liftable marks tables V.Serialize ≡ true
unfolding within_is_liftable
in-Serialize marks tables = ap (within_is_liftable marks tables) (sym V.rolls-Serialize) ∙ para-roll-Op Bool Bool within_step (plan_liftable_step marks tables) Op-F.Serialize

pub in-Sort : (marks : List ℕ) (tables : List NamedSchema) (keys : List BKey) → within_is_liftable marks tables (V.Sort keys) ≡ true
unfolding within_is_liftable
in-Sort marks tables keys = ap (within_is_liftable marks tables) (sym (V.rolls-Sort keys)) ∙ para-roll-Op Bool Bool within_step (plan_liftable_step marks tables) (Op-F.Sort keys)

pub in-Top : (marks : List ℕ) (tables : List NamedSchema) (n : ℕ) (keys : List BKey) → within_is_liftable marks tables (V.Top n keys) ≡ true
unfolding within_is_liftable
in-Top marks tables n keys = ap (within_is_liftable marks tables) (sym (V.rolls-Top n keys)) ∙ para-roll-Op Bool Bool within_step (plan_liftable_step marks tables) (Op-F.Top n keys)

pub in-Summarize : (marks : List ℕ) (tables : List NamedSchema) (g : GroupPlan) → within_is_liftable marks tables (V.Summarize g) ≡ true
unfolding within_is_liftable
in-Summarize marks tables g = ap (within_is_liftable marks tables) (sym (V.rolls-Summarize g)) ∙ para-roll-Op Bool Bool within_step (plan_liftable_step marks tables) (Op-F.Summarize g)

pub in-MakeSeries : (marks : List ℕ) (tables : List NamedSchema) (p : SeriesPlan) → within_is_liftable marks tables (V.MakeSeries p) ≡ true
unfolding within_is_liftable
in-MakeSeries marks tables p = ap (within_is_liftable marks tables) (sym (V.rolls-MakeSeries p)) ∙ para-roll-Op Bool Bool within_step (plan_liftable_step marks tables) (Op-F.MakeSeries p)

pub in-MvExpand : (marks : List ℕ) (tables : List NamedSchema) (x : Expand) → within_is_liftable marks tables (V.MvExpand x) ≡ true
unfolding within_is_liftable
in-MvExpand marks tables x = ap (within_is_liftable marks tables) (sym (V.rolls-MvExpand x)) ∙ para-roll-Op Bool Bool within_step (plan_liftable_step marks tables) (Op-F.MvExpand x)

pub in-Parse : (marks : List ℕ) (tables : List NamedSchema) (p : ParsePlan) → within_is_liftable marks tables (V.Parse p) ≡ true
unfolding within_is_liftable
in-Parse marks tables p = ap (within_is_liftable marks tables) (sym (V.rolls-Parse p)) ∙ para-roll-Op Bool Bool within_step (plan_liftable_step marks tables) (Op-F.Parse p)

pub in-Join : (marks : List ℕ) (tables : List NamedSchema) (j : JoinPlan) (right : Plan) → within_is_liftable marks tables (V.Join j right) ≡ plan_is_liftable marks tables right
in-Join marks tables j right = steps.within-Join marks tables j right

pub in-Union : (marks : List ℕ) (tables : List NamedSchema) (inner : Bool) (others : List Plan) → within_is_liftable marks tables (V.Union inner others) ≡ list_all (plan_is_liftable marks tables) others
in-Union marks tables inner others = steps.within-Union marks tables inner others

pub in-Scan : (marks : List ℕ) (tables : List NamedSchema) (p : ScanPlan) → within_is_liftable marks tables (V.Scan p) ≡ true
unfolding within_is_liftable
in-Scan marks tables p = ap (within_is_liftable marks tables) (sym (V.rolls-Scan p)) ∙ para-roll-Op Bool Bool within_step (plan_liftable_step marks tables) (Op-F.Scan p)

pub in-Partition : (marks : List ℕ) (tables : List NamedSchema) (c : List ℕ) (ops : List Op) → within_is_liftable marks tables (V.Partition c ops) ≡ list_all (λ (o : Op). has_no_calls o && within_is_liftable marks tables o) ops
in-Partition marks tables c ops = steps.within-Partition marks tables c ops

pub ruleset within_steps = (in-Where, in-Extend, in-Project, in-Take, in-Count, in-Serialize, in-Sort, in-Top, in-Summarize, in-MakeSeries, in-MvExpand, in-Parse, in-Join, in-Union, in-Scan, in-Partition)

pub of-plan : (marks : List ℕ) (tables : List NamedSchema) (p : Plan) → plan_is_liftable marks tables p ≡ (source_is_own marks (table_read p.source) && (ops_are_liftable marks (columns_read tables (table_read p.source)) p.ops && list_all (within_is_liftable marks tables) p.ops))
of-plan marks tables p = steps.liftable-plan marks tables p

pub ruleset plan_steps = (of-plan)
