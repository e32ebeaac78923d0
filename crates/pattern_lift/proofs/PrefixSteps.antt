-- The equations of what an operator is to a prefix, one for each variant.
use Rattle.std.proofs.Common.{◌≡◌, ℕ, Bool, true, false, List, [], ap, rules}
use Rattle.kql_bound.specs.declared.expr.BExpr.{BExpr}
use Rattle.kql_bound.specs.declared.parts.BItem.{BItem}
use Rattle.kql_bound.specs.declared.parts.BKey.{BKey}
use Rattle.kql_bound.specs.declared.parts.Expand.{Expand}
use Rattle.kql_bound.specs.declared.parts.GroupPlan.{GroupPlan}
use Rattle.kql_bound.specs.declared.parts.JoinPlan.{JoinPlan}
use Rattle.kql_bound.specs.declared.parts.ParsePlan.{ParsePlan}
use Rattle.kql_bound.specs.declared.parts.ScanPlan.{ScanPlan}
use Rattle.kql_bound.specs.declared.parts.SeriesPlan.{SeriesPlan}
use Rattle.kql_bound.specs.declared.plan.Op.{Op, out-Op, the_lemmas}
use Rattle.kql_bound.specs.declared.plan.Op.TheOpen.{Op-F}
use Rattle.kql_bound.specs.declared.plan.Op.TheVariants as V
use Rattle.kql_bound.specs.declared.plan.Plan.{Plan}
use Rattle.pattern_lift.specs.Calls.{calls, calls_in_items}
use Rattle.pattern_lift.specs.Lifted.{inside, inside_step, lifted, lifted_items}
use Rattle.pattern_lift.specs.Prefixes.{calls_at, calls_at_step, joins, joins_step, names_set, sets, sets_step}

pub joins-Where : (e : BExpr) → joins (V.Where e) ≡ true
unfolding joins
joins-Where e = let o : out-Op (V.Where e) ≡ (Op-F.Where e) = search (rules, the_lemmas) in ap joins_step o

pub joins-Extend : (items : List BItem) → joins (V.Extend items) ≡ true
unfolding joins
joins-Extend items = let o : out-Op (V.Extend items) ≡ (Op-F.Extend items) = search (rules, the_lemmas) in ap joins_step o

pub joins-Project : (items : List BItem) → joins (V.Project items) ≡ false
unfolding joins
joins-Project items = let o : out-Op (V.Project items) ≡ (Op-F.Project items) = search (rules, the_lemmas) in ap joins_step o

pub joins-Take : (n : ℕ) → joins (V.Take n) ≡ false
unfolding joins
joins-Take n = let o : out-Op (V.Take n) ≡ (Op-F.Take n) = search (rules, the_lemmas) in ap joins_step o

pub joins-Count : joins V.Count ≡ false
unfolding joins
joins-Count = let o : out-Op V.Count ≡ Op-F.Count = search (rules, the_lemmas) in ap joins_step o

pub joins-Serialize : joins V.Serialize ≡ false
unfolding joins
joins-Serialize = let o : out-Op V.Serialize ≡ Op-F.Serialize = search (rules, the_lemmas) in ap joins_step o

pub joins-Sort : (keys : List BKey) → joins (V.Sort keys) ≡ false
unfolding joins
joins-Sort keys = let o : out-Op (V.Sort keys) ≡ (Op-F.Sort keys) = search (rules, the_lemmas) in ap joins_step o

pub joins-Top : (n : ℕ) (keys : List BKey) → joins (V.Top n keys) ≡ false
unfolding joins
joins-Top n keys = let o : out-Op (V.Top n keys) ≡ (Op-F.Top n keys) = search (rules, the_lemmas) in ap joins_step o

pub joins-Summarize : (g : GroupPlan) → joins (V.Summarize g) ≡ false
unfolding joins
joins-Summarize g = let o : out-Op (V.Summarize g) ≡ (Op-F.Summarize g) = search (rules, the_lemmas) in ap joins_step o

pub joins-MakeSeries : (p : SeriesPlan) → joins (V.MakeSeries p) ≡ false
unfolding joins
joins-MakeSeries p = let o : out-Op (V.MakeSeries p) ≡ (Op-F.MakeSeries p) = search (rules, the_lemmas) in ap joins_step o

pub joins-MvExpand : (x : Expand) → joins (V.MvExpand x) ≡ false
unfolding joins
joins-MvExpand x = let o : out-Op (V.MvExpand x) ≡ (Op-F.MvExpand x) = search (rules, the_lemmas) in ap joins_step o

pub joins-Parse : (p : ParsePlan) → joins (V.Parse p) ≡ false
unfolding joins
joins-Parse p = let o : out-Op (V.Parse p) ≡ (Op-F.Parse p) = search (rules, the_lemmas) in ap joins_step o

pub joins-Join : (j : JoinPlan) (right : Plan) → joins (V.Join j right) ≡ false
unfolding joins
joins-Join j right = let o : out-Op (V.Join j right) ≡ (Op-F.Join j right) = search (rules, the_lemmas) in ap joins_step o

pub joins-Union : (inner : Bool) (others : List Plan) → joins (V.Union inner others) ≡ false
unfolding joins
joins-Union inner others = let o : out-Op (V.Union inner others) ≡ (Op-F.Union inner others) = search (rules, the_lemmas) in ap joins_step o

pub joins-Scan : (p : ScanPlan) → joins (V.Scan p) ≡ false
unfolding joins
joins-Scan p = let o : out-Op (V.Scan p) ≡ (Op-F.Scan p) = search (rules, the_lemmas) in ap joins_step o

pub joins-Partition : (c : List ℕ) (ops : List Op) → joins (V.Partition c ops) ≡ false
unfolding joins
joins-Partition c ops = let o : out-Op (V.Partition c ops) ≡ (Op-F.Partition c ops) = search (rules, the_lemmas) in ap joins_step o

pub ruleset join_steps = (joins-Where, joins-Extend, joins-Project, joins-Take, joins-Count, joins-Serialize, joins-Sort, joins-Top, joins-Summarize, joins-MakeSeries, joins-MvExpand, joins-Parse, joins-Join, joins-Union, joins-Scan, joins-Partition)

pub calls-at-Where : (e : BExpr) → calls_at (V.Where e) ≡ calls e
unfolding calls_at
calls-at-Where e = let o : out-Op (V.Where e) ≡ (Op-F.Where e) = search (rules, the_lemmas) in ap calls_at_step o

pub calls-at-Extend : (items : List BItem) → calls_at (V.Extend items) ≡ calls_in_items items
unfolding calls_at
calls-at-Extend items = let o : out-Op (V.Extend items) ≡ (Op-F.Extend items) = search (rules, the_lemmas) in ap calls_at_step o

pub calls-at-Project : (items : List BItem) → calls_at (V.Project items) ≡ []
unfolding calls_at
calls-at-Project items = let o : out-Op (V.Project items) ≡ (Op-F.Project items) = search (rules, the_lemmas) in ap calls_at_step o

pub calls-at-Take : (n : ℕ) → calls_at (V.Take n) ≡ []
unfolding calls_at
calls-at-Take n = let o : out-Op (V.Take n) ≡ (Op-F.Take n) = search (rules, the_lemmas) in ap calls_at_step o

pub calls-at-Count : calls_at V.Count ≡ []
unfolding calls_at
calls-at-Count = let o : out-Op V.Count ≡ Op-F.Count = search (rules, the_lemmas) in ap calls_at_step o

pub calls-at-Serialize : calls_at V.Serialize ≡ []
unfolding calls_at
calls-at-Serialize = let o : out-Op V.Serialize ≡ Op-F.Serialize = search (rules, the_lemmas) in ap calls_at_step o

pub calls-at-Sort : (keys : List BKey) → calls_at (V.Sort keys) ≡ []
unfolding calls_at
calls-at-Sort keys = let o : out-Op (V.Sort keys) ≡ (Op-F.Sort keys) = search (rules, the_lemmas) in ap calls_at_step o

pub calls-at-Top : (n : ℕ) (keys : List BKey) → calls_at (V.Top n keys) ≡ []
unfolding calls_at
calls-at-Top n keys = let o : out-Op (V.Top n keys) ≡ (Op-F.Top n keys) = search (rules, the_lemmas) in ap calls_at_step o

pub calls-at-Summarize : (g : GroupPlan) → calls_at (V.Summarize g) ≡ []
unfolding calls_at
calls-at-Summarize g = let o : out-Op (V.Summarize g) ≡ (Op-F.Summarize g) = search (rules, the_lemmas) in ap calls_at_step o

pub calls-at-MakeSeries : (p : SeriesPlan) → calls_at (V.MakeSeries p) ≡ []
unfolding calls_at
calls-at-MakeSeries p = let o : out-Op (V.MakeSeries p) ≡ (Op-F.MakeSeries p) = search (rules, the_lemmas) in ap calls_at_step o

pub calls-at-MvExpand : (x : Expand) → calls_at (V.MvExpand x) ≡ []
unfolding calls_at
calls-at-MvExpand x = let o : out-Op (V.MvExpand x) ≡ (Op-F.MvExpand x) = search (rules, the_lemmas) in ap calls_at_step o

pub calls-at-Parse : (p : ParsePlan) → calls_at (V.Parse p) ≡ []
unfolding calls_at
calls-at-Parse p = let o : out-Op (V.Parse p) ≡ (Op-F.Parse p) = search (rules, the_lemmas) in ap calls_at_step o

pub calls-at-Join : (j : JoinPlan) (right : Plan) → calls_at (V.Join j right) ≡ []
unfolding calls_at
calls-at-Join j right = let o : out-Op (V.Join j right) ≡ (Op-F.Join j right) = search (rules, the_lemmas) in ap calls_at_step o

pub calls-at-Union : (inner : Bool) (others : List Plan) → calls_at (V.Union inner others) ≡ []
unfolding calls_at
calls-at-Union inner others = let o : out-Op (V.Union inner others) ≡ (Op-F.Union inner others) = search (rules, the_lemmas) in ap calls_at_step o

pub calls-at-Scan : (p : ScanPlan) → calls_at (V.Scan p) ≡ []
unfolding calls_at
calls-at-Scan p = let o : out-Op (V.Scan p) ≡ (Op-F.Scan p) = search (rules, the_lemmas) in ap calls_at_step o

pub calls-at-Partition : (c : List ℕ) (ops : List Op) → calls_at (V.Partition c ops) ≡ []
unfolding calls_at
calls-at-Partition c ops = let o : out-Op (V.Partition c ops) ≡ (Op-F.Partition c ops) = search (rules, the_lemmas) in ap calls_at_step o

pub ruleset call_steps = (calls-at-Where, calls-at-Extend, calls-at-Project, calls-at-Take, calls-at-Count, calls-at-Serialize, calls-at-Sort, calls-at-Top, calls-at-Summarize, calls-at-MakeSeries, calls-at-MvExpand, calls-at-Parse, calls-at-Join, calls-at-Union, calls-at-Scan, calls-at-Partition)

pub sets-Where : (e : BExpr) → sets (V.Where e) ≡ []
unfolding sets
sets-Where e = let o : out-Op (V.Where e) ≡ (Op-F.Where e) = search (rules, the_lemmas) in ap sets_step o

pub sets-Extend : (items : List BItem) → sets (V.Extend items) ≡ names_set items
unfolding sets
sets-Extend items = let o : out-Op (V.Extend items) ≡ (Op-F.Extend items) = search (rules, the_lemmas) in ap sets_step o

pub sets-Project : (items : List BItem) → sets (V.Project items) ≡ []
unfolding sets
sets-Project items = let o : out-Op (V.Project items) ≡ (Op-F.Project items) = search (rules, the_lemmas) in ap sets_step o

pub sets-Take : (n : ℕ) → sets (V.Take n) ≡ []
unfolding sets
sets-Take n = let o : out-Op (V.Take n) ≡ (Op-F.Take n) = search (rules, the_lemmas) in ap sets_step o

pub sets-Count : sets V.Count ≡ []
unfolding sets
sets-Count = let o : out-Op V.Count ≡ Op-F.Count = search (rules, the_lemmas) in ap sets_step o

pub sets-Serialize : sets V.Serialize ≡ []
unfolding sets
sets-Serialize = let o : out-Op V.Serialize ≡ Op-F.Serialize = search (rules, the_lemmas) in ap sets_step o

pub sets-Sort : (keys : List BKey) → sets (V.Sort keys) ≡ []
unfolding sets
sets-Sort keys = let o : out-Op (V.Sort keys) ≡ (Op-F.Sort keys) = search (rules, the_lemmas) in ap sets_step o

pub sets-Top : (n : ℕ) (keys : List BKey) → sets (V.Top n keys) ≡ []
unfolding sets
sets-Top n keys = let o : out-Op (V.Top n keys) ≡ (Op-F.Top n keys) = search (rules, the_lemmas) in ap sets_step o

pub sets-Summarize : (g : GroupPlan) → sets (V.Summarize g) ≡ []
unfolding sets
sets-Summarize g = let o : out-Op (V.Summarize g) ≡ (Op-F.Summarize g) = search (rules, the_lemmas) in ap sets_step o

pub sets-MakeSeries : (p : SeriesPlan) → sets (V.MakeSeries p) ≡ []
unfolding sets
sets-MakeSeries p = let o : out-Op (V.MakeSeries p) ≡ (Op-F.MakeSeries p) = search (rules, the_lemmas) in ap sets_step o

pub sets-MvExpand : (x : Expand) → sets (V.MvExpand x) ≡ []
unfolding sets
sets-MvExpand x = let o : out-Op (V.MvExpand x) ≡ (Op-F.MvExpand x) = search (rules, the_lemmas) in ap sets_step o

pub sets-Parse : (p : ParsePlan) → sets (V.Parse p) ≡ []
unfolding sets
sets-Parse p = let o : out-Op (V.Parse p) ≡ (Op-F.Parse p) = search (rules, the_lemmas) in ap sets_step o

pub sets-Join : (j : JoinPlan) (right : Plan) → sets (V.Join j right) ≡ []
unfolding sets
sets-Join j right = let o : out-Op (V.Join j right) ≡ (Op-F.Join j right) = search (rules, the_lemmas) in ap sets_step o

pub sets-Union : (inner : Bool) (others : List Plan) → sets (V.Union inner others) ≡ []
unfolding sets
sets-Union inner others = let o : out-Op (V.Union inner others) ≡ (Op-F.Union inner others) = search (rules, the_lemmas) in ap sets_step o

pub sets-Scan : (p : ScanPlan) → sets (V.Scan p) ≡ []
unfolding sets
sets-Scan p = let o : out-Op (V.Scan p) ≡ (Op-F.Scan p) = search (rules, the_lemmas) in ap sets_step o

pub sets-Partition : (c : List ℕ) (ops : List Op) → sets (V.Partition c ops) ≡ []
unfolding sets
sets-Partition c ops = let o : out-Op (V.Partition c ops) ≡ (Op-F.Partition c ops) = search (rules, the_lemmas) in ap sets_step o

pub ruleset set_steps = (sets-Where, sets-Extend, sets-Project, sets-Take, sets-Count, sets-Serialize, sets-Sort, sets-Top, sets-Summarize, sets-MakeSeries, sets-MvExpand, sets-Parse, sets-Join, sets-Union, sets-Scan, sets-Partition)

pub inside-Where : (marks : List ℕ) (e : BExpr) → inside marks (V.Where e) ≡ V.Where (lifted marks e)
unfolding inside
inside-Where marks e = let o : out-Op (V.Where e) ≡ (Op-F.Where e) = search (rules, the_lemmas) in ap (inside_step marks (V.Where e)) o

pub inside-Extend : (marks : List ℕ) (items : List BItem) → inside marks (V.Extend items) ≡ V.Extend (lifted_items marks items)
unfolding inside
inside-Extend marks items = let o : out-Op (V.Extend items) ≡ (Op-F.Extend items) = search (rules, the_lemmas) in ap (inside_step marks (V.Extend items)) o

pub inside-Project : (marks : List ℕ) (items : List BItem) → inside marks (V.Project items) ≡ (V.Project items)
unfolding inside
inside-Project marks items = let o : out-Op (V.Project items) ≡ (Op-F.Project items) = search (rules, the_lemmas) in ap (inside_step marks (V.Project items)) o

pub inside-Take : (marks : List ℕ) (n : ℕ) → inside marks (V.Take n) ≡ (V.Take n)
unfolding inside
inside-Take marks n = let o : out-Op (V.Take n) ≡ (Op-F.Take n) = search (rules, the_lemmas) in ap (inside_step marks (V.Take n)) o

pub inside-Count : (marks : List ℕ) → inside marks V.Count ≡ V.Count
unfolding inside
inside-Count marks = let o : out-Op V.Count ≡ Op-F.Count = search (rules, the_lemmas) in ap (inside_step marks V.Count) o

pub inside-Serialize : (marks : List ℕ) → inside marks V.Serialize ≡ V.Serialize
unfolding inside
inside-Serialize marks = let o : out-Op V.Serialize ≡ Op-F.Serialize = search (rules, the_lemmas) in ap (inside_step marks V.Serialize) o

pub inside-Sort : (marks : List ℕ) (keys : List BKey) → inside marks (V.Sort keys) ≡ (V.Sort keys)
unfolding inside
inside-Sort marks keys = let o : out-Op (V.Sort keys) ≡ (Op-F.Sort keys) = search (rules, the_lemmas) in ap (inside_step marks (V.Sort keys)) o

pub inside-Top : (marks : List ℕ) (n : ℕ) (keys : List BKey) → inside marks (V.Top n keys) ≡ (V.Top n keys)
unfolding inside
inside-Top marks n keys = let o : out-Op (V.Top n keys) ≡ (Op-F.Top n keys) = search (rules, the_lemmas) in ap (inside_step marks (V.Top n keys)) o

pub inside-Summarize : (marks : List ℕ) (g : GroupPlan) → inside marks (V.Summarize g) ≡ (V.Summarize g)
unfolding inside
inside-Summarize marks g = let o : out-Op (V.Summarize g) ≡ (Op-F.Summarize g) = search (rules, the_lemmas) in ap (inside_step marks (V.Summarize g)) o

pub inside-MakeSeries : (marks : List ℕ) (p : SeriesPlan) → inside marks (V.MakeSeries p) ≡ (V.MakeSeries p)
unfolding inside
inside-MakeSeries marks p = let o : out-Op (V.MakeSeries p) ≡ (Op-F.MakeSeries p) = search (rules, the_lemmas) in ap (inside_step marks (V.MakeSeries p)) o

pub inside-MvExpand : (marks : List ℕ) (x : Expand) → inside marks (V.MvExpand x) ≡ (V.MvExpand x)
unfolding inside
inside-MvExpand marks x = let o : out-Op (V.MvExpand x) ≡ (Op-F.MvExpand x) = search (rules, the_lemmas) in ap (inside_step marks (V.MvExpand x)) o

pub inside-Parse : (marks : List ℕ) (p : ParsePlan) → inside marks (V.Parse p) ≡ (V.Parse p)
unfolding inside
inside-Parse marks p = let o : out-Op (V.Parse p) ≡ (Op-F.Parse p) = search (rules, the_lemmas) in ap (inside_step marks (V.Parse p)) o

pub inside-Join : (marks : List ℕ) (j : JoinPlan) (right : Plan) → inside marks (V.Join j right) ≡ (V.Join j right)
unfolding inside
inside-Join marks j right = let o : out-Op (V.Join j right) ≡ (Op-F.Join j right) = search (rules, the_lemmas) in ap (inside_step marks (V.Join j right)) o

pub inside-Union : (marks : List ℕ) (inner : Bool) (others : List Plan) → inside marks (V.Union inner others) ≡ (V.Union inner others)
unfolding inside
inside-Union marks inner others = let o : out-Op (V.Union inner others) ≡ (Op-F.Union inner others) = search (rules, the_lemmas) in ap (inside_step marks (V.Union inner others)) o

pub inside-Scan : (marks : List ℕ) (p : ScanPlan) → inside marks (V.Scan p) ≡ (V.Scan p)
unfolding inside
inside-Scan marks p = let o : out-Op (V.Scan p) ≡ (Op-F.Scan p) = search (rules, the_lemmas) in ap (inside_step marks (V.Scan p)) o

pub inside-Partition : (marks : List ℕ) (c : List ℕ) (ops : List Op) → inside marks (V.Partition c ops) ≡ (V.Partition c ops)
unfolding inside
inside-Partition marks c ops = let o : out-Op (V.Partition c ops) ≡ (Op-F.Partition c ops) = search (rules, the_lemmas) in ap (inside_step marks (V.Partition c ops)) o

pub ruleset inside_steps = (inside-Where, inside-Extend, inside-Project, inside-Take, inside-Count, inside-Serialize, inside-Sort, inside-Top, inside-Summarize, inside-MakeSeries, inside-MvExpand, inside-Parse, inside-Join, inside-Union, inside-Scan, inside-Partition)
