-- Which operators hold a plan, one equation for each variant.
use Rattle.std.proofs.Common.{◌≡◌, ap, rules, true, false}
use Rattle.kql_bound.specs.declared.plan.Op.{out-Op, the_lemmas}
use Rattle.kql_bound.specs.declared.plan.Op.TheOpen.{Op-F}
use Rattle.kql_bound.specs.declared.plan.Op.TheVariants as V
use Rattle.phase_forms.specs.Held.{holds_plan, holds_plan_step}

pub holds-Where : (e : _) → holds_plan (V.Where e) ≡ false
unfolding holds_plan
holds-Where e = let is : out-Op (V.Where e) ≡ (Op-F.Where e) = search (rules, the_lemmas) in ap holds_plan_step is

pub holds-Extend : (items : _) → holds_plan (V.Extend items) ≡ false
unfolding holds_plan
holds-Extend items = let is : out-Op (V.Extend items) ≡ (Op-F.Extend items) = search (rules, the_lemmas) in ap holds_plan_step is

pub holds-Project : (items : _) → holds_plan (V.Project items) ≡ false
unfolding holds_plan
holds-Project items = let is : out-Op (V.Project items) ≡ (Op-F.Project items) = search (rules, the_lemmas) in ap holds_plan_step is

pub holds-Take : (n : _) → holds_plan (V.Take n) ≡ false
unfolding holds_plan
holds-Take n = let is : out-Op (V.Take n) ≡ (Op-F.Take n) = search (rules, the_lemmas) in ap holds_plan_step is

pub holds-Count : holds_plan V.Count ≡ false
unfolding holds_plan
holds-Count = let is : out-Op V.Count ≡ Op-F.Count = search (rules, the_lemmas) in ap holds_plan_step is

pub holds-Serialize : holds_plan V.Serialize ≡ false
unfolding holds_plan
holds-Serialize = let is : out-Op V.Serialize ≡ Op-F.Serialize = search (rules, the_lemmas) in ap holds_plan_step is

pub holds-Sort : (keys : _) → holds_plan (V.Sort keys) ≡ false
unfolding holds_plan
holds-Sort keys = let is : out-Op (V.Sort keys) ≡ (Op-F.Sort keys) = search (rules, the_lemmas) in ap holds_plan_step is

pub holds-Top : (n : _) (keys : _) → holds_plan (V.Top n keys) ≡ false
unfolding holds_plan
holds-Top n keys = let is : out-Op (V.Top n keys) ≡ (Op-F.Top n keys) = search (rules, the_lemmas) in ap holds_plan_step is

pub holds-Summarize : (g : _) → holds_plan (V.Summarize g) ≡ false
unfolding holds_plan
holds-Summarize g = let is : out-Op (V.Summarize g) ≡ (Op-F.Summarize g) = search (rules, the_lemmas) in ap holds_plan_step is

pub holds-MakeSeries : (s : _) → holds_plan (V.MakeSeries s) ≡ false
unfolding holds_plan
holds-MakeSeries s = let is : out-Op (V.MakeSeries s) ≡ (Op-F.MakeSeries s) = search (rules, the_lemmas) in ap holds_plan_step is

pub holds-MvExpand : (x : _) → holds_plan (V.MvExpand x) ≡ false
unfolding holds_plan
holds-MvExpand x = let is : out-Op (V.MvExpand x) ≡ (Op-F.MvExpand x) = search (rules, the_lemmas) in ap holds_plan_step is

pub holds-Parse : (p : _) → holds_plan (V.Parse p) ≡ false
unfolding holds_plan
holds-Parse p = let is : out-Op (V.Parse p) ≡ (Op-F.Parse p) = search (rules, the_lemmas) in ap holds_plan_step is

pub holds-Join : (j : _) (right : _) → holds_plan (V.Join j right) ≡ true
unfolding holds_plan
holds-Join j right = let is : out-Op (V.Join j right) ≡ (Op-F.Join j right) = search (rules, the_lemmas) in ap holds_plan_step is

pub holds-Union : (inner : _) (others : _) → holds_plan (V.Union inner others) ≡ true
unfolding holds_plan
holds-Union inner others = let is : out-Op (V.Union inner others) ≡ (Op-F.Union inner others) = search (rules, the_lemmas) in ap holds_plan_step is

pub holds-Scan : (s : _) → holds_plan (V.Scan s) ≡ false
unfolding holds_plan
holds-Scan s = let is : out-Op (V.Scan s) ≡ (Op-F.Scan s) = search (rules, the_lemmas) in ap holds_plan_step is

pub holds-Partition : (column : _) (ops : _) → holds_plan (V.Partition column ops) ≡ false
unfolding holds_plan
holds-Partition column ops = let is : out-Op (V.Partition column ops) ≡ (Op-F.Partition column ops) = search (rules, the_lemmas) in ap holds_plan_step is

pub ruleset held_steps = (holds-Where, holds-Extend, holds-Project, holds-Take, holds-Count, holds-Serialize, holds-Sort, holds-Top, holds-Summarize, holds-MakeSeries, holds-MvExpand, holds-Parse, holds-Join, holds-Union, holds-Scan, holds-Partition)
