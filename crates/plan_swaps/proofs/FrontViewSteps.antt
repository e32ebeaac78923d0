-- The equations of the views of the operators that a filter goes in front of, one for each variant.
use Rattle.std.proofs.Common.{◌≡◌, ap, rules}
use Rattle.std.specs.Prelude.{None, Some}
use Rattle.kql_bound.specs.declared.plan.Op.{Op, out-Op, the_lemmas}
use Rattle.kql_bound.specs.declared.plan.Op.TheOpen.{Op-F}
use Rattle.kql_bound.specs.declared.plan.Op.TheVariants as V
use Rattle.plan_rules.specs.Views.{expand_of, expand_step, extend_of, extend_step, group_of_op, group_step, join_of, join_step, project_of, project_step}

pub extend-Where : (e : _) → extend_of (V.Where e) ≡ None
unfolding extend_of
extend-Where e = let is : out-Op (V.Where e) ≡ (Op-F.Where e) = search (rules, the_lemmas) in ap extend_step is

pub extend-Extend : (items : _) → extend_of (V.Extend items) ≡ Some items
unfolding extend_of
extend-Extend items = let is : out-Op (V.Extend items) ≡ (Op-F.Extend items) = search (rules, the_lemmas) in ap extend_step is

pub extend-Project : (items : _) → extend_of (V.Project items) ≡ None
unfolding extend_of
extend-Project items = let is : out-Op (V.Project items) ≡ (Op-F.Project items) = search (rules, the_lemmas) in ap extend_step is

pub extend-Take : (n : _) → extend_of (V.Take n) ≡ None
unfolding extend_of
extend-Take n = let is : out-Op (V.Take n) ≡ (Op-F.Take n) = search (rules, the_lemmas) in ap extend_step is

pub extend-Count : extend_of V.Count ≡ None
unfolding extend_of
extend-Count = let is : out-Op V.Count ≡ Op-F.Count = search (rules, the_lemmas) in ap extend_step is

pub extend-Serialize : extend_of V.Serialize ≡ None
unfolding extend_of
extend-Serialize = let is : out-Op V.Serialize ≡ Op-F.Serialize = search (rules, the_lemmas) in ap extend_step is

pub extend-Sort : (keys : _) → extend_of (V.Sort keys) ≡ None
unfolding extend_of
extend-Sort keys = let is : out-Op (V.Sort keys) ≡ (Op-F.Sort keys) = search (rules, the_lemmas) in ap extend_step is

pub extend-Top : (n : _) (keys : _) → extend_of (V.Top n keys) ≡ None
unfolding extend_of
extend-Top n keys = let is : out-Op (V.Top n keys) ≡ (Op-F.Top n keys) = search (rules, the_lemmas) in ap extend_step is

pub extend-Summarize : (g : _) → extend_of (V.Summarize g) ≡ None
unfolding extend_of
extend-Summarize g = let is : out-Op (V.Summarize g) ≡ (Op-F.Summarize g) = search (rules, the_lemmas) in ap extend_step is

pub extend-MakeSeries : (s : _) → extend_of (V.MakeSeries s) ≡ None
unfolding extend_of
extend-MakeSeries s = let is : out-Op (V.MakeSeries s) ≡ (Op-F.MakeSeries s) = search (rules, the_lemmas) in ap extend_step is

pub extend-MvExpand : (x : _) → extend_of (V.MvExpand x) ≡ None
unfolding extend_of
extend-MvExpand x = let is : out-Op (V.MvExpand x) ≡ (Op-F.MvExpand x) = search (rules, the_lemmas) in ap extend_step is

pub extend-Parse : (p : _) → extend_of (V.Parse p) ≡ None
unfolding extend_of
extend-Parse p = let is : out-Op (V.Parse p) ≡ (Op-F.Parse p) = search (rules, the_lemmas) in ap extend_step is

pub extend-Join : (j : _) (p : _) → extend_of (V.Join j p) ≡ None
unfolding extend_of
extend-Join j p = let is : out-Op (V.Join j p) ≡ (Op-F.Join j p) = search (rules, the_lemmas) in ap extend_step is

pub extend-Union : (b : _) (ps : _) → extend_of (V.Union b ps) ≡ None
unfolding extend_of
extend-Union b ps = let is : out-Op (V.Union b ps) ≡ (Op-F.Union b ps) = search (rules, the_lemmas) in ap extend_step is

pub extend-Scan : (s : _) → extend_of (V.Scan s) ≡ None
unfolding extend_of
extend-Scan s = let is : out-Op (V.Scan s) ≡ (Op-F.Scan s) = search (rules, the_lemmas) in ap extend_step is

pub extend-Partition : (c : _) (ops : _) → extend_of (V.Partition c ops) ≡ None
unfolding extend_of
extend-Partition c ops = let is : out-Op (V.Partition c ops) ≡ (Op-F.Partition c ops) = search (rules, the_lemmas) in ap extend_step is

pub ruleset extend_steps = (extend-Where, extend-Extend, extend-Project, extend-Take, extend-Count, extend-Serialize, extend-Sort, extend-Top, extend-Summarize, extend-MakeSeries, extend-MvExpand, extend-Parse, extend-Join, extend-Union, extend-Scan, extend-Partition)

pub project-Where : (e : _) → project_of (V.Where e) ≡ None
unfolding project_of
project-Where e = let is : out-Op (V.Where e) ≡ (Op-F.Where e) = search (rules, the_lemmas) in ap project_step is

pub project-Extend : (items : _) → project_of (V.Extend items) ≡ None
unfolding project_of
project-Extend items = let is : out-Op (V.Extend items) ≡ (Op-F.Extend items) = search (rules, the_lemmas) in ap project_step is

pub project-Project : (items : _) → project_of (V.Project items) ≡ Some items
unfolding project_of
project-Project items = let is : out-Op (V.Project items) ≡ (Op-F.Project items) = search (rules, the_lemmas) in ap project_step is

pub project-Take : (n : _) → project_of (V.Take n) ≡ None
unfolding project_of
project-Take n = let is : out-Op (V.Take n) ≡ (Op-F.Take n) = search (rules, the_lemmas) in ap project_step is

pub project-Count : project_of V.Count ≡ None
unfolding project_of
project-Count = let is : out-Op V.Count ≡ Op-F.Count = search (rules, the_lemmas) in ap project_step is

pub project-Serialize : project_of V.Serialize ≡ None
unfolding project_of
project-Serialize = let is : out-Op V.Serialize ≡ Op-F.Serialize = search (rules, the_lemmas) in ap project_step is

pub project-Sort : (keys : _) → project_of (V.Sort keys) ≡ None
unfolding project_of
project-Sort keys = let is : out-Op (V.Sort keys) ≡ (Op-F.Sort keys) = search (rules, the_lemmas) in ap project_step is

pub project-Top : (n : _) (keys : _) → project_of (V.Top n keys) ≡ None
unfolding project_of
project-Top n keys = let is : out-Op (V.Top n keys) ≡ (Op-F.Top n keys) = search (rules, the_lemmas) in ap project_step is

pub project-Summarize : (g : _) → project_of (V.Summarize g) ≡ None
unfolding project_of
project-Summarize g = let is : out-Op (V.Summarize g) ≡ (Op-F.Summarize g) = search (rules, the_lemmas) in ap project_step is

pub project-MakeSeries : (s : _) → project_of (V.MakeSeries s) ≡ None
unfolding project_of
project-MakeSeries s = let is : out-Op (V.MakeSeries s) ≡ (Op-F.MakeSeries s) = search (rules, the_lemmas) in ap project_step is

pub project-MvExpand : (x : _) → project_of (V.MvExpand x) ≡ None
unfolding project_of
project-MvExpand x = let is : out-Op (V.MvExpand x) ≡ (Op-F.MvExpand x) = search (rules, the_lemmas) in ap project_step is

pub project-Parse : (p : _) → project_of (V.Parse p) ≡ None
unfolding project_of
project-Parse p = let is : out-Op (V.Parse p) ≡ (Op-F.Parse p) = search (rules, the_lemmas) in ap project_step is

pub project-Join : (j : _) (p : _) → project_of (V.Join j p) ≡ None
unfolding project_of
project-Join j p = let is : out-Op (V.Join j p) ≡ (Op-F.Join j p) = search (rules, the_lemmas) in ap project_step is

pub project-Union : (b : _) (ps : _) → project_of (V.Union b ps) ≡ None
unfolding project_of
project-Union b ps = let is : out-Op (V.Union b ps) ≡ (Op-F.Union b ps) = search (rules, the_lemmas) in ap project_step is

pub project-Scan : (s : _) → project_of (V.Scan s) ≡ None
unfolding project_of
project-Scan s = let is : out-Op (V.Scan s) ≡ (Op-F.Scan s) = search (rules, the_lemmas) in ap project_step is

pub project-Partition : (c : _) (ops : _) → project_of (V.Partition c ops) ≡ None
unfolding project_of
project-Partition c ops = let is : out-Op (V.Partition c ops) ≡ (Op-F.Partition c ops) = search (rules, the_lemmas) in ap project_step is

pub ruleset project_steps = (project-Where, project-Extend, project-Project, project-Take, project-Count, project-Serialize, project-Sort, project-Top, project-Summarize, project-MakeSeries, project-MvExpand, project-Parse, project-Join, project-Union, project-Scan, project-Partition)

pub expand-Where : (e : _) → expand_of (V.Where e) ≡ None
unfolding expand_of
expand-Where e = let is : out-Op (V.Where e) ≡ (Op-F.Where e) = search (rules, the_lemmas) in ap expand_step is

pub expand-Extend : (items : _) → expand_of (V.Extend items) ≡ None
unfolding expand_of
expand-Extend items = let is : out-Op (V.Extend items) ≡ (Op-F.Extend items) = search (rules, the_lemmas) in ap expand_step is

pub expand-Project : (items : _) → expand_of (V.Project items) ≡ None
unfolding expand_of
expand-Project items = let is : out-Op (V.Project items) ≡ (Op-F.Project items) = search (rules, the_lemmas) in ap expand_step is

pub expand-Take : (n : _) → expand_of (V.Take n) ≡ None
unfolding expand_of
expand-Take n = let is : out-Op (V.Take n) ≡ (Op-F.Take n) = search (rules, the_lemmas) in ap expand_step is

pub expand-Count : expand_of V.Count ≡ None
unfolding expand_of
expand-Count = let is : out-Op V.Count ≡ Op-F.Count = search (rules, the_lemmas) in ap expand_step is

pub expand-Serialize : expand_of V.Serialize ≡ None
unfolding expand_of
expand-Serialize = let is : out-Op V.Serialize ≡ Op-F.Serialize = search (rules, the_lemmas) in ap expand_step is

pub expand-Sort : (keys : _) → expand_of (V.Sort keys) ≡ None
unfolding expand_of
expand-Sort keys = let is : out-Op (V.Sort keys) ≡ (Op-F.Sort keys) = search (rules, the_lemmas) in ap expand_step is

pub expand-Top : (n : _) (keys : _) → expand_of (V.Top n keys) ≡ None
unfolding expand_of
expand-Top n keys = let is : out-Op (V.Top n keys) ≡ (Op-F.Top n keys) = search (rules, the_lemmas) in ap expand_step is

pub expand-Summarize : (g : _) → expand_of (V.Summarize g) ≡ None
unfolding expand_of
expand-Summarize g = let is : out-Op (V.Summarize g) ≡ (Op-F.Summarize g) = search (rules, the_lemmas) in ap expand_step is

pub expand-MakeSeries : (s : _) → expand_of (V.MakeSeries s) ≡ None
unfolding expand_of
expand-MakeSeries s = let is : out-Op (V.MakeSeries s) ≡ (Op-F.MakeSeries s) = search (rules, the_lemmas) in ap expand_step is

pub expand-MvExpand : (x : _) → expand_of (V.MvExpand x) ≡ Some x
unfolding expand_of
expand-MvExpand x = let is : out-Op (V.MvExpand x) ≡ (Op-F.MvExpand x) = search (rules, the_lemmas) in ap expand_step is

pub expand-Parse : (p : _) → expand_of (V.Parse p) ≡ None
unfolding expand_of
expand-Parse p = let is : out-Op (V.Parse p) ≡ (Op-F.Parse p) = search (rules, the_lemmas) in ap expand_step is

pub expand-Join : (j : _) (p : _) → expand_of (V.Join j p) ≡ None
unfolding expand_of
expand-Join j p = let is : out-Op (V.Join j p) ≡ (Op-F.Join j p) = search (rules, the_lemmas) in ap expand_step is

pub expand-Union : (b : _) (ps : _) → expand_of (V.Union b ps) ≡ None
unfolding expand_of
expand-Union b ps = let is : out-Op (V.Union b ps) ≡ (Op-F.Union b ps) = search (rules, the_lemmas) in ap expand_step is

pub expand-Scan : (s : _) → expand_of (V.Scan s) ≡ None
unfolding expand_of
expand-Scan s = let is : out-Op (V.Scan s) ≡ (Op-F.Scan s) = search (rules, the_lemmas) in ap expand_step is

pub expand-Partition : (c : _) (ops : _) → expand_of (V.Partition c ops) ≡ None
unfolding expand_of
expand-Partition c ops = let is : out-Op (V.Partition c ops) ≡ (Op-F.Partition c ops) = search (rules, the_lemmas) in ap expand_step is

pub ruleset expand_steps = (expand-Where, expand-Extend, expand-Project, expand-Take, expand-Count, expand-Serialize, expand-Sort, expand-Top, expand-Summarize, expand-MakeSeries, expand-MvExpand, expand-Parse, expand-Join, expand-Union, expand-Scan, expand-Partition)

pub join-Where : (e : _) → join_of (V.Where e) ≡ None
unfolding join_of
join-Where e = let is : out-Op (V.Where e) ≡ (Op-F.Where e) = search (rules, the_lemmas) in ap join_step is

pub join-Extend : (items : _) → join_of (V.Extend items) ≡ None
unfolding join_of
join-Extend items = let is : out-Op (V.Extend items) ≡ (Op-F.Extend items) = search (rules, the_lemmas) in ap join_step is

pub join-Project : (items : _) → join_of (V.Project items) ≡ None
unfolding join_of
join-Project items = let is : out-Op (V.Project items) ≡ (Op-F.Project items) = search (rules, the_lemmas) in ap join_step is

pub join-Take : (n : _) → join_of (V.Take n) ≡ None
unfolding join_of
join-Take n = let is : out-Op (V.Take n) ≡ (Op-F.Take n) = search (rules, the_lemmas) in ap join_step is

pub join-Count : join_of V.Count ≡ None
unfolding join_of
join-Count = let is : out-Op V.Count ≡ Op-F.Count = search (rules, the_lemmas) in ap join_step is

pub join-Serialize : join_of V.Serialize ≡ None
unfolding join_of
join-Serialize = let is : out-Op V.Serialize ≡ Op-F.Serialize = search (rules, the_lemmas) in ap join_step is

pub join-Sort : (keys : _) → join_of (V.Sort keys) ≡ None
unfolding join_of
join-Sort keys = let is : out-Op (V.Sort keys) ≡ (Op-F.Sort keys) = search (rules, the_lemmas) in ap join_step is

pub join-Top : (n : _) (keys : _) → join_of (V.Top n keys) ≡ None
unfolding join_of
join-Top n keys = let is : out-Op (V.Top n keys) ≡ (Op-F.Top n keys) = search (rules, the_lemmas) in ap join_step is

pub join-Summarize : (g : _) → join_of (V.Summarize g) ≡ None
unfolding join_of
join-Summarize g = let is : out-Op (V.Summarize g) ≡ (Op-F.Summarize g) = search (rules, the_lemmas) in ap join_step is

pub join-MakeSeries : (s : _) → join_of (V.MakeSeries s) ≡ None
unfolding join_of
join-MakeSeries s = let is : out-Op (V.MakeSeries s) ≡ (Op-F.MakeSeries s) = search (rules, the_lemmas) in ap join_step is

pub join-MvExpand : (x : _) → join_of (V.MvExpand x) ≡ None
unfolding join_of
join-MvExpand x = let is : out-Op (V.MvExpand x) ≡ (Op-F.MvExpand x) = search (rules, the_lemmas) in ap join_step is

pub join-Parse : (p : _) → join_of (V.Parse p) ≡ None
unfolding join_of
join-Parse p = let is : out-Op (V.Parse p) ≡ (Op-F.Parse p) = search (rules, the_lemmas) in ap join_step is

pub join-Join : (j : _) (p : _) → join_of (V.Join j p) ≡ Some (j, p)
unfolding join_of
join-Join j p = let is : out-Op (V.Join j p) ≡ (Op-F.Join j p) = search (rules, the_lemmas) in ap join_step is

pub join-Union : (b : _) (ps : _) → join_of (V.Union b ps) ≡ None
unfolding join_of
join-Union b ps = let is : out-Op (V.Union b ps) ≡ (Op-F.Union b ps) = search (rules, the_lemmas) in ap join_step is

pub join-Scan : (s : _) → join_of (V.Scan s) ≡ None
unfolding join_of
join-Scan s = let is : out-Op (V.Scan s) ≡ (Op-F.Scan s) = search (rules, the_lemmas) in ap join_step is

pub join-Partition : (c : _) (ops : _) → join_of (V.Partition c ops) ≡ None
unfolding join_of
join-Partition c ops = let is : out-Op (V.Partition c ops) ≡ (Op-F.Partition c ops) = search (rules, the_lemmas) in ap join_step is

pub ruleset join_steps = (join-Where, join-Extend, join-Project, join-Take, join-Count, join-Serialize, join-Sort, join-Top, join-Summarize, join-MakeSeries, join-MvExpand, join-Parse, join-Join, join-Union, join-Scan, join-Partition)

pub group-Where : (e : _) → group_of_op (V.Where e) ≡ None
unfolding group_of_op
group-Where e = let is : out-Op (V.Where e) ≡ (Op-F.Where e) = search (rules, the_lemmas) in ap group_step is

pub group-Extend : (items : _) → group_of_op (V.Extend items) ≡ None
unfolding group_of_op
group-Extend items = let is : out-Op (V.Extend items) ≡ (Op-F.Extend items) = search (rules, the_lemmas) in ap group_step is

pub group-Project : (items : _) → group_of_op (V.Project items) ≡ None
unfolding group_of_op
group-Project items = let is : out-Op (V.Project items) ≡ (Op-F.Project items) = search (rules, the_lemmas) in ap group_step is

pub group-Take : (n : _) → group_of_op (V.Take n) ≡ None
unfolding group_of_op
group-Take n = let is : out-Op (V.Take n) ≡ (Op-F.Take n) = search (rules, the_lemmas) in ap group_step is

pub group-Count : group_of_op V.Count ≡ None
unfolding group_of_op
group-Count = let is : out-Op V.Count ≡ Op-F.Count = search (rules, the_lemmas) in ap group_step is

pub group-Serialize : group_of_op V.Serialize ≡ None
unfolding group_of_op
group-Serialize = let is : out-Op V.Serialize ≡ Op-F.Serialize = search (rules, the_lemmas) in ap group_step is

pub group-Sort : (keys : _) → group_of_op (V.Sort keys) ≡ None
unfolding group_of_op
group-Sort keys = let is : out-Op (V.Sort keys) ≡ (Op-F.Sort keys) = search (rules, the_lemmas) in ap group_step is

pub group-Top : (n : _) (keys : _) → group_of_op (V.Top n keys) ≡ None
unfolding group_of_op
group-Top n keys = let is : out-Op (V.Top n keys) ≡ (Op-F.Top n keys) = search (rules, the_lemmas) in ap group_step is

pub group-Summarize : (g : _) → group_of_op (V.Summarize g) ≡ Some g
unfolding group_of_op
group-Summarize g = let is : out-Op (V.Summarize g) ≡ (Op-F.Summarize g) = search (rules, the_lemmas) in ap group_step is

pub group-MakeSeries : (s : _) → group_of_op (V.MakeSeries s) ≡ None
unfolding group_of_op
group-MakeSeries s = let is : out-Op (V.MakeSeries s) ≡ (Op-F.MakeSeries s) = search (rules, the_lemmas) in ap group_step is

pub group-MvExpand : (x : _) → group_of_op (V.MvExpand x) ≡ None
unfolding group_of_op
group-MvExpand x = let is : out-Op (V.MvExpand x) ≡ (Op-F.MvExpand x) = search (rules, the_lemmas) in ap group_step is

pub group-Parse : (p : _) → group_of_op (V.Parse p) ≡ None
unfolding group_of_op
group-Parse p = let is : out-Op (V.Parse p) ≡ (Op-F.Parse p) = search (rules, the_lemmas) in ap group_step is

pub group-Join : (j : _) (p : _) → group_of_op (V.Join j p) ≡ None
unfolding group_of_op
group-Join j p = let is : out-Op (V.Join j p) ≡ (Op-F.Join j p) = search (rules, the_lemmas) in ap group_step is

pub group-Union : (b : _) (ps : _) → group_of_op (V.Union b ps) ≡ None
unfolding group_of_op
group-Union b ps = let is : out-Op (V.Union b ps) ≡ (Op-F.Union b ps) = search (rules, the_lemmas) in ap group_step is

pub group-Scan : (s : _) → group_of_op (V.Scan s) ≡ None
unfolding group_of_op
group-Scan s = let is : out-Op (V.Scan s) ≡ (Op-F.Scan s) = search (rules, the_lemmas) in ap group_step is

pub group-Partition : (c : _) (ops : _) → group_of_op (V.Partition c ops) ≡ None
unfolding group_of_op
group-Partition c ops = let is : out-Op (V.Partition c ops) ≡ (Op-F.Partition c ops) = search (rules, the_lemmas) in ap group_step is

pub ruleset group_steps = (group-Where, group-Extend, group-Project, group-Take, group-Count, group-Serialize, group-Sort, group-Top, group-Summarize, group-MakeSeries, group-MvExpand, group-Parse, group-Join, group-Union, group-Scan, group-Partition)
