-- The equations of the views, one for each variant.
use Rattle.std.proofs.Common.{◌≡◌, ap, rules, true, false}
use Rattle.std.specs.Prelude.{None, Some}
use Rattle.kql_bound.specs.declared.plan.Op.{Op, out-Op, the_lemmas}
use Rattle.kql_bound.specs.declared.plan.Op.TheOpen.{Op-F}
use Rattle.kql_bound.specs.declared.plan.Op.TheVariants as V
use Rattle.plan_rules.specs.Views.{filter_of, filter_step, is_count, is_count_step, is_serialize, is_serialize_step, keeps_count, keeps_count_step, parse_of, parse_step, sort_of, sort_step, take_of, take_step, top_of, top_step}

pub filter-Where : (e : _) → filter_of (V.Where e) ≡ Some e
unfolding filter_of
filter-Where e = let is : out-Op (V.Where e) ≡ (Op-F.Where e) = search (rules, the_lemmas) in ap filter_step is

pub filter-Extend : (items : _) → filter_of (V.Extend items) ≡ None
unfolding filter_of
filter-Extend items = let is : out-Op (V.Extend items) ≡ (Op-F.Extend items) = search (rules, the_lemmas) in ap filter_step is

pub filter-Project : (items : _) → filter_of (V.Project items) ≡ None
unfolding filter_of
filter-Project items = let is : out-Op (V.Project items) ≡ (Op-F.Project items) = search (rules, the_lemmas) in ap filter_step is

pub filter-Take : (n : _) → filter_of (V.Take n) ≡ None
unfolding filter_of
filter-Take n = let is : out-Op (V.Take n) ≡ (Op-F.Take n) = search (rules, the_lemmas) in ap filter_step is

pub filter-Count : filter_of V.Count ≡ None
unfolding filter_of
filter-Count = let is : out-Op V.Count ≡ Op-F.Count = search (rules, the_lemmas) in ap filter_step is

pub filter-Serialize : filter_of V.Serialize ≡ None
unfolding filter_of
filter-Serialize = let is : out-Op V.Serialize ≡ Op-F.Serialize = search (rules, the_lemmas) in ap filter_step is

pub filter-Sort : (keys : _) → filter_of (V.Sort keys) ≡ None
unfolding filter_of
filter-Sort keys = let is : out-Op (V.Sort keys) ≡ (Op-F.Sort keys) = search (rules, the_lemmas) in ap filter_step is

pub filter-Top : (n : _) (keys : _) → filter_of (V.Top n keys) ≡ None
unfolding filter_of
filter-Top n keys = let is : out-Op (V.Top n keys) ≡ (Op-F.Top n keys) = search (rules, the_lemmas) in ap filter_step is

pub filter-Summarize : (g : _) → filter_of (V.Summarize g) ≡ None
unfolding filter_of
filter-Summarize g = let is : out-Op (V.Summarize g) ≡ (Op-F.Summarize g) = search (rules, the_lemmas) in ap filter_step is

pub filter-MakeSeries : (s : _) → filter_of (V.MakeSeries s) ≡ None
unfolding filter_of
filter-MakeSeries s = let is : out-Op (V.MakeSeries s) ≡ (Op-F.MakeSeries s) = search (rules, the_lemmas) in ap filter_step is

pub filter-MvExpand : (x : _) → filter_of (V.MvExpand x) ≡ None
unfolding filter_of
filter-MvExpand x = let is : out-Op (V.MvExpand x) ≡ (Op-F.MvExpand x) = search (rules, the_lemmas) in ap filter_step is

pub filter-Parse : (p : _) → filter_of (V.Parse p) ≡ None
unfolding filter_of
filter-Parse p = let is : out-Op (V.Parse p) ≡ (Op-F.Parse p) = search (rules, the_lemmas) in ap filter_step is

pub filter-Join : (j : _) (p : _) → filter_of (V.Join j p) ≡ None
unfolding filter_of
filter-Join j p = let is : out-Op (V.Join j p) ≡ (Op-F.Join j p) = search (rules, the_lemmas) in ap filter_step is

pub filter-Union : (b : _) (ps : _) → filter_of (V.Union b ps) ≡ None
unfolding filter_of
filter-Union b ps = let is : out-Op (V.Union b ps) ≡ (Op-F.Union b ps) = search (rules, the_lemmas) in ap filter_step is

pub filter-Scan : (s : _) → filter_of (V.Scan s) ≡ None
unfolding filter_of
filter-Scan s = let is : out-Op (V.Scan s) ≡ (Op-F.Scan s) = search (rules, the_lemmas) in ap filter_step is

pub filter-Partition : (c : _) (ops : _) → filter_of (V.Partition c ops) ≡ None
unfolding filter_of
filter-Partition c ops = let is : out-Op (V.Partition c ops) ≡ (Op-F.Partition c ops) = search (rules, the_lemmas) in ap filter_step is

pub ruleset filter_steps = (filter-Where, filter-Extend, filter-Project, filter-Take, filter-Count, filter-Serialize, filter-Sort, filter-Top, filter-Summarize, filter-MakeSeries, filter-MvExpand, filter-Parse, filter-Join, filter-Union, filter-Scan, filter-Partition)

pub take-Where : (e : _) → take_of (V.Where e) ≡ None
unfolding take_of
take-Where e = let is : out-Op (V.Where e) ≡ (Op-F.Where e) = search (rules, the_lemmas) in ap take_step is

pub take-Extend : (items : _) → take_of (V.Extend items) ≡ None
unfolding take_of
take-Extend items = let is : out-Op (V.Extend items) ≡ (Op-F.Extend items) = search (rules, the_lemmas) in ap take_step is

pub take-Project : (items : _) → take_of (V.Project items) ≡ None
unfolding take_of
take-Project items = let is : out-Op (V.Project items) ≡ (Op-F.Project items) = search (rules, the_lemmas) in ap take_step is

pub take-Take : (n : _) → take_of (V.Take n) ≡ Some n
unfolding take_of
take-Take n = let is : out-Op (V.Take n) ≡ (Op-F.Take n) = search (rules, the_lemmas) in ap take_step is

pub take-Count : take_of V.Count ≡ None
unfolding take_of
take-Count = let is : out-Op V.Count ≡ Op-F.Count = search (rules, the_lemmas) in ap take_step is

pub take-Serialize : take_of V.Serialize ≡ None
unfolding take_of
take-Serialize = let is : out-Op V.Serialize ≡ Op-F.Serialize = search (rules, the_lemmas) in ap take_step is

pub take-Sort : (keys : _) → take_of (V.Sort keys) ≡ None
unfolding take_of
take-Sort keys = let is : out-Op (V.Sort keys) ≡ (Op-F.Sort keys) = search (rules, the_lemmas) in ap take_step is

pub take-Top : (n : _) (keys : _) → take_of (V.Top n keys) ≡ None
unfolding take_of
take-Top n keys = let is : out-Op (V.Top n keys) ≡ (Op-F.Top n keys) = search (rules, the_lemmas) in ap take_step is

pub take-Summarize : (g : _) → take_of (V.Summarize g) ≡ None
unfolding take_of
take-Summarize g = let is : out-Op (V.Summarize g) ≡ (Op-F.Summarize g) = search (rules, the_lemmas) in ap take_step is

pub take-MakeSeries : (s : _) → take_of (V.MakeSeries s) ≡ None
unfolding take_of
take-MakeSeries s = let is : out-Op (V.MakeSeries s) ≡ (Op-F.MakeSeries s) = search (rules, the_lemmas) in ap take_step is

pub take-MvExpand : (x : _) → take_of (V.MvExpand x) ≡ None
unfolding take_of
take-MvExpand x = let is : out-Op (V.MvExpand x) ≡ (Op-F.MvExpand x) = search (rules, the_lemmas) in ap take_step is

pub take-Parse : (p : _) → take_of (V.Parse p) ≡ None
unfolding take_of
take-Parse p = let is : out-Op (V.Parse p) ≡ (Op-F.Parse p) = search (rules, the_lemmas) in ap take_step is

pub take-Join : (j : _) (p : _) → take_of (V.Join j p) ≡ None
unfolding take_of
take-Join j p = let is : out-Op (V.Join j p) ≡ (Op-F.Join j p) = search (rules, the_lemmas) in ap take_step is

pub take-Union : (b : _) (ps : _) → take_of (V.Union b ps) ≡ None
unfolding take_of
take-Union b ps = let is : out-Op (V.Union b ps) ≡ (Op-F.Union b ps) = search (rules, the_lemmas) in ap take_step is

pub take-Scan : (s : _) → take_of (V.Scan s) ≡ None
unfolding take_of
take-Scan s = let is : out-Op (V.Scan s) ≡ (Op-F.Scan s) = search (rules, the_lemmas) in ap take_step is

pub take-Partition : (c : _) (ops : _) → take_of (V.Partition c ops) ≡ None
unfolding take_of
take-Partition c ops = let is : out-Op (V.Partition c ops) ≡ (Op-F.Partition c ops) = search (rules, the_lemmas) in ap take_step is

pub ruleset take_steps = (take-Where, take-Extend, take-Project, take-Take, take-Count, take-Serialize, take-Sort, take-Top, take-Summarize, take-MakeSeries, take-MvExpand, take-Parse, take-Join, take-Union, take-Scan, take-Partition)

pub sort-Where : (e : _) → sort_of (V.Where e) ≡ None
unfolding sort_of
sort-Where e = let is : out-Op (V.Where e) ≡ (Op-F.Where e) = search (rules, the_lemmas) in ap sort_step is

pub sort-Extend : (items : _) → sort_of (V.Extend items) ≡ None
unfolding sort_of
sort-Extend items = let is : out-Op (V.Extend items) ≡ (Op-F.Extend items) = search (rules, the_lemmas) in ap sort_step is

pub sort-Project : (items : _) → sort_of (V.Project items) ≡ None
unfolding sort_of
sort-Project items = let is : out-Op (V.Project items) ≡ (Op-F.Project items) = search (rules, the_lemmas) in ap sort_step is

pub sort-Take : (n : _) → sort_of (V.Take n) ≡ None
unfolding sort_of
sort-Take n = let is : out-Op (V.Take n) ≡ (Op-F.Take n) = search (rules, the_lemmas) in ap sort_step is

pub sort-Count : sort_of V.Count ≡ None
unfolding sort_of
sort-Count = let is : out-Op V.Count ≡ Op-F.Count = search (rules, the_lemmas) in ap sort_step is

pub sort-Serialize : sort_of V.Serialize ≡ None
unfolding sort_of
sort-Serialize = let is : out-Op V.Serialize ≡ Op-F.Serialize = search (rules, the_lemmas) in ap sort_step is

pub sort-Sort : (keys : _) → sort_of (V.Sort keys) ≡ Some keys
unfolding sort_of
sort-Sort keys = let is : out-Op (V.Sort keys) ≡ (Op-F.Sort keys) = search (rules, the_lemmas) in ap sort_step is

pub sort-Top : (n : _) (keys : _) → sort_of (V.Top n keys) ≡ None
unfolding sort_of
sort-Top n keys = let is : out-Op (V.Top n keys) ≡ (Op-F.Top n keys) = search (rules, the_lemmas) in ap sort_step is

pub sort-Summarize : (g : _) → sort_of (V.Summarize g) ≡ None
unfolding sort_of
sort-Summarize g = let is : out-Op (V.Summarize g) ≡ (Op-F.Summarize g) = search (rules, the_lemmas) in ap sort_step is

pub sort-MakeSeries : (s : _) → sort_of (V.MakeSeries s) ≡ None
unfolding sort_of
sort-MakeSeries s = let is : out-Op (V.MakeSeries s) ≡ (Op-F.MakeSeries s) = search (rules, the_lemmas) in ap sort_step is

pub sort-MvExpand : (x : _) → sort_of (V.MvExpand x) ≡ None
unfolding sort_of
sort-MvExpand x = let is : out-Op (V.MvExpand x) ≡ (Op-F.MvExpand x) = search (rules, the_lemmas) in ap sort_step is

pub sort-Parse : (p : _) → sort_of (V.Parse p) ≡ None
unfolding sort_of
sort-Parse p = let is : out-Op (V.Parse p) ≡ (Op-F.Parse p) = search (rules, the_lemmas) in ap sort_step is

pub sort-Join : (j : _) (p : _) → sort_of (V.Join j p) ≡ None
unfolding sort_of
sort-Join j p = let is : out-Op (V.Join j p) ≡ (Op-F.Join j p) = search (rules, the_lemmas) in ap sort_step is

pub sort-Union : (b : _) (ps : _) → sort_of (V.Union b ps) ≡ None
unfolding sort_of
sort-Union b ps = let is : out-Op (V.Union b ps) ≡ (Op-F.Union b ps) = search (rules, the_lemmas) in ap sort_step is

pub sort-Scan : (s : _) → sort_of (V.Scan s) ≡ None
unfolding sort_of
sort-Scan s = let is : out-Op (V.Scan s) ≡ (Op-F.Scan s) = search (rules, the_lemmas) in ap sort_step is

pub sort-Partition : (c : _) (ops : _) → sort_of (V.Partition c ops) ≡ None
unfolding sort_of
sort-Partition c ops = let is : out-Op (V.Partition c ops) ≡ (Op-F.Partition c ops) = search (rules, the_lemmas) in ap sort_step is

pub ruleset sort_steps = (sort-Where, sort-Extend, sort-Project, sort-Take, sort-Count, sort-Serialize, sort-Sort, sort-Top, sort-Summarize, sort-MakeSeries, sort-MvExpand, sort-Parse, sort-Join, sort-Union, sort-Scan, sort-Partition)

pub top-Where : (e : _) → top_of (V.Where e) ≡ None
unfolding top_of
top-Where e = let is : out-Op (V.Where e) ≡ (Op-F.Where e) = search (rules, the_lemmas) in ap top_step is

pub top-Extend : (items : _) → top_of (V.Extend items) ≡ None
unfolding top_of
top-Extend items = let is : out-Op (V.Extend items) ≡ (Op-F.Extend items) = search (rules, the_lemmas) in ap top_step is

pub top-Project : (items : _) → top_of (V.Project items) ≡ None
unfolding top_of
top-Project items = let is : out-Op (V.Project items) ≡ (Op-F.Project items) = search (rules, the_lemmas) in ap top_step is

pub top-Take : (n : _) → top_of (V.Take n) ≡ None
unfolding top_of
top-Take n = let is : out-Op (V.Take n) ≡ (Op-F.Take n) = search (rules, the_lemmas) in ap top_step is

pub top-Count : top_of V.Count ≡ None
unfolding top_of
top-Count = let is : out-Op V.Count ≡ Op-F.Count = search (rules, the_lemmas) in ap top_step is

pub top-Serialize : top_of V.Serialize ≡ None
unfolding top_of
top-Serialize = let is : out-Op V.Serialize ≡ Op-F.Serialize = search (rules, the_lemmas) in ap top_step is

pub top-Sort : (keys : _) → top_of (V.Sort keys) ≡ None
unfolding top_of
top-Sort keys = let is : out-Op (V.Sort keys) ≡ (Op-F.Sort keys) = search (rules, the_lemmas) in ap top_step is

pub top-Top : (n : _) (keys : _) → top_of (V.Top n keys) ≡ Some (n, keys)
unfolding top_of
top-Top n keys = let is : out-Op (V.Top n keys) ≡ (Op-F.Top n keys) = search (rules, the_lemmas) in ap top_step is

pub top-Summarize : (g : _) → top_of (V.Summarize g) ≡ None
unfolding top_of
top-Summarize g = let is : out-Op (V.Summarize g) ≡ (Op-F.Summarize g) = search (rules, the_lemmas) in ap top_step is

pub top-MakeSeries : (s : _) → top_of (V.MakeSeries s) ≡ None
unfolding top_of
top-MakeSeries s = let is : out-Op (V.MakeSeries s) ≡ (Op-F.MakeSeries s) = search (rules, the_lemmas) in ap top_step is

pub top-MvExpand : (x : _) → top_of (V.MvExpand x) ≡ None
unfolding top_of
top-MvExpand x = let is : out-Op (V.MvExpand x) ≡ (Op-F.MvExpand x) = search (rules, the_lemmas) in ap top_step is

pub top-Parse : (p : _) → top_of (V.Parse p) ≡ None
unfolding top_of
top-Parse p = let is : out-Op (V.Parse p) ≡ (Op-F.Parse p) = search (rules, the_lemmas) in ap top_step is

pub top-Join : (j : _) (p : _) → top_of (V.Join j p) ≡ None
unfolding top_of
top-Join j p = let is : out-Op (V.Join j p) ≡ (Op-F.Join j p) = search (rules, the_lemmas) in ap top_step is

pub top-Union : (b : _) (ps : _) → top_of (V.Union b ps) ≡ None
unfolding top_of
top-Union b ps = let is : out-Op (V.Union b ps) ≡ (Op-F.Union b ps) = search (rules, the_lemmas) in ap top_step is

pub top-Scan : (s : _) → top_of (V.Scan s) ≡ None
unfolding top_of
top-Scan s = let is : out-Op (V.Scan s) ≡ (Op-F.Scan s) = search (rules, the_lemmas) in ap top_step is

pub top-Partition : (c : _) (ops : _) → top_of (V.Partition c ops) ≡ None
unfolding top_of
top-Partition c ops = let is : out-Op (V.Partition c ops) ≡ (Op-F.Partition c ops) = search (rules, the_lemmas) in ap top_step is

pub ruleset top_steps = (top-Where, top-Extend, top-Project, top-Take, top-Count, top-Serialize, top-Sort, top-Top, top-Summarize, top-MakeSeries, top-MvExpand, top-Parse, top-Join, top-Union, top-Scan, top-Partition)

pub parse-Where : (e : _) → parse_of (V.Where e) ≡ None
unfolding parse_of
parse-Where e = let is : out-Op (V.Where e) ≡ (Op-F.Where e) = search (rules, the_lemmas) in ap parse_step is

pub parse-Extend : (items : _) → parse_of (V.Extend items) ≡ None
unfolding parse_of
parse-Extend items = let is : out-Op (V.Extend items) ≡ (Op-F.Extend items) = search (rules, the_lemmas) in ap parse_step is

pub parse-Project : (items : _) → parse_of (V.Project items) ≡ None
unfolding parse_of
parse-Project items = let is : out-Op (V.Project items) ≡ (Op-F.Project items) = search (rules, the_lemmas) in ap parse_step is

pub parse-Take : (n : _) → parse_of (V.Take n) ≡ None
unfolding parse_of
parse-Take n = let is : out-Op (V.Take n) ≡ (Op-F.Take n) = search (rules, the_lemmas) in ap parse_step is

pub parse-Count : parse_of V.Count ≡ None
unfolding parse_of
parse-Count = let is : out-Op V.Count ≡ Op-F.Count = search (rules, the_lemmas) in ap parse_step is

pub parse-Serialize : parse_of V.Serialize ≡ None
unfolding parse_of
parse-Serialize = let is : out-Op V.Serialize ≡ Op-F.Serialize = search (rules, the_lemmas) in ap parse_step is

pub parse-Sort : (keys : _) → parse_of (V.Sort keys) ≡ None
unfolding parse_of
parse-Sort keys = let is : out-Op (V.Sort keys) ≡ (Op-F.Sort keys) = search (rules, the_lemmas) in ap parse_step is

pub parse-Top : (n : _) (keys : _) → parse_of (V.Top n keys) ≡ None
unfolding parse_of
parse-Top n keys = let is : out-Op (V.Top n keys) ≡ (Op-F.Top n keys) = search (rules, the_lemmas) in ap parse_step is

pub parse-Summarize : (g : _) → parse_of (V.Summarize g) ≡ None
unfolding parse_of
parse-Summarize g = let is : out-Op (V.Summarize g) ≡ (Op-F.Summarize g) = search (rules, the_lemmas) in ap parse_step is

pub parse-MakeSeries : (s : _) → parse_of (V.MakeSeries s) ≡ None
unfolding parse_of
parse-MakeSeries s = let is : out-Op (V.MakeSeries s) ≡ (Op-F.MakeSeries s) = search (rules, the_lemmas) in ap parse_step is

pub parse-MvExpand : (x : _) → parse_of (V.MvExpand x) ≡ None
unfolding parse_of
parse-MvExpand x = let is : out-Op (V.MvExpand x) ≡ (Op-F.MvExpand x) = search (rules, the_lemmas) in ap parse_step is

pub parse-Parse : (p : _) → parse_of (V.Parse p) ≡ Some p
unfolding parse_of
parse-Parse p = let is : out-Op (V.Parse p) ≡ (Op-F.Parse p) = search (rules, the_lemmas) in ap parse_step is

pub parse-Join : (j : _) (p : _) → parse_of (V.Join j p) ≡ None
unfolding parse_of
parse-Join j p = let is : out-Op (V.Join j p) ≡ (Op-F.Join j p) = search (rules, the_lemmas) in ap parse_step is

pub parse-Union : (b : _) (ps : _) → parse_of (V.Union b ps) ≡ None
unfolding parse_of
parse-Union b ps = let is : out-Op (V.Union b ps) ≡ (Op-F.Union b ps) = search (rules, the_lemmas) in ap parse_step is

pub parse-Scan : (s : _) → parse_of (V.Scan s) ≡ None
unfolding parse_of
parse-Scan s = let is : out-Op (V.Scan s) ≡ (Op-F.Scan s) = search (rules, the_lemmas) in ap parse_step is

pub parse-Partition : (c : _) (ops : _) → parse_of (V.Partition c ops) ≡ None
unfolding parse_of
parse-Partition c ops = let is : out-Op (V.Partition c ops) ≡ (Op-F.Partition c ops) = search (rules, the_lemmas) in ap parse_step is

pub ruleset parse_steps = (parse-Where, parse-Extend, parse-Project, parse-Take, parse-Count, parse-Serialize, parse-Sort, parse-Top, parse-Summarize, parse-MakeSeries, parse-MvExpand, parse-Parse, parse-Join, parse-Union, parse-Scan, parse-Partition)

pub count-Where : (e : _) → is_count (V.Where e) ≡ false
unfolding is_count
count-Where e = let is : out-Op (V.Where e) ≡ (Op-F.Where e) = search (rules, the_lemmas) in ap is_count_step is

pub count-Extend : (items : _) → is_count (V.Extend items) ≡ false
unfolding is_count
count-Extend items = let is : out-Op (V.Extend items) ≡ (Op-F.Extend items) = search (rules, the_lemmas) in ap is_count_step is

pub count-Project : (items : _) → is_count (V.Project items) ≡ false
unfolding is_count
count-Project items = let is : out-Op (V.Project items) ≡ (Op-F.Project items) = search (rules, the_lemmas) in ap is_count_step is

pub count-Take : (n : _) → is_count (V.Take n) ≡ false
unfolding is_count
count-Take n = let is : out-Op (V.Take n) ≡ (Op-F.Take n) = search (rules, the_lemmas) in ap is_count_step is

pub count-Count : is_count V.Count ≡ true
unfolding is_count
count-Count = let is : out-Op V.Count ≡ Op-F.Count = search (rules, the_lemmas) in ap is_count_step is

pub count-Serialize : is_count V.Serialize ≡ false
unfolding is_count
count-Serialize = let is : out-Op V.Serialize ≡ Op-F.Serialize = search (rules, the_lemmas) in ap is_count_step is

pub count-Sort : (keys : _) → is_count (V.Sort keys) ≡ false
unfolding is_count
count-Sort keys = let is : out-Op (V.Sort keys) ≡ (Op-F.Sort keys) = search (rules, the_lemmas) in ap is_count_step is

pub count-Top : (n : _) (keys : _) → is_count (V.Top n keys) ≡ false
unfolding is_count
count-Top n keys = let is : out-Op (V.Top n keys) ≡ (Op-F.Top n keys) = search (rules, the_lemmas) in ap is_count_step is

pub count-Summarize : (g : _) → is_count (V.Summarize g) ≡ false
unfolding is_count
count-Summarize g = let is : out-Op (V.Summarize g) ≡ (Op-F.Summarize g) = search (rules, the_lemmas) in ap is_count_step is

pub count-MakeSeries : (s : _) → is_count (V.MakeSeries s) ≡ false
unfolding is_count
count-MakeSeries s = let is : out-Op (V.MakeSeries s) ≡ (Op-F.MakeSeries s) = search (rules, the_lemmas) in ap is_count_step is

pub count-MvExpand : (x : _) → is_count (V.MvExpand x) ≡ false
unfolding is_count
count-MvExpand x = let is : out-Op (V.MvExpand x) ≡ (Op-F.MvExpand x) = search (rules, the_lemmas) in ap is_count_step is

pub count-Parse : (p : _) → is_count (V.Parse p) ≡ false
unfolding is_count
count-Parse p = let is : out-Op (V.Parse p) ≡ (Op-F.Parse p) = search (rules, the_lemmas) in ap is_count_step is

pub count-Join : (j : _) (p : _) → is_count (V.Join j p) ≡ false
unfolding is_count
count-Join j p = let is : out-Op (V.Join j p) ≡ (Op-F.Join j p) = search (rules, the_lemmas) in ap is_count_step is

pub count-Union : (b : _) (ps : _) → is_count (V.Union b ps) ≡ false
unfolding is_count
count-Union b ps = let is : out-Op (V.Union b ps) ≡ (Op-F.Union b ps) = search (rules, the_lemmas) in ap is_count_step is

pub count-Scan : (s : _) → is_count (V.Scan s) ≡ false
unfolding is_count
count-Scan s = let is : out-Op (V.Scan s) ≡ (Op-F.Scan s) = search (rules, the_lemmas) in ap is_count_step is

pub count-Partition : (c : _) (ops : _) → is_count (V.Partition c ops) ≡ false
unfolding is_count
count-Partition c ops = let is : out-Op (V.Partition c ops) ≡ (Op-F.Partition c ops) = search (rules, the_lemmas) in ap is_count_step is

pub ruleset count_steps = (count-Where, count-Extend, count-Project, count-Take, count-Count, count-Serialize, count-Sort, count-Top, count-Summarize, count-MakeSeries, count-MvExpand, count-Parse, count-Join, count-Union, count-Scan, count-Partition)

pub serialize-Where : (e : _) → is_serialize (V.Where e) ≡ false
unfolding is_serialize
serialize-Where e = let is : out-Op (V.Where e) ≡ (Op-F.Where e) = search (rules, the_lemmas) in ap is_serialize_step is

pub serialize-Extend : (items : _) → is_serialize (V.Extend items) ≡ false
unfolding is_serialize
serialize-Extend items = let is : out-Op (V.Extend items) ≡ (Op-F.Extend items) = search (rules, the_lemmas) in ap is_serialize_step is

pub serialize-Project : (items : _) → is_serialize (V.Project items) ≡ false
unfolding is_serialize
serialize-Project items = let is : out-Op (V.Project items) ≡ (Op-F.Project items) = search (rules, the_lemmas) in ap is_serialize_step is

pub serialize-Take : (n : _) → is_serialize (V.Take n) ≡ false
unfolding is_serialize
serialize-Take n = let is : out-Op (V.Take n) ≡ (Op-F.Take n) = search (rules, the_lemmas) in ap is_serialize_step is

pub serialize-Count : is_serialize V.Count ≡ false
unfolding is_serialize
serialize-Count = let is : out-Op V.Count ≡ Op-F.Count = search (rules, the_lemmas) in ap is_serialize_step is

pub serialize-Serialize : is_serialize V.Serialize ≡ true
unfolding is_serialize
serialize-Serialize = let is : out-Op V.Serialize ≡ Op-F.Serialize = search (rules, the_lemmas) in ap is_serialize_step is

pub serialize-Sort : (keys : _) → is_serialize (V.Sort keys) ≡ false
unfolding is_serialize
serialize-Sort keys = let is : out-Op (V.Sort keys) ≡ (Op-F.Sort keys) = search (rules, the_lemmas) in ap is_serialize_step is

pub serialize-Top : (n : _) (keys : _) → is_serialize (V.Top n keys) ≡ false
unfolding is_serialize
serialize-Top n keys = let is : out-Op (V.Top n keys) ≡ (Op-F.Top n keys) = search (rules, the_lemmas) in ap is_serialize_step is

pub serialize-Summarize : (g : _) → is_serialize (V.Summarize g) ≡ false
unfolding is_serialize
serialize-Summarize g = let is : out-Op (V.Summarize g) ≡ (Op-F.Summarize g) = search (rules, the_lemmas) in ap is_serialize_step is

pub serialize-MakeSeries : (s : _) → is_serialize (V.MakeSeries s) ≡ false
unfolding is_serialize
serialize-MakeSeries s = let is : out-Op (V.MakeSeries s) ≡ (Op-F.MakeSeries s) = search (rules, the_lemmas) in ap is_serialize_step is

pub serialize-MvExpand : (x : _) → is_serialize (V.MvExpand x) ≡ false
unfolding is_serialize
serialize-MvExpand x = let is : out-Op (V.MvExpand x) ≡ (Op-F.MvExpand x) = search (rules, the_lemmas) in ap is_serialize_step is

pub serialize-Parse : (p : _) → is_serialize (V.Parse p) ≡ false
unfolding is_serialize
serialize-Parse p = let is : out-Op (V.Parse p) ≡ (Op-F.Parse p) = search (rules, the_lemmas) in ap is_serialize_step is

pub serialize-Join : (j : _) (p : _) → is_serialize (V.Join j p) ≡ false
unfolding is_serialize
serialize-Join j p = let is : out-Op (V.Join j p) ≡ (Op-F.Join j p) = search (rules, the_lemmas) in ap is_serialize_step is

pub serialize-Union : (b : _) (ps : _) → is_serialize (V.Union b ps) ≡ false
unfolding is_serialize
serialize-Union b ps = let is : out-Op (V.Union b ps) ≡ (Op-F.Union b ps) = search (rules, the_lemmas) in ap is_serialize_step is

pub serialize-Scan : (s : _) → is_serialize (V.Scan s) ≡ false
unfolding is_serialize
serialize-Scan s = let is : out-Op (V.Scan s) ≡ (Op-F.Scan s) = search (rules, the_lemmas) in ap is_serialize_step is

pub serialize-Partition : (c : _) (ops : _) → is_serialize (V.Partition c ops) ≡ false
unfolding is_serialize
serialize-Partition c ops = let is : out-Op (V.Partition c ops) ≡ (Op-F.Partition c ops) = search (rules, the_lemmas) in ap is_serialize_step is

pub ruleset serialize_steps = (serialize-Where, serialize-Extend, serialize-Project, serialize-Take, serialize-Count, serialize-Serialize, serialize-Sort, serialize-Top, serialize-Summarize, serialize-MakeSeries, serialize-MvExpand, serialize-Parse, serialize-Join, serialize-Union, serialize-Scan, serialize-Partition)

pub keeps-Where : (e : _) → keeps_count (V.Where e) ≡ false
unfolding keeps_count
keeps-Where e = let is : out-Op (V.Where e) ≡ (Op-F.Where e) = search (rules, the_lemmas) in ap keeps_count_step is

pub keeps-Extend : (items : _) → keeps_count (V.Extend items) ≡ true
unfolding keeps_count
keeps-Extend items = let is : out-Op (V.Extend items) ≡ (Op-F.Extend items) = search (rules, the_lemmas) in ap keeps_count_step is

pub keeps-Project : (items : _) → keeps_count (V.Project items) ≡ true
unfolding keeps_count
keeps-Project items = let is : out-Op (V.Project items) ≡ (Op-F.Project items) = search (rules, the_lemmas) in ap keeps_count_step is

pub keeps-Take : (n : _) → keeps_count (V.Take n) ≡ false
unfolding keeps_count
keeps-Take n = let is : out-Op (V.Take n) ≡ (Op-F.Take n) = search (rules, the_lemmas) in ap keeps_count_step is

pub keeps-Count : keeps_count V.Count ≡ false
unfolding keeps_count
keeps-Count = let is : out-Op V.Count ≡ Op-F.Count = search (rules, the_lemmas) in ap keeps_count_step is

pub keeps-Serialize : keeps_count V.Serialize ≡ false
unfolding keeps_count
keeps-Serialize = let is : out-Op V.Serialize ≡ Op-F.Serialize = search (rules, the_lemmas) in ap keeps_count_step is

pub keeps-Sort : (keys : _) → keeps_count (V.Sort keys) ≡ true
unfolding keeps_count
keeps-Sort keys = let is : out-Op (V.Sort keys) ≡ (Op-F.Sort keys) = search (rules, the_lemmas) in ap keeps_count_step is

pub keeps-Top : (n : _) (keys : _) → keeps_count (V.Top n keys) ≡ false
unfolding keeps_count
keeps-Top n keys = let is : out-Op (V.Top n keys) ≡ (Op-F.Top n keys) = search (rules, the_lemmas) in ap keeps_count_step is

pub keeps-Summarize : (g : _) → keeps_count (V.Summarize g) ≡ false
unfolding keeps_count
keeps-Summarize g = let is : out-Op (V.Summarize g) ≡ (Op-F.Summarize g) = search (rules, the_lemmas) in ap keeps_count_step is

pub keeps-MakeSeries : (s : _) → keeps_count (V.MakeSeries s) ≡ false
unfolding keeps_count
keeps-MakeSeries s = let is : out-Op (V.MakeSeries s) ≡ (Op-F.MakeSeries s) = search (rules, the_lemmas) in ap keeps_count_step is

pub keeps-MvExpand : (x : _) → keeps_count (V.MvExpand x) ≡ false
unfolding keeps_count
keeps-MvExpand x = let is : out-Op (V.MvExpand x) ≡ (Op-F.MvExpand x) = search (rules, the_lemmas) in ap keeps_count_step is

pub keeps-Parse : (p : _) → keeps_count (V.Parse p) ≡ false
unfolding keeps_count
keeps-Parse p = let is : out-Op (V.Parse p) ≡ (Op-F.Parse p) = search (rules, the_lemmas) in ap keeps_count_step is

pub keeps-Join : (j : _) (p : _) → keeps_count (V.Join j p) ≡ false
unfolding keeps_count
keeps-Join j p = let is : out-Op (V.Join j p) ≡ (Op-F.Join j p) = search (rules, the_lemmas) in ap keeps_count_step is

pub keeps-Union : (b : _) (ps : _) → keeps_count (V.Union b ps) ≡ false
unfolding keeps_count
keeps-Union b ps = let is : out-Op (V.Union b ps) ≡ (Op-F.Union b ps) = search (rules, the_lemmas) in ap keeps_count_step is

pub keeps-Scan : (s : _) → keeps_count (V.Scan s) ≡ false
unfolding keeps_count
keeps-Scan s = let is : out-Op (V.Scan s) ≡ (Op-F.Scan s) = search (rules, the_lemmas) in ap keeps_count_step is

pub keeps-Partition : (c : _) (ops : _) → keeps_count (V.Partition c ops) ≡ false
unfolding keeps_count
keeps-Partition c ops = let is : out-Op (V.Partition c ops) ≡ (Op-F.Partition c ops) = search (rules, the_lemmas) in ap keeps_count_step is

pub ruleset keeps_steps = (keeps-Where, keeps-Extend, keeps-Project, keeps-Take, keeps-Count, keeps-Serialize, keeps-Sort, keeps-Top, keeps-Summarize, keeps-MakeSeries, keeps-MvExpand, keeps-Parse, keeps-Join, keeps-Union, keeps-Scan, keeps-Partition)
