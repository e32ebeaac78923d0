-- Which operators may go by pieces of their own, one equation for each variant.
use Rattle.std.proofs.Common.{◌≡◌, ap, rules, true, false}
use Rattle.kql_bound.specs.declared.plan.Op.{out-Op, the_lemmas}
use Rattle.kql_bound.specs.declared.plan.Op.TheOpen.{Op-F}
use Rattle.kql_bound.specs.declared.plan.Op.TheVariants as V
use Rattle.phase_forms.specs.Held.{goes_alone, goes_alone_step}

pub alone-Where : (e : _) → goes_alone (V.Where e) ≡ false
unfolding goes_alone
alone-Where e = let is : out-Op (V.Where e) ≡ (Op-F.Where e) = search (rules, the_lemmas) in ap goes_alone_step is

pub alone-Extend : (items : _) → goes_alone (V.Extend items) ≡ true
unfolding goes_alone
alone-Extend items = let is : out-Op (V.Extend items) ≡ (Op-F.Extend items) = search (rules, the_lemmas) in ap goes_alone_step is

pub alone-Project : (items : _) → goes_alone (V.Project items) ≡ true
unfolding goes_alone
alone-Project items = let is : out-Op (V.Project items) ≡ (Op-F.Project items) = search (rules, the_lemmas) in ap goes_alone_step is

pub alone-Take : (n : _) → goes_alone (V.Take n) ≡ false
unfolding goes_alone
alone-Take n = let is : out-Op (V.Take n) ≡ (Op-F.Take n) = search (rules, the_lemmas) in ap goes_alone_step is

pub alone-Count : goes_alone V.Count ≡ false
unfolding goes_alone
alone-Count = let is : out-Op V.Count ≡ Op-F.Count = search (rules, the_lemmas) in ap goes_alone_step is

pub alone-Serialize : goes_alone V.Serialize ≡ false
unfolding goes_alone
alone-Serialize = let is : out-Op V.Serialize ≡ Op-F.Serialize = search (rules, the_lemmas) in ap goes_alone_step is

pub alone-Sort : (keys : _) → goes_alone (V.Sort keys) ≡ false
unfolding goes_alone
alone-Sort keys = let is : out-Op (V.Sort keys) ≡ (Op-F.Sort keys) = search (rules, the_lemmas) in ap goes_alone_step is

pub alone-Top : (n : _) (keys : _) → goes_alone (V.Top n keys) ≡ true
unfolding goes_alone
alone-Top n keys = let is : out-Op (V.Top n keys) ≡ (Op-F.Top n keys) = search (rules, the_lemmas) in ap goes_alone_step is

pub alone-Summarize : (g : _) → goes_alone (V.Summarize g) ≡ true
unfolding goes_alone
alone-Summarize g = let is : out-Op (V.Summarize g) ≡ (Op-F.Summarize g) = search (rules, the_lemmas) in ap goes_alone_step is

pub alone-MakeSeries : (s : _) → goes_alone (V.MakeSeries s) ≡ true
unfolding goes_alone
alone-MakeSeries s = let is : out-Op (V.MakeSeries s) ≡ (Op-F.MakeSeries s) = search (rules, the_lemmas) in ap goes_alone_step is

pub alone-MvExpand : (x : _) → goes_alone (V.MvExpand x) ≡ false
unfolding goes_alone
alone-MvExpand x = let is : out-Op (V.MvExpand x) ≡ (Op-F.MvExpand x) = search (rules, the_lemmas) in ap goes_alone_step is

pub alone-Parse : (p : _) → goes_alone (V.Parse p) ≡ false
unfolding goes_alone
alone-Parse p = let is : out-Op (V.Parse p) ≡ (Op-F.Parse p) = search (rules, the_lemmas) in ap goes_alone_step is

pub alone-Join : (j : _) (right : _) → goes_alone (V.Join j right) ≡ true
unfolding goes_alone
alone-Join j right = let is : out-Op (V.Join j right) ≡ (Op-F.Join j right) = search (rules, the_lemmas) in ap goes_alone_step is

pub alone-Union : (inner : _) (others : _) → goes_alone (V.Union inner others) ≡ false
unfolding goes_alone
alone-Union inner others = let is : out-Op (V.Union inner others) ≡ (Op-F.Union inner others) = search (rules, the_lemmas) in ap goes_alone_step is

pub alone-Scan : (s : _) → goes_alone (V.Scan s) ≡ false
unfolding goes_alone
alone-Scan s = let is : out-Op (V.Scan s) ≡ (Op-F.Scan s) = search (rules, the_lemmas) in ap goes_alone_step is

pub alone-Partition : (column : _) (ops : _) → goes_alone (V.Partition column ops) ≡ true
unfolding goes_alone
alone-Partition column ops = let is : out-Op (V.Partition column ops) ≡ (Op-F.Partition column ops) = search (rules, the_lemmas) in ap goes_alone_step is

pub ruleset alone_steps = (alone-Where, alone-Extend, alone-Project, alone-Take, alone-Count, alone-Serialize, alone-Sort, alone-Top, alone-Summarize, alone-MakeSeries, alone-MvExpand, alone-Parse, alone-Join, alone-Union, alone-Scan, alone-Partition)
