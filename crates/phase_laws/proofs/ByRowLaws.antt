-- Which operators read one row at a time, one equation for each variant.
use Rattle.std.proofs.Common.{◌≡◌, Bool, List, ap, false, rules, true, ◌∙◌}
use Rattle.kql_bound.specs.declared.expr.BExpr.{BExpr}
use Rattle.kql_bound.specs.declared.parts.BItem.{BItem}
use Rattle.kql_bound.specs.declared.parts.Expand.{Expand}
use Rattle.kql_bound.specs.declared.parts.ParsePlan.{ParsePlan}
use Rattle.kql_bound.specs.declared.plan.Op.{Op, fold_out-Op, out-Op, the_lemmas}
use Rattle.kql_bound.specs.declared.plan.Op.TheFolds.{map-Op}
use Rattle.kql_bound.specs.declared.plan.Op.TheOpen.{Op-F}
use Rattle.kql_bound.specs.declared.plan.Op.TheVariants as V
use Rattle.kql_bound.specs.declared.plan.Plan.{Plan, fold-Plan}
use Rattle.kql_meaning.specs.RowByRow.{are_plain, are_plain_parts, is_plain}
use Rattle.phase_laws.specs.Runs.{is_by_row, is_by_row_step, plan_is_not}

pub marked : (o : Op) (y : Op-F Op Plan) → out-Op o ≡ y → is_by_row o ≡ is_by_row_step (map-Op Op Plan Bool Bool is_by_row (fold-Plan Bool Bool is_by_row_step plan_is_not) y)
unfolding is_by_row
marked o y is = fold_out-Op Bool Bool is_by_row_step plan_is_not o ∙ ap (λ (z : Op-F Op Plan). is_by_row_step (map-Op Op Plan Bool Bool is_by_row (fold-Plan Bool Bool is_by_row_step plan_is_not) z)) is

pub by_row-Where : (e : BExpr) → is_by_row (V.Where e) ≡ is_plain e
by_row-Where e = marked (V.Where e) (Op-F.Where e) (search (rules, the_lemmas))

pub by_row-Extend : (items : List BItem) → is_by_row (V.Extend items) ≡ are_plain items
by_row-Extend items = marked (V.Extend items) (Op-F.Extend items) (search (rules, the_lemmas))

pub by_row-Project : (items : List BItem) → is_by_row (V.Project items) ≡ are_plain items
by_row-Project items = marked (V.Project items) (Op-F.Project items) (search (rules, the_lemmas))

pub by_row-Take : (n : _) → is_by_row (V.Take n) ≡ false
by_row-Take n = marked (V.Take n) (Op-F.Take n) (search (rules, the_lemmas))

pub by_row-Count : is_by_row V.Count ≡ false
by_row-Count = marked V.Count Op-F.Count (search (rules, the_lemmas))

pub by_row-Serialize : is_by_row V.Serialize ≡ true
by_row-Serialize = marked V.Serialize Op-F.Serialize (search (rules, the_lemmas))

pub by_row-Sort : (keys : _) → is_by_row (V.Sort keys) ≡ false
by_row-Sort keys = marked (V.Sort keys) (Op-F.Sort keys) (search (rules, the_lemmas))

pub by_row-Top : (n : _) (keys : _) → is_by_row (V.Top n keys) ≡ false
by_row-Top n keys = marked (V.Top n keys) (Op-F.Top n keys) (search (rules, the_lemmas))

pub by_row-Summarize : (g : _) → is_by_row (V.Summarize g) ≡ false
by_row-Summarize g = marked (V.Summarize g) (Op-F.Summarize g) (search (rules, the_lemmas))

pub by_row-MakeSeries : (s : _) → is_by_row (V.MakeSeries s) ≡ false
by_row-MakeSeries s = marked (V.MakeSeries s) (Op-F.MakeSeries s) (search (rules, the_lemmas))

pub by_row-MvExpand : (x : Expand) → is_by_row (V.MvExpand x) ≡ are_plain_parts x.items
by_row-MvExpand x = marked (V.MvExpand x) (Op-F.MvExpand x) (search (rules, the_lemmas))

pub by_row-Parse : (p : ParsePlan) → is_by_row (V.Parse p) ≡ is_plain p.text
by_row-Parse p = marked (V.Parse p) (Op-F.Parse p) (search (rules, the_lemmas))

pub by_row-Join : (j : _) (right : _) → is_by_row (V.Join j right) ≡ false
by_row-Join j right = marked (V.Join j right) (Op-F.Join j right) (search (rules, the_lemmas))

pub by_row-Union : (inner : _) (others : _) → is_by_row (V.Union inner others) ≡ false
by_row-Union inner others = marked (V.Union inner others) (Op-F.Union inner others) (search (rules, the_lemmas))

pub by_row-Scan : (s : _) → is_by_row (V.Scan s) ≡ false
by_row-Scan s = marked (V.Scan s) (Op-F.Scan s) (search (rules, the_lemmas))

pub by_row-Partition : (column : _) (ops : _) → is_by_row (V.Partition column ops) ≡ false
by_row-Partition column ops = marked (V.Partition column ops) (Op-F.Partition column ops) (search (rules, the_lemmas))

pub ruleset by_row_steps = (by_row-Where, by_row-Extend, by_row-Project, by_row-Take, by_row-Count, by_row-Serialize, by_row-Sort, by_row-Top, by_row-Summarize, by_row-MakeSeries, by_row-MvExpand, by_row-Parse, by_row-Join, by_row-Union, by_row-Scan, by_row-Partition)
