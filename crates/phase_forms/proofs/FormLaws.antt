-- How operators go, one equation for each variant.
use Rattle.std.proofs.Common.{◌≡◌, Bool, List, [], ◌∷◌, ap, rules, true, ◌&&◌, ◌∙◌}
use Rattle.std.specs.Prelude.{not}
use Rattle.kql_bound.specs.declared.expr.BExpr.{BExpr}
use Rattle.kql_bound.specs.declared.parts.BItem.{BItem}
use Rattle.kql_bound.specs.declared.parts.Expand.{Expand}
use Rattle.kql_bound.specs.declared.parts.ParsePlan.{ParsePlan}
use Rattle.kql_bound.specs.declared.plan.Op.{Op, fold_out-Op, out-Op, the_lemmas}
use Rattle.kql_bound.specs.declared.plan.Op.TheFolds.{map-Op}
use Rattle.kql_bound.specs.declared.plan.Op.TheOpen.{Op-F}
use Rattle.kql_bound.specs.declared.plan.Op.TheVariants as V
use Rattle.kql_bound.specs.declared.plan.Plan.{Plan}
use Rattle.kql_meaning.specs.RowByRow.{are_plain_parts, is_plain}
use Rattle.window_ops.specs.Calls.{calls_of_items}
use Rattle.phase_forms.specs.Phases.{Part, alone_if, are_columns, part_of, rounds_for, part_step, plan_phases, plan_step, range_if}
use Rattle.phase_forms.specs.declared.ahead.Form.TheVariants as phase_form

pub parted : (many : Bool) (o : Op) (y : Op-F Op Plan) → out-Op o ≡ y → part_of many o ≡ part_step many (map-Op Op Plan Part (List Bool) (part_of many) (plan_phases many) y)
unfolding part_of plan_phases
parted many o y is =
    fold_out-Op Part (List Bool) (part_step many) plan_step o
    ∙ ap (λ (z : Op-F Op Plan). part_step many (map-Op Op Plan Part (List Bool) (part_of many) (plan_phases many) z)) is

pub form-Where : (many : Bool) (e : BExpr) → (part_of many (V.Where e)).form ≡ range_if (is_plain e)
form-Where many e = ap (λ (p : Part). p.form) (parted many (V.Where e) (Op-F.Where e) (search (rules, the_lemmas)))

pub form-Extend : (many : Bool) (items : List BItem) → (part_of many (V.Extend items)).form ≡ alone_if many
form-Extend many items = ap (λ (p : Part). p.form) (parted many (V.Extend items) (Op-F.Extend items) (search (rules, the_lemmas)))

pub form-Project : (many : Bool) (items : List BItem) → (part_of many (V.Project items)).form ≡ alone_if (many && not (are_columns items))
form-Project many items = ap (λ (p : Part). p.form) (parted many (V.Project items) (Op-F.Project items) (search (rules, the_lemmas)))

pub form-Take : (many : Bool) (n : _) → (part_of many (V.Take n)).form ≡ phase_form.Whole
form-Take many n = ap (λ (p : Part). p.form) (parted many (V.Take n) (Op-F.Take n) (search (rules, the_lemmas)))

pub form-Count : (many : Bool) → (part_of many V.Count).form ≡ phase_form.Whole
form-Count many = ap (λ (p : Part). p.form) (parted many V.Count Op-F.Count (search (rules, the_lemmas)))

pub form-Serialize : (many : Bool) → (part_of many V.Serialize).form ≡ phase_form.Same
form-Serialize many = ap (λ (p : Part). p.form) (parted many V.Serialize Op-F.Serialize (search (rules, the_lemmas)))

pub form-Sort : (many : Bool) (keys : _) → (part_of many (V.Sort keys)).form ≡ phase_form.Whole
form-Sort many keys = ap (λ (p : Part). p.form) (parted many (V.Sort keys) (Op-F.Sort keys) (search (rules, the_lemmas)))

pub form-Top : (many : Bool) (n : _) (keys : _) → (part_of many (V.Top n keys)).form ≡ alone_if many
form-Top many n keys = ap (λ (p : Part). p.form) (parted many (V.Top n keys) (Op-F.Top n keys) (search (rules, the_lemmas)))

pub form-Summarize : (many : Bool) (g : _) → (part_of many (V.Summarize g)).form ≡ alone_if many
form-Summarize many g = ap (λ (p : Part). p.form) (parted many (V.Summarize g) (Op-F.Summarize g) (search (rules, the_lemmas)))

pub form-MakeSeries : (many : Bool) (s : _) → (part_of many (V.MakeSeries s)).form ≡ alone_if many
form-MakeSeries many s = ap (λ (p : Part). p.form) (parted many (V.MakeSeries s) (Op-F.MakeSeries s) (search (rules, the_lemmas)))

pub form-MvExpand : (many : Bool) (x : Expand) → (part_of many (V.MvExpand x)).form ≡ range_if (many && are_plain_parts x.items)
form-MvExpand many x = ap (λ (p : Part). p.form) (parted many (V.MvExpand x) (Op-F.MvExpand x) (search (rules, the_lemmas)))

pub form-Parse : (many : Bool) (p : ParsePlan) → (part_of many (V.Parse p)).form ≡ range_if (many && is_plain p.text)
form-Parse many p = ap (λ (p : Part). p.form) (parted many (V.Parse p) (Op-F.Parse p) (search (rules, the_lemmas)))

pub form-Join : (many : Bool) (j : _) (right : _) → (part_of many (V.Join j right)).form ≡ alone_if many
form-Join many j right = ap (λ (p : Part). p.form) (parted many (V.Join j right) (Op-F.Join j right) (search (rules, the_lemmas)))

pub form-Union : (many : Bool) (inner : _) (others : _) → (part_of many (V.Union inner others)).form ≡ phase_form.Whole
form-Union many inner others = ap (λ (p : Part). p.form) (parted many (V.Union inner others) (Op-F.Union inner others) (search (rules, the_lemmas)))

pub form-Scan : (many : Bool) (s : _) → (part_of many (V.Scan s)).form ≡ phase_form.Whole
form-Scan many s = ap (λ (p : Part). p.form) (parted many (V.Scan s) (Op-F.Scan s) (search (rules, the_lemmas)))

pub form-Partition : (many : Bool) (column : _) (ops : _) → (part_of many (V.Partition column ops)).form ≡ alone_if many
form-Partition many column ops = ap (λ (p : Part). p.form) (parted many (V.Partition column ops) (Op-F.Partition column ops) (search (rules, the_lemmas)))

pub ruleset form_steps = (form-Where, form-Extend, form-Project, form-Take, form-Count, form-Serialize, form-Sort, form-Top, form-Summarize, form-MakeSeries, form-MvExpand, form-Parse, form-Join, form-Union, form-Scan, form-Partition)

pub rounds-Extend : (many : Bool) (items : List BItem) → (part_of many (V.Extend items)).rounds ≡ rounds_for (calls_of_items items)
rounds-Extend many items = ap (λ (p : Part). p.rounds) (parted many (V.Extend items) (Op-F.Extend items) (search (rules, the_lemmas)))

pub rounds-Project : (many : Bool) (items : List BItem) → (part_of many (V.Project items)).rounds ≡ rounds_for (calls_of_items items)
rounds-Project many items = ap (λ (p : Part). p.rounds) (parted many (V.Project items) (Op-F.Project items) (search (rules, the_lemmas)))

pub rounds-Top : (many : Bool) (n : _) (keys : _) → (part_of many (V.Top n keys)).rounds ≡ true ∷ []
rounds-Top many n keys = ap (λ (p : Part). p.rounds) (parted many (V.Top n keys) (Op-F.Top n keys) (search (rules, the_lemmas)))

pub rounds-Summarize : (many : Bool) (g : _) → (part_of many (V.Summarize g)).rounds ≡ true ∷ []
rounds-Summarize many g = ap (λ (p : Part). p.rounds) (parted many (V.Summarize g) (Op-F.Summarize g) (search (rules, the_lemmas)))

pub rounds-MakeSeries : (many : Bool) (s : _) → (part_of many (V.MakeSeries s)).rounds ≡ true ∷ []
rounds-MakeSeries many s = ap (λ (p : Part). p.rounds) (parted many (V.MakeSeries s) (Op-F.MakeSeries s) (search (rules, the_lemmas)))

pub rounds-Join : (many : Bool) (j : _) (right : _) → (part_of many (V.Join j right)).rounds ≡ true ∷ []
rounds-Join many j right = ap (λ (p : Part). p.rounds) (parted many (V.Join j right) (Op-F.Join j right) (search (rules, the_lemmas)))

pub rounds-Partition : (many : Bool) (column : _) (ops : _) → (part_of many (V.Partition column ops)).rounds ≡ true ∷ []
rounds-Partition many column ops = ap (λ (p : Part). p.rounds) (parted many (V.Partition column ops) (Op-F.Partition column ops) (search (rules, the_lemmas)))
