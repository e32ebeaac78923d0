use Rattle.std.proofs.Common.{◌≡◌, ◌++◌, take}
use Rattle.std.specs.Prelude.{codes}
use Rattle.std.specs.List.{flat_map}
use Rattle.kql_plan_text.specs.Exprs.{chain_end, expr_text, path_end}
use Rattle.kql_plan_text.proofs.write_exprs.+write_expr.Given as goal

abbrev pub invariant-write_args-loop-e : goal.invariant-write_args-loop-e
invariant-write_args-loop-e l = l.text ≡ l.initial.text ++ flat_map (λ e. codes "," ++ expr_text e) (take l.e-index l.others)

abbrev pub invariant-write_chain_end-loop-link : goal.invariant-write_chain_end-loop-link
invariant-write_chain_end-loop-link l = l.text ≡ l.initial.text ++ chain_end (take l.link-index l.links)

abbrev pub invariant-write_path_end-loop-step : goal.invariant-write_path_end-loop-step
invariant-write_path_end-loop-step l = l.text ≡ l.initial.text ++ path_end (take l.step-index l.steps)
