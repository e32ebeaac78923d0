use Rattle.std.proofs.Common.{ℕ, List, ap, sym, ◌∙◌}
use Rattle.std.specs.Prelude.{slice_get}
use Rattle.parse_op.specs.Search.{first_fits}
use Rattle.parse_op.proofs.BoundSteps.{no-first}
use Rattle.parse_op.proofs.pieces.may_begin.Goals as goal

pub returns-in-Literal-clause-never : goal.returns-in-Literal-clause-never
returns-in-Literal-clause-never c = λ other.
    no-first c.args.items.now c.in-Some.field-0-1.now c.in-Some.item.now c.in-Literal.literal c.as_bytes.result.now c.args.text.now c.args.place c.in-Some.ensures.cases.0 c.in-Literal.is (c.as_bytes.ensures.value ∙ c.as_str.ensures.same)
    (sym (c.has_first.ensures ∙ ap (λ (x : List ℕ). first_fits c.as_bytes.result.now (slice_get x c.args.place)) c.as_bytes-in-Literal.ensures.value) ∙ other)
