use Rattle.std.proofs.Common.{sym, arith, ◌∙◌, ◌+◌, refl}
use Rattle.std.proofs.lemmas.List.{length-take-le}
use Rattle.kql_syntax.proofs.DepthLaws.{rest_deep, deep_within, cut_found, cut_unexpected, cut_deep, refuses_unexpected, refuses_deep}
use Rattle.kql_syntax.proofs.parse.parse_from.Goals as goal

pub returns-then-end-deep : goal.returns-then-end-deep
returns-then-end-deep c =
    let deep = rest_deep _ _ _ (sym c.too_deep.ensures.deep ∙ c.in-Some.is) in
    refuses_unexpected (cut_unexpected _ _ _ deep (rw c.in-Err-Refused-expr.field-0-is at c.in-Err-Refused-expr.ensures.read).place c.if-end-deep.true) c.place_of-then-end-deep.ensures.place

pub returns-in-Ok-expr : goal.returns-in-Ok-expr
returns-in-Ok-expr c =
    let deep = rest_deep _ _ _ (sym c.too_deep.ensures.deep ∙ c.in-Some.is) in
    let within = deep_within _ _ _ deep in
    cut_found _ _ _ deep c.in-Ok-expr.ensures.read (omega (arith, c.in-Ok-expr.ensures.within.1, length-take-le (c.in-Some.deep + 1) c.args.ts.now (omega arith))) refl refl

pub returns-else-end-deep : goal.returns-else-end-deep
returns-else-end-deep c =
    let deep = rest_deep _ _ _ (sym c.too_deep.ensures.deep ∙ c.in-Some.is) in
    refuses_deep (cut_deep _ _ _ deep (rw c.in-Err-Refused-expr.field-0-is at c.in-Err-Refused-expr.ensures.read).place c.if-end-deep.false) c.place_of-in-Err-Refused-expr.ensures.place
