use Rattle.std.proofs.Common.{◌≡◌, ◌∷◌, ◌∙◌, [], ap, sym, refl}
use Rattle.std.proofs.lemmas.Result.{IfOk-weaker}
use Rattle.kql_texts.specs.Pieces.{joined}
use Rattle.kql_texts.proofs.FunctionFacts.{IsSplit-value}
use Rattle.kql_texts.proofs.PieceFacts.{IsSplit-empty, is_no_text, is_some_text, joined-one, replaced_parts}
use Rattle.kql_texts.proofs.pieces.replace.Goals as goal

pub returns-then-is_empty-clause-value : goal.returns-then-is_empty-clause-value
returns-then-is_empty-clause-value c =
    let none = is_no_text _ c.args.from.now c.is_empty.ensures c.if-is_empty.true in
    let pieces = IsSplit-value _ _ _ (IsSplit-empty c.args.from.now c.args.text.now none) in
    IfOk-weaker c.from_str.result (λ r. r ≡ c.args.text.now) _ (λ r e. e ∙ sym (joined-one c.args.to.now c.args.text.now) ∙ ap (joined c.args.to.now) pieces) c.from_str.ensures.same

pub returns-then-is_empty-clause-replaced : goal.returns-then-is_empty-clause-replaced
returns-then-is_empty-clause-replaced c =
    let none = is_no_text _ c.args.from.now c.is_empty.ensures c.if-is_empty.true in
    IfOk-weaker c.from_str.result (λ r. r ≡ c.args.text.now) _ (λ r e. (c.args.text.now ∷ [], IsSplit-empty _ _ none, e ∙ sym (joined-one c.args.to.now c.args.text.now))) c.from_str.ensures.same

pub returns-clause-replaced : goal.returns-clause-replaced
returns-clause-replaced c =
    let some = is_some_text _ c.args.from.now c.is_empty.ensures c.if-is_empty.false in
    let run = c.in_ok-replaced.ensures.ok in
    let parts = replaced_parts run.0 c.args.from.now c.args.to.now c.args.text.now _ _ some refl run.1 in
    (parts.0, parts.1, c.from_string.ensures.same ∙ parts.2)

pub returns-clause-same : goal.returns-clause-same
returns-clause-same c = λ same.
    let some = is_some_text _ c.args.from.now c.is_empty.ensures c.if-is_empty.false in
    let run = c.in_ok-replaced.ensures.ok in
    let parts = replaced_parts run.0 c.args.from.now c.args.to.now c.args.text.now _ _ some refl run.1 in
    c.from_string.ensures.same ∙ parts.2 ∙ ap (λ l. joined l parts.0) (sym same) ∙ parts.3

pub returns-clause-value : goal.returns-clause-value
returns-clause-value c =
    let some = is_some_text _ c.args.from.now c.is_empty.ensures c.if-is_empty.false in
    let run = c.in_ok-replaced.ensures.ok in
    let parts = replaced_parts run.0 c.args.from.now c.args.to.now c.args.text.now _ _ some refl run.1 in
    c.from_string.ensures.same ∙ parts.2 ∙ ap (joined c.args.to.now) (IsSplit-value _ _ _ parts.1)
