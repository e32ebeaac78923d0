use Rattle.std.proofs.Common.{◌∷◌, ◌∙◌, [], Bor, List, ℕ, ap, sym}
use Rattle.std.specs.Str.Iter.{split_has_more, split_pattern, split_text}
use Rattle.std.specs.declared.str.Split.{Split}
use Rattle.kql_texts.specs.Texts.{elements}
use Rattle.kql_texts.proofs.FunctionFacts.{IsSplit-value}
use Rattle.kql_texts.proofs.PieceFacts.{IsSplit-empty, is_no_text, is_some_text, joined-one, split_parts, texts-one}
use Rattle.kql_texts.proofs.pieces.split_by.Goals as goal

pub returns-then-is_empty-clause-value : goal.returns-then-is_empty-clause-value
returns-then-is_empty-clause-value c =
    let none = is_no_text _ c.args.separator.now c.is_empty.ensures c.if-is_empty.true in
    texts-one _ _ _ c.in_ok-push_text.ensures c.new-parts.ensures.empty ∙ ap elements (IsSplit-value _ _ _ (IsSplit-empty c.args.separator.now c.args.text.now none))

pub returns-then-is_empty-clause-pieces : goal.returns-then-is_empty-clause-pieces
returns-then-is_empty-clause-pieces c =
    let none = is_no_text _ c.args.separator.now c.is_empty.ensures c.if-is_empty.true in
    (c.args.text.now ∷ [], texts-one _ _ _ c.in_ok-push_text.ensures c.new-parts.ensures.empty, IsSplit-empty _ _ none)

pub returns-then-is_empty-clause-joined : goal.returns-then-is_empty-clause-joined
returns-then-is_empty-clause-joined c = (
  c.args.text.now ∷ [],
  texts-one _ _ _ c.in_ok-push_text.ensures c.new-parts.ensures.empty,
  joined-one c.args.separator.now c.args.text.now,
)

pub returns-clause-pieces : goal.returns-clause-pieces
returns-clause-pieces c =
    let started = c.into_iter-piece-iterator.ensures.into_iter_gives in
    let split = c.split-piece-items.ensures in
    let parts = split_parts c.args.separator.now c.args.text.now _ c.loop-piece.yielded _ _
    (is_some_text _ c.args.separator.now c.is_empty.ensures c.if-is_empty.false)
    (ap (λ (s : Split (Bor (List ℕ))). (split_pattern s).now) started ∙ ap (λ (p : Bor (List ℕ)). p.now) split.pattern)
    (ap split_has_more started ∙ split.has_more) (ap split_text started ∙ split.text)
    c.loop-piece.yielded_by (sym c.in-None.ensures.steps.0) c.loop-piece.invariant in
    (parts.0, parts.1, parts.2)

pub returns-clause-joined : goal.returns-clause-joined
returns-clause-joined c =
    let started = c.into_iter-piece-iterator.ensures.into_iter_gives in
    let split = c.split-piece-items.ensures in
    let parts = split_parts c.args.separator.now c.args.text.now _ c.loop-piece.yielded _ _
    (is_some_text _ c.args.separator.now c.is_empty.ensures c.if-is_empty.false)
    (ap (λ (s : Split (Bor (List ℕ))). (split_pattern s).now) started ∙ ap (λ (p : Bor (List ℕ)). p.now) split.pattern)
    (ap split_has_more started ∙ split.has_more) (ap split_text started ∙ split.text)
    c.loop-piece.yielded_by (sym c.in-None.ensures.steps.0) c.loop-piece.invariant in
    (parts.0, parts.1, parts.3)

pub returns-clause-value : goal.returns-clause-value
returns-clause-value c =
    let started = c.into_iter-piece-iterator.ensures.into_iter_gives in
    let split = c.split-piece-items.ensures in
    let parts = split_parts c.args.separator.now c.args.text.now _ c.loop-piece.yielded _ _
    (is_some_text _ c.args.separator.now c.is_empty.ensures c.if-is_empty.false)
    (ap (λ (s : Split (Bor (List ℕ))). (split_pattern s).now) started ∙ ap (λ (p : Bor (List ℕ)). p.now) split.pattern)
    (ap split_has_more started ∙ split.has_more) (ap split_text started ∙ split.text)
    c.loop-piece.yielded_by (sym c.in-None.ensures.steps.0) c.loop-piece.invariant in
    parts.1 ∙ ap elements (IsSplit-value _ _ _ parts.2)
