use Rattle.std.proofs.Common.{◌≡◌, true, false, [], ◌∙◌, sym}
use Rattle.std.specs.Prelude.{is_some}
use Rattle.plan_rules.specs.Folding.{folded_path, sound_literal}
use Rattle.plan_constants.specs.Fronts.{ended_path}
use Rattle.plan_constants.proofs.FrontSteps.{path-front, path-made, path-whole}
use Rattle.plan_constants.proofs.chains.folded_path.Goals as goal
use Rattle.plan_constants.proofs.chains.folded_path.Goals.{else-is_empty-via-then-is_empty+else-is_literal, else-is_empty-via-else-is_empty}

pub returns-then-is_literal : goal.returns-then-is_literal
returns-then-is_literal c =
    let made = path-made c.args.whole c.in_ok-front.front c.args.steps c.as_slice.result.now c.behind-rest.result c.in_ok-front.taken c.as_slice.ensures.items c.in_ok-front.ensures.path c.behind-rest.ensures.rest in
    let literal : is_some (sound_literal c.in_ok-front.front) ≡ true = cc (c.is_literal.ensures.literal, c.if-is_literal.true, c.get.ensures.value) in
    record { path = c.into_inner.ensures.value ∙ path-front (folded_path c.args.whole c.args.steps) c.in_ok-front.front c.behind-rest.result made (c.is_empty.ensures.empty.0 c.if-is_empty.true) literal }

pub returns : goal.returns
returns c =
    let made = path-made c.args.whole c.in_ok-front.front c.args.steps c.as_slice.result.now c.behind-rest.result c.in_ok-front.taken c.as_slice.ensures.items c.in_ok-front.ensures.path c.behind-rest.ensures.rest in
    let other : c.behind-rest.result ≡ [] → is_some (sound_literal c.in_ok-front.front) ≡ false = elim c.else-is_empty.branch [
      | else-is_empty-via-then-is_empty+else-is_literal w ↦ λ none. cc (w.is_literal.ensures.literal, w.if-is_literal.false, w.get.ensures.value)
      | else-is_empty-via-else-is_empty w ↦ λ none. let e : c.is_empty.result ≡ true = c.is_empty.ensures.empty.1 none in absurd (cc (e, w.if-is_empty.false))
    ] in
    record { path = path-whole (folded_path c.args.whole c.args.steps) c.in_ok-front.front c.behind-rest.result made other }
