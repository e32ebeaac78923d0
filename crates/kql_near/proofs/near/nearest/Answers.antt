use Rattle.std.proofs.Common.{◌≡◌, ◌<◌, ◌∙◌, ℕ, List, Bor, map, length, slice_index, sym, subst, arith}
use Rattle.std.proofs.lemmas.Grind.{common_steps}
use Rattle.std.proofs.lemmas.List.{get_or-map, length-map}
use Rattle.kql_near.specs.Nearest.{edits}
use Rattle.kql_near.proofs.Standing.{kept-on, taken-on, edits-are}
use Rattle.kql_near.proofs.near.nearest.Goals.{then-edits-limit, else-edits-limit}
use Rattle.kql_near.proofs.near.nearest.Goals as goal

pub loop-i-preserved : goal.loop-i-preserved
loop-i-preserved c =
    let names = c.args.names.now in
    let by : Bor (List ℕ) → ℕ = λ n. edits c.args.word.now n.now in
    let lt : c.loop-i.i < length names = grind (arith, common_steps) in
    let there : c.loop-i.i < length (map by names) = subst (λ n. c.loop-i.i < n) (sym (length-map names by)) lt in
    let is : c.in_ok-edits.edits ≡ slice_index (map by names) c.loop-i.i =
    edits-are _ _ _ _ _ (c.as_str.ensures.value ∙ c.in_ok-asked.ensures.ok) (c.as_str-in-loop-i.ensures.value ∙ c.in_ok-name.ensures.ok) c.in_ok-edits.ensures.value
    ∙ sym (get_or-map by names c.loop-i.i _ 0 lt) in
    elim c.if-edits-limit.branch [
      | then-edits-limit w ↦ taken-on _ _ _ _ _ _ _ _ there is w.if-edits-limit.true w.limit-is w.found-is c.loop-i.invariant
      | else-edits-limit w ↦ kept-on _ _ _ _ _ _ _ _ there is w.if-edits-limit.false w.limit-is w.found-is c.loop-i.invariant
    ]
