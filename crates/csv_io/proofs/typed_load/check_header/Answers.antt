use Rattle.std.proofs.Common.{◌≡◌, ◌≤◌, ◌<◌, ◌+◌, ◌∙◌, true, false, arith, length, refl, sym}
use Rattle.std.proofs.lemmas.Grind.{common_steps}
use Rattle.csv_io.specs.TypedLoad.{heads}
use Rattle.csv_io.proofs.TypedLoadFacts.{alone, differ-here, differ-missing, differ-more, differ-none, differ-step}
use Rattle.csv_io.proofs.typed_load.check_header.Goals as goal

pub returns-then-j-len : goal.returns-then-j-len
returns-then-j-len c =
    let within : c.loop-j.j < length c.args.columns.now = grind (arith, common_steps) in
    let short : length c.args.line.now ≤ c.loop-j.j = grind (arith, common_steps) in
    alone _ 0 (c.loop-j.j + 1) _ (differ-missing c.args.columns.now c.args.line.now c.loop-j.j _ within short c.loop-j.invariant) c.refused.ensures

pub returns-then-not-branch : goal.returns-then-not-branch
returns-then-not-branch c =
    let within : c.loop-j.j < length c.args.columns.now = grind (arith, common_steps) in
    let there : c.loop-j.j < length c.args.line.now = grind (arith, common_steps) in
    let no = sym c.in_ok-heads.ensures.heads ∙ c.if-not-branch.true in
    let other : heads c.index-columns-j.result c.field.result.now ≡ false = no in
    let here = rw (c.index-columns-j.is, c.field.ensures) at other in
    alone _ 0 (c.loop-j.j + 1) _ (differ-here c.args.columns.now c.args.line.now c.loop-j.j _ _ within there here c.loop-j.invariant) c.refused-then-not-branch.ensures

pub loop-j-preserved : goal.loop-j-preserved
loop-j-preserved c =
    let within : c.loop-j.j < length c.args.columns.now = grind (arith, common_steps) in
    let there : c.loop-j.j < length c.args.line.now = grind (arith, common_steps) in
    let yes : heads c.index-columns-j.result c.field.result.now ≡ true = sym c.in_ok-heads.ensures.heads ∙ c.if-not-branch.false in
    let here = rw (c.index-columns-j.is, c.field.ensures) at yes in
    differ-step c.args.columns.now c.args.line.now c.loop-j.j _ _ within there here c.loop-j.invariant

pub returns-then-len-columns : goal.returns-then-len-columns
returns-then-len-columns c =
    let over : length c.args.columns.now ≤ c.loop-j.j = grind (arith, common_steps) in
    let same : c.loop-j.j ≡ length c.args.columns.now = grind (arith, common_steps) in
    let there : c.loop-j.j < length c.args.line.now = grind (arith, common_steps) in
    alone _ 0 (c.loop-j.j + 1) _ (differ-more c.args.columns.now c.args.line.now c.loop-j.j _ over there c.loop-j.invariant) (rw same c.refused-then-len-columns.ensures)

pub returns : goal.returns
returns c =
    let over : length c.args.columns.now ≤ c.loop-j.j = grind (arith, common_steps) in
    let same : c.loop-j.j ≡ length c.args.columns.now = grind (arith, common_steps) in
    let short : length c.args.line.now ≤ c.loop-j.j = grind (arith, common_steps) in
    (differ-none c.args.columns.now c.args.line.now c.loop-j.j _ over short c.loop-j.invariant, refl)
