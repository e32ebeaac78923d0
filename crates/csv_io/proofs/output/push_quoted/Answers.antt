use Rattle.std.proofs.Common.{◌++◌, ◌∷◌, ◌∙◌, [], append_assoc, sym}
use Rattle.std.proofs.lemmas.List.{append-nil, take_all}
use Rattle.csv.specs.Writing.{default_writer, escaped}
use Rattle.csv_io.proofs.OutputFacts.{escaped-more, escaped-none}
use Rattle.csv_io.proofs.output.push_quoted.Goals as goal

pub loop-i-init : goal.loop-i-init
loop-i-init c = rw escaped-none (sym (append-nil _))

pub loop-i-preserved : goal.loop-i-preserved
loop-i-preserved c = escaped-more _ _ _ c.args.field.now c.loop-i.i c.loop-i-test.true c.loop-i.invariant c.in_ok-push_escaped.ensures

pub returns : goal.returns
returns c =
    let field = c.args.field.now in
    let old = c.args.out.now.items in
    let whole = rw (take_all _ _ c.loop-i-test.false) at c.loop-i.invariant in
    rw (c.in_ok-push-2.ensures.items, whole, c.in_ok-push.ensures.items) (append_assoc (old ++ 34 ∷ []) (escaped default_writer field) (34 ∷ []) ∙ append_assoc old (34 ∷ []) (escaped default_writer field ++ 34 ∷ []))
