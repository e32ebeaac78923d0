use Rattle.std.proofs.Common.{◌≡◌, ◌<◌, ◌==◌, false, length, get_or, refl, arith}
use Rattle.std.proofs.lemmas.Bool.{ne_eqb, eq-eqb}
use Rattle.csv_io.proofs.CutFacts.{goes-end, goes-first, goes-on}
use Rattle.csv_io.proofs.cut.cut_record.Goals.{then-cut-text-via-then-cut-text, then-cut-text-via-else-cut-text+then-text-cut-ne44}
use Rattle.csv_io.proofs.cut.cut_record.Goals as goal

pub fields-init : goal.fields-init
fields-init c =
    (c.look-ahead.ensures, goes-first c.args.text.now c.args.start c.clear.new.self.items c.clear.ensures.items c.requires.within c.requires.begins)

pub cut_field-requires : goal.cut_field-requires
cut_field-requires c = c.fields.invariant.0

pub returns-then-cut-text : goal.returns-then-cut-text
returns-then-cut-text c =
    let cut = c.in-Some.ensures.cut in
    let text = c.args.text.now in
    let end = c.in-Some.cut.end in
    let other : end < length text → (get_or text end 0 == 44) ≡ false = elim c.then-cut-text.branch [
      | then-cut-text-via-then-cut-text w ↦ (λ lt. let e = w.if-cut-text.true in absurd (omega arith))
      | then-cut-text-via-else-cut-text+then-text-cut-ne44 w ↦ (λ lt. ne_eqb _ _ w.if-text-cut-ne44.true)
    ] in (
      cut.last,
      goes-end text c.args.start c.fields.at c.in-Some.cut.from c.in-Some.cut.to end c.fields.fields.items c.push.new.self.items _ c.fields.invariant.1 cut
          c.in_ok-push.ensures.items refl other,
    )

pub fields-smaller : goal.fields-smaller
fields-smaller c =
    let cut = c.in-Some.ensures.cut in
    let e = c.if-cut-text.false in
    omega (arith, cut.behind, cut.last)

pub fields-preserved : goal.fields-preserved
fields-preserved c =
    let cut = c.in-Some.ensures.cut in
    let text = c.args.text.now in
    let end = c.in-Some.cut.end in
    let e = c.if-cut-text.false in
    let lt : end < length text = omega (arith, cut.last) in (
      c.in-Some.ensures.ahead lt,
      goes-on text c.args.start c.fields.at c.in-Some.cut.from c.in-Some.cut.to end c.fields.fields.items c.push.new.self.items _ c.fields.invariant.1 cut
          c.in_ok-push.ensures.items refl lt (eq-eqb _ _ c.if-text-cut-ne44.false),
    )
