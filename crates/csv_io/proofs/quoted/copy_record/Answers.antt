use Rattle.std.proofs.Common.{◌≤◌, ◌+◌, ◌∙◌, sym, length, arith}
use Rattle.csv.specs.Records.{fields_of}
use Rattle.csv_io.proofs.QuotedFacts.{reading-first, reading-last, reading-next, reading-out, reading-run}
use Rattle.csv_io.proofs.quoted.copy_record.Goals as goal

pub bytes-init : goal.bytes-init
bytes-init c = record {
  within = omega (arith, c.requires.within);
  whole = c.clear.ensures.partial;
  read = reading-first c.args.text.now c.args.start _ _ c.clear.ensures.fields c.clear-2.ensures.items c.requires.within c.requires.begins;
}

pub returns-then-ends_record : goal.returns-then-ends_record
returns-then-ends_record c = (
  c.bytes.invariant.within,
  reading-last c.args.text.now c.args.start c.bytes.at c.bytes.within c.step-next.result.0 c.step-next.result.1 (fields_of c.bytes.fields) _ c.bytes.field.items c.bytes-test.true
      c.bytes.invariant.read c.step-next.ensures (sym c.ends_record.ensures ∙ c.if-ends_record.true) c.in_ok-take_byte.ensures.fields,
)

pub bytes-preserved : goal.bytes-preserved
bytes-preserved c =
    let text = c.args.text.now in
    let read = reading-next text c.args.start c.bytes.at c.bytes.within c.step-next.result.0 c.step-next.result.1 (fields_of c.bytes.fields) _ c.bytes.field.items _ c.bytes-test.true
    c.bytes.invariant.read c.step-next.ensures (sym c.ends_record.ensures ∙ c.if-ends_record.false) c.in_ok-take_byte.ensures.fields c.in_ok-take_byte.ensures.field in
    let run = c.run_end-at.ensures in
    record {
      within = run.within;
      whole = c.in_ok-take_byte.ensures.whole;
      read = reading-run text c.args.start (c.bytes.at + 1) c.run_end-at.result c.step-next.result.0 _ _ _ run.order run.within read run.joins c.in_ok-extend_from_slice.ensures.items;
    }

pub returns : goal.returns
returns c =
    let over : length c.args.text.now ≤ c.bytes.at = omega (arith, c.bytes-test.false) in
    let whole = c.in_ok-push_field.ensures.fields in
    let added = rw (c.bytes.invariant.whole, c.as_slice.ensures.value) at whole in (
      c.bytes.invariant.within,
      reading-out c.args.text.now c.args.start c.bytes.at c.bytes.within (fields_of c.bytes.fields) _ c.bytes.field.items over c.bytes.invariant.read added,
    )
