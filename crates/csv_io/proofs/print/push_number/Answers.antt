use Rattle.std.proofs.Common.{◌≡◌, ◌++◌, FitsSigned, append-nil, pos, rules, slice_index_or, subst, sym, w64}
use Rattle.std.specs.Prelude.{OnOk}
use Rattle.std.proofs.lemmas.Int.{to_z-of_z}
use Rattle.csv.specs.Writing.{default_writer, field_text}
use Rattle.csv_io.specs.Reload.{ReadsBack}
use Rattle.csv_io.specs.Text.{cell_text}
use Rattle.csv_io.proofs.CellBack.{null-back}
use Rattle.csv_io.proofs.LentFacts.{long-at, moment-at, null-at, span-at}
use Rattle.kql_cells.specs.Values.{IsWellFormed}
use Rattle.csv_io.proofs.print.push_number.Goals as goal

pub returns-then-is_null-clause-added : goal.returns-then-is_null-clause-added
returns-then-is_null-clause-added c =
    let out = c.args.out.now.items in
    let null = null-at c.args.numbers.now c.args.i c.requires.whole c.requires.within c.if-is_null.true in
    subst (λ v. out ≡ out ++ field_text default_writer (cell_text v)) null (sym (append-nil out))

pub returns-then-is_null-clause-back : goal.returns-then-is_null-clause-back
returns-then-is_null-clause-back c = subst ReadsBack (null-at c.args.numbers.now c.args.i c.requires.whole c.requires.within c.if-is_null.true) null-back

pub push_datetime-requires : goal.push_datetime-requires
push_datetime-requires c =
    let n = slice_index_or c.args.numbers.now.numbers.now c.args.i (pos 0) in
    let fits : FitsSigned w64 n = search rules in
    let moment = moment-at c.args.numbers.now c.args.i c.requires.whole c.requires.within c.if-is_null.false c.in-Moment.is in
    rw (to_z-of_z w64 n fits) (subst IsWellFormed (sym moment) c.requires.form)

pub returns-in-Long-clause-added : goal.returns-in-Long-clause-added
returns-in-Long-clause-added c =
    let n = slice_index_or c.args.numbers.now.numbers.now c.args.i (pos 0) in
    let fits : FitsSigned w64 n = search rules in
    let long = long-at c.args.numbers.now c.args.i c.requires.whole c.requires.within c.if-is_null.false c.in-Long.is in
    subst (λ v. OnOk c.push_long.result (c.push_long.new.out.items ≡ c.args.out.now.items ++ field_text default_writer (cell_text v))) long (rw (to_z-of_z w64 n fits) at c.push_long.ensures.added)

pub returns-in-Long-clause-back : goal.returns-in-Long-clause-back
returns-in-Long-clause-back c =
    let n = slice_index_or c.args.numbers.now.numbers.now c.args.i (pos 0) in
    let fits : FitsSigned w64 n = search rules in
    let long = long-at c.args.numbers.now c.args.i c.requires.whole c.requires.within c.if-is_null.false c.in-Long.is in
    subst (λ v. OnOk c.push_long.result (ReadsBack v)) long (rw (to_z-of_z w64 n fits) at c.push_long.ensures.back)

pub returns-in-Moment-clause-added : goal.returns-in-Moment-clause-added
returns-in-Moment-clause-added c =
    let n = slice_index_or c.args.numbers.now.numbers.now c.args.i (pos 0) in
    let fits : FitsSigned w64 n = search rules in
    let moment = moment-at c.args.numbers.now c.args.i c.requires.whole c.requires.within c.if-is_null.false c.in-Moment.is in
    subst (λ v. OnOk c.push_datetime.result (c.push_datetime.new.out.items ≡ c.args.out.now.items ++ field_text default_writer (cell_text v))) moment
    (rw (to_z-of_z w64 n fits) at c.push_datetime.ensures.added)

pub returns-in-Moment-clause-back : goal.returns-in-Moment-clause-back
returns-in-Moment-clause-back c =
    let n = slice_index_or c.args.numbers.now.numbers.now c.args.i (pos 0) in
    let fits : FitsSigned w64 n = search rules in
    let moment = moment-at c.args.numbers.now c.args.i c.requires.whole c.requires.within c.if-is_null.false c.in-Moment.is in
    subst (λ v. OnOk c.push_datetime.result (ReadsBack v)) moment (rw (to_z-of_z w64 n fits) at c.push_datetime.ensures.back)

pub returns-in-Span-clause-added : goal.returns-in-Span-clause-added
returns-in-Span-clause-added c =
    let n = slice_index_or c.args.numbers.now.numbers.now c.args.i (pos 0) in
    let fits : FitsSigned w64 n = search rules in
    let span = span-at c.args.numbers.now c.args.i c.requires.whole c.requires.within c.if-is_null.false c.in-Span.is in
    subst (λ v. OnOk c.push_timespan.result (c.push_timespan.new.out.items ≡ c.args.out.now.items ++ field_text default_writer (cell_text v))) span
    (rw (to_z-of_z w64 n fits) at c.push_timespan.ensures.added)

pub returns-in-Span-clause-back : goal.returns-in-Span-clause-back
returns-in-Span-clause-back c =
    let n = slice_index_or c.args.numbers.now.numbers.now c.args.i (pos 0) in
    let fits : FitsSigned w64 n = search rules in
    let span = span-at c.args.numbers.now c.args.i c.requires.whole c.requires.within c.if-is_null.false c.in-Span.is in
    subst (λ v. OnOk c.push_timespan.result (ReadsBack v)) span (rw (to_z-of_z w64 n fits) at c.push_timespan.ensures.back)
