use Rattle.std.proofs.Common.{◌≡◌, ◌∙◌, List, ap, get_or, map, refl, subst, sym}
use Rattle.std.specs.Prelude.{IfOk}
use Rattle.kql_cells.specs.Keys.{absent}
use Rattle.kql_cells.specs.Named.{column_name, place_of}
use Rattle.kql_cells.specs.Seen.{seen}
use Rattle.kql_cells.specs.declared.schema.Column.{Column}
use Rattle.kql_values.specs.Moves.{value_or}
use Rattle.summarize_op.proofs.PickSteps.{named-picked, nowhere}
use Rattle.summarize_op.proofs.picks.named_column.Goals as goal

pub unreachable-requires : goal.unreachable-requires
unreachable-requires c = nowhere c.args.t.now.columns c.schema.result.now c.args.name.now c.requires.there c.schema.ensures.columns (c.find.ensures.absent.0 c.in-None.is)

pub returns : goal.returns
returns c =
    let t = c.args.t.now in
    let n = c.args.name.now in
    let j = c.in-Some.place in
    let d = c.index-columns-place.result in
    let cells = c.column.result.now in
    let away = seen c.absent-absent.result in
    let ep = ap (place_of column_name n) (sym c.schema.ensures.columns) ∙ (sym c.find.ensures.place ∙ c.in-Some.is) in
    let ea = c.absent-absent.ensures.value ∙ ap (λ (cs : List Column). absent (get_or cs j d).kind) (c.columns.ensures.columns ∙ c.schema-in-Some.ensures.columns) in
    let same = named-picked n t j d c.args.rows.now cells (map (value_or away cells) c.args.rows.now) away c.schema.ensures.fits ep c.requires.within c.column.ensures.cells ea refl in
    record { values = subst (λ z. IfOk c.gather_or_absent.result (λ v. v ≡ z)) same c.gather_or_absent.ensures.cells }
