use Rattle.std.proofs.Common.{◌∙◌, ℕ, List, ap, ap₂, get_or, length, map, subst, sym}
use Rattle.std.specs.List.{position}
use Rattle.std.specs.Prelude.{bytes_eq}
use Rattle.kql_bound.specs.declared.parts.ExpandItem.{ExpandItem}
use Rattle.kql_cells.specs.Named.{HasDistinctNames, column_name}
use Rattle.kql_cells.specs.Seen.{value_at}
use Rattle.kql_cells.specs.declared.schema.Column.{Column}
use Rattle.kql_cells.specs.declared.value.Value.{Value}
use Rattle.table_ops.specs.Parts.{parts_below}
use Rattle.table_ops.proofs.ExpandFacts.{if-ok, input-kept, input-replaced}
use Rattle.table_ops.proofs.expand.input_vector.Goals as goal

pub returns-in-Some : goal.returns-in-Some
returns-in-Some c =
    let column = c.index-columns-j.result in
    let item = c.index-as_slice-at-in-Some.result in
    let values = c.index-as_slice-at.result in
    let own = c.index-columns-j.is ∙ ap (λ (cs : List Column). get_or cs c.args.j column) (c.columns.ensures.columns ∙ c.schema.ensures.columns) in
    let place = ap₂ (λ (n : List ℕ) (items : List ExpandItem). position (λ (b : ExpandItem). bytes_eq b.name n) items) (sym c.as_str.ensures.same) (sym c.as_slice.ensures.items) ∙ (sym c.item_place.ensures.place ∙ c.in-Some.is) in
    let is = c.index-as_slice-at-in-Some.is ∙ ap (λ (items : List ExpandItem). get_or items c.in-Some.at item) c.as_slice-in-Some-2.ensures.items in
    let there = c.index-as_slice-at.is ∙ ap (λ (vs : List (List Value)). get_or vs c.in-Some.at values) c.as_slice-in-Some.ensures.items in
    record {
      cells = if-ok c.parts_down.result
          (λ v e.
          input-replaced c.args.x.now c.args.t.now c.args.parts.now c.args.j c.in-Some.at column item values v c.requires.parts c.requires.column own place is there
          (e ∙ ap (λ (ns : List ℕ). parts_below c.args.x.now.array item.to values ns (length ns)) c.as_slice-in-Some-3.ensures.items))
          c.parts_down.ensures.parts;
    }

pub returns-in-None : goal.returns-in-None
returns-in-None c =
    let column = c.index-columns-j.result in
    let names = subst (HasDistinctNames column_name) c.schema.ensures.columns c.columns.ensures.distinct in
    let own = c.index-columns-j.is ∙ ap (λ (cs : List Column). get_or cs c.args.j column) (c.columns.ensures.columns ∙ c.schema.ensures.columns) in
    let place = ap₂ (λ (n : List ℕ) (items : List ExpandItem). position (λ (b : ExpandItem). bytes_eq b.name n) items) (sym c.as_str.ensures.same) (sym c.as_slice.ensures.items) ∙ (sym c.item_place.ensures.place ∙ c.in-None.is) in
    record {
      cells = if-ok c.gather.result
          (λ v e.
          input-kept c.args.x.now c.args.t.now c.args.parts.now c.args.j column c.column.result.now v names c.schema.ensures.fits c.requires.parts c.requires.column own place c.column.ensures.cells
          (e ∙ ap (map (value_at c.column.result.now)) c.as_slice-in-None.ensures.items))
          c.gather.ensures.cells;
    }
