use Rattle.std.proofs.Common.{◌≡◌, ◌<◌, ◌++◌, ◌∷◌, [], length, subst, sym, ap, ◌∙◌, rules, arith, vec_len}
use Rattle.std.specs.Prelude.{All}
use Rattle.kql_cells.specs.Seen.{seen}
use Rattle.kql_cells.specs.Keys.{absent}
use Rattle.kql_values.specs.Moves.{IsWithin}
use Rattle.kql_cells.specs.declared.schema.Column.{Column}
use Rattle.kql_values.proofs.TableLaws.{or_absent-nil, or_absent-step}
use Rattle.kql_values.proofs.vectors.gather_or_absent_columns.Goals as goal

pub loop-j-init : goal.loop-j-init
loop-j-init c = c.in_ok-gathered.ensures.items ∙ sym (or_absent-nil _)

pub gather_or_absent-requires : goal.gather_or_absent-requires
gather_or_absent-requires c =
    let count : length c.args.columns.now.items ≡ vec_len c.args.columns.now = search rules in
    let lt : c.loop-j.j < length c.args.columns.now.items = omega arith in
    subst (λ y. All (IsWithin (length y)) c.args.places.now) (sym c.index.ensures) (c.requires.within c.loop-j.j c.index.result.now lt)

pub loop-j-preserved : goal.loop-j-preserved
loop-j-preserved c =
    let count : length c.args.columns.now.items ≡ vec_len c.args.columns.now = search rules in
    let lt : c.loop-j.j < length c.args.columns.now.items = omega arith in
    let low : c.loop-j.j < length c.args.schema.now = omega (arith, c.requires.width) in
    or_absent-step c.args.schema.now c.args.columns.now.items c.loop-j.gathered.items c.push.new.self.items c.args.places.now c.loop-j.j c.index-schema-j.result c.index.result.now
    (seen c.absent-absent.result) low lt c.index-schema-j.is c.index.ensures (c.absent-absent.ensures.value ∙ ap (λ (d : Column). absent d.kind) (sym c.index-schema-j.is)) c.loop-j.invariant
    (c.in_ok-push.ensures.items ∙ ap (λ y. c.loop-j.gathered.items ++ y ∷ []) c.in_ok-gather_or_absent.ensures.cells)
