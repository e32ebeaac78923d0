use Rattle.std.proofs.Common.{◌≡◌, ◌++◌, ◌∷◌, [], ap, ◌∙◌}
use Rattle.kql_values.proofs.TableLaws.{same-grid, table-widened}
use Rattle.kql_values.proofs.table.Table.push_column.Goals as goal

pub invariant_of-self-2 : goal.invariant_of-self-2
invariant_of-self-2 c =
    let added : c.push-2.new.self.items ≡ c.self.inside.columns.items ++ c.args.vector ∷ [] = c.in_ok-push-2.ensures.items ∙ ap (λ l. l ++ c.args.vector ∷ []) c.in_ok-reserve.ensures.items in
    let t = table-widened c.self.inside.schema c.push.new.self c.self.inside.count c.self.inside.columns.items c.push-2.new.self.items c.args.column c.args.vector c.self.invariant.0 (rw (← c.self.view_is) at c.requires.count) c.requires.fits c.in_ok-push.ensures.added added in
    (t.0, c.self.invariant.1)

pub returns-clause-added : goal.returns-clause-added
returns-clause-added c =
    let added : c.push-2.new.self.items ≡ c.self.inside.columns.items ++ c.args.vector ∷ [] = c.in_ok-push-2.ensures.items ∙ ap (λ l. l ++ c.args.vector ∷ []) c.in_ok-reserve.ensures.items in
    let t = table-widened c.self.inside.schema c.push.new.self c.self.inside.count c.self.inside.columns.items c.push-2.new.self.items c.args.column c.args.vector c.self.invariant.0 (rw (← c.self.view_is) at c.requires.count) c.requires.fits c.in_ok-push.ensures.added added in
    rw (← c.self.view_is) (same-grid _ _ _ _ c.in_ok-push.ensures.added t.1)
