use Rattle.std.proofs.Common.{◌≡◌, ◌+◌, ◌^◌, ◌<◌, length, drop, sym, subst, rules}
use Rattle.left_right.specs.Sides.{view}
use Rattle.live_catalogue.specs.Views.{AppenderView, all_rows, line_count}
use Rattle.live_catalogue.proofs.Appends.{staged_kept, staged_view}
use Rattle.live_catalogue.proofs.appender.Appender.stage.Goals as goal

pub invariant_of-self : goal.invariant_of-self
invariant_of-self g c =
    let w = c.self.inside.writer in
    let new = c.append.new.self in
    let seat : view new.desk.place ≡ view w.desk.place = search rules in
    let value : new.desk.shown.value ≡ w.desk.shown.value = search rules in
    let back = sym c.self.view_is in
    staged_kept g.V.Grows.can_take g.V.Grows.row_count _ _ _ _ (drop w.behind w.log.items) (drop new.behind new.log.items) _ _ _ _ c.args.batch seat value c.in-Ok.ensures.pending c.len-rows.ensures.count
    (subst (λ (z : AppenderView g.row.V.Denot). g.V.Grows.can_take z.value c.args.batch) back c.requires.takes)
    (subst (λ (z : AppenderView g.row.V.Denot). g.V.Grows.row_count z.value + all_rows z.pending + line_count c.args.batch < 2 ^ 63) back c.requires.rows)
    (subst (λ (z : AppenderView g.row.V.Denot). length z.published + length z.pending < 2 ^ 63) back c.requires.staged)
    c.self.invariant

pub returns-in-Ok-clause-staged : goal.returns-in-Ok-clause-staged
returns-in-Ok-clause-staged g c =
    let w = c.self.inside.writer in
    let new = c.append.new.self in
    let seat : view new.desk.place ≡ view w.desk.place = search rules in
    let value : new.desk.shown.value ≡ w.desk.shown.value = search rules in
    staged_view g.V.Grows.can_take g.V.Grows.row_count _ _ _ _ _ (drop w.behind w.log.items) (drop new.behind new.log.items) _ c.args.batch seat value c.in-Ok.ensures.pending c.self.view_is
