-- A view that took a table takes the same tables as before, and counts the table's rows more.
use Rattle.std.specs.Prelude.{◌≡◌, ◌+◌, ◌↔◌, length, refl}
use Rattle.kql_cells.specs.Table.{Grid}
use Rattle.view_ops.specs.Views.{Viewed, can_take, grown, row_count}

pub takes-alike : (v : Viewed) (b c : Grid) → can_take v b → can_take (grown v b) c ↔ can_take v c
unfolding grown
takes-alike v b c own = (λ h. h, λ h. h)

pub rows-add : (v : Viewed) (b : Grid) → can_take v b → row_count (grown v b) ≡ row_count v + length b.lines
unfolding grown
rows-add v b own = refl
