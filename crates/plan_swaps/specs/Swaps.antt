-- The table of the rules by which two neighbours change places: what they become where one fires.
use Rattle.std.specs.Prelude.{List, Option, None, Some}
use Rattle.kql_cells.specs.declared.schema.Column.{Column}
use Rattle.kql_bound.specs.declared.plan.Op.{Op}
use Rattle.plan_rules.specs.Rules.{expand_then_filter, extend_then_filter, extend_then_take, join_then_filter, parse_then_filter, parse_then_take, project_then_take, sort_then_filter, unique_then_filter}

abbrev pub first_some : {A : Type 0} → Option A → Option A → Option A
first_some (Some a) o = Some a
first_some None o = o

-- A filter that goes in front of its neighbour as it is.
unfoldable pub filter_rule : List Column → Op → Op → Option (List Op)
filter_rule cs x y =
    first_some (extend_then_filter x y)
    (first_some (sort_then_filter x y)
    (first_some (expand_then_filter x y)
    (first_some (parse_then_filter x y)
    (first_some (join_then_filter cs x y) (unique_then_filter cs x y)))))

-- A `take` that goes in front of its neighbour.
unfoldable pub take_rule : Op → Op → Option (List Op)
take_rule x y =
    first_some (extend_then_take x y)
    (first_some (project_then_take x y) (parse_then_take x y))

-- Two neighbours that change places.
unfoldable pub swap_rule : List Column → Op → Op → Option (List Op)
swap_rule cs x y = first_some (take_rule x y) (filter_rule cs x y)
