-- Which numbers are counted.
use Rattle.std.specs.Prelude.{◌≡◌, ◌↔◌, true}
use Rattle.serde_json.specs.Data.{Num}
use Rattle.kql_cells.specs.Dynamic.{is_null}
use Rattle.kql_dynamic.specs.Json.{number_dyn}
use Rattle.json_losses.specs.Losses.{number_losses}

-- a number is counted, once, exactly where its dynamic value is null
abbrev pub CountsNulls : Type 0
CountsNulls = (n : Num) → (number_losses n ≡ 1) ↔ (is_null (number_dyn n) ≡ true)
