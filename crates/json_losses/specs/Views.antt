-- The numbers of values of `serde_json`.
use Rattle.std.specs.Prelude.{ℕ, String}
use Rattle.std.specs.declared.alloc.Global.{Global}
use Rattle.serde_json.specs.View.{view}
use Rattle.serde_json.specs.declared.value.Value.{Value}
use Rattle.json_losses.specs.Losses.{data_losses}

abbrev pub part_losses : Value → ℕ
part_losses v = data_losses (view v)

abbrev pub entry_losses : String Global × Value → ℕ
entry_losses e = data_losses (view e.1)
