-- The derived tables: the rows of a table, each followed by what the calls of a prefix answer for it.
use Rattle.std.specs.Prelude.{ℕ, List, ◌++◌, map}
use Rattle.kql_cells.specs.Catalogues.{Named}
use Rattle.kql_cells.specs.Seen.{row_at}
use Rattle.kql_cells.specs.Table.{Grid}
use Rattle.kql_cells.specs.declared.value.Value.{Value}
use Rattle.kql_bound.specs.declared.plan.Program.{Program}
use Rattle.kql_meaning.specs.Sources.{named_table}
use Rattle.kql_meaning.specs.Tables.{cell, places}
use Rattle.pattern_lift.specs.Derived.{added_columns, derived}
use Rattle.pattern_lift.specs.declared.calls.Derived.{Derived}
use Rattle.pattern_lift.specs.declared.calls.PatternCall.{PatternCall}
use Rattle.pattern_laws.specs.Meaning.{Told, answer_to}

-- What a call answers at a row.
abbrev pub call_answer : Told → Grid → ℕ → PatternCall → Value
call_answer told t i c = answer_to told c.func c.pattern (cell t i c.column)

unfoldable pub row_answers : Told → List PatternCall → Grid → ℕ → List Value
row_answers told cs t i = map (call_answer told t i) cs

unfoldable pub derived_table : Told → List ℕ → List PatternCall → Grid → Grid
derived_table told marks cs t = record {
  columns = t.columns ++ added_columns marks cs;
  lines = map (λ i. row_at t.lines i ++ row_answers told cs t i) (places t);
}

abbrev pub derived_named : Told → List ℕ → List Named → Derived → Named
derived_named told marks tables d = record { name = d.name; table = derived_table told marks d.calls (named_table tables d.table) }

-- The derived tables of a program over a catalogue.
unfoldable pub derived_tables : Told → List ℕ → Program → List Named → List Named
derived_tables told marks p catalogue = map (derived_named told marks catalogue) (derived marks p)
