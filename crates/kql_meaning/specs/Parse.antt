-- `parse`: the text is cut into pieces by the pattern, and each column of the pattern gets its piece. Where there is no cut all new
-- columns are absent. The columns are placed as by `extend`.
use Rattle.std.specs.Prelude.{ℕ, List, [], ◌∷◌, ◌++◌, Option, None, Some, map, slice_range, unwrap_or}
use Rattle.kql_cells.specs.Ordered.{text_in}
use Rattle.kql_cells.specs.Table.{Grid}
use Rattle.kql_cells.specs.declared.schema.Column.{Column}
use Rattle.kql_cells.specs.declared.value.Kind.{Kind}
use Rattle.kql_cells.specs.declared.value.Value.{Value}
use Rattle.kql_bound.specs.declared.parts.ParsePlan.{ParsePlan}
use Rattle.kql_bound.specs.declared.parts.PatItem.{PatItem}
use Rattle.kql_bound.specs.declared.parts.PatItem.TheVariants as item
use Rattle.kql_meaning.specs.Cuts.{cut, piece_read}
use Rattle.kql_meaning.specs.Expressions.{val}
use Rattle.kql_meaning.specs.Items.{cells_in, without}
use Rattle.kql_meaning.specs.Tables.{absent_row, names_of, places}
use Rattle.kql_meaning.specs.Values.{absent}

-- The columns of a pattern.
unfoldable pub pattern_columns : List PatItem → List Column
pattern_columns [] = []
pattern_columns (item.Star ∷ ps) = pattern_columns ps
pattern_columns (item.Literal t ∷ ps) = pattern_columns ps
pattern_columns (item.Column name kind ∷ ps) = record { name = name; kind = kind } ∷ pattern_columns ps

-- What a column gets of its piece: one that does not read, which kind relaxed lets through, is absent.
unfoldable pub piece_value : Kind → List ℕ → Value
piece_value kind piece = unwrap_or (piece_read kind piece) (absent kind)

-- The values of the columns, from the ends of the pieces of a text from a place on.
unfoldable pub pieces_values : List PatItem → List ℕ → ℕ → List ℕ → List Value
pieces_values (item.Column name kind ∷ ps) t start (end ∷ ends) = piece_value kind (slice_range t start end) ∷ pieces_values ps t end ends
pieces_values (p ∷ ps) t start (end ∷ ends) = pieces_values ps t end ends
pieces_values _ t start _ = []

-- The same where there may be no cut.
unfoldable pub cut_values : List PatItem → List ℕ → Option (List ℕ) → List Value
cut_values pattern t None = absent_row (pattern_columns pattern)
cut_values pattern t (Some ends) = pieces_values pattern t 0 ends

-- The values of the new columns for a text.
unfoldable pub parsed_values : ParsePlan → List ℕ → List Value
parsed_values p t = cut_values p.pattern t (cut p.relaxed p.pattern t)

unfoldable pub pattern_names : List PatItem → List (List ℕ)
pattern_names pattern = names_of (pattern_columns pattern)

unfoldable pub parse_columns : ParsePlan → List Column → List Column
parse_columns p columns = without (pattern_names p.pattern) columns ++ pattern_columns p.pattern

unfoldable pub parse_table : ParsePlan → Grid → Grid
parse_table p t = record {
  columns = parse_columns p t.columns;
  lines = map (λ i. cells_in (without (pattern_names p.pattern) t.columns) t i ++ parsed_values p (text_in (val p.text t i []))) (places t);
}
