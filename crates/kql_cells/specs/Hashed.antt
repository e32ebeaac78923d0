-- What values feed to a hasher.
use Rattle.std.specs.Prelude.{◌++◌, length, flat_map}
use Rattle.std.specs.Hash as fed
use Rattle.std.specs.Hash.{HashWrites}
use Rattle.kql_cells.specs.declared.dynamic.Dyn.{Dyn, fold-Dyn}
use Rattle.kql_cells.specs.declared.dynamic.Dyn.TheOpen.{Dyn-F}
use Rattle.kql_cells.specs.declared.value.Value.{Value}
use Rattle.kql_cells.specs.declared.value.Value.TheVariants as value

-- what a dynamic value feeds, from what its parts feed: its kind first, and an array and a bag then how many parts there are
abbrev pub writes_step : Dyn-F HashWrites → HashWrites
writes_step Dyn-F.Null = fed.u8 0
writes_step (Dyn-F.Bool b) = fed.u8 1 ++ fed.bool b
writes_step (Dyn-F.Long n) = fed.u8 2 ++ fed.i64 n
writes_step (Dyn-F.Text t) = fed.u8 3 ++ fed.str t
writes_step (Dyn-F.Array parts) = fed.u8 4 ++ fed.usize (length parts) ++ flat_map (λ w. w) parts
writes_step (Dyn-F.Bag entries) = fed.u8 5 ++ fed.usize (length entries) ++ flat_map (λ e. fed.str e.0 ++ e.1) entries

-- what a dynamic value feeds
unfoldable pub writes_of : Dyn → HashWrites
writes_of = fold-Dyn HashWrites writes_step

-- what a cell feeds: a null a byte that no truth value feeds
abbrev pub cell_writes : Value → HashWrites
cell_writes value.Null = fed.u8 2
cell_writes (value.Bool b) = fed.bool b
cell_writes (value.Long n) = fed.i64 n
cell_writes (value.Text t) = fed.str t
cell_writes (value.Moment n) = fed.i64 n
cell_writes (value.Span n) = fed.i64 n
cell_writes (value.Dynamic d) = writes_of d
