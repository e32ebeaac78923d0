-- What may be asked of a value that has an opening.
use Rattle.std.proofs.Common.{◌≡◌, ◌++◌, ℕ, List, [], length, All, Option, Some, None, true, false, fold, refl, sym, subst}
use Rattle.std.specs.Prelude.{IsSome, IsSomeAnd, replicate, option_to_list}
use Rattle.std.proofs.lemmas.List.{length-replicate}
use Rattle.std.proofs.lemmas.List.Elements.{All-pop, All-replicate}
use Rattle.kql_cells.specs.Table.{Grid}
use Rattle.kql_cells.specs.declared.schema.Column.{Column}
use Rattle.kql_cells.specs.declared.value.Value.{Value}
use Rattle.kql_values.specs.Grids.{ColumnsFit}
use Rattle.live_catalogue.specs.Views.{ReaderView, beginner, begun}
use Rattle.live_run_tests.specs.declared.tally.Tally.{Tally}

pub ask_table : {V : Type 0} (opening : Option V) → IsSome opening → IsSomeAnd opening (λ _. Unit {0})
ask_table None h = let e : false ≡ true = h in cc
ask_table (Some o) h = tt

-- a tally stands for as many rows without columns
pub stands_for_some : (tally : Tally) → (t : Grid) × (tally.rows ≡ length t.lines)
stands_for_some tally = (record { columns = []; lines = replicate tally.rows [] }, sym (length-replicate tally.rows []))

pub ask_tally : (grown : Tally → Grid → Tally) (opening : Option Tally) → IsSome opening
    → IsSomeAnd opening (λ o. (batches : List Grid) → Unit {0} → (t : Grid) × ((fold grown o batches).rows ≡ length t.lines))
ask_tally grown None h = let e : false ≡ true = h in cc
ask_tally grown (Some o) h = λ batches _. stands_for_some (fold grown o batches)

-- each reader has the opening
pub has_opening : {V : Type 0} (readers rest : List (ReaderView V)) (n : ℕ) (first : V) (reader : ReaderView V) → readers ≡ replicate n (beginner (begun first))
    → readers ≡ rest ++ option_to_list (Some reader) → IsSome reader.opening
has_opening readers rest n first reader are popped =
    (All-pop (λ (r : ReaderView _). IsSome r.opening) readers rest (Some reader) popped
    (subst (All (λ (r : ReaderView _). IsSome r.opening)) (sym are) (All-replicate (λ (r : ReaderView _). IsSome r.opening) n (beginner (begun first)) refl))).1

pub still_open : {V : Type 0} (o o' : Option V) → o' ≡ o → IsSome o → IsSome o'
still_open o o' same h = subst IsSome (sym same) h

-- no columns fit so many rows
pub none_fit : (n : ℕ) (columns : List Column) (vectors : List (List Value)) → columns ≡ [] → vectors ≡ [] → ColumnsFit columns n vectors
unfolding ColumnsFit
none_fit n columns vectors none empty = rw (none, empty) tt
