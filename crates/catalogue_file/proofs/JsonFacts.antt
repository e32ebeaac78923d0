-- How many keys and parts there are.
use Rattle.std.proofs.Common.{◌≡◌, ℕ, true, List, [], length, String, Global, refl, ap}
use Rattle.std.specs.Prelude.{◌==◌, false, Option, Some, None, nat_eq, option_map, unwrap_or, if◌then◌else◌}
use Rattle.std.proofs.lemmas.Bool.{ne_eqb}
use Rattle.kql_cells.specs.declared.schema.Column.{Column}
use Rattle.serde_json.proofs.Views.{items_len-items_view, members_len-members_view}
use Rattle.serde_json.specs.Data.{Items, Members}
use Rattle.serde_json.specs.Events.{items_len, members_len}
use Rattle.serde_json.specs.View.{items_view, members_view}
use Rattle.serde_json.specs.declared.value.Value.{Value}
use Rattle.catalogue_file.specs.Columns.{columns_behind, columns_of, is_count}
use Rattle.catalogue_file.specs.Entries.{files_behind, files_of}

-- the keys of an object
pub keys-counted : (count n : ℕ) (members : List (String Global × Value)) (o : Option Members) → Some (members_view members) ≡ o → n ≡ length members
    → nat_eq n count ≡ unwrap_or (option_map (λ ms. members_len ms == count) o) false
keys-counted count n members o e size = rw (← e, size, members_len-members_view members) refl

-- the columns and the files of an array of so many parts
pub columns_counted : (items : List Value) → columns_of (items_view items) ≡ (if is_count (length items) then columns_behind [] (items_view items) else None)
unfolding columns_of
columns_counted items = ap (λ n. if is_count n then columns_behind [] (items_view items) else None) (items_len-items_view items)

pub files_counted : (items : List Value) → files_of (items_view items) ≡ (if length items == 0 then None else files_behind [] (items_view items))
unfolding files_of
files_counted items = ap (λ n. if n == 0 then None else files_behind [] (items_view items)) (items_len-items_view items)

pub columns-some : (items : List Value) → is_count (length items) ≡ true → columns_of (items_view items) ≡ columns_behind [] (items_view items)
columns-some items e = rw (columns_counted items, e) refl

pub files-some : (items : List Value) → (length items ≡ 0 → ⊥) → files_of (items_view items) ≡ files_behind [] (items_view items)
files-some items n =
    let e : (length items == 0) ≡ false = ne_eqb (length items) 0 n in
    rw (files_counted items, e) refl
