-- The parts of a column, row after row.
use Rattle.std.proofs.Common.{◌≡◌, ◌<◌, ◌+◌, ◌++◌, ℕ, Bool, List, [], ◌∷◌, map, length, sym, ap, ap₂, ◌∙◌, arith}
use Rattle.std.specs.Prelude.{All, slice_index_or}
use Rattle.std.specs.List.{range_with_len}
use Rattle.std.proofs.lemmas.List.{append-nil, append_assoc, map-append}
use Rattle.std.proofs.lemmas.List.FromFn.{map-range_with_len_more}
use Rattle.kql_cells.specs.Seen.{value_at}
use Rattle.kql_cells.specs.Values.{IsWellFormed}
use Rattle.kql_cells.specs.declared.value.Kind.{Kind}
use Rattle.kql_cells.specs.declared.value.Value.{Value}
use Rattle.kql_meaning.specs.MvExpand.{part_as}
use Rattle.kql_meaning.specs.Tables.{places_below}
use Rattle.table_ops.specs.Parts.{part_below, part_or_null, parts_below, times_at, times_below}
use Rattle.table_ops.proofs.CountFacts.{times-step}
use Rattle.table_ops.proofs.Transposed.{map-map}

abbrev pub converted_part : Bool → Kind → Value → ℕ → Value
converted_part array to v k = part_as to (part_or_null array v k)

-- One value's parts.

pub converted-none : (array : Bool) (to : Kind) (v : Value) (base : List Value) → base ≡ base ++ map (converted_part array to v) (places_below 0)
unfolding places_below
converted-none array to v base = sym (append-nil base)

pub converted-more : (array : Bool) (to : Kind) (v w : Value) (k : ℕ) (base old new : List Value) → w ≡ part_as to (part_or_null array v k) → old ≡ base ++ map (converted_part array to v) (places_below k) → new ≡ old ++ w ∷ [] → new ≡ base ++ map (converted_part array to v) (places_below (k + 1))
unfolding places_below
converted-more array to v w k base old new is before after =
    after ∙ (ap₂ (λ (xs : List Value) (x : Value). xs ++ x ∷ []) before is
    ∙ (append_assoc base (map (converted_part array to v) (range_with_len 0 k)) (converted_part array to v k ∷ [])
    ∙ ap (λ (xs : List Value). base ++ xs) (sym (map-range_with_len_more (converted_part array to v) 0 k k (omega arith)))))

-- All values' parts.

pub down-start : (array : Bool) (to : Kind) (values : List Value) (counts : List ℕ) (out : List Value) → out ≡ [] → out ≡ parts_below array to values counts 0
unfolding parts_below times_below places_below
down-start array to values counts out e = e

pub down-step : (array : Bool) (to : Kind) (values : List Value) (counts : List ℕ) (i : ℕ) (v : Value) (old new : List Value) → v ≡ value_at values i → old ≡ parts_below array to values counts i → new ≡ old ++ map (converted_part array to v) (places_below (slice_index_or counts i 0)) → new ≡ parts_below array to values counts (i + 1)
unfolding parts_below part_below times_at
down-step array to values counts i v old new is before after =
    let f = part_below array to values in
    after ∙ (ap₂ (λ (xs ys : List Value). xs ++ ys) before
    (ap (λ (w : Value). map (converted_part array to w) (places_below (slice_index_or counts i 0))) is
    ∙ sym (map-map f (λ k. (i, k)) (places_below (slice_index_or counts i 0))))
    ∙ (sym (map-append f (times_below counts i) (times_at counts i)) ∙ ap (map f) (sym (times-step counts i))))

pub value-formed : (values : List Value) (i : ℕ) (v : Value) → All IsWellFormed values → i < length values → v ≡ value_at values i → IsWellFormed v
value-formed values i v h lt is = rw is (h i _ lt)

pub ruleset down_steps = (down-start, down-step, value-formed)

pub ruleset part_steps = (converted-none, converted-more)
