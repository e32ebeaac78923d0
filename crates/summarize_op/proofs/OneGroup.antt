-- The one group of all rows.
use Rattle.std.proofs.Common.{◌≡◌, ◌<◌, ◌==◌, ◌+◌, ◌++◌, ℕ, true, List, [], ◌∷◌, length, map, refl, ap, sym, ◌∙◌, subst, arith}
use Rattle.std.specs.Prelude.{All}
use Rattle.std.specs.List.{range_with_len}
use Rattle.std.proofs.lemmas.List.Elements.{All-from_recursion}
use Rattle.std.proofs.lemmas.List.FromFn.{length-map-range_with_len, map-range_with_len_more}
use Rattle.kql_cells.specs.Table.{Grid, gathered}
use Rattle.kql_cells.specs.declared.value.Value.{Value}
use Rattle.kql_values.specs.Grids.{HaveLength, row_of}
use Rattle.kql_keys.specs.Places.{places_of}
use Rattle.kql_keys.proofs.NumberLaws.{places-filter}
use Rattle.kql_bound.specs.declared.parts.BItem.{BItem}
use Rattle.kql_meaning.specs.Items.{items_values}
use Rattle.kql_meaning.specs.Summarize.{group_rows}
use Rattle.kql_meaning.specs.Tables.{places, places_below}
use Rattle.kql_meaning.proofs.ListLaws.{every-map-range, every-range, filter-all, gathered-all}
use Rattle.summarize_op.specs.Groups.{AreGroups, group_at, zeros}

zeros-places : (n : ℕ) → places_of (zeros n) 0 ≡ range_with_len 0 n
unfolding places_of zeros
zeros-places n =
    places-filter (λ i. 0) (λ x. x == 0) 0 n
    ∙ filter-all (λ i. true) (range_with_len 0 n) (every-range (λ i. true ≡ true) 0 n (λ i low high. refl))

zeros-within : (n : ℕ) → All (λ x. x < 1) (zeros n)
unfolding zeros
zeros-within n = All-from_recursion (λ x. x < 1) (map (λ i. 0) (range_with_len 0 n)) (every-map-range (λ x. x < 1) (λ i. 0) 0 n (λ i low high. omega arith))

zeros-length : (n : ℕ) → length (zeros n) ≡ n
unfolding zeros
zeros-length n = length-map-range_with_len (λ i. 0) 0 n

whole : (t : Grid) → group_at t (zeros (length t.lines)) 0 ≡ t
unfolding group_at places places_below
whole t = ap (gathered t) (zeros-places (length t.lines)) ∙ gathered-all t

one-row : (items : List BItem) (t : Grid) → group_rows [] items t ≡ map (λ g. row_of [] g ++ items_values items (group_at t (zeros (length t.lines)) g) 0) (range_with_len 0 1)
unfolding group_rows row_of
one-row items t = ap (λ (u : Grid). items_values items u 0 ∷ []) (sym (whole t))

long-nothing : HaveLength {X = Value} 1 []
unfolding HaveLength
long-nothing = tt

all-one : (t : Grid) → AreGroups [] t [] (zeros (length t.lines)) 1
all-one t = record {
  within = zeros-within (length t.lines);
  each = zeros-length (length t.lines);
  long = long-nothing;
  rows = λ items. one-row items t;
}

pub one-group : (t : Grid) (n : ℕ) (cs : List (List Value)) (numbers : List ℕ) → n ≡ length t.lines → cs ≡ [] → numbers ≡ zeros n → AreGroups [] t cs numbers 1
one-group t n cs numbers len none is =
    subst (λ (vs : List (List Value)). AreGroups [] t vs numbers 1) (sym none)
    (subst (λ ns. AreGroups [] t [] ns 1) (sym (is ∙ ap zeros len)) (all-one t))

pub ruleset one_group_facts = (one-group)

pub zeros-more : (n : ℕ) (old new : List ℕ) → old ≡ zeros n → new ≡ old ++ 0 ∷ [] → new ≡ zeros (n + 1)
unfolding zeros
zeros-more n old new before after = after ∙ (ap (λ (xs : List ℕ). xs ++ 0 ∷ []) before ∙ sym (map-range_with_len_more (λ i. 0) 0 n n (omega arith)))
