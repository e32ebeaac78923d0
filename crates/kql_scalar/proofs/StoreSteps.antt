-- Comparisons over the store of a column.
use Rattle.std.proofs.Common.{◌≡◌, ◌<◌, ◌+◌, ℕ, zero, suc, ℤ, pos, Bool, false, cond, List, [], ◌∷◌, ◌++◌, length, map, take, get_or, filter, refl, ap, sym, ◌∙◌, arith}
use Rattle.std.specs.Prelude.{IsTrue, Option, Some, None, slice_index_or, if◌then◌else◌}
use Rattle.kql_texts.specs.Texts.{same}
use Rattle.kql_cells.specs.Seen.{value_at}
use Rattle.kql_cells.specs.Table.{Grid, IsGrid}
use Rattle.kql_cells.specs.declared.value.Value.{Value}
use Rattle.kql_cells.specs.declared.value.Value.TheVariants as value
use Rattle.kql_values.specs.Grids.{column_at}
use Rattle.kql_values.specs.Nullable.{nullable, unless_null}
use Rattle.kql_values.specs.Numbers.{values_of_numbers}
use Rattle.kql_values.specs.Stores.{number_value, text_value}
use Rattle.kql_values.specs.declared.store.NumberKind.{NumberKind}
use Rattle.kql_values.specs.declared.store.NumberKind.TheVariants as number
use Rattle.kql_values.specs.declared.store.Numbers.{Numbers}
use Rattle.kql_functions.specs.declared.func.ComparisonFunc.{ComparisonFunc}
use Rattle.kql_functions.specs.declared.func.ComparisonFunc.TheVariants as comparison_func
use Rattle.kql_scalar_fns.specs.Applied.{applied}
use Rattle.kql_scalar_fns.specs.Arguments.{argument}
use Rattle.kql_scalar_fns.specs.Comparison.{comparison, equality, order}
use Rattle.kql_scalar_fns.specs.Logic.{truth}
use Rattle.kql_meaning.specs.Tables.{cell_in}
use Rattle.kql_meaning.specs.Values.{holds}
use Rattle.kql_scalar.specs.Rows.{AreBelow, cell_compares, compares}
use Rattle.kql_scalar.specs.Stores.{is_number_test, is_text_test, number_at, number_test, text_test, value_compares}
use Rattle.kql_scalar.proofs.FormFacts.{cell-column}
use Rattle.kql_scalar.proofs.RowSteps.{below-item, kept_at}

-- A comparison of two numbers of one type, and of null with a number.

pub numbers-compared : (f : ComparisonFunc) (kind : NumberKind) (m : Option ℤ) (n : ℤ) → IsTrue (is_number_test f) → compares f (number_value kind m) (number_value kind (Some n)) ≡ number_test f m n
unfolding compares number_test is_number_test holds applied comparison equality order argument truth
numbers-compared comparison_func.Equal number.Long (Some m) n h = refl
numbers-compared comparison_func.Equal number.Moment (Some m) n h = refl
numbers-compared comparison_func.Equal number.Span (Some m) n h = refl
numbers-compared comparison_func.NotEqual number.Long (Some m) n h = refl
numbers-compared comparison_func.NotEqual number.Moment (Some m) n h = refl
numbers-compared comparison_func.NotEqual number.Span (Some m) n h = refl
numbers-compared comparison_func.Less number.Long (Some m) n h = refl
numbers-compared comparison_func.Less number.Moment (Some m) n h = refl
numbers-compared comparison_func.Less number.Span (Some m) n h = refl
numbers-compared comparison_func.AtMost number.Long (Some m) n h = refl
numbers-compared comparison_func.AtMost number.Moment (Some m) n h = refl
numbers-compared comparison_func.AtMost number.Span (Some m) n h = refl
numbers-compared comparison_func.Greater number.Long (Some m) n h = refl
numbers-compared comparison_func.Greater number.Moment (Some m) n h = refl
numbers-compared comparison_func.Greater number.Span (Some m) n h = refl
numbers-compared comparison_func.AtLeast number.Long (Some m) n h = refl
numbers-compared comparison_func.AtLeast number.Moment (Some m) n h = refl
numbers-compared comparison_func.AtLeast number.Span (Some m) n h = refl
numbers-compared comparison_func.Equal number.Long None n h = refl
numbers-compared comparison_func.Equal number.Moment None n h = refl
numbers-compared comparison_func.Equal number.Span None n h = refl
numbers-compared comparison_func.NotEqual number.Long None n h = refl
numbers-compared comparison_func.NotEqual number.Moment None n h = refl
numbers-compared comparison_func.NotEqual number.Span None n h = refl
numbers-compared comparison_func.Less kind None n h = refl
numbers-compared comparison_func.AtMost kind None n h = refl
numbers-compared comparison_func.Greater kind None n h = refl
numbers-compared comparison_func.AtLeast kind None n h = refl
numbers-compared _ kind m n h = absurd cc

pub texts-compared : (f : ComparisonFunc) (a b : List ℕ) → IsTrue (is_text_test f) → compares f (value.Text a) (value.Text b) ≡ text_test f a b
unfolding compares text_test is_text_test holds applied comparison equality argument truth same
texts-compared comparison_func.Equal a b h = refl
texts-compared comparison_func.NotEqual a b h = refl
texts-compared _ a b h = absurd cc

-- What stands at a place of the store.

nullable-at : (ns : List ℤ) (bs : List Bool) (kind : NumberKind) (i : ℕ) → length bs ≡ length ns → i < length ns → value_at (map (number_value kind) (nullable ns bs)) i ≡ number_value kind (unless_null (slice_index_or ns i (pos 0)) (slice_index_or bs i false))
nullable-at [] bs kind i e l = absurd (omega arith)
nullable-at (n ∷ ns) [] kind i e l = absurd (omega arith)
nullable-at (n ∷ ns) (b ∷ bs) kind zero e l = refl
nullable-at (n ∷ ns) (b ∷ bs) kind (suc i) e l = nullable-at ns bs kind i (omega arith) (omega arith)

pub number-stored : (n : Numbers) (i : ℕ) → length n.nulls.now ≡ length n.numbers.now → i < length n.numbers.now → value_at (values_of_numbers n) i ≡ number_value n.kind (number_at n i)
unfolding number_at
number-stored n i e l = nullable-at n.numbers.now n.nulls.now n.kind i e l

text-stored : (ts : List (List ℕ)) (i : ℕ) → i < length ts → value_at (map text_value ts) i ≡ value.Text (slice_index_or ts i [])
text-stored [] i l = absurd (omega arith)
text-stored (t ∷ ts) zero l = refl
text-stored (t ∷ ts) (suc i) l = text-stored ts i (omega arith)

-- One place more.

pub number_kept : (f : ComparisonFunc) (ns : Numbers) (n : ℤ) (xs : List ℕ) (k d : ℕ) → length ns.nulls.now ≡ length ns.numbers.now → AreBelow (length ns.numbers.now) xs → IsTrue (is_number_test f) → k < length xs
    → filter (value_compares f (values_of_numbers ns) (number_value ns.kind (Some n))) (take (k + 1) xs) ≡ filter (value_compares f (values_of_numbers ns) (number_value ns.kind (Some n))) (take k xs) ++ cond (number_test f (number_at ns (get_or xs k d)) n) (get_or xs k d ∷ []) []
unfolding value_compares
number_kept f ns n xs k d e h test l =
    kept_at (value_compares f (values_of_numbers ns) (number_value ns.kind (Some n))) xs k d l
    ∙ ap (λ b. filter (value_compares f (values_of_numbers ns) (number_value ns.kind (Some n))) (take k xs) ++ cond b (get_or xs k d ∷ []) [])
    (ap (λ v. compares f v (number_value ns.kind (Some n))) (number-stored ns (get_or xs k d) e (h.each k d l)) ∙ numbers-compared f ns.kind (number_at ns (get_or xs k d)) n test)

pub text_kept : (f : ComparisonFunc) (ts : List (List ℕ)) (b : List ℕ) (xs : List ℕ) (k d : ℕ) → AreBelow (length ts) xs → IsTrue (is_text_test f) → k < length xs
    → filter (value_compares f (map text_value ts) (value.Text b)) (take (k + 1) xs) ≡ filter (value_compares f (map text_value ts) (value.Text b)) (take k xs) ++ cond (text_test f (slice_index_or ts (get_or xs k d) []) b) (get_or xs k d ∷ []) []
unfolding value_compares
text_kept f ts b xs k d h test l =
    kept_at (value_compares f (map text_value ts) (value.Text b)) xs k d l
    ∙ ap (λ x. filter (value_compares f (map text_value ts) (value.Text b)) (take k xs) ++ cond x (get_or xs k d ∷ []) [])
    (ap (λ v. compares f v (value.Text b)) (text-stored ts (get_or xs k d) (h.each k d l)) ∙ texts-compared f (slice_index_or ts (get_or xs k d) []) b test)

pub ruleset number_steps = (number_kept, below-item)

pub ruleset text_steps = (text_kept, below-item)

-- The store is that of the column.

filter-at : (p q : ℕ → Bool) (xs : List ℕ) → ((k d : ℕ) → k < length xs → p (get_or xs k d) ≡ q (get_or xs k d)) → filter p xs ≡ filter q xs
filter-at p q [] h = refl
filter-at p q (x ∷ xs) h = rw (h zero x (omega arith)) (ap (λ ys. if q x then x ∷ ys else ys) (filter-at p q xs (λ k d l. h (suc k) d (omega arith))))

pub column-kept : (f : ComparisonFunc) (t : Grid) (place : ℕ) (vs : List Value) (w : Value) (xs : List ℕ) → IsGrid t → vs ≡ column_at t.lines place → place < length t.columns → AreBelow (length t.lines) xs → filter (value_compares f vs w) xs ≡ filter (cell_compares f t place w) xs
unfolding value_compares cell_compares
column-kept f t place vs w xs h is l b = filter-at (λ i. compares f (value_at vs i) w) (λ i. compares f (cell_in t i (Some place)) w) xs (λ k d m. ap (λ v. compares f v w) (sym (cell-column t (get_or xs k d) place vs h is (b.each k d m) l)))

pub ruleset store_steps = (column-kept)
