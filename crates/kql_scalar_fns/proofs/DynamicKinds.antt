-- What functions of dynamic values give is of the type that their rows say.
use Rattle.std.proofs.Common.{◌==◌, ℕ, Bool, true, false, List, [], ◌∷◌, length}
use Rattle.std.specs.Prelude.{if◌then◌else◌}
use Rattle.kql_cells.specs.Values.{IsOfKind}
use Rattle.kql_cells.specs.declared.value.Kind.{Kind}
use Rattle.kql_cells.specs.declared.value.Kind.TheVariants as kind
use Rattle.kql_cells.specs.declared.value.Value.{Value}
use Rattle.kql_cells.specs.declared.value.Value.TheVariants as value
use Rattle.kql_functions.specs.declared.func.DynamicFunc.{DynamicFunc}
use Rattle.kql_functions.specs.declared.func.DynamicFunc.TheVariants as func
use Rattle.kql_functions.specs.Kinds.{dynamic_kind}
use Rattle.std.specs.Prelude.{◌++◌, ℤ, pos, Option, None, Some, filter, is_some, map, nat_le, not, position, reverse}
use Rattle.kql_dynamic.specs.Arrays.{array, array_concat, array_index_of, array_length, array_reverse, array_slice, joined, pack_array, place_or_less, sliced}
use Rattle.kql_dynamic.specs.Bags.{bag, bag_has_key, bag_keys, bag_merge, bag_of, bag_pack, entries_backwards, pairs}
use Rattle.kql_dynamic.specs.Json.{parsed, read_or_text}
use Rattle.kql_dynamic.specs.Parts.{argument as arg, at_index, at_name, element_at, elements, entries, entry_at, from_start, long, text, value_of, value_or_null, value_within_levels}
use Rattle.kql_dynamic.specs.Sets.{distinct, is_among, of_two_arrays, set_difference, set_has_element, set_intersect, set_union, two_arrays}
use Rattle.kql_cells.specs.Same.{same}
use Rattle.kql_cells.specs.declared.dynamic.Dyn.TheVariants as dyn
use Rattle.kql_cells.specs.Dynamic.{is_null, levels}
use Rattle.kql_cells.specs.declared.dynamic.Dyn.{Dyn}
use Rattle.kql_scalar_fns.specs.Dynamic.{at, dynamic_call, of_all, of_count, of_one, read, read_or_itself}
use Rattle.kql_scalar_fns.proofs.KindLaws.{Gives, either-gives, row-any}
use Rattle.kql_scalar_fns.proofs.ShapeKinds.{beside_dynamic-any, one_of_pairs-any, several-any, several_of-any}

-- what is made of what is there
or-kind : {X : Type 0} (k : Kind) → IsOfKind k value.Null → (o : Option X) (make : X → Value) → ((x : X) → IsOfKind k (make x)) → IsOfKind k (value_or_null o make)
or-kind k n None make h = n
or-kind k n (Some x) make h = h x

test-kind : (k : Kind) (b : Bool) (v w : Value) → IsOfKind k v → IsOfKind k w → IsOfKind k (if b then v else w)
test-kind k true v w h g = h
test-kind k false v w h g = g

value_of-kind : (d : Dyn) → IsOfKind kind.Dynamic (value_of d)
value_of-kind d = test-kind kind.Dynamic (is_null d) value.Null (value.Dynamic d) tt tt

within-kind : (d : Dyn) → IsOfKind kind.Dynamic (value_within_levels d)
within-kind d = test-kind kind.Dynamic (nat_le (levels d) 127) (value_of d) value.Null (value_of-kind d) tt

read_or_text-kind : (t : List ℕ) (o : _) → IsOfKind kind.Dynamic (read_or_text t o)
read_or_text-kind t None = tt
read_or_text-kind t (Some d) = value_of-kind _

parsed-kind : (t : List ℕ) → IsOfKind kind.Dynamic (parsed t)
unfolding parsed
parsed-kind t = read_or_text-kind t _

itself-kind : (d : Dyn) (o : Option (List ℕ)) → IsOfKind kind.Dynamic (read_or_itself d o)
itself-kind d None = tt
itself-kind d (Some t) = parsed-kind t

at_name-kind : (d : Dyn) (n : List ℕ) → IsOfKind kind.Dynamic (at_name d n)
at_name-kind d n =
    or-kind {X = List (List ℕ × Dyn)} kind.Dynamic tt (entries d) (λ es. value_or_null (entry_at n es) value_of)
    (λ es. or-kind {X = Dyn} kind.Dynamic tt (entry_at n es) value_of value_of-kind)

at_index-kind : (d : Dyn) (i : ℤ) → IsOfKind kind.Dynamic (at_index d i)
at_index-kind d i =
    or-kind {X = List Dyn} kind.Dynamic tt (elements d) (λ xs. value_or_null (element_at xs (from_start (length xs) i)) value_of)
    (λ xs. or-kind {X = Dyn} kind.Dynamic tt (element_at xs (from_start (length xs) i)) value_of value_of-kind)

at-kind : (v w : Value) → IsOfKind kind.Dynamic (at v w)
unfolding at
at-kind value.Null x1 = tt
at-kind (value.Bool x0) x1 = tt
at-kind (value.Long x0) x1 = tt
at-kind (value.Text x0) x1 = tt
at-kind (value.Moment x0) x1 = tt
at-kind (value.Span x0) x1 = tt
at-kind (value.Dynamic x0) value.Null = tt
at-kind (value.Dynamic x0) (value.Bool x1) = tt
at-kind (value.Dynamic x0) (value.Long x1) = at_index-kind _ _
at-kind (value.Dynamic x0) (value.Text x1) = at_name-kind _ _
at-kind (value.Dynamic x0) (value.Moment x1) = tt
at-kind (value.Dynamic x0) (value.Span x1) = tt
at-kind (value.Dynamic x0) (value.Dynamic x1) = tt

read-kind : (v : Value) → IsOfKind kind.Dynamic (read v)
unfolding read
read-kind value.Null = tt
read-kind (value.Bool x0) = tt
read-kind (value.Long x0) = tt
read-kind (value.Text x0) = parsed-kind _
read-kind (value.Moment x0) = tt
read-kind (value.Span x0) = tt
read-kind (value.Dynamic x0) = itself-kind _ _

of_one-kind : (k : Kind) → IsOfKind k value.Null → (make : List Dyn → Value) → ((ds : List Dyn) → IsOfKind k (make ds)) → (v : Value) → IsOfKind k (of_one make v)
unfolding of_one
of_one-kind k n make h value.Null = n
of_one-kind k n make h (value.Bool x0) = n
of_one-kind k n make h (value.Long x0) = n
of_one-kind k n make h (value.Text x0) = n
of_one-kind k n make h (value.Moment x0) = n
of_one-kind k n make h (value.Span x0) = n
of_one-kind k n make h (value.Dynamic x0) = h _

of_count-kind : (k : Kind) → IsOfKind k value.Null → (make : List Dyn → Value) → ((ds : List Dyn) → IsOfKind k (make ds)) → (i : ℕ) (vs : List Value) → IsOfKind k (of_count i make vs)
unfolding of_count
of_count-kind k n make h i vs = test-kind k (length vs == i) _ value.Null (h _) n

of_all-kind : (k : Kind) (make : List Dyn → Value) → ((ds : List Dyn) → IsOfKind k (make ds)) → (vs : List Value) → IsOfKind k (of_all make vs)
unfolding of_all
of_all-kind k make h vs = h _

array_length-kind : (ds : List Dyn) → IsOfKind kind.Long (array_length ds)
array_length-kind ds = or-kind {X = List Dyn} kind.Long tt (elements (arg ds 0)) (λ xs. value.Long (pos (length xs))) (λ xs. tt)

array_concat-kind : (ds : List Dyn) → IsOfKind kind.Dynamic (array_concat ds)
array_concat-kind ds = or-kind {X = List Dyn} kind.Dynamic tt (joined ds) (array) (λ xs. tt)

array_slice-kind : (ds : List Dyn) → IsOfKind kind.Dynamic (array_slice ds)
array_slice-kind ds = or-kind {X = List Dyn} kind.Dynamic tt (elements (arg ds 0)) (λ xs. value_or_null (long (arg ds 1)) (λ a. value_or_null (long (arg ds 2)) (λ b. array (sliced xs a b)))) (λ xs. or-kind {X = ℤ} kind.Dynamic tt (long (arg ds 1)) (λ a. value_or_null (long (arg ds 2)) (λ b. array (sliced xs a b))) (λ a. or-kind {X = ℤ} kind.Dynamic tt (long (arg ds 2)) (λ b. array (sliced xs a b)) (λ b. tt)))

array_reverse-kind : (ds : List Dyn) → IsOfKind kind.Dynamic (array_reverse ds)
array_reverse-kind ds = or-kind {X = List Dyn} kind.Dynamic tt (elements (arg ds 0)) (λ xs. array (reverse xs)) (λ xs. tt)

array_index_of-kind : (ds : List Dyn) → IsOfKind kind.Long (array_index_of ds)
array_index_of-kind ds = or-kind {X = List Dyn} kind.Long tt (elements (arg ds 0)) (λ xs. value.Long (place_or_less (position (λ x. same x (arg ds 1)) xs))) (λ xs. tt)

bag_keys-kind : (ds : List Dyn) → IsOfKind kind.Dynamic (bag_keys ds)
bag_keys-kind ds = or-kind {X = (List (List ℕ × Dyn))} kind.Dynamic tt (entries (arg ds 0)) (λ es. array (map (λ (e : List ℕ × Dyn). dyn.Text e.0) es)) (λ es. tt)

bag_has_key-kind : (ds : List Dyn) → IsOfKind kind.Bool (bag_has_key ds)
bag_has_key-kind ds = or-kind {X = (List (List ℕ × Dyn))} kind.Bool tt (entries (arg ds 0)) (λ es. value_or_null (text (arg ds 1)) (λ k. value.Bool (is_some (entry_at k es)))) (λ es. or-kind {X = List ℕ} kind.Bool tt (text (arg ds 1)) (λ k. value.Bool (is_some (entry_at k es))) (λ k. tt))

bag_merge-kind : (ds : List Dyn) → IsOfKind kind.Dynamic (bag_merge ds)
bag_merge-kind ds = or-kind {X = (List (List ℕ × Dyn))} kind.Dynamic tt (entries_backwards ds) (λ es. bag (bag_of es)) (λ es. tt)

two-kind : (ds : List Dyn) (make : List Dyn → List Dyn → Value) → ((xs ys : List Dyn) → IsOfKind kind.Dynamic (make xs ys)) → IsOfKind kind.Dynamic (of_two_arrays ds make)
two-kind ds make h = or-kind {X = List Dyn × List Dyn} kind.Dynamic tt (two_arrays ds) (λ p. make p.0 p.1) (λ p. h p.0 p.1)

set_union-kind : (ds : List Dyn) → IsOfKind kind.Dynamic (set_union ds)
set_union-kind ds = two-kind ds (λ xs ys. array (distinct (xs ++ ys))) (λ xs ys. tt)

set_intersect-kind : (ds : List Dyn) → IsOfKind kind.Dynamic (set_intersect ds)
set_intersect-kind ds = two-kind ds (λ xs ys. array (distinct (filter (λ x. is_among ys x) xs))) (λ xs ys. tt)

set_difference-kind : (ds : List Dyn) → IsOfKind kind.Dynamic (set_difference ds)
set_difference-kind ds = two-kind ds (λ xs ys. array (distinct (filter (λ x. not (is_among ys x)) xs))) (λ xs ys. tt)

set_has_element-kind : (ds : List Dyn) → IsOfKind kind.Bool (set_has_element ds)
set_has_element-kind ds = or-kind {X = List Dyn} kind.Bool tt (elements (arg ds 0)) (λ xs. value.Bool (is_among xs (arg ds 1))) (λ xs. tt)

pack_array-kind : (ds : List Dyn) → IsOfKind kind.Dynamic (pack_array ds)
pack_array-kind ds = within-kind (dyn.Array ds)

bag_pack-kind : (ds : List Dyn) → IsOfKind kind.Dynamic (bag_pack ds)
bag_pack-kind ds = or-kind {X = (List (List ℕ × Dyn))} kind.Dynamic tt (pairs ds) (λ es. value_within_levels (dyn.Bag (bag_of es))) (λ es. within-kind (dyn.Bag (bag_of es)))

pub dynamic_gives : (f : DynamicFunc) (ks : List Kind) (vs : List Value) → Gives (dynamic_kind f ks) (dynamic_call f vs)
unfolding dynamic_call dynamic_kind
dynamic_gives func.At ks vs = either-gives _ _ _ (row-any ks (kind.Dynamic ∷ kind.Text ∷ []) kind.Dynamic _ (at-kind _ _)) (row-any ks (kind.Dynamic ∷ kind.Long ∷ []) kind.Dynamic _ (at-kind _ _))
dynamic_gives func.ParseJson ks vs = either-gives _ _ _ (row-any ks (kind.Text ∷ []) kind.Dynamic _ (read-kind _)) (row-any ks (kind.Dynamic ∷ []) kind.Dynamic _ (read-kind _))
dynamic_gives func.ToDynamic ks vs = either-gives _ _ _ (row-any ks (kind.Text ∷ []) kind.Dynamic _ (read-kind _)) (row-any ks (kind.Dynamic ∷ []) kind.Dynamic _ (read-kind _))
dynamic_gives func.ArrayLength ks vs = row-any ks (kind.Dynamic ∷ []) kind.Long _ (of_one-kind kind.Long tt array_length array_length-kind _)
dynamic_gives func.ArrayConcat ks vs = several_of-any 1 kind.Dynamic kind.Dynamic ks _ (of_all-kind kind.Dynamic array_concat array_concat-kind vs)
dynamic_gives func.ArraySlice ks vs = row-any ks (kind.Dynamic ∷ kind.Long ∷ kind.Long ∷ []) kind.Dynamic _ (of_count-kind kind.Dynamic tt array_slice array_slice-kind _ vs)
dynamic_gives func.ArrayReverse ks vs = row-any ks (kind.Dynamic ∷ []) kind.Dynamic _ (of_one-kind kind.Dynamic tt array_reverse array_reverse-kind _)
dynamic_gives func.ArrayIndexOf ks vs = beside_dynamic-any kind.Long ks _ (of_count-kind kind.Long tt array_index_of array_index_of-kind _ vs)
dynamic_gives func.BagKeys ks vs = row-any ks (kind.Dynamic ∷ []) kind.Dynamic _ (of_one-kind kind.Dynamic tt bag_keys bag_keys-kind _)
dynamic_gives func.BagHasKey ks vs = row-any ks (kind.Dynamic ∷ kind.Text ∷ []) kind.Bool _ (of_count-kind kind.Bool tt bag_has_key bag_has_key-kind _ vs)
dynamic_gives func.BagMerge ks vs = several_of-any 2 kind.Dynamic kind.Dynamic ks _ (of_all-kind kind.Dynamic bag_merge bag_merge-kind vs)
dynamic_gives func.PackArray ks vs = several-any 1 kind.Dynamic ks _ (of_all-kind kind.Dynamic pack_array pack_array-kind vs)
dynamic_gives func.BagPack ks vs = one_of_pairs-any ks _ (of_all-kind kind.Dynamic bag_pack bag_pack-kind vs)
dynamic_gives func.SetUnion ks vs = row-any ks (kind.Dynamic ∷ kind.Dynamic ∷ []) kind.Dynamic _ (of_count-kind kind.Dynamic tt set_union set_union-kind _ vs)
dynamic_gives func.SetIntersect ks vs = row-any ks (kind.Dynamic ∷ kind.Dynamic ∷ []) kind.Dynamic _ (of_count-kind kind.Dynamic tt set_intersect set_intersect-kind _ vs)
dynamic_gives func.SetDifference ks vs = row-any ks (kind.Dynamic ∷ kind.Dynamic ∷ []) kind.Dynamic _ (of_count-kind kind.Dynamic tt set_difference set_difference-kind _ vs)
dynamic_gives func.SetHasElement ks vs = beside_dynamic-any kind.Bool ks _ (of_count-kind kind.Bool tt set_has_element set_has_element-kind _ vs)
