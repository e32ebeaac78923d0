-- The form of what is read.
use Rattle.std.proofs.Common.{◌≡◌, ℕ, max, true, List, [], ◌∷◌, ◌∙◌, Option, Some, None, map, refl, ap, arith}
use Rattle.std.specs.Prelude.{ℤ, Vec, String, string_bytes}
use Rattle.std.specs.BTreeMap.{BTreeMap}
use Rattle.std.specs.String.{string_cmp}
use Rattle.std.specs.Map.{keys_of}
use Rattle.std.specs.Ordering.{is_lt}
use Rattle.std.specs.List.{list_all}
use Rattle.std.specs.List.Sorted.{IsStrictlySortedBy}
use Rattle.std.specs.declared.alloc.Global.{Global}
use Rattle.std.proofs.lemmas.Bool.{and_from}
use Rattle.kql_cells.specs.Dynamic.{ascends, has_form, highest, levels, rises_to}
use Rattle.kql_cells.proofs.FormLaws.{has_form-Array, has_form-Bag, has_form-Null, has_form-Bool, has_form-Long, has_form-Text}
use Rattle.kql_cells.proofs.LevelLaws.{levels-Array, levels-Bag, levels-Null, levels-Bool, levels-Long, levels-Text}
use Rattle.kql_cells.specs.declared.dynamic.Dyn.{Dyn}
use Rattle.kql_cells.specs.declared.dynamic.Dyn.TheVariants as V
use Rattle.serde_json.specs.Data.{Data, null, boolean, number, string, array, object, Items, no_items, item, Members, no_members, member, depth, items_depth, members_depth}
use Rattle.serde_json.specs.Find.{as_i64}
use Rattle.serde_json.specs.View.{items_view, members_view, view}
use Rattle.serde_json.specs.declared.value.Value.{Value, Array, Object}
use Rattle.serde_json.proofs.Views.{view-Array, view-Object}
use Rattle.kql_dynamic.specs.Json.{dyn_of, dyns_of, entries_of, entry_of, long_or_null, part_of}

parts-map : (vs : List Value) → dyns_of (items_view vs) ≡ map part_of vs
parts-map [] = refl
parts-map (v ∷ vs) = ap (λ ds. part_of v ∷ ds) (parts-map vs)

entries-map : (es : List (String Global × Value)) → entries_of (members_view es) ≡ map entry_of es
entries-map [] = refl
entries-map (e ∷ es) = ap (λ l. entry_of e ∷ l) (entries-map es)

pub dyn-Array : (v : Vec Value Global) → dyn_of (view (Array v)) ≡ V.Array (map part_of v.items)
dyn-Array v = ap dyn_of (view-Array v) ∙ ap V.Array (parts-map v.items)

pub dyn-Object : (m : BTreeMap (String Global) Value) → dyn_of (view (Object m)) ≡ V.Bag (map entry_of m.entries)
dyn-Object m = ap dyn_of (view-Object m) ∙ ap V.Bag (entries-map m.entries)

-- the keys of an object ascend
rises-first : (e : String Global × Value) (es : List (String Global × Value)) → IsStrictlySortedBy string_cmp (keys_of (e ∷ es)) → rises_to (string_bytes e.0) (map entry_of es) ≡ true
unfolding IsStrictlySortedBy
rises-first e [] h = refl
rises-first e (x ∷ es) h = ap is_lt h.0.0

pub ascends-ordered : (es : List (String Global × Value)) → IsStrictlySortedBy string_cmp (keys_of es) → ascends (map entry_of es) ≡ true
unfolding IsStrictlySortedBy
ascends-ordered [] h = refl
ascends-ordered (e ∷ es) h = and_from (rises_to (string_bytes e.0) (map entry_of es)) (ascends (map entry_of es)) (rises-first e es h) (ascends-ordered es h.1)

levels-number : (o : Option ℤ) → levels (long_or_null o) ≡ 0
levels-number None = levels-Null
levels-number (Some x) = levels-Long x

-- it has as many levels as the JSON nests
mutual
  pub levels-dyn_of : (d : Data) → levels (dyn_of d) ≡ depth d
  levels-dyn_of null = levels-Null
  levels-dyn_of (boolean b) = levels-Bool b
  levels-dyn_of (number n) = levels-number (as_i64 n)
  levels-dyn_of (string s) = levels-Text s
  levels-dyn_of (array ds) = levels-Array (dyns_of ds) ∙ let h = levels-dyns_of ds in omega arith
  levels-dyn_of (object ms) = levels-Bag (entries_of ms) ∙ let h = levels-entries_of ms in omega arith

  levels-dyns_of : (ds : Items) → highest levels (dyns_of ds) ≡ items_depth ds
  levels-dyns_of no_items = refl
  levels-dyns_of (item d ds) = λ i. max (levels-dyn_of d i) (levels-dyns_of ds i)

  levels-entries_of : (ms : Members) → highest (λ e. levels e.1) (entries_of ms) ≡ members_depth ms
  levels-entries_of no_members = refl
  levels-entries_of (member k d ms) = λ i. max (levels-dyn_of d i) (levels-entries_of ms i)

pub has-Array : (parts : List Dyn) → list_all has_form parts ≡ true → has_form (V.Array parts) ≡ true
has-Array parts e = has_form-Array parts ∙ e

pub has-Bag : (es : List (List ℕ × Dyn)) → ascends es ≡ true → list_all (λ e. has_form e.1) es ≡ true → has_form (V.Bag es) ≡ true
has-Bag es a e = has_form-Bag es ∙ and_from (ascends es) (list_all (λ e. has_form e.1) es) a e

pub ruleset json_forms = (dyn-Array, dyn-Object, has-Array, has-Bag, has_form-Null, has_form-Bool, has_form-Long, has_form-Text)
