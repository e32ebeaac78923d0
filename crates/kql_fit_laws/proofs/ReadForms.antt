-- What a JSON text reads as is well formed.
use Rattle.std.proofs.Common.{◌≡◌, ℕ, true, nat_le, List, [], ◌∷◌, fold, refl, ap, ◌∙◌}
use Rattle.std.specs.Prelude.{ℤ, Option, None, Some, option_and_then, option_map}
use Rattle.std.specs.List.{list_all}
use Rattle.std.specs.BTreeMap.{insert_entry}
use Rattle.std.specs.Cmp.Lexicographic.{slice_cmp}
use Rattle.std.specs.Ordering.{match_ordering, nat_cmp}
use Rattle.std.specs.declared.cmp.Ordering.{Ordering}
use Rattle.std.specs.declared.cmp.Ordering.TheVariants.{Less, Equal, Greater}
use Rattle.std.proofs.lemmas.Bool.{and_from, le-leb}
use Rattle.json.specs.Json as json
use Rattle.json.specs.Lex.{tokens}
use Rattle.serde_json.specs.Data.{Data, Items, Members, array, boolean, depth, item, member, no_items, no_members, null, number, object, put as put_member, string}
use Rattle.serde_json.specs.Find.{as_i64}
use Rattle.serde_json.specs.Read.{max_depth, number_of, of_items, of_json, of_members, read}
use Rattle.serde_json.proofs.Nesting.{depth-read}
use Rattle.kql_dynamic.specs.Bags.{put}
use Rattle.kql_dynamic.specs.Json.{dyn_of, dyns_of, entries_of, long_or_null, parsed, read_or_text}
use Rattle.kql_dynamic.specs.Parts.{value_of}
use Rattle.kql_dynamic.proofs.BagPutLaws.{ascends-bag_of, each-bag_of}
use Rattle.kql_dynamic.proofs.FormLaws.{text-form, value-form}
use Rattle.kql_dynamic.proofs.JsonFormLaws.{has-Array, has-Bag, levels-dyn_of}
use Rattle.kql_cells.proofs.FormLaws.{has_form-Bool, has_form-Long, has_form-Null, has_form-Text}
use Rattle.kql_cells.specs.Dynamic.{has_form, levels}
use Rattle.kql_cells.specs.Values.{IsWellFormed}
use Rattle.kql_cells.specs.declared.dynamic.Dyn.{Dyn}

-- A member that is put is an entry that is put.
entries-by : (o : Ordering) (a b c : Members) → entries_of (match_ordering o a b c) ≡ match_ordering o (entries_of a) (entries_of b) (entries_of c)
entries-by Less a b c = refl
entries-by Equal a b c = refl
entries-by Greater a b c = refl

entries-inserted : (k : List ℕ) (d : Data) (ms : Members) → entries_of (put_member k d ms) ≡ insert_entry (slice_cmp nat_cmp) (entries_of ms) k (dyn_of d)
entries-inserted k d no_members = refl
entries-inserted k d (member l e ms) =
    entries-by (slice_cmp nat_cmp k l) (member k d (member l e ms)) (member l d ms) (member l e (put_member k d ms)) ∙ rw (entries-inserted k d ms) refl

entries-put : (k : List ℕ) (d : Data) (ms : Members) → entries_of (put_member k d ms) ≡ put (entries_of ms) (k, dyn_of d)
unfolding put
entries-put k d ms = entries-inserted k d ms

abbrev AreForms : List (List ℕ × Dyn) → Type 0
AreForms es = list_all (λ e. has_form e.1) es ≡ true

-- The members that are read are entries put one after another.
abbrev ArePut : Members → Members → Type 0
ArePut found ms = (es : List (List ℕ × Dyn)) × (entries_of ms ≡ fold put (entries_of found) es) × AreForms es

number-form : (o : Option ℤ) → has_form (long_or_null o) ≡ true
number-form None = has_form-Null
number-form (Some n) = has_form-Long n

map-parts : {A B : Type 0} (f : A → B) (o : Option A) (b : B) → option_map f o ≡ Some b → (a : A) × (o ≡ Some a) × (f a ≡ b)
map-parts f None b e = absurd cc
map-parts f (Some a) b e = (a, refl, cc)

then-parts : {A B : Type 0} (f : A → Option B) (o : Option A) (b : B) → option_and_then f o ≡ Some b → (a : A) × (o ≡ Some a) × (f a ≡ Some b)
then-parts f None b e = absurd cc
then-parts f (Some a) b e = (a, refl, e)

mutual
  json-form : (j : json.Json) (d : Data) → of_json j ≡ Some d → has_form (dyn_of d) ≡ true
  json-form json.null d e = let same : null ≡ d = cc in rw (← same) has_form-Null
  json-form (json.boolean b) d e = let same : boolean b ≡ d = cc in rw (← same) (has_form-Bool b)
  json-form (json.number s) d e = let q = map-parts number (number_of s) d e in rw (← q.2) (number-form (as_i64 q.0))
  json-form (json.string s) d e = let same : string s ≡ d = cc in rw (← same) (has_form-Text s)
  json-form (json.array js) d e = let q = map-parts array (of_items js) d e in rw (← q.2) (has-Array (dyns_of q.0) (items-form js q.0 q.1))
  json-form (json.object ms) d e =
      let q = map-parts object (of_members ms no_members) d e in
      let r = members-form ms no_members q.0 q.1 in
      rw (← q.2) (has-Bag (entries_of q.0) (rw r.1 (ascends-bag_of r.0)) (rw r.1 (each-bag_of has_form r.0 r.2)))

  items-form : (js : json.Items) (ds : Items) → of_items js ≡ Some ds → list_all has_form (dyns_of ds) ≡ true
  items-form json.no_items ds e = let same : no_items ≡ ds = cc in rw (← same) refl
  items-form (json.item j js) ds e =
      let q = then-parts (λ d. option_map (item d) (of_items js)) (of_json j) ds e in
      let r = map-parts (item q.0) (of_items js) ds q.2 in
      rw (← r.2) (and_from (has_form (dyn_of q.0)) (list_all has_form (dyns_of r.0)) (json-form j q.0 q.1) (items-form js r.0 r.1))

  members-form : (ms : json.Members) (found all : Members) → of_members ms found ≡ Some all → ArePut found all
  members-form json.no_members found all e = let same : found ≡ all = cc in rw (← same) ([], refl, refl)
  members-form (json.member k j ms) found all e =
      let q = then-parts (λ d. of_members ms (put_member k d found)) (of_json j) all e in
      let r = members-form ms (put_member k q.0 found) all q.2 in
      ((k, dyn_of q.0) ∷ r.0, r.1 ∙ ap (λ es. fold put es r.0) (entries-put k q.0 found), and_from (has_form (dyn_of q.0)) _ (json-form j q.0 q.1) r.2)

read-by : (t : List ℕ) (d : Data) → read t ≡ Some d → IsWellFormed (value_of (dyn_of d))
read-by t d e =
    let q = then-parts of_json (option_and_then (λ p. json.if_last p.0 p.1) (json.value max_depth (tokens t))) d e in
    value-form (dyn_of d) (and_from (has_form (dyn_of d)) (nat_le (levels (dyn_of d)) 127) (json-form q.0 d q.2) (rw (levels-dyn_of d) (le-leb (depth d) 127 (depth-read t d e))))

parsed-by : (t : List ℕ) (o : Option Data) → read t ≡ o → IsWellFormed (read_or_text t o)
parsed-by t None e = text-form t
parsed-by t (Some d) e = read-by t d e

pub parsed-form : (t : List ℕ) → IsWellFormed (parsed t)
unfolding parsed
parsed-form t = parsed-by t (read t) refl
