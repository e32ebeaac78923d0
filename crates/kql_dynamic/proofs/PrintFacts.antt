-- The data of each variant.
use Rattle.std.proofs.Common.{◌≡◌, ◌||◌, ◌<◌, ◌+◌, ℕ, take, length, get_or, Bool, false, true, List, [], ◌∷◌, ◌++◌, ◌∙◌, map, refl, ap, sym, rules}
use Rattle.std.specs.Prelude.{ℤ, Vec, String, string_bytes, pos, negsuc}
use Rattle.std.specs.BTreeMap.{BTreeMap, insert_entry}
use Rattle.std.specs.String.{string_cmp}
use Rattle.std.proofs.lemmas.List.{map-append, take_more}
use Rattle.std.specs.List.{list_any}
use Rattle.std.specs.Ordering.{nat_cmp, match_ordering}
use Rattle.std.specs.Cmp.Lexicographic.{slice_cmp}
use Rattle.std.specs.declared.alloc.Global.{Global}
use Rattle.std.specs.declared.cmp.Ordering.{Ordering}
use Rattle.std.specs.declared.cmp.Ordering.TheVariants.{Less, Equal, Greater}
use Rattle.kql_cells.specs.declared.dynamic.Dyn.{Dyn, fold-roll-Dyn}
use Rattle.kql_cells.specs.declared.dynamic.Dyn.TheOpen.{Dyn-F}
use Rattle.kql_cells.specs.declared.dynamic.Dyn.TheVariants as V
use Rattle.serde_json.specs.Data.{Data, null, boolean, number, string, array, object, Members, no_members, member, put}
use Rattle.serde_json.specs.Find.{of_integer, is_float}
use Rattle.serde_json.specs.View.{items_of, items_view, members_view, view}
use Rattle.serde_json.specs.Written.{has_float, items_have_float, members_have_float}
use Rattle.serde_json.specs.declared.value.Value as J
use Rattle.serde_json.specs.declared.value.Value.{Value, Array, Object, the_lemmas}
use Rattle.serde_json.proofs.Views.{members_view-insert_entry, view-Array, view-Object}
use Rattle.kql_dynamic.specs.Printed.{data_of, data_step, entry_data, is_float_value, puts}

pub data-Null : data_of V.Null ≡ null
unfolding data_of
data-Null = ap data_of (sym V.rolls-Null) ∙ fold-roll-Dyn Data data_step Dyn-F.Null

pub data-Bool : (b : Bool) → data_of (V.Bool b) ≡ boolean b
unfolding data_of
data-Bool b = ap data_of (sym (V.rolls-Bool b)) ∙ fold-roll-Dyn Data data_step (Dyn-F.Bool b)

pub data-Long : (n : ℤ) → data_of (V.Long n) ≡ number (of_integer n)
unfolding data_of
data-Long n = ap data_of (sym (V.rolls-Long n)) ∙ fold-roll-Dyn Data data_step (Dyn-F.Long n)

pub data-Text : (t : List ℕ) → data_of (V.Text t) ≡ string t
unfolding data_of
data-Text t = ap data_of (sym (V.rolls-Text t)) ∙ fold-roll-Dyn Data data_step (Dyn-F.Text t)

pub data-Array : (parts : List Dyn) → data_of (V.Array parts) ≡ array (items_of (map data_of parts))
unfolding data_of
data-Array parts = ap data_of (sym (V.rolls-Array parts)) ∙ fold-roll-Dyn Data data_step (Dyn-F.Array parts)

pub data-Bag : (es : List (List ℕ × Dyn)) → data_of (V.Bag es) ≡ object (puts no_members (map entry_data es))
unfolding data_of
data-Bag es = ap data_of (sym (V.rolls-Bag es)) ∙ fold-roll-Dyn Data data_step (Dyn-F.Bag es)

-- an array of these has no float
items-whole : (vs : List Value) → items_have_float (items_view vs) ≡ list_any is_float_value vs
items-whole [] = refl
items-whole (v ∷ vs) = ap (λ b. is_float_value v || b) (items-whole vs)

pub array-whole : (v : Vec Value Global) → list_any is_float_value v.items ≡ false → is_float_value (Array v) ≡ false
array-whole v e = ap has_float (view-Array v) ∙ (items-whole v.items ∙ e)

pub object-whole : (m : BTreeMap (String Global) Value) → members_have_float (members_view m.entries) ≡ false → is_float_value (Object m) ≡ false
object-whole m e = ap has_float (view-Object m) ∙ e

pub array-view : (v : Vec Value Global) (parts : List Dyn) → map view v.items ≡ map data_of parts → view (Array v) ≡ data_of (V.Array parts)
array-view v parts e = view-Array v ∙ (ap (λ ds. array (items_of ds)) e ∙ sym (data-Array parts))

pub object-view : (m : BTreeMap (String Global) Value) (es : List (List ℕ × Dyn)) → members_view m.entries ≡ puts no_members (map entry_data es) → view (Object m) ≡ data_of (V.Bag es)
object-view m es e = view-Object m ∙ (ap object e ∙ sym (data-Bag es))

pub integer-whole : (n : ℤ) → is_float (of_integer n) ≡ false
integer-whole (pos n) = refl
integer-whole (negsuc n) = refl

-- a member that has no float changes nothing
or-same : (a b : Bool) → a ≡ false → b ≡ false → (a || b) ≡ false
or-same a b p q = rw (p, q) refl

or-none : (a b : Bool) → (a || b) ≡ false → (a ≡ false) × (b ≡ false)
or-none true b e = cc
or-none false b e = (refl, e)

put-by : (o : Ordering) (k l : List ℕ) (d e : Data) (ms more : Members) → has_float d ≡ false → has_float e ≡ false → members_have_float ms ≡ false → members_have_float more ≡ false
    → members_have_float (match_ordering o (member k d (member l e ms)) (member l d ms) (member l e more)) ≡ false
put-by Less k l d e ms more p q r s = or-same _ _ p (or-same _ _ q r)
put-by Equal k l d e ms more p q r s = or-same _ _ p r
put-by Greater k l d e ms more p q r s = or-same _ _ q s

pub put-whole : (k : List ℕ) (d : Data) (ms : Members) → has_float d ≡ false → members_have_float ms ≡ false → members_have_float (put k d ms) ≡ false
put-whole k d no_members p q = or-same _ _ p refl
put-whole k d (member l e ms) p q =
    let h = or-none (has_float e) (members_have_float ms) q in
    put-by (slice_cmp nat_cmp k l) k l d e ms (put k d ms) p h.0 h.1 (put-whole k d ms p h.1)

pub puts-push : (ms : Members) (es : List (List ℕ × Data)) (e : List ℕ × Data) → puts ms (es ++ e ∷ []) ≡ put e.0 e.1 (puts ms es)
puts-push ms [] e = refl
puts-push ms (x ∷ es) e = puts-push (put x.0 x.1 ms) es e

pub null-view : view J.Null ≡ data_of V.Null
null-view = let e : view J.Null ≡ null = search (rules, the_lemmas) in e ∙ sym data-Null

pub bool-view : (b : Bool) → view (J.Bool b) ≡ data_of (V.Bool b)
bool-view b = let e : view (J.Bool b) ≡ boolean b = search (rules, the_lemmas) in e ∙ sym (data-Bool b)

pub text-view : (s : String Global) (t : List ℕ) → string_bytes s ≡ t → view (J.String s) ≡ data_of (V.Text t)
text-view s t p = let e : view (J.String s) ≡ string (string_bytes s) = search (rules, the_lemmas) in e ∙ (ap string p ∙ sym (data-Text t))

-- one more member
pub members-step : (es : List (List ℕ × Dyn)) (i : ℕ) (e : List ℕ × Dyn) (old new : List (String Global × Value)) (k : String Global) (v : Value)
    → i < length es → e ≡ get_or es i e → members_view old ≡ puts no_members (map entry_data (take i es)) → members_have_float (members_view old) ≡ false
    → new ≡ insert_entry string_cmp old k v → string_bytes k ≡ e.0 → view v ≡ data_of e.1 → is_float_value v ≡ false
    → (members_view new ≡ puts no_members (map entry_data (take (i + 1) es))) × (members_have_float (members_view new) ≡ false)
members-step es i e old new k v lt ee eo whole en ek ev wv =
    let now : members_view new ≡ put (string_bytes k) (view v) (members_view old) = ap members_view en ∙ members_view-insert_entry old k v in
    let more : map entry_data (take (i + 1) es) ≡ map entry_data (take i es) ++ entry_data e ∷ [] =
    ap (map entry_data) (take_more es i e lt) ∙ (map-append entry_data (take i es) (get_or es i e ∷ []) ∙ ap (λ (x : List ℕ × Dyn). map entry_data (take i es) ++ entry_data x ∷ []) (sym ee)) in
    (now ∙ rw (more, puts-push no_members (map entry_data (take i es)) (entry_data e), ek, ev, eo) refl, rw now (put-whole (string_bytes k) (view v) (members_view old) wv whole))

pub ruleset data_steps = (data-Long, bool-view, text-view, array-view, object-view, array-whole, object-whole, integer-whole)
