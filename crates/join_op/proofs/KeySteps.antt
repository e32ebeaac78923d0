-- The columns of keys.
use Rattle.std.proofs.Common.{◌≡◌, ◌<◌, ◌+◌, Bor, ℕ, zero, suc, Bool, true, List, [], ◌∷◌, ◌++◌, map, length, get_or, take, refl, ap, sym, ◌∙◌, arith}
use Rattle.std.specs.Prelude.{not, ◌||◌, bytes_eq, find, is_some, Option, None, Some, option_map, slice_get}
use Rattle.std.specs.List.{list_all}
use Rattle.std.proofs.lemmas.Bool.{and_from, and_parts}
use Rattle.std.proofs.lemmas.List.{map-append, take_more}
use Rattle.std.proofs.lemmas.Option.{slice_get_within}
use Rattle.kql_cells.specs.Named.{column_name, place_of}
use Rattle.kql_cells.specs.Seen.{row_at, value_at}
use Rattle.kql_cells.specs.Table.{Grid, IsGrid}
use Rattle.kql_cells.specs.declared.schema.Column.{Column}
use Rattle.kql_cells.specs.declared.value.Kind.{Kind}
use Rattle.kql_cells.specs.declared.value.Value.{Value}
use Rattle.kql_cells.specs.declared.value.Value.TheVariants as value
use Rattle.kql_cells.proofs.RowLaws.{length-RowFits}
use Rattle.kql_bound.specs.declared.parts.JoinPlan.{JoinPlan}
use Rattle.kql_bound.specs.declared.parts.OnPair.{OnPair}
use Rattle.kql_meaning.specs.Expressions.{column_kind}
use Rattle.kql_meaning.specs.FittingExpressions.{has_kind, is_key, is_kind, same_known}
use Rattle.kql_meaning.specs.FittingOperators.{is_lookup_kind, join_fits, pair_fits}
use Rattle.kql_meaning.specs.Tables.{absent_in, cell, cell_in, places, places_below}
use Rattle.kql_meaning.proofs.JoinLaws.{map-map}
use Rattle.kql_meaning.proofs.RowByRowLaws.{rows-at-all}
use Rattle.kql_fit_laws.proofs.RowFacts.{found-place, place-found}
use Rattle.kql_values.specs.Grids.{column_at}
use Rattle.join_op.specs.Sides.{column_cells, have_keys, key_cells, key_name}
use Rattle.join_op.specs.declared.sides.Side.{Side}
use Rattle.join_op.specs.declared.sides.Side.TheVariants as side
use Rattle.join_op.proofs.ListSteps.{map-range-same}

-- Where a join fits, each side has its keys.

found : (n : List ℕ) (cs : List Column) (o : Option Column) → find (λ c. bytes_eq c.name n) cs ≡ o → is_some (option_map (λ (c : Column). c.kind) o) ≡ true → is_some (place_of column_name n cs) ≡ true
found n cs None e s = cc
found n cs (Some c) e s = ap is_some (place-found cs n c e).0

known-left : (k l : Option Kind) → same_known k l ≡ true → is_some k ≡ true
unfolding same_known
known-left None l e = cc
known-left (Some k) l e = refl

known-right : (k l : Option Kind) → same_known k l ≡ true → is_some l ≡ true
unfolding same_known is_kind has_kind
known-right None l e = cc
known-right (Some k) None e = cc
known-right (Some k) (Some l) e = refl

place-known : (n : List ℕ) (cs : List Column) → is_some (column_kind n cs) ≡ true → is_some (place_of column_name n cs) ≡ true
unfolding column_kind
place-known n cs e = found n cs (find (λ c. bytes_eq c.name n) cs) refl e

known : (l r : List Column) (p : OnPair) → pair_fits l r p ≡ true → same_known (column_kind p.left l) (column_kind p.right r) ≡ true
unfolding pair_fits
known l r p e = (and_parts (same_known (column_kind p.left l) (column_kind p.right r)) (has_kind is_key (column_kind p.left l)) e).0

pairs-left : (on : List OnPair) (l r : List Column) → list_all (pair_fits l r) on ≡ true → have_keys side.Left on l ≡ true
unfolding have_keys key_name
pairs-left [] l r e = refl
pairs-left (p ∷ ps) l r e =
    let parts = and_parts (pair_fits l r p) (list_all (pair_fits l r) ps) e in
    and_from (is_some (place_of column_name p.left l)) (have_keys side.Left ps l) (place-known p.left l (known-left _ _ (known l r p parts.0))) (pairs-left ps l r parts.1)

pairs-right : (on : List OnPair) (l r : List Column) → list_all (pair_fits l r) on ≡ true → have_keys side.Right on r ≡ true
unfolding have_keys key_name
pairs-right [] l r e = refl
pairs-right (p ∷ ps) l r e =
    let parts = and_parts (pair_fits l r p) (list_all (pair_fits l r) ps) e in
    and_from (is_some (place_of column_name p.right r)) (have_keys side.Right ps r) (place-known p.right r (known-right _ _ (known l r p parts.0))) (pairs-right ps l r parts.1)

pub left-keys : (j : JoinPlan) (l r : List Column) → join_fits j l r ≡ true → have_keys side.Left j.on l ≡ true
unfolding join_fits
left-keys j l r e = pairs-left j.on l r (and_parts (list_all (pair_fits l r) j.on) (not j.lookup || is_lookup_kind j.kind) e).0

pub right-keys : (j : JoinPlan) (l r : List Column) → join_fits j l r ≡ true → have_keys side.Right j.on r ≡ true
unfolding join_fits
right-keys j l r e = pairs-right j.on l r (and_parts (list_all (pair_fits l r) j.on) (not j.lookup || is_lookup_kind j.kind) e).0

-- A column by its name.

pub place-inside : (cs : List Column) (n : List ℕ) (p : ℕ) → Some p ≡ place_of column_name n cs → p < length cs
place-inside cs n p e = let q = found-place cs n p (sym e) in slice_get_within cs p q.0 q.1

same-inside : (vs : List Value) (j : ℕ) (d e : Value) → j < length vs → get_or vs j d ≡ get_or vs j e
same-inside [] j d e lt = absurd (omega (arith, lt))
same-inside (v ∷ vs) zero d e lt = refl
same-inside (v ∷ vs) (suc j) d e lt = same-inside vs j d e (omega (arith, lt))

pub cell-there : (t : Grid) (i p : ℕ) (n : List ℕ) → IsGrid t → i < length t.lines → p < length t.columns → place_of column_name n t.columns ≡ Some p → cell t i n ≡ value_at (row_at t.lines i) p
unfolding cell cell_in
cell-there t i p n fits row inside is =
    let width = length-RowFits t.columns (row_at t.lines i) (fits i [] row) in
    let k : p < length (row_at t.lines i) = omega (arith, width, inside) in
    ap (cell_in t i) is ∙ same-inside (row_at t.lines i) p (absent_in (slice_get t.columns p)) value.Null k

pub column-down : (t : Grid) (n : List ℕ) (p : ℕ) (v : List Value) → IsGrid t → Some p ≡ place_of column_name n t.columns → v ≡ column_at t.lines p → v ≡ column_cells t n
unfolding column_cells places places_below
column-down t n p v fits is e =
    let inside = place-inside t.columns n p is in
    e ∙ (ap (map (λ row. value_at row p)) (sym (rows-at-all t))
    ∙ (map-map (λ row. value_at row p) (row_at t.lines) (places t)
    ∙ map-range-same (λ i. value_at (row_at t.lines i) p) (λ i. cell t i n) 0 (length t.lines) (λ i lt. sym (cell-there t i p n fits (omega (arith, lt)) inside (sym is)))))

pub ruleset column_steps = (place-inside, column-down)

-- The columns of keys, one after another.

all-at : {X : Type 0} (p : X → Bool) (xs : List X) (k : ℕ) (x : X) → list_all p xs ≡ true → k < length xs → x ≡ get_or xs k x → p x ≡ true
all-at p [] k x e lt is = absurd (omega (arith, lt))
all-at p (y ∷ ys) zero x e lt is = ap p is ∙ (and_parts (p y) (list_all p ys) e).0
all-at p (y ∷ ys) (suc k) x e lt is = all-at p ys k x (and_parts (p y) (list_all p ys) e).1 (omega (arith, lt)) is

pub key-stands : (s : Side) (on : List OnPair) (cs : List Column) (k : ℕ) (pair : OnPair) (n : List ℕ) → have_keys s on cs ≡ true → k < length on → pair ≡ get_or on k pair → n ≡ key_name s pair → is_some (place_of column_name n cs) ≡ true
unfolding have_keys
key-stands s on cs k pair n e lt is same =
    ap (λ m. is_some (place_of column_name m cs)) same ∙ all-at (λ (p : OnPair). is_some (place_of column_name (key_name s p) cs)) on k pair e lt is

abbrev now : Bor (List Value) → List Value
now c = c.now

pub keys-none : (s : Side) (t : Grid) → [] ≡ key_cells s [] t
unfolding key_cells
keys-none s t = refl

pub keys-more : (s : Side) (on : List OnPair) (t : Grid) (k : ℕ) (pair : OnPair) (n : List ℕ) (old new : List (Bor (List Value))) (col : Bor (List Value)) → k < length on → pair ≡ get_or on k pair → n ≡ key_name s pair
    → map now old ≡ key_cells s (take k on) t → col.now ≡ column_cells t n → new ≡ old ++ col ∷ [] → map now new ≡ key_cells s (take (k + 1) on) t
unfolding key_cells
keys-more s on t k pair n old new col lt is same before cells added =
    let f = λ (p : OnPair). column_cells t (key_name s p) in
    let more : take (k + 1) on ≡ take k on ++ pair ∷ [] = take_more on k pair lt ∙ ap (λ p. take k on ++ p ∷ []) (sym is) in
    ap (map now) added ∙ (map-append now old (col ∷ [])
    ∙ (ap (λ l. l ++ now col ∷ []) before ∙ (ap (λ v. map f (take k on) ++ v ∷ []) (cells ∙ ap (column_cells t) same)
    ∙ sym (ap (map f) more ∙ map-append f (take k on) (pair ∷ [])))))

pub ruleset keys_steps = (key-stands)
