-- The values of keys at all rows.
use Rattle.std.proofs.Common.{◌≡◌, ◌<◌, ◌+◌, ◌-◌, ◌++◌, ℕ, zero, suc, true, List, [], ◌∷◌, length, map, get_or, take, refl, ap, ap₂, sym, ◌∙◌, subst, arith, Bor}
use Rattle.std.specs.Prelude.{◌&&◌, All}
use Rattle.std.specs.List.{list_all, range_with_len}
use Rattle.std.proofs.lemmas.Bool.{and_parts}
use Rattle.std.proofs.lemmas.List.{get_or-map, length-map, map-append, take_more}
use Rattle.kql_cells.specs.Table.{Grid}
use Rattle.kql_cells.specs.declared.schema.Column.{Column}
use Rattle.kql_cells.specs.declared.value.Value.{Value}
use Rattle.kql_values.specs.Grids.{HaveLength}
use Rattle.kql_values.proofs.GridLaws.{HaveLength-at}
use Rattle.kql_bound.specs.declared.parts.BItem.{BItem}
use Rattle.kql_meaning.specs.declared.position.Position.TheVariants as position
use Rattle.kql_meaning.specs.Expressions.{kind_of, val}
use Rattle.kql_meaning.specs.FittingExpressions.{expr_fits, fits_as, has_kind, is_key, scope_of}
use Rattle.kql_meaning.specs.FittingOperators.{has_its_names, key_item_fits}
use Rattle.kql_meaning.specs.Tables.{places, places_below}
use Rattle.kql_scalar.specs.Held.{held}
use Rattle.kql_scalar.specs.Rows.{rows}
use Rattle.kql_scalar.specs.Scalar.{IsScalar, is_of_rows}
use Rattle.kql_scalar.specs.declared.lent_column.LentColumn.{LentColumn}
use Rattle.kql_scalar.proofs.ScalarFitLaws.{scalar_where_fits}
use Rattle.summarize_op.specs.Groups.{key_columns, values_down}

plain-of-rows : is_of_rows position.Plain ≡ true
unfolding is_of_rows
plain-of-rows = refl

pub key-scalar : (b : BItem) (cs : List Column) → key_item_fits cs b ≡ true → IsScalar b.expr
unfolding key_item_fits fits_as
key-scalar b cs fits =
    let parts = and_parts (expr_fits b.expr (scope_of cs) position.Plain && has_kind is_key (kind_of b.expr cs)) (has_its_names b cs) fits in
    let own = and_parts (expr_fits b.expr (scope_of cs) position.Plain) (has_kind is_key (kind_of b.expr cs)) parts.0 in
    scalar_where_fits b.expr (scope_of cs) position.Plain plain-of-rows own.0

all-rows : (t : Grid) (n : ℕ) → n ≡ length t.lines → rows 0 n ≡ places t
unfolding rows places places_below
all-rows t n e = let same : n - 0 ≡ length t.lines = omega (arith, e) in ap (range_with_len 0) same

pub key-down : (b : BItem) (t : Grid) (n : ℕ) (v : List Value) → n ≡ length t.lines → v ≡ map (λ i. val b.expr t i []) (rows 0 n) → v ≡ values_down b t
unfolding values_down
key-down b t n v len is = is ∙ ap (map (λ i. val b.expr t i [])) (all-rows t n len)

pub key-held : (b : BItem) (t : Grid) (v : List Value) → v ≡ map (λ i. val b.expr t i []) (rows 0 (length t.lines)) → v ≡ values_down b t
key-held b t v is = key-down b t (length t.lines) v refl is

pub ruleset scalar_steps = (key-scalar, key-held)

pub keys-start : (t : Grid) → key_columns [] t ≡ []
unfolding key_columns
keys-start t = refl

pub keys-step : (keys : List BItem) (t : Grid) (i : ℕ) (b : BItem) (old new : List (List Value)) (v : List Value) → i < length keys → b ≡ get_or keys i b → old ≡ key_columns (take i keys) t → v ≡ values_down b t → new ≡ old ++ v ∷ [] → new ≡ key_columns (take (i + 1) keys) t
unfolding key_columns
keys-step keys t i b old new v lt is before value after =
    rw (take_more keys i b lt, ← is, map-append (λ b. values_down b t) (take i keys) (b ∷ []), ← before, ← value) after

pub held-start : map held [] ≡ []
held-start = refl

pub held-step : (keys : List BItem) (t : Grid) (i : ℕ) (b : BItem) (old new : List LentColumn) (v : LentColumn) → i < length keys → b ≡ get_or keys i b → map held old ≡ key_columns (take i keys) t → held v ≡ values_down b t → new ≡ old ++ v ∷ [] → map held new ≡ key_columns (take (i + 1) keys) t
held-step keys t i b old new v lt is before value after =
    keys-step keys t i b (map held old) (map held new) (held v) lt is before value (ap (map held) after ∙ map-append held old (v ∷ []))

pub lent-step : (columns : List LentColumn) (i : ℕ) (c : LentColumn) (old new : List (Bor (List Value))) (v : Bor (List Value)) → i < length columns → c ≡ get_or columns i c → map (λ (x : Bor (List Value)). x.now) old ≡ map held (take i columns) → v.now ≡ held c → new ≡ old ++ v ∷ [] → map (λ (x : Bor (List Value)). x.now) new ≡ map held (take (i + 1) columns)
lent-step columns i c old new v lt is before value after =
    ap (map (λ (x : Bor (List Value)). x.now)) after
    ∙ (map-append (λ (x : Bor (List Value)). x.now) old (v ∷ [])
    ∙ (ap₂ (λ (xs : List (List Value)) (w : List Value). xs ++ w ∷ []) before value
    ∙ (sym (map-append held (take i columns) (c ∷ [])) ∙ ap (map held) (rw (take_more columns i c lt, ← is) refl))))

pub ruleset lent_steps = (lent-step, held-start)

pub key-fits : (keys : List BItem) (cs : List Column) (i : ℕ) (b : BItem) → list_all (key_item_fits cs) keys ≡ true → i < length keys → b ≡ get_or keys i b → key_item_fits cs b ≡ true
key-fits [] cs i b fits lt is = absurd (omega arith)
key-fits (c ∷ ks) cs zero b fits lt is = subst (λ x. key_item_fits cs x ≡ true) (sym is) (and_parts (key_item_fits cs c) (list_all (key_item_fits cs) ks) fits).0
key-fits (c ∷ ks) cs (suc i) b fits lt is = key-fits ks cs i b (and_parts (key_item_fits cs c) (list_all (key_item_fits cs) ks) fits).1 (omega (arith, lt)) is

pub ruleset key_steps = (keys-start, held-start, held-step, key-fits)

-- Places inside a vector.
pub inside : (count : ℕ) (vs : List (Bor (List Value))) (ps : List ℕ) (i : ℕ) (v : Bor (List Value)) → HaveLength count (map (λ (x : Bor (List Value)). x.now) vs) → All (λ p. p < count) ps → i < length vs → v ≡ get_or vs i v → All (λ p. p < length v.now) ps
inside count vs ps i v long within lt is =
    let now = λ (x : Bor (List Value)). x.now in
    let at : v.now ≡ get_or (map now vs) i v.now = ap now is ∙ sym (get_or-map now vs i v v.now lt) in
    let same : length v.now ≡ count = ap (λ (x : List Value). length x) at ∙ HaveLength-at count (map now vs) i v.now long (subst (λ n. i < n) (sym (length-map vs now)) lt) in
    subst (λ n. All (λ p. p < n) ps) (sym same) within

pub ruleset gather_steps = (inside)
