-- The values of expressions at the rows of a range.
use Rattle.std.proofs.Common.{◌≡◌, ◌<◌, ◌≤◌, ◌+◌, ◌++◌, ℕ, zero, suc, Bool, true, List, [], ◌∷◌, drop, get_or, length, map, take, refl, ap, sym, subst, arith}
use Rattle.std.specs.Prelude.{◌&&◌}
use Rattle.std.specs.List.{list_all}
use Rattle.std.proofs.lemmas.Bool.{and_parts}
use Rattle.std.proofs.lemmas.List.{map-append, take_more}
use Rattle.kql_cells.specs.Table.{Grid}
use Rattle.kql_cells.specs.declared.schema.Column.{Column}
use Rattle.kql_cells.specs.declared.value.Value.{Value}
use Rattle.kql_bound.specs.declared.expr.BExpr.{BExpr}
use Rattle.kql_bound.specs.declared.parts.BItem.{BItem}
use Rattle.kql_meaning.specs.declared.position.Position.TheVariants as position
use Rattle.kql_meaning.specs.Expressions.{kind_of}
use Rattle.kql_meaning.specs.FittingExpressions.{expr_fits, fits_as, has_kind, is_key, scope_of}
use Rattle.kql_meaning.specs.FittingOperators.{has_its_names, key_item_fits}
use Rattle.kql_scalar.specs.Scalar.{IsScalar, is_of_rows}
use Rattle.kql_scalar.proofs.ScalarFitLaws.{scalar_where_fits}
use Rattle.summarize_op.specs.Passes.{AreArguments}
use Rattle.summarize_pieces.specs.Pieces.{columns_along, values_along}

abbrev pub fits_plain : List Column → BExpr → Bool
fits_plain cs e = expr_fits e (scope_of cs) position.Plain

one-plain : (cs : List Column) (es : List BExpr) (i : ℕ) (e : BExpr) → list_all (fits_plain cs) es ≡ true → i < length es → e ≡ get_or es i e → fits_plain cs e ≡ true
one-plain cs [] i e h lt is = absurd (omega arith)
one-plain cs (x ∷ es) zero e h lt is = subst (λ (y : BExpr). fits_plain cs y ≡ true) (sym is) (and_parts (fits_plain cs x) (list_all (fits_plain cs) es) h).0
one-plain cs (x ∷ es) (suc i) e h lt is = one-plain cs es i e (and_parts (fits_plain cs x) (list_all (fits_plain cs) es) h).1 (omega (arith, lt)) is

plain-of-rows : is_of_rows position.Plain ≡ true
unfolding is_of_rows
plain-of-rows = refl

pub plain-scalar : (cs : List Column) (e : BExpr) → expr_fits e (scope_of cs) position.Plain ≡ true → IsScalar e
plain-scalar cs e h = scalar_where_fits e (scope_of cs) position.Plain plain-of-rows h

pub ruleset one_steps = (plain-scalar)

pub columns-start : (t : Grid) (from to : ℕ) → columns_along [] t from to ≡ []
unfolding columns_along
columns-start t from to = refl

pub columns-step : (es : List BExpr) (t : Grid) (from to i : ℕ) (e : BExpr) (old new : List (List Value)) (v : List Value) → i < length es → e ≡ get_or es i e → old ≡ columns_along (take i es) t from to → v ≡ values_along e t from to → new ≡ old ++ v ∷ [] → new ≡ columns_along (take (i + 1) es) t from to
unfolding columns_along
columns-step es t from to i e old new v lt is before value after =
    rw (take_more es i e lt, ← is, map-append (λ e. values_along e t from to) (take i es) (e ∷ []), ← before, ← value) after

pub argument-plain : (cs : List Column) (es : List BExpr) (i : ℕ) (e : BExpr) → AreArguments cs es → i < length es → e ≡ get_or es i e → expr_fits e (scope_of cs) position.Plain ≡ true
argument-plain cs es i e h lt is = one-plain cs es i e h.each lt is

pub ruleset argument_steps = (argument-plain, columns-start)

-- Keys.

abbrev pub key_exprs : List BItem → List BExpr
key_exprs keys = map (λ (b : BItem). b.expr) keys

key-plain : (cs : List Column) (b : BItem) → key_item_fits cs b ≡ true → fits_plain cs b.expr ≡ true
unfolding key_item_fits fits_as
key-plain cs b fits =
    let parts = and_parts (expr_fits b.expr (scope_of cs) position.Plain && has_kind is_key (kind_of b.expr cs)) (has_its_names b cs) fits in
    (and_parts (expr_fits b.expr (scope_of cs) position.Plain) (has_kind is_key (kind_of b.expr cs)) parts.0).0

pub key-fits : (keys : List BItem) (cs : List Column) (i : ℕ) (b : BItem) → list_all (key_item_fits cs) keys ≡ true → i < length keys → b ≡ get_or keys i b → expr_fits b.expr (scope_of cs) position.Plain ≡ true
key-fits [] cs i b fits lt is = absurd (omega arith)
key-fits (c ∷ ks) cs zero b fits lt is = subst (λ (x : BItem). fits_plain cs x.expr ≡ true) (sym is) (key-plain cs c (and_parts (key_item_fits cs c) (list_all (key_item_fits cs) ks) fits).0)
key-fits (c ∷ ks) cs (suc i) b fits lt is = key-fits ks cs i b (and_parts (key_item_fits cs c) (list_all (key_item_fits cs) ks) fits).1 (omega (arith, lt)) is

pub keys-start : (t : Grid) (from to : ℕ) → columns_along (key_exprs []) t from to ≡ []
unfolding columns_along
keys-start t from to = refl

pub keys-step : (keys : List BItem) (t : Grid) (from to i : ℕ) (b : BItem) (old new : List (List Value)) (v : List Value) → i < length keys → b ≡ get_or keys i b → old ≡ columns_along (key_exprs (take i keys)) t from to → v ≡ values_along b.expr t from to → new ≡ old ++ v ∷ [] → new ≡ columns_along (key_exprs (take (i + 1) keys)) t from to
unfolding columns_along
keys-step keys t from to i b old new v lt is before value after =
    rw (take_more keys i b lt, ← is, map-append (λ (b : BItem). b.expr) (take i keys) (b ∷ []), map-append (λ e. values_along e t from to) (map (λ (b : BItem). b.expr) (take i keys)) (b.expr ∷ []), ← before, ← value) after

pub ruleset key_steps = (keys-start, key-fits)

-- The first of some arguments.

take-nil : (n : ℕ) → take {A = BExpr} n [] ≡ []
take-nil zero = refl
take-nil (suc n) = refl

pub all-taken : (n : ℕ) (es : List BExpr) → length es ≤ n → take n es ≡ es
all-taken n [] le = take-nil n
all-taken zero (e ∷ es) le = absurd (omega arith)
all-taken (suc n) (e ∷ es) le = ap (λ (xs : List BExpr). e ∷ xs) (all-taken n es (omega (arith, le)))

pub ruleset first_steps = (all-taken)

-- All but the first.

pub no-others : (es : List BExpr) → length es < 1 → es ≡ drop 1 es
no-others [] l = refl
no-others (e ∷ es) l = absurd (omega (arith, l))

pub ruleset other_steps = (no-others)
