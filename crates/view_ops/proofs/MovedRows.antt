-- What expressions give at rows that stand in another table, each so many places further on.
use Rattle.std.proofs.Common.{◌≡◌, ◌<◌, ◌≤◌, ◌+◌, ℕ, zero, suc, Bool, true, false, List, [], ◌∷◌, filter, map, take, refl, ap, ap₂, sym, ◌∙◌, inl, inr, arith}
use Rattle.std.specs.Prelude.{◌&&◌, None, Option, Some, slice_get}
use Rattle.std.specs.List.{AllByRecursion, list_all, range_with_len}
use Rattle.std.proofs.lemmas.Bool.{and_parts, cases_Bool}
use Rattle.kql_cells.specs.Seen.{row_at}
use Rattle.kql_cells.specs.Table.{Grid}
use Rattle.kql_cells.specs.declared.schema.Column.{Column}
use Rattle.kql_cells.specs.declared.value.Value.{Value}
use Rattle.kql_functions.specs.declared.aggregate.Aggregate.{Aggregate}
use Rattle.kql_bound.specs.declared.expr.BExpr.{BExpr}
use Rattle.kql_bound.specs.declared.parts.BItem.{BItem}
use Rattle.kql_meaning.specs.declared.position.Position.TheVariants as position
use Rattle.kql_meaning.specs.Expressions.{kind_of, val, values_in}
use Rattle.kql_meaning.specs.FittingExpressions.{expr_fits, fits_as, has_kind, is_key, scope_of}
use Rattle.kql_meaning.specs.FittingOperators.{has_its_names, key_item_fits}
use Rattle.kql_meaning.specs.Groups.{key_by}
use Rattle.kql_meaning.proofs.PlainFitLaws.{plain_where_fits}
use Rattle.kql_meaning.proofs.RowByRowLaws.{plain_reads_its_row}
use Rattle.agg_folds.specs.Calls.{needs}
use Rattle.summarize_pieces.specs.Pieces.{args_of, further_at}
use Rattle.summarize_pieces.proofs.ColumnSteps.{fits_plain}
use Rattle.summarize_pieces.proofs.PlanSteps.{take-plain}

-- Two functions of a place, of which the second has so many places further on what the first has.

pub map-moved : {X : Type 0} (k m : ℕ) (f g : ℕ → X) → ((i : ℕ) → i < m → f i ≡ g (k + i)) → (a n : ℕ) → a + n ≤ m → map f (range_with_len a n) ≡ map g (range_with_len (k + a) n)
map-moved k m f g same a zero le = refl
map-moved k m f g same a (suc n) le =
    let e : k + (a + 1) ≡ (k + a) + 1 = omega arith in
    ap₂ (λ x xs. x ∷ xs) (same a (omega (arith, le))) (map-moved k m f g same (a + 1) n (omega (arith, le)) ∙ ap (λ b. map g (range_with_len b n)) e)

pub list-moved : {X : Type 0} (k m : ℕ) (f g : ℕ → X) → ((i : ℕ) → i < m → f i ≡ g (k + i)) → (is : List ℕ) → AllByRecursion (λ i. i < m) is → map f is ≡ map g (map (λ i. k + i) is)
list-moved k m f g same [] h = refl
list-moved k m f g same (i ∷ is) h = ap₂ (λ x xs. x ∷ xs) (same i h.0) (list-moved k m f g same is h.1)

pub filter-moved : (k m : ℕ) (p q : ℕ → Bool) → ((i : ℕ) → i < m → p i ≡ q (k + i)) → (a n : ℕ) → a + n ≤ m → map (λ i. k + i) (filter p (range_with_len a n)) ≡ filter q (range_with_len (k + a) n)
filter-moved k m p q same a zero le = refl
filter-moved k m p q same a (suc n) le =
    let e : k + (a + 1) ≡ (k + a) + 1 = omega arith in
    let rest : map (λ i. k + i) (filter p (range_with_len (a + 1) n)) ≡ filter q (range_with_len ((k + a) + 1) n) =
    filter-moved k m p q same (a + 1) n (omega (arith, le)) ∙ ap (λ b. filter q (range_with_len b n)) e in
    let here = same a (omega (arith, le)) in
    elim (cases_Bool (p a)) [
      | inl t ↦ let u : q (k + a) ≡ true = sym here ∙ t in rw (t, u) (ap (λ is. (k + a) ∷ is) rest)
      | inr f ↦ let u : q (k + a) ≡ false = sym here ∙ f in rw (f, u) rest
    ]

-- A key that fits has a plain expression.
key-plain : (cs : List Column) (b : BItem) → key_item_fits cs b ≡ true → fits_plain cs b.expr ≡ true
unfolding key_item_fits fits_as
key-plain cs b fits =
    let parts = and_parts (expr_fits b.expr (scope_of cs) position.Plain && has_kind is_key (kind_of b.expr cs)) (has_its_names b cs) fits in
    (and_parts (expr_fits b.expr (scope_of cs) position.Plain) (has_kind is_key (kind_of b.expr cs)) parts.0).0

-- Two tables of the same columns, of which the second has the first m rows of the first, each k places further on.
module _ (t u : Grid) (k m : ℕ) (columns : t.columns ≡ u.columns) (same : (i : ℕ) → i < m → row_at t.lines i ≡ row_at u.lines (k + i)) where
  pub value-moved : (e : BExpr) (i : ℕ) → fits_plain t.columns e ≡ true → i < m → val e t i [] ≡ val e u (k + i) []
  value-moved e i fits lt = plain_reads_its_row e t u i (k + i) [] (plain_where_fits e (scope_of t.columns) fits) columns (same i lt)

  pub values-moved : (es : List BExpr) (i : ℕ) → list_all (fits_plain t.columns) es ≡ true → i < m → values_in es t i [] ≡ values_in es u (k + i) []
  unfolding values_in
  values-moved [] i fits lt = refl
  values-moved (e ∷ es) i fits lt =
      let b = and_parts (fits_plain t.columns e) (list_all (fits_plain t.columns) es) fits in
      ap₂ (λ (v : Value) (vs : List Value). v ∷ vs) (value-moved e i b.0 lt) (values-moved es i b.1 lt)

  pub key-moved : (keys : List BItem) (i : ℕ) → list_all (key_item_fits t.columns) keys ≡ true → i < m → key_by keys t i ≡ key_by keys u (k + i)
  unfolding key_by
  key-moved [] i fits lt = refl
  key-moved (b ∷ bs) i fits lt =
      let p = and_parts (key_item_fits t.columns b) (list_all (key_item_fits t.columns) bs) fits in
      ap₂ (λ (v : Value) (vs : List Value). v ∷ vs) (value-moved b.expr i (key-plain t.columns b p.0) lt) (key-moved bs i p.1 lt)

  pub args-moved : (f : Aggregate) (args : List BExpr) (i : ℕ) → list_all (fits_plain t.columns) args ≡ true → i < m → args_of (f, args) t i ≡ args_of (f, args) u (k + i)
  unfolding args_of
  args-moved f args i own lt = values-moved (take (needs f) args) i (take-plain t.columns (needs f) args own) lt

  pub further-moved : (es : List BExpr) (is : List ℕ) (p : ℕ) → list_all (fits_plain t.columns) es ≡ true → AllByRecursion (λ i. i < m) is → further_at es t (slice_get is p) ≡ further_at es u (slice_get (map (λ i. k + i) is) p)
  unfolding further_at
  further-moved es [] zero own h = refl
  further-moved es [] (suc p) own h = refl
  further-moved es (i ∷ is) zero own h = values-moved es i own h.0
  further-moved es (i ∷ is) (suc p) own h = further-moved es is p own h.1
