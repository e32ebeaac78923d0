-- When values are well formed.
use Rattle.std.proofs.Common.{◌≡◌, ◌<◌, ◌≤◌, ◌-◌, ℕ, zero, suc, true, List, [], ◌∷◌, ◌++◌, length, get_or, refl, subst, sym, ap, ◌∙◌, arith}
use Rattle.std.specs.Prelude.{Option, None, Some, slice_get, slice_index_or}
use Rattle.std.specs.Str.{bytes_eq}
use Rattle.std.proofs.lemmas.List.Quantifiers.{position-Some}
use Rattle.kql_cells.specs.Keys.{absent}
use Rattle.kql_cells.specs.Named.{column_name}
use Rattle.kql_cells.specs.Seen.{cell_at, row_at, value_at}
use Rattle.kql_cells.specs.Table.{CellFits, Grid, IsGrid}
use Rattle.kql_cells.specs.Values.{IsWellFormed}
use Rattle.kql_cells.specs.declared.schema.Column.{Column}
use Rattle.kql_cells.specs.declared.value.Kind.{Kind}
use Rattle.kql_cells.specs.declared.value.Kind.TheVariants as kind
use Rattle.kql_cells.specs.declared.value.Value.{Value}
use Rattle.kql_cells.specs.declared.value.Value.TheVariants as value
use Rattle.kql_cells.proofs.RowLaws.{length-RowFits}
use Rattle.kql_values.specs.Grids.{column_at}
use Rattle.kql_scalar_fns.specs.Arguments.{AreWellFormed}
use Rattle.kql_bound.specs.declared.expr.StepColumn.{StepColumn}
use Rattle.kql_bound.specs.declared.literal.Lit.{Lit}
use Rattle.kql_meaning.specs.Expressions.{recorded, step_value}
use Rattle.kql_meaning.specs.Literals.{is_well_formed}
use Rattle.kql_meaning.specs.Readings.{Records}
use Rattle.kql_meaning.specs.Tables.{absent_in, cell_in}
use Rattle.kql_meaning.proofs.LiteralLaws.{is_well_formed-decides}
use Rattle.kql_scalar.specs.Means.{IsPlaced}
use Rattle.kql_scalar.specs.declared.node.Node.{Node}
use Rattle.kql_scalar.specs.declared.node.Node.TheVariants as N
use Rattle.kql_scalar.proofs.MeansSteps.{default-form, literal-form, parts-Column}

pub tested-form : (v : Value) → is_well_formed v ≡ true → IsWellFormed v
tested-form v e = (is_well_formed-decides v).0 e

pub form-along : (v w : Value) → v ≡ w → IsWellFormed w → IsWellFormed v
form-along v w e h = subst IsWellFormed (sym e) h

each-form : (v : Value) (vs : List Value) → IsWellFormed v → AreWellFormed vs → (k : ℕ) (d : Value) → k < length (v ∷ vs) → IsWellFormed (slice_index_or (v ∷ vs) k d)
each-form v vs f h zero d l = f
each-form v vs f h (suc k) d l = h.each k d (omega arith)

pub forms-none : AreWellFormed []
forms-none = record { each = λ k d l. absurd (omega arith) }

pub forms-joined : (v : Value) (vs : List Value) → IsWellFormed v → AreWellFormed vs → AreWellFormed (v ∷ vs)
forms-joined v vs f h = record { each = each-form v vs f h }

rest : (v : Value) (vs : List Value) → AreWellFormed (v ∷ vs) → AreWellFormed vs
rest v vs h = record { each = λ k d l. h.each (suc k) d (omega arith) }

pub forms-more : (vs : List Value) (v : Value) → AreWellFormed vs → IsWellFormed v → AreWellFormed (vs ++ v ∷ [])
forms-more [] v h f = forms-joined v [] f forms-none
forms-more (w ∷ vs) v h f = forms-joined w (vs ++ v ∷ []) (h.each 0 value.Null (omega arith)) (forms-more vs v (rest w vs h) f)

pub forms-of-one : (v : Value) → IsWellFormed v → AreWellFormed (v ∷ [])
forms-of-one v f = forms-joined v [] f forms-none

pub forms-of-two : (v w : Value) → IsWellFormed v → IsWellFormed w → AreWellFormed (v ∷ w ∷ [])
forms-of-two v w f g = forms-joined v (w ∷ []) f (forms-of-one w g)

pub forms-along : (vs ws : List Value) → vs ≡ ws → AreWellFormed ws → AreWellFormed vs
forms-along vs ws e h = subst AreWellFormed (sym e) h

-- The cell of a row that is there, and of one that is not.

default-free : (vs : List Value) (j : ℕ) (d e : Value) → j < length vs → slice_index_or vs j d ≡ slice_index_or vs j e
default-free [] j d e l = absurd (omega arith)
default-free (v ∷ vs) zero d e l = refl
default-free (v ∷ vs) (suc j) d e l = default-free vs j d e (omega arith)

row-length : (t : Grid) (i : ℕ) → IsGrid t → i < length t.lines → length (row_at t.lines i) ≡ length t.columns
row-length t i h l = length-RowFits t.columns (row_at t.lines i) (h i [] l)

pub cell-there : (t : Grid) (i j : ℕ) → IsGrid t → i < length t.lines → j < length t.columns → cell_in t i (Some j) ≡ cell_at t.lines i j
unfolding cell_in
cell-there t i j h l k = default-free (row_at t.lines i) j (absent_in (slice_get t.columns j)) value.Null (rw (row-length t i h l) k)

column-at : (cs : List Column) (j : ℕ) → j < length cs → (c : Column) × (slice_get cs j ≡ Some c)
column-at [] j l = absurd (omega arith)
column-at (c ∷ cs) zero l = (c, refl)
column-at (c ∷ cs) (suc j) l = column-at cs j (omega arith)

pub cell-form : (cs : List Column) (j : ℕ) (v : Value) → j < length cs → ((c : Column) → slice_get cs j ≡ Some c → CellFits c v) → IsWellFormed v
cell-form cs j v l fits = let at = column-at cs j l in (fits at.0 at.1).1

-- The cell is that of the column.

column-value : (lines : List (List Value)) (i j : ℕ) → i < length lines → value_at (column_at lines j) i ≡ cell_at lines i j
column-value [] i j l = absurd (omega arith)
column-value (r ∷ rs) zero j l = refl
column-value (r ∷ rs) (suc i) j l = column-value rs i j (omega arith)

pub cell-column : (t : Grid) (i j : ℕ) (vs : List Value) → IsGrid t → vs ≡ column_at t.lines j → i < length t.lines → j < length t.columns → cell_in t i (Some j) ≡ value_at vs i
cell-column t i j vs h is l k = cell-there t i j h l k ∙ (sym (column-value t.lines i j l) ∙ ap (λ xs. value_at xs i) (sym is))

-- What is absent.

pub absent-form : (k : Kind) → IsWellFormed (absent k)
unfolding absent
absent-form kind.Text = tt
absent-form kind.Bool = tt
absent-form kind.Long = tt
absent-form kind.Moment = tt
absent-form kind.Span = tt
absent-form kind.Dynamic = tt

pub ruleset absent_forms = (absent-form, form-along)

-- Step records.

held-at : (s : Records) (k : ℕ) (held : Option (List Value)) → k < length s → held ≡ get_or s k held → slice_index_or s k None ≡ held
held-at [] k held l e = absurd (omega arith)
held-at (h ∷ hs) zero held l e = sym e
held-at (h ∷ hs) (suc k) held l e = held-at hs k held (omega arith) e

none-held : (s : Records) (k : ℕ) → length s ≤ k → slice_index_or s k None ≡ None
none-held [] k l = refl
none-held (h ∷ hs) zero l = absurd (omega arith)
none-held (h ∷ hs) (suc k) l = none-held hs k (omega arith)

pub step-there : (c : StepColumn) (s : Records) (k : ℕ) (held : Option (List Value)) → k ≡ c.number - 1 → k < length s → held ≡ get_or s k held → recorded held c.place c.default.value ≡ step_value c s
unfolding step_value
step-there c s k held n l e = rw (← n, held-at s k held l e) refl

pub step-none : (c : StepColumn) (s : Records) (k : ℕ) → k ≡ c.number - 1 → length s ≤ k → c.default.value ≡ step_value c s
unfolding step_value recorded
step-none c s k n l = rw (← n, none-held s k l) refl

pub ruleset form_facts = (forms-none, forms-joined, forms-more, forms-of-one, forms-of-two)

pub ruleset cell_facts = (cell-there, cell-form)

-- What a placed part gives.

pub literal_form : (columns : List Column) (n : Node) (l : Lit) → IsPlaced columns n → n ≡ N.Literal l → IsWellFormed l.value
literal_form columns n l h is = tested-form l.value (literal-form columns l (subst (IsPlaced columns) is h))

pub default_form : (columns : List Column) (n : Node) (c : StepColumn) → IsPlaced columns n → n ≡ N.Step c → IsWellFormed c.default.value
default_form columns n c h is = tested-form c.default.value (default-form columns c (subst (IsPlaced columns) is h))

pub column_within : (columns : List Column) (n : Node) (name : List ℕ) (place : ℕ) → IsPlaced columns n → n ≡ N.Column name place → place < length columns
column_within [] n name place h is = let e = parts-Column [] name place (subst (IsPlaced []) is h) in cc
column_within (c ∷ cs) n name place h is = (position-Some (λ (x : Column). bytes_eq (column_name x) name) (c ∷ cs) place c (parts-Column (c ∷ cs) name place (subst (IsPlaced (c ∷ cs)) is h))).0

pub ruleset part_forms = (literal_form, default_form, column_within, form-along)

pub ruleset value_forms = (form-along)
