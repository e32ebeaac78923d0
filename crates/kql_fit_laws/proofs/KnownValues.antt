-- Values of types that are known, and what a search finds.
use Rattle.std.proofs.Common.{◌≡◌, ◌<◌, ℕ, zero, suc, Bool, true, List, [], ◌∷◌, length, refl, subst, arith, inl, inr}
use Rattle.std.specs.Prelude.{find, IfSome, None, Option, Some, slice_index_or}
use Rattle.std.proofs.lemmas.Bool.{and_parts, cases_Bool}
use Rattle.kql_cells.specs.Dynamic.{is_null}
use Rattle.kql_cells.specs.Table.{Grid}
use Rattle.kql_cells.specs.Values.{IsMoment, IsOfKind}
use Rattle.kql_cells.specs.declared.dynamic.Dyn.{Dyn}
use Rattle.kql_cells.specs.declared.schema.Column.{Column}
use Rattle.kql_cells.specs.declared.value.Kind.{Kind}
use Rattle.kql_cells.specs.declared.value.Kind.TheVariants as kind
use Rattle.kql_cells.specs.declared.value.Value.{Value}
use Rattle.kql_dynamic.specs.Json.{parsed, read_or_text}
use Rattle.kql_dynamic.specs.Parts.{value_of}
use Rattle.kql_functions.specs.Kinds.{same_kind}
use Rattle.kql_scalar_fns.specs.Conversion.{moment_written}
use Rattle.serde_json.specs.Data.{Data}
use Rattle.serde_json.specs.Read.{read}
use Rattle.kql_bound.specs.declared.expr.BExpr.{BExpr}
use Rattle.kql_meaning.specs.declared.position.Position.TheVariants as position
use Rattle.kql_meaning.specs.Expressions.{kind_of, val}
use Rattle.kql_meaning.specs.FittingExpressions.{expr_fits, fits_as, has_kind, scope_of}
use Rattle.kql_meaning.proofs.MemberLaws.{Member}
use Rattle.kql_fit_laws.proofs.ExpressionLaws.{expressions_keep}
use Rattle.kql_fit_laws.proofs.JoinRows.{same-kind}
use Rattle.kql_fit_laws.proofs.MomentForms.{moment_in-range}
use Rattle.kql_fit_laws.proofs.ReadForms.{parsed-form}
use Rattle.kql_fit_laws.specs.LawsOfCalls.{FitsKind}
use Rattle.kql_fit_laws.specs.LawsOfExpressions.{FitsKnown, RecordsFit, no_steps}
use Rattle.kql_fit_laws.specs.LawsOfRows.{IsTable}

-- Searches.

pub found-holds : {X : Type 0} (p : X → Bool) (xs : List X) (x : X) → find p xs ≡ Some x → (p x ≡ true) × Member x xs
found-holds p [] x e = absurd cc
found-holds p (y ∷ ys) x e = elim (cases_Bool (p y)) [
  | inl t ↦ let here : Some y ≡ Some x = rw t at e in let same : y ≡ x = cc in (subst (λ z. p z ≡ true) same t, inl same)
  | inr f ↦ let later : find p ys ≡ Some x = rw f at e in let q = found-holds p ys x later in (q.0, inr q.1)
]

pub index-holds : {X : Type 0} (P : X → Type 0) (xs : List X) (k : ℕ) (d : X) → P d → ((x : X) → Member x xs → P x) → P (slice_index_or xs k d)
index-holds P [] k d h all = h
index-holds P (x ∷ xs) zero d h all = all x (inl refl)
index-holds P (x ∷ xs) (suc k) d h all = index-holds P xs k d h (λ y m. all y (inr m))

-- Types.

pub known-as : (k : Kind) (o : Option Kind) (v : Value) → has_kind (same_kind k) o ≡ true → FitsKnown o v → FitsKind k v
unfolding has_kind
known-as k None v e h = absurd h
known-as k (Some l) v e h = let same = same-kind k l e in rw same h

-- Outside scan no record is held.
pub no-records : (columns : List Column) → RecordsFit columns []
no-records columns k d l = absurd (omega arith)

-- What an expression that fits as a type gives at a row.
pub value-fits : (k : Kind) (e : BExpr) (t : Grid) (i : ℕ) → IsTable t → i < length t.lines → fits_as (same_kind k) e (scope_of t.columns) position.Plain ≡ true → FitsKind k (val e t i [])
unfolding fits_as
value-fits k e t i h lt fits =
    let parts = and_parts (expr_fits e (scope_of t.columns) position.Plain) (has_kind (same_kind k) (kind_of e t.columns)) fits in
    known-as k (kind_of e t.columns) (val e t i []) parts.1 (expressions_keep e position.Plain t i no_steps h (no-records t.columns) (λ x. lt) parts.0)

-- Dynamic values and datetimes that are read.

pub value_of-kind : (d : Dyn) → IsOfKind kind.Dynamic (value_of d)
value_of-kind d = elim (cases_Bool (is_null d)) [ inl y ↦ rw y tt | inr n ↦ rw n tt ]

read-kind : (t : List ℕ) (o : Option Data) → IsOfKind kind.Dynamic (read_or_text t o)
read-kind t None = tt
read-kind t (Some d) = value_of-kind _

pub parsed-fits : (t : List ℕ) → FitsKind kind.Dynamic (parsed t)
unfolding parsed
parsed-fits t = (read-kind t (read t), parsed-form t)

pub written-range : (t : List ℕ) → IfSome (moment_written t) IsMoment
unfolding moment_written
written-range t = moment_in-range t
