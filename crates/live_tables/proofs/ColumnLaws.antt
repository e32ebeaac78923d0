-- Columns that differ nowhere are equal.
use Rattle.std.proofs.Common.{◌≡◌, ◌↔◌, ℕ, ◌+◌, Bool, true, false, All, List, [], ◌∷◌, Option, Some, None, cond, refl, sym, ap₂, subst, inl, inr}
use Rattle.std.specs.Prelude.{IsTrue, bytes_eq, is_some, not}
use Rattle.std.proofs.lemmas.Bool.{and_from, and_parts, cases_Bool}
use Rattle.std.proofs.lemmas.List.Elements.{All-cons, All-tail}
use Rattle.std.proofs.lemmas.Slice.Eq.{bytes_eq-Decides}
use Rattle.kql_cells.specs.declared.schema.Column.{Column}
use Rattle.kql_cells.specs.declared.value.Kind.{Kind}
use Rattle.kql_cells.specs.declared.value.Kind.TheVariants as kind
use Rattle.kql_functions.specs.Kinds.{same_kind}
use Rattle.live_tables.specs.Columns.{difference_from, same_column}

same-kind : (a b : Kind) → same_kind a b ≡ true → a ≡ b
same-kind kind.Bool kind.Bool e = refl
same-kind kind.Long kind.Long e = refl
same-kind kind.Text kind.Text e = refl
same-kind kind.Moment kind.Moment e = refl
same-kind kind.Span kind.Span e = refl
same-kind kind.Dynamic kind.Dynamic e = refl
same-kind _ _ e = cc

kind-self : (k : Kind) → same_kind k k ≡ true
kind-self kind.Bool = refl
kind-self kind.Long = refl
kind-self kind.Text = refl
kind-self kind.Moment = refl
kind-self kind.Span = refl
kind-self kind.Dynamic = refl

differs-nowhere : (place : ℕ) (cs ds : List Column) → difference_from place cs ds ≡ None → cs ≡ ds
unfolding difference_from
differs-nowhere place [] [] e = refl
differs-nowhere place [] (d ∷ ds) e = absurd cc
differs-nowhere place (c ∷ cs) [] e = absurd cc
differs-nowhere place (c ∷ cs) (d ∷ ds) e = elim (cases_Bool (same_column c d)) [
  | inl same ↦
      let parts = and_parts (bytes_eq c.name d.name) (same_kind c.kind d.kind) same in
      let column : c ≡ d = ap₂ (λ (n : List ℕ) (k : Kind). record { name = n; kind = k }) ((bytes_eq-Decides c.name d.name).0 parts.0) (same-kind c.kind d.kind parts.1) in
      let rest : difference_from (place + 1) cs ds ≡ None = subst (λ b. cond b (difference_from (place + 1) cs ds) (Some place) ≡ None) same e in
      ap₂ (λ (x : Column) (xs : List Column). x ∷ xs) column (differs-nowhere (place + 1) cs ds rest)
  | inr other ↦ let none : Some place ≡ None = subst (λ b. cond b (difference_from (place + 1) cs ds) (Some place) ≡ None) other e in absurd cc
]

same-nowhere : (place : ℕ) (cs : List Column) → difference_from place cs cs ≡ None
unfolding difference_from
same-nowhere place [] = refl
same-nowhere place (c ∷ cs) =
    let same : same_column c c ≡ true = and_from (bytes_eq c.name c.name) (same_kind c.kind c.kind) ((bytes_eq-Decides c.name c.name).1 refl) (kind-self c.kind) in
    subst (λ b. cond b (difference_from (place + 1) cs cs) (Some place) ≡ None) (sym same) (same-nowhere (place + 1) cs)

pub differ_nowhere : (cs ds : List Column) → (difference_from 0 cs ds ≡ None) ↔ (cs ≡ ds)
differ_nowhere cs ds = (differs-nowhere 0 cs ds, λ e. subst (λ xs. difference_from 0 cs xs ≡ None) e (same-nowhere 0 cs))

-- one table in front of others
pub all_first : {X : Type 0} (P : X → Type 0) (x : X) (xs : List X) → P x → All P (x ∷ xs) ↔ All P xs
all_first P x xs p = (λ h. All-tail P x xs h, λ h. All-cons P x xs p h)

-- what `is_none` tells
pub told_none : (o : Option ℕ) (b : Bool) → is_some o ≡ not b → IsTrue b ↔ (o ≡ None)
told_none None true e = (λ t. refl, λ n. refl)
told_none None false e = absurd cc
told_none (Some n) true e = absurd cc
told_none (Some n) false e = (λ t. absurd cc, λ n. absurd cc)
