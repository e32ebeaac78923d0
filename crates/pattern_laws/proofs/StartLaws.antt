-- A derived table has the rows of its table, with the answers of its calls beside.
use Rattle.std.proofs.Common.{◌≡◌, ◌<◌, ◌+◌, ℕ, Bool, true, false, List, [], ◌∷◌, ◌++◌, length, map, take, refl, sym, ap, ap₂, ◌∙◌, inl, inr, arith}
use Rattle.std.specs.Prelude.{bytes_eq, cond, Some}
use Rattle.std.proofs.lemmas.Bool.{cases_Bool}
use Rattle.std.proofs.lemmas.Slice.Eq.{bytes_eq-Decides}
use Rattle.kql_cells.specs.Seen.{row_at}
use Rattle.kql_cells.specs.Table.{Grid}
use Rattle.kql_cells.specs.declared.schema.Column.{Column}
use Rattle.kql_cells.specs.declared.value.Kind.{Kind}
use Rattle.kql_cells.specs.declared.value.Kind.TheVariants as kind
use Rattle.kql_cells.specs.declared.value.Value.{Value}
use Rattle.kql_cells.specs.declared.value.Value.TheVariants as value
use Rattle.kql_functions.specs.Kinds.{pattern_kind, same_kind}
use Rattle.kql_meaning.specs.Expressions.{column_kind}
use Rattle.kql_meaning.specs.FittingOperators.{are_distinct}
use Rattle.kql_meaning.specs.Tables.{cell, has_column, names_of, places}
use Rattle.kql_meaning.proofs.MemberLaws.{Member, member-map}
use Rattle.pattern_lift.specs.declared.calls.PatternCall.{PatternCall}
use Rattle.pattern_lift.specs.Calls.{is_among}
use Rattle.pattern_lift.specs.Derived.{added_columns, name_of_call, named as named_by}
use Rattle.pattern_lift.specs.Marks.{begins_with}
use Rattle.pattern_laws.specs.Liftable.{text_columns}
use Rattle.pattern_laws.specs.LawsOfExpressions.{HasAnswers, IsBeside}
use Rattle.pattern_laws.specs.Meaning.{Told}
use Rattle.pattern_laws.specs.Tables.{call_answer, derived_table, row_answers}
use Rattle.pattern_laws.proofs.BesideLaws.{AreApart, IsOwn, cell-by-row, distinct-apart, eq-itself, has-not, index-map, kind-found, length-map, length-places, place-at, some-has}
use Rattle.kql_meaning.proofs.NamedCells.{has-cons, has-none, kind-append, kind-cons, named, named-absent}
use Rattle.pattern_laws.proofs.PrefixLaws.{among-cons}

-- The added names begin with the marks.

take-front : (xs ys : List ℕ) → take (length xs) (xs ++ ys) ≡ xs
take-front [] ys = refl
take-front (x ∷ xs) ys = ap (λ zs. x ∷ zs) (take-front xs ys)

pub call-marked : (marks : List ℕ) (c : PatternCall) → begins_with marks (name_of_call marks c) ≡ true
unfolding begins_with named_by
call-marked marks c = rw (take-front marks _) (eq-itself marks)

added-marked : (marks : List ℕ) (cs : List PatternCall) (n : List ℕ) → has_column n (added_columns marks cs) ≡ true → begins_with marks n ≡ true
unfolding added_columns
added-marked marks [] n h = let no : false ≡ true = sym (has-none n) ∙ h in absurd cc
added-marked marks (c ∷ cs) n h = elim (cases_Bool (bytes_eq (name_of_call marks c) n)) [
  | inl s ↦ ap (begins_with marks) (sym ((bytes_eq-Decides (name_of_call marks c) n).0 s)) ∙ call-marked marks c
  | inr f ↦
      let rest : has_column n (added_columns marks cs) ≡ true = let q = sym (has-cons (record { name = name_of_call marks c; kind = pattern_kind c.func.group }) (added_columns marks cs) n) ∙ h in rw f at q in
      added-marked marks cs n rest
]

pub not-added : (marks : List ℕ) (cs : List PatternCall) (n : List ℕ) → begins_with marks n ≡ false → has_column n (added_columns marks cs) ≡ false
not-added marks cs n own = elim (cases_Bool (has_column n (added_columns marks cs))) [
  | inl t ↦ let no : true ≡ false = sym (added-marked marks cs n t) ∙ own in absurd cc
  | inr f ↦ f
]

not-own : (marks : List ℕ) (t : Grid) → IsOwn marks t → (c : PatternCall) → has_column (name_of_call marks c) t.columns ≡ false
not-own marks t own c = elim (cases_Bool (has_column (name_of_call marks c) t.columns)) [
  | inl h ↦ let no : true ≡ false = sym (call-marked marks c) ∙ own.unmarked (name_of_call marks c) h in absurd cc
  | inr f ↦ f
]

-- Rows with more behind.

named-front : (cs ds : List Column) (row more : List Value) (n : List ℕ) → length row ≡ length cs → named (cs ++ ds) (row ++ more) n ≡ cond (has_column n cs) (named cs row n) (named ds more n)
unfolding named
named-front [] ds [] more n e = rw (has-none n) refl
named-front [] ds (v ∷ vs) more n e = absurd (omega (arith, e))
named-front (c ∷ cs) ds [] more n e = absurd (omega (arith, e))
named-front (c ∷ cs) ds (v ∷ vs) more n e = elim (cases_Bool (bytes_eq c.name n)) [
  | inl t ↦ rw (has-cons c cs n, t) refl
  | inr f ↦ rw (has-cons c cs n, f) (named-front cs ds vs more n (omega (arith, e)))
]

module _ (told : Told) (marks : List ℕ) (t : Grid) (own : IsOwn marks t) (cs : List PatternCall) where
  abbrev u : Grid
  u = derived_table told marks cs t

  derived-rows : length (derived_table told marks cs t).lines ≡ length t.lines
  unfolding derived_table
  derived-rows = length-map (λ i. row_at t.lines i ++ row_answers told cs t i) (places t) ∙ length-places t

  derived-columns : (derived_table told marks cs t).columns ≡ t.columns ++ added_columns marks cs
  unfolding derived_table
  derived-columns = refl

  derived-row : (i : ℕ) → i < length t.lines → row_at (derived_table told marks cs t).lines i ≡ row_at t.lines i ++ row_answers told cs t i
  unfolding derived_table
  derived-row i lt =
      let e = length-places t in
      index-map (λ j. row_at t.lines j ++ row_answers told cs t j) (places t) i 0 [] (omega (arith, e, lt))
      ∙ ap (λ j. row_at t.lines j ++ row_answers told cs t j) (place-at t i lt)

  derived-cell : (i : ℕ) (n : List ℕ) → i < length t.lines → cell (derived_table told marks cs t) i n ≡ cond (has_column n t.columns) (cell t i n) (named (added_columns marks cs) (row_answers told cs t i) n)
  derived-cell i n lt =
      cell-by-row (derived_table told marks cs t) i n
      ∙ (ap₂ (λ (ds : List Column) (row : List Value). named ds row n) derived-columns (derived-row i lt)
      ∙ (named-front t.columns (added_columns marks cs) (row_at t.lines i) (row_answers told cs t i) n (own.full i lt)
      ∙ ap (λ (v : Value). cond (has_column n t.columns) v (named (added_columns marks cs) (row_answers told cs t i) n)) (sym (cell-by-row t i n))))

  derived-kind : (n : List ℕ) → column_kind n (derived_table told marks cs t).columns ≡ cond (has_column n t.columns) (column_kind n t.columns) (column_kind n (added_columns marks cs))
  derived-kind n = ap (column_kind n) derived-columns ∙ kind-append t.columns (added_columns marks cs) n

  kind-stays : (n : List ℕ) → begins_with marks n ≡ false → column_kind n (derived_table told marks cs t).columns ≡ column_kind n t.columns
  kind-stays n free = derived-kind n ∙ by-has (has_column n t.columns) refl
    where
      by-has : (b : Bool) → has_column n t.columns ≡ b → cond b (column_kind n t.columns) (column_kind n (added_columns marks cs)) ≡ column_kind n t.columns
      by-has true e = refl
      by-has false e = (named-absent (added_columns marks cs) [] n (not-added marks cs n free)).1 ∙ sym (named-absent t.columns [] n e).1

  cell-stays : (n : List ℕ) → begins_with marks n ≡ false → (i : ℕ) → i < length t.lines → cell (derived_table told marks cs t) i n ≡ cell t i n
  cell-stays n free i lt = derived-cell i n lt ∙ by-has (has_column n t.columns) refl
    where
      by-has : (b : Bool) → has_column n t.columns ≡ b → cond b (cell t i n) (named (added_columns marks cs) (row_answers told cs t i) n) ≡ cell t i n
      by-has true e = refl
      by-has false e = (named-absent (added_columns marks cs) (row_answers told cs t i) n (not-added marks cs n free)).0 ∙ (sym (named-absent t.columns (row_at t.lines i) n e).0 ∙ sym (cell-by-row t i n))

  pub derived-beside : IsBeside marks t (derived_table told marks cs t)
  derived-beside = record { rows = derived-rows; kinds = kind-stays; cells = cell-stays }

-- The answers.

added-names : (marks : List ℕ) (cs : List PatternCall) → names_of (added_columns marks cs) ≡ map (name_of_call marks) cs
unfolding names_of added_columns
added-names marks [] = refl
added-names marks (c ∷ cs) = ap (λ ns. name_of_call marks c ∷ ns) (added-names marks cs)

pub added-apart : (marks : List ℕ) (cs : List PatternCall) → are_distinct (map (name_of_call marks) cs) ≡ true → AreApart (added_columns marks cs)
added-apart marks cs d = distinct-apart (added_columns marks cs) (ap are_distinct (added-names marks cs) ∙ d)

abbrev added_by : List ℕ → PatternCall → Column
added_by marks c = record { name = name_of_call marks c; kind = pattern_kind c.func.group }

added-member : (marks : List ℕ) (cs : List PatternCall) (c : PatternCall) → Member c cs → Member (added_by marks c) (added_columns marks cs)
unfolding added_columns
added-member marks cs c m = member-map (added_by marks) cs c m

added-cell : (told : Told) (marks : List ℕ) (t : Grid) (i : ℕ) (cs : List PatternCall) (c : PatternCall) → AreApart (added_columns marks cs) → Member c cs → named (added_columns marks cs) (row_answers told cs t i) (name_of_call marks c) ≡ call_answer told t i c
unfolding added_columns row_answers named
added-cell told marks t i [] c a m = absurd m
added-cell told marks t i (d ∷ ds) c a (inl e) = rw ((bytes_eq-Decides (name_of_call marks d) (name_of_call marks c)).1 (ap (name_of_call marks) e)) (ap (call_answer told t i) e)
added-cell told marks t i (d ∷ ds) c a (inr m) = rw (has-not (added_columns marks ds) (name_of_call marks d) (added_by marks c) a.0 (added-member marks ds c m)) (added-cell told marks t i ds c a.1 m)

-- String columns.

text-same : (k : Kind) → same_kind k kind.Text ≡ true → k ≡ kind.Text
text-same kind.Bool h = cc
text-same kind.Long h = cc
text-same kind.Text h = refl
text-same kind.Moment h = cc
text-same kind.Span h = cc
text-same kind.Dynamic h = cc

pub none-here : (n : List ℕ) → is_among [] n ≡ true → ⊥
unfolding is_among
none-here n e = cc

pub text-column : (cs : List Column) (n : List ℕ) → AreApart cs → is_among (text_columns cs) n ≡ true → column_kind n cs ≡ Some kind.Text
unfolding text_columns
text-column [] n a h = absurd (none-here n h)
text-column (c ∷ cs) n a h = elim (cases_Bool (same_kind c.kind kind.Text)) [
  | inl t ↦
      let here : is_among (c.name ∷ text_columns cs) n ≡ true = rw t at h in
      let q = sym (among-cons c.name (text_columns cs) n) ∙ here in
      elim (cases_Bool (bytes_eq c.name n)) [
        | inl s ↦ kind-cons c cs n ∙ rw s (ap (λ (k : Kind). Some k) (text-same c.kind t))
        | inr f ↦ let rest : is_among (text_columns cs) n ≡ true = rw f at q in kind-cons c cs n ∙ rw f (text-column cs n a.1 rest)
      ]
  | inr f ↦
      let rest : is_among (text_columns cs) n ≡ true = rw f at h in
      let later = text-column cs n a.1 rest in
      let other : bytes_eq c.name n ≡ false = elim (cases_Bool (bytes_eq c.name n)) [
        | inl s ↦ let no : true ≡ false = sym (some-has cs n kind.Text later) ∙ (ap (λ (m : List ℕ). has_column m cs) (sym ((bytes_eq-Decides c.name n).0 s)) ∙ a.0) in absurd cc
        | inr g ↦ g
      ] in
      kind-cons c cs n ∙ rw other later
]

pub derived-answers : (told : Told) (marks : List ℕ) (t : Grid) → IsOwn marks t → (cs : List PatternCall) → are_distinct (map (name_of_call marks) cs) ≡ true → (c : PatternCall) → Member c cs → is_among (text_columns t.columns) c.column ≡ true → HasAnswers told marks t (derived_table told marks cs t) c
derived-answers told marks t own cs d c m lent =
    let free = not-own marks t own c in
    let apart = added-apart marks cs d in record {
      text = text-column t.columns c.column own.apart lent;
      type = derived-kind told marks t own cs (name_of_call marks c) ∙ rw free (kind-found (added_columns marks cs) (added_by marks c) apart (added-member marks cs c m));
      cells = λ i lt. derived-cell told marks t own cs i (name_of_call marks c) lt ∙ rw free (added-cell told marks t i cs c apart m);
    }
