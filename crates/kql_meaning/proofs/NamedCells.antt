-- The cell of a row in the column of a name, by recursion over the columns and the row.
use Rattle.std.proofs.Common.{◌≡◌, ◌+◌, ℕ, suc, Bool, true, false, List, [], ◌∷◌, ◌++◌, map, length, refl, sym, ap, ◌∙◌, inl, inr, arith}
use Rattle.std.specs.Prelude.{cond, bytes_eq, nat_lt, position, Option, None, Some, option_map}
use Rattle.std.specs.List.{position_or_len}
use Rattle.std.proofs.lemmas.Bool.{cases_Bool}
use Rattle.std.proofs.lemmas.Slice.Eq.{bytes_eq-Decides}
use Rattle.kql_cells.specs.Named.{column_name}
use Rattle.kql_cells.specs.Table.{RowFits}
use Rattle.kql_cells.specs.declared.schema.Column.{Column}
use Rattle.kql_cells.specs.declared.value.Kind.{Kind}
use Rattle.kql_cells.specs.declared.value.Value.{Value}
use Rattle.kql_cells.specs.declared.value.Value.TheVariants as value
use Rattle.kql_bound.specs.declared.parts.BItem.{BItem}
use Rattle.kql_meaning.specs.Expressions.{column_kind}
use Rattle.kql_meaning.specs.Items.{items_columns, items_names, named_columns, without}
use Rattle.kql_meaning.specs.Results.{result_kinds}
use Rattle.kql_meaning.specs.Tables.{absent_in, cell, cell_in, has_column, is_name_among, names_of}
use Rattle.kql_meaning.specs.Values.{absent}
use Rattle.kql_meaning.proofs.RowByRowLaws.{alone}

unfoldable pub named : List Column → List Value → List ℕ → Value
named [] vs n = value.Null
named (c ∷ cs) [] n = cond (bytes_eq c.name n) (absent c.kind) (named cs [] n)
named (c ∷ cs) (v ∷ vs) n = cond (bytes_eq c.name n) v (named cs vs n)

abbrev at_name : List ℕ → Column → Bool
at_name n c = bytes_eq (column_name c) n

position-cons : {X : Type 0} (p : X → Bool) (x : X) (xs : List X) → position p (x ∷ xs) ≡ cond (p x) (Some 0) (option_map (λ j. suc j) (position p xs))
position-cons p x xs = elim (cases_Bool (p x)) [
  | inl t ↦ let first : nat_lt 0 (suc (length xs)) ≡ true = grind arith in rw t (rw first refl)
  | inr f ↦ rw f (later (position_or_len p xs) (length xs))
]
  where
    later : (k n : ℕ) → cond (nat_lt (1 + k) (suc n)) (Some (1 + k)) None ≡ option_map (λ j. suc j) (cond (nat_lt k n) (Some k) None)
    later k n = elim (cases_Bool (nat_lt k n)) [
      | inl t ↦ let up : nat_lt (1 + k) (suc n) ≡ true = grind (arith, t) in let e : 1 + k ≡ suc k = omega arith in rw (t, up) (ap (λ j. Some j) e)
      | inr f ↦ let up : nat_lt (1 + k) (suc n) ≡ false = grind (arith, f) in rw (f, up) refl
    ]

abbrev cell_at : List Column → List Value → Option ℕ → Value
cell_at cs row o = cell_in (alone cs row) 0 o

cell-next : (c : Column) (cs : List Column) (v : Value) (vs : List Value) (o : Option ℕ) → cell_at (c ∷ cs) (v ∷ vs) (option_map (λ j. suc j) o) ≡ cell_at cs vs o
unfolding cell_in
cell-next c cs v vs None = refl
cell-next c cs v vs (Some j) = refl

cell-short : (c : Column) (cs : List Column) (o : Option ℕ) → cell_at (c ∷ cs) [] (option_map (λ j. suc j) o) ≡ cell_at cs [] o
unfolding cell_in
cell-short c cs None = refl
cell-short c cs (Some j) = refl

cell-along : (cs : List Column) (row : List Value) (n : List ℕ) → cell_at cs row (position (at_name n) cs) ≡ named cs row n
unfolding named cell_in absent_in
cell-along [] row n = refl
cell-along (c ∷ cs) [] n = elim (cases_Bool (bytes_eq c.name n)) [
  | inl t ↦ ap (cell_at (c ∷ cs) []) (position-cons (at_name n) c cs) ∙ rw t refl
  | inr f ↦ ap (cell_at (c ∷ cs) []) (position-cons (at_name n) c cs) ∙ rw f (cell-short c cs (position (at_name n) cs) ∙ cell-along cs [] n)
]
cell-along (c ∷ cs) (v ∷ vs) n = elim (cases_Bool (bytes_eq c.name n)) [
  | inl t ↦ ap (cell_at (c ∷ cs) (v ∷ vs)) (position-cons (at_name n) c cs) ∙ rw t refl
  | inr f ↦ ap (cell_at (c ∷ cs) (v ∷ vs)) (position-cons (at_name n) c cs) ∙ rw f (cell-next c cs v vs (position (at_name n) cs) ∙ cell-along cs vs n)
]

pub cell-named : (cs : List Column) (row : List Value) (n : List ℕ) → cell (alone cs row) 0 n ≡ named cs row n
unfolding cell
cell-named cs row n = cell-along cs row n

-- Whether there is a column of the name.

pub has-cons : (c : Column) (cs : List Column) (n : List ℕ) → has_column n (c ∷ cs) ≡ cond (bytes_eq c.name n) true (has_column n cs)
unfolding has_column is_name_among names_of
has-cons c cs n = elim (cases_Bool (bytes_eq c.name n)) [
  | inl t ↦ rw t refl
  | inr f ↦ rw f refl
]

pub kind-cons : (c : Column) (cs : List Column) (n : List ℕ) → column_kind n (c ∷ cs) ≡ cond (bytes_eq c.name n) (Some c.kind) (column_kind n cs)
unfolding column_kind
kind-cons c cs n = elim (cases_Bool (bytes_eq c.name n)) [
  | inl t ↦ rw t refl
  | inr f ↦ rw f refl
]

pub has-none : (n : List ℕ) → has_column n [] ≡ false
unfolding has_column is_name_among names_of
has-none n = refl

pub kind-none : (n : List ℕ) → column_kind n [] ≡ None
unfolding column_kind
kind-none n = refl

-- A name that is no column has no cell and no type.
pub named-absent : (cs : List Column) (row : List Value) (n : List ℕ) → has_column n cs ≡ false → (named cs row n ≡ value.Null) × (column_kind n cs ≡ None)
unfolding named
named-absent [] row n h = (refl, kind-none n)
named-absent (c ∷ cs) [] n h = elim (cases_Bool (bytes_eq c.name n)) [
  | inl t ↦ let no : true ≡ false = let e = sym (has-cons c cs n) ∙ h in rw t at e in absurd cc
  | inr f ↦
      let rest : has_column n cs ≡ false = let e = sym (has-cons c cs n) ∙ h in rw f at e in
      let q = named-absent cs [] n rest in
      (rw f q.0, kind-cons c cs n ∙ rw f q.1)
]
named-absent (c ∷ cs) (v ∷ vs) n h = elim (cases_Bool (bytes_eq c.name n)) [
  | inl t ↦ let no : true ≡ false = let e = sym (has-cons c cs n) ∙ h in rw t at e in absurd cc
  | inr f ↦
      let rest : has_column n cs ≡ false = let e = sym (has-cons c cs n) ∙ h in rw f at e in
      let q = named-absent cs vs n rest in
      (rw f q.0, kind-cons c cs n ∙ rw f q.1)
]

-- Columns in front of others.
pub has-append : (cs ds : List Column) (n : List ℕ) → has_column n (cs ++ ds) ≡ cond (has_column n cs) true (has_column n ds)
has-append [] ds n = rw (has-none n) refl
has-append (c ∷ cs) ds n = elim (cases_Bool (bytes_eq c.name n)) [
  | inl t ↦ has-cons c (cs ++ ds) n ∙ rw (has-cons c cs n, t) refl
  | inr f ↦ has-cons c (cs ++ ds) n ∙ rw (has-cons c cs n, f) (has-append cs ds n)
]

pub kind-append : (cs ds : List Column) (n : List ℕ) → column_kind n (cs ++ ds) ≡ cond (has_column n cs) (column_kind n cs) (column_kind n ds)
kind-append [] ds n = rw (has-none n) refl
kind-append (c ∷ cs) ds n = elim (cases_Bool (bytes_eq c.name n)) [
  | inl t ↦ kind-cons c (cs ++ ds) n ∙ rw (has-cons c cs n, kind-cons c cs n, t) refl
  | inr f ↦ kind-cons c (cs ++ ds) n ∙ rw (has-cons c cs n, kind-cons c cs n, f) (kind-append cs ds n)
]

-- A row in front of more, where it has a value for each of the columns.
pub named-append : (cs ds : List Column) (row more : List Value) (n : List ℕ) → RowFits cs row → has_column n cs ≡ true → named (cs ++ ds) (row ++ more) n ≡ named cs row n
unfolding named RowFits
named-append [] ds row more n f h = let no : false ≡ true = sym (has-none n) ∙ h in absurd cc
named-append (c ∷ cs) ds [] more n f h = absurd f
named-append (c ∷ cs) ds (v ∷ vs) more n f h = elim (cases_Bool (bytes_eq c.name n)) [
  | inl t ↦ rw t refl
  | inr g ↦ let rest : has_column n cs ≡ true = let e = sym (has-cons c cs n) ∙ h in rw g at e in rw g (named-append cs ds vs more n f.1 rest)
]

-- Values by the names of the columns, in front of more.
pub named-made : (f : List ℕ → Value) (ws ds : List Column) (more : List Value) (n : List ℕ) → named (ws ++ ds) (map (λ (c : Column). f c.name) ws ++ more) n ≡ cond (has_column n ws) (f n) (named ds more n)
unfolding named
named-made f [] ds more n = rw (has-none n) refl
named-made f (c ∷ ws) ds more n = elim (cases_Bool (bytes_eq c.name n)) [
  | inl t ↦ rw (has-cons c ws n, t) (ap f ((bytes_eq-Decides c.name n).0 t))
  | inr g ↦ rw (has-cons c ws n, g) (named-made f ws ds more n)
]

-- The columns that have none of these names.

among-not : (names : List (List ℕ)) (c : Column) (n : List ℕ) → bytes_eq c.name n ≡ true → is_name_among names n ≡ false → is_name_among names c.name ≡ false
among-not names c n t h = ap (is_name_among names) ((bytes_eq-Decides c.name n).0 t) ∙ h

pub without-alike : (names : List (List ℕ)) (cs : List Column) (n : List ℕ) → is_name_among names n ≡ false → (has_column n (without names cs) ≡ has_column n cs) × (column_kind n (without names cs) ≡ column_kind n cs)
unfolding without
without-alike names [] n h = (refl, refl)
without-alike names (c ∷ cs) n h = elim (cases_Bool (bytes_eq c.name n)) [
  | inl t ↦
      let stays : is_name_among names c.name ≡ false = among-not names c n t h in
      (rw (stays) (has-cons c (without names cs) n ∙ rw (has-cons c cs n, t) refl), rw (stays) (kind-cons c (without names cs) n ∙ rw (kind-cons c cs n, t) refl))
  | inr f ↦
      let q = without-alike names cs n h in
      elim (cases_Bool (is_name_among names c.name)) [
        | inl gone ↦ (rw gone (rw (has-cons c cs n, f) q.0), rw gone (rw (kind-cons c cs n, f) q.1))
        | inr stays ↦ (rw stays (has-cons c (without names cs) n ∙ rw (has-cons c cs n, f) q.0), rw stays (kind-cons c (without names cs) n ∙ rw (kind-cons c cs n, f) q.1))
      ]
]

-- The columns of items have their names.

any-append : (ms ns : List (List ℕ)) (n : List ℕ) → is_name_among (ms ++ ns) n ≡ cond (is_name_among ms n) true (is_name_among ns n)
unfolding is_name_among
any-append [] ns n = refl
any-append (m ∷ ms) ns n = elim (cases_Bool (bytes_eq m n)) [
  | inl t ↦ rw t refl
  | inr f ↦ rw f (any-append ms ns n)
]

first-not : (b c : Bool) → cond b true c ≡ false → (b ≡ false) × (c ≡ false)
first-not true c e = absurd cc
first-not false c e = (refl, e)

named-not : (ns : List (List ℕ)) (ks : List Kind) (n : List ℕ) → is_name_among ns n ≡ false → has_column n (named_columns ns ks) ≡ false
unfolding named_columns is_name_among
named-not [] ks n h = has-none n
named-not (m ∷ ns) [] n h = has-none n
named-not (m ∷ ns) (k ∷ ks) n h = elim (cases_Bool (bytes_eq m n)) [
  | inl t ↦ let no : true ≡ false = rw t at h in absurd cc
  | inr f ↦ let rest : is_name_among ns n ≡ false = rw f at h in has-cons (record { name = m; kind = k }) (named_columns ns ks) n ∙ rw f (named-not ns ks n rest)
]

pub items-not : (items : List BItem) (cs : List Column) (n : List ℕ) → is_name_among (items_names items) n ≡ false → has_column n (items_columns items cs) ≡ false
unfolding items_columns items_names
items-not [] cs n h = has-none n
items-not (b ∷ bs) cs n h =
    let parts = first-not (is_name_among b.names n) (is_name_among (items_names bs) n) (sym (any-append b.names (items_names bs) n) ∙ h) in
    let one = named-not b.names (result_kinds b.expr cs) n parts.0 in
    has-append (named_columns b.names (result_kinds b.expr cs)) (items_columns bs cs) n ∙ rw one (items-not bs cs n parts.1)
