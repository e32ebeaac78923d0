-- The columns of operators, step by step along the loops that make them.
use Rattle.std.proofs.Common.{◌≡◌, ◌<◌, ◌+◌, ◌-◌, ℕ, zero, suc, Bool, true, false, List, [], ◌∷◌, ◌++◌, map, length, filter, refl, sym, ap, ◌∙◌, arith, inl, inr, rules}
use Rattle.std.specs.Prelude.{not, ◌&&◌, ◌||◌, bytes_eq, decimal, find, unwrap_or}
use Rattle.std.specs.List.{flat_map, range_with_len}
use Rattle.std.proofs.lemmas.Bool.{cases_Bool}
use Rattle.std.proofs.lemmas.List.{append_assoc, map-append}
use Rattle.std.proofs.lemmas.Slice.Eq.{bytes_eq-Decides}
use Rattle.kql_cells.specs.declared.schema.Column.{Column}
use Rattle.kql_meaning.specs.Join.{first_free, free_name, numbered_names, renamed}
use Rattle.kql_meaning.specs.Tables.{distinct_by, has_column, is_name_among, names_of}
use Rattle.kql_meaning.specs.Union.{all_in_order, same_name}

-- The first free name from a number on, of so many.

abbrev pub free_from : List (List ℕ) → List ℕ → ℕ → ℕ → List ℕ
free_from taken name number left = unwrap_or (find (λ n. not (is_name_among taken n)) (map (λ k. name ++ decimal k) (range_with_len number left))) name

length-names : (columns : List Column) → length (names_of columns) ≡ length columns
unfolding names_of
length-names [] = refl
length-names (c ∷ cs) = ap suc (length-names cs)

pub free-start : (taken : List Column) (name : List ℕ) (left : ℕ) → left ≡ length taken + 1 → free_from (names_of taken) name 1 left ≡ first_free (names_of taken) name
unfolding first_free numbered_names
free-start taken name left e =
    let same : left ≡ suc (length (names_of taken)) = omega (arith, e, length-names taken) in
    rw same refl

pub free-end : (taken : List (List ℕ)) (name : List ℕ) (number left : ℕ) → left ≡ 0 → free_from taken name number left ≡ name
free-end taken name number left e = rw e refl

among-has : (n : List ℕ) (taken : List Column) → has_column n taken ≡ is_name_among (names_of taken) n
unfolding has_column
among-has n taken = refl

pub free-here : (taken : List Column) (name : List ℕ) (number left : ℕ) (n : List ℕ) → 0 < left → n ≡ name ++ decimal number → has_column n taken ≡ false → free_from (names_of taken) name number left ≡ n
free-here taken name number zero n lt e f = absurd (omega arith)
free-here taken name number (suc left) n lt e f =
    let free : is_name_among (names_of taken) (name ++ decimal number) ≡ false = rw (← e) (sym (among-has n taken) ∙ f) in
    rw (e, free) refl

pub free-next : (taken : List Column) (name : List ℕ) (number left : ℕ) (n : List ℕ) → 0 < left → n ≡ name ++ decimal number → has_column n taken ≡ true → free_from (names_of taken) name (number + 1) (left - 1) ≡ free_from (names_of taken) name number left
free-next taken name number zero n lt e t = absurd (omega arith)
free-next taken name number (suc left) n lt e t =
    let known : is_name_among (names_of taken) (name ++ decimal number) ≡ true = rw (← e) (sym (among-has n taken) ∙ t) in
    let less : suc left - 1 ≡ left = omega arith in
    rw (known, less) refl

pub ruleset free_steps = (free-start, free-end, free-here, free-next)

-- Right columns, renamed one after another.

-- Columns, and then right ones that are not yet renamed.
unfoldable pub and_renamed : List Column → List Column → List Column
and_renamed made columns = made ++ renamed (names_of made) columns

pub renamed-start : (made columns : List Column) → and_renamed made columns ≡ made ++ renamed (names_of made) columns
unfolding and_renamed
renamed-start made columns = refl

pub renamed-end : (made : List Column) → and_renamed made [] ≡ made
unfolding and_renamed renamed
renamed-end made = search rules

pub renamed-more : (made : List Column) (c : Column) (cs : List Column) → and_renamed made (c ∷ cs) ≡ and_renamed (made ++ record { name = free_name (names_of made) c.name; kind = c.kind } ∷ []) cs
unfolding and_renamed renamed names_of
renamed-more made c cs =
    let d : Column = record { name = free_name (names_of made) c.name; kind = c.kind } in
    rw (map-append (λ (x : Column). x.name) made (d ∷ []), append_assoc made (d ∷ []) (renamed (names_of made ++ free_name (names_of made) c.name ∷ []) cs)) refl

pub renamed-stop : (made : List Column) (rest : List Column) (all : List Column) → length rest ≡ 0 → and_renamed made rest ≡ all → made ≡ all
renamed-stop made [] all e h = sym (renamed-end made) ∙ h
renamed-stop made (c ∷ cs) all e h = absurd (omega (arith, e))

pub ruleset renamed_steps = (renamed-start, renamed-end, renamed-more)

-- The columns of tables, one table after another.
unfoldable pub and_tables : List Column → List (List Column) → List Column
and_tables made tables = made ++ all_in_order tables

pub tables-start : (tables : List (List Column)) → and_tables [] tables ≡ all_in_order tables
unfolding and_tables
tables-start tables = refl

pub tables-end : (made : List Column) → and_tables made [] ≡ made
unfolding and_tables all_in_order
tables-end made = search rules

pub tables-more : (made t : List Column) (ts : List (List Column)) → and_tables made (t ∷ ts) ≡ and_tables (made ++ t) ts
unfolding and_tables all_in_order
tables-more made t ts = sym (append_assoc made t (flat_map (λ (columns : List Column). columns) ts))

pub tables-stop : (made : List Column) (rest : List (List Column)) (all : List Column) → length rest ≡ 0 → and_tables made rest ≡ all → made ≡ all
tables-stop made [] all e h = sym (tables-end made) ∙ h
tables-stop made (c ∷ cs) all e h = absurd (omega (arith, e))

pub ruleset tables_steps = (tables-start, tables-end, tables-more)

-- The first column of each name.

-- The columns whose names these do not have.
abbrev pub unseen : List Column → List Column → List Column
unseen made columns = filter (λ c. not (has_column c.name made)) columns

filter-both : {X : Type 0} (p q r : X → Bool) → ((y : X) → (q y && p y) ≡ r y) → (xs : List X) → filter p (filter q xs) ≡ filter r xs
filter-both p q r h [] = refl
filter-both p q r h (x ∷ xs) =
    let rest = filter-both p q r h xs in
    let here = h x in
    elim (cases_Bool (q x)) [
      | inl t ↦ elim (cases_Bool (p x)) [
        | inl u ↦ let s : r x ≡ true = sym here ∙ rw (t, u) refl in rw (t, u, s, rest) refl
        | inr u ↦ let s : r x ≡ false = sym here ∙ rw (t, u) refl in rw (t, u, s, rest) refl
      ]
      | inr f ↦ let s : r x ≡ false = sym here ∙ rw f refl in rw (f, s, rest) refl
    ]

has-more : (made : List Column) (c : Column) (n : List ℕ) → has_column n (made ++ c ∷ []) ≡ (has_column n made || bytes_eq c.name n)
unfolding has_column is_name_among names_of
has-more [] c n = elim (cases_Bool (bytes_eq c.name n)) [
  | inl t ↦ rw t refl
  | inr f ↦ rw f refl
]
has-more (m ∷ ms) c n = rw (has-more ms c n) (elim (cases_Bool (bytes_eq m.name n)) [
  | inl t ↦ rw t refl
  | inr f ↦ rw f refl
])

pub unseen-start : (columns : List Column) → unseen [] columns ≡ columns
unfolding has_column is_name_among names_of
unseen-start [] = refl
unseen-start (c ∷ cs) = ap (λ (rest : List Column). c ∷ rest) (unseen-start cs)

seen-same : (made : List Column) (c y : Column) → has_column c.name made ≡ true → (not (same_name c y) && not (has_column y.name made)) ≡ not (has_column y.name made)
unfolding same_name
seen-same made c y t = elim (cases_Bool (bytes_eq c.name y.name)) [
  | inl s ↦ let e = (bytes_eq-Decides c.name y.name).0 s in let h : has_column y.name made ≡ true = rw (← e) t in rw (s, h) refl
  | inr f ↦ rw f refl
]

pub distinct-seen : (made : List Column) (c : Column) (cs : List Column) → has_column c.name made ≡ true → unseen made (distinct_by same_name (c ∷ cs)) ≡ unseen made (distinct_by same_name cs)
unfolding distinct_by
distinct-seen made c cs t =
    rw t (filter-both (λ y. not (has_column y.name made)) (λ y. not (same_name c y)) (λ y. not (has_column y.name made)) (λ y. seen-same made c y t) (distinct_by same_name cs))

unseen-same : (made : List Column) (c y : Column) → (not (same_name c y) && not (has_column y.name made)) ≡ not (has_column y.name (made ++ c ∷ []))
unfolding same_name
unseen-same made c y = rw (has-more made c y.name) (elim (cases_Bool (bytes_eq c.name y.name)) [
  | inl s ↦ elim (cases_Bool (has_column y.name made)) [
    | inl t ↦ rw (s, t) refl
    | inr f ↦ rw (s, f) refl
  ]
  | inr g ↦ elim (cases_Bool (has_column y.name made)) [
    | inl t ↦ rw (g, t) refl
    | inr f ↦ rw (g, f) refl
  ]
])

pub distinct-new : (made : List Column) (c : Column) (cs : List Column) → has_column c.name made ≡ false → made ++ unseen made (distinct_by same_name (c ∷ cs)) ≡ (made ++ c ∷ []) ++ unseen (made ++ c ∷ []) (distinct_by same_name cs)
unfolding distinct_by
distinct-new made c cs f =
    let rest = filter-both (λ y. not (has_column y.name made)) (λ y. not (same_name c y)) (λ y. not (has_column y.name (made ++ c ∷ []))) (λ y. unseen-same made c y) (distinct_by same_name cs) in
    rw (f, rest, append_assoc made (c ∷ []) (unseen (made ++ c ∷ []) (distinct_by same_name cs))) refl

-- Columns, and then the first of each other name in those that are left.
unfoldable pub and_distinct : List Column → List Column → List Column
and_distinct made columns = made ++ unseen made (distinct_by same_name columns)

pub distinct-start : (columns : List Column) → and_distinct [] columns ≡ distinct_by same_name columns
unfolding and_distinct
distinct-start columns = unseen-start (distinct_by same_name columns)

pub distinct-end : (made : List Column) → and_distinct made [] ≡ made
unfolding and_distinct distinct_by
distinct-end made = search rules

pub distinct-known : (made : List Column) (c : Column) (cs : List Column) → has_column c.name made ≡ true → and_distinct made (c ∷ cs) ≡ and_distinct made cs
unfolding and_distinct
distinct-known made c cs t = ap (λ more. made ++ more) (distinct-seen made c cs t)

pub distinct-more : (made : List Column) (c : Column) (cs : List Column) → has_column c.name made ≡ false → and_distinct made (c ∷ cs) ≡ and_distinct (made ++ c ∷ []) cs
unfolding and_distinct
distinct-more made c cs f = distinct-new made c cs f

pub distinct-stop : (made : List Column) (rest : List Column) (all : List Column) → length rest ≡ 0 → and_distinct made rest ≡ all → made ≡ all
distinct-stop made [] all e h = sym (distinct-end made) ∙ h
distinct-stop made (c ∷ cs) all e h = absurd (omega (arith, e))

pub ruleset distinct_steps = (distinct-start, distinct-end, distinct-known, distinct-more)
