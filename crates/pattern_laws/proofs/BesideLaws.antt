-- A table with added columns beside another, after `where`, after `extend`, and once the added columns are left out.
use Rattle.std.proofs.Common.{◌≡◌, ◌<◌, ◌+◌, ◌-◌, ℕ, zero, suc, Bool, true, false, not, List, [], ◌∷◌, ◌++◌, length, map, filter, refl, sym, ap, ap₂, ◌∙◌, inl, inr, arith}
use Rattle.std.specs.Prelude.{bytes_eq, cond, Option, None, Some, slice_index_or}
use Rattle.std.specs.List.{range_with_len}
use Rattle.std.proofs.lemmas.Bool.{and_parts, cases_Bool}
use Rattle.std.proofs.lemmas.Slice.Eq.{bytes_eq-Decides}
use Rattle.kql_cells.specs.Seen.{row_at}
use Rattle.kql_cells.specs.Table.{Grid, gathered}
use Rattle.kql_cells.specs.declared.schema.Column.{Column}
use Rattle.kql_cells.specs.declared.value.Kind.{Kind}
use Rattle.kql_cells.specs.declared.value.Kind.TheVariants as kind
use Rattle.kql_cells.specs.declared.value.Value.{Value}
use Rattle.kql_functions.specs.Kinds.{pattern_kind}
use Rattle.kql_bound.specs.declared.expr.BExpr.{BExpr}
use Rattle.kql_bound.specs.declared.expr.BExpr.TheVariants as E
use Rattle.kql_bound.specs.declared.parts.BItem.{BItem}
use Rattle.kql_meaning.specs.Expressions.{column_kind, kind_of, val}
use Rattle.kql_meaning.specs.Extend.{extend_columns, extend_table}
use Rattle.kql_meaning.specs.FittingOperators.{are_distinct}
use Rattle.kql_meaning.specs.Items.{cells_in, items_columns, items_names, items_values, named_columns, without}
use Rattle.kql_meaning.specs.Project.{project_table}
use Rattle.kql_meaning.specs.Results.{typed}
use Rattle.kql_meaning.specs.Tables.{cell, has_column, is_name_among, names_of, places, places_below}
use Rattle.kql_meaning.specs.Values.{holds}
use Rattle.kql_meaning.specs.Where.{where_table}
use Rattle.kql_meaning.proofs.KindLaws.{kind-Column}
use Rattle.kql_meaning.proofs.MemberLaws.{Member, member-of-filter, member-of-range}
use Rattle.kql_meaning.proofs.PlainLaws.{plain-Column}
use Rattle.kql_meaning.proofs.ResultLaws.{result-Column}
use Rattle.kql_meaning.proofs.RowByRowLaws.{cell-alone, results-plain, rows-at-all}
use Rattle.kql_meaning.proofs.ValueLaws.{val-Column}
use Rattle.pattern_lift.specs.declared.calls.PatternCall.{PatternCall}
use Rattle.pattern_lift.specs.Calls.{calls, calls_are_lent, calls_in_items, is_among}
use Rattle.pattern_lift.specs.Derived.{name_of_call}
use Rattle.pattern_lift.specs.Lifted.{kept, lifted, lifted_items}
use Rattle.pattern_lift.specs.Marks.{begins_with}
use Rattle.pattern_laws.specs.Liftable.{is_readable}
use Rattle.pattern_laws.specs.LawsOfExpressions.{HasAnswers, IsBeside}
use Rattle.pattern_laws.specs.Meaning.{Told, answer_to, told_extend, told_val, told_values, told_where}
use Rattle.pattern_laws.proofs.ItemLaws.{AllGood, columns-lifted, names-lifted, val-lifted}
use Rattle.kql_meaning.proofs.NamedCells.{cell-named, has-cons, has-none, kind-append, kind-cons, kind-none, named, named-absent, named-made, without-alike}

-- Lists.

pub length-map : {X Y : Type 0} (f : X → Y) (xs : List X) → length (map f xs) ≡ length xs
length-map f [] = refl
length-map f (x ∷ xs) = ap (λ n. suc n) (length-map f xs)

pub length-append : {X : Type 0} (xs ys : List X) → length (xs ++ ys) ≡ length xs + length ys
length-append [] ys = omega arith
length-append (x ∷ xs) ys = let h = length-append xs ys in omega (arith, h)

pub map-members : {X Y : Type 0} (f g : X → Y) (xs : List X) → ((x : X) → Member x xs → f x ≡ g x) → map f xs ≡ map g xs
map-members f g [] h = refl
map-members f g (x ∷ xs) h = ap₂ (λ y ys. y ∷ ys) (h x (inl refl)) (map-members f g xs (λ y m. h y (inr m)))

filter-members : {X : Type 0} (p q : X → Bool) (xs : List X) → ((x : X) → Member x xs → p x ≡ q x) → filter p xs ≡ filter q xs
filter-members p q [] h = refl
filter-members p q (x ∷ xs) h =
    let here = h x (inl refl) in
    let later = filter-members p q xs (λ y m. h y (inr m)) in
    elim (cases_Bool (q x)) [
      | inl t ↦ rw (here, t) (ap (λ ys. x ∷ ys) later)
      | inr n ↦ rw (here, n) later
    ]

pub index-map : {X Y : Type 0} (f : X → Y) (xs : List X) (k : ℕ) (d : X) (e : Y) → k < length xs → slice_index_or (map f xs) k e ≡ f (slice_index_or xs k d)
index-map f [] k d e lt = absurd (omega arith)
index-map f (x ∷ xs) zero d e lt = refl
index-map f (x ∷ xs) (suc k) d e lt = index-map f xs k d e (omega arith)

index-member : {X : Type 0} (xs : List X) (k : ℕ) (d : X) → k < length xs → Member (slice_index_or xs k d) xs
index-member [] k d lt = absurd (omega arith)
index-member (x ∷ xs) zero d lt = inl refl
index-member (x ∷ xs) (suc k) d lt = inr (index-member xs k d (omega arith))

index-range : (a n k d : ℕ) → k < n → slice_index_or (range_with_len a n) k d ≡ a + k
index-range a zero k d lt = absurd (omega arith)
index-range a (suc n) zero d lt = omega arith
index-range a (suc n) (suc k) d lt = let h = index-range (a + 1) n k d (omega arith) in omega (arith, h)

length-range : (a n : ℕ) → length (range_with_len a n) ≡ n
length-range a zero = refl
length-range a (suc n) = ap (λ m. suc m) (length-range (a + 1) n)

pub place-below : (t : Grid) (i : ℕ) → Member i (places t) → i < length t.lines
unfolding places places_below
place-below t i m = omega (arith, (member-of-range 0 (length t.lines) i m).1)

pub place-at : (t : Grid) (i : ℕ) → i < length t.lines → slice_index_or (places t) i 0 ≡ i
unfolding places places_below
place-at t i lt = let h = index-range 0 (length t.lines) i 0 lt in omega (arith, h)

pub length-places : (t : Grid) → length (places t) ≡ length t.lines
unfolding places places_below
length-places t = length-range 0 (length t.lines)

same-places : (t u : Grid) → length u.lines ≡ length t.lines → places u ≡ places t
unfolding places
same-places t u e = ap places_below e

-- Names.

pub eq-itself : (n : List ℕ) → bytes_eq n n ≡ true
eq-itself n = (bytes_eq-Decides n n).1 refl

eq-turned : (m n : List ℕ) → bytes_eq m n ≡ false → bytes_eq n m ≡ false
eq-turned m n f = elim (cases_Bool (bytes_eq n m)) [
  | inl t ↦ let no : true ≡ false = sym ((bytes_eq-Decides m n).1 (sym ((bytes_eq-Decides n m).0 t))) ∙ f in absurd cc
  | inr g ↦ g
]

pub has-not : (cs : List Column) (n : List ℕ) (d : Column) → has_column n cs ≡ false → Member d cs → bytes_eq n d.name ≡ false
has-not [] n d h m = absurd m
has-not (c ∷ cs) n d h m = elim (cases_Bool (bytes_eq c.name n)) [
  | inl t ↦ let no : true ≡ false = let e = sym (has-cons c cs n) ∙ h in rw t at e in absurd cc
  | inr f ↦
      let rest : has_column n cs ≡ false = let e = sym (has-cons c cs n) ∙ h in rw f at e in
      elim m [
        | inl e ↦ ap (λ (x : Column). bytes_eq n x.name) (sym e) ∙ eq-turned c.name n f
        | inr later ↦ has-not cs n d rest later
      ]
]

pub has-member : (cs : List Column) (d : Column) → Member d cs → has_column d.name cs ≡ true
has-member [] d m = absurd m
has-member (c ∷ cs) d (inl e) = has-cons c cs d.name ∙ rw ((bytes_eq-Decides c.name d.name).1 (ap (λ (x : Column). x.name) e)) refl
has-member (c ∷ cs) d (inr m) = elim (cases_Bool (bytes_eq c.name d.name)) [
  | inl t ↦ has-cons c cs d.name ∙ rw t refl
  | inr f ↦ has-cons c cs d.name ∙ rw f (has-member cs d m)
]

pub some-has : (cs : List Column) (n : List ℕ) (k : Kind) → column_kind n cs ≡ Some k → has_column n cs ≡ true
some-has cs n k e = elim (cases_Bool (has_column n cs)) [
  | inl t ↦ t
  | inr f ↦ let no : None ≡ Some k = sym (named-absent cs [] n f).1 ∙ e in absurd cc
]

has-some : (cs : List Column) (n : List ℕ) → has_column n cs ≡ true → column_kind n cs ≡ None → ⊥
has-some [] n t h = let no : false ≡ true = sym (has-none n) ∙ t in absurd cc
has-some (c ∷ cs) n t h = elim (cases_Bool (bytes_eq c.name n)) [
  | inl s ↦ let no : Some c.kind ≡ None = let q = sym (kind-cons c cs n) ∙ h in rw s at q in absurd cc
  | inr f ↦
      let a : has_column n cs ≡ true = let q = sym (has-cons c cs n) ∙ t in rw f at q in
      let b : column_kind n cs ≡ None = let q = sym (kind-cons c cs n) ∙ h in rw f at q in
      has-some cs n a b
]

has-by : (cs ds : List Column) (n : List ℕ) (o : Option Kind) → column_kind n cs ≡ o → column_kind n ds ≡ o → has_column n cs ≡ true → has_column n ds ≡ true
has-by cs ds n None e f t = absurd (has-some cs n t e)
has-by cs ds n (Some k) e f t = some-has ds n k f

pub kind-has : (cs ds : List Column) (n : List ℕ) → column_kind n ds ≡ column_kind n cs → has_column n ds ≡ has_column n cs
kind-has cs ds n e = elim (cases_Bool (has_column n cs)) [
  | inl t ↦ has-by cs ds n (column_kind n cs) refl e t ∙ sym t
  | inr f ↦ elim (cases_Bool (has_column n ds)) [
    | inl t ↦ let no : true ≡ false = sym (has-by ds cs n (column_kind n cs) e refl t) ∙ f in absurd cc
    | inr g ↦ g ∙ sym f
  ]
]

-- Columns of which no two have one name.

abbrev pub AreApart : List Column → Type 0
AreApart [] = Unit {0}
AreApart (c ∷ cs) = (has_column c.name cs ≡ false) × AreApart cs

pub kind-found : (cs : List Column) (d : Column) → AreApart cs → Member d cs → column_kind d.name cs ≡ Some d.kind
kind-found [] d a m = absurd m
kind-found (c ∷ cs) d a (inl e) = kind-cons c cs d.name ∙ rw ((bytes_eq-Decides c.name d.name).1 (ap (λ (x : Column). x.name) e)) (ap (λ (x : Column). Some x.kind) e)
kind-found (c ∷ cs) d a (inr m) = kind-cons c cs d.name ∙ rw (has-not cs c.name d a.0 m) (kind-found cs d a.1 m)

cells-apart : (cs : List Column) (row : List Value) → length row ≡ length cs → AreApart cs → map (λ (c : Column). named cs row c.name) cs ≡ row
unfolding named
cells-apart [] [] e a = refl
cells-apart [] (v ∷ vs) e a = absurd (omega (arith, e))
cells-apart (c ∷ cs) [] e a = absurd (omega (arith, e))
cells-apart (c ∷ cs) (v ∷ vs) e a =
    ap₂ (λ (x : Value) (xs : List Value). x ∷ xs) (rw (eq-itself c.name) refl)
    (map-members (λ (d : Column). named (c ∷ cs) (v ∷ vs) d.name) (λ (d : Column). named cs vs d.name) cs (λ d m. rw (has-not cs c.name d a.0 m) refl)
    ∙ cells-apart cs vs (omega (arith, e)) a.1)

-- A table of its own: without added columns, and with a cell in each of them.
pub record IsOwn (marks : List ℕ) (t : Grid) : Type 0 where
  pub apart : AreApart t.columns
  pub full : (i : ℕ) → i < length t.lines → length (row_at t.lines i) ≡ length t.columns
  pub unmarked : (n : List ℕ) → has_column n t.columns ≡ true → begins_with marks n ≡ false

pub cell-by-row : (t : Grid) (i : ℕ) (n : List ℕ) → cell t i n ≡ named t.columns (row_at t.lines i) n
cell-by-row t i n = cell-alone t i n ∙ cell-named t.columns (row_at t.lines i) n

-- Once the added columns are left out.

pub kept-columns : (cs whole : List Column) → ((d : Column) → Member d cs → column_kind d.name whole ≡ Some d.kind) → items_columns (kept (names_of cs)) whole ≡ cs
unfolding items_columns kept names_of named_columns typed
kept-columns [] whole h = refl
kept-columns (c ∷ cs) whole h =
    let k : kind_of (E.Column c.name) whole ≡ Some c.kind = kind-Column c.name whole ∙ h c (inl refl) in
    rw (result-Column c.name whole, k) (ap (λ (ds : List Column). c ∷ ds) (kept-columns cs whole (λ d m. h d (inr m))))

kept-values : (cs : List Column) (u : Grid) (i : ℕ) → items_values (kept (names_of cs)) u i ≡ map (λ (d : Column). cell u i d.name) cs
unfolding items_values kept names_of
kept-values [] u i = refl
kept-values (c ∷ cs) u i = rw (results-plain (E.Column c.name) (plain-Column c.name) u i [], val-Column c.name u i []) (ap (λ vs. cell u i c.name ∷ vs) (kept-values cs u i))

kept-row : (marks : List ℕ) (t u : Grid) → IsOwn marks t → IsBeside marks t u → (i : ℕ) → i < length t.lines → items_values (kept (names_of t.columns)) u i ≡ row_at t.lines i
kept-row marks t u own beside i lt =
    kept-values t.columns u i
    ∙ (map-members (λ (d : Column). cell u i d.name) (λ (d : Column). named t.columns (row_at t.lines i) d.name) t.columns (λ d m. beside.cells d.name (own.unmarked d.name (has-member t.columns d m)) i lt ∙ cell-by-row t i d.name)
    ∙ cells-apart t.columns (row_at t.lines i) (own.full i lt) own.apart)

pub kept-is : (marks : List ℕ) (t u : Grid) → IsOwn marks t → IsBeside marks t u → project_table (kept (names_of t.columns)) u ≡ t
unfolding project_table
kept-is marks t u own beside =
    ap₂ (λ (cs : List Column) (ls : List (List Value)). record { columns = cs; lines = ls })
    (kept-columns t.columns u.columns (λ d m. beside.kinds d.name (own.unmarked d.name (has-member t.columns d m)) ∙ kind-found t.columns d own.apart m))
    (ap (map (λ i. items_values (kept (names_of t.columns)) u i)) (same-places t u beside.rows)
    ∙ (map-members (λ i. items_values (kept (names_of t.columns)) u i) (row_at t.lines) (places t) (λ i m. kept-row marks t u own beside i (place-below t i m))
    ∙ rows-at-all t))

-- Rows at places.

abbrev Within : Grid → List ℕ → Type 0
Within t rows = (i : ℕ) → Member i rows → i < length t.lines

gathered-cell : (t : Grid) (rows : List ℕ) (k : ℕ) (n : List ℕ) → k < length rows → cell (gathered t rows) k n ≡ cell t (slice_index_or rows k 0) n
gathered-cell t rows k n lt =
    cell-by-row (gathered t rows) k n ∙ (ap (λ (row : List Value). named t.columns row n) (index-map (row_at t.lines) rows k 0 [] lt) ∙ sym (cell-by-row t (slice_index_or rows k 0) n))

within-at : (t : Grid) (rows : List ℕ) → Within t rows → (k : ℕ) → k < length (gathered t rows).lines → (k < length rows) × (slice_index_or rows k 0 < length t.lines)
within-at t rows w k lt = let e = length-map (row_at t.lines) rows in let l : k < length rows = omega (arith, e, lt) in (l, w (slice_index_or rows k 0) (index-member rows k 0 l))

pub gathered-beside : (marks : List ℕ) (t u : Grid) (rows : List ℕ) → Within t rows → IsBeside marks t u → IsBeside marks (gathered t rows) (gathered u rows)
gathered-beside marks t u rows w beside = record {
  rows = length-map (row_at u.lines) rows ∙ sym (length-map (row_at t.lines) rows);
  kinds = beside.kinds;
  cells = λ n own k lt.
      let b = within-at t rows w k lt in
      gathered-cell u rows k n b.0 ∙ (beside.cells n own (slice_index_or rows k 0) b.1 ∙ sym (gathered-cell t rows k n b.0));
}

pub gathered-answers : (told : Told) (marks : List ℕ) (t u : Grid) (rows : List ℕ) → Within t rows → (c : PatternCall) → HasAnswers told marks t u c → HasAnswers told marks (gathered t rows) (gathered u rows) c
gathered-answers told marks t u rows w c has = record {
  text = has.text;
  type = has.type;
  cells = λ k lt.
      let b = within-at t rows w k lt in
      gathered-cell u rows k (name_of_call marks c) b.0
      ∙ (has.cells (slice_index_or rows k 0) b.1 ∙ ap (λ (v : Value). answer_to told c.func c.pattern v) (sym (gathered-cell t rows k c.column b.0)));
}

pub gathered-own : (marks : List ℕ) (t : Grid) (rows : List ℕ) → Within t rows → IsOwn marks t → IsOwn marks (gathered t rows)
gathered-own marks t rows w own = record {
  apart = own.apart;
  full = λ k lt. let b = within-at t rows w k lt in ap (λ (row : List Value). length row) (index-map (row_at t.lines) rows k 0 [] b.0) ∙ own.full (slice_index_or rows k 0) b.1;
  unmarked = own.unmarked;
}

-- `where`.

abbrev pub told_rows : Told → BExpr → Grid → List ℕ
told_rows told e t = filter (λ i. holds (told_val told e t i [])) (places t)

pub told-within : (told : Told) (e : BExpr) (t : Grid) (i : ℕ) → Member i (told_rows told e t) → i < length t.lines
told-within told e t i m = place-below t i (member-of-filter (λ i. holds (told_val told e t i [])) (places t) i m).0

pub where-lifted : (told : Told) (marks : List ℕ) (lent : List (List ℕ)) (t u : Grid) → IsBeside marks t u → (e : BExpr) → calls_are_lent lent e ≡ true → is_readable marks e ≡ true → ((c : PatternCall) → Member c (calls e) → is_among lent c.column ≡ true → HasAnswers told marks t u c) → where_table (lifted marks e) u ≡ gathered u (told_rows told e t)
unfolding where_table
where-lifted told marks lent t u beside e l r h =
    ap (gathered u)
    (ap (filter (λ i. holds (val (lifted marks e) u i []))) (same-places t u beside.rows)
    ∙ filter-members (λ i. holds (val (lifted marks e) u i [])) (λ i. holds (told_val told e t i [])) (places t) (λ i m. ap holds (val-lifted told marks lent t u beside e l r h i (place-below t i m) [])))

pub where-told : (told : Told) (e : BExpr) (t : Grid) → told_where told e t ≡ gathered t (told_rows told e t)
unfolding told_where
where-told told e t = refl

-- `extend`, over columns and values.

abbrev pub extended : List (List ℕ) → List Column → (ℕ → List Value) → Grid → Grid
extended names added values t = record {
  columns = without names t.columns ++ added;
  lines = map (λ i. cells_in (without names t.columns) t i ++ values i) (places t);
}

pub extended-rows : (names : List (List ℕ)) (added : List Column) (values : ℕ → List Value) (t : Grid) → length (extended names added values t).lines ≡ length t.lines
extended-rows names added values t = length-map (λ i. cells_in (without names t.columns) t i ++ values i) (places t) ∙ length-places t

pub extended-row : (names : List (List ℕ)) (added : List Column) (values : ℕ → List Value) (t : Grid) (i : ℕ) → i < length t.lines → row_at (extended names added values t).lines i ≡ cells_in (without names t.columns) t i ++ values i
extended-row names added values t i lt =
    let e = length-places t in
    index-map (λ j. cells_in (without names t.columns) t j ++ values j) (places t) i 0 [] (omega (arith, e, lt))
    ∙ ap (λ j. cells_in (without names t.columns) t j ++ values j) (place-at t i lt)

extended-cell : (names : List (List ℕ)) (added : List Column) (values : ℕ → List Value) (t : Grid) (i : ℕ) (n : List ℕ) → i < length t.lines → cell (extended names added values t) i n ≡ cond (has_column n (without names t.columns)) (cell t i n) (named added (values i) n)
unfolding cells_in
extended-cell names added values t i n lt =
    cell-by-row (extended names added values t) i n
    ∙ (ap (λ (row : List Value). named (without names t.columns ++ added) row n) (extended-row names added values t i lt)
    ∙ named-made (λ m. cell t i m) (without names t.columns) added (values i) n)

gone : (names : List (List ℕ)) (cs : List Column) (n : List ℕ) → is_name_among names n ≡ true → (has_column n (without names cs) ≡ false) × (column_kind n (without names cs) ≡ None)
unfolding without
gone names [] n h = (has-none n, kind-none n)
gone names (c ∷ cs) n h = elim (cases_Bool (is_name_among names c.name)) [
  | inl t ↦ rw t (gone names cs n h)
  | inr f ↦
      let q = gone names cs n h in
      let other : bytes_eq c.name n ≡ false = apart-name (bytes_eq c.name n) refl f in
      rw f (has-cons c (without names cs) n ∙ rw other q.0, kind-cons c (without names cs) n ∙ rw other q.1)
]
  where
    apart-name : (b : Bool) → bytes_eq c.name n ≡ b → is_name_among names c.name ≡ false → bytes_eq c.name n ≡ false
    apart-name true e f = let no : true ≡ false = sym h ∙ (ap (is_name_among names) (sym ((bytes_eq-Decides c.name n).0 e)) ∙ f) in absurd cc
    apart-name false e f = e

cond-alike : {X : Type 0} (a b : Bool) (x y p q : X) → a ≡ b → x ≡ y → p ≡ q → cond a x p ≡ cond b y q
cond-alike a b x y p q e f g = rw (e, f, g) refl

-- Two tables alike in the columns of a name, after the same is set in both.
set-alike : (names : List (List ℕ)) (t u : Grid) (n : List ℕ) → column_kind n u.columns ≡ column_kind n t.columns → (has_column n (without names u.columns) ≡ has_column n (without names t.columns)) × (column_kind n (without names u.columns) ≡ column_kind n (without names t.columns))
set-alike names t u n e = elim (cases_Bool (is_name_among names n)) [
  | inl s ↦ let a = gone names u.columns n s in let b = gone names t.columns n s in (a.0 ∙ sym b.0, a.1 ∙ sym b.1)
  | inr f ↦
      let a = without-alike names u.columns n f in
      let b = without-alike names t.columns n f in
      (a.0 ∙ (kind-has t.columns u.columns n e ∙ sym b.0), a.1 ∙ (e ∙ sym b.1))
]

pub extended-beside : (marks : List ℕ) (names : List (List ℕ)) (added : List Column) (v w : ℕ → List Value) (t u : Grid) → IsBeside marks t u → ((i : ℕ) → i < length t.lines → w i ≡ v i) → IsBeside marks (extended names added v t) (extended names added w u)
extended-beside marks names added v w t u beside same = record {
  rows = extended-rows names added w u ∙ (beside.rows ∙ sym (extended-rows names added v t));
  kinds = λ n own.
      let a = set-alike names t u n (beside.kinds n own) in
      kind-append (without names u.columns) added n
      ∙ (cond-alike (has_column n (without names u.columns)) (has_column n (without names t.columns)) (column_kind n (without names u.columns)) (column_kind n (without names t.columns)) (column_kind n added) (column_kind n added) a.0 a.1 refl
      ∙ sym (kind-append (without names t.columns) added n));
  cells = λ n own i less.
      let e = extended-rows names added v t in
      let lt : i < length t.lines = omega (arith, e, less) in
      let f = beside.rows in
      let a = set-alike names t u n (beside.kinds n own) in
      extended-cell names added w u i n (omega (arith, f, lt))
      ∙ (cond-alike (has_column n (without names u.columns)) (has_column n (without names t.columns)) (cell u i n) (cell t i n) (named added (w i) n) (named added (v i) n) a.0 (beside.cells n own i lt) (ap (λ (vs : List Value). named added vs n) (same i lt))
      ∙ sym (extended-cell names added v t i n lt));
}

-- A column that is not set stays.
stays-cell : (names : List (List ℕ)) (added : List Column) (v : ℕ → List Value) (t : Grid) (n : List ℕ) (k : Kind) → is_name_among names n ≡ false → column_kind n t.columns ≡ Some k → (i : ℕ) → i < length t.lines → cell (extended names added v t) i n ≡ cell t i n
stays-cell names added v t n k f e i lt =
    let has : has_column n (without names t.columns) ≡ true = (without-alike names t.columns n f).0 ∙ some-has t.columns n k e in
    extended-cell names added v t i n lt ∙ rw has refl

stays-kind : (names : List (List ℕ)) (added : List Column) (cs : List Column) (n : List ℕ) (k : Kind) → is_name_among names n ≡ false → column_kind n cs ≡ Some k → column_kind n (without names cs ++ added) ≡ Some k
stays-kind names added cs n k f e =
    let a = without-alike names cs n f in
    let has : has_column n (without names cs) ≡ true = a.0 ∙ some-has cs n k e in
    kind-append (without names cs) added n ∙ rw has (a.1 ∙ e)

pub extended-answers : (told : Told) (marks : List ℕ) (names : List (List ℕ)) (added : List Column) (v w : ℕ → List Value) (t u : Grid) → length u.lines ≡ length t.lines → (c : PatternCall) → is_name_among names c.column ≡ false → is_name_among names (name_of_call marks c) ≡ false → HasAnswers told marks t u c → HasAnswers told marks (extended names added v t) (extended names added w u) c
extended-answers told marks names added v w t u rows c one two has = record {
  text = stays-kind names added t.columns c.column kind.Text one has.text;
  type = stays-kind names added u.columns (name_of_call marks c) (pattern_kind c.func.group) two has.type;
  cells = λ i less.
      let e = extended-rows names added v t in
      let lt : i < length t.lines = omega (arith, e, less) in
      stays-cell names added w u (name_of_call marks c) (pattern_kind c.func.group) two has.type i (omega (arith, rows, lt))
      ∙ (has.cells i lt ∙ ap (λ (x : Value). answer_to told c.func c.pattern x) (sym (stays-cell names added v t c.column kind.Text one has.text i lt)));
}

-- `extend` is that.

pub extend-lifted : (told : Told) (marks : List ℕ) (lent : List (List ℕ)) (t u : Grid) → IsBeside marks t u → (items : List BItem) → AllGood marks lent items → ((c : PatternCall) → Member c (calls_in_items items) → is_among lent c.column ≡ true → HasAnswers told marks t u c) → extend_table (lifted_items marks items) u ≡ extended (items_names items) (items_columns items t.columns) (items_values (lifted_items marks items) u) u
unfolding extend_table extend_columns
extend-lifted told marks lent t u beside items g h = rw (names-lifted marks items, columns-lifted told marks lent t u beside items g h) refl

pub extend-told : (told : Told) (items : List BItem) (t : Grid) → told_extend told items t ≡ extended (items_names items) (items_columns items t.columns) (told_values told items t) t
unfolding told_extend extend_columns
extend-told told items t = refl

-- What is set is apart.

turned-not : (b : Bool) → not b ≡ true → b ≡ false
turned-not true h = sym h
turned-not false h = refl

not-has : (n : List ℕ) (ds : List Column) → not (is_name_among (names_of ds) n) ≡ true → has_column n ds ≡ false
unfolding has_column
not-has n ds q = turned-not (is_name_among (names_of ds) n) q

pub distinct-apart : (cs : List Column) → are_distinct (names_of cs) ≡ true → AreApart cs
unfolding are_distinct names_of
distinct-apart [] h = tt
distinct-apart (c ∷ cs) h = let p = and_parts (not (is_name_among (names_of cs) c.name)) (are_distinct (names_of cs)) h in (not-has c.name cs p.0, distinct-apart cs p.1)
