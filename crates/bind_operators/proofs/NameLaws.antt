-- Where no part is told for a name that stands already, no two columns of the answer have one name.
use Rattle.std.proofs.Common.{◌≡◌, ◌≢◌, ◌<◌, ◌+◌, ℕ, suc, get_or, Bool, true, false, List, [], ◌∷◌, ◌++◌, filter, length, map, refl, sym, ap, ◌∙◌, arith, inl, inr, subst}
use Rattle.std.specs.Prelude.{AllPairs, IfOk, not, ◌||◌, bytes_eq, fold, Ok, Err}
use Rattle.std.specs.List.{list_any}
use Rattle.std.proofs.lemmas.Bool.{and_parts}
use Rattle.std.proofs.lemmas.List.{length-append}
use Rattle.std.proofs.lemmas.List.Kept.{AllPairs-filter}
use Rattle.std.proofs.lemmas.Slice.Eq.{bytes_eq-Decides}
use Rattle.kql_cells.specs.Named.{HasDistinctNames, column_name}
use Rattle.kql_cells.specs.declared.schema.Column.{Column}
use Rattle.kql_cells.specs.declared.value.Kind.{Kind}
use Rattle.kql_lexer.specs.declared.place.Place.{Place}
use Rattle.kql_bound.specs.declared.expr.BExpr.{BExpr}
use Rattle.kql_bound.specs.declared.expr.BExpr.TheVariants as V
use Rattle.kql_bound.specs.declared.literal.Lit.{Lit}
use Rattle.kql_bound.specs.declared.parts.BItem.{BItem}
use Rattle.kql_meaning.specs.Extend.{extend_columns}
use Rattle.kql_meaning.specs.FittingOperators.{are_distinct}
use Rattle.kql_meaning.specs.Items.{items_columns, items_names, named_columns, without}
use Rattle.kql_meaning.specs.Results.{result_kinds}
use Rattle.kql_meaning.specs.Sources.{range_columns}
use Rattle.kql_meaning.specs.Tables.{is_name_among}
use Rattle.kql_meaning.specs.TakeAndCount.{count_columns}
use Rattle.kql_meaning.proofs.FirstLaws.{any-at}
use Rattle.kql_meaning.proofs.MemberLaws.{Member, Pairwise, contains-member, every-of-members, member-of-filter, member-of-map, member-either, member-left, member-right, of-member, pairs-of, pairwise-append, pairwise-filter}
use Rattle.kql_syntax.specs.declared.query.Item.{Item}
use Rattle.bind_expr.specs.Outcome.{Answers, Outcome}
use Rattle.bind_expr.specs.declared.fault.BindFault.{BindFault}
use Rattle.bind_expr.specs.declared.scope.Scope.{Scope}
use Rattle.bind_expr.specs.declared.typed.Typed.{Typed}
use Rattle.bind_operators.specs.declared.items.NamedItems.{NamedItems}
use Rattle.bind_operators.specs.Faults.{fault_if}
use Rattle.bind_operators.specs.Items.{clash, column_as, column_item, given_name, item_in, items_bound, items_from, names_of_items, names_or_own, no_items, number_behind, twice, twice_items, with_item, with_names}
use Rattle.bind_operators.specs.Places.{item_start}
use Rattle.bind_operators.specs.Project.{columns_in}
use Rattle.bind_operators.proofs.AnswerSteps.{stepped}

abbrev pub different : Column → Column → Type 0
different c d = c.name ≢ d.name

abbrev pub apart : List ℕ → List ℕ → Type 0
apart m n = m ≢ n

pub first-none : (b : Bool) (code : ℕ) (place : Place) (more : List BindFault) → fault_if b code place ++ more ≡ [] → (b ≡ false) × (more ≡ [])
unfolding fault_if
first-none true code place more e = cc
first-none false code place more e = (refl, e)

pub true-and-false : (b : Bool) → b ≡ true → b ≡ false → ⊥
true-and-false true e f = cc
true-and-false false e f = cc

not-true : (b : Bool) → not b ≡ true → b ≡ false
not-true true e = cc
not-true false e = refl

pub neither : (a b : Bool) → a || b ≡ false → (a ≡ false) × (b ≡ false)
neither true b e = cc
neither false true e = cc
neither false false e = (refl, refl)

not-false : (b : Bool) → not b ≡ false → b ≡ true
not-false true e = refl
not-false false e = cc

pub among : (names : List (List ℕ)) (n : List ℕ) → Member n names → is_name_among names n ≡ true
unfolding is_name_among
among names n m = any-at (λ k. bytes_eq k n) names n m ((bytes_eq-Decides n n).1 refl)

none-before : (before names : List (List ℕ)) → clash before names ≡ false → (n : List ℕ) → Member n names → Member n before → ⊥
unfolding clash
none-before before names e n here there =
    true-and-false (list_any (is_name_among before) names)
    (any-at (is_name_among before) names n here (among before n there))
    (neither (list_any (is_name_among before) names) (not (are_distinct names)) e).0

once : (names : List (List ℕ)) → are_distinct names ≡ true → Pairwise apart names
unfolding are_distinct
once [] e = tt
once (n ∷ ns) e =
    let parts = and_parts (not (is_name_among ns n)) (are_distinct ns) e in (
      every-of-members (apart n) ns (λ m at same. true-and-false (is_name_among ns n) (among ns n (subst (λ k. Member k ns) (sym same) at)) (not-true (is_name_among ns n) parts.0)),
      once ns parts.1,
    )

once-of-clash : (before names : List (List ℕ)) → clash before names ≡ false → Pairwise apart names
unfolding clash
once-of-clash before names e = once names (not-false (are_distinct names) (neither (list_any (is_name_among before) names) (not (are_distinct names)) e).1)

-- Columns under their names.

pub named-member : (ns : List (List ℕ)) (ks : List Kind) (c : Column) → Member c (named_columns ns ks) → Member c.name ns
unfolding named_columns
named-member [] ks c m = absurd m
named-member (n ∷ ns) [] c m = absurd m
named-member (n ∷ ns) (k ∷ ks) c (inl e) = inl (ap (λ (d : Column). d.name) e)
named-member (n ∷ ns) (k ∷ ks) c (inr m) = inr (named-member ns ks c m)

pub named-differ : (ns : List (List ℕ)) (ks : List Kind) → Pairwise apart ns → Pairwise different (named_columns ns ks)
unfolding named_columns
named-differ [] ks h = tt
named-differ (n ∷ ns) [] h = tt
named-differ (n ∷ ns) (k ∷ ks) h = (
  every-of-members (different (record { name = n; kind = k })) (named_columns ns ks) (λ d m. of-member (apart n) ns d.name h.0 (named-member ns ks d m)),
  named-differ ns ks h.1,
)

-- The columns of items: no two have one name, and none a name that stood before.
items-once : (before : List (List ℕ)) (places : List Place) (items : List BItem) (columns : List Column) → length places ≡ length items → twice before places (names_of_items items) ≡ [] → Pairwise different (items_columns items columns) × ((c : Column) → Member c (items_columns items columns) → Member c.name before → ⊥)
unfolding twice items_columns
items-once before [] [] columns l e = (tt, λ c m b. m)
items-once before [] (b ∷ bs) columns l e = absurd (omega (arith, l))
items-once before (p ∷ ps) [] columns l e = absurd (omega (arith, l))
items-once before (p ∷ ps) (b ∷ bs) columns l e =
    let parts = first-none (clash before b.names) 411 p (twice (before ++ b.names) ps (names_of_items bs)) e in
    let rest = items-once (before ++ b.names) ps bs columns (omega (arith, l)) parts.1 in
    let mine : List Column = named_columns b.names (result_kinds b.expr columns) in
    let here : Pairwise different mine = named-differ b.names (result_kinds b.expr columns) (once-of-clash before b.names parts.0) in (
      pairwise-append different mine (items_columns bs columns) here rest.0 (λ c d m n same. rest.1 d n (member-right before b.names d.name (subst (λ k. Member k b.names) same (named-member b.names (result_kinds b.expr columns) c m)))),
      λ c m there. elim (member-either mine (items_columns bs columns) c m) [
        | inl q ↦ none-before before b.names parts.0 c.name (named-member b.names (result_kinds b.expr columns) c q) there
        | inr q ↦ rest.1 c q (member-left before b.names c.name there)
      ],
    )

items-named : (items : List BItem) (columns : List Column) (c : Column) → Member c (items_columns items columns) → Member c.name (items_names items)
unfolding items_columns items_names
items-named [] columns c m = absurd m
items-named (b ∷ bs) columns c m = elim (member-either (named_columns b.names (result_kinds b.expr columns)) (items_columns bs columns) c m) [
  | inl q ↦ member-left b.names (items_names bs) c.name (named-member b.names (result_kinds b.expr columns) c q)
  | inr q ↦ member-right b.names (items_names bs) c.name (items-named bs columns c q)
]

-- What is projected, and what is extended.

pub projected-differ : (places : List Place) (items : List BItem) (columns : List Column) → length places ≡ length items → twice [] places (names_of_items items) ≡ [] → HasDistinctNames column_name (items_columns items columns)
projected-differ places items columns l e = pairs-of different (items_columns items columns) (items-once [] places items columns l e).0

pub extended-differ : (places : List Place) (items : List BItem) (columns : List Column) → Pairwise different columns → length places ≡ length items → twice [] places (names_of_items items) ≡ [] → HasDistinctNames column_name (extend_columns items columns)
unfolding extend_columns without
extended-differ places items columns h l e =
    pairs-of different (filter (λ (c : Column). not (is_name_among (items_names items) c.name)) columns ++ items_columns items columns)
    (pairwise-append different (filter (λ (c : Column). not (is_name_among (items_names items) c.name)) columns) (items_columns items columns)
    (pairwise-filter different (λ (c : Column). not (is_name_among (items_names items) c.name)) columns h)
    (items-once [] places items columns l e).0
    (λ c d m n same. true-and-false (is_name_among (items_names items) c.name)
    (among (items_names items) c.name (subst (λ k. Member k (items_names items)) (sym same) (items-named items columns d n)))
    (not-true (is_name_among (items_names items) c.name) (member-of-filter (λ (c : Column). not (is_name_among (items_names items) c.name)) columns c m).1)))

-- The same of columns whose names differ as a schema has it.
first-of : {X : Type 0} (R : X → X → Type 0) (x : X) (xs : List X) → AllPairs R (x ∷ xs) → (k : ℕ) (y : X) → k < length xs → get_or xs k y ≡ y → R x y
first-of R x xs h k y lt e = subst (R x) e (h 0 (suc k) y (omega arith) (omega arith))

pub pairwise-of : {X : Type 0} (R : X → X → Type 0) (xs : List X) → AllPairs R xs → Pairwise R xs
pairwise-of R [] h = tt
pairwise-of R (x ∷ xs) h =
    (every-of-members (R x) xs (λ y m. let c = contains-member xs y m in first-of R x xs h c.0 y c.1 c.2), pairwise-of R xs (λ i j d lt in_range. h (suc i) (suc j) d (omega arith) (omega arith)))

pub projected-once : (done : NamedItems) (columns : List Column) → length done.places ≡ length done.items → twice_items done ≡ [] → HasDistinctNames column_name (items_columns done.items columns)
unfolding twice_items
projected-once done columns l e = projected-differ done.places done.items columns l e

pub extended-once : (done : NamedItems) (columns made : List Column) → HasDistinctNames column_name columns → length done.places ≡ length done.items → twice_items done ≡ [] → made ≡ extend_columns done.items columns → HasDistinctNames column_name made
unfolding twice_items
extended-once done columns made h l e is = rw is (extended-differ done.places done.items columns (pairwise-of different columns h) l e)

-- Each item has its place.
abbrev pub is_even : NamedItems → Type 0
is_even d = length d.places ≡ length d.items

one-more : {X Y : Type 0} (xs : List X) (x : X) (ys : List Y) (y : Y) → length xs ≡ length ys → length (xs ++ x ∷ []) ≡ length (ys ++ y ∷ [])
one-more xs x ys y e = length-append xs (x ∷ []) ∙ (ap (λ n. n + 1) e ∙ sym (length-append ys (y ∷ [])))

abbrev pub keeps_even : (NamedItems → Item → Typed → NamedItems) → Type 0
keeps_even step = (d : NamedItems) (item : Item) (t : Typed) → is_even d → is_even (step d item t)

link-even : (step : NamedItems → Item → Typed → NamedItems) → keeps_even step → (before : Outcome NamedItems) (item : Item) (next : Outcome Typed) → IfOk before is_even → IfOk (stepped step before item next) is_even
link-even step keeps (Ok d) item (Ok t) h = keeps d item t h
link-even step keeps (Ok d) item (Err f) h = tt
link-even step keeps (Err f) item next h = tt

pub steps-even : (step : NamedItems → Item → Typed → NamedItems) → keeps_even step → (bind : Item → Outcome Typed) (items : List Item) (start : Outcome NamedItems) → IfOk start is_even → IfOk (fold (λ before item. stepped step before item (bind item)) start items) is_even
steps-even step keeps bind [] start h = h
steps-even step keeps bind (item ∷ items) start h = steps-even step keeps bind items (stepped step start item (bind item)) (link-even step keeps start item (bind item) h)

pub names-even : (d : NamedItems) (place : Place) (names : List (List ℕ)) (e : BExpr) (n : ℕ) → is_even d → is_even (with_names d place names e n)
names-even d place names e n h = one-more d.places place d.items (record { names = names; expr = e }) h

pub of-ok : (o : Outcome NamedItems) (d : NamedItems) → o ≡ Ok d → IfOk o is_even → is_even d
of-ok o d is h = rw is at h

pub from-even : (bind : Item → Outcome Typed) (n : ℕ) (items : List Item) (r : Outcome NamedItems) (done : NamedItems) → r ≡ Ok done → Answers r (items_from bind n items) → length done.places ≡ length done.items
unfolding items_from no_items with_item
from-even bind n items r done is a =
    let there : Answers (Ok done) (items_from bind n items) = subst (λ s. Answers s (items_from bind n items)) is a in
    of-ok (items_from bind n items) done (there.holds)
    (steps-even with_item (λ d item t h. names-even d (item_start item) (names_or_own d.next (given_name item) t.expr) t.expr (number_behind d.next (given_name item) t.expr) h) bind items (Ok (no_items n)) refl)

pub items-even : (scope : Scope) (items : List Item) (r : Outcome NamedItems) (done : NamedItems) → r ≡ Ok done → Answers r (items_bound scope items) → length done.places ≡ length done.items
unfolding items_bound
items-even scope items r done is a = from-even (item_in scope) 1 items r done is a

-- Columns that are chosen keep their names.
chosen-named : (cs columns : List Column) (c : Column) → Member c (items_columns (map column_item cs) columns) → Member c.name (map (λ (d : Column). d.name) cs)
unfolding items_columns column_as
chosen-named [] columns c m = absurd m
chosen-named (d ∷ ds) columns c m = elim (member-either (named_columns (d.name ∷ []) (result_kinds (V.Column d.name) columns)) (items_columns (map column_item ds) columns) c m) [
  | inl q ↦ elim (named-member (d.name ∷ []) (result_kinds (V.Column d.name) columns) c q) [ inl e ↦ inl e | inr r ↦ absurd r ]
  | inr q ↦ inr (chosen-named ds columns c q)
]

chosen-differ : (cs columns : List Column) → Pairwise different cs → Pairwise different (items_columns (map column_item cs) columns)
unfolding items_columns column_as
chosen-differ [] columns h = tt
chosen-differ (d ∷ ds) columns h =
    let mine : List Column = named_columns (d.name ∷ []) (result_kinds (V.Column d.name) columns) in
    pairwise-append different mine (items_columns (map column_item ds) columns) (named-differ (d.name ∷ []) (result_kinds (V.Column d.name) columns) (tt, tt)) (chosen-differ ds columns h.1)
    (λ x y m n same. elim (named-member (d.name ∷ []) (result_kinds (V.Column d.name) columns) x m) [
      | inl e ↦ let q = member-of-map (λ (z : Column). z.name) ds y.name (chosen-named ds columns y n) in of-member (different d) ds q.0 h.0 q.1 (e ∙ (same ∙ sym q.2))
      | inr r ↦ absurd r
    ])

pub chosen-once : (cs columns : List Column) (items : List BItem) → HasDistinctNames column_name cs → items ≡ map column_item cs → HasDistinctNames column_name (items_columns items columns)
chosen-once cs columns items h same = rw same (pairs-of different (items_columns (map column_item cs) columns) (chosen-differ cs columns (pairwise-of different cs h)))

pub made-once : (items : List BItem) (columns made : List Column) → made ≡ items_columns items columns → HasDistinctNames column_name (items_columns items columns) → HasDistinctNames column_name made
made-once items columns made is h = rw is h

pub without-once : (names : List (List ℕ)) (columns made : List Column) → HasDistinctNames column_name columns → made ≡ without names columns → HasDistinctNames column_name made
unfolding without
without-once names columns made h is = rw is (AllPairs-filter different (λ (c : Column). not (is_name_among names c.name)) columns h)

pub kept-once : (names : List (List ℕ)) (columns made : List Column) → HasDistinctNames column_name columns → made ≡ columns_in names columns → HasDistinctNames column_name made
unfolding columns_in
kept-once names columns made h is = rw is (AllPairs-filter different (λ (c : Column). is_name_among names c.name) columns h)

-- One column alone.
pub one-once : (c : Column) (made : List Column) → made ≡ c ∷ [] → HasDistinctNames column_name made
one-once c made is = rw is (pairs-of different (c ∷ []) (tt, tt))

pub count-once : (made : List Column) → made ≡ count_columns → HasDistinctNames column_name made
unfolding count_columns
count-once made is = rw is (pairs-of different count_columns (tt, tt))

pub range-once : (column : List ℕ) (from : Lit) (made : List Column) → made ≡ range_columns column from → HasDistinctNames column_name made
unfolding range_columns
range-once column from made is = rw is (pairs-of different (range_columns column from) (tt, tt))

pub ruleset kept_steps = (without-once, kept-once, count-once, range-once)

pub ruleset name_steps = (projected-once, extended-once, chosen-once)

pub ruleset made_steps = (made-once)

pub ruleset even_steps = (items-even)
