-- Items of `mv-expand` from left to right, and the columns that they give.
use Rattle.std.proofs.Common.{◌≡◌, ◌≢◌, ◌<◌, ◌+◌, ℕ, get_or, List, [], ◌∷◌, ◌++◌, length, map, take, refl, sym, ap, ◌∙◌, subst}
use Rattle.std.specs.Prelude.{Bool, true, false, not, IfOk, Option, None, Some, Ok, Err, filter, fold}
use Rattle.std.proofs.lemmas.List.{length-append, length-map}
use Rattle.std.proofs.lemmas.List.Sums.{fold_more}
use Rattle.kql_cells.specs.Named.{HasDistinctNames, column_name}
use Rattle.kql_cells.specs.declared.schema.Column.{Column}
use Rattle.kql_cells.specs.declared.value.Kind.{Kind}
use Rattle.kql_bound.specs.declared.parts.Expand.{Expand as ExpandPlan}
use Rattle.kql_bound.specs.declared.parts.ExpandItem.{ExpandItem}
use Rattle.kql_meaning.specs.MvExpand.{expand_columns, kind_named, new_columns, new_items, replaced_column, replaced_columns}
use Rattle.kql_meaning.specs.Tables.{has_column, is_name_among, names_of}
use Rattle.kql_meaning.proofs.MemberLaws.{Member, Pairwise, member-map, member-of-filter, member-of-map, pairs-of, pairwise-append, pairwise-filter, pairwise-map}
use Rattle.kql_syntax.specs.declared.query.Expand.{Expand}
use Rattle.kql_syntax.specs.declared.query.Item.{Item}
use Rattle.bind_expr.specs.Outcome.{Answers, Outcome, ◌>>=◌}
use Rattle.bind_expr.specs.declared.scope.Scope.{Scope}
use Rattle.bind_expr.proofs.AnswerFacts.{answers-along, goes_on, goes_under}
use Rattle.bind_operators.specs.Faults.{unless}
use Rattle.bind_operators.specs.Items.{given_name, names_or_own, one_name, twice}
use Rattle.bind_operators.specs.Places.{item_start}
use Rattle.bind_operators.proofs.NameLaws.{apart, different, pairwise-of}
use Rattle.bind_groups.specs.MvExpand.{expand_faults, expand_link, expand_part_bound, expands_bound, no_expands, with_expand}
use Rattle.bind_groups.specs.Names.{singles}
use Rattle.bind_groups.specs.declared.part.ExpandPart.{ExpandPart}
use Rattle.bind_groups.specs.declared.part.NamedExpands.{NamedExpands}
use Rattle.bind_groups.proofs.NameSteps.{apart-of, not-among, written-once}

-- Items from left to right.

pub expands-start : (scope : Scope) (done : NamedExpands) → done ≡ no_expands → Answers (Ok done) (expands_bound scope [])
unfolding expands_bound
expands-start scope done is = record { holds = ap (λ d. Ok d) (sym is) }

pub expands-turn : (scope : Scope) (xs : List Expand) (i : ℕ) (d : Expand) (before : Outcome NamedExpands) (next : Outcome ExpandPart) (result : Outcome NamedExpands) → i < length xs → Answers before (expands_bound scope (take i xs)) → Answers next (expand_part_bound scope (get_or xs i d)) → Answers result (expand_link before (get_or xs i d).item next) → Answers result (expands_bound scope (take (i + 1) xs))
unfolding expands_bound
expands-turn scope xs i d before next result l a b h =
    let first : Outcome NamedExpands = expands_bound scope (take i xs) in
    let x : Expand = get_or xs i d in
    let one = goes_on before first (λ done. next >>= λ p. Ok (with_expand done x.item p)) result a h in
    let two = goes_under first next (expand_part_bound scope x) (λ done p. Ok (with_expand done x.item p)) result b one in
    answers-along result (expand_link first x.item (expand_part_bound scope x)) (expands_bound scope (take (i + 1) xs)) two
    (sym (fold_more (λ before (x : Expand). expand_link before x.item (expand_part_bound scope x)) (Ok no_expands) xs i d l))

pub ruleset turn_steps = (expands-start, expands-turn)

-- Each item has its place.

abbrev is_even : NamedExpands → Type 0
is_even d = length d.places ≡ length d.items

pub one-more : {X Y : Type 0} (xs : List X) (x : X) (ys : List Y) (y : Y) → length xs ≡ length ys → length (xs ++ x ∷ []) ≡ length (ys ++ y ∷ [])
one-more xs x ys y e = length-append xs (x ∷ []) ∙ (ap (λ n. n + 1) e ∙ sym (length-append ys (y ∷ [])))

link-even : (before : Outcome NamedExpands) (item : Item) (next : Outcome ExpandPart) → IfOk before is_even → IfOk (expand_link before item next) is_even
unfolding with_expand
link-even (Ok d) item (Ok x) h =
    one-more d.places (item_start item) d.items (record { name = one_name (names_or_own d.next (given_name item) x.typed.expr); expr = x.typed.expr; to = x.to }) h
link-even (Ok d) item (Err f) h = tt
link-even (Err f) item next h = tt

links-even : (scope : Scope) (items : List Expand) (start : Outcome NamedExpands) → IfOk start is_even → IfOk (fold (λ before (x : Expand). expand_link before x.item (expand_part_bound scope x)) start items) is_even
links-even scope [] start h = h
links-even scope (x ∷ xs) start h = links-even scope xs (expand_link start x.item (expand_part_bound scope x)) (link-even start x.item (expand_part_bound scope x) h)

of-ok : (o : Outcome NamedExpands) (d : NamedExpands) → o ≡ Ok d → IfOk o is_even → is_even d
of-ok o d is h = rw is at h

pub expands-even : (scope : Scope) (items : List Expand) (r : Outcome NamedExpands) (done : NamedExpands) → r ≡ Ok done → Answers r (expands_bound scope items) → length done.places ≡ length done.items
unfolding expands_bound no_expands
expands-even scope items r done is a =
    let there : Answers (Ok done) (expands_bound scope items) = subst (λ s. Answers s (expands_bound scope items)) is a in
    of-ok (expands_bound scope items) done (there.holds) (links-even scope items (Ok no_expands) refl)

pub ruleset even_steps = (expands-even)

-- No two items have one name.

abbrev name_of : ExpandItem → List ℕ
name_of i = i.name

singles-map : (items : List ExpandItem) → map (λ (i : ExpandItem). i.name ∷ []) items ≡ singles (map name_of items)
singles-map [] = refl
singles-map (i ∷ is) = ap (λ rest. (i.name ∷ []) ∷ rest) (singles-map is)

faults-are : (done : NamedExpands) → expand_faults done ≡ twice [] done.places (singles (map name_of done.items))
unfolding expand_faults
faults-are done = ap (λ each. twice [] done.places each) (singles-map done.items)

pub expands-once : (done : NamedExpands) (names : List (List ℕ)) (result : Outcome (Unit {0})) → names ≡ map name_of done.items → Answers result (unless (twice [] done.places (singles names)) tt) → Answers result (unless (expand_faults done) tt)
expands-once done names result is h =
    let all : Answers result (unless (twice [] done.places (singles (map name_of done.items))) tt) = subst (λ ns. Answers result (unless (twice [] done.places (singles ns)) tt)) is h in
    subst (λ fs. Answers result (unless fs tt)) (sym (faults-are done)) all

pub ruleset twice_steps = (expands-once)

-- No two columns have one name.

replaced-name : (c : Column) (o : Option Kind) → (replaced_column c o).name ≡ c.name
unfolding replaced_column
replaced-name c None = refl
replaced-name c (Some k) = refl

replaced-from : (x : ExpandPlan) (columns : List Column) (c : Column) → Member c (replaced_columns x columns) → Member c.name (names_of columns)
unfolding replaced_columns names_of
replaced-from x columns c m =
    let q = member-of-map (λ (d : Column). replaced_column d (kind_named x.items d.name)) columns c m in
    let same : q.0.name ≡ c.name = sym (replaced-name q.0 (kind_named x.items q.0.name)) ∙ ap column_name q.2 in
    subst (λ n. Member n (map column_name columns)) same (member-map column_name columns q.0 q.1)

replaced-differ : (x : ExpandPlan) (columns : List Column) → Pairwise different columns → Pairwise different (replaced_columns x columns)
unfolding replaced_columns
replaced-differ x columns h =
    pairwise-map different different (λ (d : Column). replaced_column d (kind_named x.items d.name)) columns
    (λ c d differ same. differ (sym (replaced-name c (kind_named x.items c.name)) ∙ (same ∙ replaced-name d (kind_named x.items d.name)))) h

not-false : (b : Bool) → not b ≡ true → b ≡ false
not-false true e = cc
not-false false e = refl

new-behind : (items : List ExpandItem) (columns : List Column) (c : Column) → Member c (new_columns items columns) → is_name_among (names_of columns) c.name ≡ false
unfolding new_columns new_items has_column
new-behind items columns c m =
    let q = member-of-map (λ (i : ExpandItem). record { name = i.name; kind = i.to }) (new_items items columns) c m in
    let new = (member-of-filter (λ (i : ExpandItem). not (has_column i.name columns)) items q.0 q.1).1 in
    subst (λ n. is_name_among (names_of columns) n ≡ false) (ap column_name q.2) (not-false (is_name_among (names_of columns) q.0.name) new)

new-differ : (items : List ExpandItem) (columns : List Column) → Pairwise apart (map name_of items) → Pairwise different (new_columns items columns)
unfolding new_columns new_items
new-differ items columns h =
    pairwise-map (λ i j. name_of i ≢ name_of j) different (λ (i : ExpandItem). record { name = i.name; kind = i.to }) (filter (λ (i : ExpandItem). not (has_column i.name columns)) items)
    (λ i j differ. differ) (pairwise-filter (λ i j. name_of i ≢ name_of j) (λ (i : ExpandItem). not (has_column i.name columns)) items (apart-of name_of items h))

expand-differ : (x : ExpandPlan) (columns : List Column) → Pairwise different columns → Pairwise apart (map name_of x.items) → Pairwise different (expand_columns x columns)
unfolding expand_columns
expand-differ x columns h once =
    pairwise-append different (replaced_columns x columns) (new_columns x.items columns) (replaced-differ x columns h) (new-differ x.items columns once)
    (λ c d m n same. not-among (names_of columns) d.name (new-behind x.items columns d n) (subst (λ k. Member k (names_of columns)) same (replaced-from x columns c m)))

pub expand-once : (done : NamedExpands) (x : ExpandPlan) (columns made : List Column) → HasDistinctNames column_name columns → length done.places ≡ length done.items → expand_faults done ≡ [] → x.items ≡ done.items → made ≡ expand_columns x columns → HasDistinctNames column_name made
expand-once done x columns made h l e same is =
    let texts = (written-once [] done.places (map name_of done.items) (l ∙ sym (length-map done.items name_of)) (sym (faults-are done) ∙ e)).0 in
    rw is (pairs-of different (expand_columns x columns) (expand-differ x columns (pairwise-of different columns h) (subst (λ items. Pairwise apart (map name_of items)) (sym same) texts)))

pub ruleset column_steps = (expand-once)
