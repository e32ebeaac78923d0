-- The columns of groups: where no name stands twice, no two of them have one name.
use Rattle.std.proofs.Common.{◌≡◌, ◌<◌, ℕ, suc, get_or, Bool, true, false, List, [], ◌∷◌, ◌++◌, length, map, refl, sym, ap, ◌∙◌, arith, inl, inr, subst}
use Rattle.std.specs.Prelude.{AllPairs, IfOk, IfSome, Option, None, Some, Ok, Err, bytes_eq, find, fold}
use Rattle.std.proofs.lemmas.Bool.{cases_Bool}
use Rattle.std.proofs.lemmas.Grind.{flat_map-append}
use Rattle.std.proofs.lemmas.List.{append-nil, append_assoc, length-append, length-map, map-append}
use Rattle.std.proofs.lemmas.Slice.Eq.{bytes_eq-Decides}
use Rattle.kql_cells.specs.Named.{HasDistinctNames, column_name}
use Rattle.kql_cells.specs.declared.schema.Column.{Column}
use Rattle.kql_functions.specs.Kinds.{is_dynamic}
use Rattle.kql_lexer.specs.declared.place.Place.{Place}
use Rattle.kql_bound.specs.declared.parts.BItem.{BItem}
use Rattle.kql_meaning.specs.Items.{items_columns, named_columns}
use Rattle.kql_meaning.specs.Results.{result_kinds}
use Rattle.kql_meaning.specs.Summarize.{group_columns}
use Rattle.kql_meaning.specs.Tables.{names_of}
use Rattle.kql_meaning.proofs.MemberLaws.{Member, Pairwise, contains-member, every-of-members, member-left, member-map, member-right, of-member, pairs-of, pairwise-append, pairwise-map}
use Rattle.kql_meaning.proofs.ResultLaws.{result-Column}
use Rattle.kql_syntax.specs.declared.tree.Name.{Name}
use Rattle.bind_expr.specs.Names.{text_of}
use Rattle.bind_expr.specs.Outcome.{Answers, Outcome, ◌>>=◌}
use Rattle.bind_operators.specs.declared.items.NamedItems.{NamedItems}
use Rattle.bind_operators.specs.declared.known.Known.{Known}
use Rattle.bind_operators.specs.declared.shape.Shape.{Shape}
use Rattle.bind_operators.specs.Faults.{each_bound, fault_if, unless, with_next}
use Rattle.bind_operators.specs.Items.{column_as, column_item, names_of_items, names_twice, twice}
use Rattle.bind_operators.specs.Known.{column_or_fault, column_wanted, is_constant_name}
use Rattle.bind_operators.specs.Places.{name_place}
use Rattle.bind_operators.proofs.NameLaws.{apart, chosen-once, different, is_even, projected-differ}
use Rattle.bind_groups.specs.Summarize.{distinct_column, group_faults, group_plan, key_column}
use Rattle.bind_groups.proofs.TwiceLaws.{names-alone}

-- Pairs of a list, and of two lists one behind the other.

first-of : {X : Type 0} (R : X → X → Type 0) (x : X) (xs : List X) → AllPairs R (x ∷ xs) → (k : ℕ) (y : X) → k < length xs → get_or xs k y ≡ y → R x y
first-of R x xs h k y lt e = subst (R x) e (h 0 (suc k) y (omega arith) (omega arith))

pairwise-of : {X : Type 0} (R : X → X → Type 0) (xs : List X) → AllPairs R xs → Pairwise R xs
pairwise-of R [] h = tt
pairwise-of R (x ∷ xs) h =
    (every-of-members (R x) xs (λ y m. let c = contains-member xs y m in first-of R x xs h c.0 y c.1 c.2), pairwise-of R xs (λ i j d lt in_range. h (suc i) (suc j) d (omega arith) (omega arith)))

pairs-front : {X : Type 0} (R : X → X → Type 0) (xs ys : List X) → Pairwise R (xs ++ ys) → Pairwise R xs
pairs-front R [] ys h = tt
pairs-front R (x ∷ xs) ys h = (every-of-members (R x) xs (λ z m. of-member (R x) (xs ++ ys) z h.0 (member-left xs ys z m)), pairs-front R xs ys h.1)

pairs-behind : {X : Type 0} (R : X → X → Type 0) (xs ys : List X) → Pairwise R (xs ++ ys) → Pairwise R ys
pairs-behind R [] ys h = h
pairs-behind R (x ∷ xs) ys h = pairs-behind R xs ys h.1

pairs-across : {X : Type 0} (R : X → X → Type 0) (xs ys : List X) → Pairwise R (xs ++ ys) → (x y : X) → Member x xs → Member y ys → R x y
pairs-across R [] ys h x y m n = absurd m
pairs-across R (w ∷ xs) ys h x y (inl e) n = subst (λ z. R z y) e (of-member (R w) (xs ++ ys) y h.0 (member-right xs ys y n))
pairs-across R (w ∷ xs) ys h x y (inr m) n = pairs-across R xs ys h.1 x y m n

-- Columns in another order, and under other types.

pub turned-once : (cs ds : List Column) → HasDistinctNames column_name (cs ++ ds) → HasDistinctNames column_name (ds ++ cs)
turned-once cs ds h =
    let both = pairwise-of different (cs ++ ds) h in
    pairs-of different (ds ++ cs)
    (pairwise-append different ds cs (pairs-behind different cs ds both) (pairs-front different cs ds both)
    (λ d c n m same. pairs-across different cs ds both c d m n (sym same)))

apart-of : (cs : List Column) → Pairwise different cs → Pairwise apart (names_of cs)
unfolding names_of
apart-of cs h = pairwise-map different apart (λ (c : Column). c.name) cs (λ c d e. e) h

of-apart : (cs : List Column) → Pairwise apart (names_of cs) → Pairwise different cs
unfolding names_of
of-apart [] h = tt
of-apart (c ∷ cs) h =
    (every-of-members (different c) cs (λ d m. of-member (apart c.name) (map (λ (e : Column). e.name) cs) d.name h.0 (member-map (λ (e : Column). e.name) cs d m)), of-apart cs h.1)

pub same-names : (cs ds : List Column) → names_of cs ≡ names_of ds → HasDistinctNames column_name cs → HasDistinctNames column_name ds
same-names cs ds e h = pairs-of different ds (of-apart ds (subst (λ ns. Pairwise apart ns) e (apart-of cs (pairwise-of different cs h))))

pub same-once : (columns made : List Column) → HasDistinctNames column_name columns → made ≡ columns → HasDistinctNames column_name made
same-once columns made h is = rw is h

pub ruleset made_steps = (same-once)

-- Items and keys.

no-front : {X : Type 0} (xs ys : List X) → xs ++ ys ≡ [] → xs ≡ []
no-front [] ys e = refl
no-front (x ∷ xs) ys e = cc

pub columns-append : (items more : List BItem) (columns : List Column) → items_columns (items ++ more) columns ≡ items_columns items columns ++ items_columns more columns
unfolding items_columns
columns-append items more columns = flat_map-append (λ (b : BItem). named_columns b.names (result_kinds b.expr columns)) items more

even-beside : {X Y : Type 0} (xs ys : List X) (vs ws : List Y) → length xs ≡ length vs → length ys ≡ length ws → length (xs ++ ys) ≡ length (vs ++ ws)
even-beside xs ys vs ws e f = omega (arith, e, f, length-append xs ys, length-append vs ws)

pub beside-once : (items keys : NamedItems) (columns : List Column) → is_even items → is_even keys → twice [] (items.places ++ keys.places) (names_of_items items.items ++ names_of_items keys.items) ≡ [] → HasDistinctNames column_name (items_columns items.items columns ++ items_columns keys.items columns)
beside-once items keys columns e f none =
    let names : names_of_items (items.items ++ keys.items) ≡ names_of_items items.items ++ names_of_items keys.items = map-append (λ (b : BItem). b.names) items.items keys.items in
    let told : twice [] (items.places ++ keys.places) (names_of_items (items.items ++ keys.items)) ≡ [] = ap (λ ns. twice [] (items.places ++ keys.places) ns) names ∙ none in
    subst (λ cs. HasDistinctNames column_name cs) (columns-append items.items keys.items columns)
    (projected-differ (items.places ++ keys.places) (items.items ++ keys.items) columns (even-beside items.places keys.places items.items keys.items e f) told)

pub grouped-once : (operator : Place) (items keys : NamedItems) (columns : List Column) → is_even items → is_even keys → group_faults operator items keys ≡ [] → HasDistinctNames column_name (group_columns (group_plan items keys) columns)
unfolding group_faults group_columns
grouped-once operator items keys columns e f none =
    turned-once (items_columns items.items columns) (items_columns keys.items columns)
    (beside-once items keys columns e f (no-front _ _ none))

pub ruleset group_steps = (grouped-once)

-- Columns as keys.

pub keys-once : (cs columns : List Column) (items keys : List BItem) → HasDistinctNames column_name cs → items ≡ [] → keys ≡ map column_item cs → HasDistinctNames column_name (group_columns (record { items = items; keys = keys }) columns)
unfolding group_columns items_columns
keys-once cs columns items keys h none is =
    let alone : items_columns keys columns ++ items_columns items columns ≡ items_columns keys columns = rw none (append-nil (items_columns keys columns)) in
    subst (λ made. HasDistinctNames column_name made) (sym alone) (chosen-once cs columns keys h is)

pub ruleset distinct_steps = (keys-once)

pub columns-alone : {X : Type 0} (name : X → List ℕ) (xs : List X) (columns : List Column) → names_of (items_columns (map (λ x. column_as (name x) (name x)) xs) columns) ≡ map name xs
unfolding names_of items_columns named_columns column_as
columns-alone name [] columns = refl
columns-alone name (x ∷ xs) columns = rw (result-Column (name x) columns) (ap (λ (rest : List (List ℕ)). name x ∷ rest) (columns-alone name xs columns))

pub named-once : (names : List Name) (columns : List Column) → names_of columns ≡ map text_of names → names_twice [] names ≡ [] → HasDistinctNames column_name columns
unfolding names_twice
named-once names columns same none =
    let items : List BItem = map (λ n. column_as (text_of n) (text_of n)) names in
    let told : twice [] (map name_place names) (names_of_items items) ≡ [] = ap (λ ns. twice [] (map name_place names) ns) (names-alone text_of names) ∙ none in
    let even : length (map name_place names) ≡ length items = length-map names name_place ∙ sym (length-map names (λ n. column_as (text_of n) (text_of n))) in
    same-names (items_columns items columns) columns (columns-alone text_of names columns ∙ sym same) (projected-differ (map name_place names) items columns even told)

pub ruleset named_steps = (named-once)

-- The names of columns that are bound one after another.

link-named : {X Y : Type 0} (g : Y → List ℕ) (h : X → List ℕ) (before : Outcome (List Y)) (next : Outcome Y) (done : List (List ℕ)) (x : X) → IfOk before (λ ys. map g ys ≡ done) → IfOk next (λ y. g y ≡ h x) → IfOk (with_next before next) (λ ys. map g ys ≡ done ++ h x ∷ [])
link-named g h (Ok ys) (Ok y) done x a b =
    map-append g ys (y ∷ []) ∙ (ap (λ (ns : List (List ℕ)). ns ++ g y ∷ []) a ∙ ap (λ (n : List ℕ). done ++ n ∷ []) b)
link-named g h (Ok ys) (Err f) done x a b = tt
link-named g h (Err f) next done x a b = tt

links-named : {X Y : Type 0} (f : X → Outcome Y) (g : Y → List ℕ) (h : X → List ℕ) → ((x : X) → IfOk (f x) (λ y. g y ≡ h x)) → (xs : List X) (start : Outcome (List Y)) (done : List (List ℕ)) → IfOk start (λ ys. map g ys ≡ done) → IfOk (fold (λ before x. with_next before (f x)) start xs) (λ ys. map g ys ≡ done ++ map h xs)
links-named f g h each [] start done s = subst (λ d. IfOk start (λ ys. map g ys ≡ d)) (sym (append-nil done)) s
links-named f g h each (x ∷ xs) start done s =
    let one = link-named g h start (f x) done x s (each x) in
    let rest = links-named f g h each xs (with_next start (f x)) (done ++ h x ∷ []) one in
    subst (λ d. IfOk (fold (λ before x. with_next before (f x)) (with_next start (f x)) xs) (λ ys. map g ys ≡ d)) (append_assoc done (h x ∷ []) (map h xs)) rest

of-ok : {X : Type 0} (P : X → Type 0) (o : Outcome X) (x : X) → o ≡ Ok x → IfOk o P → P x
of-ok P o x is h = rw is at h

each-named : {X : Type 0} (f : X → Outcome Column) (h : X → List ℕ) → ((x : X) → IfOk (f x) (λ (c : Column). c.name ≡ h x)) → (xs : List X) (r : Outcome (List Column)) (cs : List Column) → r ≡ Ok cs → Answers r (each_bound f xs) → names_of cs ≡ map h xs
unfolding each_bound names_of
each-named f h each xs r cs is a =
    let there : Answers (Ok cs) (each_bound f xs) = subst (λ s. Answers s (each_bound f xs)) is a in
    of-ok (λ ys. map (λ (c : Column). c.name) ys ≡ map h xs) (each_bound f xs) cs (there.holds) (links-named f (λ (c : Column). c.name) h each xs (Ok []) [] refl)

-- A key column is the column itself.

unless-named : (b : Bool) (place : Place) (c : Column) → IfOk (unless (fault_if b 404 place) c) (λ (d : Column). d.name ≡ c.name)
unfolding unless fault_if
unless-named true place c = tt
unless-named false place c = refl

key-named : (place : Place) (c : Column) → IfOk (key_column place c) (λ (d : Column). d.name ≡ c.name)
unfolding key_column
key-named place c = unless-named (is_dynamic c.kind) place c

pub star-once : (star : Place) (xs cs : List Column) (r : Outcome (List Column)) → HasDistinctNames column_name xs → r ≡ Ok cs → Answers r (each_bound (key_column star) xs) → HasDistinctNames column_name cs
unfolding names_of
star-once star xs cs r h is a = same-names xs cs (sym (each-named (key_column star) (λ (c : Column). c.name) (key-named star) xs r cs is a)) h

-- A column that is wanted has the name.

found-named : (n : List ℕ) (cs : List Column) → IfSome (find (λ (c : Column). bytes_eq c.name n) cs) (λ (c : Column). c.name ≡ n)
found-named n [] = tt
found-named n (c ∷ cs) = elim (cases_Bool (bytes_eq c.name n)) [
  | inl t ↦ rw t ((bytes_eq-Decides c.name n).0 t)
  | inr f ↦ rw f (found-named n cs)
]

or-named : (operator place : Place) (n : List ℕ) (constant : Bool) (o : Option Column) → IfSome o (λ (c : Column). c.name ≡ n) → IfOk (column_or_fault operator place constant o) (λ (c : Column). c.name ≡ n)
or-named operator place n constant (Some c) h = h
or-named operator place n true None h = tt
or-named operator place n false None h = tt

wanted-named : (operator : Place) (known : Known) (columns : List Column) (n : Name) → IfOk (column_wanted operator known columns n) (λ (c : Column). c.name ≡ text_of n)
unfolding column_wanted
wanted-named operator known columns n =
    or-named operator (name_place n) (text_of n) (is_constant_name known.consts (text_of n)) (find (λ (c : Column). bytes_eq c.name (text_of n)) columns) (found-named (text_of n) columns)

along-named : (o : Outcome Column) (m n : List ℕ) → m ≡ n → IfOk o (λ (c : Column). c.name ≡ m) → IfOk o (λ (c : Column). c.name ≡ n)
along-named o m n e h = subst (λ k. IfOk o (λ (c : Column). c.name ≡ k)) e h

next-named : (o : Outcome Column) (k : Column → Outcome Column) (n : List ℕ) → IfOk o (λ (c : Column). c.name ≡ n) → ((c : Column) → IfOk (k c) (λ (d : Column). d.name ≡ c.name)) → IfOk (o >>= k) (λ (d : Column). d.name ≡ n)
next-named (Ok c) k n h each = along-named (k c) c.name n h (each c)
next-named (Err f) k n h each = tt

distinct-named : (operator : Place) (known : Known) (rows : Shape) (n : Name) → IfOk (distinct_column operator known rows n) (λ (c : Column). c.name ≡ text_of n)
unfolding distinct_column
distinct-named operator known rows n =
    next-named (column_wanted operator known rows.columns n) (key_column (name_place n)) (text_of n) (wanted-named operator known rows.columns n) (key-named (name_place n))

pub columns-named : (operator : Place) (known : Known) (rows : Shape) (names : List Name) (r : Outcome (List Column)) (cs : List Column) → r ≡ Ok cs → Answers r (each_bound (distinct_column operator known rows) names) → names_of cs ≡ map text_of names
columns-named operator known rows names r cs is a = each-named (distinct_column operator known rows) text_of (distinct-named operator known rows) names r cs is a

pub ruleset column_steps = (star-once, columns-named)
