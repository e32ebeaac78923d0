-- The columns of a series: where no name stands twice, no two of them have one name.
use Rattle.std.proofs.Common.{◌≡◌, ◌+◌, ℕ, List, [], ◌∷◌, ◌++◌, length, map, refl, sym, ap, ◌∙◌, arith, subst}
use Rattle.std.proofs.lemmas.List.{append_assoc, length-append, length-map, map-append}
use Rattle.kql_cells.specs.Named.{HasDistinctNames, column_name}
use Rattle.kql_cells.specs.declared.schema.Column.{Column}
use Rattle.kql_lexer.specs.declared.place.Place.{Place}
use Rattle.kql_bound.specs.declared.parts.BItem.{BItem}
use Rattle.kql_bound.specs.declared.parts.SeriesItem.{SeriesItem}
use Rattle.kql_cells.specs.declared.value.Kind.TheVariants as kind
use Rattle.kql_meaning.specs.Items.{items_columns}
use Rattle.kql_meaning.specs.MakeSeries.{series_columns, series_item_columns}
use Rattle.kql_meaning.specs.Tables.{names_of}
use Rattle.bind_expr.specs.Outcome.{Answers, Outcome}
use Rattle.bind_operators.specs.declared.items.NamedItems.{NamedItems}
use Rattle.bind_operators.specs.Faults.{unless}
use Rattle.bind_operators.specs.Items.{column_as, names_of_items, twice}
use Rattle.bind_groups.specs.declared.part.Axis.{Axis}
use Rattle.bind_groups.specs.declared.part.NamedSeries.{NamedSeries}
use Rattle.bind_groups.specs.MakeSeries.{plan_over, series_twice}
use Rattle.bind_groups.proofs.GroupNames.{beside-once, columns-alone, columns-append, same-names, turned-once}
use Rattle.bind_groups.proofs.TwiceLaws.{names-alone}

abbrev item_name : SeriesItem → List ℕ
item_name i = i.name

-- The items and the axis, each as a column alone.
abbrev items_alone : List SeriesItem → List BItem
items_alone items = map (λ (i : SeriesItem). column_as i.name i.name) items

abbrev front_items : NamedSeries → List ℕ → List BItem
front_items done axis = items_alone done.items ++ column_as axis axis ∷ []

front-names : (done : NamedSeries) (axis : List ℕ) → names_of_items (front_items done axis) ≡ map (λ (i : SeriesItem). i.name ∷ []) done.items ++ (axis ∷ []) ∷ []
unfolding column_as
front-names done axis =
    map-append (λ (b : BItem). b.names) (items_alone done.items) (column_as axis axis ∷ [])
    ∙ ap (λ (ns : List (List (List ℕ))). ns ++ (axis ∷ []) ∷ []) (names-alone item_name done.items)

beside-series : (done : NamedSeries) (place : Place) (axis : List ℕ) (front keys : NamedItems) → front.items ≡ front_items done axis → front.places ≡ done.places ++ place ∷ [] → twice [] (front.places ++ keys.places) (names_of_items front.items ++ names_of_items keys.items) ≡ series_twice done place axis keys
unfolding series_twice
beside-series done place axis front keys is at =
    let places : front.places ++ keys.places ≡ done.places ++ place ∷ keys.places = ap (λ (ps : List Place). ps ++ keys.places) at ∙ append_assoc done.places (place ∷ []) keys.places in
    let alone : List (List (List ℕ)) = map (λ (i : SeriesItem). i.name ∷ []) done.items in
    let first : names_of_items front.items ≡ alone ++ (axis ∷ []) ∷ [] = ap (λ bs. names_of_items bs) is ∙ front-names done axis in
    let names : names_of_items front.items ++ names_of_items keys.items ≡ alone ++ (axis ∷ []) ∷ names_of_items keys.items =
    ap (λ (ns : List (List (List ℕ))). ns ++ names_of_items keys.items) first ∙ append_assoc alone ((axis ∷ []) ∷ []) (names_of_items keys.items) in
    ap (λ ps. twice [] ps (names_of_items front.items ++ names_of_items keys.items)) places
    ∙ ap (λ ns. twice [] (done.places ++ place ∷ keys.places) ns) names

pub twice-beside : (done : NamedSeries) (place : Place) (axis : List ℕ) (front keys : NamedItems) (result : Outcome (Unit {0})) → front.items ≡ front_items done axis → front.places ≡ done.places ++ place ∷ [] → Answers result (unless (twice [] (front.places ++ keys.places) (names_of_items front.items ++ names_of_items keys.items)) tt) → Answers result (unless (series_twice done place axis keys) tt)
twice-beside done place axis front keys result is at h =
    subst (λ fs. Answers result (unless fs tt)) (beside-series done place axis front keys is at) h

pub front-even : (done : NamedSeries) (place : Place) (axis : List ℕ) (front : NamedItems) → front.items ≡ front_items done axis → front.places ≡ done.places ++ place ∷ [] → length done.places ≡ length done.items → length front.places ≡ length front.items
front-even done place axis front is at even =
    let places : length front.places ≡ length done.places + 1 = ap (λ (ps : List Place). length ps) at ∙ length-append done.places (place ∷ []) in
    let items : length front.items ≡ length (items_alone done.items) + 1 = ap (λ (bs : List BItem). length bs) is ∙ length-append (items_alone done.items) (column_as axis axis ∷ []) in
    let alone : length (items_alone done.items) ≡ length done.items = length-map done.items (λ (i : SeriesItem). column_as i.name i.name) in
    omega (arith, places, items, alone, even)

pub ruleset twice_steps = (twice-beside, front-even)

-- No two columns of a series have one name.

names-append : (cs ds : List Column) → names_of (cs ++ ds) ≡ names_of cs ++ names_of ds
unfolding names_of
names-append cs ds = map-append (λ (c : Column). c.name) cs ds

abbrev item_columns : List SeriesItem → List ℕ → List Column
item_columns items axis = series_item_columns items ++ record { name = axis; kind = kind.Dynamic } ∷ []

item-names : (items : List SeriesItem) → names_of (series_item_columns items) ≡ map item_name items
unfolding names_of series_item_columns
item-names [] = refl
item-names (i ∷ is) = ap (λ (rest : List (List ℕ)). i.name ∷ rest) (item-names is)

series-names : (items : List SeriesItem) (axis : List ℕ) → names_of (item_columns items axis) ≡ map item_name items ++ axis ∷ []
unfolding names_of
series-names items axis =
    names-append (series_item_columns items) (record { name = axis; kind = kind.Dynamic } ∷ [])
    ∙ ap (λ (ns : List (List ℕ)). ns ++ axis ∷ []) (item-names items)

alone-names : (done : NamedSeries) (axis : List ℕ) (columns : List Column) → names_of (items_columns (front_items done axis) columns) ≡ map item_name done.items ++ axis ∷ []
alone-names done axis columns =
    let alone : List Column = items_columns (items_alone done.items) columns in
    let last : List Column = items_columns (map (λ n. column_as n n) (axis ∷ [])) columns in
    ap (λ cs. names_of cs) (columns-append (items_alone done.items) (column_as axis axis ∷ []) columns)
    ∙ (names-append alone last
    ∙ (ap (λ (ns : List (List ℕ)). ns ++ names_of last) (columns-alone item_name done.items columns)
    ∙ ap (λ (ns : List (List ℕ)). map item_name done.items ++ ns) (columns-alone (λ n. n) (axis ∷ []) columns)))

pub series-once : (done : NamedSeries) (place : Place) (axis : Axis) (keys : NamedItems) (columns : List Column) → length done.places ≡ length done.items → length keys.places ≡ length keys.items → series_twice done place axis.name keys ≡ [] → HasDistinctNames column_name (series_columns (plan_over done axis keys) columns)
unfolding series_columns
series-once done place axis keys columns even of_keys none =
    let front : NamedItems = record { items = front_items done axis.name; places = done.places ++ place ∷ []; next = 1 } in
    let told = beside-series done place axis.name front keys refl refl ∙ none in
    let mine : List Column = items_columns (front_items done axis.name) columns in
    let others : List Column = items_columns keys.items columns in
    let once = beside-once front keys columns (front-even done place axis.name front refl refl even) of_keys told in
    let names : names_of (others ++ mine) ≡ names_of (others ++ item_columns done.items axis.name) =
    names-append others mine
    ∙ (ap (λ (ns : List (List ℕ)). names_of others ++ ns) (alone-names done axis.name columns ∙ sym (series-names done.items axis.name))
    ∙ sym (names-append others (item_columns done.items axis.name))) in
    same-names (others ++ mine) (others ++ item_columns done.items axis.name) names (turned-once mine others once)

pub ruleset once_steps = (series-once)
