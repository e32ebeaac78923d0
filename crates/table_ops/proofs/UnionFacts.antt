-- The tables of a union, one after another.
use Rattle.std.proofs.Common.{◌≡◌, ◌<◌, ◌≤◌, ◌+◌, ◌++◌, Bor, ℕ, zero, suc, Bool, true, List, [], ◌∷◌, length, get_or, take, refl, sym, ap, ap₂, ◌∙◌, subst, inl, inr, arith}
use Rattle.std.specs.List.{flat_map, list_all}
use Rattle.std.proofs.lemmas.Bool.{and_from, and_parts}
use Rattle.std.proofs.lemmas.List.{append_assoc, append-nil, length-map, map-append, take_all, take_more}
use Rattle.std.proofs.lemmas.Grind.{flat_map-append}
use Rattle.kql_cells.specs.Table.{Grid}
use Rattle.kql_cells.specs.declared.schema.Column.{Column}
use Rattle.kql_cells.specs.declared.value.Value.{Value}
use Rattle.kql_meaning.specs.FittingOperators.{is_of_type_in, union_fits}
use Rattle.kql_meaning.specs.Union.{rows_in_columns, union_columns, union_table}
use Rattle.kql_meaning.proofs.MemberLaws.{Member, member-at, member-map}
use Rattle.kql_fit_laws.proofs.JoinRows.{all-of}
use Rattle.kql_values.specs.Moves.{kinds_of}
use Rattle.table_ops.specs.InColumns.{are_of_type_in, columns_of, tables_lent}

-- Each column has its type in each table.

abbrev column_list : Grid → List Column
column_list t = t.columns

abbrev lent : Bor Grid → Grid
lent t = t.now

table-typed : (cs table : List Column) (tables : List (List Column)) → list_all (λ (c : Column). list_all (is_of_type_in c) tables) cs ≡ true → Member table tables → are_of_type_in cs table ≡ true
unfolding are_of_type_in
table-typed [] table tables e m = refl
table-typed (c ∷ cs) table tables e m =
    let parts = and_parts (list_all (is_of_type_in c) tables) (list_all (λ (d : Column). list_all (is_of_type_in d) tables) cs) e in
    and_from (is_of_type_in c table) (list_all (λ (d : Column). is_of_type_in d table) cs) (all-of (is_of_type_in c) tables table parts.0 m) (table-typed cs table tables parts.1 m)

pub first-typed : (inner : Bool) (a : Grid) (others : List Grid) (cs : List Column) → cs ≡ union_columns inner a.columns (columns_of others) → union_fits (union_columns inner a.columns (columns_of others)) (a.columns ∷ columns_of others) ≡ true → are_of_type_in cs a.columns ≡ true
unfolding union_fits
first-typed inner a others cs is fits =
    subst (λ (ds : List Column). are_of_type_in ds a.columns ≡ true) (sym is) (table-typed (union_columns inner a.columns (columns_of others)) a.columns (a.columns ∷ columns_of others) fits (inl refl))

each-typed : (cs : List Column) (tables : List (List Column)) (others : List Grid) → list_all (λ (c : Column). list_all (is_of_type_in c) tables) cs ≡ true → ((t : Grid) → Member t others → Member t.columns tables) → list_all (λ (t : Grid). are_of_type_in cs t.columns) others ≡ true
each-typed cs tables [] e among = refl
each-typed cs tables (t ∷ ts) e among =
    and_from (are_of_type_in cs t.columns) (list_all (λ (u : Grid). are_of_type_in cs u.columns) ts) (table-typed cs t.columns tables e (among t (inl refl))) (each-typed cs tables ts e (λ u m. among u (inr m)))

pub others-typed : (inner : Bool) (a : Grid) (others : List Grid) (cs : List Column) → cs ≡ union_columns inner a.columns (columns_of others) → union_fits (union_columns inner a.columns (columns_of others)) (a.columns ∷ columns_of others) ≡ true → list_all (λ (t : Grid). are_of_type_in cs t.columns) others ≡ true
unfolding union_fits
others-typed inner a others cs is fits =
    let made = union_columns inner a.columns (columns_of others) in
    subst (λ (ds : List Column). list_all (λ (t : Grid). are_of_type_in ds t.columns) others ≡ true) (sym is)
    (each-typed made (a.columns ∷ columns_of others) others fits (λ t m. inr (member-map column_list others t m)))

pub made-union : (inner : Bool) (a made : Grid) (others : List Grid) (cs : List Column) → cs ≡ union_columns inner a.columns (columns_of others) → made ≡ record { columns = cs; lines = flat_map (rows_in_columns cs) (a ∷ others) } → made ≡ union_table inner a others
unfolding union_table
made-union inner a made others cs is e = e ∙ ap (λ (ds : List Column). record { columns = ds; lines = flat_map (rows_in_columns ds) (a ∷ others) }) is

pub ruleset union_facts = (first-typed, others-typed, made-union)

-- The rows so far.

-- The rows of tables in these columns.
unfoldable pub rows_so_far : List Column → List Grid → List (List Value)
rows_so_far cs tables = flat_map (rows_in_columns cs) tables

pub made-first : (cs : List Column) (a made : Grid) → made ≡ record { columns = cs; lines = rows_in_columns cs a } → made ≡ record { columns = cs; lines = rows_so_far cs (a ∷ []) }
unfolding rows_so_far
made-first cs a made e = e ∙ ap (λ (ls : List (List Value)). record { columns = cs; lines = ls }) (sym (append-nil (rows_in_columns cs a)))

pub same-kinds : (cs : List Column) (made more : Grid) (ls ms : List (List Value)) → made ≡ record { columns = cs; lines = ls } → more ≡ record { columns = cs; lines = ms } → kinds_of more.columns ≡ kinds_of made.columns
same-kinds cs made more ls ms e f = ap (λ (g : Grid). kinds_of g.columns) (f ∙ sym (ap (λ (g : Grid). record { columns = g.columns; lines = ms }) e))

-- A table that is lent, by its place.
lent-at : (others : List (Bor Grid)) (i : ℕ) (t : Bor Grid) → t ≡ get_or others i t → t.now ≡ get_or (tables_lent others) i t.now
lent-at [] i t here = refl
lent-at (u ∷ us) zero t here = ap lent here
lent-at (u ∷ us) (suc i) t here = lent-at us i t here

lent-long : (others : List (Bor Grid)) → length (tables_lent others) ≡ length others
lent-long others = length-map others lent

pub made-more : (cs : List Column) (a old more new : Grid) (t : Bor Grid) (others : List (Bor Grid)) (i : ℕ) → i < length others → t ≡ get_or others i t → old ≡ record { columns = cs; lines = rows_so_far cs (a ∷ take i (tables_lent others)) } → more ≡ record { columns = cs; lines = rows_in_columns cs t.now } → new ≡ record { columns = old.columns; lines = old.lines ++ more.lines } → new ≡ record { columns = cs; lines = rows_so_far cs (a ∷ take (i + 1) (tables_lent others)) }
unfolding rows_so_far
made-more cs a old more new t others i lt here before piece after =
    let rows = rows_in_columns cs in
    let all = tables_lent others in
    let inside : i < length all = subst (λ n. i < n) (sym (lent-long others)) lt in
    let next : take (i + 1) all ≡ take i all ++ t.now ∷ [] = take_more all i t.now inside ∙ ap (λ (u : Grid). take i all ++ u ∷ []) (sym (lent-at others i t here)) in
    after
    ∙ (ap₂ (λ (g h : Grid). record { columns = g.columns; lines = g.lines ++ h.lines }) before piece
    ∙ ap (λ (ls : List (List Value)). record { columns = cs; lines = ls })
    (append_assoc (rows a) (flat_map rows (take i all)) (rows t.now)
    ∙ ap (λ (ls : List (List Value)). rows a ++ ls)
    (ap (λ (ls : List (List Value)). flat_map rows (take i all) ++ ls) (sym (append-nil (rows t.now)))
    ∙ (sym (flat_map-append rows (take i all) (t.now ∷ [])) ∙ ap (flat_map rows) (sym next)))))

pub made-all : (cs : List Column) (a made : Grid) (others : List (Bor Grid)) (n : ℕ) → n ≡ length others → made ≡ record { columns = cs; lines = rows_so_far cs (a ∷ take n (tables_lent others)) } → made ≡ record { columns = cs; lines = flat_map (rows_in_columns cs) (a ∷ tables_lent others) }
unfolding rows_so_far
made-all cs a made others n all e =
    let enough : length (tables_lent others) ≤ n = omega (arith, all, lent-long others) in
    e ∙ ap (λ (ts : List Grid). record { columns = cs; lines = flat_map (rows_in_columns cs) (a ∷ ts) }) (take_all n (tables_lent others) enough)

pub other-typed : (cs : List Column) (others : List (Bor Grid)) (i : ℕ) (t : Bor Grid) → list_all (λ (u : Grid). are_of_type_in cs u.columns) (tables_lent others) ≡ true → i < length others → t ≡ get_or others i t → are_of_type_in cs t.now.columns ≡ true
other-typed cs others i t e lt here =
    let inside : i < length (tables_lent others) = subst (λ n. i < n) (sym (lent-long others)) lt in
    all-of (λ (u : Grid). are_of_type_in cs u.columns) (tables_lent others) t.now e (member-at (tables_lent others) t.now i inside (sym (lent-at others i t here)))

-- The columns of the tables so far.

pub columns-none : columns_of (tables_lent []) ≡ []
columns-none = refl

pub columns-more : (others : List (Bor Grid)) (i : ℕ) (t : Bor Grid) (cs : List Column) (old new : List (List Column)) → i < length others → t ≡ get_or others i t → cs ≡ t.now.columns → old ≡ columns_of (tables_lent (take i others)) → new ≡ old ++ cs ∷ [] → new ≡ columns_of (tables_lent (take (i + 1) others))
columns-more others i t cs old new lt here is before added =
    let next : take (i + 1) others ≡ take i others ++ t ∷ [] = take_more others i t lt ∙ ap (λ u. take i others ++ u ∷ []) (sym here) in
    added
    ∙ (ap₂ (λ xs x. xs ++ x ∷ []) before is
    ∙ (sym (ap columns_of (map-append lent (take i others) (t ∷ [])) ∙ map-append column_list (tables_lent (take i others)) (t.now ∷ []))
    ∙ ap (λ us. columns_of (tables_lent us)) (sym next)))

pub ruleset table_steps = (other-typed, made-first, same-kinds, made-more, made-all)

pub ruleset columns_steps = (columns-more)
