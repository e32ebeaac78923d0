-- Rows of items fit the items' columns.
use Rattle.std.proofs.Common.{◌≡◌, ◌<◌, ℕ, true, List, [], ◌∷◌, ◌++◌, map, length, refl, sym, ◌∙◌, subst, inl, inr, rules}
use Rattle.std.specs.Prelude.{not, bytes_eq, find, Some}
use Rattle.std.specs.List.{list_all}
use Rattle.std.proofs.lemmas.Bool.{and_parts, cases_Bool}
use Rattle.std.proofs.lemmas.List.Elements.{All-from_recursion}
use Rattle.kql_cells.specs.Named.{HasDistinctNames, column_name}
use Rattle.kql_cells.specs.Table.{Grid, RowFits}
use Rattle.kql_cells.specs.declared.schema.Column.{Column}
use Rattle.kql_bound.specs.declared.parts.BItem.{BItem}
use Rattle.kql_bound.specs.declared.plan.Op.{the_lemmas}
use Rattle.kql_bound.specs.declared.plan.Op.TheOpen.{Op-F}
use Rattle.kql_bound.specs.declared.plan.Op.TheVariants as O
use Rattle.kql_meaning.specs.declared.position.Position.{Position}
use Rattle.kql_meaning.specs.declared.position.Position.TheVariants as position
use Rattle.kql_meaning.specs.Extend.{extend_columns, extend_table}
use Rattle.kql_meaning.specs.Fits.{source_columns}
use Rattle.kql_meaning.specs.FittingExpressions.{scope_of}
use Rattle.kql_meaning.specs.FittingOperators.{item_fits, items_fit}
use Rattle.kql_meaning.specs.Items.{cells_in, items_columns, items_names, items_values, named_columns, without}
use Rattle.kql_meaning.specs.Results.{result_kinds, results}
use Rattle.kql_meaning.specs.Plans.{op_means, source_table}
use Rattle.kql_meaning.specs.Project.{project_table}
use Rattle.kql_meaning.specs.Sources.{one_row, print_table}
use Rattle.kql_meaning.specs.Tables.{has_column, is_name_among, names_of, places}
use Rattle.kql_meaning.proofs.MemberLaws.{Member, contains-member, member-of-filter, member-of-map, pairs-of}
use Rattle.kql_meaning.proofs.OperatorFitLaws.{op-Extend, op-Project}
use Rattle.kql_fit_laws.proofs.RowFacts.{all-members, answer-some, cells-fit, different, place-below, rows-append}
use Rattle.kql_fit_laws.proofs.RowLaws.{made, means}
use Rattle.kql_fit_laws.specs.LawsOfPrograms.{ExtendKeeps, ItemKeeps, PrintKeeps, ProjectKeeps}
use Rattle.kql_fit_laws.specs.LawsOfRows.{IsTable, IsTableOf}

-- Columns that are there.

pub has-found : (cs : List Column) (n : List ℕ) → has_column n cs ≡ true → (c : Column) × (find (λ d. bytes_eq (column_name d) n) cs ≡ Some c)
unfolding has_column is_name_among names_of
has-found [] n e = cc
has-found (c ∷ cs) n e = elim (cases_Bool (bytes_eq c.name n)) [
  | inl t ↦ (c, rw t refl)
  | inr f ↦ let later : has_column n cs ≡ true = rw f at e in let q = has-found cs n later in (q.0, rw f q.1)
]

-- Several items.

AllKeep : Position → List BItem → Type 0
AllKeep at items = (b : BItem) → Member b items → ItemKeeps at b

items-rows : (at : Position) (items : List BItem) (t : Grid) (i : ℕ) → IsTable t → i < length t.lines → AllKeep at items → list_all (item_fits (scope_of t.columns) at) items ≡ true → RowFits (items_columns items t.columns) (items_values items t i)
unfolding items_columns items_values RowFits AllKeep
items-rows at [] t i h lt keeps e = tt
items-rows at (b ∷ bs) t i h lt keeps e =
    let parts = and_parts (item_fits (scope_of t.columns) at b) (list_all (item_fits (scope_of t.columns) at) bs) e in
    rows-append (named_columns b.names (result_kinds b.expr t.columns)) (items_columns bs t.columns) (results b.expr t i []) (items_values bs t i)
    (keeps b (inl refl) t i h lt parts.0) (items-rows at bs t i h lt (λ c m. keeps c (inr m)) parts.1)

project-table-of : (at : Position) (items : List BItem) (t : Grid) (cs : List Column) → IsTable t → AllKeep at items → items_fit items t.columns at ≡ true → items_columns items t.columns ≡ cs → HasDistinctNames column_name cs → IsTableOf cs (project_table items t)
unfolding project_table items_fit
project-table-of at items t cs h keeps fits e names =
    let columns = items_columns items t.columns in
    let all = all-members (RowFits columns) (map (λ i. items_values items t i) (places t))
    (λ row m.
    let q = member-of-map (λ i. items_values items t i) (places t) row m in
    subst (RowFits columns) q.2 (items-rows at items t q.0 h (place-below t q.0 q.1) keeps fits)) in
    (e, (subst (HasDistinctNames column_name) (sym e) names, all))

pub kept-members : (names : List (List ℕ)) (cs : List Column) (c : Column) → Member c (without names cs) → Member c cs
unfolding without
kept-members names cs c m = (member-of-filter (λ (d : Column). not (is_name_among names d.name)) cs c m).0

extend-table-of : (items : List BItem) (t : Grid) (cs : List Column) → IsTable t → AllKeep position.Window items → items_fit items t.columns position.Window ≡ true → extend_columns items t.columns ≡ cs → HasDistinctNames column_name cs → IsTableOf cs (extend_table items t)
unfolding extend_table extend_columns items_fit
extend-table-of items t cs h keeps fits e names =
    let kept = without (items_names items) t.columns in
    let columns = kept ++ items_columns items t.columns in
    let line = λ (i : ℕ). cells_in kept t i ++ items_values items t i in
    let all = all-members (RowFits columns) (map line (places t))
    (λ row m.
    let q = member-of-map line (places t) row m in
    let lt = place-below t q.0 q.1 in
    subst (RowFits columns) q.2
    (rows-append kept (items_columns items t.columns) (cells_in kept t q.0) (items_values items t q.0) (cells-fit t q.0 h lt kept (kept-members (items_names items) t.columns)) (items-rows position.Window items t q.0 h lt keeps fits))) in
    (e, (subst (HasDistinctNames column_name) (sym e) names, all))

pub project_keeps : ProjectKeeps
unfolding AllKeep
project_keeps k w items keeps inside t cs h fits =
    let q = answer-some (items_fit items t.columns position.Window) (items_columns items t.columns) cs (sym (op-Project items k inside t.columns) ∙ fits) in
    made cs (op_means (O.Project items) w t) (project_table items t) (means (O.Project items) (Op-F.Project items) (search (rules, the_lemmas)) w t)
    (project-table-of position.Window items t cs h (λ b m. keeps b (contains-member items b m)) q.0 q.1 (subst (HasDistinctNames column_name) q.1 q.2))

pub extend_keeps : ExtendKeeps
unfolding AllKeep
extend_keeps k w items keeps inside t cs h fits =
    let q = answer-some (items_fit items t.columns position.Window) (extend_columns items t.columns) cs (sym (op-Extend items k inside t.columns) ∙ fits) in
    made cs (op_means (O.Extend items) w t) (extend_table items t) (means (O.Extend items) (Op-F.Extend items) (search (rules, the_lemmas)) w t)
    (extend-table-of items t cs h (λ b m. keeps b (contains-member items b m)) q.0 q.1 (subst (HasDistinctNames column_name) q.1 q.2))

-- One row without columns.
no-cells : RowFits [] []
unfolding RowFits
no-cells = tt

one-row : IsTable one_row
one-row = (pairs-of different [] tt, All-from_recursion (RowFits []) ([] ∷ []) (no-cells, tt))

pub print_keeps : PrintKeeps
unfolding source_columns source_table print_table AllKeep
print_keeps k w items keeps cs fits =
    let q = answer-some (items_fit items [] position.Plain) (items_columns items []) cs fits in
    project-table-of position.Plain items one_row cs one-row (λ b m. keeps b (contains-member items b m)) q.0 q.1 (subst (HasDistinctNames column_name) q.1 q.2)

pub ruleset item_row_laws = (project_keeps, extend_keeps, print_keeps)
