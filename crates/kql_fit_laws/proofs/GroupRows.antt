-- Rows of groups fit the columns of `summarize`.
use Rattle.std.proofs.Common.{◌≡◌, ◌<◌, ℕ, true, List, [], ◌∷◌, ◌++◌, map, length, refl, sym, ◌∙◌, subst, inl, inr, rules}
use Rattle.std.specs.List.{list_all}
use Rattle.std.proofs.lemmas.Bool.{and_parts}
use Rattle.kql_cells.specs.Named.{HasDistinctNames, column_name}
use Rattle.kql_cells.specs.Table.{Grid, RowFits}
use Rattle.kql_cells.specs.declared.schema.Column.{Column}
use Rattle.kql_cells.specs.declared.value.Value.{Value}
use Rattle.kql_bound.specs.declared.parts.BItem.{BItem}
use Rattle.kql_bound.specs.declared.parts.GroupPlan.{GroupPlan}
use Rattle.kql_bound.specs.declared.plan.Op.{the_lemmas}
use Rattle.kql_bound.specs.declared.plan.Op.TheOpen.{Op-F}
use Rattle.kql_bound.specs.declared.plan.Op.TheVariants as O
use Rattle.kql_meaning.specs.Expressions.{val}
use Rattle.kql_meaning.specs.FittingOperators.{group_item_fits, key_item_fits, summarize_fits}
use Rattle.kql_meaning.specs.Groups.{distinct_keys, group_of, key_by}
use Rattle.kql_meaning.specs.Items.{items_columns, items_values, named_columns}
use Rattle.kql_meaning.specs.Results.{result_kinds, results}
use Rattle.kql_meaning.specs.Plans.{op_means}
use Rattle.kql_meaning.specs.Summarize.{group_columns, group_row, group_rows, summarize_table}
use Rattle.kql_meaning.specs.Tables.{places}
use Rattle.kql_meaning.specs.Values.{same_keys}
use Rattle.kql_meaning.proofs.ListLaws.{every-distinct}
use Rattle.kql_meaning.proofs.MemberLaws.{Member, contains-member, every-of-members, member-of-map, of-member}
use Rattle.kql_meaning.proofs.OperatorFitLaws.{op-Summarize}
use Rattle.kql_fit_laws.proofs.PlanRows.{group-table}
use Rattle.kql_fit_laws.proofs.RowFacts.{all-members, answer-some, place-below, rows-append}
use Rattle.kql_fit_laws.proofs.RowLaws.{made, means}
use Rattle.kql_fit_laws.specs.LawsOfGroupRows.{GroupItemKeeps, KeyItemKeeps, SummarizeKeeps}
use Rattle.kql_fit_laws.specs.LawsOfRows.{IsTable, IsTableOf}

-- Keys.

unfoldable pub KeysKeep : List BItem → Type 0
KeysKeep keys = (b : BItem) → Member b keys → KeyItemKeeps b

keys-fit : (keys : List BItem) (t : Grid) (i : ℕ) → IsTable t → i < length t.lines → KeysKeep keys → list_all (key_item_fits t.columns) keys ≡ true → RowFits (items_columns keys t.columns) (key_by keys t i)
unfolding items_columns key_by RowFits KeysKeep
keys-fit [] t i h lt keeps e = tt
keys-fit (b ∷ bs) t i h lt keeps e =
    let parts = and_parts (key_item_fits t.columns b) (list_all (key_item_fits t.columns) bs) e in
    rows-append (named_columns b.names (result_kinds b.expr t.columns)) (items_columns bs t.columns) (val b.expr t i [] ∷ []) (key_by bs t i) (keeps b (inl refl) t i h lt parts.0) (keys-fit bs t i h lt (λ c m. keeps c (inr m)) parts.1)

pub distinct-fit : (keys : List BItem) (t : Grid) (k : List Value) → IsTable t → KeysKeep keys → list_all (key_item_fits t.columns) keys ≡ true → Member k (distinct_keys (key_by keys t) t) → RowFits (items_columns keys t.columns) k
unfolding distinct_keys
distinct-fit keys t k h keeps e m =
    let P = λ (row : List Value). RowFits (items_columns keys t.columns) row in
    let all = every-of-members P (map (key_by keys t) (places t))
    (λ row n. let q = member-of-map (key_by keys t) (places t) row n in subst P q.2 (keys-fit keys t q.0 h (place-below t q.0 q.1) keeps e)) in
    of-member P (distinct_keys (key_by keys t) t) k (every-distinct P same_keys (map (key_by keys t) (places t)) all) m

-- Items of groups.

GroupsKeep : List BItem → Type 0
GroupsKeep items = (b : BItem) → Member b items → GroupItemKeeps b

group-fits : (items : List BItem) (t : Grid) → IsTable t → GroupsKeep items → list_all (group_item_fits t.columns) items ≡ true → RowFits (items_columns items t.columns) (items_values items t 0)
unfolding items_columns items_values RowFits GroupsKeep
group-fits [] t h keeps e = tt
group-fits (b ∷ bs) t h keeps e =
    let parts = and_parts (group_item_fits t.columns b) (list_all (group_item_fits t.columns) bs) e in
    rows-append (named_columns b.names (result_kinds b.expr t.columns)) (items_columns bs t.columns) (results b.expr t 0 []) (items_values bs t 0) (keeps b (inl refl) t h parts.0) (group-fits bs t h (λ c m. keeps c (inr m)) parts.1)

of-group : (items : List BItem) (key : ℕ → List Value) (t : Grid) (k : List Value) → IsTable t → GroupsKeep items → list_all (group_item_fits t.columns) items ≡ true → RowFits (items_columns items t.columns) (items_values items (group_of key t k) 0)
unfolding group_of
of-group items key t k h keeps e = group-fits items (group_of key t k) (group-table key t k h) keeps e

no-keys : (columns : List Column) → RowFits (items_columns [] columns) []
unfolding items_columns RowFits
no-keys columns = tt

rows-fit : (keys items : List BItem) (t : Grid) → IsTable t → KeysKeep keys → GroupsKeep items → list_all (key_item_fits t.columns) keys ≡ true → list_all (group_item_fits t.columns) items ≡ true → (row : List Value) → Member row (group_rows keys items t) → RowFits (items_columns keys t.columns ++ items_columns items t.columns) row
unfolding group_rows group_row
rows-fit [] items t h keys_keep items_keep e f row (inl same) =
    subst (RowFits (items_columns [] t.columns ++ items_columns items t.columns)) same (rows-append (items_columns [] t.columns) (items_columns items t.columns) [] (items_values items t 0) (no-keys t.columns) (group-fits items t h items_keep f))
rows-fit [] items t h keys_keep items_keep e f row (inr m) = absurd m
rows-fit (key ∷ keys) items t h keys_keep items_keep e f row m =
    let all = key ∷ keys in
    let columns = items_columns all t.columns ++ items_columns items t.columns in
    let q = member-of-map (group_row all items t) (distinct_keys (key_by all t) t) row m in
    subst (RowFits columns) q.2
    (rows-append (items_columns all t.columns) (items_columns items t.columns) q.0 (items_values items (group_of (key_by all t) t q.0) 0) (distinct-fit all t q.0 h keys_keep e q.1) (of-group items (key_by all t) t q.0 h items_keep f))

summary-table : (g : GroupPlan) (t : Grid) (cs : List Column) → IsTable t → KeysKeep g.keys → GroupsKeep g.items → summarize_fits g t.columns ≡ true → group_columns g t.columns ≡ cs → HasDistinctNames column_name cs → IsTableOf cs (summarize_table g t)
unfolding summarize_table summarize_fits group_columns
summary-table g t cs h keys_keep items_keep fits e names =
    let parts = and_parts (list_all (group_item_fits t.columns) g.items) (list_all (key_item_fits t.columns) g.keys) fits in
    let columns = items_columns g.keys t.columns ++ items_columns g.items t.columns in
    (e, (subst (HasDistinctNames column_name) (sym e) names, all-members (RowFits columns) (group_rows g.keys g.items t) (rows-fit g.keys g.items t h keys_keep items_keep parts.1 parts.0)))

pub summarize_keeps : SummarizeKeeps
unfolding KeysKeep GroupsKeep
summarize_keeps k w g keys items inside t cs h fits =
    let q = answer-some (summarize_fits g t.columns) (group_columns g t.columns) cs (sym (op-Summarize g k inside t.columns) ∙ fits) in
    made cs (op_means (O.Summarize g) w t) (summarize_table g t) (means (O.Summarize g) (Op-F.Summarize g) (search (rules, the_lemmas)) w t)
    (summary-table g t cs h (λ b m. keys b (contains-member g.keys b m)) (λ b m. items b (contains-member g.items b m)) q.0 q.1 (subst (HasDistinctNames column_name) q.1 q.2))

pub ruleset group_row_laws = (summarize_keeps)
