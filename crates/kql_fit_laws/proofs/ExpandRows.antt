-- What `mv-expand` that fits gives.
use Rattle.std.proofs.Common.{◌≡◌, ◌<◌, ℕ, Bool, true, false, List, [], ◌∷◌, length, map, refl, sym, ap, ◌∙◌, subst, inl, inr, rules}
use Rattle.std.specs.Prelude.{IfSome, None, Option, Some, ℤ, bytes_eq, not, option_and_then, option_map, slice_index_or}
use Rattle.std.specs.List.{flat_map, list_all}
use Rattle.std.proofs.lemmas.Bool.{and_from, and_parts}
use Rattle.kql_cells.specs.Named.{HasDistinctNames, column_name}
use Rattle.kql_cells.specs.Table.{CellFits, Grid, IsGrid, RowFits}
use Rattle.kql_cells.specs.Values.{IsMoment}
use Rattle.kql_cells.specs.declared.dynamic.Dyn.{Dyn, out-Dyn}
use Rattle.kql_cells.specs.declared.dynamic.Dyn.TheOpen.{Dyn-F}
use Rattle.kql_cells.specs.declared.dynamic.Dyn.TheVariants as dyn
use Rattle.kql_cells.specs.declared.schema.Column.{Column}
use Rattle.kql_cells.specs.declared.value.Kind.{Kind}
use Rattle.kql_cells.specs.declared.value.Kind.TheVariants as kind
use Rattle.kql_cells.specs.declared.value.Value.{Value}
use Rattle.kql_cells.specs.declared.value.Value.TheVariants as value
use Rattle.kql_dynamic.specs.Parts.{elements, elements_step, entries, entries_step, text, value_of}
use Rattle.kql_dynamic.proofs.FormLaws.{array-form, bag-form, fits, fits-Text, fits-weaker, value-form}
use Rattle.kql_dynamic.proofs.PartLaws.{elements-fit, entries-fit}
use Rattle.kql_scalar_fns.specs.Arguments.{bool_or_null, long_or_null, moment_or_null, span_or_null}
use Rattle.kql_scalar_fns.specs.Conversion.{moment_written, to_bool, to_long, to_moment, to_span}
use Rattle.kql_bound.specs.declared.parts.Expand.{Expand}
use Rattle.kql_bound.specs.declared.parts.ExpandItem.{ExpandItem}
use Rattle.kql_bound.specs.declared.plan.Op.{the_lemmas}
use Rattle.kql_bound.specs.declared.plan.Op.TheOpen.{Op-F}
use Rattle.kql_bound.specs.declared.plan.Op.TheVariants as O
use Rattle.kql_meaning.specs.Expressions.{val}
use Rattle.kql_meaning.specs.FittingOperators.{are_distinct, expand_fits, expand_item_fits, expand_names}
use Rattle.kql_meaning.specs.MvExpand.{dynamic_parts_step, entry_part, expand_columns, expand_table, expanded_row, item_named, item_parts, kind_named, new_columns, new_items, part_as, part_at, parts_of, replaced_cell, replaced_column, replaced_columns, rows_given}
use Rattle.kql_meaning.specs.Plans.{op_means}
use Rattle.kql_meaning.specs.Tables.{has_column, places, places_below}
use Rattle.kql_meaning.proofs.MemberLaws.{Member, member-of-filter, member-of-flat, member-of-map}
use Rattle.kql_meaning.proofs.OperatorFitLaws.{op-MvExpand}
use Rattle.kql_fit_laws.proofs.JoinRows.{all-of}
use Rattle.kql_fit_laws.proofs.KnownValues.{found-holds, index-holds, value-fits, value_of-kind, written-range}
use Rattle.kql_fit_laws.proofs.RowFacts.{all-members, answer-some, cell-named-fits, column-found, pairwise-names, place-below, rows-append}
use Rattle.kql_fit_laws.proofs.RowLaws.{made, means}
use Rattle.kql_fit_laws.specs.LawsOfCalls.{FitsKind}
use Rattle.kql_fit_laws.specs.LawsOfOperators.{EachExpandKeeps}
use Rattle.kql_fit_laws.specs.LawsOfRows.{IsTable, IsTableOf}

-- Parts.

entry-fits : (array : Bool) (e : List ℕ × Dyn) → fits 126 e.1 ≡ true → FitsKind kind.Dynamic (entry_part array e)
unfolding entry_part
entry-fits true e h = (tt, array-form (dyn.Text e.0 ∷ e.1 ∷ []) (and_from (fits 126 (dyn.Text e.0)) (list_all (fits 126) (e.1 ∷ [])) (fits-Text 126 e.0) (and_from (fits 126 e.1) true h refl)))
entry-fits false e h = (tt, bag-form (e ∷ []) refl (and_from (fits 126 e.1) true h refl))

value-part : (d : Dyn) → fits 126 d ≡ true → FitsKind kind.Dynamic (value_of d)
value-part d h = (value_of-kind d, value-form d (fits-weaker d h))

alone : (v w : Value) → FitsKind kind.Dynamic v → Member w (v ∷ []) → FitsKind kind.Dynamic w
alone v w h (inl e) = subst (FitsKind kind.Dynamic) e h
alone v w h (inr m) = absurd m

dynamic-parts : (array : Bool) (d : Dyn) (f : Dyn-F Dyn) → out-Dyn d ≡ f → FitsKind kind.Dynamic (value.Dynamic d) → (w : Value) → Member w (dynamic_parts_step array (value.Dynamic d) f) → FitsKind kind.Dynamic w
unfolding elements entries
dynamic-parts array d (Dyn-F.Array xs) e h w m =
    let q = member-of-map value_of xs w m in
    let all = elements-fit d xs h.1.1 (ap elements_step e) in
    subst (FitsKind kind.Dynamic) q.2 (value-part q.0 (all-of (fits 126) xs q.0 all q.1))
dynamic-parts array d (Dyn-F.Bag es) e h w m =
    let q = member-of-map (entry_part array) es w m in
    let all = entries-fit d es h.1.1 (ap entries_step e) in
    subst (FitsKind kind.Dynamic) q.2 (entry-fits array q.0 (all-of (λ (x : List ℕ × Dyn). fits 126 x.1) es q.0 all.1 q.1))
dynamic-parts array d _ e h w m = alone (value.Dynamic d) w h m

parts-fit : (array : Bool) (v : Value) → FitsKind kind.Dynamic v → (w : Value) → Member w (parts_of array v) → FitsKind kind.Dynamic w
unfolding parts_of
parts-fit array (value.Dynamic d) h w m = dynamic-parts array d (out-Dyn d) refl h w m
parts-fit array value.Null h w m = alone value.Null w h m
parts-fit array (value.Bool b) h w m = absurd h.0
parts-fit array (value.Long n) h w m = absurd h.0
parts-fit array (value.Text t) h w m = absurd h.0
parts-fit array (value.Moment n) h w m = absurd h.0
parts-fit array (value.Span n) h w m = absurd h.0

-- Parts that are converted.

bool-fits : (o : Option Bool) → FitsKind kind.Bool (bool_or_null o)
bool-fits None = (tt, tt)
bool-fits (Some b) = (tt, tt)

long-fits : (o : Option ℤ) → FitsKind kind.Long (long_or_null o)
long-fits None = (tt, tt)
long-fits (Some n) = (tt, tt)

span-fits : (o : Option ℤ) → FitsKind kind.Span (span_or_null o)
span-fits None = (tt, tt)
span-fits (Some n) = (tt, tt)

moment-fits : (o : Option ℤ) → IfSome o IsMoment → FitsKind kind.Moment (moment_or_null o)
moment-fits None h = (tt, tt)
moment-fits (Some n) h = (tt, h)

held-range : (o : Option (List ℕ)) → IfSome (option_and_then moment_written o) IsMoment
held-range None = tt
held-range (Some t) = written-range t

converted : (k : Kind) (d : Dyn) → FitsKind kind.Dynamic (value.Dynamic d) → FitsKind k (part_as k (value.Dynamic d))
unfolding part_as to_bool to_long to_moment to_span
converted kind.Bool d h = bool-fits _
converted kind.Long d h = long-fits _
converted kind.Text d h = (tt, tt)
converted kind.Moment d h = moment-fits _ (held-range (text d))
converted kind.Span d h = span-fits _
converted kind.Dynamic d h = h

converted-null : (k : Kind) → FitsKind k (part_as k value.Null)
unfolding part_as to_bool to_long to_moment to_span
converted-null kind.Bool = (tt, tt)
converted-null kind.Long = (tt, tt)
converted-null kind.Text = (tt, tt)
converted-null kind.Moment = (tt, tt)
converted-null kind.Span = (tt, tt)
converted-null kind.Dynamic = (tt, tt)

part-as-fits : (k : Kind) (v : Value) → FitsKind kind.Dynamic v → FitsKind k (part_as k v)
part-as-fits k (value.Dynamic d) h = converted k d h
part-as-fits k value.Null h = converted-null k
part-as-fits k (value.Bool b) h = absurd h.0
part-as-fits k (value.Long n) h = absurd h.0
part-as-fits k (value.Text t) h = absurd h.0
part-as-fits k (value.Moment n) h = absurd h.0
part-as-fits k (value.Span n) h = absurd h.0

-- The rows.

module _ (x : Expand) (t : Grid) (i k : ℕ) (h : IsTable t) (lt : i < length t.lines) (fit : list_all (expand_item_fits t.columns) x.items ≡ true) where
  part-fits : (item : ExpandItem) → Member item x.items → FitsKind item.to (part_at x t i k item)
  unfolding part_at item_parts expand_item_fits
  part-fits item m =
      let v = value-fits kind.Dynamic item.expr t i h lt (all-of (expand_item_fits t.columns) x.items item fit m) in
      part-as-fits item.to (slice_index_or (parts_of x.array (val item.expr t i [])) k value.Null)
      (index-holds (FitsKind kind.Dynamic) (parts_of x.array (val item.expr t i [])) k value.Null (tt, tt) (parts-fit x.array (val item.expr t i []) v))

  replaced-fits : (c : Column) → Member c t.columns → (o : Option ExpandItem) → item_named x.items c.name ≡ o → CellFits (replaced_column c (option_map (λ (item : ExpandItem). item.to) o)) (replaced_cell x t i k c o)
  unfolding replaced_column replaced_cell item_named
  replaced-fits c m None e = cell-named-fits t i c.name c h.1 lt (column-found t.columns c (pairwise-names t.columns h.0) m)
  replaced-fits c m (Some item) e = part-fits item (found-holds (λ (b : ExpandItem). bytes_eq b.name c.name) x.items item e).1

  replaced-row : (cs : List Column) → ((c : Column) → Member c cs → Member c t.columns) → RowFits (replaced_columns x cs) (map (λ (c : Column). replaced_cell x t i k c (item_named x.items c.name)) cs)
  unfolding RowFits replaced_columns kind_named
  replaced-row [] among = tt
  replaced-row (c ∷ cs) among = (replaced-fits c (among c (inl refl)) (item_named x.items c.name) refl, replaced-row cs (λ d m. among d (inr m)))

  new-row : (items : List ExpandItem) → ((item : ExpandItem) → Member item items → Member item x.items) → RowFits (map (λ (item : ExpandItem). record { name = item.name; kind = item.to }) items) (map (part_at x t i k) items)
  unfolding RowFits
  new-row [] among = tt
  new-row (item ∷ items) among = (part-fits item (among item (inl refl)), new-row items (λ y m. among y (inr m)))

  expanded-row : RowFits (expand_columns x t.columns) (expanded_row x t i k)
  unfolding expand_columns expanded_row new_columns new_items
  expanded-row =
      rows-append (replaced_columns x t.columns) (new_columns x.items t.columns) (map (λ (c : Column). replaced_cell x t i k c (item_named x.items c.name)) t.columns) (map (part_at x t i k) (new_items x.items t.columns))
      (replaced-row t.columns (λ c m. m))
      (new-row (new_items x.items t.columns) (λ item m. (member-of-filter (λ (b : ExpandItem). not (has_column b.name t.columns)) x.items item m).0))

pub expand-grid : (x : Expand) (t : Grid) → IsTable t → expand_fits x t.columns ≡ true → IsGrid (expand_table x t)
unfolding expand_table expand_fits
expand-grid x t h fits =
    let fit = (and_parts (list_all (expand_item_fits t.columns) x.items) (are_distinct (expand_names x.items)) fits).0 in
    let columns = expand_columns x t.columns in
    let lines = λ (i : ℕ). map (expanded_row x t i) (places_below (rows_given x t i)) in
    all-members (RowFits columns) (flat_map lines (places t))
    (λ row m.
    let q = member-of-flat lines (places t) row m in
    let r = member-of-map (expanded_row x t q.0) (places_below (rows_given x t q.0)) row q.2 in
    subst (RowFits columns) r.2 (expanded-row x t q.0 r.0 h (place-below t q.0 q.1) fit))

expand-table-of : (x : Expand) (t : Grid) (cs : List Column) → IsTable t → expand_fits x t.columns ≡ true → expand_columns x t.columns ≡ cs → HasDistinctNames column_name cs → IsTableOf cs (expand_table x t)
unfolding expand_table
expand-table-of x t cs h fits e names = (e, (subst (HasDistinctNames column_name) (sym e) names, expand-grid x t h fits))

pub each_expand_keeps : EachExpandKeeps
each_expand_keeps k w x inside t cs h fits =
    let q = answer-some (expand_fits x t.columns) (expand_columns x t.columns) cs (sym (op-MvExpand x k inside t.columns) ∙ fits) in
    made cs (op_means (O.MvExpand x) w t) (expand_table x t) (means (O.MvExpand x) (Op-F.MvExpand x) (search (rules, the_lemmas)) w t)
    (expand-table-of x t cs h q.0 q.1 (subst (HasDistinctNames column_name) q.1 q.2))
