-- What `parse` that fits gives.
use Rattle.std.proofs.Common.{◌≡◌, ℕ, Bool, true, List, [], ◌∷◌, ◌++◌, drop, length, map, refl, sym, ◌∙◌, subst, rules}
use Rattle.std.specs.Prelude.{◌&&◌, IfSome, None, Option, Some, ℤ, option_map, slice_range, unwrap_or}
use Rattle.std.proofs.lemmas.Bool.{and_parts}
use Rattle.kql_ticks.specs.Forms.{span_in}
use Rattle.kql_cells.specs.Named.{HasDistinctNames, column_name}
use Rattle.kql_cells.specs.Ordered.{text_in}
use Rattle.kql_cells.specs.Table.{Grid, RowFits}
use Rattle.kql_cells.specs.Values.{IsMoment}
use Rattle.kql_cells.specs.declared.schema.Column.{Column}
use Rattle.kql_cells.specs.declared.value.Kind.{Kind}
use Rattle.kql_cells.specs.declared.value.Kind.TheVariants as kind
use Rattle.kql_cells.specs.declared.value.Value.{Value}
use Rattle.kql_cells.specs.declared.value.Value.TheVariants as value
use Rattle.kql_scalar_fns.specs.Conversion.{moment_written}
use Rattle.kql_cells.specs.Readings.{bool_written, long_written}
use Rattle.kql_bound.specs.declared.parts.ParsePlan.{ParsePlan}
use Rattle.kql_bound.specs.declared.parts.PatItem.{PatItem}
use Rattle.kql_bound.specs.declared.parts.PatItem.TheVariants as item
use Rattle.kql_bound.specs.declared.plan.Op.{the_lemmas}
use Rattle.kql_bound.specs.declared.plan.Op.TheOpen.{Op-F}
use Rattle.kql_bound.specs.declared.plan.Op.TheVariants as O
use Rattle.kql_meaning.specs.Cuts.{cut, filled_piece_read, is_allowed, is_cut, is_cut_from, is_end, piece_read, rising_lists}
use Rattle.kql_meaning.specs.Expressions.{val}
use Rattle.kql_meaning.specs.FittingOperators.{parse_fits}
use Rattle.kql_meaning.specs.Items.{cells_in, without}
use Rattle.kql_meaning.specs.Parse.{cut_values, parse_columns, parse_table, parsed_values, pattern_columns, pattern_names, piece_value, pieces_values}
use Rattle.kql_meaning.specs.Plans.{op_means}
use Rattle.kql_meaning.specs.Tables.{places}
use Rattle.kql_meaning.specs.Values.{absent}
use Rattle.kql_meaning.proofs.MemberLaws.{member-of-map}
use Rattle.kql_meaning.proofs.OperatorFitLaws.{op-Parse}
use Rattle.kql_fit_laws.proofs.ItemRows.{kept-members}
use Rattle.kql_fit_laws.proofs.KnownValues.{found-holds, parsed-fits, written-range}
use Rattle.kql_fit_laws.proofs.RowFacts.{absent-row-fits, all-members, answer-some, cells-fit, place-below, rows-append}
use Rattle.kql_fit_laws.proofs.RowLaws.{made, means}
use Rattle.kql_fit_laws.specs.LawsOfCalls.{FitsKind}
use Rattle.kql_fit_laws.specs.LawsOfOperators.{EachParseKeeps}
use Rattle.kql_fit_laws.specs.LawsOfRows.{IsTable, IsTableOf}

-- Pieces.

read-fits : {X : Type 0} (k : Kind) (make : X → Value) (o : Option X) → FitsKind k (absent k) → ((x : X) → FitsKind k (make x)) → FitsKind k (unwrap_or (option_map make o) (absent k))
read-fits k make None none each = none
read-fits k make (Some x) none each = each x

moment-fits : (o : Option ℤ) → IfSome o IsMoment → FitsKind kind.Moment (unwrap_or (option_map value.Moment o) (absent kind.Moment))
unfolding absent
moment-fits None h = (tt, tt)
moment-fits (Some n) h = (tt, h)

filled-fits : (k : Kind) (piece : List ℕ) → FitsKind k (unwrap_or (filled_piece_read k piece) (absent k))
unfolding filled_piece_read absent
filled-fits kind.Bool piece = read-fits kind.Bool value.Bool (bool_written piece) (tt, tt) (λ x. (tt, tt))
filled-fits kind.Long piece = read-fits kind.Long value.Long (long_written piece) (tt, tt) (λ x. (tt, tt))
filled-fits kind.Text piece = (tt, tt)
filled-fits kind.Moment piece = moment-fits (moment_written piece) (written-range piece)
filled-fits kind.Span piece = read-fits kind.Span value.Span (span_in piece) (tt, tt) (λ x. (tt, tt))
filled-fits kind.Dynamic piece = parsed-fits piece

piece-fits : (k : Kind) (piece : List ℕ) → FitsKind k (piece_value k piece)
unfolding piece_value piece_read absent
piece-fits kind.Text piece = (tt, tt)
piece-fits kind.Bool [] = (tt, tt)
piece-fits kind.Bool (b ∷ bs) = filled-fits kind.Bool (b ∷ bs)
piece-fits kind.Long [] = (tt, tt)
piece-fits kind.Long (b ∷ bs) = filled-fits kind.Long (b ∷ bs)
piece-fits kind.Moment [] = (tt, tt)
piece-fits kind.Moment (b ∷ bs) = filled-fits kind.Moment (b ∷ bs)
piece-fits kind.Span [] = (tt, tt)
piece-fits kind.Span (b ∷ bs) = filled-fits kind.Span (b ∷ bs)
piece-fits kind.Dynamic [] = (tt, tt)
piece-fits kind.Dynamic (b ∷ bs) = filled-fits kind.Dynamic (b ∷ bs)

-- A cut has an end for each item.
later-ends : (relaxed : Bool) (p : PatItem) (ps : List PatItem) (t : List ℕ) (start end : ℕ) (ends : List ℕ) → is_cut_from relaxed (p ∷ ps) t start (end ∷ ends) ≡ true → is_cut_from relaxed ps t end ends ≡ true
unfolding is_cut_from
later-ends relaxed p ps t start end ends e =
    let parts = and_parts (is_end t start end) (is_allowed relaxed p ps (slice_range t start end) (drop start t) && is_cut_from relaxed ps t end ends) e in
    (and_parts (is_allowed relaxed p ps (slice_range t start end) (drop start t)) (is_cut_from relaxed ps t end ends) parts.1).1

no-ends : (relaxed : Bool) (p : PatItem) (ps : List PatItem) (t : List ℕ) (start : ℕ) → is_cut_from relaxed (p ∷ ps) t start [] ≡ true → ⊥
unfolding is_cut_from
no-ends relaxed p ps t start e = cc

pieces-fit : (relaxed : Bool) (ps : List PatItem) (t : List ℕ) (start : ℕ) (ends : List ℕ) → is_cut_from relaxed ps t start ends ≡ true → RowFits (pattern_columns ps) (pieces_values ps t start ends)
unfolding RowFits pattern_columns pieces_values
pieces-fit relaxed [] t start ends e = tt
pieces-fit relaxed (p ∷ ps) t start [] e = absurd (no-ends relaxed p ps t start e)
pieces-fit relaxed (item.Star ∷ ps) t start (end ∷ ends) e = pieces-fit relaxed ps t end ends (later-ends relaxed item.Star ps t start end ends e)
pieces-fit relaxed (item.Literal x ∷ ps) t start (end ∷ ends) e = pieces-fit relaxed ps t end ends (later-ends relaxed (item.Literal x) ps t start end ends e)
pieces-fit relaxed (item.Column name k ∷ ps) t start (end ∷ ends) e =
    (piece-fits k (slice_range t start end), pieces-fit relaxed ps t end ends (later-ends relaxed (item.Column name k) ps t start end ends e))

cut-fits : (relaxed : Bool) (ps : List PatItem) (t : List ℕ) (o : Option (List ℕ)) → cut relaxed ps t ≡ o → RowFits (pattern_columns ps) (cut_values ps t o)
unfolding cut_values cut is_cut
cut-fits relaxed ps t None e = absent-row-fits (pattern_columns ps)
cut-fits relaxed ps t (Some ends) e = pieces-fit relaxed ps t 0 ends (found-holds (is_cut relaxed ps t) (rising_lists (length ps) (length t) 0) ends e).0

parsed-row : (p : ParsePlan) (t : List ℕ) → RowFits (pattern_columns p.pattern) (parsed_values p t)
unfolding parsed_values
parsed-row p t = cut-fits p.relaxed p.pattern t (cut p.relaxed p.pattern t) refl

-- The table.
parse-table-of : (p : ParsePlan) (t : Grid) (cs : List Column) → IsTable t → parse_columns p t.columns ≡ cs → HasDistinctNames column_name cs → IsTableOf cs (parse_table p t)
unfolding parse_table parse_columns
parse-table-of p t cs h e names =
    let kept = without (pattern_names p.pattern) t.columns in
    let columns = kept ++ pattern_columns p.pattern in
    let line = λ (i : ℕ). cells_in kept t i ++ parsed_values p (text_in (val p.text t i [])) in
    let all = all-members (RowFits columns) (map line (places t))
    (λ row m.
    let q = member-of-map line (places t) row m in
    subst (RowFits columns) q.2
    (rows-append kept (pattern_columns p.pattern) (cells_in kept t q.0) (parsed_values p (text_in (val p.text t q.0 []))) (cells-fit t q.0 h (place-below t q.0 q.1) kept (kept-members (pattern_names p.pattern) t.columns)) (parsed-row p (text_in (val p.text t q.0 []))))) in
    (e, (subst (HasDistinctNames column_name) (sym e) names, all))

pub each_parse_keeps : EachParseKeeps
each_parse_keeps k w p inside t cs h fits =
    let q = answer-some (parse_fits p t.columns) (parse_columns p t.columns) cs (sym (op-Parse p k inside t.columns) ∙ fits) in
    made cs (op_means (O.Parse p) w t) (parse_table p t) (means (O.Parse p) (Op-F.Parse p) (search (rules, the_lemmas)) w t)
    (parse-table-of p t cs h q.1 (subst (HasDistinctNames column_name) q.1 q.2))
