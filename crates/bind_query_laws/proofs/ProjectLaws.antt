-- A bound `project`, and its three kin, is sound.
use Rattle.std.proofs.Common.{◌≡◌, ℕ, refl, ◌∙◌, inl, inr}
use Rattle.std.specs.Prelude.{Bool, true, not, List, [], ◌∷◌, Ok, bytes_eq, find, map}
use Rattle.std.proofs.lemmas.Bool.{and_from}
use Rattle.kql_cells.specs.declared.schema.Column.{Column}
use Rattle.kql_lexer.specs.declared.place.Place.{Place}
use Rattle.kql_bound.specs.declared.expr.BExpr.TheVariants as V
use Rattle.kql_bound.specs.declared.parts.BItem.{BItem}
use Rattle.kql_bound.specs.declared.plan.Op.TheVariants as op
use Rattle.kql_meaning.specs.declared.position.Position.TheVariants as position
use Rattle.kql_meaning.specs.FittingExpressions.{expr_fits, scope_of, takes_columns}
use Rattle.kql_meaning.specs.FittingOperators.{has_its_names, item_fits, items_fit}
use Rattle.kql_meaning.specs.Items.{items_columns, without}
use Rattle.kql_meaning.specs.Tables.{has_column, is_name_among, names_of}
use Rattle.kql_meaning.proofs.ExpressionFitLaws.{fits-Column}
use Rattle.kql_meaning.proofs.MemberLaws.{Member, member-map, member-of-filter}
use Rattle.kql_meaning.proofs.OperatorFitLaws.{op-Project}
use Rattle.kql_syntax.specs.declared.query.Item.{Item}
use Rattle.kql_syntax.specs.declared.tree.Name.{Name}
use Rattle.bind_expr.specs.declared.fault.BindFault.{BindFault}
use Rattle.bind_expr.specs.declared.scope.Scope.{Scope}
use Rattle.bind_operators.specs.declared.bound.BoundOp.{BoundOp}
use Rattle.bind_operators.specs.declared.items.NamedItems.{NamedItems}
use Rattle.bind_operators.specs.declared.known.Known.{Known}
use Rattle.bind_operators.specs.declared.shape.Shape.{Shape}
use Rattle.bind_operators.specs.Items.{column_as, column_item, items_bound, twice_items}
use Rattle.bind_operators.specs.Known.{scope_at}
use Rattle.bind_operators.specs.Project.{Renames, chosen, columns_in, columns_wanted, name_after, old_name, project_answer, project_away_bound, project_bound, project_keep_bound, project_rename_bound, projected, rename_faults, renamed_columns, renamed_item}
use Rattle.bind_operators.proofs.NameLaws.{among, chosen-once, kept-once, projected-once, without-once}
use Rattle.bind_operators.proofs.RenameLaws.{renamed-once}
use Rattle.bind_query_laws.specs.Sound.{AreColumns, IsSoundKnown, IsSoundOp, read_known}
use Rattle.bind_query_laws.proofs.Frame.{after-ok, answer-sound, items-sound, one-result, places-even, single-name, window-free}

-- Items that fit, in whose columns no name stands twice where there is no fault.
projected-sound : (operator : Place) (known : Known) (inside : Bool) (rows : Shape) (faults : List BindFault) (items : List BItem) (b : BoundOp) → items_fit items rows.columns position.Window ≡ true → (faults ≡ [] → AreColumns (items_columns items rows.columns)) → project_answer operator rows faults items ≡ Ok b → IsSoundOp known inside rows b
unfolding project_answer
projected-sound operator known inside rows faults items b fits names is =
    answer-sound known inside rows operator faults (op.Project items) (items_columns items rows.columns) rows.serial b
    (items_fit items rows.columns position.Window)
    (op-Project items (read_known known) inside rows.columns)
    (λ none. (fits, names none))
    is

pub project_sound : (operator : Place) (items : List Item) (known : Known) (rows : Shape) (b : BoundOp) → IsSoundKnown known → AreColumns rows.columns → project_bound operator items known rows ≡ Ok b → (inside : Bool) → IsSoundOp known inside rows b
unfolding project_bound projected
project_sound operator items known rows b sound names is inside =
    let scope : Scope = scope_at known rows position.Window in
    let first = after-ok (items_bound scope items) (projected operator rows) b is in
    let done : NamedItems = first.0 in
    projected-sound operator known inside rows (twice_items done) done.items b
    (items-sound known rows position.Window items done window-free sound names first.1)
    (λ none. projected-once done rows.columns (places-even scope items done first.1) none)
    first.2

-- A column that stands there fits, under any name.
column-fits : (name : List ℕ) (c : Column) (columns : List Column) → Member c columns → item_fits (scope_of columns) position.Window (column_as name c.name) ≡ true
unfolding item_fits column_as has_column names_of
column-fits name c columns m =
    let there : has_column c.name columns ≡ true = among (names_of columns) c.name (member-map (λ (d : Column). d.name) columns c m) in
    let fits : expr_fits (V.Column c.name) (scope_of columns) position.Window ≡ true = fits-Column c.name (scope_of columns) position.Window ∙ and_from (takes_columns position.Window) (has_column c.name columns) window-free there in
    and_from (expr_fits (V.Column c.name) (scope_of columns) position.Window) (has_its_names (column_as name c.name) columns) fits
    (single-name name (V.Column c.name) columns (one-result (V.Column c.name) columns (scope_of columns) position.Window fits))

chosen-fit : (cs columns : List Column) → ((c : Column) → Member c cs → Member c columns) → items_fit (map column_item cs) columns position.Window ≡ true
unfolding items_fit
chosen-fit [] columns h = refl
chosen-fit (c ∷ cs) columns h =
    and_from (item_fits (scope_of columns) position.Window (column_item c)) (items_fit (map column_item cs) columns position.Window)
    (column-fits c.name c columns (h c (inl refl)))
    (chosen-fit cs columns (λ d m. h d (inr m)))

-- Some of the columns, each under its own name.
chosen-sound : (operator : Place) (known : Known) (inside : Bool) (rows : Shape) (cs : List Column) (b : BoundOp) → AreColumns cs → ((c : Column) → Member c cs → Member c rows.columns) → chosen operator rows cs ≡ Ok b → IsSoundOp known inside rows b
unfolding chosen
chosen-sound operator known inside rows cs b names h is =
    projected-sound operator known inside rows [] (map column_item cs) b (chosen-fit cs rows.columns h) (λ none. chosen-once cs rows.columns (map column_item cs) names refl) is

pub project_away_sound : (operator : Place) (names : List Name) (known : Known) (rows : Shape) (b : BoundOp) → IsSoundKnown known → AreColumns rows.columns → project_away_bound operator names known rows ≡ Ok b → (inside : Bool) → IsSoundOp known inside rows b
unfolding project_away_bound without
project_away_sound operator away known rows b sound names is inside =
    let first = after-ok (columns_wanted operator known rows away) (λ (cs : List Column). chosen operator rows (without (names_of cs) rows.columns)) b is in
    chosen-sound operator known inside rows (without (names_of first.0) rows.columns) b
    (without-once (names_of first.0) rows.columns (without (names_of first.0) rows.columns) names refl)
    (λ c m. (member-of-filter (λ (d : Column). not (is_name_among (names_of first.0) d.name)) rows.columns c m).0)
    first.2

pub project_keep_sound : (operator : Place) (names : List Name) (known : Known) (rows : Shape) (b : BoundOp) → IsSoundKnown known → AreColumns rows.columns → project_keep_bound operator names known rows ≡ Ok b → (inside : Bool) → IsSoundOp known inside rows b
unfolding project_keep_bound columns_in
project_keep_sound operator kept known rows b sound names is inside =
    let first = after-ok (columns_wanted operator known rows kept) (λ (cs : List Column). chosen operator rows (columns_in (names_of cs) rows.columns)) b is in
    chosen-sound operator known inside rows (columns_in (names_of first.0) rows.columns) b
    (kept-once (names_of first.0) rows.columns (columns_in (names_of first.0) rows.columns) names refl)
    (λ c m. (member-of-filter (λ (d : Column). is_name_among (names_of first.0) d.name) rows.columns c m).0)
    first.2

renamed-fit : (renames : Renames) (cs columns : List Column) → ((c : Column) → Member c cs → Member c columns) → items_fit (map (renamed_item renames) cs) columns position.Window ≡ true
unfolding items_fit renamed_item
renamed-fit renames [] columns h = refl
renamed-fit renames (c ∷ cs) columns h =
    and_from (item_fits (scope_of columns) position.Window (renamed_item renames c)) (items_fit (map (renamed_item renames) cs) columns position.Window)
    (column-fits (name_after c (find (λ (r : Name × Name). bytes_eq (old_name r) c.name) renames)) c columns (h c (inl refl)))
    (renamed-fit renames cs columns (λ d m. h d (inr m)))

pub project_rename_sound : (operator : Place) (renames : Renames) (known : Known) (rows : Shape) (b : BoundOp) → IsSoundKnown known → AreColumns rows.columns → project_rename_bound operator renames known rows ≡ Ok b → (inside : Bool) → IsSoundOp known inside rows b
unfolding project_rename_bound renamed_columns
project_rename_sound operator renames known rows b sound names is inside =
    let first = after-ok (columns_wanted operator known rows (map (λ (r : Name × Name). r.1) renames)) (λ (olds : List Column). renamed_columns operator renames rows) b is in
    projected-sound operator known inside rows (rename_faults (names_of (without (map old_name renames) rows.columns)) [] renames) (map (renamed_item renames) rows.columns) b
    (renamed-fit renames rows.columns rows.columns (λ c m. m))
    (λ none. renamed-once renames rows.columns (map (renamed_item renames) rows.columns) names refl none)
    first.2
