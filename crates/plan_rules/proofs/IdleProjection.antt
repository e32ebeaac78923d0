-- `project` of all columns in order under their names changes nothing.
use Rattle.std.proofs.Common.{◌≡◌, ◌≢◌, ℕ, Bool, true, false, List, [], ◌∷◌, map, refl, sym, ap, ap₂, ◌∙◌, inl, inr, arith}
use Rattle.std.specs.Prelude.{◌&&◌, not, bytes_eq, Option, None, Some, option_and_then, option_map, unwrap_or}
use Rattle.std.proofs.lemmas.Bool.{and_parts, cases_Bool}
use Rattle.std.proofs.lemmas.Slice.Eq.{bytes_eq-Decides}
use Rattle.kql_cells.specs.Seen.{row_at}
use Rattle.kql_cells.specs.Table.{Grid, RowFits}
use Rattle.kql_cells.specs.declared.schema.Column.{Column}
use Rattle.kql_cells.specs.declared.value.Kind.{Kind}
use Rattle.kql_cells.specs.declared.value.Kind.TheVariants as kind
use Rattle.kql_cells.specs.declared.value.Value.{Value}
use Rattle.kql_bound.specs.declared.expr.BExpr.TheVariants as E
use Rattle.kql_bound.specs.declared.parts.BItem.{BItem}
use Rattle.kql_bound.specs.declared.plan.Op.{Op}
use Rattle.kql_bound.specs.declared.plan.Op.TheVariants as V
use Rattle.kql_meaning.specs.declared.position.Position.TheVariants as position
use Rattle.kql_meaning.specs.Expressions.{column_kind}
use Rattle.kql_meaning.specs.Fits.{Known}
use Rattle.kql_meaning.specs.FittingExpressions.{column_of}
use Rattle.kql_meaning.specs.FittingOperators.{answer_if, are_distinct, is_empty, items_fit}
use Rattle.kql_meaning.specs.Items.{cells_in, items_columns, items_values, named_columns}
use Rattle.kql_meaning.specs.Project.{project_table}
use Rattle.kql_meaning.specs.Results.{typed}
use Rattle.kql_meaning.specs.Tables.{cell, names_of, places}
use Rattle.kql_meaning.proofs.KindLaws.{kind-Column}
use Rattle.kql_meaning.proofs.MemberLaws.{Member, Pairwise, of-member}
use Rattle.kql_meaning.proofs.OperatorFitLaws.{op-Project, ops-start}
use Rattle.kql_meaning.proofs.PlainLaws.{plain-Column}
use Rattle.kql_meaning.proofs.ResultLaws.{result-Column}
use Rattle.kql_meaning.proofs.RowByRowLaws.{alone, cells-alone, results-plain, rows-at-all}
use Rattle.kql_meaning.proofs.ValueLaws.{val-Column}
use Rattle.kql_fit_laws.proofs.RowFacts.{column-found, columns-some, different, names-pairwise, pairwise-names, place-below, row-fits}
use Rattle.kql_fit_laws.specs.LawsOfRows.{IsTable}
use Rattle.kql_meaning.proofs.NamedCells.{cell-named, named}
use Rattle.plan_rules.proofs.PushProject.{column-is}
use Rattle.plan_rules.proofs.RuleViews.{one-along, project-is, when-some}
use Rattle.plan_rules.proofs.ShortRules.{project-means}
use Rattle.plan_rules.proofs.Subplans.{one-columns}
use Rattle.plan_rules.proofs.Weights.{one-to-none, weight-Project}
use Rattle.plan_rules.specs.Becomes.{Becomes}
use Rattle.plan_rules.specs.Improves.{Improves}
use Rattle.plan_rules.specs.Rules.{are_all_columns, idle_projection, is_name, is_one_name, when}
use Rattle.plan_rules.specs.Views.{project_of}
use Rattle.plan_rules.specs.Weight.{other}

-- A row is the cells of all its columns.

pub map-members : {X Y : Type 0} (f g : X → Y) (xs : List X) → ((x : X) → Member x xs → f x ≡ g x) → map f xs ≡ map g xs
map-members f g [] h = refl
map-members f g (x ∷ xs) h = ap₂ (λ y ys. y ∷ ys) (h x (inl refl)) (map-members f g xs (λ y m. h y (inr m)))

eq-itself : (n : List ℕ) → bytes_eq n n ≡ true
eq-itself n = (bytes_eq-Decides n n).1 refl

not-eq : (m n : List ℕ) → m ≢ n → bytes_eq m n ≡ false
not-eq m n h = elim (cases_Bool (bytes_eq m n)) [
  | inl t ↦ absurd (h ((bytes_eq-Decides m n).0 t))
  | inr f ↦ f
]

cells-all : (cs : List Column) (row : List Value) → RowFits cs row → Pairwise different cs → map (λ (c : Column). named cs row c.name) cs ≡ row
unfolding named RowFits
cells-all [] [] f p = refl
cells-all [] (v ∷ vs) f p = absurd f
cells-all (c ∷ cs) [] f p = absurd f
cells-all (c ∷ cs) (v ∷ vs) f p =
    ap₂ (λ (x : Value) (xs : List Value). x ∷ xs) (rw (eq-itself c.name) refl)
    (map-members (λ (d : Column). named (c ∷ cs) (v ∷ vs) d.name) (λ (d : Column). named cs vs d.name) cs (λ d m. rw (not-eq c.name d.name (of-member (different c) cs d p.0 m)) refl)
    ∙ cells-all cs vs f.1 p.1)

pub row-of-cells : (t : Grid) → IsTable t → (i : ℕ) → Member i (places t) → cells_in t.columns t i ≡ row_at t.lines i
unfolding cells_in
row-of-cells t h i m =
    let cs = t.columns in
    let row = row_at t.lines i in
    cells-alone cs t i
    ∙ (map-members (λ (c : Column). cell (alone cs row) 0 c.name) (λ (c : Column). named cs row c.name) cs (λ c n. cell-named cs row c.name)
    ∙ cells-all cs row (row-fits t i h.1 (place-below t i m)) (pairwise-names cs h.0))

-- The items.

record IsColumn (b : BItem) (n : List ℕ) : Type 0 where
  name : b.names ≡ n ∷ []
  column : b.expr ≡ E.Column n

one-name : (names : List (List ℕ)) (n : List ℕ) → is_one_name names n ≡ true → names ≡ n ∷ []
one-name [] n h = cc
one-name (m ∷ []) n h = ap (λ x. x ∷ []) ((bytes_eq-Decides m n).0 h)
one-name (m ∷ l ∷ more) n h = cc

its-name : (o : Option (List ℕ)) (n : List ℕ) → is_name o n ≡ true → o ≡ Some n
its-name None n h = cc
its-name (Some m) n h = ap (λ x. Some x) ((bytes_eq-Decides m n).0 h)

is-column : (b : BItem) (n : List ℕ) → is_one_name b.names n ≡ true → is_name (column_of b.expr) n ≡ true → IsColumn b n
is-column b n g h = record { name = one-name b.names n g; column = column-is b.expr n (its-name (column_of b.expr) n h) }

column-columns : (b : BItem) (bs : List BItem) (whole : List Column) (n : List ℕ) → IsColumn b n → items_columns (b ∷ bs) whole ≡ record { name = n; kind = unwrap_or (column_kind n whole) kind.Dynamic } ∷ items_columns bs whole
unfolding items_columns named_columns typed
column-columns b bs whole n i = rw (i.name, i.column, result-Column n whole, kind-Column n whole) refl

column-values : (b : BItem) (bs : List BItem) (t : Grid) (i : ℕ) (n : List ℕ) → IsColumn b n → items_values (b ∷ bs) t i ≡ cell t i n ∷ items_values bs t i
unfolding items_values
column-values b bs t i n is = rw (is.column, results-plain (E.Column n) (plain-Column n) t i [], val-Column n t i []) refl

no-columns : (cs : List Column) → items_columns [] cs ≡ []
unfolding items_columns
no-columns cs = refl

no-values : (t : Grid) (i : ℕ) → items_values [] t i ≡ []
unfolding items_values
no-values t i = refl

columns-all : (bs : List BItem) (ds whole : List Column) → are_all_columns bs ds ≡ true → ((d : Column) → Member d ds → column_kind d.name whole ≡ Some d.kind) → items_columns bs whole ≡ ds
unfolding are_all_columns
columns-all [] [] whole e h = no-columns whole
columns-all [] (d ∷ ds) whole e h = cc
columns-all (b ∷ bs) [] whole e h = cc
columns-all (b ∷ bs) (d ∷ ds) whole e h =
    let p = and_parts (is_one_name b.names d.name) (is_name (column_of b.expr) d.name && are_all_columns bs ds) e in
    let q = and_parts (is_name (column_of b.expr) d.name) (are_all_columns bs ds) p.1 in
    column-columns b bs whole d.name (is-column b d.name p.0 q.0)
    ∙ ap₂ (λ (k : Kind) (cs : List Column). record { name = d.name; kind = k } ∷ cs) (ap (λ (o : Option Kind). unwrap_or o kind.Dynamic) (h d (inl refl))) (columns-all bs ds whole q.1 (λ x m. h x (inr m)))

names-all : (bs : List BItem) (ds whole : List Column) → are_all_columns bs ds ≡ true → names_of (items_columns bs whole) ≡ names_of ds
unfolding are_all_columns names_of
names-all [] [] whole e = ap (map (λ (c : Column). c.name)) (no-columns whole)
names-all [] (d ∷ ds) whole e = cc
names-all (b ∷ bs) [] whole e = cc
names-all (b ∷ bs) (d ∷ ds) whole e =
    let p = and_parts (is_one_name b.names d.name) (is_name (column_of b.expr) d.name && are_all_columns bs ds) e in
    let q = and_parts (is_name (column_of b.expr) d.name) (are_all_columns bs ds) p.1 in
    ap (map (λ (c : Column). c.name)) (column-columns b bs whole d.name (is-column b d.name p.0 q.0)) ∙ ap (λ ns. d.name ∷ ns) (names-all bs ds whole q.1)

values-all : (bs : List BItem) (ds : List Column) (t : Grid) (i : ℕ) → are_all_columns bs ds ≡ true → items_values bs t i ≡ cells_in ds t i
unfolding are_all_columns cells_in
values-all [] [] t i e = no-values t i
values-all [] (d ∷ ds) t i e = cc
values-all (b ∷ bs) [] t i e = cc
values-all (b ∷ bs) (d ∷ ds) t i e =
    let p = and_parts (is_one_name b.names d.name) (is_name (column_of b.expr) d.name && are_all_columns bs ds) e in
    let q = and_parts (is_name (column_of b.expr) d.name) (are_all_columns bs ds) p.1 in
    column-values b bs t i d.name (is-column b d.name p.0 q.0) ∙ ap (λ vs. cell t i d.name ∷ vs) (values-all bs ds t i q.1)

kind-found : (cs : List Column) (d : Column) → Pairwise different cs → Member d cs → column_kind d.name cs ≡ Some d.kind
unfolding column_kind
kind-found cs d p m = ap (λ (o : Option Column). option_map (λ (c : Column). c.kind) o) (column-found cs d p m)

distinct-some : (b : Bool) (cs after : List Column) → answer_if b cs ≡ Some after → (are_distinct (names_of cs) ≡ true) × (cs ≡ after)
unfolding answer_if
distinct-some b cs after e =
    let s = columns-some (b && (not (is_empty cs) && are_distinct (names_of cs))) cs after e in
    let p = and_parts b (not (is_empty cs) && are_distinct (names_of cs)) s.0 in
    ((and_parts (not (is_empty cs)) (are_distinct (names_of cs)) p.1).1, s.1)

all-kept : (items : List BItem) (cs ds : List Column) → are_all_columns items cs ≡ true → answer_if (items_fit items cs position.Window) (items_columns items cs) ≡ Some ds → (items_columns items cs ≡ cs) × (cs ≡ ds)
all-kept items cs ds e f =
    let s = distinct-some (items_fit items cs position.Window) (items_columns items cs) ds f in
    let apart : are_distinct (names_of cs) ≡ true = ap are_distinct (sym (names-all items cs cs e)) ∙ s.0 in
    let same = columns-all items cs cs e (λ d m. kind-found cs d (names-pairwise cs apart) m) in
    (same, sym same ∙ s.1)

idle-table : (items : List BItem) (t : Grid) → IsTable t → are_all_columns items t.columns ≡ true → items_columns items t.columns ≡ t.columns → project_table items t ≡ t
unfolding project_table
idle-table items t h e same =
    ap₂ (λ (cs : List Column) (ls : List (List Value)). record { columns = cs; lines = ls }) same
    (map-members (λ i. items_values items t i) (row_at t.lines) (places t) (λ i m. values-all items t.columns t i e ∙ row-of-cells t h i m)
    ∙ rows-at-all t)

pub idle-becomes : (k : Known) (inside : Bool) (cs : List Column) (items : List BItem) → are_all_columns items cs ≡ true → Becomes k inside cs (V.Project items ∷ []) []
idle-becomes k inside cs items e = record {
  keeps = λ ds f.
      let a = all-kept items cs ds e (sym (op-Project items k inside cs) ∙ (sym (one-columns (V.Project items) k inside cs) ∙ f)) in (
        ops-start k inside cs ∙ ap (λ c. Some c) a.1,
        λ w t s h.
            let all : are_all_columns items t.columns ≡ true = ap (are_all_columns items) h.0 ∙ e in
            let same : items_columns items t.columns ≡ t.columns = ap (items_columns items) h.0 ∙ (a.0 ∙ sym h.0) in
            sym (project-means items w t ∙ idle-table items t h.1 all same),
      );
}

then-some : (o : Option (List BItem)) (cs : List Column) (zs : List Op) → option_and_then (λ items. when (are_all_columns items cs) []) o ≡ Some zs → (items : List BItem) × (o ≡ Some items) × (are_all_columns items cs ≡ true) × ([] ≡ zs)
then-some None cs zs e = absurd cc
then-some (Some items) cs zs e = let r = when-some (are_all_columns items cs) [] zs e in (items, refl, r.0, r.1)

pub idle_projection-improves : (k : Known) (inside : Bool) (cs : List Column) (x : Op) (zs : List Op) → idle_projection cs x ≡ Some zs → Improves k inside cs (x ∷ []) zs
unfolding idle_projection
idle_projection-improves k inside cs x zs e =
    let r = then-some (project_of x) cs zs e in
    one-along k inside cs x (V.Project r.0) zs [] (project-is x r.0 r.1) r.3 (record {
      becomes = idle-becomes k inside cs r.0 r.2;
      lighter = one-to-none (V.Project r.0) other (weight-Project r.0) (omega arith);
      no_longer = omega arith;
      no_larger = omega arith;
    })
