-- A projection of the columns of another is one projection.
use Rattle.std.proofs.Common.{◌≡◌, ◌==◌, ℕ, Bool, true, false, List, [], ◌∷◌, ◌++◌, map, length, refl, sym, ap, ap₂, ◌∙◌, subst, inl, inr, arith}
use Rattle.std.specs.Prelude.{bytes_eq, cond, Option, None, Some, option_and_then, option_map, unwrap_or}
use Rattle.std.specs.List.{list_all}
use Rattle.std.proofs.lemmas.Bool.{and_parts, cases_Bool}
use Rattle.std.proofs.lemmas.List.FromFn.{get_or-map-range_with_len}
use Rattle.kql_cells.specs.Seen.{row_at}
use Rattle.kql_cells.specs.Table.{Grid}
use Rattle.kql_cells.specs.declared.schema.Column.{Column}
use Rattle.kql_cells.specs.declared.value.Kind.{Kind}
use Rattle.kql_cells.specs.declared.value.Kind.TheVariants as kind
use Rattle.kql_cells.specs.declared.value.Value.{Value}
use Rattle.kql_bound.specs.declared.expr.BExpr.{BExpr, out-BExpr, roll-BExpr, roll-out-BExpr}
use Rattle.kql_bound.specs.declared.expr.BExpr.TheOpen.{BExpr-F}
use Rattle.kql_bound.specs.declared.expr.BExpr.TheVariants as E
use Rattle.kql_bound.specs.declared.parts.BItem.{BItem}
use Rattle.kql_bound.specs.declared.plan.Op.{Op}
use Rattle.kql_bound.specs.declared.plan.Op.TheVariants as V
use Rattle.kql_meaning.specs.declared.position.Position.TheVariants as position
use Rattle.kql_meaning.specs.Expressions.{column_kind, val}
use Rattle.kql_meaning.specs.Fits.{Known}
use Rattle.kql_meaning.specs.FittingExpressions.{Scope, aggregate_fits, checked_args, column_of, expr_fits, scope_of, takes_aggregate}
use Rattle.kql_meaning.specs.FittingOperators.{answer_if, has_its_names, item_fits, items_fit}
use Rattle.kql_meaning.specs.Items.{items_columns, items_values, named_columns}
use Rattle.kql_meaning.specs.Plans.{op_means}
use Rattle.kql_meaning.specs.Project.{project_table}
use Rattle.kql_meaning.specs.Readings.{Records}
use Rattle.kql_meaning.specs.Results.{has_one_result, result_kinds, result_kinds_step, results, results_step, typed}
use Rattle.kql_meaning.specs.Tables.{cell, is_name_among, places, places_below}
use Rattle.kql_meaning.proofs.ExpressionFitLaws.{aggregate-checked, fits-Aggregate}
use Rattle.kql_meaning.proofs.KindLaws.{kind-Column}
use Rattle.kql_meaning.proofs.MemberLaws.{Member}
use Rattle.kql_meaning.proofs.OperatorFitLaws.{op-Project}
use Rattle.kql_meaning.proofs.PlainLaws.{plain-Column}
use Rattle.kql_meaning.proofs.ResultLaws.{result-Column}
use Rattle.kql_meaning.proofs.RowByRowLaws.{cell-alone, results-plain}
use Rattle.kql_meaning.proofs.ValueLaws.{val-Column}
use Rattle.kql_fit_laws.proofs.RowFacts.{answer-some, place-below}
use Rattle.plan_rules.proofs.IdleProjection.{map-members}
use Rattle.kql_meaning.proofs.NamedCells.{cell-named, kind-cons, named}
use Rattle.plan_rules.proofs.PushProject.{column-is, one-long}
use Rattle.plan_rules.proofs.RuleViews.{both-some, pair-along, pair-becomes, project-is}
use Rattle.plan_rules.proofs.ShortRules.{project-means}
use Rattle.plan_rules.proofs.Subplans.{one-columns}
use Rattle.plan_rules.proofs.TopAndCount.{project-long}
use Rattle.plan_rules.proofs.Sizes.{chosen-small, op_size-Project}
use Rattle.plan_rules.proofs.Weights.{two-to-one, weight-Project}
use Rattle.plan_rules.specs.Becomes.{Becomes}
use Rattle.plan_rules.specs.Improves.{Improves}
use Rattle.plan_rules.specs.Rules.{chosen_items, item_expr, renamed_item, two_projections}
use Rattle.plan_rules.specs.Views.{project_of}
use Rattle.plan_rules.specs.Weight.{other}

-- An expression that fits as an item is no call of an aggregate, and has one result.

no-aggregate : (e : BExpr) (scope : Scope) → expr_fits e scope position.Window ≡ true → (f : _) (args : List BExpr) → out-BExpr e ≡ BExpr-F.Aggregate f args → ⊥
unfolding takes_aggregate
no-aggregate e scope h f args o =
    let same : e ≡ E.Aggregate f args = sym (roll-out-BExpr e) ∙ (ap roll-BExpr o ∙ E.rolls-Aggregate f args) in
    let b = and_parts (has_one_result f args) (aggregate_fits f (checked_args args) scope position.Window) (sym (fits-Aggregate f args scope position.Window) ∙ (ap (λ x. expr_fits x scope position.Window) (sym same) ∙ h)) in
    let no : false ≡ true = sym (aggregate-checked f args scope position.Window) ∙ b.1 in
    absurd cc

kinds-at : (e : BExpr) (scope : Scope) → expr_fits e scope position.Window ≡ true → (y : BExpr-F BExpr) → out-BExpr e ≡ y → (k : Kind) (cs : List Column) → result_kinds_step y k cs ≡ k ∷ []
kinds-at e scope h (BExpr-F.Aggregate f args) o k cs = absurd (no-aggregate e scope h f args o)
kinds-at e scope h _ o k cs = refl

one-kind : (e : BExpr) (scope : Scope) → expr_fits e scope position.Window ≡ true → (cs : List Column) → result_kinds e cs ≡ typed e cs ∷ []
unfolding result_kinds
one-kind e scope h cs = kinds-at e scope h (out-BExpr e) refl (typed e cs) cs

results-at : (e : BExpr) (scope : Scope) → expr_fits e scope position.Window ≡ true → (y : BExpr-F BExpr) → out-BExpr e ≡ y → (v : Value) (t : Grid) (s : Records) → results_step y v t s ≡ v ∷ []
results-at e scope h (BExpr-F.Literal l) o v t s = refl
results-at e scope h (BExpr-F.Column n) o v t s = refl
results-at e scope h (BExpr-F.Step c) o v t s = refl
results-at e scope h (BExpr-F.Call f args) o v t s = refl
results-at e scope h (BExpr-F.Chain first links) o v t s = refl
results-at e scope h (BExpr-F.Path whole steps) o v t s = refl
results-at e scope h (BExpr-F.Window f args) o v t s = refl
results-at e scope h (BExpr-F.Aggregate f args) o v t s = absurd (no-aggregate e scope h f args o)

one-result : (e : BExpr) (scope : Scope) → expr_fits e scope position.Window ≡ true → (t : Grid) (i : ℕ) → results e t i [] ≡ val e t i [] ∷ []
unfolding results
one-result e scope h t i = results-at e scope h (out-BExpr e) refl (val e t i []) t []

one-name : (b : BItem) (cs : List Column) → item_fits (scope_of cs) position.Window b ≡ true → (a : List ℕ) × (b.names ≡ a ∷ []) × (expr_fits b.expr (scope_of cs) position.Window ≡ true)
unfolding item_fits has_its_names
one-name b cs f =
    let p = and_parts (expr_fits b.expr (scope_of cs) position.Window) (length b.names == length (result_kinds b.expr cs)) f in
    let one : (length b.names == 1) ≡ true = ap (λ (ks : List Kind). length b.names == length ks) (sym (one-kind b.expr (scope_of cs) p.0 cs)) ∙ p.1 in
    let a = one-long b.names one in
    (a.0, a.1, p.0)

-- The item of a name.

record Chosen (items : List BItem) (cs : List Column) (n : List ℕ) (e : BExpr) : Type 0 where
  value : (t : Grid) (i : ℕ) → named (items_columns items cs) (items_values items t i) n ≡ val e t i []
  type : column_kind n (items_columns items cs) ≡ Some (typed e cs)
  fits : expr_fits e (scope_of cs) position.Window ≡ true

item-columns : (b : BItem) (bs : List BItem) (cs : List Column) (a : List ℕ) → b.names ≡ a ∷ [] → expr_fits b.expr (scope_of cs) position.Window ≡ true → items_columns (b ∷ bs) cs ≡ record { name = a; kind = typed b.expr cs } ∷ items_columns bs cs
unfolding items_columns named_columns
item-columns b bs cs a e f = rw (e, one-kind b.expr (scope_of cs) f cs) refl

item-values : (b : BItem) (bs : List BItem) (cs : List Column) (t : Grid) (i : ℕ) → expr_fits b.expr (scope_of cs) position.Window ≡ true → items_values (b ∷ bs) t i ≡ val b.expr t i [] ∷ items_values bs t i
unfolding items_values
item-values b bs cs t i f = rw (one-result b.expr (scope_of cs) f t i) refl

item-cons : (b : BItem) (bs : List BItem) (a n : List ℕ) → b.names ≡ a ∷ [] → item_expr (b ∷ bs) n ≡ cond (bytes_eq a n) (Some b.expr) (item_expr bs n)
unfolding item_expr is_name_among
item-cons b bs a n e = rw e (elim (cases_Bool (bytes_eq a n)) [ inl t ↦ rw t refl | inr f ↦ rw f refl ])

no-item : (cs : List Column) (n : List ℕ) (e : BExpr) → item_expr [] n ≡ Some e → Chosen [] cs n e
unfolding item_expr
no-item cs n e h = absurd cc

first-item : (b : BItem) (bs : List BItem) (cs : List Column) (a n : List ℕ) → b.names ≡ a ∷ [] → expr_fits b.expr (scope_of cs) position.Window ≡ true → bytes_eq a n ≡ true → Chosen (b ∷ bs) cs n b.expr
unfolding named
first-item b bs cs a n e f same = record {
  value = λ t i. ap₂ (λ ds vs. named ds vs n) (item-columns b bs cs a e f) (item-values b bs cs t i f) ∙ rw same refl;
  type = ap (column_kind n) (item-columns b bs cs a e f) ∙ (kind-cons (record { name = a; kind = typed b.expr cs }) (items_columns bs cs) n ∙ rw same refl);
  fits = f;
}

later-item : (b : BItem) (bs : List BItem) (cs : List Column) (a n : List ℕ) (x : BExpr) → b.names ≡ a ∷ [] → expr_fits b.expr (scope_of cs) position.Window ≡ true → bytes_eq a n ≡ false → Chosen bs cs n x → Chosen (b ∷ bs) cs n x
unfolding named
later-item b bs cs a n x e f differs h = record {
  value = λ t i. ap₂ (λ ds vs. named ds vs n) (item-columns b bs cs a e f) (item-values b bs cs t i f) ∙ rw differs (h.value t i);
  type = ap (column_kind n) (item-columns b bs cs a e f) ∙ (kind-cons (record { name = a; kind = typed b.expr cs }) (items_columns bs cs) n ∙ rw differs h.type);
  fits = h.fits;
}

chosen-item : (items : List BItem) (cs : List Column) → items_fit items cs position.Window ≡ true → (n : List ℕ) (e : BExpr) → item_expr items n ≡ Some e → Chosen items cs n e
unfolding items_fit
chosen-item [] cs f n e h = no-item cs n e h
chosen-item (b ∷ bs) cs f n e h =
    let g = and_parts (item_fits (scope_of cs) position.Window b) (list_all (item_fits (scope_of cs) position.Window) bs) f in
    let o = one-name b cs g.0 in
    elim (cases_Bool (bytes_eq o.0 n)) [
      | inl t ↦
          let c : Some b.expr ≡ Some e = let i = sym (item-cons b bs o.0 n o.1) ∙ h in rw t at i in
          let same : b.expr ≡ e = cc in
          subst (Chosen (b ∷ bs) cs n) same (first-item b bs cs o.0 n o.1 o.2 t)
      | inr u ↦
          let c : item_expr bs n ≡ Some e = let i = sym (item-cons b bs o.0 n o.1) ∙ h in rw u at i in
          later-item b bs cs o.0 n e o.1 o.2 u (chosen-item bs cs g.1 n e c)
    ]

-- The chosen items.

then-column : (o : Option (List ℕ)) (items : List BItem) (e : BExpr) → option_and_then (item_expr items) o ≡ Some e → (n : List ℕ) × (o ≡ Some n) × (item_expr items n ≡ Some e)
then-column None items e h = absurd cc
then-column (Some n) items e h = (n, refl, h)

-- What the chosen items say of a table of these columns.
record Choice (first second items : List BItem) (cs : List Column) : Type 0 where
  columns : items_columns items cs ≡ items_columns second (items_columns first cs)
  fits : items_fit items cs position.Window ≡ true
  values : (t : Grid) → t.columns ≡ cs → (i : ℕ) → Member i (places t) → items_values items t i ≡ items_values second (project_table first t) i

projected-row : (first : List BItem) (t : Grid) (i : ℕ) → Member i (places t) → row_at (project_table first t).lines i ≡ items_values first t i
unfolding project_table places places_below
projected-row first t i m = get_or-map-range_with_len (λ j. items_values first t j) 0 (length t.lines) i i [] (place-below t i m) (omega arith)

columns-of : (items : List BItem) (t : Grid) → (project_table items t).columns ≡ items_columns items t.columns
unfolding project_table
columns-of items t = refl

open-table : (items : List BItem) (t : Grid) → project_table items t ≡ record { columns = items_columns items t.columns; lines = map (λ i. items_values items t i) (places t) }
unfolding project_table
open-table items t = refl

projected-cell : (first : List BItem) (cs : List Column) (n : List ℕ) (e : BExpr) → Chosen first cs n e → (t : Grid) → t.columns ≡ cs → (i : ℕ) → Member i (places t) → cell (project_table first t) i n ≡ val e t i []
projected-cell first cs n e c t same i m =
    let u = project_table first t in
    cell-alone u i n ∙ (cell-named u.columns (row_at u.lines i) n ∙ (ap₂ (λ ds vs. named ds vs n) (columns-of first t ∙ ap (items_columns first) same) (projected-row first t i m) ∙ c.value t i))

no-choice : (first items : List BItem) (cs : List Column) → chosen_items first [] ≡ Some items → Choice first [] items cs
unfolding chosen_items items_columns items_fit items_values
no-choice first items cs h =
    let none : [] ≡ items = cc in
    subst (λ xs. Choice first [] xs cs) none (record { columns = refl; fits = refl; values = λ t same i m. refl })

more-choice : (first : List BItem) (b : BItem) (bs : List BItem) (cs : List Column) (n : List ℕ) (e : BExpr) (more : List BItem) → b.expr ≡ E.Column n → Chosen first cs n e → item_fits (scope_of (items_columns first cs)) position.Window b ≡ true → Choice first bs more cs → Choice first (b ∷ bs) (renamed_item b.names e ∷ more) cs
unfolding items_columns items_fit items_values item_fits has_its_names typed
more-choice first b bs cs n e more is c f rest =
    let mid = items_columns first cs in
    let kinds : result_kinds e cs ≡ result_kinds b.expr mid =
    one-kind e (scope_of cs) c.fits cs ∙ sym (ap (λ x. result_kinds x mid) is ∙ (result-Column n mid ∙ ap (λ o. unwrap_or o kind.Dynamic ∷ []) (kind-Column n mid ∙ c.type))) in
    let p = and_parts (expr_fits b.expr (scope_of mid) position.Window) (length b.names == length (result_kinds b.expr mid)) f in
    let long : (length b.names == length (result_kinds e cs)) ≡ true = ap (λ (ks : List Kind). length b.names == length ks) kinds ∙ p.1 in
    record {
      columns = ap₂ (λ (ks : List Kind) (ds : List Column). named_columns b.names ks ++ ds) kinds rest.columns;
      fits = rw (c.fits, long) rest.fits;
      values = λ t same i m.
          let u = project_table first t in
          ap₂ (λ (vs : List Value) (ws : List Value). vs ++ ws)
          (one-result e (scope_of cs) c.fits t i ∙ (ap (λ v. v ∷ []) (sym (projected-cell first cs n e c t same i m)) ∙ sym (ap (λ x. results x u i []) is ∙ (results-plain (E.Column n) (plain-Column n) u i [] ∙ ap (λ v. v ∷ []) (val-Column n u i [])))))
          (rest.values t same i m);
    }

some-items : (xs ys : List BItem) → Some xs ≡ Some ys → xs ≡ ys
some-items xs ys e = cc

parts : (b : BItem) (bs : List BItem) (mid : List Column) → items_fit (b ∷ bs) mid position.Window ≡ true → (item_fits (scope_of mid) position.Window b ≡ true) × (items_fit bs mid position.Window ≡ true)
unfolding items_fit
parts b bs mid e = and_parts (item_fits (scope_of mid) position.Window b) (list_all (item_fits (scope_of mid) position.Window) bs) e

choice : (first second items : List BItem) (cs : List Column) → items_fit first cs position.Window ≡ true → items_fit second (items_columns first cs) position.Window ≡ true → chosen_items first second ≡ Some items → Choice first second items cs
unfolding chosen_items
choice first [] items cs f g h = no-choice first items cs h
choice first (b ∷ bs) items cs f g h =
    let both = both-some (option_and_then (item_expr first) (column_of b.expr)) (chosen_items first bs) (λ e more. Some (renamed_item b.names e ∷ more)) items h in
    let e = both.0 in
    let more = both.1 in
    let c = then-column (column_of b.expr) first e both.2 in
    let p = parts b bs (items_columns first cs) g in
    let same : renamed_item b.names e ∷ more ≡ items = some-items (renamed_item b.names e ∷ more) items both.4 in
    subst (λ xs. Choice first (b ∷ bs) xs cs) same (more-choice first b bs cs c.0 e more (column-is b.expr c.0 c.1) (chosen-item first cs f c.0 e c.2) p.0 (choice first bs more cs f p.1 both.3))

places-same : (t u : Grid) → length t.lines ≡ length u.lines → places t ≡ places u
unfolding places
places-same t u e = ap places_below e

both-table : (first second items : List BItem) (t : Grid) → Choice first second items t.columns → project_table items t ≡ project_table second (project_table first t)
both-table first second items t c =
    open-table items t
    ∙ (ap₂ (λ (cs : List Column) (ls : List (List Value)). record { columns = cs; lines = ls }) (c.columns ∙ ap (items_columns second) (sym (columns-of first t)))
    (map-members (λ i. items_values items t i) (λ i. items_values second (project_table first t) i) (places t) (λ i m. c.values t refl i m)
    ∙ ap (map (λ i. items_values second (project_table first t) i)) (places-same t (project_table first t) (sym (project-long first t))))
    ∙ sym (open-table second (project_table first t)))

pub projections-becomes : (k : Known) (inside : Bool) (cs : List Column) (first second items : List BItem) → chosen_items first second ≡ Some items → Becomes k inside cs (V.Project first ∷ V.Project second ∷ []) (V.Project items ∷ [])
projections-becomes k inside cs first second items h = pair-becomes k inside cs (V.Project first) (V.Project second) (V.Project items ∷ []) (λ mid ds e f.
    let a = answer-some (items_fit first cs position.Window) (items_columns first cs) mid (sym (op-Project first k inside cs) ∙ e) in
    let b = answer-some (items_fit second mid position.Window) (items_columns second mid) ds (sym (op-Project second k inside mid) ∙ f) in
    let fit : items_fit second (items_columns first cs) position.Window ≡ true = ap (λ c. items_fit second c position.Window) a.1 ∙ b.0 in
    let c = choice first second items cs a.0 fit h in (
      one-columns (V.Project items) k inside cs ∙ (op-Project items k inside cs
          ∙ (ap₂ answer_if (c.fits ∙ sym b.0) (c.columns ∙ ap (items_columns second) a.1) ∙ (sym (op-Project second k inside mid) ∙ f))),
      λ w t s g.
          project-means items w t ∙ (both-table first second items t (subst (Choice first second items) (sym g.0) c) ∙ (ap (project_table second) (sym (project-means first w t)) ∙ sym (project-means second w (op_means (V.Project first) w t)))),
    ))

map-some : (o : Option (List BItem)) (zs : List Op) → option_map (λ items. V.Project items ∷ []) o ≡ Some zs → (items : List BItem) × (o ≡ Some items) × (V.Project items ∷ [] ≡ zs)
map-some None zs e = absurd cc
map-some (Some items) zs e = (items, refl, cc)

pub two_projections-improves : (k : Known) (inside : Bool) (cs : List Column) (x y : Op) (zs : List Op) → two_projections x y ≡ Some zs → Improves k inside cs (x ∷ y ∷ []) zs
unfolding two_projections
two_projections-improves k inside cs x y zs e =
    let r = both-some (project_of x) (project_of y) (λ first second. option_map (λ items. V.Project items ∷ []) (chosen_items first second)) zs e in
    let s = map-some (chosen_items r.0 r.1) zs r.4 in
    pair-along k inside cs x y (V.Project r.0) (V.Project r.1) zs (V.Project s.0 ∷ []) (project-is x r.0 r.2) (project-is y r.1 r.3) s.2 (record {
      becomes = projections-becomes k inside cs r.0 r.1 s.0 s.1;
      lighter = two-to-one (V.Project r.0) (V.Project r.1) (V.Project s.0) other other other (weight-Project r.0) (weight-Project r.1) (weight-Project s.0) (omega arith) (omega arith) (omega arith);
      no_longer = omega arith;
      no_larger = omega (arith, op_size-Project r.0, op_size-Project r.1, op_size-Project s.0, chosen-small r.0 r.1 s.0 s.1);
    })
