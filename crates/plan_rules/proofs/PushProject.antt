-- A filter in front of `project`, under the names that the columns have there.
use Rattle.std.proofs.Common.{◌≡◌, ◌==◌, ℕ, suc, Bool, true, false, List, [], ◌∷◌, length, refl, sym, ap, ap₂, ◌∙◌, inl, inr, arith}
use Rattle.std.specs.Prelude.{◌&&◌, cond, bytes_eq, is_some, Option, None, Some, unwrap_or}
use Rattle.std.specs.List.{list_all}
use Rattle.std.proofs.lemmas.Bool.{and_parts, cases_Bool}
use Rattle.kql_cells.specs.Table.{Grid}
use Rattle.kql_cells.specs.declared.schema.Column.{Column}
use Rattle.kql_cells.specs.declared.value.Kind.{Kind}
use Rattle.kql_cells.specs.declared.value.Kind.TheVariants as kind
use Rattle.kql_cells.specs.declared.value.Value.{Value}
use Rattle.kql_functions.specs.Kinds.{same_kind}
use Rattle.kql_bound.specs.declared.expr.BExpr.{BExpr, out-BExpr, roll-BExpr, roll-out-BExpr}
use Rattle.kql_bound.specs.declared.expr.BExpr.TheOpen.{BExpr-F}
use Rattle.kql_bound.specs.declared.expr.BExpr.TheVariants as E
use Rattle.kql_bound.specs.declared.parts.BItem.{BItem}
use Rattle.kql_bound.specs.declared.plan.Op.{Op}
use Rattle.kql_bound.specs.declared.plan.Op.TheVariants as V
use Rattle.kql_meaning.specs.declared.position.Position.{Position}
use Rattle.kql_meaning.specs.declared.position.Position.TheVariants as position
use Rattle.kql_meaning.specs.Expressions.{column_kind, kind_of, val}
use Rattle.kql_meaning.specs.Fits.{Known, op_columns}
use Rattle.kql_meaning.specs.FittingExpressions.{column_of, column_step, expr_fits, scope_of, takes_columns}
use Rattle.kql_meaning.specs.FittingOperators.{has_its_names, item_fits, items_fit, where_fits}
use Rattle.kql_meaning.specs.Items.{items_columns, items_values, named_columns}
use Rattle.kql_meaning.specs.Results.{result_kinds, result_kinds_step, typed}
use Rattle.kql_meaning.specs.Plans.{op_means}
use Rattle.kql_meaning.specs.Project.{project_table}
use Rattle.kql_meaning.specs.Tables.{cell, has_column, is_name_among}
use Rattle.kql_meaning.specs.Values.{holds}
use Rattle.kql_meaning.specs.Where.{where_table}
use Rattle.kql_meaning.proofs.KindLaws.{kind-Column}
use Rattle.kql_meaning.proofs.MemberLaws.{Member}
use Rattle.kql_meaning.proofs.ValueLaws.{val-Column}
use Rattle.kql_meaning.proofs.ExpressionFitLaws.{fits-Column}
use Rattle.kql_meaning.proofs.OperatorFitLaws.{op-Project, op-Where}
use Rattle.kql_fit_laws.proofs.RowFacts.{answer-some, columns-some}
use Rattle.kql_meaning.proofs.NamedCells.{cell-named, has-cons, has-none, kind-cons, named}
use Rattle.plan_rules.proofs.PushExtend.{kept-if}
use Rattle.plan_rules.proofs.ReadFits.{SameColumns, fits-as-alike}
use Rattle.kql_meaning.proofs.PlainLaws.{plain-Aggregate}
use Rattle.plan_rules.proofs.ReadValues.{agrees, names-plain, plain-of}
use Rattle.plan_rules.proofs.RowWise.{project-wise, where-below}
use Rattle.plan_rules.proofs.RuleViews.{both-some, filter-is, pair-along, pair-becomes, project-is, two-fit, when-some}
use Rattle.plan_rules.proofs.ShortRules.{project-means, where-means}
use Rattle.plan_rules.proofs.Sizes.{renamed-small}
use Rattle.plan_rules.proofs.Weights.{weight-Project, weight-Where}
use Rattle.plan_rules.specs.Becomes.{Becomes}
use Rattle.plan_rules.specs.Improves.{Improves}
use Rattle.plan_rules.specs.OwnNames.{inner_name, inner_or_same}
use Rattle.plan_rules.specs.Reads.{reads_only, with_names}
use Rattle.plan_rules.specs.Rules.{project_then_filter, when}
use Rattle.plan_rules.specs.Views.{filter_of, project_of}
use Rattle.plan_rules.specs.Weight.{IsLighter, ops_weight}
use Rattle.kql_meaning.specs.RowByRow.{is_plain, are_plain}
use Rattle.kql_meaning.proofs.RowByRowLaws.{results-plain, passes, alone}

-- An expression that is a column.

column-at : (f : BExpr-F BExpr) (m : List ℕ) → column_step f ≡ Some m → f ≡ BExpr-F.Column m
column-at (BExpr-F.Column n) m h = let same : n ≡ m = cc in ap (λ x. BExpr-F.Column x) same
column-at _ m h = absurd cc

pub column-is : (e : BExpr) (m : List ℕ) → column_of e ≡ Some m → e ≡ E.Column m
unfolding column_of
column-is e m h = sym (roll-out-BExpr e) ∙ (ap roll-BExpr (column-at (out-BExpr e) m h) ∙ E.rolls-Column m)

-- A plain item has one result column, and so one name where it fits.

kinds-step : (e : BExpr) → is_plain e ≡ true → (y : BExpr-F BExpr) → out-BExpr e ≡ y → (k : Kind) (cs : List Column) → result_kinds_step y k cs ≡ k ∷ []
kinds-step e r (BExpr-F.Aggregate f args) o k cs =
    let same : e ≡ E.Aggregate f args = sym (roll-out-BExpr e) ∙ (ap roll-BExpr o ∙ E.rolls-Aggregate f args) in
    let no : false ≡ true = sym (plain-Aggregate f args) ∙ (ap is_plain (sym same) ∙ r) in
    absurd cc
kinds-step e r _ o k cs = refl

pub kinds-plain : (e : BExpr) → is_plain e ≡ true → (cs : List Column) → result_kinds e cs ≡ typed e cs ∷ []
unfolding result_kinds
kinds-plain e r cs = kinds-step e r (out-BExpr e) refl (typed e cs) cs

pub one-long : (ns : List (List ℕ)) → (length ns == 1) ≡ true → (a : List ℕ) × (ns ≡ a ∷ [])
one-long [] h = absurd cc
one-long (a ∷ []) h = (a, refl)
one-long (a ∷ b ∷ ns) h = let two : (suc (suc (length ns)) == 1) ≡ false = grind arith in let no : false ≡ true = sym two ∙ h in absurd cc

pub one-name : (at : Position) (b : BItem) (cs : List Column) → is_plain b.expr ≡ true → item_fits (scope_of cs) at b ≡ true → (a : List ℕ) × (b.names ≡ a ∷ []) × (expr_fits b.expr (scope_of cs) at ≡ true)
unfolding item_fits has_its_names
one-name at b cs r f =
    let p = and_parts (expr_fits b.expr (scope_of cs) at) (length b.names == length (result_kinds b.expr cs)) f in
    let one : (length b.names == 1) ≡ true = ap (λ (ks : List Kind). length b.names == length ks) (sym (kinds-plain b.expr r cs)) ∙ p.1 in
    let a = one-long b.names one in
    (a.0, a.1, p.0)

-- What one item adds in front.

pub item-columns : (b : BItem) (bs : List BItem) (cs : List Column) (a : List ℕ) → is_plain b.expr ≡ true → b.names ≡ a ∷ [] → items_columns (b ∷ bs) cs ≡ record { name = a; kind = typed b.expr cs } ∷ items_columns bs cs
unfolding items_columns named_columns
item-columns b bs cs a r e = rw (e, kinds-plain b.expr r cs) refl

item-values : (b : BItem) (bs : List BItem) (t : Grid) → is_plain b.expr ≡ true → items_values (b ∷ bs) t 0 ≡ val b.expr t 0 [] ∷ items_values bs t 0
unfolding items_values
item-values b bs t r = rw (results-plain b.expr r t 0 []) refl

inner-cons : (b : BItem) (bs : List BItem) (a n : List ℕ) → b.names ≡ a ∷ [] → inner_name (b ∷ bs) n ≡ cond (bytes_eq a n) (column_of b.expr) (inner_name bs n)
unfolding inner_name is_name_among
inner-cons b bs a n e = rw e (elim (cases_Bool (bytes_eq a n)) [ inl t ↦ rw t refl | inr f ↦ rw f refl ])

-- A column has a type.
kind-next : (c : Column) (cs : List Column) (n : List ℕ) → (has_column n cs ≡ true → (k : Kind) × (column_kind n cs ≡ Some k)) → (b : Bool) → cond b true (has_column n cs) ≡ true → (k : Kind) × (cond b (Some c.kind) (column_kind n cs) ≡ Some k)
kind-next c cs n rest true h = (c.kind, refl)
kind-next c cs n rest false h = rest h

pub kind-there : (cs : List Column) (n : List ℕ) → has_column n cs ≡ true → (k : Kind) × (column_kind n cs ≡ Some k)
kind-there [] n h = let no : false ≡ true = sym (has-none n) ∙ h in absurd cc
kind-there (c ∷ cs) n h =
    let q = kind-next c cs n (kind-there cs n) (bytes_eq c.name n) (sym (has-cons c cs n) ∙ h) in
    (q.0, kind-cons c cs n ∙ q.1)

-- What an item of a name that is a column says of the answer.
pub record Inner (items : List BItem) (cs : List Column) (n m : List ℕ) : Type 0 where
  pub value : (row : List Value) → named (items_columns items cs) (items_values items (alone cs row) 0) n ≡ cell (alone cs row) 0 m
  pub here : has_column n (items_columns items cs) ≡ true
  pub there : has_column m cs ≡ true
  pub type : column_kind n (items_columns items cs) ≡ column_kind m cs

no-inner : (cs : List Column) (n m : List ℕ) → inner_name [] n ≡ Some m → Inner [] cs n m
unfolding inner_name
no-inner cs n m e = absurd cc

first-item : (at : Position) (b : BItem) (bs : List BItem) (cs : List Column) (a n m : List ℕ) → is_plain b.expr ≡ true → b.names ≡ a ∷ [] → expr_fits b.expr (scope_of cs) at ≡ true → bytes_eq a n ≡ true → column_of b.expr ≡ Some m → Inner (b ∷ bs) cs n m
unfolding named typed
first-item at b bs cs a n m r e f same c =
    let is = column-is b.expr m c in
    let there : has_column m cs ≡ true = (and_parts (takes_columns at) (has_column m cs) (sym (fits-Column m (scope_of cs) at) ∙ (ap (λ x. expr_fits x (scope_of cs) at) (sym is) ∙ f))).1 in
    let k = kind-there cs m there in
    let known : kind_of b.expr cs ≡ Some k.0 = ap (λ x. kind_of x cs) is ∙ (kind-Column m cs ∙ k.1) in
    record {
      value = λ row. ap₂ (λ ds vs. named ds vs n) (item-columns b bs cs a r e) (item-values b bs (alone cs row) r) ∙ rw same (ap (λ x. val x (alone cs row) 0 []) is ∙ val-Column m (alone cs row) 0 []);
      here = ap (has_column n) (item-columns b bs cs a r e) ∙ (has-cons (record { name = a; kind = typed b.expr cs }) (items_columns bs cs) n ∙ rw same refl);
      there = there;
      type = ap (column_kind n) (item-columns b bs cs a r e) ∙ (kind-cons (record { name = a; kind = typed b.expr cs }) (items_columns bs cs) n ∙ rw same (ap (λ x. Some (unwrap_or x kind.Dynamic)) known ∙ sym k.1));
    }

later-item : (b : BItem) (bs : List BItem) (cs : List Column) (a n m : List ℕ) → is_plain b.expr ≡ true → b.names ≡ a ∷ [] → bytes_eq a n ≡ false → Inner bs cs n m → Inner (b ∷ bs) cs n m
unfolding named
later-item b bs cs a n m r e other_name h = record {
  value = λ row. ap₂ (λ ds vs. named ds vs n) (item-columns b bs cs a r e) (item-values b bs (alone cs row) r) ∙ rw other_name (h.value row);
  here = ap (has_column n) (item-columns b bs cs a r e) ∙ (has-cons (record { name = a; kind = typed b.expr cs }) (items_columns bs cs) n ∙ rw other_name h.here);
  there = h.there;
  type = ap (column_kind n) (item-columns b bs cs a r e) ∙ (kind-cons (record { name = a; kind = typed b.expr cs }) (items_columns bs cs) n ∙ rw other_name h.type);
}

pub inner-item : (at : Position) (items : List BItem) (cs : List Column) → are_plain items ≡ true → items_fit items cs at ≡ true → (n m : List ℕ) → inner_name items n ≡ Some m → Inner items cs n m
unfolding items_fit are_plain
inner-item at [] cs r f n m e = no-inner cs n m e
inner-item at (b ∷ bs) cs r f n m e =
    let p = and_parts (is_plain b.expr) (are_plain bs) r in
    let g = and_parts (item_fits (scope_of cs) at b) (list_all (item_fits (scope_of cs) at) bs) f in
    let o = one-name at b cs p.0 g.0 in
    elim (cases_Bool (bytes_eq o.0 n)) [
      | inl t ↦
          let c : column_of b.expr ≡ Some m = let i = sym (inner-cons b bs o.0 n o.1) ∙ e in rw t at i in
          first-item at b bs cs o.0 n m p.0 o.1 o.2 t c
      | inr u ↦
          let c : inner_name bs n ≡ Some m = let i = sym (inner-cons b bs o.0 n o.1) ∙ e in rw u at i in
          later-item b bs cs o.0 n m p.0 o.1 u (inner-item at bs cs p.1 g.1 n m c)
    ]

-- The filter.

abbrev known_inside : List BItem → List ℕ → Bool
known_inside items n = is_some (inner_name items n)

pub some-inner : (o : Option (List ℕ)) (n : List ℕ) → is_some o ≡ true → (m : List ℕ) × (o ≡ Some m) × (unwrap_or o n ≡ m)
some-inner None n h = absurd cc
some-inner (Some m) n h = (m, refl, refl)

project-passes : (items : List BItem) (q : BExpr) (cs : List Column) → are_plain items ≡ true → items_fit items cs position.Window ≡ true → reads_only (known_inside items) q ≡ true → (row out : List Value) → Member out (items_values items (alone cs row) 0 ∷ []) → passes q (items_columns items cs) out ≡ passes (with_names (inner_or_same items) q) cs row
project-passes items q cs p f r row out (inl e) =
    ap (λ (o : List Value). passes q (items_columns items cs) o) (sym e)
    ∙ ap holds (sym ((agrees q (known_inside items) (inner_or_same items) r).0 (alone cs row) (alone (items_columns items cs) (items_values items (alone cs row) 0)) 0 0 []
    (λ n h.
    let s = some-inner (inner_name items n) n h in
    ap (λ m. cell (alone cs row) 0 m) s.2 ∙ sym (cell-named (items_columns items cs) (items_values items (alone cs row) 0) n ∙ (inner-item position.Window items cs p f n s.0 s.1).value row))))
project-passes items q cs p f r row out (inr m) = absurd m

project-columns : (items : List BItem) (cs : List Column) → are_plain items ≡ true → items_fit items cs position.Window ≡ true → SameColumns (known_inside items) (inner_or_same items) cs (items_columns items cs)
project-columns items cs p f n h =
    let s = some-inner (inner_name items n) n h in
    let i = inner-item position.Window items cs p f n s.0 s.1 in
    (ap (λ m. has_column m cs) s.2 ∙ (i.there ∙ sym i.here), ap (λ m. column_kind m cs) s.2 ∙ sym i.type)

where-inside : (items : List BItem) (q : BExpr) (cs : List Column) → are_plain items ≡ true → items_fit items cs position.Window ≡ true → reads_only (known_inside items) q ≡ true → where_fits (with_names (inner_or_same items) q) cs ≡ where_fits q (items_columns items cs)
unfolding where_fits
where-inside items q cs p f r = fits-as-alike (same_kind kind.Bool) q (known_inside items) (inner_or_same items) r cs (items_columns items cs) (project-columns items cs p f) position.Window

reads-more : (items : List BItem) (q : BExpr) → reads_only (known_inside items) q ≡ true → is_plain q ≡ true
reads-more items q r = plain-of (known_inside items) q r

pub project-filter : (items : List BItem) (q : BExpr) (t : Grid) → are_plain items ≡ true → items_fit items t.columns position.Window ≡ true → reads_only (known_inside items) q ≡ true → where_table q (project_table items t) ≡ project_table items (where_table (with_names (inner_or_same items) q) t)
project-filter items q t p f r =
    where-below q (with_names (inner_or_same items) q) (reads-more items q r) (names-plain q (inner_or_same items) (reads-more items q r)) (project_table items) (items_columns items) (λ cs row. items_values items (alone cs row) 0 ∷ []) (project-wise items p) t
    (λ row m out n. project-passes items q t.columns p f r row out n)

pub project-filter-becomes : (k : Known) (inside : Bool) (cs : List Column) (items : List BItem) (q : BExpr) → are_plain items ≡ true → reads_only (known_inside items) q ≡ true → Becomes k inside cs (V.Project items ∷ V.Where q ∷ []) (V.Where (with_names (inner_or_same items) q) ∷ V.Project items ∷ [])
project-filter-becomes k inside cs items q p r = pair-becomes k inside cs (V.Project items) (V.Where q) (V.Where (with_names (inner_or_same items) q) ∷ V.Project items ∷ []) (λ mid ds e f.
    let r2 = with_names (inner_or_same items) q in
    let a = answer-some (items_fit items cs position.Window) (items_columns items cs) mid (sym (op-Project items k inside cs) ∙ e) in
    let b = columns-some (where_fits q mid) mid ds (sym (op-Where q k inside mid) ∙ f) in
    let fit : where_fits r2 cs ≡ true = where-inside items q cs p a.0 r ∙ (ap (where_fits q) a.1 ∙ b.0) in
    let first : op_columns (V.Where r2) k inside cs ≡ Some cs = op-Where r2 k inside cs ∙ kept-if (where_fits r2 cs) cs fit in (
      two-fit k inside cs cs (V.Where r2) (V.Project items) ds first (e ∙ ap (λ c. Some c) b.1),
      λ w t s h.
          let fits : items_fit items t.columns position.Window ≡ true = ap (λ c. items_fit items c position.Window) h.0 ∙ a.0 in
          project-means items w (op_means (V.Where r2) w t) ∙ (ap (project_table items) (where-means r2 w t) ∙ (sym (project-filter items q t p fits r) ∙ (ap (where_table q) (sym (project-means items w t)) ∙ sym (where-means q w (op_means (V.Project items) w t))))),
    ))

-- Another filter goes in front.
project-lighter : (items : List BItem) (r q : BExpr) → IsLighter (ops_weight (V.Where r ∷ V.Project items ∷ [])) (ops_weight (V.Project items ∷ V.Where q ∷ []))
project-lighter items r q = rw (weight-Where r, weight-Where q, weight-Project items) (record { movers = omega arith; others = omega arith; load = omega arith })

pub project_then_filter-improves : (k : Known) (inside : Bool) (cs : List Column) (x y : Op) (zs : List Op) → project_then_filter x y ≡ Some zs → Improves k inside cs (x ∷ y ∷ []) zs
unfolding project_then_filter
project_then_filter-improves k inside cs x y zs e =
    let r = both-some (project_of x) (filter_of y) (λ items q. when (are_plain items && reads_only (known_inside items) q) (V.Where (with_names (inner_or_same items) q) ∷ V.Project items ∷ [])) zs e in
    let s = when-some (are_plain r.0 && reads_only (known_inside r.0) r.1) (V.Where (with_names (inner_or_same r.0) r.1) ∷ V.Project r.0 ∷ []) zs r.4 in
    let b = and_parts (are_plain r.0) (reads_only (known_inside r.0) r.1) s.0 in
    pair-along k inside cs x y (V.Project r.0) (V.Where r.1) zs (V.Where (with_names (inner_or_same r.0) r.1) ∷ V.Project r.0 ∷ []) (project-is x r.0 r.2) (filter-is y r.1 r.3) s.1 (record {
      becomes = project-filter-becomes k inside cs r.0 r.1 b.0 b.1;
      lighter = project-lighter r.0 (with_names (inner_or_same r.0) r.1) r.1;
      no_longer = omega arith;
      no_larger = renamed-small (V.Project r.0) (inner_or_same r.0) r.1;
    })
