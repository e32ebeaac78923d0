-- A lifted prefix fits the columns of a table with the answers of its calls beside, and the `project` behind it gives the columns that the
-- prefix gives of the table alone.
use Rattle.std.proofs.Common.{◌≡◌, ℕ, Bool, true, false, not, List, [], ◌∷◌, ◌++◌, length, map, refl, sym, ap, ap₂, ◌∙◌, subst, inl, inr}
use Rattle.std.specs.Prelude.{◌&&◌, ◌==◌, fold, Option, None, Some}
use Rattle.std.specs.List.{flat_map, list_all}
use Rattle.std.proofs.lemmas.Bool.{and_parts}
use Rattle.kql_cells.specs.Table.{Grid}
use Rattle.kql_cells.specs.declared.schema.Column.{Column}
use Rattle.kql_cells.specs.declared.value.Kind.{Kind}
use Rattle.kql_cells.specs.declared.value.Kind.TheVariants as kind
use Rattle.kql_functions.specs.Kinds.{same_kind}
use Rattle.kql_bound.specs.declared.expr.BExpr.{BExpr}
use Rattle.kql_bound.specs.declared.expr.BExpr.TheVariants as E
use Rattle.kql_bound.specs.declared.parts.BItem.{BItem}
use Rattle.kql_bound.specs.declared.plan.Op.{Op, out-Op, roll-Op, roll-out-Op}
use Rattle.kql_bound.specs.declared.plan.Op.TheOpen.{Op-F}
use Rattle.kql_bound.specs.declared.plan.Op.TheVariants as V
use Rattle.kql_bound.specs.declared.plan.Plan.{Plan}
use Rattle.kql_meaning.specs.declared.position.Position.TheVariants as position
use Rattle.kql_meaning.specs.Expressions.{kind_of}
use Rattle.kql_meaning.specs.Extend.{extend_columns, extend_table}
use Rattle.kql_meaning.specs.Fits.{Known, op_columns, ops_columns}
use Rattle.kql_meaning.specs.FittingExpressions.{expr_fits, fits_as, has_kind, scope_of, takes_columns}
use Rattle.kql_meaning.specs.FittingOperators.{answer_if, are_distinct, columns_if, has_its_names, is_empty, item_fits, items_fit, where_fits}
use Rattle.kql_meaning.specs.Items.{items_columns, items_names, without}
use Rattle.kql_meaning.specs.Plans.{World, op_means}
use Rattle.kql_meaning.specs.Tables.{has_column, is_name_among, names_of}
use Rattle.kql_meaning.specs.Where.{where_table}
use Rattle.kql_meaning.proofs.ExpressionFitLaws.{fits-Column}
use Rattle.kql_meaning.proofs.MemberLaws.{Member, member-left, member-right}
use Rattle.kql_meaning.proofs.OperatorFitLaws.{after, after-none, after-some, op-Extend, op-Project, op-Where, ops-fold, ops-start, stays-none}
use Rattle.kql_meaning.proofs.ResultLaws.{result-Column}
use Rattle.pattern_lift.specs.declared.calls.PatternCall.{PatternCall}
use Rattle.pattern_lift.specs.Calls.{calls, calls_are_lent, calls_in_items, is_among}
use Rattle.pattern_lift.specs.Derived.{name_of_call}
use Rattle.pattern_lift.specs.Lifted.{inside, inside_step, kept, lifted, lifted_item, lifted_items}
use Rattle.pattern_lift.specs.Marks.{begins_with}
use Rattle.pattern_lift.specs.Prefixes.{calls_at, calls_at_step, left_of, names_behind, names_set, sets}
use Rattle.pattern_laws.specs.Liftable.{is_readable, item_is_liftable, op_is_liftable, op_liftable_step, prefix_is_liftable}
use Rattle.pattern_laws.specs.LawsOfExpressions.{HasAnswers, IsBeside}
use Rattle.pattern_laws.specs.Meaning.{Told, told_extend, told_op, told_where}
use Rattle.pattern_laws.proofs.BesideLaws.{AreApart, IsOwn, distinct-apart, has-member, kept-columns, kind-found, kind-has}
use Rattle.pattern_laws.proofs.FittedExpressions.{lifted-fits}
use Rattle.pattern_laws.proofs.ItemLaws.{AllGood, columns-lifted, good-items, kind-lifted, names-lifted, names-of-items, plainly}
use Rattle.kql_meaning.proofs.NamedCells.{has-none}
use Rattle.pattern_laws.proofs.PrefixLaws.{apart-append, apart-without, has-names, left-parts, means-Extend, means-Where, not-set, one-step, set-alike-names, told-out}

-- Columns of an answer.

window-takes : takes_columns position.Window ≡ true
unfolding takes_columns
window-takes = refl

if-some : (b : Bool) (cs ds : List Column) → columns_if b cs ≡ Some ds → (b ≡ true) × (cs ≡ ds)
unfolding columns_if
if-some true cs ds h = (refl, cc)
if-some false cs ds h = absurd cc

columns-there : (b : Bool) (cs : List Column) → b ≡ true → columns_if b cs ≡ Some cs
unfolding columns_if
columns-there b cs h = rw h refl

turned : (b : Bool) → not b ≡ true → b ≡ false
turned true h = sym h
turned false h = refl

record Answered (b : Bool) (cs ds : List Column) : Type 0 where
  fits : b ≡ true
  some : is_empty cs ≡ false
  differ : are_distinct (names_of cs) ≡ true
  same : cs ≡ ds

answer-some : (b : Bool) (cs ds : List Column) → answer_if b cs ≡ Some ds → Answered b cs ds
unfolding answer_if
answer-some b cs ds h =
    let a = if-some (b && (not (is_empty cs) && are_distinct (names_of cs))) cs ds h in
    let p = and_parts b (not (is_empty cs) && are_distinct (names_of cs)) a.0 in
    let q = and_parts (not (is_empty cs)) (are_distinct (names_of cs)) p.1 in
    record { fits = p.0; some = turned (is_empty cs) q.0; differ = q.1; same = a.1 }

answer-there : (b : Bool) (cs : List Column) → b ≡ true → is_empty cs ≡ false → are_distinct (names_of cs) ≡ true → answer_if b cs ≡ Some cs
unfolding answer_if columns_if
answer-there b cs p q r = rw (p, q, r) refl

not-among : (cs : List Column) (n : List ℕ) → has_column n cs ≡ false → not (is_name_among (names_of cs) n) ≡ true
unfolding has_column
not-among cs n h = ap not h

pub apart-distinct : (cs : List Column) → AreApart cs → are_distinct (names_of cs) ≡ true
unfolding are_distinct names_of
apart-distinct [] a = refl
apart-distinct (c ∷ cs) a = rw (not-among cs c.name a.0, apart-distinct cs a.1) refl

-- A table beside one with columns has columns.
empty-not : (cs : List Column) (n : List ℕ) → has_column n cs ≡ true → is_empty cs ≡ false
unfolding is_empty
empty-not [] n h = let no : false ≡ true = sym (has-none n) ∙ h in absurd cc
empty-not (c ∷ cs) n h = refl

by-first : (marks : List ℕ) (t u : Grid) → IsOwn marks t → IsBeside marks t u → (cs ds : List Column) → t.columns ≡ cs → u.columns ≡ ds → is_empty cs ≡ false → is_empty ds ≡ false
unfolding is_empty
by-first marks t u own beside [] ds e f h = absurd cc
by-first marks t u own beside (c ∷ cs) ds e f h =
    let has : has_column c.name t.columns ≡ true = has-member t.columns c (subst (λ (xs : List Column). Member c xs) (sym e) (inl refl)) in
    let same = kind-has t.columns u.columns c.name (beside.kinds c.name (own.unmarked c.name has)) in
    empty-not ds c.name (ap (has_column c.name) (sym f) ∙ (same ∙ has))

some-beside : (marks : List ℕ) (t u : Grid) → IsOwn marks t → IsBeside marks t u → is_empty t.columns ≡ false → is_empty u.columns ≡ false
some-beside marks t u own beside some = by-first marks t u own beside t.columns u.columns refl refl some

-- Items.

module _ (told : Told) (marks : List ℕ) (lent : List (List ℕ)) (t u : Grid) (beside : IsBeside marks t u) where
  abbrev Answers : List PatternCall → Type 0
  Answers cs = (c : PatternCall) → Member c cs → is_among lent c.column ≡ true → HasAnswers told marks t u c

  names-kept : (b : BItem) → is_readable marks b.expr ≡ true → has_its_names b t.columns ≡ true → has_its_names (lifted_item marks b) u.columns ≡ true
  unfolding has_its_names
  names-kept b r h =
      let p = plainly marks b.expr r in
      ap (λ (ks : List Kind). length b.names == length ks) (p.1.kinds u.columns)
      ∙ (sym (ap (λ (ks : List Kind). length b.names == length ks) (p.0.kinds t.columns)) ∙ h)

  item-kept : (b : BItem) → calls_are_lent lent b.expr ≡ true → is_readable marks b.expr ≡ true → Answers (calls b.expr) → item_fits (scope_of t.columns) position.Window b ≡ true → item_fits (scope_of u.columns) position.Window (lifted_item marks b) ≡ true
  unfolding item_fits
  item-kept b l r h f =
      let p = and_parts (expr_fits b.expr (scope_of t.columns) position.Window) (has_its_names b t.columns) f in
      rw (lifted-fits told marks lent t u beside b.expr l r h position.Window window-takes p.0, names-kept b r p.1) refl

  items-kept : (items : List BItem) → AllGood marks lent items → Answers (calls_in_items items) → items_fit items t.columns position.Window ≡ true → items_fit (lifted_items marks items) u.columns position.Window ≡ true
  unfolding items_fit lifted_items calls_in_items
  items-kept [] g h f = refl
  items-kept (b ∷ bs) g h f =
      let p = and_parts (item_fits (scope_of t.columns) position.Window b) (list_all (item_fits (scope_of t.columns) position.Window) bs) f in
      let one = item-kept b g.0.lent_calls g.0.readable (λ c m. h c (member-left (calls b.expr) (flat_map (λ (x : BItem). calls x.expr) bs) c m)) p.0 in
      let more = items-kept bs g.1 (λ c m. h c (member-right (calls b.expr) (flat_map (λ (x : BItem). calls x.expr) bs) c m)) p.1 in
      rw (one, more) refl

  where-kept : (e : BExpr) → calls_are_lent lent e ≡ true → is_readable marks e ≡ true → Answers (calls e) → where_fits e t.columns ≡ true → where_fits (lifted marks e) u.columns ≡ true
  unfolding where_fits fits_as
  where-kept e l r h f =
      let p = and_parts (expr_fits e (scope_of t.columns) position.Window) (has_kind (same_kind kind.Bool) (kind_of e t.columns)) f in
      rw (lifted-fits told marks lent t u beside e l r h position.Window window-takes p.0, kind-lifted told marks lent t u beside e l r h, p.1) refl

-- The `project` behind.

kept-fit : (cs whole : List Column) → ((d : Column) → Member d cs → has_column d.name whole ≡ true) → items_fit (kept (names_of cs)) whole position.Window ≡ true
unfolding items_fit kept names_of item_fits has_its_names
kept-fit [] whole h = refl
kept-fit (c ∷ cs) whole h =
    let fit : expr_fits (E.Column c.name) (scope_of whole) position.Window ≡ true = fits-Column c.name (scope_of whole) position.Window ∙ rw (window-takes, h c (inl refl)) refl in
    let more = kept-fit cs whole (λ d m. h d (inr m)) in
    rw (fit, result-Column c.name whole, more) refl

project-kept : (marks : List ℕ) (t u : Grid) (k : Known) → IsOwn marks t → IsBeside marks t u → is_empty t.columns ≡ false → op_columns (V.Project (kept (names_of t.columns))) k false u.columns ≡ Some t.columns
project-kept marks t u k own beside some =
    let items = kept (names_of t.columns) in
    let unmarked : (d : Column) → Member d t.columns → begins_with marks d.name ≡ false = λ d m. own.unmarked d.name (has-member t.columns d m) in
    let fit = kept-fit t.columns u.columns (λ d m. kind-has t.columns u.columns d.name (beside.kinds d.name (unmarked d m)) ∙ has-member t.columns d m) in
    let columns = kept-columns t.columns u.columns (λ d m. beside.kinds d.name (unmarked d m) ∙ kind-found t.columns d own.apart m) in
    op-Project items k false u.columns
    ∙ (ap (answer_if (items_fit items u.columns position.Window)) columns ∙ answer-there (items_fit items u.columns position.Window) t.columns fit some (apart-distinct t.columns own.apart))

-- One operator of a prefix: what it has, and where it is lifted.

record StepFits (told : Told) (marks : List ℕ) (w x : World) (l : Known) (o : Op) (t u : Grid) (ds : List Column) : Type 0 where
  columns : (told_op told o w t).columns ≡ ds
  some : is_empty ds ≡ false
  fits : op_columns (inside marks o) l false u.columns ≡ Some (op_means (inside marks o) x u).columns
  apart : AreApart (op_means (inside marks o) x u).columns

pub fold-next : (o : Op) (os : List Op) (k : Known) (b : Bool) (cs : List Column) → ops_columns (o ∷ os) k b cs ≡ fold (after k b) (op_columns o k b cs) os
fold-next o os k b cs = ops-fold (o ∷ os) k b cs ∙ ap (λ (z : Option (List Column)). fold (after k b) z os) (after-some k b cs o)

module _ (told : Told) (marks : List ℕ) (w x : World) (k l : Known) where
  abbrev Answering : List (List ℕ) → Grid → Grid → List PatternCall → Type 0
  Answering lent t u cs = (c : PatternCall) → Member c cs → is_among lent c.column ≡ true → HasAnswers told marks t u c

  abbrev Marked : Type 0
  Marked = (c : PatternCall) → begins_with marks (name_of_call marks c) ≡ true

  where-columns : (e : BExpr) (t : Grid) → (told_where told e t).columns ≡ t.columns
  unfolding told_where
  where-columns e t = refl

  filtered-columns : (e : BExpr) (t : Grid) → (where_table e t).columns ≡ t.columns
  unfolding where_table
  filtered-columns e t = refl

  extend-told-columns : (items : List BItem) (t : Grid) → (told_extend told items t).columns ≡ extend_columns items t.columns
  unfolding told_extend
  extend-told-columns items t = refl

  extend-made-columns : (items : List BItem) (t : Grid) → (extend_table items t).columns ≡ extend_columns items t.columns
  unfolding extend_table
  extend-made-columns items t = refl

  where-fits : (lent : List (List ℕ)) (o : Op) (e : BExpr) → out-Op o ≡ Op-F.Where e → (t u : Grid) → IsBeside marks t u → AreApart u.columns → is_empty t.columns ≡ false → calls_are_lent lent e ≡ true → is_readable marks e ≡ true → Answering lent t u (calls e) → (ds : List Column) → op_columns o k false t.columns ≡ Some ds → StepFits told marks w x l o t u ds
  unfolding inside
  where-fits lent o e s t u beside apart some len r h ds f =
      let is : o ≡ V.Where e = sym (roll-out-Op o) ∙ (ap roll-Op s ∙ V.rolls-Where e) in
      let lifts : inside marks o ≡ V.Where (lifted marks e) = ap (λ (y : Op-F Op Plan). inside_step marks o y) s in
      let a = if-some (where_fits e t.columns) t.columns ds (sym (ap (λ (z : Op). op_columns z k false t.columns) is ∙ op-Where e k false t.columns) ∙ f) in
      let fit = where-kept told marks lent t u beside e len r h a.0 in
      let made : (op_means (inside marks o) x u).columns ≡ u.columns = ap (λ (z : Op). (op_means z x u).columns) lifts ∙ (ap (λ (g : Grid). g.columns) (means-Where (lifted marks e) x u) ∙ filtered-columns (lifted marks e) u) in
      record {
        columns = ap (λ (g : Grid). g.columns) (told-out told o (Op-F.Where e) s w t) ∙ (where-columns e t ∙ a.1);
        some = ap is_empty (sym a.1) ∙ some;
        fits = ap (λ (z : Op). op_columns z l false u.columns) lifts ∙ (op-Where (lifted marks e) l false u.columns ∙ (columns-there (where_fits (lifted marks e) u.columns) u.columns fit ∙ ap (λ (cs : List Column). Some cs) (sym made)));
        apart = subst AreApart (sym made) apart;
      }

  extend-fits : (lent : List (List ℕ)) (o : Op) (items : List BItem) → out-Op o ≡ Op-F.Extend items → (t u : Grid) → IsBeside marks t u → AreApart u.columns → AllGood marks lent items → are_distinct (names_set items) ≡ true → Answering lent t u (calls_in_items items) → IsOwn marks (told_op told o w t) → IsBeside marks (told_op told o w t) (op_means (inside marks o) x u) → (ds : List Column) → op_columns o k false t.columns ≡ Some ds → StepFits told marks w x l o t u ds
  unfolding inside extend_columns
  extend-fits lent o items s t u beside apart g d h own made ds f =
      let is : o ≡ V.Extend items = sym (roll-out-Op o) ∙ (ap roll-Op s ∙ V.rolls-Extend items) in
      let lifts : inside marks o ≡ V.Extend (lifted_items marks items) = ap (λ (y : Op-F Op Plan). inside_step marks o y) s in
      let a = answer-some (items_fit items t.columns position.Window) (extend_columns items t.columns) ds (sym (ap (λ (z : Op). op_columns z k false t.columns) is ∙ op-Extend items k false t.columns) ∙ f) in
      let set = items_names items in
      let added = items_columns items t.columns in
      let all = without set u.columns ++ added in
      let fit = items-kept told marks lent t u beside items g h a.fits in
      let whole : extend_columns (lifted_items marks items) u.columns ≡ without set u.columns ++ added =
      ap₂ (λ (ns : List (List ℕ)) (cs : List Column). without ns u.columns ++ cs) (names-lifted marks items) (columns-lifted told marks lent t u beside items g h) in
      let names = names-of-items marks lent items t.columns g in
      let kept_apart : AreApart (without set u.columns ++ added) =
      apart-append (without set u.columns) added (apart-without set u.columns apart) (distinct-apart added (ap are_distinct (names ∙ sym (set-alike-names items)) ∙ d))
      (λ c m. has-names added c.name set names ∙ turned (is_name_among set c.name) (not-set set u.columns c m)) in
      let is_made : (op_means (inside marks o) x u).columns ≡ without set u.columns ++ added =
      ap (λ (z : Op). (op_means z x u).columns) lifts ∙ (ap (λ (q : Grid). q.columns) (means-Extend (lifted_items marks items) x u) ∙ (extend-made-columns (lifted_items marks items) u ∙ whole)) in
      let told_columns : (told_op told o w t).columns ≡ ds = ap (λ (q : Grid). q.columns) (told-out told o (Op-F.Extend items) s w t) ∙ (extend-told-columns items t ∙ a.same) in
      let some_ds : is_empty ds ≡ false = ap is_empty (sym a.same) ∙ a.some in
      let some_made : is_empty (op_means (inside marks o) x u).columns ≡ false = some-beside marks (told_op told o w t) (op_means (inside marks o) x u) own made (ap is_empty told_columns ∙ some_ds) in
      record {
        columns = told_columns;
        some = some_ds;
        fits = ap (λ (z : Op). op_columns z l false u.columns) lifts ∙ (op-Extend (lifted_items marks items) l false u.columns
            ∙ (ap (answer_if (items_fit (lifted_items marks items) u.columns position.Window)) whole
            ∙ (answer-there (items_fit (lifted_items marks items) u.columns position.Window) (without set u.columns ++ added) fit (ap is_empty (sym is_made) ∙ some_made) (apart-distinct (without set u.columns ++ added) kept_apart)
            ∙ ap (λ (cs : List Column). Some cs) (sym is_made))));
        apart = subst AreApart (sym is_made) kept_apart;
      }

  of-out : (lent : List (List ℕ)) (o : Op) (f : Op-F Op Plan) → out-Op o ≡ f → (t u : Grid) → IsBeside marks t u → AreApart u.columns → is_empty t.columns ≡ false → op_liftable_step marks lent f ≡ true → Answering lent t u (calls_at_step f) → IsOwn marks (told_op told o w t) → IsBeside marks (told_op told o w t) (op_means (inside marks o) x u) → (ds : List Column) → op_columns o k false t.columns ≡ Some ds → StepFits told marks w x l o t u ds
  of-out lent o (Op-F.Where e) s t u beside apart some len h own made ds f =
      let p = and_parts (calls_are_lent lent e) (is_readable marks e) len in
      where-fits lent o e s t u beside apart some p.0 p.1 h ds f
  of-out lent o (Op-F.Extend items) s t u beside apart some len h own made ds f =
      let p = and_parts (list_all (item_is_liftable marks lent) items) (are_distinct (names_set items)) len in
      extend-fits lent o items s t u beside apart (good-items marks lent items p.0) p.1 h own made ds f
  of-out lent o (Op-F.Project items) s t u beside apart some len h own made ds f = absurd cc
  of-out lent o (Op-F.Take n) s t u beside apart some len h own made ds f = absurd cc
  of-out lent o Op-F.Count s t u beside apart some len h own made ds f = absurd cc
  of-out lent o Op-F.Serialize s t u beside apart some len h own made ds f = absurd cc
  of-out lent o (Op-F.Sort keys) s t u beside apart some len h own made ds f = absurd cc
  of-out lent o (Op-F.Top n keys) s t u beside apart some len h own made ds f = absurd cc
  of-out lent o (Op-F.Summarize g) s t u beside apart some len h own made ds f = absurd cc
  of-out lent o (Op-F.MakeSeries p) s t u beside apart some len h own made ds f = absurd cc
  of-out lent o (Op-F.MvExpand e) s t u beside apart some len h own made ds f = absurd cc
  of-out lent o (Op-F.Parse p) s t u beside apart some len h own made ds f = absurd cc
  of-out lent o (Op-F.Join j right) s t u beside apart some len h own made ds f = absurd cc
  of-out lent o (Op-F.Union inner others) s t u beside apart some len h own made ds f = absurd cc
  of-out lent o (Op-F.Scan p) s t u beside apart some len h own made ds f = absurd cc
  of-out lent o (Op-F.Partition c ops) s t u beside apart some len h own made ds f = absurd cc

  step-fits : (lent : List (List ℕ)) (o : Op) (t u : Grid) → IsBeside marks t u → AreApart u.columns → is_empty t.columns ≡ false → op_is_liftable marks lent o ≡ true → Answering lent t u (calls_at o) → IsOwn marks (told_op told o w t) → IsBeside marks (told_op told o w t) (op_means (inside marks o) x u) → (ds : List Column) → op_columns o k false t.columns ≡ Some ds → StepFits told marks w x l o t u ds
  unfolding op_is_liftable calls_at
  step-fits lent o t u beside apart some len h own made ds f = of-out lent o (out-Op o) refl t u beside apart some len h own made ds f

  -- A prefix.

  abbrev Gives : List Op → Grid → Grid → List Column → Type 0
  Gives ops t u cs = after l false (fold (after l false) (Some u.columns) (map (inside marks) ops)) (V.Project (kept (names_behind (names_of t.columns) ops))) ≡ Some cs

  lost : (os : List Op) (cs : List Column) → fold (after k false) None os ≡ Some cs → ⊥
  lost os cs h = let none : None ≡ Some cs = sym (stays-none (after k false) (after-none k false) os) ∙ h in cc

  -- One operator more, over what is known of the rest.
  abbrev Rest : List (List ℕ) → List Op → List Column → Type 0
  Rest lent os cs = (t u : Grid) → IsOwn marks t → IsBeside marks t u → AreApart u.columns → is_empty t.columns ≡ false → Answering lent t u (flat_map calls_at os) → ops_columns os k false t.columns ≡ Some cs → Gives os t u cs

  prefix-next : Marked → (lent : List (List ℕ)) (o : Op) (os : List Op) (t u : Grid) → op_is_liftable marks lent o ≡ true → IsOwn marks t → IsBeside marks t u → AreApart u.columns → is_empty t.columns ≡ false → Answering lent t u (flat_map calls_at (o ∷ os)) → (cs : List Column) → Rest (left_of lent (sets o)) os cs → (m : Option (List Column)) → op_columns o k false t.columns ≡ m → fold (after k false) m os ≡ Some cs → Gives (o ∷ os) t u cs
  unfolding names_behind
  prefix-next marked lent o os t u len own beside apart some h cs rest None e g = absurd (lost os cs g)
  prefix-next marked lent o os t u len own beside apart some h cs rest (Some ds) e g =
      let here : Answering lent t u (calls_at o) = λ c m. h c (member-left (calls_at o) (flat_map calls_at os) c m) in
      let s = one-step told marks w x marked lent o t u own beside len here in
      let q = step-fits lent o t u beside apart some len here s.own s.beside ds e in
      let later = rest (told_op told o w t) (op_means (inside marks o) x u) s.own s.beside q.apart (ap is_empty q.columns ∙ q.some)
      (λ c m a. s.keeps c a (h c (member-right (calls_at o) (flat_map calls_at os) c m) (left-parts lent (sets o) c.column a).0)) (ap (ops_columns os k false) q.columns ∙ (ops-fold os k false ds ∙ g)) in
      ap (λ (z : Option (List Column)). after l false (fold (after l false) z (map (inside marks) os)) (V.Project (kept (names_behind (names_of t.columns) (o ∷ os))))) (after-some l false u.columns (inside marks o) ∙ q.fits)
      ∙ (ap (λ (names : List (List ℕ)). after l false (fold (after l false) (Some (op_means (inside marks o) x u).columns) (map (inside marks) os)) (V.Project (kept (fold (λ before (z : Op). left_of before (sets z) ++ sets z) names os)))) (sym s.names)
      ∙ later)

  pub prefix-fits : Marked → (lent : List (List ℕ)) (ops : List Op) (t u : Grid) → prefix_is_liftable marks lent ops ≡ true → IsOwn marks t → IsBeside marks t u → AreApart u.columns → is_empty t.columns ≡ false → Answering lent t u (flat_map calls_at ops) → (cs : List Column) → ops_columns ops k false t.columns ≡ Some cs → Gives ops t u cs
  unfolding prefix_is_liftable names_behind
  prefix-fits marked lent [] t u len own beside apart some h cs f =
      let same : t.columns ≡ cs = let e : Some t.columns ≡ Some cs = sym (ops-start k false t.columns) ∙ f in cc in
      after-some l false u.columns (V.Project (kept (names_of t.columns))) ∙ (project-kept marks t u l own beside some ∙ ap (λ (ds : List Column). Some ds) same)
  prefix-fits marked lent (o ∷ os) t u len own beside apart some h cs f =
      let p = and_parts (op_is_liftable marks lent o) (prefix_is_liftable marks (left_of lent (sets o)) os) len in
      prefix-next marked lent o os t u p.0 own beside apart some h cs
      (λ t2 u2 own2 beside2 apart2 some2 h2 f2. prefix-fits marked (left_of lent (sets o)) os t2 u2 p.1 own2 beside2 apart2 some2 h2 cs f2)
      (op_columns o k false t.columns) refl (sym (fold-next o os k false t.columns) ∙ f)
