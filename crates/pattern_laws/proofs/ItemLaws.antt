-- Items of a prefix: one name and one value each, lifted or not.
use Rattle.std.proofs.Common.{◌≡◌, ◌<◌, ℕ, suc, Bool, true, false, not, List, [], ◌∷◌, ◌++◌, length, map, refl, sym, ap, ap₂, ◌∙◌, subst, rules}
use Rattle.std.specs.Prelude.{◌&&◌, Option, unwrap_or}
use Rattle.std.specs.List.{flat_map, list_all}
use Rattle.std.proofs.lemmas.Bool.{and_parts}
use Rattle.kql_cells.specs.Table.{Grid}
use Rattle.kql_cells.specs.declared.schema.Column.{Column}
use Rattle.kql_cells.specs.declared.value.Kind.{Kind}
use Rattle.kql_cells.specs.declared.value.Kind.TheVariants as kind
use Rattle.kql_cells.specs.declared.value.Value.{Value}
use Rattle.kql_functions.specs.declared.aggregate.Aggregate.{Aggregate}
use Rattle.kql_functions.specs.declared.func.Func.{Func}
use Rattle.kql_functions.specs.declared.func.Func.TheVariants as func
use Rattle.kql_functions.specs.declared.window.Window.{Window}
use Rattle.kql_bound.specs.declared.expr.BExpr.{BExpr, out-BExpr, roll-BExpr, roll-out-BExpr, the_lemmas}
use Rattle.kql_bound.specs.declared.expr.BExpr.TheOpen.{BExpr-F}
use Rattle.kql_bound.specs.declared.expr.BExpr.TheVariants as V
use Rattle.kql_bound.specs.declared.expr.ChainSign.{ChainSign}
use Rattle.kql_bound.specs.declared.expr.StepColumn.{StepColumn}
use Rattle.kql_bound.specs.declared.literal.Lit.{Lit}
use Rattle.kql_bound.specs.declared.parts.BItem.{BItem}
use Rattle.kql_meaning.specs.Expressions.{kind_of, val}
use Rattle.kql_meaning.specs.Items.{items_columns, items_names, items_values, named_columns}
use Rattle.kql_meaning.specs.Readings.{Records}
use Rattle.kql_meaning.specs.Results.{result_kinds, results, results_step, typed}
use Rattle.kql_meaning.specs.Tables.{names_of}
use Rattle.kql_meaning.proofs.MemberLaws.{Member, member-left, member-right}
use Rattle.kql_meaning.proofs.ResultLaws.{result-Call, result-Chain, result-Column, result-Literal, result-Path, result-Step, result-Window}
use Rattle.pattern_lift.specs.declared.calls.PatternCall.{PatternCall}
use Rattle.pattern_lift.specs.Calls.{calls, calls_are_lent, calls_in_items, is_among}
use Rattle.pattern_lift.specs.Derived.{named}
use Rattle.pattern_lift.specs.Lifted.{lifted, lifted_items, lifted_link, lifted_step}
use Rattle.pattern_lift.specs.Marks.{begins_with}
use Rattle.pattern_lift.proofs.CallSteps.{lifts-Call, lifts-Chain, lifts-Column, lifts-Literal, lifts-Path, lifts-Step, lifts-Window}
use Rattle.pattern_laws.specs.Liftable.{is_own_name, is_readable, item_is_liftable}
use Rattle.pattern_laws.specs.LawsOfExpressions.{HasAnswers, IsBeside}
use Rattle.pattern_laws.specs.Meaning.{Told, told_results, told_val, told_values}
use Rattle.pattern_laws.proofs.LiftedReadings.{lifted-reads}
use Rattle.pattern_laws.proofs.ToldReadings.{told-kind}
use Rattle.pattern_laws.proofs.ToldSteps.{readable-Aggregate}

-- Expressions with one result column.

pub record Plainly (e : BExpr) : Type 0 where
  pub results : (v : Value) (t : Grid) (s : Records) → results_step (out-BExpr e) v t s ≡ v ∷ []
  pub kinds : (cs : List Column) → result_kinds e cs ≡ typed e cs ∷ []

abbrev result_at : Value → Grid → Records → BExpr-F BExpr → List Value
result_at v t s y = results_step y v t s

plainly-Literal : (l : Lit) → Plainly (V.Literal l)
plainly-Literal l = let o : out-BExpr (V.Literal l) ≡ BExpr-F.Literal l = search (rules, the_lemmas) in record { results = λ v t s. ap (result_at v t s) o; kinds = result-Literal l }

plainly-Column : (n : List ℕ) → Plainly (V.Column n)
plainly-Column n = let o : out-BExpr (V.Column n) ≡ BExpr-F.Column n = search (rules, the_lemmas) in record { results = λ v t s. ap (result_at v t s) o; kinds = result-Column n }

plainly-Step : (c : StepColumn) → Plainly (V.Step c)
plainly-Step c = let o : out-BExpr (V.Step c) ≡ BExpr-F.Step c = search (rules, the_lemmas) in record { results = λ v t s. ap (result_at v t s) o; kinds = result-Step c }

plainly-Call : (f : Func) (args : List BExpr) → Plainly (V.Call f args)
plainly-Call f args = let o : out-BExpr (V.Call f args) ≡ BExpr-F.Call f args = search (rules, the_lemmas) in record { results = λ v t s. ap (result_at v t s) o; kinds = result-Call f args }

plainly-Chain : (first : BExpr) (links : List (ChainSign × BExpr)) → Plainly (V.Chain first links)
plainly-Chain first links = let o : out-BExpr (V.Chain first links) ≡ BExpr-F.Chain first links = search (rules, the_lemmas) in record { results = λ v t s. ap (result_at v t s) o; kinds = result-Chain first links }

plainly-Path : (whole : BExpr) (steps : List BExpr) → Plainly (V.Path whole steps)
plainly-Path whole steps = let o : out-BExpr (V.Path whole steps) ≡ BExpr-F.Path whole steps = search (rules, the_lemmas) in record { results = λ v t s. ap (result_at v t s) o; kinds = result-Path whole steps }

plainly-Window : (f : Window) (args : List BExpr) → Plainly (V.Window f args)
plainly-Window f args = let o : out-BExpr (V.Window f args) ≡ BExpr-F.Window f args = search (rules, the_lemmas) in record { results = λ v t s. ap (result_at v t s) o; kinds = result-Window f args }

lifted-call : (marks : List ℕ) (f : Func) (args : List BExpr) → Plainly (lifted_step marks (BExpr-F.Call f args))
lifted-call marks (func.Arithmetic g) args = plainly-Call (func.Arithmetic g) args
lifted-call marks (func.Comparison g) args = plainly-Call (func.Comparison g) args
lifted-call marks (func.Search g) args = plainly-Call (func.Search g) args
lifted-call marks (func.Logic g) args = plainly-Call (func.Logic g) args
lifted-call marks (func.Choice g) args = plainly-Call (func.Choice g) args
lifted-call marks (func.Conversion g) args = plainly-Call (func.Conversion g) args
lifted-call marks (func.Text g) args = plainly-Call (func.Text g) args
lifted-call marks (func.Time g) args = plainly-Call (func.Time g) args
lifted-call marks (func.Dynamic g) args = plainly-Call (func.Dynamic g) args
lifted-call marks (func.Pattern g) args = plainly-Column (named marks g.word)

BothPlainly : List ℕ → BExpr → Type 0
BothPlainly marks e = Plainly e × Plainly (lifted marks e)

both : (marks : List ℕ) (e f g : BExpr) → e ≡ f → lifted marks f ≡ g → Plainly f → Plainly g → BothPlainly marks e
unfolding BothPlainly
both marks e f g same lifts p q = subst (λ (x : BExpr). Plainly x × Plainly (lifted marks x)) (sym same) (p, subst Plainly (sym lifts) q)

both-of : (marks : List ℕ) (e : BExpr) (y : BExpr-F BExpr) → out-BExpr e ≡ y → is_readable marks e ≡ true → BothPlainly marks e
both-of marks e (BExpr-F.Literal l) o r = both marks e (V.Literal l) (V.Literal l) (sym (roll-out-BExpr e) ∙ (ap roll-BExpr o ∙ V.rolls-Literal l)) (lifts-Literal marks l) (plainly-Literal l) (plainly-Literal l)
both-of marks e (BExpr-F.Column n) o r = both marks e (V.Column n) (V.Column n) (sym (roll-out-BExpr e) ∙ (ap roll-BExpr o ∙ V.rolls-Column n)) (lifts-Column marks n) (plainly-Column n) (plainly-Column n)
both-of marks e (BExpr-F.Step c) o r = both marks e (V.Step c) (V.Step c) (sym (roll-out-BExpr e) ∙ (ap roll-BExpr o ∙ V.rolls-Step c)) (lifts-Step marks c) (plainly-Step c) (plainly-Step c)
both-of marks e (BExpr-F.Call f args) o r = both marks e (V.Call f args) (lifted_step marks (BExpr-F.Call f (map (lifted marks) args))) (sym (roll-out-BExpr e) ∙ (ap roll-BExpr o ∙ V.rolls-Call f args)) (lifts-Call marks f args) (plainly-Call f args) (lifted-call marks f (map (lifted marks) args))
both-of marks e (BExpr-F.Chain first links) o r = both marks e (V.Chain first links) (V.Chain (lifted marks first) (map (lifted_link marks) links)) (sym (roll-out-BExpr e) ∙ (ap roll-BExpr o ∙ V.rolls-Chain first links)) (lifts-Chain marks first links) (plainly-Chain first links) (plainly-Chain (lifted marks first) (map (lifted_link marks) links))
both-of marks e (BExpr-F.Path whole steps) o r = both marks e (V.Path whole steps) (V.Path (lifted marks whole) (map (lifted marks) steps)) (sym (roll-out-BExpr e) ∙ (ap roll-BExpr o ∙ V.rolls-Path whole steps)) (lifts-Path marks whole steps) (plainly-Path whole steps) (plainly-Path (lifted marks whole) (map (lifted marks) steps))
both-of marks e (BExpr-F.Window f args) o r = both marks e (V.Window f args) (V.Window f (map (lifted marks) args)) (sym (roll-out-BExpr e) ∙ (ap roll-BExpr o ∙ V.rolls-Window f args)) (lifts-Window marks f args) (plainly-Window f args) (plainly-Window f (map (lifted marks) args))
both-of marks e (BExpr-F.Aggregate f args) o r =
    let same : e ≡ V.Aggregate f args = sym (roll-out-BExpr e) ∙ (ap roll-BExpr o ∙ V.rolls-Aggregate f args) in
    let no : false ≡ true = sym (readable-Aggregate marks f args) ∙ (ap (is_readable marks) (sym same) ∙ r) in
    absurd cc

pub plainly : (marks : List ℕ) (e : BExpr) → is_readable marks e ≡ true → Plainly e × Plainly (lifted marks e)
unfolding BothPlainly
plainly marks e r = both-of marks e (out-BExpr e) refl r

-- An item of a prefix.

pub record GoodItem (marks : List ℕ) (lent : List (List ℕ)) (b : BItem) : Type 0 where
  pub name : List ℕ
  pub names : b.names ≡ name ∷ []
  pub own : begins_with marks name ≡ false
  pub lent_calls : calls_are_lent lent b.expr ≡ true
  pub readable : is_readable marks b.expr ≡ true

turned : (b : Bool) → not b ≡ true → b ≡ false
turned true h = sym h
turned false h = refl

good-named : (marks : List ℕ) (lent : List (List ℕ)) (b : BItem) (ns : List (List ℕ)) → b.names ≡ ns → is_own_name marks ns ≡ true → calls_are_lent lent b.expr ≡ true → is_readable marks b.expr ≡ true → GoodItem marks lent b
unfolding is_own_name
good-named marks lent b [] e o l r = absurd cc
good-named marks lent b (n ∷ []) e o l r = record { name = n; names = e; own = turned (begins_with marks n) o; lent_calls = l; readable = r }
good-named marks lent b (n ∷ m ∷ ms) e o l r = absurd cc

pub good-item : (marks : List ℕ) (lent : List (List ℕ)) (b : BItem) → item_is_liftable marks lent b ≡ true → GoodItem marks lent b
unfolding item_is_liftable
good-item marks lent b h =
    let p = and_parts (is_own_name marks b.names) (calls_are_lent lent b.expr && is_readable marks b.expr) h in
    let q = and_parts (calls_are_lent lent b.expr) (is_readable marks b.expr) p.1 in
    good-named marks lent b b.names refl p.0 q.0 q.1

abbrev pub AllGood : List ℕ → List (List ℕ) → List BItem → Type 0
AllGood marks lent [] = Unit {0}
AllGood marks lent (b ∷ bs) = GoodItem marks lent b × AllGood marks lent bs

pub good-items : (marks : List ℕ) (lent : List (List ℕ)) (items : List BItem) → list_all (item_is_liftable marks lent) items ≡ true → AllGood marks lent items
good-items marks lent [] h = tt
good-items marks lent (b ∷ bs) h =
    let p = and_parts (item_is_liftable marks lent b) (list_all (item_is_liftable marks lent) bs) h in
    (good-item marks lent b p.0, good-items marks lent bs p.1)

-- The columns of items.

one-column : (b : BItem) (n : List ℕ) (e : BExpr) (cs : List Column) → b.names ≡ n ∷ [] → Plainly e → named_columns b.names (result_kinds e cs) ≡ record { name = n; kind = typed e cs } ∷ []
unfolding named_columns
one-column b n e cs names p = rw (names, p.kinds cs) refl

pub names-of-items : (marks : List ℕ) (lent : List (List ℕ)) (items : List BItem) (cs : List Column) → AllGood marks lent items → names_of (items_columns items cs) ≡ items_names items
unfolding items_columns items_names names_of
names-of-items marks lent [] cs g = refl
names-of-items marks lent (b ∷ bs) cs g =
    let one = one-column b g.0.name b.expr cs g.0.names (plainly marks b.expr g.0.readable).0 in
    rw (one, g.0.names) (ap (λ ns. g.0.name ∷ ns) (names-of-items marks lent bs cs g.1))

pub names-lifted : (marks : List ℕ) (items : List BItem) → items_names (lifted_items marks items) ≡ items_names items
unfolding items_names lifted_items
names-lifted marks [] = refl
names-lifted marks (b ∷ bs) = ap (λ ns. b.names ++ ns) (names-lifted marks bs)

-- Over a table with the answers beside.

module _ (told : Told) (marks : List ℕ) (lent : List (List ℕ)) (t u : Grid) (beside : IsBeside marks t u) where
  abbrev Answers : List PatternCall → Type 0
  Answers cs = (c : PatternCall) → Member c cs → is_among lent c.column ≡ true → HasAnswers told marks t u c

  pub kind-lifted : (e : BExpr) → calls_are_lent lent e ≡ true → is_readable marks e ≡ true → Answers (calls e) → kind_of (lifted marks e) u.columns ≡ kind_of e t.columns
  unfolding kind_of
  kind-lifted e l r h = (lifted-reads told marks lent t u beside e l r h).type ∙ told-kind told t.columns e

  pub val-lifted : (e : BExpr) → calls_are_lent lent e ≡ true → is_readable marks e ≡ true → Answers (calls e) → (i : ℕ) → i < length t.lines → (s : Records) → val (lifted marks e) u i s ≡ told_val told e t i s
  unfolding val told_val
  val-lifted e l r h i lt s = (lifted-reads told marks lent t u beside e l r h).at i lt s

  type-lifted : (e : BExpr) → calls_are_lent lent e ≡ true → is_readable marks e ≡ true → Answers (calls e) → typed (lifted marks e) u.columns ≡ typed e t.columns
  unfolding typed
  type-lifted e l r h = ap (λ (k : Option Kind). unwrap_or k kind.Dynamic) (kind-lifted e l r h)

  pub columns-lifted : (items : List BItem) → AllGood marks lent items → Answers (calls_in_items items) → items_columns (lifted_items marks items) u.columns ≡ items_columns items t.columns
  unfolding items_columns lifted_items calls_in_items
  columns-lifted [] g h = refl
  columns-lifted (b ∷ bs) g h =
      let p = plainly marks b.expr g.0.readable in
      let here = type-lifted b.expr g.0.lent_calls g.0.readable (λ c m. h c (member-left (calls b.expr) (flat_map (λ (x : BItem). calls x.expr) bs) c m)) in
      let later = columns-lifted bs g.1 (λ c m. h c (member-right (calls b.expr) (flat_map (λ (x : BItem). calls x.expr) bs) c m)) in
      ap₂ (λ (xs ys : List Column). xs ++ ys)
      (one-column b g.0.name (lifted marks b.expr) u.columns g.0.names p.1 ∙ (ap (λ (k : Kind). record { name = g.0.name; kind = k } ∷ []) here ∙ sym (one-column b g.0.name b.expr t.columns g.0.names p.0)))
      later

  pub values-lifted : (items : List BItem) → AllGood marks lent items → Answers (calls_in_items items) → (i : ℕ) → i < length t.lines → items_values (lifted_items marks items) u i ≡ told_values told items t i
  unfolding items_values lifted_items calls_in_items told_values results told_results
  values-lifted [] g h i lt = refl
  values-lifted (b ∷ bs) g h i lt =
      let p = plainly marks b.expr g.0.readable in
      let here = val-lifted b.expr g.0.lent_calls g.0.readable (λ c m. h c (member-left (calls b.expr) (flat_map (λ (x : BItem). calls x.expr) bs) c m)) i lt [] in
      let later = values-lifted bs g.1 (λ c m. h c (member-right (calls b.expr) (flat_map (λ (x : BItem). calls x.expr) bs) c m)) i lt in
      ap₂ (λ (xs ys : List Value). xs ++ ys)
      (p.1.results (val (lifted marks b.expr) u i []) u [] ∙ (ap (λ (v : Value). v ∷ []) here ∙ sym (p.0.results (told_val told b.expr t i []) t [])))
      later

pub values-long : (told : Told) (marks : List ℕ) (lent : List (List ℕ)) (items : List BItem) → AllGood marks lent items → (t : Grid) (i : ℕ) (cs : List Column) → length (told_values told items t i) ≡ length (items_columns items cs)
unfolding told_values told_results items_columns
values-long told marks lent [] g t i cs = refl
values-long told marks lent (b ∷ bs) g t i cs =
    let p = (plainly marks b.expr g.0.readable).0 in
    rw (p.results (told_val told b.expr t i []) t [], one-column b g.0.name b.expr cs g.0.names p) (ap (λ n. suc n) (values-long told marks lent bs g.1 t i cs))
