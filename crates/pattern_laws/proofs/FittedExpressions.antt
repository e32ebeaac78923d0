-- A lifted expression fits, over a table with the answers of its calls beside, where the expression fits.
use Rattle.std.proofs.Common.{◌≡◌, ℕ, Bool, true, false, not, List, [], ◌∷◌, ◌++◌, map, refl, sym, ap, ◌∙◌, subst}
use Rattle.std.specs.Prelude.{◌&&◌, nat_le, Option, None, Some, is_some, slice_get}
use Rattle.std.specs.List.{flat_map, list_all}
use Rattle.std.proofs.lemmas.Bool.{and_parts}
use Rattle.kql_cells.specs.Table.{Grid}
use Rattle.kql_cells.specs.declared.schema.Column.{Column}
use Rattle.kql_cells.specs.declared.value.Kind.{Kind}
use Rattle.kql_cells.specs.declared.value.Kind.TheVariants as kind
use Rattle.kql_functions.specs.declared.aggregate.Aggregate.{Aggregate}
use Rattle.kql_functions.specs.declared.func.Func.{Func}
use Rattle.kql_functions.specs.declared.func.Func.TheVariants as func
use Rattle.kql_functions.specs.declared.func.PatternFunc.{PatternFunc}
use Rattle.kql_functions.specs.declared.func.TimeFunc.TheVariants as time
use Rattle.kql_functions.specs.declared.window.Window.{Window}
use Rattle.kql_functions.specs.declared.window.Window.TheVariants as window
use Rattle.kql_bound.specs.declared.expr.BExpr.{BExpr, ind-BExpr, map-BExpr, out-BExpr, roll-BExpr}
use Rattle.kql_bound.specs.declared.expr.BExpr.TheOpen.{BExpr-F}
use Rattle.kql_bound.specs.declared.expr.BExpr.TheVariants as V
use Rattle.kql_bound.specs.declared.expr.ChainSign.{ChainSign}
use Rattle.kql_bound.specs.declared.expr.StepColumn.{StepColumn}
use Rattle.kql_bound.specs.declared.literal.Lit.{Lit}
use Rattle.kql_meaning.specs.declared.position.Position.{Position}
use Rattle.kql_meaning.specs.declared.position.Position.TheVariants as position
use Rattle.kql_meaning.specs.Expressions.{call_kind, column_kind, kind_along, kind_down, kind_of, kinds_in}
use Rattle.kql_meaning.specs.FittingExpressions.{Scope, checked_args, column_of, expr_fits, first_is_part, first_word, has_kind, is_addable, is_callable, is_constant_of, is_count, is_count_literal, is_kind, is_plain_column, is_this_column, is_this_name, is_this_value, is_typed_literal, links_fit, literal_of, look_fits, names_part, part_fits, restart_fits, row_number_fits, running_sum_fits, scope_of, stands_in_if_column, step_fits, takes_columns, takes_window, term_fits, window_fits, word_in}
use Rattle.kql_meaning.specs.Literals.{literal_fits}
use Rattle.kql_meaning.specs.Tables.{has_column}
use Rattle.kql_meaning.proofs.ExpressionFitLaws.{column-Column, exprs-checked, fits-Call, fits-Chain, fits-Column, fits-Literal, fits-Path, fits-Step, fits-Window}
use Rattle.kql_meaning.proofs.KindLaws.{kind-Call, kind-Chain, kind-Column, kind-Path}
use Rattle.kql_meaning.proofs.MemberLaws.{Member, member-left, member-right}
use Rattle.pattern_lift.specs.declared.calls.PatternCall.{PatternCall}
use Rattle.pattern_lift.specs.Calls.{calls, calls_are_lent, calls_in, calls_in_links, is_among, is_call_of, own_calls}
use Rattle.pattern_lift.specs.Derived.{named}
use Rattle.pattern_lift.specs.Lifted.{lifted, lifted_link, lifted_step}
use Rattle.pattern_lift.specs.Marks.{begins_with}
use Rattle.pattern_lift.proofs.CallSteps.{calls-Call, calls-Chain, calls-Path, calls-Window, lent-Call, lent-Chain, lent-Path, lent-Window, lifts-Call, lifts-Chain, lifts-Column, lifts-Literal, lifts-Path, lifts-Window, links_lent}
use Rattle.pattern_laws.specs.Liftable.{is_readable}
use Rattle.pattern_laws.specs.LawsOfExpressions.{HasAnswers, IsBeside}
use Rattle.pattern_laws.specs.Meaning.{Told}
use Rattle.pattern_laws.proofs.BesideLaws.{kind-has, some-has}
use Rattle.pattern_laws.proofs.ItemLaws.{kind-lifted}
use Rattle.pattern_laws.proofs.ReadableLaws.{column-shape, literal-found}
use Rattle.pattern_laws.proofs.ToldSteps.{links_readable, readable-Aggregate, readable-Call, readable-Chain, readable-Column, readable-Path, readable-Window}

-- Literals stay, and so does what asks for one.

literal-lifts : (marks : List ℕ) (e : BExpr) (l : Lit) → literal_of e ≡ Some l → lifted marks e ≡ e
unfolding literal_of
literal-lifts marks e l h =
    let m = literal-found e (out-BExpr e) refl l h in
    ap (lifted marks) m.1 ∙ (lifts-Literal marks m.0 ∙ sym m.1)

count-by : (marks : List ℕ) (e : BExpr) (o : Option Lit) → literal_of e ≡ o → is_count_literal o ≡ true → lifted marks e ≡ e
unfolding is_count_literal
count-by marks e None s h = absurd cc
count-by marks e (Some l) s h = literal-lifts marks e l s

count-stays : (marks : List ℕ) (e : BExpr) → is_count e ≡ true → is_count (lifted marks e) ≡ true
unfolding is_count
count-stays marks e h = ap (λ (x : BExpr). is_count_literal (literal_of x)) (count-by marks e (literal_of e) refl h) ∙ h

constant-by : (marks : List ℕ) (k : Option Kind) (e : BExpr) (o : Option Lit) → literal_of e ≡ o → is_typed_literal k o ≡ true → lifted marks e ≡ e
unfolding is_typed_literal
constant-by marks k e None s h = absurd cc
constant-by marks k e (Some l) s h = literal-lifts marks e l s

constant-stays : (marks : List ℕ) (k m : Option Kind) (e : BExpr) → m ≡ k → is_constant_of k e ≡ true → is_constant_of m (lifted marks e) ≡ true
unfolding is_constant_of
constant-stays marks k m e same h =
    ap (λ (x : BExpr). is_typed_literal m (literal_of x)) (constant-by marks k e (literal_of e) refl h)
    ∙ (ap (λ (x : Option Kind). is_typed_literal x (literal_of e)) same ∙ h)

word-by : {X : Type 0} (named : List ℕ → Option X) (marks : List ℕ) (e : BExpr) (o : Option Lit) → literal_of e ≡ o → names_part named (word_in o) ≡ true → names_part named (word_in (literal_of (lifted marks e))) ≡ true
unfolding names_part word_in
word-by named marks e None m g = absurd cc
word-by named marks e (Some l) m g = ap (λ (x : BExpr). names_part named (word_in (literal_of x))) (literal-lifts marks e l m) ∙ (ap (λ (o : Option Lit). names_part named (word_in o)) m ∙ g)

word-stays : {X : Type 0} (named : List ℕ → Option X) (marks : List ℕ) (args : List BExpr) → first_is_part named args ≡ true → first_is_part named (map (lifted marks) args) ≡ true
unfolding first_is_part first_word
word-stays named marks [] h = h
word-stays named marks (e ∷ es) h = word-by named marks e (literal_of e) refl h

part-stays : (marks : List ℕ) (f : Func) (args : List BExpr) → part_fits f args ≡ true → part_fits f (map (lifted marks) args) ≡ true
unfolding part_fits
part-stays marks (func.Time time.DatetimeAdd) args h = word-stays _ marks args h
part-stays marks (func.Time time.DatetimeDiff) args h = word-stays _ marks args h
part-stays marks (func.Time time.DatetimePart) args h = word-stays _ marks args h
part-stays marks _ args h = refl

-- No step stands outside of scan.
no-step : (columns : List Column) (c : StepColumn) → step_fits (scope_of columns) c ≡ true → ⊥
unfolding step_fits is_this_name
no-step columns c h =
    let more = is_this_column (slice_get columns c.place) c.column c.default.kind && (is_this_value (slice_get [] c.place) c.default.value && literal_fits c.default) in
    let a = and_parts (nat_le 1 c.number) (is_this_name None c.step && more) h in
    let no : false ≡ true = (and_parts (is_this_name None c.step) more a.1).0 in
    cc

term-takes : takes_columns position.Term ≡ true
unfolding takes_columns
term-takes = refl

known-has : (cs : List Column) (n : List ℕ) (o : Option Kind) → column_kind n cs ≡ o → is_some o ≡ true → has_column n cs ≡ true
known-has cs n None e s = absurd cc
known-has cs n (Some k) e s = some-has cs n k e

turned : (b : Bool) → not b ≡ true → b ≡ false
turned true h = sym h
turned false h = refl

-- What a call that fits has.
record CallFits (scope : Scope) (f : Func) (args : List BExpr) (at : Position) : Type 0 where
  callable : is_callable f ≡ true
  parts : list_all (λ e. expr_fits e scope at) args ≡ true
  part : part_fits f args ≡ true
  typed : is_some (call_kind f (kinds_in args scope.columns)) ≡ true

call-parts : (scope : Scope) (f : Func) (args : List BExpr) (at : Position) → expr_fits (V.Call f args) scope at ≡ true → CallFits scope f args at
call-parts scope f args at h =
    let some = is_some (call_kind f (kinds_in args scope.columns)) in
    let a = and_parts (is_callable f) (list_all (λ e. expr_fits e scope at) args && (part_fits f args && some)) (sym (fits-Call f args scope at) ∙ h) in
    let b = and_parts (list_all (λ e. expr_fits e scope at) args) (part_fits f args && some) a.1 in
    let c = and_parts (part_fits f args) some b.1 in
    record { callable = a.0; parts = b.0; part = c.0; typed = c.1 }

-- What is known of a part.
record Ready (told : Told) (marks : List ℕ) (lent : List (List ℕ)) (t u : Grid) (e : BExpr) : Type 0 where
  lent_calls : calls_are_lent lent e ≡ true
  readable : is_readable marks e ≡ true
  answers : (c : PatternCall) → Member c (calls e) → is_among lent c.column ≡ true → HasAnswers told marks t u c

module _ (told : Told) (marks : List ℕ) (lent : List (List ℕ)) (t u : Grid) (beside : IsBeside marks t u) where
  abbrev Answers : List PatternCall → Type 0
  Answers cs = (c : PatternCall) → Member c cs → is_among lent c.column ≡ true → HasAnswers told marks t u c

  abbrev before : Scope
  before = scope_of t.columns

  abbrev after : Scope
  after = scope_of u.columns

  abbrev IsReady : BExpr → Type 0
  IsReady e = Ready told marks lent t u e

  abbrev Kept : BExpr → Type 0
  Kept e = IsReady e → (at : Position) → takes_columns at ≡ true → expr_fits e before at ≡ true → expr_fits (lifted marks e) after at ≡ true

  abbrev Given : Type 0
  Given = (e : BExpr) × Kept e

  abbrev bare : Given → BExpr
  bare g = g.0

  abbrev bare_link : ChainSign × Given → ChainSign × BExpr
  bare_link l = (l.0, l.1.0)

  same-kind : (e : BExpr) → IsReady e → kind_of (lifted marks e) u.columns ≡ kind_of e t.columns
  same-kind e r = kind-lifted told marks lent t u beside e r.lent_calls r.readable r.answers

  -- Several parts.

  abbrev AreReady : List BExpr → Type 0
  AreReady [] = Unit {0}
  AreReady (e ∷ es) = IsReady e × AreReady es

  ready-all : (es : List BExpr) → list_all (calls_are_lent lent) es ≡ true → list_all (is_readable marks) es ≡ true → Answers (calls_in es) → AreReady es
  unfolding calls_in
  ready-all [] l r h = tt
  ready-all (e ∷ es) l r h =
      let a = and_parts (calls_are_lent lent e) (list_all (calls_are_lent lent) es) l in
      let b = and_parts (is_readable marks e) (list_all (is_readable marks) es) r in (
        record { lent_calls = a.0; readable = b.0; answers = λ c m. h c (member-left (calls e) (flat_map calls es) c m) },
        ready-all es a.1 b.1 (λ c m. h c (member-right (calls e) (flat_map calls es) c m)),
      )

  args-fit : (gs : List Given) → AreReady (map bare gs) → (at : Position) → takes_columns at ≡ true → list_all (λ e. expr_fits e before at) (map bare gs) ≡ true → list_all (λ e. expr_fits e after at) (map (lifted marks) (map bare gs)) ≡ true
  args-fit [] r at takes h = refl
  args-fit (g ∷ gs) r at takes h =
      let p = and_parts (expr_fits g.0 before at) (list_all (λ e. expr_fits e before at) (map bare gs)) h in
      rw (g.1 r.0 at takes p.0, args-fit gs r.1 at takes p.1) refl

  abbrev LinksReady : List (ChainSign × BExpr) → Type 0
  LinksReady [] = Unit {0}
  LinksReady (l ∷ ls) = IsReady l.1 × LinksReady ls

  ready-links : (ls : List (ChainSign × BExpr)) → links_lent lent ls ≡ true → links_readable marks ls ≡ true → Answers (calls_in_links ls) → LinksReady ls
  unfolding calls_in_links
  ready-links [] l r h = tt
  ready-links (x ∷ xs) l r h =
      let a = and_parts (calls_are_lent lent x.1) (links_lent lent xs) l in
      let b = and_parts (is_readable marks x.1) (links_readable marks xs) r in (
        record { lent_calls = a.0; readable = b.0; answers = λ c m. h c (member-left (calls x.1) (flat_map (λ (y : ChainSign × BExpr). calls y.1) xs) c m) },
        ready-links xs a.1 b.1 (λ c m. h c (member-right (calls x.1) (flat_map (λ (y : ChainSign × BExpr). calls y.1) xs) c m)),
      )

  links-kept : (gs : List (ChainSign × Given)) → LinksReady (map bare_link gs) → (at : Position) → takes_columns at ≡ true → links_fit (map bare_link gs) before at ≡ true → links_fit (map (lifted_link marks) (map bare_link gs)) after at ≡ true
  unfolding links_fit
  links-kept [] r at takes h = refl
  links-kept (g ∷ gs) r at takes h =
      let p = and_parts (expr_fits g.1.0 before at) (list_all (λ (l : ChainSign × BExpr). expr_fits l.1 before at) (map bare_link gs)) h in
      rw (g.1.1 r.0 at takes p.0, links-kept gs r.1 at takes p.1) refl

  -- Columns and literals.

  own-column : (n : List ℕ) → is_readable marks (V.Column n) ≡ true → (has_column n u.columns ≡ has_column n t.columns) × (column_kind n u.columns ≡ column_kind n t.columns)
  own-column n r =
      let k = beside.kinds n (turned (begins_with marks n) (sym (readable-Column marks n) ∙ r)) in
      (kind-has t.columns u.columns n k, k)

  literal-kept : (l : Lit) → Kept (V.Literal l)
  literal-kept l r at takes h = ap (λ (x : BExpr). expr_fits x after at) (lifts-Literal marks l) ∙ (fits-Literal l after at ∙ (sym (fits-Literal l before at) ∙ h))

  column-kept : (n : List ℕ) → Kept (V.Column n)
  column-kept n r at takes h =
      let has = (and_parts (takes_columns at) (has_column n t.columns) (sym (fits-Column n before at) ∙ h)).1 in
      let same = (own-column n r.readable).0 in
      ap (λ (x : BExpr). expr_fits x after at) (lifts-Column marks n) ∙ (fits-Column n after at ∙ rw (takes, same, has) refl)

  step-kept : (c : StepColumn) → Kept (V.Step c)
  step-kept c r at takes h = absurd (no-step t.columns c (and_parts (takes_columns at) (step_fits before c) (sym (fits-Step c before at) ∙ h)).1)

  -- Calls.

  plain-kept : (f : Func) → ((args : List BExpr) → lifted_step marks (BExpr-F.Call f args) ≡ V.Call f args) → (gs : List Given) → Kept (V.Call f (map bare gs))
  plain-kept f one gs r at takes h =
      let args = map bare gs in
      let made = map (lifted marks) args in
      let p = call-parts before f args at h in
      let l = and_parts (is_call_of lent f args) (list_all (calls_are_lent lent) args) (sym (lent-Call lent f args) ∙ r.lent_calls) in
      let ready = ready-all args l.1 (sym (readable-Call marks f args) ∙ r.readable) (λ c m. r.answers c (subst (Member c) (sym (calls-Call f args)) (member-right (own_calls f args) (calls_in args) c m))) in
      let all = args-fit gs ready at takes p.parts in
      let same = lifts-Call marks f args ∙ one made in
      let type : call_kind f (kinds_in made u.columns) ≡ call_kind f (kinds_in args t.columns) =
      sym (kind-Call f made u.columns) ∙ (ap (λ (x : BExpr). kind_of x u.columns) (sym same) ∙ (same-kind (V.Call f args) r ∙ kind-Call f args t.columns)) in
      ap (λ (x : BExpr). expr_fits x after at) same ∙ (fits-Call f made after at ∙ rw (p.callable, all, part-stays marks f args p.part, type, p.typed) refl)

  pattern-kept : (g : PatternFunc) (args : List BExpr) → Kept (V.Call (func.Pattern g) args)
  pattern-kept g args r at takes h =
      let n = named marks g.word in
      let p = call-parts before (func.Pattern g) args at h in
      let same : lifted marks (V.Call (func.Pattern g) args) ≡ V.Column n = lifts-Call marks (func.Pattern g) args in
      let type : column_kind n u.columns ≡ call_kind (func.Pattern g) (kinds_in args t.columns) =
      sym (kind-Column n u.columns) ∙ (ap (λ (x : BExpr). kind_of x u.columns) (sym same) ∙ (same-kind (V.Call (func.Pattern g) args) r ∙ kind-Call (func.Pattern g) args t.columns)) in
      let has = known-has u.columns n (column_kind n u.columns) refl (ap is_some type ∙ p.typed) in
      ap (λ (x : BExpr). expr_fits x after at) same ∙ (fits-Column n after at ∙ rw (takes, has) refl)

  call-kept : (f : Func) (gs : List Given) → Kept (V.Call f (map bare gs))
  call-kept (func.Arithmetic g) gs = plain-kept (func.Arithmetic g) (λ es. refl) gs
  call-kept (func.Comparison g) gs = plain-kept (func.Comparison g) (λ es. refl) gs
  call-kept (func.Search g) gs = plain-kept (func.Search g) (λ es. refl) gs
  call-kept (func.Logic g) gs = plain-kept (func.Logic g) (λ es. refl) gs
  call-kept (func.Choice g) gs = plain-kept (func.Choice g) (λ es. refl) gs
  call-kept (func.Conversion g) gs = plain-kept (func.Conversion g) (λ es. refl) gs
  call-kept (func.Text g) gs = plain-kept (func.Text g) (λ es. refl) gs
  call-kept (func.Time g) gs = plain-kept (func.Time g) (λ es. refl) gs
  call-kept (func.Dynamic g) gs = plain-kept (func.Dynamic g) (λ es. refl) gs
  call-kept (func.Pattern g) gs = pattern-kept g (map bare gs)

  -- Chains and paths.

  chain-kept : (first : Given) (gs : List (ChainSign × Given)) → Kept (V.Chain first.0 (map bare_link gs))
  chain-kept first gs r at takes h =
      let links = map bare_link gs in
      let made = map (lifted_link marks) links in
      let some = is_some (kind_along links t.columns (kind_of first.0 t.columns)) in
      let a = and_parts (expr_fits first.0 before at) (links_fit links before at && some) (sym (fits-Chain first.0 links before at) ∙ h) in
      let b = and_parts (links_fit links before at) some a.1 in
      let l = and_parts (calls_are_lent lent first.0) (links_lent lent links) (sym (lent-Chain lent first.0 links) ∙ r.lent_calls) in
      let s = and_parts (is_readable marks first.0) (links_readable marks links) (sym (readable-Chain marks first.0 links) ∙ r.readable) in
      let k : Answers (calls first.0 ++ calls_in_links links) = subst Answers (calls-Chain first.0 links) r.answers in
      let one = first.1 (record { lent_calls = l.0; readable = s.0; answers = λ c m. k c (member-left (calls first.0) (calls_in_links links) c m) }) at takes a.0 in
      let all = links-kept gs (ready-links links l.1 s.1 (λ c m. k c (member-right (calls first.0) (calls_in_links links) c m))) at takes b.0 in
      let same = lifts-Chain marks first.0 links in
      let type : kind_along made u.columns (kind_of (lifted marks first.0) u.columns) ≡ kind_along links t.columns (kind_of first.0 t.columns) =
      sym (kind-Chain (lifted marks first.0) made u.columns) ∙ (ap (λ (x : BExpr). kind_of x u.columns) (sym same) ∙ (same-kind (V.Chain first.0 links) r ∙ kind-Chain first.0 links t.columns)) in
      ap (λ (x : BExpr). expr_fits x after at) same ∙ (fits-Chain (lifted marks first.0) made after at ∙ rw (one, all, type, b.1) refl)

  path-kept : (whole : Given) (gs : List Given) → Kept (V.Path whole.0 (map bare gs))
  path-kept whole gs r at takes h =
      let steps = map bare gs in
      let made = map (lifted marks) steps in
      let some = is_some (kind_down steps t.columns (kind_of whole.0 t.columns)) in
      let a = and_parts (expr_fits whole.0 before at) (list_all (λ e. expr_fits e before at) steps && some) (sym (fits-Path whole.0 steps before at) ∙ h) in
      let b = and_parts (list_all (λ e. expr_fits e before at) steps) some a.1 in
      let l = and_parts (calls_are_lent lent whole.0) (list_all (calls_are_lent lent) steps) (sym (lent-Path lent whole.0 steps) ∙ r.lent_calls) in
      let s = and_parts (is_readable marks whole.0) (list_all (is_readable marks) steps) (sym (readable-Path marks whole.0 steps) ∙ r.readable) in
      let k : Answers (calls whole.0 ++ calls_in steps) = subst Answers (calls-Path whole.0 steps) r.answers in
      let one = whole.1 (record { lent_calls = l.0; readable = s.0; answers = λ c m. k c (member-left (calls whole.0) (calls_in steps) c m) }) at takes a.0 in
      let all = args-fit gs (ready-all steps l.1 s.1 (λ c m. k c (member-right (calls whole.0) (calls_in steps) c m))) at takes b.0 in
      let same = lifts-Path marks whole.0 steps in
      let type : kind_down made u.columns (kind_of (lifted marks whole.0) u.columns) ≡ kind_down steps t.columns (kind_of whole.0 t.columns) =
      sym (kind-Path (lifted marks whole.0) made u.columns) ∙ (ap (λ (x : BExpr). kind_of x u.columns) (sym same) ∙ (same-kind (V.Path whole.0 steps) r ∙ kind-Path whole.0 steps t.columns)) in
      ap (λ (x : BExpr). expr_fits x after at) same ∙ (fits-Path (lifted marks whole.0) made after at ∙ rw (one, all, type, b.1) refl)

  -- Window functions.

  plain-by : (e : BExpr) (o : Option (List ℕ)) → column_of e ≡ o → stands_in_if_column t.columns o ≡ true → is_readable marks e ≡ true → is_plain_column u.columns (lifted marks e) ≡ true
  unfolding stands_in_if_column column_of is_plain_column
  plain-by e None s h r = absurd cc
  plain-by e (Some n) s h r =
      let is = column-shape e (out-BExpr e) refl n s in
      let same = ap (lifted marks) is ∙ lifts-Column marks n in
      let has = (own-column n (ap (is_readable marks) (sym is) ∙ r)).0 in
      ap (λ (o : Option (List ℕ)). stands_in_if_column u.columns o) (ap column_of same ∙ column-Column n) ∙ (has ∙ h)

  plain-column : (e : BExpr) → is_plain_column t.columns e ≡ true → is_readable marks e ≡ true → is_plain_column u.columns (lifted marks e) ≡ true
  unfolding is_plain_column
  plain-column e h r = plain-by e (column_of e) refl h r

  look-kept : (es : List BExpr) → AreReady es → look_fits es before ≡ true → look_fits (map (lifted marks) es) after ≡ true
  unfolding look_fits
  look-kept [] r h = h
  look-kept (c ∷ []) r h = plain-column c h r.0.readable
  look-kept (c ∷ k ∷ []) r h =
      let p = and_parts (is_plain_column t.columns c) (is_count k) h in
      rw (plain-column c p.0 r.0.readable, count-stays marks k p.1) refl
  look-kept (c ∷ k ∷ d ∷ []) r h =
      let p = and_parts (is_plain_column t.columns c) (is_count k && is_constant_of (kind_of c t.columns) d) h in
      let q = and_parts (is_count k) (is_constant_of (kind_of c t.columns) d) p.1 in
      rw (plain-column c p.0 r.0.readable, count-stays marks k q.0, constant-stays marks (kind_of c t.columns) (kind_of (lifted marks c) u.columns) d (same-kind c r.0) q.1) refl
  look-kept (c ∷ k ∷ d ∷ e ∷ es) r h = h

  term-kept : (g : Given) → IsReady g.0 → term_fits (g.0, expr_fits g.0) before ≡ true → term_fits (lifted marks g.0, expr_fits (lifted marks g.0)) after ≡ true
  unfolding term_fits
  term-kept g r h =
      let p = and_parts (expr_fits g.0 before position.Term) (has_kind is_addable (kind_of g.0 t.columns)) h in
      rw (g.1 r position.Term term-takes p.0, same-kind g.0 r, p.1) refl

  restart-kept : (g : Given) → IsReady g.0 → restart_fits (g.0, expr_fits g.0) before ≡ true → restart_fits (lifted marks g.0, expr_fits (lifted marks g.0)) after ≡ true
  unfolding restart_fits
  restart-kept g r h =
      let p = and_parts (expr_fits g.0 before position.Term) (is_kind kind.Bool (kind_of g.0 t.columns)) h in
      rw (g.1 r position.Term term-takes p.0, same-kind g.0 r, p.1) refl

  sum-kept : (gs : List Given) → AreReady (map bare gs) → running_sum_fits (checked_args (map bare gs)) before ≡ true → running_sum_fits (checked_args (map (lifted marks) (map bare gs))) after ≡ true
  unfolding running_sum_fits checked_args
  sum-kept [] r h = h
  sum-kept (g ∷ []) r h = term-kept g r.0 h
  sum-kept (g ∷ s ∷ []) r h =
      let p = and_parts (term_fits (g.0, expr_fits g.0) before) (restart_fits (s.0, expr_fits s.0) before) h in
      rw (term-kept g r.0 p.0, restart-kept s r.1.0 p.1) refl
  sum-kept (g ∷ s ∷ x ∷ gs) r h = h

  number-kept : (gs : List Given) → AreReady (map bare gs) → row_number_fits (checked_args (map bare gs)) before ≡ true → row_number_fits (checked_args (map (lifted marks) (map bare gs))) after ≡ true
  unfolding row_number_fits checked_args
  number-kept [] r h = refl
  number-kept (g ∷ []) r h = constant-stays marks (Some kind.Long) (Some kind.Long) g.0 refl h
  number-kept (g ∷ s ∷ []) r h =
      let p = and_parts (is_constant_of (Some kind.Long) g.0) (restart_fits (s.0, expr_fits s.0) before) h in
      rw (constant-stays marks (Some kind.Long) (Some kind.Long) g.0 refl p.0, restart-kept s r.1.0 p.1) refl
  number-kept (g ∷ s ∷ x ∷ gs) r h = h

  window-args : (f : Window) (gs : List Given) → AreReady (map bare gs) → window_fits f (checked_args (map bare gs)) before ≡ true → window_fits f (checked_args (map (lifted marks) (map bare gs))) after ≡ true
  unfolding window_fits
  window-args window.Prev gs r h =
      ap (λ (es : List BExpr). look_fits es after) (exprs-checked (map (lifted marks) (map bare gs)))
      ∙ look-kept (map bare gs) r (ap (λ (es : List BExpr). look_fits es before) (sym (exprs-checked (map bare gs))) ∙ h)
  window-args window.Next gs r h =
      ap (λ (es : List BExpr). look_fits es after) (exprs-checked (map (lifted marks) (map bare gs)))
      ∙ look-kept (map bare gs) r (ap (λ (es : List BExpr). look_fits es before) (sym (exprs-checked (map bare gs))) ∙ h)
  window-args window.RowCumsum gs r h = sum-kept gs r h
  window-args window.RowNumber gs r h = number-kept gs r h

  window-kept : (f : Window) (gs : List Given) → Kept (V.Window f (map bare gs))
  window-kept f gs r at takes h =
      let args = map bare gs in
      let p = and_parts (takes_window at f) (window_fits f (checked_args args) before) (sym (fits-Window f args before at) ∙ h) in
      let ready = ready-all args (sym (lent-Window lent f args) ∙ r.lent_calls) (sym (readable-Window marks f args) ∙ r.readable) (subst Answers (calls-Window f args) r.answers) in
      ap (λ (x : BExpr). expr_fits x after at) (lifts-Window marks f args) ∙ (fits-Window f (map (lifted marks) args) after at ∙ rw (p.0, window-args f gs ready p.1) refl)

  aggregate-kept : (f : Aggregate) (args : List BExpr) → Kept (V.Aggregate f args)
  aggregate-kept f args r at takes h = let no : false ≡ true = sym (readable-Aggregate marks f args) ∙ r.readable in absurd cc

  kept-layer : (y : BExpr-F Given) → Kept (roll-BExpr (map-BExpr Given BExpr bare y))
  kept-layer (BExpr-F.Literal l) = subst Kept (sym (V.rolls-Literal l)) (literal-kept l)
  kept-layer (BExpr-F.Column n) = subst Kept (sym (V.rolls-Column n)) (column-kept n)
  kept-layer (BExpr-F.Step c) = subst Kept (sym (V.rolls-Step c)) (step-kept c)
  kept-layer (BExpr-F.Call f gs) = subst Kept (sym (V.rolls-Call f (map bare gs))) (call-kept f gs)
  kept-layer (BExpr-F.Chain first gs) = subst Kept (sym (V.rolls-Chain first.0 (map bare_link gs))) (chain-kept first gs)
  kept-layer (BExpr-F.Path whole gs) = subst Kept (sym (V.rolls-Path whole.0 (map bare gs))) (path-kept whole gs)
  kept-layer (BExpr-F.Window f gs) = subst Kept (sym (V.rolls-Window f (map bare gs))) (window-kept f gs)
  kept-layer (BExpr-F.Aggregate f gs) = subst Kept (sym (V.rolls-Aggregate f (map bare gs))) (aggregate-kept f (map bare gs))

  every-kept : (e : BExpr) → Kept e
  every-kept = ind-BExpr Kept (λ x y is. subst (λ (z : BExpr-F BExpr). Kept (roll-BExpr z)) is (kept-layer y))

  pub lifted-fits : (e : BExpr) → calls_are_lent lent e ≡ true → is_readable marks e ≡ true → Answers (calls e) → (at : Position) → takes_columns at ≡ true → expr_fits e before at ≡ true → expr_fits (lifted marks e) after at ≡ true
  lifted-fits e l r h at takes f = every-kept e (record { lent_calls = l; readable = r; answers = h }) at takes f
