-- Two filters become one.
use Rattle.std.proofs.Common.{◌≡◌, ◌≤◌, ◌<◌, ◌+◌, ℕ, suc, Bool, true, false, List, [], ◌∷◌, ◌++◌, map, filter, length, refl, sym, ap, ap₂, ◌∙◌, subst, inl, inr, arith}
use Rattle.std.specs.Prelude.{◌&&◌, nat_le, fold, Option, None, Some, is_some, option_and_then, option_map}
use Rattle.std.specs.List.{list_all}
use Rattle.std.proofs.lemmas.Bool.{and_parts, cases_Bool}
use Rattle.kql_cells.specs.Seen.{row_at}
use Rattle.kql_cells.specs.Table.{Grid, gathered}
use Rattle.kql_cells.specs.declared.schema.Column.{Column}
use Rattle.kql_cells.specs.declared.value.Kind.{Kind}
use Rattle.kql_cells.specs.declared.value.Kind.TheVariants as kind
use Rattle.kql_cells.specs.declared.value.Value.{Value}
use Rattle.kql_functions.specs.Kinds.{all_same, logic_kind, result_kind, same_kind, several_of}
use Rattle.kql_scalar_fns.specs.Applied.{applied}
use Rattle.kql_scalar_fns.specs.Arguments.{bool_or_null}
use Rattle.kql_scalar_fns.specs.Logic.{both, both_known, conjunction, is_true, logic, truth}
use Rattle.kql_bound.specs.declared.expr.BExpr.{BExpr, ind-BExpr, map-BExpr, roll-BExpr}
use Rattle.kql_bound.specs.declared.expr.BExpr.TheOpen.{BExpr-F}
use Rattle.kql_bound.specs.declared.expr.BExpr.TheVariants as E
use Rattle.kql_bound.specs.declared.expr.ChainSign.{ChainSign}
use Rattle.kql_bound.specs.declared.plan.Op.{Op}
use Rattle.kql_bound.specs.declared.plan.Op.TheVariants as V
use Rattle.kql_meaning.specs.declared.position.Position.TheVariants as position
use Rattle.kql_meaning.specs.Expressions.{all_known, call_kind, kind_of, kinds_in, val, values_in}
use Rattle.kql_meaning.specs.Fits.{Known}
use Rattle.kql_meaning.specs.FittingExpressions.{expr_fits, fits_as, has_kind, is_callable, part_fits, scope_of}
use Rattle.kql_meaning.specs.FittingOperators.{where_fits}
use Rattle.kql_meaning.specs.Plans.{op_means}
use Rattle.kql_meaning.specs.Tables.{places}
use Rattle.kql_meaning.specs.Values.{holds}
use Rattle.kql_meaning.specs.Where.{where_table}
use Rattle.kql_meaning.proofs.KindLaws.{kind-Call}
use Rattle.kql_meaning.proofs.ValueLaws.{val-Call}
use Rattle.kql_meaning.proofs.ExpressionFitLaws.{fits-Call}
use Rattle.kql_meaning.proofs.OperatorFitLaws.{op-Where}
use Rattle.kql_fit_laws.proofs.JoinRows.{same-kind}
use Rattle.kql_fit_laws.proofs.RowFacts.{columns-some}
use Rattle.plan_rules.proofs.PushExtend.{kept-if}
use Rattle.plan_rules.proofs.RowWise.{filter-map, filter-same}
use Rattle.plan_rules.proofs.RuleViews.{both-some, filter-is, pair-along, pair-becomes, when-some}
use Rattle.plan_rules.proofs.ShortRules.{where-means}
use Rattle.plan_rules.proofs.Subplans.{one-columns}
use Rattle.plan_rules.proofs.TermSteps.{call-terms, terms-Aggregate, terms-Chain, terms-Column, terms-Literal, terms-Path, terms-Step, terms-Window}
use Rattle.plan_rules.proofs.Sizes.{conjoined-small, op_size-Where}
use Rattle.plan_rules.proofs.Weights.{two-to-one, weight-Where}
use Rattle.plan_rules.specs.Becomes.{Becomes}
use Rattle.plan_rules.specs.Improves.{Improves}
use Rattle.plan_rules.specs.Rules.{and_func, conjoined, terms_in, terms_of, two_filters, when}
use Rattle.plan_rules.specs.Views.{filter_of}
use Rattle.plan_rules.specs.Weight.{mover}
use Rattle.kql_meaning.specs.RowByRow.{is_plain}
use Rattle.kql_meaning.proofs.RowByRowLaws.{plain-alone, where-rows, passes}

-- What an `and` holds.

both-true : (a b : Option Bool) → is_true (both a b) ≡ (is_true a && is_true b)
both-true (Some true) (Some true) = refl
both-true (Some true) (Some false) = refl
both-true (Some true) None = refl
both-true (Some false) b = refl
both-true None (Some true) = refl
both-true None (Some false) = refl
both-true None None = refl

and-and : (a b c : Bool) → ((a && b) && c) ≡ (a && (b && c))
and-and true b c = refl
and-and false b c = refl

fold-true : (z : Option Bool) (vs : List Value) → is_true (fold both_known z vs) ≡ (is_true z && list_all holds vs)
unfolding holds
fold-true z [] = and-true (is_true z)
  where
    and-true : (b : Bool) → b ≡ (b && true)
    and-true true = refl
    and-true false = refl
fold-true z (v ∷ vs) = fold-true (both z (truth v)) vs ∙ (ap (λ b. b && list_all holds vs) (both-true z (truth v)) ∙ and-and (is_true z) (is_true (truth v)) (list_all holds vs))

truth-back : (o : Option Bool) → truth (bool_or_null o) ≡ o
unfolding truth
truth-back None = refl
truth-back (Some b) = refl

pub and-holds : (vs : List Value) → holds (applied and_func vs) ≡ list_all holds vs
unfolding holds applied logic conjunction
and-holds vs = ap is_true (truth-back (fold both_known (Some true) vs)) ∙ fold-true (Some true) vs

all-append : {X : Type 0} (p : X → Bool) (xs ys : List X) → list_all p (xs ++ ys) ≡ (list_all p xs && list_all p ys)
all-append p [] ys = refl
all-append p (x ∷ xs) ys = ap (λ b. p x && b) (all-append p xs ys) ∙ sym (and-and (p x) (list_all p xs) (list_all p ys))

all-values : (es : List BExpr) (t : Grid) (i : ℕ) → list_all holds (values_in es t i []) ≡ list_all (λ e. holds (val e t i [])) es
unfolding values_in
all-values [] t i = refl
all-values (e ∷ es) t i = ap (λ b. holds (val e t i []) && b) (all-values es t i)

and-one : (b : Bool) → (b && true) ≡ b
and-one true = refl
and-one false = refl

abbrev hold : Grid → ℕ → BExpr → Bool
hold t i e = holds (val e t i [])

-- Conditions, and the types of several.

abbrev conditions : List Column → List BExpr → Bool
conditions cs es = list_all (λ e. where_fits e cs) es

abbrev all_fit : List Column → List BExpr → Bool
all_fit cs es = list_all (λ e. expr_fits e (scope_of cs) position.Window) es

bool-kind : (o : Option Kind) → has_kind (same_kind kind.Bool) o ≡ true → o ≡ Some kind.Bool
unfolding has_kind
bool-kind None e = cc
bool-kind (Some k) e = ap (λ x. Some x) (sym (same-kind kind.Bool k e))

condition-parts : (e : BExpr) (cs : List Column) → where_fits e cs ≡ true → (expr_fits e (scope_of cs) position.Window ≡ true) × (kind_of e cs ≡ Some kind.Bool)
unfolding where_fits fits_as
condition-parts e cs h = let b = and_parts (expr_fits e (scope_of cs) position.Window) (has_kind (same_kind kind.Bool) (kind_of e cs)) h in (b.0, bool-kind (kind_of e cs) b.1)

condition : (e : BExpr) (cs : List Column) (k : Kind) → expr_fits e (scope_of cs) position.Window ≡ true → kind_of e cs ≡ Some k → same_kind kind.Bool k ≡ true → where_fits e cs ≡ true
unfolding where_fits fits_as has_kind
condition e cs k f known bool = rw (f, known, bool) refl

-- The types of expressions that fit, each of which is that of a condition.
record Typed (cs : List Column) (es : List BExpr) : Type 0 where
  fit : all_fit cs es ≡ true
  kinds : List Kind
  known : all_known (kinds_in es cs) ≡ Some kinds
  bools : all_same kind.Bool kinds ≡ true
  as_many : length kinds ≡ length es

typed : (cs : List Column) (es : List BExpr) → conditions cs es ≡ true → Typed cs es
unfolding all_known kinds_in all_same
typed cs [] h = record { fit = refl; kinds = []; known = refl; bools = refl; as_many = refl }
typed cs (e ∷ es) h =
    let b = and_parts (where_fits e cs) (conditions cs es) h in
    let one = condition-parts e cs b.0 in
    let more = typed cs es b.1 in
    record { fit = rw (one.0, more.fit) refl; kinds = kind.Bool ∷ more.kinds; known = rw (one.1, more.known) refl; bools = more.bools; as_many = ap suc more.as_many }

known-parts : (o : Option Kind) (more : Option (List Kind)) (ks : List Kind) → option_and_then (λ one. option_map (λ ls. one ∷ ls) more) o ≡ Some ks → (k : Kind) × (o ≡ Some k) × (ls : List Kind) × (more ≡ Some ls) × (ks ≡ k ∷ ls)
known-parts None more ks e = absurd cc
known-parts (Some k) None ks e = absurd cc
known-parts (Some k) (Some ls) ks e = let same : k ∷ ls ≡ ks = cc in (k, refl, ls, refl, sym same)

each-condition : (cs : List Column) (es : List BExpr) (ks : List Kind) → all_fit cs es ≡ true → all_known (kinds_in es cs) ≡ Some ks → all_same kind.Bool ks ≡ true → (conditions cs es ≡ true) × (length ks ≡ length es)
unfolding all_known kinds_in all_same
each-condition cs [] ks f known bools = let none : [] ≡ ks = cc in (refl, ap length (sym none))
each-condition cs (e ∷ es) ks f known bools =
    let k = known-parts (kind_of e cs) (all_known (kinds_in es cs)) ks known in
    let a = and_parts (expr_fits e (scope_of cs) position.Window) (all_fit cs es) f in
    let b = and_parts (same_kind kind.Bool k.0) (all_same kind.Bool k.2) (ap (all_same kind.Bool) (sym k.4) ∙ bools) in
    let one = condition e cs k.0 a.0 k.1 b.0 in
    let more = each-condition cs es k.2 a.1 k.3 b.1 in
    (rw (one, more.0) refl, ap length k.4 ∙ ap suc more.1)

-- The arguments of an `and` that is a condition are conditions, and there are some.

some-kind : (o : Option Kind) → is_some o ≡ true → (k : Kind) × (o ≡ Some k)
some-kind None e = cc
some-kind (Some k) e = (k, refl)

several-some : (ks : List Kind) (k : Kind) → several_of 2 kind.Bool kind.Bool ks ≡ Some k → (all_same kind.Bool ks ≡ true) × (0 < length ks)
unfolding several_of
several-some ks k e = elim (cases_Bool (nat_le 2 (length ks) && all_same kind.Bool ks)) [
  | inl t ↦ let b = and_parts (nat_le 2 (length ks)) (all_same kind.Bool ks) t in let two : 2 ≤ length ks = grind (arith, b.0) in (b.1, omega (arith, two))
  | inr f ↦ let none : None ≡ Some k = rw f at e in absurd cc
]

call-some : (o : Option (List Kind)) (k : Kind) → option_and_then (result_kind and_func) o ≡ Some k → (ks : List Kind) × (o ≡ Some ks) × (all_same kind.Bool ks ≡ true) × (0 < length ks)
unfolding result_kind logic_kind
call-some None k e = absurd cc
call-some (Some ks) k e = let b = several-some ks k e in (ks, refl, b.0, b.1)

and-args : (args : List BExpr) (cs : List Column) → where_fits (E.Call and_func args) cs ≡ true → (conditions cs args ≡ true) × (0 < length args)
unfolding call_kind
and-args args cs h =
    let a = condition-parts (E.Call and_func args) cs h in
    let takes = is_some (call_kind and_func (kinds_in args cs)) in
    let b = and_parts (is_callable and_func) (all_fit cs args && (part_fits and_func args && takes)) (sym (fits-Call and_func args (scope_of cs) position.Window) ∙ a.0) in
    let c = and_parts (all_fit cs args) (part_fits and_func args && takes) b.1 in
    let d = and_parts (part_fits and_func args) takes c.1 in
    let k = some-kind (call_kind and_func (kinds_in args cs)) d.1 in
    let r = call-some (all_known (kinds_in args cs)) k.0 k.1 in
    let each = each-condition cs args r.0 c.0 r.1 r.2 in
    (each.0, subst (λ n. 0 < n) each.1 r.3)

-- What is said of the terms of an expression: they all hold where it does, and where it is a condition they are, and there are some.
record Terms (e : BExpr) (ts : List BExpr) : Type 0 where
  same : (t : Grid) (i : ℕ) → list_all (hold t i) ts ≡ hold t i e
  fitting : (cs : List Column) → where_fits e cs ≡ true → (conditions cs ts ≡ true) × (0 < length ts)

abbrev HasTerms : BExpr → Type 0
HasTerms e = Terms e (terms_of e)

one-term : (e : BExpr) → Terms e (e ∷ [])
one-term e = record { same = λ t i. and-one (hold t i e); fitting = λ cs h. (rw h refl, omega arith) }

stands-alone : (e : BExpr) → terms_of e ≡ e ∷ [] → HasTerms e
stands-alone e is = subst (Terms e) (sym is) (one-term e)

-- Several.

abbrev Given : Type 0
Given = (e : BExpr) × HasTerms e

abbrev bare : Given → BExpr
bare g = g.0

abbrev bare_link : ChainSign × Given → ChainSign × BExpr
bare_link l = (l.0, l.1.0)

terms-hold : (gs : List Given) (t : Grid) (i : ℕ) → list_all (hold t i) (terms_in (map bare gs)) ≡ list_all (hold t i) (map bare gs)
unfolding terms_in
terms-hold [] t i = refl
terms-hold (g ∷ gs) t i = all-append (hold t i) (terms_of g.0) (terms_in (map bare gs)) ∙ ap₂ (λ a b. a && b) (g.1.same t i) (terms-hold gs t i)

terms-fit : (gs : List Given) (cs : List Column) → conditions cs (map bare gs) ≡ true → conditions cs (terms_in (map bare gs)) ≡ true
unfolding terms_in
terms-fit [] cs h = refl
terms-fit (g ∷ gs) cs h =
    let b = and_parts (where_fits g.0 cs) (conditions cs (map bare gs)) h in
    all-append (λ e. where_fits e cs) (terms_of g.0) (terms_in (map bare gs)) ∙ rw ((g.1.fitting cs b.0).0, terms-fit gs cs b.1) refl

length-append : {X : Type 0} (xs ys : List X) → length (xs ++ ys) ≡ length xs + length ys
length-append [] ys = omega arith
length-append (x ∷ xs) ys = let e = length-append xs ys in omega (arith, e)

terms-some : (gs : List Given) (cs : List Column) → conditions cs (map bare gs) ≡ true → 0 < length (map bare gs) → 0 < length (terms_in (map bare gs))
unfolding terms_in
terms-some [] cs h some = absurd (omega (arith, some))
terms-some (g ∷ gs) cs h some =
    let b = and_parts (where_fits g.0 cs) (conditions cs (map bare gs)) h in
    let first = (g.1.fitting cs b.0).1 in
    let n = length-append (terms_of g.0) (terms_in (map bare gs)) in
    omega (arith, first, n)

and-has-terms : (gs : List Given) → Terms (E.Call and_func (map bare gs)) (terms_in (map bare gs))
and-has-terms gs = record {
  same = λ t i. terms-hold gs t i ∙ sym (ap holds (val-Call and_func (map bare gs) t i []) ∙ (and-holds (values_in (map bare gs) t i []) ∙ all-values (map bare gs) t i));
  fitting = λ cs h. let b = and-args (map bare gs) cs h in (terms-fit gs cs b.0, terms-some gs cs b.0 b.1);
}

of-layer : (y : BExpr-F Given) → HasTerms (roll-BExpr (map-BExpr Given BExpr bare y))
of-layer (BExpr-F.Literal l) = subst HasTerms (sym (E.rolls-Literal l)) (stands-alone (E.Literal l) (terms-Literal l))
of-layer (BExpr-F.Column n) = subst HasTerms (sym (E.rolls-Column n)) (stands-alone (E.Column n) (terms-Column n))
of-layer (BExpr-F.Step c) = subst HasTerms (sym (E.rolls-Step c)) (stands-alone (E.Step c) (terms-Step c))
of-layer (BExpr-F.Call f gs) = subst HasTerms (sym (E.rolls-Call f (map bare gs))) (call-terms Terms (λ e none. one-term e) f (map bare gs) (and-has-terms gs))
of-layer (BExpr-F.Chain first gs) = subst HasTerms (sym (E.rolls-Chain first.0 (map bare_link gs))) (stands-alone (E.Chain first.0 (map bare_link gs)) (terms-Chain first.0 (map bare_link gs)))
of-layer (BExpr-F.Path whole gs) = subst HasTerms (sym (E.rolls-Path whole.0 (map bare gs))) (stands-alone (E.Path whole.0 (map bare gs)) (terms-Path whole.0 (map bare gs)))
of-layer (BExpr-F.Window f gs) = subst HasTerms (sym (E.rolls-Window f (map bare gs))) (stands-alone (E.Window f (map bare gs)) (terms-Window f (map bare gs)))
of-layer (BExpr-F.Aggregate f gs) = subst HasTerms (sym (E.rolls-Aggregate f (map bare gs))) (stands-alone (E.Aggregate f (map bare gs)) (terms-Aggregate f (map bare gs)))

terms : (e : BExpr) → HasTerms e
terms = ind-BExpr HasTerms (λ x y is. subst (λ (z : BExpr-F BExpr). HasTerms (roll-BExpr z)) is (of-layer y))

-- Both.

pub conjoined-holds : (p q : BExpr) (t : Grid) (i : ℕ) → hold t i (conjoined p q) ≡ (hold t i p && hold t i q)
unfolding conjoined
conjoined-holds p q t i =
    let es = terms_of p ++ terms_of q in
    ap holds (val-Call and_func es t i []) ∙ (and-holds (values_in es t i []) ∙ (all-values es t i ∙ (all-append (hold t i) (terms_of p) (terms_of q) ∙ ap₂ (λ a b. a && b) ((terms p).same t i) ((terms q).same t i))))

and-call : (ks : List Kind) → all_same kind.Bool ks ≡ true → 2 ≤ length ks → result_kind and_func ks ≡ Some kind.Bool
unfolding result_kind logic_kind several_of
and-call ks bools two =
    let enough : nat_le 2 (length ks) ≡ true = grind (arith, two) in
    rw (enough, bools) refl

and-fits : (es : List BExpr) (cs : List Column) → conditions cs es ≡ true → 2 ≤ length es → where_fits (E.Call and_func es) cs ≡ true
unfolding call_kind is_callable part_fits
and-fits es cs h two =
    let each = typed cs es h in
    let many = each.as_many in
    let given : call_kind and_func (kinds_in es cs) ≡ Some kind.Bool = ap (option_and_then (result_kind and_func)) each.known ∙ and-call each.kinds each.bools (omega (arith, many, two)) in
    let fits : expr_fits (E.Call and_func es) (scope_of cs) position.Window ≡ true = fits-Call and_func es (scope_of cs) position.Window ∙ rw (each.fit, given) refl in
    condition (E.Call and_func es) cs kind.Bool fits (kind-Call and_func es cs ∙ given) refl

pub conjoined-fits : (p q : BExpr) (cs : List Column) → where_fits p cs ≡ true → where_fits q cs ≡ true → where_fits (conjoined p q) cs ≡ true
unfolding conjoined
conjoined-fits p q cs f g =
    let a = (terms p).fitting cs f in
    let b = (terms q).fitting cs g in
    let n = length-append (terms_of p) (terms_of q) in
    and-fits (terms_of p ++ terms_of q) cs (all-append (λ e. where_fits e cs) (terms_of p) (terms_of q) ∙ rw (a.0, b.0) refl) (omega (arith, a.1, b.1, n))

-- The rule.

filter-filter : {X : Type 0} (p q : X → Bool) (xs : List X) → filter q (filter p xs) ≡ filter (λ x. p x && q x) xs
filter-filter p q [] = refl
filter-filter p q (x ∷ xs) = elim (cases_Bool (p x)) [
  | inl t ↦ elim (cases_Bool (q x)) [
    | inl u ↦ rw (t) (rw (u) (ap (λ ys. x ∷ ys) (filter-filter p q xs)))
    | inr f ↦ rw (t) (rw (f) (filter-filter p q xs))
  ]
  | inr f ↦ rw f (filter-filter p q xs)
]

pub filters-table : (p q : BExpr) → is_plain q ≡ true → (t : Grid) → where_table (conjoined p q) t ≡ where_table q (where_table p t)
unfolding where_table
filters-table p q plain t =
    let lines : List (List Value) → Grid = λ ls. record { columns = t.columns; lines = ls } in
    let ps = filter (λ i. hold t i p) (places t) in
    sym (where-rows q plain (gathered t ps)
    ∙ ap lines (filter-map (passes q t.columns) (row_at t.lines) ps
    ∙ ap (map (row_at t.lines)) (filter-same (λ i. passes q t.columns (row_at t.lines i)) (λ i. hold t i q) ps (λ i m. ap holds (sym (plain-alone q plain t i [])))
    ∙ (filter-filter (λ i. hold t i p) (λ i. hold t i q) (places t) ∙ filter-same (λ i. hold t i p && hold t i q) (λ i. hold t i (conjoined p q)) (places t) (λ i m. sym (conjoined-holds p q t i))))))

pub filters-becomes : (k : Known) (inside : Bool) (cs : List Column) (p q : BExpr) → is_plain q ≡ true → Becomes k inside cs (V.Where p ∷ V.Where q ∷ []) (V.Where (conjoined p q) ∷ [])
filters-becomes k inside cs p q plain = pair-becomes k inside cs (V.Where p) (V.Where q) (V.Where (conjoined p q) ∷ []) (λ mid ds e f.
    let a = columns-some (where_fits p cs) cs mid (sym (op-Where p k inside cs) ∙ e) in
    let b = columns-some (where_fits q mid) mid ds (sym (op-Where q k inside mid) ∙ f) in
    let fit = conjoined-fits p q cs a.0 (ap (where_fits q) a.1 ∙ b.0) in (
      one-columns (V.Where (conjoined p q)) k inside cs ∙ (op-Where (conjoined p q) k inside cs ∙ (kept-if (where_fits (conjoined p q) cs) cs fit ∙ ap (λ c. Some c) (a.1 ∙ b.1))),
      λ w t s h. where-means (conjoined p q) w t ∙ (filters-table p q plain t ∙ (ap (where_table q) (sym (where-means p w t)) ∙ sym (where-means q w (op_means (V.Where p) w t)))),
    ))

pub two_filters-improves : (k : Known) (inside : Bool) (cs : List Column) (x y : Op) (zs : List Op) → two_filters x y ≡ Some zs → Improves k inside cs (x ∷ y ∷ []) zs
unfolding two_filters
two_filters-improves k inside cs x y zs e =
    let r = both-some (filter_of x) (filter_of y) (λ p q. when (is_plain q) (V.Where (conjoined p q) ∷ [])) zs e in
    let s = when-some (is_plain r.1) (V.Where (conjoined r.0 r.1) ∷ []) zs r.4 in
    pair-along k inside cs x y (V.Where r.0) (V.Where r.1) zs (V.Where (conjoined r.0 r.1) ∷ []) (filter-is x r.0 r.2) (filter-is y r.1 r.3) s.1 (record {
      becomes = filters-becomes k inside cs r.0 r.1 s.0;
      lighter = two-to-one (V.Where r.0) (V.Where r.1) (V.Where (conjoined r.0 r.1)) mover mover mover (weight-Where r.0) (weight-Where r.1) (weight-Where (conjoined r.0 r.1)) (omega arith) (omega arith) (omega arith);
      no_longer = omega arith;
      no_larger = omega (arith, op_size-Where r.0, op_size-Where r.1, op_size-Where (conjoined r.0 r.1), conjoined-small r.0 r.1);
    })
