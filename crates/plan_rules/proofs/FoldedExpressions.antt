-- Every expression: where it fits, what it becomes fits too, and no constant stands in it, but for literals.
use Rattle.std.proofs.Common.{◌≡◌, Bool, true, List, [], ◌∷◌, map, refl, ap, ap₂, sym, ◌∙◌, subst, inl, inr}
use Rattle.std.specs.Prelude.{◌&&◌, ◌==◌, Option, Some, is_some}
use Rattle.std.specs.List.{list_all}
use Rattle.std.proofs.lemmas.Bool.{and_from, and_parts}
use Rattle.kql_cells.specs.declared.schema.Column.{Column}
use Rattle.kql_cells.specs.declared.value.Kind.{Kind}
use Rattle.kql_cells.specs.declared.value.Kind.TheVariants as kind
use Rattle.kql_functions.specs.Kinds.{has_order, same_kind}
use Rattle.kql_functions.specs.declared.aggregate.Aggregate.{Aggregate}
use Rattle.kql_functions.specs.declared.aggregate.Aggregate.TheVariants as aggregate
use Rattle.kql_functions.specs.declared.func.Func.{Func}
use Rattle.kql_functions.specs.declared.window.Window.{Window}
use Rattle.kql_functions.specs.declared.window.Window.TheVariants as window
use Rattle.kql_bound.specs.declared.expr.BExpr.{BExpr, ind-BExpr, map-BExpr, roll-BExpr}
use Rattle.kql_bound.specs.declared.expr.BExpr.TheOpen.{BExpr-F}
use Rattle.kql_bound.specs.declared.expr.BExpr.TheVariants as V
use Rattle.kql_bound.specs.declared.expr.ChainSign.{ChainSign}
use Rattle.kql_meaning.specs.declared.position.Position.{Position}
use Rattle.kql_meaning.specs.declared.position.Position.TheVariants as position
use Rattle.kql_meaning.specs.Expressions.{call_kind, chain_kind, kind_along, kind_down, kind_of, kinds_in, path_kind}
use Rattle.kql_meaning.specs.FittingExpressions.{Scope, aggregate_fits, aggregate_takes, best_of, call_or_expr_fits, checked_args, expr_fits, exprs_of, first_row_of, fits_as, has_kind, is_addable, is_any, is_callable, is_constant_of, is_count, is_key, is_kind, is_plain_column, links_fit, look_fits, one_of, one_of_if, one_or_first_of, part_fits, restart_fits, row_number_fits, running_sum_fits, takes_aggregate, takes_window, term_fits, window_fits}
use Rattle.kql_meaning.specs.Results.{has_one_result}
use Rattle.kql_meaning.proofs.MemberLaws.{Member, member-of-map}
use Rattle.kql_meaning.proofs.ExpressionFitLaws.{aggregate-checked, call-Aggregate, exprs-checked, fits-Aggregate, fits-Call, fits-Chain, fits-Path, fits-Window}
use Rattle.plan_rules.specs.Folding.{folded, is_folded}
use Rattle.plan_rules.proofs.FoldSteps.{folded-Aggregate, folded-Call, folded-Chain, folded-Column, folded-Literal, folded-Path, folded-Step, folded-Window, folded_link, is_folded-Aggregate, is_folded-Column, is_folded-Literal, is_folded-Step, is_folded-Window}
use Rattle.plan_rules.proofs.FoldedReadings.{folded-kind, folded-kinds}
use Rattle.plan_rules.proofs.FoldedShapes.{Shape, length-folded, other-fits, shape}
use Rattle.plan_rules.proofs.FoldedFits.{Good, call-good, chain-good, column-stays, columns-stay, constant-stays, count-stays, links_folded, part-stays, path-good}

-- What is said of an expression.
abbrev pub Folds : BExpr → Type 0
Folds e = (scope : Scope) (at : Position) → expr_fits e scope at ≡ true → Good (folded e) scope at

abbrev EachFolds : List BExpr → Type 0
EachFolds es = (e : BExpr) → Member e es → Folds e

abbrev LinksFold : List (ChainSign × BExpr) → Type 0
LinksFold ls = (l : ChainSign × BExpr) → Member l ls → Folds l.1

all-good : (es : List BExpr) → EachFolds es → (scope : Scope) (at : Position) → list_all (λ e. expr_fits e scope at) es ≡ true → (list_all (λ e. expr_fits e scope at) (map folded es) ≡ true) × (list_all is_folded (map folded es) ≡ true)
all-good [] each scope at h = (refl, refl)
all-good (e ∷ es) each scope at h =
    let b = and_parts (expr_fits e scope at) (list_all (λ e. expr_fits e scope at) es) h in
    let one = each e (inl refl) scope at b.0 in
    let more = all-good es (λ x m. each x (inr m)) scope at b.1 in
    (rw (one.0, more.0) refl, rw (one.1, more.1) refl)

links-good : (ls : List (ChainSign × BExpr)) → LinksFold ls → (scope : Scope) (at : Position) → links_fit ls scope at ≡ true → (links_fit (map folded_link ls) scope at ≡ true) × (links_folded (map folded_link ls) ≡ true)
unfolding links_fit
links-good [] each scope at h = (refl, refl)
links-good (l ∷ ls) each scope at h =
    let b = and_parts (expr_fits l.1 scope at) (list_all (λ (l : ChainSign × BExpr). expr_fits l.1 scope at) ls) h in
    let one = each l (inl refl) scope at b.0 in
    let more = links-good ls (λ x m. each x (inr m)) scope at b.1 in
    (rw (one.0, more.0) refl, rw (one.1, more.1) refl)

-- With a test of the type.
pub as-good : (test : Kind → Bool) (e : BExpr) → Folds e → (scope : Scope) (at : Position) → fits_as test e scope at ≡ true → (fits_as test (folded e) scope at ≡ true) × (is_folded (folded e) ≡ true)
unfolding fits_as
as-good test e each scope at h =
    let b = and_parts (expr_fits e scope at) (has_kind test (kind_of e scope.columns)) h in
    let one = each scope at b.0 in
    (and_from (expr_fits (folded e) scope at) (has_kind test (kind_of (folded e) scope.columns)) one.0 (ap (has_kind test) (folded-kind e scope.columns) ∙ b.1), one.1)

-- Calls, chains and paths.

call-folds : (f : Func) (args : List BExpr) → EachFolds args → Folds (V.Call f args)
call-folds f args each scope at h =
    let all = list_all (λ e. expr_fits e scope at) args in
    let typed = is_some (call_kind f (kinds_in args scope.columns)) in
    let a = and_parts (is_callable f) (all && (part_fits f args && typed)) (sym (fits-Call f args scope at) ∙ h) in
    let b = and_parts all (part_fits f args && typed) a.1 in
    let c = and_parts (part_fits f args) typed b.1 in
    let parts = all-good args each scope at b.0 in
    subst (λ e. Good e scope at) (sym (folded-Call f args))
    (call-good f (map folded args) scope at a.0 parts.0 parts.1 (part-stays f args c.0) (ap (λ ks. is_some (call_kind f ks)) (folded-kinds args scope.columns) ∙ c.1))

along-folded : (ls : List (ChainSign × BExpr)) (columns : List Column) (k : Option Kind) → kind_along (map folded_link ls) columns k ≡ kind_along ls columns k
unfolding kind_along
along-folded ls columns k = ap (λ (ks : List (ChainSign × Option Kind)). chain_kind k ks) (links-kinds ls)
  where
    links-kinds : (ls : List (ChainSign × BExpr)) → map {B = ChainSign × Option Kind} (λ (l : ChainSign × BExpr). (l.0, kind_of l.1 columns)) (map folded_link ls) ≡ map {B = ChainSign × Option Kind} (λ (l : ChainSign × BExpr). (l.0, kind_of l.1 columns)) ls
    links-kinds [] = refl
    links-kinds (l ∷ ls) = ap₂ (λ (k : Option Kind) (ks : List (ChainSign × Option Kind)). (l.0, k) ∷ ks) (folded-kind l.1 columns) (links-kinds ls)

chain-folds : (first : BExpr) (links : List (ChainSign × BExpr)) → Folds first → LinksFold links → Folds (V.Chain first links)
chain-folds first links one each scope at h =
    let typed = is_some (kind_along links scope.columns (kind_of first scope.columns)) in
    let a = and_parts (expr_fits first scope at) (links_fit links scope at && typed) (sym (fits-Chain first links scope at) ∙ h) in
    let b = and_parts (links_fit links scope at) typed a.1 in
    let parts = links-good links each scope at b.0 in
    subst (λ e. Good e scope at) (sym (folded-Chain first links))
    (chain-good (folded first) (map folded_link links) scope at (one scope at a.0) parts.0 parts.1 (ap is_some (along-folded links scope.columns (kind_of (folded first) scope.columns) ∙ ap (kind_along links scope.columns) (folded-kind first scope.columns)) ∙ b.1))

down-folded : (es : List BExpr) (columns : List Column) (k : Option Kind) → kind_down (map folded es) columns k ≡ kind_down es columns k
unfolding kind_down
down-folded es columns k = ap (λ ks. path_kind k ks) (folded-kinds es columns)

path-folds : (whole : BExpr) (steps : List BExpr) → Folds whole → EachFolds steps → Folds (V.Path whole steps)
path-folds whole steps one each scope at h =
    let all = list_all (λ e. expr_fits e scope at) steps in
    let typed = is_some (kind_down steps scope.columns (kind_of whole scope.columns)) in
    let a = and_parts (expr_fits whole scope at) (all && typed) (sym (fits-Path whole steps scope at) ∙ h) in
    let b = and_parts all typed a.1 in
    let parts = all-good steps each scope at b.0 in
    subst (λ e. Good e scope at) (sym (folded-Path whole steps))
    (path-good (folded whole) (map folded steps) scope at (one scope at a.0) parts.0 parts.1 (ap is_some (down-folded steps scope.columns (kind_of (folded whole) scope.columns) ∙ ap (kind_down steps scope.columns) (folded-kind whole scope.columns)) ∙ b.1))

-- Window functions.

look-stays : (args : List BExpr) (scope : Scope) → look_fits args scope ≡ true → (map folded args ≡ args) × (list_all is_folded args ≡ true)
unfolding look_fits
look-stays [] scope h = absurd cc
look-stays (c ∷ []) scope h =
    let one = column-stays scope.columns c h in
    (ap (λ (x : BExpr). x ∷ []) one.0, rw one.1 refl)
look-stays (c ∷ k ∷ []) scope h =
    let b = and_parts (is_plain_column scope.columns c) (is_count k) h in
    let one = column-stays scope.columns c b.0 in
    let two = count-stays k b.1 in
    (ap₂ (λ (x y : BExpr). x ∷ y ∷ []) one.0 two.0, rw (one.1, two.1) refl)
look-stays (c ∷ k ∷ d ∷ []) scope h =
    let a = and_parts (is_plain_column scope.columns c) (is_count k && is_constant_of (kind_of c scope.columns) d) h in
    let b = and_parts (is_count k) (is_constant_of (kind_of c scope.columns) d) a.1 in
    let one = column-stays scope.columns c a.0 in
    let two = count-stays k b.0 in
    let three = constant-stays (kind_of c scope.columns) d b.1 in
    (ap₂ (λ (x : BExpr) (xs : List BExpr). x ∷ xs) one.0 (ap₂ (λ (x y : BExpr). x ∷ y ∷ []) two.0 three.0), rw (one.1, two.1, three.1) refl)
look-stays (c ∷ k ∷ d ∷ e ∷ es) scope h = absurd cc

abbrev WindowFolds : Window → List BExpr → Scope → Type 0
WindowFolds f args scope = window_fits f (checked_args args) scope ≡ true → (window_fits f (checked_args (map folded args)) scope ≡ true) × (list_all is_folded (map folded args) ≡ true)

looks-fold : (args : List BExpr) (scope : Scope) → look_fits (exprs_of (checked_args args)) scope ≡ true → (look_fits (exprs_of (checked_args (map folded args))) scope ≡ true) × (list_all is_folded (map folded args) ≡ true)
looks-fold args scope h =
    let one = look-stays args scope (ap (λ es. look_fits es scope) (sym (exprs-checked args)) ∙ h) in
    (ap (λ es. look_fits (exprs_of (checked_args es)) scope) one.0 ∙ h, ap (list_all is_folded) one.0 ∙ one.1)

term-good : (e : BExpr) → Folds e → (scope : Scope) → term_fits (e, expr_fits e) scope ≡ true → (term_fits (folded e, expr_fits (folded e)) scope ≡ true) × (is_folded (folded e) ≡ true)
unfolding term_fits
term-good e each scope h =
    let b = and_parts (expr_fits e scope position.Term) (has_kind is_addable (kind_of e scope.columns)) h in
    let one = each scope position.Term b.0 in
    (and_from (expr_fits (folded e) scope position.Term) (has_kind is_addable (kind_of (folded e) scope.columns)) one.0 (ap (has_kind is_addable) (folded-kind e scope.columns) ∙ b.1), one.1)

restart-good : (e : BExpr) → Folds e → (scope : Scope) → restart_fits (e, expr_fits e) scope ≡ true → (restart_fits (folded e, expr_fits (folded e)) scope ≡ true) × (is_folded (folded e) ≡ true)
unfolding restart_fits
restart-good e each scope h =
    let b = and_parts (expr_fits e scope position.Term) (is_kind kind.Bool (kind_of e scope.columns)) h in
    let one = each scope position.Term b.0 in
    (and_from (expr_fits (folded e) scope position.Term) (is_kind kind.Bool (kind_of (folded e) scope.columns)) one.0 (ap (is_kind kind.Bool) (folded-kind e scope.columns) ∙ b.1), one.1)

start-good : (e : BExpr) → is_constant_of (Some kind.Long) e ≡ true → (is_constant_of (Some kind.Long) (folded e) ≡ true) × (is_folded (folded e) ≡ true)
start-good e h = let s = constant-stays (Some kind.Long) e h in (ap (is_constant_of (Some kind.Long)) s.0 ∙ h, ap is_folded s.0 ∙ s.1)

window-good : (f : Window) (args : List BExpr) → EachFolds args → (scope : Scope) → WindowFolds f args scope
unfolding window_fits running_sum_fits row_number_fits checked_args
window-good window.Prev args each scope h = looks-fold args scope h
window-good window.Next args each scope h = looks-fold args scope h
window-good window.RowCumsum [] each scope h = absurd cc
window-good window.RowCumsum (term ∷ []) each scope h =
    let one = term-good term (each term (inl refl)) scope h in
    (one.0, rw one.1 refl)
window-good window.RowCumsum (term ∷ restart ∷ []) each scope h =
    let b = and_parts (term_fits (term, expr_fits term) scope) (restart_fits (restart, expr_fits restart) scope) h in
    let one = term-good term (each term (inl refl)) scope b.0 in
    let two = restart-good restart (each restart (inr (inl refl))) scope b.1 in
    (rw (one.0, two.0) refl, rw (one.1, two.1) refl)
window-good window.RowCumsum (term ∷ restart ∷ e ∷ es) each scope h = absurd cc
window-good window.RowNumber [] each scope h = (refl, refl)
window-good window.RowNumber (start ∷ []) each scope h =
    let one = start-good start h in
    (one.0, rw one.1 refl)
window-good window.RowNumber (start ∷ restart ∷ []) each scope h =
    let b = and_parts (is_constant_of (Some kind.Long) start) (restart_fits (restart, expr_fits restart) scope) h in
    let one = start-good start b.0 in
    let two = restart-good restart (each restart (inr (inl refl))) scope b.1 in
    (rw (one.0, two.0) refl, rw (one.1, two.1) refl)
window-good window.RowNumber (start ∷ restart ∷ e ∷ es) each scope h = absurd cc

window-folds : (f : Window) (args : List BExpr) → EachFolds args → Folds (V.Window f args)
window-folds f args each scope at h =
    let a = and_parts (takes_window at f) (window_fits f (checked_args args) scope) (sym (fits-Window f args scope at) ∙ h) in
    let parts = window-good f args each scope a.1 in
    subst (λ e. Good e scope at) (sym (folded-Window f args))
    (fits-Window f (map folded args) scope at ∙ rw (a.0, parts.0) refl, is_folded-Window f (map folded args) ∙ parts.1)

-- Aggregates.

one-same : (test : Kind → Bool) (args : List BExpr) (columns : List Column) → one_of test (map folded args) columns ≡ one_of test args columns
unfolding one_of
one-same test [] columns = refl
one-same test (x ∷ []) columns = ap (has_kind test) (folded-kind x columns)
one-same test (x ∷ y ∷ es) columns = refl

one-if-same : (test : Kind → Bool) (args : List BExpr) (columns : List Column) → one_of_if test (map folded args) columns ≡ one_of_if test args columns
unfolding one_of_if
one-if-same test [] columns = refl
one-if-same test (x ∷ []) columns = refl
one-if-same test (x ∷ p ∷ []) columns = ap₂ (λ (j k : Option Kind). has_kind test j && is_kind kind.Bool k) (folded-kind x columns) (folded-kind p columns)
one-if-same test (x ∷ p ∷ e ∷ es) columns = refl

list-takes : (args : List BExpr) (columns : List Column) → one_or_first_of args columns ≡ true → one_or_first_of (map folded args) columns ≡ true
unfolding one_or_first_of
list-takes [] columns h = h
list-takes (x ∷ []) columns h = ap is_some (folded-kind x columns) ∙ h
list-takes (x ∷ n ∷ []) columns h =
    let b = and_parts (is_some (kind_of x columns)) (is_count n) h in
    rw (folded-kind x columns, b.0, (count-stays n b.1).0, b.1) refl
list-takes (x ∷ n ∷ e ∷ es) columns h = h

best-takes : (args : List BExpr) (columns : List Column) → best_of args columns ≡ true → best_of (map folded args) columns ≡ true
unfolding best_of
best-takes [] columns h = h
best-takes (e ∷ cs) columns h =
    let b = and_parts (has_kind has_order (kind_of e columns)) (list_all (is_plain_column columns) cs) h in
    rw (folded-kind e columns, b.0, columns-stay columns cs b.1, b.1) refl

first-takes : (args : List BExpr) (columns : List Column) → first_row_of args columns ≡ true → first_row_of (map folded args) columns ≡ true
unfolding first_row_of
first-takes [] columns h = h
first-takes (c ∷ cs) columns h = ap (list_all (is_plain_column columns)) (columns-stay columns (c ∷ cs) h) ∙ h

takes-folded : (f : Aggregate) (args : List BExpr) (columns : List Column) → aggregate_takes f args columns ≡ true → aggregate_takes f (map folded args) columns ≡ true
unfolding aggregate_takes
takes-folded aggregate.Count args columns h = ap (λ n. n == 0) (length-folded args) ∙ h
takes-folded aggregate.CountIf args columns h = one-same (same_kind kind.Bool) args columns ∙ h
takes-folded aggregate.CountDistinct args columns h = one-same is_key args columns ∙ h
takes-folded aggregate.CountDistinctIf args columns h = one-if-same is_key args columns ∙ h
takes-folded aggregate.Sum args columns h = one-same is_addable args columns ∙ h
takes-folded aggregate.SumIf args columns h = one-if-same is_addable args columns ∙ h
takes-folded aggregate.Min args columns h = one-same has_order args columns ∙ h
takes-folded aggregate.MinIf args columns h = one-if-same has_order args columns ∙ h
takes-folded aggregate.Max args columns h = one-same has_order args columns ∙ h
takes-folded aggregate.MaxIf args columns h = one-if-same has_order args columns ∙ h
takes-folded aggregate.MakeList args columns h = list-takes args columns h
takes-folded aggregate.MakeListIf args columns h = one-if-same is_any args columns ∙ h
takes-folded aggregate.MakeSet args columns h = list-takes args columns h
takes-folded aggregate.MakeSetIf args columns h = one-if-same is_any args columns ∙ h
takes-folded aggregate.ArgMax args columns h = best-takes args columns h
takes-folded aggregate.ArgMin args columns h = best-takes args columns h
takes-folded aggregate.TakeAny args columns h = first-takes args columns h
takes-folded aggregate.BinaryAllAnd args columns h = one-same (same_kind kind.Long) args columns ∙ h
takes-folded aggregate.BinaryAllOr args columns h = one-same (same_kind kind.Long) args columns ∙ h
takes-folded aggregate.BinaryAllXor args columns h = one-same (same_kind kind.Long) args columns ∙ h

result-same : (f : Aggregate) (args : List BExpr) → has_one_result f (map folded args) ≡ has_one_result f args
unfolding has_one_result
result-same aggregate.ArgMax args = ap (λ n. n == 1) (length-folded args)
result-same aggregate.ArgMin args = ap (λ n. n == 1) (length-folded args)
result-same aggregate.TakeAny args = ap (λ n. n == 1) (length-folded args)
result-same _ args = refl

aggregate-good : (f : Aggregate) (args : List BExpr) → EachFolds args → (scope : Scope) (at : Position) → aggregate_fits f (checked_args args) scope at ≡ true → (aggregate_fits f (checked_args (map folded args)) scope at ≡ true) × (list_all is_folded (map folded args) ≡ true)
aggregate-good f args each scope at h =
    let all = list_all (λ e. expr_fits e scope position.Plain) args in
    let a = and_parts (takes_aggregate at f) (all && aggregate_takes f args scope.columns) (sym (aggregate-checked f args scope at) ∙ h) in
    let b = and_parts all (aggregate_takes f args scope.columns) a.1 in
    let parts = all-good args each scope position.Plain b.0 in
    (aggregate-checked f (map folded args) scope at ∙ rw (a.0, parts.0, takes-folded f args scope.columns b.1) refl, parts.1)

aggregate-folds : (f : Aggregate) (args : List BExpr) → EachFolds args → Folds (V.Aggregate f args)
aggregate-folds f args each scope at h =
    let a = and_parts (has_one_result f args) (aggregate_fits f (checked_args args) scope at) (sym (fits-Aggregate f args scope at) ∙ h) in
    let parts = aggregate-good f args each scope at a.1 in
    subst (λ e. Good e scope at) (sym (folded-Aggregate f args))
    (fits-Aggregate f (map folded args) scope at ∙ rw (result-same f args, a.0, parts.0) refl, is_folded-Aggregate f (map folded args) ∙ parts.1)

-- All.

abbrev Given : Type 0
Given = (e : BExpr) × Folds e

abbrev bare : Given → BExpr
bare g = g.0

abbrev bare_link : ChainSign × Given → ChainSign × BExpr
bare_link l = (l.0, l.1.0)

each-given : (gs : List Given) → EachFolds (map bare gs)
each-given gs e m = let q = member-of-map bare gs e m in subst Folds q.2 q.0.1

each-link : (ls : List (ChainSign × Given)) → LinksFold (map bare_link ls)
each-link ls l m = let q = member-of-map bare_link ls l m in subst (λ (k : ChainSign × BExpr). Folds k.1) q.2 q.0.1.1

of-layer : (y : BExpr-F Given) → Folds (roll-BExpr (map-BExpr Given BExpr bare y))
of-layer (BExpr-F.Literal l) = subst Folds (sym (V.rolls-Literal l)) (λ scope at h. subst (λ e. Good e scope at) (sym (folded-Literal l)) (h, is_folded-Literal l))
of-layer (BExpr-F.Column n) = subst Folds (sym (V.rolls-Column n)) (λ scope at h. subst (λ e. Good e scope at) (sym (folded-Column n)) (h, is_folded-Column n))
of-layer (BExpr-F.Step c) = subst Folds (sym (V.rolls-Step c)) (λ scope at h. subst (λ e. Good e scope at) (sym (folded-Step c)) (h, is_folded-Step c))
of-layer (BExpr-F.Call f args) = subst Folds (sym (V.rolls-Call f (map bare args))) (call-folds f (map bare args) (each-given args))
of-layer (BExpr-F.Chain first links) = subst Folds (sym (V.rolls-Chain first.0 (map bare_link links))) (chain-folds first.0 (map bare_link links) first.1 (each-link links))
of-layer (BExpr-F.Path whole steps) = subst Folds (sym (V.rolls-Path whole.0 (map bare steps))) (path-folds whole.0 (map bare steps) whole.1 (each-given steps))
of-layer (BExpr-F.Window f args) = subst Folds (sym (V.rolls-Window f (map bare args))) (window-folds f (map bare args) (each-given args))
of-layer (BExpr-F.Aggregate f args) = subst Folds (sym (V.rolls-Aggregate f (map bare args))) (aggregate-folds f (map bare args) (each-given args))

pub folds : (e : BExpr) → Folds e
folds = ind-BExpr Folds (λ x y is. subst (λ (z : BExpr-F BExpr). Folds (roll-BExpr z)) is (of-layer y))

pub folds-as : (test : Kind → Bool) (e : BExpr) (scope : Scope) (at : Position) → fits_as test e scope at ≡ true → (fits_as test (folded e) scope at ≡ true) × (is_folded (folded e) ≡ true)
folds-as test e scope at h = as-good test e (folds e) scope at h

-- An item of `summarize`.
pub group-folds : (e : BExpr) (scope : Scope) (at : Position) → call_or_expr_fits e scope at ≡ true → (call_or_expr_fits (folded e) scope at ≡ true) × (is_folded (folded e) ≡ true)
group-folds e scope at h = by (shape e)
  where
    call : (f : Aggregate) (args : List BExpr) → call_or_expr_fits (V.Aggregate f args) scope at ≡ true → (call_or_expr_fits (folded (V.Aggregate f args)) scope at ≡ true) × (is_folded (folded (V.Aggregate f args)) ≡ true)
    call f args g =
        let parts = aggregate-good f args (λ x m. folds x) scope at (sym (call-Aggregate f args scope at) ∙ g) in
        subst (λ x. (call_or_expr_fits x scope at ≡ true) × (is_folded x ≡ true)) (sym (folded-Aggregate f args))
        (call-Aggregate f (map folded args) scope at ∙ parts.0, is_folded-Aggregate f (map folded args) ∙ parts.1)

    by : Shape e → (call_or_expr_fits (folded e) scope at ≡ true) × (is_folded (folded e) ≡ true)
    by (inl r) = subst (λ x. (call_or_expr_fits (folded x) scope at ≡ true) × (is_folded (folded x) ≡ true)) (sym r.2) (call r.0 r.1 (ap (λ x. call_or_expr_fits x scope at) (sym r.2) ∙ h))
    by (inr r) =
        let one = folds e scope at (sym (other-fits e scope at r.0) ∙ h) in
        (other-fits (folded e) scope at r.1 ∙ one.0, one.1)
