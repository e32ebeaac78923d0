-- The equations of `kind_of`, one for each variant of an expression.
use Rattle.std.proofs.Common.{◌≡◌, ◌<◌, ◌+◌, ℕ, zero, suc, List, [], ◌∷◌, ◌++◌, map, take, length, get_or, refl, sym, ap, ◌∙◌, arith}
use Rattle.std.specs.Prelude.{Option, Some, None, option_and_then, option_map}
use Rattle.std.proofs.lemmas.List.{map-append, take_more}
use Rattle.kql_cells.specs.declared.schema.Column.{Column}
use Rattle.kql_cells.specs.declared.value.Kind.{Kind}
use Rattle.kql_functions.specs.declared.func.Func.{Func}
use Rattle.kql_bound.specs.Signs.{sign_func}
use Rattle.kql_functions.specs.declared.aggregate.Aggregate.{Aggregate}
use Rattle.kql_bound.specs.declared.expr.BExpr.{BExpr}
use Rattle.kql_bound.specs.declared.expr.BExpr.TheVariants as V
use Rattle.kql_bound.specs.declared.expr.ChainSign.{ChainSign}
use Rattle.kql_bound.specs.declared.expr.StepColumn.{StepColumn}
use Rattle.kql_functions.specs.declared.window.Window.{Window}
use Rattle.kql_bound.specs.declared.literal.Lit.{Lit}
use Rattle.kql_meaning.specs.Expressions.{aggregate_kind, all_known, call_kind, chain_kind, column_kind, first_kind, kind_along, kind_down, kind_of, kinds_in, look, path_kind, reading, window_kind}
use Rattle.kql_meaning.specs.Readings.{Reading, kinds_of}
use Rattle.kql_meaning.proofs.ReadingLaws.{reading-Aggregate, reading-Call, reading-Chain, reading-Column, reading-Literal, reading-Path, reading-Step, reading-Window}

-- The type of a reading.
abbrev over : List Column → Reading → Option Kind
over columns r = r.kind columns

kinds-map : (args : List BExpr) (columns : List Column) → kinds_of (map reading args) columns ≡ kinds_in args columns
unfolding kinds_of kind_of kinds_in
kinds-map [] columns = refl
kinds-map (e ∷ es) columns = ap (λ ks. (reading e).kind columns ∷ ks) (kinds-map es columns)

pub kind-Literal : (l : Lit) (columns : List Column) → kind_of (V.Literal l) columns ≡ Some l.kind
unfolding kind_of
kind-Literal l columns = ap (over columns) (reading-Literal l)

pub kind-Column : (n : List ℕ) (columns : List Column) → kind_of (V.Column n) columns ≡ column_kind n columns
unfolding kind_of
kind-Column n columns = ap (over columns) (reading-Column n)

pub kind-Step : (c : StepColumn) (columns : List Column) → kind_of (V.Step c) columns ≡ Some c.default.kind
unfolding kind_of
kind-Step c columns = ap (over columns) (reading-Step c)

pub kind-Call : (f : Func) (args : List BExpr) (columns : List Column) → kind_of (V.Call f args) columns ≡ call_kind f (kinds_in args columns)
unfolding kind_of
kind-Call f args columns = ap (over columns) (reading-Call f args) ∙ ap (call_kind f) (kinds-map args columns)

pub kind-Window : (f : Window) (args : List BExpr) (columns : List Column) → kind_of (V.Window f args) columns ≡ window_kind f (kinds_in args columns)
unfolding kind_of
kind-Window f args columns = ap (over columns) (reading-Window f args) ∙ ap (window_kind f) (kinds-map args columns)

pub kind-Aggregate : (f : Aggregate) (args : List BExpr) (columns : List Column) → kind_of (V.Aggregate f args) columns ≡ aggregate_kind f (kinds_in args columns)
unfolding kind_of
kind-Aggregate f args columns = ap (over columns) (reading-Aggregate f args) ∙ ap (aggregate_kind f) (kinds-map args columns)

links-map : (links : List (ChainSign × BExpr)) (columns : List Column) → map {B = ChainSign × Option Kind} (λ (l : ChainSign × Reading). (l.0, l.1.kind columns)) (map {B = ChainSign × Reading} (λ (l : ChainSign × BExpr). (l.0, reading l.1)) links) ≡ map {B = ChainSign × Option Kind} (λ (l : ChainSign × BExpr). (l.0, kind_of l.1 columns)) links
unfolding kind_of
links-map [] columns = refl
links-map (l ∷ ls) columns = ap (λ (ks : List (ChainSign × Option Kind)). (l.0, (reading l.1).kind columns) ∷ ks) (links-map ls columns)

pub kind-Chain : (first : BExpr) (links : List (ChainSign × BExpr)) (columns : List Column) → kind_of (V.Chain first links) columns ≡ kind_along links columns (kind_of first columns)
unfolding kind_of kind_along
kind-Chain first links columns = ap (over columns) (reading-Chain first links) ∙ ap (chain_kind ((reading first).kind columns)) (links-map links columns)

pub kind-Path : (whole : BExpr) (steps : List BExpr) (columns : List Column) → kind_of (V.Path whole steps) columns ≡ kind_down steps columns (kind_of whole columns)
unfolding kind_of kind_down
kind-Path whole steps columns = ap (over columns) (reading-Path whole steps) ∙ ap (path_kind ((reading whole).kind columns)) (kinds-map steps columns)

pub ruleset kind_steps = (kind-Literal, kind-Column, kind-Step, kind-Call, kind-Chain, kind-Path, kind-Window, kind-Aggregate)

-- The types of arguments up to a place.

pub known-start : (columns : List Column) → all_known (kinds_in [] columns) ≡ Some []
unfolding all_known kinds_in
known-start columns = refl

known-push : (xs : List (Option Kind)) (ks : List Kind) (k : Kind) → all_known xs ≡ Some ks → all_known (xs ++ Some k ∷ []) ≡ Some (ks ++ k ∷ [])
unfolding all_known
known-push [] ks k e = let none : [] ≡ ks = cc in rw (← none) refl
known-push (None ∷ xs) ks k e = cc
known-push (Some x ∷ xs) ks k e = of-rest (all_known xs) (λ ms p. known-push xs ms k p) refl e
  where
    of-rest : (o : Option (List Kind)) → ((ms : List Kind) → all_known xs ≡ Some ms → all_known (xs ++ Some k ∷ []) ≡ Some (ms ++ k ∷ [])) → all_known xs ≡ o → option_map (λ more. x ∷ more) o ≡ Some ks → option_map (λ more. x ∷ more) (all_known (xs ++ Some k ∷ [])) ≡ Some (ks ++ k ∷ [])
    of-rest None push p e = cc
    of-rest (Some ms) push p e = let same : x ∷ ms ≡ ks = cc in rw (push ms p, ← same) refl

kinds-append : (es : List BExpr) (e : BExpr) (columns : List Column) → kinds_in (es ++ e ∷ []) columns ≡ kinds_in es columns ++ kind_of e columns ∷ []
unfolding kinds_in
kinds-append es e columns = map-append (λ x. kind_of x columns) es (e ∷ [])

pub known-more : (es : List BExpr) (columns : List Column) (i j : ℕ) (d : BExpr) (ks ls : List Kind) (k : Kind) → i < length es → j ≡ suc i → all_known (kinds_in (take i es) columns) ≡ Some ks → kind_of (get_or es i d) columns ≡ Some k → ls ≡ ks ++ k ∷ [] → all_known (kinds_in (take j es) columns) ≡ Some ls
known-more es columns i j d ks ls k lt n before now after =
    let on : suc i ≡ i + 1 = omega arith in
    rw (n, on, take_more es i d lt, kinds-append (take i es) (get_or es i d) columns, now, after) (known-push (kinds_in (take i es) columns) ks k before)

behind : (k : Option Kind) (o : Option (List Kind)) → o ≡ None → option_and_then (λ one. option_map (λ more. one ∷ more) o) k ≡ None
behind None o e = refl
behind (Some k) o e = rw e refl

pub known-none : (es : List BExpr) (columns : List Column) (i : ℕ) (d : BExpr) → i < length es → kind_of (get_or es i d) columns ≡ None → all_known (kinds_in es columns) ≡ None
unfolding all_known kinds_in
known-none [] columns i d lt e = absurd (omega arith)
known-none (x ∷ xs) columns zero d lt e = rw e refl
known-none (x ∷ xs) columns (suc i) d lt e = behind (kind_of x columns) (all_known (kinds_in xs columns)) (known-none xs columns i d (omega arith) e)

pub ruleset known_steps = (known-none, known-start, known-more)

-- Chains and paths up to a place.

pub along-start : (columns : List Column) (k : Option Kind) → kind_along [] columns k ≡ k
unfolding kind_along chain_kind
along-start columns k = refl

pub along-more : (links : List (ChainSign × BExpr)) (columns : List Column) (k : Option Kind) (i j : ℕ) (d : ChainSign × BExpr) → i < length links → j ≡ suc i → kind_along (take j links) columns k ≡ call_kind (sign_func (get_or links i d).0) (kind_along (take i links) columns k ∷ kind_of (get_or links i d).1 columns ∷ [])
unfolding kind_along chain_kind
along-more [] columns k i j d lt n = absurd (omega arith)
along-more (l ∷ ls) columns k zero j d lt n = rw n refl
along-more (l ∷ ls) columns k (suc i) j d lt n = rw n (along-more ls columns (call_kind (sign_func l.0) (k ∷ kind_of l.1 columns ∷ [])) i (suc i) d (omega arith) refl)

-- One turn along a chain.
pub along-next : (links : List (ChainSign × BExpr)) (columns : List Column) (first : Option Kind) (i : ℕ) (link : ChainSign × BExpr) (kind next result : Option Kind) (f : Func) → i < length links → link ≡ get_or links i link → kind ≡ kind_along (take i links) columns first → next ≡ kind_of link.1 columns → f ≡ sign_func link.0 → result ≡ call_kind f (kind ∷ next ∷ []) → result ≡ kind_along (take (i + 1) links) columns first
along-next links columns first i link kind next result f lt here before one sign last =
    let on : i + 1 ≡ suc i = omega arith in
    let step = along-more links columns first i (i + 1) link lt on in
    let same : get_or links i link ≡ link = sym here in
    rw (last, sign, before, one, step, same) refl

pub down-start : (columns : List Column) (k : Option Kind) → kind_down [] columns k ≡ k
unfolding kind_down path_kind kinds_in
down-start columns k = refl

pub down-more : (steps : List BExpr) (columns : List Column) (k : Option Kind) (i j : ℕ) (d : BExpr) → i < length steps → j ≡ suc i → kind_down (take j steps) columns k ≡ call_kind look (kind_down (take i steps) columns k ∷ kind_of (get_or steps i d) columns ∷ [])
unfolding kind_down path_kind kinds_in
down-more [] columns k i j d lt n = absurd (omega arith)
down-more (s ∷ ss) columns k zero j d lt n = rw n refl
down-more (s ∷ ss) columns k (suc i) j d lt n = rw n (down-more ss columns (call_kind look (k ∷ kind_of s columns ∷ [])) i (suc i) d (omega arith) refl)

pub ruleset along_steps = (along-start, along-more)

pub ruleset down_steps = (down-start, down-more)

-- The first argument.

pub first-none : (columns : List Column) → first_kind (kinds_in [] columns) ≡ None
unfolding first_kind kinds_in
first-none columns = refl

pub first-some : (e : BExpr) (es : List BExpr) (columns : List Column) → first_kind (kinds_in (e ∷ es) columns) ≡ kind_of e columns
unfolding first_kind kinds_in
first-some e es columns = refl

pub ruleset first_steps = (first-none, first-some)
