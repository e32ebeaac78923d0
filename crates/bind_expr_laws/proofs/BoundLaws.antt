-- Every expression that is bound, by induction over its tree.
use Rattle.std.proofs.Common.{◌≡◌, ◌≢◌, ℕ, Bool, true, false, not, List, [], ◌∷◌, ◌++◌, map, refl, sym, ap, ◌∙◌, subst}
use Rattle.std.specs.Prelude.{Ok, Err, Option, None, Some, fold}
use Rattle.std.proofs.lemmas.Bool.{and_parts, and_from}
use Rattle.kql_cells.specs.declared.value.Kind.TheVariants as kind
use Rattle.kql_cells.specs.declared.value.Value.TheVariants as value
use Rattle.kql_functions.specs.Find.{found_as}
use Rattle.kql_functions.specs.declared.aggregate.Aggregate.{Aggregate}
use Rattle.kql_functions.specs.declared.aggregate.Aggregate.TheVariants as aggregate
use Rattle.kql_functions.specs.declared.func.Func.{Func}
use Rattle.kql_functions.specs.declared.func.LogicFunc.TheVariants as logic
use Rattle.kql_functions.specs.declared.names.Found.{Found}
use Rattle.kql_functions.specs.declared.names.Found.TheVariants as found
use Rattle.kql_lexer.specs.declared.place.Place.{Place}
use Rattle.kql_bound.specs.declared.expr.BExpr.{BExpr, out-BExpr, out-roll-BExpr, roll-BExpr, roll-out-BExpr}
use Rattle.kql_bound.specs.declared.expr.BExpr.TheOpen.{BExpr-F}
use Rattle.kql_bound.specs.declared.expr.BExpr.TheVariants as V
use Rattle.kql_meaning.specs.FittingExpressions.{Scope as ReadScope, call_or_expr_fits, call_or_expr_fits_step, expr_fits, is_aggregate_call, is_aggregate_call_step, is_of_series, takes_aggregate, takes_columns}
use Rattle.kql_meaning.specs.Results.{has_one_result}
use Rattle.kql_meaning.specs.declared.position.Position.{Position}
use Rattle.kql_meaning.specs.declared.position.Position.TheVariants as position
use Rattle.kql_meaning.proofs.ExpressionFitLaws.{aggregate-checked, fits-Aggregate}
use Rattle.kql_syntax.specs.declared.tree.Access.TheOpen.{Access-F, And-F, Arg-F, Cmp-F, Expr-F, Post-F, Prod-F, Sign-F, Sum-F, Term-F}
use Rattle.kql_syntax.specs.declared.tree.Access.{Access, para-roll-Access, map-Access, roll-Access}
use Rattle.kql_syntax.specs.declared.tree.Arg.{Arg, para-roll-Arg, map-Arg, roll-Arg}
use Rattle.kql_syntax.specs.declared.tree.Cmp.{Cmp, para-roll-Cmp, map-Cmp, roll-Cmp}
use Rattle.kql_syntax.specs.declared.tree.Sign.{Sign, para-roll-Sign, map-Sign, roll-Sign}
use Rattle.kql_syntax.specs.declared.tree.Term.{Term, para-roll-Term, map-Term, roll-Term}
use Rattle.kql_syntax.specs.declared.tree.And.{And, map-And, roll-And}
use Rattle.kql_syntax.specs.declared.tree.Expr.{Expr, map-Expr, roll-Expr, ind-Expr}
use Rattle.kql_syntax.specs.declared.tree.Post.{Post, map-Post, roll-Post}
use Rattle.kql_syntax.specs.declared.tree.Prod.{Prod, map-Prod, roll-Prod}
use Rattle.kql_syntax.specs.declared.tree.Sum.{Sum, map-Sum, roll-Sum}
use Rattle.kql_syntax.specs.declared.tree.CompareSign.{CompareSign}
use Rattle.kql_syntax.specs.declared.tree.InSign.{InSign}
use Rattle.kql_syntax.specs.declared.tree.ProdSign.{ProdSign}
use Rattle.kql_syntax.specs.declared.tree.SumSign.{SumSign}
use Rattle.kql_syntax.specs.declared.tree.Word.{Word}
use Rattle.bind_expr.specs.Arguments.{aggregate_position, first_slot, next_slot, plain_arg, window_first, window_next}
use Rattle.bind_expr.specs.Bound.{Binds, Look, Named, Takes, access_read, access_step, and_bound, and_step, arg_bound, arg_step, args_taken, bound_expr, call_or_extract, cmp_bound, cmp_step, compare_or_match, entry_key, expr_bound, expr_step, found_call, inside, negated, operand_link, path_from, post_bound, post_of, post_step, prod_bound, prod_sign, prod_step, sign_bound, sign_step, sum_bound, sum_sign, sum_step, term_read, term_step}
use Rattle.bind_expr.specs.Comparisons.{bounded, compare_func, compared, in_node, listed}
use Rattle.bind_expr.specs.Constants.{is_constant}
use Rattle.bind_expr.specs.GroupForms.{has_several_results}
use Rattle.bind_expr.specs.Names.{name_bound}
use Rattle.bind_expr.specs.Outcome.{Outcome, ◌>>=◌}
use Rattle.bind_expr.specs.Patterns.{is_extract}
use Rattle.bind_expr.specs.Paths.{step_bound, step_named}
use Rattle.bind_expr.specs.declared.scope.Scope.{Scope}
use Rattle.bind_expr.specs.declared.typed.Typed.{Typed}
use Rattle.bind_expr_laws.specs.Laws.{BoundIsSound, IsSound, NameIsSound}
use Rattle.bind_expr_laws.specs.Scopes.{IsSoundScope, read_scope}
use Rattle.bind_expr_laws.proofs.Aggregates.{aggregate-bound}
use Rattle.bind_expr_laws.proofs.Arguments.{HasArgs, IsArg, aggregate-slots, args-taken, scalar-slots, window-slots}
use Rattle.bind_expr_laws.proofs.Calls.{scalar-bound}
use Rattle.bind_expr_laws.proofs.Chains.{chain-bound}
use Rattle.bind_expr_laws.proofs.Comparisons.{IsPlainIf, bounded-bound, compared-bound, listed-bound, negated-bound, plain-compared}
use Rattle.bind_expr.proofs.RolledLaws.{and-rolled, call-rolled, expr-rolled, in-rolled, post-rolled, prod-rolled, sum-rolled}
use Rattle.bind_expr.proofs.ConstantSteps.{constant-Aggregate}
use Rattle.bind_expr.proofs.GroupForms.{several-Aggregate}
use Rattle.bind_expr_laws.proofs.Constants.{constant-given, constant-is, every-free, literal-part, value-literal}
use Rattle.bind_expr_laws.proofs.Logic.{and-joins, or-joins, terms-bound}
use Rattle.bind_expr_laws.proofs.Outcomes.{Each, Gives, gives-fold, gives-then, given}
use Rattle.bind_expr_laws.proofs.Parts.{AreOperands, IsBound, IsPart, part-bound}
use Rattle.bind_expr_laws.proofs.Patterns.{extract-bound, match-bound}
use Rattle.bind_expr_laws.proofs.Paths.{path-bound}
use Rattle.bind_expr_laws.proofs.Shapes.{Spot}
use Rattle.bind_expr_laws.proofs.Standing.{stands}
use Rattle.bind_expr_laws.proofs.StandingSteps.{stands-Aggregate}
use Rattle.bind_expr_laws.proofs.Terms.{literal-bound, name-bound, step-bound}
use Rattle.bind_expr_laws.proofs.Windows.{window-bound}
use Rattle.bind_expr_laws.proofs.Facts.{never}

-- Each level.

abbrev IsGiven : Scope → Spot → Outcome Typed → Type 0
IsGiven scope spot r = Gives (IsBound scope spot) r

bound-part : (scope : Scope) (at : Position) (t : Typed) → IsBound scope (inside at) t → IsPart scope at t.expr t.kind
bound-part scope at t b = record { kind = b.kind; fits = b.fits }

-- A part is bound, and then what is made of it.
then-part : (scope : Scope) (spot : Spot) (r : Outcome Typed) (k : Typed → Outcome Typed) → IsGiven scope (inside spot.position) r → ((t : Typed) → IsPart scope spot.position t.expr t.kind → IsGiven scope spot (k t)) → IsGiven scope spot (r >>= k)
then-part scope spot r k h f = gives-then (IsBound scope (inside spot.position)) (IsBound scope spot) r k h (λ t b. f t (bound-part scope spot.position t b))

abbrev BoundAccess : Access → Type 0
BoundAccess x = (scope : Scope) → IsSoundScope scope → (at : Position) → IsGiven scope (inside at) ((access_read x).key scope at)

abbrev GivenAccess : Type 0
GivenAccess = (x : Access) × BoundAccess x

bare_access : GivenAccess → Access
bare_access g = g.0

abbrev BoundArg : Arg → Type 0
BoundArg x = (scope : Scope) → IsSoundScope scope → (at : Position) → Gives (IsArg scope at) (arg_bound x scope at)

abbrev GivenArg : Type 0
GivenArg = (x : Arg) × BoundArg x

bare_arg : GivenArg → Arg
bare_arg g = g.0

abbrev BoundCmp : Cmp → Type 0
BoundCmp x = (scope : Scope) → IsSoundScope scope → (spot : Spot) → IsGiven scope spot (cmp_bound x scope spot)

abbrev GivenCmp : Type 0
GivenCmp = (x : Cmp) × BoundCmp x

bare_cmp : GivenCmp → Cmp
bare_cmp g = g.0

abbrev BoundSign : Sign → Type 0
BoundSign x = (scope : Scope) → IsSoundScope scope → (spot : Spot) → IsGiven scope spot (sign_bound x scope spot)

abbrev GivenSign : Type 0
GivenSign = (x : Sign) × BoundSign x

bare_sign : GivenSign → Sign
bare_sign g = g.0

abbrev BoundTerm : Term → Type 0
BoundTerm x = (scope : Scope) → IsSoundScope scope → (spot : Spot) → IsGiven scope spot ((term_read x).bound scope spot)

abbrev GivenTerm : Type 0
GivenTerm = (x : Term) × BoundTerm x

bare_term : GivenTerm → Term
bare_term g = g.0

abbrev BoundAnd : And → Type 0
BoundAnd x = (scope : Scope) → IsSoundScope scope → (spot : Spot) → IsGiven scope spot (and_bound x scope spot)

abbrev GivenAnd : Type 0
GivenAnd = (x : And) × BoundAnd x

bare_and : GivenAnd → And
bare_and g = g.0

abbrev BoundExpr : Expr → Type 0
BoundExpr x = (scope : Scope) → IsSoundScope scope → (spot : Spot) → IsGiven scope spot (expr_bound x scope spot)

abbrev GivenExpr : Type 0
GivenExpr = (x : Expr) × BoundExpr x

bare_expr : GivenExpr → Expr
bare_expr g = g.0

abbrev BoundPost : Post → Type 0
BoundPost x = (scope : Scope) → IsSoundScope scope → (spot : Spot) → IsGiven scope spot (post_bound x scope spot)

abbrev GivenPost : Type 0
GivenPost = (x : Post) × BoundPost x

bare_post : GivenPost → Post
bare_post g = g.0

abbrev BoundProd : Prod → Type 0
BoundProd x = (scope : Scope) → IsSoundScope scope → (spot : Spot) → IsGiven scope spot (prod_bound x scope spot)

abbrev GivenProd : Type 0
GivenProd = (x : Prod) × BoundProd x

bare_prod : GivenProd → Prod
bare_prod g = g.0

abbrev BoundSum : Sum → Type 0
BoundSum x = (scope : Scope) → IsSoundScope scope → (spot : Spot) → IsGiven scope spot (sum_bound x scope spot)

abbrev GivenSum : Type 0
GivenSum = (x : Sum) × BoundSum x

bare_sum : GivenSum → Sum
bare_sum g = g.0

each-ands : (scope : Scope) → IsSoundScope scope → (spot : Spot) (gs : List (Place × GivenAnd)) → Each (IsBound scope spot) (λ (l : Place × Binds). l.1 scope spot) (map {B = Place × Binds} (λ (l : Place × And). (l.0, and_bound l.1)) (map {B = Place × And} (λ (l : Place × GivenAnd). (l.0, bare_and l.1)) gs))
unfolding bare_and
each-ands scope sound spot [] = tt
each-ands scope sound spot (g ∷ gs) = (g.1.1 scope sound spot, each-ands scope sound spot gs)

each-cmps : (scope : Scope) → IsSoundScope scope → (spot : Spot) (gs : List (Place × GivenCmp)) → Each (IsBound scope spot) (λ (l : Place × Binds). l.1 scope spot) (map {B = Place × Binds} (λ (l : Place × Cmp). (l.0, cmp_bound l.1)) (map {B = Place × Cmp} (λ (l : Place × GivenCmp). (l.0, bare_cmp l.1)) gs))
unfolding bare_cmp
each-cmps scope sound spot [] = tt
each-cmps scope sound spot (g ∷ gs) = (g.1.1 scope sound spot, each-cmps scope sound spot gs)

each-prods : (scope : Scope) → IsSoundScope scope → (spot : Spot) (gs : List (SumSign × GivenProd)) → Each (IsBound scope spot) (λ (l : SumSign × Binds). l.1 scope spot) (map {B = SumSign × Binds} (λ (l : SumSign × Prod). (l.0, prod_bound l.1)) (map {B = SumSign × Prod} (λ (l : SumSign × GivenProd). (l.0, bare_prod l.1)) gs))
unfolding bare_prod
each-prods scope sound spot [] = tt
each-prods scope sound spot (g ∷ gs) = (g.1.1 scope sound spot, each-prods scope sound spot gs)

each-signs : (scope : Scope) → IsSoundScope scope → (spot : Spot) (gs : List (ProdSign × GivenSign)) → Each (IsBound scope spot) (λ (l : ProdSign × Binds). l.1 scope spot) (map {B = ProdSign × Binds} (λ (l : ProdSign × Sign). (l.0, sign_bound l.1)) (map {B = ProdSign × Sign} (λ (l : ProdSign × GivenSign). (l.0, bare_sign l.1)) gs))
unfolding bare_sign
each-signs scope sound spot [] = tt
each-signs scope sound spot (g ∷ gs) = (g.1.1 scope sound spot, each-signs scope sound spot gs)

each-exprs : (scope : Scope) → IsSoundScope scope → (spot : Spot) (gs : List GivenExpr) → Each (IsBound scope spot) (λ (e : Binds). e scope spot) (map expr_bound (map bare_expr gs))
unfolding bare_expr
each-exprs scope sound spot [] = tt
each-exprs scope sound spot (g ∷ gs) = (g.1 scope sound spot, each-exprs scope sound spot gs)

each-args : (scope : Scope) → IsSoundScope scope → (at : Position) (gs : List GivenArg) → Each (IsArg scope at) (λ (a : Takes). a scope at) (map arg_bound (map bare_arg gs))
unfolding bare_arg
each-args scope sound at [] = tt
each-args scope sound at (g ∷ gs) = (g.1 scope sound at, each-args scope sound at gs)

each-looks : (scope : Scope) → IsSoundScope scope → (at : Position) (gs : List GivenAccess) → Each (IsBound scope (inside at)) (λ (l : Look). l.key scope at) (map access_read (map bare_access gs))
unfolding bare_access
each-looks scope sound at [] = tt
each-looks scope sound at (g ∷ gs) = (g.1 scope sound at, each-looks scope sound at gs)

of-expr : (y : Expr-F GivenAccess GivenArg GivenCmp GivenSign GivenTerm GivenAnd GivenExpr GivenPost GivenProd GivenSum) → BoundExpr (roll-Expr (map-Expr GivenAccess GivenArg GivenCmp GivenSign GivenTerm GivenAnd GivenExpr GivenPost GivenProd GivenSum Access Arg Cmp Sign Term And Expr Post Prod Sum bare_access bare_arg bare_cmp bare_sign bare_term bare_and bare_expr bare_post bare_prod bare_sum y))
unfolding expr_bound and_bound cmp_bound sum_bound prod_bound sign_bound post_bound access_read term_read arg_bound bare_access bare_arg bare_cmp bare_sign bare_term bare_and bare_expr bare_post bare_prod bare_sum
of-expr y scope sound spot =
    let more : List (Place × Binds) = map {B = Place × Binds} (λ (l : Place × And). (l.0, and_bound l.1)) (map {B = Place × And} (λ (l : Place × GivenAnd). (l.0, bare_and l.1)) y.more) in
    subst (λ (r : Outcome Typed). IsGiven scope spot r) (sym (expr-rolled (map-Expr GivenAccess GivenArg GivenCmp GivenSign GivenTerm GivenAnd GivenExpr GivenPost GivenProd GivenSum Access Arg Cmp Sign Term And Expr Post Prod Sum bare_access bare_arg bare_cmp bare_sign bare_term bare_and bare_expr bare_post bare_prod bare_sum y) scope spot))
    (terms-bound scope spot logic.Or or-joins (λ at. and_bound y.first.0 scope at) (λ (l : Place × Binds). l.0) (λ (l : Place × Binds). l.1 scope (inside spot.position)) more (λ at. y.first.1 scope sound at) (each-ands scope sound (inside spot.position) y.more))

of-and : (y : And-F GivenAccess GivenArg GivenCmp GivenSign GivenTerm GivenAnd GivenExpr GivenPost GivenProd GivenSum) → BoundAnd (roll-And (map-And GivenAccess GivenArg GivenCmp GivenSign GivenTerm GivenAnd GivenExpr GivenPost GivenProd GivenSum Access Arg Cmp Sign Term And Expr Post Prod Sum bare_access bare_arg bare_cmp bare_sign bare_term bare_and bare_expr bare_post bare_prod bare_sum y))
unfolding expr_bound and_bound cmp_bound sum_bound prod_bound sign_bound post_bound access_read term_read arg_bound bare_access bare_arg bare_cmp bare_sign bare_term bare_and bare_expr bare_post bare_prod bare_sum
of-and y scope sound spot =
    let more : List (Place × Binds) = map {B = Place × Binds} (λ (l : Place × Cmp). (l.0, cmp_bound l.1)) (map {B = Place × Cmp} (λ (l : Place × GivenCmp). (l.0, bare_cmp l.1)) y.more) in
    subst (λ (r : Outcome Typed). IsGiven scope spot r) (sym (and-rolled (map-And GivenAccess GivenArg GivenCmp GivenSign GivenTerm GivenAnd GivenExpr GivenPost GivenProd GivenSum Access Arg Cmp Sign Term And Expr Post Prod Sum bare_access bare_arg bare_cmp bare_sign bare_term bare_and bare_expr bare_post bare_prod bare_sum y) scope spot))
    (terms-bound scope spot logic.And and-joins (λ at. cmp_bound y.first.0 scope at) (λ (l : Place × Binds). l.0) (λ (l : Place × Binds). l.1 scope (inside spot.position)) more (λ at. y.first.1 scope sound at) (each-cmps scope sound (inside spot.position) y.more))

of-sum : (y : Sum-F GivenAccess GivenArg GivenCmp GivenSign GivenTerm GivenAnd GivenExpr GivenPost GivenProd GivenSum) → BoundSum (roll-Sum (map-Sum GivenAccess GivenArg GivenCmp GivenSign GivenTerm GivenAnd GivenExpr GivenPost GivenProd GivenSum Access Arg Cmp Sign Term And Expr Post Prod Sum bare_access bare_arg bare_cmp bare_sign bare_term bare_and bare_expr bare_post bare_prod bare_sum y))
unfolding expr_bound and_bound cmp_bound sum_bound prod_bound sign_bound post_bound access_read term_read arg_bound bare_access bare_arg bare_cmp bare_sign bare_term bare_and bare_expr bare_post bare_prod bare_sum
of-sum y scope sound spot =
    let more : List (SumSign × Binds) = map {B = SumSign × Binds} (λ (l : SumSign × Prod). (l.0, prod_bound l.1)) (map {B = SumSign × Prod} (λ (l : SumSign × GivenProd). (l.0, bare_prod l.1)) y.more) in
    subst (λ (r : Outcome Typed). IsGiven scope spot r) (sym (sum-rolled (map-Sum GivenAccess GivenArg GivenCmp GivenSign GivenTerm GivenAnd GivenExpr GivenPost GivenProd GivenSum Access Arg Cmp Sign Term And Expr Post Prod Sum bare_access bare_arg bare_cmp bare_sign bare_term bare_and bare_expr bare_post bare_prod bare_sum y) scope spot))
    (chain-bound scope spot (λ at. prod_bound y.first.0 scope at) (λ (l : SumSign × Binds). sum_sign l.0.op) (λ (l : SumSign × Binds). l.0.place) (λ (l : SumSign × Binds). l.1 scope (inside spot.position)) more (λ at. y.first.1 scope sound at) (each-prods scope sound (inside spot.position) y.more))

of-prod : (y : Prod-F GivenAccess GivenArg GivenCmp GivenSign GivenTerm GivenAnd GivenExpr GivenPost GivenProd GivenSum) → BoundProd (roll-Prod (map-Prod GivenAccess GivenArg GivenCmp GivenSign GivenTerm GivenAnd GivenExpr GivenPost GivenProd GivenSum Access Arg Cmp Sign Term And Expr Post Prod Sum bare_access bare_arg bare_cmp bare_sign bare_term bare_and bare_expr bare_post bare_prod bare_sum y))
unfolding expr_bound and_bound cmp_bound sum_bound prod_bound sign_bound post_bound access_read term_read arg_bound bare_access bare_arg bare_cmp bare_sign bare_term bare_and bare_expr bare_post bare_prod bare_sum
of-prod y scope sound spot =
    let more : List (ProdSign × Binds) = map {B = ProdSign × Binds} (λ (l : ProdSign × Sign). (l.0, sign_bound l.1)) (map {B = ProdSign × Sign} (λ (l : ProdSign × GivenSign). (l.0, bare_sign l.1)) y.more) in
    subst (λ (r : Outcome Typed). IsGiven scope spot r) (sym (prod-rolled (map-Prod GivenAccess GivenArg GivenCmp GivenSign GivenTerm GivenAnd GivenExpr GivenPost GivenProd GivenSum Access Arg Cmp Sign Term And Expr Post Prod Sum bare_access bare_arg bare_cmp bare_sign bare_term bare_and bare_expr bare_post bare_prod bare_sum y) scope spot))
    (chain-bound scope spot (λ at. sign_bound y.first.0 scope at) (λ (l : ProdSign × Binds). prod_sign l.0.op) (λ (l : ProdSign × Binds). l.0.place) (λ (l : ProdSign × Binds). l.1 scope (inside spot.position)) more (λ at. y.first.1 scope sound at) (each-signs scope sound (inside spot.position) y.more))

-- Operands of `in`.

operands-push : (scope : Scope) (at : Position) (ts : List Typed) (t : Typed) → AreOperands scope at ts → IsPart scope at t.expr t.kind → AreOperands scope at (ts ++ t ∷ [])
operands-push scope at [] t h part = (part, tt)
operands-push scope at (u ∷ us) t h part = (h.0, operands-push scope at us t h.1 part)

in-bound : (scope : Scope) (spot : Spot) (s : Outcome Typed) (sign : InSign) (es : List Binds) → IsGiven scope (inside spot.position) s → Each (IsBound scope (inside spot.position)) (λ (e : Binds). e scope (inside spot.position)) es → IsGiven scope spot (in_node sign (fold (λ (before : Outcome (List Typed)) (e : Binds). operand_link before (e scope (inside spot.position))) (operand_link (Ok []) s) es))
in-bound scope spot s sign es h each =
    let at : Spot = inside spot.position in
    let start : Outcome (List Typed) = s >>= λ t. Ok (t ∷ []) in
    let all : Outcome (List Typed) = fold (λ (before : Outcome (List Typed)) (e : Binds). before >>= λ ts. e scope at >>= λ t. Ok (ts ++ t ∷ [])) start es in
    gives-then (AreOperands scope spot.position) (IsBound scope spot) all (λ ts. listed sign ts)
    (gives-fold (IsBound scope at) (AreOperands scope spot.position) (λ (e : Binds) (ts : List Typed) (t : Typed). Ok (ts ++ t ∷ [])) (λ (e : Binds). e scope at)
    (λ e ts t q b. record { holds = operands-push scope spot.position ts t q (bound-part scope spot.position t b) }) start
    (gives-then (IsBound scope at) (AreOperands scope spot.position) s (λ t. Ok (t ∷ [])) h (λ t b. record { holds = (bound-part scope spot.position t b, tt) }))
    es each)
    (λ ts q. listed-bound scope spot sign ts q)

compare-or-match : (s b : GivenSum) (sign : CompareSign) (scope : Scope) → IsSoundScope scope → (spot : Spot) (o : Option Func) → IsPlainIf o → IsGiven scope spot (compare_or_match (s.0, sum_bound s.0) sign (b.0, sum_bound b.0) scope spot o)
compare-or-match s b sign scope sound spot None plain = match-bound scope spot sign.place s.0 b.0
compare-or-match s b sign scope sound spot (Some f) plain =
    then-part scope spot (sum_bound s.0 scope (inside spot.position)) (λ (l : Typed). sum_bound b.0 scope (inside spot.position) >>= λ r. compared f sign l r) (s.1 scope sound (inside spot.position))
    (λ l one. then-part scope spot (sum_bound b.0 scope (inside spot.position)) (λ (r : Typed). compared f sign l r) (b.1 scope sound (inside spot.position)) (λ r two. compared-bound scope spot f sign l r plain one two))

of-cmp : (y : Cmp-F GivenAccess GivenArg GivenCmp GivenSign GivenTerm GivenAnd GivenExpr GivenPost GivenProd GivenSum) → BoundCmp (roll-Cmp (map-Cmp GivenAccess GivenArg GivenCmp GivenSign GivenTerm GivenAnd GivenExpr GivenPost GivenProd GivenSum Access Arg Cmp Sign Term And Expr Post Prod Sum bare_access bare_arg bare_cmp bare_sign bare_term bare_and bare_expr bare_post bare_prod bare_sum y))
unfolding expr_bound and_bound cmp_bound sum_bound prod_bound sign_bound post_bound access_read term_read arg_bound bare_access bare_arg bare_cmp bare_sign bare_term bare_and bare_expr bare_post bare_prod bare_sum
of-cmp (Cmp-F.«Cmp::Plain» s) scope sound spot = subst (λ (r : Outcome Typed). IsGiven scope spot r) (sym (ap (λ (f : Binds). f scope spot) (para-roll-Cmp Look Takes Binds Binds Named Binds Binds Binds Binds Binds access_step arg_step cmp_step sign_step term_step and_step expr_step post_step prod_step sum_step (Cmp-F.«Cmp::Plain» s.0)))) (s.1 scope sound spot)
of-cmp (Cmp-F.Compared s sign b) scope sound spot =
    subst (λ (r : Outcome Typed). IsGiven scope spot r) (sym (ap (λ (f : Binds). f scope spot) (para-roll-Cmp Look Takes Binds Binds Named Binds Binds Binds Binds Binds access_step arg_step cmp_step sign_step term_step and_step expr_step post_step prod_step sum_step (Cmp-F.Compared s.0 sign b.0))))
    (compare-or-match s b sign scope sound spot (compare_func sign.op) (plain-compared sign.op))
of-cmp (Cmp-F.In s sign es) scope sound spot =
    subst (λ (r : Outcome Typed). IsGiven scope spot r) (sym (in-rolled s.0 sign (map bare_expr es) scope spot))
    (in-bound scope spot (sum_bound s.0 scope (inside spot.position)) sign (map expr_bound (map bare_expr es)) (s.1 scope sound (inside spot.position)) (each-exprs scope sound (inside spot.position) es))
of-cmp (Cmp-F.Between s sign bounds) scope sound spot =
    subst (λ (r : Outcome Typed). IsGiven scope spot r) (sym (ap (λ (f : Binds). f scope spot) (para-roll-Cmp Look Takes Binds Binds Named Binds Binds Binds Binds Binds access_step arg_step cmp_step sign_step term_step and_step expr_step post_step prod_step sum_step (Cmp-F.Between s.0 sign (bounds.0.0, bounds.1.0)))))
    (then-part scope spot (sum_bound s.0 scope (inside spot.position)) (λ (x : Typed). sum_bound bounds.0.0 scope (inside spot.position) >>= λ a. sum_bound bounds.1.0 scope (inside spot.position) >>= λ b. bounded sign x a b) (s.1 scope sound (inside spot.position))
    (λ x one. then-part scope spot (sum_bound bounds.0.0 scope (inside spot.position)) (λ (a : Typed). sum_bound bounds.1.0 scope (inside spot.position) >>= λ b. bounded sign x a b) (bounds.0.1 scope sound (inside spot.position))
    (λ a two. then-part scope spot (sum_bound bounds.1.0 scope (inside spot.position)) (λ (b : Typed). bounded sign x a b) (bounds.1.1 scope sound (inside spot.position)) (λ b three. bounded-bound scope spot sign x a b one two three))))

of-sign : (y : Sign-F GivenAccess GivenArg GivenCmp GivenSign GivenTerm GivenAnd GivenExpr GivenPost GivenProd GivenSum) → BoundSign (roll-Sign (map-Sign GivenAccess GivenArg GivenCmp GivenSign GivenTerm GivenAnd GivenExpr GivenPost GivenProd GivenSum Access Arg Cmp Sign Term And Expr Post Prod Sum bare_access bare_arg bare_cmp bare_sign bare_term bare_and bare_expr bare_post bare_prod bare_sum y))
unfolding expr_bound and_bound cmp_bound sum_bound prod_bound sign_bound post_bound access_read term_read arg_bound bare_access bare_arg bare_cmp bare_sign bare_term bare_and bare_expr bare_post bare_prod bare_sum
of-sign (Sign-F.«Sign::Plain» p) scope sound spot = subst (λ (r : Outcome Typed). IsGiven scope spot r) (sym (ap (λ (f : Binds). f scope spot) (para-roll-Sign Look Takes Binds Binds Named Binds Binds Binds Binds Binds access_step arg_step cmp_step sign_step term_step and_step expr_step post_step prod_step sum_step (Sign-F.«Sign::Plain» p.0)))) (p.1 scope sound spot)
of-sign (Sign-F.Minus place p) scope sound spot =
    subst (λ (r : Outcome Typed). IsGiven scope spot r) (sym (ap (λ (f : Binds). f scope spot) (para-roll-Sign Look Takes Binds Binds Named Binds Binds Binds Binds Binds access_step arg_step cmp_step sign_step term_step and_step expr_step post_step prod_step sum_step (Sign-F.Minus place p.0))))
    (then-part scope spot (post_bound p.0 scope (inside spot.position)) (λ (t : Typed). negated place t) (p.1 scope sound (inside spot.position)) (λ t h. negated-bound scope spot place t h))

entry-bound : (scope : Scope) (spot : Spot) (w : Word) → IsGiven scope spot (Ok (entry_key w))
entry-bound scope spot w = record { holds = part-bound scope spot (entry_key w) (literal-part scope spot.position (record { kind = kind.Text; value = value.Text w.text }) (value-literal kind.Text (value.Text w.text) (tt, tt))) }

of-access : (y : Access-F GivenAccess GivenArg GivenCmp GivenSign GivenTerm GivenAnd GivenExpr GivenPost GivenProd GivenSum) → BoundAccess (roll-Access (map-Access GivenAccess GivenArg GivenCmp GivenSign GivenTerm GivenAnd GivenExpr GivenPost GivenProd GivenSum Access Arg Cmp Sign Term And Expr Post Prod Sum bare_access bare_arg bare_cmp bare_sign bare_term bare_and bare_expr bare_post bare_prod bare_sum y))
unfolding expr_bound and_bound cmp_bound sum_bound prod_bound sign_bound post_bound access_read term_read arg_bound bare_access bare_arg bare_cmp bare_sign bare_term bare_and bare_expr bare_post bare_prod bare_sum
of-access (Access-F.Entry place w) scope sound at = subst (λ (r : Outcome Typed). IsGiven scope (inside at) r) (sym (ap (λ (l : Look). l.key scope at) (para-roll-Access Look Takes Binds Binds Named Binds Binds Binds Binds Binds access_step arg_step cmp_step sign_step term_step and_step expr_step post_step prod_step sum_step (Access-F.Entry place w)))) (entry-bound scope (inside at) w)
of-access (Access-F.Element place e) scope sound at = subst (λ (r : Outcome Typed). IsGiven scope (inside at) r) (sym (ap (λ (l : Look). l.key scope at) (para-roll-Access Look Takes Binds Binds Named Binds Binds Binds Binds Binds access_step arg_step cmp_step sign_step term_step and_step expr_step post_step prod_step sum_step (Access-F.Element place e.0)))) (e.1 scope sound (inside at))

of-arg : (y : Arg-F GivenAccess GivenArg GivenCmp GivenSign GivenTerm GivenAnd GivenExpr GivenPost GivenProd GivenSum) → BoundArg (roll-Arg (map-Arg GivenAccess GivenArg GivenCmp GivenSign GivenTerm GivenAnd GivenExpr GivenPost GivenProd GivenSum Access Arg Cmp Sign Term And Expr Post Prod Sum bare_access bare_arg bare_cmp bare_sign bare_term bare_and bare_expr bare_post bare_prod bare_sum y))
unfolding expr_bound and_bound cmp_bound sum_bound prod_bound sign_bound post_bound access_read term_read arg_bound bare_access bare_arg bare_cmp bare_sign bare_term bare_and bare_expr bare_post bare_prod bare_sum plain_arg
of-arg (Arg-F.«Arg::Plain» e) scope sound at =
    subst (λ (r : Outcome (Option Typed)). Gives (IsArg scope at) r) (sym (ap (λ (f : Takes). f scope at) (para-roll-Arg Look Takes Binds Binds Named Binds Binds Binds Binds Binds access_step arg_step cmp_step sign_step term_step and_step expr_step post_step prod_step sum_step (Arg-F.«Arg::Plain» e.0))))
    (gives-then (IsBound scope (inside at)) (IsArg scope at) (expr_bound e.0 scope (inside at)) (λ (x : Typed). Ok (Some x)) (e.1 scope sound (inside at)) (λ x b. record { holds = bound-part scope at x b }))
of-arg (Arg-F.Star place) scope sound at = subst (λ (r : Outcome (Option Typed)). Gives (IsArg scope at) r) (sym (ap (λ (f : Takes). f scope at) (para-roll-Arg Look Takes Binds Binds Named Binds Binds Binds Binds Binds access_step arg_step cmp_step sign_step term_step and_step expr_step post_step prod_step sum_step (Arg-F.Star place)))) (record { holds = tt })

-- Calls.

abbrev Anything : {X : Type 0} → X → Type 0
Anything x = Unit {0}

any : {X : Type 0} (r : Outcome X) → Gives Anything r
any (Ok x) = record { holds = tt }
any (Err e) = record { holds = tt }

found-bound : (w : Word) (scope : Scope) (spot : Spot) (f : Found) (ts : List Takes) → IsSoundScope scope → ((at : Position) → Each (IsArg scope at) (λ (a : Takes). a scope at) ts) → IsGiven scope spot (args_taken scope (first_slot f spot.position) (next_slot f spot.position) ts >>= λ a. found_call w scope spot a f)
unfolding found_call
found-bound w scope spot found.Unknown ts sound each =
    gives-then Anything (IsBound scope spot) (args_taken scope (first_slot found.Unknown spot.position) (next_slot found.Unknown spot.position) ts) (λ a. found_call w scope spot a found.Unknown) (any _) (λ a h. record { holds = tt })
found-bound w scope spot found.Pattern ts sound each =
    gives-then Anything (IsBound scope spot) (args_taken scope (first_slot found.Pattern spot.position) (next_slot found.Pattern spot.position) ts) (λ a. found_call w scope spot a found.Pattern) (any _) (λ a h. record { holds = tt })
found-bound w scope spot found.Refused ts sound each =
    gives-then Anything (IsBound scope spot) (args_taken scope (first_slot found.Refused spot.position) (next_slot found.Refused spot.position) ts) (λ a. found_call w scope spot a found.Refused) (any _) (λ a h. record { holds = tt })
found-bound w scope spot (found.Scalar f) ts sound each =
    gives-then (HasArgs scope spot.position spot.position) (IsBound scope spot) (args_taken scope (first_slot (found.Scalar f) spot.position) (next_slot (found.Scalar f) spot.position) ts) (λ a. found_call w scope spot a (found.Scalar f))
    (args-taken scope spot.position spot.position (first_slot (found.Scalar f) spot.position) (next_slot (found.Scalar f) spot.position) ts sound (scalar-slots scope f spot.position) each)
    (λ a h. scalar-bound scope spot w.place f a scope.moment h sound.moment)
found-bound w scope spot (found.Window f) ts sound each =
    gives-then (HasArgs scope (window_first f).position (window_next f).position) (IsBound scope spot) (args_taken scope (first_slot (found.Window f) spot.position) (next_slot (found.Window f) spot.position) ts) (λ a. found_call w scope spot a (found.Window f))
    (args-taken scope (window_first f).position (window_next f).position (first_slot (found.Window f) spot.position) (next_slot (found.Window f) spot.position) ts sound (window-slots scope f spot.position) each)
    (λ a h. window-bound scope spot w.place f a h)
found-bound w scope spot (found.Aggregate f) ts sound each =
    let p : Position = aggregate_position f spot.position in
    gives-then (HasArgs scope p p) (IsBound scope spot) (args_taken scope (first_slot (found.Aggregate f) spot.position) (next_slot (found.Aggregate f) spot.position) ts) (λ a. found_call w scope spot a (found.Aggregate f))
    (args-taken scope p p (first_slot (found.Aggregate f) spot.position) (next_slot (found.Aggregate f) spot.position) ts sound (aggregate-slots scope f spot.position sound) each)
    (λ a h. aggregate-bound scope spot w.place f a h)

call-or : (w : Word) (gs : List GivenArg) (scope : Scope) → IsSoundScope scope → (spot : Spot) (b : Bool) → IsGiven scope spot (call_or_extract w (map bare_arg gs) (map arg_bound (map bare_arg gs)) scope spot b)
call-or w gs scope sound spot true = extract-bound scope spot w.place (map bare_arg gs)
call-or w gs scope sound spot false = found-bound w scope spot (found_as w.text) (map arg_bound (map bare_arg gs)) sound (λ at. each-args scope sound at gs)

of-term : (y : Term-F GivenAccess GivenArg GivenCmp GivenSign GivenTerm GivenAnd GivenExpr GivenPost GivenProd GivenSum) → BoundTerm (roll-Term (map-Term GivenAccess GivenArg GivenCmp GivenSign GivenTerm GivenAnd GivenExpr GivenPost GivenProd GivenSum Access Arg Cmp Sign Term And Expr Post Prod Sum bare_access bare_arg bare_cmp bare_sign bare_term bare_and bare_expr bare_post bare_prod bare_sum y))
unfolding expr_bound and_bound cmp_bound sum_bound prod_bound sign_bound post_bound access_read term_read arg_bound bare_access bare_arg bare_cmp bare_sign bare_term bare_and bare_expr bare_post bare_prod bare_sum
of-term (Term-F.Literal l) scope sound spot = subst (λ (r : Outcome Typed). IsGiven scope spot r) (sym (ap (λ (n : Named). n.bound scope spot) (para-roll-Term Look Takes Binds Binds Named Binds Binds Binds Binds Binds access_step arg_step cmp_step sign_step term_step and_step expr_step post_step prod_step sum_step (Term-F.Literal l)))) (literal-bound scope spot l)
of-term (Term-F.Name n) scope sound spot = subst (λ (r : Outcome Typed). IsGiven scope spot r) (sym (ap (λ (n : Named). n.bound scope spot) (para-roll-Term Look Takes Binds Binds Named Binds Binds Binds Binds Binds access_step arg_step cmp_step sign_step term_step and_step expr_step post_step prod_step sum_step (Term-F.Name n)))) (name-bound scope spot n sound)
of-term (Term-F.Call w args) scope sound spot =
    subst (λ (r : Outcome Typed). IsGiven scope spot r) (sym (ap (λ (n : Named). n.bound scope spot) (call-rolled w (map bare_arg args))))
    (call-or w args scope sound spot (is_extract (found_as w.text)))
of-term (Term-F.Group place e) scope sound spot =
    subst (λ (r : Outcome Typed). IsGiven scope spot r) (sym (ap (λ (n : Named). n.bound scope spot) (para-roll-Term Look Takes Binds Binds Named Binds Binds Binds Binds Binds access_step arg_step cmp_step sign_step term_step and_step expr_step post_step prod_step sum_step (Term-F.Group place e.0))))
    (e.1 scope sound spot)

-- Terms with looks behind them.

from-bound : (first : Binds) (scope : Scope) → IsSoundScope scope → ((spot : Spot) → IsGiven scope spot (first scope spot)) → (spot : Spot) (l : Look) (looks : List Look) (n : Option (List ℕ)) → Each (IsBound scope (inside spot.position)) (λ (k : Look). k.key scope spot.position) (l ∷ looks) → (i : Option ℕ) (w : Option Word) → step_named scope.steps n ≡ i → IsGiven scope spot (path_from first scope spot l looks i w)
from-bound first scope sound h spot l looks n each (Some i) (Some w) is = path-bound scope spot (step_bound scope.steps i w) looks (step-bound scope (inside spot.position) n i w sound is) each.1
from-bound first scope sound h spot l looks n each (Some i) None is = path-bound scope spot (first scope (inside spot.position)) (l ∷ looks) (h (inside spot.position)) each
from-bound first scope sound h spot l looks n each None w is = path-bound scope spot (first scope (inside spot.position)) (l ∷ looks) (h (inside spot.position)) each

term-bound : (first : Named) (scope : Scope) → IsSoundScope scope → ((spot : Spot) → IsGiven scope spot (first.bound scope spot)) → (spot : Spot) (looks : List Look) → Each (IsBound scope (inside spot.position)) (λ (k : Look). k.key scope spot.position) looks → IsGiven scope spot (post_of first looks scope spot)
term-bound first scope sound h spot [] each = h spot
term-bound first scope sound h spot (l ∷ looks) each = from-bound first.bound scope sound h spot l looks first.name each (step_named scope.steps first.name) l.entry refl

of-post : (y : Post-F GivenAccess GivenArg GivenCmp GivenSign GivenTerm GivenAnd GivenExpr GivenPost GivenProd GivenSum) → BoundPost (roll-Post (map-Post GivenAccess GivenArg GivenCmp GivenSign GivenTerm GivenAnd GivenExpr GivenPost GivenProd GivenSum Access Arg Cmp Sign Term And Expr Post Prod Sum bare_access bare_arg bare_cmp bare_sign bare_term bare_and bare_expr bare_post bare_prod bare_sum y))
unfolding expr_bound and_bound cmp_bound sum_bound prod_bound sign_bound post_bound access_read term_read arg_bound bare_access bare_arg bare_cmp bare_sign bare_term bare_and bare_expr bare_post bare_prod bare_sum
of-post y scope sound spot =
    subst (λ (r : Outcome Typed). IsGiven scope spot r) (sym (post-rolled (map-Post GivenAccess GivenArg GivenCmp GivenSign GivenTerm GivenAnd GivenExpr GivenPost GivenProd GivenSum Access Arg Cmp Sign Term And Expr Post Prod Sum bare_access bare_arg bare_cmp bare_sign bare_term bare_and bare_expr bare_post bare_prod bare_sum y) scope spot))
    (term-bound (term_read y.first.0) scope sound (λ at. y.first.1 scope sound at) spot (map access_read (map bare_access y.more)) (each-looks scope sound spot.position y.more))

-- The whole.

every-expr : (e : Expr) → BoundExpr e
unfolding bare_expr bare_sum bare_post bare_arg bare_cmp bare_and bare_term bare_access bare_sign bare_prod
every-expr = ind-Expr BoundAccess BoundArg BoundCmp BoundSign BoundTerm BoundAnd BoundExpr BoundPost BoundProd BoundSum
    (λ x y is. subst (λ (z : Access-F Access Arg Cmp Sign Term And Expr Post Prod Sum). BoundAccess (roll-Access z)) is (of-access y))
    (λ x y is. subst (λ (z : Arg-F Access Arg Cmp Sign Term And Expr Post Prod Sum). BoundArg (roll-Arg z)) is (of-arg y))
    (λ x y is. subst (λ (z : Cmp-F Access Arg Cmp Sign Term And Expr Post Prod Sum). BoundCmp (roll-Cmp z)) is (of-cmp y))
    (λ x y is. subst (λ (z : Sign-F Access Arg Cmp Sign Term And Expr Post Prod Sum). BoundSign (roll-Sign z)) is (of-sign y))
    (λ x y is. subst (λ (z : Term-F Access Arg Cmp Sign Term And Expr Post Prod Sum). BoundTerm (roll-Term z)) is (of-term y))
    (λ x y is. subst (λ (z : And-F Access Arg Cmp Sign Term And Expr Post Prod Sum). BoundAnd (roll-And z)) is (of-and y))
    (λ x y is. subst (λ (z : Expr-F Access Arg Cmp Sign Term And Expr Post Prod Sum). BoundExpr (roll-Expr z)) is (of-expr y))
    (λ x y is. subst (λ (z : Post-F Access Arg Cmp Sign Term And Expr Post Prod Sum). BoundPost (roll-Post z)) is (of-post y))
    (λ x y is. subst (λ (z : Prod-F Access Arg Cmp Sign Term And Expr Post Prod Sum). BoundProd (roll-Prod z)) is (of-prod y))
    (λ x y is. subst (λ (z : Sum-F Access Arg Cmp Sign Term And Expr Post Prod Sum). BoundSum (roll-Sum z)) is (of-sum y))

-- Outside `Group` a call that fits has one result column.
one-result : (at : Position) (f : Aggregate) (args : List BExpr) → at ≢ position.Group → takes_aggregate at f ≡ true → has_one_result f args ≡ true
unfolding takes_aggregate is_of_series has_one_result
one-result position.Group f args n e = absurd (n refl)
one-result position.Series aggregate.ArgMax args n e = absurd cc
one-result position.Series aggregate.ArgMin args n e = absurd cc
one-result position.Series aggregate.TakeAny args n e = absurd cc
one-result position.Series _ args n e = refl
one-result position.Plain f args n e = absurd cc
one-result position.Window f args n e = absurd cc
one-result position.Term f args n e = absurd cc
one-result position.Constant f args n e = absurd cc

-- Where the call that an expression is, if it is one, has one result column, it fits as a part does.
abbrev IsSingle : BExpr → Position → Type 0
IsSingle e at = (g : Aggregate) (args : List BExpr) → e ≡ V.Aggregate g args → takes_aggregate at g ≡ true → has_one_result g args ≡ true

layer-one : (f : BExpr-F BExpr) (scope : ReadScope) (at : Position) → IsSingle (roll-BExpr f) at → call_or_expr_fits (roll-BExpr f) scope at ≡ true → expr_fits (roll-BExpr f) scope at ≡ true
unfolding call_or_expr_fits
layer-one (BExpr-F.Aggregate f args) scope at single e =
    let fits = sym (ap (λ (g : BExpr-F BExpr). call_or_expr_fits_step g (expr_fits (roll-BExpr (BExpr-F.Aggregate f args)) scope at) scope at) (out-roll-BExpr (BExpr-F.Aggregate f args))) ∙ e in
    let takes = (and_parts _ _ (sym (aggregate-checked f args scope at) ∙ fits)).0 in
    ap (λ (x : BExpr). expr_fits x scope at) (V.rolls-Aggregate f args) ∙ (fits-Aggregate f args scope at ∙ and_from _ _ (single f args (V.rolls-Aggregate f args) takes) fits)
layer-one y scope at single e = sym (ap (λ (g : BExpr-F BExpr). call_or_expr_fits_step g (expr_fits (roll-BExpr y) scope at) scope at) (out-roll-BExpr y)) ∙ e

single-fits : (e : BExpr) (scope : ReadScope) (at : Position) → IsSingle e at → call_or_expr_fits e scope at ≡ true → expr_fits e scope at ≡ true
single-fits e scope at single h =
    let same = roll-out-BExpr e in
    subst (λ (x : BExpr). expr_fits x scope at ≡ true) same
    (layer-one (out-BExpr e) scope at (λ g args is takes. single g args (sym same ∙ is) takes) (subst (λ (x : BExpr). call_or_expr_fits x scope at ≡ true) (sym same) h))

-- An expression that is no call with several result columns.
one-call : (e : BExpr) (g : Aggregate) (args : List BExpr) → e ≡ V.Aggregate g args → has_several_results e ≡ false → has_one_result g args ≡ true
one-call e g args is h = yes (has_one_result g args) (sym (several-Aggregate g args) ∙ (ap has_several_results (sym is) ∙ h))
  where
    yes : (b : Bool) → not b ≡ false → b ≡ true
    yes true n = refl
    yes false n = absurd cc

constant-single : (e : BExpr) (at : Position) → is_constant e ≡ true → IsSingle e at
constant-single e at c g args is takes = never (is_constant (V.Aggregate g args)) (constant-Aggregate g args) (subst (λ (x : BExpr). is_constant x ≡ true) is c)

-- A call of an aggregate stands rightly as an item of `make-series`.
call-roll : (f : BExpr-F BExpr) → is_aggregate_call_step f ≡ true → stands position.Series (roll-BExpr f) ≡ true
call-roll (BExpr-F.Aggregate f args) e = ap (stands position.Series) (V.rolls-Aggregate f args) ∙ stands-Aggregate position.Series f args
call-roll _ e = absurd cc

call-stands : (e : BExpr) → is_aggregate_call e ≡ true → stands position.Series e ≡ true
unfolding is_aggregate_call
call-stands e call = ap (stands position.Series) (sym (roll-out-BExpr e)) ∙ call-roll (out-BExpr e) call

no-group : (at : Position) → takes_columns at ≡ true → at ≢ position.Group
unfolding takes_columns
no-group position.Plain e f = cc
no-group position.Window e f = cc
no-group position.Term e f = cc
no-group position.Group e f = absurd cc
no-group position.Series e f = absurd cc
no-group position.Constant e f = absurd cc

no-series : position.Series ≢ position.Group
no-series e = cc

whole-fits : (scope : Scope) (t : Typed) (at : Position) → IsBound scope (record { position = at; alone = true }) t → at ≢ position.Group → stands at t.expr ≡ true → expr_fits t.expr (read_scope scope) at ≡ true
whole-fits scope t at b n s = single-fits t.expr (read_scope scope) at (λ g args same takes. one-result at g args n takes) (b.fits s)

whole-sound : (scope : Scope) (t : Typed) → IsSoundScope scope → IsBound scope (record { position = scope.position; alone = true }) t → IsSound scope t
whole-sound scope t sound b =
    let at : (p : Position) → scope.position ≡ p → IsBound scope (record { position = p; alone = true }) t = λ p e. subst (λ (q : Position). IsBound scope (record { position = q; alone = true }) t) e b in
    record {
      kind = b.kind;
      fits = λ free. whole-fits scope t scope.position b (no-group scope.position free) ((every-free t.expr).in_columns scope.position free);
      group = λ e columns counts. (at position.Group e).fits ((every-free t.expr).grouped columns counts);
      one = λ e single columns counts. single-fits t.expr (read_scope scope) position.Group (λ g args same takes. one-call t.expr g args same single) ((at position.Group e).fits ((every-free t.expr).grouped columns counts));
      series = λ e call. whole-fits scope t position.Series (at position.Series e) no-series (call-stands t.expr call);
      constant = λ l c.
          let part : IsPart scope scope.position t.expr t.kind = record {
            kind = b.kind;
            fits = λ s. single-fits t.expr (read_scope scope) scope.position (constant-single t.expr scope.position (constant-is t l c)) (b.fits s);
          } in
          constant-given scope scope.position t l sound.names part c;
    }

pub bound-sound : BoundIsSound
unfolding bound_expr
bound-sound e scope t sound is =
    let spot : Spot = record { position = scope.position; alone = true } in
    whole-sound scope t sound (given (IsBound scope spot) (expr_bound e scope spot) t (every-expr e scope sound spot) is)

pub name-sound : NameIsSound
name-sound n scope t sound is =
    let spot : Spot = record { position = scope.position; alone = true } in
    whole-sound scope t sound (given (IsBound scope spot) (name_bound n scope) t (name-bound scope spot n sound) is)

pub ruleset bound_laws = (bound-sound, name-sound)
