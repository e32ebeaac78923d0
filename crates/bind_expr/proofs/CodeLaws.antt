-- Each refusal has one of the codes of binding, and want of memory is none of them.
use Rattle.std.proofs.Common.{◌≡◌, ℕ, ℤ, Bool, true, false, not, ◌&&◌, List, [], ◌∷◌, ◌++◌, map, refl, sym, ap, ◌∙◌, subst}
use Rattle.std.specs.Prelude.{Result, Ok, Err, Option, None, Some, fold}
use Rattle.kql_cells.specs.declared.value.Kind.{Kind}
use Rattle.kql_cells.specs.declared.value.Value.{Value}
use Rattle.kql_functions.specs.Find.{found_as}
use Rattle.kql_functions.specs.Kinds.{result_kind}
use Rattle.kql_functions.specs.declared.aggregate.Aggregate.{Aggregate}
use Rattle.kql_functions.specs.declared.func.ArithmeticFunc.TheVariants as arithmetic
use Rattle.kql_functions.specs.declared.func.Func.{Func}
use Rattle.kql_functions.specs.declared.func.Func.TheVariants as func
use Rattle.kql_functions.specs.declared.func.LogicFunc.{LogicFunc}
use Rattle.kql_functions.specs.declared.func.LogicFunc.TheVariants as logic
use Rattle.kql_functions.specs.declared.names.Found.{Found}
use Rattle.kql_functions.specs.declared.names.Found.TheVariants as found
use Rattle.kql_functions.specs.declared.window.Window.{Window}
use Rattle.kql_bound.specs.Signs.{sign_func}
use Rattle.kql_bound.specs.declared.expr.BExpr.{BExpr}
use Rattle.kql_bound.specs.declared.expr.BExpr.TheVariants as V
use Rattle.kql_bound.specs.declared.expr.ChainSign.{ChainSign}
use Rattle.kql_lexer.specs.declared.place.Place.{Place}
use Rattle.kql_cells.specs.Named.{column_name, place_of}
use Rattle.kql_meaning.specs.Expressions.{column_kind, look}
use Rattle.kql_meaning.specs.FittingExpressions.{takes_aggregate, takes_window}
use Rattle.kql_meaning.specs.declared.position.Position.{Position}
use Rattle.kql_syntax.specs.declared.tree.Access.TheOpen.{Access-F, And-F, Arg-F, Cmp-F, Expr-F, Post-F, Prod-F, Sign-F, Sum-F, Term-F}
use Rattle.kql_syntax.specs.declared.tree.Access.{Access, para-roll-Access, map-Access, roll-Access}
use Rattle.kql_syntax.specs.declared.tree.And.{And, map-And, roll-And}
use Rattle.kql_syntax.specs.declared.tree.Arg.{Arg, para-roll-Arg, map-Arg, roll-Arg}
use Rattle.kql_syntax.specs.declared.tree.Cmp.{Cmp, para-roll-Cmp, map-Cmp, roll-Cmp}
use Rattle.kql_syntax.specs.declared.tree.Expr.{Expr, map-Expr, roll-Expr, ind-Expr}
use Rattle.kql_syntax.specs.declared.tree.Post.{Post, map-Post, roll-Post}
use Rattle.kql_syntax.specs.declared.tree.Prod.{Prod, map-Prod, roll-Prod}
use Rattle.kql_syntax.specs.declared.tree.Sign.{Sign, para-roll-Sign, map-Sign, roll-Sign}
use Rattle.kql_syntax.specs.declared.tree.Sum.{Sum, map-Sum, roll-Sum}
use Rattle.kql_syntax.specs.declared.tree.Term.{Term, para-roll-Term, map-Term, roll-Term}
use Rattle.kql_syntax.specs.declared.tree.Access.TheVariants as AccessV
use Rattle.kql_syntax.specs.declared.tree.BetweenSign.{BetweenSign}
use Rattle.kql_syntax.specs.declared.tree.CompareSign.{CompareSign}
use Rattle.kql_syntax.specs.declared.tree.InSign.{InSign}
use Rattle.kql_syntax.specs.declared.tree.Literal.{Literal}
use Rattle.kql_syntax.specs.declared.tree.Literal.TheVariants as literal
use Rattle.kql_syntax.specs.declared.tree.Name.{Name}
use Rattle.kql_syntax.specs.declared.tree.Name.TheVariants as name
use Rattle.kql_syntax.specs.declared.tree.ProdSign.{ProdSign}
use Rattle.kql_syntax.specs.declared.tree.SumSign.{SumSign}
use Rattle.kql_syntax.specs.declared.tree.Word.{Word}
use Rattle.bind_expr.specs.AggregateCalls.{aggregate_call, aggregate_given, aggregate_stands, aggregate_taken, aggregate_typed}
use Rattle.bind_expr.specs.Arguments.{arg_link, first_slot, next_slot, no_args, plain_arg, taken}
use Rattle.bind_expr.specs.Bound.{Binds, Look, Named, Takes, access_read, access_step, and_bound, and_step, arg_bound, arg_step, args_taken, bound_expr, call_bound, call_or_extract, call_taken, cmp_bound, compare_or_match, cmp_step, entry_key, expr_bound, expr_step, first_spot, found_call, inside, negated, operand_link, path_from, path_of, post_bound, post_of, post_step, prod_bound, prod_sign, prod_step, sign_bound, sign_step, sum_bound, sum_sign, sum_step, term_read, term_step}
use Rattle.bind_expr.specs.Calls.{from_moment, moment_call, moment_call_as, moment_sign, plain_call, plain_call_as, scalar_call, scalar_call_as, takes_args}
use Rattle.bind_expr.specs.Chains.{chain_whole, chained_from, closed, linked, linked_as, opened}
use Rattle.bind_expr.specs.Comparisons.{among_func, among_kind, between_func, bounded, compare_func, compared, compared_as, in_node, is_of_any_type, listed}
use Rattle.bind_expr.specs.Laws.{EachIsTold, Tells, is_bind_code, tells}
use Rattle.bind_expr.specs.Literals.{literal_bound, read_or_fault, typed_literal, typed_of_kind}
use Rattle.typed_literals.specs.Reading.{kind_of_word, trimmed, value_or_null}
use Rattle.bind_expr.specs.Logic.{joined_as, joined_from, terms_closed, terms_opened, terms_whole, with_term}
use Rattle.bind_expr.specs.Names.{column_or_const, const_named, const_or_fault, name_bound, text_of, word_bound}
use Rattle.bind_expr.specs.Operands.{all_beside, as_text, beside, common_kind, exprs_of, kinds_of, typed_as, typed_call}
use Rattle.bind_expr.specs.Outcome.{Answers, Outcome, ◌>>=◌}
use Rattle.bind_expr.specs.Patterns.{arg_literal, arg_name, extract_bound, extract_of, group_if, is_extract, is_searchable, match_bound, refused_here, search_of, search_or_refuse, searched, sum_literal, sum_name}
use Rattle.bind_expr.specs.Paths.{looked_as, looked_from, looked_whole, path_closed, path_opened, step_bound, step_column, step_named, step_or_fault, with_look}
use Rattle.bind_expr.specs.Windows.{window_call, window_forms, window_given, window_serial, window_standing, window_typed}
use Rattle.bind_expr.specs.declared.arguments.Args.{Args}
use Rattle.bind_expr.specs.declared.arguments.Slot.{Slot}
use Rattle.bind_expr.specs.declared.chain.Chained.{Chained}
use Rattle.bind_expr.specs.declared.fault.BindFault.TheVariants as fault
use Rattle.bind_expr.specs.declared.logic.Joined.{Joined}
use Rattle.bind_expr.specs.declared.path.Looked.{Looked}
use Rattle.bind_expr.specs.declared.scope.Scope.{Scope}
use Rattle.bind_expr.specs.declared.scope.Spot.{Spot}
use Rattle.bind_expr.specs.declared.scope.StepNames.{StepNames}
use Rattle.bind_expr.specs.declared.typed.Typed.{Typed}
use Rattle.bind_expr.proofs.RolledLaws.{and-rolled, call-rolled, expr-rolled, in-rolled, post-rolled, prod-rolled, sum-rolled}

-- Values, refusals, and steps.

told-ok : {X : Type 0} (x : X) → Tells (Ok x)
told-ok x = record { holds = tt }

told-code : {X : Type 0} (code : ℕ) (place : Place) → is_bind_code code ≡ true → Tells {X = X} (Err (fault.Refused code place))
told-code code place known = record { holds = known }

told-then : {X Y : Type 0} (r : Outcome X) (k : X → Outcome Y) → Tells r → ((x : X) → Tells (k x)) → Tells (r >>= k)
told-then (Ok x) k h t = t x
told-then (Err (fault.Refused code place)) k h t = record { holds = h.holds }
told-then (Err fault.OutOfMemory) k h t = absurd h.holds

told-401 : {X : Type 0} (place : Place) → Tells {X = X} (Err (fault.Refused 401 place))
unfolding is_bind_code
told-401 place = told-code 401 place refl

told-402 : {X : Type 0} (place : Place) → Tells {X = X} (Err (fault.Refused 402 place))
unfolding is_bind_code
told-402 place = told-code 402 place refl

told-403 : {X : Type 0} (place : Place) → Tells {X = X} (Err (fault.Refused 403 place))
unfolding is_bind_code
told-403 place = told-code 403 place refl

told-404 : {X : Type 0} (place : Place) → Tells {X = X} (Err (fault.Refused 404 place))
unfolding is_bind_code
told-404 place = told-code 404 place refl

told-406 : {X : Type 0} (place : Place) → Tells {X = X} (Err (fault.Refused 406 place))
unfolding is_bind_code
told-406 place = told-code 406 place refl

told-407 : {X : Type 0} (place : Place) → Tells {X = X} (Err (fault.Refused 407 place))
unfolding is_bind_code
told-407 place = told-code 407 place refl

told-408 : {X : Type 0} (place : Place) → Tells {X = X} (Err (fault.Refused 408 place))
unfolding is_bind_code
told-408 place = told-code 408 place refl

told-409 : {X : Type 0} (place : Place) → Tells {X = X} (Err (fault.Refused 409 place))
unfolding is_bind_code
told-409 place = told-code 409 place refl

told-405 : {X : Type 0} (place : Place) → Tells {X = X} (Err (fault.Refused 405 place))
unfolding is_bind_code
told-405 place = told-code 405 place refl

told-420 : {X : Type 0} (place : Place) → Tells {X = X} (Err (fault.Refused 420 place))
unfolding is_bind_code
told-420 place = told-code 420 place refl

told-418 : {X : Type 0} (place : Place) → Tells {X = X} (Err (fault.Refused 418 place))
unfolding is_bind_code
told-418 place = told-code 418 place refl

-- The nodes.

told-typed : (place : Place) (e : BExpr) (o : Option Kind) → Tells (typed_as place e o)
told-typed place e None = told-404 place
told-typed place e (Some k) = told-ok (record { expr = e; kind = k })

told-call : (place : Place) (f : Func) (es : List BExpr) (ks : List Kind) → Tells (typed_call place f es ks)
unfolding typed_call
told-call place f es ks = told-typed place (V.Call f es) (result_kind f ks)

told-link-as : (sign : ChainSign) (place : Place) (first : BExpr) (links : List (ChainSign × BExpr)) (right : BExpr) (o : Option Kind) → Tells (linked_as sign place first links right o)
told-link-as sign place first links right None = told-404 place
told-link-as sign place first links right (Some k) = record { holds = tt }

told-link : (sign : ChainSign) (place : Place) (left : Chained) (right : Typed) → Tells (linked sign place left right)
unfolding linked
told-link sign place left right =
    let l : Typed = beside (record { expr = left.first; kind = left.kind }) right.kind in
    let r : Typed = beside right left.kind in
    told-link-as sign place l.expr left.links r.expr (result_kind (sign_func sign) (l.kind ∷ r.kind ∷ []))

told-term-as : (place : Place) (first : BExpr) (others : List BExpr) (right : BExpr) (o : Option Kind) → Tells (joined_as place first others right o)
told-term-as place first others right None = told-404 place
told-term-as place first others right (Some k) = record { holds = tt }

told-term : (f : LogicFunc) (place : Place) (left : Joined) (right : Typed) → Tells (with_term f place left right)
unfolding with_term
told-term f place left right =
    let l : Typed = beside (record { expr = left.first; kind = left.kind }) right.kind in
    let r : Typed = beside right left.kind in
    told-term-as place l.expr left.others r.expr (result_kind (func.Logic f) (l.kind ∷ r.kind ∷ []))

told-look-as : (place : Place) (whole : BExpr) (steps : List BExpr) (key : BExpr) (o : Option Kind) → Tells (looked_as place whole steps key o)
told-look-as place whole steps key None = told-404 place
told-look-as place whole steps key (Some k) = record { holds = tt }

told-look : (place : Place) (l : Looked) (key : Typed) → Tells (with_look place l key)
unfolding with_look
told-look place l key = told-look-as place l.whole l.steps key.expr (result_kind look (l.kind ∷ key.kind ∷ []))

told-compared-as : (f : Func) (sign : CompareSign) (l r : Typed) (b : Bool) → Tells (compared_as f sign l r b)
told-compared-as f sign l r true = told-call sign.place f (exprs_of (beside l r.kind ∷ beside r l.kind ∷ [])) (kinds_of (beside l r.kind ∷ beside r l.kind ∷ []))
told-compared-as f sign l r false = told-call sign.place f (exprs_of (as_text l ∷ as_text r ∷ [])) (kinds_of (as_text l ∷ as_text r ∷ []))

told-compared : (f : Func) (sign : CompareSign) (l r : Typed) → Tells (compared f sign l r)
unfolding compared
told-compared f sign l r = told-compared-as f sign l r (is_of_any_type sign.op)

told-listed : (sign : InSign) (ts : List Typed) → Tells (listed sign ts)
unfolding listed
told-listed sign ts =
    let all : List Typed = all_beside (among_kind sign.op (kinds_of ts)) ts in
    told-call sign.place (among_func sign.op) (exprs_of all) (kinds_of all)

told-bounded : (sign : BetweenSign) (x a b : Typed) → Tells (bounded sign x a b)
unfolding bounded
told-bounded sign x a b =
    let k : Kind = common_kind (x.kind ∷ a.kind ∷ b.kind ∷ []) in
    let all : List Typed = beside x k ∷ beside a k ∷ beside b k ∷ [] in
    told-call sign.place (between_func sign.op) (exprs_of all) (kinds_of all)

told-negated : (place : Place) (t : Typed) → Tells (negated place t)
unfolding negated
told-negated place t = told-call place (func.Arithmetic arithmetic.Negate) (t.expr ∷ []) (t.kind ∷ [])

-- Calls of patterns.

told-here : (word : Place) → Tells (refused_here word)
unfolding refused_here
told-here word = told-420 word

told-search-or : (word : Place) (g : Option ℕ) (c : List ℕ) (place : Place) (text : List ℕ) (b : Bool) → Tells (search_or_refuse word g c place text b)
told-search-or word g c place text true = told-call word _ _ _
told-search-or word g c place text false = told-here word

told-searched : (word : Place) (g : Option ℕ) (scope : Scope) (c : List ℕ) (l : Literal) → Tells (searched word g scope c l)
unfolding searched
told-searched word g scope c (literal.Text place text) = told-search-or word g c place text (is_searchable scope c)
told-searched word g scope c (literal.Number place n) = told-here word
told-searched word g scope c (literal.Span place n) = told-here word
told-searched word g scope c (literal.True place) = told-here word
told-searched word g scope c (literal.False place) = told-here word
told-searched word g scope c (literal.Typed place w text) = told-here word

told-search : (word : Place) (g : Option ℕ) (scope : Scope) (n : Option Name) (l : Option Literal) → Tells (search_of word g scope n l)
told-search word g scope (Some n) (Some l) = told-searched word g scope (text_of n) l
told-search word g scope (Some n) None = told-here word
told-search word g scope None l = told-here word

told-match : (word : Place) (scope : Scope) (c p : Sum) → Tells (match_bound word scope c p)
unfolding match_bound
told-match word scope c p = told-search word None scope (sum_name c) (sum_literal p)

told-extract-of : (word : Place) (scope : Scope) (l : Option Literal) (g : Option ℕ) (n : Option Name) → Tells (extract_of word scope l g n)
told-extract-of word scope l None n = told-here word
told-extract-of word scope l (Some g) n = told-search word (Some g) scope n l

told-extract : (word : Place) (scope : Scope) (args : List Arg) → Tells (extract_bound word scope args)
unfolding extract_bound
told-extract word scope [] = told-here word
told-extract word scope (p ∷ []) = told-here word
told-extract word scope (p ∷ n ∷ []) = told-here word
told-extract word scope (p ∷ n ∷ c ∷ []) = told-extract-of word scope (arg_literal p) (group_if (arg_literal n)) (arg_name c)
told-extract word scope (p ∷ n ∷ c ∷ d ∷ more) = told-here word

-- Terms.

told-read : (place : Place) (k : Kind) (o : Option Value) → Tells (read_or_fault place k o)
told-read place k None = told-418 place
told-read place k (Some v) = record { holds = tt }

told-of-kind : (place : Place) (t : List ℕ) (o : Option Kind) → Tells (typed_of_kind place t o)
told-of-kind place t None = told-405 place
told-of-kind place t (Some k) = told-read place k (value_or_null k (trimmed t))

told-literal : (l : Literal) → Tells (literal_bound l)
unfolding literal_bound typed_literal
told-literal (literal.Number place n) = record { holds = tt }
told-literal (literal.Span place n) = record { holds = tt }
told-literal (literal.Text place text) = record { holds = tt }
told-literal (literal.True place) = record { holds = tt }
told-literal (literal.False place) = record { holds = tt }
told-literal (literal.Typed place w text) = told-of-kind place text (kind_of_word w)

told-const : (place : Place) (o : Option Typed) → Tells (const_or_fault place o)
told-const place (Some t) = told-ok t
told-const place None = told-401 place

told-column : (place : Place) (n : List ℕ) (c : Option Typed) (k : Option Kind) → Tells (column_or_const place n c k)
told-column place n c (Some k) = record { holds = tt }
told-column place n c None = told-const place c

told-name : (n : Name) (scope : Scope) → Tells (name_bound n scope)
unfolding name_bound word_bound
told-name (name.Bare w) scope = told-column w.place w.text (const_named w.text scope.consts) (column_kind w.text scope.schema)
told-name (name.Quoted place n) scope = told-column place n (const_named n scope.consts) (column_kind n scope.schema)

told-step-as : (steps : StepNames) (i : ℕ) (place : Place) (o : Option ℕ) → Tells (step_or_fault steps i place o)
told-step-as steps i place None = told-401 place
told-step-as steps i place (Some p) = told-ok (step_column steps i p)

told-step : (steps : StepNames) (i : ℕ) (w : Word) → Tells (step_bound steps i w)
unfolding step_bound
told-step steps i w = told-step-as steps i w.place (place_of column_name w.text steps.columns)

-- Calls.

told-plain-as : (place : Place) (f : Func) (a : Args) (b : Bool) → Tells (plain_call_as place f a b)
told-plain-as place f a true = told-call place f a.exprs a.kinds
told-plain-as place f a false = told-403 place

told-plain : (place : Place) (f : Func) (a : Args) → Tells (plain_call place f a)
unfolding plain_call
told-plain place f a = told-plain-as place f a (takes_args f a)

told-moment-as : (place : Place) (f : Func) (sign : ChainSign) (m : ℤ) (a : Args) (b : Bool) → Tells (moment_call_as place f sign m a b)
told-moment-as place f sign m a true = told-typed place (from_moment sign m a.exprs) (result_kind f a.kinds)
told-moment-as place f sign m a false = told-403 place

told-moment : (place : Place) (f : Func) (sign : ChainSign) (a : Args) (m : Option ℤ) → Tells (moment_call place f sign a m)
told-moment place f sign a None = told-409 place
told-moment place f sign a (Some m) = told-moment-as place f sign m a (takes_args f a)

told-scalar-as : (place : Place) (f : Func) (a : Args) (m : Option ℤ) (s : Option ChainSign) → Tells (scalar_call_as place f a m s)
told-scalar-as place f a m None = told-plain place f a
told-scalar-as place f a m (Some s) = told-moment place f s a m

told-scalar : (place : Place) (f : Func) (a : Args) (m : Option ℤ) → Tells (scalar_call place f a m)
unfolding scalar_call
told-scalar place f a m = told-scalar-as place f a m (moment_sign f)

told-window-typed : (place : Place) (f : Window) (a : Args) (b : Bool) → Tells (window_typed place f a b)
told-window-typed place f a true = told-typed place (V.Window f a.exprs) (window_given f a.kinds)
told-window-typed place f a false = told-403 place

told-window-serial : (place : Place) (f : Window) (a : Args) (b : Bool) → Tells (window_serial place f a b)
told-window-serial place f a true = told-window-typed place f a (not a.has_stray && window_forms f a.exprs)
told-window-serial place f a false = told-407 place

told-window-standing : (place : Place) (f : Window) (a : Args) (scope : Scope) (b : Bool) → Tells (window_standing place f a scope b)
told-window-standing place f a scope true = told-window-serial place f a scope.serial
told-window-standing place f a scope false = told-408 place

told-window : (place : Place) (f : Window) (a : Args) (scope : Scope) (at : Position) → Tells (window_call place f a scope at)
unfolding window_call
told-window place f a scope at = told-window-standing place f a scope (takes_window at f)

told-aggregate-typed : (place : Place) (f : Aggregate) (a : Args) (b : Bool) → Tells (aggregate_typed place f a b)
told-aggregate-typed place f a true = told-typed place (V.Aggregate f a.exprs) (aggregate_given f a.kinds)
told-aggregate-typed place f a false = told-403 place

told-aggregate-taken : (place : Place) (f : Aggregate) (a : Args) (spot : Spot) (b : Bool) → Tells (aggregate_taken place f a spot b)
told-aggregate-taken place f a spot true = told-aggregate-typed place f a (aggregate_stands f a spot)
told-aggregate-taken place f a spot false = told-402 place

told-aggregate : (place : Place) (f : Aggregate) (a : Args) (spot : Spot) → Tells (aggregate_call place f a spot)
unfolding aggregate_call
told-aggregate place f a spot = told-aggregate-taken place f a spot (takes_aggregate spot.position f)

told-found : (w : Word) (scope : Scope) (spot : Spot) (a : Args) (f : Found) → Tells (found_call w scope spot a f)
unfolding found_call
told-found w scope spot a found.Unknown = told-402 w.place
told-found w scope spot a found.Pattern = told-420 w.place
told-found w scope spot a found.Refused = told-406 w.place
told-found w scope spot a (found.Scalar f) = told-scalar w.place f a scope.moment
told-found w scope spot a (found.Window f) = told-window w.place f a scope spot.position
told-found w scope spot a (found.Aggregate f) = told-aggregate w.place f a spot

-- Lists of parts.

-- Each of these parts tells what a refusal is.
abbrev Each : {L X : Type 0} → (L → Outcome X) → List L → Type 0
Each part [] = Unit {0}
Each part (l ∷ ls) = Tells (part l) × Each part ls

told-fold : {L B X : Type 0} (f : L → B → X → Outcome B) (part : L → Outcome X) → ((l : L) (b : B) (x : X) → Tells (f l b x)) → (start : Outcome B) → Tells start → (ms : List L) → Each part ms → Tells (fold (λ (before : Outcome B) (l : L). before >>= λ b. part l >>= λ x. f l b x) start ms)
told-fold f part t start h [] each = h
told-fold {B = B} f part t start h (l ∷ ls) each =
    told-fold f part t (start >>= λ b. part l >>= λ x. f l b x) (told-then start (λ b. part l >>= λ x. f l b x) h (λ b. told-then (part l) (λ x. f l b x) each.0 (t l b))) ls each.1

-- Each level.

abbrev TellsAccess : Access → Type 0
TellsAccess x = (scope : Scope) (at : Position) → Tells ((access_read x).key scope at)

abbrev GivenAccess : Type 0
GivenAccess = (x : Access) × TellsAccess x

bare_access : GivenAccess → Access
bare_access g = g.0

abbrev TellsArg : Arg → Type 0
TellsArg x = (scope : Scope) (at : Position) → Tells (arg_bound x scope at)

abbrev GivenArg : Type 0
GivenArg = (x : Arg) × TellsArg x

bare_arg : GivenArg → Arg
bare_arg g = g.0

abbrev TellsCmp : Cmp → Type 0
TellsCmp x = (scope : Scope) (spot : Spot) → Tells (cmp_bound x scope spot)

abbrev GivenCmp : Type 0
GivenCmp = (x : Cmp) × TellsCmp x

bare_cmp : GivenCmp → Cmp
bare_cmp g = g.0

abbrev TellsSign : Sign → Type 0
TellsSign x = (scope : Scope) (spot : Spot) → Tells (sign_bound x scope spot)

abbrev GivenSign : Type 0
GivenSign = (x : Sign) × TellsSign x

bare_sign : GivenSign → Sign
bare_sign g = g.0

abbrev TellsTerm : Term → Type 0
TellsTerm x = (scope : Scope) (spot : Spot) → Tells ((term_read x).bound scope spot)

abbrev GivenTerm : Type 0
GivenTerm = (x : Term) × TellsTerm x

bare_term : GivenTerm → Term
bare_term g = g.0

abbrev TellsAnd : And → Type 0
TellsAnd x = (scope : Scope) (spot : Spot) → Tells (and_bound x scope spot)

abbrev GivenAnd : Type 0
GivenAnd = (x : And) × TellsAnd x

bare_and : GivenAnd → And
bare_and g = g.0

abbrev TellsExpr : Expr → Type 0
TellsExpr x = (scope : Scope) (spot : Spot) → Tells (expr_bound x scope spot)

abbrev GivenExpr : Type 0
GivenExpr = (x : Expr) × TellsExpr x

bare_expr : GivenExpr → Expr
bare_expr g = g.0

abbrev TellsPost : Post → Type 0
TellsPost x = (scope : Scope) (spot : Spot) → Tells (post_bound x scope spot)

abbrev GivenPost : Type 0
GivenPost = (x : Post) × TellsPost x

bare_post : GivenPost → Post
bare_post g = g.0

abbrev TellsProd : Prod → Type 0
TellsProd x = (scope : Scope) (spot : Spot) → Tells (prod_bound x scope spot)

abbrev GivenProd : Type 0
GivenProd = (x : Prod) × TellsProd x

bare_prod : GivenProd → Prod
bare_prod g = g.0

abbrev TellsSum : Sum → Type 0
TellsSum x = (scope : Scope) (spot : Spot) → Tells (sum_bound x scope spot)

abbrev GivenSum : Type 0
GivenSum = (x : Sum) × TellsSum x

bare_sum : GivenSum → Sum
bare_sum g = g.0

each-ands : (scope : Scope) (spot : Spot) (gs : List (Place × GivenAnd)) → Each (λ (l : Place × Binds). l.1 scope spot) (map {B = Place × Binds} (λ (l : Place × And). (l.0, and_bound l.1)) (map {B = Place × And} (λ (l : Place × GivenAnd). (l.0, bare_and l.1)) gs))
unfolding bare_and
each-ands scope spot [] = tt
each-ands scope spot (g ∷ gs) = (g.1.1 scope spot, each-ands scope spot gs)

each-cmps : (scope : Scope) (spot : Spot) (gs : List (Place × GivenCmp)) → Each (λ (l : Place × Binds). l.1 scope spot) (map {B = Place × Binds} (λ (l : Place × Cmp). (l.0, cmp_bound l.1)) (map {B = Place × Cmp} (λ (l : Place × GivenCmp). (l.0, bare_cmp l.1)) gs))
unfolding bare_cmp
each-cmps scope spot [] = tt
each-cmps scope spot (g ∷ gs) = (g.1.1 scope spot, each-cmps scope spot gs)

each-prods : (scope : Scope) (spot : Spot) (gs : List (SumSign × GivenProd)) → Each (λ (l : SumSign × Binds). l.1 scope spot) (map {B = SumSign × Binds} (λ (l : SumSign × Prod). (l.0, prod_bound l.1)) (map {B = SumSign × Prod} (λ (l : SumSign × GivenProd). (l.0, bare_prod l.1)) gs))
unfolding bare_prod
each-prods scope spot [] = tt
each-prods scope spot (g ∷ gs) = (g.1.1 scope spot, each-prods scope spot gs)

each-signs : (scope : Scope) (spot : Spot) (gs : List (ProdSign × GivenSign)) → Each (λ (l : ProdSign × Binds). l.1 scope spot) (map {B = ProdSign × Binds} (λ (l : ProdSign × Sign). (l.0, sign_bound l.1)) (map {B = ProdSign × Sign} (λ (l : ProdSign × GivenSign). (l.0, bare_sign l.1)) gs))
unfolding bare_sign
each-signs scope spot [] = tt
each-signs scope spot (g ∷ gs) = (g.1.1 scope spot, each-signs scope spot gs)

each-exprs : (scope : Scope) (spot : Spot) (gs : List GivenExpr) → Each (λ (e : Binds). e scope spot) (map expr_bound (map bare_expr gs))
unfolding bare_expr
each-exprs scope spot [] = tt
each-exprs scope spot (g ∷ gs) = (g.1 scope spot, each-exprs scope spot gs)

each-args : (scope : Scope) (at : Position) (gs : List GivenArg) → Each (λ (a : Takes). a scope at) (map arg_bound (map bare_arg gs))
unfolding bare_arg
each-args scope at [] = tt
each-args scope at (g ∷ gs) = (g.1 scope at, each-args scope at gs)

each-looks : (scope : Scope) (at : Position) (gs : List GivenAccess) → Each (λ (l : Look). l.key scope at) (map access_read (map bare_access gs))
unfolding bare_access
each-looks scope at [] = tt
each-looks scope at (g ∷ gs) = (g.1 scope at, each-looks scope at gs)

of-expr : (y : Expr-F GivenAccess GivenArg GivenCmp GivenSign GivenTerm GivenAnd GivenExpr GivenPost GivenProd GivenSum) → TellsExpr (roll-Expr (map-Expr GivenAccess GivenArg GivenCmp GivenSign GivenTerm GivenAnd GivenExpr GivenPost GivenProd GivenSum Access Arg Cmp Sign Term And Expr Post Prod Sum bare_access bare_arg bare_cmp bare_sign bare_term bare_and bare_expr bare_post bare_prod bare_sum y))
unfolding expr_bound and_bound cmp_bound sum_bound prod_bound sign_bound post_bound access_read term_read arg_bound bare_access bare_arg bare_cmp bare_sign bare_term bare_and bare_expr bare_post bare_prod bare_sum terms_opened terms_closed
of-expr y scope spot =
    let more : List (Place × Binds) = map {B = Place × Binds} (λ (l : Place × And). (l.0, and_bound l.1)) (map {B = Place × And} (λ (l : Place × GivenAnd). (l.0, bare_and l.1)) y.more) in
    let start : Outcome Joined = and_bound y.first.0 scope (first_spot more spot) >>= λ t. Ok (joined_from t) in
    let whole : Outcome Joined = fold (λ (before : Outcome Joined) (l : Place × Binds). before >>= λ b. l.1 scope (inside spot.position) >>= λ t. with_term logic.Or l.0 b t) start more in
    subst (λ (r : Outcome Typed). Tells r) (sym (expr-rolled (map-Expr GivenAccess GivenArg GivenCmp GivenSign GivenTerm GivenAnd GivenExpr GivenPost GivenProd GivenSum Access Arg Cmp Sign Term And Expr Post Prod Sum bare_access bare_arg bare_cmp bare_sign bare_term bare_and bare_expr bare_post bare_prod bare_sum y) scope spot))
    (told-then whole (λ (c : Joined). Ok (terms_whole logic.Or c))
    (told-fold (λ (l : Place × Binds) (b : Joined) (t : Typed). with_term logic.Or l.0 b t) (λ (l : Place × Binds). l.1 scope (inside spot.position)) (λ l b t. told-term logic.Or l.0 b t) start
    (told-then (and_bound y.first.0 scope (first_spot more spot)) (λ (t : Typed). Ok (joined_from t)) (y.first.1 scope (first_spot more spot)) (λ t. told-ok (joined_from t)))
    more (each-ands scope (inside spot.position) y.more))
    (λ c. told-ok (terms_whole logic.Or c)))

of-and : (y : And-F GivenAccess GivenArg GivenCmp GivenSign GivenTerm GivenAnd GivenExpr GivenPost GivenProd GivenSum) → TellsAnd (roll-And (map-And GivenAccess GivenArg GivenCmp GivenSign GivenTerm GivenAnd GivenExpr GivenPost GivenProd GivenSum Access Arg Cmp Sign Term And Expr Post Prod Sum bare_access bare_arg bare_cmp bare_sign bare_term bare_and bare_expr bare_post bare_prod bare_sum y))
unfolding expr_bound and_bound cmp_bound sum_bound prod_bound sign_bound post_bound access_read term_read arg_bound bare_access bare_arg bare_cmp bare_sign bare_term bare_and bare_expr bare_post bare_prod bare_sum terms_opened terms_closed
of-and y scope spot =
    let more : List (Place × Binds) = map {B = Place × Binds} (λ (l : Place × Cmp). (l.0, cmp_bound l.1)) (map {B = Place × Cmp} (λ (l : Place × GivenCmp). (l.0, bare_cmp l.1)) y.more) in
    let start : Outcome Joined = cmp_bound y.first.0 scope (first_spot more spot) >>= λ t. Ok (joined_from t) in
    let whole : Outcome Joined = fold (λ (before : Outcome Joined) (l : Place × Binds). before >>= λ b. l.1 scope (inside spot.position) >>= λ t. with_term logic.And l.0 b t) start more in
    subst (λ (r : Outcome Typed). Tells r) (sym (and-rolled (map-And GivenAccess GivenArg GivenCmp GivenSign GivenTerm GivenAnd GivenExpr GivenPost GivenProd GivenSum Access Arg Cmp Sign Term And Expr Post Prod Sum bare_access bare_arg bare_cmp bare_sign bare_term bare_and bare_expr bare_post bare_prod bare_sum y) scope spot))
    (told-then whole (λ (c : Joined). Ok (terms_whole logic.And c))
    (told-fold (λ (l : Place × Binds) (b : Joined) (t : Typed). with_term logic.And l.0 b t) (λ (l : Place × Binds). l.1 scope (inside spot.position)) (λ l b t. told-term logic.And l.0 b t) start
    (told-then (cmp_bound y.first.0 scope (first_spot more spot)) (λ (t : Typed). Ok (joined_from t)) (y.first.1 scope (first_spot more spot)) (λ t. told-ok (joined_from t)))
    more (each-cmps scope (inside spot.position) y.more))
    (λ c. told-ok (terms_whole logic.And c)))

of-sum : (y : Sum-F GivenAccess GivenArg GivenCmp GivenSign GivenTerm GivenAnd GivenExpr GivenPost GivenProd GivenSum) → TellsSum (roll-Sum (map-Sum GivenAccess GivenArg GivenCmp GivenSign GivenTerm GivenAnd GivenExpr GivenPost GivenProd GivenSum Access Arg Cmp Sign Term And Expr Post Prod Sum bare_access bare_arg bare_cmp bare_sign bare_term bare_and bare_expr bare_post bare_prod bare_sum y))
unfolding expr_bound and_bound cmp_bound sum_bound prod_bound sign_bound post_bound access_read term_read arg_bound bare_access bare_arg bare_cmp bare_sign bare_term bare_and bare_expr bare_post bare_prod bare_sum opened closed
of-sum y scope spot =
    let more : List (SumSign × Binds) = map {B = SumSign × Binds} (λ (l : SumSign × Prod). (l.0, prod_bound l.1)) (map {B = SumSign × Prod} (λ (l : SumSign × GivenProd). (l.0, bare_prod l.1)) y.more) in
    let start : Outcome Chained = prod_bound y.first.0 scope (first_spot more spot) >>= λ t. Ok (chained_from t) in
    let whole : Outcome Chained = fold (λ (before : Outcome Chained) (l : SumSign × Binds). before >>= λ b. l.1 scope (inside spot.position) >>= λ t. linked (sum_sign l.0.op) l.0.place b t) start more in
    subst (λ (r : Outcome Typed). Tells r) (sym (sum-rolled (map-Sum GivenAccess GivenArg GivenCmp GivenSign GivenTerm GivenAnd GivenExpr GivenPost GivenProd GivenSum Access Arg Cmp Sign Term And Expr Post Prod Sum bare_access bare_arg bare_cmp bare_sign bare_term bare_and bare_expr bare_post bare_prod bare_sum y) scope spot))
    (told-then whole (λ (c : Chained). Ok (chain_whole c))
    (told-fold (λ (l : SumSign × Binds) (b : Chained) (t : Typed). linked (sum_sign l.0.op) l.0.place b t) (λ (l : SumSign × Binds). l.1 scope (inside spot.position)) (λ l b t. told-link (sum_sign l.0.op) l.0.place b t) start
    (told-then (prod_bound y.first.0 scope (first_spot more spot)) (λ (t : Typed). Ok (chained_from t)) (y.first.1 scope (first_spot more spot)) (λ t. told-ok (chained_from t)))
    more (each-prods scope (inside spot.position) y.more))
    (λ c. told-ok (chain_whole c)))

of-prod : (y : Prod-F GivenAccess GivenArg GivenCmp GivenSign GivenTerm GivenAnd GivenExpr GivenPost GivenProd GivenSum) → TellsProd (roll-Prod (map-Prod GivenAccess GivenArg GivenCmp GivenSign GivenTerm GivenAnd GivenExpr GivenPost GivenProd GivenSum Access Arg Cmp Sign Term And Expr Post Prod Sum bare_access bare_arg bare_cmp bare_sign bare_term bare_and bare_expr bare_post bare_prod bare_sum y))
unfolding expr_bound and_bound cmp_bound sum_bound prod_bound sign_bound post_bound access_read term_read arg_bound bare_access bare_arg bare_cmp bare_sign bare_term bare_and bare_expr bare_post bare_prod bare_sum opened closed
of-prod y scope spot =
    let more : List (ProdSign × Binds) = map {B = ProdSign × Binds} (λ (l : ProdSign × Sign). (l.0, sign_bound l.1)) (map {B = ProdSign × Sign} (λ (l : ProdSign × GivenSign). (l.0, bare_sign l.1)) y.more) in
    let start : Outcome Chained = sign_bound y.first.0 scope (first_spot more spot) >>= λ t. Ok (chained_from t) in
    let whole : Outcome Chained = fold (λ (before : Outcome Chained) (l : ProdSign × Binds). before >>= λ b. l.1 scope (inside spot.position) >>= λ t. linked (prod_sign l.0.op) l.0.place b t) start more in
    subst (λ (r : Outcome Typed). Tells r) (sym (prod-rolled (map-Prod GivenAccess GivenArg GivenCmp GivenSign GivenTerm GivenAnd GivenExpr GivenPost GivenProd GivenSum Access Arg Cmp Sign Term And Expr Post Prod Sum bare_access bare_arg bare_cmp bare_sign bare_term bare_and bare_expr bare_post bare_prod bare_sum y) scope spot))
    (told-then whole (λ (c : Chained). Ok (chain_whole c))
    (told-fold (λ (l : ProdSign × Binds) (b : Chained) (t : Typed). linked (prod_sign l.0.op) l.0.place b t) (λ (l : ProdSign × Binds). l.1 scope (inside spot.position)) (λ l b t. told-link (prod_sign l.0.op) l.0.place b t) start
    (told-then (sign_bound y.first.0 scope (first_spot more spot)) (λ (t : Typed). Ok (chained_from t)) (y.first.1 scope (first_spot more spot)) (λ t. told-ok (chained_from t)))
    more (each-signs scope (inside spot.position) y.more))
    (λ c. told-ok (chain_whole c)))

told-in : (s : GivenSum) (sign : InSign) (es : List GivenExpr) (scope : Scope) (spot : Spot) → Tells (in_node sign (fold (λ (before : Outcome (List Typed)) (e : Binds). before >>= λ ts. e scope (inside spot.position) >>= λ t. Ok (ts ++ t ∷ [])) (operand_link (Ok []) (sum_bound s.0 scope (inside spot.position))) (map expr_bound (map bare_expr es))))
told-in s sign es scope spot =
    let start : Outcome (List Typed) = operand_link (Ok []) (sum_bound s.0 scope (inside spot.position)) in
    told-then (fold (λ (before : Outcome (List Typed)) (e : Binds). before >>= λ ts. e scope (inside spot.position) >>= λ t. Ok (ts ++ t ∷ [])) start (map expr_bound (map bare_expr es))) (λ (ts : List Typed). listed sign ts)
    (told-fold (λ (e : Binds) (ts : List Typed) (t : Typed). Ok (ts ++ t ∷ [])) (λ (e : Binds). e scope (inside spot.position)) (λ e ts t. told-ok (ts ++ t ∷ [])) start
    (told-then (sum_bound s.0 scope (inside spot.position)) (λ (t : Typed). Ok (t ∷ [])) (s.1 scope (inside spot.position)) (λ t. told-ok (t ∷ [])))
    (map expr_bound (map bare_expr es)) (each-exprs scope (inside spot.position) es))
    (λ ts. told-listed sign ts)

told-compare-or-match : (s b : GivenSum) (sign : CompareSign) (scope : Scope) (spot : Spot) (o : Option Func) → Tells (compare_or_match (s.0, sum_bound s.0) sign (b.0, sum_bound b.0) scope spot o)
told-compare-or-match s b sign scope spot None = told-match sign.place scope s.0 b.0
told-compare-or-match s b sign scope spot (Some f) =
    told-then (sum_bound s.0 scope (inside spot.position)) (λ (l : Typed). sum_bound b.0 scope (inside spot.position) >>= λ r. compared f sign l r) (s.1 scope (inside spot.position))
    (λ l. told-then (sum_bound b.0 scope (inside spot.position)) (λ (r : Typed). compared f sign l r) (b.1 scope (inside spot.position)) (λ r. told-compared f sign l r))

of-cmp : (y : Cmp-F GivenAccess GivenArg GivenCmp GivenSign GivenTerm GivenAnd GivenExpr GivenPost GivenProd GivenSum) → TellsCmp (roll-Cmp (map-Cmp GivenAccess GivenArg GivenCmp GivenSign GivenTerm GivenAnd GivenExpr GivenPost GivenProd GivenSum Access Arg Cmp Sign Term And Expr Post Prod Sum bare_access bare_arg bare_cmp bare_sign bare_term bare_and bare_expr bare_post bare_prod bare_sum y))
unfolding expr_bound and_bound cmp_bound sum_bound prod_bound sign_bound post_bound access_read term_read arg_bound bare_access bare_arg bare_cmp bare_sign bare_term bare_and bare_expr bare_post bare_prod bare_sum
of-cmp (Cmp-F.«Cmp::Plain» s) scope spot = subst (λ (r : Outcome Typed). Tells r) (sym (ap (λ (f : Binds). f scope spot) (para-roll-Cmp Look Takes Binds Binds Named Binds Binds Binds Binds Binds access_step arg_step cmp_step sign_step term_step and_step expr_step post_step prod_step sum_step (Cmp-F.«Cmp::Plain» s.0)))) (s.1 scope spot)
of-cmp (Cmp-F.Compared s sign b) scope spot = subst (λ (r : Outcome Typed). Tells r) (sym (ap (λ (f : Binds). f scope spot) (para-roll-Cmp Look Takes Binds Binds Named Binds Binds Binds Binds Binds access_step arg_step cmp_step sign_step term_step and_step expr_step post_step prod_step sum_step (Cmp-F.Compared s.0 sign b.0)))) (told-compare-or-match s b sign scope spot (compare_func sign.op))
of-cmp (Cmp-F.In s sign es) scope spot = subst (λ (r : Outcome Typed). Tells r) (sym (in-rolled s.0 sign (map bare_expr es) scope spot)) (told-in s sign es scope spot)
of-cmp (Cmp-F.Between s sign bounds) scope spot = subst (λ (r : Outcome Typed). Tells r) (sym (ap (λ (f : Binds). f scope spot) (para-roll-Cmp Look Takes Binds Binds Named Binds Binds Binds Binds Binds access_step arg_step cmp_step sign_step term_step and_step expr_step post_step prod_step sum_step (Cmp-F.Between s.0 sign (bounds.0.0, bounds.1.0))))) (told-then (sum_bound s.0 scope (inside spot.position)) (λ (x : Typed). sum_bound bounds.0.0 scope (inside spot.position) >>= λ a. sum_bound bounds.1.0 scope (inside spot.position) >>= λ b. bounded sign x a b) (s.1 scope (inside spot.position)) (λ x. told-then (sum_bound bounds.0.0 scope (inside spot.position)) (λ (a : Typed). sum_bound bounds.1.0 scope (inside spot.position) >>= λ b. bounded sign x a b) (bounds.0.1 scope (inside spot.position)) (λ a. told-then (sum_bound bounds.1.0 scope (inside spot.position)) (λ (b : Typed). bounded sign x a b) (bounds.1.1 scope (inside spot.position)) (λ b. told-bounded sign x a b))))

of-sign : (y : Sign-F GivenAccess GivenArg GivenCmp GivenSign GivenTerm GivenAnd GivenExpr GivenPost GivenProd GivenSum) → TellsSign (roll-Sign (map-Sign GivenAccess GivenArg GivenCmp GivenSign GivenTerm GivenAnd GivenExpr GivenPost GivenProd GivenSum Access Arg Cmp Sign Term And Expr Post Prod Sum bare_access bare_arg bare_cmp bare_sign bare_term bare_and bare_expr bare_post bare_prod bare_sum y))
unfolding expr_bound and_bound cmp_bound sum_bound prod_bound sign_bound post_bound access_read term_read arg_bound bare_access bare_arg bare_cmp bare_sign bare_term bare_and bare_expr bare_post bare_prod bare_sum
of-sign (Sign-F.«Sign::Plain» p) scope spot = subst (λ (r : Outcome Typed). Tells r) (sym (ap (λ (f : Binds). f scope spot) (para-roll-Sign Look Takes Binds Binds Named Binds Binds Binds Binds Binds access_step arg_step cmp_step sign_step term_step and_step expr_step post_step prod_step sum_step (Sign-F.«Sign::Plain» p.0)))) (p.1 scope spot)
of-sign (Sign-F.Minus place p) scope spot = subst (λ (r : Outcome Typed). Tells r) (sym (ap (λ (f : Binds). f scope spot) (para-roll-Sign Look Takes Binds Binds Named Binds Binds Binds Binds Binds access_step arg_step cmp_step sign_step term_step and_step expr_step post_step prod_step sum_step (Sign-F.Minus place p.0)))) (told-then (post_bound p.0 scope (inside spot.position)) (λ (t : Typed). negated place t) (p.1 scope (inside spot.position)) (λ t. told-negated place t))

of-access : (y : Access-F GivenAccess GivenArg GivenCmp GivenSign GivenTerm GivenAnd GivenExpr GivenPost GivenProd GivenSum) → TellsAccess (roll-Access (map-Access GivenAccess GivenArg GivenCmp GivenSign GivenTerm GivenAnd GivenExpr GivenPost GivenProd GivenSum Access Arg Cmp Sign Term And Expr Post Prod Sum bare_access bare_arg bare_cmp bare_sign bare_term bare_and bare_expr bare_post bare_prod bare_sum y))
unfolding expr_bound and_bound cmp_bound sum_bound prod_bound sign_bound post_bound access_read term_read arg_bound bare_access bare_arg bare_cmp bare_sign bare_term bare_and bare_expr bare_post bare_prod bare_sum
of-access (Access-F.Entry place w) scope at = subst (λ (r : Outcome Typed). Tells r) (sym (ap (λ (l : Look). l.key scope at) (para-roll-Access Look Takes Binds Binds Named Binds Binds Binds Binds Binds access_step arg_step cmp_step sign_step term_step and_step expr_step post_step prod_step sum_step (Access-F.Entry place w)))) (told-ok (entry_key w))
of-access (Access-F.Element place e) scope at = subst (λ (r : Outcome Typed). Tells r) (sym (ap (λ (l : Look). l.key scope at) (para-roll-Access Look Takes Binds Binds Named Binds Binds Binds Binds Binds access_step arg_step cmp_step sign_step term_step and_step expr_step post_step prod_step sum_step (Access-F.Element place e.0)))) (e.1 scope (inside at))

of-arg : (y : Arg-F GivenAccess GivenArg GivenCmp GivenSign GivenTerm GivenAnd GivenExpr GivenPost GivenProd GivenSum) → TellsArg (roll-Arg (map-Arg GivenAccess GivenArg GivenCmp GivenSign GivenTerm GivenAnd GivenExpr GivenPost GivenProd GivenSum Access Arg Cmp Sign Term And Expr Post Prod Sum bare_access bare_arg bare_cmp bare_sign bare_term bare_and bare_expr bare_post bare_prod bare_sum y))
unfolding expr_bound and_bound cmp_bound sum_bound prod_bound sign_bound post_bound access_read term_read arg_bound bare_access bare_arg bare_cmp bare_sign bare_term bare_and bare_expr bare_post bare_prod bare_sum plain_arg
of-arg (Arg-F.«Arg::Plain» e) scope at = subst (λ (r : Outcome (Option Typed)). Tells r) (sym (ap (λ (f : Takes). f scope at) (para-roll-Arg Look Takes Binds Binds Named Binds Binds Binds Binds Binds access_step arg_step cmp_step sign_step term_step and_step expr_step post_step prod_step sum_step (Arg-F.«Arg::Plain» e.0)))) (told-then (expr_bound e.0 scope (inside at)) (λ (x : Typed). Ok (Some x)) (e.1 scope (inside at)) (λ x. told-ok (Some x)))
of-arg (Arg-F.Star place) scope at = subst (λ (r : Outcome (Option Typed)). Tells r) (sym (ap (λ (f : Takes). f scope at) (para-roll-Arg Look Takes Binds Binds Named Binds Binds Binds Binds Binds access_step arg_step cmp_step sign_step term_step and_step expr_step post_step prod_step sum_step (Arg-F.Star place)))) (told-ok None)

told-args : (scope : Scope) (first next : Slot) (gs : List GivenArg) → Tells (args_taken scope first next (map arg_bound (map bare_arg gs)))
unfolding bare_arg
told-args scope first next [] = told-ok no_args
told-args scope first next (g ∷ gs) =
    told-fold (λ (a : Takes) (b : Args) (t : Option Typed). Ok (taken scope next b t)) (λ (a : Takes). a scope next.position) (λ a b t. told-ok (taken scope next b t)) (arg_link scope first (Ok no_args) (arg_bound g.0 scope first.position))
    (told-then (arg_bound g.0 scope first.position) (λ (t : Option Typed). Ok (taken scope first no_args t)) (g.1 scope first.position) (λ t. told-ok (taken scope first no_args t)))
    (map arg_bound (map bare_arg gs)) (each-args scope next.position gs)

told-call-taken : (w : Word) (gs : List GivenArg) (scope : Scope) (spot : Spot) → Tells (call_taken w (map arg_bound (map bare_arg gs)) scope spot)
told-call-taken w gs scope spot =
    let first : Slot = first_slot (found_as w.text) spot.position in
    let next : Slot = next_slot (found_as w.text) spot.position in
    told-then (args_taken scope first next (map arg_bound (map bare_arg gs))) (λ (a : Args). found_call w scope spot a (found_as w.text)) (told-args scope first next gs) (λ a. told-found w scope spot a (found_as w.text))

told-call-or : (w : Word) (gs : List GivenArg) (scope : Scope) (spot : Spot) (b : Bool) → Tells (call_or_extract w (map bare_arg gs) (map arg_bound (map bare_arg gs)) scope spot b)
told-call-or w gs scope spot true = told-extract w.place scope (map bare_arg gs)
told-call-or w gs scope spot false = told-call-taken w gs scope spot

told-call-bound : (w : Word) (gs : List GivenArg) (scope : Scope) (spot : Spot) → Tells (call_bound w (map bare_arg gs) (map arg_bound (map bare_arg gs)) scope spot)
told-call-bound w gs scope spot = told-call-or w gs scope spot (is_extract (found_as w.text))

of-term : (y : Term-F GivenAccess GivenArg GivenCmp GivenSign GivenTerm GivenAnd GivenExpr GivenPost GivenProd GivenSum) → TellsTerm (roll-Term (map-Term GivenAccess GivenArg GivenCmp GivenSign GivenTerm GivenAnd GivenExpr GivenPost GivenProd GivenSum Access Arg Cmp Sign Term And Expr Post Prod Sum bare_access bare_arg bare_cmp bare_sign bare_term bare_and bare_expr bare_post bare_prod bare_sum y))
unfolding expr_bound and_bound cmp_bound sum_bound prod_bound sign_bound post_bound access_read term_read arg_bound bare_access bare_arg bare_cmp bare_sign bare_term bare_and bare_expr bare_post bare_prod bare_sum
of-term (Term-F.Literal l) scope spot = subst (λ (r : Outcome Typed). Tells r) (sym (ap (λ (n : Named). n.bound scope spot) (para-roll-Term Look Takes Binds Binds Named Binds Binds Binds Binds Binds access_step arg_step cmp_step sign_step term_step and_step expr_step post_step prod_step sum_step (Term-F.Literal l)))) (told-literal l)
of-term (Term-F.Name n) scope spot = subst (λ (r : Outcome Typed). Tells r) (sym (ap (λ (n : Named). n.bound scope spot) (para-roll-Term Look Takes Binds Binds Named Binds Binds Binds Binds Binds access_step arg_step cmp_step sign_step term_step and_step expr_step post_step prod_step sum_step (Term-F.Name n)))) (told-name n scope)
of-term (Term-F.Call w args) scope spot = subst (λ (r : Outcome Typed). Tells r) (sym (ap (λ (n : Named). n.bound scope spot) (call-rolled w (map bare_arg args)))) (told-call-bound w args scope spot)
of-term (Term-F.Group place e) scope spot = subst (λ (r : Outcome Typed). Tells r) (sym (ap (λ (n : Named). n.bound scope spot) (para-roll-Term Look Takes Binds Binds Named Binds Binds Binds Binds Binds access_step arg_step cmp_step sign_step term_step and_step expr_step post_step prod_step sum_step (Term-F.Group place e.0)))) (e.1 scope spot)

told-path : (scope : Scope) (at : Position) (first : Outcome Typed) → Tells first → (ls : List Look) → Each (λ (l : Look). l.key scope at) ls → Tells (path_of scope at first ls)
unfolding path_opened path_closed
told-path scope at first h ls each =
    let start : Outcome Looked = first >>= λ t. Ok (looked_from t) in
    told-then (fold (λ (before : Outcome Looked) (l : Look). before >>= λ p. l.key scope at >>= λ k. with_look l.place p k) start ls) (λ (p : Looked). Ok (looked_whole p))
    (told-fold (λ (l : Look) (p : Looked) (k : Typed). with_look l.place p k) (λ (l : Look). l.key scope at) (λ l p k. told-look l.place p k) start (told-then first (λ (t : Typed). Ok (looked_from t)) h (λ t. told-ok (looked_from t))) ls each)
    (λ p. told-ok (looked_whole p))

told-from : (first : Binds) → ((scope : Scope) (spot : Spot) → Tells (first scope spot)) → (scope : Scope) (spot : Spot) (l : Look) (looks : List Look) → Each (λ (k : Look). k.key scope spot.position) (l ∷ looks) → (i : Option ℕ) (w : Option Word) → Tells (path_from first scope spot l looks i w)
told-from first h scope spot l looks each (Some i) (Some w) = told-path scope spot.position (step_bound scope.steps i w) (told-step scope.steps i w) looks each.1
told-from first h scope spot l looks each (Some i) None = told-path scope spot.position (first scope (inside spot.position)) (h scope (inside spot.position)) (l ∷ looks) each
told-from first h scope spot l looks each None w = told-path scope spot.position (first scope (inside spot.position)) (h scope (inside spot.position)) (l ∷ looks) each

told-post : (first : Named) → ((scope : Scope) (spot : Spot) → Tells (first.bound scope spot)) → (scope : Scope) (spot : Spot) (looks : List Look) → Each (λ (k : Look). k.key scope spot.position) looks → Tells (post_of first looks scope spot)
told-post first h scope spot [] each = h scope spot
told-post first h scope spot (l ∷ looks) each = told-from first.bound h scope spot l looks each (step_named scope.steps first.name) l.entry

of-post : (y : Post-F GivenAccess GivenArg GivenCmp GivenSign GivenTerm GivenAnd GivenExpr GivenPost GivenProd GivenSum) → TellsPost (roll-Post (map-Post GivenAccess GivenArg GivenCmp GivenSign GivenTerm GivenAnd GivenExpr GivenPost GivenProd GivenSum Access Arg Cmp Sign Term And Expr Post Prod Sum bare_access bare_arg bare_cmp bare_sign bare_term bare_and bare_expr bare_post bare_prod bare_sum y))
unfolding expr_bound and_bound cmp_bound sum_bound prod_bound sign_bound post_bound access_read term_read arg_bound bare_access bare_arg bare_cmp bare_sign bare_term bare_and bare_expr bare_post bare_prod bare_sum
of-post y scope spot = subst (λ (r : Outcome Typed). Tells r) (sym (post-rolled (map-Post GivenAccess GivenArg GivenCmp GivenSign GivenTerm GivenAnd GivenExpr GivenPost GivenProd GivenSum Access Arg Cmp Sign Term And Expr Post Prod Sum bare_access bare_arg bare_cmp bare_sign bare_term bare_and bare_expr bare_post bare_prod bare_sum y) scope spot))
    (told-post (term_read y.first.0) y.first.1 scope spot (map access_read (map bare_access y.more)) (each-looks scope spot.position y.more))

-- The whole.

every-expr : (e : Expr) → TellsExpr e
unfolding bare_expr bare_sum bare_post bare_arg bare_cmp bare_and bare_term bare_access bare_sign bare_prod
every-expr = ind-Expr TellsAccess TellsArg TellsCmp TellsSign TellsTerm TellsAnd TellsExpr TellsPost TellsProd TellsSum
    (λ x y is. subst (λ (z : Access-F Access Arg Cmp Sign Term And Expr Post Prod Sum). TellsAccess (roll-Access z)) is (of-access y))
    (λ x y is. subst (λ (z : Arg-F Access Arg Cmp Sign Term And Expr Post Prod Sum). TellsArg (roll-Arg z)) is (of-arg y))
    (λ x y is. subst (λ (z : Cmp-F Access Arg Cmp Sign Term And Expr Post Prod Sum). TellsCmp (roll-Cmp z)) is (of-cmp y))
    (λ x y is. subst (λ (z : Sign-F Access Arg Cmp Sign Term And Expr Post Prod Sum). TellsSign (roll-Sign z)) is (of-sign y))
    (λ x y is. subst (λ (z : Term-F Access Arg Cmp Sign Term And Expr Post Prod Sum). TellsTerm (roll-Term z)) is (of-term y))
    (λ x y is. subst (λ (z : And-F Access Arg Cmp Sign Term And Expr Post Prod Sum). TellsAnd (roll-And z)) is (of-and y))
    (λ x y is. subst (λ (z : Expr-F Access Arg Cmp Sign Term And Expr Post Prod Sum). TellsExpr (roll-Expr z)) is (of-expr y))
    (λ x y is. subst (λ (z : Post-F Access Arg Cmp Sign Term And Expr Post Prod Sum). TellsPost (roll-Post z)) is (of-post y))
    (λ x y is. subst (λ (z : Prod-F Access Arg Cmp Sign Term And Expr Post Prod Sum). TellsProd (roll-Prod z)) is (of-prod y))
    (λ x y is. subst (λ (z : Sum-F Access Arg Cmp Sign Term And Expr Post Prod Sum). TellsSum (roll-Sum z)) is (of-sum y))

pub each-told : EachIsTold
unfolding bound_expr
each-told e scope = every-expr e scope (record { position = scope.position; alone = true })

-- What an answer says, its definition tells.
told-answer : (d r : Outcome Typed) (code : ℕ) (place : Place) → Tells d → Answers r d → r ≡ Err (fault.Refused code place) → is_bind_code code ≡ true
told-answer d r code place h a is =
    let same : Answers (Err (fault.Refused code place)) d = subst (λ (x : Outcome Typed). Answers x d) is a in
    let told : Tells (Err (fault.Refused code place)) = subst (λ (x : Outcome Typed). Tells x) same.holds h in
    told.holds

pub code-told : (e : Expr) (scope : Scope) (spot : Spot) (r : Outcome Typed) → Answers r (expr_bound e scope spot) → (code : ℕ) (place : Place) → r ≡ Err (fault.Refused code place) → is_bind_code code ≡ true
code-told e scope spot r a code place is = told-answer (expr_bound e scope spot) r code place (every-expr e scope spot) a is

pub ruleset code_laws = (code-told)

pub ruleset told_laws = (each-told)
