-- The place at which each node of binding tells a fault: its own, or that of its sign.
use Rattle.std.proofs.Common.{ℕ, ℤ, Bool, true, false, not, ◌&&◌, List, [], ◌∷◌, map, refl, subst, inl, inr}
use Rattle.std.specs.Prelude.{Ok, Err, Option, None, Some, fold}
use Rattle.std.specs.List.{flat_map}
use Rattle.kql_cells.specs.declared.value.Kind.{Kind}
use Rattle.kql_cells.specs.declared.value.Value.{Value}
use Rattle.kql_cells.specs.Named.{column_name, place_of}
use Rattle.kql_functions.specs.Kinds.{result_kind}
use Rattle.kql_functions.specs.declared.aggregate.Aggregate.{Aggregate}
use Rattle.kql_functions.specs.declared.func.ArithmeticFunc.TheVariants as arithmetic
use Rattle.kql_functions.specs.declared.func.Func.{Func}
use Rattle.kql_functions.specs.declared.func.Func.TheVariants as func
use Rattle.kql_functions.specs.declared.func.LogicFunc.{LogicFunc}
use Rattle.kql_functions.specs.declared.names.Found.{Found}
use Rattle.kql_functions.specs.declared.names.Found.TheVariants as found
use Rattle.kql_functions.specs.declared.window.Window.{Window}
use Rattle.kql_bound.specs.Signs.{sign_func}
use Rattle.kql_bound.specs.declared.expr.BExpr.{BExpr}
use Rattle.kql_bound.specs.declared.expr.BExpr.TheVariants as V
use Rattle.kql_bound.specs.declared.expr.ChainSign.{ChainSign}
use Rattle.kql_lexer.specs.declared.place.Place.{Place}
use Rattle.kql_meaning.specs.Expressions.{column_kind, look}
use Rattle.kql_meaning.specs.FittingExpressions.{takes_aggregate, takes_window}
use Rattle.kql_meaning.specs.declared.position.Position.{Position}
use Rattle.kql_meaning.proofs.MemberLaws.{Member, member-left, member-right}
use Rattle.kql_syntax.specs.declared.tree.Arg.{Arg}
use Rattle.kql_syntax.specs.declared.tree.BetweenSign.{BetweenSign}
use Rattle.kql_syntax.specs.declared.tree.CompareSign.{CompareSign}
use Rattle.kql_syntax.specs.declared.tree.InSign.{InSign}
use Rattle.kql_syntax.specs.declared.tree.Literal.{Literal}
use Rattle.kql_syntax.specs.declared.tree.Literal.TheVariants as literal
use Rattle.kql_syntax.specs.declared.tree.Name.{Name}
use Rattle.kql_syntax.specs.declared.tree.Name.TheVariants as name
use Rattle.kql_syntax.specs.declared.tree.Sum.{Sum}
use Rattle.kql_syntax.specs.declared.tree.Word.{Word}
use Rattle.typed_literals.specs.Reading.{kind_of_word, trimmed, value_or_null}
use Rattle.bind_expr.specs.AggregateCalls.{aggregate_call, aggregate_given, aggregate_stands, aggregate_taken, aggregate_typed}
use Rattle.bind_expr.specs.Calls.{from_moment, moment_call, moment_call_as, moment_sign, plain_call, plain_call_as, scalar_call, scalar_call_as, takes_args}
use Rattle.bind_expr.specs.Chains.{linked, linked_as}
use Rattle.bind_expr.specs.Comparisons.{among_func, among_kind, between_func, bounded, compared, compared_as, is_of_any_type, listed}
use Rattle.bind_expr.specs.Literals.{literal_bound, read_or_fault, typed_literal, typed_of_kind}
use Rattle.bind_expr.specs.Logic.{joined_as, with_term}
use Rattle.bind_expr.specs.Names.{column_or_const, const_named, const_or_fault, name_bound, text_of, word_bound}
use Rattle.bind_expr.specs.Operands.{all_beside, as_text, beside, common_kind, exprs_of, kinds_of, typed_as, typed_call}
use Rattle.bind_expr.specs.Outcome.{Outcome, ◌>>=◌}
use Rattle.bind_expr.specs.Patterns.{arg_literal, arg_name, extract_bound, extract_of, group_if, is_searchable, match_bound, refused_here, search_of, search_or_refuse, searched, sum_literal, sum_name}
use Rattle.bind_expr.specs.Paths.{looked_as, step_bound, step_or_fault, with_look}
use Rattle.bind_expr.specs.Windows.{window_call, window_forms, window_given, window_serial, window_standing, window_typed}
use Rattle.bind_expr.specs.declared.fault.BindFault.TheVariants as fault
use Rattle.bind_expr.specs.declared.scope.Scope.{Scope}
use Rattle.bind_expr.specs.declared.scope.StepNames.{StepNames}
use Rattle.bind_expr.specs.declared.typed.Typed.{Typed}
use Rattle.bind_expr.specs.Bound.{found_call, negated}
use Rattle.bind_expr_laws.proofs.Shapes.{Args, Chained, Joined, Looked, Spot}
use Rattle.bind_expr_laws.specs.Places.{Places, literal_place, name_place}

-- Values, refusals, and steps.

-- A value, or a refusal at one of these places, or want of memory.
abbrev told_in : {X : Type 0} → Places → Outcome X → Type 0
told_in ps (Ok x) = Unit {0}
told_in ps (Err (fault.Refused code place)) = Member place ps
told_in ps (Err fault.OutOfMemory) = Unit {0}

pub record ToldIn {X : Type 0} (ps : Places) (r : Outcome X) : Type 0 where
  pub holds : told_in ps r

-- Places that are all among others.
abbrev pub Within : Places → Places → Type 0
Within ps qs = (p : Place) → Member p ps → Member p qs

pub told-ok : {X : Type 0} (ps : Places) (x : X) → ToldIn ps (Ok x)
told-ok ps x = record { holds = tt }

told-at : {X : Type 0} (code : ℕ) (place : Place) → ToldIn {X = X} (place ∷ []) (Err (fault.Refused code place))
told-at code place = record { holds = inl refl }

pub told-wide : {X : Type 0} (ps qs : Places) (r : Outcome X) → Within ps qs → ToldIn ps r → ToldIn qs r
told-wide ps qs (Ok x) w h = record { holds = tt }
told-wide ps qs (Err (fault.Refused code place)) w h = record { holds = w place h.holds }
told-wide ps qs (Err fault.OutOfMemory) w h = record { holds = tt }

pub told-then : {X Y : Type 0} (ps : Places) (r : Outcome X) (k : X → Outcome Y) → ToldIn ps r → ((x : X) → ToldIn ps (k x)) → ToldIn ps (r >>= k)
told-then ps (Ok x) k h t = t x
told-then ps (Err (fault.Refused code place)) k h t = record { holds = h.holds }
told-then ps (Err fault.OutOfMemory) k h t = record { holds = tt }

-- One place is among those where it stands.
pub of-one : (place : Place) (qs : Places) → Member place qs → Within (place ∷ []) qs
of-one place qs m p (inl e) = subst (λ (q : Place). Member q qs) e m
of-one place qs m p (inr n) = absurd n

-- A node that tells its faults at one of these places.
pub told-one : {X : Type 0} (place : Place) (qs : Places) (r : Outcome X) → Member place qs → ToldIn (place ∷ []) r → ToldIn qs r
told-one place qs r m h = told-wide (place ∷ []) qs r (of-one place qs m) h

-- The nodes.

told-typed : (place : Place) (e : BExpr) (o : Option Kind) → ToldIn (place ∷ []) (typed_as place e o)
told-typed place e None = told-at 404 place
told-typed place e (Some k) = record { holds = tt }

told-call : (place : Place) (f : Func) (es : List BExpr) (ks : List Kind) → ToldIn (place ∷ []) (typed_call place f es ks)
unfolding typed_call
told-call place f es ks = told-typed place (V.Call f es) (result_kind f ks)

told-link-as : (sign : ChainSign) (place : Place) (first : BExpr) (links : List (ChainSign × BExpr)) (right : BExpr) (o : Option Kind) → ToldIn (place ∷ []) (linked_as sign place first links right o)
told-link-as sign place first links right None = told-at 404 place
told-link-as sign place first links right (Some k) = record { holds = tt }

pub told-link : (sign : ChainSign) (place : Place) (left : Chained) (right : Typed) → ToldIn (place ∷ []) (linked sign place left right)
unfolding linked
told-link sign place left right =
    let l : Typed = beside (record { expr = left.first; kind = left.kind }) right.kind in
    let r : Typed = beside right left.kind in
    told-link-as sign place l.expr left.links r.expr (result_kind (sign_func sign) (l.kind ∷ r.kind ∷ []))

told-term-as : (place : Place) (first : BExpr) (others : List BExpr) (right : BExpr) (o : Option Kind) → ToldIn (place ∷ []) (joined_as place first others right o)
told-term-as place first others right None = told-at 404 place
told-term-as place first others right (Some k) = record { holds = tt }

pub told-term : (f : LogicFunc) (place : Place) (left : Joined) (right : Typed) → ToldIn (place ∷ []) (with_term f place left right)
unfolding with_term
told-term f place left right =
    let l : Typed = beside (record { expr = left.first; kind = left.kind }) right.kind in
    let r : Typed = beside right left.kind in
    told-term-as place l.expr left.others r.expr (result_kind (func.Logic f) (l.kind ∷ r.kind ∷ []))

told-look-as : (place : Place) (whole : BExpr) (steps : List BExpr) (key : BExpr) (o : Option Kind) → ToldIn (place ∷ []) (looked_as place whole steps key o)
told-look-as place whole steps key None = told-at 404 place
told-look-as place whole steps key (Some k) = record { holds = tt }

pub told-look : (place : Place) (l : Looked) (key : Typed) → ToldIn (place ∷ []) (with_look place l key)
unfolding with_look
told-look place l key = told-look-as place l.whole l.steps key.expr (result_kind look (l.kind ∷ key.kind ∷ []))

told-compared-as : (f : Func) (sign : CompareSign) (l r : Typed) (b : Bool) → ToldIn (sign.place ∷ []) (compared_as f sign l r b)
told-compared-as f sign l r true = told-call sign.place f (exprs_of (beside l r.kind ∷ beside r l.kind ∷ [])) (kinds_of (beside l r.kind ∷ beside r l.kind ∷ []))
told-compared-as f sign l r false = told-call sign.place f (exprs_of (as_text l ∷ as_text r ∷ [])) (kinds_of (as_text l ∷ as_text r ∷ []))

pub told-compared : (f : Func) (sign : CompareSign) (l r : Typed) → ToldIn (sign.place ∷ []) (compared f sign l r)
unfolding compared
told-compared f sign l r = told-compared-as f sign l r (is_of_any_type sign.op)

pub told-listed : (sign : InSign) (ts : List Typed) → ToldIn (sign.place ∷ []) (listed sign ts)
unfolding listed
told-listed sign ts =
    let all : List Typed = all_beside (among_kind sign.op (kinds_of ts)) ts in
    told-call sign.place (among_func sign.op) (exprs_of all) (kinds_of all)

pub told-bounded : (sign : BetweenSign) (x a b : Typed) → ToldIn (sign.place ∷ []) (bounded sign x a b)
unfolding bounded
told-bounded sign x a b =
    let k : Kind = common_kind (x.kind ∷ a.kind ∷ b.kind ∷ []) in
    let all : List Typed = beside x k ∷ beside a k ∷ beside b k ∷ [] in
    told-call sign.place (between_func sign.op) (exprs_of all) (kinds_of all)

pub told-negated : (place : Place) (t : Typed) → ToldIn (place ∷ []) (negated place t)
unfolding negated
told-negated place t = told-call place (func.Arithmetic arithmetic.Negate) (t.expr ∷ []) (t.kind ∷ [])

-- Terms.

told-read : (place : Place) (k : Kind) (o : Option Value) → ToldIn (place ∷ []) (read_or_fault place k o)
told-read place k None = told-at 418 place
told-read place k (Some v) = record { holds = tt }

told-of-kind : (place : Place) (t : List ℕ) (o : Option Kind) → ToldIn (place ∷ []) (typed_of_kind place t o)
told-of-kind place t None = told-at 405 place
told-of-kind place t (Some k) = told-read place k (value_or_null k (trimmed t))

pub told-literal : (l : Literal) → ToldIn (literal_place l ∷ []) (literal_bound l)
unfolding literal_bound typed_literal
told-literal (literal.Number place n) = record { holds = tt }
told-literal (literal.Span place n) = record { holds = tt }
told-literal (literal.Text place text) = record { holds = tt }
told-literal (literal.True place) = record { holds = tt }
told-literal (literal.False place) = record { holds = tt }
told-literal (literal.Typed place w text) = told-of-kind place text (kind_of_word w)

told-const : (place : Place) (o : Option Typed) → ToldIn (place ∷ []) (const_or_fault place o)
told-const place (Some t) = record { holds = tt }
told-const place None = told-at 401 place

told-column : (place : Place) (n : List ℕ) (c : Option Typed) (k : Option Kind) → ToldIn (place ∷ []) (column_or_const place n c k)
told-column place n c (Some k) = record { holds = tt }
told-column place n c None = told-const place c

pub told-name : (n : Name) (scope : Scope) → ToldIn (name_place n ∷ []) (name_bound n scope)
unfolding name_bound word_bound
told-name (name.Bare w) scope = told-column w.place w.text (const_named w.text scope.consts) (column_kind w.text scope.schema)
told-name (name.Quoted place n) scope = told-column place n (const_named n scope.consts) (column_kind n scope.schema)

told-step-as : (steps : StepNames) (i : ℕ) (place : Place) (o : Option ℕ) → ToldIn (place ∷ []) (step_or_fault steps i place o)
told-step-as steps i place None = told-at 401 place
told-step-as steps i place (Some p) = record { holds = tt }

pub told-step : (steps : StepNames) (i : ℕ) (w : Word) → ToldIn (w.place ∷ []) (step_bound steps i w)
unfolding step_bound
told-step steps i w = told-step-as steps i w.place (place_of column_name w.text steps.columns)

-- Calls.

told-plain-as : (place : Place) (f : Func) (a : Args) (b : Bool) → ToldIn (place ∷ []) (plain_call_as place f a b)
told-plain-as place f a true = told-call place f a.exprs a.kinds
told-plain-as place f a false = told-at 403 place

told-plain : (place : Place) (f : Func) (a : Args) → ToldIn (place ∷ []) (plain_call place f a)
unfolding plain_call
told-plain place f a = told-plain-as place f a (takes_args f a)

told-moment-as : (place : Place) (f : Func) (sign : ChainSign) (m : ℤ) (a : Args) (b : Bool) → ToldIn (place ∷ []) (moment_call_as place f sign m a b)
told-moment-as place f sign m a true = told-typed place (from_moment sign m a.exprs) (result_kind f a.kinds)
told-moment-as place f sign m a false = told-at 403 place

told-moment : (place : Place) (f : Func) (sign : ChainSign) (a : Args) (m : Option ℤ) → ToldIn (place ∷ []) (moment_call place f sign a m)
told-moment place f sign a None = told-at 409 place
told-moment place f sign a (Some m) = told-moment-as place f sign m a (takes_args f a)

told-scalar-as : (place : Place) (f : Func) (a : Args) (m : Option ℤ) (s : Option ChainSign) → ToldIn (place ∷ []) (scalar_call_as place f a m s)
told-scalar-as place f a m None = told-plain place f a
told-scalar-as place f a m (Some s) = told-moment place f s a m

told-scalar : (place : Place) (f : Func) (a : Args) (m : Option ℤ) → ToldIn (place ∷ []) (scalar_call place f a m)
unfolding scalar_call
told-scalar place f a m = told-scalar-as place f a m (moment_sign f)

told-window-typed : (place : Place) (f : Window) (a : Args) (b : Bool) → ToldIn (place ∷ []) (window_typed place f a b)
told-window-typed place f a true = told-typed place (V.Window f a.exprs) (window_given f a.kinds)
told-window-typed place f a false = told-at 403 place

told-window-serial : (place : Place) (f : Window) (a : Args) (b : Bool) → ToldIn (place ∷ []) (window_serial place f a b)
told-window-serial place f a true = told-window-typed place f a (not a.has_stray && window_forms f a.exprs)
told-window-serial place f a false = told-at 407 place

told-window-standing : (place : Place) (f : Window) (a : Args) (scope : Scope) (b : Bool) → ToldIn (place ∷ []) (window_standing place f a scope b)
told-window-standing place f a scope true = told-window-serial place f a scope.serial
told-window-standing place f a scope false = told-at 408 place

told-window : (place : Place) (f : Window) (a : Args) (scope : Scope) (at : Position) → ToldIn (place ∷ []) (window_call place f a scope at)
unfolding window_call
told-window place f a scope at = told-window-standing place f a scope (takes_window at f)

told-aggregate-typed : (place : Place) (f : Aggregate) (a : Args) (b : Bool) → ToldIn (place ∷ []) (aggregate_typed place f a b)
told-aggregate-typed place f a true = told-typed place (V.Aggregate f a.exprs) (aggregate_given f a.kinds)
told-aggregate-typed place f a false = told-at 403 place

told-aggregate-taken : (place : Place) (f : Aggregate) (a : Args) (spot : Spot) (b : Bool) → ToldIn (place ∷ []) (aggregate_taken place f a spot b)
told-aggregate-taken place f a spot true = told-aggregate-typed place f a (aggregate_stands f a spot)
told-aggregate-taken place f a spot false = told-at 402 place

told-aggregate : (place : Place) (f : Aggregate) (a : Args) (spot : Spot) → ToldIn (place ∷ []) (aggregate_call place f a spot)
unfolding aggregate_call
told-aggregate place f a spot = told-aggregate-taken place f a spot (takes_aggregate spot.position f)

pub told-found : (w : Word) (scope : Scope) (spot : Spot) (a : Args) (f : Found) → ToldIn (w.place ∷ []) (found_call w scope spot a f)
unfolding found_call
told-found w scope spot a found.Unknown = told-at 402 w.place
told-found w scope spot a found.Pattern = told-at 420 w.place
told-found w scope spot a found.Refused = told-at 406 w.place
told-found w scope spot a (found.Scalar f) = told-scalar w.place f a scope.moment
told-found w scope spot a (found.Window f) = told-window w.place f a scope spot.position
told-found w scope spot a (found.Aggregate f) = told-aggregate w.place f a spot

-- Calls of patterns.

told-here : (word : Place) → ToldIn (word ∷ []) (refused_here word)
unfolding refused_here
told-here word = told-at 420 word

told-search-or : (word : Place) (g : Option ℕ) (c : List ℕ) (place : Place) (text : List ℕ) (b : Bool) → ToldIn (word ∷ []) (search_or_refuse word g c place text b)
told-search-or word g c place text true = told-call word _ _ _
told-search-or word g c place text false = told-here word

told-searched : (word : Place) (g : Option ℕ) (scope : Scope) (c : List ℕ) (l : Literal) → ToldIn (word ∷ []) (searched word g scope c l)
unfolding searched
told-searched word g scope c (literal.Text place text) = told-search-or word g c place text (is_searchable scope c)
told-searched word g scope c (literal.Number place n) = told-here word
told-searched word g scope c (literal.Span place n) = told-here word
told-searched word g scope c (literal.True place) = told-here word
told-searched word g scope c (literal.False place) = told-here word
told-searched word g scope c (literal.Typed place w text) = told-here word

told-search : (word : Place) (g : Option ℕ) (scope : Scope) (n : Option Name) (l : Option Literal) → ToldIn (word ∷ []) (search_of word g scope n l)
told-search word g scope (Some n) (Some l) = told-searched word g scope (text_of n) l
told-search word g scope (Some n) None = told-here word
told-search word g scope None l = told-here word

pub told-match : (word : Place) (scope : Scope) (c p : Sum) → ToldIn (word ∷ []) (match_bound word scope c p)
unfolding match_bound
told-match word scope c p = told-search word None scope (sum_name c) (sum_literal p)

told-extract-of : (word : Place) (scope : Scope) (l : Option Literal) (g : Option ℕ) (n : Option Name) → ToldIn (word ∷ []) (extract_of word scope l g n)
told-extract-of word scope l None n = told-here word
told-extract-of word scope l (Some g) n = told-search word (Some g) scope n l

pub told-extract : (word : Place) (scope : Scope) (args : List Arg) → ToldIn (word ∷ []) (extract_bound word scope args)
unfolding extract_bound
told-extract word scope [] = told-here word
told-extract word scope (p ∷ []) = told-here word
told-extract word scope (p ∷ n ∷ []) = told-here word
told-extract word scope (p ∷ n ∷ c ∷ []) = told-extract-of word scope (arg_literal p) (group_if (arg_literal n)) (arg_name c)
told-extract word scope (p ∷ n ∷ c ∷ d ∷ more) = told-here word

-- Lists of parts.

-- Each of these parts, and what is made of it, tells its faults at one of these places.
abbrev pub Each : {L B X : Type 0} → Places → (L → B → X → Outcome B) → (L → Outcome X) → List L → Type 0
Each ps f part [] = Unit {0}
Each {B = B} {X = X} ps f part (l ∷ ls) = ToldIn ps (part l) × ((b : B) (x : X) → ToldIn ps (f l b x)) × Each ps f part ls

pub told-fold : {L B X : Type 0} (ps : Places) (f : L → B → X → Outcome B) (part : L → Outcome X) (start : Outcome B) → ToldIn ps start → (ls : List L) → Each ps f part ls → ToldIn ps (fold (λ (before : Outcome B) (l : L). before >>= λ b. part l >>= λ x. f l b x) start ls)
told-fold ps f part start h [] each = h
told-fold {B = B} ps f part start h (l ∷ ls) each =
    told-fold ps f part (start >>= λ b. part l >>= λ x. f l b x) (told-then ps start (λ b. part l >>= λ x. f l b x) h (λ b. told-then ps (part l) (λ x. f l b x) each.0 (λ x. each.1 b x))) ls each.2

-- Parts that tell their faults at their own places tell them at those of all.
pub each-of : {G Y Z V B X : Type 0} (qs : Places) (bare : G → Y) (bound : Y → Z) (places : Y → V) (own : V → Places) (f : Z → B → X → Outcome B) (part : Z → Outcome X) → ((g : G) → ToldIn (own (places (bare g))) (part (bound (bare g)))) → ((g : G) (b : B) (x : X) → ToldIn (own (places (bare g))) (f (bound (bare g)) b x)) → (gs : List G) → Within (flat_map own (map places (map bare gs))) qs → Each qs f part (map bound (map bare gs))
each-of qs bare bound places own f part one made [] wide = tt
each-of qs bare bound places own f part one made (g ∷ gs) wide =
    let ps : Places = own (places (bare g)) in
    let others : Places = flat_map own (map places (map bare gs)) in
    let first : Within ps qs = λ p m. wide p (member-left ps others p m) in (
      told-wide ps qs (part (bound (bare g))) first (one g),
      (λ b x. told-wide ps qs (f (bound (bare g)) b x) first (made g b x)),
      each-of qs bare bound places own f part one made gs (λ p m. wide p (member-right ps others p m)),
    )
