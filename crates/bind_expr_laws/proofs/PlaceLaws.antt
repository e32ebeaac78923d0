-- A refusal is told at a place of the tree, by induction over the tree.
use Rattle.std.proofs.Common.{◌≡◌, ℕ, Bool, true, false, List, [], ◌∷◌, ◌++◌, map, refl, sym, ap, subst, inl, inr}
use Rattle.std.specs.Prelude.{Ok, Err, Option, None, Some, fold}
use Rattle.std.specs.List.{flat_map}
use Rattle.kql_functions.specs.Find.{found_as}
use Rattle.kql_functions.specs.declared.func.Func.{Func}
use Rattle.kql_functions.specs.declared.func.LogicFunc.TheVariants as logic
use Rattle.kql_lexer.specs.declared.place.Place.{Place}
use Rattle.kql_meaning.proofs.MemberLaws.{Member, contains-member, member-left, member-right}
use Rattle.kql_meaning.specs.declared.position.Position.{Position}
use Rattle.kql_syntax.specs.declared.tree.Access.TheOpen.{Access-F, And-F, Arg-F, Cmp-F, Expr-F, Post-F, Prod-F, Sign-F, Sum-F, Term-F}
use Rattle.kql_syntax.specs.declared.tree.Access.{Access, fold-Access, fold-roll-Access, para-roll-Access, map-Access, roll-Access}
use Rattle.kql_syntax.specs.declared.tree.Arg.{Arg, fold-Arg, fold-roll-Arg, para-roll-Arg, map-Arg, roll-Arg}
use Rattle.kql_syntax.specs.declared.tree.Cmp.{Cmp, fold-Cmp, fold-roll-Cmp, para-roll-Cmp, map-Cmp, roll-Cmp}
use Rattle.kql_syntax.specs.declared.tree.Sign.{Sign, fold-Sign, fold-roll-Sign, para-roll-Sign, map-Sign, roll-Sign}
use Rattle.kql_syntax.specs.declared.tree.Term.{Term, fold-Term, fold-roll-Term, para-roll-Term, map-Term, roll-Term}
use Rattle.kql_syntax.specs.declared.tree.And.{And, fold-And, fold-roll-And, map-And, roll-And}
use Rattle.kql_syntax.specs.declared.tree.Expr.{Expr, fold-roll-Expr, map-Expr, roll-Expr, ind-Expr}
use Rattle.kql_syntax.specs.declared.tree.Post.{Post, fold-Post, fold-roll-Post, map-Post, roll-Post}
use Rattle.kql_syntax.specs.declared.tree.Prod.{Prod, fold-Prod, fold-roll-Prod, map-Prod, roll-Prod}
use Rattle.kql_syntax.specs.declared.tree.Sum.{Sum, fold-Sum, fold-roll-Sum, map-Sum, roll-Sum}
use Rattle.kql_syntax.specs.declared.tree.BetweenSign.{BetweenSign}
use Rattle.kql_syntax.specs.declared.tree.CompareSign.{CompareSign}
use Rattle.kql_syntax.specs.declared.tree.InSign.{InSign}
use Rattle.kql_syntax.specs.declared.tree.ProdSign.{ProdSign}
use Rattle.kql_syntax.specs.declared.tree.SumSign.{SumSign}
use Rattle.kql_syntax.specs.declared.tree.Word.{Word}
use Rattle.bind_expr.specs.Arguments.{arg_link, first_slot, next_slot, no_args, plain_arg, taken}
use Rattle.bind_expr.specs.Bound.{Binds, Look, Named, Takes, access_read, access_step, and_bound, and_step, arg_bound, arg_step, args_taken, bound_expr, call_bound, call_or_extract, call_taken, cmp_bound, compare_or_match, cmp_step, entry_key, expr_bound, expr_step, first_spot, found_call, inside, negated, operand_link, path_from, path_of, post_bound, post_of, post_step, prod_bound, prod_sign, prod_step, sign_bound, sign_step, sum_bound, sum_sign, sum_step, term_read, term_step}
use Rattle.bind_expr.specs.Chains.{chain_whole, chained_from, closed, linked, opened}
use Rattle.bind_expr.specs.Comparisons.{bounded, compare_func, compared, in_node, listed}
use Rattle.bind_expr.specs.Logic.{joined_from, terms_closed, terms_opened, terms_whole, with_term}
use Rattle.bind_expr.specs.Names.{name_bound}
use Rattle.bind_expr.specs.Outcome.{Outcome, ◌>>=◌}
use Rattle.bind_expr.specs.Patterns.{extract_bound, is_extract, match_bound}
use Rattle.bind_expr.specs.Paths.{looked_from, looked_whole, path_closed, path_opened, step_bound, step_named, with_look}
use Rattle.bind_expr.specs.declared.fault.BindFault.TheVariants as fault
use Rattle.bind_expr.specs.declared.scope.Scope.{Scope}
use Rattle.bind_expr.specs.declared.typed.Typed.{Typed}
use Rattle.bind_expr.proofs.RolledLaws.{and-rolled, call-rolled, expr-rolled, in-rolled, post-rolled, prod-rolled, sum-rolled}
use Rattle.bind_expr_laws.specs.Places.{BoundIsPlaced, NameIsPlaced, Places, access_places_step, and_places_step, arg_places_step, cmp_places_step, expr_places, expr_places_step, name_place, places_of_all, post_places_step, prod_places_step, sign_places_step, sum_places_step, term_places_step}
use Rattle.bind_expr_laws.proofs.PlaceSteps.{Each, ToldIn, Within, each-of, told-bounded, told-compared, told-extract, told-fold, told-found, told-link, told-listed, told-literal, told-look, told-match, told-name, told-negated, told-ok, told-one, told-step, told-term, told-then, told-wide}
use Rattle.bind_expr_laws.proofs.Shapes.{Args, Looked, Slot, Spot}

-- The places of each level.

access_places : Access → Places
access_places = fold-Access Places Places Places Places Places Places Places Places Places Places access_places_step arg_places_step cmp_places_step sign_places_step term_places_step and_places_step expr_places_step post_places_step prod_places_step sum_places_step

arg_places : Arg → Places
arg_places = fold-Arg Places Places Places Places Places Places Places Places Places Places access_places_step arg_places_step cmp_places_step sign_places_step term_places_step and_places_step expr_places_step post_places_step prod_places_step sum_places_step

cmp_places : Cmp → Places
cmp_places = fold-Cmp Places Places Places Places Places Places Places Places Places Places access_places_step arg_places_step cmp_places_step sign_places_step term_places_step and_places_step expr_places_step post_places_step prod_places_step sum_places_step

sign_places : Sign → Places
sign_places = fold-Sign Places Places Places Places Places Places Places Places Places Places access_places_step arg_places_step cmp_places_step sign_places_step term_places_step and_places_step expr_places_step post_places_step prod_places_step sum_places_step

term_places : Term → Places
term_places = fold-Term Places Places Places Places Places Places Places Places Places Places access_places_step arg_places_step cmp_places_step sign_places_step term_places_step and_places_step expr_places_step post_places_step prod_places_step sum_places_step

and_places : And → Places
and_places = fold-And Places Places Places Places Places Places Places Places Places Places access_places_step arg_places_step cmp_places_step sign_places_step term_places_step and_places_step expr_places_step post_places_step prod_places_step sum_places_step

post_places : Post → Places
post_places = fold-Post Places Places Places Places Places Places Places Places Places Places access_places_step arg_places_step cmp_places_step sign_places_step term_places_step and_places_step expr_places_step post_places_step prod_places_step sum_places_step

prod_places : Prod → Places
prod_places = fold-Prod Places Places Places Places Places Places Places Places Places Places access_places_step arg_places_step cmp_places_step sign_places_step term_places_step and_places_step expr_places_step post_places_step prod_places_step sum_places_step

sum_places : Sum → Places
sum_places = fold-Sum Places Places Places Places Places Places Places Places Places Places access_places_step arg_places_step cmp_places_step sign_places_step term_places_step and_places_step expr_places_step post_places_step prod_places_step sum_places_step

-- Each level, told at its own places.

-- A look: its key, its sign, and the word of an entry.
abbrev entry_in : Places → Option Word → Type 0
entry_in ps None = Unit {0}
entry_in ps (Some w) = Member w.place ps

record LooksIn (ps : Places) (l : Look) : Type 0 where
  key : (scope : Scope) (at : Position) → ToldIn ps (l.key scope at)
  sign : Member l.place ps
  entry : entry_in ps l.entry

abbrev BindsIn : Places → Binds → Type 0
BindsIn ps b = (scope : Scope) (spot : Spot) → ToldIn ps (b scope spot)

abbrev TakesIn : Places → Takes → Type 0
TakesIn ps b = (scope : Scope) (at : Position) → ToldIn ps (b scope at)

abbrev NamedIn : Places → Named → Type 0
NamedIn ps b = BindsIn ps b.bound

abbrev ToldAccess : Access → Type 0
ToldAccess x = LooksIn (access_places x) (access_read x)

abbrev GivenAccess : Type 0
GivenAccess = (x : Access) × ToldAccess x

bare_access : GivenAccess → Access
bare_access g = g.0

abbrev ToldArg : Arg → Type 0
ToldArg x = TakesIn (arg_places x) (arg_bound x)

abbrev GivenArg : Type 0
GivenArg = (x : Arg) × ToldArg x

bare_arg : GivenArg → Arg
bare_arg g = g.0

abbrev ToldCmp : Cmp → Type 0
ToldCmp x = BindsIn (cmp_places x) (cmp_bound x)

abbrev GivenCmp : Type 0
GivenCmp = (x : Cmp) × ToldCmp x

bare_cmp : GivenCmp → Cmp
bare_cmp g = g.0

abbrev ToldSign : Sign → Type 0
ToldSign x = BindsIn (sign_places x) (sign_bound x)

abbrev GivenSign : Type 0
GivenSign = (x : Sign) × ToldSign x

bare_sign : GivenSign → Sign
bare_sign g = g.0

abbrev ToldTerm : Term → Type 0
ToldTerm x = NamedIn (term_places x) (term_read x)

abbrev GivenTerm : Type 0
GivenTerm = (x : Term) × ToldTerm x

bare_term : GivenTerm → Term
bare_term g = g.0

abbrev ToldAnd : And → Type 0
ToldAnd x = BindsIn (and_places x) (and_bound x)

abbrev GivenAnd : Type 0
GivenAnd = (x : And) × ToldAnd x

bare_and : GivenAnd → And
bare_and g = g.0

abbrev ToldExpr : Expr → Type 0
ToldExpr x = BindsIn (expr_places x) (expr_bound x)

abbrev GivenExpr : Type 0
GivenExpr = (x : Expr) × ToldExpr x

bare_expr : GivenExpr → Expr
bare_expr g = g.0

abbrev ToldPost : Post → Type 0
ToldPost x = BindsIn (post_places x) (post_bound x)

abbrev GivenPost : Type 0
GivenPost = (x : Post) × ToldPost x

bare_post : GivenPost → Post
bare_post g = g.0

abbrev ToldProd : Prod → Type 0
ToldProd x = BindsIn (prod_places x) (prod_bound x)

abbrev GivenProd : Type 0
GivenProd = (x : Prod) × ToldProd x

bare_prod : GivenProd → Prod
bare_prod g = g.0

abbrev ToldSum : Sum → Type 0
ToldSum x = BindsIn (sum_places x) (sum_bound x)

abbrev GivenSum : Type 0
GivenSum = (x : Sum) × ToldSum x

bare_sum : GivenSum → Sum
bare_sum g = g.0

-- What is told of a step over the parts is told of the tree that they make.
rolled : {Y : Type 0} (told : Places → Y → Type 0) (ps qs : Places) (b c : Y) → ps ≡ qs → b ≡ c → told qs c → told ps b
rolled told ps qs b c e f h = subst (λ (x : Places). told x b) (sym e) (subst (λ (y : _). told qs y) (sym f) h)

access-placed : (y : Access-F Access Arg Cmp Sign Term And Expr Post Prod Sum) (c : Look) → access_read (roll-Access y) ≡ c → LooksIn (access_places_step (map-Access Access Arg Cmp Sign Term And Expr Post Prod Sum Places Places Places Places Places Places Places Places Places Places access_places arg_places cmp_places sign_places term_places and_places expr_places post_places prod_places sum_places y)) c → ToldAccess (roll-Access y)
unfolding access_places arg_places cmp_places sign_places term_places and_places expr_places post_places prod_places sum_places
access-placed y c e h = rolled LooksIn (access_places (roll-Access y)) (access_places_step (map-Access Access Arg Cmp Sign Term And Expr Post Prod Sum Places Places Places Places Places Places Places Places Places Places access_places arg_places cmp_places sign_places term_places and_places expr_places post_places prod_places sum_places y)) (access_read (roll-Access y)) c (fold-roll-Access Places Places Places Places Places Places Places Places Places Places access_places_step arg_places_step cmp_places_step sign_places_step term_places_step and_places_step expr_places_step post_places_step prod_places_step sum_places_step y) e h

arg-placed : (y : Arg-F Access Arg Cmp Sign Term And Expr Post Prod Sum) (scope : Scope) (at : Position) (c : Outcome (Option Typed)) → arg_bound (roll-Arg y) scope at ≡ c → ToldIn (arg_places_step (map-Arg Access Arg Cmp Sign Term And Expr Post Prod Sum Places Places Places Places Places Places Places Places Places Places access_places arg_places cmp_places sign_places term_places and_places expr_places post_places prod_places sum_places y)) c → ToldIn (arg_places (roll-Arg y)) (arg_bound (roll-Arg y) scope at)
unfolding access_places arg_places cmp_places sign_places term_places and_places expr_places post_places prod_places sum_places
arg-placed y scope at c e h = rolled ToldIn (arg_places (roll-Arg y)) (arg_places_step (map-Arg Access Arg Cmp Sign Term And Expr Post Prod Sum Places Places Places Places Places Places Places Places Places Places access_places arg_places cmp_places sign_places term_places and_places expr_places post_places prod_places sum_places y)) (arg_bound (roll-Arg y) scope at) c (fold-roll-Arg Places Places Places Places Places Places Places Places Places Places access_places_step arg_places_step cmp_places_step sign_places_step term_places_step and_places_step expr_places_step post_places_step prod_places_step sum_places_step y) e h

cmp-placed : (y : Cmp-F Access Arg Cmp Sign Term And Expr Post Prod Sum) (scope : Scope) (spot : Spot) (c : Outcome Typed) → cmp_bound (roll-Cmp y) scope spot ≡ c → ToldIn (cmp_places_step (map-Cmp Access Arg Cmp Sign Term And Expr Post Prod Sum Places Places Places Places Places Places Places Places Places Places access_places arg_places cmp_places sign_places term_places and_places expr_places post_places prod_places sum_places y)) c → ToldIn (cmp_places (roll-Cmp y)) (cmp_bound (roll-Cmp y) scope spot)
unfolding access_places arg_places cmp_places sign_places term_places and_places expr_places post_places prod_places sum_places
cmp-placed y scope spot c e h = rolled ToldIn (cmp_places (roll-Cmp y)) (cmp_places_step (map-Cmp Access Arg Cmp Sign Term And Expr Post Prod Sum Places Places Places Places Places Places Places Places Places Places access_places arg_places cmp_places sign_places term_places and_places expr_places post_places prod_places sum_places y)) (cmp_bound (roll-Cmp y) scope spot) c (fold-roll-Cmp Places Places Places Places Places Places Places Places Places Places access_places_step arg_places_step cmp_places_step sign_places_step term_places_step and_places_step expr_places_step post_places_step prod_places_step sum_places_step y) e h

sign-placed : (y : Sign-F Access Arg Cmp Sign Term And Expr Post Prod Sum) (scope : Scope) (spot : Spot) (c : Outcome Typed) → sign_bound (roll-Sign y) scope spot ≡ c → ToldIn (sign_places_step (map-Sign Access Arg Cmp Sign Term And Expr Post Prod Sum Places Places Places Places Places Places Places Places Places Places access_places arg_places cmp_places sign_places term_places and_places expr_places post_places prod_places sum_places y)) c → ToldIn (sign_places (roll-Sign y)) (sign_bound (roll-Sign y) scope spot)
unfolding access_places arg_places cmp_places sign_places term_places and_places expr_places post_places prod_places sum_places
sign-placed y scope spot c e h = rolled ToldIn (sign_places (roll-Sign y)) (sign_places_step (map-Sign Access Arg Cmp Sign Term And Expr Post Prod Sum Places Places Places Places Places Places Places Places Places Places access_places arg_places cmp_places sign_places term_places and_places expr_places post_places prod_places sum_places y)) (sign_bound (roll-Sign y) scope spot) c (fold-roll-Sign Places Places Places Places Places Places Places Places Places Places access_places_step arg_places_step cmp_places_step sign_places_step term_places_step and_places_step expr_places_step post_places_step prod_places_step sum_places_step y) e h

term-placed : (y : Term-F Access Arg Cmp Sign Term And Expr Post Prod Sum) (c : Named) → term_read (roll-Term y) ≡ c → NamedIn (term_places_step (map-Term Access Arg Cmp Sign Term And Expr Post Prod Sum Places Places Places Places Places Places Places Places Places Places access_places arg_places cmp_places sign_places term_places and_places expr_places post_places prod_places sum_places y)) c → ToldTerm (roll-Term y)
unfolding access_places arg_places cmp_places sign_places term_places and_places expr_places post_places prod_places sum_places
term-placed y c e h = rolled NamedIn (term_places (roll-Term y)) (term_places_step (map-Term Access Arg Cmp Sign Term And Expr Post Prod Sum Places Places Places Places Places Places Places Places Places Places access_places arg_places cmp_places sign_places term_places and_places expr_places post_places prod_places sum_places y)) (term_read (roll-Term y)) c (fold-roll-Term Places Places Places Places Places Places Places Places Places Places access_places_step arg_places_step cmp_places_step sign_places_step term_places_step and_places_step expr_places_step post_places_step prod_places_step sum_places_step y) e h

and-placed : (y : And-F Access Arg Cmp Sign Term And Expr Post Prod Sum) (scope : Scope) (spot : Spot) (c : Outcome Typed) → and_bound (roll-And y) scope spot ≡ c → ToldIn (and_places_step (map-And Access Arg Cmp Sign Term And Expr Post Prod Sum Places Places Places Places Places Places Places Places Places Places access_places arg_places cmp_places sign_places term_places and_places expr_places post_places prod_places sum_places y)) c → ToldIn (and_places (roll-And y)) (and_bound (roll-And y) scope spot)
unfolding access_places arg_places cmp_places sign_places term_places and_places expr_places post_places prod_places sum_places
and-placed y scope spot c e h = rolled ToldIn (and_places (roll-And y)) (and_places_step (map-And Access Arg Cmp Sign Term And Expr Post Prod Sum Places Places Places Places Places Places Places Places Places Places access_places arg_places cmp_places sign_places term_places and_places expr_places post_places prod_places sum_places y)) (and_bound (roll-And y) scope spot) c (fold-roll-And Places Places Places Places Places Places Places Places Places Places access_places_step arg_places_step cmp_places_step sign_places_step term_places_step and_places_step expr_places_step post_places_step prod_places_step sum_places_step y) e h

expr-placed : (y : Expr-F Access Arg Cmp Sign Term And Expr Post Prod Sum) (scope : Scope) (spot : Spot) (c : Outcome Typed) → expr_bound (roll-Expr y) scope spot ≡ c → ToldIn (expr_places_step (map-Expr Access Arg Cmp Sign Term And Expr Post Prod Sum Places Places Places Places Places Places Places Places Places Places access_places arg_places cmp_places sign_places term_places and_places expr_places post_places prod_places sum_places y)) c → ToldIn (expr_places (roll-Expr y)) (expr_bound (roll-Expr y) scope spot)
unfolding access_places arg_places cmp_places sign_places term_places and_places expr_places post_places prod_places sum_places
expr-placed y scope spot c e h = rolled ToldIn (expr_places (roll-Expr y)) (expr_places_step (map-Expr Access Arg Cmp Sign Term And Expr Post Prod Sum Places Places Places Places Places Places Places Places Places Places access_places arg_places cmp_places sign_places term_places and_places expr_places post_places prod_places sum_places y)) (expr_bound (roll-Expr y) scope spot) c (fold-roll-Expr Places Places Places Places Places Places Places Places Places Places access_places_step arg_places_step cmp_places_step sign_places_step term_places_step and_places_step expr_places_step post_places_step prod_places_step sum_places_step y) e h

post-placed : (y : Post-F Access Arg Cmp Sign Term And Expr Post Prod Sum) (scope : Scope) (spot : Spot) (c : Outcome Typed) → post_bound (roll-Post y) scope spot ≡ c → ToldIn (post_places_step (map-Post Access Arg Cmp Sign Term And Expr Post Prod Sum Places Places Places Places Places Places Places Places Places Places access_places arg_places cmp_places sign_places term_places and_places expr_places post_places prod_places sum_places y)) c → ToldIn (post_places (roll-Post y)) (post_bound (roll-Post y) scope spot)
unfolding access_places arg_places cmp_places sign_places term_places and_places expr_places post_places prod_places sum_places
post-placed y scope spot c e h = rolled ToldIn (post_places (roll-Post y)) (post_places_step (map-Post Access Arg Cmp Sign Term And Expr Post Prod Sum Places Places Places Places Places Places Places Places Places Places access_places arg_places cmp_places sign_places term_places and_places expr_places post_places prod_places sum_places y)) (post_bound (roll-Post y) scope spot) c (fold-roll-Post Places Places Places Places Places Places Places Places Places Places access_places_step arg_places_step cmp_places_step sign_places_step term_places_step and_places_step expr_places_step post_places_step prod_places_step sum_places_step y) e h

prod-placed : (y : Prod-F Access Arg Cmp Sign Term And Expr Post Prod Sum) (scope : Scope) (spot : Spot) (c : Outcome Typed) → prod_bound (roll-Prod y) scope spot ≡ c → ToldIn (prod_places_step (map-Prod Access Arg Cmp Sign Term And Expr Post Prod Sum Places Places Places Places Places Places Places Places Places Places access_places arg_places cmp_places sign_places term_places and_places expr_places post_places prod_places sum_places y)) c → ToldIn (prod_places (roll-Prod y)) (prod_bound (roll-Prod y) scope spot)
unfolding access_places arg_places cmp_places sign_places term_places and_places expr_places post_places prod_places sum_places
prod-placed y scope spot c e h = rolled ToldIn (prod_places (roll-Prod y)) (prod_places_step (map-Prod Access Arg Cmp Sign Term And Expr Post Prod Sum Places Places Places Places Places Places Places Places Places Places access_places arg_places cmp_places sign_places term_places and_places expr_places post_places prod_places sum_places y)) (prod_bound (roll-Prod y) scope spot) c (fold-roll-Prod Places Places Places Places Places Places Places Places Places Places access_places_step arg_places_step cmp_places_step sign_places_step term_places_step and_places_step expr_places_step post_places_step prod_places_step sum_places_step y) e h

sum-placed : (y : Sum-F Access Arg Cmp Sign Term And Expr Post Prod Sum) (scope : Scope) (spot : Spot) (c : Outcome Typed) → sum_bound (roll-Sum y) scope spot ≡ c → ToldIn (sum_places_step (map-Sum Access Arg Cmp Sign Term And Expr Post Prod Sum Places Places Places Places Places Places Places Places Places Places access_places arg_places cmp_places sign_places term_places and_places expr_places post_places prod_places sum_places y)) c → ToldIn (sum_places (roll-Sum y)) (sum_bound (roll-Sum y) scope spot)
unfolding access_places arg_places cmp_places sign_places term_places and_places expr_places post_places prod_places sum_places
sum-placed y scope spot c e h = rolled ToldIn (sum_places (roll-Sum y)) (sum_places_step (map-Sum Access Arg Cmp Sign Term And Expr Post Prod Sum Places Places Places Places Places Places Places Places Places Places access_places arg_places cmp_places sign_places term_places and_places expr_places post_places prod_places sum_places y)) (sum_bound (roll-Sum y) scope spot) c (fold-roll-Sum Places Places Places Places Places Places Places Places Places Places access_places_step arg_places_step cmp_places_step sign_places_step term_places_step and_places_step expr_places_step post_places_step prod_places_step sum_places_step y) e h

-- Lists of parts.

-- Of places that stand before, at and behind a sign.
left-of : (ps : Places) (place : Place) (qs : Places) → Within ps (ps ++ place ∷ qs)
left-of ps place qs p m = member-left ps (place ∷ qs) p m

sign-of : (ps : Places) (place : Place) (qs : Places) → Member place (ps ++ place ∷ qs)
sign-of ps place qs = member-right ps (place ∷ qs) place (inl refl)

right-of : (ps : Places) (place : Place) (qs : Places) → Within qs (ps ++ place ∷ qs)
right-of ps place qs p m = member-right ps (place ∷ qs) p (inr m)

behind : (place : Place) (qs : Places) → Within qs (place ∷ qs)
behind place qs p m = inr m

-- Parts joined by signs: what opens the first, joins each, and closes them tells faults at the signs alone.
told-joined : {S X B : Type 0} (bound : X → Binds) (places : X → Places) (at : S → Place) (begin : Typed → B) (join : S → B → Typed → Outcome B) (close : B → Typed) → ((s : S) (b : B) (t : Typed) → ToldIn (at s ∷ []) (join s b t)) → (first : X) → BindsIn (places first) (bound first) → (gs : List (S × ((x : X) × BindsIn (places x) (bound x)))) (scope : Scope) (spot inner : Spot) → ToldIn (places first ++ flat_map (λ (l : S × Places). at l.0 ∷ l.1) (map {B = S × Places} (λ (l : S × X). (l.0, places l.1)) (map {B = S × X} (λ (l : S × ((x : X) × BindsIn (places x) (bound x))). (l.0, l.1.0)) gs))) (fold (λ (before : Outcome B) (l : S × Binds). before >>= λ b. l.1 scope inner >>= λ t. join l.0 b t) (bound first scope spot >>= λ t. Ok (begin t)) (map {B = S × Binds} (λ (l : S × X). (l.0, bound l.1)) (map {B = S × X} (λ (l : S × ((x : X) × BindsIn (places x) (bound x))). (l.0, l.1.0)) gs)) >>= λ b. Ok (close b))
told-joined {S = S} {X = X} {B = B} bound places at begin join close joins first h gs scope spot inner =
    let G : Type 0 = S × ((x : X) × BindsIn (places x) (bound x)) in
    let bare : G → S × X = λ (l : G). (l.0, l.1.0) in
    let own : S × Places → Places = λ (l : S × Places). at l.0 ∷ l.1 in
    let to_places : S × X → S × Places = λ (l : S × X). (l.0, places l.1) in
    let to_bound : S × X → S × Binds = λ (l : S × X). (l.0, bound l.1) in
    let others : Places = flat_map own (map to_places (map bare gs)) in
    let all : Places = places first ++ others in
    let start : Outcome B = bound first scope spot >>= λ t. Ok (begin t) in
    let made : S × Binds → B → Typed → Outcome B = λ (l : S × Binds) (b : B) (t : Typed). join l.0 b t in
    let part : S × Binds → Outcome Typed = λ (l : S × Binds). l.1 scope inner in
    let whole : Outcome B = fold (λ (before : Outcome B) (l : S × Binds). before >>= λ b. l.1 scope inner >>= λ t. join l.0 b t) start (map to_bound (map bare gs)) in
    told-then all whole (λ (b : B). Ok (close b))
    (told-fold all made part start
    (told-then all (bound first scope spot) (λ (t : Typed). Ok (begin t)) (told-wide (places first) all (bound first scope spot) (member-left (places first) others) (h scope spot)) (λ t. told-ok all (begin t)))
    (map to_bound (map bare gs))
    (each-of all bare to_bound to_places own made part
    (λ g. told-wide (places g.1.0) (at g.0 ∷ places g.1.0) (bound g.1.0 scope inner) (behind (at g.0) (places g.1.0)) (g.1.1 scope inner))
    (λ g b t. told-one (at g.0) (at g.0 ∷ places g.1.0) (join g.0 b t) (inl refl) (joins g.0 b t))
    gs (member-right (places first) others)))
    (λ b. told-ok all (close b))

of-expr : (y : Expr-F GivenAccess GivenArg GivenCmp GivenSign GivenTerm GivenAnd GivenExpr GivenPost GivenProd GivenSum) → ToldExpr (roll-Expr (map-Expr GivenAccess GivenArg GivenCmp GivenSign GivenTerm GivenAnd GivenExpr GivenPost GivenProd GivenSum Access Arg Cmp Sign Term And Expr Post Prod Sum bare_access bare_arg bare_cmp bare_sign bare_term bare_and bare_expr bare_post bare_prod bare_sum y))
unfolding bare_access bare_arg bare_cmp bare_sign bare_term bare_and bare_expr bare_post bare_prod bare_sum terms_opened terms_closed
of-expr y scope spot =
    expr-placed (map-Expr GivenAccess GivenArg GivenCmp GivenSign GivenTerm GivenAnd GivenExpr GivenPost GivenProd GivenSum Access Arg Cmp Sign Term And Expr Post Prod Sum bare_access bare_arg bare_cmp bare_sign bare_term bare_and bare_expr bare_post bare_prod bare_sum y) scope spot _ (expr-rolled (map-Expr GivenAccess GivenArg GivenCmp GivenSign GivenTerm GivenAnd GivenExpr GivenPost GivenProd GivenSum Access Arg Cmp Sign Term And Expr Post Prod Sum bare_access bare_arg bare_cmp bare_sign bare_term bare_and bare_expr bare_post bare_prod bare_sum y) scope spot)
    (told-joined and_bound and_places (λ (s : Place). s) joined_from (λ (s : Place). with_term logic.Or s) (terms_whole logic.Or) (λ s b t. told-term logic.Or s b t) y.first.0 y.first.1 y.more scope (first_spot (map {B = Place × Binds} (λ (l : Place × And). (l.0, and_bound l.1)) (map {B = Place × And} (λ (l : Place × GivenAnd). (l.0, l.1.0)) y.more)) spot) (inside spot.position))

of-and : (y : And-F GivenAccess GivenArg GivenCmp GivenSign GivenTerm GivenAnd GivenExpr GivenPost GivenProd GivenSum) → ToldAnd (roll-And (map-And GivenAccess GivenArg GivenCmp GivenSign GivenTerm GivenAnd GivenExpr GivenPost GivenProd GivenSum Access Arg Cmp Sign Term And Expr Post Prod Sum bare_access bare_arg bare_cmp bare_sign bare_term bare_and bare_expr bare_post bare_prod bare_sum y))
unfolding bare_access bare_arg bare_cmp bare_sign bare_term bare_and bare_expr bare_post bare_prod bare_sum terms_opened terms_closed
of-and y scope spot =
    and-placed (map-And GivenAccess GivenArg GivenCmp GivenSign GivenTerm GivenAnd GivenExpr GivenPost GivenProd GivenSum Access Arg Cmp Sign Term And Expr Post Prod Sum bare_access bare_arg bare_cmp bare_sign bare_term bare_and bare_expr bare_post bare_prod bare_sum y) scope spot _ (and-rolled (map-And GivenAccess GivenArg GivenCmp GivenSign GivenTerm GivenAnd GivenExpr GivenPost GivenProd GivenSum Access Arg Cmp Sign Term And Expr Post Prod Sum bare_access bare_arg bare_cmp bare_sign bare_term bare_and bare_expr bare_post bare_prod bare_sum y) scope spot)
    (told-joined cmp_bound cmp_places (λ (s : Place). s) joined_from (λ (s : Place). with_term logic.And s) (terms_whole logic.And) (λ s b t. told-term logic.And s b t) y.first.0 y.first.1 y.more scope (first_spot (map {B = Place × Binds} (λ (l : Place × Cmp). (l.0, cmp_bound l.1)) (map {B = Place × Cmp} (λ (l : Place × GivenCmp). (l.0, l.1.0)) y.more)) spot) (inside spot.position))

of-sum : (y : Sum-F GivenAccess GivenArg GivenCmp GivenSign GivenTerm GivenAnd GivenExpr GivenPost GivenProd GivenSum) → ToldSum (roll-Sum (map-Sum GivenAccess GivenArg GivenCmp GivenSign GivenTerm GivenAnd GivenExpr GivenPost GivenProd GivenSum Access Arg Cmp Sign Term And Expr Post Prod Sum bare_access bare_arg bare_cmp bare_sign bare_term bare_and bare_expr bare_post bare_prod bare_sum y))
unfolding bare_access bare_arg bare_cmp bare_sign bare_term bare_and bare_expr bare_post bare_prod bare_sum opened closed
of-sum y scope spot =
    sum-placed (map-Sum GivenAccess GivenArg GivenCmp GivenSign GivenTerm GivenAnd GivenExpr GivenPost GivenProd GivenSum Access Arg Cmp Sign Term And Expr Post Prod Sum bare_access bare_arg bare_cmp bare_sign bare_term bare_and bare_expr bare_post bare_prod bare_sum y) scope spot _ (sum-rolled (map-Sum GivenAccess GivenArg GivenCmp GivenSign GivenTerm GivenAnd GivenExpr GivenPost GivenProd GivenSum Access Arg Cmp Sign Term And Expr Post Prod Sum bare_access bare_arg bare_cmp bare_sign bare_term bare_and bare_expr bare_post bare_prod bare_sum y) scope spot)
    (told-joined prod_bound prod_places (λ (s : SumSign). s.place) chained_from (λ (s : SumSign). linked (sum_sign s.op) s.place) chain_whole (λ s b t. told-link (sum_sign s.op) s.place b t) y.first.0 y.first.1 y.more scope (first_spot (map {B = SumSign × Binds} (λ (l : SumSign × Prod). (l.0, prod_bound l.1)) (map {B = SumSign × Prod} (λ (l : SumSign × GivenProd). (l.0, l.1.0)) y.more)) spot) (inside spot.position))

of-prod : (y : Prod-F GivenAccess GivenArg GivenCmp GivenSign GivenTerm GivenAnd GivenExpr GivenPost GivenProd GivenSum) → ToldProd (roll-Prod (map-Prod GivenAccess GivenArg GivenCmp GivenSign GivenTerm GivenAnd GivenExpr GivenPost GivenProd GivenSum Access Arg Cmp Sign Term And Expr Post Prod Sum bare_access bare_arg bare_cmp bare_sign bare_term bare_and bare_expr bare_post bare_prod bare_sum y))
unfolding bare_access bare_arg bare_cmp bare_sign bare_term bare_and bare_expr bare_post bare_prod bare_sum opened closed
of-prod y scope spot =
    prod-placed (map-Prod GivenAccess GivenArg GivenCmp GivenSign GivenTerm GivenAnd GivenExpr GivenPost GivenProd GivenSum Access Arg Cmp Sign Term And Expr Post Prod Sum bare_access bare_arg bare_cmp bare_sign bare_term bare_and bare_expr bare_post bare_prod bare_sum y) scope spot _ (prod-rolled (map-Prod GivenAccess GivenArg GivenCmp GivenSign GivenTerm GivenAnd GivenExpr GivenPost GivenProd GivenSum Access Arg Cmp Sign Term And Expr Post Prod Sum bare_access bare_arg bare_cmp bare_sign bare_term bare_and bare_expr bare_post bare_prod bare_sum y) scope spot)
    (told-joined sign_bound sign_places (λ (s : ProdSign). s.place) chained_from (λ (s : ProdSign). linked (prod_sign s.op) s.place) chain_whole (λ s b t. told-link (prod_sign s.op) s.place b t) y.first.0 y.first.1 y.more scope (first_spot (map {B = ProdSign × Binds} (λ (l : ProdSign × Sign). (l.0, sign_bound l.1)) (map {B = ProdSign × Sign} (λ (l : ProdSign × GivenSign). (l.0, l.1.0)) y.more)) spot) (inside spot.position))

-- Comparisons.

told-compare : (f : Func) (s b : GivenSum) (sign : CompareSign) (scope : Scope) (at : Spot) → ToldIn (sum_places s.0 ++ sign.place ∷ sum_places b.0) (sum_bound s.0 scope at >>= λ l. sum_bound b.0 scope at >>= λ r. compared f sign l r)
told-compare f s b sign scope at =
    let ps : Places = sum_places s.0 in
    let qs : Places = sum_places b.0 in
    let all : Places = ps ++ sign.place ∷ qs in
    told-then all (sum_bound s.0 scope at) (λ (l : Typed). sum_bound b.0 scope at >>= λ r. compared f sign l r) (told-wide ps all (sum_bound s.0 scope at) (left-of ps sign.place qs) (s.1 scope at))
    (λ l. told-then all (sum_bound b.0 scope at) (λ (r : Typed). compared f sign l r) (told-wide qs all (sum_bound b.0 scope at) (right-of ps sign.place qs) (b.1 scope at))
    (λ r. told-one sign.place all (compared f sign l r) (sign-of ps sign.place qs) (told-compared f sign l r)))

told-compare-or-match : (s b : GivenSum) (sign : CompareSign) (scope : Scope) (spot : Spot) (o : Option Func) → ToldIn (sum_places s.0 ++ sign.place ∷ sum_places b.0) (compare_or_match (s.0, sum_bound s.0) sign (b.0, sum_bound b.0) scope spot o)
told-compare-or-match s b sign scope spot None = told-one sign.place (sum_places s.0 ++ sign.place ∷ sum_places b.0) (match_bound sign.place scope s.0 b.0) (sign-of (sum_places s.0) sign.place (sum_places b.0)) (told-match sign.place scope s.0 b.0)
told-compare-or-match s b sign scope spot (Some f) = told-compare f s b sign scope (inside spot.position)

told-in : (s : GivenSum) (sign : InSign) (es : List GivenExpr) (scope : Scope) (at : Spot) → ToldIn (sum_places s.0 ++ sign.place ∷ places_of_all (map expr_places (map (λ (g : GivenExpr). g.0) es))) (in_node sign (fold (λ (before : Outcome (List Typed)) (e : Binds). before >>= λ ts. e scope at >>= λ t. Ok (ts ++ t ∷ [])) (operand_link (Ok []) (sum_bound s.0 scope at)) (map expr_bound (map (λ (g : GivenExpr). g.0) es))))
told-in s sign es scope at =
    let bare : GivenExpr → Expr = λ (g : GivenExpr). g.0 in
    let ps : Places = sum_places s.0 in
    let qs : Places = places_of_all (map expr_places (map bare es)) in
    let all : Places = ps ++ sign.place ∷ qs in
    let made : Binds → List Typed → Typed → Outcome (List Typed) = λ (e : Binds) (ts : List Typed) (t : Typed). Ok (ts ++ t ∷ []) in
    let part : Binds → Outcome Typed = λ (e : Binds). e scope at in
    let start : Outcome (List Typed) = operand_link (Ok []) (sum_bound s.0 scope at) in
    told-then all (fold (λ (before : Outcome (List Typed)) (e : Binds). before >>= λ ts. e scope at >>= λ t. Ok (ts ++ t ∷ [])) start (map expr_bound (map bare es))) (λ (ts : List Typed). listed sign ts)
    (told-fold all made part start
    (told-then all (sum_bound s.0 scope at) (λ (t : Typed). Ok (t ∷ [])) (told-wide ps all (sum_bound s.0 scope at) (left-of ps sign.place qs) (s.1 scope at)) (λ t. told-ok all (t ∷ [])))
    (map expr_bound (map bare es))
    (each-of all bare expr_bound expr_places (λ (own : Places). own) made part (λ g. g.1 scope at) (λ g ts t. told-ok (expr_places g.0) (ts ++ t ∷ [])) es (right-of ps sign.place qs)))
    (λ ts. told-one sign.place all (listed sign ts) (sign-of ps sign.place qs) (told-listed sign ts))

told-between : (s a b : GivenSum) (sign : BetweenSign) (scope : Scope) (at : Spot) → ToldIn (sum_places s.0 ++ sign.place ∷ (sum_places a.0 ++ sum_places b.0)) (sum_bound s.0 scope at >>= λ x. sum_bound a.0 scope at >>= λ low. sum_bound b.0 scope at >>= λ high. bounded sign x low high)
told-between s a b sign scope at =
    let ps : Places = sum_places s.0 in
    let lows : Places = sum_places a.0 in
    let highs : Places = sum_places b.0 in
    let qs : Places = lows ++ highs in
    let all : Places = ps ++ sign.place ∷ qs in
    told-then all (sum_bound s.0 scope at) (λ (x : Typed). sum_bound a.0 scope at >>= λ low. sum_bound b.0 scope at >>= λ high. bounded sign x low high) (told-wide ps all (sum_bound s.0 scope at) (left-of ps sign.place qs) (s.1 scope at))
    (λ x. told-then all (sum_bound a.0 scope at) (λ (low : Typed). sum_bound b.0 scope at >>= λ high. bounded sign x low high) (told-wide lows all (sum_bound a.0 scope at) (λ p m. right-of ps sign.place qs p (member-left lows highs p m)) (a.1 scope at))
    (λ low. told-then all (sum_bound b.0 scope at) (λ (high : Typed). bounded sign x low high) (told-wide highs all (sum_bound b.0 scope at) (λ p m. right-of ps sign.place qs p (member-right lows highs p m)) (b.1 scope at))
    (λ high. told-one sign.place all (bounded sign x low high) (sign-of ps sign.place qs) (told-bounded sign x low high))))

of-cmp : (y : Cmp-F GivenAccess GivenArg GivenCmp GivenSign GivenTerm GivenAnd GivenExpr GivenPost GivenProd GivenSum) → ToldCmp (roll-Cmp (map-Cmp GivenAccess GivenArg GivenCmp GivenSign GivenTerm GivenAnd GivenExpr GivenPost GivenProd GivenSum Access Arg Cmp Sign Term And Expr Post Prod Sum bare_access bare_arg bare_cmp bare_sign bare_term bare_and bare_expr bare_post bare_prod bare_sum y))
unfolding bare_access bare_arg bare_cmp bare_sign bare_term bare_and bare_expr bare_post bare_prod bare_sum cmp_bound sum_bound
of-cmp (Cmp-F.«Cmp::Plain» s) scope spot = cmp-placed (Cmp-F.«Cmp::Plain» s.0) scope spot _ (ap (λ (f : Binds). f scope spot) (para-roll-Cmp Look Takes Binds Binds Named Binds Binds Binds Binds Binds access_step arg_step cmp_step sign_step term_step and_step expr_step post_step prod_step sum_step (Cmp-F.«Cmp::Plain» s.0))) (s.1 scope spot)
of-cmp (Cmp-F.Compared s sign b) scope spot = cmp-placed (Cmp-F.Compared s.0 sign b.0) scope spot _ (ap (λ (f : Binds). f scope spot) (para-roll-Cmp Look Takes Binds Binds Named Binds Binds Binds Binds Binds access_step arg_step cmp_step sign_step term_step and_step expr_step post_step prod_step sum_step (Cmp-F.Compared s.0 sign b.0))) (told-compare-or-match s b sign scope spot (compare_func sign.op))
of-cmp (Cmp-F.In s sign es) scope spot = cmp-placed (Cmp-F.In s.0 sign (map bare_expr es)) scope spot _ (in-rolled s.0 sign (map bare_expr es) scope spot) (told-in s sign es scope (inside spot.position))
of-cmp (Cmp-F.Between s sign bounds) scope spot = cmp-placed (Cmp-F.Between s.0 sign (bounds.0.0, bounds.1.0)) scope spot _ (ap (λ (f : Binds). f scope spot) (para-roll-Cmp Look Takes Binds Binds Named Binds Binds Binds Binds Binds access_step arg_step cmp_step sign_step term_step and_step expr_step post_step prod_step sum_step (Cmp-F.Between s.0 sign (bounds.0.0, bounds.1.0)))) (told-between s bounds.0 bounds.1 sign scope (inside spot.position))

told-minus : (place : Place) (p : GivenPost) (scope : Scope) (at : Spot) → ToldIn (place ∷ post_places p.0) (post_bound p.0 scope at >>= λ t. negated place t)
told-minus place p scope at =
    let ps : Places = post_places p.0 in
    told-then (place ∷ ps) (post_bound p.0 scope at) (λ (t : Typed). negated place t) (told-wide ps (place ∷ ps) (post_bound p.0 scope at) (behind place ps) (p.1 scope at))
    (λ t. told-one place (place ∷ ps) (negated place t) (inl refl) (told-negated place t))

of-sign : (y : Sign-F GivenAccess GivenArg GivenCmp GivenSign GivenTerm GivenAnd GivenExpr GivenPost GivenProd GivenSum) → ToldSign (roll-Sign (map-Sign GivenAccess GivenArg GivenCmp GivenSign GivenTerm GivenAnd GivenExpr GivenPost GivenProd GivenSum Access Arg Cmp Sign Term And Expr Post Prod Sum bare_access bare_arg bare_cmp bare_sign bare_term bare_and bare_expr bare_post bare_prod bare_sum y))
unfolding bare_access bare_arg bare_cmp bare_sign bare_term bare_and bare_expr bare_post bare_prod bare_sum sign_bound post_bound
of-sign (Sign-F.«Sign::Plain» p) scope spot = sign-placed (Sign-F.«Sign::Plain» p.0) scope spot _ (ap (λ (f : Binds). f scope spot) (para-roll-Sign Look Takes Binds Binds Named Binds Binds Binds Binds Binds access_step arg_step cmp_step sign_step term_step and_step expr_step post_step prod_step sum_step (Sign-F.«Sign::Plain» p.0))) (p.1 scope spot)
of-sign (Sign-F.Minus place p) scope spot = sign-placed (Sign-F.Minus place p.0) scope spot _ (ap (λ (f : Binds). f scope spot) (para-roll-Sign Look Takes Binds Binds Named Binds Binds Binds Binds Binds access_step arg_step cmp_step sign_step term_step and_step expr_step post_step prod_step sum_step (Sign-F.Minus place p.0))) (told-minus place p scope (inside spot.position))

of-access : (y : Access-F GivenAccess GivenArg GivenCmp GivenSign GivenTerm GivenAnd GivenExpr GivenPost GivenProd GivenSum) → ToldAccess (roll-Access (map-Access GivenAccess GivenArg GivenCmp GivenSign GivenTerm GivenAnd GivenExpr GivenPost GivenProd GivenSum Access Arg Cmp Sign Term And Expr Post Prod Sum bare_access bare_arg bare_cmp bare_sign bare_term bare_and bare_expr bare_post bare_prod bare_sum y))
unfolding bare_access bare_arg bare_cmp bare_sign bare_term bare_and bare_expr bare_post bare_prod bare_sum access_read expr_bound
of-access (Access-F.Entry place w) = access-placed (Access-F.Entry place w) _ (para-roll-Access Look Takes Binds Binds Named Binds Binds Binds Binds Binds access_step arg_step cmp_step sign_step term_step and_step expr_step post_step prod_step sum_step (Access-F.Entry place w)) (record {
  key = λ scope at. told-ok (place ∷ w.place ∷ []) (entry_key w);
  sign = inl refl;
  entry = inr (inl refl);
})
of-access (Access-F.Element place e) = access-placed (Access-F.Element place e.0) _ (para-roll-Access Look Takes Binds Binds Named Binds Binds Binds Binds Binds access_step arg_step cmp_step sign_step term_step and_step expr_step post_step prod_step sum_step (Access-F.Element place e.0)) (record {
  key = λ scope at. told-wide (expr_places e.0) (place ∷ expr_places e.0) (expr_bound e.0 scope (inside at)) (behind place (expr_places e.0)) (e.1 scope (inside at));
  sign = inl refl;
  entry = tt;
})

of-arg : (y : Arg-F GivenAccess GivenArg GivenCmp GivenSign GivenTerm GivenAnd GivenExpr GivenPost GivenProd GivenSum) → ToldArg (roll-Arg (map-Arg GivenAccess GivenArg GivenCmp GivenSign GivenTerm GivenAnd GivenExpr GivenPost GivenProd GivenSum Access Arg Cmp Sign Term And Expr Post Prod Sum bare_access bare_arg bare_cmp bare_sign bare_term bare_and bare_expr bare_post bare_prod bare_sum y))
unfolding bare_access bare_arg bare_cmp bare_sign bare_term bare_and bare_expr bare_post bare_prod bare_sum plain_arg arg_bound expr_bound
of-arg (Arg-F.«Arg::Plain» e) scope at = arg-placed (Arg-F.«Arg::Plain» e.0) scope at _ (ap (λ (f : Takes). f scope at) (para-roll-Arg Look Takes Binds Binds Named Binds Binds Binds Binds Binds access_step arg_step cmp_step sign_step term_step and_step expr_step post_step prod_step sum_step (Arg-F.«Arg::Plain» e.0))) (told-then (expr_places e.0) (expr_bound e.0 scope (inside at)) (λ (x : Typed). Ok (Some x)) (e.1 scope (inside at)) (λ x. told-ok (expr_places e.0) (Some x)))
of-arg (Arg-F.Star place) scope at = arg-placed (Arg-F.Star place) scope at _ (ap (λ (f : Takes). f scope at) (para-roll-Arg Look Takes Binds Binds Named Binds Binds Binds Binds Binds access_step arg_step cmp_step sign_step term_step and_step expr_step post_step prod_step sum_step (Arg-F.Star place))) (told-ok (place ∷ []) None)

-- Calls.

told-args : (scope : Scope) (first next : Slot) (gs : List GivenArg) → ToldIn (places_of_all (map arg_places (map (λ (g : GivenArg). g.0) gs))) (args_taken scope first next (map arg_bound (map (λ (g : GivenArg). g.0) gs)))
told-args scope first next [] = told-ok [] no_args
told-args scope first next (g ∷ gs) =
    let bare : GivenArg → Arg = λ (h : GivenArg). h.0 in
    let ps : Places = arg_places g.0 in
    let others : Places = places_of_all (map arg_places (map bare gs)) in
    let all : Places = ps ++ others in
    let made : Takes → Args → Option Typed → Outcome Args = λ (a : Takes) (b : Args) (t : Option Typed). Ok (taken scope next b t) in
    let part : Takes → Outcome (Option Typed) = λ (a : Takes). a scope next.position in
    told-fold all made part (arg_link scope first (Ok no_args) (arg_bound g.0 scope first.position))
    (told-then all (arg_bound g.0 scope first.position) (λ (t : Option Typed). Ok (taken scope first no_args t)) (told-wide ps all (arg_bound g.0 scope first.position) (member-left ps others) (g.1 scope first.position)) (λ t. told-ok all (taken scope first no_args t)))
    (map arg_bound (map bare gs))
    (each-of all bare arg_bound arg_places (λ (own : Places). own) made part (λ h. h.1 scope next.position) (λ h b t. told-ok (arg_places h.0) (taken scope next b t)) gs (member-right ps others))

told-call-taken : (w : Word) (gs : List GivenArg) (scope : Scope) (spot : Spot) → ToldIn (w.place ∷ places_of_all (map arg_places (map (λ (g : GivenArg). g.0) gs))) (call_taken w (map arg_bound (map (λ (g : GivenArg). g.0) gs)) scope spot)
told-call-taken w gs scope spot =
    let bare : GivenArg → Arg = λ (g : GivenArg). g.0 in
    let ps : Places = places_of_all (map arg_places (map bare gs)) in
    let all : Places = w.place ∷ ps in
    let first : Slot = first_slot (found_as w.text) spot.position in
    let next : Slot = next_slot (found_as w.text) spot.position in
    let args : Outcome Args = args_taken scope first next (map arg_bound (map bare gs)) in
    told-then all args (λ (a : Args). found_call w scope spot a (found_as w.text)) (told-wide ps all args (behind w.place ps) (told-args scope first next gs))
    (λ a. told-one w.place all (found_call w scope spot a (found_as w.text)) (inl refl) (told-found w scope spot a (found_as w.text)))

told-call-or : (w : Word) (gs : List GivenArg) (scope : Scope) (spot : Spot) (b : Bool) → ToldIn (w.place ∷ places_of_all (map arg_places (map (λ (g : GivenArg). g.0) gs))) (call_or_extract w (map (λ (g : GivenArg). g.0) gs) (map arg_bound (map (λ (g : GivenArg). g.0) gs)) scope spot b)
told-call-or w gs scope spot true =
    let args : List Arg = map (λ (g : GivenArg). g.0) gs in
    told-one w.place (w.place ∷ places_of_all (map arg_places args)) (extract_bound w.place scope args) (inl refl) (told-extract w.place scope args)
told-call-or w gs scope spot false = told-call-taken w gs scope spot

told-call-bound : (w : Word) (gs : List GivenArg) (scope : Scope) (spot : Spot) → ToldIn (w.place ∷ places_of_all (map arg_places (map (λ (g : GivenArg). g.0) gs))) (call_bound w (map (λ (g : GivenArg). g.0) gs) (map arg_bound (map (λ (g : GivenArg). g.0) gs)) scope spot)
told-call-bound w gs scope spot = told-call-or w gs scope spot (is_extract (found_as w.text))

of-term : (y : Term-F GivenAccess GivenArg GivenCmp GivenSign GivenTerm GivenAnd GivenExpr GivenPost GivenProd GivenSum) → ToldTerm (roll-Term (map-Term GivenAccess GivenArg GivenCmp GivenSign GivenTerm GivenAnd GivenExpr GivenPost GivenProd GivenSum Access Arg Cmp Sign Term And Expr Post Prod Sum bare_access bare_arg bare_cmp bare_sign bare_term bare_and bare_expr bare_post bare_prod bare_sum y))
unfolding bare_access bare_arg bare_cmp bare_sign bare_term bare_and bare_expr bare_post bare_prod bare_sum term_read expr_bound
of-term (Term-F.Literal l) = term-placed (Term-F.Literal l) _ (para-roll-Term Look Takes Binds Binds Named Binds Binds Binds Binds Binds access_step arg_step cmp_step sign_step term_step and_step expr_step post_step prod_step sum_step (Term-F.Literal l)) (λ scope spot. told-literal l)
of-term (Term-F.Name n) = term-placed (Term-F.Name n) _ (para-roll-Term Look Takes Binds Binds Named Binds Binds Binds Binds Binds access_step arg_step cmp_step sign_step term_step and_step expr_step post_step prod_step sum_step (Term-F.Name n)) (λ scope spot. told-name n scope)
of-term (Term-F.Call w args) = term-placed (Term-F.Call w (map bare_arg args)) _ (call-rolled w (map bare_arg args)) (λ scope spot. told-call-bound w args scope spot)
of-term (Term-F.Group place e) = term-placed (Term-F.Group place e.0) _ (para-roll-Term Look Takes Binds Binds Named Binds Binds Binds Binds Binds access_step arg_step cmp_step sign_step term_step and_step expr_step post_step prod_step sum_step (Term-F.Group place e.0)) (λ scope spot. told-wide (expr_places e.0) (place ∷ expr_places e.0) (expr_bound e.0 scope spot) (behind place (expr_places e.0)) (e.1 scope spot))

-- Terms with looks behind them.

abbrev EachLook : Places → Scope → Position → List Look → Type 0
EachLook ps scope at looks = Each ps (λ (l : Look) (p : Looked) (k : Typed). with_look l.place p k) (λ (l : Look). l.key scope at) looks

told-path : (ps : Places) (scope : Scope) (at : Position) (first : Outcome Typed) → ToldIn ps first → (ls : List Look) → EachLook ps scope at ls → ToldIn ps (path_of scope at first ls)
unfolding path_opened path_closed
told-path ps scope at first h ls each =
    let start : Outcome Looked = first >>= λ t. Ok (looked_from t) in
    told-then ps (fold (λ (before : Outcome Looked) (l : Look). before >>= λ p. l.key scope at >>= λ k. with_look l.place p k) start ls) (λ (p : Looked). Ok (looked_whole p))
    (told-fold ps (λ (l : Look) (p : Looked) (k : Typed). with_look l.place p k) (λ (l : Look). l.key scope at) start (told-then ps first (λ (t : Typed). Ok (looked_from t)) h (λ t. told-ok ps (looked_from t))) ls each)
    (λ p. told-ok ps (looked_whole p))

told-from : (ps : Places) (first : Binds) → BindsIn ps first → (scope : Scope) (spot : Spot) (l : Look) (looks : List Look) → EachLook ps scope spot.position (l ∷ looks) → (i : Option ℕ) (w : Option Word) → entry_in ps w → ToldIn ps (path_from first scope spot l looks i w)
told-from ps first h scope spot l looks each (Some i) (Some w) m = told-path ps scope spot.position (step_bound scope.steps i w) (told-one w.place ps (step_bound scope.steps i w) m (told-step scope.steps i w)) looks each.2
told-from ps first h scope spot l looks each (Some i) None m = told-path ps scope spot.position (first scope (inside spot.position)) (h scope (inside spot.position)) (l ∷ looks) each
told-from ps first h scope spot l looks each None w m = told-path ps scope spot.position (first scope (inside spot.position)) (h scope (inside spot.position)) (l ∷ looks) each

entry-wide : (ps qs : Places) (w : Option Word) → Within ps qs → entry_in ps w → entry_in qs w
entry-wide ps qs None wide m = tt
entry-wide ps qs (Some w) wide m = wide w.place m

told-post : (first : GivenTerm) (gs : List GivenAccess) (scope : Scope) (spot : Spot) → ToldIn (term_places first.0 ++ places_of_all (map access_places (map (λ (g : GivenAccess). g.0) gs))) (post_of (term_read first.0) (map access_read (map (λ (g : GivenAccess). g.0) gs)) scope spot)
told-post first [] scope spot = told-wide (term_places first.0) (term_places first.0 ++ []) ((term_read first.0).bound scope spot) (member-left (term_places first.0) []) (first.1 scope spot)
told-post first (g ∷ gs) scope spot =
    let bare : GivenAccess → Access = λ (h : GivenAccess). h.0 in
    let ps : Places = term_places first.0 in
    let own : Places = access_places g.0 in
    let others : Places = places_of_all (map access_places (map bare gs)) in
    let all : Places = ps ++ (own ++ others) in
    let each : EachLook all scope spot.position (map access_read (map bare (g ∷ gs))) =
    each-of all bare access_read access_places (λ (qs : Places). qs) (λ (l : Look) (p : Looked) (k : Typed). with_look l.place p k) (λ (l : Look). l.key scope spot.position) (λ h. h.1.key scope spot.position)
    (λ h p k. told-one (access_read h.0).place (access_places h.0) (with_look (access_read h.0).place p k) h.1.sign (told-look (access_read h.0).place p k)) (g ∷ gs) (member-right ps (own ++ others)) in
    told-from all (term_read first.0).bound (λ s at. told-wide ps all ((term_read first.0).bound s at) (member-left ps (own ++ others)) (first.1 s at)) scope spot (access_read g.0) (map access_read (map bare gs)) each (step_named scope.steps (term_read first.0).name) (access_read g.0).entry
    (entry-wide own all (access_read g.0).entry (λ p m. member-right ps (own ++ others) p (member-left own others p m)) g.1.entry)

of-post : (y : Post-F GivenAccess GivenArg GivenCmp GivenSign GivenTerm GivenAnd GivenExpr GivenPost GivenProd GivenSum) → ToldPost (roll-Post (map-Post GivenAccess GivenArg GivenCmp GivenSign GivenTerm GivenAnd GivenExpr GivenPost GivenProd GivenSum Access Arg Cmp Sign Term And Expr Post Prod Sum bare_access bare_arg bare_cmp bare_sign bare_term bare_and bare_expr bare_post bare_prod bare_sum y))
unfolding bare_access bare_arg bare_cmp bare_sign bare_term bare_and bare_expr bare_post bare_prod bare_sum
of-post y scope spot = post-placed (map-Post GivenAccess GivenArg GivenCmp GivenSign GivenTerm GivenAnd GivenExpr GivenPost GivenProd GivenSum Access Arg Cmp Sign Term And Expr Post Prod Sum bare_access bare_arg bare_cmp bare_sign bare_term bare_and bare_expr bare_post bare_prod bare_sum y) scope spot _ (post-rolled (map-Post GivenAccess GivenArg GivenCmp GivenSign GivenTerm GivenAnd GivenExpr GivenPost GivenProd GivenSum Access Arg Cmp Sign Term And Expr Post Prod Sum bare_access bare_arg bare_cmp bare_sign bare_term bare_and bare_expr bare_post bare_prod bare_sum y) scope spot) (told-post y.first y.more scope spot)

-- The whole.

every-expr : (e : Expr) → ToldExpr e
unfolding bare_access bare_arg bare_cmp bare_sign bare_term bare_and bare_expr bare_post bare_prod bare_sum
every-expr = ind-Expr ToldAccess ToldArg ToldCmp ToldSign ToldTerm ToldAnd ToldExpr ToldPost ToldProd ToldSum
    (λ x y is. subst (λ (z : Access-F Access Arg Cmp Sign Term And Expr Post Prod Sum). ToldAccess (roll-Access z)) is (of-access y))
    (λ x y is. subst (λ (z : Arg-F Access Arg Cmp Sign Term And Expr Post Prod Sum). ToldArg (roll-Arg z)) is (of-arg y))
    (λ x y is. subst (λ (z : Cmp-F Access Arg Cmp Sign Term And Expr Post Prod Sum). ToldCmp (roll-Cmp z)) is (of-cmp y))
    (λ x y is. subst (λ (z : Sign-F Access Arg Cmp Sign Term And Expr Post Prod Sum). ToldSign (roll-Sign z)) is (of-sign y))
    (λ x y is. subst (λ (z : Term-F Access Arg Cmp Sign Term And Expr Post Prod Sum). ToldTerm (roll-Term z)) is (of-term y))
    (λ x y is. subst (λ (z : And-F Access Arg Cmp Sign Term And Expr Post Prod Sum). ToldAnd (roll-And z)) is (of-and y))
    (λ x y is. subst (λ (z : Expr-F Access Arg Cmp Sign Term And Expr Post Prod Sum). ToldExpr (roll-Expr z)) is (of-expr y))
    (λ x y is. subst (λ (z : Post-F Access Arg Cmp Sign Term And Expr Post Prod Sum). ToldPost (roll-Post z)) is (of-post y))
    (λ x y is. subst (λ (z : Prod-F Access Arg Cmp Sign Term And Expr Post Prod Sum). ToldProd (roll-Prod z)) is (of-prod y))
    (λ x y is. subst (λ (z : Sum-F Access Arg Cmp Sign Term And Expr Post Prod Sum). ToldSum (roll-Sum z)) is (of-sum y))

-- What is refused stands among the places.
place-of : (ps : Places) (r : Outcome Typed) (code : ℕ) (place : Place) → ToldIn ps r → r ≡ Err (fault.Refused code place) → Member place ps
place-of ps r code place h is =
    let told : ToldIn ps (Err (fault.Refused code place)) = subst (λ (x : Outcome Typed). ToldIn ps x) is h in
    told.holds

pub bound-placed : BoundIsPlaced
unfolding bound_expr
bound-placed e scope code place is =
    let spot : Spot = record { position = scope.position; alone = true } in
    contains-member (expr_places e) place (place-of (expr_places e) (expr_bound e scope spot) code place (every-expr e scope spot) is)

only : (a b : Place) → Member b (a ∷ []) → b ≡ a
only a b (inl e) = sym e
only a b (inr n) = absurd n

pub name-placed : NameIsPlaced
name-placed n scope code place is = only (name_place n) place (place-of (name_place n ∷ []) (name_bound n scope) code place (told-name n scope) is)

pub ruleset place_laws = (bound-placed, name-placed)
