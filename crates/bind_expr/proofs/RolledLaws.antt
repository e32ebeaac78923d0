-- What each level is bound to, by its parts: the equations of the definition at a tree that is made of these parts.
use Rattle.std.proofs.Common.{◌≡◌, List, [], ◌∷◌, map, refl, ap, ◌∙◌}
use Rattle.std.specs.Prelude.{Option, None, Some, Ok, fold}
use Rattle.kql_functions.specs.declared.func.LogicFunc.TheVariants as logic
use Rattle.kql_lexer.specs.declared.place.Place.{Place}
use Rattle.kql_syntax.specs.declared.tree.Access.{Access}
use Rattle.kql_syntax.specs.declared.tree.Access.TheOpen.{And-F, Cmp-F, Expr-F, Post-F, Prod-F, Sum-F, Term-F}
use Rattle.kql_syntax.specs.declared.tree.And.{And, para-roll-And, roll-And}
use Rattle.kql_syntax.specs.declared.tree.Arg.{Arg}
use Rattle.kql_syntax.specs.declared.tree.Cmp.{Cmp, para-roll-Cmp, roll-Cmp}
use Rattle.kql_syntax.specs.declared.tree.Expr.{Expr, para-roll-Expr, roll-Expr}
use Rattle.kql_syntax.specs.declared.tree.InSign.{InSign}
use Rattle.kql_syntax.specs.declared.tree.Post.{Post, para-roll-Post, roll-Post}
use Rattle.kql_syntax.specs.declared.tree.Prod.{Prod, para-roll-Prod, roll-Prod}
use Rattle.kql_syntax.specs.declared.tree.ProdSign.{ProdSign}
use Rattle.kql_syntax.specs.declared.tree.Sign.{Sign}
use Rattle.kql_syntax.specs.declared.tree.Sum.{Sum, para-roll-Sum, roll-Sum}
use Rattle.kql_syntax.specs.declared.tree.SumSign.{SumSign}
use Rattle.kql_syntax.specs.declared.tree.Term.{Term, para-roll-Term, roll-Term}
use Rattle.kql_syntax.specs.declared.tree.Word.{Word}
use Rattle.bind_expr.specs.Bound.{Binds, Look, Named, Takes, access_read, access_step, and_bound, and_link, and_step, arg_bound, arg_step, call_read, cmp_bound, cmp_step, expr_bound, expr_step, first_spot, inside, operand_link, or_link, post_bound, post_of, post_step, prod_bound, prod_link, prod_step, sign_bound, sign_step, sum_bound, sum_link, sum_step, term_read, term_step}
use Rattle.bind_expr.specs.Chains.{closed, opened}
use Rattle.bind_expr.specs.Comparisons.{in_node}
use Rattle.bind_expr.specs.Logic.{terms_closed, terms_opened}
use Rattle.bind_expr.specs.declared.scope.Scope.{Scope}
use Rattle.bind_expr.specs.declared.scope.Spot.{Spot}

-- Parts beside what they are bound to.

-- What parts are bound to, behind their signs.
bound-parts : {K X Y : Type 0} (f : X → Y) (xs : List (K × X)) → map {B = K × Y} (λ (l : K × (X × Y)). (l.0, l.1.1)) (map {B = K × (X × Y)} (λ (l : K × X). (l.0, (l.1, f l.1))) xs) ≡ map {B = K × Y} (λ (l : K × X). (l.0, f l.1)) xs
bound-parts f [] = refl
bound-parts f (x ∷ xs) = ap (λ ys. (x.0, f x.1) ∷ ys) (bound-parts f xs)

-- The same without signs, and the parts themselves.
bound-all : {X Y : Type 0} (f : X → Y) (xs : List X) → map {B = Y} (λ (p : X × Y). p.1) (map {B = X × Y} (λ (x : X). (x, f x)) xs) ≡ map f xs
bound-all f [] = refl
bound-all f (x ∷ xs) = ap (λ ys. f x ∷ ys) (bound-all f xs)

parts-all : {X Y : Type 0} (f : X → Y) (xs : List X) → map {B = X} (λ (p : X × Y). p.0) (map {B = X × Y} (λ (x : X). (x, f x)) xs) ≡ xs
parts-all f [] = refl
parts-all f (x ∷ xs) = ap (λ ys. x ∷ ys) (parts-all f xs)

first-parts : {K X Y : Type 0} (f : X → Y) (xs : List (K × X)) (spot : Spot) → first_spot (map {B = K × (X × Y)} (λ (l : K × X). (l.0, (l.1, f l.1))) xs) spot ≡ first_spot (map {B = K × Y} (λ (l : K × X). (l.0, f l.1)) xs) spot
first-parts f [] spot = refl
first-parts f (x ∷ xs) spot = refl

-- Levels.

pub expr-rolled : (y : Expr-F Access Arg Cmp Sign Term And Expr Post Prod Sum) (scope : Scope) (spot : Spot) → expr_bound (roll-Expr y) scope spot ≡ terms_closed logic.Or (fold (λ before (l : Place × Binds). or_link before l.0 (l.1 scope (inside spot.position))) (terms_opened (and_bound y.first scope (first_spot (map {B = Place × Binds} (λ (l : Place × And). (l.0, and_bound l.1)) y.more) spot))) (map {B = Place × Binds} (λ (l : Place × And). (l.0, and_bound l.1)) y.more))
unfolding expr_bound and_bound cmp_bound sum_bound prod_bound sign_bound post_bound access_read term_read arg_bound
expr-rolled y scope spot =
    ap (λ (f : Binds). f scope spot) (para-roll-Expr Look Takes Binds Binds Named Binds Binds Binds Binds Binds access_step arg_step cmp_step sign_step term_step and_step expr_step post_step prod_step sum_step y)
    ∙ (ap (λ (at : Spot). terms_closed logic.Or (fold (λ before (l : Place × Binds). or_link before l.0 (l.1 scope (inside spot.position))) (terms_opened (and_bound y.first scope at)) (map {B = Place × Binds} (λ (l : Place × (And × Binds)). (l.0, l.1.1)) (map {B = Place × (And × Binds)} (λ (l : Place × And). (l.0, (l.1, and_bound l.1))) y.more)))) (first-parts and_bound y.more spot)
    ∙ ap (λ (ls : List (Place × Binds)). terms_closed logic.Or (fold (λ before (l : Place × Binds). or_link before l.0 (l.1 scope (inside spot.position))) (terms_opened (and_bound y.first scope (first_spot (map {B = Place × Binds} (λ (l : Place × And). (l.0, and_bound l.1)) y.more) spot))) ls)) (bound-parts and_bound y.more))

pub and-rolled : (y : And-F Access Arg Cmp Sign Term And Expr Post Prod Sum) (scope : Scope) (spot : Spot) → and_bound (roll-And y) scope spot ≡ terms_closed logic.And (fold (λ before (l : Place × Binds). and_link before l.0 (l.1 scope (inside spot.position))) (terms_opened (cmp_bound y.first scope (first_spot (map {B = Place × Binds} (λ (l : Place × Cmp). (l.0, cmp_bound l.1)) y.more) spot))) (map {B = Place × Binds} (λ (l : Place × Cmp). (l.0, cmp_bound l.1)) y.more))
unfolding expr_bound and_bound cmp_bound sum_bound prod_bound sign_bound post_bound access_read term_read arg_bound
and-rolled y scope spot =
    ap (λ (f : Binds). f scope spot) (para-roll-And Look Takes Binds Binds Named Binds Binds Binds Binds Binds access_step arg_step cmp_step sign_step term_step and_step expr_step post_step prod_step sum_step y)
    ∙ (ap (λ (at : Spot). terms_closed logic.And (fold (λ before (l : Place × Binds). and_link before l.0 (l.1 scope (inside spot.position))) (terms_opened (cmp_bound y.first scope at)) (map {B = Place × Binds} (λ (l : Place × (Cmp × Binds)). (l.0, l.1.1)) (map {B = Place × (Cmp × Binds)} (λ (l : Place × Cmp). (l.0, (l.1, cmp_bound l.1))) y.more)))) (first-parts cmp_bound y.more spot)
    ∙ ap (λ (ls : List (Place × Binds)). terms_closed logic.And (fold (λ before (l : Place × Binds). and_link before l.0 (l.1 scope (inside spot.position))) (terms_opened (cmp_bound y.first scope (first_spot (map {B = Place × Binds} (λ (l : Place × Cmp). (l.0, cmp_bound l.1)) y.more) spot))) ls)) (bound-parts cmp_bound y.more))

pub sum-rolled : (y : Sum-F Access Arg Cmp Sign Term And Expr Post Prod Sum) (scope : Scope) (spot : Spot) → sum_bound (roll-Sum y) scope spot ≡ closed (fold (λ before (l : SumSign × Binds). sum_link before l.0 (l.1 scope (inside spot.position))) (opened (prod_bound y.first scope (first_spot (map {B = SumSign × Binds} (λ (l : SumSign × Prod). (l.0, prod_bound l.1)) y.more) spot))) (map {B = SumSign × Binds} (λ (l : SumSign × Prod). (l.0, prod_bound l.1)) y.more))
unfolding expr_bound and_bound cmp_bound sum_bound prod_bound sign_bound post_bound access_read term_read arg_bound
sum-rolled y scope spot =
    ap (λ (f : Binds). f scope spot) (para-roll-Sum Look Takes Binds Binds Named Binds Binds Binds Binds Binds access_step arg_step cmp_step sign_step term_step and_step expr_step post_step prod_step sum_step y)
    ∙ (ap (λ (at : Spot). closed (fold (λ before (l : SumSign × Binds). sum_link before l.0 (l.1 scope (inside spot.position))) (opened (prod_bound y.first scope at)) (map {B = SumSign × Binds} (λ (l : SumSign × (Prod × Binds)). (l.0, l.1.1)) (map {B = SumSign × (Prod × Binds)} (λ (l : SumSign × Prod). (l.0, (l.1, prod_bound l.1))) y.more)))) (first-parts prod_bound y.more spot)
    ∙ ap (λ (ls : List (SumSign × Binds)). closed (fold (λ before (l : SumSign × Binds). sum_link before l.0 (l.1 scope (inside spot.position))) (opened (prod_bound y.first scope (first_spot (map {B = SumSign × Binds} (λ (l : SumSign × Prod). (l.0, prod_bound l.1)) y.more) spot))) ls)) (bound-parts prod_bound y.more))

pub prod-rolled : (y : Prod-F Access Arg Cmp Sign Term And Expr Post Prod Sum) (scope : Scope) (spot : Spot) → prod_bound (roll-Prod y) scope spot ≡ closed (fold (λ before (l : ProdSign × Binds). prod_link before l.0 (l.1 scope (inside spot.position))) (opened (sign_bound y.first scope (first_spot (map {B = ProdSign × Binds} (λ (l : ProdSign × Sign). (l.0, sign_bound l.1)) y.more) spot))) (map {B = ProdSign × Binds} (λ (l : ProdSign × Sign). (l.0, sign_bound l.1)) y.more))
unfolding expr_bound and_bound cmp_bound sum_bound prod_bound sign_bound post_bound access_read term_read arg_bound
prod-rolled y scope spot =
    ap (λ (f : Binds). f scope spot) (para-roll-Prod Look Takes Binds Binds Named Binds Binds Binds Binds Binds access_step arg_step cmp_step sign_step term_step and_step expr_step post_step prod_step sum_step y)
    ∙ (ap (λ (at : Spot). closed (fold (λ before (l : ProdSign × Binds). prod_link before l.0 (l.1 scope (inside spot.position))) (opened (sign_bound y.first scope at)) (map {B = ProdSign × Binds} (λ (l : ProdSign × (Sign × Binds)). (l.0, l.1.1)) (map {B = ProdSign × (Sign × Binds)} (λ (l : ProdSign × Sign). (l.0, (l.1, sign_bound l.1))) y.more)))) (first-parts sign_bound y.more spot)
    ∙ ap (λ (ls : List (ProdSign × Binds)). closed (fold (λ before (l : ProdSign × Binds). prod_link before l.0 (l.1 scope (inside spot.position))) (opened (sign_bound y.first scope (first_spot (map {B = ProdSign × Binds} (λ (l : ProdSign × Sign). (l.0, sign_bound l.1)) y.more) spot))) ls)) (bound-parts sign_bound y.more))

pub in-rolled : (s : Sum) (sign : InSign) (es : List Expr) (scope : Scope) (spot : Spot) → cmp_bound (roll-Cmp (Cmp-F.In s sign es)) scope spot ≡ in_node sign (fold (λ before (e : Binds). operand_link before (e scope (inside spot.position))) (operand_link (Ok []) (sum_bound s scope (inside spot.position))) (map expr_bound es))
unfolding expr_bound and_bound cmp_bound sum_bound prod_bound sign_bound post_bound access_read term_read arg_bound
in-rolled s sign es scope spot =
    ap (λ (f : Binds). f scope spot) (para-roll-Cmp Look Takes Binds Binds Named Binds Binds Binds Binds Binds access_step arg_step cmp_step sign_step term_step and_step expr_step post_step prod_step sum_step (Cmp-F.In s sign es))
    ∙ ap (λ (bs : List Binds). in_node sign (fold (λ before (e : Binds). operand_link before (e scope (inside spot.position))) (operand_link (Ok []) (sum_bound s scope (inside spot.position))) bs)) (bound-all expr_bound es)

pub call-rolled : (w : Word) (args : List Arg) → term_read (roll-Term (Term-F.Call w args)) ≡ call_read w args (map arg_bound args)
unfolding expr_bound and_bound cmp_bound sum_bound prod_bound sign_bound post_bound access_read term_read arg_bound
call-rolled w args =
    para-roll-Term Look Takes Binds Binds Named Binds Binds Binds Binds Binds access_step arg_step cmp_step sign_step term_step and_step expr_step post_step prod_step sum_step (Term-F.Call w args)
    ∙ (ap (λ (all : List Arg). call_read w all (map {B = Takes} (λ (a : Arg × Takes). a.1) (map {B = Arg × Takes} (λ (a : Arg). (a, arg_bound a)) args))) (parts-all arg_bound args)
    ∙ ap (call_read w args) (bound-all arg_bound args))

pub post-rolled : (y : Post-F Access Arg Cmp Sign Term And Expr Post Prod Sum) (scope : Scope) (spot : Spot) → post_bound (roll-Post y) scope spot ≡ post_of (term_read y.first) (map access_read y.more) scope spot
unfolding expr_bound and_bound cmp_bound sum_bound prod_bound sign_bound post_bound access_read term_read arg_bound
post-rolled y scope spot =
    ap (λ (f : Binds). f scope spot) (para-roll-Post Look Takes Binds Binds Named Binds Binds Binds Binds Binds access_step arg_step cmp_step sign_step term_step and_step expr_step post_step prod_step sum_step y)
    ∙ ap (λ (ls : List Look). post_of (term_read y.first) ls scope spot) (bound-all access_read y.more)
