-- Where an expression begins is one of its places.
use Rattle.std.proofs.Common.{◌≡◌, [], map, refl, sym, subst, inl, inr}
use Rattle.kql_lexer.specs.declared.place.Place.{Place}
use Rattle.kql_meaning.proofs.MemberLaws.{Member, member-left}
use Rattle.kql_syntax.specs.declared.tree.Access.TheOpen.{Access-F, And-F, Arg-F, Cmp-F, Expr-F, Post-F, Prod-F, Sign-F, Sum-F, Term-F}
use Rattle.kql_syntax.specs.declared.tree.Access.{Access, fold-Access}
use Rattle.kql_syntax.specs.declared.tree.Arg.{Arg, fold-Arg}
use Rattle.kql_syntax.specs.declared.tree.Cmp.{Cmp, fold-Cmp, fold-roll-Cmp, map-Cmp, out-Cmp, roll-Cmp, roll-out-Cmp}
use Rattle.kql_syntax.specs.declared.tree.Sign.{Sign, fold-Sign, fold-roll-Sign, map-Sign, out-Sign, roll-Sign, roll-out-Sign}
use Rattle.kql_syntax.specs.declared.tree.Term.{Term, fold-Term, fold-roll-Term, map-Term, out-Term, roll-Term, roll-out-Term}
use Rattle.kql_syntax.specs.declared.tree.And.{And, fold-And, fold-roll-And, map-And, out-And, roll-And, roll-out-And}
use Rattle.kql_syntax.specs.declared.tree.Expr.{Expr, fold-roll-Expr, ind-Expr, map-Expr, out-Expr, roll-Expr, roll-out-Expr}
use Rattle.kql_syntax.specs.declared.tree.Post.{Post, fold-Post, fold-roll-Post, map-Post, out-Post, roll-Post, roll-out-Post}
use Rattle.kql_syntax.specs.declared.tree.Prod.{Prod, fold-Prod, fold-roll-Prod, map-Prod, out-Prod, roll-Prod, roll-out-Prod}
use Rattle.kql_syntax.specs.declared.tree.Sum.{Sum, fold-Sum, fold-roll-Sum, map-Sum, out-Sum, roll-Sum, roll-out-Sum}
use Rattle.kql_syntax.specs.declared.tree.Literal.{Literal}
use Rattle.kql_syntax.specs.declared.tree.Literal.TheVariants as literal
use Rattle.kql_syntax.specs.declared.tree.Name.{Name}
use Rattle.kql_syntax.specs.declared.tree.Name.TheVariants as name
use Rattle.bind_expr_laws.specs.Places.{Places, access_places_step, and_places_step, arg_places_step, cmp_places_step, expr_places, expr_places_step, literal_place as literal_at, name_place as name_at, post_places_step, prod_places_step, sign_places_step, sum_places_step, term_places_step}
use Rattle.bind_operators.specs.Places.{and_inside, cmp_inside, cmp_place, cmp_place_step, expr_inside, expr_start, inner_access, inner_and, inner_arg, inner_cmp, inner_expr, inner_post, inner_prod, inner_sign, inner_sum, inner_term, literal_place, name_place, post_inside, post_start, prod_inside, sign_inside, sign_place, sign_place_step, sum_inside, sum_start, term_inside, term_place, term_place_step}

access_places : Access → Places
access_places = fold-Access Places Places Places Places Places Places Places Places Places Places access_places_step arg_places_step cmp_places_step sign_places_step term_places_step and_places_step expr_places_step post_places_step prod_places_step sum_places_step

arg_places : Arg → Places
arg_places = fold-Arg Places Places Places Places Places Places Places Places Places Places access_places_step arg_places_step cmp_places_step sign_places_step term_places_step and_places_step expr_places_step post_places_step prod_places_step sum_places_step

cmp_places : Cmp → Places
cmp_places = fold-Cmp Places Places Places Places Places Places Places Places Places Places access_places_step arg_places_step cmp_places_step sign_places_step term_places_step and_places_step expr_places_step post_places_step prod_places_step sum_places_step

sign_places : Sign → Places
sign_places = fold-Sign Places Places Places Places Places Places Places Places Places Places access_places_step arg_places_step cmp_places_step sign_places_step term_places_step and_places_step expr_places_step post_places_step prod_places_step sum_places_step

term_places : Term → Places
term_places = fold-Term Places Places Places Places Places Places Places Places Places Places access_places_step arg_places_step cmp_places_step sign_places_step term_places_step and_places_step expr_places_step post_places_step prod_places_step sum_places_step

and_places : And → Places
and_places = fold-And Places Places Places Places Places Places Places Places Places Places access_places_step arg_places_step cmp_places_step sign_places_step term_places_step and_places_step expr_places_step post_places_step prod_places_step sum_places_step

post_places : Post → Places
post_places = fold-Post Places Places Places Places Places Places Places Places Places Places access_places_step arg_places_step cmp_places_step sign_places_step term_places_step and_places_step expr_places_step post_places_step prod_places_step sum_places_step

prod_places : Prod → Places
prod_places = fold-Prod Places Places Places Places Places Places Places Places Places Places access_places_step arg_places_step cmp_places_step sign_places_step term_places_step and_places_step expr_places_step post_places_step prod_places_step sum_places_step

sum_places : Sum → Places
sum_places = fold-Sum Places Places Places Places Places Places Places Places Places Places access_places_step arg_places_step cmp_places_step sign_places_step term_places_step and_places_step expr_places_step post_places_step prod_places_step sum_places_step

-- The place of a name, and that of a literal.
pub name-same : (n : Name) → name_at n ≡ name_place n
unfolding name_place
name-same (name.Bare w) = refl
name-same (name.Quoted place n) = refl

literal-same : (l : Literal) → literal_at l ≡ literal_place l
unfolding literal_place
literal-same (literal.Number place n) = refl
literal-same (literal.Span place n) = refl
literal-same (literal.Text place text) = refl
literal-same (literal.True place) = refl
literal-same (literal.False place) = refl
literal-same (literal.Typed place w text) = refl

start-term-of : (y : Term-F Access Arg Cmp Sign Term And Expr Post Prod Sum) → Member (term_place_step y) (term_places (roll-Term y))
unfolding access_places arg_places cmp_places sign_places term_places and_places expr_places post_places prod_places sum_places name_place literal_place
start-term-of (Term-F.Literal l) = subst (λ (x : Places). Member (literal_place l) x) (sym (fold-roll-Term Places Places Places Places Places Places Places Places Places Places access_places_step arg_places_step cmp_places_step sign_places_step term_places_step and_places_step expr_places_step post_places_step prod_places_step sum_places_step (Term-F.Literal l))) (inl (literal-same l))
start-term-of (Term-F.Name n) = subst (λ (x : Places). Member (name_place n) x) (sym (fold-roll-Term Places Places Places Places Places Places Places Places Places Places access_places_step arg_places_step cmp_places_step sign_places_step term_places_step and_places_step expr_places_step post_places_step prod_places_step sum_places_step (Term-F.Name n))) (inl (name-same n))
start-term-of (Term-F.Call w args) = subst (λ (x : Places). Member w.place x) (sym (fold-roll-Term Places Places Places Places Places Places Places Places Places Places access_places_step arg_places_step cmp_places_step sign_places_step term_places_step and_places_step expr_places_step post_places_step prod_places_step sum_places_step (Term-F.Call w args))) (inl refl)
start-term-of (Term-F.Group place e) = subst (λ (x : Places). Member place x) (sym (fold-roll-Term Places Places Places Places Places Places Places Places Places Places access_places_step arg_places_step cmp_places_step sign_places_step term_places_step and_places_step expr_places_step post_places_step prod_places_step sum_places_step (Term-F.Group place e))) (inl refl)

start-term : (x : Term) → Member (term_place x) (term_places x)
unfolding term_place
start-term x = subst (λ (z : Term). Member (term_place x) (term_places z)) (roll-out-Term x) (start-term-of (out-Term x))

start-post : (x : Post) → Member (post_start x) (post_places x)
unfolding access_places arg_places cmp_places sign_places term_places and_places expr_places post_places prod_places sum_places
start-post x = subst (λ (z : Post). Member (post_start x) (post_places z)) (roll-out-Post x) (subst (λ (ps : Places). Member (post_start x) ps) (sym (fold-roll-Post Places Places Places Places Places Places Places Places Places Places access_places_step arg_places_step cmp_places_step sign_places_step term_places_step and_places_step expr_places_step post_places_step prod_places_step sum_places_step (out-Post x))) (member-left (term_places (out-Post x).first) _ (post_start x) (start-term (out-Post x).first)))

start-sign-of : (y : Sign-F Access Arg Cmp Sign Term And Expr Post Prod Sum) → Member (sign_place_step post_start y) (sign_places (roll-Sign y))
unfolding access_places arg_places cmp_places sign_places term_places and_places expr_places post_places prod_places sum_places name_place literal_place
start-sign-of (Sign-F.«Sign::Plain» p) = subst (λ (x : Places). Member (post_start p) x) (sym (fold-roll-Sign Places Places Places Places Places Places Places Places Places Places access_places_step arg_places_step cmp_places_step sign_places_step term_places_step and_places_step expr_places_step post_places_step prod_places_step sum_places_step (Sign-F.«Sign::Plain» p))) (start-post p)
start-sign-of (Sign-F.Minus place p) = subst (λ (x : Places). Member place x) (sym (fold-roll-Sign Places Places Places Places Places Places Places Places Places Places access_places_step arg_places_step cmp_places_step sign_places_step term_places_step and_places_step expr_places_step post_places_step prod_places_step sum_places_step (Sign-F.Minus place p))) (inl refl)

start-sign : (x : Sign) → Member (sign_place x) (sign_places x)
unfolding sign_place
start-sign x = subst (λ (z : Sign). Member (sign_place x) (sign_places z)) (roll-out-Sign x) (start-sign-of (out-Sign x))

prod_start : Prod → Place
prod_start p = sign_place (out-Prod p).first

start-prod : (x : Prod) → Member (prod_start x) (prod_places x)
unfolding access_places arg_places cmp_places sign_places term_places and_places expr_places post_places prod_places sum_places prod_start
start-prod x = subst (λ (z : Prod). Member (prod_start x) (prod_places z)) (roll-out-Prod x) (subst (λ (ps : Places). Member (prod_start x) ps) (sym (fold-roll-Prod Places Places Places Places Places Places Places Places Places Places access_places_step arg_places_step cmp_places_step sign_places_step term_places_step and_places_step expr_places_step post_places_step prod_places_step sum_places_step (out-Prod x))) (member-left (sign_places (out-Prod x).first) _ (prod_start x) (start-sign (out-Prod x).first)))

start-sum : (x : Sum) → Member (sum_start x) (sum_places x)
unfolding access_places arg_places cmp_places sign_places term_places and_places expr_places post_places prod_places sum_places sum_start prod_start
start-sum x = subst (λ (z : Sum). Member (sum_start x) (sum_places z)) (roll-out-Sum x) (subst (λ (ps : Places). Member (sum_start x) ps) (sym (fold-roll-Sum Places Places Places Places Places Places Places Places Places Places access_places_step arg_places_step cmp_places_step sign_places_step term_places_step and_places_step expr_places_step post_places_step prod_places_step sum_places_step (out-Sum x))) (member-left (prod_places (out-Sum x).first) _ (sum_start x) (start-prod (out-Sum x).first)))

start-cmp-of : (y : Cmp-F Access Arg Cmp Sign Term And Expr Post Prod Sum) → Member (cmp_place_step sum_start y) (cmp_places (roll-Cmp y))
unfolding access_places arg_places cmp_places sign_places term_places and_places expr_places post_places prod_places sum_places name_place literal_place
start-cmp-of (Cmp-F.«Cmp::Plain» s) = subst (λ (x : Places). Member (sum_start s) x) (sym (fold-roll-Cmp Places Places Places Places Places Places Places Places Places Places access_places_step arg_places_step cmp_places_step sign_places_step term_places_step and_places_step expr_places_step post_places_step prod_places_step sum_places_step (Cmp-F.«Cmp::Plain» s))) (start-sum s)
start-cmp-of (Cmp-F.Compared s sign other) = subst (λ (x : Places). Member (sum_start s) x) (sym (fold-roll-Cmp Places Places Places Places Places Places Places Places Places Places access_places_step arg_places_step cmp_places_step sign_places_step term_places_step and_places_step expr_places_step post_places_step prod_places_step sum_places_step (Cmp-F.Compared s sign other))) (member-left (sum_places s) _ (sum_start s) (start-sum s))
start-cmp-of (Cmp-F.In s sign others) = subst (λ (x : Places). Member (sum_start s) x) (sym (fold-roll-Cmp Places Places Places Places Places Places Places Places Places Places access_places_step arg_places_step cmp_places_step sign_places_step term_places_step and_places_step expr_places_step post_places_step prod_places_step sum_places_step (Cmp-F.In s sign others))) (member-left (sum_places s) _ (sum_start s) (start-sum s))
start-cmp-of (Cmp-F.Between s sign bounds) = subst (λ (x : Places). Member (sum_start s) x) (sym (fold-roll-Cmp Places Places Places Places Places Places Places Places Places Places access_places_step arg_places_step cmp_places_step sign_places_step term_places_step and_places_step expr_places_step post_places_step prod_places_step sum_places_step (Cmp-F.Between s sign bounds))) (member-left (sum_places s) _ (sum_start s) (start-sum s))

start-cmp : (x : Cmp) → Member (cmp_place x) (cmp_places x)
unfolding cmp_place
start-cmp x = subst (λ (z : Cmp). Member (cmp_place x) (cmp_places z)) (roll-out-Cmp x) (start-cmp-of (out-Cmp x))

and_start : And → Place
and_start a = cmp_place (out-And a).first

start-and : (x : And) → Member (and_start x) (and_places x)
unfolding access_places arg_places cmp_places sign_places term_places and_places expr_places post_places prod_places sum_places and_start
start-and x = subst (λ (z : And). Member (and_start x) (and_places z)) (roll-out-And x) (subst (λ (ps : Places). Member (and_start x) ps) (sym (fold-roll-And Places Places Places Places Places Places Places Places Places Places access_places_step arg_places_step cmp_places_step sign_places_step term_places_step and_places_step expr_places_step post_places_step prod_places_step sum_places_step (out-And x))) (member-left (cmp_places (out-And x).first) _ (and_start x) (start-cmp (out-And x).first)))

pub start-expr : (x : Expr) → Member (expr_start x) (expr_places x)
unfolding access_places arg_places cmp_places sign_places term_places and_places expr_places post_places prod_places sum_places expr_start and_start
start-expr x = subst (λ (z : Expr). Member (expr_start x) (expr_places z)) (roll-out-Expr x) (subst (λ (ps : Places). Member (expr_start x) ps) (sym (fold-roll-Expr Places Places Places Places Places Places Places Places Places Places access_places_step arg_places_step cmp_places_step sign_places_step term_places_step and_places_step expr_places_step post_places_step prod_places_step sum_places_step (out-Expr x))) (member-left (and_places (out-Expr x).first) _ (expr_start x) (start-and (out-Expr x).first)))

-- The first token within brackets is one of its places too, by induction over its tree.

along : (a b : Place) (ps qs : Places) → a ≡ b → ps ≡ qs → Member b qs → Member a ps
along a b ps qs e f m = subst (λ (xs : Places). Member a xs) (sym f) (subst (λ (x : Place). Member x qs) (sym e) m)

abbrev InAccess : Access → Type 0
InAccess x = Unit {0}

abbrev GivenAccess : Type 0
GivenAccess = (x : Access) × InAccess x

bare_access : GivenAccess → Access
bare_access g = g.0

abbrev InArg : Arg → Type 0
InArg x = Unit {0}

abbrev GivenArg : Type 0
GivenArg = (x : Arg) × InArg x

bare_arg : GivenArg → Arg
bare_arg g = g.0

abbrev InCmp : Cmp → Type 0
InCmp x = Member (cmp_inside x) (cmp_places x)

abbrev GivenCmp : Type 0
GivenCmp = (x : Cmp) × InCmp x

bare_cmp : GivenCmp → Cmp
bare_cmp g = g.0

abbrev InSign : Sign → Type 0
InSign x = Member (sign_inside x) (sign_places x)

abbrev GivenSign : Type 0
GivenSign = (x : Sign) × InSign x

bare_sign : GivenSign → Sign
bare_sign g = g.0

abbrev InTerm : Term → Type 0
InTerm x = Member (term_inside x) (term_places x)

abbrev GivenTerm : Type 0
GivenTerm = (x : Term) × InTerm x

bare_term : GivenTerm → Term
bare_term g = g.0

abbrev InAnd : And → Type 0
InAnd x = Member (and_inside x) (and_places x)

abbrev GivenAnd : Type 0
GivenAnd = (x : And) × InAnd x

bare_and : GivenAnd → And
bare_and g = g.0

abbrev InExpr : Expr → Type 0
InExpr x = Member (expr_inside x) (expr_places x)

abbrev GivenExpr : Type 0
GivenExpr = (x : Expr) × InExpr x

bare_expr : GivenExpr → Expr
bare_expr g = g.0

abbrev InPost : Post → Type 0
InPost x = Member (post_inside x) (post_places x)

abbrev GivenPost : Type 0
GivenPost = (x : Post) × InPost x

bare_post : GivenPost → Post
bare_post g = g.0

abbrev InProd : Prod → Type 0
InProd x = Member (prod_inside x) (prod_places x)

abbrev GivenProd : Type 0
GivenProd = (x : Prod) × InProd x

bare_prod : GivenProd → Prod
bare_prod g = g.0

abbrev InSum : Sum → Type 0
InSum x = Member (sum_inside x) (sum_places x)

abbrev GivenSum : Type 0
GivenSum = (x : Sum) × InSum x

bare_sum : GivenSum → Sum
bare_sum g = g.0

access_at : Access → Place
access_at = fold-Access Place Place Place Place Place Place Place Place Place Place inner_access inner_arg inner_cmp inner_sign inner_term inner_and inner_expr inner_post inner_prod inner_sum

arg_at : Arg → Place
arg_at = fold-Arg Place Place Place Place Place Place Place Place Place Place inner_access inner_arg inner_cmp inner_sign inner_term inner_and inner_expr inner_post inner_prod inner_sum

term-rolled : (f : Term-F Access Arg Cmp Sign Term And Expr Post Prod Sum) → Member (inner_term (map-Term Access Arg Cmp Sign Term And Expr Post Prod Sum Place Place Place Place Place Place Place Place Place Place access_at arg_at cmp_inside sign_inside term_inside and_inside expr_inside post_inside prod_inside sum_inside f)) (term_places_step (map-Term Access Arg Cmp Sign Term And Expr Post Prod Sum Places Places Places Places Places Places Places Places Places Places access_places arg_places cmp_places sign_places term_places and_places expr_places post_places prod_places sum_places f)) → InTerm (roll-Term f)
unfolding access_places arg_places cmp_places sign_places term_places and_places expr_places post_places prod_places sum_places term_inside post_inside sign_inside prod_inside sum_inside cmp_inside and_inside expr_inside access_at arg_at
term-rolled f m = along (term_inside (roll-Term f)) (inner_term (map-Term Access Arg Cmp Sign Term And Expr Post Prod Sum Place Place Place Place Place Place Place Place Place Place access_at arg_at cmp_inside sign_inside term_inside and_inside expr_inside post_inside prod_inside sum_inside f)) (term_places (roll-Term f)) (term_places_step (map-Term Access Arg Cmp Sign Term And Expr Post Prod Sum Places Places Places Places Places Places Places Places Places Places access_places arg_places cmp_places sign_places term_places and_places expr_places post_places prod_places sum_places f)) (fold-roll-Term Place Place Place Place Place Place Place Place Place Place inner_access inner_arg inner_cmp inner_sign inner_term inner_and inner_expr inner_post inner_prod inner_sum f) (fold-roll-Term Places Places Places Places Places Places Places Places Places Places access_places_step arg_places_step cmp_places_step sign_places_step term_places_step and_places_step expr_places_step post_places_step prod_places_step sum_places_step f) m

of-term : (y : Term-F GivenAccess GivenArg GivenCmp GivenSign GivenTerm GivenAnd GivenExpr GivenPost GivenProd GivenSum) → InTerm (roll-Term (map-Term GivenAccess GivenArg GivenCmp GivenSign GivenTerm GivenAnd GivenExpr GivenPost GivenProd GivenSum Access Arg Cmp Sign Term And Expr Post Prod Sum bare_access bare_arg bare_cmp bare_sign bare_term bare_and bare_expr bare_post bare_prod bare_sum y))
unfolding bare_access bare_arg bare_cmp bare_sign bare_term bare_and bare_expr bare_post bare_prod bare_sum literal_place name_place
of-term (Term-F.Literal l) = term-rolled (Term-F.Literal l) (inl (literal-same l))
of-term (Term-F.Name n) = term-rolled (Term-F.Name n) (inl (name-same n))
of-term (Term-F.Call w args) = term-rolled (Term-F.Call w (map bare_arg args)) (inl refl)
of-term (Term-F.Group place e) = term-rolled (Term-F.Group place e.0) (inr e.1)

post-rolled : (f : Post-F Access Arg Cmp Sign Term And Expr Post Prod Sum) → Member (inner_post (map-Post Access Arg Cmp Sign Term And Expr Post Prod Sum Place Place Place Place Place Place Place Place Place Place access_at arg_at cmp_inside sign_inside term_inside and_inside expr_inside post_inside prod_inside sum_inside f)) (post_places_step (map-Post Access Arg Cmp Sign Term And Expr Post Prod Sum Places Places Places Places Places Places Places Places Places Places access_places arg_places cmp_places sign_places term_places and_places expr_places post_places prod_places sum_places f)) → InPost (roll-Post f)
unfolding access_places arg_places cmp_places sign_places term_places and_places expr_places post_places prod_places sum_places term_inside post_inside sign_inside prod_inside sum_inside cmp_inside and_inside expr_inside access_at arg_at
post-rolled f m = along (post_inside (roll-Post f)) (inner_post (map-Post Access Arg Cmp Sign Term And Expr Post Prod Sum Place Place Place Place Place Place Place Place Place Place access_at arg_at cmp_inside sign_inside term_inside and_inside expr_inside post_inside prod_inside sum_inside f)) (post_places (roll-Post f)) (post_places_step (map-Post Access Arg Cmp Sign Term And Expr Post Prod Sum Places Places Places Places Places Places Places Places Places Places access_places arg_places cmp_places sign_places term_places and_places expr_places post_places prod_places sum_places f)) (fold-roll-Post Place Place Place Place Place Place Place Place Place Place inner_access inner_arg inner_cmp inner_sign inner_term inner_and inner_expr inner_post inner_prod inner_sum f) (fold-roll-Post Places Places Places Places Places Places Places Places Places Places access_places_step arg_places_step cmp_places_step sign_places_step term_places_step and_places_step expr_places_step post_places_step prod_places_step sum_places_step f) m

of-post : (y : Post-F GivenAccess GivenArg GivenCmp GivenSign GivenTerm GivenAnd GivenExpr GivenPost GivenProd GivenSum) → InPost (roll-Post (map-Post GivenAccess GivenArg GivenCmp GivenSign GivenTerm GivenAnd GivenExpr GivenPost GivenProd GivenSum Access Arg Cmp Sign Term And Expr Post Prod Sum bare_access bare_arg bare_cmp bare_sign bare_term bare_and bare_expr bare_post bare_prod bare_sum y))
unfolding bare_access bare_arg bare_cmp bare_sign bare_term bare_and bare_expr bare_post bare_prod bare_sum literal_place name_place
of-post y = post-rolled (map-Post GivenAccess GivenArg GivenCmp GivenSign GivenTerm GivenAnd GivenExpr GivenPost GivenProd GivenSum Access Arg Cmp Sign Term And Expr Post Prod Sum bare_access bare_arg bare_cmp bare_sign bare_term bare_and bare_expr bare_post bare_prod bare_sum y) (member-left (term_places y.first.0) _ (term_inside y.first.0) y.first.1)

sign-rolled : (f : Sign-F Access Arg Cmp Sign Term And Expr Post Prod Sum) → Member (inner_sign (map-Sign Access Arg Cmp Sign Term And Expr Post Prod Sum Place Place Place Place Place Place Place Place Place Place access_at arg_at cmp_inside sign_inside term_inside and_inside expr_inside post_inside prod_inside sum_inside f)) (sign_places_step (map-Sign Access Arg Cmp Sign Term And Expr Post Prod Sum Places Places Places Places Places Places Places Places Places Places access_places arg_places cmp_places sign_places term_places and_places expr_places post_places prod_places sum_places f)) → InSign (roll-Sign f)
unfolding access_places arg_places cmp_places sign_places term_places and_places expr_places post_places prod_places sum_places term_inside post_inside sign_inside prod_inside sum_inside cmp_inside and_inside expr_inside access_at arg_at
sign-rolled f m = along (sign_inside (roll-Sign f)) (inner_sign (map-Sign Access Arg Cmp Sign Term And Expr Post Prod Sum Place Place Place Place Place Place Place Place Place Place access_at arg_at cmp_inside sign_inside term_inside and_inside expr_inside post_inside prod_inside sum_inside f)) (sign_places (roll-Sign f)) (sign_places_step (map-Sign Access Arg Cmp Sign Term And Expr Post Prod Sum Places Places Places Places Places Places Places Places Places Places access_places arg_places cmp_places sign_places term_places and_places expr_places post_places prod_places sum_places f)) (fold-roll-Sign Place Place Place Place Place Place Place Place Place Place inner_access inner_arg inner_cmp inner_sign inner_term inner_and inner_expr inner_post inner_prod inner_sum f) (fold-roll-Sign Places Places Places Places Places Places Places Places Places Places access_places_step arg_places_step cmp_places_step sign_places_step term_places_step and_places_step expr_places_step post_places_step prod_places_step sum_places_step f) m

of-sign : (y : Sign-F GivenAccess GivenArg GivenCmp GivenSign GivenTerm GivenAnd GivenExpr GivenPost GivenProd GivenSum) → InSign (roll-Sign (map-Sign GivenAccess GivenArg GivenCmp GivenSign GivenTerm GivenAnd GivenExpr GivenPost GivenProd GivenSum Access Arg Cmp Sign Term And Expr Post Prod Sum bare_access bare_arg bare_cmp bare_sign bare_term bare_and bare_expr bare_post bare_prod bare_sum y))
unfolding bare_access bare_arg bare_cmp bare_sign bare_term bare_and bare_expr bare_post bare_prod bare_sum literal_place name_place
of-sign (Sign-F.«Sign::Plain» p) = sign-rolled (Sign-F.«Sign::Plain» p.0) (p.1)
of-sign (Sign-F.Minus place p) = sign-rolled (Sign-F.Minus place p.0) (inl refl)

prod-rolled : (f : Prod-F Access Arg Cmp Sign Term And Expr Post Prod Sum) → Member (inner_prod (map-Prod Access Arg Cmp Sign Term And Expr Post Prod Sum Place Place Place Place Place Place Place Place Place Place access_at arg_at cmp_inside sign_inside term_inside and_inside expr_inside post_inside prod_inside sum_inside f)) (prod_places_step (map-Prod Access Arg Cmp Sign Term And Expr Post Prod Sum Places Places Places Places Places Places Places Places Places Places access_places arg_places cmp_places sign_places term_places and_places expr_places post_places prod_places sum_places f)) → InProd (roll-Prod f)
unfolding access_places arg_places cmp_places sign_places term_places and_places expr_places post_places prod_places sum_places term_inside post_inside sign_inside prod_inside sum_inside cmp_inside and_inside expr_inside access_at arg_at
prod-rolled f m = along (prod_inside (roll-Prod f)) (inner_prod (map-Prod Access Arg Cmp Sign Term And Expr Post Prod Sum Place Place Place Place Place Place Place Place Place Place access_at arg_at cmp_inside sign_inside term_inside and_inside expr_inside post_inside prod_inside sum_inside f)) (prod_places (roll-Prod f)) (prod_places_step (map-Prod Access Arg Cmp Sign Term And Expr Post Prod Sum Places Places Places Places Places Places Places Places Places Places access_places arg_places cmp_places sign_places term_places and_places expr_places post_places prod_places sum_places f)) (fold-roll-Prod Place Place Place Place Place Place Place Place Place Place inner_access inner_arg inner_cmp inner_sign inner_term inner_and inner_expr inner_post inner_prod inner_sum f) (fold-roll-Prod Places Places Places Places Places Places Places Places Places Places access_places_step arg_places_step cmp_places_step sign_places_step term_places_step and_places_step expr_places_step post_places_step prod_places_step sum_places_step f) m

of-prod : (y : Prod-F GivenAccess GivenArg GivenCmp GivenSign GivenTerm GivenAnd GivenExpr GivenPost GivenProd GivenSum) → InProd (roll-Prod (map-Prod GivenAccess GivenArg GivenCmp GivenSign GivenTerm GivenAnd GivenExpr GivenPost GivenProd GivenSum Access Arg Cmp Sign Term And Expr Post Prod Sum bare_access bare_arg bare_cmp bare_sign bare_term bare_and bare_expr bare_post bare_prod bare_sum y))
unfolding bare_access bare_arg bare_cmp bare_sign bare_term bare_and bare_expr bare_post bare_prod bare_sum literal_place name_place
of-prod y = prod-rolled (map-Prod GivenAccess GivenArg GivenCmp GivenSign GivenTerm GivenAnd GivenExpr GivenPost GivenProd GivenSum Access Arg Cmp Sign Term And Expr Post Prod Sum bare_access bare_arg bare_cmp bare_sign bare_term bare_and bare_expr bare_post bare_prod bare_sum y) (member-left (sign_places y.first.0) _ (sign_inside y.first.0) y.first.1)

sum-rolled : (f : Sum-F Access Arg Cmp Sign Term And Expr Post Prod Sum) → Member (inner_sum (map-Sum Access Arg Cmp Sign Term And Expr Post Prod Sum Place Place Place Place Place Place Place Place Place Place access_at arg_at cmp_inside sign_inside term_inside and_inside expr_inside post_inside prod_inside sum_inside f)) (sum_places_step (map-Sum Access Arg Cmp Sign Term And Expr Post Prod Sum Places Places Places Places Places Places Places Places Places Places access_places arg_places cmp_places sign_places term_places and_places expr_places post_places prod_places sum_places f)) → InSum (roll-Sum f)
unfolding access_places arg_places cmp_places sign_places term_places and_places expr_places post_places prod_places sum_places term_inside post_inside sign_inside prod_inside sum_inside cmp_inside and_inside expr_inside access_at arg_at
sum-rolled f m = along (sum_inside (roll-Sum f)) (inner_sum (map-Sum Access Arg Cmp Sign Term And Expr Post Prod Sum Place Place Place Place Place Place Place Place Place Place access_at arg_at cmp_inside sign_inside term_inside and_inside expr_inside post_inside prod_inside sum_inside f)) (sum_places (roll-Sum f)) (sum_places_step (map-Sum Access Arg Cmp Sign Term And Expr Post Prod Sum Places Places Places Places Places Places Places Places Places Places access_places arg_places cmp_places sign_places term_places and_places expr_places post_places prod_places sum_places f)) (fold-roll-Sum Place Place Place Place Place Place Place Place Place Place inner_access inner_arg inner_cmp inner_sign inner_term inner_and inner_expr inner_post inner_prod inner_sum f) (fold-roll-Sum Places Places Places Places Places Places Places Places Places Places access_places_step arg_places_step cmp_places_step sign_places_step term_places_step and_places_step expr_places_step post_places_step prod_places_step sum_places_step f) m

of-sum : (y : Sum-F GivenAccess GivenArg GivenCmp GivenSign GivenTerm GivenAnd GivenExpr GivenPost GivenProd GivenSum) → InSum (roll-Sum (map-Sum GivenAccess GivenArg GivenCmp GivenSign GivenTerm GivenAnd GivenExpr GivenPost GivenProd GivenSum Access Arg Cmp Sign Term And Expr Post Prod Sum bare_access bare_arg bare_cmp bare_sign bare_term bare_and bare_expr bare_post bare_prod bare_sum y))
unfolding bare_access bare_arg bare_cmp bare_sign bare_term bare_and bare_expr bare_post bare_prod bare_sum literal_place name_place
of-sum y = sum-rolled (map-Sum GivenAccess GivenArg GivenCmp GivenSign GivenTerm GivenAnd GivenExpr GivenPost GivenProd GivenSum Access Arg Cmp Sign Term And Expr Post Prod Sum bare_access bare_arg bare_cmp bare_sign bare_term bare_and bare_expr bare_post bare_prod bare_sum y) (member-left (prod_places y.first.0) _ (prod_inside y.first.0) y.first.1)

cmp-rolled : (f : Cmp-F Access Arg Cmp Sign Term And Expr Post Prod Sum) → Member (inner_cmp (map-Cmp Access Arg Cmp Sign Term And Expr Post Prod Sum Place Place Place Place Place Place Place Place Place Place access_at arg_at cmp_inside sign_inside term_inside and_inside expr_inside post_inside prod_inside sum_inside f)) (cmp_places_step (map-Cmp Access Arg Cmp Sign Term And Expr Post Prod Sum Places Places Places Places Places Places Places Places Places Places access_places arg_places cmp_places sign_places term_places and_places expr_places post_places prod_places sum_places f)) → InCmp (roll-Cmp f)
unfolding access_places arg_places cmp_places sign_places term_places and_places expr_places post_places prod_places sum_places term_inside post_inside sign_inside prod_inside sum_inside cmp_inside and_inside expr_inside access_at arg_at
cmp-rolled f m = along (cmp_inside (roll-Cmp f)) (inner_cmp (map-Cmp Access Arg Cmp Sign Term And Expr Post Prod Sum Place Place Place Place Place Place Place Place Place Place access_at arg_at cmp_inside sign_inside term_inside and_inside expr_inside post_inside prod_inside sum_inside f)) (cmp_places (roll-Cmp f)) (cmp_places_step (map-Cmp Access Arg Cmp Sign Term And Expr Post Prod Sum Places Places Places Places Places Places Places Places Places Places access_places arg_places cmp_places sign_places term_places and_places expr_places post_places prod_places sum_places f)) (fold-roll-Cmp Place Place Place Place Place Place Place Place Place Place inner_access inner_arg inner_cmp inner_sign inner_term inner_and inner_expr inner_post inner_prod inner_sum f) (fold-roll-Cmp Places Places Places Places Places Places Places Places Places Places access_places_step arg_places_step cmp_places_step sign_places_step term_places_step and_places_step expr_places_step post_places_step prod_places_step sum_places_step f) m

of-cmp : (y : Cmp-F GivenAccess GivenArg GivenCmp GivenSign GivenTerm GivenAnd GivenExpr GivenPost GivenProd GivenSum) → InCmp (roll-Cmp (map-Cmp GivenAccess GivenArg GivenCmp GivenSign GivenTerm GivenAnd GivenExpr GivenPost GivenProd GivenSum Access Arg Cmp Sign Term And Expr Post Prod Sum bare_access bare_arg bare_cmp bare_sign bare_term bare_and bare_expr bare_post bare_prod bare_sum y))
unfolding bare_access bare_arg bare_cmp bare_sign bare_term bare_and bare_expr bare_post bare_prod bare_sum literal_place name_place
of-cmp (Cmp-F.«Cmp::Plain» s) = cmp-rolled (Cmp-F.«Cmp::Plain» s.0) (s.1)
of-cmp (Cmp-F.Compared s sign other) = cmp-rolled (Cmp-F.Compared s.0 sign other.0) (member-left (sum_places s.0) _ (sum_inside s.0) s.1)
of-cmp (Cmp-F.In s sign others) = cmp-rolled (Cmp-F.In s.0 sign (map bare_expr others)) (member-left (sum_places s.0) _ (sum_inside s.0) s.1)
of-cmp (Cmp-F.Between s sign ends) = cmp-rolled (Cmp-F.Between s.0 sign (ends.0.0, ends.1.0)) (member-left (sum_places s.0) _ (sum_inside s.0) s.1)

and-rolled : (f : And-F Access Arg Cmp Sign Term And Expr Post Prod Sum) → Member (inner_and (map-And Access Arg Cmp Sign Term And Expr Post Prod Sum Place Place Place Place Place Place Place Place Place Place access_at arg_at cmp_inside sign_inside term_inside and_inside expr_inside post_inside prod_inside sum_inside f)) (and_places_step (map-And Access Arg Cmp Sign Term And Expr Post Prod Sum Places Places Places Places Places Places Places Places Places Places access_places arg_places cmp_places sign_places term_places and_places expr_places post_places prod_places sum_places f)) → InAnd (roll-And f)
unfolding access_places arg_places cmp_places sign_places term_places and_places expr_places post_places prod_places sum_places term_inside post_inside sign_inside prod_inside sum_inside cmp_inside and_inside expr_inside access_at arg_at
and-rolled f m = along (and_inside (roll-And f)) (inner_and (map-And Access Arg Cmp Sign Term And Expr Post Prod Sum Place Place Place Place Place Place Place Place Place Place access_at arg_at cmp_inside sign_inside term_inside and_inside expr_inside post_inside prod_inside sum_inside f)) (and_places (roll-And f)) (and_places_step (map-And Access Arg Cmp Sign Term And Expr Post Prod Sum Places Places Places Places Places Places Places Places Places Places access_places arg_places cmp_places sign_places term_places and_places expr_places post_places prod_places sum_places f)) (fold-roll-And Place Place Place Place Place Place Place Place Place Place inner_access inner_arg inner_cmp inner_sign inner_term inner_and inner_expr inner_post inner_prod inner_sum f) (fold-roll-And Places Places Places Places Places Places Places Places Places Places access_places_step arg_places_step cmp_places_step sign_places_step term_places_step and_places_step expr_places_step post_places_step prod_places_step sum_places_step f) m

of-and : (y : And-F GivenAccess GivenArg GivenCmp GivenSign GivenTerm GivenAnd GivenExpr GivenPost GivenProd GivenSum) → InAnd (roll-And (map-And GivenAccess GivenArg GivenCmp GivenSign GivenTerm GivenAnd GivenExpr GivenPost GivenProd GivenSum Access Arg Cmp Sign Term And Expr Post Prod Sum bare_access bare_arg bare_cmp bare_sign bare_term bare_and bare_expr bare_post bare_prod bare_sum y))
unfolding bare_access bare_arg bare_cmp bare_sign bare_term bare_and bare_expr bare_post bare_prod bare_sum literal_place name_place
of-and y = and-rolled (map-And GivenAccess GivenArg GivenCmp GivenSign GivenTerm GivenAnd GivenExpr GivenPost GivenProd GivenSum Access Arg Cmp Sign Term And Expr Post Prod Sum bare_access bare_arg bare_cmp bare_sign bare_term bare_and bare_expr bare_post bare_prod bare_sum y) (member-left (cmp_places y.first.0) _ (cmp_inside y.first.0) y.first.1)

expr-rolled : (f : Expr-F Access Arg Cmp Sign Term And Expr Post Prod Sum) → Member (inner_expr (map-Expr Access Arg Cmp Sign Term And Expr Post Prod Sum Place Place Place Place Place Place Place Place Place Place access_at arg_at cmp_inside sign_inside term_inside and_inside expr_inside post_inside prod_inside sum_inside f)) (expr_places_step (map-Expr Access Arg Cmp Sign Term And Expr Post Prod Sum Places Places Places Places Places Places Places Places Places Places access_places arg_places cmp_places sign_places term_places and_places expr_places post_places prod_places sum_places f)) → InExpr (roll-Expr f)
unfolding access_places arg_places cmp_places sign_places term_places and_places expr_places post_places prod_places sum_places term_inside post_inside sign_inside prod_inside sum_inside cmp_inside and_inside expr_inside access_at arg_at
expr-rolled f m = along (expr_inside (roll-Expr f)) (inner_expr (map-Expr Access Arg Cmp Sign Term And Expr Post Prod Sum Place Place Place Place Place Place Place Place Place Place access_at arg_at cmp_inside sign_inside term_inside and_inside expr_inside post_inside prod_inside sum_inside f)) (expr_places (roll-Expr f)) (expr_places_step (map-Expr Access Arg Cmp Sign Term And Expr Post Prod Sum Places Places Places Places Places Places Places Places Places Places access_places arg_places cmp_places sign_places term_places and_places expr_places post_places prod_places sum_places f)) (fold-roll-Expr Place Place Place Place Place Place Place Place Place Place inner_access inner_arg inner_cmp inner_sign inner_term inner_and inner_expr inner_post inner_prod inner_sum f) (fold-roll-Expr Places Places Places Places Places Places Places Places Places Places access_places_step arg_places_step cmp_places_step sign_places_step term_places_step and_places_step expr_places_step post_places_step prod_places_step sum_places_step f) m

of-expr : (y : Expr-F GivenAccess GivenArg GivenCmp GivenSign GivenTerm GivenAnd GivenExpr GivenPost GivenProd GivenSum) → InExpr (roll-Expr (map-Expr GivenAccess GivenArg GivenCmp GivenSign GivenTerm GivenAnd GivenExpr GivenPost GivenProd GivenSum Access Arg Cmp Sign Term And Expr Post Prod Sum bare_access bare_arg bare_cmp bare_sign bare_term bare_and bare_expr bare_post bare_prod bare_sum y))
unfolding bare_access bare_arg bare_cmp bare_sign bare_term bare_and bare_expr bare_post bare_prod bare_sum literal_place name_place
of-expr y = expr-rolled (map-Expr GivenAccess GivenArg GivenCmp GivenSign GivenTerm GivenAnd GivenExpr GivenPost GivenProd GivenSum Access Arg Cmp Sign Term And Expr Post Prod Sum bare_access bare_arg bare_cmp bare_sign bare_term bare_and bare_expr bare_post bare_prod bare_sum y) (member-left (and_places y.first.0) _ (and_inside y.first.0) y.first.1)

pub inside-expr : (x : Expr) → Member (expr_inside x) (expr_places x)
unfolding bare_access bare_arg bare_cmp bare_sign bare_term bare_and bare_expr bare_post bare_prod bare_sum
inside-expr = ind-Expr InAccess InArg InCmp InSign InTerm InAnd InExpr InPost InProd InSum
    (λ x y is. tt)
    (λ x y is. tt)
    (λ x y is. subst (λ (z : Cmp-F Access Arg Cmp Sign Term And Expr Post Prod Sum). InCmp (roll-Cmp z)) is (of-cmp y))
    (λ x y is. subst (λ (z : Sign-F Access Arg Cmp Sign Term And Expr Post Prod Sum). InSign (roll-Sign z)) is (of-sign y))
    (λ x y is. subst (λ (z : Term-F Access Arg Cmp Sign Term And Expr Post Prod Sum). InTerm (roll-Term z)) is (of-term y))
    (λ x y is. subst (λ (z : And-F Access Arg Cmp Sign Term And Expr Post Prod Sum). InAnd (roll-And z)) is (of-and y))
    (λ x y is. subst (λ (z : Expr-F Access Arg Cmp Sign Term And Expr Post Prod Sum). InExpr (roll-Expr z)) is (of-expr y))
    (λ x y is. subst (λ (z : Post-F Access Arg Cmp Sign Term And Expr Post Prod Sum). InPost (roll-Post z)) is (of-post y))
    (λ x y is. subst (λ (z : Prod-F Access Arg Cmp Sign Term And Expr Post Prod Sum). InProd (roll-Prod z)) is (of-prod y))
    (λ x y is. subst (λ (z : Sum-F Access Arg Cmp Sign Term And Expr Post Prod Sum). InSum (roll-Sum z)) is (of-sum y))
