-- The places of names, and where expressions and items begin.
use Rattle.std.specs.Prelude.{Option, None, Some}
use Rattle.kql_lexer.specs.declared.place.Place.{Place}
use Rattle.kql_syntax.specs.declared.query.Item.{Item}
use Rattle.kql_syntax.specs.declared.tree.Access.TheOpen.{Access-F, And-F, Arg-F, Cmp-F, Expr-F, Post-F, Prod-F, Sign-F, Sum-F, Term-F}
use Rattle.kql_syntax.specs.declared.tree.And.{And, fold-And, out-And}
use Rattle.kql_syntax.specs.declared.tree.Cmp.{Cmp, fold-Cmp, out-Cmp}
use Rattle.kql_syntax.specs.declared.tree.Expr.{Expr, fold-Expr, out-Expr}
use Rattle.kql_syntax.specs.declared.tree.Literal.{Literal}
use Rattle.kql_syntax.specs.declared.tree.Literal.TheVariants as literal
use Rattle.kql_syntax.specs.declared.tree.Name.{Name}
use Rattle.kql_syntax.specs.declared.tree.Name.TheVariants as name
use Rattle.kql_syntax.specs.declared.tree.Post.{Post, fold-Post, out-Post}
use Rattle.kql_syntax.specs.declared.tree.Prod.{Prod, fold-Prod, out-Prod}
use Rattle.kql_syntax.specs.declared.tree.Sign.{Sign, fold-Sign, out-Sign}
use Rattle.kql_syntax.specs.declared.tree.Sum.{Sum, fold-Sum, out-Sum}
use Rattle.kql_syntax.specs.declared.tree.Term.{Term, fold-Term, out-Term}

unfoldable pub name_place : Name → Place
name_place (name.Bare word) = word.place
name_place (name.Quoted place text) = place

-- The first token of an expression.

unfoldable pub literal_place : Literal → Place
literal_place (literal.Number place n) = place
literal_place (literal.Span place n) = place
literal_place (literal.Text place t) = place
literal_place (literal.True place) = place
literal_place (literal.False place) = place
literal_place (literal.Typed place word text) = place

abbrev pub term_place_step : {A B C D E F G H I J : Type 0} → Term-F A B C D E F G H I J → Place
term_place_step (Term-F.Literal l) = literal_place l
term_place_step (Term-F.Name n) = name_place n
term_place_step (Term-F.Call word args) = word.place
term_place_step (Term-F.Group place e) = place

unfoldable pub term_place : Term → Place
term_place t = term_place_step (out-Term t)

abbrev pub sign_place_step : {A B C D E F G H I J : Type 0} → (H → Place) → Sign-F A B C D E F G H I J → Place
sign_place_step start (Sign-F.«Sign::Plain» p) = start p
sign_place_step start (Sign-F.Minus place p) = place

abbrev pub post_start : Post → Place
post_start p = term_place (out-Post p).first

unfoldable pub sign_place : Sign → Place
sign_place s = sign_place_step post_start (out-Sign s)

unfoldable pub sum_start : Sum → Place
sum_start s = sign_place (out-Prod (out-Sum s).first).first

abbrev pub cmp_place_step : {A B C D E F G H I J : Type 0} → (J → Place) → Cmp-F A B C D E F G H I J → Place
cmp_place_step start (Cmp-F.«Cmp::Plain» s) = start s
cmp_place_step start (Cmp-F.Compared s sign other) = start s
cmp_place_step start (Cmp-F.In s sign others) = start s
cmp_place_step start (Cmp-F.Between s sign ends) = start s

unfoldable pub cmp_place : Cmp → Place
cmp_place c = cmp_place_step sum_start (out-Cmp c)

unfoldable pub expr_start : Expr → Place
expr_start e = cmp_place (out-And (out-Expr e).first).first

-- The first token of an expression that is no bracket round all of it up to there: of a call in brackets, its function.

abbrev pub inner_access : Access-F Place Place Place Place Place Place Place Place Place Place → Place
inner_access (Access-F.Entry place w) = place
inner_access (Access-F.Element place e) = place

abbrev pub inner_arg : Arg-F Place Place Place Place Place Place Place Place Place Place → Place
inner_arg (Arg-F.«Arg::Plain» e) = e
inner_arg (Arg-F.Star place) = place

abbrev pub inner_term : Term-F Place Place Place Place Place Place Place Place Place Place → Place
inner_term (Term-F.Literal l) = literal_place l
inner_term (Term-F.Name n) = name_place n
inner_term (Term-F.Call w args) = w.place
inner_term (Term-F.Group place e) = e

abbrev pub inner_post : Post-F Place Place Place Place Place Place Place Place Place Place → Place
inner_post p = p.first

abbrev pub inner_sign : Sign-F Place Place Place Place Place Place Place Place Place Place → Place
inner_sign (Sign-F.«Sign::Plain» p) = p
inner_sign (Sign-F.Minus place p) = place

abbrev pub inner_prod : Prod-F Place Place Place Place Place Place Place Place Place Place → Place
inner_prod p = p.first

abbrev pub inner_sum : Sum-F Place Place Place Place Place Place Place Place Place Place → Place
inner_sum s = s.first

abbrev pub inner_cmp : Cmp-F Place Place Place Place Place Place Place Place Place Place → Place
inner_cmp (Cmp-F.«Cmp::Plain» s) = s
inner_cmp (Cmp-F.Compared s sign other) = s
inner_cmp (Cmp-F.In s sign others) = s
inner_cmp (Cmp-F.Between s sign ends) = s

abbrev pub inner_and : And-F Place Place Place Place Place Place Place Place Place Place → Place
inner_and e = e.first

abbrev pub inner_expr : Expr-F Place Place Place Place Place Place Place Place Place Place → Place
inner_expr e = e.first

unfoldable pub term_inside : Term → Place
term_inside = fold-Term Place Place Place Place Place Place Place Place Place Place inner_access inner_arg inner_cmp inner_sign inner_term inner_and inner_expr inner_post inner_prod inner_sum

unfoldable pub post_inside : Post → Place
post_inside = fold-Post Place Place Place Place Place Place Place Place Place Place inner_access inner_arg inner_cmp inner_sign inner_term inner_and inner_expr inner_post inner_prod inner_sum

unfoldable pub sign_inside : Sign → Place
sign_inside = fold-Sign Place Place Place Place Place Place Place Place Place Place inner_access inner_arg inner_cmp inner_sign inner_term inner_and inner_expr inner_post inner_prod inner_sum

unfoldable pub prod_inside : Prod → Place
prod_inside = fold-Prod Place Place Place Place Place Place Place Place Place Place inner_access inner_arg inner_cmp inner_sign inner_term inner_and inner_expr inner_post inner_prod inner_sum

unfoldable pub sum_inside : Sum → Place
sum_inside = fold-Sum Place Place Place Place Place Place Place Place Place Place inner_access inner_arg inner_cmp inner_sign inner_term inner_and inner_expr inner_post inner_prod inner_sum

unfoldable pub cmp_inside : Cmp → Place
cmp_inside = fold-Cmp Place Place Place Place Place Place Place Place Place Place inner_access inner_arg inner_cmp inner_sign inner_term inner_and inner_expr inner_post inner_prod inner_sum

unfoldable pub and_inside : And → Place
and_inside = fold-And Place Place Place Place Place Place Place Place Place Place inner_access inner_arg inner_cmp inner_sign inner_term inner_and inner_expr inner_post inner_prod inner_sum

unfoldable pub expr_inside : Expr → Place
expr_inside = fold-Expr Place Place Place Place Place Place Place Place Place Place inner_access inner_arg inner_cmp inner_sign inner_term inner_and inner_expr inner_post inner_prod inner_sum

-- The first token of an item: its name, where it is given one.
abbrev pub start_or : Option Name → Place → Place
start_or None place = place
start_or (Some n) place = name_place n

unfoldable pub item_start : Item → Place
item_start item = start_or item.name (expr_start item.value)
