-- Expressions and sums that are one term alone.
use Rattle.std.specs.Prelude.{List, [], ◌∷◌, Option, Some, None}
use Rattle.kql_syntax.specs.declared.tree.Access.TheOpen.{Arg-F, Cmp-F, Sign-F, Term-F}
use Rattle.kql_syntax.specs.declared.tree.And.{And, out-And}
use Rattle.kql_syntax.specs.declared.tree.Arg.{Arg, out-Arg}
use Rattle.kql_syntax.specs.declared.tree.Cmp.{Cmp, out-Cmp}
use Rattle.kql_syntax.specs.declared.tree.Expr.{Expr, out-Expr}
use Rattle.kql_syntax.specs.declared.tree.Literal.{Literal}
use Rattle.kql_syntax.specs.declared.tree.Name.{Name}
use Rattle.kql_syntax.specs.declared.tree.Post.{Post, out-Post}
use Rattle.kql_syntax.specs.declared.tree.Prod.{Prod, out-Prod}
use Rattle.kql_syntax.specs.declared.tree.Sign.{Sign, out-Sign}
use Rattle.kql_syntax.specs.declared.tree.Sum.{Sum, out-Sum}
use Rattle.kql_syntax.specs.declared.tree.Term.{Term, out-Term}

-- The first of a chain that has no more.
abbrev pub only : {A B : Type 0} → List B → Option A → Option A
only [] x = x
only (_ ∷ _) x = None

-- The term that a part is, with nothing before it or behind it. In brackets it is the bracket's, and not what stands in it.
unfoldable pub term_of_post : Post → Option Term
term_of_post p = only (out-Post p).more (Some (out-Post p).first)

abbrev pub post_in_sign : {A B C D E F G I J : Type 0} → Sign-F A B C D E F G Post I J → Option Term
post_in_sign (Sign-F.«Sign::Plain» p) = term_of_post p
post_in_sign (Sign-F.Minus place p) = None

unfoldable pub term_of_sign : Sign → Option Term
term_of_sign s = post_in_sign (out-Sign s)

unfoldable pub term_of_prod : Prod → Option Term
term_of_prod p = only (out-Prod p).more (term_of_sign (out-Prod p).first)

unfoldable pub term_of_sum : Sum → Option Term
term_of_sum s = only (out-Sum s).more (term_of_prod (out-Sum s).first)

abbrev pub sum_in_cmp : {A B C D E F G H I : Type 0} → Cmp-F A B C D E F G H I Sum → Option Term
sum_in_cmp (Cmp-F.«Cmp::Plain» s) = term_of_sum s
sum_in_cmp (Cmp-F.Compared s sign other) = None
sum_in_cmp (Cmp-F.In s sign others) = None
sum_in_cmp (Cmp-F.Between s sign bounds) = None

unfoldable pub term_of_cmp : Cmp → Option Term
term_of_cmp c = sum_in_cmp (out-Cmp c)

unfoldable pub term_of_and : And → Option Term
term_of_and a = only (out-And a).more (term_of_cmp (out-And a).first)

unfoldable pub term_alone : Expr → Option Term
term_alone e = only (out-Expr e).more (term_of_and (out-Expr e).first)

abbrev pub expr_in_arg : {A B C D E F H I J : Type 0} → Arg-F A B C D E F Expr H I J → Option Term
expr_in_arg (Arg-F.«Arg::Plain» e) = term_alone e
expr_in_arg (Arg-F.Star place) = None

unfoldable pub term_of_arg : Arg → Option Term
term_of_arg a = expr_in_arg (out-Arg a)

-- The name that a term is, and the literal.
abbrev pub name_in_term : {A B C D E F G H I J : Type 0} → Term-F A B C D E F G H I J → Option Name
name_in_term (Term-F.Literal l) = None
name_in_term (Term-F.Name n) = Some n
name_in_term (Term-F.Call w args) = None
name_in_term (Term-F.Group place e) = None

unfoldable pub name_of_term : Term → Option Name
name_of_term t = name_in_term (out-Term t)

abbrev pub literal_in_term : {A B C D E F G H I J : Type 0} → Term-F A B C D E F G H I J → Option Literal
literal_in_term (Term-F.Literal l) = Some l
literal_in_term (Term-F.Name n) = None
literal_in_term (Term-F.Call w args) = None
literal_in_term (Term-F.Group place e) = None

unfoldable pub literal_of_term : Term → Option Literal
literal_of_term t = literal_in_term (out-Term t)
