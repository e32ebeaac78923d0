-- Expressions that are a name alone.
use Rattle.std.specs.Prelude.{Option, Some, None}
use Rattle.kql_syntax.specs.Alone.{only}
use Rattle.kql_syntax.specs.declared.tree.And.{And, out-And}
use Rattle.kql_syntax.specs.declared.tree.Cmp.{out-Cmp}
use Rattle.kql_syntax.specs.declared.tree.Expr.{Expr, out-Expr}
use Rattle.kql_syntax.specs.declared.tree.Access.TheOpen.{Cmp-F, Sign-F, Term-F}
use Rattle.kql_syntax.specs.declared.tree.Name.{Name}
use Rattle.kql_syntax.specs.declared.tree.Post.{Post, out-Post}
use Rattle.kql_syntax.specs.declared.tree.Prod.{Prod, out-Prod}
use Rattle.kql_syntax.specs.declared.tree.Sign.{out-Sign}
use Rattle.kql_syntax.specs.declared.tree.Sum.{Sum, out-Sum}
use Rattle.kql_syntax.specs.declared.tree.Term.{out-Term}

abbrev pub name_of_term : {A B C D E F G H I J : Type 0} → Term-F A B C D E F G H I J → Option Name
name_of_term (Term-F.Name n) = Some n
name_of_term _ = None

abbrev pub name_of_post : Post → Option Name
name_of_post p = only (out-Post p).more (name_of_term (out-Term (out-Post p).first))

abbrev pub name_of_sign : {A B C D E F G H I J : Type 0} → (H → Option Name) → Sign-F A B C D E F G H I J → Option Name
name_of_sign f (Sign-F.«Sign::Plain» p) = f p
name_of_sign f _ = None

abbrev pub name_of_prod : Prod → Option Name
name_of_prod p = only (out-Prod p).more (name_of_sign name_of_post (out-Sign (out-Prod p).first))

abbrev pub name_of_sum : Sum → Option Name
name_of_sum s = only (out-Sum s).more (name_of_prod (out-Sum s).first)

abbrev pub name_of_cmp : {A B C D E F G H I J : Type 0} → (J → Option Name) → Cmp-F A B C D E F G H I J → Option Name
name_of_cmp f (Cmp-F.«Cmp::Plain» s) = f s
name_of_cmp f _ = None

abbrev pub name_of_and : And → Option Name
name_of_and a = only (out-And a).more (name_of_cmp name_of_sum (out-Cmp (out-And a).first))

-- the name that an expression is, if it is a name alone; in brackets it is none
unfoldable pub name_alone : Expr → Option Name
name_alone e = only (out-Expr e).more (name_of_and (out-Expr e).first)
