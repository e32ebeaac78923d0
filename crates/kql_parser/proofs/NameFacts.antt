-- A name as the body of a let statement is its table.
use Rattle.std.proofs.Common.{◌≡◌, [], sym, ap, ◌∙◌}
use Rattle.std.specs.Prelude.{Option, Some}
use Rattle.kql_syntax.specs.declared.tree.Access.TheOpen.{Cmp-F, Sign-F, Term-F}
use Rattle.kql_syntax.specs.declared.tree.And.{out-roll-And}
use Rattle.kql_syntax.specs.declared.tree.Cmp.{out-Cmp, out-roll-Cmp}
use Rattle.kql_syntax.specs.declared.tree.Cmp.TheVariants as cmp
use Rattle.kql_syntax.specs.declared.tree.Expr.{out-roll-Expr}
use Rattle.kql_syntax.specs.declared.tree.Name.{Name}
use Rattle.kql_syntax.specs.declared.tree.Post.{Post, out-roll-Post}
use Rattle.kql_syntax.specs.declared.tree.Prod.{out-roll-Prod}
use Rattle.kql_syntax.specs.declared.tree.Sign.{out-Sign, out-roll-Sign}
use Rattle.kql_syntax.specs.declared.tree.Sign.TheVariants as sign
use Rattle.kql_syntax.specs.declared.tree.Sum.{Sum, out-roll-Sum}
use Rattle.kql_syntax.specs.declared.tree.Term.{out-Term, out-roll-Term}
use Rattle.kql_syntax.specs.declared.tree.Term.TheVariants as term
use Rattle.kql_syntax.specs.declared.query.LetBody.TheVariants as letbody
use Rattle.kql_syntax.specs.declared.query.Pipe.{roll-Pipe}
use Rattle.kql_syntax.specs.declared.query.Source.TheVariants as source
use Rattle.kql_syntax.specs.Alone.{only}
use Rattle.kql_parser.specs.Alone.{name_alone, name_of_and, name_of_cmp, name_of_post, name_of_prod, name_of_sign, name_of_sum, name_of_term}
use Rattle.kql_syntax.proofs.NameLaws.{name_and, name_cmp, name_expr, name_post, name_prod, name_sign, name_sum}
use Rattle.kql_parser.specs.Query.{body_of, table_or}

term_out : (n : Name) → out-Term (term.Name n) ≡ Term-F.Name n
term_out n = ap out-Term (sym (term.rolls-Name n)) ∙ out-roll-Term (Term-F.Name n)

sign_out : (p : Post) → out-Sign (sign.Plain p) ≡ Sign-F.«Sign::Plain» p
sign_out p = ap out-Sign (sym (sign.rolls-Plain p)) ∙ out-roll-Sign (Sign-F.«Sign::Plain» p)

cmp_out : (s : Sum) → out-Cmp (cmp.Plain s) ≡ Cmp-F.«Cmp::Plain» s
cmp_out s = ap out-Cmp (sym (cmp.rolls-Plain s)) ∙ out-roll-Cmp (Cmp-F.«Cmp::Plain» s)

by_step : {P : Type 0} {x y : P} → x ≡ y → (f : P → Option Name) → f x ≡ f y
by_step e f = ap f e

post_name : (n : Name) → name_of_post (name_post n) ≡ Some n
post_name n = by_step (out-roll-Post (record { first = term.Name n; more = [] })) (λ z. only z.more (name_of_term (out-Term z.first))) ∙ by_step (term_out n) (λ z. name_of_term z)

prod_name : (n : Name) → name_of_prod (name_prod n) ≡ Some n
prod_name n = by_step (out-roll-Prod (record { first = name_sign n; more = [] })) (λ z. only z.more (name_of_sign name_of_post (out-Sign z.first))) ∙ (by_step (sign_out (name_post n)) (λ z. name_of_sign name_of_post z) ∙ post_name n)

sum_name : (n : Name) → name_of_sum (name_sum n) ≡ Some n
sum_name n = by_step (out-roll-Sum (record { first = name_prod n; more = [] })) (λ z. only z.more (name_of_prod z.first)) ∙ prod_name n

and_name : (n : Name) → name_of_and (name_and n) ≡ Some n
and_name n = by_step (out-roll-And (record { first = name_cmp n; more = [] })) (λ z. only z.more (name_of_cmp name_of_sum (out-Cmp z.first))) ∙ (by_step (cmp_out (name_sum n)) (λ z. name_of_cmp name_of_sum z) ∙ sum_name n)

expr_name : (n : Name) → name_alone (name_expr n) ≡ Some n
unfolding name_alone
expr_name n = by_step (out-roll-Expr (record { first = name_and n; more = [] })) (λ z. only z.more (name_of_and z.first)) ∙ and_name n

pub name_body : (n : Name) → body_of (name_expr n) ≡ letbody.Pipe (roll-Pipe (record { source = source.Table n; ops = [] }))
name_body n = ap (table_or (name_expr n)) (expr_name n)
