-- Where terms, signed terms and comparisons begin, one equation for each variant.
use Rattle.std.proofs.Common.{◌≡◌, List, sym, ap, ◌∙◌}
use Rattle.kql_lexer.specs.declared.place.Place.{Place}
use Rattle.kql_syntax.specs.declared.tree.Access.TheOpen.{Cmp-F, Sign-F, Term-F}
use Rattle.kql_syntax.specs.declared.tree.And.{And, fold_out-And, out-And}
use Rattle.kql_syntax.specs.declared.tree.Arg.{Arg}
use Rattle.kql_syntax.specs.declared.tree.BetweenSign.{BetweenSign}
use Rattle.kql_syntax.specs.declared.tree.Cmp.{fold-roll-Cmp, out-Cmp, out-roll-Cmp}
use Rattle.kql_syntax.specs.declared.tree.Cmp.TheVariants as cmp
use Rattle.kql_syntax.specs.declared.tree.CompareSign.{CompareSign}
use Rattle.kql_syntax.specs.declared.tree.Expr.{Expr, fold_out-Expr, out-Expr}
use Rattle.kql_syntax.specs.declared.tree.InSign.{InSign}
use Rattle.kql_syntax.specs.declared.tree.Literal.{Literal}
use Rattle.kql_syntax.specs.declared.tree.Name.{Name}
use Rattle.kql_syntax.specs.declared.tree.Post.{Post, fold_out-Post, out-Post}
use Rattle.kql_syntax.specs.declared.tree.Prod.{Prod, fold_out-Prod, out-Prod}
use Rattle.kql_syntax.specs.declared.tree.Sign.{fold-roll-Sign, out-Sign, out-roll-Sign}
use Rattle.kql_syntax.specs.declared.tree.Sign.TheVariants as sign
use Rattle.kql_syntax.specs.declared.tree.Sum.{Sum, fold_out-Sum, out-Sum}
use Rattle.kql_syntax.specs.declared.tree.Term.{fold-roll-Term, out-Term, out-roll-Term}
use Rattle.kql_syntax.specs.declared.tree.Term.TheVariants as term
use Rattle.kql_syntax.specs.declared.tree.Word.{Word}
use Rattle.bind_operators.specs.Places.{and_inside, cmp_inside, cmp_place, cmp_place_step, expr_inside, inner_access, inner_and, inner_arg, inner_cmp, inner_expr, inner_post, inner_prod, inner_sign, inner_sum, inner_term, literal_place, name_place, post_inside, post_start, prod_inside, sign_inside, sign_place, sign_place_step, sum_inside, sum_start, term_inside, term_place, term_place_step}

pub term-Literal : (l : Literal) → term_place (term.Literal l) ≡ literal_place l
unfolding term_place
term-Literal l = ap term_place_step (ap out-Term (sym (term.rolls-Literal l)) ∙ out-roll-Term (Term-F.Literal l))

pub term-Name : (n : Name) → term_place (term.Name n) ≡ name_place n
unfolding term_place
term-Name n = ap term_place_step (ap out-Term (sym (term.rolls-Name n)) ∙ out-roll-Term (Term-F.Name n))

pub term-Call : (w : Word) (args : List Arg) → term_place (term.Call w args) ≡ w.place
unfolding term_place
term-Call w args = ap term_place_step (ap out-Term (sym (term.rolls-Call w args)) ∙ out-roll-Term (Term-F.Call w args))

pub term-Group : (p : Place) (e : Expr) → term_place (term.Group p e) ≡ p
unfolding term_place
term-Group p e = ap term_place_step (ap out-Term (sym (term.rolls-Group p e)) ∙ out-roll-Term (Term-F.Group p e))

pub ruleset term_places = (term-Literal, term-Name, term-Call, term-Group)

pub sign-Plain : (p : Post) → sign_place (sign.Plain p) ≡ post_start p
unfolding sign_place
sign-Plain p = ap (sign_place_step post_start) (ap out-Sign (sym (sign.rolls-Plain p)) ∙ out-roll-Sign (Sign-F.«Sign::Plain» p))

pub sign-Minus : (place : Place) (p : Post) → sign_place (sign.Minus place p) ≡ place
unfolding sign_place
sign-Minus place p = ap (sign_place_step post_start) (ap out-Sign (sym (sign.rolls-Minus place p)) ∙ out-roll-Sign (Sign-F.Minus place p))

pub ruleset sign_places = (sign-Plain, sign-Minus)

pub cmp-Plain : (s : Sum) → cmp_place (cmp.Plain s) ≡ sum_start s
unfolding cmp_place
cmp-Plain s = ap (cmp_place_step sum_start) (ap out-Cmp (sym (cmp.rolls-Plain s)) ∙ out-roll-Cmp (Cmp-F.«Cmp::Plain» s))

pub cmp-Compared : (s : Sum) (by : CompareSign) (other : Sum) → cmp_place (cmp.Compared s by other) ≡ sum_start s
unfolding cmp_place
cmp-Compared s by other = ap (cmp_place_step sum_start) (ap out-Cmp (sym (cmp.rolls-Compared s by other)) ∙ out-roll-Cmp (Cmp-F.Compared s by other))

pub cmp-In : (s : Sum) (by : InSign) (others : List Expr) → cmp_place (cmp.In s by others) ≡ sum_start s
unfolding cmp_place
cmp-In s by others = ap (cmp_place_step sum_start) (ap out-Cmp (sym (cmp.rolls-In s by others)) ∙ out-roll-Cmp (Cmp-F.In s by others))

pub cmp-Between : (s : Sum) (by : BetweenSign) (ends : Sum × Sum) → cmp_place (cmp.Between s by ends) ≡ sum_start s
unfolding cmp_place
cmp-Between s by ends = ap (cmp_place_step sum_start) (ap out-Cmp (sym (cmp.rolls-Between s by ends)) ∙ out-roll-Cmp (Cmp-F.Between s by ends))

pub ruleset cmp_places = (cmp-Plain, cmp-Compared, cmp-In, cmp-Between)

-- The same within brackets.

pub term_in-Literal : (l : Literal) → term_inside (term.Literal l) ≡ literal_place l
unfolding term_inside post_inside sign_inside prod_inside sum_inside cmp_inside and_inside expr_inside
term_in-Literal l = ap term_inside (sym (term.rolls-Literal l)) ∙ fold-roll-Term Place Place Place Place Place Place Place Place Place Place inner_access inner_arg inner_cmp inner_sign inner_term inner_and inner_expr inner_post inner_prod inner_sum (Term-F.Literal l)

pub term_in-Name : (n : Name) → term_inside (term.Name n) ≡ name_place n
unfolding term_inside post_inside sign_inside prod_inside sum_inside cmp_inside and_inside expr_inside
term_in-Name n = ap term_inside (sym (term.rolls-Name n)) ∙ fold-roll-Term Place Place Place Place Place Place Place Place Place Place inner_access inner_arg inner_cmp inner_sign inner_term inner_and inner_expr inner_post inner_prod inner_sum (Term-F.Name n)

pub term_in-Call : (w : Word) (args : List Arg) → term_inside (term.Call w args) ≡ w.place
unfolding term_inside post_inside sign_inside prod_inside sum_inside cmp_inside and_inside expr_inside
term_in-Call w args = ap term_inside (sym (term.rolls-Call w args)) ∙ fold-roll-Term Place Place Place Place Place Place Place Place Place Place inner_access inner_arg inner_cmp inner_sign inner_term inner_and inner_expr inner_post inner_prod inner_sum (Term-F.Call w args)

pub term_in-Group : (p : Place) (e : Expr) → term_inside (term.Group p e) ≡ expr_inside e
unfolding term_inside post_inside sign_inside prod_inside sum_inside cmp_inside and_inside expr_inside
term_in-Group p e = ap term_inside (sym (term.rolls-Group p e)) ∙ fold-roll-Term Place Place Place Place Place Place Place Place Place Place inner_access inner_arg inner_cmp inner_sign inner_term inner_and inner_expr inner_post inner_prod inner_sum (Term-F.Group p e)

pub ruleset term_insides = (term_in-Literal, term_in-Name, term_in-Call, term_in-Group)

pub sign_in-Plain : (p : Post) → sign_inside (sign.Plain p) ≡ post_inside p
unfolding term_inside post_inside sign_inside prod_inside sum_inside cmp_inside and_inside expr_inside
sign_in-Plain p = ap sign_inside (sym (sign.rolls-Plain p)) ∙ fold-roll-Sign Place Place Place Place Place Place Place Place Place Place inner_access inner_arg inner_cmp inner_sign inner_term inner_and inner_expr inner_post inner_prod inner_sum (Sign-F.«Sign::Plain» p)

pub sign_in-Minus : (place : Place) (p : Post) → sign_inside (sign.Minus place p) ≡ place
unfolding term_inside post_inside sign_inside prod_inside sum_inside cmp_inside and_inside expr_inside
sign_in-Minus place p = ap sign_inside (sym (sign.rolls-Minus place p)) ∙ fold-roll-Sign Place Place Place Place Place Place Place Place Place Place inner_access inner_arg inner_cmp inner_sign inner_term inner_and inner_expr inner_post inner_prod inner_sum (Sign-F.Minus place p)

pub ruleset sign_insides = (sign_in-Plain, sign_in-Minus)

pub cmp_in-Plain : (s : Sum) → cmp_inside (cmp.Plain s) ≡ sum_inside s
unfolding term_inside post_inside sign_inside prod_inside sum_inside cmp_inside and_inside expr_inside
cmp_in-Plain s = ap cmp_inside (sym (cmp.rolls-Plain s)) ∙ fold-roll-Cmp Place Place Place Place Place Place Place Place Place Place inner_access inner_arg inner_cmp inner_sign inner_term inner_and inner_expr inner_post inner_prod inner_sum (Cmp-F.«Cmp::Plain» s)

pub cmp_in-Compared : (s : Sum) (by : CompareSign) (other : Sum) → cmp_inside (cmp.Compared s by other) ≡ sum_inside s
unfolding term_inside post_inside sign_inside prod_inside sum_inside cmp_inside and_inside expr_inside
cmp_in-Compared s by other = ap cmp_inside (sym (cmp.rolls-Compared s by other)) ∙ fold-roll-Cmp Place Place Place Place Place Place Place Place Place Place inner_access inner_arg inner_cmp inner_sign inner_term inner_and inner_expr inner_post inner_prod inner_sum (Cmp-F.Compared s by other)

pub cmp_in-In : (s : Sum) (by : InSign) (others : List Expr) → cmp_inside (cmp.In s by others) ≡ sum_inside s
unfolding term_inside post_inside sign_inside prod_inside sum_inside cmp_inside and_inside expr_inside
cmp_in-In s by others = ap cmp_inside (sym (cmp.rolls-In s by others)) ∙ fold-roll-Cmp Place Place Place Place Place Place Place Place Place Place inner_access inner_arg inner_cmp inner_sign inner_term inner_and inner_expr inner_post inner_prod inner_sum (Cmp-F.In s by others)

pub cmp_in-Between : (s : Sum) (by : BetweenSign) (ends : Sum × Sum) → cmp_inside (cmp.Between s by ends) ≡ sum_inside s
unfolding term_inside post_inside sign_inside prod_inside sum_inside cmp_inside and_inside expr_inside
cmp_in-Between s by ends = ap cmp_inside (sym (cmp.rolls-Between s by ends)) ∙ fold-roll-Cmp Place Place Place Place Place Place Place Place Place Place inner_access inner_arg inner_cmp inner_sign inner_term inner_and inner_expr inner_post inner_prod inner_sum (Cmp-F.Between s by ends)

pub ruleset cmp_insides = (cmp_in-Plain, cmp_in-Compared, cmp_in-In, cmp_in-Between)

pub post-within : (x : Post) → post_inside x ≡ term_inside (out-Post x).first
unfolding term_inside post_inside sign_inside prod_inside sum_inside cmp_inside and_inside expr_inside
post-within x = fold_out-Post Place Place Place Place Place Place Place Place Place Place inner_access inner_arg inner_cmp inner_sign inner_term inner_and inner_expr inner_post inner_prod inner_sum x

pub prod-within : (x : Prod) → prod_inside x ≡ sign_inside (out-Prod x).first
unfolding term_inside post_inside sign_inside prod_inside sum_inside cmp_inside and_inside expr_inside
prod-within x = fold_out-Prod Place Place Place Place Place Place Place Place Place Place inner_access inner_arg inner_cmp inner_sign inner_term inner_and inner_expr inner_post inner_prod inner_sum x

pub sum-within : (x : Sum) → sum_inside x ≡ prod_inside (out-Sum x).first
unfolding term_inside post_inside sign_inside prod_inside sum_inside cmp_inside and_inside expr_inside
sum-within x = fold_out-Sum Place Place Place Place Place Place Place Place Place Place inner_access inner_arg inner_cmp inner_sign inner_term inner_and inner_expr inner_post inner_prod inner_sum x

pub and-within : (x : And) → and_inside x ≡ cmp_inside (out-And x).first
unfolding term_inside post_inside sign_inside prod_inside sum_inside cmp_inside and_inside expr_inside
and-within x = fold_out-And Place Place Place Place Place Place Place Place Place Place inner_access inner_arg inner_cmp inner_sign inner_term inner_and inner_expr inner_post inner_prod inner_sum x

pub expr-within : (x : Expr) → expr_inside x ≡ and_inside (out-Expr x).first
unfolding term_inside post_inside sign_inside prod_inside sum_inside cmp_inside and_inside expr_inside
expr-within x = fold_out-Expr Place Place Place Place Place Place Place Place Place Place inner_access inner_arg inner_cmp inner_sign inner_term inner_and inner_expr inner_post inner_prod inner_sum x

pub ruleset inner_places = (post-within, prod-within, sum-within, and-within, expr-within)
