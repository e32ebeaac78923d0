-- What terms alone are, part by part.
use Rattle.std.proofs.Common.{◌≡◌, ◌≤◌, List, [], ◌∷◌, length, refl, sym, ap, ◌∙◌, subst, arith}
use Rattle.std.specs.Prelude.{Option, None, Some}
use Rattle.kql_lexer.specs.declared.place.Place.{Place}
use Rattle.kql_syntax.specs.Alone.{expr_in_arg, literal_in_term, literal_of_term, name_in_term, name_of_term, only, post_in_sign, sum_in_cmp, term_alone, term_of_and, term_of_arg, term_of_cmp, term_of_post, term_of_prod, term_of_sign, term_of_sum}
use Rattle.kql_syntax.specs.declared.tree.Access.{Access}
use Rattle.kql_syntax.specs.declared.tree.Access.TheOpen.{Arg-F, Cmp-F, Sign-F, Term-F}
use Rattle.kql_syntax.specs.declared.tree.And.{And, out-And}
use Rattle.kql_syntax.specs.declared.tree.Arg.{Arg, out-Arg, out-roll-Arg}
use Rattle.kql_syntax.specs.declared.tree.Arg.TheVariants as ArgV
use Rattle.kql_syntax.specs.declared.tree.BetweenSign.{BetweenSign}
use Rattle.kql_syntax.specs.declared.tree.Cmp.{Cmp, out-Cmp, out-roll-Cmp}
use Rattle.kql_syntax.specs.declared.tree.Cmp.TheVariants as CmpV
use Rattle.kql_syntax.specs.declared.tree.CompareSign.{CompareSign}
use Rattle.kql_syntax.specs.declared.tree.Expr.{Expr, out-Expr}
use Rattle.kql_syntax.specs.declared.tree.InSign.{InSign}
use Rattle.kql_syntax.specs.declared.tree.Literal.{Literal}
use Rattle.kql_syntax.specs.declared.tree.Name.{Name}
use Rattle.kql_syntax.specs.declared.tree.Post.{Post, out-Post}
use Rattle.kql_syntax.specs.declared.tree.Prod.{Prod, out-Prod}
use Rattle.kql_syntax.specs.declared.tree.ProdSign.{ProdSign}
use Rattle.kql_syntax.specs.declared.tree.Sign.{Sign, out-Sign, out-roll-Sign}
use Rattle.kql_syntax.specs.declared.tree.Sign.TheVariants as SignV
use Rattle.kql_syntax.specs.declared.tree.Sum.{Sum, out-Sum}
use Rattle.kql_syntax.specs.declared.tree.SumSign.{SumSign}
use Rattle.kql_syntax.specs.declared.tree.Term.{Term, out-Term, out-roll-Term}
use Rattle.kql_syntax.specs.declared.tree.Term.TheVariants as TermV
use Rattle.kql_syntax.specs.declared.tree.Word.{Word}

only-none : {A B : Type 0} (more : List B) (x : Option A) → length more ≡ 0 → x ≡ only more x
only-none [] x e = refl
only-none (b ∷ more) x e = absurd (omega (arith, e))

only-more : {A B : Type 0} (more : List B) (x : Option A) → 1 ≤ length more → None ≡ only more x
only-more [] x e = absurd (omega (arith, e))
only-more (b ∷ more) x e = refl

pub post-one : (p : Post) (more : List Access) → more ≡ (out-Post p).more → length more ≡ 0 → Some (out-Post p).first ≡ term_of_post p
unfolding term_of_post
post-one p more is none = only-none (out-Post p).more (Some (out-Post p).first) (ap (λ (m : List Access). length m) (sym is) ∙ none)

pub post-more : (p : Post) (more : List Access) → more ≡ (out-Post p).more → 1 ≤ length more → None ≡ term_of_post p
unfolding term_of_post
post-more p more is some = only-more (out-Post p).more (Some (out-Post p).first) (subst (λ (m : List Access). 1 ≤ length m) is some)

pub ruleset post_steps = (post-one, post-more)

pub prod-one : (p : Prod) (more : List (ProdSign × Sign)) (t : Option Term) → more ≡ (out-Prod p).more → length more ≡ 0 → t ≡ term_of_sign (out-Prod p).first → t ≡ term_of_prod p
unfolding term_of_prod
prod-one p more t is none same = same ∙ only-none (out-Prod p).more (term_of_sign (out-Prod p).first) (ap (λ (m : List (ProdSign × Sign)). length m) (sym is) ∙ none)

pub prod-more : (p : Prod) (more : List (ProdSign × Sign)) → more ≡ (out-Prod p).more → 1 ≤ length more → None ≡ term_of_prod p
unfolding term_of_prod
prod-more p more is some = only-more (out-Prod p).more (term_of_sign (out-Prod p).first) (subst (λ (m : List (ProdSign × Sign)). 1 ≤ length m) is some)

pub ruleset prod_steps = (prod-one, prod-more)

pub sum-one : (p : Sum) (more : List (SumSign × Prod)) (t : Option Term) → more ≡ (out-Sum p).more → length more ≡ 0 → t ≡ term_of_prod (out-Sum p).first → t ≡ term_of_sum p
unfolding term_of_sum
sum-one p more t is none same = same ∙ only-none (out-Sum p).more (term_of_prod (out-Sum p).first) (ap (λ (m : List (SumSign × Prod)). length m) (sym is) ∙ none)

pub sum-more : (p : Sum) (more : List (SumSign × Prod)) → more ≡ (out-Sum p).more → 1 ≤ length more → None ≡ term_of_sum p
unfolding term_of_sum
sum-more p more is some = only-more (out-Sum p).more (term_of_prod (out-Sum p).first) (subst (λ (m : List (SumSign × Prod)). 1 ≤ length m) is some)

pub ruleset sum_steps = (sum-one, sum-more)

pub and-one : (p : And) (more : List (Place × Cmp)) (t : Option Term) → more ≡ (out-And p).more → length more ≡ 0 → t ≡ term_of_cmp (out-And p).first → t ≡ term_of_and p
unfolding term_of_and
and-one p more t is none same = same ∙ only-none (out-And p).more (term_of_cmp (out-And p).first) (ap (λ (m : List (Place × Cmp)). length m) (sym is) ∙ none)

pub and-more : (p : And) (more : List (Place × Cmp)) → more ≡ (out-And p).more → 1 ≤ length more → None ≡ term_of_and p
unfolding term_of_and
and-more p more is some = only-more (out-And p).more (term_of_cmp (out-And p).first) (subst (λ (m : List (Place × Cmp)). 1 ≤ length m) is some)

pub ruleset and_steps = (and-one, and-more)

pub expr-one : (p : Expr) (more : List (Place × And)) (t : Option Term) → more ≡ (out-Expr p).more → length more ≡ 0 → t ≡ term_of_and (out-Expr p).first → t ≡ term_alone p
unfolding term_alone
expr-one p more t is none same = same ∙ only-none (out-Expr p).more (term_of_and (out-Expr p).first) (ap (λ (m : List (Place × And)). length m) (sym is) ∙ none)

pub expr-more : (p : Expr) (more : List (Place × And)) → more ≡ (out-Expr p).more → 1 ≤ length more → None ≡ term_alone p
unfolding term_alone
expr-more p more is some = only-more (out-Expr p).more (term_of_and (out-Expr p).first) (subst (λ (m : List (Place × And)). 1 ≤ length m) is some)

pub ruleset expr_steps = (expr-one, expr-more)

-- Parts of several forms.

pub sign-Plain : (s : Sign) (p : Post) (t : Option Term) → s ≡ SignV.Plain p → t ≡ term_of_post p → t ≡ term_of_sign s
unfolding term_of_sign
sign-Plain s p t is same = same ∙ (ap post_in_sign (sym (out-roll-Sign (Sign-F.«Sign::Plain» p)) ∙ (ap out-Sign (SignV.rolls-Plain p) ∙ ap out-Sign (sym is))))

pub sign-Minus : (s : Sign) (place : Place) (p : Post) → s ≡ SignV.Minus place p → None ≡ term_of_sign s
unfolding term_of_sign
sign-Minus s place p is = ap post_in_sign (sym (out-roll-Sign (Sign-F.Minus place p)) ∙ (ap out-Sign (SignV.rolls-Minus place p) ∙ ap out-Sign (sym is)))

pub ruleset sign_steps = (sign-Plain, sign-Minus)

pub cmp-Plain : (c : Cmp) (s : Sum) (t : Option Term) → c ≡ CmpV.Plain s → t ≡ term_of_sum s → t ≡ term_of_cmp c
unfolding term_of_cmp
cmp-Plain c s t is same = same ∙ (ap sum_in_cmp (sym (out-roll-Cmp (Cmp-F.«Cmp::Plain» s)) ∙ (ap out-Cmp (CmpV.rolls-Plain s) ∙ ap out-Cmp (sym is))))

pub cmp-Compared : (c : Cmp) (s : Sum) (sign : CompareSign) (b : Sum) → c ≡ CmpV.Compared s sign b → None ≡ term_of_cmp c
unfolding term_of_cmp
cmp-Compared c s sign b is = ap sum_in_cmp (sym (out-roll-Cmp (Cmp-F.Compared s sign b)) ∙ (ap out-Cmp (CmpV.rolls-Compared s sign b) ∙ ap out-Cmp (sym is)))

pub cmp-In : (c : Cmp) (s : Sum) (sign : InSign) (es : List Expr) → c ≡ CmpV.In s sign es → None ≡ term_of_cmp c
unfolding term_of_cmp
cmp-In c s sign es is = ap sum_in_cmp (sym (out-roll-Cmp (Cmp-F.In s sign es)) ∙ (ap out-Cmp (CmpV.rolls-In s sign es) ∙ ap out-Cmp (sym is)))

pub cmp-Between : (c : Cmp) (s : Sum) (sign : BetweenSign) (b : Sum × Sum) → c ≡ CmpV.Between s sign b → None ≡ term_of_cmp c
unfolding term_of_cmp
cmp-Between c s sign b is = ap sum_in_cmp (sym (out-roll-Cmp (Cmp-F.Between s sign b)) ∙ (ap out-Cmp (CmpV.rolls-Between s sign b) ∙ ap out-Cmp (sym is)))

pub ruleset cmp_steps = (cmp-Plain, cmp-Compared, cmp-In, cmp-Between)

pub arg-Plain : (a : Arg) (e : Expr) (t : Option Term) → a ≡ ArgV.Plain e → t ≡ term_alone e → t ≡ term_of_arg a
unfolding term_of_arg
arg-Plain a e t is same = same ∙ (ap expr_in_arg (sym (out-roll-Arg (Arg-F.«Arg::Plain» e)) ∙ (ap out-Arg (ArgV.rolls-Plain e) ∙ ap out-Arg (sym is))))

pub arg-Star : (a : Arg) (place : Place) → a ≡ ArgV.Star place → None ≡ term_of_arg a
unfolding term_of_arg
arg-Star a place is = ap expr_in_arg (sym (out-roll-Arg (Arg-F.Star place)) ∙ (ap out-Arg (ArgV.rolls-Star place) ∙ ap out-Arg (sym is)))

pub ruleset arg_steps = (arg-Plain, arg-Star)

-- Names and literals.

pub name-Literal : (t : Term) (l : Literal) → t ≡ TermV.Literal l → None ≡ name_of_term t
unfolding name_of_term
name-Literal t l is = ap name_in_term (sym (out-roll-Term (Term-F.Literal l)) ∙ (ap out-Term (TermV.rolls-Literal l) ∙ ap out-Term (sym is)))

pub name-Name : (t : Term) (n : Name) → t ≡ TermV.Name n → Some n ≡ name_of_term t
unfolding name_of_term
name-Name t n is = ap name_in_term (sym (out-roll-Term (Term-F.Name n)) ∙ (ap out-Term (TermV.rolls-Name n) ∙ ap out-Term (sym is)))

pub name-Call : (t : Term) (w : Word) (args : List Arg) → t ≡ TermV.Call w args → None ≡ name_of_term t
unfolding name_of_term
name-Call t w args is = ap name_in_term (sym (out-roll-Term (Term-F.Call w args)) ∙ (ap out-Term (TermV.rolls-Call w args) ∙ ap out-Term (sym is)))

pub name-Group : (t : Term) (place : Place) (e : Expr) → t ≡ TermV.Group place e → None ≡ name_of_term t
unfolding name_of_term
name-Group t place e is = ap name_in_term (sym (out-roll-Term (Term-F.Group place e)) ∙ (ap out-Term (TermV.rolls-Group place e) ∙ ap out-Term (sym is)))

pub ruleset name_steps = (name-Literal, name-Name, name-Call, name-Group)

pub literal-Literal : (t : Term) (l : Literal) → t ≡ TermV.Literal l → Some l ≡ literal_of_term t
unfolding literal_of_term
literal-Literal t l is = ap literal_in_term (sym (out-roll-Term (Term-F.Literal l)) ∙ (ap out-Term (TermV.rolls-Literal l) ∙ ap out-Term (sym is)))

pub literal-Name : (t : Term) (n : Name) → t ≡ TermV.Name n → None ≡ literal_of_term t
unfolding literal_of_term
literal-Name t n is = ap literal_in_term (sym (out-roll-Term (Term-F.Name n)) ∙ (ap out-Term (TermV.rolls-Name n) ∙ ap out-Term (sym is)))

pub literal-Call : (t : Term) (w : Word) (args : List Arg) → t ≡ TermV.Call w args → None ≡ literal_of_term t
unfolding literal_of_term
literal-Call t w args is = ap literal_in_term (sym (out-roll-Term (Term-F.Call w args)) ∙ (ap out-Term (TermV.rolls-Call w args) ∙ ap out-Term (sym is)))

pub literal-Group : (t : Term) (place : Place) (e : Expr) → t ≡ TermV.Group place e → None ≡ literal_of_term t
unfolding literal_of_term
literal-Group t place e is = ap literal_in_term (sym (out-roll-Term (Term-F.Group place e)) ∙ (ap out-Term (TermV.rolls-Group place e) ∙ ap out-Term (sym is)))

pub ruleset literal_steps = (literal-Literal, literal-Name, literal-Call, literal-Group)
