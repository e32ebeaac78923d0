-- Names as expressions.
use Rattle.std.proofs.Common.{ℕ, ◌+◌, ◌≡◌, ◌⊎◌, inl, inr, List, [], ◌∷◌, refl, sym, subst, arith}
use Rattle.std.specs.Prelude.{None}
use Rattle.kql_lexer.specs.declared.token.Token.{Token}
use Rattle.kql_syntax.specs.declared.class.Class.TheVariants as class
use Rattle.kql_syntax.specs.declared.tree.Name.{Name}
use Rattle.kql_syntax.specs.declared.tree.Expr.{Expr, roll-Expr}
use Rattle.kql_syntax.specs.declared.tree.And.{And, roll-And}
use Rattle.kql_syntax.specs.declared.tree.Cmp.{Cmp}
use Rattle.kql_syntax.specs.declared.tree.Cmp.TheVariants as cmp
use Rattle.kql_syntax.specs.declared.tree.Sum.{Sum, roll-Sum}
use Rattle.kql_syntax.specs.declared.tree.Prod.{Prod, roll-Prod}
use Rattle.kql_syntax.specs.declared.tree.Sign.{Sign}
use Rattle.kql_syntax.specs.declared.tree.Sign.TheVariants as sign
use Rattle.kql_syntax.specs.declared.tree.Post.{Post, roll-Post}
use Rattle.kql_syntax.specs.declared.tree.Term.TheVariants as term
use Rattle.kql_syntax.specs.Levels.{Level, followers, after_expr}
use Rattle.kql_syntax.specs.Forms.{level, token}
use Rattle.kql_syntax.specs.Grammar.{called}
use Rattle.kql_syntax.specs.Derives.{Is, Begins, Found, Stands, Missing, IsForm, BeginsForm}
use Rattle.kql_syntax.proofs.FormLaws.{begins_closes, closes}
use Rattle.kql_syntax.proofs.StartLaws.{stands_cases}
use Rattle.kql_syntax.proofs.ReadingLaws.{Under, level_found, level_found_in, makes_found, makes_refused, pair_found, pair_refused_late, after_none, none_starts, either_left, option_none, many_stops, token_found, stands_other, found_starts, found_after, found_end, missing_among, in_found, in_left, in_right_none, under_none, under_refused, under_either}

-- a name as each level of an expression
abbrev pub name_post : Name → Post
name_post n = roll-Post (record { first = term.Name n; more = [] })

abbrev pub name_sign : Name → Sign
name_sign n = sign.Plain (name_post n)

abbrev pub name_prod : Name → Prod
name_prod n = roll-Prod (record { first = name_sign n; more = [] })

abbrev pub name_sum : Name → Sum
name_sum n = roll-Sum (record { first = name_prod n; more = [] })

abbrev pub name_cmp : Name → Cmp
name_cmp n = cmp.Plain (name_sum n)

abbrev pub name_and : Name → And
name_and n = roll-And (record { first = name_cmp n; more = [] })

abbrev pub name_expr : Name → Expr
name_expr n = roll-Expr (record { first = name_and n; more = [] })

-- what begins a name begins an expression
pub name_begins : (s : List Token) (i j : ℕ) → BeginsForm s (level Level.Name) i j → BeginsForm s (level Level.Expr) i j
unfolding Begins
name_begins s i j b = begins_closes s Level.Expr i j (inl (begins_closes s Level.And i j (inl (begins_closes s Level.Cmp i j (inl (begins_closes s Level.Sum i j (inl (begins_closes s Level.Prod i j (inl (begins_closes s Level.Sign i j (inl (begins_closes s Level.Post i j (inl (begins_closes s Level.Term i j (inr (inl b))))))))))))))))

-- a name is an expression
pub name_is_expr : (s : List Token) (i k : ℕ) (n : Name) → IsForm s (level Level.Name) i k n → IsForm s (level Level.Expr) i k (name_expr n)
unfolding Is
name_is_expr s i k n h =
    let as_term = closes s Level.Term i k (term.Name n) (inr (inl (n, h, refl))) in
    let as_post = closes s Level.Post i k (name_post n) ((term.Name n, []), (k, as_term, refl), refl) in
    let as_sign = closes s Level.Sign i k (name_sign n) (inl (name_post n, as_post, refl)) in
    let as_prod = closes s Level.Prod i k (name_prod n) ((name_sign n, []), (k, as_sign, refl), refl) in
    let as_sum = closes s Level.Sum i k (name_sum n) ((name_prod n, []), (k, as_prod, refl), refl) in
    let as_cmp = closes s Level.Cmp i k (name_cmp n) ((name_sum n, None), (k, as_sum, refl), refl) in
    let as_and = closes s Level.And i k (name_and n) ((name_cmp n, []), (k, as_cmp, refl), refl) in
    closes s Level.Expr i k (name_expr n) ((name_and n, []), (k, as_and, refl), refl)

module _ {s : List Token} where
  -- no call begins with a name that no bracket follows
  no_call : {i k : ℕ} {n : Name} → Found (level Level.Name) s i k n → Missing s k (class.Open ∷ []) → Stands s i (class.Name ∷ []) ⊎ Stands s i (class.OpenSquare ∷ []) → Under (followers Level.Term) called s i k
  no_call {i = i} {k = k} f m (inl t) =
      let w : Found (token (class.Name ∷ [])) s i (i + 1) t.it = token_found t.at t.of in
      let short : Found (level Level.Name) s i (i + 1) _ = level_found Level.Name (either_left (makes_found (makes_found w)) (stands_other t refl) refl) in
      let same : i + 1 ≡ k = found_end short f in
      under_refused (makes_refused (pair_refused_late (makes_found w) (makes_refused (after_none (none_starts (subst (λ (j : ℕ). Missing s j (class.Open ∷ [])) (sym same) m) refl))) refl)) (omega arith) refl
  no_call f m (inr t) = under_none (stands_other t refl) refl (found_after f)

  pub name_found : {i k : ℕ} {n : Name} → Found (level Level.Name) s i k n → Missing s k after_expr → Found (level Level.Expr) s i k (name_expr n)
  name_found {i = i} {k = k} {n = n} f m =
      let start = found_starts f refl in
      let as_term : Found (level Level.Term) s i k (term.Name n) = level_found_in Level.Term (in_right_none (in_left (in_found (makes_found f) refl) (under_either (no_call f (missing_among m refl) (stands_cases s i (class.Name ∷ []) (class.OpenSquare ∷ []) start)) (under_none (stands_other start refl) refl (found_after f)))) (stands_other start refl) refl) in
      let as_post : Found (level Level.Post) s i k (name_post n) = level_found Level.Post (makes_found (pair_found as_term (many_stops (missing_among m refl) refl) refl)) in
      let as_sign : Found (level Level.Sign) s i k (name_sign n) = level_found Level.Sign (either_left (makes_found as_post) (stands_other start refl) refl) in
      let as_prod : Found (level Level.Prod) s i k (name_prod n) = level_found Level.Prod (makes_found (pair_found as_sign (many_stops (missing_among m refl) refl) refl)) in
      let as_sum : Found (level Level.Sum) s i k (name_sum n) = level_found Level.Sum (makes_found (pair_found as_prod (many_stops (missing_among m refl) refl) refl)) in
      let as_cmp : Found (level Level.Cmp) s i k (name_cmp n) = level_found Level.Cmp (makes_found (pair_found as_sum (option_none (missing_among m refl) refl) refl)) in
      let as_and : Found (level Level.And) s i k (name_and n) = level_found Level.And (makes_found (pair_found as_cmp (many_stops (missing_among m refl) refl) refl)) in
      level_found Level.Expr (makes_found (pair_found as_and (many_stops (missing_among m refl) refl) refl))
