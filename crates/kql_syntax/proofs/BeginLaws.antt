-- What a first token begins.
use Rattle.std.proofs.Common.{ℕ, ◌+◌, List, [], ◌∷◌, inl, inr, refl}
use Rattle.kql_lexer.specs.declared.keyword.Keyword.TheVariants as word
use Rattle.kql_lexer.specs.declared.token.Token.{Token}
use Rattle.kql_syntax.specs.declared.class.Class.TheVariants as class
use Rattle.kql_syntax.specs.Levels.{Level, literals, name_starts, term_starts, expr_starts}
use Rattle.kql_syntax.specs.Forms.{level}
use Rattle.kql_syntax.specs.Grammar.{arguments, items, pattern, step}
use Rattle.kql_syntax.specs.Derives.{Begins, Stands, BeginsForm}
use Rattle.kql_syntax.proofs.FormLaws.{begins_closes}
use Rattle.kql_syntax.proofs.StartLaws.{stands_cases}

module _ {s : List Token} {i : ℕ} where
  name_begun : Stands s i name_starts → BeginsForm s (level Level.Name) i (i + 1)
  unfolding Begins
  name_begun h = begins_closes s Level.Name i (i + 1) (elim (stands_cases s i (class.Name ∷ []) (class.OpenSquare ∷ []) h) [ inl t ↦ inl (inr (t, refl)) | inr t ↦ inr (inl (inr (t, refl))) ])

  term_begun : Stands s i term_starts → BeginsForm s (level Level.Term) i (i + 1)
  unfolding Begins
  term_begun h = begins_closes s Level.Term i (i + 1) (elim (stands_cases s i literals (class.Open ∷ name_starts) h) [
    | inl t ↦ inl (inr (t, refl))
    | inr t ↦ (elim (stands_cases s i (class.Open ∷ []) name_starts t) [ inl u ↦ inr (inr (inr (inl (inr (u, refl))))) | inr u ↦ inr (inl (name_begun u)) ])
  ])

  sign_begun : Stands s i expr_starts → BeginsForm s (level Level.Sign) i (i + 1)
  unfolding Begins
  sign_begun h = begins_closes s Level.Sign i (i + 1) (elim (stands_cases s i (class.Minus ∷ []) term_starts h) [
    | inl t ↦ inr (inl (inr (t, refl)))
    | inr t ↦ inl (begins_closes s Level.Post i (i + 1) (inl (term_begun t)))
  ])

  expr_begun : Stands s i expr_starts → BeginsForm s (level Level.Expr) i (i + 1)
  unfolding Begins
  expr_begun h = begins_closes s Level.Expr i (i + 1) (inl (begins_closes s Level.And i (i + 1) (inl (begins_closes s Level.Cmp i (i + 1) (inl (begins_closes s Level.Sum i (i + 1) (inl (begins_closes s Level.Prod i (i + 1) (inl (sign_begun h))))))))))

  pub items_begins : Stands s i expr_starts → BeginsForm s items i (i + 1)
  unfolding Begins
  items_begins h = inl (begins_closes s Level.Item i (i + 1) (inr (expr_begun h)))

  pub pattern_begins : Stands s i (class.Star ∷ class.Text ∷ class.Name ∷ class.OpenSquare ∷ []) → BeginsForm s pattern i (i + 1)
  unfolding Begins
  pattern_begins h = elim (stands_cases s i (class.Star ∷ []) (class.Text ∷ class.Name ∷ class.OpenSquare ∷ []) h) [
    | inl t ↦ inl (inr (t, refl))
    | inr t ↦ (elim (stands_cases s i (class.Text ∷ []) name_starts t) [ inl u ↦ inr (inl (inr (u, refl))) | inr u ↦ inr (inr (inl (name_begun u))) ])
  ]

  pub step_begins : Stands s i (class.Key word.Step ∷ []) → BeginsForm s step i (i + 1)
  unfolding Begins
  step_begins h = inl (inr (h, refl))

  pub access_begins : Stands s i (class.Dot ∷ class.OpenSquare ∷ []) → BeginsForm s (level Level.Access) i (i + 1)
  unfolding Begins
  access_begins h = begins_closes s Level.Access i (i + 1) (elim (stands_cases s i (class.Dot ∷ []) (class.OpenSquare ∷ []) h) [ inl t ↦ inl (inl (inr (t, refl))) | inr t ↦ inr (inl (inr (t, refl))) ])

  pub arguments_begins : Stands s i (class.Open ∷ []) → BeginsForm s arguments i (i + 1)
  unfolding Begins
  arguments_begins h = inl (inr (h, refl))
