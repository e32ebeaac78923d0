-- Tokens are at most one query.
use Rattle.std.proofs.Common.{ℕ, ◌+◌, ◌≤◌, ◌<◌, ◌≡◌, ◌⊎◌, inl, inr, List, [], ◌∷◌, ◌++◌, refl, sym, ap, subst, ◌∙◌, arith, true≢false}
use Rattle.kql_lexer.specs.declared.keyword.Keyword.TheVariants as word
use Rattle.kql_lexer.specs.declared.place.Place.{Place}
use Rattle.kql_lexer.specs.declared.token.Token.{Token}
use Rattle.kql_syntax.specs.declared.class.Class.{Class}
use Rattle.kql_syntax.specs.declared.class.Class.TheVariants as class
use Rattle.kql_syntax.specs.declared.tree.Expr.{Expr}
use Rattle.kql_syntax.specs.declared.tree.Name.{Name}
use Rattle.kql_syntax.specs.declared.query.Pipe.{Pipe, roll-Pipe}
use Rattle.kql_syntax.specs.declared.query.Source.{Source}
use Rattle.kql_syntax.specs.declared.query.Source.TheVariants as source
use Rattle.kql_syntax.specs.declared.query.Op.{Op}
use Rattle.kql_syntax.specs.declared.query.Let.{Let}
use Rattle.kql_syntax.specs.declared.query.LetBody.{LetBody}
use Rattle.kql_syntax.specs.declared.query.LetBody.TheVariants as letbody
use Rattle.kql_syntax.specs.declared.query.Query.{Query}
use Rattle.kql_syntax.specs.Levels.{Level, source_words, expr_starts, after_expr, followers}
use Rattle.kql_syntax.specs.Forms.{Form, level, pair, either, many, makes, mark, before, after, extends}
use Rattle.kql_syntax.specs.Grammar.{body, range, items, union}
use Rattle.kql_syntax.specs.Derives.{Is, Derives, Stands, IsForm}
use Rattle.kql_syntax.proofs.FormLaws.{opens}
use Rattle.kql_syntax.proofs.NameLaws.{name_expr, name_is_expr}
use Rattle.kql_syntax.proofs.StartLaws.{form_starts, form_order, form_consumes, row_order, stands_left, stands_right, stands_among, stands_apart}
use Rattle.kql_syntax.proofs.TreeLaws.{One, Two, which, sound, wider, either_one, pair_one, many_one, makes_one, expressions_one, name_stops, beside_name, forms_one}
use Rattle.kql_parser.proofs.NameFacts.{name_body}
use Rattle.kql_parser.specs.Query.{body_of, let_body, let_statement, main_pipe, query}
use Rattle.kql_parser.specs.Parsing.{Parsed}

abbrev table_of : Name → Pipe
table_of n = roll-Pipe (record { source = source.Table n; ops = [] })

abbrev piped : Form LetBody
piped = makes letbody.Pipe (level Level.Pipe)

abbrev valued : Form LetBody
valued = makes body_of (level Level.Expr)

-- the sources that are no table's name
abbrev other_source : Form Source
other_source =
    either (makes (λ p. source.Range p.0 p.1) (pair (mark (class.Key word.Range ∷ [])) range))
    (either (makes (λ p. source.Print p.0 p.1) (pair (mark (class.Key word.Print ∷ [])) items))
    (makes (λ p. source.Union p.0 p.1) (pair (mark (class.Key word.Union ∷ [])) union)))

-- a pipe that stands where an expression does: a name, alone or with a bar behind it
record Table (s : List Token) (i j : ℕ) (p : Pipe) : Type 0 where
  middle : ℕ
  it : Name
  name : Derives s Level.Name i middle it
  rest : ((j ≡ middle) × (p ≡ table_of it)) ⊎ (Stands s middle (class.Bar ∷ []) × (middle < j))

-- an expression starts with no word of a source
no_source : (s : List Token) (i m k : ℕ) (src : Source) (e : Expr) → IsForm s other_source i m src → Derives s Level.Expr i k e → ⊥
unfolding Is
no_source s i m k src e h d = elim (form_starts s other_source i m src h) [
  | inl q ↦ true≢false (sym q.1)
  | inr t ↦ elim (form_starts s (level Level.Expr) i k e d) [
    | inl q ↦ true≢false (sym q.1)
    | inr u ↦ stands_apart s i source_words expr_starts refl t u
  ]
]

-- the operators behind a source
abbrev barred : Form Op
barred = after (class.Bar ∷ []) (level Level.Op)

bars : (s : List Token) (m j : ℕ) (o : Op) (os : List Op) → IsForm s (many barred) m j (o ∷ os) → Stands s m (class.Bar ∷ []) × (m < j)
unfolding Is
bars s m j o os r =
    let bar = r.1.1.1 in
    let first : m + 1 ≤ r.0 = form_consumes s barred m r.0 o refl r.1 in
    let end : r.0 ≤ j = row_order (IsForm s barred) (form_order s barred) r.0 j os r.2 in
    (record { it = bar.0; at = bar.1.0; of = bar.1.1 }, omega arith)

table_rest : (s : List Token) (i m j : ℕ) (n : Name) (src : Source) (os : List Op) (p : Pipe) → Derives s Level.Name i m n → src ≡ source.Table n → IsForm s (many barred) m j os → p ≡ roll-Pipe (record { source = src; ops = os }) → Table s i j p
unfolding Is
table_rest s i m j n src [] p d q r e = record { middle = m; it = n; name = d; rest = inl (r, e ∙ ap (λ (x : Source). roll-Pipe (record { source = x; ops = [] })) q) }
table_rest s i m j n src (o ∷ os) p d q r e = record { middle = m; it = n; name = d; rest = inr (bars s m j o os r) }

table_source : (s : List Token) (i m j k : ℕ) (src : Source) (os : List Op) (p : Pipe) (e : Expr) → IsForm s (body Level.Source) i m src → IsForm s (many barred) m j os → p ≡ roll-Pipe (record { source = src; ops = os }) → Derives s Level.Expr i k e → Table s i j p
unfolding Is
table_source s i m j k src os p e h r q d = elim h [ inl u ↦ table_rest s i m j u.0 src os p u.1 u.2 r q | inr u ↦ absurd (no_source s i m k src e u d) ]

table : (s : List Token) (i j k : ℕ) (p : Pipe) (e : Expr) → Derives s Level.Pipe i j p → Derives s Level.Expr i k e → Table s i j p
unfolding Is
table s i j k p e h d =
    let o = opens s Level.Pipe i j p h in
    table_source s i o.1.0 j k o.0.0 o.0.1 p e (opens s Level.Source i o.1.0 o.0.0 o.1.1) o.1.2 o.2 d

-- what is made of the parts
abbrev body_first : LetBody × Place → LetBody
body_first p = p.0

abbrev let_of : Place × (Name × LetBody) → Let
let_of p = record { place = p.0; name = p.1.0; body = p.1.1 }

abbrev query_of : List Let × Pipe → Query
query_of p = record { lets = p.0; main = p.1 }

abbrev body_ends : List Class
body_ends = followers Level.Pipe ++ after_expr

module _ (s : List Token) where
  same_body : (i j : ℕ) (p : Pipe) (e : Expr) → Derives s Level.Expr i j e → Table s i j p → letbody.Pipe p ≡ body_of e
  unfolding Is
  same_body i j p e d t = elim t.rest [
    | inl q ↦
        let name : Derives s Level.Expr i j (name_expr t.it) = subst (λ (m : ℕ). Derives s Level.Expr i m (name_expr t.it)) (sym q.0) (name_is_expr s i t.middle t.it t.name) in
        let one : name_expr t.it ≡ e = (expressions_one s).same i j (name_expr t.it) e name d in
        ap (λ (x : Pipe). letbody.Pipe x) q.1 ∙ sym (name_body t.it) ∙ ap (λ (x : Expr). body_of x) one
    | inr q ↦ absurd (name_stops s i t.middle j t.it e (class.Bar ∷ []) refl q.1 t.name q.0 d)
  ]

  pipe_first : (i j k : ℕ) (p : Pipe) (e : Expr) → j < k → Derives s Level.Expr i k e → Table s i j p → Stands s j body_ends
  unfolding Is
  pipe_first i j k p e o d t = elim t.rest [
    | inl q ↦
        let name : Derives s Level.Expr i j (name_expr t.it) = subst (λ (m : ℕ). Derives s Level.Expr i m (name_expr t.it)) (sym q.0) (name_is_expr s i t.middle t.it t.name) in
        stands_right s j (followers Level.Pipe) after_expr ((expressions_one s).goes_on i j k (name_expr t.it) e o name d)
    | inr q ↦ absurd (name_stops s i t.middle k t.it e (class.Bar ∷ []) refl (omega arith) t.name q.0 d)
  ]

  value_first : (i j k : ℕ) (p : Pipe) (e : Expr) → k < j → Derives s Level.Expr i k e → Table s i j p → Stands s k body_ends
  value_first i j k p e o d t = elim (which t.middle k) [
    | inl l ↦ elim t.rest [
      | inl q ↦ absurd (omega (arith, q.0))
      | inr q ↦ absurd (name_stops s i t.middle k t.it e (class.Bar ∷ []) refl l t.name q.0 d)
    ]
    | inr r ↦ elim r [
      | inl l ↦ stands_right s k (followers Level.Pipe) after_expr (beside_name s i t.middle k t.it e l t.name d)
      | inr same ↦ elim t.rest [
        | inl q ↦ absurd (omega (arith, q.0, same))
        | inr q ↦ stands_left s k (followers Level.Pipe) after_expr (stands_among s k (class.Bar ∷ []) (followers Level.Pipe) refl (subst (λ (m : ℕ). Stands s m (class.Bar ∷ [])) same q.0))
      ]
    ]
  ]

  bodies_two : Two s (IsForm s piped) (IsForm s valued) body_ends
  unfolding Is
  bodies_two = record {
    same = λ i j x y p q. p.2 ∙ same_body i j p.0 q.0 q.1 (table s i j j p.0 q.0 p.1 q.1) ∙ sym q.2;
    left = λ i j k x y o p q. pipe_first i j k p.0 q.0 o q.1 (table s i j k p.0 q.0 p.1 q.1);
    right = λ i j k x y o p q. value_first i j k p.0 q.0 o q.1 (table s i j k p.0 q.0 p.1 q.1);
  }

  let_body_one : One s (IsForm s let_body) body_ends
  let_body_one = either_one s (Derives s) (sound s) body_ends piped valued (wider (extends piped) body_ends refl (forms_one s piped refl)) (wider (extends valued) body_ends refl (forms_one s valued refl)) bodies_two

  let_end_one : One s (IsForm s (before let_body (class.Semicolon ∷ []))) (extends (before let_body (class.Semicolon ∷ [])))
  let_end_one = makes_one s (Derives s) (sound s) body_first [] (pair let_body (mark (class.Semicolon ∷ []))) (pair_one s (Derives s) (sound s) let_body (mark (class.Semicolon ∷ [])) let_body_one (forms_one s (mark (class.Semicolon ∷ [])) refl) refl)

  let_one : One s (IsForm s let_statement) []
  let_one =
      let name = forms_one s (before (level Level.Name) (class.Assign ∷ [])) refl in
      let rest = pair_one s (Derives s) (sound s) (before (level Level.Name) (class.Assign ∷ [])) (before let_body (class.Semicolon ∷ [])) name let_end_one refl in
      makes_one s (Derives s) (sound s) let_of []
      (pair (mark (class.Key word.Let ∷ [])) (pair (before (level Level.Name) (class.Assign ∷ [])) (before let_body (class.Semicolon ∷ []))))
      (pair_one s (Derives s) (sound s) (mark (class.Key word.Let ∷ [])) (pair (before (level Level.Name) (class.Assign ∷ [])) (before let_body (class.Semicolon ∷ []))) (forms_one s (mark (class.Key word.Let ∷ [])) refl) rest refl)

  query_one : One s (IsForm s query) []
  query_one =
      makes_one s (Derives s) (sound s) query_of []
      (pair (many let_statement) (before main_pipe (class.End ∷ [])))
      (pair_one s (Derives s) (sound s) (many let_statement) (before main_pipe (class.End ∷ [])) (many_one s (Derives s) (sound s) let_statement let_one refl refl) (forms_one s (before main_pipe (class.End ∷ [])) refl) refl)

pub one_query : (s : List Token) (i j : ℕ) (q r : Query) → IsForm s query i j q → IsForm s query i j r → q ≡ r
one_query s i j q r h g = (query_one s).same i j q r h g

pub one_parsed : (s : List Token) (q r : Query) → Parsed s q → Parsed s r → q ≡ r
one_parsed s q r h g = one_query s 0 _ q r h.is g.is
