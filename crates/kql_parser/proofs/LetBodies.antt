-- Bodies of let statements: pipes and expressions that start alike.
use Rattle.std.proofs.Common.{ℕ, ◌+◌, ◌≤◌, ◌≡◌, inl, inr, List, [], ◌∷◌, refl, subst, arith}
use native.Mathlib.Decide.{dec_le}
use Rattle.kql_lexer.specs.declared.token.Token.{Token}
use Rattle.kql_syntax.specs.declared.class.Class.TheVariants as class
use Rattle.kql_syntax.specs.declared.tree.Expr.{Expr}
use Rattle.kql_syntax.specs.declared.tree.Name.{Name}
use Rattle.kql_syntax.specs.declared.query.Pipe.{Pipe, roll-Pipe}
use Rattle.kql_syntax.specs.declared.query.Source.TheVariants as source
use Rattle.kql_syntax.specs.declared.query.LetBody.TheVariants as letbody
use Rattle.kql_syntax.specs.Levels.{Level, source_words}
use Rattle.kql_syntax.specs.Forms.{Form, level, either, extends}
use Rattle.kql_syntax.specs.Derives.{Is, Begins, Found, Refused, Stands, Missing, IsForm, BeginsForm}
use Rattle.kql_syntax.proofs.FormLaws.{begins_closes, closes, is_of_begins}
use Rattle.kql_syntax.proofs.StartLaws.{stands_left, stands_right}
use Rattle.kql_syntax.proofs.ReadingLaws.{FoundIn, RefusedIn, level_found, level_refused, makes_found, makes_refused, pair_found, pair_refused, either_left, either_refused_left, many_stops, stands_other, stands_among, in_found, in_refused, in_left, in_right, in_refused_left, in_refused_right, under_found, under_refused}
use Rattle.kql_operators.specs.Named.{NoName}
use Rattle.kql_parser.specs.Piped.{Unbarred, Piped, Unpiped}
use Rattle.kql_parser.specs.Query.{body_of, let_body}
use Rattle.kql_syntax.proofs.NameLaws.{name_expr, name_begins, name_found, name_is_expr}

abbrev table_of : Name → Pipe
table_of n = roll-Pipe (record { source = source.Table n; ops = [] })

module _ {s : List Token} where
  of_found_in : {A : Type 0} {a : Form A} {i end : ℕ} {x : A} → FoundIn (extends a) a s i end x → Found a s i end x
  of_found_in f = record { is = f.is; furthest = f.furthest; others = f.others }

  of_refused_in : {A : Type 0} {a : Form A} {i end : ℕ} → RefusedIn (extends a) a s i end → Refused a s i end
  of_refused_in f = record { begins = f.begins; furthest = f.furthest; others = f.others; none = f.none }

  -- both alternatives are found as far as here
  either_both : {A : Type 0} {a b : Form A} {i end : ℕ} {x y : A} → Found a s i end x → Found b s i end y → Found (either a b) s i end y
  unfolding Is Begins
  either_both {a = a} {b = b} f g = record {
    is = inr g.is;
    furthest = λ j h. elim h [ inl p ↦ f.furthest j p | inr p ↦ g.furthest j p ];
    others = λ j z h. elim h [
      | inl p ↦ (elim (f.others j z p) [ inl e ↦ inl e | inr d ↦ inr (stands_left s j (extends a) (extends b) d) ])
      | inr p ↦ (elim (g.others j z p) [ inl e ↦ inl e | inr d ↦ inr (stands_right s j (extends a) (extends b) d) ])
    ];
  }

  -- a bar behind a name begins a pipe
  barred_begins : {i k : ℕ} {n : Name} → Found (level Level.Name) s i k n → Stands s k (class.Bar ∷ []) → BeginsForm s (level Level.Pipe) i (k + 1)
  unfolding Is Begins
  barred_begins {i = i} {k = k} {n = n} f t = begins_closes s Level.Pipe i (k + 1) (inr (k, source.Table n, closes s Level.Source i k (source.Table n) (inl (n, f.is, refl)), (k, [], refl, inl (inr (t, refl)))))

  -- a name that no bar follows is a pipe
  table_found : {i k : ℕ} {n : Name} → Found (level Level.Name) s i k n → Missing s k (class.Bar ∷ []) → Missing s i source_words → Found (level Level.Pipe) s i k (table_of n)
  table_found f m w = level_found Level.Pipe (makes_found (pair_found (level_found Level.Source (either_left (makes_found f) w refl)) (many_stops m refl) refl))

  no_table : {i end : ℕ} → Refused (level Level.Name) s i end → Missing s i source_words → Refused (level Level.Pipe) s i end
  no_table r w = level_refused Level.Pipe (makes_refused (pair_refused (level_refused Level.Source (either_refused_left (makes_refused r) w refl)) refl))

  pub piped_found : {i end : ℕ} {p : Pipe} → Piped s i → Found (level Level.Pipe) s i end p → Found let_body s i end (letbody.Pipe p)
  piped_found h f = elim h.start [
    | inl t ↦ either_left (makes_found f) (stands_other t refl) refl
    | inr b ↦ of_found_in (in_left (in_found (makes_found f) refl) (under_found (makes_found (name_found b.name (stands_other b.bar refl))) (f.furthest (b.end + 1) (barred_begins b.name b.bar)) (stands_among b.bar refl) refl))
  ]

  pub piped_refused : {i end : ℕ} → Piped s i → Refused (level Level.Pipe) s i end → Refused let_body s i end
  piped_refused h r = elim h.start [
    | inl t ↦ either_refused_left (makes_refused r) (stands_other t refl) refl
    | inr b ↦ of_refused_in (in_refused_left (in_refused (makes_refused r) refl) (under_found (makes_found (name_found b.name (stands_other b.bar refl))) (r.furthest (b.end + 1) (barred_begins b.name b.bar)) (stands_among b.bar refl) refl))
  ]

  name_before : {i k end : ℕ} {n : Name} → ((j : ℕ) → BeginsForm s (level Level.Expr) i j → j ≤ end) → Found (level Level.Name) s i k n → k ≤ end
  name_before {i = i} {k = k} {n = n} furthest f = furthest k (name_begins s i k (is_of_begins s (level Level.Name) i k n f.is))

  nameless_found : {i end : ℕ} {e : Expr} → Missing s i source_words → NoName s i → Found (level Level.Expr) s i end e → Found let_body s i end (body_of e)
  nameless_found {i = i} w n f = of_found_in (in_right (in_found (makes_found f) refl) (under_refused (makes_refused (no_table n.refused w)) (f.furthest n.end (name_begins s i n.end n.refused.begins)) refl))

  unbarred_found : {i end : ℕ} {e : Expr} → Missing s i source_words → Unbarred s i → Found (level Level.Expr) s i end e → Found let_body s i end (body_of e)
  unbarred_found {i = i} {end = end} w b f =
      let before : b.end ≤ end = name_before f.furthest b.name in
      elim (dec_le (b.end + 1) end) [
        | yes o ↦ (elim (f.others b.end (name_expr b.it) (name_is_expr s i b.end b.it b.name.is)) [
          | inl same ↦ absurd (omega arith)
          | inr t ↦ of_found_in (in_right (in_found (makes_found f) refl) (under_found (makes_found (table_found b.name b.bar w)) o (stands_among t refl) refl))
        ])
        | no o ↦ (let same : b.end ≡ end = omega arith in
            either_both (makes_found (subst (λ (k : ℕ). Found (level Level.Pipe) s i k (table_of b.it)) same (table_found b.name b.bar w))) (makes_found f))
      ]

  pub unpiped_found : {i end : ℕ} {e : Expr} → Unpiped s i → Found (level Level.Expr) s i end e → Found let_body s i end (body_of e)
  unpiped_found h f = elim h.rest [ inl n ↦ nameless_found h.start n f | inr b ↦ unbarred_found h.start b f ]

  nameless_refused : {i end : ℕ} → Missing s i source_words → NoName s i → Refused (level Level.Expr) s i end → Refused let_body s i end
  nameless_refused {i = i} w n r = of_refused_in (in_refused_right (in_refused (makes_refused r) refl) (under_refused (makes_refused (no_table n.refused w)) (r.furthest n.end (name_begins s i n.end n.refused.begins)) refl))

  unbarred_refused : {i end : ℕ} → Missing s i source_words → Unbarred s i → Refused (level Level.Expr) s i end → Refused let_body s i end
  unbarred_refused {i = i} {end = end} w b r =
      let before : b.end ≤ end = name_before r.furthest b.name in
      let here : IsForm s (level Level.Expr) i b.end (name_expr b.it) = name_is_expr s i b.end b.it b.name.is in
      elim (dec_le (b.end + 1) end) [
        | yes o ↦ of_refused_in (in_refused_right (in_refused (makes_refused r) refl) (under_found (makes_found (table_found b.name b.bar w)) o (stands_among (r.others b.end (name_expr b.it) here) refl) refl))
        | no o ↦ (let same : b.end ≡ end = omega arith in absurd (r.none (name_expr b.it) (subst (λ (k : ℕ). IsForm s (level Level.Expr) i k (name_expr b.it)) same here)))
      ]

  pub unpiped_refused : {i end : ℕ} → Unpiped s i → Refused (level Level.Expr) s i end → Refused let_body s i end
  unpiped_refused h r = elim h.rest [ inl n ↦ nameless_refused h.start n r | inr b ↦ unbarred_refused h.start b r ]
