-- Each `parse` of a query that tokens are has a pattern: by the forms of the grammar.
use Rattle.std.proofs.Common.{ℕ, zero, suc, ◌≡◌, inl, inr, Bool, true, List, [], ◌∷◌, length, map, refl, sym, subst, ◌∙◌}
use Rattle.std.specs.Prelude.{Option, Some, None}
use Rattle.std.specs.List.{AllByRecursion, list_all}
use Rattle.std.proofs.lemmas.Bool.{and_from}
use Rattle.kql_lexer.specs.declared.token.Token.{Token}
use Rattle.kql_syntax.specs.declared.class.Class.{Class}
use Rattle.kql_syntax.specs.declared.query.Join.{Join}
use Rattle.kql_syntax.specs.declared.query.Let.{Let}
use Rattle.kql_syntax.specs.declared.query.Op.{Op}
use Rattle.kql_syntax.specs.declared.query.Partition.{Partition}
use Rattle.kql_syntax.specs.declared.query.Pipe.{Pipe}
use Rattle.kql_syntax.specs.declared.query.Query.{Query}
use Rattle.kql_syntax.specs.declared.query.Source.{Source}
use Rattle.kql_syntax.specs.declared.query.Source.TheVariants as source
use Rattle.kql_syntax.specs.declared.query.TableArg.{TableArg}
use Rattle.kql_syntax.specs.declared.query.TableOp.{TableOp}
use Rattle.kql_syntax.specs.declared.query.Union.{Union}
use Rattle.kql_syntax.specs.declared.tree.Expr.{Expr}
use Rattle.kql_syntax.specs.declared.tree.Name.{Name}
use Rattle.kql_parser.specs.Alone.{name_alone}
use Rattle.kql_syntax.specs.Levels.{Level}
use Rattle.kql_syntax.specs.Trees.{Tree}
use Rattle.kql_syntax.specs.Forms.{Form, level, pair, either, many, makes, mark, after, before, listed}
use Rattle.kql_syntax.specs.Grammar.{body, group_op, join, join_kinds, lookup_kinds, partition, table_op, union}
use Rattle.kql_syntax.specs.Derives.{Derivable, Derives, Is, Row, derives_in}
use Rattle.kql_parser.specs.Parsing.{Parsed}
use Rattle.kql_parser.specs.Query.{let_body, let_statement, main_pipe, query, table_or}
use Rattle.kql_parser_laws.specs.Patterns.{all_have, arg_patterns, body_patterns, has_items, has_pattern, has_patterns, join_patterns, let_patterns, op_patterns, partition_patterns, pipe_patterns, source_patterns, table_op_patterns, union_patterns}
use Rattle.kql_parser_laws.proofs.PatternFacts.{columns_is, groups_is, inner_is, join_is, join_op_is, lookup_op_is, partition_is, partition_op_is, pipe_is, print_is, range_is, rows_is, scan_op_is, source_table_is, source_union_is, table_is, tables_is, union_is, union_op_is}

-- this is true of the value of each text of the form
pub record Has {A : Type 0} (s : List Token) (D : Derivable) (a : Form A) (P : A → Type 0) : Type 0 where
  pub law : (i j : ℕ) (x : A) → Is s D a i j x → P x

-- what is told of parts is told of the whole
module _ (s : List Token) (D : Derivable) where
  each : {A : Type 0} (a : Form A) (P : A → Type 0) → ((x : A) → P x) → Has s D a P
  each a P h = record { law = λ i j x d. h x }

  first_has : {A B : Type 0} (a : Form A) (b : Form B) (P : A → Type 0) → Has s D a P → Has s D (pair a b) (λ p. P p.0)
  unfolding Is
  first_has a b P f = record { law = λ i j x d. f.law i d.0 x.0 d.1 }

  second_has : {A B : Type 0} (a : Form A) (b : Form B) (P : B → Type 0) → Has s D b P → Has s D (pair a b) (λ p. P p.1)
  unfolding Is
  second_has a b P f = record { law = λ i j x d. f.law d.0 j x.1 d.2 }

  both_have : {A B : Type 0} (a : Form A) (b : Form B) (P : A → Type 0) (Q : B → Type 0) → Has s D a P → Has s D b Q → Has s D (pair a b) (λ p. P p.0 × Q p.1)
  unfolding Is
  both_have a b P Q f g = record { law = λ i j x d. (f.law i d.0 x.0 d.1, g.law d.0 j x.1 d.2) }

  either_has : {A : Type 0} (a b : Form A) (P : A → Type 0) → Has s D a P → Has s D b P → Has s D (either a b) P
  unfolding Is
  either_has a b P f g = record { law = λ i j x d. elim d [ inl y ↦ f.law i j x y | inr y ↦ g.law i j x y ] }

  makes_has : {A B : Type 0} (g : A → B) (a : Form A) (P : A → Type 0) (Q : B → Type 0) → ((y : A) → P y → Q (g y)) → Has s D a P → Has s D (makes g a) Q
  unfolding Is
  makes_has g a P Q h f = record { law = λ i j x d. subst Q (sym d.2) (h d.0 (f.law i j d.0 d.1)) }

  -- whatever it is made of
  made_has : {A B : Type 0} (g : A → B) (a : Form A) (Q : B → Type 0) → ((y : A) → Q (g y)) → Has s D (makes g a) Q
  unfolding Is
  made_has g a Q h = record { law = λ i j x d. subst Q (sym d.2) (h d.0) }

  row_has : {A : Type 0} (a : Form A) (P : A → Type 0) → Has s D a P → (i j : ℕ) (xs : List A) → Row (Is s D a) i j xs → AllByRecursion P xs
  row_has a P f i j [] r = tt
  row_has a P f i j (x ∷ xs) r = (f.law i r.0 x r.1, row_has a P f r.0 j xs r.2)

  many_has : {A : Type 0} (a : Form A) (P : A → Type 0) → Has s D a P → Has s D (many a) (AllByRecursion P)
  unfolding Is
  many_has a P f = record { law = row_has a P f }

  after_has : {A : Type 0} (cs : List Class) (a : Form A) (P : A → Type 0) → Has s D a P → Has s D (after cs a) P
  after_has cs a P f = makes_has (λ p. p.1) (pair (mark cs) a) (λ p. P p.1) P (λ y h. h) (second_has (mark cs) a P f)

  before_has : {A : Type 0} (a : Form A) (cs : List Class) (P : A → Type 0) → Has s D a P → Has s D (before a cs) P
  before_has a cs P f = makes_has (λ p. p.0) (pair a (mark cs)) (λ p. P p.0) P (λ y h. h) (first_has a (mark cs) P f)

  listed_has : {A : Type 0} (cs : List Class) (a : Form A) (P : A → Type 0) → Has s D a P → Has s D (listed cs a) (AllByRecursion P)
  listed_has cs a P f =
      makes_has (λ p. p.0 ∷ p.1) (pair a (many (after cs a))) (λ p. P p.0 × AllByRecursion P p.1) (AllByRecursion P) (λ y h. h)
      (both_have a (many (after cs a)) P (AllByRecursion P) f (many_has (after cs a) P (after_has cs a P f)))

-- what is told of each level

abbrev OpHas : Op → Type 0
OpHas o = op_patterns o ≡ true

abbrev SourceHas : Source → Type 0
SourceHas x = source_patterns x ≡ true

abbrev TableHas : TableArg → Type 0
TableHas x = arg_patterns x ≡ true

abbrev PipeHas : Pipe → Type 0
PipeHas p = pipe_patterns p ≡ true

abbrev JoinHas : Join → Type 0
JoinHas j = join_patterns j ≡ true

abbrev UnionHas : Union → Type 0
UnionHas u = union_patterns u ≡ true

abbrev PartitionHas : Partition → Type 0
PartitionHas p = partition_patterns p ≡ true

abbrev TableOpHas : TableOp → Type 0
TableOpHas o = table_op_patterns o ≡ true

pub record Levels (s : List Token) (D : Derivable) : Type 0 where
  pub op : Has s D (level Level.Op) OpHas
  pub source : Has s D (level Level.Source) SourceHas
  pub table : Has s D (level Level.TableArg) TableHas
  pub pipe : Has s D (level Level.Pipe) PipeHas

all_of : {A : Type 0} (p : A → Bool) (xs : List A) → AllByRecursion (λ x. p x ≡ true) xs → all_have (map p xs) ≡ true
all_of p [] h = refl
all_of p (x ∷ xs) h = and_from (p x) (all_have (map p xs)) h.0 (all_of p xs h.1)

module _ (s : List Token) (D : Derivable) (ok : Levels s D) where
  group_has : Has s D group_op (λ o. has_pattern o ≡ true)
  group_has =
      either_has s D _ _ _ (made_has s D _ _ _ (λ y. refl))
      (either_has s D _ _ _ (made_has s D _ _ _ (λ y. refl))
      (either_has s D _ _ _ (made_has s D _ _ _ (λ y. refl))
      (makes_has s D _ _ (λ p. has_items p.1.1.1 ≡ true) _ (λ y h. h)
      (second_has s D _ _ (λ p. has_items p.1.1 ≡ true)
      (second_has s D _ _ (λ p. has_items p.1 ≡ true)
      (second_has s D _ _ (λ xs. has_items xs ≡ true)
      (after_has s D _ _ (λ xs. has_items xs ≡ true) (made_has s D _ _ _ (λ y. refl)))))))))

  union_has : Has s D union UnionHas
  union_has =
      makes_has s D _ _ (λ p. AllByRecursion TableHas p.1) _ (λ y h. union_is y.0 y.1 ∙ all_of arg_patterns y.1 h)
      (second_has s D _ _ (AllByRecursion TableHas) (listed_has s D _ _ TableHas ok.table))

  join_has : (cs : List Class) → Has s D (join cs) JoinHas
  join_has cs =
      makes_has s D _ _ (λ p. TableHas p.1.1.0) _ (λ y h. join_is y.0 y.1.0 y.1.1.0 y.1.1.1 ∙ h)
      (second_has s D _ _ (λ p. TableHas p.1.0)
      (second_has s D _ _ (λ p. TableHas p.0)
      (first_has s D _ _ TableHas ok.table)))

  partition_has : Has s D partition PartitionHas
  partition_has =
      makes_has s D _ _ (λ p. AllByRecursion OpHas p.1.1) _ (λ y h. partition_is y.0 y.1.0 y.1.1 ∙ all_of op_patterns y.1.1 h)
      (second_has s D _ _ (λ p. AllByRecursion OpHas p.1)
      (second_has s D _ _ (AllByRecursion OpHas)
      (after_has s D _ _ (AllByRecursion OpHas) (before_has s D _ _ (AllByRecursion OpHas) (listed_has s D _ _ OpHas ok.op)))))

  table_op_has : Has s D table_op TableOpHas
  table_op_has =
      either_has s D _ _ _ (makes_has s D _ _ (λ p. JoinHas p.1) _ (λ y h. join_op_is y.0 y.1 ∙ h) (second_has s D _ _ JoinHas (join_has join_kinds)))
      (either_has s D _ _ _ (makes_has s D _ _ (λ p. JoinHas p.1) _ (λ y h. lookup_op_is y.0 y.1 ∙ h) (second_has s D _ _ JoinHas (join_has lookup_kinds)))
      (either_has s D _ _ _ (makes_has s D _ _ (λ p. UnionHas p.1) _ (λ y h. union_op_is y.0 y.1 ∙ h) (second_has s D _ _ UnionHas union_has))
      (either_has s D _ _ _ (made_has s D _ _ _ (λ y. scan_op_is y.0 y.1))
      (makes_has s D _ _ (λ p. PartitionHas p.1) _ (λ y h. partition_op_is y.0 y.1 ∙ h) (second_has s D _ _ PartitionHas partition_has)))))

  op_has : Has s D (body Level.Op) OpHas
  op_has =
      either_has s D _ _ _ (made_has s D _ _ _ columns_is)
      (either_has s D _ _ _ (made_has s D _ _ _ rows_is)
      (either_has s D _ _ _ (makes_has s D _ _ (λ o. has_pattern o ≡ true) _ (λ y h. groups_is y ∙ h) group_has)
      (makes_has s D _ _ TableOpHas _ (λ y h. tables_is y ∙ h) table_op_has)))

  source_has : Has s D (body Level.Source) SourceHas
  source_has =
      either_has s D _ _ _ (made_has s D _ _ _ source_table_is)
      (either_has s D _ _ _ (made_has s D _ _ _ (λ y. range_is y.0 y.1))
      (either_has s D _ _ _ (made_has s D _ _ _ (λ y. print_is y.0 y.1))
      (makes_has s D _ _ (λ p. UnionHas p.1) _ (λ y h. source_union_is y.0 y.1 ∙ h) (second_has s D _ _ UnionHas union_has))))

  table_has : Has s D (body Level.TableArg) TableHas
  table_has =
      either_has s D _ _ _ (made_has s D _ _ _ table_is)
      (makes_has s D _ _ (λ p. PipeHas p.1) _ (λ y h. inner_is y.0 y.1 ∙ h) (second_has s D _ _ PipeHas (before_has s D _ _ PipeHas ok.pipe)))

  pipe_has : Has s D (body Level.Pipe) PipeHas
  pipe_has =
      makes_has s D _ _ (λ p. SourceHas p.0 × AllByRecursion OpHas p.1) _
      (λ y h. pipe_is y.0 y.1 ∙ and_from (source_patterns y.0) (all_have (map op_patterns y.1)) h.0 (all_of op_patterns y.1 h.1))
      (both_have s D _ _ SourceHas (AllByRecursion OpHas) ok.source (many_has s D _ OpHas (after_has s D _ _ OpHas ok.op)))

-- one level more, and any number

level_up : (s : List Token) (h : ℕ) (l : Level) (P : Tree l → Type 0) → Has s (derives_in s h) (body l) P → Has s (derives_in s (suc h)) (level l) P
unfolding Is derives_in
level_up s h l P f = record { law = λ i j x d. f.law i j x d }

level_none : (s : List Token) (l : Level) (P : Tree l → Type 0) → Has s (derives_in s zero) (level l) P
unfolding Is derives_in
level_none s l P = record { law = λ i j x d. absurd d }

levels_in : (s : List Token) (h : ℕ) → Levels s (derives_in s h)
levels_in s zero = record {
  op = level_none s Level.Op OpHas;
  source = level_none s Level.Source SourceHas;
  table = level_none s Level.TableArg TableHas;
  pipe = level_none s Level.Pipe PipeHas;
}
levels_in s (suc h) =
    let ok = levels_in s h in
    record {
      op = level_up s h Level.Op OpHas (op_has s (derives_in s h) ok);
      source = level_up s h Level.Source SourceHas (source_has s (derives_in s h) ok);
      table = level_up s h Level.TableArg TableHas (table_has s (derives_in s h) ok);
      pipe = level_up s h Level.Pipe PipeHas (pipe_has s (derives_in s h) ok);
    }

pipes_have : (s : List Token) → Has s (Derives s) (level Level.Pipe) PipeHas
unfolding Is
pipes_have s = record { law = λ i j x d. (levels_in s d.height).pipe.law i j x d.within }

-- queries

name_or_has : (e : Expr) (o : Option Name) → body_patterns (table_or e o) ≡ true
name_or_has e None = refl
name_or_has e (Some n) = pipe_is (source.Table n) [] ∙ and_from (source_patterns (source.Table n)) (all_have (map op_patterns [])) (source_table_is n) refl

module _ (s : List Token) where
  body_has : Has s (Derives s) let_body (λ b. body_patterns b ≡ true)
  body_has =
      either_has s (Derives s) _ _ _ (makes_has s (Derives s) _ _ PipeHas _ (λ y h. h) (pipes_have s))
      (made_has s (Derives s) _ _ _ (λ e. name_or_has e (name_alone e)))

  let_has : Has s (Derives s) let_statement (λ l. let_patterns l ≡ true)
  let_has =
      makes_has s (Derives s) _ _ (λ p. body_patterns p.1.1 ≡ true) _ (λ y h. h)
      (second_has s (Derives s) _ _ (λ p. body_patterns p.1 ≡ true)
      (second_has s (Derives s) _ _ (λ b. body_patterns b ≡ true)
      (before_has s (Derives s) _ _ (λ b. body_patterns b ≡ true) body_has)))

  main_has : Has s (Derives s) main_pipe PipeHas
  main_has = makes_has s (Derives s) _ _ (λ p. PipeHas p.0) _ (λ y h. h) (first_has s (Derives s) _ _ PipeHas (pipes_have s))

  lets_all : (ls : List Let) → AllByRecursion (λ (l : Let). let_patterns l ≡ true) ls → list_all let_patterns ls ≡ true
  lets_all [] h = refl
  lets_all (l ∷ ls) h = and_from (let_patterns l) (list_all let_patterns ls) h.0 (lets_all ls h.1)

  query_has : Has s (Derives s) query (λ q. has_patterns q ≡ true)
  unfolding has_patterns
  query_has =
      makes_has s (Derives s) _ _ (λ p. AllByRecursion (λ (l : Let). let_patterns l ≡ true) p.0 × PipeHas p.1) _
      (λ y h. and_from (list_all let_patterns y.0) (pipe_patterns y.1) (lets_all y.0 h.0) h.1)
      (both_have s (Derives s) _ _ (AllByRecursion (λ (l : Let). let_patterns l ≡ true)) PipeHas
      (many_has s (Derives s) _ (λ l. let_patterns l ≡ true) let_has)
      (before_has s (Derives s) _ _ PipeHas main_has))

pub parsed-patterns : (s : List Token) (q : Query) → Parsed s q → has_patterns q ≡ true
parsed-patterns s q h = (query_has s).law 0 (length s) q h.is

pub ruleset pattern_laws = (parsed-patterns)
