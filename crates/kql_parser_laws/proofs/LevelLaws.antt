-- Operators' names in the tokens of a level are the operators of its tree.
use Rattle.std.proofs.Common.{ℕ, zero, suc, ◌≡◌, Bool, true, false, ◌||◌, ◌&&◌, not, List, [], ◌∷◌, ◌++◌, map, refl, sym, subst, ◌∙◌, true≢false}
use Rattle.std.proofs.lemmas.List.{append-nil}
use Rattle.kql_lexer.specs.declared.keyword.Keyword.TheVariants as word
use Rattle.kql_lexer.specs.declared.place.Place.{Place}
use Rattle.kql_lexer.specs.declared.token.Token.{Token}
use Rattle.kql_syntax.specs.declared.class.Class.{Class}
use Rattle.kql_syntax.specs.declared.class.Class.TheVariants as class
use Rattle.kql_syntax.specs.Levels.{Level}
use Rattle.kql_syntax.specs.Trees.{Tree}
use Rattle.kql_syntax.specs.Forms.{Form, level, pair, option, many, makes, mark, after, before, listed}
use Rattle.kql_syntax.specs.Grammar.{body, column_op, row_op, group_op, table_op, commas, round, of_kind, hint, union_kind, union, join_sign, join_key, join, join_kinds, lookup_kinds, partition}
use Rattle.kql_syntax.specs.Derives.{Is, Derivable, Derives, derives_in}
use Rattle.kql_syntax.proofs.StartLaws.{and_left, and_right}
use Rattle.kql_parser_laws.specs.OfTree.{Places, joined, column_place, row_place, group_place, of_join, of_op, of_partition, of_pipe, of_source, of_table_arg, of_table_op, of_union}
use Rattle.kql_parser_laws.proofs.States.{State, behind, same, same_means}
use Rattle.kql_parser_laws.proofs.TokenFacts.{names}
use Rattle.kql_parser_laws.proofs.PartLaws.{Counts, nothing, level_leads, leads, quiet, quiet_counts, quiet_mark, word_counts, pair_counts, either_counts, makes_counts, many_counts, named_counts, after_counts, before_counts, listed_counts}
use Rattle.kql_parser_laws.proofs.TreeFacts.{join_is, partition_is, pipe_is, union_is, columns_is, rows_is, groups_is, tables_is, source_table_is, range_is, print_is, source_union_is, table_is, inner_is, join_op_is, lookup_op_is, union_op_is, scan_op_is, partition_op_is}

-- the levels that have no operator, and where they may stand
abbrev pub level_calm : Level → State → Bool
level_calm Level.Name State.Free = true
level_calm Level.Name State.AnyWord = true
level_calm Level.Name State.PartBracket = true
level_calm Level.Access State.Free = true
level_calm Level.Arg State.Free = true
level_calm Level.Item State.Free = true
level_calm Level.Expr State.Free = true
level_calm Level.Expr State.AnyWord = true
level_calm Level.And State.Free = true
level_calm Level.And State.AnyWord = true
level_calm Level.Cmp State.Free = true
level_calm Level.Cmp State.AnyWord = true
level_calm Level.Sum State.Free = true
level_calm Level.Sum State.AnyWord = true
level_calm Level.Prod State.Free = true
level_calm Level.Prod State.AnyWord = true
level_calm Level.Sign State.Free = true
level_calm Level.Sign State.AnyWord = true
level_calm Level.Post State.Free = true
level_calm Level.Post State.AnyWord = true
level_calm Level.Term State.Free = true
level_calm Level.Term State.AnyWord = true
level_calm _ _ = false

-- what is known of each level
pub record Levels (s : List Token) (D : Derivable) : Type 0 where
  pub calm : (l : Level) (n : State) → level_calm l n ≡ true → Counts s D (level l) n (level_leads l n) nothing
  pub op : Counts s D (level Level.Op) State.Operator State.Free of_op
  pub source : Counts s D (level Level.Source) State.Free State.Free of_source
  pub table : Counts s D (level Level.TableArg) State.Free State.Free of_table_arg
  pub pipe : Counts s D (level Level.Pipe) State.Free State.Free of_pipe

module _ (s : List Token) (D : Derivable) (ok : Levels s D) where
  pub still : {A : Type 0} (a : Form A) (n : State) → quiet level_calm a n ≡ true → Counts s D a n (leads a n) nothing
  still a n e = quiet_counts s D level_calm ok.calm a n e

  -- an operator with no pipe in it
  alone : {B A : Type 0} {a : Form A} {k : _} {g : Place × A → B} {n : State} {w : B → Places} → ((y : Place × A) → w (g y) ≡ y.0 ∷ []) → names n k ≡ true → quiet level_calm a (behind n (class.Key k)) ≡ true → Counts s D (makes g (pair (mark (class.Key k ∷ [])) a)) n (leads a (behind n (class.Key k))) w
  alone {a = a} {k = k} {n = n} e i q = named_counts s D nothing e i (still a (behind n (class.Key k)) q)

  column_counts : Counts s D column_op State.Operator State.Free (λ o. column_place o ∷ [])
  column_counts =
      either_counts s D (alone (λ y. refl) refl refl)
      (either_counts s D (alone (λ y. refl) refl refl)
      (either_counts s D (alone (λ y. refl) refl refl)
      (either_counts s D (alone (λ y. refl) refl refl)
      (either_counts s D (alone (λ y. refl) refl refl)
      (either_counts s D (alone (λ y. refl) refl refl) (alone (λ y. refl) refl refl))))))

  row_counts : Counts s D row_op State.Operator State.Free (λ o. row_place o ∷ [])
  row_counts =
      either_counts s D (alone (λ y. refl) refl refl)
      (either_counts s D (alone (λ y. refl) refl refl)
      (either_counts s D (makes_counts s D (λ p. p ∷ []) (λ y. refl) (word_counts s D State.Operator word.Count refl))
      (either_counts s D (alone (λ y. refl) refl refl)
      (either_counts s D (alone (λ y. refl) refl refl)
      (either_counts s D (alone (λ y. refl) refl refl) (alone (λ y. refl) refl refl))))))

  group_counts : Counts s D group_op State.Operator State.Free (λ o. group_place o ∷ [])
  group_counts =
      either_counts s D (alone (λ y. refl) refl refl)
      (either_counts s D (alone (λ y. refl) refl refl)
      (either_counts s D (alone (λ y. refl) refl refl) (alone (λ y. refl) refl refl)))

  -- the tables of a union, and what a join reads
  union_counts : Counts s D union State.Free State.Free of_union
  union_counts =
      makes_counts s D (λ p. [] ++ joined (map of_table_arg p.1)) (λ y. union_is y.0 y.1)
      (pair_counts s D (option (of_kind union_kind)) (commas (level Level.TableArg)) State.Free State.Free State.Free nothing (λ ts. joined (map of_table_arg ts))
      (still (option (of_kind union_kind)) State.Free refl)
      (listed_counts s D of_table_arg refl ok.table))

  join_counts : (cs : List Class) → quiet level_calm (option (pair (of_kind (join_sign cs)) (many hint))) State.Free ≡ true → Counts s D (join cs) State.Free State.Free of_join
  join_counts cs q =
      makes_counts s D (λ p. [] ++ ([] ++ (of_table_arg p.1.1.0 ++ []))) (λ y. join_is y.0 y.1.0 y.1.1.0 y.1.1.1 ∙ sym (append-nil (of_table_arg y.1.1.0)))
      (pair_counts s D (many hint) (pair (option (pair (of_kind (join_sign cs)) (many hint))) (pair (level Level.TableArg) (after (class.Key word.On ∷ []) (commas join_key)))) State.Free State.Free State.Free nothing (λ p. [] ++ (of_table_arg p.1.0 ++ []))
      (still (many hint) State.Free refl)
      (pair_counts s D (option (pair (of_kind (join_sign cs)) (many hint))) (pair (level Level.TableArg) (after (class.Key word.On ∷ []) (commas join_key))) State.Free State.Free State.Free nothing (λ p. of_table_arg p.0 ++ [])
      (still (option (pair (of_kind (join_sign cs)) (many hint))) State.Free q)
      (pair_counts s D (level Level.TableArg) (after (class.Key word.On ∷ []) (commas join_key)) State.Free State.Free State.Free of_table_arg nothing
      ok.table
      (still (after (class.Key word.On ∷ []) (commas join_key)) State.Free refl))))

  partition_counts : Counts s D partition State.PartBracket State.Free of_partition
  partition_counts =
      makes_counts s D (λ p. [] ++ ([] ++ joined (map of_op p.1.1))) (λ y. partition_is y.0 y.1.0 y.1.1)
      (pair_counts s D (many hint) (pair (after (class.Key word.By ∷ []) (level Level.Name)) (round (listed (class.Bar ∷ []) (level Level.Op)))) State.PartBracket State.PartBracket State.Free nothing (λ p. [] ++ joined (map of_op p.1))
      (still (many hint) State.PartBracket refl)
      (pair_counts s D (after (class.Key word.By ∷ []) (level Level.Name)) (round (listed (class.Bar ∷ []) (level Level.Op))) State.PartBracket State.PartBracket State.Free nothing (λ os. joined (map of_op os))
      (still (after (class.Key word.By ∷ []) (level Level.Name)) State.PartBracket refl)
      (after_counts s D State.Operator refl (before_counts s D State.Free refl (listed_counts s D of_op refl ok.op)))))

  table_op_counts : Counts s D table_op State.Operator State.Free of_table_op
  table_op_counts =
      either_counts s D (named_counts s D of_join (λ y. join_op_is y.0 y.1) refl (join_counts join_kinds refl))
      (either_counts s D (named_counts s D of_join (λ y. lookup_op_is y.0 y.1) refl (join_counts lookup_kinds refl))
      (either_counts s D (named_counts s D of_union (λ y. union_op_is y.0 y.1) refl union_counts)
      (either_counts s D (alone (λ y. scan_op_is y.0 y.1) refl refl)
      (named_counts s D of_partition (λ y. partition_op_is y.0 y.1) refl partition_counts))))

  op_counts : Counts s D (body Level.Op) State.Operator State.Free of_op
  op_counts =
      either_counts s D (makes_counts s D (λ o. column_place o ∷ []) columns_is column_counts)
      (either_counts s D (makes_counts s D (λ o. row_place o ∷ []) rows_is row_counts)
      (either_counts s D (makes_counts s D (λ o. group_place o ∷ []) groups_is group_counts)
      (makes_counts s D of_table_op tables_is table_op_counts)))

  source_counts : Counts s D (body Level.Source) State.Free State.Free of_source
  source_counts =
      either_counts s D (makes_counts s D nothing source_table_is (still (level Level.Name) State.Free refl))
      (either_counts s D (alone (λ y. range_is y.0 y.1) refl refl)
      (either_counts s D (alone (λ y. print_is y.0 y.1) refl refl)
      (named_counts s D of_union (λ y. source_union_is y.0 y.1) refl union_counts)))

  table_counts : Counts s D (body Level.TableArg) State.Free State.Free of_table_arg
  table_counts =
      either_counts s D (makes_counts s D nothing table_is (still (level Level.Name) State.Free refl))
      (makes_counts s D (λ p. [] ++ of_pipe p.1) (λ y. inner_is y.0 y.1)
      (pair_counts s D (mark (class.Open ∷ [])) (before (level Level.Pipe) (class.Close ∷ [])) State.Free State.Free State.Free nothing of_pipe
      (quiet_mark s D State.Free State.Free (class.Open ∷ []) refl)
      (before_counts s D State.Free refl ok.pipe)))

  pipe_counts : Counts s D (body Level.Pipe) State.Free State.Free of_pipe
  pipe_counts =
      makes_counts s D (λ p. of_source p.0 ++ joined (map of_op p.1)) (λ y. pipe_is y.0 y.1)
      (pair_counts s D (level Level.Source) (many (after (class.Bar ∷ []) (level Level.Op))) State.Free State.Free State.Free of_source (λ os. joined (map of_op os))
      ok.source
      (many_counts s D (after (class.Bar ∷ []) (level Level.Op)) State.Free of_op (after_counts s D State.Operator refl ok.op)))

-- where the table says so, the body of a level has no operator
fits : (l : Level) (n : State) → (not (level_calm l n) || (quiet level_calm (body l) n && same (leads (body l) n) (level_leads l n))) ≡ true
fits Level.Expr State.Free = refl
fits Level.Expr _ = refl
fits Level.And State.Free = refl
fits Level.And _ = refl
fits Level.Cmp State.Free = refl
fits Level.Cmp _ = refl
fits Level.Sum State.Free = refl
fits Level.Sum _ = refl
fits Level.Prod State.Free = refl
fits Level.Prod _ = refl
fits Level.Sign State.Free = refl
fits Level.Sign _ = refl
fits Level.Post State.Free = refl
fits Level.Post _ = refl
fits Level.Access State.Free = refl
fits Level.Access _ = refl
fits Level.Term State.Free = refl
fits Level.Term _ = refl
fits Level.Arg State.Free = refl
fits Level.Arg _ = refl
fits Level.Name State.Free = refl
fits Level.Name _ = refl
fits Level.Item State.Free = refl
fits Level.Item _ = refl
fits Level.TableArg State.Free = refl
fits Level.TableArg _ = refl
fits Level.Source State.Free = refl
fits Level.Source _ = refl
fits Level.Pipe State.Free = refl
fits Level.Pipe _ = refl
fits Level.Op State.Free = refl
fits Level.Op _ = refl

implied : (a b : Bool) → (not a || b) ≡ true → a ≡ true → b ≡ true
implied true b h e = h
implied false b h e = absurd (true≢false (sym e))

calm_body : (s : List Token) (D : Derivable) (ok : Levels s D) (l : Level) (n : State) → level_calm l n ≡ true → Counts s D (body l) n (level_leads l n) nothing
calm_body s D ok l n e =
    let f = implied _ _ (fits l n) e in
    subst (λ (m : State). Counts s D (body l) n m nothing) (same_means (leads (body l) n) (level_leads l n) (and_right _ _ f)) (still s D ok (body l) n (and_left _ _ f))

-- one level more
level_up : (s : List Token) (h : ℕ) (l : Level) (n m : State) (w : Tree l → Places) → Counts s (derives_in s h) (body l) n m w → Counts s (derives_in s (suc h)) (level l) n m w
unfolding Is derives_in
level_up s h l n m w f = record { law = λ i j x d. f.law i j x d }

level_none : (s : List Token) (l : Level) (n m : State) (w : Tree l → Places) → Counts s (derives_in s zero) (level l) n m w
unfolding Is derives_in
level_none s l n m w = record { law = λ i j x d. absurd d }

levels_in : (s : List Token) (h : ℕ) → Levels s (derives_in s h)
levels_in s zero = record {
  calm = λ l n e. level_none s l n (level_leads l n) nothing;
  op = level_none s Level.Op State.Operator State.Free of_op;
  source = level_none s Level.Source State.Free State.Free of_source;
  table = level_none s Level.TableArg State.Free State.Free of_table_arg;
  pipe = level_none s Level.Pipe State.Free State.Free of_pipe;
}
levels_in s (suc h) =
    let ok = levels_in s h in
    record {
      calm = λ l n e. level_up s h l n (level_leads l n) nothing (calm_body s (derives_in s h) ok l n e);
      op = level_up s h Level.Op State.Operator State.Free of_op (op_counts s (derives_in s h) ok);
      source = level_up s h Level.Source State.Free State.Free of_source (source_counts s (derives_in s h) ok);
      table = level_up s h Level.TableArg State.Free State.Free of_table_arg (table_counts s (derives_in s h) ok);
      pipe = level_up s h Level.Pipe State.Free State.Free of_pipe (pipe_counts s (derives_in s h) ok);
    }

-- by any number of levels
any_height : (s : List Token) (l : Level) (n m : State) (w : Tree l → Places) → ((h : ℕ) → Counts s (derives_in s h) (level l) n m w) → Counts s (Derives s) (level l) n m w
unfolding Is
any_height s l n m w f = record { law = λ i j x d. (f d.height).law i j x d.within }

-- what is known of each level of the grammar
pub levels : (s : List Token) → Levels s (Derives s)
levels s = record {
  calm = λ l n e. any_height s l n (level_leads l n) nothing (λ h. (levels_in s h).calm l n e);
  op = any_height s Level.Op State.Operator State.Free of_op (λ h. (levels_in s h).op);
  source = any_height s Level.Source State.Free State.Free of_source (λ h. (levels_in s h).source);
  table = any_height s Level.TableArg State.Free State.Free of_table_arg (λ h. (levels_in s h).table);
  pipe = any_height s Level.Pipe State.Free State.Free of_pipe (λ h. (levels_in s h).pipe);
}
