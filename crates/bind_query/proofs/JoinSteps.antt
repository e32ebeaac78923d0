-- The keys of a join, and the names of its columns.
use Rattle.std.proofs.Common.{◌≡◌, ◌<◌, ◌+◌, ◌^◌, ℕ, zero, suc, List, [], ◌∷◌, get_or, length, map, refl, sym, ◌∙◌, subst, arith}
use Rattle.std.proofs.lemmas.List.{length-map}
use Rattle.kql_cells.specs.Named.{HasDistinctNames, column_name}
use Rattle.kql_cells.specs.declared.schema.Column.{Column}
use Rattle.kql_lexer.specs.declared.place.Place.{Place}
use Rattle.kql_bound.specs.declared.parts.JoinKind.{JoinKind}
use Rattle.kql_bound.specs.declared.parts.JoinKind.TheVariants as join
use Rattle.kql_bound.specs.declared.parts.JoinPlan.{JoinPlan}
use Rattle.kql_bound.specs.declared.parts.OnPair.{OnPair}
use Rattle.kql_meaning.specs.Join.{both_columns, join_columns}
use Rattle.kql_meaning.specs.LawsOfNames.{BothNamesDiffer, NamesDiffer}
use Rattle.kql_meaning.specs.Tables.{names_of}
use Rattle.kql_syntax.specs.declared.query.On.{On}
use Rattle.kql_syntax.specs.declared.query.On.TheVariants as key
use Rattle.kql_syntax.specs.declared.query.OnPair.{OnPair as WrittenPair}
use Rattle.kql_syntax.specs.declared.tree.Name.{Name}
use Rattle.bind_expr.specs.Outcome.{Answers, Outcome, ◌>>=◌}
use Rattle.bind_expr.proofs.AnswerFacts.{goes_on, goes_under}
use Rattle.bind_operators.specs.declared.known.Known.{Known}
use Rattle.bind_operators.specs.Known.{column_wanted}
use Rattle.bind_operators.specs.Places.{name_place}
use Rattle.bind_query.specs.Join.{key_bound, pair_of, pair_wanted}

-- Keys.

both : (place : Place) (left dl right dr : Outcome Column) (result : Outcome OnPair) → Answers left dl → Answers right dr → Answers result (pair_of place left right) → Answers result (pair_of place dl dr)
unfolding pair_of
both place left dl right dr result a b h =
    let one = goes_on left dl (λ l. right >>= λ r. pair_wanted place l r) result a h in
    goes_under dl right dr (λ l r. pair_wanted place l r) result b one

pub column-answers : (operator : Place) (known : Known) (left right : List Column) (k : On) (n : Name) (place : Place) (l r : Outcome Column) (result : Outcome OnPair) → k ≡ key.Column n → place ≡ name_place n → Answers l (column_wanted operator known left n) → Answers r (column_wanted operator known right n) → Answers result (pair_of place l r) → Answers result (key_bound operator known left right k)
unfolding key_bound pair_of
column-answers operator known left right k n place l r result is at a b h =
    rw is (both (name_place n) l (column_wanted operator known left n) r (column_wanted operator known right n) result a b (subst (λ p. Answers result (pair_of p l r)) at h))

pub pair-answers : (operator : Place) (known : Known) (left right : List Column) (k : On) (p : WrittenPair) (l r : Outcome Column) (result : Outcome OnPair) → k ≡ key.Pair p → Answers l (column_wanted operator known left p.left) → Answers r (column_wanted operator known right p.right) → Answers result (pair_of p.left_place l r) → Answers result (key_bound operator known left right k)
unfolding key_bound pair_of
pair-answers operator known left right k p l r result is a b h =
    rw is (both p.left_place l (column_wanted operator known left p.left) r (column_wanted operator known right p.right) result a b h)

pub ruleset key_steps = (column-answers, pair-answers)

-- Names.

named-at : (columns : List Column) (i : ℕ) (n : List ℕ) (c : Column) → i < length columns → get_or (map column_name columns) i n ≡ column_name (get_or columns i c)
named-at [] i n c l = absurd (omega (arith, l))
named-at (d ∷ ds) zero n c l = refl
named-at (d ∷ ds) (suc i) n c l = named-at ds i n c (omega (arith, l))

of-names : (columns : List Column) → NamesDiffer columns → HasDistinctNames column_name columns
unfolding names_of
of-names columns h = λ i j c lt within e.
    h i j (column_name c) lt (omega (arith, within, length-map columns column_name))
    (named-at columns i (column_name c) c (omega (arith, lt, within)) ∙ (e ∙ sym (named-at columns j (column_name c) c within)))

to-names : (columns : List Column) → HasDistinctNames column_name columns → NamesDiffer columns
unfolding names_of
to-names [] h = λ i j n lt within e. absurd (omega (arith, within))
to-names (c ∷ cs) h = λ i j n lt within e.
    let there : j < length (c ∷ cs) = omega (arith, within, length-map (c ∷ cs) column_name) in
    h i j c lt there (sym (named-at (c ∷ cs) i n c (omega (arith, lt, there))) ∙ (e ∙ named-at (c ∷ cs) j n c there))

both-differ : (j : JoinPlan) (left right : List Column) → BothNamesDiffer → HasDistinctNames column_name left → length left + length right < 2 ^ 63 → HasDistinctNames column_name (both_columns j left right)
both-differ j left right law h small = of-names (both_columns j left right) (law j left right (to-names left h) small)

join-differ : (k : JoinKind) (j : JoinPlan) (left right : List Column) → BothNamesDiffer → HasDistinctNames column_name left → HasDistinctNames column_name right → length left + length right < 2 ^ 63 → HasDistinctNames column_name (join_columns k j left right)
unfolding join_columns
join-differ join.InnerUnique j left right law a b small = both-differ j left right law a small
join-differ join.Inner j left right law a b small = both-differ j left right law a small
join-differ join.LeftOuter j left right law a b small = both-differ j left right law a small
join-differ join.RightOuter j left right law a b small = both-differ j left right law a small
join-differ join.FullOuter j left right law a b small = both-differ j left right law a small
join-differ join.LeftSemi j left right law a b small = a
join-differ join.RightSemi j left right law a b small = b
join-differ join.LeftAnti j left right law a b small = a
join-differ join.RightAnti j left right law a b small = b

pub joined-once : (j : JoinPlan) (left right made : List Column) → BothNamesDiffer → HasDistinctNames column_name left → HasDistinctNames column_name right → length left + length right < 2 ^ 63 → made ≡ join_columns j.kind j left right → HasDistinctNames column_name made
joined-once j left right made law a b small same = subst (HasDistinctNames column_name) (sym same) (join-differ j.kind j left right law a b small)
