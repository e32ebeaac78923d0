-- The columns of `parse`.
use Rattle.std.proofs.Common.{◌≡◌, List, [], ◌∷◌, ◌++◌, map, refl, sym, ap, subst}
use Rattle.std.specs.Prelude.{not, Bool, true, false, Option, Ok, Err, filter}
use Rattle.kql_cells.specs.Named.{HasDistinctNames, column_name}
use Rattle.kql_cells.specs.declared.schema.Column.{Column}
use Rattle.kql_cells.specs.declared.value.Kind.{Kind}
use Rattle.kql_cells.specs.declared.value.Kind.TheVariants as kind
use Rattle.kql_bound.specs.declared.parts.ParsePlan.{ParsePlan}
use Rattle.kql_bound.specs.declared.parts.PatItem.{PatItem}
use Rattle.kql_bound.specs.declared.parts.PatItem.TheVariants as item
use Rattle.kql_meaning.specs.Items.{without}
use Rattle.kql_meaning.specs.Parse.{parse_columns, pattern_columns, pattern_names as columns_names}
use Rattle.kql_meaning.specs.Tables.{is_name_among, names_of}
use Rattle.kql_meaning.proofs.MemberLaws.{Member, Pairwise, member-map, member-of-filter, pairs-of, pairwise-append, pairwise-filter}
use Rattle.kql_syntax.specs.declared.query.ParseKind.{ParseKind}
use Rattle.kql_syntax.specs.declared.query.Pat.{Pat}
use Rattle.kql_syntax.specs.declared.query.Pat.TheVariants as pat
use Rattle.kql_syntax.specs.declared.tree.Name.{Name}
use Rattle.kql_syntax.specs.declared.tree.Word.{Word}
use Rattle.bind_expr.specs.Names.{text_of}
use Rattle.bind_expr.specs.Outcome.{Answers, Outcome, ◌>>=◌}
use Rattle.bind_expr.specs.declared.typed.Typed.{Typed}
use Rattle.bind_operators.specs.Faults.{each_bound}
use Rattle.bind_operators.specs.Items.{names_twice}
use Rattle.bind_operators.specs.Wanted.{kind_or}
use Rattle.bind_operators.proofs.NameLaws.{apart, different, pairwise-of}
use Rattle.bind_groups.specs.Parse.{column_of_type, parse_plan, pat_bound, pattern_names}
use Rattle.bind_groups.proofs.EachLaws.{each-answers}
use Rattle.bind_groups.proofs.NameSteps.{apart-of, names-once, not-among}

-- A pattern's columns keep their names.

abbrev same_names : List Pat → List PatItem → Type 0
same_names ps items = names_of (pattern_columns items) ≡ map text_of (pattern_names ps)

column-named : (n : Name) (o : Outcome Kind) (y : PatItem) (ps : List Pat) (items : List PatItem) (word : Option Word) → (o >>= λ k. Ok (column_of_type n k)) ≡ Ok y → same_names ps items → same_names (pat.Column n word ∷ ps) (y ∷ items)
unfolding pattern_columns pattern_names names_of
column-named n (Ok k) y ps items word e h =
    let same : column_of_type n k ≡ y = cc in
    subst (λ z. same_names (pat.Column n word ∷ ps) (z ∷ items)) same (ap (λ ns. text_of n ∷ ns) h)
column-named n (Err f) y ps items word e h = cc

one-named : (p : Pat) (y : PatItem) (ps : List Pat) (items : List PatItem) → pat_bound p ≡ Ok y → same_names ps items → same_names (p ∷ ps) (y ∷ items)
unfolding pat_bound pattern_columns pattern_names names_of
one-named (pat.Star place) y ps items e h = let same : item.Star ≡ y = cc in subst (λ z. same_names (pat.Star place ∷ ps) (z ∷ items)) same h
one-named (pat.Text place text) y ps items e h = let same : item.Literal text ≡ y = cc in subst (λ z. same_names (pat.Text place text ∷ ps) (z ∷ items)) same h
one-named (pat.Column n word) y ps items e h = column-named n (kind_or kind.Text word) y ps items word e h

none-named : same_names [] []
unfolding pattern_columns pattern_names names_of
none-named = refl

pub pattern-named : (r : Outcome (List PatItem)) (items : List PatItem) (ps : List Pat) (form : Option ParseKind) (text : Typed) (plan : ParsePlan) → r ≡ Ok items → Answers r (each_bound pat_bound ps) → plan ≡ parse_plan form text items → names_of (pattern_columns plan.pattern) ≡ map text_of (pattern_names ps)
unfolding parse_plan
pattern-named r items ps form text plan is a made = rw made (each-answers pat_bound same_names none-named one-named r ps items is a)

pub ruleset pattern_steps = (pattern-named)

-- No two columns have one name.

not-true : (b : Bool) → not b ≡ true → b ≡ false
not-true true e = cc
not-true false e = refl

parse-differ : (plan : ParsePlan) (ps : List Pat) (columns : List Column) → HasDistinctNames column_name columns → names_of (pattern_columns plan.pattern) ≡ map text_of (pattern_names ps) → names_twice [] (pattern_names ps) ≡ [] → HasDistinctNames column_name (parse_columns plan columns)
unfolding parse_columns columns_names without names_of
parse-differ plan ps columns h named e =
    let new : List Column = pattern_columns plan.pattern in
    let kept : List Column = filter (λ (c : Column). not (is_name_among (names_of new) c.name)) columns in
    pairs-of different (kept ++ new)
    (pairwise-append different kept new
    (pairwise-filter different (λ (c : Column). not (is_name_among (names_of new) c.name)) columns (pairwise-of different columns h))
    (apart-of column_name new (subst (λ ns. Pairwise apart ns) (sym named) (names-once [] (pattern_names ps) e).0))
    (λ c d m n same. not-among (names_of new) c.name
    (not-true (is_name_among (names_of new) c.name) (member-of-filter (λ (c : Column). not (is_name_among (names_of new) c.name)) columns c m).1)
    (subst (λ k. Member k (names_of new)) (sym same) (member-map column_name new d n))))

pub parse-once : (plan : ParsePlan) (ps : List Pat) (columns made : List Column) → HasDistinctNames column_name columns → names_of (pattern_columns plan.pattern) ≡ map text_of (pattern_names ps) → names_twice [] (pattern_names ps) ≡ [] → made ≡ parse_columns plan columns → HasDistinctNames column_name made
parse-once plan ps columns made h named e is = rw is (parse-differ plan ps columns h named e)

pub ruleset column_steps = (parse-once)
