-- Where no name is given twice, no two columns have one name behind the renames.
use Rattle.std.proofs.Common.{◌≡◌, ◌≢◌, ◌<◌, ◌≤◌, ◌+◌, ◌⊎◌, ℕ, get_or, length, take, Bool, true, false, List, [], ◌∷◌, ◌++◌, map, refl, sym, ap, ◌∙◌, inl, inr, subst}
use Rattle.std.specs.Prelude.{Option, None, Some, not, ◌||◌, bytes_eq, find, fold, Ok}
use Rattle.std.proofs.lemmas.Bool.{cases_Bool}
use Rattle.std.proofs.lemmas.List.{take_all}
use Rattle.std.proofs.lemmas.Slice.Eq.{bytes_eq-Decides}
use Rattle.kql_cells.specs.Named.{HasDistinctNames, column_name}
use Rattle.kql_cells.specs.declared.schema.Column.{Column}
use Rattle.kql_lexer.specs.declared.place.Place.{Place}
use Rattle.kql_bound.specs.declared.expr.BExpr.TheVariants as V
use Rattle.kql_bound.specs.declared.parts.BItem.{BItem}
use Rattle.kql_meaning.specs.Items.{items_columns, named_columns, without}
use Rattle.kql_meaning.specs.Results.{result_kinds}
use Rattle.kql_meaning.specs.Tables.{is_name_among, names_of}
use Rattle.kql_meaning.proofs.MemberLaws.{Member, Pairwise, every-of-members, member-either, member-filter, member-left, member-map, member-of-map, member-right, of-member, pairs-of, pairwise-append}
use Rattle.kql_syntax.specs.declared.tree.Name.{Name}
use Rattle.bind_expr.specs.Names.{text_of}
use Rattle.bind_expr.specs.Outcome.{Answers, Outcome}
use Rattle.bind_expr.proofs.AnswerFacts.{answers-along}
use Rattle.bind_operators.specs.declared.known.Known.{Known}
use Rattle.bind_operators.specs.declared.shape.Shape.{Shape}
use Rattle.bind_operators.specs.Faults.{each_bound, with_next}
use Rattle.bind_operators.specs.Items.{column_as}
use Rattle.bind_operators.specs.Known.{column_wanted}
use Rattle.bind_operators.specs.Places.{name_place}
use Rattle.bind_operators.specs.Project.{Renames, columns_wanted, name_after, old_name, rename_faults, renamed_item}
use Rattle.bind_operators.proofs.AnswerSteps.{each-turn}
use Rattle.bind_operators.proofs.NameLaws.{among, different, first-none, named-differ, named-member, neither, pairwise-of, true-and-false}

-- The old names, one after another.

over-olds : {Y : Type 0} (f : Name → Outcome Y) (rs : Renames) (start : Outcome (List Y)) → fold (λ before (r : Name × Name). with_next before (f r.1)) start rs ≡ fold (λ before n. with_next before (f n)) start (map (λ (r : Name × Name). r.1) rs)
over-olds f [] start = refl
over-olds f (r ∷ rs) start = over-olds f rs (with_next start (f r.1))

pub olds : (operator : Place) (known : Known) (rows : Shape) (rs : Renames) (i : ℕ) (result : Outcome (List Column)) → length rs ≤ i → Answers result (each_bound (λ (r : Name × Name). column_wanted operator known rows.columns r.1) (take i rs)) → Answers result (columns_wanted operator known rows (map (λ (r : Name × Name). r.1) rs))
unfolding each_bound columns_wanted
olds operator known rows rs i result l a =
    answers-along result (each_bound (λ (r : Name × Name). column_wanted operator known rows.columns r.1) (take i rs))
    (columns_wanted operator known rows (map (λ (r : Name × Name). r.1) rs)) a
    (ap (each_bound (λ (r : Name × Name). column_wanted operator known rows.columns r.1)) (take_all i rs l) ∙ over-olds (column_wanted operator known rows.columns) rs (Ok []))

pub olds-turn : (operator : Place) (known : Known) (rows : Shape) (rs : Renames) (i : ℕ) (r : Name × Name) (columns : List Column) (before : Outcome (List Column)) (next : Outcome Column) (result : Outcome (List Column)) → columns ≡ rows.columns → r ≡ get_or rs i r → i < length rs → Answers before (each_bound (λ (r : Name × Name). column_wanted operator known rows.columns r.1) (take i rs)) → Answers next (column_wanted operator known columns r.1) → Answers result (with_next before next) → Answers result (each_bound (λ (r : Name × Name). column_wanted operator known rows.columns r.1) (take (i + 1) rs))
olds-turn operator known rows rs i r columns before next result same is l a b h =
    let here : Answers next (column_wanted operator known rows.columns r.1) = subst (λ (cs : List Column). Answers next (column_wanted operator known cs r.1)) same b in
    each-turn (λ (r : Name × Name). column_wanted operator known rows.columns r.1) rs i r before next result l a
    (subst (λ (q : Name × Name). Answers next (column_wanted operator known rows.columns q.1)) is here) h

-- New names differ, and none stands already.

abbrev apart_news : Name × Name → Name × Name → Type 0
apart_news r s = text_of r.0 ≢ text_of s.0

abbrev Fresh : List (List ℕ) → Renames → Type 0
Fresh standing rs = Pairwise apart_news rs × ((r : Name × Name) → Member r rs → Member (text_of r.0) standing → ⊥)

fresh : (standing renamed : List (List ℕ)) (rs : Renames) → rename_faults standing renamed rs ≡ [] → Fresh standing rs
unfolding rename_faults
fresh standing renamed [] e = (tt, λ r m s. m)
fresh standing renamed (r ∷ rs) e =
    let parts = first-none (is_name_among renamed (old_name r) || is_name_among standing (text_of r.0)) 411 (name_place r.0) (rename_faults (standing ++ text_of r.0 ∷ []) (renamed ++ old_name r ∷ []) rs) e in
    let rest = fresh (standing ++ text_of r.0 ∷ []) (renamed ++ old_name r ∷ []) rs parts.1 in
    let new : is_name_among standing (text_of r.0) ≡ false = (neither (is_name_among renamed (old_name r)) (is_name_among standing (text_of r.0)) parts.0).1 in (
      (every-of-members (apart_news r) rs (λ s m same. rest.1 s m (member-right standing (text_of r.0 ∷ []) (text_of s.0) (inl same))), rest.0),
      λ s m there. elim m [
        | inl q ↦ true-and-false (is_name_among standing (text_of r.0)) (among standing (text_of r.0) (subst (λ (p : Name × Name). Member (text_of p.0) standing) (sym q) there)) new
        | inr n ↦ rest.1 s n (member-left standing (text_of r.0 ∷ []) (text_of s.0) there)
      ],
    )

news-differ : (rs : Renames) → Pairwise apart_news rs → (r s : Name × Name) → Member r rs → Member s rs → (r ≡ s → ⊥) → text_of r.0 ≡ text_of s.0 → ⊥
news-differ [] h r s m n other same = absurd m
news-differ (q ∷ qs) h r s (inl e) (inl f) other same = other (sym e ∙ f)
news-differ (q ∷ qs) h r s (inl e) (inr n) other same = of-member (apart_news q) qs s h.0 n (ap (λ (p : Name × Name). text_of p.0) e ∙ same)
news-differ (q ∷ qs) h r s (inr m) (inl f) other same = of-member (apart_news q) qs r h.0 m (ap (λ (p : Name × Name). text_of p.0) f ∙ sym same)
news-differ (q ∷ qs) h r s (inr m) (inr n) other same = news-differ qs h.1 r s m n other same

-- The name of a column behind the renames: that of a rename of it, or its own, which is then kept.

abbrev new_name : Renames → Column → List ℕ
new_name rs c = name_after c (find (λ (r : Name × Name). bytes_eq (old_name r) c.name) rs)

abbrev kept_names : Renames → List Column → List (List ℕ)
kept_names rs columns = names_of (without (map old_name rs) columns)

found : {X : Type 0} (p : X → Bool) (xs : List X) (x : X) → find p xs ≡ Some x → Member x xs × (p x ≡ true)
found p [] x e = cc
found p (y ∷ ys) x e = elim (cases_Bool (p y)) [
  | inl t ↦
      let is : Some y ≡ Some x = rw t at e in
      let same : y ≡ x = cc in
      (inl same, subst (λ z. p z ≡ true) same t)
  | inr n ↦
      let later : find p ys ≡ Some x = rw n at e in
      let q = found p ys x later in
      (inr q.0, q.1)
]

none-old : (rs : Renames) (n : List ℕ) → find (λ (r : Name × Name). bytes_eq (old_name r) n) rs ≡ None → is_name_among (map old_name rs) n ≡ false
unfolding is_name_among
none-old [] n e = refl
none-old (r ∷ rs) n e = elim (cases_Bool (bytes_eq (old_name r) n)) [
  | inl t ↦ let is : Some r ≡ None = rw t at e in cc
  | inr f ↦ let later : find (λ (r : Name × Name). bytes_eq (old_name r) n) rs ≡ None = rw f at e in rw f (none-old rs n later)
]

abbrev Called : Renames → List Column → Column → Type 0
Called rs columns c =
    ((r : Name × Name) × Member r rs × (old_name r ≡ c.name) × (new_name rs c ≡ text_of r.0))
    ⊎ (Member c.name (kept_names rs columns) × (new_name rs c ≡ c.name))

called-by : (rs : Renames) (columns : List Column) (c : Column) → Member c columns → (o : Option (Name × Name)) → find (λ (r : Name × Name). bytes_eq (old_name r) c.name) rs ≡ o → Called rs columns c
unfolding without names_of
called-by rs columns c m (Some r) e =
    let q = found (λ (r : Name × Name). bytes_eq (old_name r) c.name) rs r e in
    inl (r, q.0, (bytes_eq-Decides (old_name r) c.name).0 q.1, ap (name_after c) e)
called-by rs columns c m None e =
    let kept = member-filter (λ (d : Column). not (is_name_among (map old_name rs) d.name)) columns c m (ap not (none-old rs c.name e)) in
    inr (member-map (λ (d : Column). d.name) (without (map old_name rs) columns) c kept, ap (name_after c) e)

called : (rs : Renames) (columns : List Column) (c : Column) → Member c columns → Called rs columns c
called rs columns c m = called-by rs columns c m (find (λ (r : Name × Name). bytes_eq (old_name r) c.name) rs) refl

called-apart : (rs : Renames) (columns : List Column) → Fresh (kept_names rs columns) rs → (c d : Column) → Called rs columns c → Called rs columns d → c.name ≢ d.name → new_name rs c ≡ new_name rs d → ⊥
called-apart rs columns h c d (inl p) (inl q) differ same = news-differ rs h.0 p.0 q.0 p.1 q.1 (λ e. differ (sym p.2 ∙ (ap old_name e ∙ q.2))) (sym p.3 ∙ (same ∙ q.3))
called-apart rs columns h c d (inl p) (inr q) differ same = h.1 p.0 p.1 (subst (λ n. Member n (kept_names rs columns)) (sym q.1 ∙ (sym same ∙ p.3)) q.0)
called-apart rs columns h c d (inr p) (inl q) differ same = h.1 q.0 q.1 (subst (λ n. Member n (kept_names rs columns)) (sym p.1 ∙ (same ∙ q.3)) p.0)
called-apart rs columns h c d (inr p) (inr q) differ same = differ (sym p.1 ∙ (same ∙ q.1))

-- The columns of the answer.

renamed-named : (rs : Renames) (ds columns : List Column) (c : Column) → Member c (items_columns (map (renamed_item rs) ds) columns) → Member c.name (map (new_name rs) ds)
unfolding items_columns renamed_item column_as
renamed-named rs [] columns c m = absurd m
renamed-named rs (d ∷ ds) columns c m = elim (member-either (named_columns (new_name rs d ∷ []) (result_kinds (V.Column d.name) columns)) (items_columns (map (renamed_item rs) ds) columns) c m) [
  | inl q ↦ elim (named-member (new_name rs d ∷ []) (result_kinds (V.Column d.name) columns) c q) [ inl e ↦ inl e | inr r ↦ absurd r ]
  | inr q ↦ inr (renamed-named rs ds columns c q)
]

renamed-differ : (rs : Renames) (columns : List Column) → Fresh (kept_names rs columns) rs → (ds : List Column) → ((c : Column) → Member c ds → Member c columns) → Pairwise different ds → Pairwise different (items_columns (map (renamed_item rs) ds) columns)
unfolding items_columns renamed_item column_as
renamed-differ rs columns h [] all p = tt
renamed-differ rs columns h (d ∷ ds) all p =
    let mine : List Column = named_columns (new_name rs d ∷ []) (result_kinds (V.Column d.name) columns) in
    pairwise-append different mine (items_columns (map (renamed_item rs) ds) columns) (named-differ (new_name rs d ∷ []) (result_kinds (V.Column d.name) columns) (tt, tt)) (renamed-differ rs columns h ds (λ c m. all c (inr m)) p.1)
    (λ x y m n same. elim (named-member (new_name rs d ∷ []) (result_kinds (V.Column d.name) columns) x m) [
      | inl e ↦
          let q = member-of-map (new_name rs) ds y.name (renamed-named rs ds columns y n) in
          called-apart rs columns h d q.0 (called rs columns d (all d (inl refl))) (called rs columns q.0 (all q.0 (inr q.1))) (of-member (different d) ds q.0 p.0 q.1) (e ∙ (same ∙ sym q.2))
      | inr r ↦ absurd r
    ])

pub renamed-once : (rs : Renames) (columns : List Column) (items : List BItem) → HasDistinctNames column_name columns → items ≡ map (renamed_item rs) columns → rename_faults (kept_names rs columns) [] rs ≡ [] → HasDistinctNames column_name (items_columns items columns)
renamed-once rs columns items h is e =
    rw is (pairs-of different (items_columns (map (renamed_item rs) columns) columns) (renamed-differ rs columns (fresh (kept_names rs columns) [] rs e) columns (λ c m. m) (pairwise-of different columns h)))

pub ruleset rename_steps = (renamed-once)
