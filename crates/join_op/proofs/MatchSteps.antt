-- What a probe finds for the keys of a row are the rows that match it.
use Rattle.std.proofs.Common.{◌≡◌, ◌<◌, ◌≤◌, Bor, ℕ, Bool, true, false, List, [], ◌∷◌, map, filter, length, refl, ap, ap₂, sym, ◌∙◌, subst, inl, inr, arith}
use Rattle.std.specs.Prelude.{All, Option, not, ◌&&◌, ◌||◌}
use Rattle.std.specs.List.{AllByRecursion, flat_map, list_all, list_any, range_with_len}
use Rattle.std.proofs.lemmas.Bool.{cases_Bool}
use Rattle.std.proofs.lemmas.List.Elements.{All-from_recursion, recursion_from_All}
use Rattle.std.proofs.lemmas.List.FromFn.{get_or-map-range_with_len, length-map-range_with_len}
use Rattle.kql_cells.specs.Keys.{is_null, same_key, same_key-decides, same_keys, same_keys-decides}
use Rattle.kql_cells.specs.Table.{Grid}
use Rattle.kql_cells.specs.declared.value.Value.{Value}
use Rattle.kql_cells.specs.declared.value.Value.TheVariants as value
use Rattle.kql_bound.specs.declared.parts.JoinKind.{JoinKind}
use Rattle.kql_bound.specs.declared.parts.JoinKind.TheVariants as join
use Rattle.kql_bound.specs.declared.parts.OnPair.{OnPair}
use Rattle.kql_meaning.specs.Groups.{is_first_of_key}
use Rattle.kql_meaning.specs.Join.{keys_match, left_key, matches_left, matches_right, rows_match}
use Rattle.kql_meaning.specs.Tables.{cell, places, places_below}
use Rattle.kql_meaning.proofs.MemberLaws.{Member, member-of-filter, of-member}
use Rattle.kql_fit_laws.proofs.RowFacts.{all-members, place-below}
use Rattle.kql_keys.specs.Matches.{has_null, matches_in, keys_match as lists_match}
use Rattle.kql_keys.specs.Numbers.{first_places}
use Rattle.kql_keys.proofs.KeyLaws.{matches-are}
use Rattle.kql_keys.proofs.NumberLaws.{firsts-are}
use Rattle.kql_values.specs.Grids.{row_of, rows_of}
use Rattle.join_op.specs.Led.{pairs_led}
use Rattle.join_op.specs.Pairs.{given, join_pairs, lead_rows, pairs_by, row_rule, rows_led}
use Rattle.join_op.specs.Sides.{column_cells, key_cells, key_name, lead_side, matches_of, opposite}
use Rattle.join_op.specs.declared.pairs.RowRule.{RowRule}
use Rattle.join_op.specs.declared.sides.Side.{Side}
use Rattle.join_op.specs.declared.sides.Side.TheVariants as side
use Rattle.join_op.proofs.ListSteps.{all-same, any-range-same, filter-range-same, flat-same-in}

-- Keys match where all their cells do.

shuffled : (x xs n ns : Bool) → ((x && xs) && not (n || ns)) ≡ ((x && not n) && (xs && not ns))
shuffled true true true ns = refl
shuffled true true false ns = refl
shuffled true false true ns = refl
shuffled true false false ns = refl
shuffled false xs n ns = refl

keys-match : (f g : OnPair → Value) (on : List OnPair) → lists_match (map f on) (map g on) ≡ list_all (λ (p : OnPair). keys_match (f p) (g p)) on
unfolding same_keys has_null keys_match
keys-match f g [] = refl
keys-match f g (p ∷ ps) =
    shuffled (same_key (f p) (g p)) (same_keys (map f ps) (map g ps)) (is_null (f p)) (list_any is_null (map f ps))
    ∙ ap (λ b. (same_key (f p) (g p) && not (is_null (f p))) && b) (keys-match f g ps)

match-turned : (v w : Value) → keys_match v w ≡ keys_match w v
unfolding keys_match
match-turned v w = elim (cases_Bool (same_key v w)) [
  | inl t ↦ let e : v ≡ w = (same_key-decides v w).0 t in rw e refl
  | inr f ↦
      let g : same_key w v ≡ false = elim (cases_Bool (same_key w v)) [
        | inl u ↦
            let e : v ≡ w = sym ((same_key-decides w v).0 u) in
            let t : same_key v w ≡ true = (same_key-decides v w).1 e in
            absurd cc
        | inr g ↦ g
      ] in
      rw (f, g) refl
]

-- The key of a row.
row-key : (s : Side) (on : List OnPair) (t : Grid) (i : ℕ) → i < length t.lines → row_of (key_cells s on t) i ≡ map (λ (p : OnPair). cell t i (key_name s p)) on
unfolding row_of key_cells column_cells places places_below
row-key s [] t i lt = refl
row-key s (p ∷ ps) t i lt =
    ap₂ (λ (v : Value) (vs : List Value). v ∷ vs) (get_or-map-range_with_len (λ k. cell t k (key_name s p)) 0 (length t.lines) i i value.Null lt (omega arith)) (row-key s ps t i lt)

match-left : (on : List OnPair) (a b : Grid) (i j : ℕ) → i < length a.lines → j < length b.lines → lists_match (row_of (key_cells side.Left on a) i) (row_of (key_cells side.Right on b) j) ≡ rows_match on a b i j
unfolding rows_match key_name
match-left on a b i j lt below =
    ap₂ (λ (x y : List Value). lists_match x y) (row-key side.Left on a i lt) (row-key side.Right on b j below)
    ∙ keys-match (λ (p : OnPair). cell a i p.left) (λ (p : OnPair). cell b j p.right) on

match-right : (on : List OnPair) (a b : Grid) (i j : ℕ) → i < length a.lines → j < length b.lines → lists_match (row_of (key_cells side.Right on b) j) (row_of (key_cells side.Left on a) i) ≡ rows_match on a b i j
unfolding rows_match key_name
match-right on a b i j lt below =
    ap₂ (λ (x y : List Value). lists_match x y) (row-key side.Right on b j below) (row-key side.Left on a i lt)
    ∙ (keys-match (λ (p : OnPair). cell b j p.right) (λ (p : OnPair). cell a i p.left) on
    ∙ all-same (λ (p : OnPair). keys_match (cell b j p.right) (cell a i p.left)) (λ (p : OnPair). keys_match (cell a i p.left) (cell b j p.right)) on (λ p. match-turned (cell b j p.right) (cell a i p.left)))

matches-found : (s : Side) (on : List OnPair) (lead other : Grid) (i : ℕ) → i < length lead.lines
    → matches_in (rows_of (length other.lines) (key_cells (opposite s) on other)) (row_of (key_cells s on lead) i) ≡ matches_of s on lead other i
unfolding rows_of matches_of matches_right matches_left opposite places places_below
matches-found side.Left on lead other i lt =
    let key = row_of (key_cells side.Left on lead) i in
    let keys = row_of (key_cells side.Right on other) in
    matches-are keys key (length other.lines)
    ∙ filter-range-same (λ j. lists_match key (keys j)) (λ j. rows_match on lead other i j) 0 (length other.lines) (λ j below. match-left on lead other i j lt (omega (arith, below)))
matches-found side.Right on lead other i lt =
    let key = row_of (key_cells side.Right on lead) i in
    let keys = row_of (key_cells side.Left on other) in
    matches-are keys key (length other.lines)
    ∙ filter-range-same (λ j. lists_match key (keys j)) (λ j. rows_match on other lead j i) 0 (length other.lines) (λ j below. match-right on other lead j i (omega (arith, below)) lt)

-- The rows that lead.

first-rows : (on : List OnPair) (lead : Grid) → first_places same_keys (rows_of (length lead.lines) (key_cells side.Left on lead)) ≡ filter (is_first_of_key (left_key on lead)) (places lead)
unfolding rows_of places places_below is_first_of_key left_key key_name
first-rows on lead =
    let n = length lead.lines in
    let key = row_of (key_cells side.Left on lead) in
    let own = λ (i : ℕ). map (λ (p : OnPair). cell lead i p.left) on in
    firsts-are same_keys same_keys-decides key n
    ∙ filter-range-same (λ i. not (list_any (λ j. same_keys (key j) (key i)) (range_with_len 0 i))) (λ i. not (list_any (λ j. same_keys (own j) (own i)) (range_with_len 0 i))) 0 n (λ i lt.
    ap not (any-range-same (λ j. same_keys (key j) (key i)) (λ j. same_keys (own j) (own i)) 0 i (λ j below.
    ap₂ same_keys (row-key side.Left on lead j (omega (arith, lt, below))) (row-key side.Left on lead i (omega (arith, lt))))))

pub rows-led : (kind : JoinKind) (on : List OnPair) (lead : Grid) → rows_led kind (key_cells (lead_side kind) on lead) (length lead.lines) ≡ lead_rows kind on lead
unfolding rows_led lead_rows lead_side places places_below
rows-led join.InnerUnique on lead = first-rows on lead
rows-led join.Inner on lead = refl
rows-led _ on lead = refl

pub lead-inside : (kind : JoinKind) (on : List OnPair) (lead : Grid) (i : ℕ) → Member i (lead_rows kind on lead) → i < length lead.lines
unfolding lead_rows
lead-inside join.InnerUnique on lead i m = place-below lead i (member-of-filter (is_first_of_key (left_key on lead)) (places lead) i m).0
lead-inside join.Inner on lead i m = place-below lead i m
lead-inside _ on lead i m = place-below lead i m

-- The columns of keys as they are lent.

abbrev now : Bor (List Value) → List Value
now c = c.now

columns-reach : (s : Side) (on : List OnPair) (t : Grid) (cols : List (Bor (List Value))) → map now cols ≡ key_cells s on t → AllByRecursion (λ (c : Bor (List Value)). length t.lines ≤ length c.now) cols
unfolding key_cells column_cells places places_below
columns-reach s on t [] e = tt
columns-reach s [] t (c ∷ cs) e = cc
columns-reach s (p ∷ ps) t (c ∷ cs) e =
    let first : c.now ≡ map (λ i. cell t i (key_name s p)) (range_with_len 0 (length t.lines)) = cc in
    let rest : map now cs ≡ key_cells s ps t = cc in
    let size : length c.now ≡ length t.lines = ap length first ∙ length-map-range_with_len (λ i. cell t i (key_name s p)) 0 (length t.lines) in
    (omega (arith, size), columns-reach s ps t cs rest)

pub columns-long : (s : Side) (on : List OnPair) (t : Grid) (cols : List (Bor (List Value))) (n : ℕ) → map (λ c. c.now) cols ≡ key_cells s on t → n ≡ length t.lines → All (λ c. n ≤ length c.now) cols
columns-long s on t cols n e size = subst (λ m. All (λ (c : Bor (List Value)). m ≤ length c.now) cols) (sym size) (All-from_recursion (λ (c : Bor (List Value)). length t.lines ≤ length c.now) cols (columns-reach s on t cols e))

pub leads-are : (kind : JoinKind) (s : Side) (on : List OnPair) (lead : Grid) (cols : List (Bor (List Value))) (n : ℕ) (leads : List ℕ) → s ≡ lead_side kind → map (λ c. c.now) cols ≡ key_cells s on lead → n ≡ length lead.lines
    → leads ≡ rows_led kind (map (λ c. c.now) cols) n → leads ≡ lead_rows kind on lead
leads-are kind s on lead cols n leads es e size is =
    is ∙ (ap₂ (rows_led kind) (e ∙ ap (λ x. key_cells x on lead) es) size ∙ rows-led kind on lead)

pub rows-inside : (kind : JoinKind) (on : List OnPair) (lead : Grid) (leads : List ℕ) → leads ≡ lead_rows kind on lead → All (λ i. i < length lead.lines) leads
rows-inside kind on lead leads e = subst (All (λ i. i < length lead.lines)) (sym e) (all-members (λ i. i < length lead.lines) (lead_rows kind on lead) (lead-inside kind on lead))

pub leads-reach : (s : Side) (on : List OnPair) (t : Grid) (cols : List (Bor (List Value))) (leads : List ℕ) → map (λ c. c.now) cols ≡ key_cells s on t → All (λ i. i < length t.lines) leads → All (λ i. All (λ c. i < length c.now) cols) leads
leads-reach s on t cols leads e all =
    let long = columns-long s on t cols (length t.lines) e refl in
    λ k d lt m c below.
    let low = all k d lt in
    let high = long m c below in
    omega (arith, low, high)

pub leads-within : (kind : JoinKind) (s : Side) (on : List OnPair) (lead : Grid) (cols : List (Bor (List Value))) (n : ℕ) (leads : List ℕ) → s ≡ lead_side kind → map (λ c. c.now) cols ≡ key_cells s on lead → n ≡ length lead.lines
    → leads ≡ rows_led kind (map (λ c. c.now) cols) n → All (λ i. All (λ c. i < length c.now) cols) leads
leads-within kind s on lead cols n leads es e size is = leads-reach s on lead cols leads e (rows-inside kind on lead leads (leads-are kind s on lead cols n leads es e size is))

-- The pairs that are found.

pub found-are : (kind : JoinKind) (on : List OnPair) (lead other : Grid) (cols : List (Bor (List Value))) (leads : List ℕ) (keys : List (List Value)) (r : RowRule)
    → map (λ c. c.now) cols ≡ key_cells (lead_side kind) on lead → keys ≡ rows_of (length other.lines) (key_cells (opposite (lead_side kind)) on other) → All (λ i. i < length lead.lines) leads → r ≡ row_rule kind
    → pairs_by r (λ i. matches_in keys (row_of (map (λ c. c.now) cols) i)) leads ≡ pairs_led kind on lead other leads
unfolding pairs_by pairs_led
found-are kind on lead other cols leads keys r own whole within er =
    let inside = recursion_from_All (λ i. i < length lead.lines) leads within in
    let at : (i : ℕ) → i < length lead.lines → matches_in keys (row_of (map now cols) i) ≡ matches_of (lead_side kind) on lead other i = λ i lt.
    ap₂ (λ (ks cs : List (List Value)). matches_in ks (row_of cs i)) whole own ∙ matches-found (lead_side kind) on lead other i lt in
    let f = λ (i : ℕ). map (λ (x : Option ℕ). (i, x)) (given r (matches_in keys (row_of (map now cols) i))) in
    let g = λ (i : ℕ). map (λ (x : Option ℕ). (i, x)) (given (row_rule kind) (matches_of (lead_side kind) on lead other i)) in
    flat-same-in f g leads (λ i mem.
    ap₂ (λ (q : RowRule) (js : List ℕ). map (λ (x : Option ℕ). (i, x)) (given q js)) er (at i (of-member (λ (k : ℕ). k < length lead.lines) leads i inside mem)))

pairs-are : (kind : JoinKind) (s o : Side) (on : List OnPair) (lead other : Grid) (cols others : List (Bor (List Value))) (n m : ℕ) (leads : List ℕ) (keys : List (List Value)) (r : RowRule)
    → s ≡ lead_side kind → o ≡ opposite s → map (λ c. c.now) cols ≡ key_cells s on lead → map (λ c. c.now) others ≡ key_cells o on other → n ≡ length lead.lines → m ≡ length other.lines
    → leads ≡ rows_led kind (map (λ c. c.now) cols) n → keys ≡ rows_of m (map (λ c. c.now) others) → r ≡ row_rule kind
    → pairs_by r (λ i. matches_in keys (row_of (map (λ c. c.now) cols) i)) leads ≡ join_pairs kind on lead other
unfolding pairs_led join_pairs
pairs-are kind s o on lead other cols others n m leads keys r es eo e f size count is keyed er =
    let all = leads-are kind s on lead cols n leads es e size is in
    let whole : keys ≡ rows_of (length other.lines) (key_cells (opposite (lead_side kind)) on other) =
    keyed ∙ ap₂ rows_of count (f ∙ ap (λ x. key_cells x on other) (eo ∙ ap opposite es)) in
    let own : map now cols ≡ key_cells (lead_side kind) on lead = e ∙ ap (λ x. key_cells x on lead) es in
    found-are kind on lead other cols leads keys r own whole (rows-inside kind on lead leads all) er ∙ ap (pairs_led kind on lead other) all

pub leads-found : (kind : JoinKind) (s o : Side) (on : List OnPair) (lead other : Grid) (cols others : List (Bor (List Value))) (n m : ℕ) (leads : List ℕ) (keys : List (List Value)) (r : RowRule) (made : List ℕ)
    → s ≡ lead_side kind → o ≡ opposite s → map (λ c. c.now) cols ≡ key_cells s on lead → map (λ c. c.now) others ≡ key_cells o on other → n ≡ length lead.lines → m ≡ length other.lines
    → leads ≡ rows_led kind (map (λ c. c.now) cols) n → keys ≡ rows_of m (map (λ c. c.now) others) → r ≡ row_rule kind
    → made ≡ map (λ q. q.0) (pairs_by r (λ i. matches_in keys (row_of (map (λ c. c.now) cols) i)) leads) → made ≡ map (λ q. q.0) (join_pairs kind on lead other)
leads-found kind s o on lead other cols others n m leads keys r made es eo e f size count is keyed er has =
    has ∙ ap (map (λ (q : ℕ × Option ℕ). q.0)) (pairs-are kind s o on lead other cols others n m leads keys r es eo e f size count is keyed er)

pub others-found : (kind : JoinKind) (s o : Side) (on : List OnPair) (lead other : Grid) (cols others : List (Bor (List Value))) (n m : ℕ) (leads : List ℕ) (keys : List (List Value)) (r : RowRule) (made : List (Option ℕ))
    → s ≡ lead_side kind → o ≡ opposite s → map (λ c. c.now) cols ≡ key_cells s on lead → map (λ c. c.now) others ≡ key_cells o on other → n ≡ length lead.lines → m ≡ length other.lines
    → leads ≡ rows_led kind (map (λ c. c.now) cols) n → keys ≡ rows_of m (map (λ c. c.now) others) → r ≡ row_rule kind
    → made ≡ map (λ q. q.1) (pairs_by r (λ i. matches_in keys (row_of (map (λ c. c.now) cols) i)) leads) → made ≡ map (λ q. q.1) (join_pairs kind on lead other)
others-found kind s o on lead other cols others n m leads keys r made es eo e f size count is keyed er has =
    has ∙ ap (map (λ (q : ℕ × Option ℕ). q.1)) (pairs-are kind s o on lead other cols others n m leads keys r es eo e f size count is keyed er)

pub ruleset match_steps = (columns-long, leads-within)
