-- What the groups of a range and of the range behind it have together.
use Rattle.std.proofs.Common.{◌≡◌, ◌≢◌, ◌<◌, ◌≤◌, ◌+◌, ◌-◌, ◌||◌, ◌++◌, ◌^◌, ℕ, zero, suc, Bool, true, false, not, List, [], ◌∷◌, drop, filter, get_or, length, map, reverse, take, refl, ap, ap₂, sym, ◌∙◌, subst, inl, inr, arith}
use Rattle.std.specs.Prelude.{All, AllPairs, IfSome, MatchOption, None, Option, Some, nat_lt}
use Rattle.std.specs.List.{AllByRecursion, list_any, position_or_len, range_with_len}
use Rattle.std.proofs.lemmas.Bool.{cases_Bool}
use Rattle.std.proofs.lemmas.List.{append-nil, append_assoc, drop_all, drop_more, get_or-set_other, length-append, length-map, length-set, reverse-append, reverse-reverse, take_rest}
use Rattle.std.proofs.lemmas.List.Elements.{All-from_recursion, recursion_from_All}
use Rattle.std.proofs.lemmas.List.FromFn.{length-range_with_len}
use Rattle.std.proofs.lemmas.List.Kept.{AllPairs-cons}
use Rattle.kql_cells.specs.Keys.{same_keys, same_keys-decides}
use Rattle.kql_cells.specs.Table.{Grid}
use Rattle.kql_cells.specs.declared.value.Value.{Value}
use Rattle.kql_values.specs.Grids.{HaveLength}
use Rattle.kql_keys.specs.Numbers.{distinct, numbers_of}
use Rattle.kql_keys.proofs.NumberFacts.{any-distinct}
use Rattle.kql_functions.specs.declared.aggregate.Aggregate.{Aggregate}
use Rattle.kql_bound.specs.declared.expr.BExpr.{BExpr}
use Rattle.kql_bound.specs.declared.parts.BItem.{BItem}
use Rattle.kql_meaning.specs.Groups.{key_by}
use Rattle.kql_scalar.specs.Rows.{rows}
use Rattle.agg_folds.specs.declared.call.FoldCall.{FoldCall}
use Rattle.agg_folds.proofs.RowLaws.{count-of-fold}
use Rattle.summarize_pieces.specs.Calls.{calls_of}
use Rattle.summarize_pieces.specs.Joined.{AllFew, Differ, further_numbers, joined_groups, joined_states, with_group, with_groups, with_kept}
use Rattle.summarize_pieces.specs.Pieces.{AreNeighbours, GroupKept, Grouped, args_at, args_of, call_over, groups_in, keys_in, rows_with, state_at, state_in}
use Rattle.summarize_pieces.proofs.KeyLists.{Distinct, further-are, or-none}
use Rattle.summarize_pieces.proofs.NeighbourLaws.{keys-apart}

-- One group more.

group-keeps : (first : ℕ) (ss : List GroupKept) (n : ℕ) (k : GroupKept) → length ss ≤ length (with_group first ss n k)
unfolding with_group
group-keeps first ss n k = elim (cases_Bool (nat_lt n first)) [
  | inl t ↦ let size = length-set ss n (with_kept (get_or ss n k) k) in rw t (omega (arith, size))
  | inr f ↦ let size = length-append ss (k ∷ []) in rw f (omega (arith, size))
]

front : (ss : List GroupKept) (k : GroupKept) (i : ℕ) (d : GroupKept) → i < length ss → get_or (ss ++ k ∷ []) i d ≡ get_or ss i d
front [] k i d lt = absurd (omega (arith, lt))
front (s ∷ ss) k zero d lt = refl
front (s ∷ ss) k (suc i) d lt = front ss k i d (omega (arith, lt))

group-other : (first : ℕ) (ss : List GroupKept) (n : ℕ) (k : GroupKept) (i : ℕ) (d : GroupKept) → i < length ss → i ≢ n → get_or (with_group first ss n k) i d ≡ get_or ss i d
unfolding with_group
group-other first ss n k i d lt other = elim (cases_Bool (nat_lt n first)) [
  | inl t ↦ rw t (get_or-set_other ss n i (with_kept (get_or ss n k) k) d other)
  | inr f ↦ rw f (front ss k i d lt)
]

no-groups : (first : ℕ) (ss : List GroupKept) (ns : List ℕ) → with_groups first ss ns [] ≡ ss
unfolding with_groups
no-groups first ss [] = refl
no-groups first ss (n ∷ ns) = refl

-- The loop over the groups of one call.

abbrev pub Few : ℕ → GroupKept → Type 0
Few n k = k.kept.count ≤ n

pub record Joining (first : ℕ) (folds : List GroupKept) (ns : List ℕ) (more : List GroupKept) (count further : ℕ) (j : ℕ) (made left : List GroupKept) : Type 0 where
  pub rest : with_groups first made (drop j ns) (reverse left) ≡ with_groups first folds ns more
  pub long : first ≤ length made
  pub few : (i : ℕ) (d : GroupKept) → i < first → ((m : ℕ) → m < j → i ≢ get_or ns m 0) → (get_or made i d).kept.count ≤ count
  pub others : AllByRecursion (Few further) left

front-all : {X : Type 0} (P : X → Type 0) (xs : List X) (y : X) → AllByRecursion P (xs ++ y ∷ []) → AllByRecursion P xs × P y
front-all P [] y h = (tt, h.0)
front-all P (x ∷ xs) y h = let rest = front-all P xs y h.1 in ((h.0, rest.0), rest.1)

back-all : {X : Type 0} (P : X → Type 0) (xs : List X) (y : X) → AllByRecursion P xs → P y → AllByRecursion P (xs ++ y ∷ [])
back-all P [] y h g = (g, tt)
back-all P (x ∷ xs) y h g = (h.0, back-all P xs y h.1 g)

turned-all : {X : Type 0} (P : X → Type 0) (xs : List X) → AllByRecursion P xs → AllByRecursion P (reverse xs)
turned-all P [] h = tt
turned-all P (x ∷ xs) h = subst (AllByRecursion P) (sym (reverse-append (x ∷ []) xs)) (back-all P (reverse xs) x (turned-all P xs h.1) h.0)

reverse-last : {X : Type 0} (xs : List X) (y : X) → reverse (xs ++ y ∷ []) ≡ y ∷ reverse xs
reverse-last xs y = reverse-append xs (y ∷ [])

same-default : (ns : List ℕ) (j d e : ℕ) → j < length ns → get_or ns j d ≡ get_or ns j e
same-default [] j d e lt = absurd (omega (arith, lt))
same-default (n ∷ ns) zero d e lt = refl
same-default (n ∷ ns) (suc j) d e lt = same-default ns j d e (omega (arith, lt))

pub joining-start : (first : ℕ) (folds : List GroupKept) (ns : List ℕ) (more : List GroupKept) (count further : ℕ) (made left : List GroupKept) → length folds ≡ first → All (Few count) folds → All (Few further) more → made ≡ folds → left ≡ reverse more → Joining first folds ns more count further 0 made left
joining-start first folds ns more count further made left size few others em el = record {
  rest = ap₂ (λ (xs ys : List GroupKept). with_groups first xs ns ys) em (ap (λ (ks : List GroupKept). reverse ks) el ∙ reverse-reverse more);
  long = let same : length made ≡ first = ap (λ (ks : List GroupKept). length ks) em ∙ size in omega (arith, same);
  few = λ i d lt apart. subst (λ (ks : List GroupKept). (get_or ks i d).kept.count ≤ count) (sym em) (few i d (omega (arith, size, lt)));
  others = subst (AllByRecursion (Few further)) (sym el) (turned-all (Few further) more (recursion_from_All (Few further) more others));
}

pub joining-room : (first : ℕ) (folds : List GroupKept) (ns : List ℕ) (more : List GroupKept) (count further : ℕ) (j g : ℕ) (made old left : List GroupKept) (fold : GroupKept) → Joining first folds ns more count further j made old → Differ ns → j < length ns → g ≡ get_or ns j g → old ≡ left ++ fold ∷ [] → count + further < 2 ^ 63 → (k : GroupKept) → g < first → (get_or made g k).kept.count + fold.kept.count ≤ 2 ^ 63
joining-room first folds ns more count further j g made old left fold h differ lt is el room k below =
    let one : fold.kept.count ≤ further = (front-all (Few further) left fold (subst (AllByRecursion (Few further)) el h.others)).1 in
    let own : (get_or made g k).kept.count ≤ count = h.few g k below (λ m before e. differ.apart m j 0 before lt (sym e ∙ (is ∙ same-default ns j g 0 lt))) in
    omega (arith, one, own, room)

pub joining-next : (first : ℕ) (folds : List GroupKept) (ns : List ℕ) (more : List GroupKept) (count further : ℕ) (j g : ℕ) (made old new left : List GroupKept) (fold : GroupKept) → Joining first folds ns more count further j made old → j < length ns → g ≡ get_or ns j g → old ≡ left ++ fold ∷ [] → new ≡ with_group first made g fold → Joining first folds ns more count further (j + 1) new left
unfolding with_groups
joining-next first folds ns more count further j g made old new left fold h lt is el en =
    let both = front-all (Few further) left fold (subst (AllByRecursion (Few further)) el h.others) in
    let turned : reverse old ≡ fold ∷ reverse left = ap (λ (ks : List GroupKept). reverse ks) el ∙ reverse-last left fold in
    let next : drop j ns ≡ g ∷ drop (j + 1) ns = drop_more ns j g lt ∙ ap (λ n. n ∷ drop (j + 1) ns) (sym is) in
    record {
      rest = ap (λ (ks : List GroupKept). with_groups first ks (drop (j + 1) ns) (reverse left)) en ∙ (sym (ap₂ (λ (is : List ℕ) (ks : List GroupKept). with_groups first made is ks) next turned) ∙ h.rest);
      long = let keeps = group-keeps first made g fold in let same : length new ≡ length (with_group first made g fold) = ap (λ (ks : List GroupKept). length ks) en in let long = h.long in omega (arith, keeps, same, long);
      few = λ i d below apart.
          let other : i ≢ g = λ e. apart j (omega arith) (e ∙ (is ∙ same-default ns j g 0 lt)) in
          let inside : i < length made = let long = h.long in omega (arith, below, long) in
          subst (λ (k : GroupKept). k.kept.count ≤ count) (sym (ap (λ (ks : List GroupKept). get_or ks i d) en ∙ group-other first made g fold i d inside other)) (h.few i d below (λ m before. apart m (omega (arith, before))));
      others = both.0;
    }

pub joining-none : (first : ℕ) (folds : List GroupKept) (ns : List ℕ) (more : List GroupKept) (count further : ℕ) (j : ℕ) (made old left : List GroupKept) → Joining first folds ns more count further j made old → old ≡ [] → left ≡ [] → Joining first folds ns more count further (j + 1) made left
joining-none first folds ns more count further j made old left h eo el = record {
  rest = ap (λ (ks : List GroupKept). with_groups first made (drop (j + 1) ns) (reverse ks)) el ∙ (no-groups first made (drop (j + 1) ns) ∙ (sym (ap (λ (ks : List GroupKept). with_groups first made (drop j ns) (reverse ks)) eo ∙ no-groups first made (drop j ns)) ∙ h.rest));
  long = h.long;
  few = λ i d below apart. h.few i d below (λ m before. apart m (omega (arith, before)));
  others = subst (AllByRecursion (Few further)) (sym el) tt;
}

pub joining-end : (first : ℕ) (folds : List GroupKept) (ns : List ℕ) (more : List GroupKept) (count further : ℕ) (j : ℕ) (made left : List GroupKept) → Joining first folds ns more count further j made left → length ns ≤ j → made ≡ with_groups first folds ns more
unfolding with_groups
joining-end first folds ns more count further j made left h le =
    ap (λ (is : List ℕ). with_groups first made is (reverse left)) (sym (drop_all j ns le)) ∙ h.rest

-- The loop over the calls.

abbrev pub FewEach : ℕ → ℕ → List GroupKept → Type 0
FewEach groups count s = (length s ≡ groups) × All (Few count) s

none-joined : (first : ℕ) (xs : List (List GroupKept)) (ns : List ℕ) → joined_states first xs ns [] ≡ []
unfolding joined_states
none-joined first [] ns = refl
none-joined first (x ∷ xs) ns = refl

pub record JoiningCalls (first : ℕ) (folds : List (List GroupKept)) (ns : List ℕ) (more : List (List GroupKept)) (count further : ℕ) (made left right : List (List GroupKept)) : Type 0 where
  pub rest : made ++ joined_states first (reverse left) ns (reverse right) ≡ joined_states first folds ns more
  pub few : AllByRecursion (FewEach first count) left
  pub others : AllByRecursion (FewEach (length ns) further) right

pub calls-start : (first : ℕ) (folds : List (List GroupKept)) (ns : List ℕ) (more : List (List GroupKept)) (count further : ℕ) (made left right : List (List GroupKept)) → AllFew first count folds → AllFew (length ns) further more → made ≡ [] → left ≡ reverse folds → right ≡ reverse more → JoiningCalls first folds ns more count further made left right
calls-start first folds ns more count further made left right few others em el er = record {
  rest = ap (λ (xs : List (List GroupKept)). xs ++ joined_states first (reverse left) ns (reverse right)) em ∙ ap₂ (λ (xs ys : List (List GroupKept)). joined_states first xs ns ys) (ap (λ (ks : List (List GroupKept)). reverse ks) el ∙ reverse-reverse folds) (ap (λ (ks : List (List GroupKept)). reverse ks) er ∙ reverse-reverse more);
  few = subst (AllByRecursion (FewEach first count)) (sym el) (turned-all (FewEach first count) folds (recursion_from_All (FewEach first count) folds few.each));
  others = subst (AllByRecursion (FewEach (length ns) further)) (sym er) (turned-all (FewEach (length ns) further) more (recursion_from_All (FewEach (length ns) further) more others.each));
}

pub calls-next : (first : ℕ) (folds : List (List GroupKept)) (ns : List ℕ) (more : List (List GroupKept)) (count further : ℕ) (made left right new before behind : List (List GroupKept)) (a b s : List GroupKept) → JoiningCalls first folds ns more count further made left right → left ≡ before ++ a ∷ [] → right ≡ behind ++ b ∷ [] → s ≡ with_groups first a ns b → new ≡ made ++ s ∷ [] → JoiningCalls first folds ns more count further new before behind
unfolding joined_states
calls-next first folds ns more count further made left right new before behind a b s h el er es en =
    let l = front-all (FewEach first count) before a (subst (AllByRecursion (FewEach first count)) el h.few) in
    let r = front-all (FewEach (length ns) further) behind b (subst (AllByRecursion (FewEach (length ns) further)) er h.others) in
    let tl : reverse left ≡ a ∷ reverse before = ap (λ (ks : List (List GroupKept)). reverse ks) el ∙ reverse-last before a in
    let tr : reverse right ≡ b ∷ reverse behind = ap (λ (ks : List (List GroupKept)). reverse ks) er ∙ reverse-last behind b in
    let tail = joined_states first (reverse before) ns (reverse behind) in
    record {
      rest = ap (λ (ks : List (List GroupKept)). ks ++ tail) (en ∙ ap (λ (x : List GroupKept). made ++ x ∷ []) es) ∙ (append_assoc made (with_groups first a ns b ∷ []) tail ∙ (sym (ap₂ (λ (xs ys : List (List GroupKept)). made ++ joined_states first xs ns ys) tl tr) ∙ h.rest));
      few = l.0;
      others = r.0;
    }

pub calls-few : (first : ℕ) (folds : List (List GroupKept)) (ns : List ℕ) (more : List (List GroupKept)) (count further : ℕ) (made left right before : List (List GroupKept)) (a : List GroupKept) → JoiningCalls first folds ns more count further made left right → left ≡ before ++ a ∷ [] → FewEach first count a
calls-few first folds ns more count further made left right before a h el = (front-all (FewEach first count) before a (subst (AllByRecursion (FewEach first count)) el h.few)).1

pub calls-others : (first : ℕ) (folds : List (List GroupKept)) (ns : List ℕ) (more : List (List GroupKept)) (count further : ℕ) (made left right behind : List (List GroupKept)) (b : List GroupKept) → JoiningCalls first folds ns more count further made left right → right ≡ behind ++ b ∷ [] → FewEach (length ns) further b
calls-others first folds ns more count further made left right behind b h er = (front-all (FewEach (length ns) further) behind b (subst (AllByRecursion (FewEach (length ns) further)) er h.others)).1

pub calls-none : (first : ℕ) (folds : List (List GroupKept)) (ns : List ℕ) (more : List (List GroupKept)) (count further : ℕ) (made left right before behind : List (List GroupKept)) (a : List GroupKept) → JoiningCalls first folds ns more count further made left right → left ≡ before ++ a ∷ [] → right ≡ [] → behind ≡ [] → JoiningCalls first folds ns more count further made before behind
calls-none first folds ns more count further made left right before behind a h el er eb =
    let l = front-all (FewEach first count) before a (subst (AllByRecursion (FewEach first count)) el h.few) in
    record {
      rest = ap (λ (ys : List (List GroupKept)). made ++ joined_states first (reverse before) ns (reverse ys)) eb ∙ (ap (λ (xs : List (List GroupKept)). made ++ xs) (none-joined first (reverse before) ns ∙ sym (none-joined first (reverse left) ns)) ∙ (sym (ap (λ (ys : List (List GroupKept)). made ++ joined_states first (reverse left) ns (reverse ys)) er) ∙ h.rest));
      few = l.0;
      others = subst (AllByRecursion (FewEach (length ns) further)) (sym eb) tt;
    }

-- One turn, where the other list may be at its end.

abbrev pub Taken : List (List GroupKept) → List (List GroupKept) → Option (List GroupKept) → Type 0
Taken right behind o = MatchOption o ((right ≡ []) × (behind ≡ [])) (λ (b : List GroupKept). right ≡ behind ++ b ∷ [])

pub calls-more : (first : ℕ) (folds : List (List GroupKept)) (ns : List ℕ) (more : List (List GroupKept)) (count further : ℕ) (made left right behind : List (List GroupKept)) (o : Option (List GroupKept)) → JoiningCalls first folds ns more count further made left right → Taken right behind o → IfSome o (All (Few further))
calls-more first folds ns more count further made left right behind None h t = tt
calls-more first folds ns more count further made left right behind (Some b) h t = (calls-others first folds ns more count further made left right behind b h t).1

pub calls-turn : (first : ℕ) (folds : List (List GroupKept)) (ns : List ℕ) (more : List (List GroupKept)) (count further : ℕ) (made left right new before behind : List (List GroupKept)) (a : List GroupKept) (o : Option (List GroupKept)) → JoiningCalls first folds ns more count further made left right → left ≡ before ++ a ∷ [] → Taken right behind o → (o ≡ None → new ≡ made) → ((b : List GroupKept) → o ≡ Some b → new ≡ made ++ with_groups first a ns b ∷ []) → JoiningCalls first folds ns more count further new before behind
calls-turn first folds ns more count further made left right new before behind a None h el t none some =
    subst (λ (xs : List (List GroupKept)). JoiningCalls first folds ns more count further xs before behind) (sym (none refl)) (calls-none first folds ns more count further made left right before behind a h el t.0 t.1)
calls-turn first folds ns more count further made left right new before behind a (Some b) h el t none some =
    calls-next first folds ns more count further made left right new before behind a b (with_groups first a ns b) h el t refl (some b refl)

pub some-more : (o : Option (List GroupKept)) (b : List GroupKept) (further : ℕ) → IfSome o (All (Few further)) → o ≡ Some b → All (Few further) b
some-more None b further h e = absurd cc
some-more (Some c) b further h e = let same : c ≡ b = cc in subst (All (Few further)) same h

pub same-some : (o : Option (List GroupKept)) (b c : List GroupKept) → o ≡ Some b → o ≡ Some c → b ≡ c
same-some None b c e f = cc
same-some (Some d) b c e f = cc

pub not-some : (o : Option (List GroupKept)) (b : List GroupKept) → o ≡ Some b → o ≡ None → ⊥
not-some None b e f = cc
not-some (Some d) b e f = cc

pub ruleset one_steps = (some-more, same-some, not-some)

pub calls-end : (first : ℕ) (folds : List (List GroupKept)) (ns : List ℕ) (more : List (List GroupKept)) (count further : ℕ) (made left right : List (List GroupKept)) → JoiningCalls first folds ns more count further made left right → left ≡ [] → made ≡ joined_states first folds ns more
unfolding joined_states
calls-end first folds ns more count further made left right h el =
    sym (ap (λ (xs : List (List GroupKept)). made ++ joined_states first (reverse xs) ns (reverse right)) el ∙ append-nil made) ∙ h.rest

-- The keys of neighbours.

wide-filter : {X : Type 0} (n : ℕ) (p : List X → Bool) (xs : List (List X)) → HaveLength n xs → HaveLength n (filter p xs)
unfolding HaveLength
wide-filter n p [] h = tt
wide-filter n p (x ∷ xs) h = elim (cases_Bool (p x)) [ inl t ↦ rw t (h.0, wide-filter n p xs h.1) | inr f ↦ rw f (wide-filter n p xs h.1) ]

wide-distinct : (n : ℕ) (ks : List (List Value)) → HaveLength n ks → HaveLength n (distinct same_keys ks)
unfolding HaveLength
wide-distinct n [] h = tt
wide-distinct n (k ∷ ks) h = (h.0, wide-filter n (λ j. not (same_keys k j)) (distinct same_keys ks) (wide-distinct n ks h.1))

wide-key : (keys : List BItem) (t : Grid) (i : ℕ) → length (key_by keys t i) ≡ length keys
unfolding key_by
wide-key keys t i = length-map keys _

wide-map : (keys : List BItem) (t : Grid) (is : List ℕ) → HaveLength (length keys) (map (key_by keys t) is)
unfolding HaveLength
wide-map keys t [] = tt
wide-map keys t (i ∷ is) = (wide-key keys t i, wide-map keys t is)

keys-wide : (keys : List BItem) (t : Grid) (from to : ℕ) → HaveLength (length keys) (keys_in keys t from to)
unfolding keys_in HaveLength
keys-wide [] t from to = (refl, tt)
keys-wide (key ∷ keys) t from to = wide-distinct (length (key ∷ keys)) (map (key_by (key ∷ keys) t) (rows from to)) (wide-map (key ∷ keys) t (rows from to))

each-wide : (n : ℕ) (a b : List (List Value)) → HaveLength n a → HaveLength n b → AllByRecursion (λ (k : List Value). HaveLength (length k) a) b
unfolding HaveLength
each-wide n a [] h g = tt
each-wide n a (k ∷ b) h g = (subst (λ m. HaveLength m a) (sym g.0) h, each-wide n a b h g.1)

pub neighbours-wide : (a b : Grouped) (x y : List (List Value)) → AreNeighbours a b → x ≡ a.keys → y ≡ b.keys → All (λ (k : List Value). HaveLength (length k) x) y
unfolding groups_in
neighbours-wide a b x y n ex ey =
    let keys = n.plan.keys in
    let ka : x ≡ keys_in keys n.table n.from n.middle = ex ∙ ap (λ (g : Grouped). g.keys) n.left.groups in
    let kb : y ≡ keys_in keys n.table n.middle n.to = ey ∙ ap (λ (g : Grouped). g.keys) n.right.groups in
    All-from_recursion (λ (k : List Value). HaveLength (length k) x) y
    (each-wide (length keys) x y (subst (HaveLength (length keys)) (sym ka) (keys-wide keys n.table n.from n.middle)) (subst (HaveLength (length keys)) (sym kb) (keys-wide keys n.table n.middle n.to)))

-- Their numbers.

or-back : (x y : Bool) → y ≡ true → (x || y) ≡ true
or-back true y e = refl
or-back false y e = e

any-behind : (p : List Value → Bool) (a b : List (List Value)) → list_any p b ≡ true → list_any p (a ++ b) ≡ true
any-behind p [] b e = e
any-behind p (k ∷ a) b e = or-back (p k) (list_any p (a ++ b)) (any-behind p a b e)

at-position : (k : List Value) (ks : List (List Value)) → list_any (same_keys k) ks ≡ true → get_or ks (position_or_len (same_keys k) ks) [] ≡ k
at-position k [] t = cc
at-position k (j ∷ ks) t = elim (cases_Bool (same_keys k j)) [
  | inl s ↦ rw s (sym ((same_keys-decides k j).0 s))
  | inr n ↦
      let rest = at-position k ks (rw n at t) in
      let next : 1 + position_or_len (same_keys k) ks ≡ suc (position_or_len (same_keys k) ks) = omega arith in
      rw n (ap (λ m. get_or (j ∷ ks) m []) next ∙ rest)
]

others-differ : (d : List (List Value)) (k : List Value) (b : List (List Value)) → list_any (same_keys k) d ≡ true → list_any (same_keys k) b ≡ false → AllByRecursion (λ (j : List Value). list_any (same_keys j) d ≡ true) b → AllByRecursion (λ m. position_or_len (same_keys k) d ≢ m) (map (λ (j : List Value). position_or_len (same_keys j) d) b)
others-differ d k [] t e inside = tt
others-differ d k (j ∷ b) t e inside =
    let q = or-none (same_keys k j) (list_any (same_keys k) b) e in (
      λ same. let equal : k ≡ j = sym (at-position k d t) ∙ (ap (λ m. get_or d m []) same ∙ at-position j d inside.0) in
          let yes_same : same_keys k j ≡ true = (same_keys-decides k j).1 equal in
          absurd (cc (yes_same, q.0)),
      others-differ d k b t q.1 inside.1,
    )

numbers-differ : (d b : List (List Value)) → Distinct same_keys b → AllByRecursion (λ (j : List Value). list_any (same_keys j) d ≡ true) b → AllPairs (λ m n. m ≢ n) (map (λ (j : List Value). position_or_len (same_keys j) d) b)
numbers-differ d [] h inside = λ i j e lt less. absurd (omega (arith, less))
numbers-differ d (k ∷ b) h inside =
    let f = λ (j : List Value). position_or_len (same_keys j) d in
    AllPairs-cons (λ m n. m ≢ n) (f k) (map f b)
    (All-from_recursion (λ m. f k ≢ m) (map f b) (others-differ d k b inside.0 h.0 inside.1))
    (numbers-differ d b h.1 inside.1)

itself-there : (k : List Value) (done b : List (List Value)) → list_any (same_keys k) (done ++ k ∷ b) ≡ true
itself-there k done b =
    let own : same_keys k k ≡ true = (same_keys-decides k k).1 refl in
    any-behind (same_keys k) done (k ∷ b) (rw own refl)

all-there : (whole b : List (List Value)) (done : List (List Value)) → whole ≡ done ++ b → AllByRecursion (λ (j : List Value). list_any (same_keys j) whole ≡ true) b
all-there whole [] done e = tt
all-there whole (k ∷ b) done e =
    (ap (list_any (same_keys k)) e ∙ itself-there k done b, all-there whole b (done ++ k ∷ []) (e ∙ sym (append_assoc done (k ∷ []) b)))

there-distinct : (whole b : List (List Value)) → AllByRecursion (λ (j : List Value). list_any (same_keys j) whole ≡ true) b → AllByRecursion (λ (j : List Value). list_any (same_keys j) (distinct same_keys whole) ≡ true) b
there-distinct whole [] h = tt
there-distinct whole (k ∷ b) h = (any-distinct same_keys same_keys-decides k whole ∙ h.0, there-distinct whole b h.1)

further-differ : (a b : List (List Value)) → Distinct same_keys b → Differ (further_numbers a b)
unfolding further_numbers
further-differ a b h =
    let d = distinct same_keys (a ++ b) in
    record { apart = subst (λ (ns : List ℕ). AllPairs (λ m n. m ≢ n) ns) (sym (further-are same_keys same_keys-decides a b)) (numbers-differ d b h (there-distinct (a ++ b) b (all-there (a ++ b) b a refl))) }

pub behind-are : (a b whole : List (List Value)) (first : ℕ) (numbers ns : List ℕ) → first ≡ length a → whole ≡ a ++ b → numbers ≡ numbers_of same_keys whole → ns ≡ drop first numbers → ns ≡ further_numbers a b
unfolding further_numbers
behind-are a b whole first numbers ns ef ew en is =
    is ∙ ap₂ (λ n (xs : List ℕ). drop n xs) ef (en ∙ ap (numbers_of same_keys) ew)

pub rest-from : (numbers ns : List ℕ) (first : ℕ) → ns ≡ take (length numbers - first) (drop first numbers) → ns ≡ drop first numbers
rest-from numbers ns first is = is ∙ take_rest numbers first

pub ruleset slice_steps = (rest-from, take_rest)

pub many-numbers : (a b whole : List (List Value)) (first : ℕ) (numbers : List ℕ) → first ≡ length a → whole ≡ a ++ b → numbers ≡ numbers_of same_keys whole → first ≤ length numbers
unfolding numbers_of
many-numbers a b whole first numbers ef ew en =
    let size : length numbers ≡ length (a ++ b) = ap (λ (ns : List ℕ). length ns) en ∙ (length-map whole _ ∙ ap (λ (ks : List (List Value)). length ks) ew) in
    let both = length-append a b in
    omega (arith, size, both, ef)

pub neighbours-differ : (a b : Grouped) (ns : List ℕ) → AreNeighbours a b → ns ≡ further_numbers a.keys b.keys → Differ ns
unfolding groups_in
neighbours-differ a b ns n is =
    let kb : b.keys ≡ keys_in n.plan.keys n.table n.middle n.to = ap (λ (g : Grouped). g.keys) n.right.groups in
    subst Differ (sym is) (further-differ a.keys b.keys (subst (Distinct same_keys) (sym kb) (keys-apart n.plan.keys n.table n.middle n.to)))

-- How much was taken.

few-filter : (p : ℕ → Bool) (is : List ℕ) → length (filter p is) ≤ length is
few-filter p [] = omega arith
few-filter p (i ∷ is) =
    let rest = few-filter p is in
    elim (cases_Bool (p i)) [ inl t ↦ rw t (omega (arith, rest)) | inr f ↦ rw f (omega (arith, rest)) ]

few-with : (keys : List BItem) (t : Grid) (from to : ℕ) (k : List Value) → length (rows_with keys t from to k) ≤ to - from
unfolding rows_with rows
few-with keys t from to k =
    let few = few-filter (λ i. same_keys (key_by keys t i) k) (range_with_len from (to - from)) in
    let size = length-range_with_len from (to - from) in
    omega (arith, few, size)

state-few : (c : Aggregate × List BExpr) (keys : List BItem) (t : Grid) (from to : ℕ) (k : List Value) → (state_in c keys t from to k).kept.count ≤ to - from
unfolding state_in state_at args_at
state-few c keys t from to k =
    let is = rows_with keys t from to k in
    let most = count-of-fold (call_over c t.columns) (map (args_of c t) is) in
    let size = length-map is (args_of c t) in
    let few = few-with keys t from to k in
    omega (arith, most, size, few)

states-few : (c : Aggregate × List BExpr) (keys : List BItem) (t : Grid) (from to : ℕ) (ks : List (List Value)) → AllByRecursion (Few (to - from)) (map (state_in c keys t from to) ks)
states-few c keys t from to [] = tt
states-few c keys t from to (k ∷ ks) = (state-few c keys t from to k, states-few c keys t from to ks)

calls-are-few : (cs : List (Aggregate × List BExpr)) (keys : List BItem) (t : Grid) (from to : ℕ) (ks : List (List Value)) → AllByRecursion (FewEach (length ks) (to - from)) (map (λ c. map (state_in c keys t from to) ks) cs)
calls-are-few [] keys t from to ks = tt
calls-are-few (c ∷ cs) keys t from to ks =
    ((length-map ks (state_in c keys t from to), All-from_recursion (Few (to - from)) (map (state_in c keys t from to) ks) (states-few c keys t from to ks)), calls-are-few cs keys t from to ks)

groups-few : (x : Grouped) (groups count : ℕ) (states : List (List GroupKept)) (cs : List (Aggregate × List BExpr)) (keys : List BItem) (t : Grid) (from to : ℕ) → groups ≡ length (keys_in keys t from to) → count ≡ to - from → states ≡ map (λ c. map (state_in c keys t from to) (keys_in keys t from to)) cs → AllFew groups count states
groups-few x groups count states cs keys t from to eg ec es = record {
  each = subst (All (FewEach groups count)) (sym es)
      (All-from_recursion (FewEach groups count) (map (λ c. map (state_in c keys t from to) (keys_in keys t from to)) cs)
      (subst (λ m. AllByRecursion (FewEach m count) (map (λ c. map (state_in c keys t from to) (keys_in keys t from to)) cs)) (sym eg)
      (subst (λ m. AllByRecursion (FewEach (length (keys_in keys t from to)) m) (map (λ c. map (state_in c keys t from to) (keys_in keys t from to)) cs)) (sym ec)
      (calls-are-few cs keys t from to (keys_in keys t from to)))));
}

pub left-few : (a b : Grouped) (first : ℕ) → AreNeighbours a b → first ≡ length a.keys → AllFew first a.count a.states
unfolding groups_in
left-few a b first n ef =
    groups-few a first a.count a.states (calls_of n.plan.items) n.plan.keys n.table n.from n.middle
    (ef ∙ ap (λ (g : Grouped). length g.keys) n.left.groups) (ap (λ (g : Grouped). g.count) n.left.groups) (ap (λ (g : Grouped). g.states) n.left.groups)

pub right-few : (a b : Grouped) (ns : List ℕ) → AreNeighbours a b → ns ≡ further_numbers a.keys b.keys → AllFew (length ns) b.count b.states
unfolding groups_in further_numbers
right-few a b ns n is =
    let size : length ns ≡ length b.keys = ap (λ (xs : List ℕ). length xs) (is ∙ further-are same_keys same_keys-decides a.keys b.keys) ∙ length-map b.keys _ in
    groups-few b (length ns) b.count b.states (calls_of n.plan.items) n.plan.keys n.table n.middle n.to
    (size ∙ ap (λ (g : Grouped). length g.keys) n.right.groups) (ap (λ (g : Grouped). g.count) n.right.groups) (ap (λ (g : Grouped). g.states) n.right.groups)

-- Both together.
pub both-groups : (a b : Grouped) (first count width : ℕ) (whole keys : List (List Value)) (ns : List ℕ) (calls : List FoldCall) (states : List (List GroupKept)) → first ≡ length a.keys → whole ≡ a.keys ++ b.keys → keys ≡ distinct same_keys whole → ns ≡ further_numbers a.keys b.keys → states ≡ joined_states first a.states ns b.states → count ≡ a.count + b.count → width ≡ a.width → calls ≡ a.calls → record { count = count; width = width; keys = keys; calls = calls; states = states } ≡ joined_groups a b
unfolding joined_groups
both-groups a b first count width whole keys ns calls states ef ew ek en es ec ewi el =
    let ks : keys ≡ distinct same_keys (a.keys ++ b.keys) = ek ∙ ap (distinct same_keys) ew in
    let ss : states ≡ joined_states (length a.keys) a.states (further_numbers a.keys b.keys) b.states = es ∙ ap₂ (λ n (xs : List ℕ). joined_states n a.states xs b.states) ef en in
    rw (ec, ewi, ks, el, ss) refl

pub ruleset call_steps = (calls-start)

pub ruleset group_steps = (joining-start, joining-end)

pub ruleset neighbour_steps = (keys-apart)
