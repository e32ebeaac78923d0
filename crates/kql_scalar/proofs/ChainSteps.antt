-- Chains of longs give what chains of these values do.
use Rattle.std.proofs.Common.{◌≡◌, ◌<◌, ◌≤◌, ◌+◌, ◌-◌, ℕ, zero, suc, ℤ, List, [], ◌∷◌, ◌++◌, length, map, take, get_or, refl, ap, subst, sym, ◌∙◌, arith}
use Rattle.std.specs.Prelude.{Err, IfOk, IfSome, Ok, Option, Result, Some, None}
use Rattle.std.specs.List.{range_with_len}
use Rattle.std.proofs.lemmas.List.{take_all}
use Rattle.std.proofs.lemmas.List.Sums.{fold-append, fold_more}
use Rattle.std.proofs.lemmas.List.FromFn.{get_or-range_with_len, length-range_with_len, map-range_with_len_more}
use Rattle.kql_cells.specs.Seen.{value_at}
use Rattle.kql_cells.specs.Table.{Grid, IsGrid}
use Rattle.kql_cells.specs.declared.value.Value.{Value}
use Rattle.kql_values.specs.Grids.{column_at}
use Rattle.kql_values.specs.Numbers.{values_of_numbers}
use Rattle.kql_values.specs.Stores.{number_value}
use Rattle.kql_values.specs.declared.store.NumberKind.{NumberKind}
use Rattle.kql_values.specs.declared.store.NumberKind.TheVariants as number
use Rattle.kql_values.specs.declared.store.Numbers.{Numbers}
use Rattle.kql_scalar_fns.specs.Applied.{applied}
use Rattle.kql_scalar_fns.specs.Arguments.{argument, long_or_null}
use Rattle.kql_scalar_fns.specs.Arithmetic.{arithmetic, difference, product, quotient, remainder, sum}
use Rattle.kql_bound.specs.Signs.{sign_func}
use Rattle.kql_bound.specs.declared.expr.ChainSign.{ChainSign}
use Rattle.kql_bound.specs.declared.expr.ChainSign.TheVariants as sign
use Rattle.kql_bound.specs.declared.literal.Lit.{Lit}
use Rattle.kql_meaning.specs.Expressions.{val}
use Rattle.kql_scalar.specs.Chains.{AllReach, IsAlong, IsChainOf, IsColumnTerm, IsTermOf, Reaches, constant_value, link_number, long_along, long_step, term_at}
use Rattle.kql_scalar.specs.Evaluated.{along, link_step}
use Rattle.kql_scalar.specs.Means.{IsPlaced, means}
use Rattle.kql_scalar.specs.Rows.{rows}
use Rattle.kql_scalar.specs.Stores.{number_at}
use Rattle.kql_scalar.specs.declared.chains.LongChain.{LongChain}
use Rattle.kql_scalar.specs.declared.chains.LongLink.{LongLink}
use Rattle.kql_scalar.specs.declared.chains.Term.{Term}
use Rattle.kql_scalar.specs.declared.chains.Term.TheVariants as term
use Rattle.kql_scalar.specs.declared.node.Node.{Node}
use Rattle.kql_scalar.specs.declared.node.Node.TheVariants as N
use Rattle.kql_scalar.proofs.ColumnSteps.{same-map}
use Rattle.kql_scalar.proofs.FormFacts.{cell-column, column_within}
use Rattle.kql_scalar.proofs.NodeSteps.{along-more, node-Chain, node-Literal, placed_Column}
use Rattle.kql_scalar.proofs.RowSteps.{rows_end, rows_none}
use Rattle.kql_scalar.proofs.StoreSteps.{number-stored}

-- Terms.

pub constant-term : (node : Node) (l : Lit) (t : Grid) (x : Term) → node ≡ N.Literal l → constant_value x ≡ Some l.value → IsTermOf t node x
unfolding term_at Reaches
constant-term node l t (term.Constant n) is e = record {
  values = λ i lt. ap (λ x. val (means x) t i []) is ∙ (node-Literal l t i [] ∙ cc);
  reach = tt;
}
constant-term node l t (term.Column ns) is e = absurd cc

pub constants : (t : Grid) (node : Node) (l : Lit) (o : Option Term) → node ≡ N.Literal l → IfSome o (λ x. constant_value x ≡ Some l.value) → IfSome o (IsTermOf t node)
constants t node l None is h = tt
constants t node l (Some x) is h = constant-term node l t x is h

long-number : (k : NumberKind) (o : Option ℤ) → k ≡ number.Long → number_value k o ≡ long_or_null o
long-number number.Long None e = refl
long-number number.Long (Some n) e = refl
long-number number.Moment o e = absurd cc
long-number number.Span o e = absurd cc

pub column-term : (t : Grid) (place : ℕ) (vs : List Value) (n : Numbers) → IsGrid t → vs ≡ column_at t.lines place → length vs ≡ length t.lines → place < length t.columns → values_of_numbers n ≡ vs → length n.numbers.now ≡ length vs → length n.nulls.now ≡ length n.numbers.now → n.kind ≡ number.Long → IsColumnTerm t place (term.Column n)
unfolding term_at Reaches
column-term t place vs n h is long w same count mask kind = record {
  values = λ i lt.
      cell-column t i place vs h is lt w
      ∙ (ap (λ xs. value_at xs i) (sym same) ∙ (number-stored n i mask (rw (count, long) lt) ∙ long-number n.kind (number_at n i) kind));
  reach = (count ∙ long, mask);
}

pub placed-term : (node : Node) (name : List ℕ) (place : ℕ) (t : Grid) (x : Term) → IsPlaced t.columns node → node ≡ N.Column name place → IsColumnTerm t place x → IsTermOf t node x
placed-term node name place t x h is c = record {
  values = λ i lt. placed_Column node name place t i [] h is ∙ c.values i lt;
  reach = c.reach;
}

pub ruleset term_steps = (constant-term, placed-term, column_within)

pub ruleset column_steps = (column-term)

-- Chains.

sign-long : (s : ChainSign) (a b : Option ℤ) → applied (sign_func s) (long_or_null a ∷ long_or_null b ∷ []) ≡ long_or_null (long_step s a b)
unfolding applied sign_func arithmetic argument sum difference product quotient remainder
sign-long sign.Add (Some a) (Some b) = refl
sign-long sign.Subtract (Some a) (Some b) = refl
sign-long sign.Multiply (Some a) (Some b) = refl
sign-long sign.Divide (Some a) (Some b) = refl
sign-long sign.Modulo (Some a) (Some b) = refl
sign-long sign.Add None b = refl
sign-long sign.Subtract None b = refl
sign-long sign.Multiply None b = refl
sign-long sign.Divide None b = refl
sign-long sign.Modulo None b = refl
sign-long sign.Add (Some a) None = refl
sign-long sign.Subtract (Some a) None = refl
sign-long sign.Multiply (Some a) None = refl
sign-long sign.Divide (Some a) None = refl
sign-long sign.Modulo (Some a) None = refl

reach-push : (count : ℕ) (ks : List LongLink) (k : LongLink) → AllReach count ks → Reaches count k.term → AllReach count (ks ++ k ∷ [])
unfolding AllReach
reach-push count [] k h r = (r, tt)
reach-push count (x ∷ xs) k h r = (h.0, reach-push count xs k h.1 r)

number-push : (ks : List LongLink) (k : LongLink) (i : ℕ) (n : Option ℤ) → long_along (ks ++ k ∷ []) i n ≡ long_step k.sign (long_along ks i n) (term_at k.term i)
unfolding long_along
number-push ks k i n = fold-append (link_number i) n ks (k ∷ [])

pub chain-single : (t : Grid) (n : Node) (x : Term) → IsTermOf t n x → IsChainOf t n x []
unfolding long_along AllReach
chain-single t n x h = record { values = h.values; reach = h.reach; each = tt }

pub chain-start : (t : Grid) (first : Node) (x : Term) (ks : List LongLink) → IsChainOf t first x ks → IsAlong t first [] x ks
unfolding along
chain-start t first x ks h = record { values = h.values; reach = h.reach; each = h.each }

link-long : (t : Grid) (link : ChainSign × Node) (k : LongLink) (j : ℕ) (n : Option ℤ) → j < length t.lines → link.0 ≡ k.sign → IsTermOf t link.1 k.term → link_step t j [] (long_or_null n) link ≡ long_or_null (long_step k.sign n (term_at k.term j))
link-long t link k j n below e y = rw (y.values j below, e) (sign-long k.sign n (term_at k.term j))

pub chain-more : (t : Grid) (first : Node) (links : List (ChainSign × Node)) (i : ℕ) (link : ChainSign × Node) (x : Term) (ks : List LongLink) (k : LongLink) → i < length links → link ≡ get_or links i link → IsAlong t first (take i links) x ks → link.0 ≡ k.sign → IsTermOf t link.1 k.term → IsAlong t first (take (i + 1) links) x (ks ++ k ∷ [])
chain-more t first links i link x ks k lt is h e y = record {
  values = λ j below.
      along-more links i link t j [] (val (means first) t j []) lt
      ∙ (ap (link_step t j [] (along (take i links) t j [] (val (means first) t j []))) (sym is)
      ∙ (ap (λ v. link_step t j [] v link) (h.values j below)
      ∙ (link-long t link k j (long_along ks j (term_at x j)) below e y ∙ ap long_or_null (sym (number-push ks k j (term_at x j))))));
  reach = h.reach;
  each = reach-push (length t.lines) ks k h.each y.reach;
}

pub chain-end : (t : Grid) (first : Node) (links : List (ChainSign × Node)) (i : ℕ) (x : Term) (ks : List LongLink) → length links ≤ i → IsAlong t first (take i links) x ks → IsAlong t first links x ks
chain-end t first links i x ks l h = subst (λ ls. IsAlong t first ls x ks) (take_all i links l) h

chain-node-terms : (t : Grid) (node first : Node) (links : List (ChainSign × Node)) (x : Term) (ks : List LongLink) → node ≡ N.Chain first links → IsAlong t first links x ks → IsChainOf t node x ks
chain-node-terms t node first links x ks is h = record {
  values = λ i lt. ap (λ n. val (means n) t i []) is ∙ (node-Chain first links t i [] ∙ h.values i lt);
  reach = h.reach;
  each = h.each;
}

pub chain-opened : (t : Grid) (node first left : Node) (links right : List (ChainSign × Node)) (x : Term) (ks : List LongLink) → node ≡ N.Chain first links → left ≡ first → right ≡ links → IsAlong t left right x ks → IsChainOf t node x ks
chain-opened t node first left links right x ks is e f h =
    chain-node-terms t node first links x ks is (subst (λ l. IsAlong t l links x ks) e (subst (λ r. IsAlong t left r x ks) f h))

pub chains-opened : {E : Type 0} (t : Grid) (node first left : Node) (links right : List (ChainSign × Node)) (r : Result (Option LongChain) E) → node ≡ N.Chain first links → left ≡ first → right ≡ links
    → IfOk r (λ o. IfSome o (λ c. IsAlong t left right c.first c.terms.items)) → IfOk r (λ o. IfSome o (λ c. IsChainOf t node c.first c.terms.items))
chains-opened t node first left links right (Err e) is f g h = tt
chains-opened t node first left links right (Ok None) is f g h = tt
chains-opened t node first left links right (Ok (Some c)) is f g h = chain-opened t node first left links right c.first c.terms.items is f g h

pub ruleset link_steps = (chain-end)

-- The parts of links that reach.

pub reach-at : (count : ℕ) (ks : List LongLink) (i : ℕ) (d : LongLink) → AllReach count ks → i < length ks → Reaches count (get_or ks i d).term
unfolding AllReach
reach-at count [] i d h l = absurd (omega arith)
reach-at count (x ∷ xs) zero d h l = h.0
reach-at count (x ∷ xs) (suc i) d h l = reach-at count xs i d h.1 (omega arith)

pub number-none : (i : ℕ) (n : Option ℤ) → long_along [] i n ≡ n
unfolding long_along
number-none i n = refl

pub number-more : (ks : List LongLink) (k : ℕ) (d : LongLink) (i : ℕ) (n : Option ℤ) → k < length ks → long_step (get_or ks k d).sign (long_along (take k ks) i n) (term_at (get_or ks k d).term i) ≡ long_along (take (k + 1) ks) i n
unfolding long_along
number-more ks k d i n lt = sym (fold_more (link_number i) n ks k d lt)

pub ruleset reach_steps = (reach-at, number-none)

-- At the rows of a range.

pub chain-reach : (t : Grid) (first : Node) (links : List (ChainSign × Node)) (x : Term) (ks : List LongLink) → IsAlong t first links x ks → Reaches (length t.lines) x
chain-reach t first links x ks h = h.reach

pub chain-each : (t : Grid) (first : Node) (links : List (ChainSign × Node)) (x : Term) (ks : List LongLink) → IsAlong t first links x ks → AllReach (length t.lines) ks
chain-each t first links x ks h = h.each

pub chain-values : (t : Grid) (first : Node) (links : List (ChainSign × Node)) (x : Term) (ks : List LongLink) (from to : ℕ) → IsAlong t first links x ks → from ≤ to → to ≤ length t.lines → map (λ i. long_or_null (long_along ks i (term_at x i))) (rows from to) ≡ map (λ i. along links t i [] (val (means first) t i [])) (rows from to)
unfolding rows
chain-values t first links x ks from to h l m =
    same-map (λ i. long_or_null (long_along ks i (term_at x i))) (λ i. along links t i [] (val (means first) t i [])) (range_with_len from (to - from)) (λ j d b.
    let below : j < to - from = subst (λ z. j < z) (length-range_with_len from (to - from)) b in
    let at : get_or (range_with_len from (to - from)) j d ≡ from + j = get_or-range_with_len from (to - from) j d below in
    let within : get_or (range_with_len from (to - from)) j d < length t.lines = rw at (omega arith) in
    sym (h.values _ within))

pub ruleset value_steps = (chain-reach, chain-each, chain-values)

pub numbers-more : (f : ℕ → Option ℤ) (from i : ℕ) → from ≤ i → map f (rows from (i + 1)) ≡ map f (rows from i) ++ f i ∷ []
unfolding rows
numbers-more f from i h =
    let on : (i + 1) - from ≡ (i - from) + 1 = omega arith in
    let at : from + (i - from) ≡ i = omega arith in
    rw on (map-range_with_len_more f from (i - from) i at)

pub numbers-none : (f : ℕ → Option ℤ) (from : ℕ) → map f (rows from from) ≡ []
numbers-none f from = rw (rows_none from) refl

numbers-long : (f : ℕ → Option ℤ) (xs : List ℕ) → map (number_value number.Long) (map f xs) ≡ map (λ i. long_or_null (f i)) xs
numbers-long f [] = refl
numbers-long f (x ∷ xs) = rw (long-number number.Long (f x) refl) (ap (λ vs. long_or_null (f x) ∷ vs) (numbers-long f xs))

pub numbers-end : (f : ℕ → Option ℤ) (from i to : ℕ) (ns : List (Option ℤ)) (vs : List Value) → to ≤ i → i ≤ to → ns ≡ map f (rows from i) → vs ≡ map (number_value number.Long) ns → vs ≡ map (λ i. long_or_null (f i)) (rows from to)
numbers-end f from i to ns vs l h is made = made ∙ (ap (map (number_value number.Long)) (is ∙ ap (map f) (rows_end from i to l h)) ∙ numbers-long f (rows from to))

pub ruleset row_steps = (numbers-none, numbers-more, numbers-end, rows_end)

pub chain-node : (node first left : Node) (links right : List (ChainSign × Node)) (t : Grid) (from to : ℕ) → node ≡ N.Chain first links → left ≡ first → right ≡ links → map (λ i. along right t i [] (val (means left) t i [])) (rows from to) ≡ map (λ i. val (means node) t i []) (rows from to)
chain-node node first left links right t from to is e f =
    same-map (λ i. along right t i [] (val (means left) t i [])) (λ i. val (means node) t i []) (rows from to) (λ k d b.
    rw (e, f) (sym (ap (λ x. val (means x) t (get_or (rows from to) k d) []) is ∙ node-Chain first links t (get_or (rows from to) k d) [])))
