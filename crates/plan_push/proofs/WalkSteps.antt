-- What a walk over operators goes by.
use Rattle.std.proofs.Common.{◌≡◌, ◌≤◌, ◌<◌, ◌+◌, ◌*◌, ℕ, zero, suc, Bool, true, false, List, [], ◌∷◌, ◌++◌, take, length, get_or, refl, sym, ap, ap₂, ◌∙◌, subst, arith}
use Rattle.std.specs.Prelude.{◌&&◌, ◌||◌, ◌-◌, not, fold, remove, reverse, slice_get, IsSome, None, Option, Some, is_some}
use Rattle.std.proofs.lemmas.List.{append_assoc, append-nil, length-append, length-reverse, reverse-append, reverse-reverse, take-take, take_all, take_more}
use Rattle.kql_cells.specs.declared.schema.Column.{Column}
use Rattle.kql_bound.specs.declared.plan.Op.{Op}
use Rattle.kql_meaning.specs.Fits.{Known, op_columns, ops_columns}
use Rattle.kql_meaning.proofs.OperatorFitLaws.{after, ops-fold}
use Rattle.kql_fit_laws.specs.LawsOfOperators.{EachOpKeeps}
use Rattle.plan_columns.specs.Made.{op_makes, ops_make}
use Rattle.plan_columns.proofs.MadeLaws.{op-makes, ops-none, ops-one}
use Rattle.plan_rules.proofs.Context.{becomes-then, columns-append, columns-cons, lost}
use Rattle.plan_rules.specs.Improves.{Improves}
use Rattle.plan_rules.specs.Weight.{ops_weight}
use Rattle.plan_neighbours.specs.Table.{change_rule, pair_rule, rule_at, single_rule}
use Rattle.plan_swaps.specs.Swaps.{first_some, swap_rule}
use Rattle.plan_push.proofs.PlaceSteps.{begun-back, begun-first, begun-pass, same-ends}
use Rattle.plan_push.proofs.ReadySteps.{Here, change-here, swaps-here}
use Rattle.plan_push.proofs.RuleTable.{change_rule-improves, improves-append, improves-behind, single_rule-improves, swap_rule-improves}
use Rattle.plan_push.proofs.SwapLaws.{swap-is}
use Rattle.plan_push.specs.Settled.{if_known}
use Rattle.plan_push.specs.Walk.{Back, Begun, Stepped, Turned, Walk, is_quiet, is_still, next_change, next_rule, next_swaps, pace}

-- Lists and their ends.

last-is : {A : Type 0} (xs : List A) (n : ℕ) (x : A) → slice_get xs n ≡ Some x → n ≡ length xs - 1 → xs ≡ take n xs ++ x ∷ []
last-is [] n x e l = absurd cc
last-is (a ∷ []) zero x e l = cc
last-is (a ∷ []) (suc n) x e l = absurd (omega (arith, l))
last-is (a ∷ b ∷ more) zero x e l = absurd (omega (arith, l))
last-is (a ∷ b ∷ more) (suc n) x e l = ap (λ t. a ∷ t) (last-is (b ∷ more) n x e (omega (arith, l)))

turned-end : {A : Type 0} (xs : List A) (x : A) → reverse (xs ++ x ∷ []) ≡ x ∷ reverse xs
turned-end xs x = reverse-append xs (x ∷ [])

put-turned : {A : Type 0} (xs made : List A) → reverse (xs ++ reverse made) ≡ made ++ reverse xs
put-turned xs made = reverse-append xs (reverse made) ∙ ap (λ t. t ++ reverse xs) (reverse-reverse made)

get-none : {A : Type 0} (xs : List A) (n : ℕ) → slice_get xs n ≡ None → n < length xs → ⊥
get-none [] n e lt = omega (arith, lt)
get-none (x ∷ xs) zero e lt = cc
get-none (x ∷ xs) (suc n) e lt = get-none xs n e (omega (arith, lt))

-- What is made where operators fit.

ops-makes-next : (x : Op) (xs : List Op) (k : Known) (inside : Bool) (cs ds : List Column) → ((mid : List Column) → ops_columns xs k inside mid ≡ Some ds → ops_make xs k mid ≡ ds) → (o : Option (List Column)) → op_columns x k inside cs ≡ o → fold (after k inside) o xs ≡ Some ds → ops_make (x ∷ xs) k cs ≡ ds
ops-makes-next x xs k inside cs ds rest None e f = let none = lost k inside xs ds f in absurd cc
ops-makes-next x xs k inside cs ds rest (Some mid) e f = ops-one x xs k cs ∙ (ap (λ c. ops_make xs k c) (op-makes x k inside cs mid e) ∙ rest mid (ops-fold xs k inside mid ∙ f))

ops-makes : (xs : List Op) (k : Known) (inside : Bool) (cs ds : List Column) → ops_columns xs k inside cs ≡ Some ds → ops_make xs k cs ≡ ds
ops-makes [] k inside cs ds e = ops-none k cs ∙ (let s : Some cs ≡ Some ds = sym (ops-fold [] k inside cs) ∙ e in let same : cs ≡ ds = cc in same)
ops-makes (x ∷ xs) k inside cs ds e = ops-makes-next x xs k inside cs ds (λ mid g. ops-makes xs k inside mid ds g) (op_columns x k inside cs) refl (sym (columns-cons x xs k inside cs) ∙ e)

front-next : (k : Known) (inside : Bool) (ys : List Op) (o : Option (List Column)) → IsSome (fold (after k inside) o ys) → (c : List Column) × (o ≡ Some c)
front-next k inside ys (Some c) h = (c, refl)
front-next k inside ys None h = absurd (none-here (fold (after k inside) None ys) refl h)
  where
    none-here : (r : Option (List Column)) → fold (after k inside) None ys ≡ r → IsSome r → ⊥
    none-here None e g = cc
    none-here (Some ds) e g = let none = lost k inside ys ds e in cc

-- Operators in front of others that fit fit, with the columns that they make.
front-fits : (xs ys : List Op) (k : Known) (inside : Bool) (cs : List Column) → IsSome (ops_columns (xs ++ ys) k inside cs) → ops_columns xs k inside cs ≡ Some (ops_make xs k cs)
front-fits xs ys k inside cs h =
    let r = front-next k inside ys (ops_columns xs k inside cs) (subst (λ o. IsSome o) (columns-append xs ys k inside cs) h) in
    r.1 ∙ ap (λ c. Some c) (sym (ops-makes xs k inside cs r.0 r.1))

some-is : (o : Option (List Column)) (c : List Column) → o ≡ Some c → IsSome o
some-is None c e = absurd cc
some-is (Some d) c e = refl

improved-fits : (k : Known) (inside : Bool) (cs : List Column) (xs ys : List Op) → Improves k inside cs xs ys → (o : Option (List Column)) → ops_columns xs k inside cs ≡ o → IsSome o → IsSome (ops_columns ys k inside cs)
improved-fits k inside cs xs ys a None e h = absurd cc
improved-fits k inside cs xs ys a (Some ds) e h = some-is (ops_columns ys k inside cs) ds (a.becomes.keeps ds e).0

-- Where a rule fires.

record Fired (k : Known) (inside : Bool) (cs : List Column) (front xs ys rest : List Op) : Type 0 where
  fitting : IsSome (ops_columns ((front ++ ys) ++ rest) k inside cs)
  columns : ops_make (front ++ ys) k cs ≡ ops_make (front ++ xs) k cs
  better : Improves k inside cs ((front ++ xs) ++ rest) ((front ++ ys) ++ rest)

fired : EachOpKeeps → (k : Known) (inside : Bool) (cs : List Column) (front xs ys rest : List Op) → IsSome (ops_columns ((front ++ xs) ++ rest) k inside cs) → Improves k inside (ops_make front k cs) xs ys → Fired k inside cs front xs ys rest
fired each k inside cs front xs ys rest h a =
    let both = front-fits (front ++ xs) rest k inside cs h in
    let before = front-fits front xs k inside cs (some-is (ops_columns (front ++ xs) k inside cs) (ops_make (front ++ xs) k cs) both) in
    let here = improves-behind each k inside cs (ops_make front k cs) front xs ys before a in
    let all = improves-append k inside cs (front ++ xs) (front ++ ys) rest here in
    record {
      fitting = improved-fits k inside cs ((front ++ xs) ++ rest) ((front ++ ys) ++ rest) all (ops_columns ((front ++ xs) ++ rest) k inside cs) refl h;
      columns = ops-makes (front ++ ys) k inside cs (ops_make (front ++ xs) k cs) (here.becomes.keeps (ops_make (front ++ xs) k cs) both).0;
      better = all;
    }

-- What is still.

no-rule : (k : Known) (cs : List Column) (x : Op) (xs : List Op) → single_rule cs x ≡ None → next_rule k cs x xs ≡ None → rule_at k cs (x ∷ xs) ≡ None
unfolding rule_at
no-rule k cs x [] e f = e
no-rule k cs x (y ∷ ys) e f = rw (e, f) refl

still-next : (k : Known) (inside : Bool) (cs mid : List Column) (x : Op) (xs : List Op) → op_columns x k inside cs ≡ Some mid → rule_at k cs (x ∷ xs) ≡ None → is_still (x ∷ xs) k inside cs ≡ is_still xs k inside mid
unfolding is_still
still-next k inside cs mid x xs e f = rw (e, f) refl

both-true : (a b : Bool) → (a && b) ≡ true → (a ≡ true) × (b ≡ true)
both-true true b e = (refl, e)
both-true false b e = absurd cc

pub still-rest : (k : Known) (inside : Bool) (cs mid : List Column) (x : Op) (xs : List Op) → op_columns x k inside cs ≡ Some mid → is_still (x ∷ xs) k inside cs ≡ true → is_still xs k inside mid ≡ true
unfolding is_still
still-rest k inside cs mid x xs e h =
    let r = both-true (not (is_some (rule_at k cs (x ∷ xs)))) (if_known (op_columns x k inside cs) (is_still xs k inside)) h in
    ap (λ o. if_known o (is_still xs k inside)) (sym e) ∙ r.1

is-none : (o : Option (List Op)) → not (is_some o) ≡ true → o ≡ None
is-none None g = refl
is-none (Some zs) g = absurd cc

pub still-rule : (k : Known) (inside : Bool) (cs : List Column) (x : Op) (xs : List Op) → is_still (x ∷ xs) k inside cs ≡ true → rule_at k cs (x ∷ xs) ≡ None
unfolding is_still
still-rule k inside cs x xs h = is-none (rule_at k cs (x ∷ xs)) (both-true (not (is_some (rule_at k cs (x ∷ xs)))) (if_known (op_columns x k inside cs) (is_still xs k inside)) h).0

nothing-fires : (k : Known) (inside : Bool) (cs : List Column) → is_still [] k inside cs ≡ true
unfolding is_still
nothing-fires k inside cs = refl

-- What is quiet.

quiet-none : (rest : List Op) (k : Known) (cs : List Column) → is_quiet [] rest k cs ≡ true
unfolding is_quiet
quiet-none rest k cs = refl

both-hold : (a b : Bool) → a ≡ true → b ≡ true → (a && b) ≡ true
both-hold true b e f = f
both-hold false b e f = absurd cc

not-some : (o : Option (List Op)) → o ≡ None → not (is_some o) ≡ true
not-some None e = refl
not-some (Some zs) e = absurd cc

quiet-one : (x : Op) (xs rest : List Op) (k : Known) (cs : List Column) → single_rule cs x ≡ None → next_rule k cs x (xs ++ rest) ≡ None → is_quiet xs rest k (op_makes x k cs) ≡ true → is_quiet (x ∷ xs) rest k cs ≡ true
unfolding is_quiet
quiet-one x xs rest k cs e f g =
    both-hold (not (is_some (single_rule cs x))) (not (is_some (next_rule k cs x (xs ++ rest))) && is_quiet xs rest k (op_makes x k cs)) (not-some (single_rule cs x) e)
    (both-hold (not (is_some (next_rule k cs x (xs ++ rest)))) (is_quiet xs rest k (op_makes x k cs)) (not-some (next_rule k cs x (xs ++ rest)) f) g)

quiet-parts : (x : Op) (xs rest : List Op) (k : Known) (cs : List Column) → is_quiet (x ∷ xs) rest k cs ≡ true → (single_rule cs x ≡ None) × (next_rule k cs x (xs ++ rest) ≡ None) × (is_quiet xs rest k (op_makes x k cs) ≡ true)
unfolding is_quiet
quiet-parts x xs rest k cs h =
    let a = both-true (not (is_some (single_rule cs x))) (not (is_some (next_rule k cs x (xs ++ rest))) && is_quiet xs rest k (op_makes x k cs)) h in
    let b = both-true (not (is_some (next_rule k cs x (xs ++ rest)))) (is_quiet xs rest k (op_makes x k cs)) a.1 in
    (is-none (single_rule cs x) a.0, is-none (next_rule k cs x (xs ++ rest)) b.0, b.1)

-- Of what is behind an operator the first alone counts.
next-front : (k : Known) (cs : List Column) (y : Op) (ys : List Op) (x : Op) (r s : List Op) → next_rule k cs y ((ys ++ x ∷ []) ++ r) ≡ next_rule k cs y (ys ++ x ∷ s)
next-front k cs y [] x r s = refl
next-front k cs y (z ∷ zs) x r s = refl

quiet-back : (xs : List Op) (x : Op) (r s : List Op) (k : Known) (cs : List Column) → is_quiet (xs ++ x ∷ []) r k cs ≡ true → is_quiet xs (x ∷ s) k cs ≡ true
quiet-back [] x r s k cs h = quiet-none (x ∷ s) k cs
quiet-back (y ∷ ys) x r s k cs h =
    let p = quiet-parts y (ys ++ x ∷ []) r k cs h in
    quiet-one y ys (x ∷ s) k cs p.0 (sym (next-front k cs y ys x r s) ∙ p.1) (quiet-back ys x r s k (op_makes y k cs) p.2)

quiet-pass : (xs : List Op) (x : Op) (r : List Op) (k : Known) (cs : List Column) → is_quiet xs (x ∷ r) k cs ≡ true → single_rule (ops_make xs k cs) x ≡ None → next_rule k (ops_make xs k cs) x r ≡ None → is_quiet (xs ++ x ∷ []) r k cs ≡ true
quiet-pass [] x r k cs h e f = quiet-one x [] r k cs (ap (λ c. single_rule c x) (sym (ops-none k cs)) ∙ e) (ap (λ c. next_rule k c x r) (sym (ops-none k cs)) ∙ f) (quiet-none r k (op_makes x k cs))
quiet-pass (y ∷ ys) x r k cs h e f =
    let p = quiet-parts y ys (x ∷ r) k cs h in
    let on = ops-one y ys k cs in
    quiet-one y (ys ++ x ∷ []) r k cs p.0 (next-front k cs y ys x r r ∙ p.1) (quiet-pass ys x r k (op_makes y k cs) p.2 (ap (λ c. single_rule c x) (sym on) ∙ e) (ap (λ c. next_rule k c x r) (sym on) ∙ f))

first-fits : (x : Op) (xs : List Op) (k : Known) (inside : Bool) (cs : List Column) → IsSome (ops_columns (x ∷ xs) k inside cs) → (op_columns x k inside cs ≡ Some (op_makes x k cs)) × IsSome (ops_columns xs k inside (op_makes x k cs))
first-fits x xs k inside cs h =
    let all : IsSome (fold (after k inside) (op_columns x k inside cs) xs) = subst (λ o. IsSome o) (columns-cons x xs k inside cs) h in
    let r = front-next k inside xs (op_columns x k inside cs) all in
    let first : op_columns x k inside cs ≡ Some (op_makes x k cs) = r.1 ∙ ap (λ c. Some c) (sym (op-makes x k inside cs r.0 r.1)) in
    (first, subst (λ o. IsSome o) (ap (λ o. fold (after k inside) o xs) first ∙ sym (ops-fold xs k inside (op_makes x k cs))) all)

-- Operators that are all passed are still.
quiet-still : (xs : List Op) (k : Known) (inside : Bool) (cs : List Column) → IsSome (ops_columns xs k inside cs) → is_quiet xs [] k cs ≡ true → is_still xs k inside cs ≡ true
quiet-still [] k inside cs h q = nothing-fires k inside cs
quiet-still (x ∷ xs) k inside cs h q =
    let f = first-fits x xs k inside cs h in
    let p = quiet-parts x xs [] k cs q in
    let none = no-rule k cs x xs p.0 (ap (λ t. next_rule k cs x t) (sym (append-nil xs)) ∙ p.1) in
    still-next k inside cs (op_makes x k cs) x xs f.0 none ∙ quiet-still xs k inside (op_makes x k cs) f.1 p.2

-- A step back.

pub back-none : (before : List (List Column)) (passed passed' waiting : List Op) → passed ≡ [] → passed' ≡ [] → Back before passed waiting before passed' waiting
back-none before passed passed' waiting e f =
    let same : passed' ≡ passed = f ∙ sym e in
    record {
      same = ap (λ v. v ++ reverse waiting) same;
      columns = λ k cs h. subst (λ v. Begun k cs before v) (sym same) h;
      quiet = λ k cs rest h. ap (λ v. is_quiet v (reverse waiting) k cs) f ∙ quiet-none (reverse waiting) k cs;
      slower = omega arith;
    }

pub back-one : (before before' : List (List Column)) (passed passed' waiting waiting' : List Op) (x : Op) (n : ℕ) → n ≡ length passed → passed ≡ passed' ++ x ∷ [] → waiting' ≡ waiting ++ x ∷ [] → before' ≡ take n before → Back before passed waiting before' passed' waiting'
back-one before before' passed passed' waiting waiting' x n l p w t =
    let tail : reverse waiting' ≡ x ∷ reverse waiting = ap (λ v. reverse v) w ∙ turned-end waiting x in
    record {
      same = ap (λ v. passed' ++ v) tail ∙ (sym (append_assoc passed' (x ∷ []) (reverse waiting)) ∙ ap (λ v. v ++ reverse waiting) (sym p));
      columns = λ k cs h. begun-back k cs before before' passed passed' x n p l t h;
      quiet = λ k cs rest h. ap (λ v. is_quiet passed' v k cs) tail ∙ quiet-back passed' x rest (reverse waiting) k cs (ap (λ v. is_quiet v rest k cs) (sym p) ∙ h);
      slower = let counts = ap length w in omega (arith, counts, length-append waiting (x ∷ []));
    }

-- A step, over those that wait behind the next.

-- What a rule made waits in the place of what it fired at, and the walk is one place back.
rule-step : EachOpKeeps → (k : Known) (inside : Bool) (cs : List Column) (before before' : List (List Column)) (passed passed' waiting waiting' w between xs made : List Op) → Walk k inside cs before passed waiting → reverse waiting ≡ xs ++ reverse w → length waiting ≡ length xs + length w → Improves k inside (ops_make passed k cs) xs made → between ≡ w ++ reverse made → Back before passed between before' passed' waiting' → Stepped k inside cs true passed waiting before' passed' waiting'
rule-step each k inside cs before before' passed passed' waiting waiting' w between xs made walk tail count better be back =
    let from : passed ++ reverse waiting ≡ (passed ++ xs) ++ reverse w = ap (λ t. passed ++ t) tail ∙ sym (append_assoc passed xs (reverse w)) in
    let f = fired each k inside cs passed xs made (reverse w) (subst (λ v. IsSome (ops_columns v k inside cs)) from walk.fitting) better in
    let to : passed' ++ reverse waiting' ≡ (passed ++ made) ++ reverse w = back.same ∙ (ap (λ v. passed ++ reverse v) be ∙ (ap (λ t. passed ++ t) (put-turned w made) ∙ sym (append_assoc passed made (reverse w)))) in
    let improved : Improves k inside cs (passed ++ reverse waiting) (passed' ++ reverse waiting') = subst (λ v. Improves k inside cs v (passed' ++ reverse waiting')) (sym from) (subst (λ v. Improves k inside cs ((passed ++ xs) ++ reverse w) v) (sym to) f.better) in
    let lengths = ap length be in
    record {
      walk = record {
        fitting = subst (λ v. IsSome (ops_columns v k inside cs)) (sym to) f.fitting;
        columns = back.columns k cs walk.columns;
        quiet = back.quiet k cs (reverse waiting) walk.quiet;
      };
      turned = improved;
      faster = λ some. omega (arith, improved.lighter.load, better.no_longer, back.slower, lengths, count, length-append w (reverse made), length-reverse made);
    }

pass-step : (k : Known) (inside : Bool) (cs : List Column) (before : List (List Column)) (passed passed' w : List Op) (x : Op) → Walk k inside cs before passed (w ++ x ∷ []) → single_rule (ops_make passed k cs) x ≡ None → next_rule k (ops_make passed k cs) x (reverse w) ≡ None → passed' ≡ passed ++ x ∷ [] → Stepped k inside cs false passed (w ++ x ∷ []) before passed' w
pass-step k inside cs before passed passed' w x walk one two pe =
    let tail : reverse (w ++ x ∷ []) ≡ x ∷ reverse w = turned-end w x in
    let whole : passed' ++ reverse w ≡ passed ++ reverse (w ++ x ∷ []) = ap (λ v. v ++ reverse w) pe ∙ (append_assoc passed (x ∷ []) (reverse w) ∙ ap (λ t. passed ++ t) (sym tail)) in
    let loads = ap (λ v. (ops_weight v).load) whole in
    record {
      walk = record {
        fitting = subst (λ v. IsSome (ops_columns v k inside cs)) (sym whole) walk.fitting;
        columns = begun-pass k cs before passed passed' x pe walk.columns;
        quiet = ap (λ v. is_quiet v (reverse w) k cs) pe ∙ quiet-pass passed x (reverse w) k cs (ap (λ t. is_quiet passed t k cs) (sym tail) ∙ walk.quiet) one two;
      };
      turned = whole;
      faster = λ some. omega (arith, loads, length-append w (x ∷ []));
    }

-- The same over the lists as they are at a step.

pub none-now : (k : Known) (inside : Bool) (cs : List Column) (before : List (List Column)) (passed waiting : List Op) (at : ℕ) → at ≡ length waiting - 1 → slice_get waiting at ≡ None → Walk k inside cs before passed waiting → Stepped k inside cs false passed waiting before passed waiting
none-now k inside cs before passed waiting at a e walk = record {
  walk = walk;
  turned = refl;
  faster = λ some. absurd (get-none waiting at e (omega (arith, a, some)));
}

walk-now : (k : Known) (inside : Bool) (cs now : List Column) (before mid : List (List Column)) (passed waiting : List Op) (x : Op) → Here k cs now mid passed x → Walk k inside cs before passed waiting → Walk k inside cs mid passed waiting
walk-now k inside cs now before mid passed waiting x h walk = record { fitting = walk.fitting; columns = h.begun; quiet = walk.quiet }

pub one-now : EachOpKeeps → (k : Known) (inside : Bool) (cs now : List Column) (before mid before' : List (List Column)) (passed passed' waiting waiting' between made : List Op) (at : ℕ) (x : Op) → at ≡ length waiting - 1 → slice_get waiting at ≡ Some x → single_rule now x ≡ Some made → between ≡ take at waiting ++ reverse made → Back mid passed between before' passed' waiting' → Here k cs now mid passed x → Walk k inside cs before passed waiting → Stepped k inside cs true passed waiting before' passed' waiting'
one-now each k inside cs now before mid before' passed passed' waiting waiting' between made at x a g rule be back h walk =
    let ends = last-is waiting at x g a in
    let better = single_rule-improves k inside (ops_make passed k cs) x made (sym h.single ∙ rule) in
    let count = ap length ends in
    rule-step each k inside cs mid before' passed passed' waiting waiting' (take at waiting) between (x ∷ []) made (walk-now k inside cs now before mid passed waiting x h walk) (ap (λ v. reverse v) ends ∙ turned-end (take at waiting) x) (omega (arith, count, length-append (take at waiting) (x ∷ []))) better be back

end-of : (s : List Op) (d : Op) → 0 < length s → s ≡ take (length s - 1) s ++ get_or s (length s - 1) d ∷ []
end-of s d some =
    let n : length s - 1 + 1 ≡ length s = omega (arith, some) in
    sym (take_all (length s) s (omega arith)) ∙ (ap (λ m. take m s) (sym n) ∙ take_more s (length s - 1) d (omega (arith, some)))

-- The last two that wait, where a rule fires at both.
record Ends (s : List Op) (y : Op) : Type 0 where
  parts : s ≡ take (length s - 1) s ++ y ∷ []
  first : reverse s ≡ y ∷ reverse (take (length s - 1) s)

ends-of : (a : Op) (more : List Op) → (y : Op) × Ends (a ∷ more) y
ends-of a more =
    let whole = end-of (a ∷ more) a (omega arith) in
    let y = get_or (a ∷ more) (length (a ∷ more) - 1) a in
    (y, record { parts = whole; first = ap (λ v. reverse v) whole ∙ turned-end (take (length (a ∷ more) - 1) (a ∷ more)) y })

change-ends : (k : Known) (here : List Column) (x : Op) (s made : List Op) → next_change k here x (reverse s) ≡ Some made → (y : Op) × (Ends s y) × (change_rule k here x y ≡ Some made)
change-ends k here x [] made e = absurd cc
change-ends k here x (a ∷ more) made e =
    let r = ends-of a more in
    (r.0, r.1, sym (ap (λ t. next_change k here x t) r.1.first) ∙ e)

swap-ends : (here : List Column) (x : Op) (s : List Op) → next_swaps here x (reverse s) ≡ true → (y : Op) × (Ends s y) × (is_some (swap_rule here x y) ≡ true)
swap-ends here x [] e = absurd cc
swap-ends here x (a ∷ more) e =
    let r = ends-of a more in
    (r.0, r.1, sym (ap (λ t. next_swaps here x t) r.1.first) ∙ e)

-- A rule that fired at both.
two-step : EachOpKeeps → (k : Known) (inside : Bool) (cs now : List Column) (before mid before' : List (List Column)) (passed passed' waiting waiting' between made : List Op) (at on : ℕ) (x y : Op) → waiting ≡ take at waiting ++ x ∷ [] → at ≡ length waiting - 1 → Ends (take at waiting) y → on ≡ at - 1 → Improves k inside (ops_make passed k cs) (x ∷ y ∷ []) made → between ≡ take on waiting ++ reverse made → Back mid passed between before' passed' waiting' → Here k cs now mid passed x → Walk k inside cs before passed waiting → Stepped k inside cs true passed waiting before' passed' waiting'
two-step each k inside cs now before mid before' passed passed' waiting waiting' between made at on x y ends a e oi better be back h walk =
    let s = take at waiting in
    let w = take (length s - 1) s in
    let count = ap length ends in
    let counts = ap length e.parts in
    let length_s : length s ≡ at = omega (arith, a, count, length-append s (x ∷ [])) in
    let shorter : w ≡ take on waiting = ap (λ j. take j s) (ap (λ j. j - 1) length_s ∙ sym oi) ∙ take-take on at waiting (omega (arith, oi)) in
    let tail : reverse waiting ≡ (x ∷ y ∷ []) ++ reverse w = ap (λ v. reverse v) ends ∙ (turned-end s x ∙ ap (λ t. x ∷ t) e.first) in
    rule-step each k inside cs mid before' passed passed' waiting waiting' w between (x ∷ y ∷ []) made (walk-now k inside cs now before mid passed waiting x h walk) tail (omega (arith, count, counts, length-append s (x ∷ []), length-append w (y ∷ []))) better (be ∙ ap (λ v. v ++ reverse made) (sym shorter)) back

pub change-now : EachOpKeeps → (k : Known) (inside : Bool) (cs now : List Column) (before mid before' : List (List Column)) (passed passed' waiting waiting' behind between made : List Op) (at on : ℕ) (x : Op) → at ≡ length waiting - 1 → slice_get waiting at ≡ Some x → behind ≡ take at waiting → next_change k now x (reverse behind) ≡ Some made → on ≡ at - 1 → between ≡ take on waiting ++ reverse made → Back mid passed between before' passed' waiting' → Here k cs now mid passed x → Walk k inside cs before passed waiting → Stepped k inside cs true passed waiting before' passed' waiting'
change-now each k inside cs now before mid before' passed passed' waiting waiting' behind between made at on x a g bi rule oi be back h walk =
    let r = change-ends k now x (take at waiting) made (ap (λ v. next_change k now x (reverse v)) (sym bi) ∙ rule) in
    let better = change_rule-improves k inside (ops_make passed k cs) x r.0 made (sym (h.change r.0) ∙ r.2) in
    two-step each k inside cs now before mid before' passed passed' waiting waiting' between made at on x r.0 (last-is waiting at x g a) a r.1 oi better be back h walk

some-there : (o : Option (List Op)) → is_some o ≡ true → (zs : List Op) × (o ≡ Some zs)
some-there None e = absurd cc
some-there (Some zs) e = (zs, refl)

get-behind : (w : List Op) (y : Op) (rest : List Op) → slice_get (w ++ y ∷ rest) (length w) ≡ Some y
get-behind [] y rest = refl
get-behind (o ∷ os) y rest = get-behind os y rest

remove-behind : (w : List Op) (y : Op) (rest : List Op) → remove (w ++ y ∷ rest) (length w) ≡ w ++ rest
remove-behind [] y rest = refl
remove-behind (o ∷ os) y rest = ap (λ t. o ∷ t) (remove-behind os y rest)

-- The one before the last, put behind it.
turned-two : (w waiting between : List Op) (x y : Op) (on : ℕ) → waiting ≡ (w ++ y ∷ []) ++ x ∷ [] → on ≡ length w → ((v : Op) → slice_get waiting on ≡ Some v → between ≡ remove waiting on ++ v ∷ []) → between ≡ w ++ x ∷ y ∷ []
turned-two w waiting between x y on e l put =
    let whole : waiting ≡ w ++ y ∷ x ∷ [] = e ∙ append_assoc w (y ∷ []) (x ∷ []) in
    let there : slice_get waiting on ≡ Some y = ap₂ (λ (v : List Op) m. slice_get v m) whole l ∙ get-behind w y (x ∷ []) in
    let rest : remove waiting on ≡ w ++ x ∷ [] = ap₂ (λ (v : List Op) m. remove v m) whole l ∙ remove-behind w y (x ∷ []) in
    put y there ∙ (ap (λ v. v ++ y ∷ []) rest ∙ append_assoc w (x ∷ []) (y ∷ []))

pub swap-now : EachOpKeeps → (k : Known) (inside : Bool) (cs now : List Column) (before mid before' : List (List Column)) (passed passed' waiting waiting' behind between : List Op) (at on : ℕ) (x : Op) → at ≡ length waiting - 1 → slice_get waiting at ≡ Some x → behind ≡ take at waiting → next_swaps now x (reverse behind) ≡ true → on ≡ at - 1 → ((y : Op) → slice_get waiting on ≡ Some y → between ≡ remove waiting on ++ y ∷ []) → Back mid passed between before' passed' waiting' → Here k cs now mid passed x → Walk k inside cs before passed waiting → Stepped k inside cs true passed waiting before' passed' waiting'
swap-now each k inside cs now before mid before' passed passed' waiting waiting' behind between at on x a g bi rule oi put back h walk =
    let s = take at waiting in
    let r = swap-ends now x s (ap (λ v. next_swaps now x (reverse v)) (sym bi) ∙ rule) in
    let z = some-there (swap_rule now x r.0) r.2 in
    let fires : swap_rule (ops_make passed k cs) x r.0 ≡ Some z.0 = sym (h.swaps r.0) ∙ z.1 in
    let same = swap-is (ops_make passed k cs) x r.0 z.0 fires in
    let better = swap_rule-improves k inside (ops_make passed k cs) x r.0 (r.0 ∷ x ∷ []) (fires ∙ ap (λ v. Some v) same) in
    let ends = last-is waiting at x g a in
    let w = take (length s - 1) s in
    let count = ap length ends in
    let counts = ap length r.1.parts in
    let length_s : length s ≡ at = omega (arith, a, count, length-append s (x ∷ [])) in
    let length_w : on ≡ length w = omega (arith, oi, length_s, counts, length-append w (r.0 ∷ [])) in
    let shorter : w ≡ take on waiting = ap (λ j. take j s) (ap (λ j. j - 1) length_s ∙ sym oi) ∙ take-take on at waiting (omega (arith, oi)) in
    let put_there = turned-two w waiting between x r.0 on (ends ∙ ap (λ v. v ++ x ∷ []) r.1.parts) length_w put in
    two-step each k inside cs now before mid before' passed passed' waiting waiting' between (r.0 ∷ x ∷ []) at on x r.0 ends a r.1 oi better (put_there ∙ ap (λ v. v ++ x ∷ r.0 ∷ []) shorter) back h walk

none-some : (o : Option (List Op)) → is_some o ≡ false → o ≡ None
none-some None e = refl
none-some (Some zs) e = absurd cc

next-quiet : (k : Known) (cs : List Column) (x : Op) (r : List Op) → next_swaps cs x r ≡ false → next_change k cs x r ≡ None → next_rule k cs x r ≡ None
unfolding pair_rule
next-quiet k cs x [] e f = refl
next-quiet k cs x (y ∷ ys) e f = ap₂ (λ a b. first_some a b) (none-some (swap_rule cs x y) e) f

pub pass-now : (k : Known) (inside : Bool) (cs now : List Column) (before mid : List (List Column)) (passed passed' waiting waiting' behind : List Op) (at : ℕ) (x last : Op) → at ≡ length waiting - 1 → slice_get waiting at ≡ Some x → behind ≡ take at waiting → single_rule now x ≡ None → next_swaps now x (reverse behind) ≡ false → next_change k now x (reverse behind) ≡ None → waiting ≡ waiting' ++ last ∷ [] → passed' ≡ passed ++ last ∷ [] → Here k cs now mid passed x → Walk k inside cs before passed waiting → Stepped k inside cs false passed waiting mid passed' waiting'
pass-now k inside cs now before mid passed passed' waiting waiting' behind at x last a g bi one two three we pe h walk =
    let ends = last-is waiting at x g a in
    let same = same-ends (take at waiting) waiting' x last (sym ends ∙ we) in
    let whole : waiting ≡ waiting' ++ x ∷ [] = ends ∙ ap (λ v. v ++ x ∷ []) same.0 in
    let turned : reverse waiting' ≡ reverse behind = ap (λ v. reverse v) (sym (bi ∙ same.0)) in
    let quiet = next-quiet k (ops_make passed k cs) x (reverse behind) (sym (swaps-here k cs now mid passed x (reverse behind) h) ∙ two) (sym (change-here k cs now mid passed x (reverse behind) h) ∙ three) in
    subst (λ v. Stepped k inside cs false passed v mid passed' waiting') (sym whole)
    (pass-step k inside cs mid passed passed' waiting' x (subst (λ v. Walk k inside cs mid passed v) whole (walk-now k inside cs now before mid passed waiting x h walk)) (sym h.single ∙ one) (ap (λ t. next_rule k (ops_make passed k cs) x t) turned ∙ quiet) (pe ∙ ap (λ o. passed ++ o ∷ []) (sym same.1)))

pub never-empty : (w : List Op) (at : ℕ) (x : Op) → slice_get w at ≡ Some x → w ≡ [] → ⊥
never-empty [] at x g e = cc
never-empty (o ∷ os) at x g e = cc

-- The last of a stack is the first of the list that it is.
pub last-turned : (s : List Op) (y : Op) → 0 < length s → y ≡ get_or s (length s - 1) y → reverse s ≡ y ∷ reverse (take (length s - 1) s)
last-turned s y some e =
    let n : length s - 1 + 1 ≡ length s = omega (arith, some) in
    let whole : take (length s - 1) s ++ y ∷ [] ≡ s = ap (λ o. take (length s - 1) s ++ o ∷ []) e ∙ (sym (take_more s (length s - 1) y (omega (arith, some))) ∙ (ap (λ m. take m s) n ∙ take_all (length s) s (omega arith))) in
    ap reverse (sym whole) ∙ turned-end (take (length s - 1) s) y

pub swaps-none : (cs : List Column) (x : Op) (s : List Op) → s ≡ [] → next_swaps cs x (reverse s) ≡ false
swaps-none cs x s e = ap (λ v. next_swaps cs x (reverse v)) e

pub swaps-last : (cs : List Column) (x y : Op) (s : List Op) → 0 < length s → y ≡ get_or s (length s - 1) y → next_swaps cs x (reverse s) ≡ is_some (swap_rule cs x y)
swaps-last cs x y s some e = ap (λ t. next_swaps cs x t) (last-turned s y some e)

pub ruleset swaps_steps = (swaps-none, swaps-last)

pub change-none : (k : Known) (cs : List Column) (x : Op) (s : List Op) → s ≡ [] → next_change k cs x (reverse s) ≡ None
change-none k cs x s e = ap (λ v. next_change k cs x (reverse v)) e

pub change-last : (k : Known) (cs : List Column) (x y : Op) (s : List Op) → 0 < length s → y ≡ get_or s (length s - 1) y → next_change k cs x (reverse s) ≡ change_rule k cs x y
change-last k cs x y s some e = ap (λ t. next_change k cs x t) (last-turned s y some e)

pub ruleset change_steps = (change-none, change-last)

-- The loop.

pub improves-then : (k : Known) (inside : Bool) (cs : List Column) (xs ys zs : List Op) → Improves k inside cs xs ys → Improves k inside cs ys zs → Improves k inside cs xs zs
improves-then k inside cs xs ys zs a b = record {
  becomes = becomes-then k inside cs xs ys zs a.becomes b.becomes;
  lighter = record { movers = omega (arith, a.lighter.movers, b.lighter.movers); others = omega (arith, a.lighter.others, b.lighter.others); load = omega (arith, a.lighter.load, b.lighter.load) };
  no_longer = omega (arith, a.no_longer, b.no_longer);
  no_larger = omega (arith, a.no_larger, b.no_larger);
}

pub turned-then : (k : Known) (inside : Bool) (cs : List Column) (changed : Bool) (xs ys zs : List Op) → Turned changed k inside cs xs ys → Improves k inside cs ys zs → Improves k inside cs xs zs
turned-then k inside cs true xs ys zs a b = improves-then k inside cs xs ys zs a b
turned-then k inside cs false xs ys zs a b = subst (λ v. Improves k inside cs v zs) a b

pub record Walked (k : Known) (inside : Bool) (cs : List Column) (ops : List Op) (before : List (List Column)) (passed waiting : List Op) (changed : Bool) : Type 0 where
  pub walk : Walk k inside cs before passed waiting
  pub turned : Turned changed k inside cs ops (passed ++ reverse waiting)

pub walked-first : (k : Known) (inside : Bool) (cs here : List Column) (ops : List Op) (none before : List (List Column)) (passed nothing copied waiting : List Op) → here ≡ cs → none ≡ [] → before ≡ none ++ here ∷ [] → passed ≡ [] → nothing ≡ [] → copied ≡ nothing ++ ops → waiting ≡ reverse copied → IsSome (ops_columns ops k inside cs) → Walked k inside cs ops before passed waiting false
walked-first k inside cs here ops none before passed nothing copied waiting e n be pe ne ce we h =
    let all : reverse waiting ≡ ops = ap (λ v. reverse v) we ∙ (reverse-reverse copied ∙ (ce ∙ ap (λ v. v ++ ops) ne)) in
    let whole : passed ++ reverse waiting ≡ ops = ap₂ (λ v t. v ++ t) pe all in
    record {
      walk = record {
        fitting = subst (λ v. IsSome (ops_columns v k inside cs)) (sym whole) h;
        columns = begun-first k cs here none before passed e n be pe;
        quiet = ap (λ v. is_quiet v (reverse waiting) k cs) pe ∙ quiet-none (reverse waiting) k cs;
      };
      turned = whole;
    }

or-true : (a : Bool) → (a || true) ≡ true
or-true true = refl
or-true false = refl

or-false : (a : Bool) → (a || false) ≡ a
or-false true = refl
or-false false = refl

pub walked-turn : (k : Known) (inside : Bool) (cs : List Column) (ops : List Op) (b b' : List (List Column)) (p p' w w' : List Op) (changed changed' fired : Bool) → Walked k inside cs ops b p w changed → Stepped k inside cs fired p w b' p' w' → changed' ≡ (changed || fired) → Walked k inside cs ops b' p' w' changed'
walked-turn k inside cs ops b b' p p' w w' changed changed' true a h e = subst (λ c. Walked k inside cs ops b' p' w' c) (sym (e ∙ or-true changed)) (record { walk = h.walk; turned = turned-then k inside cs changed ops (p ++ reverse w) (p' ++ reverse w') a.turned h.turned })
walked-turn k inside cs ops b b' p p' w w' changed changed' false a h e = subst (λ c. Walked k inside cs ops b' p' w' c) (sym (e ∙ or-false changed)) (record { walk = h.walk; turned = subst (λ v. Turned changed k inside cs ops v) (sym h.turned) a.turned })

pub walked-better : (k : Known) (inside : Bool) (cs : List Column) (ops : List Op) (b : List (List Column)) (p w : List Op) (changed : Bool) → Walked k inside cs ops b p w changed → w ≡ [] → changed ≡ true → Improves k inside cs ops p
walked-better k inside cs ops b p w false a e c = absurd cc
walked-better k inside cs ops b p w true a e c = subst (λ v. Improves k inside cs ops v) (ap (λ v. p ++ reverse v) e ∙ append-nil p) a.turned

pub walked-same : (k : Known) (inside : Bool) (cs : List Column) (ops : List Op) (b : List (List Column)) (p w : List Op) (changed : Bool) → Walked k inside cs ops b p w changed → w ≡ [] → changed ≡ false → is_still ops k inside cs ≡ true
walked-same k inside cs ops b p w true a e c = absurd cc
walked-same k inside cs ops b p w false a e c =
    let whole : p ++ reverse w ≡ p = ap (λ v. p ++ reverse v) e ∙ append-nil p in
    let all : p ≡ ops = sym whole ∙ a.turned in
    let fits : IsSome (ops_columns p k inside cs) = subst (λ v. IsSome (ops_columns v k inside cs)) whole a.walk.fitting in
    let quiet : is_quiet p [] k cs ≡ true = ap (λ v. is_quiet p (reverse v) k cs) (sym e) ∙ a.walk.quiet in
    ap (λ v. is_still v k inside cs) (sym all) ∙ quiet-still p k inside cs fits quiet
