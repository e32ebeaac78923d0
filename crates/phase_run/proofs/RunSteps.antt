-- Operators in runs: those of the first run, and then those behind it.
use Rattle.std.proofs.Common.{◌≡◌, ◌<◌, ◌≤◌, ◌+◌, ◌-◌, ℕ, Bool, true, List, [], ◌∷◌, ◌++◌, drop, get_or, length, refl, sym, ap, ◌∙◌, subst, arith}
use Rattle.std.specs.Prelude.{None, Option, Some, fold, is_some, slice_range}
use Rattle.std.proofs.lemmas.List.{drop-drop, length-drop, take-append-drop, take_all}
use Rattle.std.proofs.lemmas.List.Sums.{fold-append}
use Rattle.kql_cells.specs.Table.{Grid}
use Rattle.kql_cells.specs.declared.schema.Column.{Column}
use Rattle.kql_bound.specs.declared.plan.Op.{Op}
use Rattle.kql_meaning.specs.Fits.{Known, ops_columns}
use Rattle.kql_meaning.specs.Plans.{World, one_after_another, op_means}
use Rattle.kql_meaning.proofs.OperatorFitLaws.{after, after-none, ops-fold, stays-none}
use Rattle.kql_meaning.proofs.PlanLaws.{ops_mean-map}
use Rattle.kql_fit_laws.proofs.OperatorLaws.{each_op_keeps}
use Rattle.kql_fit_laws.proofs.PlanRows.{ops-keep}
use Rattle.kql_fit_laws.specs.LawsOfRows.{IsTable}
use Rattle.kql_plain.specs.AtHand.{IsSo, OpsFit}
use Rattle.kql_plain.proofs.OperatorLaws.{one-more, others-fit, rest-at}
use Rattle.phase_laws.specs.Runs.{made_of}

-- What operators make is what those behind make of what the first make.
pub made-parted : (xs ys : List Op) (w : World) (t : Grid) → made_of (xs ++ ys) w t ≡ made_of ys w (made_of xs w t)
unfolding one_after_another
made-parted [] ys w t = refl
made-parted (o ∷ xs) ys w t = made-parted xs ys w (op_means o w t)

-- Where operators fit a table, the first of them do, and those behind fit what the first make.

parted : (xs ys : List Op) (w : World) (t : Grid) (k : Known) (inside : Bool) → IsSo k w → IsTable t → (o : Option (List Column)) → ops_columns xs k inside t.columns ≡ o → is_some (ops_columns (xs ++ ys) k inside t.columns) ≡ true → OpsFit xs w t × OpsFit ys w (made_of xs w t)
unfolding OpsFit
parted xs ys w t k inside s h None e f =
    let gone : ops_columns (xs ++ ys) k inside t.columns ≡ None =
    ops-fold (xs ++ ys) k inside t.columns
    ∙ (fold-append (after k inside) (Some t.columns) xs ys
    ∙ (ap (λ (b : Option (List Column)). fold (after k inside) b ys) (sym (ops-fold xs k inside t.columns) ∙ e) ∙ stays-none (after k inside) (after-none k inside) ys)) in
    let never : is_some {T = List Column} None ≡ true = sym (ap is_some gone) ∙ f in
    absurd cc
parted xs ys w t k inside s h (Some cs) e f =
    let kept = ops-keep k w inside xs (λ p m. each_op_keeps k w s.0 p) t t.columns cs (refl, h) (sym (ops-fold xs k inside t.columns) ∙ e) in
    let same = ops_mean-map xs w t in
    let columns : (made_of xs w t).columns ≡ cs = ap (λ (u : Grid). u.columns) same ∙ kept.0 in
    let behind : ops_columns (xs ++ ys) k inside t.columns ≡ ops_columns ys k inside cs =
    ops-fold (xs ++ ys) k inside t.columns
    ∙ (fold-append (after k inside) (Some t.columns) xs ys
    ∙ (ap (λ (b : Option (List Column)). fold (after k inside) b ys) (sym (ops-fold xs k inside t.columns) ∙ e) ∙ sym (ops-fold ys k inside cs))) in (
      (k, inside, s, h, ap is_some e),
      (k, inside, s, subst IsTable (sym same) kept.1, ap (λ (ds : List Column). is_some (ops_columns ys k inside ds)) columns ∙ (sym (ap is_some behind) ∙ f)),
    )

both-fit : (xs ys : List Op) (w : World) (t : Grid) → OpsFit (xs ++ ys) w t → OpsFit xs w t × OpsFit ys w (made_of xs w t)
unfolding OpsFit
both-fit xs ys w t f = parted xs ys w t f.0 f.1 f.2 f.3 (ops_columns xs f.0 f.1 t.columns) refl f.4

pub run-fits : (xs ys : List Op) (w : World) (t : Grid) → OpsFit (xs ++ ys) w t → OpsFit xs w t
run-fits xs ys w t f = (both-fit xs ys w t f).0

pub behind-fit : (xs ys : List Op) (w : World) (t : Grid) → OpsFit (xs ++ ys) w t → OpsFit ys w (made_of xs w t)
behind-fit xs ys w t f = (both-fit xs ys w t f).1

-- The run that begins at a place, and ends before another.

pub run-and-behind : {X : Type 0} (xs : List X) (begun at : ℕ) → begun ≤ at → drop begun xs ≡ slice_range xs begun at ++ drop at xs
run-and-behind xs begun at le =
    let there : begun + (at - begun) ≡ at = omega (arith, le) in
    sym (take-append-drop (at - begun) (drop begun xs))
    ∙ ap (λ zs. slice_range xs begun at ++ zs) (drop-drop (at - begun) begun xs ∙ ap (λ (n : ℕ). drop n xs) there)

pub run-to-one : {X : Type 0} (xs : List X) (begun at : ℕ) (x : X) → begun ≤ at → at < length xs → x ≡ get_or xs at x → drop begun xs ≡ slice_range xs begun at ++ x ∷ drop (at + 1) xs
run-to-one xs begun at x le lt is = run-and-behind xs begun at le ∙ ap (λ zs. slice_range xs begun at ++ zs) (rest-at xs at x lt is)

-- Past an operator that holds plans.

pub held-fits : (ops run : List Op) (begun at : ℕ) (o : Op) (w : World) (t before : Grid) → begun ≤ at → at < length ops → o ≡ get_or ops at o → run ≡ slice_range ops begun at → OpsFit (drop begun ops) w t → before ≡ made_of run w t → OpsFit (o ∷ drop (at + 1) ops) w before
held-fits ops run begun at o w t before le lt is same f made =
    subst (OpsFit (o ∷ drop (at + 1) ops) w) (sym (made ∙ ap (λ (os : List Op). made_of os w t) same))
    (behind-fit (slice_range ops begun at) (o ∷ drop (at + 1) ops) w t (subst (λ (os : List Op). OpsFit os w t) (run-to-one ops begun at o le lt is) f))

pub held-done : (ops run : List Op) (begun at : ℕ) (o : Op) (w : World) (t before all : Grid) → begun ≤ at → at < length ops → o ≡ get_or ops at o → run ≡ slice_range ops begun at → before ≡ made_of run w t → made_of (drop begun ops) w t ≡ all → made_of (o ∷ drop (at + 1) ops) w before ≡ all
held-done ops run begun at o w t before all le lt is same made rest =
    ap (made_of (o ∷ drop (at + 1) ops) w) (made ∙ ap (λ (os : List Op). made_of os w t) same)
    ∙ (sym (made-parted (slice_range ops begun at) (o ∷ drop (at + 1) ops) w t)
    ∙ (sym (ap (λ (os : List Op). made_of os w t) (run-to-one ops begun at o le lt is)) ∙ rest))

pub run-of-rest-fits : (ops run : List Op) (begun at : ℕ) (w : World) (t : Grid) → begun ≤ at → run ≡ slice_range ops begun at → OpsFit (drop begun ops) w t → OpsFit run w t
run-of-rest-fits ops run begun at w t le same f =
    subst (λ (os : List Op). OpsFit os w t) (sym same)
    (run-fits (slice_range ops begun at) (drop at ops) w t (subst (λ (os : List Op). OpsFit os w t) (run-and-behind ops begun at le) f))

pub held-step-fits : (ops : List Op) (begun at next : ℕ) (o : Op) (w : World) (t before made : Grid) → begun ≤ at → at < length ops → o ≡ get_or ops at o → OpsFit (drop begun ops) w t → before ≡ made_of (slice_range ops begun at) w t → made ≡ op_means o w before → next ≡ at + 1 → OpsFit (drop next ops) w made
held-step-fits ops begun at next o w t before made le lt is f first one up =
    let held = held-fits ops (slice_range ops begun at) begun at o w t before le lt is refl f first in
    subst (λ (n : ℕ). OpsFit (drop n ops) w made) (sym up) (subst (OpsFit (drop (at + 1) ops) w) (sym one) (others-fit o (drop (at + 1) ops) w before held))

pub held-step-done : (ops : List Op) (begun at next : ℕ) (o : Op) (w : World) (t before made all : Grid) → begun ≤ at → at < length ops → o ≡ get_or ops at o → before ≡ made_of (slice_range ops begun at) w t → made ≡ op_means o w before → next ≡ at + 1 → made_of (drop begun ops) w t ≡ all → made_of (drop next ops) w made ≡ all
held-step-done ops begun at next o w t before made all le lt is first one up rest =
    ap (λ (n : ℕ). made_of (drop n ops) w made) up
    ∙ (ap (made_of (drop (at + 1) ops) w) one
    ∙ (sym (one-more o (drop (at + 1) ops) w before) ∙ held-done ops (slice_range ops begun at) begun at o w t before all le lt is refl first rest))

-- The last run.

pub run-to-end : {X : Type 0} (xs : List X) (begun : ℕ) → slice_range xs begun (length xs) ≡ drop begun xs
run-to-end xs begun = take_all (length xs - begun) (drop begun xs) (omega (arith, length-drop begun xs))

pub last-fits : (ops : List Op) (begun : ℕ) (w : World) (t : Grid) → OpsFit (drop begun ops) w t → OpsFit (slice_range ops begun (length ops)) w t
last-fits ops begun w t f = subst (λ (os : List Op). OpsFit os w t) (sym (run-to-end ops begun)) f

pub last-done : (ops : List Op) (begun : ℕ) (w : World) (t made all : Grid) → made ≡ made_of (slice_range ops begun (length ops)) w t → made_of (drop begun ops) w t ≡ all → made ≡ all
last-done ops begun w t made all is rest = is ∙ (ap (λ (os : List Op). made_of os w t) (run-to-end ops begun) ∙ rest)
