-- Where operators in a plan are replaced by what they become, the plan keeps its columns and its meaning.
use Rattle.std.proofs.Common.{◌≡◌, Bool, false, List, [], ◌∷◌, ◌++◌, refl, sym, ap, ◌∙◌, subst}
use Rattle.std.specs.Prelude.{Option, None, Some, fold, option_and_then}
use Rattle.kql_cells.specs.Table.{Grid}
use Rattle.kql_cells.specs.declared.schema.Column.{Column}
use Rattle.kql_bound.specs.declared.plan.Op.{Op}
use Rattle.kql_bound.specs.declared.plan.Plan.{Plan}
use Rattle.kql_meaning.specs.Fits.{Known, of_columns, op_columns, ops_columns, plan_columns, source_columns}
use Rattle.kql_meaning.specs.Plans.{World, op_means, plan_means, source_table}
use Rattle.kql_meaning.proofs.PlanLaws.{plan_means-out}
use Rattle.kql_meaning.proofs.OperatorFitLaws.{after, after-some, ops-fold, plan-out, stays-none}
use Rattle.kql_meaning.proofs.OperatorFitLaws.{after-none}
use Rattle.kql_fit_laws.specs.LawsOfOperators.{EachOpKeeps, EachSourceKeeps}
use Rattle.kql_fit_laws.specs.LawsOfPrograms.{Stands}
use Rattle.kql_fit_laws.specs.LawsOfRows.{IsTableOf}
use Rattle.plan_rules.specs.Becomes.{Becomes, PlanBecomes, ops_mean}

pub becomes-same : (k : Known) (inside : Bool) (cs : List Column) (xs : List Op) → Becomes k inside cs xs xs
becomes-same k inside cs xs = record { keeps = λ ds e. (e, λ w t s h. refl) }

pub becomes-then : (k : Known) (inside : Bool) (cs : List Column) (xs ys zs : List Op) → Becomes k inside cs xs ys → Becomes k inside cs ys zs → Becomes k inside cs xs zs
becomes-then k inside cs xs ys zs a b = record {
  keeps = λ ds e.
      let p = a.keeps ds e in
      let q = b.keeps ds p.0 in
      (q.0, λ w t s h. q.1 w t s h ∙ p.1 w t s h);
}

fold-append : {X Y : Type 0} (f : Y → X → Y) (z : Y) (xs ys : List X) → fold f z (xs ++ ys) ≡ fold f (fold f z xs) ys
fold-append f z [] ys = refl
fold-append f z (x ∷ xs) ys = fold-append f (f z x) xs ys

pub lost : (k : Known) (inside : Bool) (ys : List Op) (cs : List Column) → fold (after k inside) None ys ≡ Some cs → None ≡ Some cs
lost k inside ys cs e = sym (stays-none (after k inside) (after-none k inside) ys) ∙ e

-- What follows.

pub columns-append : (xs ys : List Op) (k : Known) (inside : Bool) (cs : List Column) → ops_columns (xs ++ ys) k inside cs ≡ fold (after k inside) (ops_columns xs k inside cs) ys
columns-append xs ys k inside cs = ops-fold (xs ++ ys) k inside cs ∙ (fold-append (after k inside) (Some cs) xs ys ∙ ap (λ z. fold (after k inside) z ys) (sym (ops-fold xs k inside cs)))

append-next : (k : Known) (inside : Bool) (cs : List Column) (xs ys behind : List Op) → Becomes k inside cs xs ys → (ds : List Column) (o : Option (List Column)) → ops_columns xs k inside cs ≡ o → fold (after k inside) o behind ≡ Some ds → (ops_columns (ys ++ behind) k inside cs ≡ Some ds) × ((w : World) (t : Grid) → Stands k w → IsTableOf cs t → ops_mean (ys ++ behind) w t ≡ ops_mean (xs ++ behind) w t)
append-next k inside cs xs ys behind a ds None e f = let none = lost k inside behind ds f in cc
append-next k inside cs xs ys behind a ds (Some mid) e f =
    let p = a.keeps mid e in (
      columns-append ys behind k inside cs ∙ (ap (λ z. fold (after k inside) z behind) p.0 ∙ f),
      λ w t s h.
          let run = λ (before : Grid) (op : Op). op_means op w before in
          fold-append run t ys behind ∙ (ap (λ u. fold run u behind) (p.1 w t s h) ∙ sym (fold-append run t xs behind)),
    )

pub becomes-append : (k : Known) (inside : Bool) (cs : List Column) (xs ys behind : List Op) → Becomes k inside cs xs ys → Becomes k inside cs (xs ++ behind) (ys ++ behind)
becomes-append k inside cs xs ys behind a = record {
  keeps = λ ds e. append-next k inside cs xs ys behind a ds (ops_columns xs k inside cs) refl (sym (columns-append xs behind k inside cs) ∙ e);
}

-- What stands before.

pub columns-cons : (o : Op) (xs : List Op) (k : Known) (inside : Bool) (cs : List Column) → ops_columns (o ∷ xs) k inside cs ≡ fold (after k inside) (op_columns o k inside cs) xs
columns-cons o xs k inside cs = ops-fold (o ∷ xs) k inside cs ∙ ap (λ z. fold (after k inside) z xs) (after-some k inside cs o)

pub columns-next : (o : Op) (xs : List Op) (k : Known) (inside : Bool) (cs mid : List Column) → op_columns o k inside cs ≡ Some mid → ops_columns (o ∷ xs) k inside cs ≡ ops_columns xs k inside mid
columns-next o xs k inside cs mid e = columns-cons o xs k inside cs ∙ (ap (λ z. fold (after k inside) z xs) e ∙ sym (ops-fold xs k inside mid))

-- The columns before what stands behind the first operator.
pub becomes-cons : EachOpKeeps → (k : Known) (inside : Bool) (cs mid : List Column) (o : Op) (xs ys : List Op) → op_columns o k inside cs ≡ Some mid → Becomes k inside mid xs ys → Becomes k inside cs (o ∷ xs) (o ∷ ys)
becomes-cons each k inside cs mid o xs ys e a = record {
  keeps = λ ds f.
      let p = a.keeps ds (sym (columns-next o xs k inside cs mid e) ∙ f) in (
        columns-next o ys k inside cs mid e ∙ p.0,
        λ w t s h. p.1 w (op_means o w t) s (each k w s o inside t mid h.1 (ap (λ c. op_columns o k inside c) h.0 ∙ e)),
      );
}

-- Operators within others.
behind-next : EachOpKeeps → (k : Known) (inside : Bool) (cs mid : List Column) (o : Op) (os xs ys : List Op) → ((c : List Column) → ops_columns os k inside c ≡ Some mid → Becomes k inside c (os ++ xs) (os ++ ys)) → (m : Option (List Column)) → op_columns o k inside cs ≡ m → fold (after k inside) m os ≡ Some mid → Becomes k inside cs (o ∷ (os ++ xs)) (o ∷ (os ++ ys))
behind-next each k inside cs mid o os xs ys rest None f g = let none = lost k inside os mid g in absurd cc
behind-next each k inside cs mid o os xs ys rest (Some c) f g = becomes-cons each k inside cs c o (os ++ xs) (os ++ ys) f (rest c (ops-fold os k inside c ∙ g))

pub becomes-behind : EachOpKeeps → (k : Known) (inside : Bool) (cs mid : List Column) (before xs ys : List Op) → ops_columns before k inside cs ≡ Some mid → Becomes k inside mid xs ys → Becomes k inside cs (before ++ xs) (before ++ ys)
becomes-behind each k inside cs mid [] xs ys e a =
    let s : Some cs ≡ Some mid = sym (ops-fold [] k inside cs) ∙ e in
    let same : cs ≡ mid = cc in
    subst (λ c. Becomes k inside c xs ys) (sym same) a
becomes-behind each k inside cs mid (o ∷ os) xs ys e a = behind-next each k inside cs mid o os xs ys (λ c g. becomes-behind each k inside c mid os xs ys g a) (op_columns o k inside cs) refl (sym (columns-cons o os k inside cs) ∙ e)

-- Plans.

plan-next : EachSourceKeeps → (k : Known) (p q : Plan) → p.source ≡ q.source → ((cs : List Column) → source_columns p.source k ≡ Some cs → Becomes k false cs p.ops q.ops) → (ds : List Column) (o : Option (List Column)) → source_columns p.source k ≡ o → of_columns o (λ cs. ops_columns p.ops k false cs) ≡ Some ds → (plan_columns q k ≡ Some ds) × ((w : World) → Stands k w → plan_means q w ≡ plan_means p w)
unfolding of_columns
plan-next each k p q same a ds None e f = cc
plan-next each k p q same a ds (Some cs) e f =
    let r = (a cs e).keeps ds f in
    let there : source_columns q.source k ≡ Some cs = ap (λ x. source_columns x k) (sym same) ∙ e in (
      plan-out q k ∙ (ap (λ z. option_and_then (λ cs. ops_columns q.ops k false cs) z) there ∙ r.0),
      λ w s. plan_means-out q w ∙ (ap (λ x. ops_mean q.ops w (source_table x w)) (sym same) ∙ (r.1 w (source_table p.source w) s (each k w s p.source cs e) ∙ sym (plan_means-out p w))),
    )

pub plan-becomes : EachSourceKeeps → (k : Known) (p q : Plan) → p.source ≡ q.source → ((cs : List Column) → source_columns p.source k ≡ Some cs → Becomes k false cs p.ops q.ops) → PlanBecomes k p q
plan-becomes each k p q same a = record {
  keeps = λ ds e. plan-next each k p q same a ds (source_columns p.source k) refl (sym (plan-out p k) ∙ e);
}
