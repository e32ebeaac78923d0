-- What one turn over the operators keeps, in which one of them may become another.
use Rattle.std.proofs.Common.{◌≡◌, ◌≤◌, ◌<◌, ◌+◌, ℕ, zero, suc, Bool, true, false, List, [], ◌∷◌, ◌++◌, take, drop, length, get_or, refl, sym, ap, ap₂, ◌∙◌, subst, arith, rules}
use Rattle.std.specs.Prelude.{◌||◌, fold, Option, None, Some, is_some, unwrap_or}
use Rattle.std.proofs.lemmas.List.{append_assoc, append-nil, drop_all}
use Rattle.kql_cells.specs.declared.schema.Column.{Column}
use Rattle.kql_bound.specs.declared.plan.Op.{Op}
use Rattle.kql_meaning.specs.Fits.{Known, op_columns, ops_columns}
use Rattle.kql_meaning.proofs.OperatorFitLaws.{after, after-some, ops-fold, ops-start}
use Rattle.kql_fit_laws.specs.LawsOfOperators.{EachOpKeeps}
use Rattle.plan_rules.proofs.Context.{columns-append}
use Rattle.plan_rules.specs.Improves.{Improves}
use Rattle.plan_push.proofs.DriveSteps.{OpFound, one-more, settled-end, settled-on, turn-columns, turn-still}
use Rattle.plan_push.proofs.RuleTable.{improves-append, improves-behind}
use Rattle.plan_push.proofs.WalkSteps.{turned-then}
use Rattle.plan_push.specs.Settled.{settled_op, settled_ops}
use Rattle.plan_push.specs.Walk.{Turned, is_still}

pub record Rewritten (k : Known) (inside : Bool) (cs : List Column) (ops : List Op) (i : ℕ) (before : List Column) (all : List Op) (changed : Bool) : Type 0 where
  pub columns : ops_columns (take i ops) k inside cs ≡ Some before
  pub made : ops_columns all k inside cs ≡ Some before
  pub turned : Turned changed k inside cs ops (all ++ drop i ops)
  pub settled : changed ≡ false → settled_ops ops k inside cs ≡ settled_ops (drop i ops) k inside before
  pub quiet : is_still (drop i ops) k inside before ≡ true

pub rewritten-first : (k : Known) (inside : Bool) (cs : List Column) (ops : List Op) (before : List Column) (all : List Op) → before ≡ cs → all ≡ [] → is_still ops k inside cs ≡ true → Rewritten k inside cs ops 0 before all false
rewritten-first k inside cs ops before all b a q = record {
  columns = ops-start k inside cs ∙ ap (λ c. Some c) (sym b);
  made = ap (λ os. ops_columns os k inside cs) a ∙ (ops-start k inside cs ∙ ap (λ c. Some c) (sym b));
  turned = ap (λ os. os ++ ops) a;
  settled = λ e. ap (λ c. settled_ops ops k inside c) (sym b);
  quiet = ap (λ c. is_still ops k inside c) b ∙ q;
}

one-columns : (x : Op) (k : Known) (inside : Bool) (before : List Column) → ops_columns (x ∷ []) k inside before ≡ op_columns x k inside before
one-columns x k inside before = ops-fold (x ∷ []) k inside before ∙ after-some k inside before x

end-columns : (all : List Op) (y : Op) (k : Known) (inside : Bool) (cs before mid : List Column) → ops_columns all k inside cs ≡ Some before → op_columns y k inside before ≡ Some mid → ops_columns (all ++ y ∷ []) k inside cs ≡ Some mid
end-columns all y k inside cs before mid e f = columns-append all (y ∷ []) k inside cs ∙ (ap (λ o. fold (after k inside) o (y ∷ [])) e ∙ (sym (ops-fold (y ∷ []) k inside before) ∙ (one-columns y k inside before ∙ f)))

-- The operator as it was.
rewritten-same : (k : Known) (inside : Bool) (cs : List Column) (ops : List Op) (i : ℕ) (before mid : List Column) (all all' : List Op) (changed : Bool) (x : Op) → Rewritten k inside cs ops i before all changed → i < length ops → x ≡ get_or ops i x → settled_op x k inside before ≡ true → op_columns x k inside before ≡ Some mid → all' ≡ all ++ x ∷ [] → Rewritten k inside cs ops (i + 1) mid all' changed
rewritten-same k inside cs ops i before mid all all' changed x r lt at s o a =
    let on : i + 1 ≡ suc i = omega arith in
    let whole : all' ++ drop (i + 1) ops ≡ all ++ drop i ops =
    ap₂ (λ v j. v ++ drop j ops) a on ∙ (append_assoc all (x ∷ []) (drop (suc i) ops) ∙ ap (λ v. all ++ v) (sym (one-more ops i x lt at))) in
    record {
      columns = turn-columns ops i x k inside cs before before mid lt at refl r.columns o;
      made = ap (λ v. ops_columns v k inside cs) a ∙ end-columns all x k inside cs before mid r.made o;
      turned = subst (λ v. Turned changed k inside cs ops v) (sym whole) r.turned;
      settled = λ e. settled-on ops i x k inside cs before mid lt at r.quiet s o (r.settled e);
      quiet = turn-still ops i x k inside before before mid lt at refl o r.quiet;
    }

-- Another in its place.
rewritten-other : EachOpKeeps → (k : Known) (inside : Bool) (cs : List Column) (ops : List Op) (i : ℕ) (before mid : List Column) (all all' : List Op) (changed : Bool) (x y : Op) → Rewritten k inside cs ops i before all changed → i < length ops → x ≡ get_or ops i x → Improves k inside before (x ∷ []) (y ∷ []) → op_columns x k inside before ≡ Some mid → all' ≡ all ++ y ∷ [] → Rewritten k inside cs ops (i + 1) mid all' true
rewritten-other each k inside cs ops i before mid all all' changed x y r lt at h o a =
    let on : i + 1 ≡ suc i = omega arith in
    let made_of : op_columns y k inside before ≡ Some mid = sym (one-columns y k inside before) ∙ (h.becomes.keeps mid (one-columns x k inside before ∙ o)).0 in
    let one = improves-append k inside before (x ∷ []) (y ∷ []) (drop (suc i) ops) h in
    let here = improves-behind each k inside cs before all (x ∷ drop (suc i) ops) (y ∷ drop (suc i) ops) r.made one in
    let whole : all ++ x ∷ drop (suc i) ops ≡ all ++ drop i ops = ap (λ v. all ++ v) (sym (one-more ops i x lt at)) in
    let next : all' ++ drop (i + 1) ops ≡ all ++ y ∷ drop (suc i) ops = ap₂ (λ v j. v ++ drop j ops) a on ∙ append_assoc all (y ∷ []) (drop (suc i) ops) in
    let better = turned-then k inside cs changed ops (all ++ drop i ops) (all ++ y ∷ drop (suc i) ops) r.turned (subst (λ v. Improves k inside cs v (all ++ y ∷ drop (suc i) ops)) whole here) in
    record {
      columns = turn-columns ops i x k inside cs before before mid lt at refl r.columns o;
      made = ap (λ v. ops_columns v k inside cs) a ∙ end-columns all y k inside cs before mid r.made made_of;
      turned = subst (λ v. Improves k inside cs ops v) (sym next) better;
      settled = λ e. absurd cc;
      quiet = turn-still ops i x k inside before before mid lt at refl o r.quiet;
    }

same-place : (xs : List Op) (j : ℕ) (u v : Op) → j < length xs → u ≡ get_or xs j u → v ≡ get_or xs j v → u ≡ v
same-place [] j u v g p q = absurd (omega arith)
same-place (z ∷ zs) zero u v g p q = p ∙ sym q
same-place (z ∷ zs) (suc j) u v g p q = same-place zs j u v (omega arith) p q

or-none : (a b : Bool) → b ≡ false → (a || b) ≡ a
or-none true b e = refl
or-none false b e = e

or-some : (a b : Bool) → b ≡ true → (a || b) ≡ true
or-some true b e = refl
or-some false b e = e

-- The calls of a turn each have a view of the element and of the columns.
pub rewritten-turn : EachOpKeeps → (k : Known) (inside : Bool) (cs : List Column) (ops : List Op) (i : ℕ) (before now1 now2 mid : List Column) (all all' : List Op) (changed fired changed' : Bool) (x y z : Op) (o : Option Op) → Rewritten k inside cs ops i before all changed → i < length ops → x ≡ get_or ops i x → y ≡ get_or ops i y → z ≡ get_or ops i z → now1 ≡ before → now2 ≡ before → OpFound x k inside now1 o → all' ≡ all ++ unwrap_or o y ∷ [] → fired ≡ is_some o → changed' ≡ (changed || fired) → op_columns z k inside now2 ≡ Some mid → Rewritten k inside cs ops (i + 1) mid all' changed'
rewritten-turn each k inside cs ops i before now1 now2 mid all all' changed fired changed' x y z None r lt at1 at2 at3 n1 n2 f a e1 e2 o =
    let yx : y ≡ x = same-place ops i y x lt at2 at1 in
    let zx : z ≡ x = same-place ops i z x lt at3 at1 in
    let same : changed' ≡ changed = e2 ∙ or-none changed fired e1 in
    subst (λ c. Rewritten k inside cs ops (i + 1) mid all' c) (sym same)
    (rewritten-same k inside cs ops i before mid all all' changed x r lt at1 (ap (λ c. settled_op x k inside c) (sym n1) ∙ f) (ap₂ (λ v c. op_columns v k inside c) (sym zx) (sym n2) ∙ o) (a ∙ ap (λ v. all ++ v ∷ []) yx))
rewritten-turn each k inside cs ops i before now1 now2 mid all all' changed fired changed' x y z (Some p) r lt at1 at2 at3 n1 n2 f a e1 e2 o =
    let zx : z ≡ x = same-place ops i z x lt at3 at1 in
    let same : changed' ≡ true = e2 ∙ or-some changed fired e1 in
    subst (λ c. Rewritten k inside cs ops (i + 1) mid all' c) (sym same)
    (rewritten-other each k inside cs ops i before mid all all' changed x p r lt at1 (subst (λ c. Improves k inside c (x ∷ []) (p ∷ [])) n1 f) (ap₂ (λ v c. op_columns v k inside c) (sym zx) (sym n2) ∙ o) a)

pub rewritten-better : (k : Known) (inside : Bool) (cs : List Column) (ops : List Op) (i : ℕ) (before : List Column) (all : List Op) (changed : Bool) → Rewritten k inside cs ops i before all changed → length ops ≤ i → changed ≡ true → Improves k inside cs ops all
rewritten-better k inside cs ops i before all false r le c = absurd cc
rewritten-better k inside cs ops i before all true r le c = subst (λ v. Improves k inside cs ops v) (ap (λ v. all ++ v) (drop_all i ops le) ∙ append-nil all) r.turned

pub rewritten-settled : (k : Known) (inside : Bool) (cs : List Column) (ops : List Op) (i : ℕ) (before : List Column) (all : List Op) (changed : Bool) → Rewritten k inside cs ops i before all changed → length ops ≤ i → changed ≡ false → settled_ops ops k inside cs ≡ true
rewritten-settled k inside cs ops i before all changed r le c = settled-end ops i k inside cs before le (r.settled c)
