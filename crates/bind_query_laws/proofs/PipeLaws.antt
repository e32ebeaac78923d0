-- Operators one after another, and plans with more operators at their end, are sound where each operator is.
use Rattle.std.proofs.Common.{◌≡◌, List, [], ◌∷◌, ◌++◌, refl, sym, ap, ◌∙◌, subst}
use Rattle.std.specs.Prelude.{Bool, true, false, Ok, Option, None, Some, fold}
use Rattle.std.specs.List.{AllByRecursion}
use Rattle.kql_cells.specs.declared.schema.Column.{Column}
use Rattle.kql_bound.specs.declared.plan.Op.{Op, fold_out-Op, out-Op}
use Rattle.kql_bound.specs.declared.plan.Op.TheFolds.{map-Op}
use Rattle.kql_bound.specs.declared.plan.Op.TheOpen.{Op-F}
use Rattle.kql_bound.specs.declared.plan.Plan.{Plan, out-Plan}
use Rattle.kql_meaning.specs.Fits.{Known as ReadKnown, OpColumns, PlanColumns, of_columns, op_columns, op_columns_step, ops_columns, outside_subqueries, plan_columns, plan_columns_step, source_columns}
use Rattle.kql_meaning.proofs.OperatorFitLaws.{after, after-none, after-some, ops-fold, ops-start, plan-out, stays-none}
use Rattle.bind_expr.specs.Outcome.{Outcome, ◌>>=◌}
use Rattle.bind_operators.specs.declared.bound.BoundOp.{BoundOp}
use Rattle.bind_operators.specs.declared.bound.BoundPlan.{BoundPlan}
use Rattle.bind_operators.specs.declared.known.Known.{Known}
use Rattle.bind_operators.specs.declared.shape.Shape.{Shape}
use Rattle.bind_query.specs.declared.bound.BoundOps.{BoundOps}
use Rattle.bind_query.specs.Pipes.{BindsOp, BindsPlan, longer, next_op, no_ops, ops_over, piped, with_op, with_ops}
use Rattle.bind_query_laws.specs.Sound.{AreColumns, IsSoundKnown, IsSoundOp, IsSoundPlan, read_known}
use Rattle.bind_query_laws.proofs.Frame.{after-ok, ok-same}
use Rattle.bind_query_laws.proofs.SourceLaws.{plan-rolled}

-- What operators and pipes are bound to is sound.
abbrev pub SoundOp : BindsOp → Type 0
SoundOp f = (known : Known) (inside : Bool) (rows : Shape) (b : BoundOp) → IsSoundKnown known → AreColumns rows.columns → f known inside rows ≡ Ok b → IsSoundOp known inside rows b

abbrev pub SoundPlan : BindsPlan → Type 0
SoundPlan f = (known : Known) (inside : Bool) (p : BoundPlan) → IsSoundKnown known → f known inside ≡ Ok p → IsSoundPlan known p

-- Operators make the columns that binding tells of those before them.
pub record IsSoundOps (known : Known) (inside : Bool) (rows : Shape) (done : BoundOps) : Type 0 where
  pub fits : ops_columns done.ops (read_known known) inside rows.columns ≡ Some done.after.columns
  pub columns : AreColumns done.after.columns

-- What fits in a subquery fits outside of one.

outside-free : (o : Option (List Column)) (cs : List Column) → outside_subqueries true o ≡ Some cs → outside_subqueries false o ≡ Some cs
unfolding outside_subqueries
outside-free o cs e = absurd cc

free-step : (y : Op-F OpColumns PlanColumns) (k : ReadKnown) (columns cs : List Column) → op_columns_step y k true columns ≡ Some cs → op_columns_step y k false columns ≡ Some cs
free-step (Op-F.Where e) k columns cs h = h
free-step (Op-F.Extend items) k columns cs h = h
free-step (Op-F.Project items) k columns cs h = h
free-step (Op-F.Take n) k columns cs h = h
free-step Op-F.Count k columns cs h = h
free-step Op-F.Serialize k columns cs h = h
free-step (Op-F.Sort keys) k columns cs h = h
free-step (Op-F.Top n keys) k columns cs h = h
free-step (Op-F.Summarize g) k columns cs h = h
free-step (Op-F.MakeSeries p) k columns cs h = h
free-step (Op-F.MvExpand x) k columns cs h = h
free-step (Op-F.Parse p) k columns cs h = h
free-step (Op-F.Join j right) k columns cs h = outside-free _ cs h
free-step (Op-F.Union inner others) k columns cs h = outside-free _ cs h
free-step (Op-F.Scan p) k columns cs h = h
free-step (Op-F.Partition c ops) k columns cs h = outside-free _ cs h

op-is : (o : Op) (k : ReadKnown) (inside : Bool) (cs : List Column) → op_columns o k inside cs ≡ op_columns_step (map-Op Op Plan OpColumns PlanColumns op_columns plan_columns (out-Op o)) k inside cs
unfolding op_columns plan_columns
op-is o k inside cs = ap (λ (f : OpColumns). f k inside cs) (fold_out-Op OpColumns PlanColumns op_columns_step plan_columns_step o)

free-op : (o : Op) (k : ReadKnown) (columns cs : List Column) → op_columns o k true columns ≡ Some cs → op_columns o k false columns ≡ Some cs
free-op o k columns cs h = op-is o k false columns ∙ free-step (map-Op Op Plan OpColumns PlanColumns op_columns plan_columns (out-Op o)) k columns cs (sym (op-is o k true columns) ∙ h)

pub free-sound : (known : Known) (inside : Bool) (rows : Shape) (b : BoundOp) → IsSoundOp known inside rows b → IsSoundOp known false rows b
free-sound known true rows b h = record { fits = free-op b.op (read_known known) rows.columns b.after.columns h.fits; columns = h.columns }
free-sound known false rows b h = h

-- Folds over lists that are put together.

fold-both : {X Y : Type 0} (f : Y → X → Y) (z : Y) (xs ys : List X) → fold f z (xs ++ ys) ≡ fold f (fold f z xs) ys
fold-both f z [] ys = refl
fold-both f z (x ∷ xs) ys = fold-both f (f z x) xs ys

pub ops-both : (xs ys : List Op) (k : ReadKnown) (inside : Bool) (cs : List Column) → ops_columns (xs ++ ys) k inside cs ≡ of_columns (ops_columns xs k inside cs) (λ ds. ops_columns ys k inside ds)
unfolding of_columns
ops-both xs ys k inside cs = ops-fold (xs ++ ys) k inside cs ∙ (fold-both (after k inside) (Some cs) xs ys ∙ (behind (fold (after k inside) (Some cs) xs) ∙ ap (λ (o : Option (List Column)). of_columns o (λ ds. ops_columns ys k inside ds)) (sym (ops-fold xs k inside cs))))
  where
    behind : (o : Option (List Column)) → fold (after k inside) o ys ≡ of_columns o (λ ds. ops_columns ys k inside ds)
    behind None = stays-none (after k inside) (after-none k inside) ys
    behind (Some ds) = sym (ops-fold ys k inside ds)

ops-one : (o : Op) (k : ReadKnown) (inside : Bool) (cs : List Column) → ops_columns (o ∷ []) k inside cs ≡ op_columns o k inside cs
ops-one o k inside cs = ops-fold (o ∷ []) k inside cs ∙ after-some k inside cs o

columns-then : (o : Option (List Column)) (cs : List Column) (f : List Column → Option (List Column)) → o ≡ Some cs → of_columns o f ≡ f cs
unfolding of_columns
columns-then o cs f e = rw e refl

-- Operators one after another.

op-more : (known : Known) (at : Bool) (rows : Shape) (done : BoundOps) (b : BoundOp) → IsSoundOps known at rows done → IsSoundOp known at done.after b → IsSoundOps known at rows (with_op done b)
op-more known at rows done b h g = record {
  fits =
      ops-both done.ops (b.op ∷ []) (read_known known) at rows.columns
      ∙ (columns-then (ops_columns done.ops (read_known known) at rows.columns) done.after.columns (λ ds. ops_columns (b.op ∷ []) (read_known known) at ds) h.fits
      ∙ (ops-one b.op (read_known known) at done.after.columns ∙ g.fits));
  columns = g.columns;
}

ops-along : (known : Known) (inside at : Bool) (rows : Shape) → IsSoundKnown known → ((before : Shape) (b : BoundOp) → IsSoundOp known inside before b → IsSoundOp known at before b) → (ops : List BindsOp) → AllByRecursion SoundOp ops → (start : Outcome BoundOps) (done : BoundOps) → ((d : BoundOps) → start ≡ Ok d → IsSoundOps known at rows d) → fold (λ before (op : BindsOp). before >>= λ d. op known inside d.after >>= λ b. Ok (with_op d b)) start ops ≡ Ok done → IsSoundOps known at rows done
ops-along known inside at rows sound turn [] all start done h e = h done e
ops-along known inside at rows sound turn (op ∷ ops) all start done h e =
    ops-along known inside at rows sound turn ops all.1 (start >>= λ d. op known inside d.after >>= λ b. Ok (with_op d b)) done
    (λ d is.
    let first = after-ok start (λ (x : BoundOps). op known inside x.after >>= λ b. Ok (with_op x b)) d is in
    let next = after-ok (op known inside first.0.after) (λ (b : BoundOp). Ok (with_op first.0 b)) d first.2 in
    let before : IsSoundOps known at rows first.0 = h first.0 first.1 in
    subst (IsSoundOps known at rows) (ok-same (with_op first.0 next.0) d next.2)
    (op-more known at rows first.0 next.0 before (turn first.0.after next.0 (all.0 known inside first.0.after next.0 sound before.columns next.1))))
    e

no-ops-sound : (known : Known) (at : Bool) (rows : Shape) → AreColumns rows.columns → IsSoundOps known at rows (no_ops rows)
unfolding no_ops
no-ops-sound known at rows names = record { fits = ops-start (read_known known) at rows.columns; columns = names }

ops-from : (known : Known) (inside at : Bool) (rows : Shape) (ops : List BindsOp) (done : BoundOps) → IsSoundKnown known → AreColumns rows.columns → ((before : Shape) (b : BoundOp) → IsSoundOp known inside before b → IsSoundOp known at before b) → AllByRecursion SoundOp ops → ops_over ops known inside rows ≡ Ok done → IsSoundOps known at rows done
unfolding ops_over next_op
ops-from known inside at rows ops done sound names turn all e =
    ops-along known inside at rows sound turn ops all (Ok (no_ops rows)) done
    (λ d is. subst (IsSoundOps known at rows) (ok-same (no_ops rows) d is) (no-ops-sound known at rows names))
    e

pub ops_sound : (known : Known) (inside : Bool) (rows : Shape) (ops : List BindsOp) (done : BoundOps) → IsSoundKnown known → AreColumns rows.columns → AllByRecursion SoundOp ops → ops_over ops known inside rows ≡ Ok done → IsSoundOps known inside rows done
ops_sound known inside rows ops done sound names all e = ops-from known inside inside rows ops done sound names (λ before b h. h) all e

-- The same outside of subqueries.
pub free_ops_sound : (known : Known) (inside : Bool) (rows : Shape) (ops : List BindsOp) (done : BoundOps) → IsSoundKnown known → AreColumns rows.columns → AllByRecursion SoundOp ops → ops_over ops known inside rows ≡ Ok done → IsSoundOps known false rows done
free_ops_sound known inside rows ops done sound names all e = ops-from known inside false rows ops done sound names (free-sound known inside) all e

-- Plans with more operators at their end.

of-both : (o : Option (List Column)) (f g : List Column → Option (List Column)) → of_columns (of_columns o f) g ≡ of_columns o (λ cs. of_columns (f cs) g)
unfolding of_columns
of-both None f g = refl
of-both (Some cs) f g = refl

longer-columns : (p : Plan) (ops : List Op) (k : ReadKnown) → plan_columns (longer p ops) k ≡ of_columns (plan_columns p k) (λ cs. ops_columns ops k false cs)
unfolding of_columns
longer-columns p ops k =
    let s : Option (List Column) = source_columns (out-Plan p).source k in
    plan-rolled (out-Plan p).source ((out-Plan p).ops ++ ops) k
    ∙ (inner s
    ∙ (sym (of-both s (λ cs. ops_columns (out-Plan p).ops k false cs) (λ cs. ops_columns ops k false cs))
    ∙ ap (λ (o : Option (List Column)). of_columns o (λ cs. ops_columns ops k false cs)) (sym (plan-out p k))))
  where
    inner : (s : Option (List Column)) → of_columns s (λ cs. ops_columns ((out-Plan p).ops ++ ops) k false cs) ≡ of_columns s (λ cs. of_columns (ops_columns (out-Plan p).ops k false cs) (λ ds. ops_columns ops k false ds))
    inner None = refl
    inner (Some cs) = ops-both (out-Plan p).ops ops k false cs

pub longer_sound : (known : Known) (p : BoundPlan) (done : BoundOps) → IsSoundPlan known p → IsSoundOps known false p.after done → IsSoundPlan known (with_ops p done)
unfolding with_ops
longer_sound known p done h g = record {
  fits = longer-columns p.plan done.ops (read_known known) ∙ (columns-then (plan_columns p.plan (read_known known)) p.after.columns (λ cs. ops_columns done.ops (read_known known) false cs) h.fits ∙ g.fits);
  columns = g.columns;
}

-- A source, and the operators over it.
pub piped_sound : (source : Outcome BoundPlan) (ops : List BindsOp) (known : Known) (inside : Bool) (p : BoundPlan) → IsSoundKnown known → ((q : BoundPlan) → source ≡ Ok q → IsSoundPlan known q) → AllByRecursion SoundOp ops → piped source ops known inside ≡ Ok p → IsSoundPlan known p
unfolding piped
piped_sound source ops known inside p sound each all e =
    let first = after-ok source (λ (q : BoundPlan). ops_over ops known inside q.after >>= λ done. Ok (with_ops q done)) p e in
    let next = after-ok (ops_over ops known inside first.0.after) (λ (done : BoundOps). Ok (with_ops first.0 done)) p first.2 in
    let here : IsSoundPlan known first.0 = each first.0 first.1 in
    subst (IsSoundPlan known) (ok-same (with_ops first.0 next.0) p next.2)
    (longer_sound known first.0 next.0 here (free_ops_sound known inside first.0.after ops next.0 sound here.columns all next.1))
