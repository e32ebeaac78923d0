-- A bound `partition` is sound, and so is a bound `union` that stands as a source.
use Rattle.std.proofs.Common.{◌≡◌, Bool, true, false, List, [], ◌∷◌, refl, ◌∙◌, subst}
use Rattle.std.specs.Prelude.{Ok}
use Rattle.std.specs.List.{AllByRecursion}
use Rattle.kql_cells.specs.declared.schema.Column.{Column}
use Rattle.kql_lexer.specs.declared.place.Place.{Place}
use Rattle.kql_bound.specs.declared.plan.Op.TheVariants as op
use Rattle.kql_meaning.specs.Expressions.{column_kind}
use Rattle.kql_meaning.specs.FittingExpressions.{has_kind, is_key}
use Rattle.kql_meaning.proofs.OperatorFitLaws.{after-some, op-Partition, ops-fold}
use Rattle.kql_syntax.specs.declared.tree.Name.{Name}
use Rattle.bind_expr.specs.Outcome.{◌>>=◌}
use Rattle.bind_operators.specs.declared.bound.BoundOp.{BoundOp}
use Rattle.bind_operators.specs.declared.bound.BoundPlan.{BoundPlan}
use Rattle.bind_operators.specs.declared.known.Known.{Known}
use Rattle.bind_operators.specs.declared.shape.Shape.{Shape}
use Rattle.bind_operators.specs.Answers.{made}
use Rattle.bind_operators.specs.Faults.{fault_if}
use Rattle.bind_groups.specs.Summarize.{distinct_column}
use Rattle.bind_query.specs.declared.bound.BoundOps.{BoundOps}
use Rattle.bind_query.specs.Partition.{partition_bound, partitioned}
use Rattle.bind_query.specs.Pipes.{BindsArg, BindsOp, UnionParts, ops_over}
use Rattle.bind_query.specs.Union.{places_of, tables_bound, union_of, union_source_bound, united, united_plan}
use Rattle.bind_query_laws.specs.Sound.{IsSoundOp, IsSoundPlan, read_known}
use Rattle.bind_query_laws.proofs.DistinctLaws.{column-is-key}
use Rattle.bind_query_laws.proofs.Frame.{after-ok, no-fault, ok-same, true-or-false, unless-ok}
use Rattle.bind_query_laws.proofs.GroupFrame.{IsKeyOf, found-column, key-kind}
use Rattle.bind_query_laws.proofs.PipeLaws.{IsSoundOps, SoundOp, free-sound, longer_sound, ops_sound}
use Rattle.bind_query_laws.proofs.UnionLaws.{SoundArg, tables-sound, united_sound}

-- Partition.

key-there : (columns : List Column) (c : Column) → IsKeyOf columns c → has_kind is_key (column_kind c.name columns) ≡ true
unfolding has_kind
key-there columns c h = rw ((found-column columns c.name c h.0).1) (key-kind c.kind h.1)

parted-sound : (operator : Place) (known : Known) (inside : Bool) (rows : Shape) (key : Column) (done : BoundOps) (b : BoundOp) → IsKeyOf rows.columns key → IsSoundOps known true rows done → partitioned operator inside key done ≡ Ok b → IsSoundOp known inside rows b
unfolding partitioned made
parted-sound operator known true rows key done b h ops is =
    let parts = unless-ok (fault_if true 416 operator) (made (op.Partition key.name done.ops) done.after.columns false) b is in
    true-or-false true refl (no-fault true 416 operator parts.0)
parted-sound operator known false rows key done b h ops is =
    let parts = unless-ok (fault_if false 416 operator) (made (op.Partition key.name done.ops) done.after.columns false) b is in
    subst (IsSoundOp known false rows) parts.1 (record {
      fits = op-Partition key.name done.ops (read_known known) rows.columns (key-there rows.columns key h) ∙ ops.fits;
      columns = ops.columns;
    })

pub partition_sound : (operator : Place) (column : Name) (ops : List BindsOp) → AllByRecursion SoundOp ops → SoundOp (partition_bound operator column ops)
unfolding partition_bound
partition_sound operator column ops all known inside rows b sound names is =
    let first = after-ok (distinct_column operator known rows column) (λ (key : Column). ops_over ops known true rows >>= λ done. partitioned operator inside key done) b is in
    let next = after-ok (ops_over ops known true rows) (λ (done : BoundOps). partitioned operator inside first.0 done) b first.2 in
    parted-sound operator known inside rows first.0 next.0 b (column-is-key operator known rows column first.0 first.1) (ops_sound known true rows ops next.0 sound names all next.1) next.2

-- Union as a source.

one-op : (known : Known) (rows : Shape) (b : BoundOp) → IsSoundOp known false rows b → IsSoundOps known false rows (record { ops = b.op ∷ []; after = b.after })
one-op known rows b h = record {
  fits = ops-fold (b.op ∷ []) (read_known known) false rows.columns ∙ (after-some (read_known known) false rows.columns b.op ∙ h.fits);
  columns = h.columns;
}

source-of : (operator : Place) (inner : Bool) (tables : List BindsArg) (known : Known) (inside : Bool) (p : BoundPlan) → AllByRecursion (SoundArg known inside) tables → union_of operator inner tables known inside ≡ Ok p → IsSoundPlan known p
unfolding united_plan
source-of operator inner [] known inside p all is = absurd cc
source-of operator inner (t ∷ ts) known inside p all is =
    let first = after-ok (t.1 known inside) (λ (first : BoundPlan). tables_bound ts known inside >>= λ others. united operator inside inner first.after (places_of ts) others >>= λ b. Ok (united_plan first b)) p is in
    let next = after-ok (tables_bound ts known inside) (λ (others : List BoundPlan). united operator inside inner first.0.after (places_of ts) others >>= λ b. Ok (united_plan first.0 b)) p first.2 in
    let last = after-ok (united operator inside inner first.0.after (places_of ts) next.0) (λ (b : BoundOp). Ok (united_plan first.0 b)) p next.2 in
    let begun : IsSoundPlan known first.0 = all.0 first.0 first.1 in
    let tables = tables-sound known inside ts next.0 all.1 next.1 in
    let made : IsSoundOp known inside first.0.after last.0 = united_sound operator known inside inner first.0.after (places_of ts) next.0 last.0 begun.columns tables.0 tables.1 last.1 in
    subst (IsSoundPlan known) (ok-same (united_plan first.0 last.0) p last.2)
    (longer_sound known first.0 (record { ops = last.0.op ∷ []; after = last.0.after }) begun (one-op known first.0.after last.0 (free-sound known inside first.0.after last.0 made)))

pub union_source_sound : (operator : Place) (u : UnionParts) (known : Known) (inside : Bool) (p : BoundPlan) → AllByRecursion (SoundArg known inside) u.1 → union_source_bound operator u known inside ≡ Ok p → IsSoundPlan known p
unfolding union_source_bound
union_source_sound operator u known inside p all is = source-of operator u.0 u.1 known inside p all is
