-- The machine, one step after another.
use Rattle.std.proofs.Common.{◌≡◌, ◌++◌, ℕ, List, [], length, map, replicate, ap, sym, ◌∙◌, subst}
use Rattle.std.specs.Prelude.{None}
use Rattle.kql_cells.specs.Table.{Grid}
use Rattle.kql_cells.specs.declared.schema.Column.{Column}
use Rattle.kql_cells.specs.declared.value.Value.{Value}
use Rattle.kql_bound.specs.declared.parts.ScanPlan.{ScanPlan}
use Rattle.kql_meaning.specs.Scan.{Machine, Turn, after, machine_at_start, row_after, row_turn}
use Rattle.kql_values.specs.Grids.{HaveLength}
use Rattle.scan_ops.specs.Runs.{AreStates, IsRun, machine_of, width_of}
use Rattle.scan_ops.specs.States.{StateSeen}
use Rattle.scan_ops.specs.Steps.{PlacedStep, placed_step}
use Rattle.scan_ops.specs.declared.run.Run.{Run}
use Rattle.scan_ops.proofs.ScanFacts.{length-same}
use Rattle.scan_ops.proofs.RunFacts.{count-start, states-start, turn-start}

pub machine-start : (p : ScanPlan) (n : ℕ) (ss : List StateSeen) → n ≡ length p.steps → ss ≡ replicate n (record { size = n; held = None }) → machine_of ss 0 ≡ machine_at_start p
machine-start p n ss size is = ap (λ (turn : Turn). turn.machine) (turn-start p n ss [] size is)

-- A row is taken behind rows.

pub fed-machine : (p : ScanPlan) (t : Grid) (i : ℕ) (m : Machine) (out : List (List Value)) (new : Turn) → new ≡ row_after p t (record { machine = m; emitted = out }) i → new.machine ≡ (row_turn p t m i).machine
unfolding row_after after
fed-machine p t i m out new e = ap (λ (turn : Turn). turn.machine) e

pub fed-rows : (p : ScanPlan) (t : Grid) (i : ℕ) (m : Machine) (out : List (List Value)) (new : Turn) → new ≡ row_after p t (record { machine = m; emitted = out }) i → new.emitted ≡ out ++ (row_turn p t m i).emitted
unfolding row_after after
fed-rows p t i m out new e = ap (λ (turn : Turn). turn.emitted) e

-- What the machine is, of tables of its columns.

pub run-of : (p : ScanPlan) (cs ds : List Column) (r : Run) → ds ≡ cs → length r.states.items ≡ length p.steps → AreStates (length p.steps) (length cs) r.states.items → HaveLength (width_of p (length cs)) r.emitted → IsRun p ds r
run-of p cs ds r same count states width =
    subst (λ (xs : List Column). IsRun p xs r) (sym same) (record { count = count; states = states; width = width })

pub run-states : (p : ScanPlan) (cs ds : List Column) (r : Run) → ds ≡ cs → IsRun p ds r → AreStates (length p.steps) (length cs) r.states.items
run-states p cs ds r same h = subst (λ (xs : List Column). AreStates (length p.steps) (length xs) r.states.items) same h.states

pub run-count : (p : ScanPlan) (ds : List Column) (r : Run) → IsRun p ds r → length r.states.items ≡ length p.steps
run-count p ds r h = h.count

pub run-width : (p : ScanPlan) (cs ds : List Column) (r : Run) → ds ≡ cs → IsRun p ds r → HaveLength (width_of p (length cs)) r.emitted
run-width p cs ds r same h = subst (λ (xs : List Column). HaveLength (width_of p (length xs)) r.emitted) same h.width

pub steps-of : (p : ScanPlan) (cs ds : List Column) (ss xs : List PlacedStep) → ds ≡ cs → ss ≡ map (placed_step cs) p.steps → xs ≡ ss → xs ≡ map (placed_step ds) p.steps
steps-of p cs ds ss xs same is e = e ∙ (is ∙ ap (λ (ys : List Column). map (placed_step ys) p.steps) (sym same))

pub ruleset machine_facts = (steps-of, length-same, count-start, states-start, machine-start, fed-machine, fed-rows, run-of, run-states, run-count, run-width)
