-- Sources of the columns of a record.
use Rattle.std.proofs.Common.{◌≡◌, ◌<◌, ◌≤◌, ◌+◌, ◌++◌, ℕ, zero, suc, Bool, List, [], ◌∷◌, map, length, take, get_or, refl, sym, ap, ◌∙◌, subst, arith}
use Rattle.std.specs.Prelude.{All, IfSome, None, Option, Some, bytes_eq, find, slice_get}
use Rattle.std.proofs.lemmas.List.{map_more, take_all, take_more}
use Rattle.std.proofs.lemmas.List.Elements.{All-push}
use Rattle.std.proofs.lemmas.List.Quantifiers.{position-Some}
use Rattle.std.proofs.lemmas.Option.{slice_get-get_or}
use Rattle.kql_cells.specs.Named.{column_name, place_of}
use Rattle.kql_cells.specs.Seen.{cell_at, row_at}
use Rattle.kql_cells.specs.Table.{CellFits, Grid, IsGrid}
use Rattle.kql_cells.specs.Values.{IsWellFormed}
use Rattle.kql_cells.specs.declared.schema.Column.{Column}
use Rattle.kql_cells.specs.declared.value.Kind.TheVariants as kind
use Rattle.kql_cells.specs.declared.value.Value.{Value}
use Rattle.kql_cells.specs.declared.value.Value.TheVariants as value
use Rattle.kql_cells.proofs.RowLaws.{length-RowFits}
use Rattle.kql_scalar_fns.specs.Arguments.{AreWellFormed}
use Rattle.kql_bound.specs.declared.expr.BExpr.{BExpr}
use Rattle.kql_bound.specs.declared.parts.BItem.{BItem}
use Rattle.kql_bound.specs.declared.parts.ScanStep.{ScanStep}
use Rattle.kql_meaning.specs.Expressions.{val}
use Rattle.kql_meaning.specs.Readings.{Records}
use Rattle.kql_meaning.specs.Scan.{assigned, new_record}
use Rattle.kql_meaning.specs.Tables.{cell, cell_in, is_name_among}
use Rattle.kql_meaning.specs.Values.{holds}
use Rattle.kql_scalar.specs.Placed.{Placed}
use Rattle.kql_scalar.specs.Rows.{passes_with}
use Rattle.kql_scalar.specs.Scalar.{IsScalar}
use Rattle.kql_fit_laws.proofs.KnownValues.{found-holds}
use Rattle.kql_fit_laws.proofs.RowFacts.{of-all}
use Rattle.scan_ops.specs.Steps.{AreSetsScalar, AreStepsScalar, IsSourceIn, IsStepScalar, PlacedStep, placed_step, source_at, source_of, sourced}
use Rattle.scan_ops.specs.declared.step.Source.{Source}
use Rattle.scan_ops.specs.declared.step.Source.TheVariants as source

-- A new record is what the sources of its columns give.

source-gives : (columns : List Column) (o : Option BItem) (c : Column) (t : Grid) (i : ℕ) (s : Records) → columns ≡ t.columns → sourced t i s (source_of columns o c) ≡ assigned o c t i s
unfolding sourced source_of assigned cell
source-gives columns None c t i s e = ap (λ (cs : List Column). cell_in t i (place_of column_name c.name cs)) e
source-gives columns (Some b) c t i s e = refl

sources-give : (sets : List BItem) (columns cs : List Column) (t : Grid) (i : ℕ) (s : Records) → columns ≡ t.columns → map (sourced t i s) (map (source_at sets columns) cs) ≡ map (λ (c : Column). assigned (find (λ (b : BItem). is_name_among b.names c.name) sets) c t i s) cs
unfolding source_at
sources-give sets columns [] t i s e = refl
sources-give sets columns (c ∷ cs) t i s e =
    rw (source-gives columns (find (λ (b : BItem). is_name_among b.names c.name) sets) c t i s e, sources-give sets columns cs t i s e) refl

pub record-made : (step : ScanStep) (columns : List Column) (sources : List Source) (t : Grid) (i : ℕ) (s : Records) (r : List Value) → t.columns ≡ columns → sources ≡ map (source_at step.sets columns) columns → r ≡ map (sourced t i s) sources → r ≡ new_record step t i s
unfolding new_record
record-made step columns sources t i s r same is made =
    made ∙ (ap (map (sourced t i s)) is ∙ (sources-give step.sets columns columns t i s (sym same) ∙ ap (map (λ (c : Column). assigned (find (λ (b : BItem). is_name_among b.names c.name) step.sets) c t i s)) (sym same)))

place-inside : (columns : List Column) (n : List ℕ) (o : Option ℕ) → place_of column_name n columns ≡ o → IfSome o (λ j. j < length columns)
place-inside columns n None e = tt
place-inside columns n (Some j) e = (position-Some (λ (c : Column). bytes_eq (column_name c) n) columns j (record { name = []; kind = kind.Bool }) e).0

source-inside : (columns : List Column) (o : Option BItem) (c : Column) → IsSourceIn columns (source_of columns o c)
unfolding source_of
source-inside columns None c = place-inside columns c.name (place_of column_name c.name columns) refl
source-inside columns (Some b) c = refl

sources-inside : (sets : List BItem) (columns cs : List Column) → All (IsSourceIn columns) (map (source_at sets columns) cs)
unfolding source_at
sources-inside sets columns [] k d lt = absurd (omega (arith, lt))
sources-inside sets columns (c ∷ cs) zero d lt = source-inside columns (find (λ (b : BItem). is_name_among b.names c.name) sets) c
sources-inside sets columns (c ∷ cs) (suc k) d lt = sources-inside sets columns cs k d (omega (arith, lt))

pub sources-there : (step : ScanStep) (columns : List Column) (sources : List Source) (t : Grid) → t.columns ≡ columns → sources ≡ map (source_at step.sets columns) columns → All (IsSourceIn t.columns) sources
sources-there step columns sources t same is =
    subst (All (IsSourceIn t.columns)) (sym is) (subst (λ (cs : List Column). All (IsSourceIn cs) (map (source_at step.sets columns) columns)) (sym same) (sources-inside step.sets columns columns))

pub truth-made : (e f : BExpr) (t : Grid) (i : ℕ) (s : Records) (b : Bool) → e ≡ f → b ≡ passes_with e t i s → b ≡ holds (val f t i s)
unfolding passes_with
truth-made e f t i s b same is = is ∙ ap (λ (x : BExpr). holds (val x t i s)) same

pub condition-scalar : (s : ScanStep) → IsStepScalar s → IsScalar s.condition
condition-scalar s h = h.condition

pub sets-scalar : (s : ScanStep) → IsStepScalar s → AreSetsScalar s.sets
sets-scalar s h = h.sets

pub ruleset step_facts = (record-made, sources-there, truth-made, condition-scalar, sets-scalar)

-- One column after another.

each-form : (v : Value) (vs : List Value) → IsWellFormed v → AreWellFormed vs → (k : ℕ) (d : Value) → k < length (v ∷ vs) → IsWellFormed (get_or (v ∷ vs) k d)
each-form v vs f h zero d l = f
each-form v vs f h (suc k) d l = h.each k d (omega arith)

forms-rest : (v : Value) (vs : List Value) → AreWellFormed (v ∷ vs) → AreWellFormed vs
forms-rest v vs h = record { each = λ k d l. h.each (suc k) d (omega arith) }

pub forms-none : AreWellFormed []
forms-none = record { each = λ k d l. absurd (omega arith) }

forms-push : (vs : List Value) (v : Value) → AreWellFormed vs → IsWellFormed v → AreWellFormed (vs ++ v ∷ [])
forms-push [] v h f = record { each = each-form v [] f forms-none }
forms-push (w ∷ vs) v h f = record { each = each-form w (vs ++ v ∷ []) (h.each 0 value.Null (omega arith)) (forms-push vs v (forms-rest w vs h) f) }

pub forms-more : (vs new : List Value) (v : Value) → AreWellFormed vs → IsWellFormed v → new ≡ vs ++ v ∷ [] → AreWellFormed new
forms-more vs new v h f e = subst AreWellFormed (sym e) (forms-push vs v h f)

pub values-more : (t : Grid) (i : ℕ) (s : Records) (sources : List Source) (k : ℕ) (x : Source) (old new : List Value) (v : Value) → k < length sources → x ≡ get_or sources k x → old ≡ map (sourced t i s) (take k sources) → v ≡ sourced t i s x → new ≡ old ++ v ∷ [] → new ≡ map (sourced t i s) (take (k + 1) sources)
values-more t i s sources k x old new v lt is before value after =
    after ∙ (ap (λ (vs : List Value). vs ++ v ∷ []) before ∙ (ap (λ (w : Value). map (sourced t i s) (take k sources) ++ w ∷ []) (value ∙ ap (sourced t i s) is) ∙ sym (map_more (sourced t i s) sources k x lt)))

pub source-in : (columns : List Column) (sources : List Source) (k : ℕ) (x : Source) → All (IsSourceIn columns) sources → k < length sources → x ≡ get_or sources k x → IsSourceIn columns x
source-in columns sources k x h lt is = subst (IsSourceIn columns) (sym is) (h k x lt)

pub ruleset record_facts = (forms-none)

-- One column.

pub cell-sourced : (t : Grid) (i : ℕ) (s : Records) (x : Source) (place : Option ℕ) (v : Value) → x ≡ source.Cell place → v ≡ cell_in t i place → v ≡ sourced t i s x
unfolding sourced
cell-sourced t i s x place v is made = made ∙ ap (sourced t i s) (sym is)

pub value-sourced : (t : Grid) (i : ℕ) (s : Records) (x : Source) (l : Placed) (v : Value) → x ≡ source.Value l → v ≡ val l.expr t i s → v ≡ sourced t i s x
unfolding sourced
value-sourced t i s x l v is made = made ∙ ap (sourced t i s) (sym is)

pub ruleset value_facts = (cell-sourced, value-sourced)

cell-past : (row : List Value) (j : ℕ) (d e : Value) → j < length row → get_or row j d ≡ get_or row j e
cell-past [] j d e lt = absurd (omega (arith, lt))
cell-past (v ∷ row) zero d e lt = refl
cell-past (v ∷ row) (suc j) d e lt = cell-past row j d e (omega (arith, lt))

pub cell-there : (t : Grid) (i j : ℕ) (v : Value) → IsGrid t → i < length t.lines → j < length t.columns → v ≡ cell_at t.lines i j → v ≡ cell_in t i (Some j)
unfolding cell_in
cell-there t i j v h lt inside is =
    let size = length-RowFits t.columns (row_at t.lines i) (h i [] lt) in
    is ∙ cell-past (row_at t.lines i) j value.Null _ (omega (arith, inside, size))

pub cell-none : (t : Grid) (i : ℕ) (place : Option ℕ) → place ≡ None → value.Null ≡ cell_in t i place
unfolding cell_in
cell-none t i None e = refl
cell-none t i (Some j) e = absurd cc

pub cell-formed : (t : Grid) (j : ℕ) (v : Value) → j < length t.columns → ((c : Column) → slice_get t.columns j ≡ Some c → CellFits c v) → IsWellFormed v
cell-formed t j v lt fits =
    let d : Column = record { name = []; kind = kind.Bool } in
    (fits (get_or t.columns j d) (slice_get-get_or t.columns j d lt)).1

pub ruleset cell_facts = (cell-there, cell-none)

-- Where columns come from.

pub sources-more : (f : Column → Source) (cs : List Column) (k : ℕ) (c : Column) (old new : List Source) (x : Source) → k < length cs → c ≡ get_or cs k c → old ≡ map f (take k cs) → x ≡ f c → new ≡ old ++ x ∷ [] → new ≡ map f (take (k + 1) cs)
sources-more f cs k c old new x lt is before value after =
    after ∙ (ap (λ (ss : List Source). ss ++ x ∷ []) before ∙ (ap (λ (y : Source). map f (take k cs) ++ y ∷ []) (value ∙ ap f is) ∙ sym (map_more f cs k c lt)))

pub cell-source : (sets : List BItem) (columns : List Column) (c : Column) (o : Option BItem) (place : Option ℕ) → o ≡ find (λ (b : BItem). is_name_among b.names c.name) sets → o ≡ None → place ≡ place_of column_name c.name columns → source.Cell place ≡ source_at sets columns c
unfolding source_at source_of
cell-source sets columns c o place found none is = rw (sym found ∙ none) (ap source.Cell is)

pub value-source : (sets : List BItem) (columns : List Column) (c : Column) (n : List ℕ) (b : BItem) (l : Placed) → n ≡ c.name → Some b ≡ find (λ (b : BItem). is_name_among b.names n) sets → l ≡ record { expr = b.expr; columns = columns } → source.Value l ≡ source_at sets columns c
unfolding source_at source_of
value-source sets columns c n b l named found is =
    let here : find (λ (b : BItem). is_name_among b.names c.name) sets ≡ Some b = sym (found ∙ ap (λ (m : List ℕ). find (λ (b : BItem). is_name_among b.names m) sets) named) in
    rw here (ap source.Value is)

pub set-scalar : (sets : List BItem) (n : List ℕ) (b : BItem) → AreSetsScalar sets → Some b ≡ find (λ (b : BItem). is_name_among b.names n) sets → IsScalar b.expr
set-scalar sets n b h found =
    let q = found-holds (λ (b : BItem). is_name_among b.names n) sets b (sym found) in
    of-all (λ (x : BItem). IsScalar x.expr) sets b h.each q.1

pub ruleset source_facts = (sources-more)

pub ruleset set_facts = (cell-source)

-- The steps.

pub step-scalar : (steps : List ScanStep) (k : ℕ) (s : ScanStep) → AreStepsScalar steps → k < length steps → s ≡ get_or steps k s → IsStepScalar s
step-scalar steps k s h lt is = subst IsStepScalar (sym is) (h.each k s lt)

pub steps-more : (columns : List Column) (steps : List ScanStep) (k : ℕ) (s : ScanStep) (old new : List PlacedStep) (x : PlacedStep) → k < length steps → s ≡ get_or steps k s → old ≡ map (placed_step columns) (take k steps) → x ≡ placed_step columns s → new ≡ old ++ x ∷ [] → new ≡ map (placed_step columns) (take (k + 1) steps)
steps-more columns steps k s old new x lt is before value after =
    let f = placed_step columns in
    after ∙ (ap (λ (ss : List PlacedStep). ss ++ x ∷ []) before ∙ (ap (λ (y : PlacedStep). map f (take k steps) ++ y ∷ []) (value ∙ ap f is) ∙ sym (map_more f steps k s lt)))

pub ruleset steps_facts = (step-scalar, steps-more)

-- The test of the steps.

abbrev IsSetScalar : BItem → Type 0
IsSetScalar b = IsScalar b.expr

all-more : {X : Type 0} (P : X → Type 0) (xs : List X) (k : ℕ) (x : X) → k < length xs → x ≡ get_or xs k x → All P (take k xs) → P x → All P (take (k + 1) xs)
all-more P xs k x lt is h p = subst (All P) (sym (take_more xs k x lt ∙ ap (λ y. take k xs ++ y ∷ []) (sym is))) (All-push P (take k xs) x h p)

pub sets-none : AreSetsScalar []
sets-none = record { each = λ k d l. absurd (omega arith) }

pub sets-more : (sets : List BItem) (k : ℕ) (b : BItem) → k < length sets → b ≡ get_or sets k b → AreSetsScalar (take k sets) → IsScalar b.expr → AreSetsScalar (take (k + 1) sets)
sets-more sets k b lt is h here = record { each = all-more IsSetScalar sets k b lt is h.each here }

pub sets-end : (sets : List BItem) (k : ℕ) → length sets ≤ k → AreSetsScalar (take k sets) → AreSetsScalar sets
sets-end sets k le h = record { each = subst (All IsSetScalar) (take_all k sets le) h.each }

pub sets-item : (sets : List BItem) (k : ℕ) (b : BItem) → k < length sets → b ≡ get_or sets k b → AreSetsScalar sets → IsScalar b.expr
sets-item sets k b lt is h = subst IsSetScalar (sym is) (h.each k b lt)

pub steps-none : AreStepsScalar []
steps-none = record { each = λ k d l. absurd (omega arith) }

pub step-more : (steps : List ScanStep) (k : ℕ) (s : ScanStep) → k < length steps → s ≡ get_or steps k s → AreStepsScalar (take k steps) → IsStepScalar s → AreStepsScalar (take (k + 1) steps)
step-more steps k s lt is h here = record { each = all-more IsStepScalar steps k s lt is h.each here }

pub steps-end : (steps : List ScanStep) (k : ℕ) → length steps ≤ k → AreStepsScalar (take k steps) → AreStepsScalar steps
steps-end steps k le h = record { each = subst (All IsStepScalar) (take_all k steps le) h.each }

pub ruleset test_facts = (sets-none, sets-more, sets-end, sets-item, steps-none, step-more, steps-end, step-scalar)

pub step-made : (s : ScanStep) → IsScalar s.condition → AreSetsScalar s.sets → IsStepScalar s
step-made s condition sets = record { condition = condition; sets = sets }

pub ruleset one_facts = (step-made, condition-scalar, sets-scalar)
