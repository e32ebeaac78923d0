-- A let's table that is moved out where nothing behind names the let.
use Rattle.std.proofs.Common.{◌≡◌, ◌<◌, ℕ, zero, suc, Bool, true, false, List, [], ◌∷◌, ◌++◌, get_or, length, map, set, refl, sym, ap, ap₂, ◌∙◌, subst, arith}
use Rattle.std.specs.Prelude.{None, Option, Some, not, nat_le, ◌||◌}
use Rattle.std.proofs.lemmas.Bool.{not-true, or_parts}
use Rattle.std.proofs.lemmas.List.{get_or_append_left, get_or_default, length_push, set-append_left}
use Rattle.kql_cells.specs.Catalogues.{Named}
use Rattle.kql_cells.specs.Table.{Grid}
use Rattle.kql_cells.specs.declared.schema.Column.{Column}
use Rattle.kql_bound.specs.declared.plan.Op.{Op}
use Rattle.kql_bound.specs.declared.plan.Plan.{Plan}
use Rattle.kql_bound.specs.declared.plan.Source.{Source}
use Rattle.kql_bound.specs.declared.plan.Source.TheVariants as source
use Rattle.kql_meaning.specs.Fits.{Known, known_of}
use Rattle.kql_meaning.specs.Plans.{one_after_another, op_means, plan_means, source_table}
use Rattle.kql_meaning.specs.Sources.{let_table}
use Rattle.kql_meaning.specs.Tables.{emptied, nothing}
use Rattle.kql_fit_laws.proofs.PlanRows.{emptied-columns, emptied-table}
use Rattle.kql_fit_laws.specs.LawsOfPrograms.{LetsStand}
use Rattle.kql_plain.specs.AtHand.{FitBehind, IsSo, OpsFit, PlanFits, SourceFits, means_behind, world_of}
use Rattle.kql_plain.specs.Moved.{left_behind, moved_let}
use Rattle.kql_plain.specs.Readings.{is_let_not, ops_name, plans_name, reads_last}
use Rattle.kql_plain.proofs.PlanLaws.{ops-fit, plan-means, source-fits}
use Rattle.kql_plain.proofs.SameMeaning.{behind-same, ops-same}
use Rattle.kql_plain.proofs.SourceSteps.{let-there}

-- What a source takes.

pub moved-is : (b : Bool) (s : Source) (i : ℕ) → moved_let b s ≡ Some i → (b ≡ true) × (s ≡ source.Let i)
unfolding moved_let
moved-is b (source.Table name) i e = absurd cc
moved-is true (source.Let k) i e = let same : k ≡ i = cc in (refl, ap (λ (m : ℕ). source.Let m) same)
moved-is false (source.Let k) i e = absurd cc
moved-is b (source.Range column from to step) i e = absurd cc
moved-is b (source.Print items) i e = absurd cc

-- A let that no test holds of.

not-named : (f : ℕ → Bool) (s : Source) (i : ℕ) → s ≡ source.Let i → is_let_not f s ≡ true → f i ≡ false
unfolding is_let_not
not-named f s i is h = not-true (f i) (sym (ap (is_let_not f) is) ∙ h)

weaker : (f g : ℕ → Bool) (s : Source) → ((i : ℕ) → f i ≡ false → g i ≡ false) → is_let_not f s ≡ true → is_let_not g s ≡ true
unfolding is_let_not
weaker f g (source.Table name) less h = h
weaker f g (source.Let i) less h = ap not (less i (not-true (f i) h))
weaker f g (source.Range column from to step) less h = h
weaker f g (source.Print items) less h = h

pub own-free : (n : ℕ) (p : Plan) (behind : List Plan) (b : Bool) → b ≡ reads_last n p behind → b ≡ true → is_let_not (λ i. ops_name i p.ops) p.source ≡ true
unfolding reads_last
own-free n p behind b is holds =
    weaker (λ i. nat_le n i || (ops_name i p.ops || plans_name i behind)) (λ i. ops_name i p.ops) p.source
    (λ i none. (or_parts (ops_name i p.ops) (plans_name i behind) (or_parts (nat_le n i) (ops_name i p.ops || plans_name i behind) none).1).0) (sym is ∙ holds)

later-free : (n : ℕ) (p : Plan) (behind : List Plan) (b : Bool) → b ≡ reads_last n p behind → b ≡ true → is_let_not (λ i. plans_name i behind) p.source ≡ true
unfolding reads_last
later-free n p behind b is holds =
    weaker (λ i. nat_le n i || (ops_name i p.ops || plans_name i behind)) (λ i. plans_name i behind) p.source
    (λ i none. (or_parts (ops_name i p.ops) (plans_name i behind) (or_parts (nat_le n i) (ops_name i p.ops || plans_name i behind) none).1).1) (sym is ∙ holds)

-- What stays fits as the tables did.

stand-emptied : (columns : List (List Column)) (lets : List Grid) (i : ℕ) → LetsStand columns lets → LetsStand columns (set lets i (emptied (get_or lets i nothing)))
stand-emptied [] [] i h = tt
stand-emptied [] (t ∷ ts) i h = absurd h
stand-emptied (c ∷ cs) [] i h = absurd h
stand-emptied (c ∷ cs) (t ∷ ts) zero h = ((emptied-columns t ∙ h.0.0, emptied-table t h.0.1), h.1)
stand-emptied (c ∷ cs) (t ∷ ts) (suc i) h = (h.0, stand-emptied cs ts i h.1)

so-emptied : (k : Known) (tables : List Named) (lets : List Grid) (i : ℕ) → IsSo k (world_of tables lets) → IsSo k (world_of tables (set lets i (emptied (let_table lets i))))
unfolding let_table
so-emptied k tables lets i s = ((s.0.0, stand-emptied k.lets lets i s.0.1), s.1)

behind-emptied : (ps : List Plan) (main : Plan) (tables : List Named) (made : List Grid) (i : ℕ) → FitBehind ps main tables made → FitBehind ps main tables (set made i (emptied (let_table made i)))
unfolding FitBehind
behind-emptied ps main tables made i f = (f.0, f.1, so-emptied (known_of f.0 f.1) tables made i f.2, f.3)

ops-emptied : (ops : List Op) (tables : List Named) (lets : List Grid) (i : ℕ) (t : Grid) → OpsFit ops (world_of tables lets) t → OpsFit ops (world_of tables (set lets i (emptied (let_table lets i)))) t
unfolding OpsFit
ops-emptied ops tables lets i t f = (f.0, f.1, so-emptied f.0 tables lets i f.2, f.3, f.4)

-- The table of a let, as it is read, and what stays where it is moved.

read-let : (lets : List Grid) (i : ℕ) (d : Grid) → i < length lets → get_or lets i d ≡ let_table lets i
unfolding let_table
read-let lets i d lt = get_or_default lets i d nothing lt

left-is : (lets : List Grid) (i : ℕ) (d placed empty : Grid) → i < length lets → empty ≡ emptied (get_or lets i d) → placed ≡ empty → set lets i placed ≡ set lets i (emptied (let_table lets i))
left-is lets i d placed empty lt none put = ap (λ (g : Grid). set lets i g) (put ∙ (none ∙ ap emptied (read-let lets i d lt)))

pub moved-left : (lets : List Grid) (i : ℕ) (d placed empty : Grid) → i < length lets → empty ≡ emptied (get_or lets i d) → placed ≡ empty → set lets i placed ≡ left_behind (Some i) lets
unfolding left_behind
moved-left lets i d placed empty lt none put = left-is lets i d placed empty lt none put

-- Operators over a let's table that is moved.

pub moved-fits : (ops : List Op) (tables : List Named) (lets : List Grid) (i : ℕ) (d e placed empty table : Grid) → i < length lets → empty ≡ emptied (get_or lets i d) → placed ≡ empty → table ≡ get_or lets i e → OpsFit ops (world_of tables lets) (let_table lets i) → OpsFit ops (world_of tables (set lets i placed)) table
moved-fits ops tables lets i d e placed empty table lt none put read f =
    subst (λ (ts : List Grid). OpsFit ops (world_of tables ts) table) (sym (left-is lets i d placed empty lt none put))
    (subst (λ (g : Grid). OpsFit ops (world_of tables (set lets i (emptied (let_table lets i)))) g) (sym (read ∙ read-let lets i e lt)) (ops-emptied ops tables lets i (let_table lets i) f))

pub moved-means : (ops : List Op) (tables : List Named) (lets : List Grid) (i : ℕ) (e placed table made : Grid) → i < length lets → table ≡ get_or lets i e → ops_name i ops ≡ false → made ≡ one_after_another (map op_means ops) (world_of tables (set lets i placed)) table → made ≡ one_after_another (map op_means ops) (world_of tables lets) (let_table lets i)
moved-means ops tables lets i e placed table made lt read free is =
    is
    ∙ (ap (λ (g : Grid). one_after_another (map op_means ops) (world_of tables (set lets i placed)) g) (read ∙ read-let lets i e lt)
    ∙ ops-same tables i placed ops free lets (let_table lets i))

-- A plan whose source takes a let's table.

pub let-inside : (p : Plan) (tables : List Named) (lets : List Grid) (b : Bool) (i : ℕ) → moved_let b p.source ≡ Some i → PlanFits p (world_of tables lets) → i < length lets
let-inside p tables lets b i e f =
    let-there i (world_of tables lets) (subst (λ (s : Source). SourceFits s (world_of tables lets)) (moved-is b p.source i e).1 (source-fits p (world_of tables lets) f))

from-let : (p : Plan) (tables : List Named) (lets : List Grid) (i : ℕ) → p.source ≡ source.Let i → source_table p.source (world_of tables lets) ≡ let_table lets i
unfolding source_table
from-let p tables lets i is = ap (λ (s : Source). source_table s (world_of tables lets)) is

pub let-fits : (p : Plan) (tables : List Named) (lets : List Grid) (b : Bool) (i : ℕ) (ops : List Op) → moved_let b p.source ≡ Some i → ops ≡ p.ops → PlanFits p (world_of tables lets) → OpsFit ops (world_of tables lets) (let_table lets i)
let-fits p tables lets b i ops e same f =
    subst (λ (os : List Op). OpsFit os (world_of tables lets) (let_table lets i)) (sym same)
    (subst (λ (g : Grid). OpsFit p.ops (world_of tables lets) g) (from-let p tables lets i (moved-is b p.source i e).1) (ops-fit p (world_of tables lets) f))

pub let-free : (p : Plan) (b : Bool) (i : ℕ) (ops : List Op) → moved_let b p.source ≡ Some i → ops ≡ p.ops → (b ≡ true → is_let_not (λ j. ops_name j p.ops) p.source ≡ true) → ops_name i ops ≡ false
let-free p b i ops e same free =
    let is = moved-is b p.source i e in
    ap (λ (os : List Op). ops_name i os) same ∙ not-named (λ j. ops_name j p.ops) p.source i is.1 (free is.0)

pub let-means : (p : Plan) (tables : List Named) (lets : List Grid) (b : Bool) (i : ℕ) (ops : List Op) → moved_let b p.source ≡ Some i → ops ≡ p.ops → one_after_another (map op_means ops) (world_of tables lets) (let_table lets i) ≡ plan_means p (world_of tables lets)
let-means p tables lets b i ops e same =
    ap (λ (os : List Op). one_after_another (map op_means os) (world_of tables lets) (let_table lets i)) same
    ∙ (ap (λ (g : Grid). one_after_another (map op_means p.ops) (world_of tables lets) g) (sym (from-let p tables lets i (moved-is b p.source i e).1)) ∙ sym (plan-means p (world_of tables lets)))

pub none-left : (o : Option ℕ) (lets : List Grid) → o ≡ None → lets ≡ left_behind o lets
unfolding left_behind
none-left o lets e = ap (λ (m : Option ℕ). left_behind m lets) (sym e)

-- What is left of a program does not miss a table that is moved out.

emptied-pushed : (made : List Grid) (t : Grid) (i : ℕ) → i < length made → set made i (emptied (let_table made i)) ++ t ∷ [] ≡ set (made ++ t ∷ []) i (emptied (let_table (made ++ t ∷ []) i))
unfolding let_table
emptied-pushed made t i lt =
    sym (set-append_left made (t ∷ []) i (emptied (get_or made i nothing)) lt)
    ∙ ap (λ (g : Grid). set (made ++ t ∷ []) i (emptied g)) (sym (get_or_append_left made (t ∷ []) nothing i lt))

Kept : List Plan → Plan → List Named → List Grid → List Grid → Type 0
Kept ps main tables all now = FitBehind ps main tables now × (means_behind ps main tables now ≡ means_behind ps main tables all)

kept-by : (o : Option ℕ) (ps : List Plan) (main : Plan) (tables : List Named) (made : List Grid) (t : Grid) → ((i : ℕ) → o ≡ Some i → (i < length made) × (plans_name i (ps ++ main ∷ []) ≡ false)) → FitBehind ps main tables (made ++ t ∷ []) → Kept ps main tables (made ++ t ∷ []) (left_behind o made ++ t ∷ [])
unfolding Kept left_behind
kept-by None ps main tables made t free f = (f, refl)
kept-by (Some i) ps main tables made t free f =
    let q = free i refl in
    let longer : i < length (made ++ t ∷ []) = omega (arith, length_push made t, q.0) in
    let all = made ++ t ∷ [] in
    subst (λ (ts : List Grid). FitBehind ps main tables ts × (means_behind ps main tables ts ≡ means_behind ps main tables all)) (sym (emptied-pushed made t i q.0))
    (behind-emptied ps main tables all i f, behind-same tables i (emptied (let_table all i)) ps main all q.1 longer)

pub kept : (n : ℕ) (p : Plan) (ps : List Plan) (main : Plan) (tables : List Named) (made left now : List Grid) (b : Bool) (t : Grid) → b ≡ reads_last n p (ps ++ main ∷ []) → PlanFits p (world_of tables made) → FitBehind ps main tables (made ++ plan_means p (world_of tables made) ∷ []) → t ≡ plan_means p (world_of tables made) → left ≡ left_behind (moved_let b p.source) made → now ≡ left ++ t ∷ [] → FitBehind ps main tables now × (means_behind ps main tables now ≡ means_behind ps main tables (made ++ plan_means p (world_of tables made) ∷ []))
unfolding Kept
kept n p ps main tables made left now b t last fits others is moved pushed =
    let u = plan_means p (world_of tables made) in
    let whole = pushed ∙ ap₂ (λ (ts : List Grid) (g : Grid). ts ++ g ∷ []) moved is in
    subst (λ (ts : List Grid). FitBehind ps main tables ts × (means_behind ps main tables ts ≡ means_behind ps main tables (made ++ u ∷ []))) (sym whole)
    (kept-by (moved_let b p.source) ps main tables made u
    (λ i e. let is_let = moved-is b p.source i e in
    (let-inside p tables made b i e fits, not-named (λ j. plans_name j (ps ++ main ∷ [])) p.source i is_let.1 (later-free n p (ps ++ main ∷ []) b last is_let.0))) others)
