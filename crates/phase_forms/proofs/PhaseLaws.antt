-- The phases of operators: those of the next one, and of those behind it.
use Rattle.std.proofs.Common.{◌≡◌, ◌<◌, ◌+◌, ◌&&◌, ℕ, zero, suc, Bool, true, false, List, [], ◌∷◌, ◌++◌, drop, get_or, length, map, take, refl, ap, ap₂, sym, ◌∙◌, arith, rules}
use Rattle.std.specs.Prelude.{flat_map, if◌then◌else◌}
use Rattle.std.proofs.lemmas.Bool.{and_parts}
use Rattle.std.proofs.lemmas.List.{append_assoc, drop_more, map-append}
use Rattle.kql_bound.specs.declared.plan.Op.{Op, out-Op, the_lemmas}
use Rattle.kql_bound.specs.declared.plan.Op.TheFolds.{map-Op}
use Rattle.kql_bound.specs.declared.plan.Op.TheOpen.{Op-F}
use Rattle.kql_bound.specs.declared.plan.Op.TheVariants as V
use Rattle.kql_bound.specs.declared.plan.Plan.{Plan, fold-Plan, fold_out-Plan}
use Rattle.phase_laws.specs.Runs.{are_by_row, is_by_row, is_by_row_step, plan_is_not}
use Rattle.phase_laws.proofs.ByRowLaws.{marked}
use Rattle.phase_forms.specs.Held.{holds_plan, holds_plan_step}
use Rattle.phase_forms.specs.Phases.{Part, alone_if, form_step, goes_on, inner_step, never, ops_behind, ops_phases, part_of, part_step, phases_from, plan_phases, plan_step, plans_phases, range_if, told}
use Rattle.phase_forms.specs.declared.ahead.Form.{Form}
use Rattle.phase_forms.specs.declared.ahead.Form.TheVariants as phase_form
use Rattle.phase_forms.proofs.FormLaws.{parted}

-- What a part is, level by level.

abbrev Layer : Type 0
Layer = Op-F Op Plan

abbrev shown : Bool → Layer → Op-F Part (List Bool)
shown many y = map-Op Op Plan Part (List Bool) (part_of many) (plan_phases many) y

abbrev plain_layer : Layer → Op-F Bool Bool
plain_layer y = map-Op Op Plan Bool Bool is_by_row (fold-Plan Bool Bool is_by_row_step plan_is_not) y

same-rows : (many : Bool) (y : Layer) → is_by_row_step (map-Op Part (List Bool) Bool Bool never never (shown many y)) ≡ is_by_row_step (plain_layer y)
same-rows many (Op-F.Where e) = refl
same-rows many _ = refl

by_row-part : (many : Bool) (o : Op) → (part_of many o).by_row ≡ is_by_row o
by_row-part many o =
    ap (λ (p : Part). p.by_row) (parted many o (out-Op o) refl) ∙ (same-rows many (out-Op o) ∙ sym (marked o (out-Op o) refl))

goes : (b : Bool) → range_if b ≡ phase_form.Range → b ≡ true
goes true h = refl
goes false h = absurd cc

alone-ends : (b : Bool) → goes_on (alone_if b) ≡ false
alone-ends true = refl
alone-ends false = refl

not-range : {X : Type 0} (b : Bool) → alone_if b ≡ phase_form.Range → X
not-range true h = absurd cc
not-range false h = absurd cc

ranged : (many : Bool) (y : Layer) → form_step many (shown many y) ≡ phase_form.Range → is_by_row_step (plain_layer y) ≡ true
ranged many (Op-F.Where e) h = goes _ h
ranged many (Op-F.MvExpand x) h = (and_parts many _ (goes _ h)).1
ranged many (Op-F.Parse p) h = (and_parts many _ (goes _ h)).1
ranged many (Op-F.Extend items) h = not-range many h
ranged many (Op-F.Project items) h = not-range _ h
ranged many (Op-F.Top n keys) h = not-range many h
ranged many (Op-F.Summarize g) h = not-range many h
ranged many (Op-F.MakeSeries s) h = not-range many h
ranged many (Op-F.Join j right) h = not-range many h
ranged many (Op-F.Partition column ops) h = not-range many h
ranged many _ h = absurd cc

pub range-by_row : (many : Bool) (o : Op) → (part_of many o).form ≡ phase_form.Range → is_by_row o ≡ true
range-by_row many o h =
    marked o (out-Op o) refl ∙ ranged many (out-Op o) (sym (ap (λ (p : Part). p.form) (parted many o (out-Op o) refl)) ∙ h)

no-plans : (many : Bool) (y : Layer) → holds_plan_step y ≡ false → inner_step (shown many y) ≡ []
no-plans many (Op-F.Join j right) h = absurd cc
no-plans many (Op-F.Union inner others) h = absurd cc
no-plans many _ h = refl

pub inner-none : (many : Bool) (o : Op) → holds_plan o ≡ false → (part_of many o).inner ≡ []
unfolding holds_plan
inner-none many o h = ap (λ (p : Part). p.inner) (parted many o (out-Op o) refl) ∙ no-plans many (out-Op o) h

held-rows : (many : Bool) (y : Layer) → holds_plan_step y ≡ true → is_by_row_step (plain_layer y) ≡ false
held-rows many (Op-F.Join j right) h = refl
held-rows many (Op-F.Union inner others) h = refl
held-rows many _ h = absurd cc

held-form : (many : Bool) (y : Layer) → holds_plan_step y ≡ true → goes_on (form_step many (shown many y)) ≡ false
held-form many (Op-F.Join j right) h = alone-ends many
held-form many (Op-F.Union inner others) h = refl
held-form many _ h = absurd cc

held-by_row : (many : Bool) (o : Op) → holds_plan o ≡ true → (part_of many o).by_row ≡ false
unfolding holds_plan
held-by_row many o h = by_row-part many o ∙ (marked o (out-Op o) refl ∙ held-rows many (out-Op o) h)

held-ends : (many : Bool) (o : Op) → holds_plan o ≡ true → goes_on (part_of many o).form ≡ false
unfolding holds_plan
held-ends many o h = ap (λ (p : Part). goes_on p.form) (parted many o (out-Op o) refl) ∙ held-form many (out-Op o) h

-- Past operators that go in the same ranges.

behind-more : (many : Bool) (o : Op) (os : List Op) → is_by_row o ≡ true → ops_behind many (o ∷ os) ≡ ops_behind many os
unfolding phases_from
behind-more many o os h =
    ap (λ (b : Bool). if b then ops_behind many os else (part_of many o).inner ++ (told (part_of many o).form (part_of many o).rounds ++ phases_from (goes_on (part_of many o).form) (map (part_of many) os))) (by_row-part many o ∙ h)

behind-other : (many : Bool) (o : Op) (os : List Op) → is_by_row o ≡ false → ops_behind many (o ∷ os) ≡ ops_phases many (o ∷ os)
unfolding phases_from
behind-other many o os h =
    ap (λ (b : Bool). if b then ops_behind many os else (part_of many o).inner ++ (told (part_of many o).form (part_of many o).rounds ++ phases_from (goes_on (part_of many o).form) (map (part_of many) os))) (by_row-part many o ∙ h)

abbrev Ends : List Op → Type 0
Ends ops = (o : Op) (os : List Op) → ops ≡ o ∷ os → is_by_row o ≡ false

behind-done : (many : Bool) (ops : List Op) → Ends ops → ops_behind many ops ≡ ops_phases many ops
unfolding phases_from
behind-done many [] ends = refl
behind-done many (o ∷ os) ends = behind-other many o os (ends o os refl)

pub behind-rows : (many : Bool) (ops : List Op) (n : ℕ) → are_by_row (take n ops) ≡ true → ((o : Op) (os : List Op) → drop n ops ≡ o ∷ os → is_by_row o ≡ false) → ops_behind many ops ≡ ops_phases many (drop n ops)
behind-rows many ops zero rows ends = behind-done many ops ends
behind-rows many [] (suc n) rows ends = behind-done many [] ends
behind-rows many (o ∷ os) (suc n) rows ends =
    let parts = and_parts (is_by_row o) (are_by_row (take n os)) rows in
    behind-more many o os parts.0 ∙ behind-rows many os n parts.1 ends

-- The next phase.

front : (many : Bool) (o : Op) (os : List Op) → ops_phases many (o ∷ os) ≡ (part_of many o).inner ++ (told (part_of many o).form (part_of many o).rounds ++ phases_from (goes_on (part_of many o).form) (map (part_of many) os))
unfolding phases_from
front many o os = refl

pub ahead-one : (many : Bool) (o : Op) (os : List Op) (f : Form) → f ≡ (part_of many o).form → goes_on f ≡ false → ops_phases many (o ∷ os) ≡ (part_of many o).inner ++ (told f (part_of many o).rounds ++ ops_phases many (drop 1 (o ∷ os)))
ahead-one many o os f is ends =
    front many o os
    ∙ (ap (λ (g : Form). (part_of many o).inner ++ (told g (part_of many o).rounds ++ phases_from (goes_on g) (map (part_of many) os))) (sym is)
    ∙ ap (λ (b : Bool). (part_of many o).inner ++ (told f (part_of many o).rounds ++ phases_from b (map (part_of many) os))) ends)

pub ahead-range : (many : Bool) (o : Op) (os : List Op) (n : ℕ) → phase_form.Range ≡ (part_of many o).form → are_by_row (take n os) ≡ true → ((p : Op) (ps : List Op) → drop n os ≡ p ∷ ps → is_by_row p ≡ false) → ops_phases many (o ∷ os) ≡ (part_of many o).inner ++ (told phase_form.Range (part_of many o).rounds ++ ops_phases many (drop (n + 1) (o ∷ os)))
ahead-range many o os n is rows ends =
    let up : suc n ≡ n + 1 = omega arith in
    front many o os
    ∙ (ap (λ (g : Form). (part_of many o).inner ++ (told g (part_of many o).rounds ++ phases_from (goes_on g) (map (part_of many) os))) (sym is)
    ∙ (ap (λ (xs : List Bool). (part_of many o).inner ++ (told phase_form.Range (part_of many o).rounds ++ xs)) (behind-rows many os n rows ends)
    ∙ ap (λ (k : ℕ). (part_of many o).inner ++ (told phase_form.Range (part_of many o).rounds ++ ops_phases many (drop k (o ∷ os)))) up))

pub range-rows : (many : Bool) (o : Op) (os : List Op) (n : ℕ) → phase_form.Range ≡ (part_of many o).form → are_by_row (take n os) ≡ true → are_by_row (take (n + 1) (o ∷ os)) ≡ true
range-rows many o os n is rows =
    let up : n + 1 ≡ suc n = omega arith in
    ap (λ (k : ℕ). are_by_row (take k (o ∷ os))) up ∙ ap₂ (λ (a b : Bool). a && b) (range-by_row many o (sym is)) rows

pub one-serialize : (o : Op) (os : List Op) → o ≡ V.Serialize → take 1 (o ∷ os) ≡ V.Serialize ∷ []
one-serialize o os is = ap (λ (p : Op). p ∷ []) is

pub ruleset ahead_steps = (ahead-one, ahead-range, range-rows, one-serialize)

-- Where operators that read one row at a time end.

pub ends-at : (ops : List Op) (n : ℕ) (x : Op) → n < length ops → x ≡ get_or ops n x → is_by_row x ≡ false → (o : Op) (os : List Op) → drop n ops ≡ o ∷ os → is_by_row o ≡ false
ends-at ops n x lt is not_row o os rest =
    let here = ap (λ (y : Op). y ∷ drop (n + 1) ops) is ∙ (sym (drop_more ops n x lt) ∙ rest) in
    sym (ap is_by_row (ap (λ (ys : List Op). get_or ys 0 x) here)) ∙ not_row

-- Past an operator that holds plans.

chosen : (c : Bool) (a a' b b' i t k : List Bool) → a ≡ a' ++ k → b ≡ b' ++ k → (if c then a else i ++ (t ++ b)) ≡ (if c then a' else i ++ (t ++ b')) ++ k
chosen true a a' b b' i t k on off = on
chosen false a a' b b' i t k on off =
    ap (λ (z : List Bool). i ++ (t ++ z)) off ∙ (ap (λ (z : List Bool). i ++ z) (sym (append_assoc t b' k)) ∙ sym (append_assoc i (t ++ b') k))

past : (xs ms : List Part) (m : Part) → m.by_row ≡ false → goes_on m.form ≡ false → (b : Bool) → phases_from b (xs ++ m ∷ ms) ≡ phases_from b xs ++ (m.inner ++ (told m.form m.rounds ++ phases_from false ms))
unfolding phases_from
past [] ms m rows ends true =
    ap (λ (c : Bool). if c then phases_from true ms else m.inner ++ (told m.form m.rounds ++ phases_from (goes_on m.form) ms)) rows
    ∙ ap (λ (c : Bool). m.inner ++ (told m.form m.rounds ++ phases_from c ms)) ends
past [] ms m rows ends false = ap (λ (c : Bool). m.inner ++ (told m.form m.rounds ++ phases_from c ms)) ends
past (x ∷ xs) ms m rows ends b =
    chosen (b && x.by_row) (phases_from true (xs ++ m ∷ ms)) (phases_from true xs) (phases_from (goes_on x.form) (xs ++ m ∷ ms)) (phases_from (goes_on x.form) xs) x.inner (told x.form x.rounds) (m.inner ++ (told m.form m.rounds ++ phases_from false ms))
    (past xs ms m rows ends true) (past xs ms m rows ends (goes_on x.form))

pub held-phases : (many : Bool) (run : List Op) (o : Op) (os : List Op) → holds_plan o ≡ true → ops_phases many (run ++ o ∷ os) ≡ ops_phases many run ++ ((part_of many o).inner ++ (told (part_of many o).form (part_of many o).rounds ++ ops_phases many os))
held-phases many run o os held =
    ap (phases_from false) (map-append (part_of many) run (o ∷ os))
    ∙ past (map (part_of many) run) (map (part_of many) os) (part_of many o) (held-by_row many o held) (held-ends many o held) false

-- The phases of a plan, and of the plans in an operator.

pub plan-ops : (many : Bool) (p : Plan) → plan_phases many p ≡ ops_phases many p.ops
unfolding part_of plan_phases
plan-ops many p = fold_out-Plan Part (List Bool) (part_step many) plan_step p

pub inner-Join : (many : Bool) (j : _) (right : Plan) → (part_of many (V.Join j right)).inner ≡ plan_phases many right
inner-Join many j right = ap (λ (p : Part). p.inner) (parted many (V.Join j right) (Op-F.Join j right) (search (rules, the_lemmas)))

each-phases : (many : Bool) (plans : List Plan) → flat_map (λ (phases : List Bool). phases) (map (plan_phases many) plans) ≡ plans_phases many plans
each-phases many [] = refl
each-phases many (p ∷ ps) = ap (λ (z : List Bool). plan_phases many p ++ z) (each-phases many ps)

pub inner-Union : (many : Bool) (inner : Bool) (others : List Plan) → (part_of many (V.Union inner others)).inner ≡ plans_phases many others
inner-Union many inner others =
    ap (λ (p : Part). p.inner) (parted many (V.Union inner others) (Op-F.Union inner others) (search (rules, the_lemmas))) ∙ each-phases many others
