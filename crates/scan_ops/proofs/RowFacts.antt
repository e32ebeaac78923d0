-- A row taken through all steps.
use Rattle.std.proofs.Common.{◌≡◌, ◌<◌, ◌≤◌, ◌+◌, ◌++◌, ℕ, zero, suc, List, [], ◌∷◌, map, length, take, get_or, refl, sym, ap, ◌∙◌, arith, append-nil, append_assoc}
use Rattle.std.specs.Prelude.{None, Option, Some, fold, reverse, slice_get}
use Rattle.std.specs.List.{enumerate_from}
use Rattle.std.proofs.lemmas.List.{length-map, reverse-append, take_all, take_more}
use Rattle.std.proofs.lemmas.Option.{slice_get-get_or}
use Rattle.kql_cells.specs.Table.{Grid}
use Rattle.kql_cells.specs.declared.schema.Column.{Column}
use Rattle.kql_cells.specs.declared.value.Value.{Value}
use Rattle.kql_bound.specs.declared.parts.ScanPlan.{ScanPlan}
use Rattle.kql_bound.specs.declared.parts.ScanStep.{ScanStep}
use Rattle.kql_meaning.specs.Scan.{Turn, after, check_one, check_two, first_outcome, row_after, row_turn, state_before, steps_down, tried}
use Rattle.scan_ops.specs.Runs.{IsStepOf}
use Rattle.scan_ops.specs.Steps.{PlacedStep, placed_step}

-- The steps that are left, from a place, from 0, down to the first.
unfoldable pub steps_left : ScanPlan → ℕ → List (ℕ × ScanStep)
steps_left p n = reverse (enumerate_from 1 (take n p.steps))

numbered-more : {X : Type 0} (a : ℕ) (xs : List X) (x : X) → enumerate_from a (xs ++ x ∷ []) ≡ enumerate_from a xs ++ (a + length xs, x) ∷ []
numbered-more a [] x = let same : a ≡ a + 0 = omega arith in ap (λ n. (n, x) ∷ []) same
numbered-more a (y ∷ xs) x =
    let same : a + 1 + length xs ≡ a + suc (length xs) = omega arith in
    ap (λ (rest : List (ℕ × _)). (a, y) ∷ rest) (numbered-more (a + 1) xs x ∙ ap (λ n. enumerate_from (a + 1) xs ++ (n, x) ∷ []) same)

length-first : {X : Type 0} (n : ℕ) (xs : List X) → n ≤ length xs → length (take n xs) ≡ n
length-first zero xs le = refl
length-first (suc n) [] le = absurd (omega (arith, le))
length-first (suc n) (x ∷ xs) le = ap suc (length-first n xs (omega (arith, le)))

left-more : (p : ScanPlan) (n : ℕ) (s : ScanStep) → n < length p.steps → s ≡ get_or p.steps n s → steps_left p (n + 1) ≡ (n + 1, s) ∷ steps_left p n
unfolding steps_left
left-more p n s lt is =
    let one : take (n + 1) p.steps ≡ take n p.steps ++ s ∷ [] = take_more p.steps n s lt ∙ ap (λ (x : ScanStep). take n p.steps ++ x ∷ []) (sym is) in
    let number : 1 + length (take n p.steps) ≡ n + 1 = omega (arith, length-first n p.steps (omega (arith, lt))) in
    ap (λ (xs : List ScanStep). reverse (enumerate_from 1 xs)) one
    ∙ (ap reverse (numbered-more 1 (take n p.steps) s ∙ ap (λ k. enumerate_from 1 (take n p.steps) ++ (k, s) ∷ []) number)
    ∙ reverse-append (enumerate_from 1 (take n p.steps)) ((n + 1, s) ∷ []))

-- What is still to be done of a row.
unfoldable pub still : ScanPlan → Grid → ℕ → ℕ → Turn → Turn
still p t i n turn = fold (tried p t i) turn (steps_left p n)

pub still-more : (p : ScanPlan) (t : Grid) (i n k : ℕ) (s : ScanStep) (turn new end : Turn) → n ≡ k + 1 → k < length p.steps → s ≡ get_or p.steps k s → new ≡ tried p t i turn (k + 1, s) → still p t i n turn ≡ end → still p t i k new ≡ end
unfolding still
still-more p t i n k s turn new end same lt is e h =
    ap (λ (x : Turn). fold (tried p t i) x (steps_left p k)) e
    ∙ (sym (ap (fold (tried p t i) turn) (ap (steps_left p) same ∙ left-more p k s lt is)) ∙ h)

pub still-none : (p : ScanPlan) (t : Grid) (i n : ℕ) (turn end : Turn) → n ≡ 0 → still p t i n turn ≡ end → turn ≡ end
unfolding still steps_left
still-none p t i n turn end none h = sym (ap (λ k. fold (tried p t i) turn (reverse (enumerate_from 1 (take k p.steps)))) none) ∙ h

-- What was emitted before is passed on.

pub after-twice : (b c : List (List Value)) (turn : Turn) → after (b ++ c) turn ≡ after b (after c turn)
unfolding after
after-twice b c turn = ap (λ (rows : List (List Value)). record { machine = turn.machine; emitted = rows }) (append_assoc b c turn.emitted)

first-after : (b : List (List Value)) (turn : Turn) (one two : Option Turn) → first_outcome (after b turn) one two ≡ after b (first_outcome turn one two)
unfolding first_outcome after
first-after b turn (Some x) two = ap (λ (rows : List (List Value)). record { machine = x.machine; emitted = rows }) (append_assoc b turn.emitted x.emitted)
first-after b turn None (Some x) = ap (λ (rows : List (List Value)). record { machine = x.machine; emitted = rows }) (append_assoc b turn.emitted x.emitted)
first-after b turn None None = refl

tried-after : (p : ScanPlan) (t : Grid) (i : ℕ) (b : List (List Value)) (turn : Turn) (e : ℕ × ScanStep) → tried p t i (after b turn) e ≡ after b (tried p t i turn e)
unfolding tried after
tried-after p t i b turn e = first-after b turn (check_one p e.1 t i e.0 turn.machine (state_before turn.machine e.0)) (check_two p e.1 t i e.0 turn.machine)

fold-after : (p : ScanPlan) (t : Grid) (i : ℕ) (b : List (List Value)) (turn : Turn) (es : List (ℕ × ScanStep)) → fold (tried p t i) (after b turn) es ≡ after b (fold (tried p t i) turn es)
fold-after p t i b turn [] = refl
fold-after p t i b turn (e ∷ es) = ap (λ (x : Turn). fold (tried p t i) x es) (tried-after p t i b turn e) ∙ fold-after p t i b (tried p t i turn e) es

whole : (turn : Turn) → after turn.emitted (record { machine = turn.machine; emitted = [] }) ≡ turn
unfolding after
whole turn = ap (λ (rows : List (List Value)). record { machine = turn.machine; emitted = rows }) (append-nil turn.emitted)

pub still-all : (p : ScanPlan) (t : Grid) (i n : ℕ) (turn : Turn) → n ≡ length p.steps → still p t i n turn ≡ row_after p t turn i
unfolding still steps_left row_after row_turn steps_down
still-all p t i n turn size =
    let start : Turn = record { machine = turn.machine; emitted = [] } in
    let every : take n p.steps ≡ p.steps = take_all n p.steps (omega (arith, size)) in
    ap (λ (xs : List ScanStep). fold (tried p t i) turn (reverse (enumerate_from 1 xs))) every
    ∙ (ap (λ (x : Turn). fold (tried p t i) x (reverse (enumerate_from 1 p.steps))) (sym (whole turn))
    ∙ fold-after p t i turn.emitted start (reverse (enumerate_from 1 p.steps)))

-- A step of the scan.

placed-at : (columns : List Column) (ps : List ScanStep) (k : ℕ) (x : PlacedStep) → k < length ps → x ≡ get_or (map (placed_step columns) ps) k x → (slice_get ps k ≡ Some x.step) × (columns ≡ x.columns)
placed-at columns [] k x lt is = absurd (omega (arith, lt))
placed-at columns (s ∷ ps) zero x lt is = (ap (λ (y : PlacedStep). Some y.step) (sym is), ap (λ (y : PlacedStep). y.columns) (sym is))
placed-at columns (s ∷ ps) (suc k) x lt is = placed-at columns ps k x (omega (arith, lt)) is

pub steps-count : (p : ScanPlan) (columns : List Column) (steps : List PlacedStep) → steps ≡ map (placed_step columns) p.steps → length steps ≡ length p.steps
steps-count p columns steps is = ap length is ∙ length-map p.steps (placed_step columns)

pub step-of : (p : ScanPlan) (columns : List Column) (steps : List PlacedStep) (k : ℕ) (x : PlacedStep) → steps ≡ map (placed_step columns) p.steps → k < length steps → x ≡ get_or steps k x → IsStepOf p columns k x
step-of p columns steps k x is lt here =
    let inside : k < length p.steps = omega (arith, lt, steps-count p columns steps is) in
    let got = placed-at columns p.steps k x inside (here ∙ ap (λ (xs : List PlacedStep). get_or xs k x) is) in
    record { step = got.0; columns = got.1 }

pub step-there : (p : ScanPlan) (columns : List Column) (k : ℕ) (x : PlacedStep) → IsStepOf p columns k x → k < length p.steps → x.step ≡ get_or p.steps k x.step
step-there p columns k x h lt = let e : Some (get_or p.steps k x.step) ≡ Some x.step = sym (slice_get-get_or p.steps k x.step lt) ∙ h.step in let same : get_or p.steps k x.step ≡ x.step = cc in sym same

pub ruleset row_facts = (steps-count, step-of)
