-- The equations of `plan_lines` and `op_lines`, and texts of lines.
use Rattle.std.proofs.Common.{◌≡◌, ℕ, zero, suc, ◌+◌, ◌<◌, List, [], ◌∷◌, ◌++◌, map, take, length, get_or, refl, ap, ap₂, sym, ◌∙◌, append_assoc, append-nil, add-zero, arith}
use Rattle.std.specs.Prelude.{codes}
use Rattle.std.specs.List.{flat_map, join_by}
use Rattle.kql_plan_text.specs.Operators.{line_step, line_text, source_text}
use Rattle.kql_plan_text.specs.Plans.{Lines, between_brackets, further_in, in_brackets, let_line, let_lines, lets_lines, op_lines, op_step, op_within, plan_lines, plan_step, text_of, within_lines}
use Rattle.kql_bound.specs.declared.plan.Op.{Op, out-Op, fold_out-Op}
use Rattle.kql_bound.specs.declared.plan.Op.TheFolds.{map-Op}
use Rattle.kql_bound.specs.declared.plan.Op.TheOpen.{Op-F}
use Rattle.kql_bound.specs.declared.plan.Plan.{Plan, fold_out-Plan}
use Rattle.kql_plan_text.proofs.Separated.{flat_map-map, join_by-map}

between_brackets-map : {X : Type 0} (f : X → Lines) (xs : List X) → between_brackets (λ (l : Lines). l) (map f xs) ≡ between_brackets f xs
unfolding between_brackets
between_brackets-map f xs = ap (λ (ls : Lines). ls ++ codes ")" ∷ []) (join_by-map further_in f (codes ") (" ∷ []) xs)

mapped : (o : Op-F Op Plan) → op_step (map-Op Op Plan Lines Lines op_lines plan_lines o) ≡ (codes "| " ++ line_step o) ∷ op_within op_lines plan_lines o
mapped (Op-F.Union inner others) = ap (λ (ls : Lines). (codes "| " ++ line_step {A = Op} (Op-F.Union inner others)) ∷ ls) (between_brackets-map plan_lines others)
mapped (Op-F.Partition column ops) = ap (λ (ls : Lines). (codes "| " ++ line_step {B = Plan} (Op-F.Partition column ops)) ∷ in_brackets ls) (flat_map-map (λ (l : Lines). l) op_lines ops)
mapped _ = refl

pub op_lines-out : (op : Op) → op_lines op ≡ (codes "| " ++ line_text op) ∷ within_lines op
unfolding op_lines plan_lines
op_lines-out op = fold_out-Op Lines Lines op_step plan_step op ∙ mapped (out-Op op)

pub plan_lines-out : (p : Plan) → plan_lines p ≡ source_text p.source ∷ flat_map op_lines p.ops
unfolding op_lines plan_lines
plan_lines-out p = fold_out-Plan Lines Lines op_step plan_step p ∙ ap (λ (ls : Lines). source_text p.source ∷ ls) (flat_map-map (λ (l : Lines). l) op_lines p.ops)

pub text_of-nil : (m : List ℕ) → text_of m [] ≡ []
unfolding text_of
text_of-nil m = refl

text_of-append : (m : List ℕ) (xs ys : Lines) → text_of m (xs ++ ys) ≡ text_of m xs ++ text_of m ys
unfolding text_of
text_of-append m [] ys = refl
text_of-append m (x ∷ xs) ys = ap (λ l. (m ++ (x ++ codes "\n")) ++ l) (text_of-append m xs ys) ∙ sym (append_assoc (m ++ (x ++ codes "\n")) _ _)

text_of-further_in : (m : List ℕ) (xs : Lines) → text_of m (further_in xs) ≡ text_of (m ++ codes "  ") xs
unfolding text_of further_in
text_of-further_in m [] = refl
text_of-further_in m (x ∷ xs) = ap₂ (λ (a b : List ℕ). a ++ b) (sym (append_assoc m (codes "  ") (x ++ codes "\n"))) (text_of-further_in m xs)

text_of-flat_map : {X : Type 0} (m : List ℕ) (f : X → Lines) (xs : List X) → text_of m (flat_map f xs) ≡ flat_map (λ x. text_of m (f x)) xs
unfolding text_of
text_of-flat_map m f [] = refl
text_of-flat_map m f (x ∷ xs) = text_of-append m (f x) (flat_map f xs) ∙ ap (λ l. text_of m (f x) ++ l) (text_of-flat_map m f xs)

-- lines within brackets
pub text_of-in_brackets : (m : List ℕ) (xs : Lines) → text_of m (in_brackets xs) ≡ text_of (m ++ codes "  ") xs ++ text_of m (codes ")" ∷ [])
unfolding in_brackets
text_of-in_brackets m xs = text_of-append m (further_in xs) (codes ")" ∷ []) ∙ ap (λ l. l ++ text_of m (codes ")" ∷ [])) (text_of-further_in m xs)

-- the lines of operators, within brackets too
pub text_of-ops : (m : List ℕ) (ops : List Op) → text_of m (flat_map op_lines ops) ≡ flat_map (λ o. text_of m (op_lines o)) ops
text_of-ops m ops = text_of-flat_map m op_lines ops

-- the lines of steps
pub text_of-map : {X : Type 0} (m : List ℕ) (f : X → List ℕ) (xs : List X) → text_of m (map f xs) ≡ flat_map (λ x. text_of m (f x ∷ [])) xs
unfolding text_of
text_of-map m f [] = refl
text_of-map m f (x ∷ xs) = ap₂ (λ (a b : List ℕ). a ++ b) (sym (append-nil (m ++ (f x ++ codes "\n")))) (text_of-map m f xs)

-- the lines of several plans and the bracket behind them
pub text_of-plans : (m : List ℕ) (plans : List Plan) → text_of m (between_brackets plan_lines plans) ≡ join_by (λ p. text_of (m ++ codes "  ") (plan_lines p)) (text_of m (codes ") (" ∷ [])) plans ++ text_of m (codes ")" ∷ [])
unfolding between_brackets
text_of-plans m plans = text_of-append m (join_by (λ p. further_in (plan_lines p)) (codes ") (" ∷ []) plans) (codes ")" ∷ []) ∙ ap (λ l. l ++ text_of m (codes ")" ∷ [])) (joined plans)
  where
    between : (ps : List Plan) → text_of m (flat_map (λ p. codes ") (" ∷ further_in (plan_lines p)) ps) ≡ flat_map (λ p. text_of m (codes ") (" ∷ []) ++ text_of (m ++ codes "  ") (plan_lines p)) ps
    between [] = text_of-nil m
    between (p ∷ ps) = text_of-append m (codes ") (" ∷ further_in (plan_lines p)) (flat_map (λ q. codes ") (" ∷ further_in (plan_lines q)) ps)
        ∙ ap₂ (λ (a b : List ℕ). a ++ b) (text_of-append m (codes ") (" ∷ []) (further_in (plan_lines p)) ∙ ap (λ l. text_of m (codes ") (" ∷ []) ++ l) (text_of-further_in m (plan_lines p))) (between ps)

    joined : (ps : List Plan) → text_of m (join_by (λ p. further_in (plan_lines p)) (codes ") (" ∷ []) ps) ≡ join_by (λ p. text_of (m ++ codes "  ") (plan_lines p)) (text_of m (codes ") (" ∷ [])) ps
    joined [] = text_of-nil m
    joined (p ∷ ps) = text_of-append m (further_in (plan_lines p)) (flat_map (λ q. codes ") (" ∷ further_in (plan_lines q)) ps)
        ∙ ap₂ (λ (a b : List ℕ). a ++ b) (text_of-further_in m (plan_lines p)) (between ps)

-- a plan, an operator, a let
pub text_of-plan : (m : List ℕ) (p : Plan) → text_of m (plan_lines p) ≡ text_of m (source_text p.source ∷ []) ++ text_of m (flat_map op_lines p.ops)
text_of-plan m p = ap (text_of m) (plan_lines-out p) ∙ text_of-append m (source_text p.source ∷ []) (flat_map op_lines p.ops)

pub text_of-op : (m : List ℕ) (op : Op) → text_of m (op_lines op) ≡ text_of m ((codes "| " ++ line_text op) ∷ []) ++ text_of m (within_lines op)
text_of-op m op = ap (text_of m) (op_lines-out op) ∙ text_of-append m ((codes "| " ++ line_text op) ∷ []) (within_lines op)

pub text_of-let : (m : List ℕ) (i : ℕ) (p : Plan) → text_of m (let_lines i p) ≡ text_of m (let_line i ∷ []) ++ text_of m (in_brackets (plan_lines p))
unfolding let_lines
text_of-let m i p = text_of-append m (let_line i ∷ []) (in_brackets (plan_lines p))

-- one let more
lets_lines-more : (ps : List Plan) (k i : ℕ) (d : Plan) → i < length ps → lets_lines k (take (suc i) ps) ≡ lets_lines k (take i ps) ++ let_lines (k + i) (get_or ps i d)
unfolding lets_lines
lets_lines-more [] k i d h = absurd (omega arith)
lets_lines-more (p ∷ ps) k zero d h = rw add-zero (append-nil (let_lines k p))
lets_lines-more (p ∷ ps) k (suc i) d h = ap (λ l. let_lines k p ++ l) (lets_lines-more ps (suc k) i d (omega arith)) ∙ sym (append_assoc (let_lines k p) _ _)
    ∙ ap (λ n. (let_lines k p ++ lets_lines (suc k) (take i ps)) ++ let_lines n (get_or ps i d)) (omega arith)

pub text_of-lets : (m : List ℕ) (ps : List Plan) (i j : ℕ) (p : Plan) → i < length ps → j ≡ suc i → p ≡ get_or ps i p → text_of m (lets_lines 0 (take j ps)) ≡ text_of m (lets_lines 0 (take i ps)) ++ text_of m (let_lines i p)
text_of-lets m ps i j p h n e = lets-next m ps i j p h n ∙ ap (λ (q : Plan). text_of m (lets_lines 0 (take i ps)) ++ text_of m (let_lines i q)) (sym e)
  where
    lets-next : (m : List ℕ) (ps : List Plan) (i j : ℕ) (d : Plan) → i < length ps → j ≡ suc i → text_of m (lets_lines 0 (take j ps)) ≡ text_of m (lets_lines 0 (take i ps)) ++ text_of m (let_lines i (get_or ps i d))
    lets-next m ps i j d h n = rw n (ap (text_of m) (lets_lines-more ps 0 i d h ∙ ap (λ k. lets_lines 0 (take i ps) ++ let_lines k (get_or ps i d)) (omega arith)) ∙ text_of-append m (lets_lines 0 (take i ps)) (let_lines i (get_or ps i d)))

pub text_of-no_lets : (m : List ℕ) (ps : List Plan) → text_of m (lets_lines 0 (take 0 ps)) ≡ []
unfolding text_of lets_lines
text_of-no_lets m ps = refl

pub text_of-program : (m : List ℕ) (lets : List Plan) (main : Plan) → text_of m (lets_lines 0 lets ++ plan_lines main) ≡ text_of m (lets_lines 0 lets) ++ text_of m (plan_lines main)
text_of-program m lets main = text_of-append m (lets_lines 0 lets) (plan_lines main)

pub ruleset no_lines = (text_of-nil, append-nil)

pub ruleset lines_of_plan = (text_of-plan, append_assoc)

pub ruleset lines_of_op = (text_of-op, append_assoc)

pub ruleset lines_of_let = (text_of-let, append_assoc)

pub ruleset lines_in_brackets = (text_of-in_brackets, append_assoc)

pub ruleset lines_between_brackets = (text_of-plans, append_assoc)

pub ruleset lines_of_program = (text_of-program, append_assoc)
