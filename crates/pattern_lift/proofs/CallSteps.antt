-- The equations of the calls of an expression, of whether they are lent, and of what it becomes.
use Rattle.std.proofs.Common.{◌≡◌, ℕ, Bool, true, false, List, [], ◌∷◌, ◌++◌, map, Option, Some, None, refl, sym, ap, ap₂, ◌∙◌, rules}
use Rattle.std.specs.Prelude.{◌&&◌}
use Rattle.std.specs.List.{flat_map, list_all}
use Rattle.kql_functions.specs.declared.aggregate.Aggregate.{Aggregate}
use Rattle.kql_functions.specs.declared.func.Func.{Func}
use Rattle.kql_functions.specs.declared.func.Func.TheVariants as func
use Rattle.kql_functions.specs.declared.func.PatternFunc.{PatternFunc}
use Rattle.kql_functions.specs.declared.window.Window.{Window}
use Rattle.kql_bound.specs.declared.expr.BExpr.{BExpr, fold-roll-BExpr, out-BExpr, out-roll-BExpr, para-roll-BExpr, the_lemmas}
use Rattle.kql_bound.specs.declared.expr.BExpr.TheOpen.{BExpr-F}
use Rattle.kql_bound.specs.declared.expr.BExpr.TheVariants as V
use Rattle.kql_bound.specs.declared.expr.ChainSign.{ChainSign}
use Rattle.kql_bound.specs.declared.expr.StepColumn.{StepColumn}
use Rattle.kql_bound.specs.declared.literal.Lit.{Lit}
use Rattle.pattern_lift.specs.declared.calls.PatternCall.{PatternCall}
use Rattle.pattern_lift.specs.Calls.{Part, Tested, calls, calls_are_lent, calls_in, calls_in_links, calls_step, is_call_of, lent_step, own_calls}
use Rattle.pattern_lift.specs.Derived.{named}
use Rattle.pattern_lift.specs.Lifted.{lifted, lifted_link, lifted_step}

-- Calls.

same_args : (es : List BExpr) → map (λ (a : Part). a.0) (map {B = Part} (λ (e : BExpr). (e, calls e)) es) ≡ es
same_args [] = refl
same_args (e ∷ es) = ap (λ (rest : List BExpr). e ∷ rest) (same_args es)

flat-once : (es : List BExpr) → flat_map (λ (a : Part). a.1) (map {B = Part} (λ (e : BExpr). (e, calls e)) es) ≡ flat_map calls es
flat-once [] = refl
flat-once (e ∷ es) = ap (λ ns. calls e ++ ns) (flat-once es)

flat-links : (ls : List (ChainSign × BExpr)) → flat_map (λ (l : ChainSign × Part). l.1.1) (map {B = ChainSign × Part} (λ (l : ChainSign × BExpr). (l.0, (l.1, calls l.1))) ls) ≡ flat_map (λ (l : ChainSign × BExpr). calls l.1) ls
flat-links [] = refl
flat-links (l ∷ ls) = ap (λ ns. calls l.1 ++ ns) (flat-links ls)

pub calls-Literal : (l : Lit) → calls (V.Literal l) ≡ []
unfolding calls
calls-Literal l = ap calls (sym (V.rolls-Literal l)) ∙ para-roll-BExpr (List PatternCall) calls_step (BExpr-F.Literal l)

pub calls-Column : (n : List ℕ) → calls (V.Column n) ≡ []
unfolding calls
calls-Column n = ap calls (sym (V.rolls-Column n)) ∙ para-roll-BExpr (List PatternCall) calls_step (BExpr-F.Column n)

pub calls-Step : (c : StepColumn) → calls (V.Step c) ≡ []
unfolding calls
calls-Step c = ap calls (sym (V.rolls-Step c)) ∙ para-roll-BExpr (List PatternCall) calls_step (BExpr-F.Step c)

pub calls-Call : (f : Func) (args : List BExpr) → calls (V.Call f args) ≡ own_calls f args ++ calls_in args
unfolding calls calls_in
calls-Call f args = ap calls (sym (V.rolls-Call f args)) ∙ (para-roll-BExpr (List PatternCall) calls_step (BExpr-F.Call f args)
    ∙ ap₂ (λ (xs ys : List PatternCall). xs ++ ys) (ap (own_calls f) (same_args args)) (flat-once args))

pub calls-Chain : (first : BExpr) (links : List (ChainSign × BExpr)) → calls (V.Chain first links) ≡ calls first ++ calls_in_links links
unfolding calls calls_in_links
calls-Chain first links = ap calls (sym (V.rolls-Chain first links)) ∙ (para-roll-BExpr (List PatternCall) calls_step (BExpr-F.Chain first links) ∙ ap (λ ns. calls first ++ ns) (flat-links links))

pub calls-Path : (whole : BExpr) (steps : List BExpr) → calls (V.Path whole steps) ≡ calls whole ++ calls_in steps
unfolding calls calls_in
calls-Path whole steps = ap calls (sym (V.rolls-Path whole steps)) ∙ (para-roll-BExpr (List PatternCall) calls_step (BExpr-F.Path whole steps) ∙ ap (λ ns. calls whole ++ ns) (flat-once steps))

pub calls-Window : (f : Window) (args : List BExpr) → calls (V.Window f args) ≡ calls_in args
unfolding calls calls_in
calls-Window f args = ap calls (sym (V.rolls-Window f args)) ∙ (para-roll-BExpr (List PatternCall) calls_step (BExpr-F.Window f args) ∙ flat-once args)

pub calls-Aggregate : (f : Aggregate) (args : List BExpr) → calls (V.Aggregate f args) ≡ calls_in args
unfolding calls calls_in
calls-Aggregate f args = ap calls (sym (V.rolls-Aggregate f args)) ∙ (para-roll-BExpr (List PatternCall) calls_step (BExpr-F.Aggregate f args) ∙ flat-once args)

pub ruleset calls_steps = (calls-Literal, calls-Column, calls-Step, calls-Call, calls-Chain, calls-Path, calls-Window, calls-Aggregate)

-- What is lent.

abbrev tested : List (List ℕ) → BExpr → Tested
tested lent e = (e, calls_are_lent lent e)

tested-args : (lent : List (List ℕ)) (es : List BExpr) → map (λ (a : Tested). a.0) (map (tested lent) es) ≡ es
tested-args lent [] = refl
tested-args lent (e ∷ es) = ap (λ (rest : List BExpr). e ∷ rest) (tested-args lent es)

all-tested : (lent : List (List ℕ)) (es : List BExpr) → list_all (λ (a : Tested). a.1) (map (tested lent) es) ≡ list_all (calls_are_lent lent) es
all-tested lent [] = refl
all-tested lent (e ∷ es) = ap (λ b. calls_are_lent lent e && b) (all-tested lent es)

-- Whether those of the links of a chain are.
abbrev pub links_lent : List (List ℕ) → List (ChainSign × BExpr) → Bool
links_lent lent links = list_all (λ (l : ChainSign × BExpr). calls_are_lent lent l.1) links

all-links : (lent : List (List ℕ)) (ls : List (ChainSign × BExpr)) → list_all (λ (l : ChainSign × Tested). l.1.1) (map {B = ChainSign × Tested} (λ (l : ChainSign × BExpr). (l.0, tested lent l.1)) ls) ≡ links_lent lent ls
all-links lent [] = refl
all-links lent (l ∷ ls) = ap (λ b. calls_are_lent lent l.1 && b) (all-links lent ls)

pub lent-Literal : (lent : List (List ℕ)) (l : Lit) → calls_are_lent lent (V.Literal l) ≡ true
unfolding calls_are_lent
lent-Literal lent l = ap (calls_are_lent lent) (sym (V.rolls-Literal l)) ∙ para-roll-BExpr Bool (lent_step lent) (BExpr-F.Literal l)

pub lent-Column : (lent : List (List ℕ)) (n : List ℕ) → calls_are_lent lent (V.Column n) ≡ true
unfolding calls_are_lent
lent-Column lent n = ap (calls_are_lent lent) (sym (V.rolls-Column n)) ∙ para-roll-BExpr Bool (lent_step lent) (BExpr-F.Column n)

pub lent-Step : (lent : List (List ℕ)) (c : StepColumn) → calls_are_lent lent (V.Step c) ≡ true
unfolding calls_are_lent
lent-Step lent c = ap (calls_are_lent lent) (sym (V.rolls-Step c)) ∙ para-roll-BExpr Bool (lent_step lent) (BExpr-F.Step c)

pub lent-Call : (lent : List (List ℕ)) (f : Func) (args : List BExpr) → calls_are_lent lent (V.Call f args) ≡ (is_call_of lent f args && list_all (calls_are_lent lent) args)
unfolding calls_are_lent
lent-Call lent f args = ap (calls_are_lent lent) (sym (V.rolls-Call f args)) ∙ (para-roll-BExpr Bool (lent_step lent) (BExpr-F.Call f args)
    ∙ ap₂ (λ (a b : Bool). a && b) (ap (is_call_of lent f) (tested-args lent args)) (all-tested lent args))

pub lent-Chain : (lent : List (List ℕ)) (first : BExpr) (links : List (ChainSign × BExpr)) → calls_are_lent lent (V.Chain first links) ≡ (calls_are_lent lent first && links_lent lent links)
unfolding calls_are_lent
lent-Chain lent first links = ap (calls_are_lent lent) (sym (V.rolls-Chain first links)) ∙ (para-roll-BExpr Bool (lent_step lent) (BExpr-F.Chain first links) ∙ ap (λ b. calls_are_lent lent first && b) (all-links lent links))

pub lent-Path : (lent : List (List ℕ)) (whole : BExpr) (steps : List BExpr) → calls_are_lent lent (V.Path whole steps) ≡ (calls_are_lent lent whole && list_all (calls_are_lent lent) steps)
unfolding calls_are_lent
lent-Path lent whole steps = ap (calls_are_lent lent) (sym (V.rolls-Path whole steps)) ∙ (para-roll-BExpr Bool (lent_step lent) (BExpr-F.Path whole steps) ∙ ap (λ b. calls_are_lent lent whole && b) (all-tested lent steps))

pub lent-Window : (lent : List (List ℕ)) (f : Window) (args : List BExpr) → calls_are_lent lent (V.Window f args) ≡ list_all (calls_are_lent lent) args
unfolding calls_are_lent
lent-Window lent f args = ap (calls_are_lent lent) (sym (V.rolls-Window f args)) ∙ (para-roll-BExpr Bool (lent_step lent) (BExpr-F.Window f args) ∙ all-tested lent args)

pub lent-Aggregate : (lent : List (List ℕ)) (f : Aggregate) (args : List BExpr) → calls_are_lent lent (V.Aggregate f args) ≡ list_all (calls_are_lent lent) args
unfolding calls_are_lent
lent-Aggregate lent f args = ap (calls_are_lent lent) (sym (V.rolls-Aggregate f args)) ∙ (para-roll-BExpr Bool (lent_step lent) (BExpr-F.Aggregate f args) ∙ all-tested lent args)

pub ruleset lent_steps = (lent-Literal, lent-Column, lent-Step, lent-Call, lent-Chain, lent-Path, lent-Window, lent-Aggregate)

-- What it becomes.

pub lifts-Literal : (marks : List ℕ) (l : Lit) → lifted marks (V.Literal l) ≡ V.Literal l
unfolding lifted
lifts-Literal marks l = ap (lifted marks) (sym (V.rolls-Literal l)) ∙ fold-roll-BExpr BExpr (lifted_step marks) (BExpr-F.Literal l)

pub lifts-Column : (marks : List ℕ) (n : List ℕ) → lifted marks (V.Column n) ≡ V.Column n
unfolding lifted
lifts-Column marks n = ap (lifted marks) (sym (V.rolls-Column n)) ∙ fold-roll-BExpr BExpr (lifted_step marks) (BExpr-F.Column n)

pub lifts-Step : (marks : List ℕ) (c : StepColumn) → lifted marks (V.Step c) ≡ V.Step c
unfolding lifted
lifts-Step marks c = ap (lifted marks) (sym (V.rolls-Step c)) ∙ fold-roll-BExpr BExpr (lifted_step marks) (BExpr-F.Step c)

pub lifts-Call : (marks : List ℕ) (f : Func) (args : List BExpr) → lifted marks (V.Call f args) ≡ lifted_step marks (BExpr-F.Call f (map (lifted marks) args))
unfolding lifted
lifts-Call marks f args = ap (lifted marks) (sym (V.rolls-Call f args)) ∙ fold-roll-BExpr BExpr (lifted_step marks) (BExpr-F.Call f args)

pub lifts-Chain : (marks : List ℕ) (first : BExpr) (links : List (ChainSign × BExpr)) → lifted marks (V.Chain first links) ≡ V.Chain (lifted marks first) (map (lifted_link marks) links)
unfolding lifted
lifts-Chain marks first links = ap (lifted marks) (sym (V.rolls-Chain first links)) ∙ fold-roll-BExpr BExpr (lifted_step marks) (BExpr-F.Chain first links)

pub lifts-Path : (marks : List ℕ) (whole : BExpr) (steps : List BExpr) → lifted marks (V.Path whole steps) ≡ V.Path (lifted marks whole) (map (lifted marks) steps)
unfolding lifted
lifts-Path marks whole steps = ap (lifted marks) (sym (V.rolls-Path whole steps)) ∙ fold-roll-BExpr BExpr (lifted_step marks) (BExpr-F.Path whole steps)

pub lifts-Window : (marks : List ℕ) (f : Window) (args : List BExpr) → lifted marks (V.Window f args) ≡ V.Window f (map (lifted marks) args)
unfolding lifted
lifts-Window marks f args = ap (lifted marks) (sym (V.rolls-Window f args)) ∙ fold-roll-BExpr BExpr (lifted_step marks) (BExpr-F.Window f args)

pub lifts-Aggregate : (marks : List ℕ) (f : Aggregate) (args : List BExpr) → lifted marks (V.Aggregate f args) ≡ V.Aggregate f (map (lifted marks) args)
unfolding lifted
lifts-Aggregate marks f args = ap (lifted marks) (sym (V.rolls-Aggregate f args)) ∙ fold-roll-BExpr BExpr (lifted_step marks) (BExpr-F.Aggregate f args)

pub ruleset lifting_steps = (lifts-Literal, lifts-Column, lifts-Step, lifts-Call, lifts-Chain, lifts-Path, lifts-Window, lifts-Aggregate)
