-- What a front becomes with what stands behind it.
use Rattle.std.proofs.Common.{◌≡◌, ◌<◌, ◌≤◌, ◌+◌, ◌-◌, ◌++◌, ℕ, suc, true, List, [], ◌∷◌, length, get_or, take, drop, refl, sym, ap, ◌∙◌, subst, add-one, arith}
use Rattle.std.specs.Prelude.{false, Option, None, Some, is_some, option_and_then, option_map, reverse, unwrap_or, if◌then◌else◌}
use Rattle.std.proofs.Math.Seq.{drop-cons}
use Rattle.std.proofs.lemmas.List.{drop_all, length-drop, length-reverse, reverse-append, reverse-reverse, take-append-drop, take-append-le, take_all}
use Rattle.kql_functions.specs.declared.func.Func.{Func}
use Rattle.kql_bound.specs.Signs.{sign_func}
use Rattle.kql_bound.specs.declared.expr.BExpr.{BExpr}
use Rattle.kql_bound.specs.declared.expr.BExpr.TheVariants as V
use Rattle.kql_bound.specs.declared.expr.ChainSign.{ChainSign}
use Rattle.kql_bound.specs.declared.literal.Lit.{Lit}
use Rattle.kql_meaning.specs.Expressions.{look}
use Rattle.kql_meaning.specs.FittingExpressions.{literal_of}
use Rattle.kql_meaning.specs.Literals.{is_well_formed}
use Rattle.kql_meaning.proofs.ExpressionFitLaws.{literal-Literal}
use Rattle.plan_rules.specs.Folding.{chain_from, folded_chain, folded_path, literal_joined, path_from, sound_literal}
use Rattle.plan_rules.proofs.FoldedReadings.{sound-is}
use Rattle.plan_constants.specs.Fronts.{ended_chain, ended_path, joined}
use Rattle.plan_constants.proofs.CallSteps.{front-formed}

-- Lists without their first items.

behind-of : {A : Type 0} (front back : List A) → reverse (take (length back) (reverse (front ++ back))) ≡ back
behind-of front back =
    let n : length back ≤ length (reverse back) = omega (arith, length-reverse back) in
    let m : length (reverse back) ≤ length back = omega (arith, length-reverse back) in
    ap (λ xs. reverse (take (length back) xs)) (reverse-append front back)
    ∙ (ap reverse (take-append-le (length back) (reverse back) (reverse front) n ∙ take_all (length back) (reverse back) m) ∙ reverse-reverse back)

pub behind-is : {A : Type 0} (k : ℕ) (xs : List A) → k ≤ length xs → reverse (take (length xs - k) (reverse xs)) ≡ drop k xs
behind-is {A} k xs h =
    subst (λ (n : ℕ). reverse (take n (reverse xs)) ≡ drop k xs) (length-drop k xs)
    (subst (λ (ys : List A). reverse (take (length (drop k xs)) (reverse ys)) ≡ drop k xs) (take-append-drop k xs) (behind-of (take k xs) (drop k xs)))

pub ruleset behind_steps = (behind-is)

-- A literal that takes in what stands behind it.

sound-literal : (b : Lit) → is_well_formed b.value ≡ true → sound_literal (V.Literal b) ≡ Some b
unfolding sound_literal
sound-literal b h = rw (literal-Literal b, h) refl

joined-more : (f : Func) (front e next : BExpr) (a : Lit) (o : Option Lit) → sound_literal front ≡ Some a → literal_joined f a e ≡ o → Some next ≡ option_map V.Literal o → (x y : Lit) × (sound_literal front ≡ Some x) × (literal_joined f x e ≡ Some y) × (sound_literal next ≡ Some y)
joined-more f front e next a None is h g = absurd cc
joined-more f front e next a (Some b) is h g =
    let formed = front-formed f a e b (literal_joined f a e) refl h (sound-is front a is).1 in
    let same : next ≡ V.Literal b = cc in
    (a, b, is, h, ap sound_literal same ∙ sound-literal b formed)

joined-of : (f : Func) (front e next : BExpr) (o : Option Lit) → sound_literal front ≡ o → Some next ≡ option_map V.Literal (option_and_then (λ a. literal_joined f a e) o) → (x y : Lit) × (sound_literal front ≡ Some x) × (literal_joined f x e ≡ Some y) × (sound_literal next ≡ Some y)
joined-of f front e next None is h = absurd cc
joined-of f front e next (Some a) is h = joined-more f front e next a (literal_joined f a e) is refl h

-- What a front and the part behind it become is a literal of theirs.
joined-is : (f : Func) (front e next : BExpr) → Some next ≡ joined f front e → (x y : Lit) × (sound_literal front ≡ Some x) × (literal_joined f x e ≡ Some y) × (sound_literal next ≡ Some y)
unfolding joined
joined-is f front e next h = joined-of f front e next (sound_literal front) refl h

opened : {A : Type 0} (xs : List A) (i : ℕ) (x : A) → i < length xs → x ≡ get_or xs i x → drop i xs ≡ x ∷ drop (i + 1) xs
opened xs i x h e = rw add-one (drop-cons xs i x h ∙ ap (λ y. y ∷ drop (suc i) xs) (sym e))

-- Chains.

chain-next : (front next : BExpr) (l : ChainSign × BExpr) (ls : List (ChainSign × BExpr)) → Some next ≡ joined (sign_func l.0) front l.1 → folded_chain front (l ∷ ls) ≡ folded_chain next ls
unfolding folded_chain chain_from
chain-next front next l ls h =
    let r = joined-is (sign_func l.0) front l.1 next h in
    rw (r.2, r.3, r.4) refl

chain-kept : (a : Lit) (l : ChainSign × BExpr) (ls : List (ChainSign × BExpr)) (o : Option Lit) → literal_joined (sign_func l.0) a l.1 ≡ o → None ≡ option_map V.Literal o → chain_from a (l ∷ ls) ≡ V.Chain (V.Literal a) (l ∷ ls)
unfolding chain_from
chain-kept a l ls None is h = rw is refl
chain-kept a l ls (Some b) is h = absurd cc

chain-stays : (front : BExpr) (l : ChainSign × BExpr) (ls : List (ChainSign × BExpr)) (o : Option Lit) → sound_literal front ≡ o → None ≡ option_map V.Literal (option_and_then (λ a. literal_joined (sign_func l.0) a l.1) o) → folded_chain front (l ∷ ls) ≡ V.Chain front (l ∷ ls)
unfolding folded_chain
chain-stays front l ls None is h = rw is refl
chain-stays front l ls (Some a) is h =
    rw is (chain-kept a l ls (literal_joined (sign_func l.0) a l.1) refl h ∙ ap (λ e. V.Chain e (l ∷ ls)) (sym (sound-is front a is).0))

pub chain-turned : (first : BExpr) (links : List (ChainSign × BExpr)) (i : ℕ) (front next : BExpr) (l : ChainSign × BExpr) → i < length links → l ≡ get_or links i l → folded_chain first links ≡ folded_chain front (drop i links) → Some next ≡ joined (sign_func l.0) front l.1 → folded_chain first links ≡ folded_chain next (drop (i + 1) links)
chain-turned first links i front next l h is same made = same ∙ (ap (folded_chain front) (opened links i l h is) ∙ chain-next front next l (drop (i + 1) links) made)

pub chain-stopped : (first : BExpr) (links : List (ChainSign × BExpr)) (i : ℕ) (front : BExpr) (l : ChainSign × BExpr) → i < length links → l ≡ get_or links i l → folded_chain first links ≡ folded_chain front (drop i links) → None ≡ joined (sign_func l.0) front l.1 → folded_chain first links ≡ ended_chain front (drop i links)
unfolding ended_chain joined
chain-stopped first links i front l h is same made =
    let apart = opened links i l h is in
    rw apart (same ∙ (ap (folded_chain front) apart ∙ chain-stays front l (drop (i + 1) links) (sound_literal front) refl made))

pub chain-done : (first : BExpr) (links : List (ChainSign × BExpr)) (i : ℕ) (front : BExpr) → length links ≤ i → folded_chain first links ≡ folded_chain front (drop i links) → folded_chain first links ≡ ended_chain front (drop i links)
unfolding ended_chain
chain-done first links i front h same = let none : drop i links ≡ [] = drop_all i links h in rw none (rw none at same)

-- Paths.

path-next : (front next : BExpr) (e : BExpr) (es : List BExpr) → Some next ≡ joined look front e → folded_path front (e ∷ es) ≡ folded_path next es
unfolding folded_path path_from
path-next front next e es h =
    let r = joined-is look front e next h in
    rw (r.2, r.3, r.4) refl

path-kept : (a : Lit) (e : BExpr) (es : List BExpr) (o : Option Lit) → literal_joined look a e ≡ o → None ≡ option_map V.Literal o → path_from a (e ∷ es) ≡ V.Path (V.Literal a) (e ∷ es)
unfolding path_from
path-kept a e es None is h = rw is refl
path-kept a e es (Some b) is h = absurd cc

path-stays : (front : BExpr) (e : BExpr) (es : List BExpr) (o : Option Lit) → sound_literal front ≡ o → None ≡ option_map V.Literal (option_and_then (λ a. literal_joined look a e) o) → folded_path front (e ∷ es) ≡ V.Path front (e ∷ es)
unfolding folded_path
path-stays front e es None is h = rw is refl
path-stays front e es (Some a) is h =
    rw is (path-kept a e es (literal_joined look a e) refl h ∙ ap (λ x. V.Path x (e ∷ es)) (sym (sound-is front a is).0))

pub path-turned : (first : BExpr) (steps : List BExpr) (i : ℕ) (front next : BExpr) (e : BExpr) → i < length steps → e ≡ get_or steps i e → folded_path first steps ≡ folded_path front (drop i steps) → Some next ≡ joined look front e → folded_path first steps ≡ folded_path next (drop (i + 1) steps)
path-turned first steps i front next e h is same made = same ∙ (ap (folded_path front) (opened steps i e h is) ∙ path-next front next e (drop (i + 1) steps) made)

pub path-stopped : (first : BExpr) (steps : List BExpr) (i : ℕ) (front : BExpr) (e : BExpr) → i < length steps → e ≡ get_or steps i e → folded_path first steps ≡ folded_path front (drop i steps) → None ≡ joined look front e → folded_path first steps ≡ ended_path front (drop i steps)
unfolding ended_path joined
path-stopped first steps i front e h is same made =
    let apart = opened steps i e h is in
    rw apart (same ∙ (ap (folded_path front) apart ∙ path-stays front e (drop (i + 1) steps) (sound_literal front) refl made))

pub path-done : (first : BExpr) (steps : List BExpr) (i : ℕ) (front : BExpr) → length steps ≤ i → folded_path first steps ≡ folded_path front (drop i steps) → folded_path first steps ≡ ended_path front (drop i steps)
unfolding ended_path
path-done first steps i front h same = let none : drop i steps ≡ [] = drop_all i steps h in rw none (rw none at same)

pub ruleset path_steps = (path-turned, path-stopped, path-done)

-- The ends.

chain-alone : (front : BExpr) (o : Option Lit) → sound_literal front ≡ o → is_some o ≡ true → front ≡ folded_chain front []
unfolding folded_chain chain_from
chain-alone front None is h = absurd cc
chain-alone front (Some a) is h = rw is (sound-is front a is).0

chain-bare : (front : BExpr) (o : Option Lit) → sound_literal front ≡ o → is_some o ≡ false → V.Chain front [] ≡ folded_chain front []
unfolding folded_chain
chain-bare front None is h = rw is refl
chain-bare front (Some a) is h = absurd cc

pub chain-front : (whole front : BExpr) (rest : List (ChainSign × BExpr)) → whole ≡ ended_chain front rest → rest ≡ [] → is_some (sound_literal front) ≡ true → front ≡ whole
unfolding ended_chain
chain-front whole front [] e none h = chain-alone front (sound_literal front) refl h ∙ sym e
chain-front whole front (l ∷ ls) e none h = absurd cc

pub chain-whole : (whole front : BExpr) (rest : List (ChainSign × BExpr)) → whole ≡ ended_chain front rest → (rest ≡ [] → is_some (sound_literal front) ≡ false) → V.Chain front rest ≡ whole
unfolding ended_chain
chain-whole whole front [] e h = chain-bare front (sound_literal front) refl (h refl) ∙ sym e
chain-whole whole front (l ∷ ls) e h = sym e

path-alone : (front : BExpr) (o : Option Lit) → sound_literal front ≡ o → is_some o ≡ true → front ≡ folded_path front []
unfolding folded_path path_from
path-alone front None is h = absurd cc
path-alone front (Some a) is h = rw is (sound-is front a is).0

path-bare : (front : BExpr) (o : Option Lit) → sound_literal front ≡ o → is_some o ≡ false → V.Path front [] ≡ folded_path front []
unfolding folded_path
path-bare front None is h = rw is refl
path-bare front (Some a) is h = absurd cc

pub path-front : (whole front : BExpr) (rest : List BExpr) → whole ≡ ended_path front rest → rest ≡ [] → is_some (sound_literal front) ≡ true → front ≡ whole
unfolding ended_path
path-front whole front [] e none h = path-alone front (sound_literal front) refl h ∙ sym e
path-front whole front (x ∷ xs) e none h = absurd cc

pub path-whole : (whole front : BExpr) (rest : List BExpr) → whole ≡ ended_path front rest → (rest ≡ [] → is_some (sound_literal front) ≡ false) → V.Path front rest ≡ whole
unfolding ended_path
path-whole whole front [] e h = path-bare front (sound_literal front) refl (h refl) ∙ sym e
path-whole whole front (x ∷ xs) e h = sym e

-- As the calls have them.

pub chain-made : (first front : BExpr) (links now rest : List (ChainSign × BExpr)) (k : ℕ) → now ≡ links → folded_chain first now ≡ ended_chain front (drop k now) → rest ≡ drop k links → folded_chain first links ≡ ended_chain front rest
chain-made first front links now rest k e h r = rw (r, ← e) h

pub path-made : (first front : BExpr) (steps now rest : List BExpr) (k : ℕ) → now ≡ steps → folded_path first now ≡ ended_path front (drop k now) → rest ≡ drop k steps → folded_path first steps ≡ ended_path front rest
path-made first front steps now rest k e h r = rw (r, ← e) h
