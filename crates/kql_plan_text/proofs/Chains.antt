-- Chains and paths, which nest to the left, written from left to right.
use Rattle.std.proofs.Common.{◌≡◌, ℕ, zero, suc, ◌+◌, ◌<◌, List, [], ◌∷◌, ◌++◌, map, drop, length, get_or, refl, sym, ap, ◌∙◌, append_assoc, append-nil, arith}
use Rattle.std.specs.Prelude.{codes}
use Rattle.std.specs.List.{flat_map}
use Rattle.kql_functions.specs.Names.{func_name}
use Rattle.kql_functions.specs.declared.func.Func.{Func}
use Rattle.kql_bound.specs.Signs.{sign_func}
use Rattle.kql_plan_text.specs.Exprs.{argument_end, chain_end, chain_front, chain_text, expr_text, pair_text, path_end, path_front, path_text}
use Rattle.kql_bound.specs.declared.expr.BExpr.{BExpr}
use Rattle.kql_bound.specs.declared.expr.ChainSign.{ChainSign}

abbrev pub Links : Type 0
Links = List (ChainSign × BExpr)

abbrev pub link_texts : Links → List (ChainSign × List ℕ)
link_texts links = map (λ (l : ChainSign × BExpr). (l.0, expr_text l.1)) links

pub chain-split : (left : List ℕ) (links : Links) → chain_text left (link_texts links) ≡ chain_front links ++ (left ++ chain_end links)
unfolding chain_text chain_front
chain-split left [] = sym (append-nil left)
chain-split left (l ∷ ls) =
    chain-split (pair_text (func_name (sign_func l.0)) left (expr_text l.1)) ls ∙ simp (append_assoc, append-nil)

ats-turn : (steps : List BExpr) (rest : List ℕ) → path_front steps ++ (codes "at(" ++ rest) ≡ codes "at(" ++ (path_front steps ++ rest)
ats-turn [] rest = refl
ats-turn (s ∷ ss) rest = ap (λ l. codes "at(" ++ l) (ats-turn ss rest)

pub path-split : (left : List ℕ) (steps : List BExpr) → path_text left (map expr_text steps) ≡ path_front steps ++ (left ++ path_end steps)
unfolding path_text
path-split left [] = sym (append-nil left)
path-split left (s ∷ ss) =
    path-split (pair_text (codes "at") left (expr_text s)) ss ∙ (ats-turn ss _ ∙ simp (append_assoc, append-nil))

-- one sign more in front
pub front_more : (links : Links) (i j : ℕ) (d : ChainSign × BExpr) → i < length links → j ≡ suc i → chain_front (drop i links) ≡ chain_front (drop j links) ++ (func_name (sign_func (get_or links i d).0) ++ codes "(")
unfolding chain_front
front_more [] i j d h n = absurd (omega arith)
front_more (k ∷ ks) zero j d h n = rw n refl
front_more (k ∷ ks) (suc i) j d h n = rw n (front_more ks i (suc i) d (omega arith) refl)

front_none : (links : Links) → chain_front (drop (length links) links) ≡ []
unfolding chain_front
front_none [] = refl
front_none (l ∷ ls) = front_none ls

pub front_start : (links : Links) (text : List ℕ) → text ≡ text ++ chain_front (drop (length links) links)
front_start links text = sym (ap (λ l. text ++ l) (front_none links) ∙ append-nil text)

-- one turn of writing the front of a chain
pub front_step : (start before signed after name : List ℕ) (links : Links) (i j : ℕ) (d : ChainSign × BExpr) (f : Func) → i < length links → j ≡ suc i → before ≡ start ++ chain_front (drop j links) → f ≡ sign_func (get_or links i d).0 → name ≡ func_name f → signed ≡ before ++ name → after ≡ signed ++ codes "(" → after ≡ start ++ chain_front (drop i links)
front_step start before signed after name links i j d f lt n written func named put bracket =
    rw (bracket, put, named, func, written, front_more links i j d lt n) (simp append_assoc)
