-- The laws of the rule on the nodes of expressions, as the contract has them.
use Rattle.std.proofs.Common.{◌≡◌, Bool, true, false, List, [], ◌∷◌, map, refl, ap, ap₂, sym, ◌∙◌, subst}
use Rattle.std.specs.Prelude.{Option, None, Some, option_and_then, option_map, unwrap_or}
use Rattle.std.specs.List.{list_all}
use Rattle.std.proofs.lemmas.Bool.{and_parts}
use Rattle.kql_cells.specs.declared.schema.Column.{Column}
use Rattle.kql_cells.specs.declared.value.Kind.{Kind}
use Rattle.kql_cells.specs.declared.value.Value.{Value}
use Rattle.kql_functions.specs.declared.func.Func.{Func}
use Rattle.kql_bound.specs.Signs.{sign_func}
use Rattle.kql_bound.specs.declared.expr.BExpr.{BExpr, ind-BExpr, map-BExpr, roll-BExpr}
use Rattle.kql_bound.specs.declared.expr.BExpr.TheOpen.{BExpr-F}
use Rattle.kql_bound.specs.declared.expr.BExpr.TheVariants as V
use Rattle.kql_bound.specs.declared.expr.ChainSign.{ChainSign}
use Rattle.kql_bound.specs.declared.literal.Lit.{Lit}
use Rattle.kql_meaning.specs.Expressions.{kind_of, look, val}
use Rattle.kql_meaning.specs.FittingExpressions.{literal_of}
use Rattle.kql_meaning.specs.Tables.{nothing}
use Rattle.kql_meaning.proofs.KindLaws.{kind-Literal}
use Rattle.kql_meaning.proofs.ValueLaws.{val-Literal}
use Rattle.plan_rules.specs.Constants.{is_constant}
use Rattle.plan_rules.specs.Folding.{chain_from, folded, folded_call, folded_chain, folded_path, literal_called, literal_joined, literal_or, path_from, sound_literal, sound_literals}
use Rattle.plan_rules.specs.LawsOfFolding.{FoldingConstants, FoldingFits, FoldingPrograms, FoldingReads}
use Rattle.plan_rules.proofs.FoldSteps.{constant-Aggregate, constant-Call, constant-Chain, constant-Column, constant-Literal, constant-Path, constant-Step, constant-Window, folded-Call, folded-Chain, folded-Literal, folded-Path, folded-varies, folded_link, literal-is}
use Rattle.plan_rules.proofs.FoldedExpressions.{folds}
use Rattle.plan_rules.proofs.FoldedPrograms.{program-becomes, program-fits, program-folded, program-no-longer, program-weighs}
use Rattle.plan_rules.proofs.FoldedReadings.{folded-kind, folded-reads, folded-val}

-- A constant stays one.

call-constant : (f : Func) (es : List BExpr) → list_all is_constant es ≡ true → is_constant (folded_call f es) ≡ true
unfolding folded_call
call-constant f es h = by (option_and_then (literal_called f) (sound_literals es))
  where
    by : (o : Option Lit) → is_constant (literal_or (V.Call f es) o) ≡ true
    by None = constant-Call f es ∙ h
    by (Some l) = constant-Literal l

abbrev links_constant : List (ChainSign × BExpr) → Bool
links_constant ls = list_all (λ (l : ChainSign × BExpr). is_constant l.1) ls

chain-next-constant : (a : Lit) (l : ChainSign × BExpr) (ls : List (ChainSign × BExpr)) → links_constant (l ∷ ls) ≡ true → ((b : Lit) → is_constant (chain_from b ls) ≡ true) → (o : Option Lit) → is_constant (unwrap_or (option_map (λ b. chain_from b ls) o) (V.Chain (V.Literal a) (l ∷ ls))) ≡ true
chain-next-constant a l ls h more None = constant-Chain (V.Literal a) (l ∷ ls) ∙ rw (constant-Literal a) h
chain-next-constant a l ls h more (Some b) = more b

chain-from-constant : (ls : List (ChainSign × BExpr)) (a : Lit) → links_constant ls ≡ true → is_constant (chain_from a ls) ≡ true
unfolding chain_from
chain-from-constant [] a h = constant-Literal a
chain-from-constant (l ∷ ls) a h =
    chain-next-constant a l ls h (λ b. chain-from-constant ls b (and_parts (is_constant l.1) (links_constant ls) h).1) (literal_joined (sign_func l.0) a l.1)

chain-constant : (first : BExpr) (ls : List (ChainSign × BExpr)) → is_constant first ≡ true → links_constant ls ≡ true → is_constant (folded_chain first ls) ≡ true
unfolding folded_chain
chain-constant first ls one h = by (sound_literal first)
  where
    by : (o : Option Lit) → is_constant (unwrap_or (option_map (λ a. chain_from a ls) o) (V.Chain first ls)) ≡ true
    by None = constant-Chain first ls ∙ rw (one, h) refl
    by (Some a) = chain-from-constant ls a h

path-next-constant : (a : Lit) (e : BExpr) (es : List BExpr) → list_all is_constant (e ∷ es) ≡ true → ((b : Lit) → is_constant (path_from b es) ≡ true) → (o : Option Lit) → is_constant (unwrap_or (option_map (λ b. path_from b es) o) (V.Path (V.Literal a) (e ∷ es))) ≡ true
path-next-constant a e es h more None = constant-Path (V.Literal a) (e ∷ es) ∙ rw (constant-Literal a) h
path-next-constant a e es h more (Some b) = more b

path-from-constant : (es : List BExpr) (a : Lit) → list_all is_constant es ≡ true → is_constant (path_from a es) ≡ true
unfolding path_from
path-from-constant [] a h = constant-Literal a
path-from-constant (e ∷ es) a h =
    path-next-constant a e es h (λ b. path-from-constant es b (and_parts (is_constant e) (list_all is_constant es) h).1) (literal_joined look a e)

path-constant : (whole : BExpr) (es : List BExpr) → is_constant whole ≡ true → list_all is_constant es ≡ true → is_constant (folded_path whole es) ≡ true
unfolding folded_path
path-constant whole es one h = by (sound_literal whole)
  where
    by : (o : Option Lit) → is_constant (unwrap_or (option_map (λ a. path_from a es) o) (V.Path whole es)) ≡ true
    by None = constant-Path whole es ∙ rw (one, h) refl
    by (Some a) = path-from-constant es a h

abbrev Keeps : BExpr → Type 0
Keeps e = is_constant e ≡ true → is_constant (folded e) ≡ true

abbrev Given : Type 0
Given = (e : BExpr) × Keeps e

abbrev bare : Given → BExpr
bare g = g.0

abbrev bare_link : ChainSign × Given → ChainSign × BExpr
bare_link l = (l.0, l.1.0)

all-constant : (gs : List Given) → list_all is_constant (map bare gs) ≡ true → list_all is_constant (map folded (map bare gs)) ≡ true
all-constant [] h = refl
all-constant (g ∷ gs) h =
    let b = and_parts (is_constant g.0) (list_all is_constant (map bare gs)) h in
    rw (g.1 b.0, all-constant gs b.1) refl

links-constant : (ls : List (ChainSign × Given)) → links_constant (map bare_link ls) ≡ true → links_constant (map folded_link (map bare_link ls)) ≡ true
links-constant [] h = refl
links-constant (l ∷ ls) h =
    let b = and_parts (is_constant l.1.0) (links_constant (map bare_link ls)) h in
    rw (l.1.1 b.0, links-constant ls b.1) refl

of-layer : (y : BExpr-F Given) → Keeps (roll-BExpr (map-BExpr Given BExpr bare y))
of-layer (BExpr-F.Literal l) = subst Keeps (sym (V.rolls-Literal l)) (λ h. ap is_constant (folded-Literal l) ∙ constant-Literal l)
of-layer (BExpr-F.Column n) = subst Keeps (sym (V.rolls-Column n)) (λ h. let no : false ≡ true = sym (constant-Column n) ∙ h in absurd cc)
of-layer (BExpr-F.Step c) = subst Keeps (sym (V.rolls-Step c)) (λ h. let no : false ≡ true = sym (constant-Step c) ∙ h in absurd cc)
of-layer (BExpr-F.Call f args) =
    let es = map bare args in
    subst Keeps (sym (V.rolls-Call f es)) (λ h. ap is_constant (folded-Call f es) ∙ call-constant f (map folded es) (all-constant args (sym (constant-Call f es) ∙ h)))
of-layer (BExpr-F.Chain first links) =
    let ls = map bare_link links in
    subst Keeps (sym (V.rolls-Chain first.0 ls)) (λ h.
    let b = and_parts (is_constant first.0) (links_constant ls) (sym (constant-Chain first.0 ls) ∙ h) in
    ap is_constant (folded-Chain first.0 ls) ∙ chain-constant (folded first.0) (map folded_link ls) (first.1 b.0) (links-constant links b.1))
of-layer (BExpr-F.Path whole steps) =
    let es = map bare steps in
    subst Keeps (sym (V.rolls-Path whole.0 es)) (λ h.
    let b = and_parts (is_constant whole.0) (list_all is_constant es) (sym (constant-Path whole.0 es) ∙ h) in
    ap is_constant (folded-Path whole.0 es) ∙ path-constant (folded whole.0) (map folded es) (whole.1 b.0) (all-constant steps b.1))
of-layer (BExpr-F.Window f args) = subst Keeps (sym (V.rolls-Window f (map bare args))) (λ h. let no : false ≡ true = sym (constant-Window f (map bare args)) ∙ h in absurd cc)
of-layer (BExpr-F.Aggregate f args) = subst Keeps (sym (V.rolls-Aggregate f (map bare args))) (λ h. let no : false ≡ true = sym (constant-Aggregate f (map bare args)) ∙ h in absurd cc)

constant-stays : (e : BExpr) → Keeps e
constant-stays = ind-BExpr Keeps (λ x y is. subst (λ (z : BExpr-F BExpr). Keeps (roll-BExpr z)) is (of-layer y))

-- The laws.

pub folding_reads : FoldingReads
folding_reads e = folded-reads e

pub folding_fits : FoldingFits
folding_fits e scope at h = folds e scope at h

some-kind : (a b : Kind) → Some a ≡ Some b → a ≡ b
some-kind a b e = cc

constant-by : (e : BExpr) (cs : List Column) (k : Kind) → kind_of e cs ≡ Some k → is_constant (folded e) ≡ true → (literal_of (folded e) ≡ None → is_constant (folded e) ≡ false) → (o : Option Lit) → literal_of (folded e) ≡ o → folded e ≡ V.Literal (record { kind = k; value = val e nothing 0 [] })
constant-by e cs k known c varies None m = let no : true ≡ false = sym c ∙ varies m in absurd cc
constant-by e cs k known c varies (Some l) m =
    let is = literal-is (folded e) l m in
    let typed : l.kind ≡ k = some-kind l.kind k (sym (kind-Literal l cs) ∙ (ap (λ x. kind_of x cs) (sym is) ∙ (folded-kind e cs ∙ known))) in
    let worth : l.value ≡ val e nothing 0 [] = sym (val-Literal l nothing 0 []) ∙ (ap (λ x. val x nothing 0 []) (sym is) ∙ folded-val e nothing 0 []) in
    is ∙ ap₂ (λ (j : Kind) (v : Value). V.Literal (record { kind = j; value = v })) typed worth

pub folding_constants : FoldingConstants
folding_constants e scope at k c h known =
    let good = folds e scope at h in
    constant-by e scope.columns k known (constant-stays e c) (folded-varies (folded e) good.1) (literal_of (folded e)) refl

pub folding_programs : FoldingPrograms
folding_programs p h = (program-fits p h, program-becomes p, program-no-longer p, program-weighs p, program-folded p h)

pub ruleset folding_laws = (folding_reads, folding_fits, folding_constants, folding_programs)
