-- The equations of the names that are read, and what reads only them.
use Rattle.std.proofs.Common.{◌≡◌, ◌<◌, ℕ, zero, suc, Bool, true, false, not, List, [], ◌∷◌, ◌++◌, map, take, length, get_or, refl, sym, ap, ap₂, ◌∙◌, subst, inl, inr, arith}
use Rattle.std.specs.Prelude.{◌&&◌}
use Rattle.std.specs.List.{flat_map, list_all}
use Rattle.std.proofs.lemmas.Bool.{and_parts, cases_Bool}
use Rattle.kql_functions.specs.declared.func.Func.{Func}
use Rattle.kql_functions.specs.declared.aggregate.Aggregate.{Aggregate}
use Rattle.kql_functions.specs.declared.window.Window.{Window}
use Rattle.kql_bound.specs.declared.expr.BExpr.{BExpr, fold-roll-BExpr, ind-BExpr, map-BExpr, roll-BExpr}
use Rattle.kql_bound.specs.declared.expr.BExpr.TheOpen.{BExpr-F}
use Rattle.kql_bound.specs.declared.expr.BExpr.TheVariants as V
use Rattle.kql_bound.specs.declared.expr.ChainSign.{ChainSign}
use Rattle.kql_bound.specs.declared.expr.StepColumn.{StepColumn}
use Rattle.kql_bound.specs.declared.literal.Lit.{Lit}
use Rattle.kql_meaning.specs.RowByRow.{is_plain}
use Rattle.kql_meaning.proofs.PlainLaws.{links_plain, plain-Aggregate, plain-Call, plain-Chain, plain-Path, plain-Window}
use Rattle.plan_rules.specs.Reads.{reads_only}
use Rattle.plan_rules.proofs.ReadSteps.{reads-Call, reads-Chain, reads-Column, reads-Literal, reads-Path, reads-Step}
use Rattle.plan_rules.proofs.ReadValues.{plain-of}
use Rattle.plan_terms.specs.NamesRead.{names_in, names_in_links, names_read, names_step}

flat-once : (es : List BExpr) → flat_map (λ ns. ns) (map names_read es) ≡ flat_map names_read es
flat-once [] = refl
flat-once (e ∷ es) = ap (λ ns. names_read e ++ ns) (flat-once es)

flat-links : (ls : List (ChainSign × BExpr)) → flat_map (λ (l : ChainSign × List (List ℕ)). l.1) (map {B = ChainSign × List (List ℕ)} (λ (l : ChainSign × BExpr). (l.0, names_read l.1)) ls) ≡ flat_map (λ (l : ChainSign × BExpr). names_read l.1) ls
flat-links [] = refl
flat-links (l ∷ ls) = ap (λ ns. names_read l.1 ++ ns) (flat-links ls)

pub names-Literal : (l : Lit) → names_read (V.Literal l) ≡ []
unfolding names_read
names-Literal l = ap names_read (sym (V.rolls-Literal l)) ∙ fold-roll-BExpr (List (List ℕ)) names_step (BExpr-F.Literal l)

pub names-Column : (n : List ℕ) → names_read (V.Column n) ≡ n ∷ []
unfolding names_read
names-Column n = ap names_read (sym (V.rolls-Column n)) ∙ fold-roll-BExpr (List (List ℕ)) names_step (BExpr-F.Column n)

pub names-Step : (c : StepColumn) → names_read (V.Step c) ≡ []
unfolding names_read
names-Step c = ap names_read (sym (V.rolls-Step c)) ∙ fold-roll-BExpr (List (List ℕ)) names_step (BExpr-F.Step c)

pub names-Call : (f : Func) (args : List BExpr) → names_read (V.Call f args) ≡ names_in args
unfolding names_read names_in
names-Call f args = ap names_read (sym (V.rolls-Call f args)) ∙ (fold-roll-BExpr (List (List ℕ)) names_step (BExpr-F.Call f args) ∙ flat-once args)

pub names-Chain : (first : BExpr) (links : List (ChainSign × BExpr)) → names_read (V.Chain first links) ≡ names_read first ++ names_in_links links
unfolding names_read names_in_links
names-Chain first links = ap names_read (sym (V.rolls-Chain first links)) ∙ (fold-roll-BExpr (List (List ℕ)) names_step (BExpr-F.Chain first links) ∙ ap (λ ns. names_read first ++ ns) (flat-links links))

pub names-Path : (whole : BExpr) (steps : List BExpr) → names_read (V.Path whole steps) ≡ names_read whole ++ names_in steps
unfolding names_read names_in
names-Path whole steps = ap names_read (sym (V.rolls-Path whole steps)) ∙ (fold-roll-BExpr (List (List ℕ)) names_step (BExpr-F.Path whole steps) ∙ ap (λ ns. names_read whole ++ ns) (flat-once steps))

pub names-Window : (f : Window) (args : List BExpr) → names_read (V.Window f args) ≡ []
unfolding names_read
names-Window f args = ap names_read (sym (V.rolls-Window f args)) ∙ fold-roll-BExpr (List (List ℕ)) names_step (BExpr-F.Window f args)

pub names-Aggregate : (f : Aggregate) (args : List BExpr) → names_read (V.Aggregate f args) ≡ []
unfolding names_read
names-Aggregate f args = ap names_read (sym (V.rolls-Aggregate f args)) ∙ fold-roll-BExpr (List (List ℕ)) names_step (BExpr-F.Aggregate f args)

pub ruleset names_steps = (names-Literal, names-Column, names-Step, names-Call, names-Chain, names-Path, names-Window, names-Aggregate)

-- A link that is not plain.
pub link-refused : (links : List (ChainSign × BExpr)) (i : ℕ) (link : ChainSign × BExpr) (b : Bool) → i < length links → link ≡ get_or links i link → b ≡ is_plain link.1 → b ≡ false → links_plain links ≡ false
link-refused [] i link b lt at e n = absurd (omega arith)
link-refused (l ∷ ls) zero link b lt at e n = let here : is_plain l.1 ≡ false = ap (λ (k : ChainSign × BExpr). is_plain k.1) (sym at) ∙ (sym e ∙ n) in rw here refl
link-refused (l ∷ ls) (suc i) link b lt at e n = rw (link-refused ls i link b (omega arith) at e n) (and-no (is_plain l.1))
  where
    and-no : (b : Bool) → (b && false) ≡ false
    and-no true = refl
    and-no false = refl

-- A plain expression reads only what passes a test where the names that it reads do.

and-and : (a b c : Bool) → ((a && b) && c) ≡ (a && (b && c))
and-and true b c = refl
and-and false b c = refl

all-append : (p : List ℕ → Bool) (xs ys : List (List ℕ)) → list_all p (xs ++ ys) ≡ (list_all p xs && list_all p ys)
all-append p [] ys = refl
all-append p (x ∷ xs) ys = ap (λ b. p x && b) (all-append p xs ys) ∙ sym (and-and (p x) (list_all p xs) (list_all p ys))

and-one : (b : Bool) → b ≡ (b && true)
and-one true = refl
and-one false = refl

abbrev ReadsNames : BExpr → Type 0
ReadsNames e = is_plain e ≡ true → (p : List ℕ → Bool) → reads_only p e ≡ list_all p (names_read e)

abbrev Given : Type 0
Given = (e : BExpr) × ReadsNames e

abbrev bare : Given → BExpr
bare g = g.0

abbrev bare_link : ChainSign × Given → ChainSign × BExpr
bare_link l = (l.0, l.1.0)

all-read : (gs : List Given) → list_all is_plain (map bare gs) ≡ true → (p : List ℕ → Bool) → list_all (reads_only p) (map bare gs) ≡ list_all p (names_in (map bare gs))
unfolding names_in
all-read [] r p = refl
all-read (g ∷ gs) r p =
    let b = and_parts (is_plain g.0) (list_all is_plain (map bare gs)) r in
    ap₂ (λ x y. x && y) (g.1 b.0 p) (all-read gs b.1 p) ∙ sym (all-append p (names_read g.0) (flat_map names_read (map bare gs)))

links-read : (ls : List (ChainSign × Given)) → links_plain (map bare_link ls) ≡ true → (p : List ℕ → Bool) → list_all (λ (l : ChainSign × BExpr). reads_only p l.1) (map bare_link ls) ≡ list_all p (names_in_links (map bare_link ls))
unfolding names_in_links
links-read [] r p = refl
links-read (l ∷ ls) r p =
    let b = and_parts (is_plain l.1.0) (links_plain (map bare_link ls)) r in
    ap₂ (λ x y. x && y) (l.1.1 b.0 p) (links-read ls b.1 p) ∙ sym (all-append p (names_read l.1.0) (flat_map (λ (k : ChainSign × BExpr). names_read k.1) (map bare_link ls)))

of-layer : (y : BExpr-F Given) → ReadsNames (roll-BExpr (map-BExpr Given BExpr bare y))
of-layer (BExpr-F.Literal l) = subst ReadsNames (sym (V.rolls-Literal l)) (λ r p. reads-Literal p l ∙ ap (list_all p) (sym (names-Literal l)))
of-layer (BExpr-F.Column n) = subst ReadsNames (sym (V.rolls-Column n)) (λ r p. reads-Column p n ∙ (and-one (p n) ∙ ap (list_all p) (sym (names-Column n))))
of-layer (BExpr-F.Step c) = subst ReadsNames (sym (V.rolls-Step c)) (λ r p. reads-Step p c ∙ ap (list_all p) (sym (names-Step c)))
of-layer (BExpr-F.Call f gs) = subst ReadsNames (sym (V.rolls-Call f (map bare gs))) (λ r p.
    reads-Call p f (map bare gs) ∙ (all-read gs (sym (plain-Call f (map bare gs)) ∙ r) p ∙ ap (list_all p) (sym (names-Call f (map bare gs)))))
of-layer (BExpr-F.Chain first gs) = subst ReadsNames (sym (V.rolls-Chain first.0 (map bare_link gs))) (λ r p.
    let b = and_parts (is_plain first.0) (links_plain (map bare_link gs)) (sym (plain-Chain first.0 (map bare_link gs)) ∙ r) in
    reads-Chain p first.0 (map bare_link gs) ∙ (ap₂ (λ x y. x && y) (first.1 b.0 p) (links-read gs b.1 p) ∙ (sym (all-append p (names_read first.0) (names_in_links (map bare_link gs))) ∙ ap (list_all p) (sym (names-Chain first.0 (map bare_link gs))))))
of-layer (BExpr-F.Path whole gs) = subst ReadsNames (sym (V.rolls-Path whole.0 (map bare gs))) (λ r p.
    let b = and_parts (is_plain whole.0) (list_all is_plain (map bare gs)) (sym (plain-Path whole.0 (map bare gs)) ∙ r) in
    reads-Path p whole.0 (map bare gs) ∙ (ap₂ (λ x y. x && y) (whole.1 b.0 p) (all-read gs b.1 p) ∙ (sym (all-append p (names_read whole.0) (names_in (map bare gs))) ∙ ap (list_all p) (sym (names-Path whole.0 (map bare gs))))))
of-layer (BExpr-F.Window f gs) = subst ReadsNames (sym (V.rolls-Window f (map bare gs))) (λ r p. let no : false ≡ true = sym (plain-Window f (map bare gs)) ∙ r in absurd cc)
of-layer (BExpr-F.Aggregate f gs) = subst ReadsNames (sym (V.rolls-Aggregate f (map bare gs))) (λ r p. let no : false ≡ true = sym (plain-Aggregate f (map bare gs)) ∙ r in absurd cc)

each-reads : (e : BExpr) → ReadsNames e
each-reads = ind-BExpr ReadsNames (λ x y is. subst (λ (z : BExpr-F BExpr). ReadsNames (roll-BExpr z)) is (of-layer y))

-- Of an expression that is plain, and of one that is not.
pub reads-plain : (p : List ℕ → Bool) (e : BExpr) → is_plain e ≡ true → reads_only p e ≡ list_all p (names_read e)
reads-plain p e r = each-reads e r p

pub reads-unplain : (p : List ℕ → Bool) (e : BExpr) → is_plain e ≡ false → reads_only p e ≡ false
reads-unplain p e f = elim (cases_Bool (reads_only p e)) [
  | inl t ↦ let no : false ≡ true = sym f ∙ plain-of p e t in absurd cc
  | inr n ↦ n
]

pub ruleset reads_steps = (reads-plain, reads-unplain)
