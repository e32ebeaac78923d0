-- An expression under other names fits where the expression fits, if the names stand for columns of the same types.
use Rattle.std.proofs.Common.{◌≡◌, ℕ, Bool, true, false, List, [], ◌∷◌, map, refl, ap, ap₂, sym, ◌∙◌, subst, inl, inr}
use Rattle.std.specs.Prelude.{◌&&◌, is_some}
use Rattle.std.specs.List.{list_all}
use Rattle.std.proofs.lemmas.Bool.{and_parts}
use Rattle.kql_cells.specs.declared.schema.Column.{Column}
use Rattle.kql_cells.specs.declared.value.Kind.{Kind}
use Rattle.kql_functions.specs.declared.func.Func.{Func}
use Rattle.kql_functions.specs.declared.func.Func.TheVariants as func
use Rattle.kql_functions.specs.declared.func.TimeFunc.TheVariants as time
use Rattle.kql_bound.specs.declared.expr.BExpr.{BExpr, ind-BExpr, map-BExpr, roll-BExpr}
use Rattle.kql_bound.specs.declared.expr.BExpr.TheOpen.{BExpr-F}
use Rattle.kql_bound.specs.declared.expr.BExpr.TheVariants as V
use Rattle.kql_bound.specs.declared.expr.ChainSign.{ChainSign}
use Rattle.kql_bound.specs.declared.expr.StepColumn.{StepColumn}
use Rattle.kql_meaning.specs.declared.position.Position.{Position}
use Rattle.kql_meaning.specs.Expressions.{call_kind, column_kind, kind_along, kind_down, kind_of, kinds_in}
use Rattle.kql_meaning.specs.FittingExpressions.{expr_fits, first_is_part, first_word, fits_as, has_kind, is_callable, is_this_name, links_fit, literal_of, names_part, part_fits, scope_of, step_fits, takes_columns, word_in}
use Rattle.kql_meaning.specs.Tables.{has_column}
use Rattle.kql_meaning.proofs.KindLaws.{kind-Call, kind-Chain, kind-Path}
use Rattle.kql_meaning.proofs.MemberLaws.{Member, member-of-map}
use Rattle.kql_meaning.proofs.ExpressionFitLaws.{fits-Call, fits-Chain, fits-Column, fits-Literal, fits-Path, fits-Step, literal-Aggregate, literal-Call, literal-Chain, literal-Column, literal-Path, literal-Window}
use Rattle.plan_rules.proofs.ReadSteps.{link_names, names-Aggregate, names-Call, names-Chain, names-Column, names-Literal, names-Path, names-Step, names-Window, reads-Aggregate, reads-Call, reads-Chain, reads-Column, reads-Path, reads-Window}
use Rattle.plan_rules.proofs.ReadValues.{agrees}
use Rattle.plan_rules.specs.Reads.{reads_only, with_names}

-- Literals stay literals.

literal-layer : (f : List ℕ → List ℕ) (y : BExpr-F BExpr) → literal_of (with_names f (roll-BExpr y)) ≡ literal_of (roll-BExpr y)
literal-layer f (BExpr-F.Literal l) = subst (λ e. literal_of (with_names f e) ≡ literal_of e) (sym (V.rolls-Literal l)) (ap literal_of (names-Literal f l))
literal-layer f (BExpr-F.Column n) = subst (λ e. literal_of (with_names f e) ≡ literal_of e) (sym (V.rolls-Column n)) (ap literal_of (names-Column f n) ∙ (literal-Column (f n) ∙ sym (literal-Column n)))
literal-layer f (BExpr-F.Step c) = subst (λ e. literal_of (with_names f e) ≡ literal_of e) (sym (V.rolls-Step c)) (ap literal_of (names-Step f c))
literal-layer f (BExpr-F.Call g args) = subst (λ e. literal_of (with_names f e) ≡ literal_of e) (sym (V.rolls-Call g args)) (ap literal_of (names-Call f g args) ∙ (literal-Call g (map (with_names f) args) ∙ sym (literal-Call g args)))
literal-layer f (BExpr-F.Chain first links) = subst (λ e. literal_of (with_names f e) ≡ literal_of e) (sym (V.rolls-Chain first links)) (ap literal_of (names-Chain f first links) ∙ (literal-Chain (with_names f first) (map (link_names f) links) ∙ sym (literal-Chain first links)))
literal-layer f (BExpr-F.Path whole steps) = subst (λ e. literal_of (with_names f e) ≡ literal_of e) (sym (V.rolls-Path whole steps)) (ap literal_of (names-Path f whole steps) ∙ (literal-Path (with_names f whole) (map (with_names f) steps) ∙ sym (literal-Path whole steps)))
literal-layer f (BExpr-F.Window g args) = subst (λ e. literal_of (with_names f e) ≡ literal_of e) (sym (V.rolls-Window g args)) (ap literal_of (names-Window f g args) ∙ (literal-Window g (map (with_names f) args) ∙ sym (literal-Window g args)))
literal-layer f (BExpr-F.Aggregate g args) = subst (λ e. literal_of (with_names f e) ≡ literal_of e) (sym (V.rolls-Aggregate g args)) (ap literal_of (names-Aggregate f g args) ∙ (literal-Aggregate g (map (with_names f) args) ∙ sym (literal-Aggregate g args)))

pub literal-stays : (f : List ℕ → List ℕ) (e : BExpr) → literal_of (with_names f e) ≡ literal_of e
literal-stays f = ind-BExpr (λ e. literal_of (with_names f e) ≡ literal_of e) (λ x y is. subst (λ (z : BExpr-F BExpr). literal_of (with_names f (roll-BExpr z)) ≡ literal_of (roll-BExpr z)) is (literal-layer f (map-BExpr ((e : BExpr) × (literal_of (with_names f e) ≡ literal_of e)) BExpr (λ p. p.0) y)))

word-stays : (f : List ℕ → List ℕ) (args : List BExpr) → first_word (map (with_names f) args) ≡ first_word args
unfolding first_word
word-stays f [] = refl
word-stays f (e ∷ es) = ap word_in (literal-stays f e)

part-word : (g : Func) (xs ys : List BExpr) → first_word xs ≡ first_word ys → part_fits g xs ≡ part_fits g ys
unfolding part_fits first_is_part
part-word (func.Time time.DatetimeAdd) xs ys e = ap (names_part _) e
part-word (func.Time time.DatetimeDiff) xs ys e = ap (names_part _) e
part-word (func.Time time.DatetimePart) xs ys e = ap (names_part _) e
part-word _ xs ys e = refl

-- Step columns do not stand outside scan.

never : (b : Bool) → b && false ≡ false
never true = refl
never false = refl

pub step-outside : (cs : List Column) (c : StepColumn) → step_fits (scope_of cs) c ≡ false
unfolding step_fits is_this_name
step-outside cs c = never _

-- What is said of an expression.

abbrev pub SameColumns : (List ℕ → Bool) → (List ℕ → List ℕ) → List Column → List Column → Type 0
SameColumns p f cs ds = (n : List ℕ) → p n ≡ true → (has_column (f n) cs ≡ has_column n ds) × (column_kind (f n) cs ≡ column_kind n ds)

abbrev pub FitsAlike : BExpr → Type 0
FitsAlike e = (p : List ℕ → Bool) (f : List ℕ → List ℕ) → reads_only p e ≡ true → (cs ds : List Column) → SameColumns p f cs ds → (at : Position) → expr_fits (with_names f e) (scope_of cs) at ≡ expr_fits e (scope_of ds) at

abbrev EachAlike : List BExpr → Type 0
EachAlike es = (e : BExpr) → Member e es → FitsAlike e

abbrev LinksAlike : List (ChainSign × BExpr) → Type 0
LinksAlike ls = (l : ChainSign × BExpr) → Member l ls → FitsAlike l.1

all-alike : (es : List BExpr) → EachAlike es → (p : List ℕ → Bool) (f : List ℕ → List ℕ) → list_all (reads_only p) es ≡ true → (cs ds : List Column) → SameColumns p f cs ds → (at : Position) → list_all (λ e. expr_fits e (scope_of cs) at) (map (with_names f) es) ≡ list_all (λ e. expr_fits e (scope_of ds) at) es
all-alike [] each p f r cs ds h at = refl
all-alike (e ∷ es) each p f r cs ds h at =
    let b = and_parts (reads_only p e) (list_all (reads_only p) es) r in
    ap₂ (λ x y. x && y) (each e (inl refl) p f b.0 cs ds h at) (all-alike es (λ x m. each x (inr m)) p f b.1 cs ds h at)

links-alike : (ls : List (ChainSign × BExpr)) → LinksAlike ls → (p : List ℕ → Bool) (f : List ℕ → List ℕ) → list_all (λ (l : ChainSign × BExpr). reads_only p l.1) ls ≡ true → (cs ds : List Column) → SameColumns p f cs ds → (at : Position) → links_fit (map (link_names f) ls) (scope_of cs) at ≡ links_fit ls (scope_of ds) at
unfolding links_fit
links-alike [] each p f r cs ds h at = refl
links-alike (l ∷ ls) each p f r cs ds h at =
    let b = and_parts (reads_only p l.1) (list_all (λ (l : ChainSign × BExpr). reads_only p l.1) ls) r in
    ap₂ (λ x y. x && y) (each l (inl refl) p f b.0 cs ds h at) (links-alike ls (λ x m. each x (inr m)) p f b.1 cs ds h at)

-- One variant. The type of the whole comes from its equation and the law of types.

pub call-alike : (g : Func) (args : List BExpr) → EachAlike args → FitsAlike (V.Call g args)
call-alike g args each p f r cs ds h at =
    let b = sym (reads-Call p g args) ∙ r in
    let types : call_kind g (kinds_in (map (with_names f) args) cs) ≡ call_kind g (kinds_in args ds) =
    sym (kind-Call g (map (with_names f) args) cs) ∙ (ap (λ e. kind_of e cs) (sym (names-Call f g args)) ∙ ((agrees (V.Call g args) p f r).1 cs ds (λ n m. (h n m).1) ∙ kind-Call g args ds)) in
    ap (λ e. expr_fits e (scope_of cs) at) (names-Call f g args)
    ∙ (fits-Call g (map (with_names f) args) (scope_of cs) at
    ∙ (ap₂ (λ x y. is_callable g && (x && (y && is_some (call_kind g (kinds_in (map (with_names f) args) cs))))) (all-alike args each p f b cs ds h at) (part-word g (map (with_names f) args) args (word-stays f args))
    ∙ (ap (λ z. is_callable g && (list_all (λ e. expr_fits e (scope_of ds) at) args && (part_fits g args && is_some z))) types
    ∙ sym (fits-Call g args (scope_of ds) at))))

pub chain-alike : (first : BExpr) (links : List (ChainSign × BExpr)) → FitsAlike first → LinksAlike links → FitsAlike (V.Chain first links)
chain-alike first links one each p f r cs ds h at =
    let b = and_parts (reads_only p first) (list_all (λ (l : ChainSign × BExpr). reads_only p l.1) links) (sym (reads-Chain p first links) ∙ r) in
    let types : kind_along (map (link_names f) links) cs (kind_of (with_names f first) cs) ≡ kind_along links ds (kind_of first ds) =
    sym (kind-Chain (with_names f first) (map (link_names f) links) cs) ∙ (ap (λ e. kind_of e cs) (sym (names-Chain f first links)) ∙ ((agrees (V.Chain first links) p f r).1 cs ds (λ n m. (h n m).1) ∙ kind-Chain first links ds)) in
    ap (λ e. expr_fits e (scope_of cs) at) (names-Chain f first links)
    ∙ (fits-Chain (with_names f first) (map (link_names f) links) (scope_of cs) at
    ∙ (ap₂ (λ x y. x && (y && is_some (kind_along (map (link_names f) links) cs (kind_of (with_names f first) cs)))) (one p f b.0 cs ds h at) (links-alike links each p f b.1 cs ds h at)
    ∙ (ap (λ z. expr_fits first (scope_of ds) at && (links_fit links (scope_of ds) at && is_some z)) types
    ∙ sym (fits-Chain first links (scope_of ds) at))))

pub path-alike : (whole : BExpr) (steps : List BExpr) → FitsAlike whole → EachAlike steps → FitsAlike (V.Path whole steps)
path-alike whole steps one each p f r cs ds h at =
    let b = and_parts (reads_only p whole) (list_all (reads_only p) steps) (sym (reads-Path p whole steps) ∙ r) in
    let types : kind_down (map (with_names f) steps) cs (kind_of (with_names f whole) cs) ≡ kind_down steps ds (kind_of whole ds) =
    sym (kind-Path (with_names f whole) (map (with_names f) steps) cs) ∙ (ap (λ e. kind_of e cs) (sym (names-Path f whole steps)) ∙ ((agrees (V.Path whole steps) p f r).1 cs ds (λ n m. (h n m).1) ∙ kind-Path whole steps ds)) in
    ap (λ e. expr_fits e (scope_of cs) at) (names-Path f whole steps)
    ∙ (fits-Path (with_names f whole) (map (with_names f) steps) (scope_of cs) at
    ∙ (ap₂ (λ x y. x && (y && is_some (kind_down (map (with_names f) steps) cs (kind_of (with_names f whole) cs)))) (one p f b.0 cs ds h at) (all-alike steps each p f b.1 cs ds h at)
    ∙ (ap (λ z. expr_fits whole (scope_of ds) at && (list_all (λ e. expr_fits e (scope_of ds) at) steps && is_some z)) types
    ∙ sym (fits-Path whole steps (scope_of ds) at))))

-- All.

abbrev Given : Type 0
Given = (e : BExpr) × FitsAlike e

abbrev bare : Given → BExpr
bare p = p.0

abbrev bare_link : ChainSign × Given → ChainSign × BExpr
bare_link l = (l.0, l.1.0)

each-given : (ps : List Given) → EachAlike (map bare ps)
each-given ps e m = let q = member-of-map bare ps e m in subst FitsAlike q.2 q.0.1

each-link : (ls : List (ChainSign × Given)) → LinksAlike (map bare_link ls)
each-link ls l m = let q = member-of-map bare_link ls l m in subst (λ (k : ChainSign × BExpr). FitsAlike k.1) q.2 q.0.1.1

of-layer : (y : BExpr-F Given) → FitsAlike (roll-BExpr (map-BExpr Given BExpr bare y))
of-layer (BExpr-F.Literal l) = subst FitsAlike (sym (V.rolls-Literal l)) (λ p f r cs ds h at. ap (λ e. expr_fits e (scope_of cs) at) (names-Literal f l) ∙ (fits-Literal l (scope_of cs) at ∙ sym (fits-Literal l (scope_of ds) at)))
of-layer (BExpr-F.Column n) = subst FitsAlike (sym (V.rolls-Column n)) (λ p f r cs ds h at. ap (λ e. expr_fits e (scope_of cs) at) (names-Column f n) ∙ (fits-Column (f n) (scope_of cs) at ∙ (ap (λ b. takes_columns at && b) (h n (sym (reads-Column p n) ∙ r)).0 ∙ sym (fits-Column n (scope_of ds) at))))
of-layer (BExpr-F.Step c) = subst FitsAlike (sym (V.rolls-Step c)) (λ p f r cs ds h at. ap (λ e. expr_fits e (scope_of cs) at) (names-Step f c) ∙ (fits-Step c (scope_of cs) at ∙ (ap (λ b. takes_columns at && b) (step-outside cs c ∙ sym (step-outside ds c)) ∙ sym (fits-Step c (scope_of ds) at))))
of-layer (BExpr-F.Call f args) = subst FitsAlike (sym (V.rolls-Call f (map bare args))) (call-alike f (map bare args) (each-given args))
of-layer (BExpr-F.Chain first links) = subst FitsAlike (sym (V.rolls-Chain first.0 (map bare_link links))) (chain-alike first.0 (map bare_link links) first.1 (each-link links))
of-layer (BExpr-F.Path whole steps) = subst FitsAlike (sym (V.rolls-Path whole.0 (map bare steps))) (path-alike whole.0 (map bare steps) whole.1 (each-given steps))
of-layer (BExpr-F.Window f args) = subst FitsAlike (sym (V.rolls-Window f (map bare args))) (λ p g r. let no : false ≡ true = sym (reads-Window p f (map bare args)) ∙ r in absurd cc)
of-layer (BExpr-F.Aggregate f args) = subst FitsAlike (sym (V.rolls-Aggregate f (map bare args))) (λ p g r. let no : false ≡ true = sym (reads-Aggregate p f (map bare args)) ∙ r in absurd cc)

pub fits-alike : (e : BExpr) → FitsAlike e
fits-alike = ind-BExpr FitsAlike (λ x y is. subst (λ (z : BExpr-F BExpr). FitsAlike (roll-BExpr z)) is (of-layer y))

-- With a test of the type too, as `where` has it.
pub fits-as-alike : (test : Kind → Bool) (e : BExpr) (p : List ℕ → Bool) (f : List ℕ → List ℕ) → reads_only p e ≡ true → (cs ds : List Column) → SameColumns p f cs ds → (at : Position) → fits_as test (with_names f e) (scope_of cs) at ≡ fits_as test e (scope_of ds) at
unfolding fits_as
fits-as-alike test e p f r cs ds h at = ap₂ (λ x y. x && has_kind test y) (fits-alike e p f r cs ds h at) ((agrees e p f r).1 cs ds (λ n m. (h n m).1))
