-- Where an expression fits, what it becomes fits too, and no constant stands in it, but for literals.
use Rattle.std.proofs.Common.{◌≡◌, ℕ, Bool, true, false, List, [], ◌∷◌, map, refl, ap, ap₂, sym, ◌∙◌, subst}
use Rattle.std.specs.Prelude.{◌&&◌, Option, None, Some, is_some, option_and_then, option_map, unwrap_or}
use Rattle.std.specs.List.{list_all}
use Rattle.std.proofs.lemmas.Bool.{and_from, and_parts}
use Rattle.kql_cells.specs.declared.schema.Column.{Column}
use Rattle.kql_cells.specs.declared.value.Kind.{Kind}
use Rattle.kql_cells.specs.declared.value.Value.{Value}
use Rattle.kql_functions.specs.Kinds.{result_kind}
use Rattle.kql_functions.specs.declared.func.Func.{Func}
use Rattle.kql_functions.specs.declared.func.Func.TheVariants as func
use Rattle.kql_functions.specs.declared.func.TimeFunc.TheVariants as time
use Rattle.kql_scalar_fns.specs.Applied.{applied}
use Rattle.kql_bound.specs.Signs.{sign_func}
use Rattle.kql_bound.specs.declared.expr.BExpr.{BExpr}
use Rattle.kql_bound.specs.declared.expr.BExpr.TheVariants as V
use Rattle.kql_bound.specs.declared.expr.ChainSign.{ChainSign}
use Rattle.kql_bound.specs.declared.literal.Lit.{Lit}
use Rattle.kql_meaning.specs.declared.position.Position.{Position}
use Rattle.kql_meaning.specs.Expressions.{all_known, call_kind, chain_kind, kind_along, kind_down, kind_of, kinds_in, look, path_kind}
use Rattle.kql_meaning.specs.FittingExpressions.{Scope, column_of, expr_fits, first_is_part, first_word, is_callable, is_constant_of, is_count, is_count_literal, is_plain_column, is_typed_literal, links_fit, literal_of, names_part, part_fits, stands_in_if_column, word_in}
use Rattle.kql_meaning.specs.Literals.{is_of_kind, is_well_formed, literal_fits}
use Rattle.kql_meaning.proofs.KindLaws.{kind-Literal}
use Rattle.kql_meaning.proofs.LiteralLaws.{is_of_kind-decides, is_well_formed-decides}
use Rattle.kql_meaning.proofs.ExpressionFitLaws.{fits-Call, fits-Chain, fits-Literal, fits-Path}
use Rattle.kql_fit_laws.proofs.ExpressionRows.{AreKnown, call-known, literal-known}
use Rattle.kql_fit_laws.specs.LawsOfCalls.{FitsKind}
use Rattle.kql_fit_laws.specs.LawsOfExpressions.{FitsKnown}
use Rattle.plan_rules.specs.Constants.{is_constant}
use Rattle.plan_rules.specs.Folding.{chain_from, folded, folded_call, folded_chain, folded_path, is_folded, literal_called, literal_joined, literal_or, path_from, sound_literal, sound_literals}
use Rattle.plan_rules.proofs.FoldSteps.{column-folded, column-is, constant-Literal, folded-varies, is_folded-Call, is_folded-Chain, is_folded-Column, is_folded-Literal, is_folded-Path, literal-folded, literal-is}
use Rattle.plan_rules.proofs.FoldedReadings.{call-kind-is, literal, sound-is, sounds-are}

-- Of an expression: it fits, and is folded.
abbrev pub Good : BExpr → Scope → Position → Type 0
Good e scope at = (expr_fits e scope at ≡ true) × (is_folded e ≡ true)

-- Literals.

known-fits : (l : Lit) → FitsKind l.kind l.value → literal_fits l ≡ true
unfolding literal_fits
known-fits l h = and_from (is_of_kind l.kind l.value) (is_well_formed l.value) ((is_of_kind-decides l.kind l.value).1 h.0) ((is_well_formed-decides l.value).1 h.1)

well-formed-of : (l : Lit) → literal_fits l ≡ true → is_well_formed l.value ≡ true
unfolding literal_fits
well-formed-of l h = (and_parts (is_of_kind l.kind l.value) (is_well_formed l.value) h).1

abbrev kinds_known : List Lit → List (Option Kind)
kinds_known ls = map (λ (l : Lit). Some l.kind) ls

abbrev values_of : List Lit → List Value
values_of ls = map (λ (l : Lit). l.value) ls

all-known : (ls : List Lit) → list_all literal_fits ls ≡ true → AreKnown (kinds_known ls) (values_of ls)
all-known [] h = tt
all-known (l ∷ ls) h = let b = and_parts (literal_fits l) (list_all literal_fits ls) h in (literal-known l b.0, all-known ls b.1)

called-of : (f : Func) (ls : List Lit) (o : Option Kind) → result_kind f (map (λ (l : Lit). l.kind) ls) ≡ o → is_some o ≡ true → FitsKnown o (applied f (values_of ls)) → (l : Lit) × (literal_called f ls ≡ Some l) × (literal_fits l ≡ true) × (o ≡ Some l.kind)
unfolding literal_called
called-of f ls None e s h = absurd cc
called-of f ls (Some k) e s h =
    let l : Lit = record { kind = k; value = applied f (values_of ls) } in
    (l, rw e refl, known-fits l h, refl)

-- A call of literals that fits has a literal that fits, of its type.
pub called-there : (f : Func) (ls : List Lit) → list_all literal_fits ls ≡ true → is_some (call_kind f (kinds_known ls)) ≡ true → (l : Lit) × (literal_called f ls ≡ Some l) × (literal_fits l ≡ true) × (call_kind f (kinds_known ls) ≡ Some l.kind)
called-there f ls h s =
    let e = call-kind-is f ls in
    let known = call-known f (kinds_known ls) (values_of ls) (all-known ls h) s in
    let r = called-of f ls (result_kind f (map (λ (l : Lit). l.kind) ls)) refl (subst (λ o. is_some o ≡ true) e s) (subst (λ o. FitsKnown o (applied f (values_of ls))) e known) in
    (r.0, r.1, r.2, e ∙ r.3)

-- Where a folded expression that fits gives no literal, it is no constant.

sound-there : (e : BExpr) (l : Lit) → literal_of e ≡ Some l → is_well_formed l.value ≡ true → sound_literal e ≡ Some l
unfolding sound_literal
sound-there e l h w = rw (h, w) refl

pub unsound-varies : (e : BExpr) (scope : Scope) (at : Position) → Good e scope at → sound_literal e ≡ None → is_constant e ≡ false
unsound-varies e scope at h n = by (literal_of e) refl
  where
    by : (o : Option Lit) → literal_of e ≡ o → is_constant e ≡ false
    by None m = folded-varies e h.1 m
    by (Some l) m =
        let fit : literal_fits l ≡ true = sym (fits-Literal l scope at) ∙ (ap (λ x. expr_fits x scope at) (sym (literal-is e l m)) ∙ h.0) in
        let no : Some l ≡ None = sym (sound-there e l m (well-formed-of l fit)) ∙ n in
        absurd cc

never : (b : Bool) → (b && false) ≡ false
never true = refl
never false = refl

varies-next : (e : BExpr) (es : List BExpr) (scope : Scope) (at : Position) → Good e scope at → (sound_literals es ≡ None → list_all is_constant es ≡ false) → (o : Option Lit) (r : Option (List Lit)) → sound_literal e ≡ o → sound_literals es ≡ r → option_and_then (λ l. option_map (λ ls. l ∷ ls) r) o ≡ None → (is_constant e && list_all is_constant es) ≡ false
varies-next e es scope at one more None r p q m = rw (unsound-varies e scope at one p) refl
varies-next e es scope at one more (Some l) None p q m = rw (more q) (never (is_constant e))
varies-next e es scope at one more (Some l) (Some ls) p q m = absurd cc

some-varies : (es : List BExpr) (scope : Scope) (at : Position) → list_all (λ e. expr_fits e scope at) es ≡ true → list_all is_folded es ≡ true → sound_literals es ≡ None → list_all is_constant es ≡ false
unfolding sound_literals
some-varies [] scope at f g n = absurd cc
some-varies (e ∷ es) scope at f g n =
    let b = and_parts (expr_fits e scope at) (list_all (λ e. expr_fits e scope at) es) f in
    let c = and_parts (is_folded e) (list_all is_folded es) g in
    varies-next e es scope at (b.0, c.0) (λ m. some-varies es scope at b.1 c.1 m) (sound_literal e) (sound_literals es) refl refl n

-- Calls, over parts that are folded.

literals-fit : (ls : List Lit) (scope : Scope) (at : Position) → list_all (λ e. expr_fits e scope at) (map literal ls) ≡ true → list_all literal_fits ls ≡ true
literals-fit [] scope at h = refl
literals-fit (l ∷ ls) scope at h =
    let b = and_parts (expr_fits (V.Literal l) scope at) (list_all (λ e. expr_fits e scope at) (map literal ls)) h in
    and_from (literal_fits l) (list_all literal_fits ls) (sym (fits-Literal l scope at) ∙ b.0) (literals-fit ls scope at b.1)

literal-kinds : (ls : List Lit) (cs : List Column) → kinds_in (map literal ls) cs ≡ kinds_known ls
unfolding kinds_in
literal-kinds [] cs = refl
literal-kinds (l ∷ ls) cs = ap₂ (λ (k : Option Kind) (ks : List (Option Kind)). k ∷ ks) (kind-Literal l cs) (literal-kinds ls cs)

pub literal-good : (l : Lit) (scope : Scope) (at : Position) → literal_fits l ≡ true → Good (V.Literal l) scope at
literal-good l scope at h = (fits-Literal l scope at ∙ h, is_folded-Literal l)

pub call-good : (f : Func) (es : List BExpr) (scope : Scope) (at : Position) → is_callable f ≡ true → list_all (λ e. expr_fits e scope at) es ≡ true → list_all is_folded es ≡ true → part_fits f es ≡ true → is_some (call_kind f (kinds_in es scope.columns)) ≡ true → Good (folded_call f es) scope at
unfolding folded_call
call-good f es scope at c h g p s = by (sound_literals es) refl
  where
    by : (o : Option (List Lit)) → sound_literals es ≡ o → Good (literal_or (V.Call f es) (option_and_then (literal_called f) o)) scope at
    by None n =
        let varies : list_all is_constant es ≡ false = some-varies es scope at h g n in
        (fits-Call f es scope at ∙ rw (c, h, p, s) refl, is_folded-Call f es ∙ rw (varies, g) refl)
    by (Some ls) n =
        let is = sounds-are es ls n in
        let fit = literals-fit ls scope at (subst (λ xs. list_all (λ e. expr_fits e scope at) xs ≡ true) is h) in
        let kinds : kinds_in es scope.columns ≡ kinds_known ls = ap (λ xs. kinds_in xs scope.columns) is ∙ literal-kinds ls scope.columns in
        let r = called-there f ls fit (subst (λ ks. is_some (call_kind f ks) ≡ true) kinds s) in
        subst (λ o. Good (literal_or (V.Call f es) o) scope at) (sym r.1) (literal-good r.0 scope at r.2)

-- Chains.

along-none : (links : List (ChainSign × BExpr)) (columns : List Column) (k : Option Kind) → is_some (kind_along links columns k) ≡ true → is_some k ≡ true
unfolding kind_along chain_kind call_kind all_known
along-none [] columns k e = e
along-none (l ∷ ls) columns (Some k) e = refl
along-none (l ∷ ls) columns None e = along-none ls columns None e

along-next : (l : ChainSign × BExpr) (ls : List (ChainSign × BExpr)) (columns : List Column) (k : Option Kind) → kind_along (l ∷ ls) columns k ≡ kind_along ls columns (call_kind (sign_func l.0) (k ∷ kind_of l.1 columns ∷ []))
unfolding kind_along chain_kind
along-next l ls columns k = refl

joined-there : (f : Func) (a b : Lit) (e : BExpr) (c : Lit) → sound_literal e ≡ Some b → literal_called f (a ∷ b ∷ []) ≡ Some c → literal_joined f a e ≡ Some c
unfolding literal_joined
joined-there f a b e c h g = rw h g

joined-none : (f : Func) (a : Lit) (e : BExpr) → sound_literal e ≡ None → literal_joined f a e ≡ None
unfolding literal_joined
joined-none f a e h = rw h refl

abbrev pub links_folded : List (ChainSign × BExpr) → Bool
links_folded ls = list_all (λ (l : ChainSign × BExpr). is_folded l.1) ls

chain-stays : (a : Lit) (l : ChainSign × BExpr) (ls : List (ChainSign × BExpr)) (scope : Scope) (at : Position) → literal_fits a ≡ true → links_fit (l ∷ ls) scope at ≡ true → links_folded (l ∷ ls) ≡ true → is_some (kind_along (l ∷ ls) scope.columns (Some a.kind)) ≡ true → is_constant l.1 ≡ false → Good (V.Chain (V.Literal a) (l ∷ ls)) scope at
chain-stays a l ls scope at fa fl g s v = (
  fits-Chain (V.Literal a) (l ∷ ls) scope at ∙ rw (fits-Literal a scope at, fa, fl, kind-Literal a scope.columns, s) refl,
  is_folded-Chain (V.Literal a) (l ∷ ls) ∙ rw (constant-Literal a, v, is_folded-Literal a, g) refl,
)

link-parts : (l : ChainSign × BExpr) (ls : List (ChainSign × BExpr)) (scope : Scope) (at : Position) → links_fit (l ∷ ls) scope at ≡ true → (expr_fits l.1 scope at ≡ true) × (links_fit ls scope at ≡ true)
unfolding links_fit
link-parts l ls scope at h = and_parts (expr_fits l.1 scope at) (list_all (λ (l : ChainSign × BExpr). expr_fits l.1 scope at) ls) h

abbrev ChainGood : List (ChainSign × BExpr) → Scope → Position → Type 0
ChainGood ls scope at = (a : Lit) → literal_fits a ≡ true → is_some (kind_along ls scope.columns (Some a.kind)) ≡ true → Good (chain_from a ls) scope at

chain-next-good : (l : ChainSign × BExpr) (ls : List (ChainSign × BExpr)) (a : Lit) (scope : Scope) (at : Position) → ChainGood ls scope at → literal_fits a ≡ true → links_fit (l ∷ ls) scope at ≡ true → links_folded (l ∷ ls) ≡ true → is_some (kind_along (l ∷ ls) scope.columns (Some a.kind)) ≡ true → Good l.1 scope at → (o : Option Lit) → sound_literal l.1 ≡ o → Good (unwrap_or (option_map (λ b. chain_from b ls) (literal_joined (sign_func l.0) a l.1)) (V.Chain (V.Literal a) (l ∷ ls))) scope at
chain-next-good l ls a scope at more fa fl g s one None n =
    subst (λ o. Good (unwrap_or (option_map (λ b. chain_from b ls) o) (V.Chain (V.Literal a) (l ∷ ls))) scope at) (sym (joined-none (sign_func l.0) a l.1 n))
    (chain-stays a l ls scope at fa fl g s (unsound-varies l.1 scope at one n))
chain-next-good l ls a scope at more fa fl g s one (Some b) n =
    let is = (sound-is l.1 b n).0 in
    let fb : literal_fits b ≡ true = sym (fits-Literal b scope at) ∙ (ap (λ x. expr_fits x scope at) (sym is) ∙ one.0) in
    let kb : kind_of l.1 scope.columns ≡ Some b.kind = ap (λ x. kind_of x scope.columns) is ∙ kind-Literal b scope.columns in
    let os : List (Option Kind) = Some a.kind ∷ Some b.kind ∷ [] in
    let next : kind_along (l ∷ ls) scope.columns (Some a.kind) ≡ kind_along ls scope.columns (call_kind (sign_func l.0) os) =
    along-next l ls scope.columns (Some a.kind) ∙ ap (λ (k : Option Kind). kind_along ls scope.columns (call_kind (sign_func l.0) (Some a.kind ∷ k ∷ []))) kb in
    let some = subst (λ o. is_some o ≡ true) next s in
    let r = called-there (sign_func l.0) (a ∷ b ∷ []) (rw (fa, fb) refl) (along-none ls scope.columns (call_kind (sign_func l.0) os) some) in
    subst (λ o. Good (unwrap_or (option_map (λ b. chain_from b ls) o) (V.Chain (V.Literal a) (l ∷ ls))) scope at) (sym (joined-there (sign_func l.0) a b l.1 r.0 n r.1))
    (more r.0 r.2 (subst (λ o. is_some (kind_along ls scope.columns o) ≡ true) r.3 some))

pub chain-from-good : (ls : List (ChainSign × BExpr)) (a : Lit) (scope : Scope) (at : Position) → literal_fits a ≡ true → links_fit ls scope at ≡ true → links_folded ls ≡ true → is_some (kind_along ls scope.columns (Some a.kind)) ≡ true → Good (chain_from a ls) scope at
unfolding chain_from
chain-from-good [] a scope at fa fl g s = literal-good a scope at fa
chain-from-good (l ∷ ls) a scope at fa fl g s =
    let p = link-parts l ls scope at fl in
    let q = and_parts (is_folded l.1) (links_folded ls) g in
    chain-next-good l ls a scope at (λ c fc sc. chain-from-good ls c scope at fc p.1 q.1 sc) fa fl g s (p.0, q.0) (sound_literal l.1) refl

pub chain-good : (first : BExpr) (ls : List (ChainSign × BExpr)) (scope : Scope) (at : Position) → Good first scope at → links_fit ls scope at ≡ true → links_folded ls ≡ true → is_some (kind_along ls scope.columns (kind_of first scope.columns)) ≡ true → Good (folded_chain first ls) scope at
unfolding folded_chain
chain-good first ls scope at one fl g s = by (sound_literal first) refl
  where
    by : (o : Option Lit) → sound_literal first ≡ o → Good (unwrap_or (option_map (λ a. chain_from a ls) o) (V.Chain first ls)) scope at
    by None n =
        let varies = unsound-varies first scope at one n in
        (fits-Chain first ls scope at ∙ rw (one.0, fl, s) refl, is_folded-Chain first ls ∙ rw (varies, one.1, g) refl)
    by (Some a) n =
        let is = (sound-is first a n).0 in
        let fa : literal_fits a ≡ true = sym (fits-Literal a scope at) ∙ (ap (λ x. expr_fits x scope at) (sym is) ∙ one.0) in
        let ka : kind_of first scope.columns ≡ Some a.kind = ap (λ x. kind_of x scope.columns) is ∙ kind-Literal a scope.columns in
        chain-from-good ls a scope at fa fl g (subst (λ o. is_some (kind_along ls scope.columns o) ≡ true) ka s)

-- Paths.

down-none : (steps : List BExpr) (columns : List Column) (k : Option Kind) → is_some (kind_down steps columns k) ≡ true → is_some k ≡ true
unfolding kind_down path_kind kinds_in call_kind all_known
down-none [] columns k e = e
down-none (x ∷ xs) columns (Some k) e = refl
down-none (x ∷ xs) columns None e = down-none xs columns None e

down-next : (e : BExpr) (es : List BExpr) (columns : List Column) (k : Option Kind) → kind_down (e ∷ es) columns k ≡ kind_down es columns (call_kind look (k ∷ kind_of e columns ∷ []))
unfolding kind_down path_kind kinds_in
down-next e es columns k = refl

abbrev fit_at : Scope → Position → List BExpr → Bool
fit_at scope at es = list_all (λ e. expr_fits e scope at) es

path-stays : (a : Lit) (e : BExpr) (es : List BExpr) (scope : Scope) (at : Position) → literal_fits a ≡ true → fit_at scope at (e ∷ es) ≡ true → list_all is_folded (e ∷ es) ≡ true → is_some (kind_down (e ∷ es) scope.columns (Some a.kind)) ≡ true → is_constant e ≡ false → Good (V.Path (V.Literal a) (e ∷ es)) scope at
path-stays a e es scope at fa fl g s v = (
  fits-Path (V.Literal a) (e ∷ es) scope at ∙ rw (fits-Literal a scope at, fa, fl, kind-Literal a scope.columns, s) refl,
  is_folded-Path (V.Literal a) (e ∷ es) ∙ rw (constant-Literal a, v, is_folded-Literal a, g) refl,
)

abbrev PathGood : List BExpr → Scope → Position → Type 0
PathGood es scope at = (a : Lit) → literal_fits a ≡ true → is_some (kind_down es scope.columns (Some a.kind)) ≡ true → Good (path_from a es) scope at

path-next-good : (e : BExpr) (es : List BExpr) (a : Lit) (scope : Scope) (at : Position) → PathGood es scope at → literal_fits a ≡ true → fit_at scope at (e ∷ es) ≡ true → list_all is_folded (e ∷ es) ≡ true → is_some (kind_down (e ∷ es) scope.columns (Some a.kind)) ≡ true → Good e scope at → (o : Option Lit) → sound_literal e ≡ o → Good (unwrap_or (option_map (λ b. path_from b es) (literal_joined look a e)) (V.Path (V.Literal a) (e ∷ es))) scope at
path-next-good e es a scope at more fa fl g s one None n =
    subst (λ o. Good (unwrap_or (option_map (λ b. path_from b es) o) (V.Path (V.Literal a) (e ∷ es))) scope at) (sym (joined-none look a e n))
    (path-stays a e es scope at fa fl g s (unsound-varies e scope at one n))
path-next-good e es a scope at more fa fl g s one (Some b) n =
    let is = (sound-is e b n).0 in
    let fb : literal_fits b ≡ true = sym (fits-Literal b scope at) ∙ (ap (λ x. expr_fits x scope at) (sym is) ∙ one.0) in
    let kb : kind_of e scope.columns ≡ Some b.kind = ap (λ x. kind_of x scope.columns) is ∙ kind-Literal b scope.columns in
    let os : List (Option Kind) = Some a.kind ∷ Some b.kind ∷ [] in
    let next : kind_down (e ∷ es) scope.columns (Some a.kind) ≡ kind_down es scope.columns (call_kind look os) =
    down-next e es scope.columns (Some a.kind) ∙ ap (λ (k : Option Kind). kind_down es scope.columns (call_kind look (Some a.kind ∷ k ∷ []))) kb in
    let some = subst (λ o. is_some o ≡ true) next s in
    let r = called-there look (a ∷ b ∷ []) (rw (fa, fb) refl) (down-none es scope.columns (call_kind look os) some) in
    subst (λ o. Good (unwrap_or (option_map (λ b. path_from b es) o) (V.Path (V.Literal a) (e ∷ es))) scope at) (sym (joined-there look a b e r.0 n r.1))
    (more r.0 r.2 (subst (λ o. is_some (kind_down es scope.columns o) ≡ true) r.3 some))

pub path-from-good : (es : List BExpr) (a : Lit) (scope : Scope) (at : Position) → literal_fits a ≡ true → fit_at scope at es ≡ true → list_all is_folded es ≡ true → is_some (kind_down es scope.columns (Some a.kind)) ≡ true → Good (path_from a es) scope at
unfolding path_from
path-from-good [] a scope at fa fl g s = literal-good a scope at fa
path-from-good (e ∷ es) a scope at fa fl g s =
    let p = and_parts (expr_fits e scope at) (fit_at scope at es) fl in
    let q = and_parts (is_folded e) (list_all is_folded es) g in
    path-next-good e es a scope at (λ c fc sc. path-from-good es c scope at fc p.1 q.1 sc) fa fl g s (p.0, q.0) (sound_literal e) refl

pub path-good : (whole : BExpr) (es : List BExpr) (scope : Scope) (at : Position) → Good whole scope at → fit_at scope at es ≡ true → list_all is_folded es ≡ true → is_some (kind_down es scope.columns (kind_of whole scope.columns)) ≡ true → Good (folded_path whole es) scope at
unfolding folded_path
path-good whole es scope at one fl g s = by (sound_literal whole) refl
  where
    by : (o : Option Lit) → sound_literal whole ≡ o → Good (unwrap_or (option_map (λ a. path_from a es) o) (V.Path whole es)) scope at
    by None n =
        let varies = unsound-varies whole scope at one n in
        (fits-Path whole es scope at ∙ rw (one.0, fl, s) refl, is_folded-Path whole es ∙ rw (varies, one.1, g) refl)
    by (Some a) n =
        let is = (sound-is whole a n).0 in
        let fa : literal_fits a ≡ true = sym (fits-Literal a scope at) ∙ (ap (λ x. expr_fits x scope at) (sym is) ∙ one.0) in
        let ka : kind_of whole scope.columns ≡ Some a.kind = ap (λ x. kind_of x scope.columns) is ∙ kind-Literal a scope.columns in
        path-from-good es a scope at fa fl g (subst (λ o. is_some (kind_down es scope.columns o) ≡ true) ka s)

-- The word of a part stays.

word-by : {X : Type 0} (named : List ℕ → Option X) (e : BExpr) (o : Option Lit) → literal_of e ≡ o → names_part named (word_in o) ≡ true → names_part named (word_in (literal_of (folded e))) ≡ true
unfolding names_part word_in
word-by named e None m g = absurd cc
word-by named e (Some l) m g = ap (λ x. names_part named (word_in (literal_of x))) (literal-folded e l m) ∙ (ap (λ o. names_part named (word_in o)) m ∙ g)

word-stays : {X : Type 0} (named : List ℕ → Option X) (args : List BExpr) → first_is_part named args ≡ true → first_is_part named (map folded args) ≡ true
unfolding first_is_part first_word
word-stays named [] h = h
word-stays named (e ∷ es) h = word-by named e (literal_of e) refl h

pub part-stays : (f : Func) (args : List BExpr) → part_fits f args ≡ true → part_fits f (map folded args) ≡ true
unfolding part_fits
part-stays (func.Time time.DatetimeAdd) args h = word-stays _ args h
part-stays (func.Time time.DatetimeDiff) args h = word-stays _ args h
part-stays (func.Time time.DatetimePart) args h = word-stays _ args h
part-stays _ args h = refl

-- Arguments that are columns and literals stay.

abbrev pub Stays : BExpr → Type 0
Stays e = (folded e ≡ e) × (is_folded e ≡ true)

literal-stays : (e : BExpr) (l : Lit) → literal_of e ≡ Some l → Stays e
literal-stays e l m = (literal-folded e l m, ap is_folded (literal-is e l m) ∙ is_folded-Literal l)

column-by : (columns : List Column) (e : BExpr) (o : Option (List ℕ)) → column_of e ≡ o → stands_in_if_column columns o ≡ true → Stays e
unfolding stands_in_if_column
column-by columns e None m g = absurd cc
column-by columns e (Some n) m g = (column-folded e n m, ap is_folded (column-is e n m) ∙ is_folded-Column n)

pub column-stays : (columns : List Column) (e : BExpr) → is_plain_column columns e ≡ true → Stays e
unfolding is_plain_column
column-stays columns e h = column-by columns e (column_of e) refl h

count-by : (e : BExpr) (o : Option Lit) → literal_of e ≡ o → is_count_literal o ≡ true → Stays e
unfolding is_count_literal
count-by e None m g = absurd cc
count-by e (Some l) m g = literal-stays e l m

pub count-stays : (e : BExpr) → is_count e ≡ true → Stays e
unfolding is_count
count-stays e h = count-by e (literal_of e) refl h

constant-by : (k : Option Kind) (e : BExpr) (o : Option Lit) → literal_of e ≡ o → is_typed_literal k o ≡ true → Stays e
unfolding is_typed_literal
constant-by k e None m g = absurd cc
constant-by k e (Some l) m g = literal-stays e l m

pub constant-stays : (k : Option Kind) (e : BExpr) → is_constant_of k e ≡ true → Stays e
unfolding is_constant_of
constant-stays k e h = constant-by k e (literal_of e) refl h

pub columns-stay : (columns : List Column) (es : List BExpr) → list_all (is_plain_column columns) es ≡ true → map folded es ≡ es
columns-stay columns [] h = refl
columns-stay columns (e ∷ es) h =
    let b = and_parts (is_plain_column columns e) (list_all (is_plain_column columns) es) h in
    ap₂ (λ (x : BExpr) (xs : List BExpr). x ∷ xs) (column-stays columns e b.0).0 (columns-stay columns es b.1)
