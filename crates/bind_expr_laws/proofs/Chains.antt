-- Chains of `+ - * / %`.
use Rattle.std.proofs.Common.{◌≡◌, ◌⊎◌, inl, inr, Bool, true, false, List, [], ◌∷◌, ◌++◌, refl, sym, ◌∙◌, subst}
use Rattle.std.specs.Prelude.{◌&&◌, if◌then◌else◌, Option, None, Some, IfSome, Ok, fold}
use Rattle.std.specs.List.{list_all}
use Rattle.std.proofs.lemmas.Bool.{and_parts, and_from}
use Rattle.std.proofs.lemmas.List.Folds.{list_all-append}
use Rattle.kql_cells.specs.declared.value.Kind.{Kind}
use Rattle.kql_cells.specs.declared.value.Kind.TheVariants as kind
use Rattle.kql_functions.specs.Kinds.{arithmetic_kind, either, is_dynamic, result_kind, row, same_kinds}
use Rattle.kql_lexer.specs.declared.place.Place.{Place}
use Rattle.kql_bound.specs.Signs.{sign_func}
use Rattle.kql_bound.specs.declared.expr.BExpr.{BExpr}
use Rattle.kql_bound.specs.declared.expr.BExpr.TheVariants as V
use Rattle.kql_bound.specs.declared.expr.ChainSign.{ChainSign}
use Rattle.kql_bound.specs.declared.expr.ChainSign.TheVariants as sign
use Rattle.kql_cells.specs.declared.schema.Column.{Column}
use Rattle.kql_meaning.specs.declared.position.Position.{Position}
use Rattle.kql_meaning.specs.Expressions.{call_kind, chain_kind, kind_along, kind_of}
use Rattle.kql_meaning.specs.FittingExpressions.{expr_fits, links_fit}
use Rattle.kql_meaning.proofs.KindLaws.{kind-Chain}
use Rattle.kql_meaning.proofs.ExpressionFitLaws.{fits-Chain}
use Rattle.bind_expr.specs.Bound.{first_spot, inside}
use Rattle.bind_expr.specs.Chains.{chain_link, chain_whole, chained_from, closed, linked, linked_as, opened, whole}
use Rattle.bind_expr.specs.Operands.{beside, beside_as}
use Rattle.bind_expr.specs.Outcome.{Outcome, ◌>>=◌}
use Rattle.bind_expr.specs.declared.scope.Scope.{Scope}
use Rattle.bind_expr.specs.declared.typed.Typed.{Typed}
use Rattle.bind_expr_laws.specs.Scopes.{read_scope}
use Rattle.bind_expr_laws.proofs.Standing.{stands}
use Rattle.bind_expr_laws.proofs.Outcomes.{Each, Gives, gives-fold, gives-ok, gives-then}
use Rattle.bind_expr_laws.proofs.Parts.{IsBound, IsPart, beside-part, part-bound, two-kind}
use Rattle.bind_expr_laws.proofs.Shapes.{Chained, Spot}
use Rattle.bind_expr_laws.proofs.StandingSteps.{stands-Chain}
use Rattle.bind_expr_laws.proofs.Facts.{some-is}

-- No sign gives a dynamic value.

abbrev IsKnown : Option Kind → Type 0
IsKnown o = IfSome o (λ k. is_dynamic k ≡ false)

row-known : (ks taken : List Kind) (given : Kind) → is_dynamic given ≡ false → IsKnown (row ks taken given)
unfolding row
row-known ks taken given e = tested (same_kinds ks taken)
  where
    tested : (b : Bool) → IsKnown (if b then Some given else None)
    tested true = e
    tested false = tt

either-known : (a b : Option Kind) → IsKnown a → IsKnown b → IsKnown (either a b)
either-known None b h k = k
either-known (Some x) b h k = h

sign-known : (s : ChainSign) (ks : List Kind) → IsKnown (result_kind (sign_func s) ks)
unfolding result_kind sign_func arithmetic_kind
sign-known sign.Add ks = either-known _ _ (row-known ks _ _ refl) (either-known _ _ (row-known ks _ _ refl) (either-known _ _ (row-known ks _ _ refl) (row-known ks _ _ refl)))
sign-known sign.Subtract ks = either-known _ _ (row-known ks _ _ refl) (either-known _ _ (row-known ks _ _ refl) (either-known _ _ (row-known ks _ _ refl) (row-known ks _ _ refl)))
sign-known sign.Multiply ks = either-known _ _ (row-known ks _ _ refl) (either-known _ _ (row-known ks _ _ refl) (row-known ks _ _ refl))
sign-known sign.Divide ks = either-known _ _ (row-known ks _ _ refl) (either-known _ _ (row-known ks _ _ refl) (row-known ks _ _ refl))
sign-known sign.Modulo ks = row-known ks _ _ refl

known-as : (o : Option Kind) (k : Kind) → o ≡ Some k → IsKnown o → is_dynamic k ≡ false
known-as o k e h = rw e at h

-- A chain so far.

abbrev links_stand : Position → List (ChainSign × BExpr) → Bool
links_stand at links = list_all (λ (l : ChainSign × BExpr). stands at l.1) links

-- It has its type, which is not dynamic behind a first link, and its parts fit where they stand rightly.
pub record IsChain (scope : Scope) (at : Position) (first : BExpr) (links : List (ChainSign × BExpr)) (k : Kind) : Type 0 where
  pub kind : kind_along links scope.schema (kind_of first scope.schema) ≡ Some k
  pub start : stands at first ≡ true → expr_fits first (read_scope scope) at ≡ true
  pub rest : links_stand at links ≡ true → links_fit links (read_scope scope) at ≡ true
  pub end : (links ≡ []) ⊎ (is_dynamic k ≡ false)

along-push : (links : List (ChainSign × BExpr)) (columns : List Column) (k : Option Kind) (s : ChainSign) (e : BExpr) → kind_along (links ++ (s, e) ∷ []) columns k ≡ call_kind (sign_func s) (kind_along links columns k ∷ kind_of e columns ∷ [])
unfolding kind_along chain_kind
along-push [] columns k s e = refl
along-push (l ∷ ls) columns k s e = along-push ls columns (call_kind (sign_func l.0) (k ∷ kind_of l.1 columns ∷ [])) s e

links-push : (links : List (ChainSign × BExpr)) (p : ChainSign × BExpr → Bool) (l : ChainSign × BExpr) → list_all p (links ++ l ∷ []) ≡ (list_all p links && (p l && true))
links-push links p l = list_all-append p links (l ∷ [])

pub chain-push : (scope : Scope) (at : Position) (first : BExpr) (links : List (ChainSign × BExpr)) (k : Kind) (s : ChainSign) (r : BExpr) (j given : Kind) → IsChain scope at first links k → IsPart scope at r j → result_kind (sign_func s) (k ∷ j ∷ []) ≡ Some given → IsChain scope at first (links ++ (s, r) ∷ []) given
unfolding links_fit
chain-push scope at first links k s r j given h part is = record {
  kind = along-push links scope.schema (kind_of first scope.schema) s r ∙ (two-kind (sign_func s) _ _ k j h.kind part.kind ∙ is);
  start = h.start;
  rest = λ e.
      let fits = λ (l : ChainSign × BExpr). expr_fits l.1 (read_scope scope) at in
      let both = and_parts _ _ (sym (links-push links (λ (l : ChainSign × BExpr). stands at l.1) (s, r)) ∙ e) in
      let last = and_parts _ _ both.1 in
      links-push links fits (s, r) ∙ and_from _ _ (h.rest both.0) (and_from _ _ (part.fits last.0) refl);
  end = inr (known-as _ given is (sign-known s (k ∷ j ∷ [])));
}

-- The left side beside another type.

beside-known : (t : Typed) (other j : Kind) → is_dynamic j ≡ false → beside_as t other j ≡ t
beside-known t other kind.Dynamic e = absurd cc
beside-known t other kind.Bool e = refl
beside-known t other kind.Long e = refl
beside-known t other kind.Text e = refl
beside-known t other kind.Moment e = refl
beside-known t other kind.Span e = refl

pub chain-first : (scope : Scope) (at : Position) (e : BExpr) (k : Kind) → IsPart scope at e k → IsChain scope at e [] k
unfolding kind_along chain_kind links_fit
chain-first scope at e k h = record { kind = h.kind; start = h.fits; rest = λ s. refl; end = inl refl }

first-chain : (scope : Scope) (at : Position) (e : BExpr) (k : Kind) → IsChain scope at e [] k → IsPart scope at e k
unfolding kind_along chain_kind
first-chain scope at e k h = record { kind = h.kind; fits = h.start }

left-beside : (scope : Scope) (at : Position) (first : BExpr) (links : List (ChainSign × BExpr)) (k other : Kind) → IsChain scope at first links k → IsChain scope at (beside (record { expr = first; kind = k }) other).expr links (beside (record { expr = first; kind = k }) other).kind
unfolding beside
left-beside scope at first links k other h = elim h.end [
  | inl e ↦
      let t : Typed = record { expr = first; kind = k } in
      let alone = first-chain scope at first k (subst (λ (ls : List (ChainSign × BExpr)). IsChain scope at first ls k) e h) in
      subst (λ (ls : List (ChainSign × BExpr)). IsChain scope at (beside_as t other k).expr ls (beside_as t other k).kind) (sym e)
      (chain-first scope at (beside_as t other k).expr (beside_as t other k).kind (beside-part scope at t other alone))
  | inr n ↦
      let t : Typed = record { expr = first; kind = k } in
      subst (λ (u : Typed). IsChain scope at u.expr links u.kind) (sym (beside-known t other k n)) h
]

-- One link more.

abbrev pub IsChained : Scope → Position → Chained → Type 0
IsChained scope at c = IsChain scope at c.first c.links c.kind

link-as : (scope : Scope) (at : Position) (s : ChainSign) (place : Place) (first : BExpr) (links : List (ChainSign × BExpr)) (right : BExpr) (o : Option Kind) → ((k : Kind) → o ≡ Some k → IsChain scope at first (links ++ (s, right) ∷ []) k) → Gives (IsChained scope at) (linked_as s place first links right o)
link-as scope at s place first links right None h = record { holds = tt }
link-as scope at s place first links right (Some k) h = record { holds = h k refl }

pub link-bound : (scope : Scope) (at : Position) (s : ChainSign) (place : Place) (left : Chained) (right : Typed) → IsChained scope at left → IsPart scope at right.expr right.kind → Gives (IsChained scope at) (linked s place left right)
unfolding linked
link-bound scope at s place left right h part =
    let l : Typed = beside (record { expr = left.first; kind = left.kind }) right.kind in
    let r : Typed = beside right left.kind in
    link-as scope at s place l.expr left.links r.expr (result_kind (sign_func s) (l.kind ∷ r.kind ∷ []))
    (λ k e. chain-push scope at l.expr left.links l.kind s r.expr r.kind k (left-beside scope at left.first left.links left.kind right.kind h) (beside-part scope at right left.kind part) e)

-- The whole.

pub chain-part : (scope : Scope) (at : Position) (first : BExpr) (links : List (ChainSign × BExpr)) (k : Kind) → IsChain scope at first links k → IsPart scope at (V.Chain first links) k
chain-part scope at first links k h = record {
  kind = kind-Chain first links scope.schema ∙ h.kind;
  fits = λ s.
      let both = and_parts _ _ (sym (stands-Chain at first links) ∙ s) in
      fits-Chain first links (read_scope scope) at ∙ and_from _ _ (h.start both.0) (and_from _ _ (h.rest both.1) (some-is _ k h.kind));
}

whole-part : (scope : Scope) (at : Position) (first : BExpr) (links : List (ChainSign × BExpr)) (k : Kind) → IsChain scope at first links k → IsPart scope at (whole first links) k
whole-part scope at first [] k h = first-chain scope at first k h
whole-part scope at first (l ∷ ls) k h = chain-part scope at first (l ∷ ls) k h

closed-bound : (scope : Scope) (spot : Spot) (c : Chained) → IsChained scope spot.position c → Gives (IsBound scope spot) (Ok (chain_whole c))
unfolding chain_whole
closed-bound scope spot c h = gives-ok (IsBound scope spot) (chain_whole c) (part-bound scope spot (chain_whole c) (whole-part scope spot.position c.first c.links c.kind h))

-- A chain of parts of which each is bound: what stands alone is the whole.
pub chain-bound : {L : Type 0} (scope : Scope) (spot : Spot) (first : Spot → Outcome Typed) (s : L → ChainSign) (place : L → Place) (part : L → Outcome Typed) (ms : List L) → ((at : Spot) → Gives (IsBound scope at) (first at)) → Each (IsBound scope (inside spot.position)) part ms → Gives (IsBound scope spot) (closed (fold (λ (before : Outcome Chained) (l : L). chain_link (s l) (place l) before (part l)) (opened (first (first_spot ms spot))) ms))
unfolding opened closed chained_from chain_whole
chain-bound scope spot first s place part [] h each =
    gives-then (λ (c : Chained). IsBound scope spot (record { expr = whole c.first c.links; kind = c.kind })) (IsBound scope spot) (first spot >>= λ t. Ok (chained_from t)) (λ c. Ok (chain_whole c))
    (gives-then (IsBound scope spot) (λ (c : Chained). IsBound scope spot (record { expr = whole c.first c.links; kind = c.kind })) (first spot) (λ t. Ok (chained_from t)) (h spot) (λ t b. record { holds = b }))
    (λ c b. record { holds = b })
chain-bound {L = L} scope spot first s place part (m ∷ ms) h each =
    let at : Spot = inside spot.position in
    let start : Outcome Chained = first at >>= λ t. Ok (chained_from t) in
    gives-then (IsChained scope spot.position) (IsBound scope spot) (fold (λ (before : Outcome Chained) (l : L). before >>= λ b. part l >>= λ t. linked (s l) (place l) b t) start (m ∷ ms)) (λ c. Ok (chain_whole c))
    (gives-fold (IsBound scope at) (IsChained scope spot.position) (λ (l : L) (b : Chained) (t : Typed). linked (s l) (place l) b t) part
    (λ l b t q p. link-bound scope spot.position (s l) (place l) b t q (record { kind = p.kind; fits = p.fits })) start
    (gives-then (IsBound scope at) (IsChained scope spot.position) (first at) (λ t. Ok (chained_from t)) (h at) (λ t p. record { holds = chain-first scope spot.position t.expr t.kind (record { kind = p.kind; fits = p.fits }) }))
    (m ∷ ms) each)
    (λ c q. closed-bound scope spot c q)
