-- Tokens have one result: they are a query, or refused at one token with one code.
use Rattle.std.proofs.Common.{◌≡◌, ◌⊎◌, ◌<◌, ◌≤◌, ◌+◌, ◌∙◌, ℕ, List, [], ◌∷◌, length, ap, arith, inl, inr, refl, subst, sym}
use Rattle.std.specs.Prelude.{Some}
use Rattle.std.proofs.lemmas.Option.{slice_get_within}
use Rattle.kql_lexer.specs.declared.place.Place.{Place}
use Rattle.kql_lexer.specs.declared.token.Token.{Token}
use Rattle.kql_syntax.specs.declared.class.Class.TheVariants as class
use Rattle.kql_syntax.specs.declared.query.Query.{Query}
use Rattle.kql_syntax.specs.Parsing.{opening, place_of}
use Rattle.kql_syntax.proofs.DepthLaws.{deep_stands}
use Rattle.kql_syntax.proofs.StartLaws.{stands_apart}
use Rattle.kql_parser.specs.Operators.{NamesTooMany}
use Rattle.kql_parser.specs.Parsing.{Parsed, Refuses, TooDeep, TooMany, Unexpected}
use Rattle.kql_parser.proofs.LimitFacts.{many_stands}

some-index : (v w : ℕ) → Some v ≡ Some w → v ≡ w
some-index v w e = cc e

-- why tokens are refused here
abbrev Cause : List Token → ℕ → ℕ → Type 0
Cause s at code = ((code ≡ 201) × Unexpected s at) ⊎ (((code ≡ 202) × TooDeep s at) ⊎ ((code ≡ 203) × TooMany s at))

unexpected-deep : (s : List Token) (v w : ℕ) → Unexpected s v → TooDeep s w → ⊥
unexpected-deep s v w u d =
    let far : w + 1 ≤ v = u.furthest (w + 1) d.begins in
    let near : v ≤ w = u.shallow w d.deep in
    absurd (omega arith)

unexpected-many : (s : List Token) (v w : ℕ) → Unexpected s v → TooMany s w → ⊥
unexpected-many s v w u m =
    let far : w + 1 ≤ v = u.furthest (w + 1) m.begins in
    let near : v ≤ w = u.few w m.many in
    absurd (omega arith)

deep-many : (s : List Token) (v w : ℕ) → TooDeep s v → TooMany s w → ⊥
deep-many s v w d m =
    let one : v ≤ w = d.few w m.many in
    let other : w ≤ v = m.shallow v d.deep in
    let same : w ≡ v = omega arith in
    stands_apart s v opening (class.Word ∷ []) refl (deep_stands s 0 v d.deep) (many_stands s v (subst (λ (k : ℕ). NamesTooMany s k) same m.many))

-- tokens are refused at one token, with one code
one-cause : (s : List Token) (v w c d : ℕ) → Cause s v c → Cause s w d → (c ≡ d) × (v ≡ w)
one-cause s v w c d (inl (e, p)) (inl (f, q)) =
    let a : v ≤ w = q.furthest v p.begins in
    let b : w ≤ v = p.furthest w q.begins in
    (e ∙ sym f, omega arith)
one-cause s v w c d (inl (e, p)) (inr (inl (f, q))) = absurd (unexpected-deep s v w p q)
one-cause s v w c d (inl (e, p)) (inr (inr (f, q))) = absurd (unexpected-many s v w p q)
one-cause s v w c d (inr (inl (e, p))) (inl (f, q)) = absurd (unexpected-deep s w v q p)
one-cause s v w c d (inr (inl (e, p))) (inr (inl (f, q))) = (e ∙ sym f, some-index v w (sym p.deep ∙ q.deep))
one-cause s v w c d (inr (inl (e, p))) (inr (inr (f, q))) = absurd (deep-many s v w p q)
one-cause s v w c d (inr (inr (e, p))) (inl (f, q)) = absurd (unexpected-many s w v q p)
one-cause s v w c d (inr (inr (e, p))) (inr (inl (f, q))) = absurd (deep-many s w v q p)
one-cause s v w c d (inr (inr (e, p))) (inr (inr (f, q))) = (e ∙ sym f, some-index v w (sym p.many ∙ q.many))

-- a query is not refused
parsed-whole : (s : List Token) (query : Query) (v c : ℕ) → Parsed s query → Cause s v c → ⊥
parsed-whole s query v c h (inl (e, p)) = p.none query h.is
parsed-whole s query v c h (inr (inl (e, p))) =
    let far : length s ≤ v = h.shallow v p.deep in
    let near : v < length s = slice_get_within s v _ (deep_stands s 0 v p.deep).at in
    absurd (omega arith)
parsed-whole s query v c h (inr (inr (e, p))) =
    let far : length s ≤ v = h.few v p.many in
    let near : v < length s = slice_get_within s v _ (many_stands s v p.many).at in
    absurd (omega arith)

-- a query is not refused
pub not-refused : (s : List Token) (query : Query) (code : ℕ) (p : Place) → Parsed s query → Refuses s code p → ⊥
not-refused s query code p h r = parsed-whole s query r.at code h r.cause

-- two refusals are one
pub one-refusal : (s : List Token) (c d : ℕ) (p q : Place) → Refuses s c p → Refuses s d q → (c ≡ d) × (p ≡ q)
one-refusal s c d p q h k =
    let one = one-cause s h.at k.at c d h.cause k.cause in
    (one.0, h.place ∙ (ap (place_of s) one.1 ∙ sym k.place))
