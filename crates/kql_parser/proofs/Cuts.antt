-- What is read from tokens that are cut behind the first one that is too much.
use Rattle.std.proofs.Common.{ℕ, ◌+◌, ◌≤◌, ◌<◌, ◌≡◌, inl, inr, List, [], ◌∷◌, take, length, refl, subst, arith, le_trans}
use native.Mathlib.Decide.{dec_le}
use Rattle.std.specs.Prelude.{Option, Some}
use Rattle.std.proofs.lemmas.Option.{slice_get_within}
use Rattle.kql_lexer.specs.declared.place.Place.{Place}
use Rattle.kql_lexer.specs.declared.token.Token.{Token}
use Rattle.kql_syntax.specs.declared.class.Class.{Class}
use Rattle.kql_syntax.specs.declared.class.Class.TheVariants as class
use Rattle.kql_syntax.specs.declared.query.Query.{Query}
use Rattle.kql_syntax.specs.Derives.{Stands, Found, Refused, IsForm, BeginsForm}
use Rattle.kql_syntax.specs.Parsing.{opening, place_of}
use Rattle.kql_syntax.proofs.FormLaws.{is_of_begins}
use Rattle.kql_syntax.proofs.StartLaws.{stands_apart, stands_among}
use Rattle.kql_syntax.proofs.EndLaws.{form_ends}
use Rattle.kql_syntax.proofs.PrefixLaws.{form_prefix, to_cut, from_cut, is_from_cut, upto}
use Rattle.kql_parser.specs.Limits.{Limited, Unlimited}
use Rattle.kql_parser.specs.Parsing.{ShallowTo, FewTo, Parsed, Unexpected, Refuses}
use Rattle.kql_parser.specs.Query.{query}
use Rattle.kql_syntax.proofs.DepthLaws.{deep_stands}
use Rattle.kql_parser.proofs.LimitFacts.{many_stands}

-- no query ends with such a token
abbrev limits : List Class
limits = class.Word ∷ opening

same_place : (o : Option ℕ) (v w : ℕ) → o ≡ Some v → o ≡ Some w → v ≤ w
same_place o v w e f = let same : v ≡ w = cc in omega arith

module _ {s : List Token} {w code : ℕ} (l : Limited s w code) where
  limited_stands : Stands s w limits
  limited_stands = elim l.cause [ inl p ↦ stands_among s w opening limits refl (deep_stands s 0 w p.1) | inr p ↦ stands_among s w (class.Word ∷ []) limits refl (many_stands s w p.1) ]

  limited_shallow : ShallowTo s w
  limited_shallow = elim l.cause [ inl p ↦ (λ v e. same_place _ w v p.1 e) | inr p ↦ p.2 ]

  limited_few : FewTo s w
  limited_few = elim l.cause [ inl p ↦ p.2 | inr p ↦ (λ v e. same_place _ w v p.1 e) ]

  -- the longest beginning ends before the place
  refuses_before : (v : ℕ) → v ≤ w → BeginsForm (take (w + 1) s) query 0 v → ((j : ℕ) → BeginsForm (take (w + 1) s) query 0 j → j ≤ v) → Unexpected s v
  refuses_before v o b f = record {
    begins = from_cut s w query 0 v (omega arith) b;
    furthest = furthest_in;
    none = λ q h. (let u : length s ≤ v = furthest_in (length s) (is_of_begins s query 0 (length s) q h) in let n = l.within in omega arith);
    shallow = λ u e. le_trans o (limited_shallow u e);
    few = λ u e. le_trans o (limited_few u e);
  }
    where
      furthest_in : (j : ℕ) → BeginsForm s query 0 j → j ≤ v
      furthest_in j h = elim (dec_le j (w + 1)) [ yes k ↦ f j (to_cut s w query 0 j k h) | no k ↦ (let u : w + 1 ≤ v = f (w + 1) (upto s w query 0 j (omega arith) (omega arith) h) in absurd (omega arith)) ]

  -- a query does not end with the token that is too much
  ends_before : (end : ℕ) (q : Query) → end ≤ w + 1 → IsForm (take (w + 1) s) query 0 end q → end ≤ w
  ends_before end q o h = elim (form_ends s query 0 end q (is_from_cut s w query 0 end q o h)) [
    | inl p ↦ omega arith
    | inr p ↦ (elim (dec_le end w) [
      | yes k ↦ k
      | no k ↦ (let ends : end ≡ p.at + 1 = p.ends in
          let same : p.at ≡ w = omega arith in
          absurd (stands_apart s w (class.End ∷ []) limits refl (subst (λ (k : ℕ). Stands s k (class.End ∷ [])) same p.stands) limited_stands))
    ])
  ]

  pub cut_found : {end : ℕ} {q : Query} → Found query (take (w + 1) s) 0 end q → end ≤ w + 1 → Unexpected s end
  cut_found {end = end} {q = q} f o = refuses_before end (ends_before end q o f.is) (is_of_begins (take (w + 1) s) query 0 end q f.is) f.furthest

  pub cut_refused : {v : ℕ} → Refused query (take (w + 1) s) 0 v → v ≤ w → Unexpected s v
  cut_refused {v = v} r o = refuses_before v o r.begins r.furthest

  reaches : (v : ℕ) → w < v → BeginsForm (take (w + 1) s) query 0 v → BeginsForm s query 0 (w + 1)
  reaches v o b = from_cut s w query 0 (w + 1) (omega arith) (form_prefix (take (w + 1) s) query 0 v (w + 1) (omega arith) (omega arith) b)

  pub cut_limited : {v : ℕ} {p : Place} → Refused query (take (w + 1) s) 0 v → w < v → p ≡ place_of s w → Refuses s code p
  cut_limited {v = v} r o e = elim l.cause [
    | inl h ↦ record { at = w; place = e; cause = inr (inl (h.0, record { deep = h.1; begins = reaches v o r.begins; few = h.2 })) }
    | inr h ↦ record { at = w; place = e; cause = inr (inr (h.0, record { many = h.1; begins = reaches v o r.begins; shallow = h.2 })) }
  ]

module _ {s : List Token} where
  pub refuses_at : {v : ℕ} {p : Place} → Unexpected s v → p ≡ place_of s v → Refuses s 201 p
  refuses_at {v = v} u e = record { at = v; place = e; cause = inl (refl, u) }

module _ {s : List Token} (l : Unlimited s) where
  shallow_to : (v : ℕ) → ShallowTo s v
  shallow_to v w e = let no_place : ⊥ = cc in absurd no_place

  few_to : (v : ℕ) → FewTo s v
  few_to v w e = let no_place : ⊥ = cc in absurd no_place

  pub all_found : {end : ℕ} {q : Query} → Found query s 0 end q → end ≡ length s → Parsed s q
  all_found {q = q} f e = record { is = subst (λ (k : ℕ). IsForm s query 0 k q) e f.is; shallow = shallow_to (length s); few = few_to (length s) }

  pub all_short : {end : ℕ} {q : Query} → Found query s 0 end q → end < length s → Unexpected s end
  all_short {end = end} {q = q} f o = record {
    begins = is_of_begins s query 0 end q f.is;
    furthest = f.furthest;
    none = λ t h. (let u : length s ≤ end = f.furthest (length s) (is_of_begins s query 0 (length s) t h) in omega arith);
    shallow = shallow_to end;
    few = few_to end;
  }

  pub all_refused : {v : ℕ} → Refused query s 0 v → Unexpected s v
  all_refused {v = v} r = record {
    begins = r.begins;
    furthest = r.furthest;
    none = λ t h. (let u : length s < length s = slice_get_within s (length s) _ (r.others (length s) t h).at in omega arith);
    shallow = shallow_to v;
    few = few_to v;
  }
