-- A pattern that was refused is that of one of the calls, and the first that is.
use Rattle.std.proofs.Common.{◌≡◌, ◌<◌, ◌≤◌, ◌+◌, ℕ, suc, true, false, List, [], ◌∷◌, ◌++◌, map, take, drop, length, get_or, refl, sym, ap, ap₂, ◌∙◌, subst, arith, drop-cons}
use Rattle.std.specs.Prelude.{◌==◌, ◌||◌, Option, Result, Ok, Err, IsErrAnd}
use Rattle.std.proofs.lemmas.List.{map_push, take-append-drop, take_all, take_more}
use Rattle.std.proofs.lemmas.List.Elements.{All-push}
use Rattle.std.proofs.lemmas.List.Folds.{list_any_at}
use Rattle.kql_lexer.specs.declared.place.Place.{Place}
use Rattle.pattern_search.specs.declared.span.Span.{Span}
use Rattle.pattern_lift.specs.declared.calls.PatternCall.{PatternCall}
use Rattle.pattern_run.specs.declared.fault.PatternFault.{PatternFault}
use Rattle.pattern_run.specs.declared.fault.PatternFault.TheVariants as fault
use Rattle.pattern_run.specs.Patterned.{AreJudged, AreMade, Found, IsCallJudgedBy, IsFirstRefused, IsJudgedBy, IsRefusalIn, finds_of, is_same}

nat-same : (n : ℕ) → (n == n) ≡ true
nat-same n = grind arith

pub same-place : (place : Place) → is_same place place ≡ true
same-place place = rw (nat-same place.line, nat-same place.column, nat-same place.byte) refl

pub own-refusal : (c : PatternCall) → IsRefusalIn (c ∷ []) (fault.BadPattern c.func.literal)
own-refusal c = rw (same-place c.func.literal) refl

alone : (c : PatternCall) (place : Place) → (is_same c.func.literal place || false) ≡ true → is_same c.func.literal place ≡ true
alone c place h = grind arith

pub refusal-among : (cs : List PatternCall) (i : ℕ) (c : PatternCall) (f : PatternFault) → i < length cs → c ≡ get_or cs i c → IsRefusalIn (c ∷ []) f → IsRefusalIn cs f
refusal-among cs i c (fault.PatternHere place) lt is h = absurd h
refusal-among cs i c (fault.BadPattern place) lt is h =
    list_any_at (λ (x : PatternCall). is_same x.func.literal place) cs i c lt (ap (λ (x : PatternCall). is_same x.func.literal place) (sym is) ∙ alone c place h)
refusal-among cs i c fault.OutOfMemory lt is h = tt

-- What the patterns find that are made, and one more.
pub finds-more : {M : Type 0} (finds : M → List ℕ → Option (List (Option Span))) (found now : Found) (cs : List PatternCall) (i : ℕ) (c : PatternCall) (made after : List M) (p : M) → i < length cs → c ≡ get_or cs i c → now ≡ found → after ≡ made ++ p ∷ []
    → map finds made ≡ map (finds_of found) (take i cs) → finds p ≡ finds_of now c → map finds after ≡ map (finds_of found) (take (i + 1) cs)
finds-more finds found now cs i c made after p lt is same added so one =
    ap (map finds) added ∙ map_push finds made p
    ∙ ap₂ (λ (xs : List (List ℕ → Option (List (Option Span)))) (x : List ℕ → Option (List (Option Span))). xs ++ x ∷ []) so (one ∙ ap (λ (f : Found). finds_of f c) same ∙ ap (finds_of found) is)
    ∙ sym (ap (map (finds_of found)) (take_more cs i c lt) ∙ map_push (finds_of found) (take i cs) (get_or cs i c))

-- A list around a place in it.
around : {X : Type 0} (xs : List X) (i : ℕ) (x : X) → i < length xs → x ≡ get_or xs i x → xs ≡ take i xs ++ x ∷ drop (i + 1) xs
around xs i x lt is =
    let next : suc i ≡ i + 1 = omega arith in
    sym (take-append-drop i xs) ∙ ap (λ ys. take i xs ++ ys) (drop-cons xs i x lt ∙ ap₂ (λ y (k : ℕ). y ∷ drop k xs) (sym is) next)

module _ (makes refuses : List ℕ → Type 0) where
  pub none-made : (cs : List PatternCall) → AreMade makes (take 0 cs)
  none-made cs = λ k d lt. let no : ⊥ = omega arith in absurd no

  pub made-along : (cs : List PatternCall) (i : ℕ) (c : PatternCall) → i < length cs → c ≡ get_or cs i c → AreMade makes (take i cs) → makes c.pattern → AreMade makes (take (i + 1) cs)
  made-along cs i c lt is so one =
      subst (λ (xs : List PatternCall). AreMade makes xs) (sym (take_more cs i c lt))
      (All-push (λ (x : PatternCall). makes x.pattern) (take i cs) (get_or cs i c) so (subst (λ (x : PatternCall). makes x.pattern) is one))

  pub all-made : (cs : List PatternCall) (i : ℕ) → length cs ≤ i → AreMade makes (take i cs) → AreMade makes cs
  all-made cs i end so = subst (λ (xs : List PatternCall). AreMade makes xs) (take_all i cs end) so

  judged-at : (cs : List PatternCall) (i : ℕ) (c : PatternCall) (f : PatternFault) → i < length cs → c ≡ get_or cs i c → AreMade makes (take i cs) → IsCallJudgedBy refuses c f → IsJudgedBy makes refuses cs f
  judged-at cs i c (fault.PatternHere place) lt is so h = tt
  judged-at cs i c (fault.BadPattern place) lt is so h = record {
    before = take i cs;
    bad = c;
    behind = drop (i + 1) cs;
    are = around cs i c lt is;
    made = so;
    refused = h.0;
    at = h.1;
  }
  judged-at cs i c fault.OutOfMemory lt is so h = tt

  pub passed-judged : {T : Type 0} (cs : List PatternCall) (f : PatternFault) (r : Result T PatternFault) → IsErrAnd r (λ e. e ≡ f) → IsJudgedBy makes refuses cs f → AreJudged makes refuses cs r
  passed-judged cs f (Ok x) h j = absurd h
  passed-judged cs f (Err e) h j = subst (λ (x : PatternFault). IsJudgedBy makes refuses cs x) (sym h) j

  pub call-judged : {T : Type 0} (cs : List PatternCall) (i : ℕ) (c : PatternCall) (f : PatternFault) (r : Result T PatternFault) → i < length cs → c ≡ get_or cs i c → AreMade makes (take i cs) → IsCallJudgedBy refuses c f → IsErrAnd r (λ e. e ≡ f) → AreJudged makes refuses cs r
  call-judged cs i c f r lt is so j h = passed-judged cs f r h (judged-at cs i c f lt is so j)

  pub wanting-judged : {T : Type 0} (cs : List PatternCall) (r : Result T PatternFault) → IsErrAnd r (λ e. e ≡ fault.OutOfMemory) → AreJudged makes refuses cs r
  wanting-judged cs r h = passed-judged cs fault.OutOfMemory r h tt

  -- Calls that are the same.

  pub made-of : (cs ks : List PatternCall) → ks ≡ cs → AreMade makes ks → AreMade makes cs
  made-of cs ks e h = subst (λ (xs : List PatternCall). AreMade makes xs) e h

  pub none-called : (cs ks : List PatternCall) → ks ≡ cs → ks ≡ [] → AreMade makes cs
  none-called cs ks e none = made-of cs [] (sym none ∙ e) (none-made [])

  pub judged-of : {T : Type 0} (cs ks : List PatternCall) (f : PatternFault) (r : Result T PatternFault) → ks ≡ cs → IsErrAnd r (λ e. e ≡ f) → IsJudgedBy makes refuses ks f → AreJudged makes refuses cs r
  judged-of cs ks f r e h j = passed-judged cs f r h (subst (λ (xs : List PatternCall). IsJudgedBy makes refuses xs f) e j)
