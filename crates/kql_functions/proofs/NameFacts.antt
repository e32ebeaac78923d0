-- What a name is: each scalar function, window function, aggregate and refused name by its own name, and by no other.
use Rattle.std.proofs.Common.{◌≡◌, ◌++◌, ◌<◌, ℕ, suc, Bool, true, false, List, [], ◌∷◌, length, refl, sym, ap, ◌∙◌, inl, inr, arith}
use Rattle.std.specs.Prelude.{◌↔◌, Contains, Option, None, Some}
use Rattle.std.specs.List.{list_all, list_any}
use Rattle.std.specs.Str.{bytes_eq}
use Rattle.std.proofs.lemmas.Bool.{cases_Bool}
use Rattle.std.proofs.lemmas.List.Elements.{Contains-append_left, Contains-append_right}
use Rattle.kql_functions.specs.declared.func.Func.{Func}
use Rattle.kql_functions.specs.declared.func.Func.TheVariants as func
use Rattle.kql_functions.specs.declared.names.Found.{Found}
use Rattle.kql_functions.specs.declared.names.Found.TheVariants as found
use Rattle.kql_functions.specs.declared.window.Window.{Window}
use Rattle.kql_functions.specs.declared.window.Window.TheVariants as window
use Rattle.kql_functions.specs.declared.aggregate.Aggregate.{Aggregate}
use Rattle.kql_functions.specs.declared.aggregate.Aggregate.TheVariants as aggregate
use Rattle.kql_functions.specs.Find.{IsNoName, aggregates, extract_name, found_apart, found_as, found_first, functions, is_called, is_one_of, is_operator, is_pattern, is_refused, named_among, operators, refused_aggregates, refused_conversions, refused_functions, refused_names, windows}
use Rattle.kql_functions.specs.Names.{aggregate_name, arithmetic_name, choice_name, comparison_name, conversion_name, dynamic_name, func_name, logic_name, pattern_name, search_text, text_name, time_name, window_name}
use Rattle.kql_functions.proofs.NamedTables.{all-at, among-held, among-named, bytes-same}
use Rattle.kql_functions.proofs.TableFacts.{called, every-operator, held-called, written}

-- ---- what is found first

scalar-first : (o : Option Func) (w : Option Window) (a : Option Aggregate) (r p : Bool) (f : Func) → found_first o w a (found_apart r p) ≡ found.Scalar f → o ≡ Some f
scalar-first (Some g) w a r p f e = let s : g ≡ f = cc in ap Some s
scalar-first None (Some v) a r p f e = cc
scalar-first None None (Some b) r p f e = cc
scalar-first None None None true p f e = cc
scalar-first None None None false true f e = cc
scalar-first None None None false false f e = cc

window-first : (o : Option Func) (w : Option Window) (a : Option Aggregate) (r p : Bool) (v : Window) → found_first o w a (found_apart r p) ≡ found.Window v → w ≡ Some v
window-first (Some g) w a r p v e = cc
window-first None (Some u) a r p v e = let s : u ≡ v = cc in ap Some s
window-first None None (Some b) r p v e = cc
window-first None None None true p v e = cc
window-first None None None false true v e = cc
window-first None None None false false v e = cc

aggregate-first : (o : Option Func) (w : Option Window) (a : Option Aggregate) (r p : Bool) (b : Aggregate) → found_first o w a (found_apart r p) ≡ found.Aggregate b → a ≡ Some b
aggregate-first (Some g) w a r p b e = cc
aggregate-first None (Some v) a r p b e = cc
aggregate-first None None (Some d) r p b e = let s : d ≡ b = cc in ap Some s
aggregate-first None None None true p b e = cc
aggregate-first None None None false true b e = cc
aggregate-first None None None false false b e = cc

refused-first : (o : Option Func) (w : Option Window) (a : Option Aggregate) (r p : Bool) → found_first o w a (found_apart r p) ≡ found.Refused → r ≡ true
refused-first (Some g) w a r p e = cc
refused-first None (Some v) a r p e = cc
refused-first None None (Some b) r p e = cc
refused-first None None None true p e = refl
refused-first None None None false true e = cc
refused-first None None None false false e = cc

pattern-first : (o : Option Func) (w : Option Window) (a : Option Aggregate) (r p : Bool) → found_first o w a (found_apart r p) ≡ found.Pattern → p ≡ true
pattern-first (Some g) w a r p e = cc
pattern-first None (Some v) a r p e = cc
pattern-first None None (Some b) r p e = cc
pattern-first None None None true p e = cc
pattern-first None None None false true e = refl
pattern-first None None None false false e = cc

-- ---- scalar functions

scalar-among : (n : List ℕ) (f : Func) → found_as n ≡ found.Scalar f → named_among func_name functions n ≡ Some f
unfolding found_as
scalar-among n f e = scalar-first (named_among func_name functions n) (named_among window_name windows n) (named_among aggregate_name aggregates n) (is_refused n) (bytes_eq n extract_name) f e

known : (f : Func) → is_called f ≡ true → found_as (func_name f) ≡ found.Scalar f
unfolding found_as
known f e = rw (called f e) refl

scalar-of : (n : List ℕ) (f : Func) → found_as n ≡ found.Scalar f → (is_called f ≡ true) × (func_name f ≡ n)
scalar-of n f e = let h = scalar-among n f e in (held-called f (among-held func_name functions n f h), among-named func_name functions n f h)

of-scalar : (n : List ℕ) (f : Func) → (is_called f ≡ true) × (func_name f ≡ n) → found_as n ≡ found.Scalar f
of-scalar n f h = rw (← h.1) (known f h.0)

-- ---- operators

abbrev is_unknown : Found → Bool
is_unknown (found.Scalar f) = false
is_unknown (found.Window w) = false
is_unknown (found.Aggregate a) = false
is_unknown found.Pattern = false
is_unknown found.Refused = false
is_unknown found.Unknown = true

unknown-is : (r : Found) → is_unknown r ≡ true → r ≡ found.Unknown
unknown-is (found.Scalar f) e = cc
unknown-is (found.Window w) e = cc
unknown-is (found.Aggregate a) e = cc
unknown-is found.Pattern e = cc
unknown-is found.Refused e = cc
unknown-is found.Unknown e = refl

abbrev name_is_unknown : Func → Bool
name_is_unknown f = is_unknown (found_as (func_name f))

operators-unknown : list_all name_is_unknown operators ≡ true
unfolding found_as named_among functions operators windows aggregates is_one_of refused_aggregates refused_functions refused_conversions func_name arithmetic_name choice_name comparison_name conversion_name dynamic_name logic_name search_text text_name time_name window_name aggregate_name
operators-unknown = refl

operator-unknown : (f : Func) → is_operator f ≡ true → found_as (func_name f) ≡ found.Unknown
operator-unknown f e = unknown-is (found_as (func_name f)) (all-at name_is_unknown operators f operators-unknown ((every-operator f).1 e))

-- ---- window functions

window-known : (w : Window) → found_as (window_name w) ≡ found.Window w
unfolding found_as named_among functions windows func_name arithmetic_name choice_name conversion_name dynamic_name logic_name text_name time_name window_name
window-known window.Prev = refl
window-known _ = refl

window-of : (n : List ℕ) (w : Window) → found_as n ≡ found.Window w → window_name w ≡ n
unfolding found_as
window-of n w e = among-named window_name windows n w (window-first (named_among func_name functions n) (named_among window_name windows n) (named_among aggregate_name aggregates n) (is_refused n) (bytes_eq n extract_name) w e)

of-window : (n : List ℕ) (w : Window) → window_name w ≡ n → found_as n ≡ found.Window w
of-window n w e = rw (← e) (window-known w)

-- ---- aggregates

aggregate-known : (a : Aggregate) → found_as (aggregate_name a) ≡ found.Aggregate a
unfolding found_as named_among functions windows aggregates func_name arithmetic_name choice_name conversion_name dynamic_name logic_name text_name time_name window_name aggregate_name
aggregate-known aggregate.Count = refl
aggregate-known _ = refl

aggregate-of : (n : List ℕ) (a : Aggregate) → found_as n ≡ found.Aggregate a → aggregate_name a ≡ n
unfolding found_as
aggregate-of n a e = among-named aggregate_name aggregates n a (aggregate-first (named_among func_name functions n) (named_among window_name windows n) (named_among aggregate_name aggregates n) (is_refused n) (bytes_eq n extract_name) a e)

of-aggregate : (n : List ℕ) (a : Aggregate) → aggregate_name a ≡ n → found_as n ≡ found.Aggregate a
of-aggregate n a e = rw (← e) (aggregate-known a)

-- ---- refused names

abbrev is_refusal : Found → Bool
is_refusal (found.Scalar f) = false
is_refusal (found.Window w) = false
is_refusal (found.Aggregate a) = false
is_refusal found.Pattern = false
is_refusal found.Refused = true
is_refusal found.Unknown = false

refusal-is : (r : Found) → is_refusal r ≡ true → r ≡ found.Refused
refusal-is (found.Scalar f) e = cc
refusal-is (found.Window w) e = cc
refusal-is (found.Aggregate a) e = cc
refusal-is found.Pattern e = cc
refusal-is found.Refused e = refl
refusal-is found.Unknown e = cc

abbrev name_is_refusal : List ℕ → Bool
name_is_refusal n = is_refusal (found_as n)

refused-refused : list_all name_is_refusal refused_names ≡ true
unfolding found_as named_among functions windows aggregates is_one_of refused_aggregates refused_functions refused_conversions func_name arithmetic_name choice_name conversion_name dynamic_name logic_name text_name time_name window_name aggregate_name
refused-refused = refl

of-refused : (n : List ℕ) → Contains refused_names n → found_as n ≡ found.Refused
of-refused n c = refusal-is (found_as n) (all-at name_is_refusal refused_names n refused-refused c)

later : (x n : List ℕ) (names : List (List ℕ)) → Contains names n → Contains (x ∷ names) n
later x n names h = let l : h.0 < length names = h.1 in (suc h.0, omega arith, h.2)

any-held : (names : List (List ℕ)) (n : List ℕ) → list_any (λ r. bytes_eq n r) names ≡ true → Contains names n
any-held [] n e = cc
any-held (x ∷ names) n e = elim (cases_Bool (bytes_eq n x)) [
  | inl t ↦ (0, omega arith, sym (bytes-same n x t))
  | inr u ↦ later x n names (any-held names n (rw u at e))
]

one-held : (names : List (List ℕ)) (n : List ℕ) → is_one_of names n ≡ true → Contains names n
unfolding is_one_of
one-held names n e = any-held names n e

refused-held : (n : List ℕ) → is_refused n ≡ true → Contains refused_names n
refused-held n e = elim (cases_Bool (is_one_of refused_aggregates n)) [
  | inl t ↦ Contains-append_left refused_aggregates (refused_functions ++ refused_conversions) n (one-held refused_aggregates n t)
  | inr a ↦ let e1 = rw a at e in Contains-append_right refused_aggregates (refused_functions ++ refused_conversions) n (elim (cases_Bool (is_one_of refused_functions n)) [
    | inl t ↦ Contains-append_left refused_functions refused_conversions n (one-held refused_functions n t)
    | inr b ↦ let e2 = rw b at e1 in Contains-append_right refused_functions refused_conversions n (one-held refused_conversions n e2)
  ])
]

refused-of : (n : List ℕ) → found_as n ≡ found.Refused → Contains refused_names n
unfolding found_as
refused-of n e = refused-held n (refused-first (named_among func_name functions n) (named_among window_name windows n) (named_among aggregate_name aggregates n) (is_refused n) (bytes_eq n extract_name) e)

-- ---- `extract`

extract-known : found_as extract_name ≡ found.Pattern
unfolding found_as named_among functions windows aggregates is_one_of refused_aggregates refused_functions refused_conversions func_name arithmetic_name choice_name conversion_name dynamic_name logic_name text_name time_name window_name aggregate_name
extract-known = refl

pattern-of : (n : List ℕ) → found_as n ≡ found.Pattern → n ≡ extract_name
unfolding found_as
pattern-of n e = bytes-same n extract_name (pattern-first (named_among func_name functions n) (named_among window_name windows n) (named_among aggregate_name aggregates n) (is_refused n) (bytes_eq n extract_name) e)

of-pattern : (n : List ℕ) → n ≡ extract_name → found_as n ≡ found.Pattern
of-pattern n e = rw e extract-known

-- ---- what is none of these

unknown-apart : (n : List ℕ) → found_as n ≡ found.Unknown → IsNoName n
unknown-apart n e = (
  λ f o h. let q = of-scalar n f (o, h) in let s : found.Unknown ≡ found.Scalar f = sym e ∙ q in cc,
  (
    λ w h. let q = of-window n w h in let s : found.Unknown ≡ found.Window w = sym e ∙ q in cc,
    (
      λ a h. let q = of-aggregate n a h in let s : found.Unknown ≡ found.Aggregate a = sym e ∙ q in cc,
      (
        λ c. let q = of-refused n c in let s : found.Unknown ≡ found.Refused = sym e ∙ q in cc,
        λ h. let q = of-pattern n h in let s : found.Unknown ≡ found.Pattern = sym e ∙ q in cc,
      ),
    ),
  ),
)

unknown-left : (n : List ℕ) (r : Found) → found_as n ≡ r → IsNoName n → r ≡ found.Unknown
unknown-left n (found.Scalar f) e h = let s = scalar-of n f e in absurd (h.0 f s.0 s.1)
unknown-left n (found.Window w) e h = absurd (h.1.0 w (window-of n w e))
unknown-left n (found.Aggregate a) e h = absurd (h.1.1.0 a (aggregate-of n a e))
unknown-left n found.Pattern e h = absurd (h.1.1.1.1 (pattern-of n e))
unknown-left n found.Refused e h = absurd (h.1.1.1.0 (refused-of n e))
unknown-left n found.Unknown e h = refl

-- ---- the clauses of `find`

pub find_scalar : (r : Found) (n : List ℕ) → r ≡ found_as n → (f : Func) → (r ≡ found.Scalar f) ↔ ((is_called f ≡ true) × (func_name f ≡ n))
find_scalar r n e f = (λ h. scalar-of n f (sym e ∙ h), λ h. e ∙ of-scalar n f h)

pub find_operator : (r : Found) (n : List ℕ) → r ≡ found_as n → (f : Func) → is_operator f ≡ true → func_name f ≡ n → r ≡ found.Unknown
find_operator r n e f o h = e ∙ rw (← h) (operator-unknown f o)

pub find_window : (r : Found) (n : List ℕ) → r ≡ found_as n → (w : Window) → (r ≡ found.Window w) ↔ (window_name w ≡ n)
find_window r n e w = (λ h. window-of n w (sym e ∙ h), λ h. e ∙ of-window n w h)

pub find_aggregate : (r : Found) (n : List ℕ) → r ≡ found_as n → (a : Aggregate) → (r ≡ found.Aggregate a) ↔ (aggregate_name a ≡ n)
find_aggregate r n e a = (λ h. aggregate-of n a (sym e ∙ h), λ h. e ∙ of-aggregate n a h)

pub find_refused : (r : Found) (n : List ℕ) → r ≡ found_as n → (r ≡ found.Refused) ↔ Contains refused_names n
find_refused r n e = (λ h. refused-of n (sym e ∙ h), λ h. e ∙ of-refused n h)

pub find_pattern : (r : Found) (n : List ℕ) → r ≡ found_as n → (r ≡ found.Pattern) ↔ (n ≡ extract_name)
find_pattern r n e = (λ h. pattern-of n (sym e ∙ h), λ h. e ∙ of-pattern n h)

pub find_unknown : (r : Found) (n : List ℕ) → r ≡ found_as n → (r ≡ found.Unknown) ↔ IsNoName n
find_unknown r n e = (λ h. unknown-apart n (sym e ∙ h), λ h. e ∙ unknown-left n (found_as n) refl h)

-- ---- names

is-called : (f : Func) → is_operator f ≡ false → is_pattern f ≡ false → is_called f ≡ true
is-called f o p = rw o (rw p refl)

name-nowhere : (g : Option ℕ) → (named_among func_name functions (pattern_name g) ≡ None) × (named_among func_name operators (pattern_name g) ≡ None)
unfolding named_among functions operators func_name arithmetic_name choice_name comparison_name conversion_name dynamic_name logic_name search_text text_name time_name
name-nowhere None = (refl, refl)
name-nowhere (Some n) = (refl, refl)

-- the name of a pattern's call stands in neither table
pattern-nowhere : (f : Func) → is_pattern f ≡ true → (named_among func_name functions (func_name f) ≡ None) × (named_among func_name operators (func_name f) ≡ None)
unfolding func_name
pattern-nowhere (func.Arithmetic f) e = cc
pattern-nowhere (func.Comparison f) e = cc
pattern-nowhere (func.Search f) e = cc
pattern-nowhere (func.Logic f) e = cc
pattern-nowhere (func.Choice f) e = cc
pattern-nowhere (func.Conversion f) e = cc
pattern-nowhere (func.Text f) e = cc
pattern-nowhere (func.Time f) e = cc
pattern-nowhere (func.Dynamic f) e = cc
pattern-nowhere (func.Pattern f) e = name-nowhere f.group

-- the table that a function or an operator stands in, and no other
apart : (f g : Func) (a b : Bool) → is_pattern f ≡ false → is_pattern g ≡ false → is_operator f ≡ a → is_operator g ≡ b → func_name f ≡ func_name g → a ≡ b
apart f g true true m n p q e = refl
apart f g false false m n p q e = refl
apart f g true false m n p q e = let u : found.Unknown ≡ found.Scalar g = sym (operator-unknown f p) ∙ (ap found_as e ∙ known g (is-called g q n)) in cc
apart f g false true m n p q e = let u : found.Unknown ≡ found.Scalar f = sym (operator-unknown g q) ∙ (ap found_as (sym e) ∙ known f (is-called f p m)) in cc

same-both : (f g : Func) (a : Bool) → is_pattern f ≡ false → is_pattern g ≡ false → is_operator f ≡ a → is_operator g ≡ a → func_name f ≡ func_name g → f ≡ g
same-both f g true m n p q e = let u : Some f ≡ Some g = sym (written f p) ∙ (ap (named_among func_name operators) e ∙ written g q) in cc
same-both f g false m n p q e = let u : found.Scalar f ≡ found.Scalar g = sym (known f (is-called f p m)) ∙ (ap found_as e ∙ known g (is-called g q n)) in cc

same-name : (f g : Func) → is_pattern f ≡ false → is_pattern g ≡ false → func_name f ≡ func_name g → f ≡ g
same-name f g m n e = let t = apart f g (is_operator f) (is_operator g) m n refl refl e in same-both f g (is_operator f) m n refl (sym t) e

pattern-differs : (f g : Func) (a : Bool) → is_pattern f ≡ true → is_pattern g ≡ false → is_operator g ≡ a → func_name f ≡ func_name g → ⊥
pattern-differs f g true m n q e = let u : None ≡ Some g = sym (pattern-nowhere f m).1 ∙ (ap (named_among func_name operators) e ∙ written g q) in cc
pattern-differs f g false m n q e = let u : None ≡ Some g = sym (pattern-nowhere f m).0 ∙ (ap (named_among func_name functions) e ∙ called g (is-called g q n)) in cc

-- no two functions have one name, but for the calls of patterns
pub own_name : (f : Func) (n : List ℕ) → n ≡ func_name f → is_pattern f ≡ false → (g : Func) → func_name g ≡ n → g ≡ f
own_name f n e p g h = elim (cases_Bool (is_pattern g)) [
  | inl t ↦ absurd (pattern-differs g f (is_operator f) t p refl (h ∙ e))
  | inr u ↦ same-name g f u p (h ∙ e)
]
