-- Hexadecimal numbers below 64 bits, and JSON texts that are read.
use Rattle.std.proofs.Common.{◌≡◌, ◌≤◌, ◌<◌, ◌+◌, ℕ, ℤ, pos, Bool, true, false, List, [], length, get_or, take, cond, min, None, refl, sym, ap, ◌∙◌, arith, inl, inr}
use Rattle.std.specs.Prelude.{Option, Some, is_some, neg_ℤ, option_and_then, option_map}
use Rattle.std.proofs.lemmas.Bool.{cases_lt}
use Rattle.std.proofs.lemmas.Int.{ints}
use Rattle.std.specs.List.{list_all}
use Rattle.std.proofs.lemmas.List.{take_all}
use Rattle.std.proofs.lemmas.List.Folds.{list_all_more, list_all_at}
use Rattle.serde_json.specs.Data.{Data}
use Rattle.serde_json.specs.Read.{read}
use Rattle.kql_dynamic.specs.Json.{parsed}
use Rattle.kql_ticks.specs.Ranges.{fit}
use Rattle.typed_literals.specs.Reading.{hexadecimal_number, hexadecimal_read, json_read}
use Rattle.kql_lexer.specs.Numbers.{hexadecimal, is_hex_digit}
use Rattle.kql_lexer.proofs.NumberFacts.{hex_bounds, hexadecimal_more, hexadecimal_nil}

abbrev pub top : ℕ
top = 18446744073709551615

pub digits_stopped : (xs : List ℕ) (i d : ℕ) → i < length xs → is_hex_digit (get_or xs i d) ≡ false → None ≡ cond (list_all is_hex_digit xs) (Some (min (hexadecimal xs) top)) None
digits_stopped xs i d h e = rw (list_all_at is_hex_digit xs i d h e) refl

pub digits_read : (xs : List ℕ) (i v : ℕ) → length xs ≤ i → list_all is_hex_digit (take i xs) ≡ true → v ≡ min (hexadecimal (take i xs)) top → Some v ≡ cond (list_all is_hex_digit xs) (Some (min (hexadecimal xs) top)) None
digits_read xs i v h a e =
    let whole : take i xs ≡ xs = take_all i xs h in
    let digits : list_all is_hex_digit xs ≡ true = rw whole at a in
    let value : v ≡ min (hexadecimal xs) top = rw whole at e in
    rw digits (ap (λ (n : ℕ). Some n) value)

pub ruleset digit_steps = (hexadecimal_nil, hexadecimal_more, hex_bounds, digits_stopped, digits_read, list_all_more)

-- What 64 bits do not hold is out of a long's range.
too_great : (h : ℕ) → top < h → fit (pos h) ≡ fit (pos top)
unfolding fit
too_great h l = grind (arith, ints)

too_low : (h : ℕ) → top < h → fit (neg_ℤ (pos h)) ≡ fit (neg_ℤ (pos top))
unfolding fit
too_low h l = grind (arith, ints)

least-pos : (h : ℕ) → fit (pos (min h top)) ≡ fit (pos h)
least-pos h = elim (cases_lt top h) [
  | inl l ↦ let same : min h top ≡ top = omega arith in rw same (sym (too_great h l))
  | inr l ↦ let same : min h top ≡ h = omega arith in rw same refl
]

least-neg : (h : ℕ) → fit (neg_ℤ (pos (min h top))) ≡ fit (neg_ℤ (pos h))
least-neg h = elim (cases_lt top h) [
  | inl l ↦ let same : min h top ≡ top = omega arith in rw same (sym (too_low h l))
  | inr l ↦ let same : min h top ≡ h = omega arith in rw same refl
]

pub pos-read : (o : Option ℕ) (n : ℕ) → Some n ≡ option_map (λ k. min k top) o → fit (pos n) ≡ option_and_then (λ k. fit (pos k)) o
pos-read None n e = cc
pos-read (Some h) n e = let same : n ≡ min h top = cc in ap (λ (k : ℕ). fit (pos k)) same ∙ least-pos h

pub neg-read : (o : Option ℕ) (n : ℕ) → Some n ≡ option_map (λ k. min k top) o → fit (neg_ℤ (pos n)) ≡ option_and_then (λ k. fit (neg_ℤ (pos k))) o
neg-read None n e = cc
neg-read (Some h) n e = let same : n ≡ min h top = cc in ap (λ (k : ℕ). fit (neg_ℤ (pos k))) same ∙ least-neg h

pub none-read : (o : Option ℕ) (f : ℕ → Option ℤ) → None ≡ option_map (λ k. min k top) o → None ≡ option_and_then f o
none-read None f e = refl
none-read (Some h) f e = cc

pub ruleset sign_steps = (pos-read, neg-read, none-read)

pub none-hexadecimal : (t : List ℕ) → t ≡ [] → None ≡ hexadecimal_read t
unfolding hexadecimal_read hexadecimal_number
none-hexadecimal t none = rw none refl

pub ruleset read_steps = (none-hexadecimal)

-- JSON.

json-some : (t : List ℕ) (o : Option Data) → o ≡ read t → is_some o ≡ true → json_read t ≡ Some (parsed t)
unfolding json_read parsed
json-some t None is there = cc
json-some t (Some d) is there = rw (sym is) refl

pub json-read : (t : List ℕ) (b : Bool) → b ≡ is_some (read t) → b ≡ true → json_read t ≡ Some (parsed t)
json-read t b is there = json-some t (read t) refl (sym is ∙ there)

json-none : (t : List ℕ) (o : Option Data) → o ≡ read t → is_some o ≡ false → json_read t ≡ None
unfolding json_read
json-none t None is lacks = rw (sym is) refl
json-none t (Some d) is lacks = cc

pub json-lacks : (t : List ℕ) (b : Bool) → b ≡ is_some (read t) → b ≡ false → json_read t ≡ None
json-lacks t b is lacks = json-none t (read t) refl (sym is ∙ lacks)

pub ruleset json_steps = (json-read, json-lacks)
