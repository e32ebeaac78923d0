-- Strings as they are written.
use Rattle.std.proofs.Common.{◌≡◌, ℕ, Bool, true, false, ◌||◌, ◌&&◌, List, [], ◌∷◌, ◌++◌, cond, eqb, Option, Some, None, option_map, refl, sym, ap, ◌∙◌, arith}
use Rattle.std.specs.Prelude.{not, option_and_then}
use Rattle.std.specs.List.{list_all}
use Rattle.std.proofs.lemmas.List.{length-append, take_at}
use Rattle.std.proofs.lemmas.Bool.Decides.{nat_tests}
use Rattle.kql_lexer.specs.Bytes.{class_of, is_blank, is_digit, is_quote, is_word_start}
use Rattle.kql_lexer.specs.Pieces.{or_flaw, piece_in, piece_of, string_as, string_piece, token}
use Rattle.kql_lexer.specs.StringItems.{ItemsAreRead, StringItem, StringsAreItems, escaped, may_stand, meant, plain, spelled}
use Rattle.kql_lexer.specs.Strings.{between, escape, in_string, leaves, unescaped}
use Rattle.kql_lexer.specs.declared.classes.Class.TheVariants as class
use Rattle.kql_lexer.specs.declared.strings.Inside.{Inside}
use Rattle.kql_lexer.specs.declared.strings.Inside.TheVariants.{Open, Kept, Closed}
use Rattle.kql_lexer.specs.declared.token.TokenForm.{TokenForm}
use Rattle.kql_lexer.specs.declared.token.TokenForm.TheVariants as form

both : (v w : Bool) → (v && w) ≡ true → (v ≡ true) × (w ≡ true)
both true w h = (refl, h)
both false w h = absurd cc

none_of : (u v w : Bool) → not (u || v || w) ≡ true → (u ≡ false) × (v ≡ false) × (w ≡ false)
none_of true v w h = absurd cc
none_of false true w h = absurd cc
none_of false false true h = absurd cc
none_of false false false h = (refl, refl, refl)

isnt : (v : Bool) → not v ≡ true → v ≡ false
isnt true h = absurd cc
isnt false h = refl

is_byte : (b n : ℕ) → eqb b n ≡ true → b ≡ n
is_byte b n h = grind (arith, nat_tests)

eq_self : (n : ℕ) → eqb n n ≡ true
eq_self n = grind (arith, nat_tests)

-- a sign is no line feed and no backslash, and its class is that of strings
class_34 : class_of 34 ≡ class.Quote
unfolding class_of is_blank is_word_start is_digit is_quote
class_34 = refl

class_39 : class_of 39 ≡ class.Quote
unfolding class_of is_blank is_word_start is_digit is_quote
class_39 = refl

abbrev Sign : ℕ → Type 0
Sign b = (class_of b ≡ class.Quote) × (eqb b 10 ≡ false) × (eqb b 92 ≡ false)

sign_is : (b : ℕ) → is_quote b ≡ true → Sign b
unfolding is_quote
sign_is b q = go (eqb b 34) (eqb b 39) refl refl q where
  go : (v w : Bool) → eqb b 34 ≡ v → eqb b 39 ≡ w → (v || w) ≡ true → Sign b
  go true w e f h = let is = is_byte b 34 e in rw is (class_34, refl, refl)
  go false true e f h = let is = is_byte b 39 f in rw is (class_39, refl, refl)
  go false false e f h = absurd cc

quote_piece : (sign : ℕ) (bs : List ℕ) → is_quote sign ≡ true → piece_of (sign ∷ bs) ≡ string_as (sign ∷ bs) (leaves (in_string sign) Open bs)
unfolding piece_of string_piece
quote_piece sign bs q = ap (λ c. piece_in c (sign ∷ bs)) (sign_is sign q).0

-- items and the sign close a string
items_close : (sign : ℕ) (items : List StringItem) → Sign sign → list_all (may_stand sign) items ≡ true → leaves (in_string sign) Open (spelled items ++ sign ∷ []) ≡ Some Closed
unfolding leaves in_string spelled may_stand
items_close sign [] s a = rw (s.1, s.2, eq_self sign) refl
items_close sign (plain b ∷ items) s a =
    let parts = both (may_stand sign (plain b)) (list_all (may_stand sign) items) a in
    let none = none_of (eqb b 10) (eqb b 92) (eqb b sign) parts.0 in
    rw (none.0, none.1, none.2) (items_close sign items s parts.1)
items_close sign (escaped b ∷ items) s a =
    let parts = both (may_stand sign (escaped b)) (list_all (may_stand sign) items) a in
    rw (isnt (eqb b 10) parts.0) (items_close sign items s parts.1)

items_mean : (sign : ℕ) (items : List StringItem) → list_all (may_stand sign) items ≡ true → unescaped false (spelled items) ≡ meant items
unfolding unescaped spelled meant may_stand
items_mean sign [] a = refl
items_mean sign (plain b ∷ items) a =
    let parts = both (may_stand sign (plain b)) (list_all (may_stand sign) items) a in
    let none = none_of (eqb b 10) (eqb b 92) (eqb b sign) parts.0 in
    rw (none.1) (ap (option_map (λ text. b ∷ text)) (items_mean sign items parts.1))
items_mean sign (escaped b ∷ items) a =
    let parts = both (may_stand sign (escaped b)) (list_all (may_stand sign) items) a in
    ap (λ o. option_and_then (λ c. option_map (λ text. c ∷ text) o) (escape b)) (items_mean sign items parts.1)

between_items : (sign : ℕ) (xs : List ℕ) → between 0 (sign ∷ (xs ++ sign ∷ [])) ≡ xs
between_items sign xs = take_at xs (sign ∷ []) _ (omega (arith, length-append xs (sign ∷ [])))

pub items_read : ItemsAreRead
items_read sign items q a =
    quote_piece sign (spelled items ++ sign ∷ []) q
    ∙ ap (string_as (sign ∷ (spelled items ++ sign ∷ []))) (items_close sign items (sign_is sign q) a)
    ∙ ap (λ o. Some (or_flaw 103 (option_map form.Text o))) (ap (unescaped false) (between_items sign (spelled items)) ∙ items_mean sign items a)

-- what closes a string is items and the sign
record Spelt (sign : ℕ) (bytes : List ℕ) : Type 0 where
  items : List StringItem
  is : bytes ≡ spelled items ++ sign ∷ []
  stand : list_all (may_stand sign) items ≡ true

record Behind (sign : ℕ) (bytes : List ℕ) : Type 0 where
  first : ℕ
  others : List ℕ
  is : bytes ≡ first ∷ others
  inline : eqb first 10 ≡ false
  rest : Spelt sign others

abbrev Left : ℕ → Inside → List ℕ → Type 0
Left sign Open bytes = Spelt sign bytes
Left sign Kept bytes = Behind sign bytes
Left sign Closed bytes = bytes ≡ []

with_plain : (sign b : ℕ) (bs : List ℕ) → eqb b 10 ≡ false → eqb b 92 ≡ false → eqb b sign ≡ false → Spelt sign bs → Spelt sign (b ∷ bs)
unfolding spelled may_stand
with_plain sign b bs e f g s = record {
  items = plain b ∷ s.items;
  is = ap (λ ys. b ∷ ys) s.is;
  stand = rw (e, f, g, s.stand) refl;
}

with_escaped : (sign b : ℕ) (bs : List ℕ) → b ≡ 92 → Behind sign bs → Spelt sign (b ∷ bs)
unfolding spelled may_stand
with_escaped sign b bs e s = record {
  items = escaped s.first ∷ s.rest.items;
  is = ap (λ x. x ∷ bs) e ∙ ap (λ ys. 92 ∷ ys) (s.is ∙ ap (λ ys. s.first ∷ ys) s.rest.is);
  stand = rw (s.inline, s.rest.stand) refl;
}

with_sign : (sign b : ℕ) (bs : List ℕ) → b ≡ sign → bs ≡ [] → Spelt sign (b ∷ bs)
unfolding spelled
with_sign sign b bs e f = record {
  items = [];
  is = ap (λ x. x ∷ bs) e ∙ ap (λ ys. sign ∷ ys) f;
  stand = refl;
}

left_items : (sign : ℕ) (s : Inside) (bs : List ℕ) → leaves (in_string sign) s bs ≡ Some Closed → Left sign s bs
unfolding leaves in_string
left_items sign Open [] h = absurd cc
left_items sign Kept [] h = absurd cc
left_items sign Closed [] h = refl
left_items sign Closed (b ∷ bs) h = absurd cc
left_items sign Kept (b ∷ bs) h = go (λ k. left_items sign Open bs k) (eqb b 10) refl h where
  go : (leaves (in_string sign) Open bs ≡ Some Closed → Spelt sign bs) → (v : Bool) → eqb b 10 ≡ v
      → option_and_then (λ next. leaves (in_string sign) next bs) (cond v None (Some Open)) ≡ Some Closed → Behind sign (b ∷ bs)
  go opens true e h = absurd cc
  go opens false e h = record { first = b; others = bs; is = refl; inline = e; rest = opens h }
left_items sign Open (b ∷ bs) h = go (λ k. left_items sign Open bs k) (λ k. left_items sign Kept bs k) (λ k. left_items sign Closed bs k) (eqb b 10) (eqb b 92) (eqb b sign) refl refl refl h where
  go : (leaves (in_string sign) Open bs ≡ Some Closed → Spelt sign bs) → (leaves (in_string sign) Kept bs ≡ Some Closed → Behind sign bs) → (leaves (in_string sign) Closed bs ≡ Some Closed → bs ≡ [])
      → (u v w : Bool) → eqb b 10 ≡ u → eqb b 92 ≡ v → eqb b sign ≡ w
      → option_and_then (λ next. leaves (in_string sign) next bs) (cond u None (cond v (Some Kept) (cond w (Some Closed) (Some Open)))) ≡ Some Closed → Spelt sign (b ∷ bs)
  go opens kept closed true v w e f g h = absurd cc
  go opens kept closed false true w e f g h = with_escaped sign b bs (is_byte b 92 f) (kept h)
  go opens kept closed false false true e f g h = with_sign sign b bs (is_byte b sign g) (closed h)
  go opens kept closed false false false e f g h = with_plain sign b bs e f g (opens h)

-- a string that has a text
text_of : (t : TokenForm) (o : Option (List ℕ)) → Some (or_flaw 103 (option_map form.Text o)) ≡ Some (token t) → option_map form.Text o ≡ Some t
text_of t None h = absurd cc
text_of t (Some x) h = cc

token_closed : (xs : List ℕ) (o : Option Inside) (t : TokenForm) → string_as xs o ≡ Some (token t) → o ≡ Some Closed
token_closed xs None t h = absurd cc
token_closed xs (Some Open) t h = absurd cc
token_closed xs (Some Kept) t h = absurd cc
token_closed xs (Some Closed) t h = refl

pub strings_items : StringsAreItems
strings_items sign bytes t q h =
    let closed = token_closed (sign ∷ bytes) (leaves (in_string sign) Open bytes) t (sym (quote_piece sign bytes q) ∙ h) in
    let s : Spelt sign bytes = left_items sign Open bytes closed in
    record {
      items = s.items;
      is = s.is;
      stand = s.stand;
      means = text_of t (meant s.items) (sym (items_read sign s.items q s.stand) ∙ ap (λ bs. piece_of (sign ∷ bs)) (sym s.is) ∙ h);
    }
