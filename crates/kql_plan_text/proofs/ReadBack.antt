-- Printed strings and names are those of the language.
use Rattle.std.proofs.Common.{◌≡◌, ℕ, Bool, true, false, ◌||◌, ◌&&◌, List, [], ◌∷◌, ◌++◌, eqb, Option, Some, refl, sym, ap, ap₂, ◌∙◌, append_assoc, arith}
use Rattle.std.specs.Prelude.{not, option_map, option_and_then}
use Rattle.std.specs.List.{flat_map, list_all}
use Rattle.std.proofs.lemmas.Bool.Decides.{nat_tests}
use Rattle.kql_lexer.specs.Bytes.{class_of, is_blank, is_quote, is_word_start}
use Rattle.kql_lexer.specs.Pieces.{or_flaw, piece_of, token, word_piece}
use Rattle.kql_lexer.specs.StringItems.{StringItem, escaped, may_stand, meant, plain, spelled}
use Rattle.kql_lexer.specs.Strings.{escape}
use Rattle.kql_lexer.specs.Words.{is_reserved, is_word, keyword_of}
use Rattle.kql_lexer.specs.declared.token.TokenForm.TheVariants as form
use Rattle.kql_lexer.proofs.ItemLaws.{items_read}
use Rattle.kql_plan_text.specs.Literals.{escaped_byte, name_text, quoted}
use Rattle.kql_plan_text.specs.ReadBack.{IsNamed, NamesReadBack, StringsReadBack, as_word, in_brackets}

is_byte : (b n : ℕ) → eqb b n ≡ true → b ≡ n
is_byte b n h = grind (arith, nat_tests)

-- the item that a byte is written as
record Written (sign b : ℕ) : Type 0 where
  item : StringItem
  spells : (rest : List StringItem) → spelled (item ∷ rest) ≡ escaped_byte sign b ++ spelled rest
  stands : may_stand sign item ≡ true
  means : (rest : List StringItem) (t : List ℕ) → meant rest ≡ Some t → meant (item ∷ rest) ≡ Some (b ∷ t)

-- a sign is no line feed, and a backslash before it stands for it
record Sign (sign : ℕ) : Type 0 where
  inline : eqb sign 10 ≡ false
  stands_for : escape sign ≡ Some sign

sign_is : (sign : ℕ) → is_quote sign ≡ true → Sign sign
unfolding is_quote escape
sign_is sign q = go (eqb sign 34) (eqb sign 39) refl refl q where
  go : (v w : Bool) → eqb sign 34 ≡ v → eqb sign 39 ≡ w → (v || w) ≡ true → Sign sign
  go true w e f h = rw (is_byte sign 34 e) (record { inline = refl; stands_for = refl })
  go false true e f h = rw (is_byte sign 39 f) (record { inline = refl; stands_for = refl })
  go false false e f h = absurd cc

-- a byte that is written as a backslash and a letter
behind : (sign b letter : ℕ) → escaped_byte sign b ≡ 92 ∷ letter ∷ [] → eqb letter 10 ≡ false → escape letter ≡ Some b → Written sign b
unfolding spelled may_stand meant
behind sign b letter is inline stands = record {
  item = escaped letter;
  spells = λ rest. sym (ap (λ l. l ++ spelled rest) is);
  stands = ap not inline;
  means = λ rest t h. ap₂ (λ (o : Option ℕ) (m : Option (List ℕ)). option_and_then (λ c. option_map (λ text. c ∷ text) m) o) stands h;
}

written : (sign b : ℕ) → is_quote sign ≡ true → Written sign b
unfolding escaped_byte spelled may_stand meant escape
written sign b q = go (eqb b 92) (eqb b sign) (eqb b 10) (eqb b 13) (eqb b 9) refl refl refl refl refl where
  go : (u v w x y : Bool) → eqb b 92 ≡ u → eqb b sign ≡ v → eqb b 10 ≡ w → eqb b 13 ≡ x → eqb b 9 ≡ y → Written sign b
  go true v w x y d e f g h = behind sign b 92 (rw d refl) refl (ap Some (sym (is_byte b 92 d)))
  go false true w x y d e f g h = behind sign b sign (rw (d, e) refl) (sign_is sign q).inline ((sign_is sign q).stands_for ∙ ap Some (sym (is_byte b sign e)))
  go false false true x y d e f g h = behind sign b 110 (rw (d, e, f) refl) refl (ap Some (sym (is_byte b 10 f)))
  go false false false true y d e f g h = behind sign b 114 (rw (d, e, f, g) refl) refl (ap Some (sym (is_byte b 13 g)))
  go false false false false true d e f g h = behind sign b 116 (rw (d, e, f, g, h) refl) refl (ap Some (sym (is_byte b 9 h)))
  go false false false false false d e f g h = record {
    item = plain b;
    spells = λ rest. rw (d, e, f, g, h) refl;
    stands = rw (d, e, f) refl;
    means = λ rest t m. ap (option_map (λ text. b ∷ text)) m;
  }

-- the items that a text is written as
record WrittenAs (sign : ℕ) (t : List ℕ) : Type 0 where
  items : List StringItem
  spells : spelled items ≡ flat_map (escaped_byte sign) t
  stand : list_all (may_stand sign) items ≡ true
  means : meant items ≡ Some t

written_as : (sign : ℕ) (t : List ℕ) → is_quote sign ≡ true → WrittenAs sign t
unfolding spelled meant
written_as sign [] q = record { items = []; spells = refl; stand = refl; means = refl }
written_as sign (b ∷ bs) q =
    let one = written sign b q in
    let others = written_as sign bs q in
    record {
      items = one.item ∷ others.items;
      spells = one.spells others.items ∙ ap (λ l. escaped_byte sign b ++ l) others.spells;
      stand = rw one.stands others.stand;
      means = one.means others.items bs others.means;
    }

pub strings_read_back : StringsReadBack
unfolding quoted
strings_read_back sign t q =
    let all = written_as sign t q in
    ap (λ l. piece_of (sign ∷ (l ++ sign ∷ []))) (sym all.spells)
    ∙ (items_read sign all.items q all.stand ∙ ap (λ o. Some (or_flaw 103 (option_map form.Text o))) all.means)

blank_or_letter : (b : ℕ) (v : Bool) → is_blank b ≡ v → is_word_start b ≡ true → v ≡ false
unfolding is_blank is_word_start
blank_or_letter b v e h = grind (arith, nat_tests)

both : (v w : Bool) → (v && w) ≡ true → (v ≡ true) × (w ≡ true)
both true w h = (refl, h)
both false w h = absurd cc

word_piece_is : (n : List ℕ) → is_word n ≡ true → word_piece n ≡ Some (token (form.Word (keyword_of n) n))
unfolding word_piece
word_piece_is n h = rw h refl

letter_piece : (b : ℕ) (bs : List ℕ) → is_word_start b ≡ true → piece_of (b ∷ bs) ≡ word_piece (b ∷ bs)
unfolding piece_of class_of
letter_piece b bs h = rw (blank_or_letter b (is_blank b) refl h, h) refl

word_starts : (b : ℕ) (bs : List ℕ) → is_word (b ∷ bs) ≡ true → is_word_start b ≡ true
unfolding is_word
word_starts b bs h = (both _ _ h).0

no_word : is_word [] ≡ false
unfolding is_word
no_word = refl

word_is : (n : List ℕ) → is_word n ≡ true → piece_of n ≡ Some (token (form.Word (keyword_of n) n))
word_is [] h = absurd (let e = no_word in cc)
word_is (b ∷ bs) h = letter_piece b bs (word_starts b bs h) ∙ word_piece_is (b ∷ bs) h

pub names_read_back : NamesReadBack
unfolding name_text is_quote
names_read_back n = go (is_word n) (is_reserved n) refl refl where
  go : (v w : Bool) → is_word n ≡ v → is_reserved n ≡ w → IsNamed n
  go true false e f = as_word (rw (e, f) refl) (word_is n e) f
  go true true e f = in_brackets (quoted 39 n) (rw (e, f) refl) (strings_read_back 39 n refl)
  go false w e f = in_brackets (quoted 39 n) (rw e refl) (strings_read_back 39 n refl)
