-- The fields of a header with the types written into it give the columns.
use Rattle.std.proofs.Common.{◌≡◌, ◌≢◌, ◌≤◌, ◌<◌, ◌+◌, ◌-◌, ◌==◌, ◌++◌, ◌∙◌, ℕ, suc, true, false, List, [], ◌∷◌, length, get_or, drop, map, refl, sym, arith, append_assoc, length-append, inl, inr}
use Rattle.std.specs.Prelude.{Option, Some, None, All, is_some, nat_lt, slice_range}
use Rattle.std.specs.List.{after_last, before_last, list_any}
use Rattle.std.specs.Str.{bytes_eq}
use Rattle.std.proofs.Math.Seq.{drop-append-add}
use Rattle.std.proofs.lemmas.Bool.{cases_Bool, ne_eqb}
use Rattle.std.proofs.lemmas.Bool.Decides.{nat_tests}
use Rattle.std.proofs.lemmas.List.{get_or-append_right, get_or_append_left, get_or_at, take_at}
use Rattle.std.proofs.lemmas.List.Elements.{All-head, All-tail}
use Rattle.std.proofs.lemmas.List.Folds.{list_any_at}
use Rattle.std.proofs.lemmas.List.Quantifiers.{position-Some}
use Rattle.std.proofs.lemmas.Slice.Eq.{bytes_eq-Decides}
use Rattle.csv_io.specs.Header.{column_faults, column_of, header_faults, is_colon, is_left_out, name_of, type_in, type_of_word}
use Rattle.csv_io.specs.Reload.{typed_name, word_of}
use Rattle.csv_io.specs.declared.header.TypeWord.TheVariants as word
use Rattle.csv_io.proofs.FieldFacts.{at-last}
use Rattle.kql_cells.specs.Named.{HasDistinctNames, IsAbsent, column_name, place_of}
use Rattle.kql_cells.specs.declared.schema.Column.{Column}
use Rattle.kql_cells.specs.declared.value.Kind.{Kind}
use Rattle.kql_cells.specs.declared.value.Kind.TheVariants as kind

-- a word for a type has no colon
no-colon : (k : Kind) → list_any is_colon (word_of k) ≡ false
no-colon kind.Bool = refl
no-colon kind.Long = refl
no-colon kind.Text = refl
no-colon kind.Moment = refl
no-colon kind.Span = refl
no-colon kind.Dynamic = refl

word-type : (k : Kind) → type_of_word (word_of k) ≡ word.Given k
word-type kind.Bool = refl
word-type kind.Long = refl
word-type kind.Text = refl
word-type kind.Moment = refl
word-type kind.Span = refl
word-type kind.Dynamic = refl

plain-at : (w : List ℕ) (i : ℕ) → list_any is_colon w ≡ false → i < length w → (get_or w i 0 == 58) ≡ false
plain-at w i none lt = elim (cases_Bool (get_or w i 0 == 58)) [
  | inl t ↦ let some = list_any_at is_colon w i 0 lt t in cc (some, none)
  | inr f ↦ f
]

-- behind a colon behind which there is none
behind : (name w : List ℕ) (k : ℕ) → list_any is_colon w ≡ false → length name + 1 ≤ k → k < length (name ++ 58 ∷ w) → (get_or (name ++ 58 ∷ w) k 0 == 58) ≡ false
behind name w k none low lt =
    let i = k - (length name + 1) in
    let size : length (name ++ 58 ∷ w) ≡ length name + suc (length w) = length-append name (58 ∷ w) in
    let at : k - length name ≡ suc i = omega arith in
    let here : get_or (name ++ 58 ∷ w) k 0 ≡ get_or w i 0 = get_or-append_right name (58 ∷ w) (length name) k 0 refl (omega arith) ∙ rw at refl in
    let within : i < length w = omega arith in
    rw here (plain-at w i none within)

split-at : (name w : List ℕ) → list_any is_colon w ≡ false → (name ≡ before_last is_colon (name ++ 58 ∷ w)) × (w ≡ after_last is_colon (name ++ 58 ∷ w))
split-at name w none =
    let size : length (name ++ 58 ∷ w) ≡ length name + suc (length w) = length-append name (58 ∷ w) in
    let all : length name - 0 ≡ length name = omega arith in
    let front : name ≡ slice_range (name ++ 58 ∷ w) 0 (length name) = rw all (sym (take_at name (58 ∷ w) (length name) refl)) in
    let back : w ≡ drop (length name + 1) (name ++ 58 ∷ w) = sym (drop-append-add name (58 ∷ w) 1) in
    at-last (name ++ 58 ∷ w) name w (length name) (omega arith) (get_or_at name 58 w 0 (length name) refl) (λ k low lt. behind name w k none low lt) front back

has-colon : (name w : List ℕ) → list_any is_colon (name ++ 58 ∷ w) ≡ true
has-colon [] w = refl
has-colon (b ∷ name) w = elim (cases_Bool (b == 58)) [ inl t ↦ rw t refl | inr f ↦ rw f (has-colon name w) ]

typed-type : (c : Column) → type_in (typed_name c) ≡ word.Given c.kind
typed-type c =
    let parts = split-at c.name (word_of c.kind) (no-colon c.kind) in
    let some = has-colon c.name (word_of c.kind) in
    let is : after_last is_colon (typed_name c) ≡ word_of c.kind = sym parts.1 in
    rw (some, is) (word-type c.kind)

typed-is : (c : Column) → name_of (typed_name c) ≡ c.name
typed-is c = rw (typed-type c) (sym (split-at c.name (word_of c.kind) (no-colon c.kind)).0)

typed-column : (c : Column) → column_of (typed_name c) ≡ c
unfolding column_of
typed-column c = rw (typed-is c, typed-type c) refl

pub columns-back : (cs : List Column) → map column_of (map typed_name cs) ≡ cs
columns-back [] = refl
columns-back (c ∷ cs) = rw (typed-column c, columns-back cs) refl

-- a name that is absent has no place
placed : (n : List ℕ) (xs : List Column) (d : Column) (o : Option ℕ) → IsAbsent column_name n xs → place_of column_name n xs ≡ o → is_some o ≡ false
placed n xs d None absent e = refl
placed n xs d (Some i) absent e =
    let p = position-Some (λ x. bytes_eq (column_name x) n) xs i d e in
    let same = (bytes_eq-Decides (get_or xs i d).name n).0 p.1 in
    absurd (absent i d p.0 same)

no-place : (n : List ℕ) (xs : List Column) (d : Column) → IsAbsent column_name n xs → is_some (place_of column_name n xs) ≡ false
no-place n xs d absent = placed n xs d (place_of column_name n xs) absent refl

has-size : (n : List ℕ) → n ≢ [] → (length n == 0) ≡ false
has-size [] h = absurd (h refl)
has-size (b ∷ bs) h = ne_eqb _ _ (λ z. omega arith)

typed-fault : (before : List Column) (c : Column) → length before < 256 → c.name ≢ [] → IsAbsent column_name c.name before → column_faults before (typed_name c) ≡ []
unfolding column_faults
typed-fault before c few named absent =
    let within : nat_lt 256 (length before + 1) ≡ false = grind (arith, nat_tests) in
    let given : is_left_out (type_in (typed_name c)) ≡ false = rw (typed-type c) refl in
    let size = has-size c.name named in
    let new = no-place c.name before c absent in
    rw (within, given, typed-is c, size, new) refl

-- the first of distinct names behind others is absent from them
absent-before : (before cs : List Column) (c : Column) → HasDistinctNames column_name (before ++ c ∷ cs) → IsAbsent column_name c.name before
absent-before before cs c distinct k d lt same =
    let size : length (before ++ c ∷ cs) ≡ length before + suc (length cs) = length-append before (c ∷ cs) in
    let left = get_or_append_left before (c ∷ cs) d k lt in
    let here = get_or_at before c cs d (length before) refl in
    distinct k (length before) d lt (omega arith) (rw (left, here) same)

pub typed-faults : (before cs : List Column) → length before + length cs ≤ 256 → All (λ c. c.name ≢ []) cs → HasDistinctNames column_name (before ++ cs) → header_faults before (map typed_name cs) ≡ []
typed-faults before [] few named distinct = refl
typed-faults before (c ∷ cs) few named distinct =
    let none = typed-fault before c (omega arith) (All-head (λ (d : Column). d.name ≢ []) c cs named) (absent-before before cs c distinct) in
    let size : length (before ++ c ∷ []) ≡ length before + 1 = length-append before (c ∷ []) in
    let more = typed-faults (before ++ c ∷ []) cs (omega arith) (All-tail (λ (d : Column). d.name ≢ []) c cs named) (rw (append_assoc before (c ∷ []) cs) distinct) in
    rw (none, typed-column c, more) refl
