-- What a writer wrote is a text, and reads as the records that were written.
use Rattle.std.proofs.Common.{◌≡◌, ◌≤◌, ◌<◌, ◌==◌, ◌&&◌, ◌++◌, ℕ, zero, suc, Bool, true, false, List, [], ◌∷◌, length, refl, ap, arith, append_assoc, length-append, inl, inr}
use Rattle.std.specs.Prelude.{IsUtf8, IsAscii, ⊤, flat_map, if◌then◌else◌}
use Rattle.std.specs.List.{list_any}
use Rattle.std.proofs.lemmas.Bool.{cases_Bool, eqb-true}
use Rattle.std.proofs.lemmas.Str.{IsUtf8-append, IsUtf8-from_ascii, IsUtf8-nil}
use Rattle.csv.specs.Machine.{next_record}
use Rattle.csv.specs.Reading.{default_config, records_from, strip_bom, is_bom}
use Rattle.csv.specs.Records.{AllText}
use Rattle.csv.specs.Writing.{default_writer, escaped, field_text, fields_text, is_blank, needs_byte, quoted, read_back, row_body, row_text}
use Rattle.csv.specs.declared.parser.State.TheVariants as st
use Rattle.csv.proofs.RoundTrip.{read-write}
use Rattle.csv_io.specs.TextRecords.{AllRecordsText}
use Rattle.csv_io.proofs.TextFacts.{split}

-- ---- it is a text

one-ascii : (c : ℕ) → c < 128 → IsAscii (c ∷ [])
one-ascii c lt zero = lt
one-ascii c lt (suc i) = omega arith

pub one-byte : (c : ℕ) → c < 128 → IsUtf8 (c ∷ [])
one-byte c lt = IsUtf8-from_ascii (c ∷ []) (one-ascii c lt)

quote : IsUtf8 (34 ∷ [])
quote = one-byte 34 (omega arith)

two-quotes : IsUtf8 (34 ∷ 34 ∷ [])
two-quotes = IsUtf8-append (34 ∷ []) (34 ∷ []) quote quote

escaped-quote : (b : ℕ) (rest : List ℕ) → (b == 34) ≡ true → escaped default_writer (b ∷ rest) ≡ 34 ∷ b ∷ escaped default_writer rest
unfolding escaped
escaped-quote b rest t = rw t refl

escaped-other : (b : ℕ) (rest : List ℕ) → (b == 34) ≡ false → escaped default_writer (b ∷ rest) ≡ b ∷ escaped default_writer rest
unfolding escaped
escaped-other b rest n = rw n refl

escaped-end : escaped default_writer [] ≡ []
unfolding escaped
escaped-end = refl

escaped-text : (a xs : List ℕ) → IsUtf8 (a ++ xs) → IsUtf8 (a ++ escaped default_writer xs)
escaped-text a [] u = rw escaped-end u
escaped-text a (b ∷ rest) u = elim (cases_Bool (b == 34)) [
  | inl t ↦
      let same : b ≡ 34 = eqb-true b 34 t in
      let q = split a b rest u (omega arith) in
      let more : IsUtf8 (escaped default_writer rest) = escaped-text [] rest q.1 in
      let quotes : IsUtf8 (34 ∷ b ∷ []) = rw same two-quotes in
      rw (escaped-quote b rest t) (IsUtf8-append a (34 ∷ b ∷ escaped default_writer rest) q.0 (IsUtf8-append (34 ∷ b ∷ []) (escaped default_writer rest) quotes more))
  | inr n ↦
      let front : IsUtf8 ((a ++ b ∷ []) ++ rest) = rw (append_assoc a (b ∷ []) rest) u in
      let more : IsUtf8 ((a ++ b ∷ []) ++ escaped default_writer rest) = escaped-text (a ++ b ∷ []) rest front in
      rw (escaped-other b rest n) (rw (append_assoc a (b ∷ []) (escaped default_writer rest)) at more)
]

quoted-text : (f : List ℕ) → IsUtf8 f → IsUtf8 (quoted default_writer f)
quoted-text f u =
    IsUtf8-append (34 ∷ []) (escaped default_writer f ++ 34 ∷ []) quote (IsUtf8-append (escaped default_writer f) (34 ∷ []) (escaped-text [] f u) quote)

field-utf8 : (f : List ℕ) → IsUtf8 f → IsUtf8 (field_text default_writer f)
field-utf8 f u = elim (cases_Bool (list_any (needs_byte default_writer) f)) [
  | inl t ↦ rw t (quoted-text f u)
  | inr n ↦ rw n u
]

fields-utf8 : (fs : List (List ℕ)) → AllText fs → IsUtf8 (fields_text default_writer fs)
unfolding fields_text AllText
fields-utf8 [] a = IsUtf8-nil
fields-utf8 (f ∷ fs) a =
    IsUtf8-append (44 ∷ []) (field_text default_writer f ++ fields_text default_writer fs) (one-byte 44 (omega arith))
    (IsUtf8-append (field_text default_writer f) (fields_text default_writer fs) (field-utf8 f a.0) (fields-utf8 fs a.1))

body-utf8 : (fs : List (List ℕ)) → AllText fs → IsUtf8 (row_body default_writer fs)
unfolding AllText
body-utf8 [] a = IsUtf8-nil
body-utf8 (f ∷ fs) a = IsUtf8-append (field_text default_writer f) (fields_text default_writer fs) (field-utf8 f a.0) (fields-utf8 fs a.1)

blank-utf8 : (b : Bool) → IsUtf8 (if b then 34 ∷ 34 ∷ [] else [])
blank-utf8 true = two-quotes
blank-utf8 false = IsUtf8-nil

pub row-utf8 : (fs : List (List ℕ)) → AllText fs → IsUtf8 (row_text default_writer fs)
row-utf8 fs a =
    IsUtf8-append (row_body default_writer fs) _ (body-utf8 fs a)
    (IsUtf8-append (if is_blank default_writer fs then 34 ∷ 34 ∷ [] else []) (10 ∷ []) (blank-utf8 (is_blank default_writer fs)) (one-byte 10 (omega arith)))

pub rows-utf8 : (rows : List (List (List ℕ))) → AllRecordsText rows → IsUtf8 (flat_map (row_text default_writer) rows)
unfolding AllRecordsText
rows-utf8 [] a = IsUtf8-nil
rows-utf8 (r ∷ rows) a = IsUtf8-append (row_text default_writer r) (flat_map (row_text default_writer) rows) (row-utf8 r a.0) (rows-utf8 rows a.1)

-- ---- it reads as the records

-- records of one field or more
abbrev pub AllFilled : List (List (List ℕ)) → Type 0
AllFilled [] = ⊤
AllFilled (r ∷ rs) = (read_back r ≡ r) × AllFilled rs

no-more : (n : ℕ) → records_from default_config n st.StartRecord [] ≡ []
unfolding records_from next_record
no-more zero = refl
no-more (suc n) = refl

row-long : (r : List (List ℕ)) → 1 ≤ length (row_text default_writer r)
row-long r =
    let a = length-append {A = ℕ} (row_body default_writer r) ((if is_blank default_writer r then 34 ∷ 34 ∷ [] else []) ++ 10 ∷ []) in
    let b = length-append {A = ℕ} (if is_blank default_writer r then 34 ∷ 34 ∷ [] else []) (10 ∷ []) in
    omega (arith, a, b)

pub rows-long : (rows : List (List (List ℕ))) → length rows ≤ length (flat_map (row_text default_writer) rows)
rows-long [] = omega arith
rows-long (r ∷ rows) =
    let a = length-append (row_text default_writer r) (flat_map (row_text default_writer) rows) in
    omega (arith, a, row-long r, rows-long rows)

pub rows-read : (n : ℕ) (rows : List (List (List ℕ))) → AllFilled rows → length rows ≤ n → records_from default_config n st.StartRecord (flat_map (row_text default_writer) rows) ≡ rows
unfolding records_from
rows-read n [] filled le = no-more n
rows-read zero (r ∷ rows) filled le = absurd (omega arith)
rows-read (suc n) (r ∷ rows) filled le =
    rw (read-write r (flat_map (row_text default_writer) rows), filled.0, rows-read n rows filled.1 (omega arith)) refl

-- ---- it does not begin with a byte order mark

quote-first : (xs : List ℕ) → strip_bom (34 ∷ xs) ≡ 34 ∷ xs
unfolding strip_bom
quote-first [] = refl
quote-first (a ∷ []) = refl
quote-first (a ∷ b ∷ xs) = refl

and-false : (a : Bool) → (a && false) ≡ false
and-false true = refl
and-false false = refl

colon-first : (xs : List ℕ) → strip_bom (58 ∷ xs) ≡ 58 ∷ xs
unfolding strip_bom
colon-first [] = refl
colon-first (a ∷ []) = refl
colon-first (a ∷ b ∷ xs) = refl

colon-second : (a : ℕ) (xs : List ℕ) → strip_bom (a ∷ 58 ∷ xs) ≡ a ∷ 58 ∷ xs
unfolding strip_bom
colon-second a [] = refl
colon-second a (b ∷ xs) = elim (cases_Bool (a == 239)) [ inl t ↦ rw t refl | inr f ↦ rw f refl ]

colon-third : (a b : ℕ) (xs : List ℕ) → strip_bom (a ∷ b ∷ 58 ∷ xs) ≡ a ∷ b ∷ 58 ∷ xs
unfolding strip_bom
colon-third a b xs = rw (and-false ((a == 239) && (b == 187))) refl

long-name : (a b c : ℕ) (more xs : List ℕ) → strip_bom (a ∷ b ∷ c ∷ more) ≡ a ∷ b ∷ c ∷ more → strip_bom (a ∷ b ∷ c ∷ (more ++ xs)) ≡ a ∷ b ∷ c ∷ (more ++ xs)
unfolding strip_bom
long-name a b c more xs e = elim (cases_Bool (is_bom a b c)) [
  | inl t ↦ let same = rw t at e in let size = ap length same in absurd (omega arith)
  | inr f ↦ rw f refl
]

-- a name without the mark, and a colon
plain-first : (name xs : List ℕ) → strip_bom name ≡ name → strip_bom (name ++ 58 ∷ xs) ≡ name ++ 58 ∷ xs
plain-first [] xs e = colon-first xs
plain-first (a ∷ []) xs e = colon-second a xs
plain-first (a ∷ b ∷ []) xs e = colon-third a b xs
plain-first (a ∷ b ∷ c ∷ more) xs e = long-name a b c more (58 ∷ xs) e

regroup : (n w a b r : List ℕ) → (((n ++ 58 ∷ w) ++ a) ++ b) ++ r ≡ n ++ 58 ∷ (w ++ (a ++ (b ++ r)))
regroup n w a b r = simp append_assoc

pub no-mark : (name w : List ℕ) (fs : List (List ℕ)) (rest : List ℕ) → strip_bom name ≡ name
    → strip_bom (row_text default_writer ((name ++ 58 ∷ w) ∷ fs) ++ rest) ≡ row_text default_writer ((name ++ 58 ∷ w) ∷ fs) ++ rest
no-mark name w fs rest e = elim (cases_Bool (list_any (needs_byte default_writer) (name ++ 58 ∷ w))) [
  | inl t ↦ rw t (quote-first _)
  | inr n ↦ rw n (rw (regroup name w (fields_text default_writer fs) ((if is_blank default_writer ((name ++ 58 ∷ w) ∷ fs) then 34 ∷ 34 ∷ [] else []) ++ 10 ∷ []) rest) (plain-first name _ e))
]
