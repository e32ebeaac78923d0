-- What was read of the files.
use Rattle.std.proofs.Common.{◌≡◌, ◌≤◌, ◌<◌, ◌+◌, ◌-◌, ◌↔◌, ◌∙◌, ℕ, true, false, IsTrue, List, length, take, refl, ap, sym, arith, inl, inr}
use Rattle.std.specs.Prelude.{Option, Some, None, IsErrAnd, IsSome, IfSome, Result, Ok, Err, nat_le, nat_lt}
use Rattle.std.proofs.lemmas.Bool.{cases_Bool}
use Rattle.std.proofs.lemmas.Bool.Decides.{nat_tests}
use Rattle.std.proofs.lemmas.List.{length-take, take_all}
use Rattle.csv_io.specs.Load.{loaded}
use Rattle.csv_io.specs.Faults.{Fault}
use Rattle.kql_lexer.specs.Answers.{IsFirstFault}
use Rattle.kql_lexer.specs.Lexing.{lexed}
use Rattle.kql_lexer.specs.Places.{place_at}
use Rattle.kql_lexer.specs.declared.place.TheConstants.{MAX_BYTES}
use Rattle.kql_lexer.specs.declared.lexer.LexFault.{LexFault}
use Rattle.kql_lexer.specs.declared.lexer.LexFault.TheVariants as lex
use Rattle.kql_lexer.specs.declared.token.Token.{Token}
use Rattle.kql_outside.specs.Told.{file_of}
use Rattle.kql_cells.specs.Table.{Grid}
use Rattle.catalogue_tables.specs.Files.{Files, file_bytes, found_as}
use Rattle.kql_program.specs.Files.{ReadsFront, ReadsTable, file_tokens, lexed_as, loaded_as, query_tokens, table_in, table_of}
use Rattle.kql_program.specs.Refusals.{Computes, Gives}
use Rattle.kql_words.specs.Refusals.{Answer, ◌>>=◌}
use Rattle.kql_program.specs.Stops.{lex_stop}
use Rattle.kql_program.proofs.AnswerFacts.{computes, gives-along, goes_on, raised, stops}
use Rattle.kql_words.specs.declared.refusal.Refusal.TheVariants as refusal
use Rattle.kql_program.specs.declared.refusal.Stop.{Stop}
use Rattle.kql_program.specs.declared.refusal.Stop.TheVariants as stop

front-of : (o rest : Option (List ℕ)) (number limit : ℕ) (bytes : List ℕ) → rest ≡ o → IsSome o → IfSome rest (λ left. bytes ≡ take limit left)
    → ReadsFront limit (found_as number o) (Ok bytes)
front-of None rest number limit bytes e s h = cc
front-of (Some all) rest number limit bytes e s h = (all, refl, rw e at h)

-- the file was started and read
pub front-found : (told : Option Files) (rest : Option (List ℕ)) (path : List ℕ) (number limit : ℕ) (bytes : List ℕ)
    → IfSome told (λ all. IsTrue true ↔ IsSome (file_of all path)) → IfSome told (λ all. rest ≡ file_of all path) → IfSome rest (λ left. bytes ≡ take limit left)
    → IfSome told (λ files. ReadsFront limit (file_bytes number files path) (Ok bytes))
unfolding file_bytes
front-found None rest path number limit bytes f s h = tt
front-found (Some all) rest path number limit bytes f s h = front-of (file_of all path) rest number limit bytes s (f.0 refl) h

missing-of : (o : Option (List ℕ)) (number : ℕ) → (IsSome o → IsTrue false) → found_as number o ≡ Err (refusal.Data number 307 0 0)
missing-of None number n = refl
missing-of (Some bytes) number n = let e = n refl in cc

-- there is no file of the path
pub front-missing : (told : Option Files) (path : List ℕ) (number limit : ℕ) → IfSome told (λ all. IsTrue false ↔ IsSome (file_of all path))
    → IfSome told (λ files. ReadsFront limit (file_bytes number files path) (Err (stop.Refused (refusal.Data number 307 0 0))))
unfolding file_bytes
front-missing None path number limit f = tt
front-missing (Some all) path number limit f = missing-of (file_of all path) number f.1

-- a fault of the lexer
pub tokens-fault : (text : List ℕ) (fault : LexFault) → IsFirstFault fault (lexed text) → Gives (query_tokens text) (Err (lex_stop fault))
unfolding query_tokens
tokens-fault text (lex.Refused code place) h = rw h refl
tokens-fault text lex.OutOfMemory h = tt

pub tokens-ok : (text : List ℕ) (tokens : List Token) → lexed text ≡ Ok tokens → query_tokens text ≡ Ok tokens
unfolding query_tokens
tokens-ok text tokens h = rw h refl

-- a fault of a table file
pub load-fault : (number code row column : ℕ) (answer : Result Grid Fault) → answer ≡ Err (record { code = code; row = row; column = column }) → loaded_as number answer ≡ Err (refusal.Data number code row column)
load-fault number code row column answer e = rw e refl

take-short : (n m : ℕ) (xs ys : List ℕ) → ys ≡ take n xs → length ys ≤ m → m < n → ys ≡ xs
take-short n m xs ys e h lt =
    let size = length-take n xs in
    let same : length ys ≡ length (take n xs) = ap length e in
    e ∙ take_all n xs (omega arith)

take-long : (n m : ℕ) (xs ys : List ℕ) → ys ≡ take n xs → m < length ys → m < length xs
take-long n m xs ys e h =
    let size = length-take n xs in
    let same : length ys ≡ length (take n xs) = ap length e in
    omega arith

-- so many bytes that the table files have too many together
too-long-of : (a : Answer (List ℕ)) (number room : ℕ) (bytes : List ℕ) → ReadsFront (room + 1) a (Ok bytes) → room < length bytes
    → (a >>= table_in number room) ≡ Err (refusal.Data number 308 0 0)
unfolding table_in
too-long-of a number room bytes front over =
    let long : room < length front.0 = take-long (room + 1) room front.0 bytes front.2 (omega arith) in
    let no : nat_le (length front.0) room ≡ false = grind (arith, nat_tests) in
    rw (front.1, no) refl

pub too-long : (told : Option Files) (number room : ℕ) (path bytes : List ℕ)
    → IfSome told (λ files. ReadsFront (room + 1) (file_bytes number files path) (Ok bytes)) → room < length bytes
    → IfSome told (λ files. ReadsTable files number room path (Err (stop.Refused (refusal.Data number 308 0 0))))
too-long None number room path bytes front over = tt
too-long (Some files) number room path bytes front over = too-long-of (file_bytes number files path) number room bytes front over

-- not too many bytes: the file was read whole, and its table is what its bytes load as
whole-of : (a : Answer (List ℕ)) (number room : ℕ) (bytes : List ℕ) → ReadsFront (room + 1) a (Ok bytes) → length bytes ≤ room
    → (a ≡ Ok bytes) × (table_in number room bytes ≡ loaded_as number (loaded bytes))
unfolding table_in
whole-of a number room bytes front within =
    let same : bytes ≡ front.0 = take-short (room + 1) room front.0 bytes front.2 (omega arith) (omega arith) in
    let yes : nat_le (length bytes) room ≡ true = grind (arith, nat_tests) in
    (front.1 ∙ ap Ok (sym same), rw yes refl)

-- what holds of the table of those bytes holds of the table of the file
loads-of : (a : Answer (List ℕ)) (number room : ℕ) (bytes : List ℕ) (r : Result Grid Stop) → ReadsFront (room + 1) a (Ok bytes) → length bytes ≤ room
    → Gives (loaded_as number (loaded bytes)) r → Computes (a >>= table_in number room) r
loads-of a number room bytes r front within g =
    let whole = whole-of a number room bytes front within in
    rw (whole.0, whole.1) (computes (loaded_as number (loaded bytes)) r g)

raised-table : (files : Files) (number room : ℕ) (path : List ℕ) (r : Result (Grid × ℕ) Stop) (s : Stop) → IsErrAnd r (λ e. e ≡ s) → Computes (table_of files number room path) (Err s) → ReadsTable files number room path r
raised-table files number room path (Ok x) s i h = absurd i
raised-table files number room path (Err e) s i h = rw i h

-- a file whose bytes do not load
pub table-raised : (told : Option Files) (number room : ℕ) (path bytes : List ℕ) (r : Result (Grid × ℕ) Stop) (s : Stop)
    → IfSome told (λ files. ReadsFront (room + 1) (file_bytes number files path) (Ok bytes)) → length bytes ≤ room
    → Gives (loaded_as number (loaded bytes)) (Err s) → IsErrAnd r (λ e. e ≡ s)
    → IfSome told (λ files. ReadsTable files number room path r)
table-raised None number room path bytes r s front within g i = tt
table-raised (Some files) number room path bytes r s front within g i =
    raised-table files number room path r s i (loads-of (file_bytes number files path) number room bytes (Err s) front within g)

-- a file that loads
pub table-ok : (told : Option Files) (number room more : ℕ) (path bytes : List ℕ) (grid : Grid)
    → IfSome told (λ files. ReadsFront (room + 1) (file_bytes number files path) (Ok bytes)) → length bytes ≤ room
    → loaded_as number (loaded bytes) ≡ Ok grid → more ≡ room - length bytes
    → IfSome told (λ files. ReadsTable files number room path (Ok (grid, more)))
table-ok None number room more path bytes grid front within g m = tt
table-ok (Some files) number room more path bytes grid front within g m =
    let whole = whole-of (file_bytes number files path) number room bytes front within in
    (bytes, whole.0, whole.1 ∙ g, m)

is-below : (n m : ℕ) → nat_lt n m ≡ true → n < m
is-below n m e = grind (arith, nat_tests)

below-is : (n m : ℕ) → n < m → nat_lt n m ≡ true
below-is n m e = grind (arith, nat_tests)

not-below : (n m : ℕ) → nat_lt n m ≡ false → m ≤ n
not-below n m e = grind (arith, nat_tests)

long-take : (n : ℕ) (xs : List ℕ) → n < length xs → n < length (take (n + 1) xs)
long-take n xs lt = omega (arith, length-take (n + 1) xs)

-- one byte more than a query may have tells as much as all of them
lexed-front : (text : List ℕ) → lexed (take (MAX_BYTES + 1) text) ≡ lexed text
unfolding lexed place_at
lexed-front text = elim (cases_Bool (nat_lt MAX_BYTES (length text))) [
  | inl t ↦ rw (below-is MAX_BYTES (length (take (MAX_BYTES + 1) text)) (long-take MAX_BYTES text (is-below MAX_BYTES (length text) t)), t) refl
  | inr n ↦
      let upto = not-below MAX_BYTES (length text) n in
      let short : length text ≤ MAX_BYTES + 1 = omega (arith, upto) in
      rw (take_all (MAX_BYTES + 1) text short) refl
]

tokens-front : (text : List ℕ) → query_tokens (take (MAX_BYTES + 1) text) ≡ query_tokens text
unfolding query_tokens
tokens-front text = ap lexed_as (lexed-front text)

-- the query file can't be read
pub query-unread : (told : Option Files) (path : List ℕ) (r : Result (List Token) Stop) (s : Stop) → IfSome told (λ files. ReadsFront (MAX_BYTES + 1) (file_bytes 0 files path) (Err s)) → IsErrAnd r (λ e. e ≡ s)
    → IfSome told (λ files. Computes (file_tokens files path) r)
unfolding file_tokens
query-unread None path r s h i = tt
query-unread (Some files) path r s h i = raised (file_tokens files path) r s i (stops (file_bytes 0 files path) (λ bytes. query_tokens bytes) s h)

-- the tokens of the query file's bytes
pub query-lexed : (told : Option Files) (path bytes : List ℕ) (r : Result (List Token) Stop) → IfSome told (λ files. ReadsFront (MAX_BYTES + 1) (file_bytes 0 files path) (Ok bytes))
    → Gives (query_tokens bytes) r → IfSome told (λ files. Computes (file_tokens files path) r)
unfolding file_tokens
query-lexed None path bytes r h g = tt
query-lexed (Some files) path bytes r h g =
    let same : query_tokens bytes ≡ query_tokens h.0 = ap query_tokens h.2 ∙ tokens-front h.0 in
    goes_on (file_bytes 0 files path) (λ bytes. query_tokens bytes) h.0 r h.1 (computes (query_tokens h.0) r (gives-along (query_tokens bytes) (query_tokens h.0) r same g))
