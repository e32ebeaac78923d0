-- What was read of a file.
use Rattle.std.proofs.Common.{◌≡◌, ◌≤◌, ◌<◌, ◌+◌, ◌↔◌, ◌∙◌, ℕ, true, false, IsTrue, List, length, take, refl, ap, sym, arith}
use Rattle.std.specs.Prelude.{Option, Some, None, IsErrAnd, IsSome, IfSome, Result, Ok, Err, nat_le}
use Rattle.std.proofs.lemmas.Bool.Decides.{nat_tests}
use Rattle.std.proofs.lemmas.List.{length-take, take_all}
use Rattle.kql_outside.specs.Told.{file_of}
use Rattle.kql_words.specs.Refusals.{Answer, ◌>>=◌}
use Rattle.kql_words.specs.declared.refusal.Refusal.TheVariants.{Data}
use Rattle.catalogue_tables.specs.Computes.{Computes, ReadsFront}
use Rattle.catalogue_tables.specs.Files.{Files, file_bytes, file_within, found_as, within}
use Rattle.catalogue_tables.specs.declared.stop.CatalogueStop.{CatalogueStop}
use Rattle.catalogue_tables.specs.declared.stop.CatalogueStop.TheVariants as stop
use Rattle.catalogue_tables.proofs.AnswerFacts.{raised, stops}

front-of : (o rest : Option (List ℕ)) (number limit : ℕ) (bytes : List ℕ) → rest ≡ o → IsSome o → IfSome rest (λ left. bytes ≡ take limit left)
    → ReadsFront limit (found_as number o) (Ok bytes)
front-of None rest number limit bytes e s h = cc
front-of (Some all) rest number limit bytes e s h = (all, refl, rw e at h)

-- the file was started and read
pub front-found : (told : Option Files) (rest : Option (List ℕ)) (path : List ℕ) (number limit : ℕ) (bytes : List ℕ)
    → IfSome told (λ all. IsTrue true ↔ IsSome (file_of all path)) → IfSome told (λ all. rest ≡ file_of all path) → IfSome rest (λ left. bytes ≡ take limit left)
    → IfSome told (λ files. ReadsFront limit (file_bytes number files path) (Ok bytes))
unfolding file_bytes
front-found None rest path number limit bytes f s h = tt
front-found (Some all) rest path number limit bytes f s h = front-of (file_of all path) rest number limit bytes s (f.0 refl) h

missing-of : (o : Option (List ℕ)) (number : ℕ) → (IsSome o → IsTrue false) → found_as number o ≡ Err (Data number 307 0 0)
missing-of None number n = refl
missing-of (Some bytes) number n = let e = n refl in cc

-- there is no file of the path
pub front-missing : (told : Option Files) (path : List ℕ) (number limit : ℕ) → IfSome told (λ all. IsTrue false ↔ IsSome (file_of all path))
    → IfSome told (λ files. ReadsFront limit (file_bytes number files path) (Err (stop.Refused number 307 0 0)))
unfolding file_bytes
front-missing None path number limit f = tt
front-missing (Some all) path number limit f = missing-of (file_of all path) number f.1

take-short : (n m : ℕ) (xs ys : List ℕ) → ys ≡ take n xs → length ys ≤ m → m < n → ys ≡ xs
take-short n m xs ys e h lt =
    let size = length-take n xs in
    let same : length ys ≡ length (take n xs) = ap length e in
    e ∙ take_all n xs (omega arith)

take-long : (n m : ℕ) (xs ys : List ℕ) → ys ≡ take n xs → m < length ys → m < length xs
take-long n m xs ys e h =
    let size = length-take n xs in
    let same : length ys ≡ length (take n xs) = ap length e in
    omega arith

-- no front was read
pub unread : (told : Option Files) (number code top limit : ℕ) (path : List ℕ) (s : CatalogueStop) (r : Result (List ℕ) CatalogueStop)
    → IfSome told (λ files. ReadsFront limit (file_bytes number files path) (Err s)) → IsErrAnd r (λ e. e ≡ s)
    → IfSome told (λ files. Computes (file_within files number code top path) r)
unread None number code top limit path s r h i = tt
unread (Some files) number code top limit path s r h i =
    raised (file_within files number code top path) r s i (stops (file_bytes number files path) (within number code top) s h)

-- so many bytes that there are too many
long-of : (a : Answer (List ℕ)) (number code top : ℕ) (bytes : List ℕ) → ReadsFront (top + 1) a (Ok bytes) → top < length bytes
    → (a >>= within number code top) ≡ Err (Data number code 0 0)
unfolding within
long-of a number code top bytes front over =
    let long : top < length front.0 = take-long (top + 1) top front.0 bytes front.2 (omega arith) in
    let no : nat_le (length front.0) top ≡ false = grind (arith, nat_tests) in
    rw (front.1, no) refl

pub too-long : (told : Option Files) (number code top : ℕ) (path bytes : List ℕ)
    → IfSome told (λ files. ReadsFront (top + 1) (file_bytes number files path) (Ok bytes)) → top < length bytes
    → IfSome told (λ files. file_within files number code top path ≡ Err (Data number code 0 0))
too-long None number code top path bytes front over = tt
too-long (Some files) number code top path bytes front over = long-of (file_bytes number files path) number code top bytes front over

-- not too many bytes: the file was read whole
whole-of : (a : Answer (List ℕ)) (number code top : ℕ) (bytes : List ℕ) → ReadsFront (top + 1) a (Ok bytes) → length bytes ≤ top
    → (a >>= within number code top) ≡ Ok bytes
unfolding within
whole-of a number code top bytes front upto =
    let same : bytes ≡ front.0 = take-short (top + 1) top front.0 bytes front.2 (omega arith) (omega arith) in
    let size : length front.0 ≡ length bytes = ap length (sym same) in
    let yes : nat_le (length front.0) top ≡ true = grind (arith, nat_tests) in
    rw (front.1, yes) (ap Ok (sym same))

pub whole : (told : Option Files) (number code top : ℕ) (path bytes : List ℕ)
    → IfSome told (λ files. ReadsFront (top + 1) (file_bytes number files path) (Ok bytes)) → length bytes ≤ top
    → IfSome told (λ files. file_within files number code top path ≡ Ok bytes)
whole None number code top path bytes front upto = tt
whole (Some files) number code top path bytes front upto = whole-of (file_bytes number files path) number code top bytes front upto
