-- Keys that are one short text: its bytes as three numbers.
use Rattle.std.specs.Prelude.{◌≡◌, ◌<◌, ◌≤◌, ◌+◌, ◌*◌, ◌/◌, ◌%◌, ◌++◌, ℕ, zero, suc, true, List, [], ◌∷◌, length, take, drop, bytes_eq, slice_index_or}
use Rattle.std.specs.Hash as fed
use Rattle.std.specs.Hash.{HashWrites}
use Rattle.std.proofs.Common.{ap}
use Rattle.std.proofs.lemmas.Slice.Eq.{bytes_eq-Decides}

-- Bytes as a number: each is a digit from 1 to 256, the first the lowest, so that bytes of any count have a number of their own.
unfoldable pub number_of : List ℕ → ℕ
number_of [] = 0
number_of (b ∷ bs) = suc (b + 256 * number_of bs)

-- the bytes that have a number, where they are at most so many
unfoldable pub bytes_of : ℕ → ℕ → List ℕ
bytes_of zero n = []
bytes_of (suc k) zero = []
bytes_of (suc k) (suc n) = n % 256 ∷ bytes_of k (n / 256)

-- the number of the at most seven bytes from a place on
unfoldable pub number_from : ℕ → List ℕ → ℕ
number_from i text = number_of (take 7 (drop i text))

-- the text that three numbers hold
unfoldable pub text_of : ℕ → ℕ → ℕ → List ℕ
text_of first second third = bytes_of 7 first ++ (bytes_of 7 second ++ bytes_of 7 third)

-- three numbers are those of a text
unfoldable pub AreNumbersOf : List ℕ → ℕ → ℕ → ℕ → Type 0
AreNumbersOf text first second third = (first ≡ number_from 0 text) × (second ≡ number_from 7 text) × (third ≡ number_from 14 text)

-- the first texts are no longer than what three numbers hold
unfoldable pub AreShort : ℕ → List (List ℕ) → Type 0
AreShort count texts = (i : ℕ) → i < count → length (slice_index_or texts i []) ≤ 21

-- what a short text feeds to a hasher
unfoldable pub text_writes : List ℕ → HashWrites
text_writes text = fed.u64 (number_from 0 text) ++ (fed.u64 (number_from 7 text) ++ fed.u64 (number_from 14 text))

-- what is the same has the same of everything
pub same_texts_alike : {X : Type 0} (f : List ℕ → X) (a b : List ℕ) → bytes_eq a b ≡ true → f a ≡ f b
same_texts_alike f a b e = ap f ((bytes_eq-Decides a b).0 e)
