-- Fields without a byte that calls for quotes.
use Rattle.std.proofs.Common.{◌≡◌, ◌<◌, ◌≤◌, ℕ, zero, suc, true, false, List, [], ◌∷◌, length, get_or, refl, sym, arith}
use Rattle.std.proofs.lemmas.Bool.Decides.{nat_tests}
use Rattle.csv.specs.Writing.{default_writer, needs_byte, needs_quotes}
use Rattle.csv_io.specs.Runs.{PassesBetween, is_clear}

clear-byte : (b : ℕ) → is_clear b ≡ true → needs_byte default_writer b ≡ false
clear-byte b e = grind (arith, nat_tests)

all-clear : (t : List ℕ) → ((k : ℕ) → k < length t → is_clear (get_or t k 0) ≡ true) → needs_quotes default_writer t ≡ false
all-clear [] all = refl
all-clear (b ∷ bs) all = rw (clear-byte b (all zero (omega arith)), all-clear bs (λ k lt. all (suc k) (omega arith))) refl

pub none-calls : (t : List ℕ) (end : ℕ) → length t ≤ end → PassesBetween is_clear t 0 end → false ≡ needs_quotes default_writer t
none-calls t end le all = sym (all-clear t (λ k lt. all k (omega arith) (omega arith)))
