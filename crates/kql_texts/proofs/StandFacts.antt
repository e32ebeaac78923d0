-- What std's finder says, in the words of this crate.
use Rattle.std.proofs.Common.{◌≡◌, ◌↔◌, ℕ, Bool, List, None, IsTrue, MatchBool}
use Rattle.std.specs.Str.Pattern.{FindsText, HasMatch}
use Rattle.std.proofs.lemmas.Str.Pattern.{contains_text}
use Rattle.kql_texts.specs.Stands.{Holds}

pub Holds-contains : (r : Bool) (s n t p : List ℕ) → MatchBool r (HasMatch (FindsText n) s) (FindsText n s None) → s ≡ t → n ≡ p → IsTrue r ↔ Holds t p
Holds-contains r s n t p found e f = rw (← e, ← f) (contains_text r n s found)
