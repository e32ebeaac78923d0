-- The first file of a path among files above others.
use Rattle.std.proofs.Common.{◌≡◌, ◌∙◌, ℕ, Bool, true, false, List, ◌++◌, refl, ap, sym, subst}
use Rattle.std.specs.Prelude.{Option, Some, None, IsSome, IsTrue, IfSome, ◌↔◌}
use Rattle.std.specs.Bool.{OnTrue}
use Rattle.std.specs.Option.{option_map, option_or}
use Rattle.std.specs.Str.{bytes_eq}
use Rattle.std.proofs.lemmas.List.Folds.{find-append}
use Rattle.kql_outside.specs.Told.{file_of}
use Rattle.kql_overlay.specs.Above.{files_above}

abbrev File : Type 0
File = List ℕ × List ℕ

abbrev has-path : List ℕ → File → Bool
has-path path file = bytes_eq file.0 path

abbrev bytes-in : Option File → Option (List ℕ)
bytes-in o = option_map (λ (file : File). file.1) o

bytes-or : (o p : Option File) → bytes-in (option_or o p) ≡ option_or (bytes-in o) (bytes-in p)
bytes-or None p = refl
bytes-or (Some x) p = refl

-- the file above counts, and else that below
file-append : (above below : List File) (path : List ℕ) → file_of (above ++ below) path ≡ option_or (file_of above path) (file_of below path)
file-append above below path = ap bytes-in (find-append (has-path path) above below) ∙ bytes-or _ _

or-some : (o p : Option (List ℕ)) → IsSome o → option_or o p ≡ o
or-some None p h = absurd cc
or-some (Some x) p h = refl

or-none : (o p : Option (List ℕ)) (there : Bool) → there ≡ false → (IsTrue there ↔ IsSome o) → option_or o p ≡ p
or-none None p there e h = refl
or-none (Some x) p there e h = let t = h.1 refl in absurd cc

-- a file above is there, and is what is started
pub found-above : (above : List File) (told : Option (List File)) (path : List ℕ) (there : Bool) → there ≡ true → (IsTrue there ↔ IsSome (file_of above path)) → IfSome (files_above above told) (λ all. IsTrue true ↔ IsSome (file_of all path))
found-above above None path there e h = tt
found-above above (Some below) path there e h =
    let some = h.0 e in
    let same = file-append above below path ∙ or-some (file_of above path) (file_of below path) some in
    (λ t. subst IsSome (sym same) some, λ s. refl)

pub started-above : (above : List File) (told : Option (List File)) (path left : List ℕ) → Some left ≡ file_of above path → IfSome (files_above above told) (λ all. Some left ≡ file_of all path)
started-above above None path left e = tt
started-above above (Some below) path left e =
    let same = file-append above below path ∙ or-some (file_of above path) (file_of below path) (subst IsSome e refl) in
    e ∙ sym same

-- where none is above, the files below decide
pub found-below : (above : List File) (told : Option (List File)) (path : List ℕ) (over there : Bool) → over ≡ false → (IsTrue over ↔ IsSome (file_of above path))
    → IfSome told (λ all. IsTrue there ↔ IsSome (file_of all path)) → IfSome (files_above above told) (λ all. IsTrue there ↔ IsSome (file_of all path))
found-below above None path over there e none h = tt
found-below above (Some below) path over there e none h =
    subst (λ o. IsTrue there ↔ IsSome o) (sym (file-append above below path ∙ or-none (file_of above path) (file_of below path) over e none)) h

pub started-below : (above : List File) (told : Option (List File)) (path : List ℕ) (left : Option (List ℕ)) (over there : Bool) → over ≡ false → (IsTrue over ↔ IsSome (file_of above path))
    → OnTrue there (IfSome told (λ all. left ≡ file_of all path)) → OnTrue there (IfSome (files_above above told) (λ all. left ≡ file_of all path))
started-below above None path left over true e none h = tt
started-below above None path left over false e none h = tt
started-below above (Some below) path left over true e none h =
    subst (λ o. left ≡ o) (sym (file-append above below path ∙ or-none (file_of above path) (file_of below path) over e none)) h
started-below above (Some below) path left over false e none h = h

pub ruleset above_facts = (found-above, started-above, found-below, started-below)
