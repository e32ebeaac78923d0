-- The first file of a path, by its number.
use Rattle.std.proofs.Common.{◌≡◌, ℕ, ◌+◌, ◌-◌, ◌<◌, Bool, true, false, cond, ltb, List, [], ◌∷◌, ◌++◌, length, take, drop, get_or, map, refl, ap, sym, ◌∙◌, arith, drop-drop, take_all, ⊎_elim}
use Rattle.std.proofs.lemmas.List.{length-map, length-drop, get_or-map, take-append-drop}
use Rattle.std.specs.Prelude.{Some, None, position}
use Rattle.std.specs.List.{prefix_len, position_or_len, slice_get}
use Rattle.std.specs.Option.{option_map}
use Rattle.std.specs.Str.{bytes_eq}
use Rattle.std.proofs.lemmas.List.Folds.{find_at}
use Rattle.std.proofs.lemmas.Option.{slice_get_cases, get_or_from_slice_get}
use Rattle.std.proofs.lemmas.Bool.Decides.{nat_tests}
use Rattle.kql_outside.specs.Told.{file_of}
use Rattle.kql_outside.specs.Memory.{bytes_at}

prefix_len-map : {X Y : Type 0} (p : Y → Bool) (f : X → Y) (xs : List X) → prefix_len p (map f xs) ≡ prefix_len (λ x. p (f x)) xs
prefix_len-map p f [] = refl
prefix_len-map p f (x ∷ xs) = ap (λ n. cond (p (f x)) (1 + n) 0) (prefix_len-map p f xs)

-- what the file at a place is, where that place is the first of the path
file_of-place : (told : List (List ℕ × List ℕ)) (path : List ℕ) (k n : ℕ) → n ≡ length told → k ≡ position_or_len (λ (file : List ℕ × List ℕ). bytes_eq file.0 path) told → file_of told path ≡ option_map (bytes_at told) (cond (ltb k n) (Some k) None)
file_of-place told path k n e f =
    let found = find_at (λ (file : List ℕ × List ℕ). bytes_eq file.0 path) told in
    ⊎_elim
    (λ at.
    let here : ltb k n ≡ true = grind (arith, nat_tests, at.1) in
    ap (option_map (λ (file : List ℕ × List ℕ). file.1)) (found ∙ (ap (slice_get told) (sym f) ∙ at.2))
    ∙ (ap (λ (file : List ℕ × List ℕ). Some file.1) (sym (get_or_from_slice_get told k at.0 ([], []) at.2))
    ∙ sym (ap (λ b. option_map (bytes_at told) (cond b (Some k) None)) here)))
    (λ past.
    let gone : ltb k n ≡ false = grind (arith, nat_tests, past.0) in
    ap (option_map (λ (file : List ℕ × List ℕ). file.1)) (found ∙ (ap (slice_get told) (sym f) ∙ past.1))
    ∙ sym (ap (λ b. option_map (bytes_at told) (cond b (Some k) None)) gone))
    (slice_get_cases told k).1

pub file_of-position : {X : Type 0} (f : X → List ℕ × List ℕ) (xs : List X) (path : List ℕ) → file_of (map f xs) path ≡ option_map (bytes_at (map f xs)) (position (λ x. bytes_eq (f x).0 path) xs)
file_of-position f xs path =
    file_of-place (map f xs) path _ _ (sym (length-map xs f)) (sym (prefix_len-map _ f xs))

-- the bytes of a file that is seen through `f`
pub bytes_at-map : {X : Type 0} (f : X → List ℕ × List ℕ) (xs : List X) (k : ℕ) (x : X) → k < length xs → x ≡ get_or xs k x → bytes_at (map f xs) k ≡ (f x).1
bytes_at-map f xs k x within e =
    ap (λ (file : List ℕ × List ℕ). file.1) (get_or-map f xs k x ([], []) within ∙ ap f (sym e))

-- a read takes the front of what is left
pub left_after : (bytes whole front : List ℕ) (at count : ℕ) → whole ≡ bytes → front ≡ take count (take (length whole - at) (drop at whole)) → drop at bytes ≡ front ++ drop (at + count) bytes
left_after bytes whole front at count same e =
    let all = take_all (length whole - at) (drop at whole) (omega (arith, length-drop at whole)) in
    let taken = e ∙ (ap (take count) all ∙ ap (λ xs. take count (drop at xs)) same) in
    sym (ap (λ xs. xs ++ drop (at + count) bytes) taken ∙ (ap (λ xs. take count (drop at bytes) ++ xs) (sym (drop-drop count at bytes)) ∙ take-append-drop count (drop at bytes)))
