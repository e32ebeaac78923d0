-- The topics of several families.
use Rattle.std.proofs.Common.{◌≡◌, ℕ, Bool, true, false, cond, List, [], ◌∷◌, ◌++◌, Option, Some, None, Bor, option_map, find, refl, sym, ◌∙◌, ap}
use Rattle.std.specs.Option.{option_or}
use Rattle.kql_help.specs.Topics.{Told, has_name, text_of}

-- a text as what it points to
abbrev pub told : Option (Bor (List ℕ)) → Option (List ℕ)
told o = option_map {T = Bor (List ℕ)} {U = List ℕ} (λ t. t.now) o

-- the text of what was found
abbrev pub shown : Option Told → Option (List ℕ)
shown o = option_map {T = Told} {U = List ℕ} (λ t. t.1) o

-- what is looked for in two lists of topics is looked for in the first, and then in the second
pub text_of-append : (xs ys : List Told) (name : List ℕ) → text_of (xs ++ ys) name ≡ option_or (text_of xs name) (text_of ys name)
unfolding text_of
text_of-append [] ys name = refl
text_of-append (x ∷ xs) ys name =
    let is_named : Told → Bool = λ t. has_name name t.0 in
    elim (is_named x) as (λ b. shown (cond b (Some x) (find is_named (xs ++ ys))) ≡ option_or (shown (cond b (Some x) (find is_named xs))) (shown (find is_named ys)))
    [ true ↦ refl | false ↦ text_of-append xs ys name ]

pub told-or : (a b : Option (Bor (List ℕ))) → told (option_or a b) ≡ option_or (told a) (told b)
told-or None b = refl
told-or (Some t) b = refl

-- two answers, of which the first that is there counts, are the answer of both lists
pub found_in_both : (xs ys : List Told) (name : List ℕ) (a b r : Option (Bor (List ℕ))) → told a ≡ text_of xs name → told b ≡ text_of ys name → r ≡ option_or a b → told r ≡ text_of (xs ++ ys) name
found_in_both xs ys name a b r first second is =
    ap told is ∙ told-or a b ∙ ap (λ o. option_or o (told b)) first ∙ ap (λ o. option_or (text_of xs name) o) second ∙ sym (text_of-append xs ys name)

-- an answer from a list that is a family
pub in_family : (ts xs : List Told) (name : List ℕ) (a : Option (Bor (List ℕ))) → told a ≡ text_of ts name → ts ≡ xs → told a ≡ text_of xs name
in_family ts xs name a found is = found ∙ ap (λ t. text_of t name) is
