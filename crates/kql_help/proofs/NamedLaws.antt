-- A name among those of some topics leads to a text.
use Rattle.std.proofs.Common.{rules, ◌≡◌, inl, inr, ℕ, Bool, true, false, cond, List, [], ◌∷◌, ◌++◌, Option, Some, None, Contains, IsSome, find, refl, sym, subst, arith}
use Rattle.std.proofs.lemmas.Bool.{false≢true}
use Rattle.std.proofs.lemmas.List.Elements.{Contains-append_cases}
use Rattle.std.proofs.lemmas.List.Folds.{list_any_at}
use Rattle.std.specs.Option.{option_or}
use Rattle.std.specs.Str.{bytes_eq}
use Rattle.kql_help.specs.Topics.{Told, has_name, names_in, text_of}
use Rattle.kql_help.specs.Index.{topics, named, of_overview, of_shell, of_queries, of_operators, of_functions, of_values, of_rows, of_word_codes, of_query_codes, of_name_codes, of_file_codes}
use Rattle.kql_help.proofs.FamilyLaws.{text_of-append, shown}

same_bytes : (xs : List ℕ) → bytes_eq xs xs ≡ true
same_bytes xs = search rules

is_among : (name : List ℕ) (ns : List (List ℕ)) → Contains ns name → has_name name ns ≡ true
is_among name ns h = list_any_at (λ n. bytes_eq n name) ns h.0 name h.1 (subst (λ n. bytes_eq n name ≡ true) (sym h.2) (same_bytes name))

-- a name of some topics has a text there
has_text : (ts : List Told) (name : List ℕ) → Contains (names_in ts) name → IsSome (text_of ts name)
unfolding text_of
has_text [] name h = absurd (let lt = h.1 in omega arith)
has_text (t ∷ ts) name h =
    let left : Bool → Option (List ℕ) = λ b. shown (cond b (Some t) (find (λ u. has_name name u.0) ts)) in
    elim (Contains-append_cases t.0 (names_in ts) name h) [
      | inl here ↦ subst (λ b. IsSome (left b)) (sym (is_among name t.0 here)) refl
      | inr later ↦ elim (has_name name t.0) as (λ b. IsSome (left b)) [ true ↦ refl | false ↦ has_text ts name later ]
    ]

or_first : (a b : Option (List ℕ)) → IsSome a → IsSome (option_or a b)
or_first None b h = absurd (false≢true h)
or_first (Some x) b h = refl

or_second : (a b : Option (List ℕ)) → IsSome b → IsSome (option_or a b)
or_second None b h = h
or_second (Some x) b h = refl

in_first : (xs ys : List Told) (name : List ℕ) → IsSome (text_of xs name) → IsSome (text_of (xs ++ ys) name)
in_first xs ys name h = subst (λ o. IsSome o) (sym (text_of-append xs ys name)) (or_first _ _ h)

in_second : (xs ys : List Told) (name : List ℕ) → IsSome (text_of ys name) → IsSome (text_of (xs ++ ys) name)
in_second xs ys name h = subst (λ o. IsSome o) (sym (text_of-append xs ys name)) (or_second _ _ h)

-- a name among the first ones leads to a text of the first topics, or is one of the others
step : (xs : List Told) (front : List (List ℕ)) (ys : List Told) (name : List ℕ) → (Contains front name → IsSome (text_of xs name)) → Contains (front ++ names_in ys) name → IsSome (text_of (xs ++ ys) name)
step xs front ys name first h =
    elim (Contains-append_cases front (names_in ys) name h) [
      | inl here ↦ in_first xs ys name (first here)
      | inr later ↦ in_second xs ys name (has_text ys name later)
    ]

named_are : named ≡ names_in of_overview ++ names_in of_shell ++ names_in of_queries ++ names_in of_operators ++ names_in of_functions ++ names_in of_values ++ names_in of_rows
unfolding named
named_are = refl

topics_are : topics ≡ of_overview ++ of_shell ++ of_queries ++ of_operators ++ of_functions ++ of_values ++ of_rows ++ of_word_codes ++ of_query_codes ++ of_name_codes ++ of_file_codes
unfolding topics
topics_are = refl

-- a name of a topic that is no code leads to a text
pub named_has_text : (name : List ℕ) → Contains named name → IsSome (text_of topics name)
named_has_text name h =
    subst (λ ts. IsSome (text_of ts name)) (sym topics_are)
    (in_first _ of_file_codes name (in_first _ of_name_codes name (in_first _ of_query_codes name (in_first _ of_word_codes name
    (step _ _ of_rows name (step _ _ of_values name (step _ _ of_functions name (step _ _ of_operators name (step _ _ of_queries name (step _ _ of_shell name (has_text of_overview name))))))
    (subst (λ ns. Contains ns name) named_are h))))))
