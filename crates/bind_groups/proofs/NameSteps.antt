-- Names that stand once, or twice.
use Rattle.std.proofs.Common.{◌≡◌, ◌≢◌, ◌+◌, ℕ, suc, Bool, true, false, List, [], ◌∷◌, ◌++◌, length, map, refl, sym, ap, ◌∙◌, arith, inl, inr, subst}
use Rattle.std.specs.Prelude.{AllPairs, bytes_eq}
use Rattle.std.specs.List.{list_any}
use Rattle.std.proofs.lemmas.Bool.{cases_Bool}
use Rattle.std.proofs.lemmas.List.{length-map, map-append}
use Rattle.std.proofs.lemmas.Slice.Eq.{bytes_eq-Decides}
use Rattle.kql_lexer.specs.declared.place.Place.{Place}
use Rattle.kql_meaning.specs.FittingOperators.{are_distinct}
use Rattle.kql_meaning.specs.Tables.{is_name_among}
use Rattle.kql_meaning.proofs.FirstLaws.{any-at}
use Rattle.kql_meaning.proofs.MemberLaws.{Member, Pairwise, every-of-members, member-left, member-right, member-map, of-member}
use Rattle.kql_meaning.proofs.SortLaws.{every-from}
use Rattle.kql_syntax.specs.declared.tree.Name.{Name}
use Rattle.bind_expr.specs.Names.{text_of}
use Rattle.bind_expr.specs.Outcome.{Answers, Outcome}
use Rattle.bind_expr.specs.declared.fault.BindFault.{BindFault}
use Rattle.bind_operators.specs.Faults.{fault_if, unless}
use Rattle.bind_operators.specs.Items.{clash, names_twice, twice}
use Rattle.bind_operators.specs.Places.{name_place}
use Rattle.bind_operators.proofs.NameLaws.{among, apart, first-none, true-and-false}
use Rattle.bind_groups.specs.Names.{singles, with_written, written}
use Rattle.bind_groups.specs.declared.written_names.WrittenNames.{WrittenNames}

-- A name alone clashes where it stands already.
pub clash-one : (before : List (List ℕ)) (n : List ℕ) → clash before (n ∷ []) ≡ is_name_among before n
unfolding clash are_distinct is_name_among
clash-one before n = elim (cases_Bool (list_any (λ m. bytes_eq m n) before)) [
  | inl t ↦ rw t refl
  | inr f ↦ rw f refl
]

-- Names alone, and each as the names of one item.
singles-map : (names : List Name) → map (λ n. text_of n ∷ []) names ≡ singles (map text_of names)
singles-map [] = refl
singles-map (n ∷ ns) = ap (λ rest. (text_of n ∷ []) ∷ rest) (singles-map ns)

pub names-twice-is : (before : List (List ℕ)) (names : List Name) → names_twice before names ≡ twice before (map name_place names) (singles (map text_of names))
unfolding names_twice
names-twice-is before names = ap (λ each. twice before (map name_place names) each) (singles-map names)

pub written-answers : (before : List (List ℕ)) (names : List Name) (w : WrittenNames) (result : Outcome (Unit {0})) → w ≡ written names → Answers result (unless (twice before w.places (singles w.texts)) tt) → Answers result (unless (names_twice before names) tt)
unfolding written
written-answers before names w result is h =
    let all : Answers result (unless (twice before (map name_place names) (singles (map text_of names))) tt) = subst (λ (v : WrittenNames). Answers result (unless (twice before v.places (singles v.texts)) tt)) is h in
    subst (λ fs. Answers result (unless fs tt)) (sym (names-twice-is before names)) all

-- Names that are written one after another.
pub written-more : (names : List Name) (n : Name) (before after : WrittenNames) → before ≡ written names → after ≡ with_written before n → after ≡ written (names ++ n ∷ [])
unfolding written
written-more names n before after is made = rw made (rw is (rw (map-append text_of names (n ∷ []), map-append name_place names (n ∷ [])) refl))

pub ruleset more_steps = (written-more)

pub ruleset single_steps = (clash-one)

pub ruleset written_steps = (written-answers)

pub not-among : (names : List (List ℕ)) (n : List ℕ) → is_name_among names n ≡ false → Member n names → ⊥
not-among names n e m = true-and-false (is_name_among names n) (among names n m) e

-- Names of which none is told: no two are one, and none stood before.
pub written-once : (before : List (List ℕ)) (places : List Place) (texts : List (List ℕ)) → length places ≡ length texts → twice before places (singles texts) ≡ [] → Pairwise apart texts × ((n : List ℕ) → Member n texts → Member n before → ⊥)
unfolding twice
written-once before [] [] l e = (tt, λ n m b. m)
written-once before [] (t ∷ ts) l e = absurd (omega (arith, l))
written-once before (p ∷ ps) [] l e = absurd (omega (arith, l))
written-once before (p ∷ ps) (t ∷ ts) l e =
    let parts = first-none (clash before (t ∷ [])) 411 p (twice (before ++ t ∷ []) ps (singles ts)) e in
    let rest = written-once (before ++ t ∷ []) ps ts (omega (arith, l)) parts.1 in
    let new : is_name_among before t ≡ false = sym (clash-one before t) ∙ parts.0 in (
      (every-of-members (apart t) ts (λ n m same. rest.1 n m (member-right before (t ∷ []) n (inl same))), rest.0),
      λ n m there. elim m [
        | inl same ↦ not-among before t new (subst (λ k. Member k before) (sym same) there)
        | inr m ↦ rest.1 n m (member-left before (t ∷ []) n there)
      ],
    )

-- What has these names differs in them.
pub apart-of : {X : Type 0} (name : X → List ℕ) (xs : List X) → Pairwise apart (map name xs) → Pairwise (λ x y. name x ≢ name y) xs
apart-of name [] h = tt
apart-of name (x ∷ xs) h =
    (every-of-members (λ y. name x ≢ name y) xs (λ y m. of-member (apart (name x)) (map name xs) (name y) h.0 (member-map name xs y m)), apart-of name xs h.1)

-- Names that a query gives, of which none is told.
pub names-once : (before : List (List ℕ)) (names : List Name) → names_twice before names ≡ [] → Pairwise apart (map text_of names) × ((n : List ℕ) → Member n (map text_of names) → Member n before → ⊥)
names-once before names e =
    written-once before (map name_place names) (map text_of names) (length-map names name_place ∙ sym (length-map names text_of)) (sym (names-twice-is before names) ∙ e)
