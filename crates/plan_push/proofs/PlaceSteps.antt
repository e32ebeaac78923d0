-- The columns before operators.
use Rattle.std.proofs.Common.{◌≡◌, ◌≤◌, ◌<◌, ◌+◌, ℕ, zero, suc, List, [], ◌∷◌, ◌++◌, take, length, get_or, refl, sym, ap, ap₂, ◌∙◌, subst, arith}
use Rattle.std.specs.Prelude.{◌-◌, slice_get, unwrap_or, None, Option, Some}
use Rattle.std.proofs.lemmas.List.{append_assoc, length-append}
use Rattle.kql_cells.specs.declared.schema.Column.{Column}
use Rattle.kql_bound.specs.declared.plan.Op.{Op}
use Rattle.kql_meaning.specs.Fits.{Known}
use Rattle.plan_columns.specs.Made.{op_makes, ops_make}
use Rattle.plan_columns.proofs.MadeLaws.{ops-none, ops-one}
use Rattle.plan_push.specs.Walk.{Begun, Found, places}

-- Lists and their ends.

pub same-ends : {A : Type 0} (xs ys : List A) (x y : A) → xs ++ x ∷ [] ≡ ys ++ y ∷ [] → (xs ≡ ys) × (x ≡ y)
same-ends [] [] x y e = (refl, cc)
same-ends [] (b ∷ []) x y e = absurd cc
same-ends [] (b ∷ c ∷ bs) x y e = absurd cc
same-ends (a ∷ []) [] x y e = absurd cc
same-ends (a ∷ c ∷ more) [] x y e = absurd cc
same-ends (a ∷ more) (b ∷ bs) x y e =
    let head : a ≡ b = cc in
    let tails : more ++ x ∷ [] ≡ bs ++ y ∷ [] = cc in
    let r = same-ends more bs x y tails in
    (ap₂ (λ h t. h ∷ t) head r.0, r.1)

take-none : {A : Type 0} (n : ℕ) → take {A = A} n [] ≡ []
take-none zero = refl
take-none (suc n) = refl

take-front : {A : Type 0} (n : ℕ) (xs ys : List A) → take n (xs ++ ys) ≡ take n xs ++ take (n - length xs) ys
take-front {A} zero [] ys = let m : 0 ≡ 0 - length {A = A} [] = omega arith in ap (λ m. take m ys) m
take-front zero (x ∷ xs) ys = let m : 0 ≡ 0 - length (x ∷ xs) = omega arith in ap (λ m. take m ys) m
take-front {A} (suc n) [] ys = let m : suc n ≡ suc n - length {A = A} [] = omega arith in ap (λ m. take m ys) m
take-front (suc n) (x ∷ xs) ys = let m : n - length xs ≡ suc n - length (x ∷ xs) = omega arith in ap (λ t. x ∷ t) (take-front n xs ys ∙ ap (λ m. take n xs ++ take m ys) m)

take-all-front : {A : Type 0} (xs ys : List A) → take (length xs) (xs ++ ys) ≡ xs
take-all-front [] [] = refl
take-all-front [] (y ∷ ys) = refl
take-all-front (x ∷ xs) ys = ap (λ t. x ∷ t) (take-all-front xs ys)

take-some : {A : Type 0} (n : ℕ) (xs : List A) → 0 < n → 0 < length xs → 0 < length (take n xs)
take-some zero xs a b = absurd (omega (arith, a))
take-some (suc n) [] a b = absurd (omega (arith, b))
take-some (suc n) (x ∷ xs) a b = omega arith

get-front : {A : Type 0} (n : ℕ) (xs ys : List A) → n < length xs → slice_get (xs ++ ys) n ≡ slice_get xs n
get-front n [] ys l = absurd (omega (arith, l))
get-front zero (x ∷ xs) ys l = refl
get-front (suc n) (x ∷ xs) ys l = get-front n xs ys (omega (arith, l))

get-behind : {A : Type 0} (xs ys : List A) (y : A) → slice_get (xs ++ y ∷ ys) (length xs) ≡ Some y
get-behind [] ys y = refl
get-behind (x ∷ xs) ys y = get-behind xs ys y

-- The columns of places.

pub place-none : (k : Known) (cs : List Column) → places [] k cs ≡ cs ∷ []
unfolding places
place-none k cs = refl

pub places-length : (xs : List Op) (k : Known) (cs : List Column) → length (places xs k cs) ≡ suc (length xs)
unfolding places
places-length [] k cs = refl
places-length (x ∷ xs) k cs = ap suc (places-length xs k (op_makes x k cs))

place-first : (xs : List Op) (k : Known) (cs : List Column) → slice_get (places xs k cs) zero ≡ Some cs
unfolding places
place-first [] k cs = refl
place-first (x ∷ xs) k cs = refl

pub places-here : (xs : List Op) (k : Known) (cs : List Column) → slice_get (places xs k cs) (length xs) ≡ Some (ops_make xs k cs)
unfolding places
places-here [] k cs = ap (λ c. Some c) (sym (ops-none k cs))
places-here (x ∷ xs) k cs = places-here xs k (op_makes x k cs) ∙ ap (λ c. Some c) (sym (ops-one x xs k cs))

pub places-end : (xs : List Op) (x : Op) (k : Known) (cs : List Column) → places (xs ++ x ∷ []) k cs ≡ places xs k cs ++ op_makes x k (ops_make xs k cs) ∷ []
unfolding places
places-end [] x k cs = ap (λ c. cs ∷ op_makes x k c ∷ []) (sym (ops-none k cs))
places-end (y ∷ ys) x k cs = ap (λ ps. cs ∷ ps) (places-end ys x k (op_makes y k cs) ∙ ap (λ c. places ys k (op_makes y k cs) ++ op_makes x k c ∷ []) (sym (ops-one y ys k cs)))

-- The columns of a place are those that the operator before it makes.
places-next : (xs : List Op) (n : ℕ) (x : Op) (k : Known) (cs : List Column) → slice_get xs n ≡ Some x → slice_get (places xs k cs) (suc n) ≡ Some (op_makes x k (unwrap_or (slice_get (places xs k cs) n) []))
unfolding places
places-next [] n x k cs e = absurd cc
places-next (y ∷ ys) zero x k cs e =
    let same : y ≡ x = cc in
    place-first ys k (op_makes y k cs) ∙ ap (λ o. Some (op_makes o k cs)) same
places-next (y ∷ ys) (suc n) x k cs e = places-next ys n x k (op_makes y k cs) e

-- Those that were asked for.

pub begun-first : (k : Known) (cs here : List Column) (none before : List (List Column)) (passed : List Op) → here ≡ cs → none ≡ [] → before ≡ none ++ here ∷ [] → passed ≡ [] → Begun k cs before passed
begun-first k cs here none before passed h n b p =
    let one : before ≡ cs ∷ [] = b ∙ ap₂ (λ (v : List (List Column)) c. v ++ c ∷ []) n h in
    record {
      others = [];
      parts = ap (λ v. places v k cs) p ∙ (place-none k cs ∙ ap (λ (v : List (List Column)). v ++ []) (sym one));
      some = let count = ap length one in omega (arith, count);
    }

pub begun-pass : (k : Known) (cs : List Column) (before : List (List Column)) (passed passed' : List Op) (x : Op) → passed' ≡ passed ++ x ∷ [] → Begun k cs before passed → Begun k cs before passed'
begun-pass k cs before passed passed' x p b = record {
  others = b.others ++ op_makes x k (ops_make passed k cs) ∷ [];
  parts = ap (λ v. places v k cs) p ∙ (places-end passed x k cs ∙ (ap (λ v. v ++ op_makes x k (ops_make passed k cs) ∷ []) b.parts ∙ append_assoc before b.others (op_makes x k (ops_make passed k cs) ∷ [])));
  some = b.some;
}

pub begun-back : (k : Known) (cs : List Column) (before before' : List (List Column)) (passed passed' : List Op) (x : Op) (n : ℕ) → passed ≡ passed' ++ x ∷ [] → n ≡ length passed → before' ≡ take n before → Begun k cs before passed → Begun k cs before' passed'
begun-back k cs before before' passed passed' x n p l t b =
    let counts = ap length p in
    let count : n ≡ length (places passed' k cs) = omega (arith, l, counts, length-append passed' (x ∷ []), places-length passed' k cs) in
    let whole : places passed' k cs ++ op_makes x k (ops_make passed' k cs) ∷ [] ≡ before ++ b.others = sym (places-end passed' x k cs) ∙ (ap (λ v. places v k cs) (sym p) ∙ b.parts) in
    record {
      others = take (n - length before) b.others;
      parts = sym (take-all-front (places passed' k cs) (op_makes x k (ops_make passed' k cs) ∷ [])) ∙ (ap₂ (λ m v. take m v) (sym count) whole ∙ (take-front n before b.others ∙ ap (λ v. v ++ take (n - length before) b.others) (sym t)));
      some = subst (λ v. 0 < length v) (sym t) (take-some n before (omega (arith, count, places-length passed' k cs)) b.some);
    }

more-rest : (k : Known) (cs : List Column) (before : List (List Column)) (passed : List Op) (n : ℕ) (x : Op) (rest : List (List Column)) → places passed k cs ≡ before ++ rest → length before ≡ n + 1 → slice_get passed n ≡ Some x → n < length passed → (others : List (List Column)) × (rest ≡ op_makes x k (unwrap_or (slice_get before n) []) ∷ others)
more-rest k cs before passed n x [] e l g lt =
    let count = ap length e in
    absurd (omega (arith, count, l, lt, places-length passed k cs, length-append before []))
more-rest k cs before passed n x (r ∷ rest) e l g lt =
    let next = places-next passed n x k cs g in
    let there : slice_get (places passed k cs) (suc n) ≡ Some r = ap₂ (λ v m. slice_get v m) e (omega (arith, l)) ∙ get-behind before rest r in
    let same : slice_get (places passed k cs) n ≡ slice_get before n = ap (λ v. slice_get v n) e ∙ get-front n before (r ∷ rest) (omega (arith, l)) in
    let is : Some r ≡ Some (op_makes x k (unwrap_or (slice_get before n) [])) = sym there ∙ (next ∙ ap (λ o. Some (op_makes x k (unwrap_or o []))) same) in
    let first : r ≡ op_makes x k (unwrap_or (slice_get before n) []) = cc in
    (rest, ap (λ v. v ∷ rest) first)

pub begun-more : (k : Known) (cs : List Column) (before before' : List (List Column)) (passed : List Op) (n : ℕ) (x : Op) (next : List Column) → slice_get passed n ≡ Some x → n < length passed → length before ≡ n + 1 → next ≡ op_makes x k (unwrap_or (slice_get before n) []) → before' ≡ before ++ next ∷ [] → Begun k cs before passed → Begun k cs before' passed
begun-more k cs before before' passed n x next g lt l m a b =
    let r = more-rest k cs before passed n x b.others b.parts l g lt in
    record {
      others = r.0;
      parts = b.parts ∙ (ap (λ v. before ++ v) (r.1 ∙ ap (λ c. c ∷ r.0) (sym m)) ∙ (sym (append_assoc before (next ∷ []) r.0) ∙ ap (λ v. v ++ r.0) (sym a)));
      some = let count = ap length a in omega (arith, count, length-append before (next ∷ []));
    }

pub found-here : (k : Known) (cs : List Column) (before : List (List Column)) (passed : List Op) (n : ℕ) → n ≡ length passed → Found k cs before passed → unwrap_or (slice_get before n) [] ≡ ops_make passed k cs
found-here k cs before passed n l f =
    ap (λ m. unwrap_or (slice_get before m) []) l ∙ (ap (λ o. unwrap_or o []) (sym (get-front (length passed) before f.begun.others f.all)) ∙ (ap (λ v. unwrap_or (slice_get v (length passed)) []) (sym f.begun.parts) ∙ ap (λ o. unwrap_or o []) (places-here passed k cs)))

-- The loop that finds them.

pub record Finding (k : Known) (cs : List Column) (before : List (List Column)) (passed : List Op) (n : ℕ) : Type 0 where
  pub begun : Begun k cs before passed
  pub count : length before ≡ n + 1

pub finding-first : (k : Known) (cs : List Column) (before : List (List Column)) (passed : List Op) (n : ℕ) → n ≡ length before - 1 → Begun k cs before passed → Finding k cs before passed n
finding-first k cs before passed n e b = record { begun = b; count = omega (arith, e, b.some) }

get-is : (xs : List Op) (n : ℕ) (x : Op) → n < length xs → x ≡ get_or xs n x → slice_get xs n ≡ Some x
get-is [] n x l e = absurd (omega (arith, l))
get-is (y ∷ ys) zero x l e = ap (λ o. Some o) (sym e)
get-is (y ∷ ys) (suc n) x l e = get-is ys n x (omega (arith, l)) e

pub finding-turn : (k : Known) (cs now : List Column) (before before' seen : List (List Column)) (passed : List Op) (n : ℕ) (x : Op) (next : List Column) → n < length passed → x ≡ get_or passed n x → seen ≡ before → now ≡ unwrap_or (slice_get seen n) [] → next ≡ op_makes x k now → before' ≡ before ++ next ∷ [] → Finding k cs before passed n → Finding k cs before' passed (n + 1)
finding-turn k cs now before before' seen passed n x next lt at s m e a f =
    let made : next ≡ op_makes x k (unwrap_or (slice_get before n) []) = e ∙ ap (λ c. op_makes x k c) (m ∙ ap (λ (v : List (List Column)). unwrap_or (slice_get v n) []) s) in
    record {
      begun = begun-more k cs before before' passed n x next (get-is passed n x lt at) lt f.count made a f.begun;
      count = let counts = ap length a in omega (arith, counts, f.count, length-append before (next ∷ []));
    }

pub finding-end : (k : Known) (cs : List Column) (before : List (List Column)) (passed : List Op) (n : ℕ) → length passed ≤ n → Finding k cs before passed n → Found k cs before passed
finding-end k cs before passed n l f = record { begun = f.begun; all = omega (arith, l, f.count) }
