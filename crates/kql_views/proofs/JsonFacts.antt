-- How the texts of objects and arrays follow what was written.
use Rattle.std.proofs.Common.{◌≡◌, ◌<◌, ◌+◌, ◌==◌, ◌++◌, ◌∙◌, ℕ, zero, suc, false, List, [], ◌∷◌, length, take, get_or, flat_map, refl, sym, ap, arith, append_assoc}
use Rattle.std.proofs.lemmas.Bool.{ne_eqb}
use Rattle.std.proofs.lemmas.List.{append-nil, length-take-le, take_more}
use Rattle.std.proofs.lemmas.List.Concat.{flat_map-append}
use Rattle.kql_cells.specs.Seen.{value_at}
use Rattle.kql_cells.specs.declared.schema.Column.{Column}
use Rattle.kql_cells.specs.declared.value.Value.{Value}
use Rattle.kql_views.specs.Json.{listed, member_text, members, separator}

-- one text more in a list
listed-more : (xs : List (List ℕ)) (y : List ℕ) → listed (xs ++ y ∷ []) ≡ listed xs ++ separator (length xs) ++ y
unfolding listed
listed-more [] y = append-nil y
listed-more (x ∷ xs) y =
    let comma : List ℕ → List ℕ = λ t. 44 ∷ t in
    let others = flat_map comma xs in
    let none : (length (x ∷ xs) == 0) ≡ false = ne_eqb (length (x ∷ xs)) 0 (λ e. omega (arith, e)) in
    rw (none, flat_map-append comma xs (y ∷ [])) (ap (λ t. x ++ (others ++ 44 ∷ t)) (append-nil y) ∙ sym (append_assoc x others (44 ∷ y)) ∙ sym (append_assoc (x ++ others) (44 ∷ []) y))

-- the text of a place behind those before it
pub listed-step : (base out sep new item : List ℕ) (xs : List (List ℕ)) (i : ℕ) → i < length xs → out ≡ base ++ listed (take i xs)
    → sep ≡ out ++ separator i → item ≡ get_or xs i [] → new ≡ sep ++ item → new ≡ base ++ listed (take (i + 1) xs)
listed-step base out sep new item xs i lt eo es ei en =
    let front = listed (take i xs) in
    let count : length (take i xs) ≡ i = length-take-le i xs (omega (arith, lt)) in
    let more : listed (take (i + 1) xs) ≡ front ++ separator i ++ get_or xs i [] =
    ap listed (take_more xs i [] lt) ∙ listed-more (take i xs) (get_or xs i []) ∙ ap (λ n. front ++ separator n ++ get_or xs i []) count in
    rw (en, es, eo, ei, more) (ap (λ t. t ++ get_or xs i []) (append_assoc base front (separator i)) ∙ append_assoc base (front ++ separator i) (get_or xs i []))

pub members-count : (cs : List Column) (row : List Value) → length row ≡ length cs → length (members cs row) ≡ length cs
unfolding members
members-count [] row e = refl
members-count (c ∷ cs) [] e = absurd (omega (arith, e))
members-count (c ∷ cs) (v ∷ row) e = ap suc (members-count cs row (omega (arith, e)))

pub members-at : (cs : List Column) (row : List Value) (j : ℕ) (d : Column) → length row ≡ length cs → j < length cs → get_or (members cs row) j [] ≡ member_text (get_or cs j d) (value_at row j)
unfolding members
members-at [] row j d e lt = absurd (omega (arith, lt))
members-at (c ∷ cs) [] j d e lt = absurd (omega (arith, e))
members-at (c ∷ cs) (v ∷ row) zero d e lt = refl
members-at (c ∷ cs) (v ∷ row) (suc j) d e lt = members-at cs row j d (omega (arith, e)) (omega (arith, lt))
