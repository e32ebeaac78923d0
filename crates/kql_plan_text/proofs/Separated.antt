-- Texts of lists.
use Rattle.std.proofs.Common.{◌≡◌, ℕ, List, [], ◌∷◌, ◌++◌, map, refl, ap, append_assoc, append-nil}
use Rattle.std.specs.Prelude.{Result, Ok, Err, OnOk}
use Rattle.std.specs.List.{flat_map, join_by}

pub flat_map-map : {X Y A : Type 0} (f : Y → List A) (g : X → Y) (xs : List X) → flat_map f (map g xs) ≡ flat_map (λ x. f (g x)) xs
flat_map-map f g [] = refl
flat_map-map f g (x ∷ xs) = ap (λ ys. f (g x) ++ ys) (flat_map-map f g xs)

pub join_by-map : {X Y A : Type 0} (f : Y → List A) (g : X → Y) (sep : List A) (xs : List X) → join_by f sep (map g xs) ≡ join_by (λ x. f (g x)) sep xs
join_by-map f g sep [] = refl
join_by-map f g sep (x ∷ xs) = ap (λ ys. f (g x) ++ ys) (flat_map-map (λ y. sep ++ f y) g xs)

-- three texts written one after another
pub three : (start first second last whole a b c : List ℕ) → whole ≡ a ++ (b ++ c) → first ≡ start ++ a → second ≡ first ++ b → last ≡ second ++ c → last ≡ start ++ whole
three start first second last whole a b c w x y z = rw (z, y, x, w) (simp append_assoc)

-- a fact of an answer that is Ok, from another
pub on_ok : {T E : Type 0} (r : Result T E) (P Q : Type 0) → (P → Q) → OnOk r P → OnOk r Q
on_ok (Ok x) P Q f h = f h
on_ok (Err e) P Q f h = h

-- four texts written one after another
pub four : (start first second third last whole a b c d : List ℕ) → whole ≡ a ++ (b ++ (c ++ (d ++ []))) → first ≡ start ++ a → second ≡ first ++ b → third ≡ second ++ c → last ≡ third ++ d → last ≡ start ++ whole
four start first second third last whole a b c d w v x y z = rw (z, y, x, v, w) (simp (append_assoc, append-nil))

-- a part is written behind those before it
pub one_more_part : (start before after done part done' : List ℕ) → before ≡ start ++ done → after ≡ before ++ part → done' ≡ done ++ part → after ≡ start ++ done'
one_more_part start before after done part done' x y z = rw (y, x, z) (simp append_assoc)
