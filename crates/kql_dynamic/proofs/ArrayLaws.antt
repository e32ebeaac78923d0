-- The laws of slices and joins.
use Rattle.std.proofs.Common.{◌≡◌, ◌+◌, ◌-◌, ◌++◌, ◌∷◌, ◌∙◌, ℕ, List, [], take, drop, length, Some, pos, negsuc, ◌+ℤ◌, refl, ap, arith}
use Rattle.std.proofs.lemmas.Int.{ints}
use Rattle.std.proofs.lemmas.List.{append-nil, length-drop, take-append-drop, take-append-le, take_all}
use Rattle.std.proofs.Math.Seq.{drop-append_seam}
use Rattle.kql_cells.specs.declared.dynamic.Dyn.{Dyn}
use Rattle.kql_cells.specs.declared.dynamic.Dyn.TheVariants as V
use Rattle.kql_dynamic.specs.Arrays.{array, joined, sliced}
use Rattle.kql_dynamic.specs.Laws.{FirstIsSliced, SecondIsSliced, SlicesJoin}
use Rattle.kql_dynamic.proofs.PartLaws.{elements-Array, long-Long}

behind-last : (n : ℕ) → (pos n +ℤ negsuc 0) +ℤ pos 1 ≡ pos n
behind-last n = omega (arith, ints)

-- the elements up to an index
front : (xs : List Dyn) (k : ℕ) → sliced xs (pos 0) (pos k) ≡ take (k + 1) xs
front xs k = let count : (k + 1) - 0 ≡ k + 1 = omega arith in ap (λ n. take n xs) count

-- the elements from an index on
back : (xs : List Dyn) (k : ℕ) → sliced xs (pos k) (negsuc 0) ≡ drop k xs
back xs k = rw (behind-last (length xs)) (take_all (length xs - k) (drop k xs) (omega (arith, length-drop k xs)))

two-joined : (xs ys : List Dyn) → joined (V.Array xs ∷ V.Array ys ∷ []) ≡ Some (xs ++ ys)
two-joined xs ys = rw (elements-Array xs, elements-Array ys) (ap (λ l. Some (xs ++ l)) (append-nil ys))

pub slices-join : SlicesJoin
slices-join xs k =
    rw (two-joined (sliced xs (pos 0) (pos k)) (sliced xs (pos (k + 1)) (negsuc 0)), front xs k, back xs (k + 1), take-append-drop (k + 1) xs) refl

pub first-is-sliced : FirstIsSliced
first-is-sliced x xs ys =
    rw (elements-Array ((x ∷ xs) ++ ys), long-Long (pos 0), long-Long (pos (length xs)))
    (ap array (front ((x ∷ xs) ++ ys) (length xs) ∙ (take-append-le (length xs + 1) (x ∷ xs) ys (omega arith) ∙ take_all (length xs + 1) (x ∷ xs) (omega arith))))

pub second-is-sliced : SecondIsSliced
second-is-sliced xs ys =
    rw (elements-Array (xs ++ ys), long-Long (pos (length xs)), long-Long (negsuc 0)) (ap array (back (xs ++ ys) (length xs) ∙ drop-append_seam xs ys))
