-- What each variant of a dynamic value feeds to a hasher.
use Rattle.std.proofs.Common.{◌≡◌, ℕ, Bool, List, [], ◌∷◌, ◌++◌, map, length, refl, ap, sym, ◌∙◌}
use Rattle.std.specs.Prelude.{ℤ, flat_map}
use Rattle.std.specs.Hash as fed
use Rattle.std.specs.Hash.{HashWrites}
use Rattle.std.proofs.lemmas.List.{length-map}
use Rattle.kql_cells.specs.Hashed.{writes_of, writes_step}
use Rattle.kql_cells.specs.declared.dynamic.Dyn.{Dyn, fold-roll-Dyn}
use Rattle.kql_cells.specs.declared.dynamic.Dyn.TheOpen.{Dyn-F}
use Rattle.kql_cells.specs.declared.dynamic.Dyn.TheVariants as V

flat_map-map : {X Y A : Type 0} (f : Y → List A) (h : X → Y) (xs : List X) → flat_map f (map h xs) ≡ flat_map (λ x. f (h x)) xs
flat_map-map f h [] = refl
flat_map-map f h (x ∷ xs) = ap (λ l. f (h x) ++ l) (flat_map-map f h xs)

count-map : {X Y : Type 0} (h : X → Y) (xs : List X) → length (map h xs) ≡ length xs
count-map h xs = length-map xs h

pub writes-Array : (parts : List Dyn) → writes_of (V.Array parts) ≡ fed.u8 4 ++ fed.usize (length parts) ++ flat_map writes_of parts
unfolding writes_of
writes-Array parts =
    ap writes_of (sym (V.rolls-Array parts)) ∙ (fold-roll-Dyn HashWrites writes_step (Dyn-F.Array parts)
    ∙ (λ i. fed.u8 4 ++ fed.usize (count-map writes_of parts i) ++ flat_map-map (λ w. w) writes_of parts i))

pub writes-Bag : (es : List (List ℕ × Dyn)) → writes_of (V.Bag es) ≡ fed.u8 5 ++ fed.usize (length es) ++ flat_map (λ e. fed.str e.0 ++ writes_of e.1) es
unfolding writes_of
writes-Bag es =
    let h : List ℕ × Dyn → List ℕ × HashWrites = λ e. (e.0, writes_of e.1) in
    ap writes_of (sym (V.rolls-Bag es)) ∙ (fold-roll-Dyn HashWrites writes_step (Dyn-F.Bag es)
    ∙ (λ i. fed.u8 5 ++ fed.usize (count-map h es i) ++ flat_map-map (λ (e : List ℕ × HashWrites). fed.str e.0 ++ e.1) h es i))

pub writes-Null : writes_of V.Null ≡ fed.u8 0
unfolding writes_of
writes-Null = ap writes_of (sym V.rolls-Null) ∙ fold-roll-Dyn HashWrites writes_step Dyn-F.Null

pub writes-Bool : (b : Bool) → writes_of (V.Bool b) ≡ fed.u8 1 ++ fed.bool b
unfolding writes_of
writes-Bool b = ap writes_of (sym (V.rolls-Bool b)) ∙ fold-roll-Dyn HashWrites writes_step (Dyn-F.Bool b)

pub writes-Long : (n : ℤ) → writes_of (V.Long n) ≡ fed.u8 2 ++ fed.i64 n
unfolding writes_of
writes-Long n = ap writes_of (sym (V.rolls-Long n)) ∙ fold-roll-Dyn HashWrites writes_step (Dyn-F.Long n)

pub writes-Text : (t : List ℕ) → writes_of (V.Text t) ≡ fed.u8 3 ++ fed.str t
unfolding writes_of
writes-Text t = ap writes_of (sym (V.rolls-Text t)) ∙ fold-roll-Dyn HashWrites writes_step (Dyn-F.Text t)

pub ruleset hash_laws = (writes-Array, writes-Bag, writes-Null, writes-Bool, writes-Long, writes-Text)
