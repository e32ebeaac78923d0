-- Columns copied one by one.
use Rattle.std.proofs.Common.{◌≡◌, ◌<◌, ◌+◌, ℕ, zero, suc, List, [], ◌∷◌, get_or, length, map, refl, ap, sym, ◌∙◌, subst, arith}
use Rattle.std.specs.List.{range_with_len}
use Rattle.kql_cells.specs.Table.{Grid}
use Rattle.kql_cells.specs.declared.schema.Column.{Column}
use Rattle.kql_cells.specs.declared.value.Value.{Value}
use Rattle.kql_values.specs.Grids.{ColumnsFit, rows_of}
use Rattle.phase_copies.specs.Works.{column_in}

-- A column.

pub inside : (columns : List (List Value)) (piece count : ℕ) → count ≡ length columns → piece < count → piece < length columns
inside columns piece count all lt = omega (arith, all, lt)

either : (xs : List (List Value)) (i : ℕ) (d e : List Value) → i < length xs → get_or xs i d ≡ get_or xs i e
either [] i d e lt = absurd (omega (arith, lt))
either (x ∷ xs) zero d e lt = refl
either (x ∷ xs) (suc i) d e lt = either xs i d e (omega (arith, lt))

pub copied : (columns : List (List Value)) (piece count : ℕ) (lent made : List Value) → count ≡ length columns → piece < count → lent ≡ get_or columns piece lent → made ≡ lent → made ≡ column_in columns piece
unfolding column_in
copied columns piece count lent made all lt is same = same ∙ (is ∙ either columns piece lent [] (omega (arith, all, lt)))

pub ruleset piece_steps = (inside, copied)

-- All columns.

each-from : (xs : List (List Value)) (f : ℕ → List Value) (a : ℕ) → ((i : ℕ) → f (a + i) ≡ get_or xs i []) → map f (range_with_len a (length xs)) ≡ xs
each-from [] f a h = refl
each-from (x ∷ xs) f a h =
    let first : f a ≡ x = ap f (omega arith) ∙ h 0 in
    ap (λ (y : List Value). y ∷ map f (range_with_len (a + 1) (length xs))) first
    ∙ ap (λ (ys : List (List Value)). x ∷ ys) (each-from xs f (a + 1) (λ i. let next : a + 1 + i ≡ a + suc i = omega arith in ap f next ∙ h (suc i)))

pub all-copied : (columns made vs : List (List Value)) (count : ℕ) → count ≡ length columns → made ≡ map (λ j. column_in columns j) (range_with_len 0 count) → vs ≡ made → vs ≡ columns
unfolding column_in
all-copied columns made vs count all is same =
    same
    ∙ (is
    ∙ (ap (λ (n : ℕ). map (λ j. get_or columns j []) (range_with_len 0 n)) all
    ∙ each-from columns (λ j. get_or columns j []) 0 (λ i. let zeroth : 0 + i ≡ i = omega arith in ap (λ (j : ℕ). get_or columns j []) zeroth)))

pub copies-fit : (t : Grid) (cs : List Column) (n : ℕ) (columns vs : List (List Value)) → cs ≡ t.columns → n ≡ length t.lines → vs ≡ columns → ColumnsFit t.columns (length t.lines) columns → ColumnsFit cs n vs
copies-fit t cs n columns vs named long same fits =
    subst (λ (ds : List Column). ColumnsFit ds n vs) (sym named)
    (subst (λ (m : ℕ). ColumnsFit t.columns m vs) (sym long) (subst (ColumnsFit t.columns (length t.lines)) (sym same) fits))

pub copy-made : (t made : Grid) (cs : List Column) (n : ℕ) (columns vs : List (List Value)) → cs ≡ t.columns → n ≡ length t.lines → vs ≡ columns → rows_of (length t.lines) columns ≡ t.lines → made ≡ record { columns = cs; lines = rows_of n vs } → made ≡ t
copy-made t made cs n columns vs named long same rows is =
    is
    ∙ (ap (λ (ds : List Column). record { columns = ds; lines = rows_of n vs }) named
    ∙ ap (λ (ls : List (List Value)). record { columns = t.columns; lines = ls })
    (ap (λ (m : ℕ). rows_of m vs) long ∙ (ap (rows_of (length t.lines)) same ∙ rows)))

pub ruleset copy_steps = (copies-fit, copy-made)
