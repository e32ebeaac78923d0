-- Arguments are well formed where all are.
use Rattle.std.proofs.Common.{◌≡◌, ◌<◌, ◌-◌, ℕ, zero, suc, List, [], ◌∷◌, length, map, take, drop, arith, ap, refl, subst, sym}
use Rattle.std.specs.Prelude.{slice_index_or}
use Rattle.kql_cells.specs.Seen.{seen}
use Rattle.kql_cells.specs.Values.{IsWellFormed}
use Rattle.kql_cells.specs.declared.cell.CellRef.{CellRef}
use Rattle.kql_cells.specs.declared.value.Value.{Value}
use Rattle.kql_cells.specs.declared.value.Value.TheVariants as value
use Rattle.kql_scalar_fns.specs.Arguments.{AreWellFormed}

-- the values behind the first
rest_form : (c : CellRef) (cs : List CellRef) → AreWellFormed (map seen (c ∷ cs)) → AreWellFormed (map seen cs)
rest_form c cs h = record { each = λ k d l. h.each (suc k) d (omega arith) }

each-form : (v : Value) (vs : List Value) → IsWellFormed v → AreWellFormed vs → (k : ℕ) (d : Value) → k < length (v ∷ vs) → IsWellFormed (slice_index_or (v ∷ vs) k d)
each-form v vs f h zero d l = f
each-form v vs f h (suc k) d l = h.each k d (omega arith)

joined-form : (c : CellRef) (cs : List CellRef) → IsWellFormed (seen c) → AreWellFormed (map seen cs) → AreWellFormed (map seen (c ∷ cs))
joined-form c cs f h = record { each = each-form (seen c) (map seen cs) f h }

pub index-form : (cells : List CellRef) (i : ℕ) (d : CellRef) → i < length cells → AreWellFormed (map seen cells) → IsWellFormed (seen (slice_index_or cells i d))
index-form [] i d l h = absurd (omega arith)
index-form (c ∷ cs) zero d l h = h.each 0 value.Null (omega arith)
index-form (c ∷ cs) (suc i) d l h = index-form cs i d (omega arith) (rest_form c cs h)

pub item-form : (cells : List CellRef) (i : ℕ) (x : CellRef) → x ≡ slice_index_or cells i x → i < length cells → AreWellFormed (map seen cells) → IsWellFormed (seen x)
item-form cells i x e l h = subst (λ (c : CellRef). IsWellFormed (seen c)) (sym e) (index-form cells i x l h)

pub take-whole : (cs : List CellRef) (n : ℕ) → n ≡ length cs → take n cs ≡ cs
take-whole [] n e = rw e refl
take-whole (c ∷ cs) zero e = absurd (omega arith)
take-whole (c ∷ cs) (suc n) e = ap (λ (xs : List CellRef). c ∷ xs) (take-whole cs n (omega arith))

pub tail-form : (cells : List CellRef) → AreWellFormed (map seen cells) → AreWellFormed (map seen (take (length cells - 1) (drop 1 cells)))
tail-form [] h = h
tail-form (c ∷ cs) h = rw (take-whole cs (length (c ∷ cs) - 1) (omega arith)) (rest_form c cs h)

pub cons-form : (cells : List CellRef) (x : CellRef) → x ≡ slice_index_or cells 0 x → 0 < length cells → IsWellFormed (seen x) → AreWellFormed (map seen (take (length cells - 1) (drop 1 cells))) → AreWellFormed (map seen cells)
cons-form [] x e l f h = absurd (omega arith)
cons-form (c ∷ cs) x e l f h = joined-form c cs (subst (λ (y : CellRef). IsWellFormed (seen y)) e f) (rw (take-whole cs (length (c ∷ cs) - 1) (omega arith)) at h)

pub none-form : (cells : List CellRef) → length cells < 1 → AreWellFormed (map seen cells)
none-form [] l = record { each = λ k d m. absurd (omega arith) }
none-form (c ∷ cs) l = absurd (omega arith)

pub ruleset argument_facts = (index-form, item-form, tail-form)
