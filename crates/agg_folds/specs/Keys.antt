-- The same key, as a set takes it.
use Rattle.std.specs.Prelude.{◌≡◌, true, refl}
use Rattle.std.specs.Bool.{one_answer}
use Rattle.std.specs.Cmp.{IsEquivalence}
use Rattle.std.proofs.Common.{ap, sym}
use Rattle.kql_cells.specs.Keys.{same_key, same_key-decides}
use Rattle.kql_cells.specs.declared.value.Value.{Value}

pub same_key-equiv : IsEquivalence same_key
same_key-equiv = record {
  refl = λ x. (same_key-decides x x).1 refl;
  symm = λ x y. one_answer (same_key x y) (same_key y x) (same_key-decides x y) (λ e. sym ((same_key-decides y x).0 e), λ p. (same_key-decides y x).1 (sym p));
  congr = λ x y z e. ap (λ w. same_key w z) ((same_key-decides x y).0 e);
}

-- What is the same has the same of everything.
pub same_key_alike : {X : Type 0} (f : Value → X) (x y : Value) → same_key x y ≡ true → f x ≡ f y
same_key_alike f x y e = ap f ((same_key-decides x y).0 e)
