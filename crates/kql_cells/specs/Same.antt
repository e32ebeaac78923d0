-- Whether two dynamic values are identical, as a test that computes.
use Rattle.std.specs.Prelude.{◌≡◌, ◌==◌, ◌&&◌, ℕ, Bool, true, false, refl}
use Rattle.std.specs.Bool.{Decides, one_answer}
use Rattle.std.specs.Coded.{Coded}
use Rattle.std.specs.Cmp.{IsEquivalence}
use Rattle.std.proofs.Common.{ap, sym, rules}
use Rattle.std.proofs.lemmas.Bool.{eqb-true}
use base.Stored.{Gv, gnil, gnum, gcons}
use Rattle.kql_cells.specs.declared.dynamic.Dyn.{Dyn}
use Rattle.kql_cells.specs.contracts.dynamic.Dyn as dynamic

-- whether two codes are the same; each type has a one-to-one map into these
abbrev pub gv_eq : Gv → Gv → Bool
gv_eq gnil gnil = true
gv_eq (gnum m) (gnum n) = m == n
gv_eq (gcons a b) (gcons c d) = gv_eq a c && gv_eq b d
gv_eq _ _ = false

both : (a b : Bool) → (a && b) ≡ true → (a ≡ true) × (b ≡ true)
both true b e = (refl, e)
both false b e = cc

join : (a b : Bool) → a ≡ true → b ≡ true → (a && b) ≡ true
join a b p q = rw (p, q) refl

eqb-same : (n : ℕ) → (n == n) ≡ true
eqb-same n = search rules

gv_eq-refl : (a : Gv) → gv_eq a a ≡ true
gv_eq-refl gnil = refl
gv_eq-refl (gnum n) = eqb-same n
gv_eq-refl (gcons a b) = join _ _ (gv_eq-refl a) (gv_eq-refl b)

gv_eq-true : (a b : Gv) → gv_eq a b ≡ true → a ≡ b
gv_eq-true gnil gnil e = refl
gv_eq-true (gnum m) (gnum n) e = ap gnum (eqb-true m n e)
gv_eq-true (gcons a b) (gcons c d) e =
    let q = both (gv_eq a c) (gv_eq b d) e in
    let l = gv_eq-true a c q.0 in
    let r = gv_eq-true b d q.1 in
    cc
gv_eq-true gnil (gnum n) e = cc
gv_eq-true gnil (gcons c d) e = cc
gv_eq-true (gnum m) gnil e = cc
gv_eq-true (gnum m) (gcons c d) e = cc
gv_eq-true (gcons a b) gnil e = cc
gv_eq-true (gcons a b) (gnum n) e = cc

abbrev coded_dyn : Coded Dyn
coded_dyn = dynamic.the_row.coded

-- whether two values are identical
unfoldable pub same : Dyn → Dyn → Bool
same a b = gv_eq (coded_dyn.code a) (coded_dyn.code b)

pub same-decides : (a b : Dyn) → Decides (same a b) (a ≡ b)
unfolding same
same-decides a b = (λ e. coded_dyn.inj a b (gv_eq-true _ _ e), λ p. rw p (gv_eq-refl (coded_dyn.code b)))

pub same-equiv : IsEquivalence same
same-equiv = record {
  refl = λ x. (same-decides x x).1 refl;
  symm = λ x y. one_answer (same x y) (same y x) (same-decides x y) (λ e. sym ((same-decides y x).0 e), λ p. (same-decides y x).1 (sym p));
  congr = λ x y z e. ap (λ w. same w z) ((same-decides x y).0 e);
}

-- what is identical has the same of everything
pub same_alike : {X : Type 0} (f : Dyn → X) (x y : Dyn) → same x y ≡ true → f x ≡ f y
same_alike f x y e = ap f ((same-decides x y).0 e)
