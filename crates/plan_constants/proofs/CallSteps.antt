-- What calls of literals ask for.
use Rattle.std.specs.Bool.{one_answer}
use Rattle.std.proofs.Common.{◌≡◌, ◌<◌, ◌↔◌, ℕ, Bool, zero, suc, true, List, [], ◌∷◌, length, map, refl, sym, ap, ◌∙◌, subst, arith}
use Rattle.std.specs.Prelude.{Option, None, Some, IsTrue, option_and_then, option_map, slice_index_or}
use Rattle.kql_cells.specs.Values.{IsWellFormed}
use Rattle.kql_cells.specs.declared.value.Value.{Value}
use Rattle.kql_functions.specs.declared.func.Func.{Func}
use Rattle.kql_scalar_fns.specs.Applied.{applied}
use Rattle.kql_scalar_fns.specs.Arguments.{AreWellFormed}
use Rattle.kql_bound.specs.declared.expr.BExpr.{BExpr}
use Rattle.kql_bound.specs.declared.literal.Lit.{Lit}
use Rattle.kql_meaning.specs.Literals.{is_well_formed}
use Rattle.kql_meaning.proofs.LiteralLaws.{is_well_formed-decides}
use Rattle.kql_fit_laws.proofs.CallForms.{applied-form}
use Rattle.plan_constants.specs.Literals.{value_in}
use Rattle.plan_rules.specs.Folding.{literal_called, literal_joined, sound_literal, sound_literals}
use Rattle.plan_rules.proofs.FoldedReadings.{called-is, joined-is, sound-is}

pub form-told : (r : Bool) (v : Value) → IsTrue r ↔ IsWellFormed v → r ≡ is_well_formed v
form-told r v told = one_answer r (is_well_formed v) told (is_well_formed-decides v)

formed : (v : Value) → is_well_formed v ≡ true → IsWellFormed v
formed v e = (is_well_formed-decides v).0 e

none-formed : AreWellFormed []
none-formed = record { each = λ k d l. absurd (omega arith) }

each-formed : (v : Value) (vs : List Value) → IsWellFormed v → AreWellFormed vs → (k : ℕ) (d : Value) → k < length (v ∷ vs) → IsWellFormed (slice_index_or (v ∷ vs) k d)
each-formed v vs f h zero d l = f
each-formed v vs f h (suc k) d l = h.each k d (omega arith)

joined-formed : (v : Value) (vs : List Value) → IsWellFormed v → AreWellFormed vs → AreWellFormed (v ∷ vs)
joined-formed v vs f h = record { each = each-formed v vs f h }

sounds-next : (e : BExpr) (o : Option Lit) (r : Option (List Lit)) (ls : List Lit) → ((l : Lit) → o ≡ Some l → is_well_formed l.value ≡ true) → ((ms : List Lit) → r ≡ Some ms → AreWellFormed (map value_in ms)) → option_and_then (λ l. option_map (λ ls. l ∷ ls) r) o ≡ Some ls → AreWellFormed (map value_in ls)
sounds-next e None r ls one more h = absurd cc
sounds-next e (Some l) None ls one more h = absurd cc
sounds-next e (Some l) (Some ms) ls one more h =
    let same : l ∷ ms ≡ ls = cc in
    subst (λ (xs : List Lit). AreWellFormed (map value_in xs)) same (joined-formed l.value (map value_in ms) (formed l.value (one l refl)) (more ms refl))

pub sounds-formed : (es : List BExpr) (ls : List Lit) → sound_literals es ≡ Some ls → AreWellFormed (map value_in ls)
unfolding sound_literals
sounds-formed [] ls h = let same : [] ≡ ls = cc in subst (λ (xs : List Lit). AreWellFormed (map value_in xs)) same none-formed
sounds-formed (e ∷ es) ls h = sounds-next e (sound_literal e) (sound_literals es) ls (λ l g. (sound-is e l g).1) (λ ms g. sounds-formed es ms g) h

-- As the calls have them.

pub call-formed : (es : List BExpr) (o : Option (List Lit)) (ls now : List Lit) → o ≡ sound_literals es → o ≡ Some ls → now ≡ ls → AreWellFormed (map value_in now)
call-formed es o ls now e f g = subst (λ (xs : List Lit). AreWellFormed (map value_in xs)) (sym g) (sounds-formed es ls (sym e ∙ f))

pub ruleset call_steps = (call-formed)

pair-formed : (a b : Value) → is_well_formed a ≡ true → is_well_formed b ≡ true → AreWellFormed (a ∷ b ∷ [])
pair-formed a b e f = joined-formed a (b ∷ []) (formed a e) (joined-formed b [] (formed b f) none-formed)

pub two-formed : (a b : Value) → IsWellFormed a → IsWellFormed b → AreWellFormed (a ∷ b ∷ [])
two-formed a b f g = joined-formed a (b ∷ []) f (joined-formed b [] g none-formed)

pub ruleset pair_steps = (two-formed)

pub cell-formed : (a b : Value) → a ≡ b → is_well_formed b ≡ true → IsWellFormed a
cell-formed a b e h = subst IsWellFormed (sym e) (formed b h)

pub ruleset cell_steps = (cell-formed)

sound-formed : (e : BExpr) (l : Lit) → sound_literal e ≡ Some l → is_well_formed l.value ≡ true
sound-formed e l h = (sound-is e l h).1

-- What stands at a front stays well formed.
pub front-formed : (f : Func) (a : Lit) (e : BExpr) (c : Lit) (o : Option Lit) → o ≡ literal_joined f a e → o ≡ Some c → is_well_formed a.value ≡ true → is_well_formed c.value ≡ true
front-formed f a e c o h is g =
    let r = joined-is f a e c (sym h ∙ is) in
    let q = called-is f (a ∷ r.0 ∷ []) c r.2 in
    (is_well_formed-decides c.value).1 (subst IsWellFormed (sym q.1) (applied-form f (a.value ∷ r.0.value ∷ []) (pair-formed a.value r.0.value g (sound-formed e r.0 r.1))))
