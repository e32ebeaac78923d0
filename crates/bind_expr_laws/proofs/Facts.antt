-- Facts of options and tests that several proofs use.
use Rattle.std.proofs.Common.{◌≡◌, Bool, true, false, refl}
use Rattle.std.specs.Prelude.{if◌then◌else◌, Option, None, Some, is_some, option_map}

pub some-is : {A : Type 0} (o : Option A) (a : A) → o ≡ Some a → is_some o ≡ true
some-is o a e = rw e refl

pub if-some : {A : Type 0} (b : Bool) (a c : A) → (if b then Some a else None) ≡ Some c → (b ≡ true) × (a ≡ c)
if-some true a c e = (refl, cc)
if-some false a c e = absurd cc

pub map-parts : {A B : Type 0} (f : A → B) (o : Option A) (b : B) → option_map f o ≡ Some b → (a : A) × (o ≡ Some a) × (f a ≡ b)
map-parts f None b e = absurd cc
map-parts f (Some a) b e = (a, refl, cc)

-- A test does not have both answers.
pub never : {A : Type 0} (b : Bool) → b ≡ false → b ≡ true → A
never true e f = absurd cc
never false e f = absurd cc
