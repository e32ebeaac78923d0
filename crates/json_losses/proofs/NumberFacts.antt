-- A number that is read as null.
use Rattle.std.proofs.Common.{◌≡◌, true, false, refl, rules}
use Rattle.std.specs.Prelude.{◌↔◌, ℤ, Option, None, Some}
use Rattle.kql_cells.specs.Dynamic.{is_null}
use Rattle.kql_cells.specs.declared.dynamic.Dyn.{the_lemmas}
use Rattle.kql_cells.specs.declared.dynamic.Dyn.TheVariants as V
use Rattle.kql_dynamic.specs.Json.{long_or_null}
use Rattle.serde_json.specs.Find.{as_i64}
use Rattle.json_losses.specs.Laws.{CountsNulls}
use Rattle.json_losses.specs.Losses.{none_losses}

null-Null : is_null V.Null ≡ true
null-Null = search (rules, the_lemmas)

null-Long : (x : ℤ) → is_null (V.Long x) ≡ false
null-Long x = search (rules, the_lemmas)

counted : (o : Option ℤ) → (none_losses o ≡ 1) ↔ (is_null (long_or_null o) ≡ true)
counted None = (λ e. null-Null, λ e. refl)
counted (Some x) = (λ e. cc, λ e. let n = null-Long x in cc)

pub counts-nulls : CountsNulls
counts-nulls n = counted (as_i64 n)
