use Rattle.std.proofs.Common.{◌≡◌, ◌-◌, ◌^◌, take, min, true}
use Rattle.std.specs.List.{list_all}
use Rattle.kql_lexer.specs.Numbers.{hexadecimal, is_hex_digit}
use Rattle.typed_literals.proofs.reading.hexadecimal_digits.Given as goal

abbrev pub invariant-digits : goal.invariant-digits
invariant-digits l = (l.value ≡ min (hexadecimal (take l.byte-index l.bytes)) (2 ^ 64 - 1)) × (list_all is_hex_digit (take l.byte-index l.bytes) ≡ true)
