use Rattle.std.proofs.Common.{◌≡◌, ◌-◌, ◌^◌, take, min, true}
use Rattle.std.specs.List.{list_all}
use Rattle.kql_lexer.specs.Bytes.{is_digit}
use Rattle.kql_lexer.specs.Numbers.{decimal}
use Rattle.kql_lexer.proofs.numbers.decimal.Given as goal

abbrev pub invariant-loop-byte : goal.invariant-loop-byte
invariant-loop-byte l = (l.value ≡ min (decimal (take l.byte-index l.bytes)) (2 ^ 64 - 1)) × (list_all is_digit (take l.byte-index l.bytes) ≡ true)
