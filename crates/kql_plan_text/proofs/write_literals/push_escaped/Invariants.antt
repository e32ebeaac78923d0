use Rattle.std.proofs.Common.{◌≡◌, ◌++◌, string_bytes}
use Rattle.std.specs.List.{flat_map}
use Rattle.std.specs.Str.Iter.{chars_rest}
use Rattle.kql_plan_text.specs.Literals.{escaped_byte}
use Rattle.kql_plan_text.proofs.write_literals.push_escaped.Given as goal

-- what is written, with what is left to write, is the whole
abbrev pub invariant-loop-c : goal.invariant-loop-c
invariant-loop-c l =
    string_bytes l.text ++ flat_map (escaped_byte l.sign) (chars_rest l.c-iterator) ≡ string_bytes l.initial.text ++ flat_map (escaped_byte l.sign) l.t
