-- The default case fold of an ASCII text.
use Rattle.std.proofs.Common.{◌≡◌, ℕ, List, map, ap, ◌∙◌}
use Rattle.std.specs.Str.{IsAscii, chars, encode_utf8_all}
use Rattle.std.specs.Char.{to_ascii_lowercase}
use Rattle.std.proofs.lemmas.Str.{chars-IsAscii}
use Rattle.std.proofs.lemmas.Str.Ascii.{All-from_ascii, IsAscii-map, encodes-IsAscii, lowercase_ascii}
use Rattle.caseless.specs.Caseless.{default_case_fold}
use Rattle.caseless.proofs.CaselessLemmas.{default_case_fold-ascii}

pub fold-ascii : (bs : List ℕ) → IsAscii bs → encode_utf8_all (default_case_fold (chars bs)) ≡ map to_ascii_lowercase bs
fold-ascii bs h =
    ap (λ cs. encode_utf8_all (default_case_fold cs)) (chars-IsAscii bs h)
    ∙ ap encode_utf8_all (default_case_fold-ascii bs (All-from_ascii bs h))
    ∙ encodes-IsAscii _ (IsAscii-map to_ascii_lowercase bs lowercase_ascii h)
