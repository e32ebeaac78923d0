use Rattle.std.proofs.Common.{◌≡◌, ℕ, ◌<◌, List, [], ◌∷◌, ◌++◌, length, get_or, set, ap, sym, ◌∙◌, Vec}
use Rattle.std.specs.declared.alloc.Global.{Global}
use Rattle.std.proofs.lemmas.List.{map-set, get_or-map}
use Rattle.board_core.specs.Lists.{contents}

-- what the lists hold when one of them has one more number
pub contents_push : (lists : List (Vec ℕ Global)) (at : ℕ) (old new : Vec ℕ Global) (x : ℕ) → at < length lists → old ≡ get_or lists at old → new.items ≡ old.items ++ x ∷ [] → contents (set lists at new) ≡ set (contents lists) at (get_or (contents lists) at [] ++ x ∷ [])
contents_push lists at old new x h is added =
    map-set (λ (v : Vec ℕ Global). v.items) lists at new
    ∙ ap (λ ys. set (contents lists) at ys)
    (added ∙ ap (λ ys. ys ++ x ∷ []) (ap (λ (v : Vec ℕ Global). v.items) is ∙ sym (get_or-map (λ (v : Vec ℕ Global). v.items) lists at old [] h)))
