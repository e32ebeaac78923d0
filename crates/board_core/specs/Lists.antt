use Rattle.std.specs.Prelude.{ℕ, ◌≤◌, List, map, All, Vec, vec_capacity}
use Rattle.std.specs.declared.alloc.Global.{Global}

-- what the lists hold
abbrev pub contents : List (Vec ℕ Global) → List (List ℕ)
contents lists = map (λ (v : Vec ℕ Global). v.items) lists

-- each list has room for this many numbers
abbrev pub HaveRoom : ℕ → List (Vec ℕ Global) → Type 0
HaveRoom room lists = All (λ v. room ≤ vec_capacity v) lists
