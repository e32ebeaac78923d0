-- The counted operators of a query are those of its tree.
use Rattle.std.proofs.Common.{ℕ, zero, suc, ◌+◌, ◌<◌, ◌≤◌, ◌≡◌, Bool, true, false, List, [], ◌∷◌, ◌++◌, length, drop, take, map, refl, sym, ap, subst, ◌∙◌, arith}
use Rattle.std.specs.Prelude.{◌-◌, min, Option, Some, None, nat_le, slice_get, if◌then◌else◌}
use Rattle.std.proofs.lemmas.Option.{slice_get_within}
use Rattle.std.proofs.lemmas.Bool.{leb-true, leb-false}
use Rattle.std.proofs.lemmas.List.{append-nil, drop_all}
use Rattle.kql_lexer.specs.declared.keyword.Keyword.TheVariants as word
use Rattle.kql_lexer.specs.declared.place.Place.{Place}
use Rattle.kql_lexer.specs.declared.token.Token.{Token}
use Rattle.kql_syntax.specs.declared.class.Class.TheVariants as class
use Rattle.kql_syntax.specs.declared.query.Query.{Query}
use Rattle.kql_syntax.specs.Levels.{Level}
use Rattle.kql_syntax.specs.Forms.{level, pair, option, many, mark, before}
use Rattle.kql_syntax.specs.Derives.{Derives, IsForm}
use Rattle.kql_syntax.specs.Parsing.{place_of, place_or_start}
use Rattle.kql_syntax.proofs.PrefixLaws.{agree_take}
use Rattle.kql_parser.specs.Operators.{NamesTooMany, after_free, after_token, is_operator, one_too_many}
use Rattle.kql_parser.specs.Parsing.{Parsed}
use Rattle.kql_parser.specs.Query.{let_body, let_statement, main_pipe, query}
use Rattle.kql_parser_laws.specs.Counted.{Next, at_first, names_from, operators_named}
use Rattle.kql_parser_laws.specs.OfTree.{Places, joined, of_body, of_let, of_pipe, operator_count, operators}
use Rattle.kql_parser_laws.proofs.States.{State, next}
use Rattle.kql_parser_laws.proofs.PartLaws.{Counts, nothing, pair_counts, either_counts, makes_counts, many_counts, before_counts}
use Rattle.kql_parser_laws.proofs.LevelLaws.{Levels, levels, still}
use Rattle.kql_parser_laws.proofs.TreeFacts.{body_is}

module _ (s : List Token) where
  known : Levels s (Derives s)
  known = levels s

  body_counts : Counts s (Derives s) let_body State.Free State.Free of_body
  body_counts =
      either_counts s (Derives s) (makes_counts s (Derives s) of_pipe (λ p. refl) known.pipe)
      (makes_counts s (Derives s) nothing body_is (still s (Derives s) known (level Level.Expr) State.Free refl))

  let_counts : Counts s (Derives s) let_statement State.Free State.Free of_let
  let_counts =
      makes_counts s (Derives s) (λ p. [] ++ ([] ++ of_body p.1.1)) (λ y. refl)
      (pair_counts s (Derives s) (mark (class.Key word.Let ∷ [])) (pair (before (level Level.Name) (class.Assign ∷ [])) (before let_body (class.Semicolon ∷ []))) State.Free State.Free State.Free nothing (λ p. [] ++ of_body p.1)
      (still s (Derives s) known (mark (class.Key word.Let ∷ [])) State.Free refl)
      (pair_counts s (Derives s) (before (level Level.Name) (class.Assign ∷ [])) (before let_body (class.Semicolon ∷ [])) State.Free State.Free State.Free nothing of_body
      (still s (Derives s) known (before (level Level.Name) (class.Assign ∷ [])) State.Free refl)
      (before_counts s (Derives s) State.Free refl body_counts)))

  main_counts : Counts s (Derives s) main_pipe State.Free State.Free of_pipe
  main_counts =
      makes_counts s (Derives s) (λ p. of_pipe p.0 ++ []) (λ y. sym (append-nil (of_pipe y.0)))
      (pair_counts s (Derives s) (level Level.Pipe) (option (mark (class.Semicolon ∷ []))) State.Free State.Free State.Free of_pipe nothing
      known.pipe (still s (Derives s) known (option (mark (class.Semicolon ∷ []))) State.Free refl))

  query_counts : Counts s (Derives s) query State.Free State.Free operators
  unfolding operators
  query_counts =
      makes_counts s (Derives s) (λ p. joined (map of_let p.0) ++ of_pipe p.1) (λ y. refl)
      (pair_counts s (Derives s) (many let_statement) (before main_pipe (class.End ∷ [])) State.Free State.Free State.Free (λ ls. joined (map of_let ls)) of_pipe
      (many_counts s (Derives s) let_statement State.Free of_let let_counts)
      (before_counts s (Derives s) State.Free refl main_counts))

names_at_end : (n : Next) (s : List Token) → names_from n (drop (length s) s) ≡ []
unfolding names_from
names_at_end n s = ap (λ (ts : List Token). names_from n ts) (drop_all (length s) s (omega arith))

pub names_are_operators : (s : List Token) (q : Query) → IsForm s query 0 (length s) q → operators_named s ≡ operators q
unfolding next
names_are_operators s q h = (query_counts s).law 0 (length s) q h ∙ ap (λ (ps : Places). operators q ++ ps) (names_at_end at_first s) ∙ append-nil (operators q)

-- the name that is one too many, where so many stood before the list, which begins at index i
record Late (i named : ℕ) (ts : List Token) (ps : Places) (w : ℕ) : Type 0 where
  ahead : ℕ
  it : Token
  left : ℕ
  at : w ≡ i + ahead
  stands : slice_get ts ahead ≡ Some it
  rest : named + left ≡ 256
  place : slice_get ps left ≡ Some it.place

-- what the index of one too many tells of the names
abbrev Tells : ℕ → ℕ → List Token → Places → Option ℕ → Type 0
Tells i named ts ps None = named + length ps ≤ 256
Tells i named ts ps (Some w) = Late i named ts ps w

tells_named : (i named : ℕ) (t : Token) (ts : List Token) (p : Place) (ps : Places) (o : Option ℕ) → Tells (i + 1) (named + 1) ts ps o → Tells i named (t ∷ ts) (p ∷ ps) o
tells_named i named t ts p ps None h = omega (arith, h)
tells_named i named t ts p ps (Some w) h = record { ahead = suc h.ahead; it = h.it; left = suc h.left; at = omega (arith, h.at); stands = h.stands; rest = omega (arith, h.rest); place = h.place }

tells_other : (i named : ℕ) (t : Token) (ts : List Token) (ps : Places) (o : Option ℕ) → Tells (i + 1) named ts ps o → Tells i named (t ∷ ts) ps o
tells_other i named t ts ps None h = h
tells_other i named t ts ps (Some w) h = record { ahead = suc h.ahead; it = h.it; left = h.left; at = omega (arith, h.at); stands = h.stands; rest = h.rest; place = h.place }

tells_step : (a b : Bool) (i named : ℕ) (t : Token) (ts : List Token) (ps : Places) (X Y : Option ℕ) → nat_le 256 named ≡ b → named ≤ 256 → Tells (i + 1) named ts ps Y → (named + 1 ≤ 256 → Tells (i + 1) (named + 1) ts ps X) → Tells i named (t ∷ ts) (if a then t.place ∷ ps else ps) (if a then (if b then Some i else X) else Y)
tells_step true true i named t ts ps X Y e o y x = let l : 256 ≤ named = leb-true 256 named e in record { ahead = 0; it = t; left = 0; at = omega arith; stands = refl; rest = omega arith; place = refl }
tells_step true false i named t ts ps X Y e o y x = let l : named < 256 = leb-false 256 named e in tells_named i named t ts t.place ps X (x (omega arith))
tells_step false b i named t ts ps X Y e o y x = tells_other i named t ts ps Y y

tells : (i named : ℕ) (n : Next) (ts : List Token) → named ≤ 256 → Tells i named ts (names_from n ts) (one_too_many i named n ts)
unfolding names_from one_too_many
tells i named n [] o = omega arith
tells i named n (t ∷ ts) o =
    tells_step (is_operator n t.form) (nat_le 256 named) i named t ts (names_from (after_token n t.form) ts)
    (one_too_many (i + 1) (named + 1) (after_token n t.form) ts) (one_too_many (i + 1) named (after_token n t.form) ts) refl o
    (tells (i + 1) named (after_token n t.form) ts o) (λ l. tells (i + 1) (named + 1) (after_token n t.form) ts l)

told : (s : List Token) (o : Option ℕ) → one_too_many 0 0 at_first s ≡ o → Tells 0 0 s (operators_named s) o
told s o e = subst (λ (x : Option ℕ). Tells 0 0 s (operators_named s) x) e (tells 0 0 at_first s (omega arith))

-- a name that is one too many is the 257th, at the place of its token
late_within : (s : List Token) (ps : Places) (w : ℕ) → Late 0 0 s ps w → w < length s
late_within s ps w h = let l = slice_get_within s h.ahead h.it h.stands in omega (arith, h.at, l)

place_there : (s : List Token) (w : ℕ) (t : Token) → slice_get s w ≡ Some t → place_of s w ≡ t.place
place_there s w t e =
    let l = slice_get_within s w t e in
    let here : w ≡ min w (length s - 1) = omega (arith, l) in
    let stands : slice_get s (min w (length s - 1)) ≡ Some t = subst (λ (k : ℕ). slice_get s k ≡ Some t) here e in
    ap (λ (x : Option Token). place_or_start x) stands

late_stands : (s : List Token) (ps : Places) (w : ℕ) (h : Late 0 0 s ps w) → slice_get s w ≡ Some h.it
late_stands s ps w h = let here : h.ahead ≡ w = omega (arith, h.at) in subst (λ (k : ℕ). slice_get s k ≡ Some h.it) here h.stands

late_place : (s : List Token) (ps : Places) (w : ℕ) (h : Late 0 0 s ps w) → slice_get ps 256 ≡ Some h.it.place
late_place s ps w h = let last : h.left ≡ 256 = omega (arith, h.rest) in subst (λ (k : ℕ). slice_get ps k ≡ Some h.it.place) last h.place

few_tell : (s : List Token) (o : Option ℕ) → one_too_many 0 0 at_first s ≡ o → ((w : ℕ) → NamesTooMany s w → length s ≤ w) → 0 + length (operators_named s) ≤ 256
unfolding at_first after_free
few_tell s None e f = told s None e
few_tell s (Some w) e f = let a = late_within s (operators_named s) w (told s (Some w) e) in let b = f w e in absurd (omega (arith, a, b))

pub parsed_count : (s : List Token) (q : Query) → Parsed s q → operator_count q ≤ 256
parsed_count s q h =
    let few : 0 + length (operators_named s) ≤ 256 = few_tell s (one_too_many 0 0 at_first s) refl h.few in
    subst (λ (ps : Places). length ps ≤ 256) (names_are_operators s q h.is) (omega (arith, few))

-- the same tokens have the same name that is one too many
many_least : (a b : Bool) (i w : ℕ) (X Y : Option ℕ) → (X ≡ Some w → i ≤ w) → (Y ≡ Some w → i ≤ w) → (if a then (if b then Some i else X) else Y) ≡ Some w → i ≤ w
many_least true true i w X Y x y e = let same : i ≡ w = cc in omega arith
many_least true false i w X Y x y e = x e
many_least false b i w X Y x y e = y e

least : (i named : ℕ) (n : Next) (ts : List Token) (w : ℕ) → one_too_many i named n ts ≡ Some w → i ≤ w
unfolding one_too_many
least i named n [] w e = absurd cc
least i named n (t ∷ ts) w e =
    many_least (is_operator n t.form) (nat_le 256 named) i w (one_too_many (i + 1) (named + 1) (after_token n t.form) ts) (one_too_many (i + 1) named (after_token n t.form) ts)
    (λ x. let l : i + 1 ≤ w = least (i + 1) (named + 1) (after_token n t.form) ts w x in omega arith) (λ y. let l : i + 1 ≤ w = least (i + 1) named (after_token n t.form) ts w y in omega arith) e

many_same : (a b : Bool) (i w : ℕ) (X Y U V : Option ℕ) → (X ≡ Some w → U ≡ Some w) → (Y ≡ Some w → V ≡ Some w) → (if a then (if b then Some i else X) else Y) ≡ Some w → (if a then (if b then Some i else U) else V) ≡ Some w
many_same true true i w X Y U V x y e = e
many_same true false i w X Y U V x y e = x e
many_same false b i w X Y U V x y e = y e

head_same : (x y : Token) (xs ys : List Token) → x ∷ xs ≡ y ∷ ys → x ≡ y
head_same x y xs ys e = cc

tail_same : (x y : Token) (xs ys : List Token) → x ∷ xs ≡ y ∷ ys → xs ≡ ys
tail_same x y xs ys e = cc

begun_first : (i named : ℕ) (n : Next) (ts : List Token) (w : ℕ) {A : Type 0} → w ≡ i + 0 → one_too_many (i + 1) named n ts ≡ Some w → A
begun_first i named n ts w o e = let l : i + 1 ≤ w = least (i + 1) named n ts w e in absurd (omega (arith, o))

begun_same : (i named : ℕ) (n : Next) (ts us : List Token) (k w : ℕ) → w ≡ i + k → take (suc k) us ≡ take (suc k) ts → one_too_many i named n ts ≡ Some w → one_too_many i named n us ≡ Some w
unfolding one_too_many
begun_same i named n [] us k w o e h = absurd cc
begun_same i named n (t ∷ ts) [] k w o e h = absurd cc
begun_same i named n (t ∷ ts) (u ∷ us) zero w o e h =
    subst (λ (x : Token). one_too_many i named n (x ∷ us) ≡ Some w) (sym (head_same u t _ _ e))
    (many_same (is_operator n t.form) (nat_le 256 named) i w
    (one_too_many (i + 1) (named + 1) (after_token n t.form) ts) (one_too_many (i + 1) named (after_token n t.form) ts)
    (one_too_many (i + 1) (named + 1) (after_token n t.form) us) (one_too_many (i + 1) named (after_token n t.form) us)
    (begun_first i (named + 1) (after_token n t.form) ts w o) (begun_first i named (after_token n t.form) ts w o) h)
begun_same i named n (t ∷ ts) (u ∷ us) (suc k) w o e h =
    let p : w ≡ i + 1 + k = omega (arith, o) in
    let q = tail_same u t _ _ e in
    subst (λ (x : Token). one_too_many i named n (x ∷ us) ≡ Some w) (sym (head_same u t _ _ e))
    (many_same (is_operator n t.form) (nat_le 256 named) i w
    (one_too_many (i + 1) (named + 1) (after_token n t.form) ts) (one_too_many (i + 1) named (after_token n t.form) ts)
    (one_too_many (i + 1) (named + 1) (after_token n t.form) us) (one_too_many (i + 1) named (after_token n t.form) us)
    (begun_same (i + 1) (named + 1) (after_token n t.form) ts us k w p q) (begun_same (i + 1) named (after_token n t.form) ts us k w p q) h)

begun_many : (s t : List Token) (w : ℕ) → take (w + 1) t ≡ take (w + 1) s → NamesTooMany s w → one_too_many 0 0 at_first t ≡ Some w
unfolding at_first after_free
begun_many s t w e h =
    let next_one : w + 1 ≡ suc w = omega arith in
    begun_same 0 0 at_first s t w w (omega arith) (subst (λ (k : ℕ). take k t ≡ take k s) next_one e) h

-- and at the same place
begun_token : (s t : List Token) (w : ℕ) → take (w + 1) t ≡ take (w + 1) s → slice_get s w ≡ slice_get t w
begun_token s t w e = let o : w < w + 1 = omega arith in agree_take s (w + 1) w o ∙ ap (λ (x : List Token). slice_get x w) (sym e) ∙ sym (agree_take t (w + 1) w o)

pub refused_place : (s t : List Token) (q : Query) (w : ℕ) → NamesTooMany s w → take (w + 1) t ≡ take (w + 1) s → IsForm t query 0 (length t) q → slice_get (operators q) 256 ≡ Some (place_of s w)
refused_place s t q w h e d =
    let many : Late 0 0 t (operators_named t) w = told t (Some w) (begun_many s t w e h) in
    let place : place_of s w ≡ many.it.place = place_there s w many.it (begun_token s t w e ∙ late_stands t (operators_named t) w many) in
    subst (λ (ps : Places). slice_get ps 256 ≡ Some (place_of s w)) (names_are_operators t q d) (late_place t (operators_named t) w many ∙ ap (λ (p : Place). Some p) (sym place))
