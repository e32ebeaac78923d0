-- Operators' names in the tokens of a form, from those in the tokens of its parts.
use Rattle.std.proofs.Common.{ℕ, ◌+◌, ◌≡◌, inl, inr, Bool, true, false, ◌&&◌, List, [], ◌∷◌, ◌++◌, drop, map, refl, sym, ap, subst, ◌∙◌}
use Rattle.std.specs.Prelude.{Option, Some, None, slice_get}
use Rattle.std.proofs.lemmas.List.{append_assoc, append-nil, drop_more}
use Rattle.std.proofs.lemmas.Option.{get_or_from_slice_get, slice_get_within}
use Rattle.kql_lexer.specs.declared.keyword.Keyword.{Keyword}
use Rattle.kql_lexer.specs.declared.place.Place.{Place}
use Rattle.kql_lexer.specs.declared.token.Token.{Token}
use Rattle.kql_lexer.specs.declared.token.TokenForm.{TokenForm}
use Rattle.kql_syntax.specs.declared.class.Class.{Class}
use Rattle.kql_syntax.specs.declared.class.Class.TheVariants as class
use Rattle.kql_syntax.specs.Classes.{IsOf}
use Rattle.kql_syntax.specs.Levels.{Level}
use Rattle.kql_syntax.specs.Forms.{Form, token, level, pair, either, option, many, makes, mark, after, before, listed}
use Rattle.kql_syntax.specs.Derives.{Is, Row, Perhaps, Derivable}
use Rattle.kql_syntax.proofs.ClassLaws.{class_means}
use Rattle.kql_syntax.proofs.StartLaws.{and_left, and_right}
use Rattle.kql_parser.specs.Operators.{after_token, is_operator}
use Rattle.kql_parser_laws.specs.Counted.{Next, names_from}
use Rattle.kql_parser_laws.specs.OfTree.{Places, joined}
use Rattle.kql_parser_laws.proofs.States.{State, next, all_calm, behind, same, same_means, told, follow}
use Rattle.kql_parser_laws.proofs.TokenFacts.{Goes, names, key_names, key_leads, tokens_go}

-- of the tokens from i to j, of whose first this is known, these are the operators' names; this is known of the next one
abbrev pub Names : List Token → State → State → ℕ → ℕ → Places → Type 0
Names s n m i j ps = names_from (next n) (drop i s) ≡ ps ++ names_from (next m) (drop j s)

-- the operators' names in a text of the form are those of its value
pub record Counts {A : Type 0} (s : List Token) (D : Derivable) (a : Form A) (n m : State) (w : A → Places) : Type 0 where
  pub law : (i j : ℕ) (x : A) → Is s D a i j x → Names s n m i j (w x)

abbrev pub nothing : {A : Type 0} → A → Places
nothing x = []

pub both : (s : List Token) (n k m : State) (i h j : ℕ) (ps qs : Places) → Names s n k i h ps → Names s k m h j qs → Names s n m i j (ps ++ qs)
both s n k m i h j ps qs p q = p ∙ ap (λ (x : Places). ps ++ x) q ∙ sym (append_assoc ps qs (names_from (next m) (drop j s)))

none_here : (s : List Token) (n : State) (i j : ℕ) → j ≡ i → Names s n n i j []
none_here s n i j e = ap (λ (x : ℕ). names_from (next n) (drop x s)) (sym e)

-- the tokens from one that is there on
drop_there : (s : List Token) (i : ℕ) (t : Token) → slice_get s i ≡ Some t → drop i s ≡ t ∷ drop (i + 1) s
drop_there s i t e = drop_more s i t (slice_get_within s i t e) ∙ ap (λ (x : Token). x ∷ drop (i + 1) s) (get_or_from_slice_get s i t t e)

-- a token that is no operator's name, and one that is
names_pass : (n : Next) (t : Token) (ts : List Token) → is_operator n t.form ≡ false → names_from n (t ∷ ts) ≡ names_from (after_token n t.form) ts
unfolding names_from
names_pass n t ts e = rw e refl

names_take : (n : Next) (t : Token) (ts : List Token) → is_operator n t.form ≡ true → names_from n (t ∷ ts) ≡ t.place ∷ names_from (after_token n t.form) ts
unfolding names_from
names_take n t ts e = rw e refl

pass : (s : List Token) (n m : State) (i j : ℕ) (t : Token) → slice_get s i ≡ Some t → j ≡ i + 1 → Goes n t.form m → Names s n m i j []
pass s n m i j t e q g =
    ap (λ (x : List Token). names_from (next n) x) (drop_there s i t e) ∙ names_pass (next n) t (drop (i + 1) s) g.none
    ∙ ap (λ (x : Next). names_from x (drop (i + 1) s)) g.leads ∙ ap (λ (x : ℕ). names_from (next m) (drop x s)) (sym q)

take_one : (s : List Token) (n m : State) (i j : ℕ) (t : Token) → slice_get s i ≡ Some t → j ≡ i + 1 → told n t.form ≡ true → follow n t.form ≡ next m → names_from (next n) (drop i s) ≡ t.place ∷ names_from (next m) (drop j s)
take_one s n m i j t e q o d =
    ap (λ (x : List Token). names_from (next n) x) (drop_there s i t e) ∙ names_take (next n) t (drop (i + 1) s) o
    ∙ ap (λ (x : Next). t.place ∷ names_from x (drop (i + 1) s)) d ∙ ap (λ (x : ℕ). t.place ∷ names_from (next m) (drop x s)) (sym q)

module _ (s : List Token) (D : Derivable) where
  -- tokens that are no operators' names
  pub quiet_token : (n m : State) (cs : List Class) → all_calm n m cs ≡ true → Counts s D (token cs) n m nothing
  unfolding Is
  quiet_token n m cs e = record { law = λ i j x h. pass s n m i j x h.0 h.2 (tokens_go n m cs x.form e h.1) }

  quiet_mark_law : (n m : State) (cs : List Class) → all_calm n m cs ≡ true → (i j : ℕ) (x : Place) → Is s D (mark cs) i j x → Names s n m i j []
  unfolding Is
  quiet_mark_law n m cs e i j x h = (quiet_token n m cs e).law i j h.0 h.1

  pub quiet_mark : (n m : State) (cs : List Class) → all_calm n m cs ≡ true → Counts s D (mark cs) n m nothing
  quiet_mark n m cs e = record { law = quiet_mark_law n m cs e }

  pub pair_counts : {A B : Type 0} (a : Form A) (b : Form B) (n k m : State) (u : A → Places) (v : B → Places) → Counts s D a n k u → Counts s D b k m v → Counts s D (pair a b) n m (λ p. u p.0 ++ v p.1)
  unfolding Is
  pair_counts a b n k m u v f g = record { law = λ i j x h. both s n k m i h.0 j (u x.0) (v x.1) (f.law i h.0 x.0 h.1) (g.law h.0 j x.1 h.2) }

  pub either_counts : {A : Type 0} {a b : Form A} {n m : State} {w : A → Places} → Counts s D a n m w → Counts s D b n m w → Counts s D (either a b) n m w
  unfolding Is
  either_counts f g = record { law = λ i j x h. elim h [ inl y ↦ f.law i j x y | inr y ↦ g.law i j x y ] }

  pub makes_counts : {A B : Type 0} {g : A → B} {a : Form A} {n m : State} {w : B → Places} (u : A → Places) → ((y : A) → w (g y) ≡ u y) → Counts s D a n m u → Counts s D (makes g a) n m w
  unfolding Is
  makes_counts {m = m} {w = w} u e f = record { law = λ i j x h. f.law i j h.0 h.1 ∙ ap (λ (ps : Places). ps ++ names_from (next m) (drop j s)) (sym (e h.0) ∙ ap w (sym h.2)) }

  -- an operator's name
  pub word_counts : (n : State) (k : Keyword) → names n k ≡ true → Counts s D (mark (class.Key k ∷ [])) n (behind n (class.Key k)) (λ p. p ∷ [])
  unfolding Is IsOf
  word_counts n k e = record {
    law = λ i j x h.
        let t : Token = h.0 in
        let f = class_means (class.Key k) t.form h.1.1 in
        let o : told n t.form ≡ true = ap (λ (y : TokenForm). told n y) f.1 ∙ key_names n k f.0 e in
        let d : follow n t.form ≡ next (behind n (class.Key k)) = ap (λ (y : TokenForm). follow n y) f.1 ∙ key_leads n k f.0 in
        take_one s n (behind n (class.Key k)) i j t h.1.0 h.1.2 o d ∙ ap (λ (p : Place). p ∷ names_from (next (behind n (class.Key k))) (drop j s)) (sym h.2);
  }

  -- a word that is an operator's name, and what stands behind it
  pub named_counts : {A B : Type 0} {a : Form A} {k : Keyword} {g : Place × A → B} {n m : State} {w : B → Places} (u : A → Places) → ((y : Place × A) → w (g y) ≡ y.0 ∷ u y.1) → names n k ≡ true → Counts s D a (behind n (class.Key k)) m u → Counts s D (makes g (pair (mark (class.Key k ∷ [])) a)) n m w
  named_counts {a = a} {k = k} {n = n} {m = m} u e i f = makes_counts (λ p. (p.0 ∷ []) ++ u p.1) e (pair_counts (mark (class.Key k ∷ [])) a n (behind n (class.Key k)) m (λ p. p ∷ []) u (word_counts n k i) f)

  row_counts : {A : Type 0} (a : Form A) (n : State) (u : A → Places) → Counts s D a n n u → (i j : ℕ) (xs : List A) → Row (Is s D a) i j xs → Names s n n i j (joined (map u xs))
  row_counts a n u f i j [] r = none_here s n i j r
  row_counts a n u f i j (x ∷ xs) r = both s n n n i r.0 j (u x) (joined (map u xs)) (f.law i r.0 x r.1) (row_counts a n u f r.0 j xs r.2)

  pub many_counts : {A : Type 0} (a : Form A) (n : State) (u : A → Places) → Counts s D a n n u → Counts s D (many a) n n (λ xs. joined (map u xs))
  unfolding Is
  many_counts a n u f = record { law = row_counts a n u f }

  -- tokens of these classes around the form
  pub after_counts : {A : Type 0} {cs : List Class} {a : Form A} {n m : State} {u : A → Places} (b : State) → all_calm n b cs ≡ true → Counts s D a b m u → Counts s D (after cs a) n m u
  after_counts {cs = cs} {a = a} {n = n} {m = m} {u = u} b e f = makes_counts (λ p. [] ++ u p.1) (λ y. refl) (pair_counts (mark cs) a n b m nothing u (quiet_mark n b cs e) f)

  pub before_counts : {A : Type 0} {cs : List Class} {a : Form A} {n m : State} {u : A → Places} (b : State) → all_calm b m cs ≡ true → Counts s D a n b u → Counts s D (before a cs) n m u
  before_counts {cs = cs} {a = a} {n = n} {m = m} {u = u} b e f = makes_counts (λ p. u p.0 ++ []) (λ y. sym (append-nil (u y.0))) (pair_counts a (mark cs) n b m u nothing f (quiet_mark b m cs e))

  pub listed_counts : {A : Type 0} {cs : List Class} {a : Form A} {n m : State} (u : A → Places) → all_calm m n cs ≡ true → Counts s D a n m u → Counts s D (listed cs a) n m (λ xs. joined (map u xs))
  listed_counts {cs = cs} {a = a} {n = n} {m = m} u e f =
      makes_counts (λ p. u p.0 ++ joined (map u p.1)) (λ y. refl) (pair_counts a (many (after cs a)) n m m u (λ xs. joined (map u xs)) f (many_counts (after cs a) m u (after_counts n e f)))

  quiet_row : {A : Type 0} (a : Form A) (n : State) → Counts s D a n n nothing → (i j : ℕ) (xs : List A) → Row (Is s D a) i j xs → Names s n n i j []
  quiet_row a n f i j [] r = none_here s n i j r
  quiet_row a n f i j (x ∷ xs) r = f.law i r.0 x r.1 ∙ quiet_row a n f r.0 j xs r.2

  quiet_option : {A : Type 0} (a : Form A) (n : State) → Counts s D a n n nothing → (i j : ℕ) (x : Option A) → Perhaps (Is s D a) i j x → Names s n n i j []
  quiet_option a n f i j None r = none_here s n i j r
  quiet_option a n f i j (Some x) r = f.law i j x r

-- what is known after a text of a level
abbrev pub level_leads : Level → State → State
level_leads Level.Name State.PartBracket = State.PartBracket
level_leads _ _ = State.Free

-- and after one of a form, if that is one
abbrev pub leads : {A : Type 0} → Form A → State → State
leads (token []) n = n
leads (token (c ∷ cs)) n = behind n c
leads (level l) n = level_leads l n
leads (pair a b) n = leads b (leads a n)
leads (either a b) n = leads a n
leads (option a) n = n
leads (many a) n = n
leads (makes f a) n = leads a n

-- whether no text of the form has an operator's name, and one thing is known after all of them
abbrev pub quiet : (Level → State → Bool) → {A : Type 0} → Form A → State → Bool
quiet L (token cs) n = all_calm n (leads (token cs) n) cs
quiet L (level l) n = L l n
quiet L (pair a b) n = quiet L a n && quiet L b (leads a n)
quiet L (either a b) n = quiet L a n && (quiet L b n && same (leads b n) (leads a n))
quiet L (option a) n = quiet L a n && same (leads a n) n
quiet L (many a) n = quiet L a n && same (leads a n) n
quiet L (makes f a) n = quiet L a n

module _ (s : List Token) (D : Derivable) (L : Level → State → Bool) (calm : (l : Level) (n : State) → L l n ≡ true → Counts s D (level l) n (level_leads l n) nothing) where
  led : {A : Type 0} (a : Form A) (n k m : State) → same k m ≡ true → Counts s D a n k nothing → Counts s D a n m nothing
  led a n k m e f = subst (λ (x : State). Counts s D a n x nothing) (same_means k m e) f

  pub quiet_counts : {A : Type 0} (a : Form A) (n : State) → quiet L a n ≡ true → Counts s D a n (leads a n) nothing
  unfolding Is
  quiet_counts (token cs) n e = quiet_token s D n (leads (token cs) n) cs e
  quiet_counts (level l) n e = calm l n e
  quiet_counts (pair a b) n e = pair_counts s D a b n (leads a n) (leads b (leads a n)) nothing nothing (quiet_counts a n (and_left _ _ e)) (quiet_counts b (leads a n) (and_right _ _ e))
  quiet_counts (either a b) n e =
      let r = and_right _ _ e in
      either_counts s D (quiet_counts a n (and_left _ _ e)) (led b n (leads b n) (leads a n) (and_right _ _ r) (quiet_counts b n (and_left _ _ r)))
  quiet_counts (option a) n e = record { law = quiet_option s D a n (led a n (leads a n) n (and_right _ _ e) (quiet_counts a n (and_left _ _ e))) }
  quiet_counts (many a) n e = record { law = quiet_row s D a n (led a n (leads a n) n (and_right _ _ e) (quiet_counts a n (and_left _ _ e))) }
  quiet_counts (makes f a) n e = makes_counts s D nothing (λ y. refl) (quiet_counts a n e)
