-- Calls of patterns, case by case.
use Rattle.std.proofs.Common.{◌≡◌, ℕ, List, [], ◌∷◌, length, get_or, refl, sym, ap, ◌∙◌, arith}
use Rattle.std.specs.Prelude.{Option, None, Some, Ok, Err}
use Rattle.kql_lexer.specs.declared.place.Place.{Place}
use Rattle.kql_syntax.specs.Alone.{literal_of_term, name_of_term, term_of_arg, term_of_sum}
use Rattle.kql_syntax.specs.declared.tree.Arg.{Arg}
use Rattle.kql_syntax.specs.declared.tree.Literal.{Literal}
use Rattle.kql_syntax.specs.declared.tree.Name.{Name}
use Rattle.kql_syntax.specs.declared.tree.Sum.{Sum}
use Rattle.kql_syntax.specs.declared.tree.Term.{Term}
use Rattle.bind_expr.specs.Names.{text_of}
use Rattle.bind_expr.specs.Outcome.{Answers, Outcome}
use Rattle.bind_expr.specs.Patterns.{arg_literal, arg_name, extract_bound, extract_of, group_if, group_of, literal_if, match_bound, name_if, refused_here, search_of, searched, sum_literal, sum_name}
use Rattle.bind_expr.specs.declared.fault.BindFault.TheVariants as fault
use Rattle.bind_expr.specs.declared.scope.Scope.{Scope}
use Rattle.bind_expr.specs.declared.typed.Typed.{Typed}
use Rattle.bind_expr.proofs.AnswerFacts.{answers-along, answers-same}

-- A refusal at the word.
pub here : (word : Place) (result : Outcome Typed) → result ≡ refused_here word → Answers result (refused_here word)
here word result is = answers-same result (refused_here word) is

pub ruleset here_steps = (here)

-- Names and literals of parts.

pub sum-name-none : (s : Sum) → None ≡ term_of_sum s → None ≡ sum_name s
unfolding sum_name
sum-name-none s none = ap name_if none

pub sum-name-some : (s : Sum) (t : Term) (n : Option Name) → Some t ≡ term_of_sum s → n ≡ name_of_term t → n ≡ sum_name s
unfolding sum_name
sum-name-some s t n some is = is ∙ ap name_if some

pub ruleset sum_name_steps = (sum-name-none, sum-name-some)

pub sum-literal-none : (s : Sum) → None ≡ term_of_sum s → None ≡ sum_literal s
unfolding sum_literal
sum-literal-none s none = ap literal_if none

pub sum-literal-some : (s : Sum) (t : Term) (n : Option Literal) → Some t ≡ term_of_sum s → n ≡ literal_of_term t → n ≡ sum_literal s
unfolding sum_literal
sum-literal-some s t n some is = is ∙ ap literal_if some

pub ruleset sum_literal_steps = (sum-literal-none, sum-literal-some)

pub arg-name-none : (s : Arg) → None ≡ term_of_arg s → None ≡ arg_name s
unfolding arg_name
arg-name-none s none = ap name_if none

pub arg-name-some : (s : Arg) (t : Term) (n : Option Name) → Some t ≡ term_of_arg s → n ≡ name_of_term t → n ≡ arg_name s
unfolding arg_name
arg-name-some s t n some is = is ∙ ap name_if some

pub ruleset arg_name_steps = (arg-name-none, arg-name-some)

pub arg-literal-none : (s : Arg) → None ≡ term_of_arg s → None ≡ arg_literal s
unfolding arg_literal
arg-literal-none s none = ap literal_if none

pub arg-literal-some : (s : Arg) (t : Term) (n : Option Literal) → Some t ≡ term_of_arg s → n ≡ literal_of_term t → n ≡ arg_literal s
unfolding arg_literal
arg-literal-some s t n some is = is ∙ ap literal_if some

pub ruleset arg_literal_steps = (arg-literal-none, arg-literal-some)

-- `matches regex`.

pub match-unnamed : (word : Place) (scope : Scope) (c p : Sum) (result : Outcome Typed) → None ≡ sum_name c → result ≡ refused_here word → Answers result (match_bound word scope c p)
unfolding match_bound
match-unnamed word scope c p result none is =
    answers-along result (refused_here word) (match_bound word scope c p) (answers-same result (refused_here word) is)
    (ap (λ (n : Option Name). search_of word None scope n (sum_literal p)) none)

pub match-unwritten : (word : Place) (scope : Scope) (c p : Sum) (n : Name) (result : Outcome Typed) → Some n ≡ sum_name c → None ≡ sum_literal p → result ≡ refused_here word → Answers result (match_bound word scope c p)
unfolding match_bound
match-unwritten word scope c p n result some none is =
    answers-along result (refused_here word) (match_bound word scope c p) (answers-same result (refused_here word) is)
    (ap (λ (l : Option Literal). search_of word None scope (Some n) l) none ∙ ap (λ (m : Option Name). search_of word None scope m (sum_literal p)) some)

pub match-searched : (word : Place) (scope : Scope) (c p : Sum) (n : Name) (l : Literal) (name : List ℕ) (result : Outcome Typed) → Some n ≡ sum_name c → Some l ≡ sum_literal p → name ≡ text_of n → Answers result (searched word None scope name l) → Answers result (match_bound word scope c p)
unfolding match_bound
match-searched word scope c p n l name result some written same h =
    answers-along result (searched word None scope name l) (match_bound word scope c p) h
    (ap (λ (t : List ℕ). searched word None scope t l) same
    ∙ (ap (λ (k : Option Literal). search_of word None scope (Some n) k) written ∙ ap (λ (m : Option Name). search_of word None scope m (sum_literal p)) some))

pub ruleset match_steps = (match-unnamed, match-unwritten, match-searched)

-- `extract`.

pub group-none : (a : Arg) → None ≡ arg_literal a → None ≡ group_if (arg_literal a)
group-none a none = ap group_if none

pub group-some : (a : Arg) (l : Literal) (g : Option ℕ) → Some l ≡ arg_literal a → g ≡ group_of l → g ≡ group_if (arg_literal a)
group-some a l g some is = is ∙ ap group_if some

pub ruleset group_steps = (group-none, group-some)

pub extract-uncounted : (word : Place) (scope : Scope) (p n c : Arg) (g : Option ℕ) (result : Outcome Typed) → g ≡ group_if (arg_literal n) → g ≡ None → result ≡ refused_here word → Answers result (extract_of word scope (arg_literal p) (group_if (arg_literal n)) (arg_name c))
extract-uncounted word scope p n c g result same none is =
    answers-along result (refused_here word) (extract_of word scope (arg_literal p) (group_if (arg_literal n)) (arg_name c)) (answers-same result (refused_here word) is)
    (ap (λ (k : Option ℕ). extract_of word scope (arg_literal p) k (arg_name c)) (sym none ∙ same))

pub extract-unnamed : (word : Place) (scope : Scope) (p n c : Arg) (g : Option ℕ) (k : ℕ) (result : Outcome Typed) → g ≡ group_if (arg_literal n) → g ≡ Some k → None ≡ arg_name c → result ≡ refused_here word → Answers result (extract_of word scope (arg_literal p) (group_if (arg_literal n)) (arg_name c))
extract-unnamed word scope p n c g k result same some none is =
    answers-along result (refused_here word) (extract_of word scope (arg_literal p) (group_if (arg_literal n)) (arg_name c)) (answers-same result (refused_here word) is)
    (ap (λ (m : Option Name). search_of word (Some k) scope m (arg_literal p)) none ∙ ap (λ (o : Option ℕ). extract_of word scope (arg_literal p) o (arg_name c)) (sym some ∙ same))

pub extract-unwritten : (word : Place) (scope : Scope) (p n c : Arg) (g : Option ℕ) (k : ℕ) (m : Name) (result : Outcome Typed) → g ≡ group_if (arg_literal n) → g ≡ Some k → Some m ≡ arg_name c → None ≡ arg_literal p → result ≡ refused_here word → Answers result (extract_of word scope (arg_literal p) (group_if (arg_literal n)) (arg_name c))
extract-unwritten word scope p n c g k m result same some named none is =
    answers-along result (refused_here word) (extract_of word scope (arg_literal p) (group_if (arg_literal n)) (arg_name c)) (answers-same result (refused_here word) is)
    (ap (λ (l : Option Literal). search_of word (Some k) scope (Some m) l) none
    ∙ (ap (λ (o : Option Name). search_of word (Some k) scope o (arg_literal p)) named ∙ ap (λ (o : Option ℕ). extract_of word scope (arg_literal p) o (arg_name c)) (sym some ∙ same)))

pub extract-searched : (word : Place) (scope : Scope) (p n c : Arg) (g : Option ℕ) (k : ℕ) (m : Name) (l : Literal) (name : List ℕ) (result : Outcome Typed) → g ≡ group_if (arg_literal n) → g ≡ Some k → Some m ≡ arg_name c → Some l ≡ arg_literal p → name ≡ text_of m → Answers result (searched word (Some k) scope name l) → Answers result (extract_of word scope (arg_literal p) (group_if (arg_literal n)) (arg_name c))
extract-searched word scope p n c g k m l name result same some named written is h =
    answers-along result (searched word (Some k) scope name l) (extract_of word scope (arg_literal p) (group_if (arg_literal n)) (arg_name c)) h
    (ap (λ (t : List ℕ). searched word (Some k) scope t l) is
    ∙ (ap (λ (o : Option Literal). search_of word (Some k) scope (Some m) o) written
    ∙ (ap (λ (o : Option Name). search_of word (Some k) scope o (arg_literal p)) named ∙ ap (λ (o : Option ℕ). extract_of word scope (arg_literal p) o (arg_name c)) (sym some ∙ same))))

pub ruleset extract_steps = (extract-uncounted, extract-unnamed, extract-unwritten, extract-searched)

-- The arguments of `extract`: three, or another number of them.

pub extract-three : (word : Place) (scope : Scope) (args : List Arg) (p n c : Arg) (result : Outcome Typed) → length args ≡ 3 → p ≡ get_or args 0 p → n ≡ get_or args 1 n → c ≡ get_or args 2 c → Answers result (extract_of word scope (arg_literal p) (group_if (arg_literal n)) (arg_name c)) → Answers result (extract_bound word scope args)
unfolding extract_bound
extract-three word scope [] p n c result three first second third h = absurd (omega (arith, three))
extract-three word scope (x ∷ []) p n c result three first second third h = absurd (omega (arith, three))
extract-three word scope (x ∷ y ∷ []) p n c result three first second third h = absurd (omega (arith, three))
extract-three word scope (x ∷ y ∷ z ∷ []) p n c result three first second third h =
    answers-along result (extract_of word scope (arg_literal p) (group_if (arg_literal n)) (arg_name c)) (extract_of word scope (arg_literal x) (group_if (arg_literal y)) (arg_name z)) h
    (ap (λ (a : Arg). extract_of word scope (arg_literal a) (group_if (arg_literal n)) (arg_name c)) first
    ∙ (ap (λ (a : Arg). extract_of word scope (arg_literal x) (group_if (arg_literal a)) (arg_name c)) second
    ∙ ap (λ (a : Arg). extract_of word scope (arg_literal x) (group_if (arg_literal y)) (arg_name a)) third))
extract-three word scope (x ∷ y ∷ z ∷ w ∷ more) p n c result three first second third h = absurd (omega (arith, three))

pub extract-others : (word : Place) (scope : Scope) (args : List Arg) (result : Outcome Typed) → (length args ≡ 3 → ⊥) → result ≡ refused_here word → Answers result (extract_bound word scope args)
unfolding extract_bound
extract-others word scope [] result other is = answers-same result (refused_here word) is
extract-others word scope (x ∷ []) result other is = answers-same result (refused_here word) is
extract-others word scope (x ∷ y ∷ []) result other is = answers-same result (refused_here word) is
extract-others word scope (x ∷ y ∷ z ∷ []) result other is = absurd (other refl)
extract-others word scope (x ∷ y ∷ z ∷ w ∷ more) result other is = answers-same result (refused_here word) is

pub ruleset count_steps = (extract-three, extract-others)
