-- What an appender keeps, from call to call
use Rattle.std.proofs.Common.{◌≡◌, ◌↔◌, ℕ, ◌+◌, ◌^◌, ◌<◌, List, [], ◌∷◌, ◌++◌, All, fold, length, Bool, refl, sym, ap, ◌∙◌, subst, arith, length-append}
use Rattle.std.proofs.lemmas.List.Elements.{All-nil, All-head, All-tail, All-push, All-weaker}
use Rattle.std.proofs.lemmas.List.Sums.{sum_by-cons, sum_by_push}
use Rattle.kql_cells.specs.Table.{Grid}
use Rattle.live_catalogue.specs.declared.value.Live.{Live}
use Rattle.live_catalogue.specs.declared.value.Change.{Change}
use Rattle.live_catalogue.specs.declared.value.Change.TheVariants.{Begin, Grow}
use Rattle.live_catalogue.specs.declared.known.Known.{Known}
use Rattle.live_catalogue.specs.Changes.{batches_of}
use Rattle.live_catalogue.specs.Views.{AppenderView, all_rows, line_count}
use Rattle.live_catalogue.specs.Inside.{AppenderKept, IsShown}

pub batches-append : (xs ys : List Change) → batches_of (xs ++ ys) ≡ batches_of xs ++ batches_of ys
batches-append [] ys = refl
batches-append (Begin ∷ xs) ys = batches-append xs ys
batches-append (Grow b ∷ xs) ys = ap (λ l. b ∷ l) (batches-append xs ys)

module _ {V : Type 0} (can_take : V → Grid → Type 0) (row_count : V → ℕ) where
  pub staged_kept : (known known' : Known V) (shown shown' : Live V) (changes changes' : List Change) (rows staged n : ℕ) (closed : Bool) (batch : Grid)
      → known' ≡ known → shown' ≡ shown → changes' ≡ changes ++ Grow batch ∷ [] → n ≡ line_count batch → can_take shown.value batch
      → row_count shown.value + all_rows (batches_of changes) + line_count batch < 2 ^ 63 → length known.batches + length (batches_of changes) < 2 ^ 63
      → AppenderKept can_take row_count known shown (batches_of changes) rows staged closed
      → AppenderKept can_take row_count known' shown' (batches_of changes') (rows + n) (staged + 1) closed
  staged_kept known known' shown shown' changes changes' rows staged n closed batch a b p len takes few_rows few_staged k =
      let e : batches_of changes' ≡ batches_of changes ++ batch ∷ [] = ap batches_of p ∙ batches-append changes (Grow batch ∷ []) in
      let sum : all_rows (batches_of changes ++ batch ∷ []) ≡ all_rows (batches_of changes) + line_count batch = sum_by_push line_count (batches_of changes) batch in
      let count : length (batches_of changes ++ batch ∷ []) ≡ length (batches_of changes) + 1 = length-append (batches_of changes) (batch ∷ []) in
      subst (λ (z : Known V × Live V × List Grid). AppenderKept can_take row_count z.0 z.1 z.2 (rows + n) (staged + 1) closed) (λ i. (sym a i, sym b i, sym e i)) (record {
        appends = k.appends;
        begun = k.begun;
        closed_is = k.closed_is;
        count = k.count;
        rows_are = omega (arith, k.rows_are, sum, len);
        few_rows = omega (arith, k.rows_are, few_rows, len);
        staged_are = omega (arith, k.staged_are, count);
        few_staged = omega (arith, k.staged_are, few_staged);
        taken = All-push (λ x. can_take shown.value x) (batches_of changes) batch k.taken takes;
      })

  pub staged_view : (opening-v : AppenderView V) (known known' : Known V) (shown shown' : Live V) (changes changes' : List Change) (closed : Bool) (batch : Grid)
      → known' ≡ known → shown' ≡ shown → changes' ≡ changes ++ Grow batch ∷ []
      → record { opening = known.opening; published = known.batches; pending = batches_of changes; value = shown.value; closed = closed } ≡ opening-v
      → record { opening = known'.opening; published = known'.batches; pending = batches_of changes'; value = shown'.value; closed = closed } ≡ record opening-v { pending = opening-v.pending ++ batch ∷ [] }
  staged_view a known known' shown shown' changes changes' closed batch k s p is =
      (λ i. record { opening = (k i).opening; published = (k i).batches; pending = (ap batches_of p ∙ batches-append changes (Grow batch ∷ [])) i; value = (s i).value; closed = closed })
      ∙ ap (λ (z : AppenderView V). record z { pending = z.pending ++ batch ∷ [] }) is

  module _ (grown : V → Grid → V)
      (alike : (v : V) (b c : Grid) → can_take v b → can_take (grown v b) c ↔ can_take v c)
      (add : (v : V) (b : Grid) → can_take v b → row_count (grown v b) ≡ row_count v + line_count b) where
    pub fold_rows : (v : V) (bs : List Grid) → All (λ b. can_take v b) bs → row_count (fold grown v bs) ≡ row_count v + all_rows bs
    fold_rows v [] h = omega arith
    fold_rows v (b ∷ bs) h =
        let takes = All-head (λ x. can_take v x) b bs h in
        let rest = All-weaker (λ x. can_take v x) (λ x. can_take (grown v b) x) (λ c t. (alike v b c takes).1 t) bs (All-tail (λ x. can_take v x) b bs h) in
        let more : row_count (fold grown (grown v b) bs) ≡ row_count (grown v b) + all_rows bs = fold_rows (grown v b) bs rest in
        let one : row_count (grown v b) ≡ row_count v + line_count b = add v b takes in
        let cons : all_rows (b ∷ bs) ≡ line_count b + all_rows bs = sum_by-cons line_count b bs in
        omega (arith, more, one, cons)

    pub published_kept : (known known' : Known V) (shown shown' : Live V) (pending pending' : List Grid) (rows staged : ℕ) (closed : Bool)
        → IsShown grown known shown pending known' shown' pending' → AppenderKept can_take row_count known shown pending rows staged closed
        → AppenderKept can_take row_count known' shown' pending' rows staged closed
    published_kept known known' shown shown' pending pending' rows staged closed s k =
        let value = fold_rows shown.value pending k.taken in
        let count = length-append known.batches pending in
        subst (λ (z : Known V × Live V × List Grid). AppenderKept can_take row_count z.0 z.1 z.2 rows staged closed) (λ i. (sym s.known_is i, sym s.shown_is i, sym s.none_left i)) (record {
          appends = k.appends;
          begun = k.begun;
          closed_is = k.closed_is;
          count = omega (arith, k.count, count);
          rows_are = omega (arith, k.rows_are, value);
          few_rows = k.few_rows;
          staged_are = omega (arith, k.staged_are, count);
          few_staged = k.few_staged;
          taken = All-nil (λ x. can_take (fold grown shown.value pending) x);
        })
