-- The rule implies the laws
use Rattle.std.proofs.Common.{◌≡◌, ◌⊎◌, List, [], ◌∷◌, ◌++◌, fold, length, refl, sym, ap, ◌∙◌, subst, ⊎_elim, inl, inr}
use Rattle.kql_cells.specs.Table.{Grid}
use Rattle.live_catalogue.specs.declared.value.Live.{Live}
use Rattle.live_catalogue.specs.declared.known.Known.{Known}
use Rattle.live_catalogue.specs.Rule.{StartsWith, Kept}
use Rattle.live_catalogue.specs.Laws.{IsLawful}

abbrev head_of : Grid → List Grid → Grid
head_of d [] = d
head_of d (x ∷ xs) = x

abbrev tail_of : List Grid → List Grid
tail_of [] = []
tail_of (x ∷ xs) = xs

-- two beginnings of one list
two_firsts : (xs ys more less : List Grid) → xs ++ more ≡ ys ++ less → StartsWith xs ys ⊎ StartsWith ys xs
two_firsts [] ys more less e = inr (ys, refl)
two_firsts (x ∷ xs) [] more less e = inl (x ∷ xs, refl)
two_firsts (x ∷ xs) (y ∷ ys) more less e =
    let same : x ≡ y = ap (head_of x) e in
    ⊎_elim
    (λ (h : StartsWith xs ys). inl (h.0, λ i. same i ∷ h.1 i))
    (λ (h : StartsWith ys xs). inr (h.0, λ i. sym same i ∷ h.1 i))
    (two_firsts xs ys more less (ap tail_of e))

module _ {V : Type 0} where
  pub lawful : (grown : V → Grid → V) (promised : V → List Grid → Type 0) (x : Live V) (views : List (Known V)) → Kept grown promised x views → IsLawful grown promised x views
  lawful grown promised x views h = record {
    in_line = λ i j v w a b. let f = (h.each i v a).first in let g = (h.each j w b).first in two_firsts v.batches w.batches f.0 g.0 (sym f.1 ∙ g.1);
    one_opening = λ i j v w o p a b is was. (h.each i v a).same o is ∙ sym ((h.each j w b).same p was);
    appender = λ i j v w a b yes. subst (λ l. StartsWith l w.batches) (sym ((h.each i v a).appends yes).2) (h.each j w b).first;
    alone = λ i j v w a b one other. ((h.each i v a).appends one).0 ∙ sym ((h.each j w b).appends other).0;
    last = λ i j v w a b yes. subst (λ l. StartsWith l w.batches) (sym ((h.each i v a).closed yes).2) (h.each j w b).first;
    marked = λ i j v w a b yes mine. ((h.each j w b).appends mine).3 ∙ ((h.each i v a).closed yes).0;
    promise = λ i v o a. (h.each i v a).promise o;
    value = λ i v o a yes is. h.value ∙ (λ k. fold grown (sym ((h.each i v a).same o is) k) (sym ((h.each i v a).appends yes).2 k));
    count = λ i v a yes. h.count ∙ ap length (sym ((h.each i v a).appends yes).2);
  }
