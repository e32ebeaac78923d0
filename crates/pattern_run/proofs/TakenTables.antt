-- Tables that are taken off a list and put behind others.
use Rattle.std.proofs.Common.{◌≡◌, List, [], ◌∷◌, ◌++◌, sym, ap, ◌∙◌, append_assoc, append-nil}
use Rattle.std.specs.Prelude.{reverse}
use Rattle.std.proofs.lemmas.List.{reverse-append, reverse-reverse}
use Rattle.kql_cells.specs.Catalogues.{table_name}
use Rattle.kql_cells.specs.Catalogues as seen
use Rattle.kql_cells.specs.Named.{HasDistinctNames, IsAbsent}
use Rattle.kql_values.specs.Kept.{all_named, named_of}
use Rattle.kql_values.specs.declared.catalogue.Named.{Named}
use Rattle.pattern_run.proofs.Distinct.{absent-before}

next-taken : (old new : List Named) (t : Named) → old ≡ new ++ t ∷ [] → all_named (reverse old) ≡ named_of t ∷ all_named (reverse new)
next-taken old new t e = ap (λ (ts : List Named). all_named (reverse ts)) e ∙ ap all_named (reverse-append new (t ∷ []))

pub none-taken : (front : List seen.Named) (tables left : List Named) → left ≡ reverse tables → front ++ all_named (reverse left) ≡ front ++ all_named tables
none-taken front tables left e = ap (λ (ts : List Named). front ++ all_named ts) (ap reverse e ∙ reverse-reverse tables)

pub one-taken : (all after whole : List seen.Named) (old new : List Named) (t : Named) → old ≡ new ++ t ∷ [] → after ≡ all ++ named_of t ∷ [] → all ++ all_named (reverse old) ≡ whole → after ++ all_named (reverse new) ≡ whole
one-taken all after whole old new t e a h =
    ap (λ (ts : List seen.Named). ts ++ all_named (reverse new)) a
    ∙ (append_assoc all (named_of t ∷ []) (all_named (reverse new))
    ∙ (ap (λ (ts : List seen.Named). all ++ ts) (sym (next-taken old new t e)) ∙ h))

pub absent-taken : (all whole : List seen.Named) (old new : List Named) (t : Named) → old ≡ new ++ t ∷ [] → all ++ all_named (reverse old) ≡ whole → HasDistinctNames table_name whole → IsAbsent table_name t.name all
absent-taken all whole old new t e h distinct =
    absent-before table_name whole all (named_of t) (all_named (reverse new)) (sym h ∙ ap (λ (ts : List seen.Named). all ++ ts) (next-taken old new t e)) distinct

pub all-taken : (all whole : List seen.Named) (left : List Named) → left ≡ [] → all ++ all_named (reverse left) ≡ whole → all ≡ whole
all-taken all whole left e h = sym (append-nil all) ∙ (ap (λ (ts : List Named). all ++ all_named (reverse ts)) (sym e) ∙ h)
