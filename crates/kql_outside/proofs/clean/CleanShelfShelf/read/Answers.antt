use Rattle.std.proofs.Common.{arith, ap, subst, ◌∙◌, sym}
use Rattle.std.proofs.lemmas.List.{length-map}
use Rattle.kql_outside.specs.Memory.{ShelfState, path_and_bytes, IsWithin, left_of}
use Rattle.kql_outside.proofs.Files.{bytes_at-map, left_after}
use Rattle.kql_outside.proofs.clean.CleanShelfShelf.read.Goals as goal

pub returns-clause-bytes : goal.returns-clause-bytes
returns-clause-bytes c =
    let reading = c.in-Some.reading in
    let files = c.self.inside.files.items in
    let before = sym (ap (λ (s : ShelfState). s.rest) c.self.view_is) ∙ ap (left_of _) c.in-Some.is in
    let here = subst (IsWithin _) c.in-Some.is c.self.invariant in
    let whole = c.deref.ensures.value ∙ sym (bytes_at-map path_and_bytes files reading.file c.index.result.now (omega (arith, length-map files path_and_bytes, here.0)) c.index.ensures) in
    before ∙ left_after _ _ _ reading.at c.copy_front-count.result whole c.copy_front-count.ensures.copied
