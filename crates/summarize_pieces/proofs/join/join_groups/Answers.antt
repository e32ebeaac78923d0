use Rattle.std.proofs.Common.{◌+◌, ◌++◌, ◌∙◌, List, ap, ap₂, length, subst, sym}
use Rattle.kql_cells.specs.declared.value.Value.{Value}
use Rattle.summarize_pieces.specs.Joined.{AllFew, joined_states}
use Rattle.summarize_pieces.specs.Pieces.{GroupKept, Grouped}
use Rattle.summarize_pieces.proofs.JoinSteps.{behind-are, both-groups, left-few, many-numbers, neighbours-differ, neighbours-wide, right-few}
use Rattle.summarize_pieces.proofs.NeighbourLaws.{groups-joined}
use Rattle.summarize_pieces.proofs.join.join_groups.Goals as goal

abbrev key_list : Grouped → List (List Value)
key_list g = g.keys

abbrev state_list : Grouped → List (List GroupKept)
state_list g = g.states

pub append-requires : goal.append-requires
append-requires c = neighbours-wide c.args.a c.args.b c.a.inside.keys c.b.inside.keys c.requires.neighbours (ap key_list c.a.view_is) (ap key_list c.b.view_is)

pub numbers_from-behind-requires : goal.numbers_from-behind-requires
numbers_from-behind-requires c =
    let ef = c.len-first.ensures.count ∙ ap (λ (g : Grouped). length g.keys) c.a.view_is in
    let ew = c.in_ok-append.ensures.added ∙ ap₂ (λ (xs ys : List (List Value)). xs ++ ys) (ap key_list c.a.view_is) (ap key_list c.b.view_is) in
    record { within = many-numbers c.args.a.keys c.args.b.keys c.append.new.self c.len-first.result c.as_slice.result.now ef ew (c.as_slice.ensures.items ∙ c.in_ok-keys.ensures.numbers) }

pub join_calls-requires-clause-differ : goal.join_calls-requires-clause-differ
join_calls-requires-clause-differ c =
    let ef = c.len-first.ensures.count ∙ ap (λ (g : Grouped). length g.keys) c.a.view_is in
    let ew = c.in_ok-append.ensures.added ∙ ap₂ (λ (xs ys : List (List Value)). xs ++ ys) (ap key_list c.a.view_is) (ap key_list c.b.view_is) in
    let en = behind-are c.args.a.keys c.args.b.keys c.append.new.self c.len-first.result c.as_slice.result.now c.numbers_from-behind.result.now ef ew (c.as_slice.ensures.items ∙ c.in_ok-keys.ensures.numbers) c.numbers_from-behind.ensures.rest in
    neighbours-differ c.args.a c.args.b c.numbers_from-behind.result.now c.requires.neighbours en

pub join_calls-requires-clause-folds : goal.join_calls-requires-clause-folds
join_calls-requires-clause-folds c =
    let ef = c.len-first.ensures.count ∙ ap (λ (g : Grouped). length g.keys) c.a.view_is in
    subst (λ (g : Grouped). AllFew c.len-first.result g.count g.states) (sym c.a.view_is) (left-few c.args.a c.args.b c.len-first.result c.requires.neighbours ef)

pub join_calls-requires-clause-more : goal.join_calls-requires-clause-more
join_calls-requires-clause-more c =
    let ef = c.len-first.ensures.count ∙ ap (λ (g : Grouped). length g.keys) c.a.view_is in
    let ew = c.in_ok-append.ensures.added ∙ ap₂ (λ (xs ys : List (List Value)). xs ++ ys) (ap key_list c.a.view_is) (ap key_list c.b.view_is) in
    let ns = c.numbers_from-behind.result.now in
    let en = behind-are c.args.a.keys c.args.b.keys c.append.new.self c.len-first.result c.as_slice.result.now ns ef ew (c.as_slice.ensures.items ∙ c.in_ok-keys.ensures.numbers) c.numbers_from-behind.ensures.rest in
    subst (λ (g : Grouped). AllFew (length ns) g.count g.states) (sym c.b.view_is) (right-few c.args.a c.args.b ns c.requires.neighbours en)

pub returns-clause-joined : goal.returns-clause-joined
returns-clause-joined c =
    let a = c.args.a in
    let b = c.args.b in
    let first = c.len-first.result in
    let ns = c.numbers_from-behind.result.now in
    let ef = c.len-first.ensures.count ∙ ap (λ (g : Grouped). length g.keys) c.a.view_is in
    let ew = c.in_ok-append.ensures.added ∙ ap₂ (λ (xs ys : List (List Value)). xs ++ ys) (ap key_list c.a.view_is) (ap key_list c.b.view_is) in
    let en = behind-are a.keys b.keys c.append.new.self first c.as_slice.result.now ns ef ew (c.as_slice.ensures.items ∙ c.in_ok-keys.ensures.numbers) c.numbers_from-behind.ensures.rest in
    let es = c.in_ok-folds.ensures.joined ∙ ap₂ (λ (xs ys : List (List GroupKept)). joined_states first xs ns ys) (ap state_list c.a.view_is) (ap state_list c.b.view_is) in
    let ec = ap₂ (λ m n. m + n) (ap (λ (g : Grouped). g.count) c.a.view_is) (ap (λ (g : Grouped). g.count) c.b.view_is) in
    both-groups a b first _ c.a.inside.width c.append.new.self c.in_ok-keys.field-0.keys ns c.a.inside.calls.items c.in_ok-folds.folds.items ef ew c.in_ok-keys.ensures.keys en es ec (ap (λ (g : Grouped). g.width) c.a.view_is) (ap (λ (g : Grouped). g.calls) c.a.view_is)

pub returns-clause-range : goal.returns-clause-range
returns-clause-range c =
    let a = c.args.a in
    let b = c.args.b in
    let first = c.len-first.result in
    let ns = c.numbers_from-behind.result.now in
    let ef = c.len-first.ensures.count ∙ ap (λ (g : Grouped). length g.keys) c.a.view_is in
    let ew = c.in_ok-append.ensures.added ∙ ap₂ (λ (xs ys : List (List Value)). xs ++ ys) (ap key_list c.a.view_is) (ap key_list c.b.view_is) in
    let en = behind-are a.keys b.keys c.append.new.self first c.as_slice.result.now ns ef ew (c.as_slice.ensures.items ∙ c.in_ok-keys.ensures.numbers) c.numbers_from-behind.ensures.rest in
    let es = c.in_ok-folds.ensures.joined ∙ ap₂ (λ (xs ys : List (List GroupKept)). joined_states first xs ns ys) (ap state_list c.a.view_is) (ap state_list c.b.view_is) in
    let ec = ap₂ (λ m n. m + n) (ap (λ (g : Grouped). g.count) c.a.view_is) (ap (λ (g : Grouped). g.count) c.b.view_is) in
    λ n. groups-joined a b _ n (both-groups a b first _ c.a.inside.width c.append.new.self c.in_ok-keys.field-0.keys ns c.a.inside.calls.items c.in_ok-folds.folds.items ef ew c.in_ok-keys.ensures.keys en es ec (ap (λ (g : Grouped). g.width) c.a.view_is) (ap (λ (g : Grouped). g.calls) c.a.view_is))
