use Rattle.std.proofs.Common.{◌≡◌, ◌<◌, ◌++◌, ◌∷◌, [], length, sym, ap, subst, ◌∙◌}
use Rattle.std.specs.List.{All}
use Rattle.std.proofs.lemmas.List.Elements.{All-push, All-head, All-tail}
use Rattle.std.proofs.lemmas.List.Sorted.{All-permutation, IsPermutation-sym}
use Rattle.lt_kway.specs.Heads.{Held}
use Rattle.lt_kway.specs.declared.head.Head.{Head}
use Rattle.lt_cursor.specs.Order.{arranged}
use Rattle.lt_cursor.specs.Merging.{Merging, IsSound, IsSoundMerging, lefts, all_left, coming_of}
use Rattle.lt_cursor.proofs.Leading.{taken_coming, taken_sound, end_coming}
use Rattle.lt_cursor.proofs.merge.Merge.take.Goals as goal

pub returns-in-None-clause-empty : goal.returns-in-None-clause-empty
returns-in-None-clause-empty g c = λ honest.
    let i = c.self.inside in
    let m : Merging = record { raw_box = i.raw_box; held = i.heads; strands = i.sources.items; waiting = i.waiting.items } in
    let sound : IsSoundMerging m [] = subst (λ (m : Merging). IsSoundMerging m []) (sym c.self.view_is) (c.requires.sound honest) in
    let same : c.take.new.self ≡ i.heads = (λ j. record { down = c.in-None.ensures.direction j; heads = (c.in-None.ensures.unchanged ∙ sym c.in-None.ensures.empty) j }) in
    ap (λ (h : Held). arranged h.down (all_left h.heads (lefts m))) same ∙ end_coming i.heads.down i.heads.heads (lefts m) sound c.in-None.ensures.empty

pub returns-in_ok-push-in-Some-clause-given : goal.returns-in_ok-push-in-Some-clause-given
returns-in_ok-push-in-Some-clause-given g c = λ honest.
    let i = c.self.inside in
    let m : Merging = record { raw_box = i.raw_box; held = i.heads; strands = i.sources.items; waiting = i.waiting.items } in
    let head : Head = record { source = c.in-Some.source; rec = c.in-Some.rec } in
    let sound : IsSoundMerging m [] = subst (λ (m : Merging). IsSoundMerging m []) (sym c.self.view_is) (c.requires.sound honest) in
    ap coming_of (sym c.self.view_is)
    ∙ taken_coming i.heads.down i.heads.heads c.take.new.self.heads (lefts m) head sound c.in-Some.ensures.taken c.in-Some.ensures.least
    ∙ ap (λ d. head.rec ∷ arranged d (all_left c.take.new.self.heads (lefts m))) (sym c.in-Some.ensures.direction)

pub returns-in_ok-push-in-Some-clause-sound : goal.returns-in_ok-push-in-Some-clause-sound
returns-in_ok-push-in-Some-clause-sound g c = λ honest.
    let i = c.self.inside in
    let m : Merging = record { raw_box = i.raw_box; held = i.heads; strands = i.sources.items; waiting = i.waiting.items } in
    let head : Head = record { source = c.in-Some.source; rec = c.in-Some.rec } in
    let sound : IsSoundMerging m [] = subst (λ (m : Merging). IsSoundMerging m []) (sym c.self.view_is) (c.requires.sound honest) in
    let none : i.waiting.items ≡ [] = ap (λ (m : Merging). m.waiting) c.self.view_is ∙ c.requires.waiting in
    let one : c.push.new.self.items ≡ head.source ∷ [] = c.in_ok-push-in-Some.ensures.items ∙ ap (λ ws. ws ++ head.source ∷ []) none in
    subst (λ ws. IsSound c.take.new.self.down c.take.new.self.heads (lefts m) ws) (sym one)
    (subst (λ d. IsSound d c.take.new.self.heads (lefts m) (head.source ∷ [])) (sym c.in-Some.ensures.direction)
    (taken_sound i.heads.down i.heads.heads c.take.new.self.heads (lefts m) head sound c.in-Some.ensures.taken c.in-Some.ensures.least))

pub invariant_of-self-in-Some : goal.invariant_of-self-in-Some
invariant_of-self-in-Some g c =
    let i = c.self.inside in
    let head : Head = record { source = c.in-Some.source; rec = c.in-Some.rec } in
    let each : All (λ (h : Head). h.source < length i.sources.items) (head ∷ c.take.new.self.heads) =
    All-permutation (λ (h : Head). h.source < length i.sources.items) i.heads.heads (head ∷ c.take.new.self.heads) (IsPermutation-sym _ _ c.in-Some.ensures.taken) c.self.invariant.heads in
    record {
      waiting = subst (All (λ at. at < length i.sources.items)) (sym c.in_ok-push-in-Some.ensures.items) (All-push (λ at. at < length i.sources.items) i.waiting.items head.source c.self.invariant.waiting (All-head (λ (h : Head). h.source < length i.sources.items) head c.take.new.self.heads each));
      heads = All-tail (λ (h : Head). h.source < length i.sources.items) head c.take.new.self.heads each;
    }

pub invariant_of-self-in_err-push-in-Some : goal.invariant_of-self-in_err-push-in-Some
invariant_of-self-in_err-push-in-Some g c =
    let i = c.self.inside in
    let head : Head = record { source = c.in-Some.source; rec = c.in-Some.rec } in
    let each : All (λ (h : Head). h.source < length i.sources.items) (head ∷ c.take.new.self.heads) =
    All-permutation (λ (h : Head). h.source < length i.sources.items) i.heads.heads (head ∷ c.take.new.self.heads) (IsPermutation-sym _ _ c.in-Some.ensures.taken) c.self.invariant.heads in
    record {
      waiting = subst (All (λ at. at < length i.sources.items)) (sym c.in_err-push-in-Some.ensures.items) c.self.invariant.waiting;
      heads = All-tail (λ (h : Head). h.source < length i.sources.items) head c.take.new.self.heads each;
    }
