use Rattle.std.proofs.Common.{◌≡◌, ◌<◌, ◌++◌, ◌∷◌, [], length, sym, ap, subst, ◌∙◌}
use Rattle.std.specs.Option.{IfNone}
use Rattle.std.specs.List.{All, cons_option}
use Rattle.std.proofs.lemmas.List.{length-set}
use Rattle.std.proofs.lemmas.List.Sorted.{All-permutation}
use Rattle.std.proofs.lemmas.List.Elements.{All-cons}
use Rattle.lt_kway.specs.Heads.{Refuses}
use Rattle.lt_kway.specs.declared.head.Head.{Head}
use Rattle.lt_cursor.specs.Strands.{left_of}
use Rattle.lt_cursor.specs.Merging.{Merging, IsSoundMerging, coming_of}
use Rattle.lt_cursor.proofs.Putting.{none_sound, none_coming, some_sound, some_coming, no_clash}
use Rattle.lt_cursor.proofs.merge.Merge.lead.Goals as goal

pub returns-in_default-clause-sound : goal.returns-in_default-clause-sound
returns-in_default-clause-sound g c = λ honest.
    let i = c.self.inside in
    let m : Merging = record { raw_box = i.raw_box; held = i.heads; strands = i.sources.items; waiting = i.waiting.items } in
    let sound : IsSoundMerging m (m.waiting ++ c.args.at ∷ []) = subst (λ (m : Merging). IsSoundMerging m (m.waiting ++ c.args.at ∷ [])) (sym c.self.view_is) (c.requires.sound honest) in
    let w : c.args.at < length m.strands = subst (λ (m : Merging). c.args.at < length m.strands) (sym c.self.view_is) c.requires.within in
    let given : left_of i.raw_box c.index_mut-source.result.now ≡ left_of i.raw_box c.next.new.self = c.in_ok-rec.ensures.given honest ∙ ap (λ o. cons_option o (left_of i.raw_box c.next.new.self)) c.in_default.is in
    let empty : left_of i.raw_box c.next.new.self ≡ [] = subst (λ o. IfNone o (left_of i.raw_box c.next.new.self ≡ [])) c.in_default.is (c.in_ok-rec.ensures.empty honest) in
    none_sound m c.args.at c.index_mut-source.result.now c.next.new.self w c.index_mut-source.ensures.value given empty sound

pub returns-in_default-clause-coming : goal.returns-in_default-clause-coming
returns-in_default-clause-coming g c = λ honest.
    let i = c.self.inside in
    let m : Merging = record { raw_box = i.raw_box; held = i.heads; strands = i.sources.items; waiting = i.waiting.items } in
    let w : c.args.at < length m.strands = subst (λ (m : Merging). c.args.at < length m.strands) (sym c.self.view_is) c.requires.within in
    let given : left_of i.raw_box c.index_mut-source.result.now ≡ left_of i.raw_box c.next.new.self = c.in_ok-rec.ensures.given honest ∙ ap (λ o. cons_option o (left_of i.raw_box c.next.new.self)) c.in_default.is in
    none_coming m c.args.at c.index_mut-source.result.now c.next.new.self w c.index_mut-source.ensures.value given ∙ ap coming_of c.self.view_is

pub invariant_of-self-in-Ok : goal.invariant_of-self-in-Ok
invariant_of-self-in-Ok g c =
    let i = c.self.inside in
    let size = length-set i.sources.items c.args.at c.next.new.self in
    let w : c.args.at < length i.sources.items = subst (λ (m : Merging). c.args.at < length m.strands) (sym c.self.view_is) c.requires.within in
    let head : Head = record { source = c.args.at; rec = c.in-Some.rec } in
    record {
      waiting = subst (λ n. All (λ at. at < n) i.waiting.items) (sym size) c.self.invariant.waiting;
      heads = subst (λ n. All (λ (h : Head). h.source < n) c.put.new.self.heads) (sym size)
          (All-permutation (λ (h : Head). h.source < length i.sources.items) (head ∷ i.heads.heads) c.put.new.self.heads c.in-Ok.ensures.ok
          (All-cons (λ (h : Head). h.source < length i.sources.items) head i.heads.heads w c.self.invariant.heads));
    }

pub returns-in-Ok-clause-sound : goal.returns-in-Ok-clause-sound
returns-in-Ok-clause-sound g c = λ honest.
    let i = c.self.inside in
    let m : Merging = record { raw_box = i.raw_box; held = i.heads; strands = i.sources.items; waiting = i.waiting.items } in
    let sound : IsSoundMerging m (m.waiting ++ c.args.at ∷ []) = subst (λ (m : Merging). IsSoundMerging m (m.waiting ++ c.args.at ∷ [])) (sym c.self.view_is) (c.requires.sound honest) in
    let w : c.args.at < length m.strands = subst (λ (m : Merging). c.args.at < length m.strands) (sym c.self.view_is) c.requires.within in
    let given : left_of i.raw_box c.index_mut-source.result.now ≡ c.in-Some.rec ∷ left_of i.raw_box c.next.new.self = c.in_ok-rec.ensures.given honest ∙ ap (λ o. cons_option o (left_of i.raw_box c.next.new.self)) c.in-Some.is in
    some_sound m c.args.at c.index_mut-source.result.now c.next.new.self w c.index_mut-source.ensures.value c.in-Some.rec c.put.new.self sound given c.in-Ok.ensures.ok c.in-Ok.ensures.direction

pub returns-in-Ok-clause-coming : goal.returns-in-Ok-clause-coming
returns-in-Ok-clause-coming g c = λ honest.
    let i = c.self.inside in
    let m : Merging = record { raw_box = i.raw_box; held = i.heads; strands = i.sources.items; waiting = i.waiting.items } in
    let sound : IsSoundMerging m (m.waiting ++ c.args.at ∷ []) = subst (λ (m : Merging). IsSoundMerging m (m.waiting ++ c.args.at ∷ [])) (sym c.self.view_is) (c.requires.sound honest) in
    let w : c.args.at < length m.strands = subst (λ (m : Merging). c.args.at < length m.strands) (sym c.self.view_is) c.requires.within in
    let given : left_of i.raw_box c.index_mut-source.result.now ≡ c.in-Some.rec ∷ left_of i.raw_box c.next.new.self = c.in_ok-rec.ensures.given honest ∙ ap (λ o. cons_option o (left_of i.raw_box c.next.new.self)) c.in-Some.is in
    some_coming m c.args.at c.index_mut-source.result.now c.next.new.self w c.index_mut-source.ensures.value c.in-Some.rec c.put.new.self sound given c.in-Ok.ensures.ok c.in-Ok.ensures.direction ∙ ap coming_of c.self.view_is

pub returns-in-Err-default-Clash-clause-never_bad : goal.returns-in-Err-default-Clash-clause-never_bad
returns-in-Err-default-Clash-clause-never_bad g c = λ honest.
    let i = c.self.inside in
    let m : Merging = record { raw_box = i.raw_box; held = i.heads; strands = i.sources.items; waiting = i.waiting.items } in
    let sound : IsSoundMerging m (m.waiting ++ c.args.at ∷ []) = subst (λ (m : Merging). IsSoundMerging m (m.waiting ++ c.args.at ∷ [])) (sym c.self.view_is) (c.requires.sound honest) in
    let w : c.args.at < length m.strands = subst (λ (m : Merging). c.args.at < length m.strands) (sym c.self.view_is) c.requires.within in
    let given : left_of i.raw_box c.index_mut-source.result.now ≡ c.in-Some.rec ∷ left_of i.raw_box c.next.new.self = c.in_ok-rec.ensures.given honest ∙ ap (λ o. cons_option o (left_of i.raw_box c.next.new.self)) c.in-Some.is in
    let cause = subst (Refuses i.heads.heads c.in-Some.rec.key) c.in-Err-default-Clash.field-0-1-is c.in-Err-default-Clash.ensures.cause in
    absurd (no_clash m c.args.at c.index_mut-source.result.now c.next.new.self w c.index_mut-source.ensures.value c.in-Some.rec c.in-Err-default-Clash.source sound given cause)
