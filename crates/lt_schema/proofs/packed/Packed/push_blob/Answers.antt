use Rattle.std.proofs.Common.{◌≡◌, ◌++◌, ◌∷◌, [], List, ℕ, length, ap, sym, ◌∙◌, subst}
use Rattle.std.specs.List.{All}
use Rattle.lt_schema.specs.declared.value.Value.TheVariants.{Blob}
use Rattle.lt_schema.specs.declared.packed.Slot.{Slot}
use Rattle.lt_schema.specs.declared.packed.Slot.TheVariants as slots
use Rattle.lt_schema.specs.Packing.{LiesIn}
use Rattle.lt_schema.proofs.Buffers.{on_err, all_same_more, all_lie_pushed, pushed_same, part_pushed, blob_lies}
use Rattle.lt_schema.proofs.packed.Packed.push_blob.Goals as goal

pub returns-in_err-push-clause-unchanged : goal.returns-in_err-push-clause-unchanged
returns-in_err-push-clause-unchanged c =
    let all = c.self.inside.slots.items in
    let old = c.self.inside.bytes.items in
    let more = c.args.bytes.now in
    let bytes : c.extend_from_slice.new.self.items ≡ old ++ more = c.in_ok-extend_from_slice.ensures.items in
    let same : c.push.new.self.items ≡ all = c.in_err-push.ensures.items in
    on_err c.from_residual-in_err-push.result (rw (same, bytes, ← c.self.view_is) (all_same_more old more all c.self.invariant))

pub invariant_of-self-2 : goal.invariant_of-self-2
invariant_of-self-2 c =
    let all = c.self.inside.slots.items in
    let old = c.self.inside.bytes.items in
    let more = c.args.bytes.now in
    let bytes : c.extend_from_slice.new.self.items ≡ old ++ more = c.in_ok-extend_from_slice.ensures.items in
    let pushed : c.push.new.self.items ≡ all ++ slots.Blob (length old) (length more) ∷ [] = c.in_ok-push.ensures.items ∙ ap (λ (n : ℕ). all ++ slots.Blob n (length more) ∷ []) (ap length c.as_slice-from.ensures.value) in
    subst (λ (b : List ℕ). All (LiesIn b) c.push.new.self.items) (sym bytes) (subst (All (LiesIn (old ++ more))) (sym pushed) (all_lie_pushed old more all (slots.Blob (length old) (length more)) c.self.invariant (blob_lies old more)))

pub returns-clause-pushed : goal.returns-clause-pushed
returns-clause-pushed c =
    let all = c.self.inside.slots.items in
    let old = c.self.inside.bytes.items in
    let more = c.args.bytes.now in
    let bytes : c.extend_from_slice.new.self.items ≡ old ++ more = c.in_ok-extend_from_slice.ensures.items in
    let pushed : c.push.new.self.items ≡ all ++ slots.Blob (length old) (length more) ∷ [] = c.in_ok-push.ensures.items ∙ ap (λ (n : ℕ). all ++ slots.Blob n (length more) ∷ []) (ap length c.as_slice-from.ensures.value) in
    rw (pushed, bytes, ← c.self.view_is) (pushed_same old more all (slots.Blob (length old) (length more)) (Blob more) c.self.invariant (ap Blob (part_pushed old more)))
