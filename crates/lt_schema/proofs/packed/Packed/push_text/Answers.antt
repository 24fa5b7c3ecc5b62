use Rattle.std.proofs.Common.{◌≡◌, ◌++◌, ◌∷◌, [], List, ℕ, length, ap, sym, ◌∙◌, subst}
use Rattle.std.specs.List.{All}
use Rattle.lt_schema.specs.declared.value.Value.TheVariants.{Text}
use Rattle.lt_schema.specs.declared.packed.Slot.{Slot}
use Rattle.lt_schema.specs.declared.packed.Slot.TheVariants as slots
use Rattle.lt_schema.specs.Packing.{LiesIn}
use Rattle.lt_schema.proofs.Buffers.{on_err, all_same_more, all_lie_pushed, pushed_same, part_pushed, text_lies}
use Rattle.lt_schema.proofs.packed.Packed.push_text.Goals as goal

pub returns-in_err-push-clause-unchanged : goal.returns-in_err-push-clause-unchanged
returns-in_err-push-clause-unchanged c =
    let all = c.self.inside.slots.items in
    let old = c.self.inside.bytes.items in
    let more = c.args.text.now in
    let bytes : c.extend_from_slice.new.self.items ≡ old ++ more = c.in_ok-extend_from_slice.ensures.items ∙ ap (λ (t : List ℕ). old ++ t) c.as_bytes.ensures.value in
    let same : c.push.new.self.items ≡ all = c.in_err-push.ensures.items in
    on_err c.from_residual-in_err-push.result (rw (same, bytes, ← c.self.view_is) (all_same_more old more all c.self.invariant))

pub invariant_of-self-2 : goal.invariant_of-self-2
invariant_of-self-2 c =
    let all = c.self.inside.slots.items in
    let old = c.self.inside.bytes.items in
    let more = c.args.text.now in
    let bytes : c.extend_from_slice.new.self.items ≡ old ++ more = c.in_ok-extend_from_slice.ensures.items ∙ ap (λ (t : List ℕ). old ++ t) c.as_bytes.ensures.value in
    let pushed : c.push.new.self.items ≡ all ++ slots.Text (length old) (length more) ∷ [] = c.in_ok-push.ensures.items ∙ ap (λ (n : ℕ). all ++ slots.Text n (length more) ∷ []) (ap length c.as_slice-from.ensures.value) in
    subst (λ (b : List ℕ). All (LiesIn b) c.push.new.self.items) (sym bytes) (subst (All (LiesIn (old ++ more))) (sym pushed) (all_lie_pushed old more all (slots.Text (length old) (length more)) c.self.invariant (text_lies old more c.utf8.text)))

pub returns-clause-pushed : goal.returns-clause-pushed
returns-clause-pushed c =
    let all = c.self.inside.slots.items in
    let old = c.self.inside.bytes.items in
    let more = c.args.text.now in
    let bytes : c.extend_from_slice.new.self.items ≡ old ++ more = c.in_ok-extend_from_slice.ensures.items ∙ ap (λ (t : List ℕ). old ++ t) c.as_bytes.ensures.value in
    let pushed : c.push.new.self.items ≡ all ++ slots.Text (length old) (length more) ∷ [] = c.in_ok-push.ensures.items ∙ ap (λ (n : ℕ). all ++ slots.Text n (length more) ∷ []) (ap length c.as_slice-from.ensures.value) in
    rw (pushed, bytes, ← c.self.view_is) (pushed_same old more all (slots.Text (length old) (length more)) (Text more) c.self.invariant (ap Text (part_pushed old more)))
