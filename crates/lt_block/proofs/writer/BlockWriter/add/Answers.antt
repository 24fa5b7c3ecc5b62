use Rattle.std.proofs.Common.{◌≡◌, ◌+◌, ◌≤◌, List, [], ◌∷◌, ◌++◌, true, length, drop, sym, ap, subst, ◌∙◌, arith}
use Rattle.std.proofs.lemmas.List.{length-drop}
use Rattle.lt_rec.specs.Bytes.{is_less}
use Rattle.lt_rec.specs.Record.{Record, stored_len}
use Rattle.lt_block.specs.Spelling.{last_key}
use Rattle.lt_block.specs.Filling.{held}
use Rattle.lt_block.proofs.Filling.{few, pushed, held_is, Holds-again}
use Rattle.lt_block.proofs.writer.BlockWriter.add.Goals as goal

pub overflow_add-self : goal.overflow_add-self
overflow_add-self c = omega (arith, few c.self.inside.count c.self.inside.bytes.items (held c.self.inside.count c.self.inside.bytes.items) c.self.invariant)

pub invariant_of-self-2 : goal.invariant_of-self-2
invariant_of-self-2 c =
    let recs = held c.self.inside.count c.self.inside.bytes.items in
    let above : is_less (last_key [] (held c.self.inside.count c.self.inside.bytes.items)) c.args.rec.now.key ≡ true = subst (λ (v : List Record). is_less (last_key [] v) c.args.rec.now.key ≡ true) (sym c.self.view_is) c.requires.above in
    let short : 4 + length (drop 4 c.self.inside.bytes.items) + stored_len c.args.rec.now ≤ 65536 = omega (arith, length-drop 4 c.self.inside.bytes.items, ap length c.as_slice.ensures.value, c.max.ensures, c.stored_len.ensures.exact, c.if-max-stored_len-gt-LONGEST_BLOCK.false) in
    Holds-again (c.self.inside.count + 1) c.put.new.bytes.items (held c.self.inside.count c.self.inside.bytes.items ++ c.args.rec.now ∷ [])
    (pushed c.self.inside.count c.self.inside.bytes.items c.put.new.bytes.items (held c.self.inside.count c.self.inside.bytes.items) c.args.rec.now c.self.invariant c.stored_len.ensures.lawful above c.in_ok-put.ensures.ok c.in_ok-put.ensures.started short)

pub returns-clause-put : goal.returns-clause-put
returns-clause-put c = λ _.
    let above : is_less (last_key [] (held c.self.inside.count c.self.inside.bytes.items)) c.args.rec.now.key ≡ true = subst (λ (v : List Record). is_less (last_key [] v) c.args.rec.now.key ≡ true) (sym c.self.view_is) c.requires.above in
    let short : 4 + length (drop 4 c.self.inside.bytes.items) + stored_len c.args.rec.now ≤ 65536 = omega (arith, length-drop 4 c.self.inside.bytes.items, ap length c.as_slice.ensures.value, c.max.ensures, c.stored_len.ensures.exact, c.if-max-stored_len-gt-LONGEST_BLOCK.false) in
    held_is (c.self.inside.count + 1) c.put.new.bytes.items (held c.self.inside.count c.self.inside.bytes.items ++ c.args.rec.now ∷ [])
    (pushed c.self.inside.count c.self.inside.bytes.items c.put.new.bytes.items (held c.self.inside.count c.self.inside.bytes.items) c.args.rec.now c.self.invariant c.stored_len.ensures.lawful above c.in_ok-put.ensures.ok c.in_ok-put.ensures.started short)
    ∙ ap (λ (v : List Record). v ++ c.args.rec.now ∷ []) c.self.view_is
