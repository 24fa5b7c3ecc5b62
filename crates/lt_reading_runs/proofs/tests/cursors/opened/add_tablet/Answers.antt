use Rattle.std.proofs.Common.{◌≤◌, ◌++◌, length, take, sym, ap, ◌∙◌, append_assoc, arith}
use Rattle.std.proofs.lemmas.List.{take_all}
use Rattle.lt_rec.specs.Records.{joined}
use Rattle.lt_tablet.specs.Loaded.{blocks_in}
use Rattle.lt_layout.proofs.Blocks.{length_entries}
use Rattle.lt_cursor.proofs.Behind.{joined_more}
use Rattle.lt_reading_runs.proofs.tests.cursors.opened.add_tablet.Goals as goal

pub loop-i-preserved : goal.loop-i-preserved
loop-i-preserved g c = λ honest.
    let blocks = blocks_in c.args.tablet.now in
    c.in_ok-add_block.ensures ∙ ap (λ xs. xs ++ c.in_ok-block.block) (c.loop-i.invariant honest)
    ∙ append_assoc c.args.all.now.items (joined (take c.loop-i.i blocks)) c.in_ok-block.block
    ∙ ap (λ xs. c.args.all.now.items ++ xs) (sym (joined_more blocks c.loop-i.i c.in_ok-block.block (c.in_ok-block.ensures.value honest)))

pub returns : goal.returns
returns g c = λ honest.
    let blocks = blocks_in c.args.tablet.now in
    let told = c.count-i-end.ensures.honest honest in
    let whole : length blocks ≤ c.loop-i.i = omega (arith, c.loop-i-test.false, c.count-i-end.ensures.value, ap length told.index_is, length_entries 8 blocks) in
    c.loop-i.invariant honest ∙ ap (λ bs. c.args.all.now.items ++ joined bs) (take_all c.loop-i.i blocks whole)
