use Rattle.std.proofs.Common.{◌≡◌, ◌≤◌, true, List, length, take, sym, ap, subst, arith}
use Rattle.std.proofs.lemmas.List.{take_all}
use Rattle.std.proofs.lemmas.List.Elements.{All-append}
use Rattle.lt_rec.specs.Bytes.{begins_with}
use Rattle.lt_rec.specs.Record.{Record, stem_of}
use Rattle.lt_rec.specs.Records.{joined}
use Rattle.lt_tablet.specs.Loaded.{blocks_in}
use Rattle.lt_probe.specs.Latest.{IsWholeIn}
use Rattle.lt_probe.proofs.Range.{block_next, length-entries_of}
use Rattle.lt_reading_runs.proofs.tests.looking.stems.is_whole_in_tablet.Goals as goal

pub loop-at-preserved : goal.loop-at-preserved
loop-at-preserved g c = λ honest.
    let blocks = blocks_in c.args.tablet.now in
    let bytes = c.args.bytes.now in
    let block = c.in_ok-block.block in
    let there = c.in_ok-block.ensures.value honest in
    let here : IsWholeIn block bytes = c.is_whole_in_block.ensures c.if-not-is_whole_in_block.false in
    subst (λ (recs : List Record). IsWholeIn recs bytes) (sym (block_next blocks c.loop-at.at block there))
    (All-append (λ (r : Record). begins_with r.key bytes ≡ true → stem_of r.key ≡ bytes) (joined (take c.loop-at.at blocks)) block (c.loop-at.invariant honest) here)

pub returns : goal.returns
returns g c = λ honest. λ yes.
    let blocks = blocks_in c.args.tablet.now in
    let told = c.count-at-end.ensures.honest honest in
    let whole : length blocks ≤ c.loop-at.at = omega (arith, c.loop-at-test.false, c.count-at-end.ensures.value, ap length told.index_is, length-entries_of 8 blocks) in
    subst (λ (bs : List (List Record)). IsWholeIn (joined bs) c.args.bytes.now) (take_all c.loop-at.at blocks whole) (c.loop-at.invariant honest)
