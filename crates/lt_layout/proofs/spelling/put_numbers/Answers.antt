use Rattle.std.proofs.Common.{get_or}
use Rattle.std.specs.Int.{w64, to_be_bytes}
use Rattle.std.proofs.lemmas.List.{get_or_default}
use Rattle.lt_layout.proofs.Spelled.{spelled_step}
use Rattle.lt_layout.proofs.spelling.put_numbers.Goals as goal

pub loop-number-preserved : goal.loop-number-preserved
loop-number-preserved c =
    let n = get_or c.args.list.now c.loop-number.number-index 0 in
    spelled_step (to_be_bytes w64) c.args.list.now c.loop-number.number-index n c.args.out.now.items c.loop-number.out.items c.put_u64.new.out.items c.loop-number-test.true (get_or_default c.args.list.now c.loop-number.number-index 0 n c.loop-number-test.true) c.loop-number.invariant
    c.in_ok-put_u64.ensures.ok
