use Rattle.std.proofs.Common.{sym}
use Rattle.lt_memory.proofs.Keys.{says_of_key}
use Rattle.lt_memory.proofs.take.grow.Goals as goal

pub find_beside-requires : goal.find_beside-requires
find_beside-requires c = record {
  timed = rw (c.as_slice.ensures.value, c.key.ensures.value, c.ts.ensures.value) c.requires.timed;
}

pub returns-in-Err-clause-cause : goal.returns-in-Err-clause-cause
returns-in-Err-clause-cause c =
    let ts = c.args.tablets.now.items in
    let old = c.index_mut-tablet.result.now in
    says_of_key ts c.args.place old c.args.rec.key c.requires.held (sym c.index_mut-tablet.ensures.value) c.in-Err.refused c.in-Err.ensures.cause
