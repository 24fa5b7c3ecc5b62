use Rattle.lt_memory.proofs.Spans.{meets_if, misses_if}
use Rattle.lt_memory.proofs.held.meets.Goals as goal

pub returns-then-span-raw_box : goal.returns-then-span-raw_box
returns-then-span-raw_box c = meets_if c.args.recs.now c.in-Some.span.0 c.in-Some.span.1 c.args.raw_box.now.from c.args.raw_box.now.to c.in-Some.ensures c.if-span-raw_box.true

pub returns-else-span-raw_box : goal.returns-else-span-raw_box
returns-else-span-raw_box c = misses_if c.args.recs.now c.in-Some.span.0 c.in-Some.span.1 c.args.raw_box.now.from c.args.raw_box.now.to c.in-Some.ensures c.if-span-raw_box.false
