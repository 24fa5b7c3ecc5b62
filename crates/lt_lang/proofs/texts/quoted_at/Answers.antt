use Rattle.lt_lang.specs.Parsing.{quoted_at}
use Rattle.lt_lang.proofs.Pieces.{piece_at-shorter}
use Rattle.lt_lang.proofs.TextLoop.{text-begin, text-more, text-end_some, text-end_none}
use Rattle.lt_lang.proofs.texts.quoted_at.Goals as goal

pub loop-byte-init : goal.loop-byte-init
loop-byte-init c = rw c.new-text.ensures.items (text-begin c.args.bytes.now)

pub loop-byte-smaller : goal.loop-byte-smaller
loop-byte-smaller c = piece_at-shorter c.loop-byte.rest.now c.in-Some.byte c.in-Some.after.now c.in-Some.ensures

pub loop-byte-preserved : goal.loop-byte-preserved
loop-byte-preserved c =
    rw c.in_ok-push.ensures.items
    (text-more c.loop-byte.text.items c.loop-byte.rest.now c.in-Some.byte c.in-Some.after.now (quoted_at c.args.bytes.now) c.in-Some.ensures c.loop-byte.invariant)

pub returns-in-Some-closed_at : goal.returns-in-Some-closed_at
returns-in-Some-closed_at c =
    text-end_some c.loop-byte.text.items c.loop-byte.rest.now c.in-Some-closed_at.behind.now (quoted_at c.args.bytes.now) c.in_default.ensures c.in-Some-closed_at.ensures c.loop-byte.invariant

pub returns : goal.returns
returns c = text-end_none c.loop-byte.text.items c.loop-byte.rest.now (quoted_at c.args.bytes.now) c.in_default.ensures c.in-None.ensures c.loop-byte.invariant
