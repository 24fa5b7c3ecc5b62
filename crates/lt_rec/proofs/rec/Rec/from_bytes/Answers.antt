use Rattle.std.proofs.Common.{◌≡◌, ◌-◌, length, drop, sym, ap, ◌∙◌, arith}
use Rattle.std.proofs.lemmas.List.{length-drop}
use Rattle.lt_rec.proofs.Reading.{IsBytes, IsBytes-drop}
use Rattle.lt_rec.proofs.Stored.{written, Written-stored, Written-record}
use Rattle.lt_rec.proofs.rec.Rec.from_bytes.Goals as goal

pub from_stored-requires : goal.from_stored-requires
from_stored-requires c =
    let rest = drop 20 c.args.bytes.items in
    let len : length c.args.bytes.items ≡ length c.as_slice.result.now = ap length (sym c.as_slice.ensures.value) in
    let fits : IsBytes (drop 20 c.args.bytes.items) = IsBytes-drop 20 c.args.bytes.items (λ i. c.headed.ensures.bytes i) in
    Written-stored c.headed.result (drop 20 c.args.bytes.items) c.args.key_len c.args.seq c.args.ver
    (written c.headed.result (drop 20 c.args.bytes.items) c.args.key_len (length c.as_slice.result.now - 20 - c.args.key_len) c.args.seq c.args.ver c.requires.long_enough c.requires.short_enough (omega (arith, len, c.requires.within, length-drop 20 c.args.bytes.items)) (omega (arith, len, c.requires.small_body)) c.requires.numbered (omega (arith, c.ranges.ver.fits)) fits c.headed.ensures.header)

pub returns-clause-parts : goal.returns-clause-parts
returns-clause-parts c =
    let len : length c.args.bytes.items ≡ length c.as_slice.result.now = ap length (sym c.as_slice.ensures.value) in
    let fits : IsBytes (drop 20 c.args.bytes.items) = IsBytes-drop 20 c.args.bytes.items (λ i. c.headed.ensures.bytes i) in
    c.from_stored.ensures ∙
    Written-record c.headed.result (drop 20 c.args.bytes.items) c.args.key_len c.args.seq c.args.ver
    (written c.headed.result (drop 20 c.args.bytes.items) c.args.key_len (length c.as_slice.result.now - 20 - c.args.key_len) c.args.seq c.args.ver c.requires.long_enough c.requires.short_enough (omega (arith, len, c.requires.within, length-drop 20 c.args.bytes.items)) (omega (arith, len, c.requires.small_body)) c.requires.numbered (omega (arith, c.ranges.ver.fits)) fits c.headed.ensures.header)
