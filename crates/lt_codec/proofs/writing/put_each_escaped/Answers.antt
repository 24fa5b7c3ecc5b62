use Rattle.std.proofs.Common.{◌++◌, ◌+◌, ℕ, List, drop, ap, sym, ◌∙◌}
use Rattle.lt_codec.specs.Spelling.{escaped}
use Rattle.lt_codec.proofs.Lengths.{escaped_more, escaped_end}
use Rattle.lt_codec.proofs.writing.put_each_escaped.Goals as goal

pub loop-byte-preserved : goal.loop-byte-preserved
loop-byte-preserved c =
    let i = c.loop-byte.byte-index in
    let bytes = c.args.bytes.now in
    ap (λ (out : List ℕ). out ++ escaped (drop (i + 1) bytes)) c.in_ok-put_byte.ensures ∙ escaped_more c.loop-byte.out.items bytes i c.loop-byte-test.true ∙ c.loop-byte.invariant

pub returns : goal.returns
returns c =
    let i = c.loop-byte.byte-index in
    let bytes = c.args.bytes.now in
    c.in_ok-extend_from_slice.ensures.items ∙ ap (λ (r : List ℕ). c.loop-byte.out.items ++ r) (sym (escaped_end bytes i c.loop-byte-test.false)) ∙ c.loop-byte.invariant
