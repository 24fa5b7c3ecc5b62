use Rattle.std.proofs.Common.{◌≡◌, ◌++◌, ◌∷◌, [], List, ℕ, ap, sym, ◌∙◌, append_assoc, arith}
use Rattle.lt_codec.proofs.Zeros.{escaped_plain}
use Rattle.lt_codec.proofs.writing.put_escaped.Goals as goal

pub returns-in_ok-extend_from_slice-in-None-2 : goal.returns-in_ok-extend_from_slice-in-None-2
returns-in_ok-extend_from_slice-in-None-2 c =
    let out = c.args.out.now.items in
    let bytes = c.args.bytes.now in
    let plain = escaped_plain bytes (λ k lt. c.in-None.ensures k (omega arith) lt) in
    c.in_ok-extend_from_slice-in-None-2.ensures.items ∙ ap (λ (o : List ℕ). o ++ 0 ∷ 0 ∷ []) c.in_ok-extend_from_slice-in-None.ensures.items
    ∙ append_assoc out bytes (0 ∷ 0 ∷ []) ∙ ap (λ (r : List ℕ). out ++ r) (sym plain)
