use Rattle.std.proofs.Common.{◌≡◌, ℕ, List, ◌++◌, length, drop, refl, ap, ◌∙◌, append_assoc, drop_at}
use Rattle.lt_rec.proofs.Stored.{parts_again}
use Rattle.lt_rec.proofs.rec.Rec.new.Goals as goal

pub returns-clause-parts : goal.returns-clause-parts
returns-clause-parts c =
    let head = c.in_ok-bytes.bytes.items in
    let key = c.args.key.now in
    let body = c.args.body.now in
    let all : c.extend_from_slice-2.new.self.items ≡ head ++ (key ++ body) = c.in_ok-extend_from_slice-2.ensures.items
    ∙ ap (λ (b : List ℕ). b ++ body) c.in_ok-extend_from_slice.ensures.items ∙ append_assoc head key body in
    let rest : drop 20 c.extend_from_slice-2.new.self.items ≡ key ++ body = ap (drop 20) all ∙ drop_at head (key ++ body) 20 c.in_ok-bytes.ensures.header in
    c.from_bytes.ensures.parts ∙ parts_again (drop 20 c.extend_from_slice-2.new.self.items) key body (length key) c.args.seq c.args.ver rest refl
