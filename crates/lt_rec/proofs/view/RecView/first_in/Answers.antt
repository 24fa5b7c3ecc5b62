use Rattle.std.proofs.Common.{◌≡◌, ◌+◌, List, ◌++◌, ℕ, length, take, drop, sym, ap, subst, ◌∙◌, arith}
use Rattle.std.specs.Int.{w32, from_be_bytes}
use Rattle.lt_rec.specs.Record.{Record, IsStored, spelled, stored_record}
use Rattle.lt_rec.proofs.Stored.{first_len, first_is, stored_again, stored_is}
use Rattle.lt_rec.proofs.view.RecView.first_in.Goals as goal

pub new-requires : goal.new-requires
new-requires c =
    let b = c.requires in
    let second : c.u32_in-2.result ≡ from_be_bytes w32 (take 4 (drop 4 c.args.bytes.now)) = c.u32_in-2.ensures ∙ ap (λ (t : List ℕ). from_be_bytes w32 (take 4 t)) c.split_at.ensures.back in
    let len : 20 + c.u32_in.result + c.u32_in-2.result ≡ length (spelled b.rec) = (λ i. 20 + c.u32_in.ensures i + second i) ∙ first_len b.rec b.rest c.args.bytes.now b.lawful b.is in
    let front : c.split_at-2.result.0.now ≡ spelled b.rec = c.split_at-2.ensures.front ∙ first_is b.rec b.rest c.args.bytes.now (20 + c.u32_in.result + c.u32_in-2.result) b.is len in
    subst IsStored (sym front) (stored_again b.rec b.lawful)

pub returns : goal.returns
returns c = record {
  exact = λ r rest lawful is.
      let second : c.u32_in-2.result ≡ from_be_bytes w32 (take 4 (drop 4 c.args.bytes.now)) = c.u32_in-2.ensures ∙ ap (λ (t : List ℕ). from_be_bytes w32 (take 4 t)) c.split_at.ensures.back in
      let len : 20 + c.u32_in.result + c.u32_in-2.result ≡ length (spelled r) = (λ i. 20 + c.u32_in.ensures i + second i) ∙ first_len r rest c.args.bytes.now lawful is in
      let front : c.split_at-2.result.0.now ≡ spelled r = c.split_at-2.ensures.front ∙ first_is r rest c.args.bytes.now (20 + c.u32_in.result + c.u32_in-2.result) is len in
      c.new.ensures ∙ (ap stored_record front ∙ stored_is r lawful);
}
