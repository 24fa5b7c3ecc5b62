use Rattle.std.proofs.Common.{◌≡◌, arith, ap, ◌∙◌, ◌*◌, length}
use Rattle.std.proofs.lemmas.List.{length-replicate}
use Rattle.lt_bloom.specs.Filter.{bytes_for}
use Rattle.lt_bloom.proofs.Filters.{filled}
use Rattle.lt_bloom.proofs.Places.{none_set, all_taken}
use Rattle.lt_bloom.proofs.bits.set_hashes.Goals as goal

pub loop-hash-init : goal.loop-hash-init
loop-hash-init c = (λ i. omega (arith, c.type_inv.bytes i), λ p. none_set c.args.bytes.now (bytes_for (length c.args.hashes.now)) p c.requires.clear)

pub returns-clause-exact : goal.returns-clause-exact
returns-clause-exact c =
    let len : length c.args.bytes.now ≡ bytes_for (length c.args.hashes.now) = ap length c.requires.clear ∙ length-replicate (bytes_for (length c.args.hashes.now)) 0 in
    filled c.loop-hash.bytes c.args.hashes.now c.loop-hash.invariant.0 (omega arith) (λ p. c.loop-hash.invariant.1 p ∙ all_taken c.args.hashes.now c.loop-hash.hash-index c.args.bits.now (8 * bytes_for (length c.args.hashes.now)) (omega arith) (omega arith) p)
