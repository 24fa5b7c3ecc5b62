use Rattle.lt_bloom.proofs.Places.{set_is}
use Rattle.lt_bloom.proofs.bits.set_bit.Goals as goal

pub returns-clause-set : goal.returns-clause-set
returns-clause-set c = λ p. set_is c.args.bytes.now c.args.at p c.requires
