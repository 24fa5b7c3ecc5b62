use Rattle.lt_layout.proofs.Within.{reads_within}
use Rattle.lt_layout.proofs.records.first_fault_of.Goals as goal

pub returns-clause-within : goal.returns-clause-within
returns-clause-within c = reads_within (λ x. (x.0, x.1.now)) c.record_of.result c.args.at c.args.last.now c.args.bytes.now c.record_of.ensures.exact
