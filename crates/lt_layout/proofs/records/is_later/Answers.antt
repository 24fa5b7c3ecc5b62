use Rattle.std.proofs.Common.{ap, sym, ◌∙◌, ℕ, ltb}
use Rattle.lt_rec.specs.Record.{time_of}
use Rattle.lt_layout.proofs.Moments.{by_time}
use Rattle.lt_layout.proofs.records.is_later.Goals as goal

pub returns : goal.returns
returns c =
    ap (λ (m : ℕ). ltb m c.time_of-2.result) c.time_of.ensures
    ∙ (ap (ltb (time_of c.args.last.now)) c.time_of-2.ensures
    ∙ sym (by_time c.args.last.now c.args.key.now c.requires.last c.requires.key c.requires.long_enough c.requires.len c.requires.stems))
