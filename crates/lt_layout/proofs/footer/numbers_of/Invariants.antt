use Rattle.std.proofs.Common.{◌≡◌, ◌+◌, ◌*◌, drop}
use Rattle.lt_layout.specs.Reading.{numbers_at}
use Rattle.lt_layout.proofs.footer.numbers_of.Given as goal

abbrev pub invariant-loop-number : goal.invariant-loop-number
invariant-loop-number l =
    (l.place ≡ l.at + 8 * l.number-index) × (numbers_at (drop l.number-index l.wanted) l.place l.rest ≡ numbers_at l.wanted l.at l.bytes)
