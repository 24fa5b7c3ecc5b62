-- What a walk gives is in the order of reading.
use Rattle.std.proofs.Common.{◌≡◌, ℕ, ◌-◌, Bool, true, false, List, if◌then◌else◌, length, take, filter, arith, length-take}
use Rattle.std.specs.List.{AllPairs}
use Rattle.std.proofs.lemmas.List.{length-reverse, get_or-reverse, get_or-take}
use Rattle.std.proofs.lemmas.List.Kept.{AllPairs-filter}
use Rattle.lt_rec.specs.Bytes.{is_less}
use Rattle.lt_rec.specs.Record.{Record}
use Rattle.lt_mem.specs.Rising.{IsRising, IsInOrder, in_order}

pairs_taken : (R : Record → Record → Type 0) (n : ℕ) (xs : List Record) → AllPairs R xs → AllPairs R (take n xs)
pairs_taken R n xs all i j d lt w =
    let size = length-take n xs in
    rw (get_or-take n xs i d (omega arith), get_or-take n xs j d (omega arith)) (all i j d lt (omega arith))

rising_in_order : (down : Bool) (recs : List Record) → IsRising recs → IsInOrder down (in_order down recs)
rising_in_order false recs up = up
rising_in_order true recs up =
    λ i j d lt w.
    let size = length-reverse recs in
    rw (get_or-reverse recs i d (omega arith), get_or-reverse recs j d (omega arith)) (up (length recs - 1 - j) (length recs - 1 - i) d (omega arith) (omega arith))

pub walked_in_order : (p : Record → Bool) (down : Bool) (limit : ℕ) (recs : List Record) → IsRising recs → IsInOrder down (take limit (filter p (in_order down recs)))
walked_in_order p down limit recs rising =
    let R = λ (early late : Record). (if down then is_less late.key early.key else is_less early.key late.key) ≡ true in
    pairs_taken R limit (filter p (in_order down recs)) (AllPairs-filter R p (in_order down recs) (rising_in_order down recs rising))
