use Rattle.std.proofs.Common.{◌≡◌, ◌<◌, length, refl, sym, Contains}
use Rattle.lt_state.specs.State.{Filled, InMemory}
use Rattle.lt_memory.proofs.seek.find_beside.Goals as goal

-- the tablet at hand is one of the list
pub get-requires : goal.get-requires
get-requires c = record {
  timed = λ rec among same. c.requires.timed c.index-tablets-at.result.number rec
      (record { tablet = c.index-tablets-at.result; held = (c.loop-at.at, c.loop-at-test.true, sym c.index-tablets-at.is); number_is = refl; among = among }) same;
}

pub returns-in-Some-clause-found : goal.returns-in-Some-clause-found
returns-in-Some-clause-found c = record {
  number = c.index-tablets-at.result.number;
  held = record { tablet = c.index-tablets-at.result; held = (c.loop-at.at, c.loop-at-test.true, sym c.index-tablets-at.is); number_is = refl; among = c.in-Some.ensures.held };
  key_is = c.in-Some.ensures.found;
}
