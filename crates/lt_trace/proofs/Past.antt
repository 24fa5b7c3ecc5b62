-- The past of a directory, while a history grows.
use Rattle.std.proofs.Common.{◌≡◌, ℕ, ◌≤◌, length, refl, sym, ◌∙◌, subst, arith, List, Contains}
use Rattle.std.specs.Prelude.{◌↔◌}
use Rattle.lt_io.specs.Directory.{Image, Directory, PossibleAt}
use Rattle.lt_io.specs.Steps.{IsPreorder}
use Rattle.lt_model.specs.History.{Numbered, Opening, Entry, History, front, extended}
use Rattle.lt_model.specs.Readings.{next}
use Rattle.lt_model.specs.Legal.{IsLegal}
use Rattle.lt_model.specs.Crash.{Durable, durable_rows, IsCrash}
use Rattle.lt_model.proofs.Fronts.{front-extended, front-all, next-extended}
use Rattle.lt_model.proofs.Crashes.{crashes_by_front}
use Rattle.lt_trace.specs.Records.{HasRow}
use Rattle.lt_trace.specs.Opens.{durable_by, OpensAfter}
use Rattle.lt_trace.specs.Past.{IsPossible, HasNoHigher, NoLower}
use Rattle.lt_trace.specs.Laws.{PastOutlives, ReachedStays, RowsOutlive}

-- ---- the least possible number

pub no_lower : IsPreorder NoLower
no_lower = record {
  itself = λ state stone possible. record { stone = stone; possible = possible; no_higher = omega arith };
  further = λ before state after first then stone possible.
      let middle : HasNoHigher state stone.kept = then stone possible in
      let least : HasNoHigher before middle.stone.kept = first middle.stone middle.possible in
      record { stone = least.stone; possible = least.possible; no_higher = omega (arith, least.no_higher, middle.no_higher) };
}

-- an image's stone is possible where the image is
possible_by : (h : History) (directory : Directory) (at : ℕ) (image : Image) (after : OpensAfter h image) (possible : PossibleAt directory at image) → IsPossible possible.state after.stone
possible_by h directory at image after possible = record {
  among = subst (Contains possible.state.may) after.opens.spelled possible.fits.descriptor;
  read = after.opens.whole.read;
}

pub reached_stays : ReachedStays
reached_stays h begin at then number directory state image past from later stood reached possible =
    let after : OpensAfter h image = past.opens then image (omega (arith, from, later)) possible in
    let lower : HasNoHigher state after.stone.kept = past.sure at then state possible.state from later stood possible.stood after.stone (possible_by h directory then image after possible) in
    record { after = after; no_lower = omega (arith, lower.no_higher, reached lower.stone lower.possible) }

-- ---- more entries

pub front_of : (h : History) (more : List Entry) → front (length h.entries) (extended h more) ≡ h
front_of h more = front-extended (length h.entries) h more (omega arith) ∙ front-all h

outlives : (h : History) (more : List Entry) (image : Image) → IsLegal (extended h more) → OpensAfter h image → OpensAfter (extended h more) image
outlives h more image legal after =
    let same = front_of h more in
    record {
      stone = after.stone;
      found = after.found;
      opens = after.opens;
      crash = (crashes_by_front (length h.entries) (extended h more) (durable_by after.stone) after.found legal (subst (λ (g : History). after.stone.kept ≤ next g) (sym same) after.given)).0
          (subst (λ (g : History). IsCrash g (durable_by after.stone) after.found) (sym same) after.crash);
      given = omega (arith, after.given, next-extended h more);
    }

pub past_outlives : PastOutlives
past_outlives h more begin directory legal past = record {
  opens = λ at image from possible. outlives h more image legal (past.opens at image from possible);
  sure = past.sure;
}

durable_stay : (h : History) (more : List Entry) (durable : Durable) → IsLegal (extended h more) → durable.kept ≤ next h → durable_rows h durable ≡ durable_rows (extended h more) durable
durable_stay h more durable legal within =
    let same = front_of h more in
    let found : Opening = record { schemas = durable.schemas; ttl = durable.ttl; low = durable.low; next = durable.kept; kept = durable.kept; rows = durable_rows h durable } in
    let here : IsCrash h durable found = record { schemas = refl; ttl = refl; low = refl; next = refl; kept = refl; rows_left = refl } in
    ((crashes_by_front (length h.entries) (extended h more) durable found legal (subst (λ (g : History). durable.kept ≤ next g) (sym same) within)).0 (subst (λ (g : History). IsCrash g durable found) (sym same) here)).rows_left

pub rows_outlive : RowsOutlive
rows_outlive recs h more stone legal within holds = record {
  first = holds.first;
  exactly = subst (λ (rows : List Numbered). (numbered : Numbered) → Contains rows numbered ↔ HasRow stone.schemas recs stone.tablets stone.low numbered) (durable_stay h more (durable_by stone) legal within) holds.exactly;
}
