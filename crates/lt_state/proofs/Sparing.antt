-- Files go or come that no possible stone names.
use Rattle.std.proofs.Common.{◌≡◌, ℕ, ◌≤◌, true, List, [], Option, Some, None, Contains, refl, ◌∙◌, subst, ⊎_elim, arith}
use Rattle.std.proofs.lemmas.Bool.{cases_lt}
use Rattle.lt_io.specs.Directory.{State, Image, Directory, Fits, moment}
use Rattle.lt_io.specs.Steps.{Steps, FromOn}
use Rattle.lt_io.proofs.Moments.{get_seam}
use Rattle.lt_io.proofs.Chains.{Steps-weaken, FromOn-now, FromOn-steps, InOrderFrom-steps, PossibleAt-steps, possible_each}
use Rattle.lt_rec.specs.Record.{Record}
use Rattle.lt_rec.specs.declared.listed.Listed.{Listed}
use Rattle.lt_desc.specs.Shape.{StoneShape}
use Rattle.lt_desc.specs.Spelling.{spelling}
use Rattle.lt_commit.specs.Anchored.{Anchored, IsAnchored}
use Rattle.lt_model.specs.History.{History}
use Rattle.lt_model.specs.Legal.{IsLegal}
use Rattle.lt_trace.proofs.Images.{backed_opens}
use Rattle.lt_trace.proofs.Past.{no_lower}
use Rattle.lt_trace.specs.Opens.{IsWhole, OpensAfter}
use Rattle.lt_trace.specs.Past.{NoLower, PastOpens}
use Rattle.lt_state.proofs.Images.{ByStone, by_stone}
use Rattle.lt_state.specs.Facts.{SixFacts}
use Rattle.lt_state.specs.Laws.{Spares, SparingKeepsFacts}
use Rattle.lt_state.specs.State.{Filled}

spared_no_lower : (goes : ℕ → Type 0) (before after : State) → Spares goes before after → NoLower before after
spared_no_lower goes before after step stone possible = record { stone = stone; possible = record { among = subst (λ (may : List (Option (List ℕ))). Contains may (Some (spelling stone))) step.may possible.among; read = possible.read }; no_higher = omega arith }

spares_on : (goes : ℕ → Type 0) (old before after : State) → Spares goes before after → Spares goes old before → Spares goes old after
spares_on goes old before after step so_far = record {
  stands = λ number bytes stays e. step.stands number bytes stays (so_far.stands number bytes stays e);
  may = step.may ∙ so_far.may;
}

spared_whole : (recs : ℕ → List Record) (goes : ℕ → Type 0) (old state : State) (stone : StoneShape) → Spares goes old state → ((listed : Listed) → Contains stone.tablets listed → goes listed.file → ⊥) → IsWhole recs old.files stone → IsWhole recs state.files stone
spared_whole recs goes old state stone spares stays whole = record {
  lawful = whole.lawful;
  read = whole.read;
  files_are = λ listed among. let f = whole.files_are listed among in record { bytes = f.bytes; there = spares.stands listed.file f.bytes (stays listed among) f.there; is = f.is };
  rows_are = whole.rows_are;
  apart = whole.apart;
}

pub sparing : (h : History) (recs : ℕ → List Record) (anchor : Anchored) (tablets : List Listed) (memory : List Filled) (goes : ℕ → Type 0) (begin : ℕ) (new : Directory)
    → IsLegal h → IsAnchored true anchor → SixFacts true recs h anchor tablets memory → (Contains anchor.may None → ⊥) → PastOpens h begin anchor.directory → begin ≤ moment anchor.directory
    → ((stone : StoneShape) (listed : Listed) → Contains anchor.may (Some stone) → Contains stone.tablets listed → goes listed.file → ⊥)
    → Steps (Spares goes) anchor.directory new
    → PastOpens h begin new × SixFacts true recs h (record { directory = new; may = anchor.may }) tablets memory
sparing h recs anchor tablets memory goes begin new legal anchored facts some past within stays steps =
    let old = anchor.directory in
    let R = Spares goes in
    let since : FromOn (moment old) (Spares goes old.now) new =
    FromOn-steps R (Spares goes old.now) (spares_on goes old.now) (moment old) old new (omega arith) steps
    (FromOn-now (Spares goes old.now) old (record { stands = λ number bytes left e. e; may = refl })) in
    let opens_now : (state : State) (image : Image) → Spares goes old.now state → Fits image state → OpensAfter h image =
    λ state image spares fits.
    let by : ByStone anchor.may image.descriptor = by_stone anchor.may state.may image.descriptor some (spares.may ∙ anchored.possible refl) fits.descriptor in
    backed_opens h recs state image by.stone legal (record { whole = spared_whole recs goes old.now state by.stone spares (λ listed among. stays by.stone listed by.among among) (facts.entered refl by.stone by.among); holds = facts.rows refl by.stone by.among; given = (facts.settled by.stone by.among).given }) fits by.is in
    let end : Spares goes old.now new.now = since (moment new) new.now steps.later (get_seam new.past [] new.now) in (
      record {
        opens = λ at image from possible. ⊎_elim
            (λ early. past.opens at image from ((PossibleAt-steps R old new steps at early image).0 possible))
            (λ late. possible_each (Spares goes old.now) (OpensAfter h) opens_now (moment old) new since at image late possible)
            (cases_lt at (moment old));
        sure = InOrderFrom-steps NoLower no_lower begin old new within (Steps-weaken R NoLower (spared_no_lower goes) old new steps) past.sure;
      },
      record {
        entered = λ yes stone possible. spared_whole recs goes old.now new.now stone end (λ listed among. stays stone listed possible among) (facts.entered yes stone possible);
        rows = facts.rows;
        settled = facts.settled;
        lows = facts.lows;
        unsettled = facts.unsettled;
        keys = facts.keys;
      },
    )

pub sparing_keeps_facts : SparingKeepsFacts
sparing_keeps_facts h recs anchor tablets memory goes begin new = sparing h recs anchor tablets memory (λ n. goes n ≡ true) begin new
