-- How the fact about the past is kept.
use Rattle.std.proofs.Common.{◌≡◌, ◌⊎◌, ℕ, List, [], ◌∷◌, Option, Some, Ok, Contains, refl, sym, ◌∙◌, ap, subst, inl, inr, ⊎_elim, arith}
use Rattle.std.proofs.lemmas.Bool.{cases_lt}
use Rattle.lt_io.specs.Directory.{Contents, State, Image, Directory, Fits, moment}
use Rattle.lt_io.specs.Steps.{Linked, Steps, FromOn}
use Rattle.lt_io.proofs.Chains.{FromOn-now, FromOn-steps, InOrderFrom-steps, PossibleAt-steps, possible_each}
use Rattle.lt_rec.specs.Record.{Record}
use Rattle.lt_desc.specs.Shape.{StoneShape}
use Rattle.lt_desc.specs.Reading.{stone_at}
use Rattle.lt_desc.specs.Spelling.{spelling}
use Rattle.lt_commit.specs.Anchored.{spelled}
use Rattle.lt_commit.specs.Moments.{Replaces}
use Rattle.lt_trace.proofs.Images.{backed_opens}
use Rattle.lt_trace.proofs.Lists.{in_images}
use Rattle.lt_trace.proofs.Past.{no_lower}
use Rattle.lt_trace.specs.Opens.{IsWhole, OpensAfter}
use Rattle.lt_trace.specs.Past.{HasNoHigher, NoLower}
use Rattle.lt_state.proofs.Images.{ByStone, by_stone}
use Rattle.lt_state.specs.Laws.{PublishKeepsPast}

-- ---- chains

-- a chain by what a relation gives where something holds that it passes on
Linked-with : (R S : State → State → Type 0) (P : State → Type 0) → ((before after : State) → R before after → P before → S before after × P after) → (before : State) (since : List State) → Linked R before since → P before → Linked S before since
Linked-with R S P gives before [] linked holds = tt
Linked-with R S P gives before (state ∷ since) linked holds = let both = gives before state linked.0 holds in (both.0, Linked-with R S P gives state since linked.1 both.1)

pub Steps-with : (R S : State → State → Type 0) (P : State → Type 0) → ((before after : State) → R before after → P before → S before after × P after) → (old new : Directory) → Steps R old new → P old.now → Steps S old new
Steps-with R S P gives old new steps holds = record {
  since = steps.since;
  chain = steps.chain;
  linked = Linked-with R S P gives old.now steps.since steps.linked holds;
  later = steps.later;
}

-- ---- the least possible number

same_stone : (a b : StoneShape) → stone_at (spelling a) ≡ Ok a → stone_at (spelling b) ≡ Ok b → Some (spelling a) ≡ Some (spelling b) → a ≡ b
same_stone a b read_a read_b same =
    let bytes : spelling a ≡ spelling b = cc in
    let ok : Ok a ≡ Ok b = sym read_a ∙ ap stone_at bytes ∙ read_b in
    cc

never_lower : (file : ℕ) (stone : StoneShape) → stone_at (spelling stone) ≡ Ok stone → (before after : State) → Replaces file (spelling stone) before after → HasNoHigher before stone.kept → NoLower before after × HasNoHigher after stone.kept
never_lower file stone read before after step lower = (
  λ other possible. ⊎_elim
      (λ was. record { stone = other; possible = record { among = was; read = possible.read }; no_higher = omega arith })
      (λ new. let same : other ≡ stone = same_stone other stone possible.read read new in record { stone = lower.stone; possible = lower.possible; no_higher = omega (arith, lower.no_higher, ap (λ (s : StoneShape). s.kept) same) })
      (step.old_or_new (Some (spelling other)) possible.among),
  ⊎_elim
      (λ same. record { stone = lower.stone; possible = record { among = subst (λ (may : List (Option (List ℕ))). Contains may (Some (spelling lower.stone))) (sym same) lower.possible.among; read = lower.possible.read }; no_higher = lower.no_higher })
      (λ joined. record { stone = stone; possible = record { among = joined; read = read }; no_higher = omega arith })
      step.joined,
)

-- ---- each moment while a stone is published

-- the files stand, and each possible descriptor was possible at first or is the new one
record Goes (old : State) (bytes : List ℕ) (state : State) : Type 0 where
  files : state.files ≡ old.files
  old_or_new : (d : Option (List ℕ)) → Contains state.may d → Contains old.may d ⊎ (d ≡ Some bytes)

goes_on : (file : ℕ) (old : State) (bytes : List ℕ) (before after : State) → Replaces file bytes before after → Goes old bytes before → Goes old bytes after
goes_on file old bytes before after step goes = record {
  files = step.files ∙ goes.files;
  old_or_new = λ d is. ⊎_elim (λ was. goes.old_or_new d was) (λ new. inr new) (step.old_or_new d is);
}

whole_with : (recs : ℕ → List Record) (files other : Contents) (stone : StoneShape) → other ≡ files → IsWhole recs files stone → IsWhole recs other stone
whole_with recs files other stone same whole = subst (λ (f : Contents). IsWhole recs f stone) (sym same) whole

pub publish_keeps_past : PublishKeepsPast
publish_keeps_past h recs new_recs anchor tablets memory file begin stone new legal anchored facts some past within whole holds given own own_possible own_upto steps =
    let old = anchor.directory in
    let R = Replaces file (spelling stone) in
    let since : FromOn (moment old) (Goes old.now (spelling stone)) new =
    FromOn-steps R (Goes old.now (spelling stone)) (goes_on file old.now (spelling stone)) (moment old) old new (omega arith) steps
    (FromOn-now (Goes old.now (spelling stone)) old (record { files = refl; old_or_new = λ d was. inl was })) in
    let opens_now : (state : State) (image : Image) → Goes old.now (spelling stone) state → Fits image state → OpensAfter h image =
    λ state image goes fits. ⊎_elim
    (λ was. let by : ByStone anchor.may image.descriptor = by_stone anchor.may old.now.may image.descriptor some (anchored.possible refl) was in
    backed_opens h recs state image by.stone legal (record { whole = whole_with recs old.now.files state.files by.stone goes.files (facts.entered refl by.stone by.among); holds = facts.rows refl by.stone by.among; given = (facts.settled by.stone by.among).given }) fits by.is)
    (λ is. backed_opens h new_recs state image stone legal (record { whole = whole_with new_recs old.now.files state.files stone goes.files whole; holds = holds; given = given }) fits is)
    (goes.old_or_new image.descriptor fits.descriptor) in
    record {
      opens = λ at image from possible. ⊎_elim
          (λ early. past.opens at image from ((PossibleAt-steps R old new steps at early image).0 possible))
          (λ late. possible_each (Goes old.now (spelling stone)) (OpensAfter h) opens_now (moment old) new since at image late possible)
          (cases_lt at (moment old));
      sure = InOrderFrom-steps NoLower no_lower begin old new within
          (Steps-with R NoLower (λ state. HasNoHigher state stone.kept) (never_lower file stone whole.read) old new steps (record {
            stone = own;
            possible = record {
              among = subst (λ (may : List (Option (List ℕ))). Contains may (Some (spelling own))) (sym (anchored.possible refl)) (in_images spelled anchor.may (Some own) own_possible);
              read = (facts.entered refl own own_possible).read;
            };
            no_higher = own_upto;
          }))
          past.sure;
    }
