-- What stops leave of a table that was loaded.
use Rattle.std.proofs.Common.{◌≡◌, ◌≤◌, ◌+◌, ◌-◌, ℕ, Bool, true, List, [], ◌∷◌, ◌++◌, map, Option, Some, None, Contains, refl, sym, ◌∙◌, ap, subst, inl, ⊎_elim, arith}
use Rattle.std.specs.Prelude.{max, filter, nat_le, nat_lt, ◌&&◌, IsTrue}
use Rattle.std.specs.Option.{is_none}
use Rattle.std.proofs.lemmas.Bool.{and_parts}
use Rattle.lt_io.specs.Directory.{State, Image, Directory, moment}
use Rattle.lt_io.specs.Steps.{Steps}
use Rattle.lt_io.proofs.Moments.{fits_now}
use Rattle.lt_io.proofs.Chains.{FromOn-now, FromOn-steps, possible_each, PossibleAt-steps}
use Rattle.lt_schema.specs.declared.change.Change.{Change}
use Rattle.lt_schema.specs.Shapes.{SchemaShape}
use Rattle.lt_schema.specs.declared.change.AlterError.{AlterError}
use Rattle.lt_schema.specs.Lawful.{is_schema}
use Rattle.lt_schema.specs.Versions.{is_admitted, are_admitted, changed, alter_refusal, has_lawful_name}
use Rattle.lt_command.specs.declared.command.Line.{Line}
use Rattle.lt_command.specs.declared.reply.Reply.{Reply}
use Rattle.lt_desc.specs.Shape.{StoneShape}
use Rattle.lt_desc.specs.Lawful.{IsStone}
use Rattle.lt_desc.specs.Spelling.{spelling}
use Rattle.lt_commit.specs.Anchored.{Anchored, IsAnchored, IsLoaded, spelled}
use Rattle.lt_commit.proofs.Orders.{only_one}
use Rattle.lt_model.specs.History.{Numbered, Opening, History, front}
use Rattle.lt_model.specs.Readings.{next, time_in}
use Rattle.lt_model.specs.Legal.{IsLegal, AreAdmitted}
use Rattle.lt_model.specs.Crash.{Durable, IsCrash, durable_rows}
use Rattle.lt_model.proofs.Lawful.{IsLegal-opening}
use Rattle.lt_model.proofs.Crashes.{crashes_by_front}
use Rattle.lt_plain.specs.Table.{state_of, StandsFor}
use Rattle.lt_serve.specs.Loaded.{durable_by, opening_of}
use Rattle.lt_serve.specs.Loading.{LoadsStone}
use Rattle.lt_serve.specs.Kept.{Frame, frame_of, told_of, HasFrame, TellsOf, AllTell, LendsInTurn}
use Rattle.lt_serve.specs.ByLine.{begun_at}
use Rattle.lt_serve.specs.Growing.{meter, UsesNumbers, TellsSome, Stays, TellsSoFar, HasAnswered}
use Rattle.lt_serve.specs.Stops.{OpensAfter, StopsOpen, NumbersInTurn, Carries}
use Rattle.lt_serve.specs.Made.{LeavesAll}
use Rattle.lt_serve.proofs.Faults.{faults_from}

-- ---- the history that begins with what a stone tells is legal

none_is : (refusal : Option AlterError) → IsTrue (is_none refusal) → refusal ≡ None
none_is None e = refl
none_is (Some why) e = absurd (cc)

admitted : (schema : SchemaShape) (changes : List Change) → IsTrue (are_admitted schema changes) → AreAdmitted schema changes
admitted schema [] all = tt
admitted schema (change ∷ changes) all =
    let both = and_parts (is_admitted schema change) (are_admitted (changed schema change) changes) all in
    let own = and_parts (is_none (alter_refusal schema change)) (has_lawful_name change) both.0 in
    (none_is (alter_refusal schema change) own.0, admitted (changed schema change) changes both.1)

pub legal_at_first : (stone : StoneShape) → IsStone stone → IsLegal (record { opening = opening_of stone; entries = [] })
legal_at_first stone lawful =
    let both = and_parts (is_schema stone.schemas.first) (are_admitted stone.schemas.first stone.schemas.changes) lawful.schemas in
    IsLegal-opening (opening_of stone) (record { schema = both.0; changes = admitted stone.schemas.first stone.schemas.changes both.1; rows_may = tt; rising = tt }) tt

-- ---- an image with a descriptor of the table

no_rows : (h : History) (stone : StoneShape) (durable : Durable) → h.opening ≡ opening_of stone → [] ≡ durable_rows (front 0 h) durable
no_rows h stone durable opened =
    ap (λ (o : Opening). filter (λ (numbered : Numbered). nat_lt numbered.seq durable.kept && nat_le durable.low (time_in h numbered)) (o.rows ++ [])) (sym opened)

crash : (h : History) (stone other : StoneShape) → IsLegal h → h.opening ≡ opening_of stone → other.kept ≡ stone.kept → IsCrash h (durable_by other) (opening_of other)
crash h stone other legal opened same =
    let begins : h.opening.next ≡ stone.kept = ap (λ (o : Opening). o.next) opened in
    (crashes_by_front 0 h (durable_by other) (opening_of other) legal (omega (arith, begins, same))).0
    (record { schemas = refl; ttl = refl; low = refl; next = refl; kept = refl; rows_left = no_rows h stone (durable_by other) opened })

opens_after : (h : History) (stone : StoneShape) (image : Image) → IsLegal h → h.opening ≡ opening_of stone → frame_of (state_of h) ≡ frame_of (opening_of stone) → TellsSome (frame_of (opening_of stone)) image.descriptor → OpensAfter h image
opens_after h stone image legal opened same (told, tells) = record {
  stone = tells.stone;
  found = opening_of tells.stone;
  opens = record { lawful = tells.lawful; spelled = tells.spelled; read = tells.read; bare = tells.bare; found_is = refl };
  crash = crash h stone tells.stone legal opened (omega (arith, tells.frame_is.kept, tells.frame_is.unflushed));
  frame = subst (λ (frame : Frame). HasFrame frame tells.stone) (sym same) tells.frame_is;
}

-- ---- all moments

abbrev AllSome : Frame → State → Type 0
AllSome frame state = (descriptor : Option (List ℕ)) → Contains state.may descriptor → TellsSome frame descriptor

still_tell : (frame : Frame) (before after : State) → Stays frame before after → AllSome frame before → AllSome frame after
still_tell frame before after stays all d is = ⊎_elim (λ was. all d was) (λ new. new) (stays.old_or_new d is)

module _ (honest : Bool) (old middle : Directory) (stone : StoneShape) (first : ℕ) (loads : LoadsStone honest old stone middle first) where
  tells_first : (d : Option (List ℕ)) → Some (spelling stone) ≡ d → TellsOf (frame_of (opening_of stone)) (told_of stone.schemas) d
  tells_first d is = record {
    stone = stone;
    lawful = loads.loaded.lawful;
    read = loads.read;
    spelled = sym is;
    bare = loads.bare;
    frame_is = record { kept = omega arith; unflushed = omega arith; low = refl; ttl = refl };
    versions = inl refl;
  }

  pub all_first : honest ≡ true → AllTell (frame_of (opening_of stone)) (told_of stone.schemas) middle.now
  all_first h d is = tells_first d (only_one (Some (spelling stone)) d (subst (λ may. Contains may d) (loads.only h) is))

  stops_open : (new : Directory) (held : Opening) (lines : List Line) (replies : List Reply) (history : History) → honest ≡ true → history.opening ≡ opening_of stone → IsLegal history → StandsFor held history
      → frame_of held ≡ frame_of (opening_of stone) → Steps (Stays (frame_of (opening_of stone))) middle new → TellsSoFar (frame_of (opening_of stone)) (begun_at (moment middle) stone.schemas) held lines replies new
      → StopsOpen history lines replies old new
  stops_open new held lines replies history h opened legal stands same_frame steps tells =
      let frame = frame_of (opening_of stone) in
      let same : frame_of (state_of history) ≡ frame = ap frame_of stands ∙ same_frame in
      let told : TellsSoFar (frame_of (state_of history)) (begun_at (moment middle) history.opening.schemas) held lines replies new =
      subst (λ (o : Opening). TellsSoFar (frame_of (state_of history)) (begun_at (moment middle) o.schemas) held lines replies new) (sym opened)
      (subst (λ (frame : Frame). TellsSoFar frame (begun_at (moment middle) stone.schemas) held lines replies new) (sym same) tells) in
      record {
        loaded = moment middle;
        no_earlier = (loads.leaves.any_moment h).later;
        by_now = steps.later;
        before = λ at image later early possible. loads.leaves.images h at image later ((PossibleAt-steps (Stays frame) middle new steps at early image).0 possible);
        since = possible_each (AllSome frame) (OpensAfter history)
            (λ state image all fits. opens_after history stone image legal opened same (all image.descriptor fits.descriptor))
            (moment middle) new
            (FromOn-steps (Stays frame) (AllSome frame) (still_tell frame) (moment middle) middle new (omega arith) steps
            (FromOn-now (AllSome frame) middle (λ d is. (told_of stone.schemas, all_first h d is))));
        ends = told.ends;
        by_line = told.by_line;
        at_end = record {
          moment_is = told.moment_is;
          versions = told.versions ∙ ap (λ (o : Opening). o.schemas) (sym stands);
          all_tell = λ image possible. told.all_tell image.descriptor (fits_now new image possible).descriptor;
        };
      }

  numbers_in_turn : (new : Directory) (lines : List Line) (replies : List Reply) (free : ℕ) → LendsInTurn first middle free new → UsesNumbers first lines replies free → new.now.ceiling ≤ free → NumbersInTurn honest stone lines replies old new
  numbers_in_turn new lines replies free turn used ceiling =
      let same = loads.leaves.lent.lends in
      let is : free ≡ first + (new.lends - old.lends) = omega (arith, same, turn.lends, turn.free_is) in
      record {
        first = first;
        first_is = loads.free_is;
        lends = omega (arith, same, turn.lends);
        ceiling = omega (arith, is);
        used = subst (UsesNumbers first lines replies) is used;
      }

  -- lines that were answered over the loaded table
  pub carries : (clock : ℕ → Type 0) (new : Directory) (held : Opening) (lines : List Line) (replies : List Reply) (history : History) (before began now free : ℕ)
      → HasAnswered honest clock (opening_of stone) held (meter began first middle) (meter now free new) lines replies history → new.now.ceiling ≤ free → before ≤ began
      → Carries honest clock stone lines replies history old new before now
  carries clock new held lines replies history before began now free answered ceiling later = record {
    loaded = loads.loaded;
    bare = loads.bare;
    opened = answered.opened;
    so_far = answered.so_far;
    faults = faults_from before _ began now answered.faults later;
    undamaged = answered.undamaged;
    numbers = numbers_in_turn new lines replies free answered.lends answered.numbers ceiling;
    stops = λ h. stops_open new held lines replies history h answered.opened answered.so_far.legal answered.stands answered.frame (answered.any_moment h) (answered.tells h (all_first h));
  }

-- ---- loading

pub loads_stone : (honest : Bool) (old : Directory) (anchor : Anchored) (next : ℕ) (loaded : IsLoaded honest old anchor next) → IsAnchored honest anchor → loaded.stone.tablets ≡ [] → LeavesAll honest old anchor.directory
    → LoadsStone honest old loaded.stone anchor.directory next
loads_stone honest old anchor next loaded anchored bare leaves =
    let stone = loaded.stone in
    record {
      loaded = record { lawful = loaded.lawful; exact = loaded.exact };
      bare = bare;
      read = anchored.readable stone (subst (λ may. Contains may (Some stone)) (sym loaded.may) (0, omega arith, refl));
      only = λ h. anchored.possible h ∙ ap (map spelled) loaded.may;
      leaves = leaves;
      free_is = λ h. loaded.next_is h ∙ ap (λ (ceiling : ℕ). max ceiling stone.next_file) leaves.lent.ceiling;
    }
