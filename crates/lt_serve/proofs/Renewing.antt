-- What a change of the schema leaves of the directory.
use Rattle.std.proofs.Common.{◌≡◌, ◌⊎◌, ◌+◌, ℕ, Bool, true, List, [], ◌∷◌, Option, Some, Result, Ok, Err, Contains, OnOk, refl, sym, ◌∙◌, ap, subst, inl, inr, ⊎_elim, arith}
use Rattle.std.proofs.lemmas.List.Elements.{Contains-push, Contains-append_left}
use Rattle.lt_io.specs.Directory.{State, Directory, moment, lent}
use Rattle.lt_io.specs.Steps.{Steps, IsPreorder}
use Rattle.lt_io.proofs.Moments.{get_seam}
use Rattle.lt_io.proofs.Chains.{Steps-none, Steps-lent, Steps-weaken, FromOn-now, FromOn-steps}
use Rattle.lt_schema.specs.declared.change.Change.{Change}
use Rattle.lt_schema.specs.Versions.{SchemaVersions}
use Rattle.lt_command.specs.declared.command.Command.{Command}
use Rattle.lt_command.specs.declared.reply.Reply.{Reply}
use Rattle.lt_command.specs.declared.reply.Reply.TheVariants as reply
use Rattle.lt_commit.specs.declared.errors.CommitError.{CommitError}
use Rattle.lt_commit.specs.declared.errors.CommitError.TheVariants as commit
use Rattle.lt_desc.specs.Shape.{StoneShape}
use Rattle.lt_desc.specs.Lawful.{IsStone}
use Rattle.lt_desc.specs.Reading.{stone_at}
use Rattle.lt_desc.specs.Spelling.{spelling}
use Rattle.lt_commit.specs.Anchored.{Anchored, IsAnchored}
use Rattle.lt_commit.specs.Moments.{Replaces, replaced}
use Rattle.lt_commit.proofs.Orders.{only_one}
use Rattle.lt_model.specs.History.{Opening}
use Rattle.lt_plain.specs.Table.{rest_of}
use Rattle.lt_serve.specs.Kept.{Frame, frame_of, Told, told_of, changed_by, told_by_change, told_by_command, commit_reply, HasVersions, TellsOf, AllTell, Renews, StaysKept, LendsInTurn}

pub renewing : (frame : Frame) (told : Told) → IsPreorder (Renews frame told)
renewing frame told = record {
  itself = λ state. record { files = refl; old_or_new = λ d was. inl was };
  further = λ before state after first then. record {
    files = then.files ∙ first.files;
    old_or_new = λ d is. ⊎_elim (λ was. first.old_or_new d was) (λ new. inr new) (then.old_or_new d is);
  };
}

-- where a chain begins and where it ends
pub steps_end : (R : State → State → Type 0) → IsPreorder R → (old new : Directory) → Steps R old new → R old.now new.now
steps_end R order old new steps =
    FromOn-steps R (R old.now) (λ before after more so_far. order.further old.now before after so_far more) (moment old) old new (omega arith) steps
    (FromOn-now (R old.now) old (order.itself old.now)) (moment new) new.now steps.later (get_seam new.past [] new.now)

-- ---- what commands leave that publish nothing

renews_none : (frame : Frame) (told : Told) (before : State) (number : ℕ) → Renews frame told before (record before { ceiling = number })
renews_none frame told before number = record { files = refl; old_or_new = λ d was. inl was }

pub stays_none : (honest : Bool) (held : Opening) (told : Told) (directory : Directory) → told.versions ≡ held.schemas → StaysKept honest held held told told directory directory
stays_none honest held told directory versions = record {
  frame = refl;
  versions = versions;
  any_moment = λ h. Steps-none (Renews (frame_of held) told) (renewing (frame_of held) told) directory;
  all_tell = λ h tells. tells;
}

pub stays_rest : (honest : Bool) (old new : Opening) (told : Told) (directory : Directory) → rest_of new ≡ rest_of old → told.versions ≡ old.schemas → StaysKept honest old new told told directory directory
stays_rest honest old new told directory rest versions = record {
  frame = ap frame_of rest;
  versions = versions ∙ ap (λ (o : Opening). o.schemas) (sym rest);
  any_moment = λ h. Steps-none (Renews (frame_of old) told) (renewing (frame_of old) told) directory;
  all_tell = λ h tells. tells;
}

-- a number was lent
stays_lent : (honest : Bool) (held : Opening) (told : Told) (old new : Directory) (number : ℕ) → told.versions ≡ held.schemas → (honest ≡ true → new ≡ lent old number) → StaysKept honest held held told told old new
stays_lent honest held told old new number versions only = record {
  frame = refl;
  versions = versions;
  any_moment = λ h. subst (Steps (Renews (frame_of held) told) old) (sym (only h)) (Steps-lent (Renews (frame_of held) told) old number (renews_none (frame_of held) told old.now (number + 1)));
  all_tell = λ h tells. subst (λ (d : Directory). AllTell (frame_of held) told d.now) (sym (only h)) tells;
}

-- ---- the table's stone under other versions is published

module _ (held : Opening) (number : ℕ) (versions : SchemaVersions) (stone : StoneShape)
    (parts : stone ≡ record { kept = held.kept; low = held.low; ttl = held.ttl; next_file = number + 1; schemas = versions; tablets = [] }) (lawful : IsStone stone) where
  kept_is : stone.kept ≡ held.kept
  kept_is = ap (λ (s : StoneShape). s.kept) parts

  tells : (descriptor : Option (List ℕ)) → stone_at (spelling stone) ≡ Ok stone → descriptor ≡ Some (spelling stone) → TellsOf (frame_of held) (told_of versions) descriptor
  tells descriptor read is = record {
    stone = stone;
    lawful = lawful;
    read = read;
    spelled = is;
    bare = ap (λ (s : StoneShape). s.tablets) parts;
    frame_is = record {
      kept = omega (arith, kept_is);
      unflushed = omega (arith, kept_is);
      low = ap (λ (s : StoneShape). s.low) parts;
      ttl = ap (λ (s : StoneShape). s.ttl) parts;
    };
    versions = inl (ap (λ (s : StoneShape). s.schemas) parts);
  }

  pub renewed : (old new : Directory) → (new ≡ lent old number) ⊎ (stone_at (spelling stone) ≡ Ok stone) → Steps (Replaces number (spelling stone)) old new → Steps (Renews (frame_of held) (told_of versions)) old new
  renewed old new readable steps =
      ⊎_elim
      (λ only. subst (Steps (Renews (frame_of held) (told_of versions)) old) (sym only) (Steps-lent (Renews (frame_of held) (told_of versions)) old number (renews_none (frame_of held) (told_of versions) old.now (number + 1))))
      (λ read. Steps-weaken (Replaces number (spelling stone)) (Renews (frame_of held) (told_of versions))
      (λ before after replaces. record { files = replaces.files; old_or_new = λ d is. ⊎_elim (λ was. inl was) (λ now. inr (tells d read now)) (replaces.old_or_new d is) })
      old new steps)
      readable

  tell_now : (new : State) → new.may ≡ Some (spelling stone) ∷ [] → stone_at (spelling stone) ≡ Ok stone → AllTell (frame_of held) (told_of versions) new
  tell_now new only read d is = tells d read (sym (only_one (Some (spelling stone)) d (subst (λ may. Contains may d) only is)))

  first_of_one : Contains (Some stone ∷ []) (Some stone)
  first_of_one = (0, omega arith, refl)

  pub tell_published : {E : Type 0} (honest : Bool) (result : Result (Unit {0}) E) (old : State) (anchor : Anchored) → IsAnchored honest anchor → OnOk result (anchor.may ≡ Some stone ∷ [])
      → OnOk result (anchor.directory.now ≡ replaced old number (spelling stone)) → OnOk result (AllTell (frame_of held) (told_of versions) anchor.directory.now)
  tell_published honest (Ok done) old anchor anchored only now =
      tell_now anchor.directory.now (ap (λ (s : State). s.may) now) (anchored.readable stone (subst (λ may. Contains may (Some stone)) (sym only) first_of_one))
  tell_published honest (Err e) old anchor anchored only now = tt

-- ---- what a change leaves

tells_later : (frame : Frame) (now later : Told) → ((v : SchemaVersions) → HasVersions now v → HasVersions later v) → (d : Option (List ℕ)) → TellsOf frame now d → TellsOf frame later d
tells_later frame now later more d said = record {
  stone = said.stone;
  lawful = said.lawful;
  read = said.read;
  spelled = said.spelled;
  bare = said.bare;
  frame_is = said.frame_is;
  versions = more said.stone.schemas said.versions;
}

renews_later : (frame : Frame) (now later : Told) → ((v : SchemaVersions) → HasVersions now v → HasVersions later v) → (before after : State) → Renews frame now before after → Renews frame later before after
renews_later frame now later more before after renews = record {
  files = renews.files;
  old_or_new = λ d is. ⊎_elim (λ was. inl was) (λ new. inr (tells_later frame now later more d new)) (renews.old_or_new d is);
}

none_faulted : (change : Change) → Contains [] change → ⊥
none_faulted change is = omega (arith, is.1)

-- the change was answered `fault`: its versions may be found
faulted_more : (told : Told) (change : Change) (copy : SchemaVersions) → copy ≡ changed_by told.versions change → (v : SchemaVersions) → HasVersions (told_of copy) v → HasVersions (told_by_change change reply.Fault told) v
faulted_more told change copy same v has =
    ⊎_elim (λ is. inr (change, Contains-push told.faulted change, is ∙ same)) (λ none. absurd (none_faulted none.0 none.1)) has

still_found : (told : Told) (change : Change) (v : SchemaVersions) → HasVersions told v → HasVersions (told_by_change change reply.Fault told) v
still_found told change v has =
    ⊎_elim (λ is. inl is) (λ more. inr (more.0, Contains-append_left told.faulted (change ∷ []) more.0 more.1, more.2)) has

stays_faulted : (honest : Bool) (held : Opening) (told : Told) (change : Change) (copy : SchemaVersions) (old new : Directory) → told.versions ≡ held.schemas → copy ≡ changed_by held.schemas change
    → (honest ≡ true → Steps (Renews (frame_of held) (told_of copy)) old new) → StaysKept honest held held told (told_by_change change reply.Fault told) old new
stays_faulted honest held told change copy old new versions same steps =
    let frame = frame_of held in
    let later = told_by_change change reply.Fault told in
    let found = faulted_more told change copy (same ∙ ap (λ (v : SchemaVersions). changed_by v change) (sym versions)) in
    record {
      frame = refl;
      versions = versions;
      any_moment = λ h. Steps-weaken (Renews frame (told_of copy)) (Renews frame later) (renews_later frame (told_of copy) later found) old new (steps h);
      all_tell = λ h all d is.
          ⊎_elim (λ was. tells_later frame told later (still_found told change) d (all d was)) (λ made. tells_later frame (told_of copy) later found d made)
          ((steps_end (Renews frame (told_of copy)) (renewing frame (told_of copy)) old new (steps h)).old_or_new d is);
    }

-- a change that was not published
pub stays_refused : (honest : Bool) (held : Opening) (told : Told) (change : Change) (copy : SchemaVersions) (refused : CommitError) (old new : Directory) (number : ℕ) → told.versions ≡ held.schemas → copy ≡ changed_by held.schemas change
    → (honest ≡ true → Steps (Renews (frame_of held) (told_of copy)) old new) → (honest ≡ true → refused ≡ commit.NoMemory → new ≡ lent old number) → (refused ≡ commit.Spent → new ≡ old)
    → StaysKept honest held held told (told_by_change change (commit_reply refused) told) old new
stays_refused honest held told change copy commit.Spent old new number versions same steps only none = subst (λ (d : Directory). StaysKept honest held held told told old d) (sym (none refl)) (stays_none honest held told old versions)
stays_refused honest held told change copy commit.Fault old new number versions same steps only none = stays_faulted honest held told change copy old new versions same steps
stays_refused honest held told change copy commit.NoMemory old new number versions same steps only none = stays_lent honest held told old new number versions (λ h. only h refl)

-- and one that was
pub stays_made : (honest : Bool) (held changed : Opening) (told : Told) (change : Change) (copy : SchemaVersions) (old new : Directory) → told.versions ≡ held.schemas → copy ≡ changed_by held.schemas change
    → changed ≡ record held { schemas = copy } → (honest ≡ true → Steps (Renews (frame_of held) (told_of copy)) old new) → (honest ≡ true → AllTell (frame_of held) (told_of copy) new.now)
    → StaysKept honest held changed told (told_of (changed_by told.versions change)) old new
stays_made honest held changed told change copy old new versions same is steps published =
    let made : copy ≡ changed_by told.versions change = same ∙ ap (λ (v : SchemaVersions). changed_by v change) (sym versions) in
    record {
      frame = ap frame_of is;
      versions = sym made ∙ ap (λ (o : Opening). o.schemas) (sym is);
      any_moment = λ h. subst (λ (v : SchemaVersions). Steps (Renews (frame_of held) (told_of v)) old new) made (steps h);
      all_tell = λ h all. subst (λ (v : SchemaVersions). AllTell (frame_of held) (told_of v) new.now) made (published h);
    }

-- the same, by an equal reply
pub stays_as : (honest : Bool) (held new : Opening) (told : Told) (change : Change) (answer other : Reply) (before after : Directory) → answer ≡ other → StaysKept honest held new told (told_by_change change other told) before after
    → StaysKept honest held new told (told_by_change change answer told) before after
stays_as honest held new told change answer other before after same stays = subst (λ (r : Reply). StaysKept honest held new told (told_by_change change r told) before after) (sym same) stays

-- and by an equal command
pub stays_of : (honest : Bool) (held new : Opening) (told : Told) (known command : Command) (answer : Reply) (before after : Directory) → command ≡ known → StaysKept honest held new told (told_by_command known answer told) before after
    → StaysKept honest held new told (told_by_command command answer told) before after
stays_of honest held new told known command answer before after same stays = subst (λ (asked : Command). StaysKept honest held new told (told_by_command asked answer told) before after) (sym same) stays

-- ---- file numbers

pub lends_none : (free : ℕ) (directory : Directory) → LendsInTurn free directory free directory
lends_none free directory = record { lends = omega arith; free_is = omega arith }

pub lends_one : (free next : ℕ) (old new : Directory) → next ≡ free + 1 → new.lends ≡ old.lends + 1 → LendsInTurn free old next new
lends_one free next old new is lends = record { lends = omega arith; free_is = omega arith }

pub lends_join : (free middle next : ℕ) (old between new : Directory) → LendsInTurn free old middle between → LendsInTurn middle between next new → LendsInTurn free old next new
lends_join free middle next old between new first then = record { lends = omega (arith, first.lends, then.lends); free_is = omega (arith, first.lends, first.free_is, then.lends, then.free_is) }
