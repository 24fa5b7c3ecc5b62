-- Publishing a stone failed, so that it may be possible or not.
use Rattle.std.proofs.Common.{◌≡◌, ◌⊎◌, ℕ, ◌+◌, ◌^◌, ◌≤◌, ◌<◌, Bool, true, List, [], ◌∷◌, ◌++◌, Option, Some, None, Ok, Contains, refl, sym, ◌∙◌, ap, subst, inl, inr, ⊎_elim, arith}
use Rattle.std.proofs.lemmas.List.Elements.{Contains-push, Contains-push_cases, Contains-append_left}
use Rattle.lt_io.specs.Directory.{Contents, State, Directory, lent, moment}
use Rattle.lt_io.specs.Steps.{Steps, IsPreorder}
use Rattle.lt_io.proofs.Moments.{get_seam}
use Rattle.lt_io.proofs.Chains.{FromOn-now, FromOn-steps}
use Rattle.lt_rec.specs.Record.{Record}
use Rattle.lt_desc.specs.Shape.{StoneShape}
use Rattle.lt_desc.specs.Lawful.{lists_file}
use Rattle.lt_desc.specs.Reading.{stone_at}
use Rattle.lt_desc.specs.Spelling.{spelling}
use Rattle.lt_commit.specs.Anchored.{Anchored, IsAnchored, IsNamed}
use Rattle.lt_commit.specs.Moments.{Replaces}
use Rattle.lt_commit.proofs.Orders.{replacing}
use Rattle.lt_model.specs.History.{History}
use Rattle.lt_model.specs.Readings.{low}
use Rattle.lt_trace.specs.Elements.{Noted, Began, Element, is_noted, records_noted}
use Rattle.lt_trace.specs.Opens.{IsWhole, HoldsRows}
use Rattle.lt_trace.specs.Past.{PastOpens}
use Rattle.lt_state.specs.State.{Core, Sealed, Ticket, listing}
use Rattle.lt_state.specs.Facts.{IsSettled, SixFacts, IsSafe}
use Rattle.lt_state.specs.Stands.{IsLent, Stands}
use Rattle.lt_state.proofs.Past.{publish_keeps_past}
use Rattle.lt_events.specs.Cores.{with_lent}
use Rattle.lt_events.proofs.Lending.{reads_lent, lent_one, told_parts}

-- where a chain begins and where it ends
pub steps_end : (R : State → State → Type 0) → IsPreorder R → (old new : Directory) → Steps R old new → R old.now new.now
steps_end R order old new steps =
    FromOn-steps R (R old.now) (λ before after more so_far. order.further old.now before after so_far more) (moment old) old new (omega arith) steps
    (FromOn-now (R old.now) old (order.itself old.now)) (moment new) new.now steps.later (get_seam new.past [] new.now)

pub some_is : (a b : StoneShape) → Some a ≡ Some b → a ≡ b
some_is a b e = cc

-- What is asked of the stone: that it is backed, by records that are those of the facts, and that no ticket's file is in it.
pub record IsBackedStone (told : Bool) (c : Core) (h : History) (notes : List Noted) (failed : StoneShape) : Type 0 where
  pub recs : ℕ → List Record
  pub noted : told ≡ true → (file : ℕ) → is_noted notes file ≡ true → recs file ≡ records_noted notes file
  pub tablets : told ≡ true → (t : Sealed) → Contains c.listed t → t.recs ≡ recs t.listed.file
  pub facts : SixFacts told recs h c.anchor (listing c) c.memory
  pub whole : stone_at (spelling failed) ≡ Ok failed → told ≡ true → IsWhole recs c.anchor.directory.now.files failed
  pub holds : told ≡ true → HoldsRows recs h failed
  pub settled : IsSettled h failed
  pub low : low h ≤ failed.low
  pub no_lower : c.kept ≤ failed.kept
  pub below : (file : ℕ) → lists_file failed.tablets file ≡ true → file < c.next_file
  pub apart : (ticket : Ticket) (file : ℕ) → Contains c.tickets ticket → Contains ticket.lent file → lists_file failed.tablets file ≡ true → ⊥

module _ (told : Bool) (c : Core) (h : History) (notes : List Noted) (began : Began) (since : List Element) (failed : StoneShape) (after : Anchored)
    (stands : Stands told c h notes began since) (backed : IsBackedStone told c h notes failed) (room : c.next_file < 2 ^ 62)
    (anchored : IsAnchored told c.anchor) (then : IsAnchored told after) (may : (after.may ≡ c.anchor.may) ⊎ (after.may ≡ c.anchor.may ++ Some failed ∷ []))
    (steps : told ≡ true → Steps (Replaces c.next_file (spelling failed)) c.anchor.directory after.directory)
    (either : told ≡ true → (after.directory ≡ lent c.anchor.directory c.next_file) ⊎ (stone_at (spelling failed) ≡ Ok failed))
    (ceiling : after.directory.now.ceiling ≡ c.next_file + 1) (lends : after.directory.lends ≡ c.anchor.directory.lends + 1) where
  joined_cases : (other : Option StoneShape) → after.may ≡ c.anchor.may ++ Some failed ∷ [] → Contains after.may other → Contains c.anchor.may other ⊎ (Some failed ≡ other)
  joined_cases other joined among = Contains-push_cases c.anchor.may (Some failed) other (subst (λ (m : List (Option StoneShape)). Contains m other) joined among)

  -- a stone that is possible now was possible, or is the one that failed, which is read back then
  was_or_failed : (other : StoneShape) → Contains after.may (Some other) → Contains c.anchor.may (Some other) ⊎ ((failed ≡ other) × (stone_at (spelling failed) ≡ Ok failed))
  was_or_failed other among = ⊎_elim
      (λ same. inl (subst (λ (m : List (Option StoneShape)). Contains m (Some other)) same among))
      (λ joined. ⊎_elim
      (λ was. inl was)
      (λ new. let one : failed ≡ other = some_is failed other new in inr (one, then.readable failed (subst (λ (s : StoneShape). Contains after.may (Some s)) (sym one) among)))
      (joined_cases (Some other) joined among))
      may

  stays : (other : StoneShape) → Contains c.anchor.may (Some other) → Contains after.may (Some other)
  stays other was = ⊎_elim
      (λ same. subst (λ (m : List (Option StoneShape)). Contains m (Some other)) (sym same) was)
      (λ joined. subst (λ (m : List (Option StoneShape)). Contains m (Some other)) (sym joined) (Contains-append_left c.anchor.may (Some failed ∷ []) (Some other) was))
      may

  named_cases : (file : ℕ) → IsNamed after.may file → IsNamed c.anchor.may file ⊎ (lists_file failed.tablets file ≡ true)
  named_cases file named = ⊎_elim
      (λ was. inl (record { stone = named.stone; possible = was; listed = named.listed }))
      (λ new. inr (ap (λ (s : StoneShape). lists_file s.tablets file) new.0 ∙ named.listed))
      (was_or_failed named.stone named.possible)

  files_stay : told ≡ true → after.directory.now.files ≡ c.anchor.directory.now.files
  files_stay tells = (steps_end (Replaces c.next_file (spelling failed)) (replacing c.next_file (spelling failed)) c.anchor.directory after.directory (steps tells)).files

  facts_true : told ≡ true → SixFacts true backed.recs h c.anchor (listing c) c.memory
  facts_true tells = subst (λ (b : Bool). SixFacts b backed.recs h c.anchor (listing c) c.memory) tells backed.facts

  past_read : stone_at (spelling failed) ≡ Ok failed → told ≡ true → PastOpens h began.moment after.directory
  past_read read tells = publish_keeps_past h backed.recs backed.recs c.anchor (listing c) c.memory c.next_file began.moment failed after.directory (stands.safe.legal tells)
      (subst (λ (b : Bool). IsAnchored b c.anchor) tells anchored) (facts_true tells) stands.some (stands.safe.past tells) (stands.safe.begun tells) (backed.whole read tells) (backed.holds tells) backed.settled.given
      stands.own.0 stands.own.1 (omega (arith, stands.own.2.kept, backed.no_lower)) (steps tells)

  facts_failed : SixFacts told backed.recs h after (listing c) c.memory
  facts_failed = record {
    entered = λ tells other among. subst (λ (f : Contents). IsWhole backed.recs f other) (sym (files_stay tells)) (⊎_elim
        (λ was. backed.facts.entered tells other was)
        (λ new. subst (IsWhole backed.recs c.anchor.directory.now.files) new.0 (backed.whole new.1 tells))
        (was_or_failed other among));
    rows = λ tells other among. ⊎_elim
        (λ was. backed.facts.rows tells other was)
        (λ new. subst (HoldsRows backed.recs h) new.0 (backed.holds tells))
        (was_or_failed other among);
    settled = λ other among. ⊎_elim
        (λ was. backed.facts.settled other was)
        (λ new. subst (IsSettled h) new.0 backed.settled)
        (was_or_failed other among);
    lows = λ other among. ⊎_elim
        (λ was. backed.facts.lows other was)
        (λ new. omega (arith, backed.low, ap (λ (s : StoneShape). s.low) new.0))
        (was_or_failed other among);
    unsettled = backed.facts.unsettled;
    keys = backed.facts.keys;
  }

  past_failed : told ≡ true → PastOpens h began.moment after.directory
  past_failed tells = ⊎_elim
      (λ same. ⊎_elim
      (λ lent_only. (told_parts told c h notes began (record { directory = after.directory; may = c.anchor.may }) anchored stands.some (λ again. lent_only) refl stands.safe tells).0)
      (λ read. past_read read tells)
      (either tells))
      (λ joined. past_read (then.readable failed (subst (λ (m : List (Option StoneShape)). Contains m (Some failed)) (sym joined) (Contains-push c.anchor.may (Some failed)))) tells)
      may

  safe_failed : IsSafe told (with_lent c after) h notes began
  safe_failed = record {
    recs = backed.recs;
    noted = backed.noted;
    tablets = backed.tablets;
    facts = facts_failed;
    legal = stands.safe.legal;
    begun = λ tells. omega (arith, stands.safe.begun tells, (steps tells).later);
    past = past_failed;
  }

  lent_failed : (ticket : Ticket) (file : ℕ) → Contains c.tickets ticket → Contains ticket.lent file → IsLent (with_lent c after) notes file
  lent_failed ticket file out covers =
      let was : IsLent c notes file = stands.tickets.lent ticket file out covers in
      record { below = omega (arith, was.below, ceiling, stands.files.ceiling); unnoted = was.unnoted; unnamed = λ named. ⊎_elim (λ before. was.unnamed before) (λ new. backed.apart ticket file out covers new) (named_cases file named) }

  none_stays_out : Contains after.may None → ⊥
  none_stays_out among = ⊎_elim
      (λ same. stands.some (subst (λ (m : List (Option StoneShape)). Contains m None) same among))
      (λ joined. ⊎_elim (λ was. stands.some was) (λ new. let e : Some failed ≡ None = new in cc) (joined_cases None joined among))
      may

  pub stands_failed : Stands told (with_lent c after) h notes began since
  stands_failed = record {
    reads = reads_lent c h after stands.reads;
    opened = stands.opened;
    follows = stands.follows;
    memory = stands.memory;
    tablets = stands.tablets;
    dependencies = stands.dependencies;
    own = (stands.own.0, stays stands.own.0 stands.own.1, record { kept = stands.own.2.kept; low = stands.own.2.low; ttl = stands.own.2.ttl; schemas = stands.own.2.schemas; tablets = stands.own.2.tablets });
    some = none_stays_out;
    listed = stands.listed;
    once = stands.once;
    lent = lent_one told c began since after ceiling lends stands.lent;
    files = record {
      ceiling = omega (arith, ceiling);
      noted = λ file is. omega (arith, stands.files.noted file is);
      named = λ file named. ⊎_elim (λ was. omega (arith, stands.files.named file was)) (λ new. omega (arith, backed.below file new)) (named_cases file named);
      frees = stands.files.frees;
      freed = omega (arith, stands.files.freed);
      most = omega (arith, room);
    };
    tickets = record {
      rising = stands.tickets.rising;
      below = stands.tickets.below;
      once = stands.tickets.once;
      lent = lent_failed;
      apart = stands.tickets.apart;
      handed = stands.tickets.handed;
    };
    count_is = stands.count_is;
    safe = safe_failed;
  }
