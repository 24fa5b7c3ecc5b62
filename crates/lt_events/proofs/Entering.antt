-- Files come and go that no possible stone names.
use Rattle.std.proofs.Common.{◌≡◌, ℕ, Bool, true, List, Option, Some, None, Contains, refl, sym, ◌∙◌, subst, arith}
use Rattle.lt_io.specs.Device.{KeepsLent}
use Rattle.lt_io.specs.Steps.{Steps}
use Rattle.lt_rec.specs.declared.listed.Listed.{Listed}
use Rattle.lt_desc.specs.Shape.{StoneShape}
use Rattle.lt_commit.specs.Anchored.{Anchored, IsAnchored, IsNamed}
use Rattle.lt_model.specs.History.{History}
use Rattle.lt_trace.specs.Elements.{Noted, Began, Element, history_of, notes_of}
use Rattle.lt_trace.specs.Past.{PastOpens}
use Rattle.lt_state.specs.State.{Core, listing}
use Rattle.lt_state.specs.Facts.{SixFacts, IsSafe}
use Rattle.lt_state.specs.Stands.{Reads, LentSince, IsLent, Stands}
use Rattle.lt_state.specs.Laws.{Spares}
use Rattle.lt_state.proofs.Sparing.{sparing}
use Rattle.lt_events.specs.Cores.{with_anchor}
use Rattle.lt_events.specs.Laws.{SpareStands}

module _ (told : Bool) (c : Core) (h : History) (notes : List Noted) (began : Began) (since : List Element) (goes : ℕ → Bool) (after : Anchored)
    (stands : Stands told c h notes began since) (anchored : IsAnchored told c.anchor)
    (spared : (stone : StoneShape) (listed : Listed) → Contains c.anchor.may (Some stone) → Contains stone.tablets listed → goes listed.file ≡ true → ⊥)
    (steps : told ≡ true → Steps (Spares (λ n. goes n ≡ true)) c.anchor.directory after.directory)
    (keeps : KeepsLent c.anchor.directory after.directory) (may : after.may ≡ c.anchor.may) where
  abbrev safe : IsSafe told c h notes began
  safe = stands.safe

  told_parts : told ≡ true → PastOpens h began.moment after.directory × SixFacts true safe.recs h after (listing c) c.memory
  told_parts tells =
      let facts : SixFacts true safe.recs h c.anchor (listing c) c.memory = subst (λ (b : Bool). SixFacts b safe.recs h c.anchor (listing c) c.memory) tells safe.facts in
      let was : IsAnchored true c.anchor = subst (λ (b : Bool). IsAnchored b c.anchor) tells anchored in
      let both = sparing h safe.recs c.anchor (listing c) c.memory (λ n. goes n ≡ true) began.moment after.directory (safe.legal tells) was facts stands.some (safe.past tells) (safe.begun tells) spared (steps tells) in
      let back : record { directory = after.directory; may = c.anchor.may } ≡ after = λ i. record { directory = after.directory; may = sym may i } in
      (both.0, subst (λ (a : Anchored). SixFacts true safe.recs h a (listing c) c.memory) back both.1)

  safe_spared : IsSafe told (with_anchor c after) h notes began
  safe_spared = record {
    recs = safe.recs;
    noted = safe.noted;
    tablets = safe.tablets;
    facts = record {
      entered = λ tells. (told_parts tells).1.entered refl;
      rows = λ tells. (told_parts tells).1.rows refl;
      settled = λ stone possible. safe.facts.settled stone (subst (λ (m : List (Option StoneShape)). Contains m (Some stone)) may possible);
      lows = λ stone possible. safe.facts.lows stone (subst (λ (m : List (Option StoneShape)). Contains m (Some stone)) may possible);
      unsettled = safe.facts.unsettled;
      keys = safe.facts.keys;
    };
    legal = safe.legal;
    begun = λ tells. omega (arith, safe.begun tells, (steps tells).later);
    past = λ tells. (told_parts tells).0;
  }

  named_was : (file : ℕ) → IsNamed after.may file → IsNamed c.anchor.may file
  named_was file named = subst (λ (m : List (Option StoneShape)). IsNamed m file) may named

  lent_still : (file : ℕ) → IsLent c notes file → IsLent (with_anchor c after) notes file
  lent_still file is = record { below = omega (arith, is.below, keeps.ceiling); unnoted = is.unnoted; unnamed = λ named. is.unnamed (named_was file named) }

  pub stands_spared : Stands told (with_anchor c after) h notes began since
  stands_spared =
      let own = stands.own.2 in
      let reads : Reads c h = stands.reads in
      let lent : LentSince told c began since = stands.lent in
      record {
        reads = record { next_is = reads.next_is; low_is = reads.low_is; ttl_is = reads.ttl_is; schemas_are = reads.schemas_are; kept_is = reads.kept_is; next_tablet_is = reads.next_tablet_is };
        opened = stands.opened;
        follows = stands.follows;
        memory = stands.memory;
        tablets = stands.tablets;
        dependencies = stands.dependencies;
        own = (stands.own.0, subst (λ (m : List (Option StoneShape)). Contains m (Some stands.own.0)) (sym may) stands.own.1, record { kept = own.kept; low = own.low; ttl = own.ttl; schemas = own.schemas; tablets = own.tablets });
        some = λ none. stands.some (subst (λ (m : List (Option StoneShape)). Contains m None) may none);
        listed = stands.listed;
        once = stands.once;
        lent = record {
          more = lent.more;
          lends = keeps.lends ∙ lent.lends;
          next_file = lent.next_file;
          none = λ tells none. keeps.ceiling ∙ lent.none tells none;
          some = λ tells some. keeps.ceiling ∙ lent.some tells some;
          used = lent.used;
        };
        files = record {
          ceiling = omega (arith, keeps.ceiling, stands.files.ceiling);
          noted = stands.files.noted;
          named = λ file named. stands.files.named file (named_was file named);
          frees = stands.files.frees;
          freed = stands.files.freed;
          most = stands.files.most;
        };
        tickets = record {
          rising = stands.tickets.rising;
          below = stands.tickets.below;
          once = stands.tickets.once;
          lent = λ ticket file out covers. lent_still file (stands.tickets.lent ticket file out covers);
          apart = stands.tickets.apart;
          handed = stands.tickets.handed;
        };
        count_is = stands.count_is;
        safe = safe_spared;
      }

pub spare_stands : SpareStands
spare_stands told c s goes after stands anchored spared steps keeps may =
    stands_spared told c (history_of s) (notes_of s) s.began s.since goes after stands anchored spared steps keeps may
