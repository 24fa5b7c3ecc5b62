-- A core that was loaded stands for its opening.
use Rattle.std.proofs.Common.{◌≡◌, ℕ, Bool, true, List, [], ◌∷◌, map, Option, Some, None, Contains, refl, sym, ◌∙◌, ap, subst, arith}
use Rattle.std.specs.Prelude.{◌↔◌}
use Rattle.std.proofs.lemmas.List.{append-nil}
use Rattle.lt_io.specs.Directory.{Image, Fits, moment}
use Rattle.lt_io.proofs.Chains.{FromOn-now, InOrderFrom-now, possible_each}
use Rattle.lt_rec.specs.Record.{Record}
use Rattle.lt_rec.specs.declared.listed.Listed.{Listed}
use Rattle.lt_deps.specs.Kept.{Kept}
use Rattle.lt_desc.specs.Shape.{StoneShape}
use Rattle.lt_desc.specs.Lawful.{lists_file}
use Rattle.lt_commit.specs.Anchored.{Anchored, IsAnchored}
use Rattle.lt_commit.proofs.Orders.{only_one}
use Rattle.lt_model.specs.History.{Numbered, Opening, History}
use Rattle.lt_model.specs.Legal.{IsLegal, MayOpen}
use Rattle.lt_model.proofs.Verdicts.{AllByRecursion-contains}
use Rattle.lt_trace.specs.Elements.{Noted, records_noted}
use Rattle.lt_trace.specs.Records.{HasRow, KeysApart}
use Rattle.lt_trace.specs.Opens.{durable_by, IsWhole, OpensAfter, HoldsRows}
use Rattle.lt_trace.specs.Past.{NoLower, PastOpens}
use Rattle.lt_trace.proofs.Rows.{IsDurableRow, durable_row, is_durable_row}
use Rattle.lt_trace.proofs.Past.{no_lower}
use Rattle.lt_state.specs.State.{Sealed, InMemory}
use Rattle.lt_state.specs.Facts.{SixFacts, in_file, in_tablet, Holds, IsSafe}
use Rattle.lt_state.specs.Stands.{Stands}
use Rattle.lt_state.proofs.Images.{present_opens}
use Rattle.lt_state.proofs.Others.{published_facts}
use Rattle.lt_events.specs.Cores.{loaded_core, loaded_story}
use Rattle.lt_events.specs.Laws.{LoadStands}

nobody_holds : (number : ℕ) (rec : Record) → InMemory [] number rec → ⊥
nobody_holds number rec held = omega (arith, held.held.1)

none_is_not : (stone : StoneShape) → Some stone ≡ None → ⊥
none_is_not stone e = cc

some_is : (a b : StoneShape) → Some a ≡ Some b → a ≡ b
some_is a b e = cc

module _ (told : Bool) (anchor : Anchored) (stone : StoneShape) (found : Opening) (loaded : List Noted) (listed : List Sealed) (dependencies : Kept) (next_file : ℕ)
    (may : anchor.may ≡ Some stone ∷ []) (tablets : map (λ (t : Sealed). t.listed) listed ≡ stone.tablets)
    (schemas : found.schemas ≡ stone.schemas) (low : found.low ≡ stone.low) (next : found.next ≡ stone.kept) (kept : found.kept ≡ stone.kept)
    (legal : told ≡ true → IsLegal (record { opening = found; entries = [] })) (anchored : told ≡ true → IsAnchored true anchor) (whole : told ≡ true → IsWhole (records_noted loaded) anchor.directory.now.files stone)
    (exactly : told ≡ true → (x : Numbered) → Contains found.rows x ↔ HasRow stone.schemas (records_noted loaded) stone.tablets stone.low x)
    (own : told ≡ true → (t : Sealed) → Contains listed t → t.recs ≡ records_noted loaded t.listed.file) where
  abbrev pub h : History
  h = record { opening = found; entries = [] }

  in_rows : told ≡ true → (x : Numbered) → Contains found.rows x → IsDurableRow h (durable_by stone) x
  in_rows tells x among =
      let may_open : MayOpen found x = AllByRecursion-contains (MayOpen found) found.rows x (legal tells).opening.rows_may among in
      record {
        among = subst (λ (xs : List Numbered). Contains xs x) (sym (append-nil found.rows)) among;
        below = omega (arith, may_open.number, next);
        unexpired = omega (arith, may_open.unexpired, low);
      }

  holds : told ≡ true → HoldsRows (records_noted loaded) h stone
  holds tells = record {
    first = ap (λ v. v.first) (sym schemas);
    exactly = λ x. (
      (λ among. (exactly tells x).0 (subst (λ (xs : List Numbered). Contains xs x) (append-nil found.rows) (durable_row h (durable_by stone) x among).among)),
      (λ r. is_durable_row h (durable_by stone) x (in_rows tells x ((exactly tells x).1 r))),
    );
  }

  pub no_none : Contains anchor.may None → ⊥
  no_none among = none_is_not stone (only_one (Some stone) None (subst (λ (m : List (Option StoneShape)). Contains m None) may among))

  keys : told ≡ true → KeysApart (Holds (records_noted loaded) stone.tablets [])
  keys tells (in_file one) (in_file other) rec also a b key = ap in_file ((whole tells).apart one other rec also a b key)
  keys tells (in_file one) (in_tablet other) rec also a b key = absurd (nobody_holds other also b)
  keys tells (in_tablet one) other rec also a b key = absurd (nobody_holds one rec a)

  facts_of : SixFacts told (records_noted loaded) h (record { directory = anchor.directory; may = Some stone ∷ [] }) stone.tablets []
  facts_of = published_facts told h (records_noted loaded) anchor.directory stone [] whole holds (record { no_lower = omega (arith, kept); given = omega (arith, next) }) (omega (arith, low)) (λ one other in_one in_other. absurd (omega (arith, in_one.1))) keys

  facts : SixFacts told (records_noted loaded) h anchor (map (λ (t : Sealed). t.listed) listed) []
  facts = subst (λ (ts : List Listed). SixFacts told (records_noted loaded) h anchor ts []) (sym tablets)
      (subst (λ (a : Anchored). SixFacts told (records_noted loaded) h a stone.tablets []) (let back : record { directory = anchor.directory; may = Some stone ∷ [] } ≡ anchor = λ i. record { directory = anchor.directory; may = sym may i } in back) facts_of)

  past : told ≡ true → PastOpens h (moment anchor.directory) anchor.directory
  past tells =
      let true_facts : SixFacts true (records_noted loaded) h anchor (map (λ (t : Sealed). t.listed) listed) [] = subst (λ (b : Bool). SixFacts b (records_noted loaded) h anchor (map (λ (t : Sealed). t.listed) listed) []) tells facts in
      record {
        opens = possible_each (λ state. (image : Image) → Fits image state → OpensAfter h image) (OpensAfter h) (λ state image opens fits. opens image fits) (moment anchor.directory) anchor.directory
            (FromOn-now (λ state. (image : Image) → Fits image state → OpensAfter h image) anchor.directory
            (λ image fits. present_opens h (records_noted loaded) anchor (map (λ (t : Sealed). t.listed) listed) [] image (legal tells) (anchored tells) true_facts no_none fits));
        sure = InOrderFrom-now NoLower no_lower anchor.directory;
      }

  pub safe_loaded : IsSafe told (loaded_core anchor stone listed dependencies next_file) h loaded (loaded_story anchor found loaded next_file).began
  safe_loaded = record {
    recs = records_noted loaded;
    noted = λ tells file is. refl;
    tablets = own;
    facts = facts;
    legal = legal;
    begun = λ tells. omega arith;
    past = past;
  }

pub load_stands : LoadStands
load_stands told anchor stone found loaded listed dependencies next_file may ceiling most tablets depend schemas ttl low next kept once noted named listed_noted legal anchored whole exactly own =
    let c = loaded_core anchor stone listed dependencies next_file in
    let s = loaded_story anchor found loaded next_file in
    let all : Stands told c (record { opening = found; entries = [] }) loaded s.began [] = record {
      reads = record {
        next_is = omega (arith, next);
        low_is = sym low;
        ttl_is = sym ttl;
        schemas_are = sym schemas ∙ ap (λ cs. record { first = found.schemas.first; changes = cs }) (sym (append-nil found.schemas.changes));
        kept_is = sym kept;
        next_tablet_is = refl;
      };
      opened = kept ∙ sym next;
      follows = tt;
      memory = record { each = λ number rec held. absurd (nobody_holds number rec held); all = λ p among above. absurd (omega (arith, among.1)) };
      tablets = record { rising = λ k within. absurd (omega (arith, within)); some = λ t among. absurd (omega (arith, among.1)); within = λ t rec among. absurd (omega (arith, among.1)) };
      dependencies = depend;
      own = (stone, subst (λ (m : List (Option StoneShape)). Contains m (Some stone)) (sym may) (0, omega arith, refl), record { kept = refl; low = refl; ttl = refl; schemas = refl; tablets = sym tablets });
      some = no_none told anchor stone found loaded listed dependencies next_file may tablets schemas low next kept legal anchored whole exactly own;
      listed = listed_noted;
      once = once;
      lent = record { more = 0; lends = omega arith; next_file = omega arith; none = λ tells none. refl; some = λ tells some. absurd (omega (arith, some)); used = omega arith };
      files = record {
        ceiling = ceiling;
        noted = noted;
        named = λ file is.
            let one : stone ≡ is.stone = some_is stone is.stone (only_one (Some stone) (Some is.stone) (subst (λ (m : List (Option StoneShape)). Contains m (Some is.stone)) may is.possible)) in
            named file (ap (λ (x : StoneShape). lists_file x.tablets file) one ∙ is.listed);
        frees = refl;
        freed = omega arith;
        most = most;
      };
      tickets = record {
        rising = λ k within. absurd (omega (arith, within));
        below = λ t among. absurd (omega (arith, among.1));
        once = λ t among. absurd (omega (arith, among.1));
        lent = λ t file among. absurd (omega (arith, among.1));
        apart = λ a b file in_a. absurd (omega (arith, in_a.1));
        handed = λ t file among. absurd (omega (arith, among.1));
      };
      count_is = refl;
      safe = safe_loaded told anchor stone found loaded listed dependencies next_file may tablets schemas low next kept legal anchored whole exactly own;
    } in
    subst (λ (ns : List Noted). Stands told c (record { opening = found; entries = [] }) ns s.began []) (sym (append-nil loaded)) all
