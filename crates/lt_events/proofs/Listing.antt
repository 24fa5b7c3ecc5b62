-- What holds of a flush, whatever becomes of its publishing.
use Rattle.std.proofs.Common.{◌≡◌, ◌≢◌, ◌⊎◌, ℕ, ◌+◌, ◌<◌, Bool, true, false, List, [], ◌∷◌, ◌++◌, map, length, Some, Ok, Contains, refl, sym, ◌∙◌, ap, subst, inl, inr, ⊎_elim, arith, eqb-true, eq-eqb}
use Rattle.std.specs.Prelude.{nat_eq, not, ◌||◌}
use Rattle.lt_io.specs.Directory.{Contents}
use Rattle.lt_rec.specs.Closure.{has}
use Rattle.lt_rec.specs.Record.{Record}
use Rattle.lt_rec.specs.declared.listed.Listed.{Listed}
use Rattle.lt_desc.specs.Shape.{StoneShape}
use Rattle.lt_desc.specs.Lawful.{IsStone, lists_file}
use Rattle.lt_desc.specs.Reading.{stone_at}
use Rattle.lt_desc.specs.Spelling.{spelling}
use Rattle.lt_model.specs.History.{kept_entry, History}
use Rattle.lt_model.specs.Readings.{schemas}
use Rattle.lt_trace.specs.Elements.{Noted, Began, Element, entry, held, is_noted, records_noted}
use Rattle.lt_trace.specs.Records.{IsOn, InFile, HasFile}
use Rattle.lt_trace.specs.Opens.{IsWhole, HoldsRows}
use Rattle.lt_trace.specs.Laws.{StoodBefore}
use Rattle.lt_trace.proofs.Lists.{first_in, later_in, kept_was, kept_passes, origin, in_images}
use Rattle.lt_state.specs.State.{Core, Sealed, Ticket, listing, InMemory}
use Rattle.lt_state.specs.Facts.{SixFacts, in_file, in_tablet}
use Rattle.lt_state.specs.Flushes.{IsFlushed, Joins}
use Rattle.lt_state.specs.Stands.{IsLent, Stands}
use Rattle.lt_state.proofs.Flush.{flush_holds}
use Rattle.lt_state.proofs.Jobs.{flush_is_whole}
use Rattle.lt_model.proofs.Verdicts.{Contains-cons_cases}
use Rattle.lt_events.specs.Cores.{without}
use Rattle.lt_events.specs.Flushing.{flushed_stone, Flush, IsNew, IsFlush}
use Rattle.lt_events.proofs.Notes.{recs_with, recs_were, recs_are_noted, noted_of, records_of_note, note_of, or_cases, is_noted-append, records_noted-late, records_noted-early}

-- ---- lists

pub some_stone : (a b : StoneShape) → Some a ≡ Some b → a ≡ b
some_stone a b e = cc

pub record FirstOf (recs : List Record) : Type 0 where
  pub rec : Record
  pub among : Contains recs rec

pub first_of : (recs : List Record) → recs ≢ [] → FirstOf recs
first_of [] some = absurd (some refl)
first_of (rec ∷ recs) some = record { rec = rec; among = first_in rec recs }

-- a file that is listed has its entry
pub record ListedOf (tablets : List Listed) (file : ℕ) : Type 0 where
  pub listed : Listed
  pub among : Contains tablets listed
  pub file_is : listed.file ≡ file

pub listed_of : (tablets : List Listed) (file : ℕ) → lists_file tablets file ≡ true → ListedOf tablets file
listed_of [] file e = cc
listed_of (t ∷ tablets) file e = either (listed_of tablets file) (nat_eq t.file file) refl
  where
    either : (lists_file tablets file ≡ true → ListedOf tablets file) → (b : Bool) → nat_eq t.file file ≡ b → ListedOf (t ∷ tablets) file
    either rest true is = record { listed = t; among = first_in t tablets; file_is = eqb-true t.file file is }
    either rest false is = let later = rest ((λ i. sym is i || lists_file tablets file) ∙ e) in record { listed = later.listed; among = later_in t tablets later.listed later.among; file_is = later.file_is }

pub true_or : (b c : Bool) → b ≡ true → (b || c) ≡ true
true_or b c e = λ i. (e ∙ refl) i || c

or_true : (b c : Bool) → c ≡ true → (b || c) ≡ true
or_true true c e = refl
or_true false c e = e

pub lists_it : (tablets : List Listed) (listed : Listed) → Contains tablets listed → lists_file tablets listed.file ≡ true
lists_it [] listed among = absurd (omega (arith, among.1))
lists_it (t ∷ tablets) listed among = ⊎_elim
    (λ same. true_or (nat_eq t.file listed.file) (lists_file tablets listed.file) (eq-eqb t.file listed.file (ap (λ (x : Listed). x.file) same)))
    (λ later. or_true (nat_eq t.file listed.file) (lists_file tablets listed.file) (lists_it tablets listed later))
    (Contains-cons_cases t tablets listed among)

false_or : (b : Bool) → (b ≡ true → ⊥) → b ≡ false
false_or true never = absurd (never refl)
false_or false never = refl

pub length_elements : (notes : List Noted) (number : ℕ) → length (map held notes ++ entry (kept_entry number) ∷ []) ≡ length notes + 1
length_elements [] number = refl
length_elements (note ∷ notes) number = omega (arith, length_elements notes number)

module _ (told : Bool) (c : Core) (h : History) (notes : List Noted) (began : Began) (since : List Element) (flush : Flush)
    (stands : Stands told c h notes began since) (is : IsFlush told c h flush) where
  abbrev new : StoneShape
  new = flushed_stone c flush.number flush.listed

  abbrev own : StoneShape
  own = stands.own.0

  abbrev old_recs : ℕ → List Record
  old_recs = stands.safe.recs

  abbrev recs : ℕ → List Record
  recs = recs_with flush.news old_recs

  abbrev files : Contents
  files = c.anchor.directory.now.files

  -- ---- notes

  pub fresh_file : (note : Noted) → Contains flush.news note → IsLent c notes note.file
  fresh_file note among = stands.tickets.lent flush.ticket note.file is.out (is.lent note among)

  not_new : (file : ℕ) → is_noted notes file ≡ true → is_noted flush.news file ≡ false
  not_new file noted = false_or (is_noted flush.news file) (λ e.
      let n = note_of flush.news file e in
      let clash : true ≡ false = sym noted ∙ ap (is_noted notes) (sym n.file_is) ∙ (fresh_file n.note n.among).unnoted in
      cc)

  pub same_old : (file : ℕ) → is_noted notes file ≡ true → recs file ≡ old_recs file
  same_old file noted = recs_were flush.news old_recs file (not_new file noted)

  -- a file that a possible stone lists is no new one
  pub same_possible : (stone : StoneShape) (listed : Listed) → Contains c.anchor.may (Some stone) → Contains stone.tablets listed → recs listed.file ≡ old_recs listed.file
  same_possible stone listed possible among = recs_were flush.news old_recs listed.file (false_or (is_noted flush.news listed.file) (λ e.
      let n = note_of flush.news listed.file e in
      (fresh_file n.note n.among).unnamed (record { stone = stone; possible = possible; listed = ap (lists_file stone.tablets) n.file_is ∙ lists_it stone.tablets listed among })))

  pub listed_noted : (listed : Listed) → Contains (listing c) listed → is_noted notes listed.file ≡ true
  listed_noted listed among =
      let o = origin (λ (t : Sealed). t.listed) c.listed listed among in
      subst (λ (l : Listed). is_noted notes l.file ≡ true) o.same (stands.listed o.from o.among)

  pub new_recs : (t : Sealed) → IsNew told c flush t → recs t.listed.file ≡ t.recs
  new_recs t n = records_of_note flush.news old_recs (record { file = t.listed.file; recs = t.recs }) is.once n.noted

  pub all_noted : (t : Sealed) → Contains flush.listed t → is_noted (notes ++ flush.news) t.listed.file ≡ true
  all_noted t among = is_noted-append notes flush.news t.listed.file ∙ ⊎_elim
      (λ was. true_or (is_noted notes t.listed.file) (is_noted flush.news t.listed.file) (stands.listed t was))
      (λ n. or_true (is_noted notes t.listed.file) (is_noted flush.news t.listed.file) (noted_of flush.news (record { file = t.listed.file; recs = t.recs }) n.noted))
      (is.each t among)

  noted_cases : (file : ℕ) → is_noted (notes ++ flush.news) file ≡ true → (is_noted notes file ≡ true) ⊎ (is_noted flush.news file ≡ true)
  noted_cases file e = or_cases (is_noted notes file) (is_noted flush.news file) (sym (is_noted-append notes flush.news file) ∙ e)

  pub noted_below : (file : ℕ) → is_noted (notes ++ flush.news) file ≡ true → file < c.next_file
  noted_below file e = ⊎_elim
      (λ was. stands.files.noted file was)
      (λ late. let n = note_of flush.news file late in omega (arith, (fresh_file n.note n.among).below, stands.files.ceiling, n.file_is))
      (noted_cases file e)

  pub names_noted : (file : ℕ) → lists_file new.tablets file ≡ true → is_noted (notes ++ flush.news) file ≡ true
  names_noted file named =
      let l = listed_of new.tablets file named in
      let o = origin (λ (t : Sealed). t.listed) flush.listed l.listed l.among in
      ap (is_noted (notes ++ flush.news)) (sym l.file_is ∙ ap (λ (x : Listed). x.file) (sym o.same)) ∙ all_noted o.from o.among

  pub recs_noted : told ≡ true → (file : ℕ) → is_noted (notes ++ flush.news) file ≡ true → recs file ≡ records_noted (notes ++ flush.news) file
  recs_noted tells file e = ⊎_elim
      (λ was. same_old file was ∙ stands.safe.noted tells file was ∙ sym (records_noted-early notes flush.news file was))
      (λ late.
      let n = note_of flush.news file late in
      let unnoted : is_noted notes file ≡ false = ap (is_noted notes) (sym n.file_is) ∙ (fresh_file n.note n.among).unnoted in
      recs_are_noted flush.news old_recs file late ∙ sym (records_noted-late notes flush.news file unnoted))
      (noted_cases file e)

  -- ---- the new list

  pub each_new : told ≡ true → (listed : Listed) → Contains new.tablets listed → StoodBefore old_recs recs (listing c) listed ⊎ IsFlushed c.memory flush.parts files recs listed
  each_new tells listed among =
      let o = origin (λ (t : Sealed). t.listed) flush.listed listed among in
      subst (λ (l : Listed). StoodBefore old_recs recs (listing c) l ⊎ IsFlushed c.memory flush.parts files recs l) o.same (⊎_elim
      (λ was. let here : Contains (listing c) o.from.listed = in_images (λ (t : Sealed). t.listed) c.listed o.from was in inl (record { listed_before = here; same = same_old o.from.listed.file (listed_noted o.from.listed here) }))
      (λ n. let is_it : recs o.from.listed.file ≡ o.from.recs = new_recs o.from n in inr (record {
        tablet = n.tablet;
        held = n.memory;
        part = n.part;
        records = is_it ∙ n.records tells;
        file = subst (HasFile files o.from.listed) (sym is_it) (n.file tells);
      }))
      (is.each o.from o.among))

  pub old_stays : (listed : Listed) → Contains (listing c) listed → Contains new.tablets listed × (recs listed.file ≡ old_recs listed.file)
  old_stays listed among =
      let o = origin (λ (t : Sealed). t.listed) c.listed listed among in (
        subst (Contains new.tablets) o.same (in_images (λ (t : Sealed). t.listed) flush.listed o.from (is.stays o.from o.among)),
        same_old listed.file (listed_noted listed among),
      )

  pub gone_is_on : told ≡ true → (number : ℕ) (rec : Record) → has flush.parts number ≡ true → InMemory c.memory number rec → IsOn recs new.tablets rec
  gone_is_on tells number rec part inside =
      let n = is.goes inside.tablet inside.held (ap (has flush.parts) inside.number_is ∙ part) in
      record {
        tablet = n.sealed.listed;
        listed = in_images (λ (t : Sealed). t.listed) flush.listed n.sealed n.listed;
        among = subst (λ (rs : List Record). Contains rs rec) (sym (new_recs n.sealed n.new ∙ n.records tells)) inside.among;
      }

  -- the tablet in memory whose file is listed, whichever shows it
  record FileOf (listed : Listed) (number : ℕ) : Type 0 where
    sealed : Sealed
    same : sealed.listed ≡ listed
    fresh : IsNew told c flush sealed
    number_is : fresh.tablet.number ≡ number

  file_of : told ≡ true → (listed : Listed) → Contains new.tablets listed → (a : IsFlushed c.memory flush.parts files recs listed) → FileOf listed a.tablet.number
  file_of tells listed among a =
      let o = origin (λ (t : Sealed). t.listed) flush.listed listed among in
      let f : FirstOf a.tablet.recs = first_of a.tablet.recs (stands.tablets.some a.tablet a.held) in
      let in_a : InMemory c.memory a.tablet.number f.rec = record { tablet = a.tablet; held = a.held; number_is = refl; among = f.among } in
      let in_recs : Contains (recs listed.file) f.rec = subst (λ (rs : List Record). Contains rs f.rec) (sym a.records) f.among in
      ⊎_elim
      (λ was.
      let here : Contains (listing c) listed = subst (Contains (listing c)) o.same (in_images (λ (t : Sealed). t.listed) c.listed o.from was) in
      let stood : InFile old_recs (listing c) listed.file f.rec = record { tablet = listed; listed = here; file_is = refl; among = subst (λ (rs : List Record). Contains rs f.rec) (same_old listed.file (listed_noted listed here)) in_recs } in
      let clash : in_file listed.file ≡ in_tablet a.tablet.number = stands.safe.facts.keys tells (in_file listed.file) (in_tablet a.tablet.number) f.rec f.rec stood in_a refl in
      cc)
      (λ n.
      let same_recs : recs listed.file ≡ n.tablet.recs = ap (λ (l : Listed). recs l.file) (sym o.same) ∙ new_recs o.from n ∙ n.records tells in
      let in_n : InMemory c.memory n.tablet.number f.rec = record { tablet = n.tablet; held = n.memory; number_is = refl; among = subst (λ (rs : List Record). Contains rs f.rec) same_recs in_recs } in
      let e : in_tablet n.tablet.number ≡ in_tablet a.tablet.number = stands.safe.facts.keys tells (in_tablet n.tablet.number) (in_tablet a.tablet.number) f.rec f.rec in_n in_a refl in
      record { sealed = o.from; same = o.same; fresh = n; number_is = cc })
      (is.each o.from o.among)

  pub alone_new : told ≡ true → (one other : Listed) → Contains new.tablets one → Contains new.tablets other → (a : IsFlushed c.memory flush.parts files recs one) (b : IsFlushed c.memory flush.parts files recs other) → a.tablet.number ≡ b.tablet.number → one.file ≡ other.file
  alone_new tells one other in_one in_other a b same =
      let x : FileOf one a.tablet.number = file_of tells one in_one a in
      let y : FileOf other b.tablet.number = file_of tells other in_other b in
      ap (λ (l : Listed). l.file) (sym x.same) ∙ is.alone x.sealed y.sealed x.fresh y.fresh (x.number_is ∙ same ∙ sym y.number_is) ∙ ap (λ (l : Listed). l.file) y.same

  -- ---- the stone

  pub own_schemas : own.schemas ≡ schemas h
  own_schemas = stands.own.2.schemas ∙ stands.reads.schemas_are

  pub whole_own : told ≡ true → IsWhole old_recs files own
  whole_own tells = stands.safe.facts.entered tells own stands.own.1

  each_own : told ≡ true → (listed : Listed) → Contains new.tablets listed → StoodBefore old_recs recs own.tablets listed ⊎ IsFlushed c.memory flush.parts files recs listed
  each_own tells = subst (λ (ts : List Listed). (listed : Listed) → Contains new.tablets listed → StoodBefore old_recs recs ts listed ⊎ IsFlushed c.memory flush.parts files recs listed) (sym stands.own.2.tablets) (each_new tells)

  pub whole_new : IsStone new → stone_at (spelling new) ≡ Ok new → told ≡ true → IsWhole recs files new
  whole_new lawful read tells = flush_is_whole h old_recs recs (listing c) c.memory flush.parts files own new stands.memory (whole_own tells) stands.own.2.tablets own_schemas (stands.safe.facts.keys tells) lawful read stands.reads.schemas_are (each_own tells) (alone_new tells)

  joins : told ≡ true → Joins c.memory flush.parts old_recs own.tablets recs new.tablets
  joins tells = record {
    from = λ rec on. ⊎_elim
        (λ s. inl (record { tablet = on.tablet; listed = s.listed_before; among = subst (λ (rs : List Record). Contains rs rec) s.same on.among }))
        (λ f. inr (record { number = f.tablet.number; part = f.part; held = record { tablet = f.tablet; held = f.held; number_is = refl; among = subst (λ (rs : List Record). Contains rs rec) f.records on.among } }))
        (each_own tells on.tablet on.listed);
    old = λ rec on. let still = old_stays on.tablet (subst (λ (ts : List Listed). Contains ts on.tablet) stands.own.2.tablets on.listed) in record { tablet = on.tablet; listed = still.0; among = subst (λ (rs : List Record). Contains rs rec) (sym still.1) on.among };
    gone = λ rec g. gone_is_on tells g.number rec g.part g.held;
  }

  pub holds_new : told ≡ true → HoldsRows recs h new
  holds_new tells = flush_holds h c.memory flush.parts old_recs recs own new (stands.safe.legal tells) stands.opened stands.memory (stands.own.2.kept ∙ stands.reads.kept_is) own_schemas (stands.safe.facts.rows tells own stands.own.1) is.takes stands.reads.schemas_are (sym stands.own.2.low) (joins tells)

  pub facts_true : told ≡ true → SixFacts true old_recs h c.anchor (listing c) c.memory
  facts_true tells = subst (λ (b : Bool). SixFacts b old_recs h c.anchor (listing c) c.memory) tells stands.safe.facts

  -- ---- the ticket

  abbrev left_out : List Ticket
  left_out = without flush.ticket.number c.tickets

  pub were_out : (t : Ticket) → Contains left_out t → Contains c.tickets t
  were_out = kept_was (λ (t : Ticket). not (nat_eq t.number flush.ticket.number)) c.tickets

  pub not_of_ticket : (t : Ticket) (file : ℕ) → Contains left_out t → Contains t.lent file → is_noted flush.news file ≡ false
  not_of_ticket t file among covers = false_or (is_noted flush.news file) (λ e.
      let n = note_of flush.news file e in
      let same : t ≡ flush.ticket = stands.tickets.apart t flush.ticket file (were_out t among) is.out covers (subst (Contains flush.ticket.lent) n.file_is (is.lent n.note n.among)) in
      let kept_it : not (nat_eq t.number flush.ticket.number) ≡ true = kept_passes (λ (x : Ticket). not (nat_eq x.number flush.ticket.number)) c.tickets t among in
      let dropped : not (nat_eq t.number flush.ticket.number) ≡ false = ap not (eq-eqb t.number flush.ticket.number (ap (λ (x : Ticket). x.number) same)) in
      let clash : true ≡ false = sym kept_it ∙ dropped in
      cc)
