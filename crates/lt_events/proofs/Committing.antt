-- A flush that was given out at a front of the history takes along what must go, and its files are its tablets.
use Rattle.std.proofs.Common.{◌≡◌, ℕ, suc, ◌^◌, ◌≤◌, ◌<◌, Bool, true, false, List, [], ◌∷◌, ◌++◌, map, take, drop, Ok, Contains, refl, sym, ◌∙◌, ap, subst, ⊎_elim, arith, eq-eqb}
use Rattle.std.specs.Prelude.{IsTrue, nat_eq, ◌||◌}
use Rattle.std.specs.List.{All, AllPairs}
use Rattle.std.proofs.lemmas.List.{take-append-drop}
use Rattle.std.proofs.lemmas.List.Elements.{Contains-append_left}
use Rattle.std.proofs.lemmas.List.Kept.{AllPairs-from_increasing}
use Rattle.lt_rec.specs.Bytes.{is_less}
use Rattle.lt_rec.specs.Closure.{has}
use Rattle.lt_rec.specs.Record.{Record}
use Rattle.lt_schema.specs.declared.value.Value.{Value}
use Rattle.lt_schema.specs.Shapes.{SchemaShape}
use Rattle.lt_schema.specs.Lawful.{is_schema}
use Rattle.lt_schema.specs.Versions.{SchemaVersions, schema_at, is_versions}
use Rattle.lt_schema.proofs.Growing.{is_schema-at}
use Rattle.lt_codec.specs.Spelling.{body_bytes}
use Rattle.lt_codec.specs.Reading.{row_at}
use Rattle.lt_codec.specs.Ordering.{IsSpelling}
use Rattle.lt_model.specs.History.{Opening, Entry, Numbered, History, front}
use Rattle.lt_model.specs.Readings.{kept, next, schemas}
use Rattle.lt_model.specs.Legal.{EachFollows}
use Rattle.lt_model.proofs.Verdicts.{Contains-cons_cases}
use Rattle.lt_trace.specs.Elements.{Placed, placed_in}
use Rattle.lt_trace.specs.Records.{IsRecordOf, Extends}
use Rattle.lt_trace.proofs.Lists.{first_in, later_in, in_images}
use Rattle.lt_trace.proofs.Opening.{less_trans, not_less_itself}
use Rattle.lt_trace.proofs.Rows.{placed_in-append, rows_below_next}
use Rattle.lt_trace.proofs.Same.{row_in_is, still_record}
use Rattle.lt_state.specs.State.{Filled}
use Rattle.lt_state.specs.Memory.{IsPlaced, IsHeld, IsMemory, AreTablets}
use Rattle.lt_state.specs.Facts.{NoneIsSplit}
use Rattle.lt_state.specs.Flushes.{IsJobAt}
use Rattle.lt_state.specs.Laws.{Follows}
use Rattle.lt_state.proofs.Closed.{placed_note}
use Rattle.lt_state.proofs.Jobs.{was_there, kept_front, job_takes_along}
use Rattle.lt_state.proofs.Others.{grown_schemas}
use Rattle.lt_events.specs.Committing.{Written, tablets_of, HasTop, HasRowsOf, WasGiven, TookNoneSince, GivenTakesAlong, AreInOrder, GivenIsSame}
use Rattle.lt_events.proofs.Listing.{FirstOf, first_of}

-- ---- fronts

follows_front : (o : Opening) (before entries more : List Entry) → EachFollows o before (entries ++ more) → EachFollows o before entries
follows_front o before [] more follows = tt
follows_front o before (first ∷ entries) more follows = (follows.0, follows_front o (before ++ first ∷ []) entries more follows.1)

module _ (h : History) (k : ℕ) where
  cut : take k h.entries ++ drop k h.entries ≡ h.entries
  cut = take-append-drop k h.entries

  front_follows : Follows h → Follows (front k h)
  front_follows follows = follows_front h.opening [] (take k h.entries) (drop k h.entries) (subst (EachFollows h.opening []) (sym cut) follows)

  still_there : (p : Placed) → Contains (placed_in (front k h).entries) p → Contains (placed_in h.entries) p
  still_there p among = subst (λ (es : List Entry). Contains (placed_in es) p) cut
      (subst (λ (ps : List Placed). Contains ps p) (sym (placed_in-append (take k h.entries) (drop k h.entries))) (Contains-append_left (placed_in (take k h.entries)) (placed_in (drop k h.entries)) p among))

  more_schemas : Extends (schemas (front k h)) (schemas h)
  more_schemas = subst (λ (es : List Entry). Extends (schemas (front k h)) (schemas (record { opening = h.opening; entries = es }))) cut (grown_schemas (front k h) (drop k h.entries))

-- a part's tablet is one of the parts'
has_part : (parts : List Written) (part : Written) → Contains parts part → has (tablets_of parts) part.tablet ≡ true
has_part [] part among = absurd (omega (arith, among.1))
has_part (first ∷ parts) part among = ⊎_elim
    (λ same. here (nat_eq first.tablet part.tablet) (has (tablets_of parts) part.tablet) (eq-eqb first.tablet part.tablet (ap (λ (p : Written). p.tablet) same)))
    (λ later. there (nat_eq first.tablet part.tablet) (has (tablets_of parts) part.tablet) (has_part parts part later))
    (Contains-cons_cases first parts part among)
  where
    here : (a b : Bool) → a ≡ true → (a || b) ≡ true
    here true b e = refl
    here false b e = cc

    there : (a b : Bool) → b ≡ true → (a || b) ≡ true
    there true b e = refl
    there false b e = e

none_has : (parts : List Written) (tablet : ℕ) → parts ≡ [] → has (tablets_of parts) tablet ≡ true → ⊥
none_has [] tablet e held = cc
none_has (part ∷ parts) tablet e held = cc

-- ---- what goes along

within_front : (told : Bool) (h : History) (k : ℕ) (parts : List Written) (number tablet : ℕ) → Follows h → WasGiven told (front k h) parts number → has (tablets_of parts) tablet ≡ true → number ≤ next (front k h)
within_front told h k parts number tablet follows given part =
    let top : HasTop (front k h) parts number = ⊎_elim (λ empty. absurd (none_has parts tablet empty.0 part)) (λ top. top) given.number_is in
    omega (arith, top.top, rows_below_next (front k h) (record { tablet = top.placed.tablet; seq = top.placed.numbered.seq }) (front_follows h k follows) (placed_note (front k h).entries top.placed top.taken.among))

pub given_takes_along : GivenTakesAlong
given_takes_along told h memory k parts number follows in_memory tablets within given none left left_held left_part =
    let below : (p : Placed) → Contains (placed_in h.entries) p → kept h ≤ p.numbered.seq → has (tablets_of parts) p.tablet ≡ true → p.numbered.seq < number = λ p among above part.
    let held : IsHeld h memory p = in_memory.all p among above in
    let under = none held.held.tablet held.rec held.held.held (ap (has (tablets_of parts)) held.held.number_is ∙ part) held.held.among in
    omega (arith, under, held.is.number) in
    let first : FirstOf left.recs = first_of left.recs (tablets.some left left_held) in
    let row : IsPlaced h left.number first.rec = in_memory.each left.number first.rec (record { tablet = left; held = left_held; number_is = refl; among = first.among }) in
    let job : IsJobAt (front k h) (tablets_of parts) number = record {
      given = within_front told h k parts number left.number follows given left_part;
      covers = λ p among above under. (given.tablets p.tablet).1 (record { placed = p; taken = record { among = among; unsettled = above; tablet_is = refl }; below = under });
    } in
    job_takes_along h k (tablets_of parts) number follows within job below row.placed row.among row.unsettled (ap (has (tablets_of parts)) row.tablet_is ∙ left_part)

-- ---- rising lists with the same records are one list

abbrev Rises : Record → Record → Type 0
Rises early late = is_less early.key late.key ≡ true

pairs_first : {X : Type 0} (R : X → X → Type 0) (x : X) (xs : List X) → AllPairs R (x ∷ xs) → (y : X) → Contains xs y → R x y
pairs_first R x xs all y among = subst (R x) among.2 (all 0 (suc among.0) y (omega arith) (omega (arith, among.1)))

pairs_rest : {X : Type 0} (R : X → X → Type 0) (x : X) (xs : List X) → AllPairs R (x ∷ xs) → AllPairs R xs
pairs_rest R x xs all i j d before within = all (suc i) (suc j) d (omega (arith, before)) (omega (arith, within))

never_both : (x y : Record) → Rises x y → Rises y x → ⊥
never_both x y up down = not_less_itself x.key (less_trans x.key y.key x.key up down)

firsts : (x y : Record) (xs ys : List Record) → AllPairs Rises (x ∷ xs) → AllPairs Rises (y ∷ ys) → Contains (y ∷ ys) x → Contains (x ∷ xs) y → x ≡ y
firsts x y xs ys rising also x_there y_there = ⊎_elim
    (λ is. sym is)
    (λ late. ⊎_elim
    (λ is. is)
    (λ later. absurd (never_both x y (pairs_first Rises x xs rising y later) (pairs_first Rises y ys also x late)))
    (Contains-cons_cases x xs y y_there))
    (Contains-cons_cases y ys x x_there)

rest_of : (x y : Record) (xs ys : List Record) → AllPairs Rises (x ∷ xs) → x ≡ y → ((z : Record) → Contains (x ∷ xs) z → Contains (y ∷ ys) z) → (z : Record) → Contains xs z → Contains ys z
rest_of x y xs ys rising same over z among = ⊎_elim
    (λ is. absurd (let own : Rises x x = subst (Rises x) (sym is ∙ sym same) (pairs_first Rises x xs rising z among) in never_both x x own own))
    (λ more. more)
    (Contains-cons_cases y ys z (over z (later_in x xs z among)))

one_list : (xs ys : List Record) → AllPairs Rises xs → AllPairs Rises ys → ((z : Record) → Contains xs z → Contains ys z) → ((z : Record) → Contains ys z → Contains xs z) → xs ≡ ys
one_list [] [] rising also over back = refl
one_list [] (y ∷ ys) rising also over back = let none = back y (first_in y ys) in absurd (omega (arith, none.1))
one_list (x ∷ xs) [] rising also over back = let none = over x (first_in x xs) in absurd (omega (arith, none.1))
one_list (x ∷ xs) (y ∷ ys) rising also over back =
    let same : x ≡ y = firsts x y xs ys rising also (over x (first_in x xs)) (back y (first_in y ys)) in
    let rest : xs ≡ ys = one_list xs ys (pairs_rest Rises x xs rising) (pairs_rest Rises y ys also) (rest_of x y xs ys rising same over) (rest_of y x ys xs also (sym same) back) in
    λ i. same i ∷ rest i

-- ---- a row has one record

abbrev pub OneSpelling : Type 0
OneSpelling = (schema : SchemaShape) (key body : List ℕ) (row : List Value) → IsTrue (is_schema schema) → All (λ b. b < 2 ^ 8) key → All (λ b. b < 2 ^ 8) body → row_at schema key body ≡ Ok row → IsSpelling schema key body row

abbrev AreBytes : Record → Type 0
AreBytes rec = All (λ b. b < 2 ^ 8) rec.key × All (λ b. b < 2 ^ 8) rec.body

body_of : OneSpelling → (versions : SchemaVersions) (rec : Record) (numbered : Numbered) → IsTrue (is_versions versions) → AreBytes rec → IsRecordOf versions rec numbered → rec.body ≡ body_bytes (schema_at versions numbered.ver) numbered.row
body_of only versions rec numbered lawful bytes is =
    let here : row_at (schema_at versions rec.ver) rec.key rec.body ≡ Ok numbered.row = sym (row_in_is versions rec (omega (arith, is.version, is.known))) ∙ is.read in
    let there : row_at (schema_at versions numbered.ver) rec.key rec.body ≡ Ok numbered.row = subst (λ (ver : ℕ). row_at (schema_at versions ver) rec.key rec.body ≡ Ok numbered.row) is.version here in
    (only (schema_at versions numbered.ver) rec.key rec.body numbered.row (is_schema-at versions numbered.ver lawful) bytes.0 bytes.1 there).body_is

one_record : OneSpelling → (versions : SchemaVersions) (rec same : Record) (numbered : Numbered) → IsTrue (is_versions versions) → AreBytes rec → AreBytes same → IsRecordOf versions rec numbered → IsRecordOf versions same numbered → rec ≡ same
one_record only versions rec same numbered lawful bytes also is it = λ i. record {
  key = (is.key ∙ sym it.key) i;
  ts = (is.time ∙ sym it.time) i;
  seq = (is.number ∙ sym it.number) i;
  ver = (is.version ∙ sym it.version) i;
  body = (body_of only versions rec numbered lawful bytes is ∙ sym (body_of only versions same numbered lawful also it)) i;
}

-- ---- a file is its tablet

-- of each number there is one tablet
one_tablet : (memory : List Filled) → AllPairs (λ x y. x < y) (map (λ (t : Filled). t.number) memory) → (a b : Filled) → Contains memory a → Contains memory b → a.number ≡ b.number → a ≡ b
one_tablet [] rising a b in_a in_b same = absurd (omega (arith, in_a.1))
one_tablet (first ∷ memory) rising a b in_a in_b same =
    let above : (t : Filled) → Contains memory t → first.number < t.number = λ t among. pairs_first (λ x y. x < y) first.number (map (λ (f : Filled). f.number) memory) rising t.number (in_images (λ (f : Filled). f.number) memory t among) in
    ⊎_elim
    (λ a_first. ⊎_elim
    (λ b_first. sym a_first ∙ b_first)
    (λ b_later. absurd (let up = above b b_later in omega (arith, up, same, ap (λ (f : Filled). f.number) a_first)))
    (Contains-cons_cases first memory b in_b))
    (λ a_later. ⊎_elim
    (λ b_first. absurd (let up = above a a_later in omega (arith, up, same, ap (λ (f : Filled). f.number) b_first)))
    (λ b_later. one_tablet memory (pairs_rest (λ x y. x < y) first.number (map (λ (f : Filled). f.number) memory) rising) a b a_later b_later same)
    (Contains-cons_cases first memory b in_b))
    (Contains-cons_cases first memory a in_a)

module _ (only : OneSpelling) (h : History) (memory : List Filled) (k : ℕ) (parts : List Written) (number : ℕ)
    (follows : Follows h) (lawful : IsTrue (is_versions (schemas h))) (in_memory : IsMemory h memory) (unsplit : NoneIsSplit h) (given : WasGiven true (front k h) parts number) (none : TookNoneSince memory parts number)
    (number_within : number ≤ next (front k h))
    (part : Written) (tablet : Filled) (among : Contains parts part) (held : Contains memory tablet) (same : tablet.number ≡ part.tablet) (tablets : AreTablets memory) (file : AreInOrder part.sealed.recs) (recs : AreInOrder tablet.recs) where
  rows : HasRowsOf (front k h) part
  rows = given.rows refl part among

  goes : has (tablets_of parts) tablet.number ≡ true
  goes = ap (has (tablets_of parts)) same ∙ has_part parts part among

  -- a record in memory is in the file
  into_file : (rec : Record) → Contains tablet.recs rec → Contains part.sealed.recs rec
  into_file rec in_tablet =
      let p : IsPlaced h tablet.number rec = in_memory.each tablet.number rec (record { tablet = tablet; held = held; number_is = refl; among = in_tablet }) in
      let under = none tablet rec held goes in_tablet in
      let below : p.placed.numbered.seq < next (front k h) = omega (arith, under, p.is.number, number_within) in
      let found = rows.all p.placed (record { among = was_there h k p.placed follows below p.among; unsettled = omega (arith, p.unsettled, kept_front h k); tablet_is = p.tablet_is ∙ same }) in
      let is : rec ≡ found.rec = one_record only (schemas h) rec found.rec p.placed.numbered lawful (recs.bytes rec in_tablet) (file.bytes found.rec found.among) p.is (still_record (schemas (front k h)) (schemas h) found.rec p.placed.numbered (more_schemas h k) found.is) in
      subst (Contains part.sealed.recs) (sym is) found.among

  -- a record in the file is in memory
  into_memory : (rec : Record) → Contains part.sealed.recs rec → Contains tablet.recs rec
  into_memory rec in_file =
      let t = rows.each rec in_file in
      let first : FirstOf tablet.recs = first_of tablet.recs (tablets.some tablet held) in
      let q : IsPlaced h tablet.number first.rec = in_memory.each tablet.number first.rec (record { tablet = tablet; held = held; number_is = refl; among = first.among }) in
      let there : Contains (placed_in h.entries) t.placed = still_there h k t.placed t.taken.among in
      let late : kept h ≤ t.placed.numbered.seq = unsplit q.placed t.placed q.among there (q.tablet_is ∙ same ∙ sym t.taken.tablet_is) q.unsettled in
      let m : IsHeld h memory t.placed = in_memory.all t.placed there late in
      let here : m.held.tablet ≡ tablet = one_tablet memory (AllPairs-from_increasing (map (λ (t : Filled). t.number) memory) tablets.rising) m.held.tablet tablet m.held.held held (m.held.number_is ∙ t.taken.tablet_is ∙ sym same) in
      let in_here : Contains tablet.recs m.rec = subst (λ (f : Filled). Contains f.recs m.rec) here m.held.among in
      let is : rec ≡ m.rec = one_record only (schemas h) rec m.rec t.placed.numbered lawful (file.bytes rec in_file) (recs.bytes m.rec in_here) (still_record (schemas (front k h)) (schemas h) rec t.placed.numbered (more_schemas h k) t.is) m.is in
      subst (Contains tablet.recs) (sym is) in_here

  pub same_records : part.sealed.recs ≡ tablet.recs
  same_records = one_list part.sealed.recs tablet.recs file.rising recs.rising into_memory into_file

pub given_is_same : OneSpelling → GivenIsSame
given_is_same only h memory k parts number follows lawful in_memory unsplit within given none part tablet among held same tablets file recs =
    same_records only h memory k parts number follows lawful in_memory unsplit given none
    (within_front true h k parts number part.tablet follows given (has_part parts part among)) part tablet among held same tablets file recs
