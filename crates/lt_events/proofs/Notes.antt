-- Notes of files, and the records that they give.
use Rattle.std.proofs.Common.{◌≡◌, ◌⊎◌, ℕ, ◌+◌, Bool, true, false, List, [], ◌∷◌, ◌++◌, map, length, Contains, refl, sym, ◌∙◌, ap, inl, inr, ⊎_elim, arith, eqb-true, eq-eqb}
use Rattle.std.specs.Prelude.{nat_eq, if◌then◌else◌, ◌||◌}
use Rattle.lt_rec.specs.Record.{Record}
use Rattle.lt_model.specs.History.{Entry, kept_entry}
use Rattle.lt_model.proofs.Verdicts.{Contains-cons_cases}
use Rattle.lt_trace.specs.Elements.{Noted, Element, entry, held, entries_in, noted_in, records_noted, is_noted}
use Rattle.lt_trace.proofs.Lists.{first_in, later_in}
use Rattle.lt_state.specs.Stands.{AreNotedOnce, files_used, frees_in}

-- the records of the noted files, and of the others what they were
abbrev pub recs_with : List Noted → (ℕ → List Record) → ℕ → List Record
recs_with [] recs file = recs file
recs_with (note ∷ notes) recs file = if nat_eq note.file file then note.recs else recs_with notes recs file

not_noted : (b c : Bool) → (b || c) ≡ false → (b ≡ false) × (c ≡ false)
not_noted false false e = (refl, refl)
not_noted false true e = cc
not_noted true c e = cc

else_is : (b : Bool) (a c : List Record) → b ≡ false → (if b then a else c) ≡ c
else_is false a c e = refl
else_is true a c e = cc

then_is : (b : Bool) (a c : List Record) → b ≡ true → (if b then a else c) ≡ a
then_is true a c e = refl
then_is false a c e = cc

pub recs_were : (notes : List Noted) (recs : ℕ → List Record) (file : ℕ) → is_noted notes file ≡ false → recs_with notes recs file ≡ recs file
recs_were [] recs file e = refl
recs_were (note ∷ notes) recs file e =
    let both = not_noted (nat_eq note.file file) (is_noted notes file) e in
    else_is (nat_eq note.file file) note.recs (recs_with notes recs file) both.0 ∙ recs_were notes recs file both.1

-- a noted file has the records that are noted of it
pub recs_are_noted : (notes : List Noted) (recs : ℕ → List Record) (file : ℕ) → is_noted notes file ≡ true → recs_with notes recs file ≡ records_noted notes file
recs_are_noted [] recs file e = cc
recs_are_noted (note ∷ notes) recs file e = either (recs_are_noted notes recs file) (nat_eq note.file file) refl
  where
    either : (is_noted notes file ≡ true → recs_with notes recs file ≡ records_noted notes file) → (b : Bool) → nat_eq note.file file ≡ b → (if nat_eq note.file file then note.recs else recs_with notes recs file) ≡ (if nat_eq note.file file then note.recs else records_noted notes file)
    either rest true is = then_is (nat_eq note.file file) note.recs (recs_with notes recs file) is ∙ sym (then_is (nat_eq note.file file) note.recs (records_noted notes file) is)
    either rest false is =
        let later : is_noted notes file ≡ true = (λ i. sym is i || is_noted notes file) ∙ e in
        else_is (nat_eq note.file file) note.recs (recs_with notes recs file) is ∙ rest later ∙ sym (else_is (nat_eq note.file file) note.recs (records_noted notes file) is)

or_true : (b : Bool) → (b || true) ≡ true
or_true true = refl
or_true false = refl

pub noted_of : (notes : List Noted) (note : Noted) → Contains notes note → is_noted notes note.file ≡ true
noted_of [] note among = absurd (omega (arith, among.1))
noted_of (first ∷ notes) note among = ⊎_elim
    (λ same. (λ i. eq-eqb first.file note.file (ap (λ (n : Noted). n.file) same) i || is_noted notes note.file))
    (λ later. ap (λ (b : Bool). nat_eq first.file note.file || b) (noted_of notes note later) ∙ or_true (nat_eq first.file note.file))
    (Contains-cons_cases first notes note among)

-- a note that stands once gives its records
pub records_of_note : (notes : List Noted) (recs : ℕ → List Record) (note : Noted) → AreNotedOnce notes → Contains notes note → recs_with notes recs note.file ≡ note.recs
records_of_note [] recs note once among = absurd (omega (arith, among.1))
records_of_note (first ∷ notes) recs note once among = ⊎_elim
    (λ same. then_is (nat_eq first.file note.file) first.recs (recs_with notes recs note.file) (eq-eqb first.file note.file (ap (λ (n : Noted). n.file) same)) ∙ ap (λ (n : Noted). n.recs) same)
    (λ later. either later (records_of_note notes recs note once.1 later) (nat_eq first.file note.file) refl)
    (Contains-cons_cases first notes note among)
  where
    either : Contains notes note → recs_with notes recs note.file ≡ note.recs → (b : Bool) → nat_eq first.file note.file ≡ b → recs_with (first ∷ notes) recs note.file ≡ note.recs
    either later rest false is = else_is (nat_eq first.file note.file) first.recs (recs_with notes recs note.file) is ∙ rest
    either later rest true is =
        let same : first.file ≡ note.file = eqb-true first.file note.file is in
        let there : is_noted notes first.file ≡ true = ap (is_noted notes) same ∙ noted_of notes note later in
        let clash : true ≡ false = sym there ∙ once.0 in
        cc

-- a noted file has a note
pub record NoteOf (notes : List Noted) (file : ℕ) : Type 0 where
  pub note : Noted
  pub among : Contains notes note
  pub file_is : note.file ≡ file

pub note_of : (notes : List Noted) (file : ℕ) → is_noted notes file ≡ true → NoteOf notes file
note_of [] file e = cc
note_of (note ∷ notes) file e = either (note_of notes file) (nat_eq note.file file) refl
  where
    either : (is_noted notes file ≡ true → NoteOf notes file) → (b : Bool) → nat_eq note.file file ≡ b → NoteOf (note ∷ notes) file
    either rest true is = record { note = note; among = first_in note notes; file_is = eqb-true note.file file is }
    either rest false is = let later = rest ((λ i. sym is i || is_noted notes file) ∙ e) in record { note = later.note; among = later_in note notes later.note later.among; file_is = later.file_is }

pub or_cases : (b c : Bool) → (b || c) ≡ true → (b ≡ true) ⊎ (c ≡ true)
or_cases true c e = inl refl
or_cases false c e = inr e

pub is_noted-append : (notes more : List Noted) (file : ℕ) → is_noted (notes ++ more) file ≡ (is_noted notes file || is_noted more file)
is_noted-append [] more file = refl
is_noted-append (note ∷ notes) more file = ap (λ (b : Bool). nat_eq note.file file || b) (is_noted-append notes more file) ∙ or_joined (nat_eq note.file file) (is_noted notes file) (is_noted more file)
  where
    or_joined : (a b c : Bool) → (a || (b || c)) ≡ ((a || b) || c)
    or_joined true b c = refl
    or_joined false b c = refl

-- records that are noted later are those of the second list
pub records_noted-late : (notes more : List Noted) (file : ℕ) → is_noted notes file ≡ false → records_noted (notes ++ more) file ≡ records_noted more file
records_noted-late [] more file e = refl
records_noted-late (note ∷ notes) more file e =
    let both = not_noted (nat_eq note.file file) (is_noted notes file) e in
    else_is (nat_eq note.file file) note.recs (records_noted (notes ++ more) file) both.0 ∙ records_noted-late notes more file both.1

pub records_noted-early : (notes more : List Noted) (file : ℕ) → is_noted notes file ≡ true → records_noted (notes ++ more) file ≡ records_noted notes file
records_noted-early [] more file e = cc
records_noted-early (note ∷ notes) more file e = either (records_noted-early notes more file) (nat_eq note.file file) refl
  where
    either : (is_noted notes file ≡ true → records_noted (notes ++ more) file ≡ records_noted notes file) → (b : Bool) → nat_eq note.file file ≡ b → (if nat_eq note.file file then note.recs else records_noted (notes ++ more) file) ≡ (if nat_eq note.file file then note.recs else records_noted notes file)
    either rest true is = then_is (nat_eq note.file file) note.recs (records_noted (notes ++ more) file) is ∙ sym (then_is (nat_eq note.file file) note.recs (records_noted notes file) is)
    either rest false is =
        let later : is_noted notes file ≡ true = (λ i. sym is i || is_noted notes file) ∙ e in
        else_is (nat_eq note.file file) note.recs (records_noted (notes ++ more) file) is ∙ rest later ∙ sym (else_is (nat_eq note.file file) note.recs (records_noted notes file) is)

pub turned : (a b : ℕ) → nat_eq b a ≡ false → nat_eq a b ≡ false
turned a b e = grind arith

pub once_joined : (notes more : List Noted) → AreNotedOnce notes → AreNotedOnce more → ((note : Noted) → Contains more note → is_noted notes note.file ≡ false) → AreNotedOnce (notes ++ more)
once_joined [] more once also apart = also
once_joined (note ∷ notes) more once also apart = (
  is_noted-append notes more note.file ∙ ap (λ (b : Bool). b || is_noted more note.file) once.0 ∙ never more (λ other among. (not_noted (nat_eq note.file other.file) (is_noted notes other.file) (apart other among)).0),
  once_joined notes more once.1 also (λ other among. (not_noted (nat_eq note.file other.file) (is_noted notes other.file) (apart other among)).1),
)
  where
    never : (rest : List Noted) → ((other : Noted) → Contains rest other → nat_eq note.file other.file ≡ false) → is_noted rest note.file ≡ false
    never [] each = refl
    never (first ∷ rest) each =
        ap (λ (b : Bool). b || is_noted rest note.file) (turned first.file note.file (each first (first_in first rest)))
        ∙ never rest (λ other among. each other (later_in first rest other among))

-- ---- the elements of a flush

pub entries_in-held : (notes : List Noted) (more : List Element) → entries_in (map held notes ++ more) ≡ entries_in more
entries_in-held [] more = refl
entries_in-held (note ∷ notes) more = entries_in-held notes more

pub noted_in-held : (notes : List Noted) (e : Entry) → noted_in (map held notes ++ entry e ∷ []) ≡ notes
noted_in-held [] e = refl
noted_in-held (note ∷ notes) e = ap (λ (ns : List Noted). note ∷ ns) (noted_in-held notes e)

pub files_used-held : (notes : List Noted) (number : ℕ) → files_used (map held notes ++ entry (kept_entry number) ∷ []) ≡ length notes + 1
files_used-held [] number = refl
files_used-held (note ∷ notes) number = omega (arith, files_used-held notes number)

pub frees_in-held : (notes : List Noted) (e : Entry) → frees_in (map held notes ++ entry e ∷ []) ≡ []
frees_in-held [] e = refl
frees_in-held (note ∷ notes) e = frees_in-held notes e
