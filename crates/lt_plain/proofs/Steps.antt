-- What a table answers that stands for a history.
use Rattle.std.proofs.Common.{◌≡◌, ◌≢◌, inr, ℕ, ◌+◌, ◌^◌, ◌<◌, ◌≤◌, Bool, IsTrue, List, [], ◌∷◌, Some, None, refl, sym, ◌∙◌, ap, subst, add-zero}
use Rattle.std.specs.Prelude.{All, Contains}
use Rattle.std.proofs.lemmas.List.{append-nil}
use Rattle.lt_schema.specs.declared.value.Value.{Value}
use Rattle.lt_schema.specs.declared.change.Change.{Change}
use Rattle.lt_schema.specs.declared.change.AlterError.{AlterError}
use Rattle.lt_schema.specs.declared.row.RowFault.{RowFault}
use Rattle.lt_schema.specs.Versions.{newest, newest_version, alter_refusal}
use Rattle.lt_schema.specs.Check.{Passes, row_fault, key_of, time_of}
use Rattle.lt_command.specs.declared.query.Query.{Query}
use Rattle.lt_command.specs.declared.bound_fault.BoundFault.{BoundFault}
use Rattle.lt_command.specs.declared.command.Command.{Command}
use Rattle.lt_command.specs.declared.command.Command.TheVariants.{Insert, Scan, Alter}
use Rattle.lt_command.specs.declared.reply.Reply.{Reply}
use Rattle.lt_command.specs.declared.reply.Reply.TheVariants.{Inserted, BadRow, TooOld, Present, Spent, Rows, BadLimit, BadBound, Version, Refused, NoMemory}
use Rattle.lt_model.specs.History.{Numbered, Opening, Entry, row_entry, schema_entry, History, extended}
use Rattle.lt_model.specs.Readings.{rows, next, schemas, since, bound_at, next_tablet}
use Rattle.lt_model.specs.Boxes.{is_limit, query_fault}
use Rattle.lt_model.specs.Legal.{IsLegal}
use Rattle.lt_model.specs.Verdict.{IsTimely, IsVerdict, HasNewKey, accepted}
use Rattle.lt_model.specs.Step.{IsStep}
use Rattle.lt_model.proofs.Fronts.{rows-extended_by_row, next-extended_by_row, low-extended_by_row, kept-extended_by_row, schemas-extended_by_row, rows-extended_by_none, next-extended_by_none, low-extended, kept-extended, schemas-extended}
use Rattle.lt_model.proofs.Lawful.{IsLegal-accepted, IsLegal-lawful}
use Rattle.lt_plain.specs.Table.{state_of, StandsFor, IsAnswered, Answers, IsPage, HoldsKey, with_row, with_change, MayAdd}
use Rattle.lt_plain.proofs.Paging.{IsAnswer-page}

same_state : (a b : Opening) → a.schemas ≡ b.schemas → a.ttl ≡ b.ttl → a.low ≡ b.low → a.next ≡ b.next → a.kept ≡ b.kept → a.rows ≡ b.rows → a ≡ b
same_state a b schemas_are ttl_is low_is next_is kept_is rows_are =
    λ i. record { schemas = schemas_are i; ttl = ttl_is i; low = low_is i; next = next_is i; kept = kept_is i; rows = rows_are i }

-- what an opening finds is what its history says at first
pub StandsFor-opening : (o : Opening) → StandsFor o (record { opening = o; entries = [] })
StandsFor-opening o =
    same_state (state_of (record { opening = o; entries = [] })) o
    (ap (λ (changes : List Change). record { first = o.schemas.first; changes = changes }) (append-nil o.schemas.changes)) refl refl (add-zero o.next) refl (append-nil o.rows)

extended-nothing : (h : History) → h ≡ extended h []
extended-nothing h = ap (λ (entries : List Entry). record { opening = h.opening; entries = entries }) (sym (append-nil h.entries))

-- a step that adds nothing
pub nothing_added : (h : History) (held : Opening) (now : ℕ) (command : Command) (reply : Reply) → IsLegal h → StandsFor held h → IsStep h h now command reply [] → IsAnswered h held now command reply
nothing_added h held now command reply legal stands step = record {
  added = [];
  step = step;
  stands = subst (StandsFor held) (extended-nothing h) stands;
  legal = subst IsLegal (extended-nothing h) legal;
}

pub answers_bad_row : (held : Opening) (row : List Value) (now : ℕ) (fault : RowFault) → row_fault (newest held.schemas) row ≡ Some fault → Answers held held now (Insert row) (BadRow fault)
answers_bad_row held row now fault is h legal stands =
    nothing_added h held now (Insert row) (BadRow fault) legal stands (refl, (subst (λ (o : Opening). row_fault (newest o.schemas) row ≡ Some fault) (sym stands) is, refl))

pub answers_too_old : (held : Opening) (row : List Value) (now bound : ℕ) → Passes (newest held.schemas) row → bound ≡ bound_at held.ttl held.low now → time_of held.schemas.first row < bound
    → Answers held held now (Insert row) (TooOld bound)
answers_too_old held row now bound passes is old h legal stands =
    nothing_added h held now (Insert row) (TooOld bound) legal stands
    (refl, ((subst (λ (o : Opening). Passes (newest o.schemas) row) (sym stands) passes, subst (λ (o : Opening). bound ≡ bound_at o.ttl o.low now) (sym stands) is, subst (λ (o : Opening). time_of o.schemas.first row < bound) (sym stands) old), refl))

-- a row that passes and is unexpired
IsTimely-held : (held : Opening) (row : List Value) (now : ℕ) (h : History) → StandsFor held h → Passes (newest held.schemas) row → bound_at held.ttl held.low now ≤ time_of held.schemas.first row → IsTimely h row now
IsTimely-held held row now h stands passes unexpired = record {
  passes = subst (λ (o : Opening). Passes (newest o.schemas) row) (sym stands) passes;
  unexpired = subst (λ (o : Opening). bound_at o.ttl o.low now ≤ time_of o.schemas.first row) (sym stands) unexpired;
}

pub answers_present : (held : Opening) (row : List Value) (now seq : ℕ) → Passes (newest held.schemas) row → bound_at held.ttl held.low now ≤ time_of held.schemas.first row
    → HoldsKey held.schemas.first held.rows row seq → Answers held held now (Insert row) (Present seq)
answers_present held row now seq passes unexpired holds h legal stands =
    nothing_added h held now (Insert row) (Present seq) legal stands (
      refl,
      (
        (
          IsTimely-held held row now h stands passes unexpired,
          record {
            found = holds.found;
            among = subst (λ (o : Opening). Contains o.rows holds.found) (sym stands) holds.among;
            same_key = subst (λ (o : Opening). key_of o.schemas.first holds.found.row ≡ key_of o.schemas.first row) (sym stands) holds.same_key;
            number = holds.number;
          },
        ),
        refl,
      ),
    )

new_key_of : (held : Opening) (row : List Value) → All (λ (other : Numbered). key_of held.schemas.first other.row ≢ key_of held.schemas.first row) held.rows
    → (other : Numbered) → Contains held.rows other → key_of held.schemas.first other.row ≢ key_of held.schemas.first row
new_key_of held row differ other among same = differ among.0 other among.1 (ap (λ (n : Numbered). key_of held.schemas.first n.row) among.2 ∙ same)

HasNewKey-held : (held : Opening) (row : List Value) (h : History) → StandsFor held h → All (λ (other : Numbered). key_of held.schemas.first other.row ≢ key_of held.schemas.first row) held.rows → HasNewKey h row
HasNewKey-held held row h stands differ =
    subst (λ (o : Opening). (other : Numbered) → Contains o.rows other → key_of o.schemas.first other.row ≢ key_of o.schemas.first row) (sym stands) (new_key_of held row differ)

pub answers_spent : (held : Opening) (row : List Value) (now : ℕ) → Passes (newest held.schemas) row → bound_at held.ttl held.low now ≤ time_of held.schemas.first row
    → All (λ (other : Numbered). key_of held.schemas.first other.row ≢ key_of held.schemas.first row) held.rows → 2 ^ 62 ≤ held.next → Answers held held now (Insert row) Spent
answers_spent held row now passes unexpired differ full h legal stands =
    nothing_added h held now (Insert row) Spent legal stands
    (refl, ((IsTimely-held held row now h stands passes unexpired, HasNewKey-held held row h stands differ, subst (λ (o : Opening). 2 ^ 62 ≤ o.next) (sym stands) full), refl))

row_stands : (h : History) (row : List Value) (tablet : ℕ) → StandsFor (with_row (state_of h) row) (extended h (row_entry (record { seq = next h; ver = newest_version (schemas h); row = row }) tablet ∷ []))
row_stands h row tablet =
    let numbered : Numbered = record { seq = next h; ver = newest_version (schemas h); row = row } in
    same_state (state_of (extended h (row_entry numbered tablet ∷ []))) (with_row (state_of h) row)
    (schemas-extended_by_row h numbered tablet) refl (low-extended_by_row h numbered tablet) (next-extended_by_row h numbered tablet) (kept-extended_by_row h numbered tablet) (rows-extended_by_row h numbered tablet)

inserted_now : (h : History) (row : List Value) (now : ℕ) → IsLegal h → IsVerdict h row now accepted → IsAnswered h (with_row (state_of h) row) now (Insert row) (Inserted (next h))
inserted_now h row now legal verdict =
    let tablet = next_tablet h in
    record {
      added = row_entry (record { seq = next h; ver = newest_version (schemas h); row = row }) tablet ∷ [];
      step = (refl, (verdict, record { number = refl; tablet = tablet; only = refl }));
      stands = row_stands h row tablet;
      legal = IsLegal-accepted h row now tablet legal verdict (inr refl);
    }

pub answers_inserted : (held : Opening) (row : List Value) (now : ℕ) → MayAdd held row now → Answers held (with_row held row) now (Insert row) (Inserted held.next)
answers_inserted held row now may h legal stands =
    subst (λ (o : Opening). IsAnswered h (with_row o row) now (Insert row) (Inserted o.next)) stands
    (inserted_now h row now legal
    (IsTimely-held held row now h stands may.passes may.unexpired, HasNewKey-held held row h stands may.new_key, subst (λ (o : Opening). o.next < 2 ^ 62) (sym stands) may.room))

pub answers_bad_limit : (held : Opening) (query : Query) (now : ℕ) → ¬ IsTrue (is_limit query.limit) → Answers held held now (Scan query) (BadLimit query.limit)
answers_bad_limit held query now wrong h legal stands = nothing_added h held now (Scan query) (BadLimit query.limit) legal stands (refl, (refl, wrong, refl))

pub answers_bad_bound : (held : Opening) (query : Query) (now : ℕ) (fault : BoundFault) → IsTrue (is_limit query.limit) → query_fault (newest held.schemas) query ≡ Some fault → Answers held held now (Scan query) (BadBound fault)
answers_bad_bound held query now fault right is h legal stands =
    nothing_added h held now (Scan query) (BadBound fault) legal stands (refl, (right, subst (λ (o : Opening). query_fault (newest o.schemas) query ≡ Some fault) (sym stands) is, refl))

rows_now : (h : History) (query : Query) (now : ℕ) (shown : List (List Value)) (more : Bool) → IsLegal h → IsTrue (is_limit query.limit) → query_fault (newest (schemas h)) query ≡ None
    → IsPage (schemas h) query (since h now) (rows h) shown more → IsAnswered h (state_of h) now (Scan query) (Rows shown more (next h) (since h now))
rows_now h query now shown more legal right bounds page =
    nothing_added h (state_of h) now (Scan query) (Rows shown more (next h) (since h now)) legal refl
    (refl, (record { limit = right; bounds = bounds; place_is = refl; bound_is = refl }, IsAnswer-page h query (since h now) shown more legal page, refl))

pub answers_rows : (held : Opening) (query : Query) (now : ℕ) (shown : List (List Value)) (more : Bool) → IsTrue (is_limit query.limit) → query_fault (newest held.schemas) query ≡ None
    → IsPage held.schemas query (bound_at held.ttl held.low now) held.rows shown more → Answers held held now (Scan query) (Rows shown more held.next (bound_at held.ttl held.low now))
answers_rows held query now shown more right bounds page h legal stands =
    subst (λ (o : Opening). query_fault (newest o.schemas) query ≡ None → IsPage o.schemas query (bound_at o.ttl o.low now) o.rows shown more
    → IsAnswered h o now (Scan query) (Rows shown more o.next (bound_at o.ttl o.low now))) stands
    (λ fits is. rows_now h query now shown more legal right fits is) bounds page

pub answers_refused : (held : Opening) (change : Change) (why : AlterError) (now : ℕ) → alter_refusal (newest held.schemas) change ≡ Some why → Answers held held now (Alter change) (Refused why)
answers_refused held change why now is h legal stands =
    nothing_added h held now (Alter change) (Refused why) legal stands (refl, (subst (λ (o : Opening). alter_refusal (newest o.schemas) change ≡ Some why) (sym stands) is, refl))

change_stands : (h : History) (change : Change) → StandsFor (with_change (state_of h) change) (extended h (schema_entry change ∷ []))
change_stands h change =
    let more : List Entry = schema_entry change ∷ [] in
    same_state (state_of (extended h more)) (with_change (state_of h) change)
    (schemas-extended h more) refl (low-extended h more) (next-extended_by_none h more refl) (kept-extended h more) (rows-extended_by_none h more refl)

altered_now : (h : History) (change : Change) (now : ℕ) → IsLegal h → alter_refusal (newest (schemas h)) change ≡ None
    → IsAnswered h (with_change (state_of h) change) now (Alter change) (Version (newest_version (schemas h) + 1))
altered_now h change now legal admitted = record {
  added = schema_entry change ∷ [];
  step = (refl, (admitted, refl, refl));
  stands = change_stands h change;
  legal = IsLegal-lawful h (schema_entry change) legal admitted tt;
}

pub answers_version : (held : Opening) (change : Change) (now : ℕ) → alter_refusal (newest held.schemas) change ≡ None → Answers held (with_change held change) now (Alter change) (Version (newest_version held.schemas + 1))
answers_version held change now admitted h legal stands =
    subst (λ (o : Opening). alter_refusal (newest o.schemas) change ≡ None → IsAnswered h (with_change o change) now (Alter change) (Version (newest_version o.schemas + 1))) stands
    (λ admits. altered_now h change now legal admits) admitted

pub answers_no_memory_insert : (held : Opening) (row : List Value) (now : ℕ) → Answers held held now (Insert row) NoMemory
answers_no_memory_insert held row now h legal stands = nothing_added h held now (Insert row) NoMemory legal stands (refl, refl)

pub answers_no_memory_scan : (held : Opening) (query : Query) (now : ℕ) → Answers held held now (Scan query) NoMemory
answers_no_memory_scan held query now h legal stands = nothing_added h held now (Scan query) NoMemory legal stands (refl, refl)

pub answers_no_memory_alter : (held : Opening) (change : Change) (now : ℕ) → Answers held held now (Alter change) NoMemory
answers_no_memory_alter held change now h legal stands = nothing_added h held now (Alter change) NoMemory legal stands (refl, refl)
