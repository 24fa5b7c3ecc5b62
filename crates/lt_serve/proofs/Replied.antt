-- What a table answers where memory ran out, or a change was not published.
use Rattle.std.proofs.Common.{◌≡◌, ◌≤◌, ◌+◌, ℕ, refl, sym, subst}
use Rattle.std.specs.Prelude.{Result, Ok, Err, IfOk, IfErr, OnErr, IsErrOf}
use Rattle.lt_rec.specs.declared.no_memory.NoMemory.{NoMemory as NoMemoryError}
use Rattle.lt_schema.specs.declared.value.Value.{Value}
use Rattle.std.proofs.Common.{List}
use Rattle.lt_schema.specs.declared.change.Change.{Change}
use Rattle.lt_command.specs.declared.query.Query.{Query}
use Rattle.lt_command.specs.declared.command.Command.{Command}
use Rattle.lt_command.specs.declared.command.Command.TheVariants.{Insert, Scan, Alter}
use Rattle.lt_command.specs.declared.reply.Reply.{Reply}
use Rattle.lt_command.specs.declared.reply.Reply.TheVariants.{NoMemory}
use Rattle.lt_commit.specs.declared.errors.CommitError.{CommitError}
use Rattle.lt_commit.specs.declared.errors.CommitError.TheVariants as commit
use Rattle.lt_model.specs.History.{Opening}
use Rattle.lt_plain.specs.Table.{Answers}
use Rattle.lt_plain.proofs.Steps.{nothing_added, answers_no_memory_insert, answers_no_memory_scan}
use Rattle.lt_serve.specs.Kept.{commit_reply, altered_reply}
use Rattle.lt_serve.specs.Growing.{number_weight}

-- where a call wanted memory, it changed nothing, and the reply says so
answers_or_no_memory : (held new : Opening) (now : ℕ) (command : Command) (answered : Result Reply NoMemoryError) (reply : Reply)
    → IfOk answered (Answers held new now command) → OnErr answered (new ≡ held) → IfOk answered (λ r. reply ≡ r) → OnErr answered (reply ≡ NoMemory) → Answers held held now command NoMemory
    → Answers held new now command reply
answers_or_no_memory held new now command (Ok r) reply answers unchanged is none free = subst (Answers held new now command) (sym is) answers
answers_or_no_memory held new now command (Err e) reply answers unchanged is none free =
    subst (λ (o : Opening). Answers held o now command reply) (sym unchanged) (subst (Answers held held now command) (sym none) free)

pub on_refusal : {X E : Type 0} (answered : Result X E) (P : Type 0) → P → OnErr answered P
on_refusal (Ok x) P holds = tt
on_refusal (Err e) P holds = holds

pub scan_answered : (held : Opening) (now : ℕ) (query : Query) (answered : Result Reply NoMemoryError) (reply : Reply)
    → IfOk answered (Answers held held now (Scan query)) → IfOk answered (λ r. reply ≡ r) → OnErr answered (reply ≡ NoMemory) → Answers held held now (Scan query) reply
scan_answered held now query answered reply answers is none =
    answers_or_no_memory held held now (Scan query) answered reply answers (on_refusal answered (held ≡ held) refl) is none (answers_no_memory_scan held query now)

pub insert_answered : (held new : Opening) (now : ℕ) (row : List Value) (answered : Result Reply NoMemoryError) (reply : Reply)
    → IfOk answered (Answers held new now (Insert row)) → OnErr answered (new ≡ held) → IfOk answered (λ r. reply ≡ r) → OnErr answered (reply ≡ NoMemory) → Answers held new now (Insert row) reply
insert_answered held new now row answered reply answers unchanged is none =
    answers_or_no_memory held new now (Insert row) answered reply answers unchanged is none (answers_no_memory_insert held row now)

-- a change that was not published adds nothing
pub unpublished : (held : Opening) (change : Change) (now : ℕ) (refused : CommitError) → Answers held held now (Alter change) (commit_reply refused)
unpublished held change now commit.Spent h legal stands = nothing_added h held now (Alter change) (commit_reply commit.Spent) legal stands (refl, refl)
unpublished held change now commit.Fault h legal stands = nothing_added h held now (Alter change) (commit_reply commit.Fault) legal stands (refl, refl)
unpublished held change now commit.NoMemory h legal stands = nothing_added h held now (Alter change) (commit_reply commit.NoMemory) legal stands (refl, refl)

pub unpublished_so : (held new : Opening) (change : Change) (now : ℕ) (altered : Result Reply CommitError) (refused : CommitError) → altered ≡ Err refused → new ≡ held → Answers held new now (Alter change) (altered_reply altered)
unpublished_so held new change now altered refused is same =
    subst (λ (o : Opening). Answers held o now (Alter change) (altered_reply altered)) (sym same)
    (subst (λ (r : Result Reply CommitError). Answers held held now (Alter change) (altered_reply r)) (sym is) (unpublished held change now refused))

-- ---- file numbers

-- a publishing that got its number may have used it
pub used_one : {X : Type 0} (published : Result X CommitError) (old new : ℕ) → (IsErrOf published commit.Spent → ⊥) → new ≤ old + 1 → IfErr published (λ e. new ≤ old + number_weight (commit_reply e))
used_one (Ok done) old new never used = tt
used_one (Err commit.Spent) old new never used = absurd (never refl)
used_one (Err commit.Fault) old new never used = used
used_one (Err commit.NoMemory) old new never used = used
