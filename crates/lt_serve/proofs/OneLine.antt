-- How one line is answered.
use Rattle.std.proofs.Common.{◌≡◌, ◌≤◌, ◌+◌, ℕ, Bool, Option, Some, None, refl, sym, subst, arith}
use Rattle.lt_io.specs.Device.{Counts}
use Rattle.lt_command.specs.declared.command.Command.{Command}
use Rattle.lt_command.specs.declared.command.Line.{Line}
use Rattle.lt_command.specs.declared.command.Line.TheVariants.{Skip, Bad, Command as CommandLine}
use Rattle.lt_command.specs.declared.reply.Reply.{Reply}
use Rattle.lt_command.specs.declared.reply.Reply.TheVariants.{BadLine, Fault, Spent}
use Rattle.std.specs.Prelude.{IsTrue, List, ◌^◌}
use Rattle.lt_model.specs.History.{Opening}
use Rattle.lt_model.specs.Session.{IsMoment}
use Rattle.lt_plain.specs.Table.{Answers, IsUndamaged}
use Rattle.lt_serve.specs.Kept.{Told, told_by_command, StaysKept, LendsInTurn}
use Rattle.lt_serve.specs.Growing.{Meter, is_change, numbers_for, AnswersLine}
use Rattle.lt_serve.proofs.Renewing.{stays_none, lends_none}

-- a line that belongs to nobody
skipped : (honest : Bool) (clock : ℕ → Type 0) (held : Opening) (m : Meter) → AnswersLine honest clock held held m m Skip None
skipped honest clock held m = record {
  replies = refl;
  undamaged = tt;
  faults = record { later = omega arith; failed = λ is. absurd (cc) };
  spent = tt;
  used = tt;
  unused = refl;
  lends = lends_none m.next_file m.directory;
  kept = λ told versions. stays_none honest held told m.directory versions;
}

pub line_skipped : (honest : Bool) (clock : ℕ → Type 0) (held : Opening) (m : Meter) (line : Line) → line ≡ Skip → AnswersLine honest clock held held m m line None
line_skipped honest clock held m line is = subst (λ (l : Line). AnswersLine honest clock held held m m l None) (sym is) (skipped honest clock held m)

-- a line outside the grammar
told_bad : (honest : Bool) (clock : ℕ → Type 0) (held : Opening) (m : Meter) (client : List ℕ) (at : ℕ) → AnswersLine honest clock held held m m (Bad client at) (Some (BadLine at))
told_bad honest clock held m client at = record {
  replies = (refl, refl);
  undamaged = tt;
  faults = record { later = omega arith; failed = λ is. absurd (cc) };
  spent = λ asks is. absurd (cc);
  used = omega arith;
  unused = tt;
  lends = lends_none m.next_file m.directory;
  kept = λ told versions. stays_none honest held told m.directory versions;
}

pub line_bad : (honest : Bool) (clock : ℕ → Type 0) (held : Opening) (m : Meter) (line : Line) (client : List ℕ) (at : ℕ) → line ≡ Bad client at → AnswersLine honest clock held held m m line (Some (BadLine at))
line_bad honest clock held m line client at is = subst (λ (l : Line). AnswersLine honest clock held held m m l (Some (BadLine at))) (sym is) (told_bad honest clock held m client at)

some_reply : (a b : Reply) → Some a ≡ Some b → a ≡ b
some_reply a b same = cc

-- a command
pub line_commanded : (honest : Bool) (clock : ℕ → Type 0) (old new : Opening) (before now : Meter) (line : Line) (client : List ℕ) (given : Option ℕ) (command : Command) (at : ℕ) (reply : Reply) → line ≡ CommandLine client given command
    → IsMoment clock given at → Answers old new at command reply → IsUndamaged reply → (IsTrue (is_change command) → reply ≡ Spent → 2 ^ 62 ≤ before.next_file) → now.next_file ≤ before.next_file + numbers_for command reply
    → LendsInTurn before.next_file before.directory now.next_file now.directory → Counts before.faults now.faults (reply ≡ Fault)
    → ((told : Told) → told.versions ≡ old.schemas → StaysKept honest old new told (told_by_command command reply told) before.directory now.directory)
    → AnswersLine honest clock old new before now line (Some reply)
line_commanded honest clock old new before now line client given command at reply is moment answers undamaged spent numbers lends counts kept =
    subst (λ (l : Line). AnswersLine honest clock old new before now l (Some reply)) (sym is) record {
      replies = (at, moment, answers);
      undamaged = undamaged;
      faults = record { later = counts.later; failed = λ same. counts.failed (some_reply reply Fault same) };
      spent = spent;
      used = numbers;
      unused = tt;
      lends = lends;
      kept = kept;
    }
