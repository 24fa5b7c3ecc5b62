-- How a session ends.
use Rattle.std.proofs.Common.{◌≡◌, ◌≤◌, ℕ, Bool, true, List, [], Some, None, Ok, Err, refl, sym, ap, subst, inl, inr}
use Rattle.std.specs.Prelude.{Result, IfOk, IfErr, OnOk, IfSome}
use Rattle.std.specs.Option.{option_map}
use Rattle.lt_io.specs.Directory.{Directory}
use Rattle.lt_desc.specs.Shape.{StoneShape}
use Rattle.lt_desc.specs.Reading.{stone_at}
use Rattle.lt_commit.specs.Anchored.{Anchored, IsLoaded, newest}
use Rattle.lt_commit.specs.declared.errors.LoadError.{LoadError}
use Rattle.lt_commit.specs.declared.errors.LoadError.TheVariants as load
use Rattle.lt_model.specs.History.{Opening}
use Rattle.lt_serve.specs.Session.{IsBuilt}
use Rattle.lt_serve.specs.Loaded.{opening_of}
use Rattle.lt_serve.specs.Loading.{LoadsStone, IsUnanswered}
use Rattle.lt_serve.specs.Growing.{Meter, meter, IsAnswered, AnswersFront}
use Rattle.lt_serve.specs.Made.{LeavesAll}
use Rattle.lt_serve.specs.Ended.{IsLoadCause, Ends}
use Rattle.lt_serve.specs.declared.refusals.SessionError.{SessionError}
use Rattle.lt_serve.specs.declared.refusals.SessionError.TheVariants as session
use Rattle.lt_serve.proofs.Opening.{carries}

-- ---- no table was loaded

load_cause : (honest : Bool) (old : Directory) (why : LoadError) → (honest ≡ true → why ≡ load.NoTable → old.seen.descriptor ≡ None)
    → (honest ≡ true → (at : ℕ) → why ≡ load.Bad at → option_map stone_at old.seen.descriptor ≡ Some (Err at)) → IsLoadCause honest old why
load_cause honest old load.NoTable none bad = λ h. none h refl
load_cause honest old (load.Bad at) none bad = λ h. bad h at refl
load_cause honest old load.Fault none bad = tt
load_cause honest old load.NoMemory none bad = tt

pub ends_unloaded : (honest : Bool) (clock : ℕ → Type 0) (input : List ℕ) (old new : Directory) (before now : ℕ) (why : LoadError) → (honest ≡ true → why ≡ load.NoTable → old.seen.descriptor ≡ None)
    → (honest ≡ true → (at : ℕ) → why ≡ load.Bad at → option_map stone_at old.seen.descriptor ≡ Some (Err at)) → LeavesAll honest old new → Ends honest clock input old new before now (Err (session.Load why))
ends_unloaded honest clock input old new before now why none bad leaves = record { served = tt; cause = load_cause honest old why none bad; unanswered = leaves }

-- the newest possible stone is the loaded one
pub of_loaded : (honest : Bool) (old : Directory) (anchor : Anchored) (next : ℕ) (loaded : IsLoaded honest old anchor next) (P : StoneShape → Type 0) → IfSome (newest anchor.may) P → P loaded.stone
of_loaded honest old anchor next loaded P holds = subst (λ o. IfSome o P) (ap newest loaded.may) holds

-- the table has rows in files
pub ends_in_files : (honest : Bool) (clock : ℕ → Type 0) (input : List ℕ) (old new : Directory) (before now : ℕ) (anchor : Anchored) (next : ℕ) (loaded : IsLoaded honest old anchor next) → (loaded.stone.tablets ≡ [] → ⊥)
    → LeavesAll honest old new → Ends honest clock input old new before now (Err (session.NotYet 0))
ends_in_files honest clock input old new before now anchor next loaded some leaves = record {
  served = tt;
  cause = record { stone = loaded.stone; loaded = record { lawful = loaded.lawful; exact = loaded.exact }; why = inl (some, refl) };
  unanswered = leaves;
}

-- ---- a table was loaded

pub ends_loaded : (honest : Bool) (clock : ℕ → Type 0) (input : List ℕ) (old middle new : Directory) (stone : StoneShape) (opening held : Opening) (before began now first free : ℕ) (ended : Result (List ℕ) SessionError)
    → LoadsStone honest old stone middle first → opening ≡ opening_of stone → new.now.ceiling ≤ free → before ≤ began
    → OnOk ended (IsBuilt input) → IfOk ended (IsAnswered honest clock opening held (meter began first middle) (meter now free new) input)
    → IfErr ended (IsUnanswered honest clock opening held (meter began first middle) (meter now free new) input)
    → Ends honest clock input old new before now ended
ends_loaded honest clock input old middle new stone opening held before began now first free (Ok text) loads same ceiling later built answered unanswered =
    let whole : IsAnswered honest clock (opening_of stone) held (meter began first middle) (meter now free new) input text =
    subst (λ (o : Opening). IsAnswered honest clock o held (meter began first middle) (meter now free new) input text) same answered in
    record {
      served = record {
        built = built;
        stone = stone;
        whole = whole.whole;
        carries = carries honest old middle stone first loads clock new held _ _ _ before began now free whole.answered ceiling later;
      };
      cause = tt;
      unanswered = tt;
    }
ends_loaded honest clock input old middle new stone opening held before began now first free (Err (session.NotYet line)) loads same ceiling later built answered unanswered = record {
  served = tt;
  cause = record { stone = stone; loaded = loads.loaded; why = inr (loads.bare, unanswered.0) };
  unanswered = subst (LeavesAll honest old) (sym unanswered.1) loads.leaves;
}
ends_loaded honest clock input old middle new stone opening held before began now first free (Err session.NoMemory) loads same ceiling later built answered unanswered =
    let front : AnswersFront honest clock (opening_of stone) held (meter began first middle) (meter now free new) input =
    subst (λ (o : Opening). AnswersFront honest clock o held (meter began first middle) (meter now free new) input) same unanswered in
    record {
      served = tt;
      cause = tt;
      unanswered = record {
        stone = stone;
        lines = front.lines;
        others = front.others;
        front = front.front;
        replies = front.replies;
        history = front.history;
        unflushed = front.answered.unflushed;
        carries = carries honest old middle stone first loads clock new held _ front.replies front.history before began now free front.answered ceiling later;
      };
    }
ends_loaded honest clock input old middle new stone opening held before began now first free (Err (session.Load why)) loads same ceiling later built answered unanswered = absurd unanswered

-- memory ran out before all lines were answered
pub unanswered_so : (honest : Bool) (clock : ℕ → Type 0) (opening held : Opening) (before now : Meter) (input : List ℕ) (ended : Result (List ℕ) SessionError) → ended ≡ Err session.NoMemory
    → AnswersFront honest clock opening held before now input → IfErr ended (IsUnanswered honest clock opening held before now input)
unanswered_so honest clock opening held before now input ended is front =
    subst (λ (r : Result (List ℕ) SessionError). IfErr r (IsUnanswered honest clock opening held before now input)) (sym is) front
