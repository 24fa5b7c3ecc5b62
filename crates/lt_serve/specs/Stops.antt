-- What a session over a loaded table carries out, and what stops leave of it.
use Rattle.std.specs.Prelude.{◌≡◌, ◌≤◌, ◌<◌, ◌+◌, ◌-◌, ℕ, Bool, true, List, [], All}
use Rattle.lt_io.specs.Directory.{Image, Directory, Fits, PossibleAt, moment}
use Rattle.lt_desc.specs.Shape.{StoneShape}
use Rattle.lt_command.specs.declared.command.Line.{Line}
use Rattle.lt_command.specs.declared.reply.Reply.{Reply}
use Rattle.lt_model.specs.History.{Opening, History}
use Rattle.lt_model.specs.Readings.{schemas}
use Rattle.lt_model.specs.Growing.{SoFar}
use Rattle.lt_model.specs.Crash.{IsCrash}
use Rattle.lt_plain.specs.Table.{state_of, IsUndamaged}
use Rattle.lt_serve.specs.Loaded.{durable_by, opening_of, OpensTo, IsLoadedFrom, first_free}
use Rattle.lt_serve.specs.Kept.{frame_of, HasFrame, TellsOf}
use Rattle.lt_serve.specs.ByLine.{LineEnd, begun_at, TellsByLine, last_end}
use Rattle.lt_serve.specs.Growing.{AtMostRose, faults_in, UsesNumbers}

-- The image opens, by a possible stone, to what a stop leaves of the history. That stone keeps what the history keeps, and has
-- its low bound and its time to live.
pub record OpensAfter (h : History) (image : Image) : Type 0 where
  pub stone : StoneShape
  pub found : Opening
  pub opens : OpensTo image stone found
  pub crash : IsCrash h (durable_by stone) found
  pub frame : HasFrame (frame_of (state_of h)) stone

-- the end of a run: the versions that were told are the history's, and each image that a stop may leave now is told of so
pub record IsEnd (h : History) (new : Directory) (last : LineEnd) : Type 0 where
  pub moment_is : last.moment ≡ moment new
  pub versions : last.told.versions ≡ schemas h
  pub all_tell : (image : Image) → PossibleAt new (moment new) image → TellsOf (frame_of (state_of h)) last.told image.descriptor

-- Until a table was loaded, a stop may leave what it might have left before; from then on each image that it may leave opens
-- to the crash of the history. Line by line, each has the versions of the schema by the replies so far, or one change more
-- that was answered `fault`; and so it is at the end of the history's versions.
pub record StopsOpen (h : History) (lines : List Line) (replies : List Reply) (old new : Directory) : Type 0 where
  pub loaded : ℕ
  pub no_earlier : moment old ≤ loaded
  pub by_now : loaded ≤ moment new
  pub before : (at : ℕ) (image : Image) → moment old ≤ at → at < loaded → PossibleAt new at image → Fits image old.now
  pub since : (at : ℕ) (image : Image) → loaded ≤ at → PossibleAt new at image → OpensAfter h image
  pub ends : List LineEnd
  pub by_line : TellsByLine (frame_of (state_of h)) new (begun_at loaded h.opening.schemas) lines replies ends
  pub at_end : IsEnd h new (last_end (begun_at loaded h.opening.schemas) ends)

-- File numbers go out in turn: none is skipped from the first free one on, and changes alone may use them.
pub record NumbersInTurn (honest : Bool) (stone : StoneShape) (lines : List Line) (replies : List Reply) (old new : Directory) : Type 0 where
  pub first : ℕ
  pub first_is : honest ≡ true → first ≡ first_free old stone
  pub lends : old.lends ≤ new.lends
  pub ceiling : new.now.ceiling ≤ first + (new.lends - old.lends)
  pub used : UsesNumbers first lines replies (first + (new.lends - old.lends))

-- What a session carries out that loaded a table without rows in files: these lines are answered by these replies at fronts
-- of a history that began with it; `fault` is told at most as often as the device's count rose, and `damaged` never.
pub record Carries (honest : Bool) (clock : ℕ → Type 0) (stone : StoneShape) (lines : List Line) (replies : List Reply) (h : History) (old new : Directory) (before now : ℕ) : Type 0 where
  pub loaded : IsLoadedFrom honest old stone
  pub bare : stone.tablets ≡ []
  pub opened : h.opening ≡ opening_of stone
  pub so_far : SoFar clock 0 lines replies h
  pub faults : AtMostRose before (faults_in replies) now
  pub undamaged : All IsUndamaged replies
  pub numbers : NumbersInTurn honest stone lines replies old new
  pub stops : honest ≡ true → StopsOpen h lines replies old new
