-- How what is told of the possible descriptors grows by a line.
use Rattle.std.proofs.Common.{◌≡◌, ◌⊎◌, ◌≤◌, ℕ, List, [], ◌∷◌, ◌++◌, Option, Contains, refl, sym, ◌∙◌, ap, subst, inl, inr, ⊎_elim, arith}
use Rattle.lt_io.specs.Directory.{State, Image, Directory, PossibleAt, moment}
use Rattle.lt_io.specs.Steps.{Steps}
use Rattle.lt_io.proofs.Chains.{FromOn-now, FromOn-steps, possible_each, PossibleAt-steps}
use Rattle.lt_command.specs.declared.command.Line.{Line}
use Rattle.lt_command.specs.declared.reply.Reply.{Reply}
use Rattle.lt_model.specs.History.{Opening}
use Rattle.lt_serve.specs.Kept.{Frame, frame_of, Told, told_by_line, TellsOf, AllTell, Renews}
use Rattle.lt_serve.specs.ByLine.{LineEnd, TellsLine, TellsByLine, last_end}
use Rattle.lt_serve.specs.Growing.{TellsSoFar}

last_end-more : (first : LineEnd) (ends : List LineEnd) (to : LineEnd) → last_end first (ends ++ to ∷ []) ≡ to
last_end-more first [] to = refl
last_end-more first (next ∷ ends) to = last_end-more next ends to

-- moments don't go back
rises : (frame : Frame) (new : Directory) (from : LineEnd) (lines : List Line) (replies : List Reply) (ends : List LineEnd) → TellsByLine frame new from lines replies ends → from.moment ≤ (last_end from ends).moment
rises frame new from [] [] [] by = omega arith
rises frame new from (line ∷ lines) (reply ∷ replies) (to ∷ ends) by = omega (arith, by.0.later, rises frame new to lines replies ends by.1)
rises frame new from [] [] (to ∷ ends) by = absurd by
rises frame new from [] (reply ∷ replies) [] by = absurd by
rises frame new from [] (reply ∷ replies) (to ∷ ends) by = absurd by
rises frame new from (line ∷ lines) [] [] by = absurd by
rises frame new from (line ∷ lines) [] (to ∷ ends) by = absurd by
rises frame new from (line ∷ lines) (reply ∷ replies) [] by = absurd by

module _ (R : State → State → Type 0) (frame : Frame) (old new : Directory) (steps : Steps R old new) where
  -- what went by stays
  stays_past : (line : Line) (reply : Reply) (from to : LineEnd) → to.moment ≤ moment old → TellsLine frame old line reply from to → TellsLine frame new line reply from to
  stays_past line reply from to past tells = record {
    later = tells.later;
    told = tells.told;
    meanwhile = λ at image after before possible. tells.meanwhile at image after before ((PossibleAt-steps R old new steps at (omega arith) image).0 possible);
  }

  tells_more : (from : LineEnd) (lines : List Line) (replies : List Reply) (ends : List LineEnd) (line : Line) (reply : Reply) (to : LineEnd) → TellsByLine frame old from lines replies ends → (last_end from ends).moment ≤ moment old
      → TellsLine frame new line reply (last_end from ends) to → TellsByLine frame new from (lines ++ line ∷ []) (replies ++ reply ∷ []) (ends ++ to ∷ [])
  tells_more from [] [] [] line reply to by past last = (last, tt)
  tells_more from (first ∷ lines) (said ∷ replies) (next ∷ ends) line reply to by past last =
      (stays_past first said from next (omega (arith, rises frame old next lines replies ends by.1)) by.0, tells_more next lines replies ends line reply to by.1 past last)
  tells_more from [] [] (next ∷ ends) line reply to by past last = absurd by
  tells_more from [] (said ∷ replies) [] line reply to by past last = absurd by
  tells_more from [] (said ∷ replies) (next ∷ ends) line reply to by past last = absurd by
  tells_more from (first ∷ lines) [] [] line reply to by past last = absurd by
  tells_more from (first ∷ lines) [] (next ∷ ends) line reply to by past last = absurd by
  tells_more from (first ∷ lines) (said ∷ replies) [] line reply to by past last = absurd by

-- while a command is carried out, what is possible is told of before or after it
tells_meanwhile : (frame : Frame) (told later : Told) (old new : Directory) → Steps (Renews frame later) old new → AllTell frame told old.now
    → (at : ℕ) (image : Image) → moment old ≤ at → PossibleAt new at image → TellsOf frame told image.descriptor ⊎ TellsOf frame later image.descriptor
tells_meanwhile frame told later old new steps all =
    let either : State → Type 0 = λ state. (d : Option (List ℕ)) → Contains state.may d → TellsOf frame told d ⊎ TellsOf frame later d in
    possible_each either (λ image. TellsOf frame told image.descriptor ⊎ TellsOf frame later image.descriptor) (λ state image each fits. each image.descriptor fits.descriptor) (moment old) new
    (FromOn-steps (Renews frame later) either (λ before after renews each d is. ⊎_elim (λ was. each d was) (λ made. inr made) (renews.old_or_new d is)) (moment old) old new (omega arith) steps
    (FromOn-now either old (λ d is. inl (all d is))))

pub TellsSoFar-more : (frame : Frame) (first : LineEnd) (held new : Opening) (lines : List Line) (replies : List Reply) (now next : Directory) (line : Line) (reply : Reply)
    → frame_of held ≡ frame → (so_far : TellsSoFar frame first held lines replies now)
    → (steps : Steps (Renews frame (told_by_line line reply (last_end first so_far.ends).told)) now next)
    → (told_by_line line reply (last_end first so_far.ends).told).versions ≡ new.schemas
    → AllTell frame (told_by_line line reply (last_end first so_far.ends).told) next.now
    → TellsSoFar frame first new (lines ++ line ∷ []) (replies ++ reply ∷ []) next
TellsSoFar-more frame first held new lines replies now next line reply same so_far steps versions all =
    let last = last_end first so_far.ends in
    let later = told_by_line line reply last.told in
    let to : LineEnd = record { moment = moment next; told = later } in
    let here : (last_end first (so_far.ends ++ to ∷ [])) ≡ to = last_end-more first so_far.ends to in
    record {
      ends = so_far.ends ++ to ∷ [];
      by_line = tells_more (Renews frame later) frame now next steps first lines replies so_far.ends line reply to so_far.by_line (omega (arith, so_far.moment_is)) record {
        later = omega (arith, so_far.moment_is, steps.later);
        told = refl;
        meanwhile = λ at image after before possible. tells_meanwhile frame last.told later now next steps so_far.all_tell at image (omega (arith, so_far.moment_is, after)) possible;
      };
      moment_is = ap (λ (s : LineEnd). s.moment) here;
      versions = ap (λ (s : LineEnd). s.told.versions) here ∙ versions;
      all_tell = subst (λ (s : LineEnd). AllTell frame s.told next.now) (sym here) all;
    }
