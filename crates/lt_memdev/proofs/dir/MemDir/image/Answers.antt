use Rattle.std.proofs.Common.{◌≡◌, ◌<◌, ◌%◌, arith, length, slice_get, Some, ap, subst, sym}
use Rattle.std.proofs.lemmas.Result.{IfOk-weaker}
use Rattle.lt_io.specs.Directory.{State, Directory, states}
use Rattle.lt_memdev.specs.Chosen.{IsChosen}
use Rattle.lt_memdev.proofs.Images.{stood_at, chosen_of, files_in_range, possible_chosen, only_chosen, choice_for}
use Rattle.lt_memdev.proofs.dir.MemDir.image.Goals as goal

pub pick-current-requires : goal.pick-current-requires
pick-current-requires c =
    let directory : Directory = c.args.self.now.directory in
    let at : (state : State) × (slice_get (states directory) c.args.moment ≡ Some state) = stood_at directory c.args.moment c.requires in
    let some : 0 < length at.0.may = (c.replay.ensures.lawful at.0 at.1).some in
    omega (arith, ap length c.as_slice.ensures.value, ap length (c.in_ok-replay.ensures.shows at.0 at.1).may)

pub holding-requires : goal.holding-requires
holding-requires c =
    let directory : Directory = c.args.self.now.directory in
    let at : (state : State) × (slice_get (states directory) c.args.moment ≡ Some state) = stood_at directory c.args.moment c.requires in
    files_in_range at.0 c.in_ok-replay.replay.files _ c.in_ok-replay.replay.may.items c.ceiling_at.result _ (c.in_ok-replay.ensures.shows at.0 at.1) (c.replay.ensures.lawful at.0 at.1).below (c.ceiling_at.ensures at.0 at.1) c.in_ok-files.ensures

pub returns-clause-chosen : goal.returns-clause-chosen
returns-clause-chosen c =
    IfOk-weaker c.holding.result _ _
    (λ image is state stood. subst (IsChosen state c.args.choice.now) (sym (ap (λ d. d.directory.seen) is))
    (chosen_of state c.args.choice.now c.in_ok-replay.replay.files c.in_ok-files.files c.in_ok-replay.replay.may.items c.ceiling_at.result c.pick-current.result
    (c.in_ok-replay.ensures.shows state stood) (c.replay.ensures.lawful state stood).below (c.ceiling_at.ensures state stood) c.in_ok-files.ensures
    (subst (λ may. slice_get may (c.args.choice.now.which % length may) ≡ Some c.pick-current.result) c.as_slice.ensures.value c.pick-current.ensures)))
    c.holding.ensures

pub returns-clause-possible : goal.returns-clause-possible
returns-clause-possible c = IfOk-weaker c.holding.result _ _ (λ image chosen. possible_chosen c.args.self.now.directory c.args.moment c.args.choice.now image.directory.seen c.requires chosen) (returns-clause-chosen c)

pub returns-clause-only : goal.returns-clause-only
returns-clause-only c = IfOk-weaker c.holding.result _ _ (λ image chosen. only_chosen c.args.self.now.directory c.args.moment c.args.choice.now image.directory.seen c.requires chosen) (returns-clause-chosen c)

pub returns-clause-every : goal.returns-clause-every
returns-clause-every c = λ other loose. choice_for c.args.self.now.directory c.args.moment other loose c.replay.ensures.lawful

pub returns-in_err-replay-clause-every : goal.returns-in_err-replay-clause-every
returns-in_err-replay-clause-every c = λ other loose. choice_for c.args.self.now.directory c.args.moment other loose c.replay.ensures.lawful

pub returns-in_err-files-clause-every : goal.returns-in_err-files-clause-every
returns-in_err-files-clause-every c = λ other loose. choice_for c.args.self.now.directory c.args.moment other loose c.replay.ensures.lawful
