use Rattle.std.proofs.Common.{◌∙◌, ap, refl}
use Rattle.lt_io.specs.Directory.{loosened}
use Rattle.lt_io.proofs.Moments.{Fits-loosened}
use Rattle.lt_memdev.proofs.Kept.{stays_stored, moves_on}
use Rattle.lt_memdev.proofs.dir.MemDir.loosen.Goals as goal

pub invariant_of-self-2 : goal.invariant_of-self-2
invariant_of-self-2 c =
    let inside = c.self.inside in
    stays_stored inside.history c.reserve.new.self c.add.new.self record { files = inside.files; descriptor = inside.current } record { files = inside.files; descriptor = inside.current } inside.lends inside.spare (loosened inside.history.now c.args.file)
    c.in_ok-reserve.ensures.now (c.add.ensures.now ∙ ap (λ state. loosened state c.args.file) c.in_ok-reserve.ensures.now) refl
    (Fits-loosened _ inside.history.now c.args.file c.self.invariant.possible)
    c.self.invariant c.in_ok-reserve.ensures.ok c.add.ensures.room

pub returns-clause-moved : goal.returns-clause-moved
returns-clause-moved c =
    let inside = c.self.inside in
    rw (← c.self.view_is)
    (moves_on inside.history c.reserve.new.self c.add.new.self record { files = inside.files; descriptor = inside.current } record { files = inside.files; descriptor = inside.current } inside.lends inside.spare (loosened inside.history.now c.args.file)
    c.in_ok-reserve.ensures.now (c.add.ensures.now ∙ ap (λ state. loosened state c.args.file) c.in_ok-reserve.ensures.now) refl
    (Fits-loosened _ inside.history.now c.args.file c.self.invariant.possible)
    c.add.ensures.past c.in_ok-reserve.ensures.past)
