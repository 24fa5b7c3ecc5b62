use Rattle.std.proofs.Common.{◌<◌, ◌∙◌, ap, subst, refl, arith, Some}
use Rattle.lt_io.specs.Directory.{entered}
use Rattle.lt_memdev.specs.Files.{Puts}
use Rattle.lt_memdev.proofs.Kept.{stays_stored, moves_on, Fits-put_entered}
use Rattle.lt_memdev.proofs.dir.MemDir.enter.Goals as goal

pub invariant_of-self-2 : goal.invariant_of-self-2
invariant_of-self-2 c =
    let inside = c.self.inside in
    let within : c.args.file < inside.history.now.ceiling = omega (arith, ap (λ s. s.directory.now.ceiling) c.self.view_is) in
    let puts : Puts inside.files c.put.new.self c.args.file (Some c.args.bytes.now) = subst (λ b. Puts inside.files c.put.new.self c.args.file (Some b)) c.share.ensures c.in_ok-put.ensures.ok in
    stays_stored inside.history c.reserve.new.self c.add.new.self record { files = inside.files; descriptor = inside.current } record { files = c.put.new.self; descriptor = inside.current } inside.lends inside.spare (entered inside.history.now c.args.file c.args.bytes.now)
    c.in_ok-reserve.ensures.now (c.add.ensures.now ∙ (λ i. entered (c.in_ok-reserve.ensures.now i) c.args.file (c.share-bytes.ensures i))) refl
    (Fits-put_entered inside.history.now _ _ c.args.file c.args.bytes.now within puts refl c.self.invariant.possible)
    c.self.invariant c.in_ok-reserve.ensures.ok c.add.ensures.room

pub returns-clause-moved : goal.returns-clause-moved
returns-clause-moved c =
    let inside = c.self.inside in
    let within : c.args.file < inside.history.now.ceiling = omega (arith, ap (λ s. s.directory.now.ceiling) c.self.view_is) in
    let puts : Puts inside.files c.put.new.self c.args.file (Some c.args.bytes.now) = subst (λ b. Puts inside.files c.put.new.self c.args.file (Some b)) c.share.ensures c.in_ok-put.ensures.ok in
    rw (← c.self.view_is)
    (moves_on inside.history c.reserve.new.self c.add.new.self record { files = inside.files; descriptor = inside.current } record { files = c.put.new.self; descriptor = inside.current } inside.lends inside.spare (entered inside.history.now c.args.file c.args.bytes.now)
    c.in_ok-reserve.ensures.now (c.add.ensures.now ∙ (λ i. entered (c.in_ok-reserve.ensures.now i) c.args.file (c.share-bytes.ensures i))) refl
    (Fits-put_entered inside.history.now _ _ c.args.file c.args.bytes.now within puts refl c.self.invariant.possible)
    c.add.ensures.past c.in_ok-reserve.ensures.past)
