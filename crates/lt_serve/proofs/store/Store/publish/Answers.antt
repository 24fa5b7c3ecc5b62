use Rattle.std.proofs.Common.{◌+◌, arith, refl}
use Rattle.lt_serve.proofs.Replied.{used_one}
use Rattle.lt_io.proofs.Chains.{Steps-none}
use Rattle.lt_serve.specs.Kept.{frame_of, told_of, Renews}
use Rattle.lt_serve.proofs.Renewing.{renewing, lends_none, lends_one, renewed, tell_published}
use Rattle.lt_serve.proofs.store.Store.publish.Goals as goal

pub returns-clause-any_moment : goal.returns-clause-any_moment
returns-clause-any_moment g c = λ h.
    renewed c.args.self.now.table c.args.self.now.next_file c.args.schemas c.stone_under-stone.result c.stone_under-stone.ensures.parts c.stone_under-stone.ensures.lawful
    _ _ (c.publish.ensures.readable h) (c.publish.ensures.any_moment h)

pub returns-clause-published : goal.returns-clause-published
returns-clause-published g c = λ h.
    tell_published c.args.self.now.table c.args.self.now.next_file c.args.schemas c.stone_under-stone.result c.stone_under-stone.ensures.parts c.stone_under-stone.ensures.lawful
    g.V.Device.honest c.publish.result c.args.self.now.anchor.directory.now c.publish.new.self c.publish.ensures.anchored c.publish.ensures.ok (c.publish.ensures.acknowledged h)

pub returns-clause-numbers : goal.returns-clause-numbers
returns-clause-numbers g c = used_one c.publish.result c.args.self.now.next_file _ c.publish.ensures.never_spent (omega arith)

pub returns-clause-lends : goal.returns-clause-lends
returns-clause-lends g c = lends_one c.args.self.now.next_file (c.args.self.now.next_file + 1) c.args.self.now.anchor.directory c.publish.new.self.directory refl c.publish.ensures.lends

pub returns-then-file-ge-MOST-clause-any_moment : goal.returns-then-file-ge-MOST-clause-any_moment
returns-then-file-ge-MOST-clause-any_moment g c = λ h. Steps-none (Renews (frame_of c.args.self.now.table) (told_of c.args.schemas)) (renewing (frame_of c.args.self.now.table) (told_of c.args.schemas)) c.args.self.now.anchor.directory

pub returns-then-file-ge-MOST-clause-lends : goal.returns-then-file-ge-MOST-clause-lends
returns-then-file-ge-MOST-clause-lends g c = lends_none c.args.self.now.next_file c.args.self.now.anchor.directory
