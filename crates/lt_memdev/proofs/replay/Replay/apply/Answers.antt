use Rattle.std.proofs.Common.{Some, subst}
use Rattle.lt_memdev.specs.Files.{Puts}
use Rattle.lt_memdev.proofs.Replays.{shows_entered, shows_loosened}
use Rattle.lt_memdev.proofs.replay.Replay.apply.Goals as goal

pub returns-in_ok-put-in-Entered : goal.returns-in_ok-put-in-Entered
returns-in_ok-put-in-Entered c = λ state shows.
    rw c.in-Entered.is
    (shows_entered _ _ _ state c.in-Entered.file c.in-Entered.bytes
    (subst (λ b. Puts c.args.self.now.files c.put.new.self c.in-Entered.file (Some b)) c.share.ensures c.in_ok-put-in-Entered.ensures.ok) shows)

pub returns-in-Loosened : goal.returns-in-Loosened
returns-in-Loosened c = λ state shows. rw c.in-Loosened.is (shows_loosened _ _ _ state c.in-Loosened.file c.take.ensures shows)
