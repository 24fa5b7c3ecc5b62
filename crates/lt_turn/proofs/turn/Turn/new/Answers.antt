use Rattle.lt_turn.proofs.Allowed.{begins}
use Rattle.lt_turn.proofs.turn.Turn.new.Goals as goal

pub vacant-requires : goal.vacant-requires
vacant-requires g c = begins _ _ _
