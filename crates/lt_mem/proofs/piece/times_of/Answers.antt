use Rattle.std.proofs.Common.{◌≤◌, List, take, get_or, subst, arith}
use Rattle.std.proofs.lemmas.List.{take_all}
use Rattle.std.proofs.lemmas.List.Elements.{All-more}
use Rattle.lt_rec.specs.Record.{Record}
use Rattle.lt_mem.specs.Pieces.{AreWithin}
use Rattle.lt_mem.proofs.piece.times_of.Goals as goal

pub loop-rec-preserved : goal.loop-rec-preserved
loop-rec-preserved c =
    let P = λ (r : Record). (c.min-earliest.result ≤ r.ts) × (r.ts ≤ c.max-latest.result) in
    All-more P c.args.recs.now c.loop-rec.rec-index c.rec-item.result (omega arith)
    (λ k d w.
    let x = get_or (take c.loop-rec.rec-index c.args.recs.now) k d in
    let h : (c.loop-rec.earliest ≤ x.ts) × (x.ts ≤ c.loop-rec.latest) = c.loop-rec.invariant k d w in
    (omega (arith, h.0), omega (arith, h.1)))
    (subst P c.rec-item.is (omega arith, omega arith))

pub returns : goal.returns
returns c =
    subst (λ (xs : List Record). AreWithin xs c.loop-rec.earliest c.loop-rec.latest) (take_all c.loop-rec.rec-index c.args.recs.now (omega arith)) c.loop-rec.invariant
