use Rattle.std.proofs.Common.{refl, sym, ap, subst, ◌∙◌}
use Rattle.std.proofs.lemmas.List.Sorted.{IsPermutation-insert}
use Rattle.lt_kway.specs.Heads.{AreRanked}
use Rattle.lt_kway.specs.declared.head.Head.{Head}
use Rattle.lt_kway.proofs.Ranked.{none_has, ranked_insert}
use Rattle.lt_kway.proofs.heads.Heads.put.Goals as goal
use Rattle.lt_kway.proofs.heads.Heads.put.Goals.{in-Ok-insert, in-Err-insert}

pub invariant_of-self : goal.invariant_of-self
invariant_of-self c =
    let i = c.self.inside in
    let h : Head = record { source = c.args.source; rec = c.args.rec } in
    let p = c.in-Err.ensures in
    elim c.match-insert.branch [
      | in-Ok-insert w ↦ subst (AreRanked i.down) (sym w.in-Ok-insert.ensures.ok)
          (ranked_insert i.down i.heads i.heads c.key.result.now c.in-Err.place h refl c.key.ensures.value c.self.invariant p.within p.later p.earlier)
      | in-Err-insert w ↦ subst (AreRanked i.down) (sym w.in-Err-insert.ensures.unchanged) c.self.invariant
    ]

pub returns-after-insert-clause-ok : goal.returns-after-insert-clause-ok
returns-after-insert-clause-ok c =
    let i = c.self.inside in
    let h : Head = record { source = c.args.source; rec = c.args.rec } in
    elim c.match-insert.branch [
      | in-Ok-insert w ↦ rw (w.result-is, w.in-Ok-insert.ensures.ok, ← c.self.view_is) (IsPermutation-insert i.heads c.in-Err.place h)
      | in-Err-insert w ↦ rw w.result-is tt
    ]

pub returns-after-insert-clause-distinct : goal.returns-after-insert-clause-distinct
returns-after-insert-clause-distinct c =
    let i = c.self.inside in
    let h : Head = record { source = c.args.source; rec = c.args.rec } in
    let p = c.in-Err.ensures in
    elim c.match-insert.branch [
      | in-Ok-insert w ↦ rw (w.result-is, ← c.self.view_is) (none_has i.down i.heads i.heads c.key.result.now c.in-Err.place h refl c.key.ensures.value c.self.invariant p.within p.later p.earlier)
      | in-Err-insert w ↦ rw w.result-is tt
    ]

pub returns-after-insert-clause-cause : goal.returns-after-insert-clause-cause
returns-after-insert-clause-cause c =
    let i = c.self.inside in
    let h : Head = record { source = c.args.source; rec = c.args.rec } in
    let p = c.in-Err.ensures in
    elim c.match-insert.branch [
      | in-Ok-insert w ↦ rw w.result-is tt
      | in-Err-insert w ↦ rw (w.result-is, ← c.self.view_is) (none_has i.down i.heads i.heads c.key.result.now c.in-Err.place h refl c.key.ensures.value c.self.invariant p.within p.later p.earlier)
    ]

pub returns-in-Ok-clause-cause : goal.returns-in-Ok-clause-cause
returns-in-Ok-clause-cause c =
    let found = c.in-Ok.ensures.found in
    let head = c.get-held.result.now in
    rw (← c.self.view_is) (c.in-Ok.place, head, found.0, sym (c.get-held.ensures head), (refl, ap (λ (h : Head). h.rec.key) (c.get-held.ensures head) ∙ found.1 head ∙ c.key.ensures.value))
