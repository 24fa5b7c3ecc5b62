use Rattle.std.proofs.Common.{◌≡◌, ℕ, ◌+◌, ◌-◌, ◌<◌, ◌≤◌, ◌++◌, Bool, true, false, List, [], length, get_or, sym, subst, ap, ◌∙◌, arith}
use Rattle.std.proofs.lemmas.Grind.{get_or_default_zero}
use Rattle.lt_rec.specs.Closure.{has, IsClosure}
use Rattle.lt_deps.specs.Kept.{StandsFor}
use Rattle.lt_memory.proofs.Numbers.{Collects, collect_none, collect_held, collect_more, all_at}
use Rattle.lt_memory.proofs.going.needed_by.Goals as goal
use Rattle.lt_memory.proofs.going.needed_by.Goals.{then-not-holds+in_ok-more+in_ok-extend_from_slice, else-not-holds}

pub loop-step-init : goal.loop-step-init
loop-step-init c = subst (λ (ns : List ℕ). Collects c.args.deps.now c.args.named.now ns 0) (sym c.new-needed.ensures.items) (collect_none c.args.deps.now c.args.named.now)

pub loop-step-preserved : goal.loop-step-preserved
loop-step-preserved c =
    let named = c.args.named.now in
    let needed = c.loop-step.needed.items in
    let step = c.loop-step.step in
    let place = length named - 1 - step in
    let held : step < length named = omega (arith, c.loop-step-test.true) in
    let at : place + step + 1 ≡ length named = omega (arith, held) in
    let within : place < length named = omega (arith, held) in
    let id : c.index-named-named.result ≡ get_or named place 0 = c.index-named-named.is ∙ get_or_default_zero named place c.index-named-named.result within in
    let Goal : List ℕ → Type 0 = λ ns. Collects c.args.deps.now named ns (step + 1) in
    elim c.if-not-holds.branch [
      | then-not-holds+in_ok-more+in_ok-extend_from_slice w ↦
          let more = w.in_ok-more.more.items in
          let all : c.if-not-holds.needed.items ≡ needed ++ more = ap (λ v. v.items) w.needed-is ∙ w.in_ok-extend_from_slice.ensures.items ∙ ap (λ (xs : List ℕ). needed ++ xs) w.as_slice-then-not-holds.ensures.value in
          subst Goal (sym all) (collect_more c.args.deps.now named needed more step place at
          (λ notes h. subst (λ (n : ℕ). IsClosure notes n more) id (w.in_ok-more.ensures.ok notes h)) c.loop-step.invariant)
      | else-not-holds w ↦
          let in_set : has needed c.index-named-named.result ≡ true = subst (λ (xs : List ℕ). has xs c.index-named-named.result ≡ true) c.as_slice.ensures.value (sym c.holds.ensures ∙ w.if-not-holds.false) in
          subst Goal (ap (λ v. v.items) (sym w.needed-is)) (collect_held c.args.deps.now named needed step place at (subst (λ (n : ℕ). has needed n ≡ true) id in_set) c.loop-step.invariant)
    ]

pub returns-clause-named : goal.returns-clause-named
returns-clause-named c = λ notes h. all_at c.args.named.now c.loop-step.needed.items (λ k held. c.loop-step.invariant.covers notes h k held (omega (arith, c.loop-step-test.false)))
