use Rattle.std.proofs.Common.{◌≡◌, ℕ, ◌+◌, ◌≤◌, List, max, sym, ap, subst, ◌∙◌, arith}
use Rattle.lt_rec.specs.Record.{IsRecord}
use Rattle.lt_period.specs.Moments.{period_at}
use Rattle.lt_deps.specs.Kept.{StandsFor}
use Rattle.lt_state.specs.State.{Filled}
use Rattle.lt_state.specs.Flushes.{AddsRecord}
use Rattle.lt_memory.specs.Tablets.{Tablets, AreHeld, NoneHasKey}
use Rattle.lt_memory.proofs.Inserted.{have_time, took_adds, took_held, took_number}
use Rattle.lt_memory.proofs.memory.Memory.insert.Goals as goal

pub take-requires : goal.take-requires
take-requires c = record {
  timed = have_time c.self.inside.tablets.items c.self.inside.next c.self.invariant c.args.rec (subst IsRecord c.rec.view_is c.rec.invariant.lawful);
}

pub overflow_add-id-inside : goal.overflow_add-id-inside
overflow_add-id-inside c =
    let i = c.self.inside in
    let low : c.in-Ok.id ≤ i.next = took_number i.tablets.items c.take.new.tablets.items i.next (period_at c.args.rec.ts c.args.now) c.in-Ok.id c.args.rec c.args.now c.self.invariant c.in-Ok.ensures.ok in
    let next : i.next ≡ c.args.self.now.next = ap (λ (v : Tablets). v.next) c.self.view_is in
    omega (arith, c.id.view_is, c.requires.numbered)

pub invariant_of-self-in-Ok : goal.invariant_of-self-in-Ok
invariant_of-self-in-Ok c =
    let i = c.self.inside in
    let held = took_held i.tablets.items c.take.new.tablets.items i.next (period_at c.args.rec.ts c.args.now) c.in-Ok.id c.args.rec c.args.now c.self.invariant c.take.ensures.lawful c.take.ensures.within c.in-Ok.ensures.ok in
    let next : max i.next (c.in-Ok.id + 1) ≡ c.max-self-inside.result = ap (λ (n : ℕ). max i.next (n + 1)) (sym c.id.view_is) ∙ sym c.max-self-inside.ensures in
    subst (λ (n : ℕ). AreHeld c.take.new.tablets.items n) next held

pub returns-in-Ok-clause-added : goal.returns-in-Ok-clause-added
returns-in-Ok-clause-added c =
    let i = c.self.inside in
    subst (λ (v : Tablets). AddsRecord v.tablets c.take.new.tablets.items c.in-Ok.id c.args.rec) c.self.view_is
    (took_adds i.tablets.items c.take.new.tablets.items i.next (period_at c.args.rec.ts c.args.now) c.in-Ok.id c.args.rec c.args.now c.in-Ok.ensures.ok)

pub returns-in-Ok-clause-tablets : goal.returns-in-Ok-clause-tablets
returns-in-Ok-clause-tablets c =
    let i = c.self.inside in
    (took_held i.tablets.items c.take.new.tablets.items i.next (period_at c.args.rec.ts c.args.now) c.in-Ok.id c.args.rec c.args.now c.self.invariant c.take.ensures.lawful c.take.ensures.within c.in-Ok.ensures.ok).are

pub returns-in-Ok-clause-noted : goal.returns-in-Ok-clause-noted
returns-in-Ok-clause-noted c = λ notes h.
    c.note.ensures.noted notes (c.ready.ensures.stands notes (subst (λ (v : Tablets). StandsFor v.dependencies notes) (sym c.self.view_is) h))

pub returns-in-Ok-clause-distinct : goal.returns-in-Ok-clause-distinct
returns-in-Ok-clause-distinct c = subst (λ (v : Tablets). NoneHasKey v.tablets c.args.rec.key) c.self.view_is c.in-Ok.ensures.distinct

pub returns-in-Ok-clause-number : goal.returns-in-Ok-clause-number
returns-in-Ok-clause-number c =
    let i = c.self.inside in
    let low : c.in-Ok.id ≤ i.next = took_number i.tablets.items c.take.new.tablets.items i.next (period_at c.args.rec.ts c.args.now) c.in-Ok.id c.args.rec c.args.now c.self.invariant c.in-Ok.ensures.ok in
    let next : i.next ≡ c.args.self.now.next = ap (λ (v : Tablets). v.next) c.self.view_is in
    omega arith
