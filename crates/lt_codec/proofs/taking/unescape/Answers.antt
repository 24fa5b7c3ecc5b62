use Rattle.std.proofs.Common.{◌+◌, List, ℕ, Bool, false, drop, get_or, ap, sym, ◌∙◌, append-nil}
use Rattle.std.specs.Prelude.{Some}
use Rattle.lt_codec.specs.Reading.{unescaped}
use Rattle.lt_codec.proofs.Steps.{on_end, on_fault, on_wait, put_more, none_left, cut_byte, prefixed}
use Rattle.lt_codec.proofs.taking.unescape.Goals as goal
use Rattle.lt_codec.proofs.taking.unescape.Goals.{in-Put+in_ok-push-in-Put, in-Wait}

pub returns-in-End-clause-exact : goal.returns-in-End-clause-exact
returns-in-End-clause-exact c =
    let left = c.args.left.now in
    let at = c.loop-at.at in
    let out = c.loop-at.bytes.items in
    let rest = drop (at + 1) left in
    let cut = cut_byte left at c.loop-at-test.true in
    ap (λ (l : List ℕ). Some (l, rest)) (c.from_vec.ensures ∙ sym (append-nil out)) ∙ sym (ap (prefixed out) (ap (unescaped c.loop-at.zero) cut ∙ on_end c.loop-at.zero (get_or left at 0) rest c.in-End.ensures)) ∙ c.loop-at.invariant

pub returns-in-Fault-clause-exact : goal.returns-in-Fault-clause-exact
returns-in-Fault-clause-exact c =
    let left = c.args.left.now in
    let at = c.loop-at.at in
    let rest = drop (at + 1) left in
    let cut = cut_byte left at c.loop-at-test.true in
    sym (ap (prefixed c.loop-at.bytes.items) (ap (unescaped c.loop-at.zero) cut ∙ on_fault c.loop-at.zero (get_or left at 0) rest c.in-Fault.ensures)) ∙ c.loop-at.invariant

pub returns-clause-exact : goal.returns-clause-exact
returns-clause-exact c = sym (ap (prefixed c.loop-at.bytes.items) (none_left c.loop-at.zero c.args.left.now c.loop-at.at c.loop-at-test.false)) ∙ c.loop-at.invariant

pub loop-at-preserved : goal.loop-at-preserved
loop-at-preserved c =
    let left = c.args.left.now in
    let at = c.loop-at.at in
    let out = c.loop-at.bytes.items in
    let rest = drop (at + 1) left in
    let cut = cut_byte left at c.loop-at-test.true in
    elim c.match-step_of.branch [
      | in-Put+in_ok-push-in-Put w ↦
          ap (λ (v : _). prefixed v.items (unescaped c.match-step_of.zero rest)) w.bytes-is ∙ ap (λ (z : Bool). prefixed w.push.new.self.items (unescaped z rest)) w.zero-is
          ∙ ap (λ (l : List ℕ). prefixed l (unescaped false rest)) w.in_ok-push-in-Put.ensures.items
          ∙ sym (ap (λ (r : List ℕ). prefixed out (unescaped c.loop-at.zero r)) cut ∙ put_more out c.loop-at.zero (get_or left at 0) w.in-Put.byte rest w.in-Put.ensures) ∙ c.loop-at.invariant
      | in-Wait w ↦
          ap (λ (v : _). prefixed v.items (unescaped c.match-step_of.zero rest)) w.bytes-is ∙ ap (λ (z : Bool). prefixed out (unescaped z rest)) w.zero-is
          ∙ sym (ap (prefixed out) (ap (unescaped c.loop-at.zero) cut ∙ on_wait c.loop-at.zero (get_or left at 0) rest w.in-Wait.ensures)) ∙ c.loop-at.invariant
    ]
