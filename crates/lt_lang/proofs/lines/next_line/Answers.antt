use Rattle.std.proofs.Common.{◌≡◌, ◌<◌, ◌+◌, ℕ, false, length, take, drop, nat_eq, get_or, sym, ◌∙◌, ap, arith, add-one}
use Rattle.std.proofs.lemmas.Grind.{common_steps}
use Rattle.std.proofs.lemmas.List.{drop-drop}
use Rattle.lt_lang.specs.Lines.{without_cr}
use Rattle.lt_lang.proofs.Cutting.{cut_at, cut_all, not_true}
use Rattle.lt_lang.proofs.lines.next_line.Goals as goal

pub returns-in-Some-clause-cut : goal.returns-in-Some-clause-cut
returns-in-Some-clause-cut c =
    let first = c.in-Some.ensures.0 in
    let none : (k : ℕ) → k < c.in-Some.at → nat_eq (get_or c.args.input.now k 0) 10 ≡ false = λ k h. not_true (nat_eq (get_or c.args.input.now k 0) 10) (first.before k (omega arith) h) in
    let cut = cut_at c.args.input.now c.in-Some.at first.high none c.in-Some.ensures.1 in
    let line : without_cr (take c.in-Some.at c.args.input.now) ≡ c.without_cr.result.now = sym (c.without_cr.ensures ∙ ap without_cr c.split_at.ensures.front) in
    let rest : c.split_at-in-Some.result.1.now ≡ drop (c.in-Some.at + 1) c.args.input.now =
    c.split_at-in-Some.ensures.back ∙ ap (drop 1) c.split_at.ensures.back ∙ drop-drop 1 c.in-Some.at c.args.input.now in
    rw (← line, rest, add-one) cut

pub returns-in-None-2-clause-cut : goal.returns-in-None-2-clause-cut
returns-in-None-2-clause-cut c =
    let none : (k : ℕ) → k < length c.args.input.now → nat_eq (get_or c.args.input.now k 0) 10 ≡ false = λ k h. not_true (nat_eq (get_or c.args.input.now k 0) 10) (c.in-None.ensures k (omega arith) h) in
    let cut = cut_all c.args.input.now (sym c.is_empty.ensures ∙ c.if-is_empty.false) none in
    grind (arith, common_steps, cut)
