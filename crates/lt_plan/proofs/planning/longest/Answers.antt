use Rattle.std.proofs.Common.{◌≡◌, ◌+◌, ◌++◌, [], ◌∷◌, take, get_or, refl, ap, arith}
use Rattle.std.proofs.lemmas.List.{take_more}
use Rattle.std.proofs.lemmas.List.Elements.{All-more}
use Rattle.std.proofs.lemmas.List.Sums.{sum_by-append}
use Rattle.lt_plan.specs.declared.tablets.Weigh.{Weigh}
use Rattle.lt_plan.specs.Merging.{IsAtHome, bytes_of}
use Rattle.lt_plan.proofs.Pairs.{bytes_of-cons}
use Rattle.lt_plan.proofs.planning.longest.Goals as goal

pub loop-at-preserved : goal.loop-at-preserved
loop-at-preserved c =
    let list = c.args.list.now in
    let at = c.loop-at.at in
    let none : Weigh = record { file = 0; low = 0; high = 0; bytes = 0 } in
    let w = get_or list at none in
    let more : bytes_of (take (at + 1) list) ≡ bytes_of (take at list ++ w ∷ []) = ap bytes_of (take_more list at none (omega arith)) in
    let sum : bytes_of (take at list ++ w ∷ []) ≡ bytes_of (take at list) + bytes_of (w ∷ []) = sum_by-append _ (take at list) (w ∷ []) in
    let last = bytes_of-cons w [] in
    let rest : bytes_of [] ≡ 0 = refl in
    record {
      at_home = All-more (IsAtHome c.args.now c.args.home) list at none (omega arith) c.loop-at.invariant.at_home (c.if-not-is_at_home.ensures.0 refl);
      counted = omega arith;
      within = omega arith;
    }
