use Rattle.std.proofs.Common.{◌≡◌, suc, ◌+◌, ◌-◌, ◌++◌, length, List, sym, ap, ◌∙◌, subst, arith, length-append}
use Rattle.lt_turn.specs.declared.view.View.{View}
use Rattle.lt_turn.specs.Lists.{entries, numbered, added, of}
use Rattle.lt_turn.specs.Rule.{Stocked, as_role}
use Rattle.lt_turn.specs.declared.view.Role.TheVariants.{Idle}
use Rattle.lt_turn.proofs.Lists.{length-entries, entries_behind, added_behind, of_behind}
use Rattle.lt_turn.proofs.Allowed.{raises_count, gives_lock}
use Rattle.lt_turn.proofs.Seats.{carries_level}
use Rattle.lt_turn.proofs.turn.Turn.leave.Goals as goal

pub swap-before-requires : goal.swap-before-requires
swap-before-requires g c =
    let v : View g.row.T-Entry.Denot = c.seat.inside.pass.me.0 in
    let list : List g.row.T-Entry.Denot = g.E.Named.list in
    let stands = subst (λ s. g.T.Stands.stands c.args.value (entries s.1.0.seen ++ list)) (sym c.seat.view_is) c.requires.stands in
    let count : c.count-count.result ≡ length (entries v.seen ++ list) = c.count-count.ensures _ stands in
    let long : c.count-count.result ≡ length v.seen + length list =
    (let a = length-append (entries v.seen) list in let b = length-entries v.seen in omega arith) in (
      ap (λ s. s.0) c.seat.view_is ∙ (c.requires.turn ∙ sym c.self.view_is),
      omega (arith, c.self.invariant.0),
      raises_count _ _ _ _ _ c.seat.inside.pass.me list _ (ap (λ s. s.1.0.role) c.seat.view_is ∙ c.requires.holds) long,
    )

pub put-requires-clause-empty : goal.put-requires-clause-empty
put-requires-clause-empty g c =
    let v : View g.row.T-Entry.Denot = c.seat.inside.pass.me.0 in
    let list : List g.row.T-Entry.Denot = g.E.Named.list in
    let stands = subst (λ s. g.T.Stands.stands c.args.value (entries s.1.0.seen ++ list)) (sym c.seat.view_is) c.requires.stands in
    let count : c.count-count.result ≡ length (entries v.seen ++ list) = c.count-count.ensures _ stands in
    let a = length-append (entries v.seen) list in
    let b = length-entries v.seen in
    let s = c.swap-before.ensures.2 in
    let before : c.swap-before.result ≡ length v.seen = s.2 in
    let e = carries_level _ _ v c.seat.inside.pass.me.1 c.seat.invariant.0 (ap (λ s. s.1.0.role) c.seat.view_is ∙ c.requires.holds) in
    let more : added (v.seen ++ numbered v.number list) ≡ added v.seen + length list =
    ap (λ n. added (v.seen ++ numbered n list)) s.3.1 ∙ added_behind s.3.0 v.seen list in
    let sum : e.0.book.total + (c.count-count.result - c.swap-before.result) ≡ added v.seen + length list =
    (let t = e.3 in omega arith) in
    (e.0, s.1 ∙ e.1, e.2, sum ∙ (sym more ∙ ap (λ (u : View g.row.T-Entry.Denot). added u.seen) (sym s.0)))

pub put-requires-clause-stands : goal.put-requires-clause-stands
put-requires-clause-stands g c =
    let v : View g.row.T-Entry.Denot = c.seat.inside.pass.me.0 in
    let list : List g.row.T-Entry.Denot = g.E.Named.list in
    let stands = subst (λ s. g.T.Stands.stands c.args.value (entries s.1.0.seen ++ list)) (sym c.seat.view_is) c.requires.stands in
    subst (g.T.Stands.stands c.args.value) (sym (ap (λ (u : View g.row.T-Entry.Denot). entries u.seen) c.swap-before.ensures.2.0 ∙ entries_behind v.number v.seen list)) stands

pub swap-found-requires : goal.swap-found-requires
swap-found-requires g c =
    let s = c.swap-before.ensures in
    let f = c.put.ensures.full in
    let role = ap (λ (u : View g.row.T-Entry.Denot). u.role) (c.put.ensures.view ∙ s.2.0) ∙ (ap (λ s. s.1.0.role) c.seat.view_is ∙ c.requires.holds) in
    let stock = subst (λ (u : View g.row.T-Entry.Denot). Stocked g.T.Stands.stands (λ h. h.value) (λ h. h.book.total) u.seen f.0) (sym c.put.ensures.view) f.2 in (
      c.put.ensures.turn ∙ (s.0 ∙ (ap (λ s. s.0) c.seat.view_is ∙ (c.requires.turn ∙ sym c.self.view_is))),
      omega (arith, c.self.invariant.0),
      gives_lock _ _ _ _ _ c.put.new.pass.me f.0 role f.1 stock,
    )

pub returns-clause-opening : goal.returns-clause-opening
returns-clause-opening g c =
    let v : View g.row.T-Entry.Denot = c.seat.inside.pass.me.0 in
    let list : List g.row.T-Entry.Denot = g.E.Named.list in
    let s = c.swap-before.ensures.2 in
    let is = c.swap-found.ensures.2.0 ∙ ap (λ (u : View g.row.T-Entry.Denot). as_role Idle u) (c.put.ensures.view ∙ s.0) in
    ap (λ (u : View g.row.T-Entry.Denot). of 0 u.seen) is ∙ (ap (λ n. of 0 (v.seen ++ numbered n list)) s.3.1 ∙ (of_behind 0 (suc s.3.0) v.seen list (λ e. omega arith) ∙ ap (λ s. of 0 s.1.0.seen) c.seat.view_is))
