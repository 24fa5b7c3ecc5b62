use Rattle.std.proofs.Common.{◌≡◌, ◌≤◌, ℕ, false, Result, Ok, Err, List, length, insert, remove, sym, ap, subst, ◌∙◌, arith}
use Rattle.std.specs.Prelude.{OnOk, is_err}
use Rattle.std.specs.Arc.{arc_value}
use Rattle.std.proofs.lemmas.List.Edits.{length-insert}
use Rattle.lt_rec.specs.Record.{Record}
use Rattle.lt_mem.specs.Lead.{IsLead}
use Rattle.lt_mem.specs.Pieces.{AreWithin, first_key}
use Rattle.lt_mem.proofs.Leads.{lead_put}
use Rattle.lt_mem.proofs.Beside.{leads_put, put_back}
use Rattle.lt_mem.proofs.Kept.{times_put}
use Rattle.lt_mem.proofs.piece.Piece.insert.Goals as goal

-- what a call that did not fail ensures
done : {T E : Type 0} (r : Result T E) (P : Type 0) → is_err r ≡ false → OnOk r P → P
done (Ok t) P e p = p
done (Err x) P e p = absurd (cc)

pub remove-requires : goal.remove-requires
remove-requires c =
    let a = c.args in
    let xs = (arc_value c.self.inside.recs).items in
    let ls = c.self.inside.leads.items in
    let within : a.place ≤ length xs = subst (λ (ys : List Record). a.place ≤ length ys) (sym c.self.view_is) c.requires.within in
    let fits : a.place ≤ length ls = (let same = c.self.invariant.all.count in omega arith) in
    let put : c.place_in_vec.new.items.items ≡ insert ls a.place a.lead = done c.place_in_vec.result (c.place_in_vec.new.items.items ≡ insert ls a.place a.lead) (sym c.is_err.ensures.value ∙ c.if-is_err.false) c.place_in_vec.ensures.ok in
    let size = length-insert ls a.place a.lead fits in
    let long = ap length put in
    omega (arith, size, long, fits)

pub invariant_of-self-in-Ok : goal.invariant_of-self-in-Ok
invariant_of-self-in-Ok c =
    let a = c.args in
    let was = c.self.invariant in
    let xs = (arc_value c.self.inside.recs).items in
    let ls = c.self.inside.leads.items in
    let lead = a.lead in
    let new = c.lead_with-self-inside.result in
    let within : a.place ≤ length xs = subst (λ (ys : List Record). a.place ≤ length ys) (sym c.self.view_is) c.requires.within in
    let put : c.place_in_vec.new.items.items ≡ insert ls a.place lead = done c.place_in_vec.result (c.place_in_vec.new.items.items ≡ insert ls a.place lead) (sym c.is_err.ensures.value ∙ c.if-is_err.false) c.place_in_vec.ensures.ok in
    record {
      first = subst (λ (ys : List Record). IsLead (first_key ys) new) (sym c.in-Ok.ensures.ok)
          (lead_put xs a.place a.rec c.self.inside.lead new within was.first (λ e. subst (IsLead a.rec.key) (sym (c.lead_with-self-inside.ensures.first e)) c.requires.lead) c.lead_with-self-inside.ensures.later);
      all = rw (c.in-Ok.ensures.ok, put) (leads_put xs ls a.place a.rec lead within was.all c.requires.lead);
      times = rw (c.in-Ok.ensures.ok, c.min-self-inside.ensures, c.max-self-inside.ensures, c.ts-ts.ensures.value) (times_put xs a.place a.rec c.self.inside.earliest c.self.inside.latest within was.times);
    }

pub invariant_of-self-in-Err : goal.invariant_of-self-in-Err
invariant_of-self-in-Err c =
    let a = c.args in
    let was = c.self.invariant in
    let xs = (arc_value c.self.inside.recs).items in
    let ls = c.self.inside.leads.items in
    let lead = a.lead in
    let within : a.place ≤ length xs = subst (λ (ys : List Record). a.place ≤ length ys) (sym c.self.view_is) c.requires.within in
    let put : c.place_in_vec.new.items.items ≡ insert ls a.place lead = done c.place_in_vec.result (c.place_in_vec.new.items.items ≡ insert ls a.place lead) (sym c.is_err.ensures.value ∙ c.if-is_err.false) c.place_in_vec.ensures.ok in
    let back : c.remove.new.self.items ≡ ls = c.remove.ensures.items ∙ ap (λ (ms : List ℕ). remove ms a.place) put ∙ put_back ls a.place lead (omega (arith, within, was.all.count)) in
    record {
      first = subst (λ (ys : List Record). IsLead (first_key ys) c.self.inside.lead) (sym c.in-Err.ensures.unchanged) was.first;
      all = rw (c.in-Err.ensures.unchanged, back) was.all;
      times = subst (λ (ys : List Record). AreWithin ys c.self.inside.earliest c.self.inside.latest) (sym c.in-Err.ensures.unchanged) was.times;
    }
