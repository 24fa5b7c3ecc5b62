use Rattle.std.proofs.Common.{◌≡◌, ◌∙◌, ap, sym, subst}
use Rattle.std.specs.Prelude.{map}
use Rattle.std.specs.Arc.{arc_value}
use Rattle.std.proofs.lemmas.Result.{IfOk-weaker}
use Rattle.lt_rec.specs.declared.listed.Listed.{Listed}
use Rattle.std.specs.Prelude.{List, Bool}
use Rattle.lt_model.specs.Step.{HoldsDurable}
use Rattle.lt_trace.specs.Elements.{history_of}
use Rattle.lt_state.specs.State.{Core, listing}
use Rattle.lt_state.specs.Stands.{StandsFor}
use Rattle.lt_core.specs.Parts.{entry_of, sealed}
use Rattle.lt_core.proofs.Lists.{map_twice}
use Rattle.lt_core.proofs.Stood.{listing_holds}
use Rattle.lt_core.proofs.state.Core.listing.Goals as goal

pub returns-clause-value : goal.returns-clause-value
returns-clause-value g c =
    let is : map (λ tablet. entry_of (arc_value tablet)) c.as_slice.result.now ≡ listing c.args.self.now =
    ap (map (λ tablet. entry_of (arc_value tablet))) c.as_slice.ensures.value ∙ sym (map_twice (λ tablet. sealed (arc_value tablet)) (λ t. t.listed) c.self.inside.listed.items) ∙ ap (λ (x : Core). listing x) c.self.view_is in
    IfOk-weaker c.listing_of.result _ _ (λ all all_is. all_is ∙ is) c.listing_of.ensures

pub returns-clause-counts : goal.returns-clause-counts
returns-clause-counts g c = λ tells s stands.
    let is : map (λ tablet. entry_of (arc_value tablet)) c.as_slice.result.now ≡ listing c.args.self.now =
    ap (map (λ tablet. entry_of (arc_value tablet))) c.as_slice.ensures.value ∙ sym (map_twice (λ tablet. sealed (arc_value tablet)) (λ t. t.listed) c.self.inside.listed.items) ∙ ap (λ (x : Core). listing x) c.self.view_is in
    IfOk-weaker c.listing_of.result _ _
    (λ all all_is. subst (λ (ls : List Listed). HoldsDurable (history_of s) ls) (sym (all_is ∙ is)) (listing_holds c.args.self.now s (subst (λ (b : Bool). StandsFor b c.args.self.now s) tells stands)))
    c.listing_of.ensures
