use Rattle.std.proofs.Common.{◌≡◌, ◌∙◌, ap, sym, ◌+◌}
use Rattle.std.specs.Prelude.{map, List}
use Rattle.std.specs.Arc.{arc_value}
use Rattle.lt_rec.specs.declared.listed.Listed.{Listed}
use Rattle.lt_state.specs.State.{Core, listing}
use Rattle.lt_core.specs.Parts.{entry_of, sealed}
use Rattle.lt_core.proofs.Lists.{map_twice}
use Rattle.lt_core.proofs.Stones.{stone_from}
use Rattle.lt_core.proofs.state.Core.stone_under.Goals as goal

pub new-requires : goal.new-requires
new-requires g c =
    let is : c.from_vec.result ≡ map (λ t. t.listed) (map (λ tablet. sealed (arc_value tablet)) c.self.inside.listed.items) =
    c.from_vec.ensures ∙ c.in_ok-listing.ensures ∙ ap (map (λ tablet. entry_of (arc_value tablet))) c.as_slice.ensures.value ∙ sym (map_twice (λ tablet. sealed (arc_value tablet)) (λ t. t.listed) c.self.inside.listed.items) in
    record { lawful = stone_from _ c.args.self.now c.args.schemas c.from_vec.result c.self.view_is is c.self.invariant c.first-first.ensures.lawful c.requires.room }

pub returns-clause-parts : goal.returns-clause-parts
returns-clause-parts g c =
    let is : c.from_vec.result ≡ map (λ t. t.listed) (map (λ tablet. sealed (arc_value tablet)) c.self.inside.listed.items) =
    c.from_vec.ensures ∙ c.in_ok-listing.ensures ∙ ap (map (λ tablet. entry_of (arc_value tablet))) c.as_slice.ensures.value ∙ sym (map_twice (λ tablet. sealed (arc_value tablet)) (λ t. t.listed) c.self.inside.listed.items) in
    c.new.ensures.parts
    ∙ ap (λ (ls : List Listed). record { kept = c.self.inside.kept; low = c.self.inside.low; ttl = c.self.inside.ttl; next_file = c.self.inside.next_file + 1; schemas = c.args.schemas; tablets = ls }) is
    ∙ ap (λ (x : Core). record { kept = x.kept; low = x.low; ttl = x.ttl; next_file = x.next_file + 1; schemas = c.args.schemas; tablets = listing x }) c.self.view_is
