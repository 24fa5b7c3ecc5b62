use Rattle.std.proofs.Common.{◌∙◌}
use Rattle.lt_bloom.proofs.Filters.{is_member}
use Rattle.lt_bloom.proofs.filter.Filter.may.Goals as goal

pub returns-clause-member : goal.returns-clause-member
returns-clause-member c = λ hashes e member. c.are_places_set.ensures.exact ∙ is_member c.as_slice.result.now hashes c.args.hash (c.as_slice.ensures ∙ (c.self.view_is ∙ e)) member
