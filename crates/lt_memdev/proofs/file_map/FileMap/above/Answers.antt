use Rattle.std.proofs.Common.{arith, IsSome, sym, subst, refl, ◌∙◌, ◌<◌, ◌^◌}
use Rattle.lt_io.specs.Directory.{file_at}
use Rattle.lt_memdev.proofs.Numbers.{above_last, found}
use Rattle.lt_memdev.proofs.file_map.FileMap.above.Goals as goal

pub overflow_add-result : goal.overflow_add-result
overflow_add-result c =
    let last = c.in-Some.number.now in
    let there : IsSome (file_at c.args.self.now last) = rw (← c.self.view_is) (subst IsSome (sym (sym (found last c.self.inside.files.entries) ∙ c.in-Some.ensures.value)) refl) in
    let below : last < 2 ^ 62 = c.requires last there in
    omega arith

pub returns-in-Some : goal.returns-in-Some
returns-in-Some c = rw (← c.self.view_is) (above_last c.self.inside.files.entries c.in-Some.number.now _ c.in-Some.ensures.value c.in-Some.ensures.greatest)
