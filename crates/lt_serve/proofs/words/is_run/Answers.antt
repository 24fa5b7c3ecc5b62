use Rattle.std.proofs.Common.{◌≡◌, string_bytes, sym, ◌∙◌}
use Rattle.std.specs.Prelude.{codes}
use Rattle.std.specs.Cmp.Lexicographic.{bytes_decides}
use Rattle.lt_serve.proofs.SeveralWords.{by_first_and_last}
use Rattle.lt_serve.proofs.words.is_run.Goals as goal

pub returns-then-eq : goal.returns-then-eq
returns-then-eq c =
    let by = by_first_and_last c.args.words.now c.command-item.result c.flag-item.result c.in-len3.len_at_least c.in-len3.len_below c.command-item.is c.flag-item.is in
    let first = bytes_decides c.as_str.result.now (codes "run") in
    let last = bytes_decides c.as_str-then-eq.result.now (codes "--leave") in
    let command : string_bytes c.command-item.result ≡ codes "run" = sym c.as_str.ensures.value ∙ first.0 (sym c.eq.ensures ∙ c.if-eq.true) in (
      λ equal. by.1 (command, sym c.as_str-then-eq.ensures.value ∙ last.0 (sym c.eq-then-eq.ensures ∙ equal)),
      λ session. c.eq-then-eq.ensures ∙ last.1 (c.as_str-then-eq.ensures.value ∙ (by.0 session).1),
    )
