use Rattle.std.proofs.Common.{◌≡◌, List, ℕ, string_bytes, map, sym, ◌∙◌, subst, Some, None}
use Rattle.std.specs.Prelude.{codes}
use Rattle.std.specs.Cmp.Lexicographic.{bytes_decides}
use Rattle.lt_serve.specs.Words.{IsCreation, IsTtl}
use Rattle.lt_serve.proofs.SeveralWords.{makes_by_three, makes_by_four}
use Rattle.lt_serve.proofs.words.creation_of.Goals as goal

pub returns-in-len3-clause-read : goal.returns-in-len3-clause-read
returns-in-len3-clause-read c =
    let command : string_bytes c.command-item.result ≡ codes "create" = sym c.as_str.ensures.value ∙ (bytes_decides c.as_str.result.now (codes "create")).0 (sym c.eq.ensures ∙ c.if-eq.true) in
    subst (λ (text : List ℕ). IsCreation (map string_bytes c.args.words.now) text None) (sym c.as_str-in-len3.ensures.value)
    (makes_by_three c.args.words.now c.command-item.result c.schema-item.result c.in-len3.len_at_least c.in-len3.len_below c.command-item.is c.schema-item.is command)

pub returns-in_ok-ttl_of-in-len4-clause-read : goal.returns-in_ok-ttl_of-in-len4-clause-read
returns-in_ok-ttl_of-in-len4-clause-read c =
    let first = c.command-item-then-words-lt5.result in
    let ttl = c.in_ok-ttl_of-in-len4.field-0 in
    let command : string_bytes first ≡ codes "create" = sym c.as_str-then-words-lt5.ensures.value ∙ (bytes_decides c.as_str-then-words-lt5.result.now (codes "create")).0 (sym c.eq-then-words-lt5.ensures ∙ c.if-eq-2.true) in
    let is : IsTtl (string_bytes c.word-item.result) ttl = subst (λ (word : List ℕ). IsTtl word ttl) c.as_str-in-len4-2.ensures.value c.in_ok-ttl_of-in-len4.ensures.read in
    subst (λ (text : List ℕ). IsCreation (map string_bytes c.args.words.now) text (Some ttl)) (sym c.as_str-in-len4.ensures.value)
    (makes_by_four c.args.words.now first c.schema-item-then-words-lt5.result c.word-item.result ttl c.in-len4.len_at_least c.in-len4.len_below
    c.command-item-then-words-lt5.is c.schema-item-then-words-lt5.is c.word-item.is command is)
