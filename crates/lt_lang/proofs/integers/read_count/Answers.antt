use Rattle.std.proofs.Common.{◌≡◌, ℕ, List, Option, Some, None, sym, ◌∙◌}
use Rattle.std.specs.Prelude.{IfSome}
use Rattle.lt_lang.specs.Numbers.{IsCount}
use Rattle.lt_lang.specs.Parsing.{count_of}
use Rattle.lt_lang.specs.Reading.{Finds}
use Rattle.lt_lang.proofs.WordForms.{count_of-read, count_of-only}
use Rattle.lt_lang.proofs.integers.read_count.Goals as goal

found : (word : List ℕ) (result : Option ℕ) → Finds (λ x. x) result (count_of word) → count_of word ≡ result
found word None finds = finds
found word (Some n) finds = finds

read : (word : List ℕ) (result : Option ℕ) → count_of word ≡ result → IfSome result (IsCount word)
read word None e = tt
read word (Some n) e = count_of-read word n e

pub returns-clause-read : goal.returns-clause-read
returns-clause-read c = read c.args.word.now c.count_of.result (found c.args.word.now c.count_of.result c.count_of.ensures)

pub returns-clause-only : goal.returns-clause-only
returns-clause-only c = λ n is. sym (found c.args.word.now c.count_of.result c.count_of.ensures) ∙ count_of-only c.args.word.now n is
